-- Each sub has its block.
use Rattle.std.proofs.Common.{◌≡◌, ℕ, zero, suc, ◌+◌, ◌<◌, ◌==◌, Bool, true, false, if◌then◌else◌, List, [], ◌∷◌, ◌++◌, length, map, get_or}
use Rattle.std.proofs.Common.{refl, sym, subst, arith}
use Rattle.std.proofs.lemmas.Bool.Decides.{nat_tests}
use Rattle.std.specs.List.{AllByRecursion}
use Rattle.pfc_tree.specs.trees.Stmts.{body}
use Rattle.pfc_tree.specs.trees.Parts.{PartTree, PartTrees, SubTree, ModuleTree, ProcessTree, ProgramTree, consts, types, vars, sub_part, monitor, resource}
use Rattle.pfc_tree.specs.trees.Parts.{process_part, no_parts, more_parts, sub, the_module, process}
use Rattle.pfc_types.specs.Scopes.{Level, scope_at, here}
use Rattle.pfc_types.specs.Blocks.{State, sub_at, no_sub}
use Rattle.pfc_types.specs.declared.heads.SubHead.{SubHead}
use Rattle.pfc_types.specs.rules.Bodies.{env_at, around_sub, around_guard, passed, passed_part, passed_groups, passed_entries, part_scopes}
use Rattle.pfc_types.specs.rules.Bodies.{parts_scopes, level}
use Rattle.pfc_types.specs.rules.Whole.{finished}
use Rattle.pfc_semantics.specs.Layouts.{sub_layout_at}
use Rattle.pfc_semantics.specs.Programs.{Block, block_of, guard_of, found_block, block_at, part_blocks, parts_blocks, sub_blocks, module_blocks, process_blocks}
use Rattle.pfc_semantics.specs.Programs.{program_of}
use Rattle.pfc_guard_laws.proofs.Lists.{all_append}
use Rattle.pfc_image_cells.specs.Subs.{part_subs, parts_subs, sub_subs, module_subs, process_subs}
use Rattle.pfc_image_cells.proofs.Subs.{program_subs}
use Rattle.pfc_ordered_programs.proofs.Lists.{all_weaker}

-- one of the blocks has this scope
abbrev HasBlock : List Block → ℕ → Type 0
HasBlock bs j = (other : Block) → (found_block bs j other).scope ≡ j

has_one : (b : Block) → HasBlock (b ∷ []) b.scope
has_one b other = by (b.scope == b.scope) refl
  where
    by : (r : Bool) → (b.scope == b.scope) ≡ r → (if r then b else other).scope ≡ b.scope
    by true e = refl
    by false e = absurd (grind (arith, nat_tests, e))

has_left : (xs ys : List Block) (j : ℕ) → HasBlock xs j → HasBlock (xs ++ ys) j
has_left [] ys j has other = has (found_block ys j other)
has_left (x ∷ xs) ys j has other = by (x.scope == j) has (λ h. has_left xs ys j h other)
  where
    by : (r : Bool) → ((o : Block) → (if r then x else found_block xs j o).scope ≡ j)
        → (HasBlock xs j → (found_block (xs ++ ys) j other).scope ≡ j) → (if r then x else found_block (xs ++ ys) j other).scope ≡ j
    by true h further = h other
    by false h further = further h

has_right : (xs ys : List Block) (j : ℕ) → HasBlock ys j → HasBlock (xs ++ ys) j
has_right [] ys j has other = has other
has_right (x ∷ xs) ys j has other = by (x.scope == j) refl (has_right xs ys j has other)
  where
    by : (r : Bool) → (x.scope == j) ≡ r → (found_block (xs ++ ys) j other).scope ≡ j → (if r then x else found_block (xs ++ ys) j other).scope ≡ j
    by true e further = grind (arith, nat_tests)
    by false e further = further

all_left : (xs ys : List Block) (js : List ℕ) → AllByRecursion (HasBlock xs) js → AllByRecursion (HasBlock (xs ++ ys)) js
all_left xs ys js all = all_weaker (HasBlock xs) (HasBlock (xs ++ ys)) (λ j has. has_left xs ys j has) js all

all_right : (xs ys : List Block) (js : List ℕ) → AllByRecursion (HasBlock ys) js → AllByRecursion (HasBlock (xs ++ ys)) js
all_right xs ys js all = all_weaker (HasBlock ys) (HasBlock (xs ++ ys)) (λ j has. has_right xs ys j has) js all

module _ (s : State) where
  mutual
    part_has :
        (in_process : Bool) (i n : ℕ) (outer : List Level) (next : ℕ) (q : PartTree)
        → AllByRecursion (HasBlock (part_blocks s in_process i n outer next q)) (part_subs next q)
    part_has in_process i n outer next (consts items) = tt
    part_has in_process i n outer next (types items) = tt
    part_has in_process i n outer next (vars vs) = tt
    part_has in_process i n outer next (sub_part b) = sub_has in_process i n outer next b
    part_has in_process i n outer next (monitor m) = module_has i n outer next m
    part_has in_process i n outer next (resource m) = module_has i n outer next m
    part_has in_process i n outer next (process_part q) = process_has i n outer next q

    parts_have :
        (in_process : Bool) (i n : ℕ) (outer : List Level) (next : ℕ) (qs : PartTrees)
        → AllByRecursion (HasBlock (parts_blocks s in_process i n outer next qs)) (parts_subs next qs)
    parts_have in_process i n outer next no_parts = tt
    parts_have in_process i n outer next (more_parts q qs) =
        let further = passed_part (scope_at s.blocks.scopes i) n q in
        let xs = part_blocks s in_process i n outer next q in
        let ys = parts_blocks s in_process i further outer (next + part_scopes q) qs in
        all_append (HasBlock (xs ++ ys)) (part_subs next q) (parts_subs (next + part_scopes q) qs)
        (all_left xs ys (part_subs next q) (part_has in_process i n outer next q))
        (all_right xs ys (parts_subs (next + part_scopes q) qs) (parts_have in_process i further outer (next + part_scopes q) qs))

    sub_has :
        (in_process : Bool) (i n : ℕ) (outer : List Level) (next : ℕ) (q : SubTree)
        → AllByRecursion (HasBlock (sub_blocks s in_process i n outer next q)) (sub_subs next q)
    sub_has in_process i n outer next (sub x gs kind ps (body ss from to) p) =
        let count = passed_groups (scope_at s.blocks.scopes next) 0 gs in
        let around = level i (passed (scope_at s.blocks.scopes i) n x) ∷ outer in
        let guard = guard_of (env_at s (level next count ∷ level i n ∷ outer) (around_guard i)) kind in
        let xs = parts_blocks s in_process next count around (next + 1) ps in
        let own =
        block_of next i (env_at s (here s.blocks.scopes next around) (around_sub in_process kind)) (next + 1 + parts_scopes ps) (body ss from to)
        (sub_layout_at s.blocks next) 0 guard in (
          has_right xs (own ∷ []) next (has_one own),
          all_left xs (own ∷ []) (parts_subs (next + 1) ps) (parts_have in_process next count around (next + 1) ps),
        )

    module_has :
        (i n : ℕ) (outer : List Level) (next : ℕ) (q : ModuleTree)
        → AllByRecursion (HasBlock (module_blocks s i n outer next q)) (module_subs next q)
    module_has i n outer next (the_module x exports ps b last p) = parts_have false next 0 (level i n ∷ outer) (next + 1) ps

    process_has :
        (i n : ℕ) (outer : List Level) (next : ℕ) (q : ProcessTree)
        → AllByRecursion (HasBlock (process_blocks s i n outer next q)) (process_subs next q)
    process_has i n outer next (process many x gs es ps b p) =
        let own = scope_at s.blocks.scopes next in
        let count = passed_entries own (passed_groups own 0 gs) es in
        let around = level i (passed (scope_at s.blocks.scopes i) n x) ∷ outer in
        all_left (parts_blocks s true next count around (next + 1) ps) _ (parts_subs (next + 1) ps) (parts_have true next count around (next + 1) ps)

scope_found : (bs : List Block) (heads : List SubHead) (n : ℕ) (d : SubHead) → AllByRecursion (HasBlock bs) (map (λ (h : SubHead). h.scope) heads)
    → n < length heads → HasBlock bs (get_or heads n d).scope
scope_found bs [] n d all low = absurd (omega (arith, low))
scope_found bs (h ∷ heads) zero d all low = all.0
scope_found bs (h ∷ heads) (suc n) d all low = scope_found bs heads n d all.1 (omega (arith, low))

pub sub_found : (t : ProgramTree) (n : ℕ) → n < length (finished t).blocks.subs
    → (block_at (program_of t) (sub_at (finished t).blocks n).scope).scope ≡ (sub_at (finished t).blocks n).scope
sub_found t n low =
    let bs = (program_of t).blocks in
    scope_found bs (finished t).blocks.subs n no_sub
    (subst (λ (l : List ℕ). AllByRecursion (HasBlock bs) l) (sym (program_subs t)) (parts_have (finished t) false 0 0 [] 1 t.parts)) low
    (program_of t).main
