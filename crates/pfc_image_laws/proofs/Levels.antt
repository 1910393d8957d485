-- A level is reached by static links: by induction over the parts of a program.
use Rattle.std.proofs.Common.{◌≡◌, ℕ, ◌+◌, ◌<◌, ◌≤◌, zero, suc, ◌==◌, Bool, true, false, List, [], ◌∷◌, ◌++◌, length, take, drop, ◌||◌, get_or, position}
use Rattle.std.proofs.Common.{is_some, unwrap_or, Option, Some, None, cond, if◌then◌else◌, refl, ap, sym, ◌∙◌, arith, not, nat_lt, subst}
use Rattle.std.specs.List.{All, position_or_len}
use Rattle.std.proofs.lemmas.Bool.Decides.{nat_tests}
use Rattle.std.proofs.lemmas.List.Elements.{All-nil, All-cons}
use Rattle.std.proofs.lemmas.List.Quantifiers.{position-Some}
use Rattle.pfc_tree.specs.trees.Stmts.{BodyTree, body}
use Rattle.pfc_tree.specs.trees.Parts.{PartTree, PartTrees, SubTree, ModuleTree, ProcessTree, ProgramTree, consts, types, vars, sub_part, monitor, resource}
use Rattle.pfc_tree.specs.trees.Parts.{process_part, no_parts, more_parts, sub, the_module, process}
use Rattle.pfc_tree.specs.forget.Parts.{forget_part, forget_parts, forget_sub, forget_module, forget_process, forget_program}
use Rattle.pfc_tree.specs.lawful.Parts.{Home, of_program, of_resource, of_other, HoldsModules, IsLawfulPart, AreLawfulParts, IsLawfulSub, IsLawfulModule}
use Rattle.pfc_tree.specs.lawful.Parts.{IsLawfulProcess, IsLawful}
use Rattle.pfc_types.specs.Scopes.{Level, scope_at, here}
use Rattle.pfc_types.specs.Blocks.{Blocks, State}
use Rattle.pfc_types.specs.rules.Whole.{finished}
use Rattle.pfc_types.specs.rules.Expressions.{Env}
use Rattle.pfc_types.specs.rules.Statements.{body_scopes}
use Rattle.pfc_types.specs.rules.Bodies.{env_at, around_guard, around_sub, around_process, level, passed, passed_part, passed_groups, passed_entries}
use Rattle.pfc_types.specs.rules.Bodies.{part_scopes, parts_scopes, sub_scopes, module_scopes, process_scopes}
use Rattle.pfc_semantics.specs.Programs.{Guard, Block, Program, block_of, guard_of, env_of_main, found_block, part_blocks, parts_blocks, sub_blocks}
use Rattle.pfc_semantics.specs.Programs.{module_blocks, process_blocks, program_of}
use Rattle.pfc_semantics.specs.Layouts.{Layout, main_layout, sub_layout_at, process_layout}
use Rattle.pfc_translation.specs.Sites.{module_of, is_mains, linked, level_of, links_from}
use Rattle.pfc_translation.specs.Selects.{first_of}
use Rattle.pfc_types.specs.declared.heads.ModuleHead.{ModuleHead}
use Rattle.pfc_image_laws.specs.Modules.{modules_from}
use Rattle.pfc_image_laws.proofs.Modules.{found_there, program_modules}
use Rattle.std.proofs.lemmas.List.{append_assoc}
use Rattle.pfc_image_laws.specs.Levels.{held_with, linked_to, links_up, sees, IsReached}

-- ## Looking up a block by its scope

lookup : List Block → ℕ → Option Block
lookup [] i = None
lookup (b ∷ bs) i = if b.scope == i then Some b else lookup bs i

lookup_nil : (i : ℕ) → lookup [] i ≡ None
unfolding lookup
lookup_nil i = refl

found_is : (bs : List Block) (i : ℕ) (other : Block) → found_block bs i other ≡ unwrap_or (lookup bs i) other
unfolding lookup
found_is [] i other = refl
found_is (b ∷ bs) i other = by (b.scope == i) (found_is bs i other)
  where
    by : (r : Bool) → found_block bs i other ≡ unwrap_or (lookup bs i) other → cond r b (found_block bs i other) ≡ unwrap_or
        (cond r (Some b) (lookup bs i)) other
    by true e = refl
    by false e = e

lookup_left : (a b : List Block) (i : ℕ) → lookup b i ≡ None → lookup (a ++ b) i ≡ lookup a i
unfolding lookup
lookup_left [] b i h = h
lookup_left (x ∷ a) b i h = ap (λ (r : Option Block). if x.scope == i then Some x else r) (lookup_left a b i h)

lookup_right : (a b : List Block) (i : ℕ) → lookup a i ≡ None → lookup (a ++ b) i ≡ lookup b i
unfolding lookup
lookup_right [] b i h = refl
lookup_right (x ∷ a) b i h = by (x.scope == i) h (λ e. lookup_right a b i e)
  where
    by : (r : Bool) → cond r (Some x) (lookup a i) ≡ None → (lookup a i ≡ None → lookup (a ++ b) i ≡ lookup b i) → cond r (Some x)
        (lookup (a ++ b) i) ≡ lookup b i
    by true e f = absurd (cc)
    by false e f = f e

lookup_self : (b : Block) → lookup (b ∷ []) b.scope ≡ Some b
unfolding lookup
lookup_self b = by (b.scope == b.scope) refl
  where
    by : (r : Bool) → (b.scope == b.scope) ≡ r → cond r (Some b) None ≡ Some b
    by true e = refl
    by false e = absurd (grind (arith, nat_tests))

lookup_other : (b : Block) (i : ℕ) → (b.scope ≡ i → ⊥) → lookup (b ∷ []) i ≡ None
unfolding lookup
lookup_other b i h = by (b.scope == i) refl
  where
    by : (r : Bool) → (b.scope == i) ≡ r → cond r (Some b) None ≡ None
    by true e = absurd (h (grind (arith, nat_tests)))
    by false e = refl

lookup_push : (a : List Block) (b : Block) (i : ℕ) → lookup a i ≡ None → (b.scope ≡ i → ⊥) → lookup (a ++ b ∷ []) i ≡ None
lookup_push a b i h other = lookup_right a (b ∷ []) i h ∙ lookup_other b i other

lookup_pushed : (a : List Block) (b : Block) → lookup a b.scope ≡ None → lookup (a ++ b ∷ []) b.scope ≡ Some b
lookup_pushed a b h = lookup_right a (b ∷ []) b.scope h ∙ lookup_self b

-- ## The scopes of the blocks of a part are those that it opens

mutual
  part_out :
      (g : Program) (in_process : Bool) (i n : ℕ) (outer : List Level) (next : ℕ) (q : PartTree) (j : ℕ)
      → (next ≤ j → j < next + part_scopes q → ⊥) → lookup (part_blocks g.state in_process i n outer next q) j ≡ None
  part_out g in_process i n outer next (consts items) j h = lookup_nil j
  part_out g in_process i n outer next (types items) j h = lookup_nil j
  part_out g in_process i n outer next (vars vs) j h = lookup_nil j
  part_out g in_process i n outer next (sub_part b) j h = sub_out g in_process i n outer next b j h
  part_out g in_process i n outer next (monitor m) j h = module_out g i n outer next m j h
  part_out g in_process i n outer next (resource m) j h = module_out g i n outer next m j h
  part_out g in_process i n outer next (process_part p) j h = process_out g i n outer next p j h

  parts_out :
      (g : Program) (in_process : Bool) (i n : ℕ) (outer : List Level) (next : ℕ) (qs : PartTrees) (j : ℕ)
      → (next ≤ j → j < next + parts_scopes qs → ⊥) → lookup (parts_blocks g.state in_process i n outer next qs) j ≡ None
  parts_out g in_process i n outer next no_parts j h = lookup_nil j
  parts_out g in_process i n outer next (more_parts q qs) j h =
      let further = passed_part (scope_at g.state.blocks.scopes i) n q in
      lookup_right (part_blocks g.state in_process i n outer next q) (parts_blocks g.state in_process i further outer (next + part_scopes q) qs) j
      (part_out g in_process i n outer next q j (λ u v. h u (omega (arith, v))))
      ∙ parts_out g in_process i further outer (next + part_scopes q) qs j (λ u v. h (omega (arith, u)) (omega (arith, v)))

  sub_out :
      (g : Program) (in_process : Bool) (i n : ℕ) (outer : List Level) (next : ℕ) (b : SubTree) (j : ℕ)
      → (next ≤ j → j < next + sub_scopes b → ⊥) → lookup (sub_blocks g.state in_process i n outer next b) j ≡ None
  sub_out g in_process i n outer next (sub x gs kind ps (body ss from to) p) j h =
      let own = scope_at g.state.blocks.scopes next in
      let around = level i (passed (scope_at g.state.blocks.scopes i) n x) ∷ outer in
      lookup_push (parts_blocks g.state in_process next (passed_groups own 0 gs) around (next + 1) ps) _ j
      (parts_out g in_process next (passed_groups own 0 gs) around (next + 1) ps j (λ u v. h (omega (arith, u)) (omega (arith, v))))
      (λ e. h (omega (arith, e)) (omega (arith, e)))

  module_out :
      (g : Program) (i n : ℕ) (outer : List Level) (next : ℕ) (m : ModuleTree) (j : ℕ)
      → (next ≤ j → j < next + module_scopes m → ⊥) → lookup (module_blocks g.state i n outer next m) j ≡ None
  module_out g i n outer next (the_module x exports ps b last p) j h =
      parts_out g false next 0 (level i n ∷ outer) (next + 1) ps j (λ u v. h (omega (arith, u)) (omega (arith, v)))

  process_out :
      (g : Program) (i n : ℕ) (outer : List Level) (next : ℕ) (q : ProcessTree) (j : ℕ)
      → (next ≤ j → j < next + process_scopes q → ⊥) → lookup (process_blocks g.state i n outer next q) j ≡ None
  process_out g i n outer next (process many x gs es ps (body ss from to) p) j h =
      let own = scope_at g.state.blocks.scopes next in
      let count = passed_entries own (passed_groups own 0 gs) es in
      let around = level i (passed (scope_at g.state.blocks.scopes i) n x) ∷ outer in
      lookup_push (parts_blocks g.state true next count around (next + 1) ps) _ j
      (parts_out g true next count around (next + 1) ps j (λ u v. h (omega (arith, u)) (omega (arith, v))))
      (λ e. h (omega (arith, e)) (omega (arith, e)))

-- ## Chains of static links

-- the scopes of activations, each linked to the next, and the last to main's
Chain : Program → List ℕ → Type 0
Chain g [] = Unit {0}
Chain g (i ∷ is) = (is_mains g.state.blocks i ≡ false) × (linked_to g i ≡ first_of is) × Chain g is

held_with_not : (b : Blocks) (i : ℕ) → is_mains b i ≡ false → held_with b i ≡ i
held_with_not b i e = ap (λ (r : Bool). cond r 0 i) e

held_with_is : (b : Blocks) (i : ℕ) → is_mains b i ≡ true → held_with b i ≡ 0
held_with_is b i e = ap (λ (r : Bool). cond r 0 i) e

chain_end : (g : Program) (is : List ℕ) → Chain g is → links_up g (length is) (first_of is) ≡ 0
unfolding Chain
chain_end g [] c = refl
chain_end g (i ∷ is) c = ap (λ n. links_up g (length is) n) c.1 ∙ chain_end g is c.2

chain_at : (g : Program) (is : List ℕ) (k : ℕ) → Chain g is → k < length is → links_up g k (first_of is) ≡ get_or is k 0
unfolding Chain
chain_at g [] k c below = absurd (omega (arith, below))
chain_at g (i ∷ is) zero c below = held_with_not g.state.blocks i c.0
chain_at g (i ∷ is) (suc k) c below = ap (λ n. links_up g k n) c.1 ∙ chain_at g is k c.2 (omega (arith, below))

first_linked : (b : Blocks) (l : Level) (view : List Level) → first_of (linked b (l ∷ view)) ≡ held_with b l.scope
first_linked b l view = by (is_mains b l.scope)
  where
    by : (r : Bool) → first_of (cond r [] (l.scope ∷ linked b view)) ≡ cond r 0 l.scope
    by true = refl
    by false = refl

-- a block that is linked to the one around it
chain_more :
    (g : Program) (l m : Level) (view : List Level) → linked_to g l.scope ≡ held_with g.state.blocks m.scope → Chain g (linked g.state.blocks (m ∷ view))
    → Chain g (linked g.state.blocks (l ∷ m ∷ view))
unfolding Chain
chain_more g l m view e c = by (is_mains g.state.blocks l.scope) refl
  where
    by : (r : Bool) → is_mains g.state.blocks l.scope ≡ r → Chain g (cond r [] (l.scope ∷ linked g.state.blocks (m ∷ view)))
    by true h = tt
    by false h = (h, e ∙ sym (first_linked g.state.blocks m view), c)

-- ## Views

-- each scope in view is main's
AllMains : Blocks → List Level → Type 0
AllMains b [] = Unit {0}
AllMains b (l ∷ view) = (is_mains b l.scope ≡ true) × AllMains b view

-- behind one that is main's stand none but such
Covered : Blocks → List Level → Type 0
Covered b [] = Unit {0}
Covered b (l ∷ view) = (is_mains b l.scope ≡ true → AllMains b view) × Covered b view

covered_sub : (b : Blocks) (l : Level) (view : List Level) → is_mains b l.scope ≡ false → Covered b view → Covered b (l ∷ view)
unfolding Covered
covered_sub b l view apart c = ((λ e. let both : true ≡ false = sym e ∙ apart in absurd (cc)), c)

covered_module : (b : Blocks) (l : Level) (view : List Level) → AllMains b view → Covered b view → Covered b (l ∷ view)
unfolding Covered
covered_module b l view all c = ((λ e. all), c)

seen_mains : (b : Blocks) (view : List Level) (i : ℕ) → AllMains b view → sees view i ≡ true → is_mains b i ≡ true
unfolding AllMains
seen_mains b [] i all e = absurd (cc)
seen_mains b (l ∷ view) i all e = by (l.scope == i) refl e (seen_mains b view i all.1)
  where
    by : (r : Bool) → (l.scope == i) ≡ r → (r || sees view i) ≡ true → (sees view i ≡ true → is_mains b i ≡ true) → is_mains b i ≡ true
    by true same h f = let is : l.scope ≡ i = grind (arith, nat_tests) in sym (ap (λ n. is_mains b n) is) ∙ all.0
    by false same h f = f h

later_there : (x : ℕ) (xs : List ℕ) (i : ℕ) → is_some (position (λ j. j == i) xs) ≡ true → is_some (position (λ j. j == i) (x ∷ xs)) ≡ true
later_there x xs i h = by (nat_lt n (length xs)) refl h
  where
    n : ℕ
    n = position_or_len (λ j. j == i) xs

    by : (r : Bool) → nat_lt n (length xs) ≡ r → is_some (cond r (Some n) None) ≡ true → is_some (position (λ j. j == i) (x ∷ xs)) ≡ true
    by true below e =
        let within : n < length xs = grind (arith, nat_tests) in
        first (x == i) within
      where
        first : (q : Bool) → n < length xs
            → is_some (cond (nat_lt (cond (not q) (1 + n) 0) (suc (length xs))) (Some (cond (not q) (1 + n) 0)) None) ≡ true
        first true w =
            let test : nat_lt 0 (suc (length xs)) ≡ true = grind (arith, nat_tests) in ap (λ (r : Bool). is_some {T = ℕ} (cond r (Some 0) None)) test
        first false w =
            let test : nat_lt (1 + n) (suc (length xs)) ≡ true = grind (arith, nat_tests) in ap (λ (r : Bool). is_some (cond r (Some (1 + n)) None)) test
    by false below e = absurd (cc)

-- what is in view is main's or linked
covers : (b : Blocks) (view : List Level) (i : ℕ) → Covered b view → sees view i ≡ true → is_mains b i ≡ false → is_some
    (position (λ j. j == i) (linked b view)) ≡ true
unfolding Covered
covers b [] i c e apart = absurd (cc)
covers b (l ∷ view) i c e apart = by (is_mains b l.scope) refl (l.scope == i) refl e (covers b view i c.1)
  where
    by : (r : Bool) → is_mains b l.scope ≡ r → (q : Bool) → (l.scope == i) ≡ q → (q || sees view i) ≡ true
        → (sees view i ≡ true → is_mains b i ≡ false → is_some (position (λ j. j == i) (linked b view)) ≡ true)
        → is_some (position (λ j. j == i) (cond r [] (l.scope ∷ linked b view))) ≡ true
    by true m true same h f =
        let is : l.scope ≡ i = grind (arith, nat_tests) in
        let both : true ≡ false = sym m ∙ (ap (λ n. is_mains b n) is ∙ apart) in absurd (cc)
    by true m false same h f = let both : true ≡ false = sym (seen_mains b view i (c.0 m) h) ∙ apart in absurd (cc)
    by false m true same h f = found_there (λ j. j == i) [] l.scope (linked b view) same
    by false m false same h f = later_there l.scope (linked b view) i (f h apart)

-- the view of a block begins with its own scope
record Placed (g : Program) (b : Block) : Type 0 where
  count : ℕ
  rest : List Level
  view : b.env.view ≡ level b.scope count ∷ rest
  chain : Chain g (linked g.state.blocks (level b.scope count ∷ rest))
  covered : Covered g.state.blocks (level b.scope count ∷ rest)

-- where the first activation of a chain is that of a block, its scope is the block's
start_is : (b : Blocks) (x j : ℕ) → held_with b x ≡ j → is_mains b j ≡ false → x ≡ j
start_is b x j own apart = by (is_mains b x) refl
  where
    by : (r : Bool) → is_mains b x ≡ r → x ≡ j
    by true h =
        let none : j ≡ 0 = sym own ∙ held_with_is b x h in
        let both : true ≡ false = sym (ap (λ n. is_mains b n) none) ∙ apart in
        absurd (cc)
    by false h = sym (held_with_not b x h) ∙ own

end_from : (g : Program) (x : ℕ) (is : List ℕ) → held_with g.state.blocks x ≡ first_of is → Chain g is → links_up g (length is) x ≡ 0
unfolding Chain
end_from g x [] own c = own
end_from g x (j ∷ is) own c = ap (λ n. links_up g (length (j ∷ is)) n) (start_is g.state.blocks x j own c.0) ∙ chain_end g (j ∷ is) c

at_from :
    (g : Program) (x : ℕ) (is : List ℕ) (k : ℕ) → held_with g.state.blocks x ≡ first_of is → Chain g is → k < length is → links_up g k x ≡ get_or is k 0
unfolding Chain
at_from g x [] k own c below = absurd (omega (arith, below))
at_from g x (j ∷ is) k own c below = ap (λ n. links_up g k n) (start_is g.state.blocks x j own c.0) ∙ chain_at g (j ∷ is) k c below

found_at :
    (g : Program) (x : ℕ) (is : List ℕ) (i : ℕ) (r : Option ℕ) → held_with g.state.blocks x ≡ first_of is → Chain g is
    → position (λ j. j == i) is ≡ r → is_some r ≡ true → links_up g (unwrap_or r 0) x ≡ i
found_at g x is i None own c e some = absurd (cc)
found_at g x is i (Some k) own c e some =
    let found = position-Some (λ j. j == i) is k 0 e in
    let same : (get_or is k 0 == i) ≡ true = found.1 in
    at_from g x is k own c found.0 ∙ grind (arith, nat_tests)

-- what is linked to it is reached
abbrev IsLinked : Program → Block → Type 0
IsLinked g b =
    (i : ℕ) → (is_mains g.state.blocks i || is_some (position (λ j. j == i) (linked g.state.blocks b.env.view))) ≡ true
    → links_up g (links_from g.state.blocks b i) b.scope ≡ held_with g.state.blocks i

reached_in :
    (g : Program) (b : Block) (is : List ℕ) → linked g.state.blocks b.env.view ≡ is → held_with g.state.blocks b.scope ≡ first_of is → Chain g is
    → IsLinked g b
reached_in g b is e own c i around = by (is_mains bs i) refl
  where
    bs : Blocks
    bs = g.state.blocks

    place : List ℕ → Option ℕ
    place l = position (λ j. j == i) l

    by : (r : Bool) → is_mains bs i ≡ r → links_up g (links_from bs b i) b.scope ≡ held_with bs i
    by true h =
        ap (λ (r : Bool). links_up g (cond r (level_of bs b) (unwrap_or (position (λ j. j == i) (linked bs b.env.view)) 0)) b.scope) h
        ∙ ap (λ (l : List ℕ). links_up g (length l) b.scope) e ∙ end_from g b.scope is own c ∙ sym (held_with_is bs i h)
    by false h =
        let some : is_some (position (λ j. j == i) (linked bs b.env.view)) ≡ true =
        sym (ap (λ (r : Bool). r || is_some (position (λ j. j == i) (linked bs b.env.view))) h) ∙ around in
        ap (λ (r : Bool). links_up g (cond r (level_of bs b) (unwrap_or (position (λ j. j == i) (linked bs b.env.view)) 0)) b.scope) h
        ∙ ap (λ (l : List ℕ). links_up g (unwrap_or (position (λ j. j == i) l) 0) b.scope) e
        ∙ found_at g b.scope is i (position (λ j. j == i) is) own c refl (sym (ap (λ (l : List ℕ). is_some (position (λ j. j == i) l)) e) ∙ some)
        ∙ sym (held_with_not bs i h)

placed_linked : (g : Program) (b : Block) → Placed g b → IsLinked g b
placed_linked g b p =
    reached_in g b (linked g.state.blocks (level b.scope p.count ∷ p.rest)) (ap (λ (v : List Level). linked g.state.blocks v) p.view)
    (sym (first_linked g.state.blocks (level b.scope p.count) p.rest)) p.chain

placed_reached : (g : Program) (b : Block) → Placed g b → IsReached g b
placed_reached g b p i around = placed_linked g b p i (by (is_mains bs i) refl around)
  where
    bs : Blocks
    bs = g.state.blocks

    by : (r : Bool) → is_mains bs i ≡ r → (r || sees b.env.view i) ≡ true
        → (r || is_some (position (λ j. j == i) (linked bs b.env.view))) ≡ true
    by true m h = refl
    by false m h =
        covers bs b.env.view i (subst (λ (v : List Level). Covered bs v) (sym p.view) p.covered) h m

-- ## All blocks

Every : Program → List Block → Type 0
Every g [] = Unit {0}
Every g (b ∷ bs) = Placed g b × Every g bs

every_nil : (g : Program) → Every g []
unfolding Every
every_nil g = tt

every_append : (g : Program) (a b : List Block) → Every g a → Every g b → Every g (a ++ b)
unfolding Every
every_append g [] b p q = q
every_append g (x ∷ a) b p q = (p.0, every_append g a b p.1 q)

every_push : (g : Program) (a : List Block) (b : Block) → Every g a → Placed g b → Every g (a ++ b ∷ [])
unfolding Every
every_push g a b p q = every_append g a (b ∷ []) p (q, tt)

-- a block that is found by its scope is linked to the one around it
link_of :
    (g : Program) (a : List Block) (b : Block) → lookup g.blocks b.scope ≡ lookup (a ++ b ∷ []) b.scope → lookup a b.scope ≡ None
    → linked_to g b.scope ≡ held_with g.state.blocks b.outer
link_of g a b agree none =
    ap (λ (x : Block). held_with g.state.blocks x.outer)
    (found_is g.blocks b.scope g.main ∙ ap (λ (r : Option Block). unwrap_or r g.main) (agree ∙ lookup_pushed a b none))

-- the scope of a module is no block's
link_of_none : (g : Program) (i : ℕ) → lookup g.blocks i ≡ None → g.main.outer ≡ 0 → linked_to g i ≡ 0
link_of_none g i none main =
    ap (λ (x : Block). held_with g.state.blocks x.outer) (found_is g.blocks i g.main ∙ ap (λ (r : Option Block). unwrap_or r g.main) none)
    ∙ ap (λ n. held_with g.state.blocks n) main

mutual
  part_placed :
      (g : Program) (h : Home) (in_process : Bool) (i n : ℕ) (outer : List Level) (next : ℕ) (q : PartTree) → IsLawfulPart h (forget_part q)
      → (HoldsModules h → ⊥) → ((k : ℕ) → Chain g (linked g.state.blocks (level i k ∷ outer))) → ((k : ℕ) → Covered g.state.blocks (level i k ∷ outer))
      → ((j : ℕ) → next ≤ j → j < next + part_scopes q → is_mains g.state.blocks j ≡ false)
      → ((j : ℕ) → next ≤ j → j < next + part_scopes q → lookup g.blocks j ≡ lookup (part_blocks g.state in_process i n outer next q) j)
      → Every g (part_blocks g.state in_process i n outer next q)
  part_placed g h in_process i n outer next (consts items) lawful home c v apart agree = every_nil g
  part_placed g h in_process i n outer next (types items) lawful home c v apart agree = every_nil g
  part_placed g h in_process i n outer next (vars vs) lawful home c v apart agree = every_nil g
  part_placed g h in_process i n outer next (sub_part b) lawful home c v apart agree = sub_placed g h in_process i n outer next b lawful c v apart agree
  part_placed g h in_process i n outer next (monitor m) lawful home c v apart agree = absurd (home lawful.0)
  part_placed g h in_process i n outer next (resource m) lawful home c v apart agree = absurd (home lawful.0)
  part_placed g h in_process i n outer next (process_part p) lawful home c v apart agree = absurd (home lawful.0)

  parts_placed :
      (g : Program) (h : Home) (in_process : Bool) (i n : ℕ) (outer : List Level) (next : ℕ) (qs : PartTrees) → AreLawfulParts h (forget_parts qs)
      → (HoldsModules h → ⊥) → ((k : ℕ) → Chain g (linked g.state.blocks (level i k ∷ outer))) → ((k : ℕ) → Covered g.state.blocks (level i k ∷ outer))
      → ((j : ℕ) → next ≤ j → j < next + parts_scopes qs → is_mains g.state.blocks j ≡ false)
      → ((j : ℕ) → next ≤ j → j < next + parts_scopes qs → lookup g.blocks j ≡ lookup (parts_blocks g.state in_process i n outer next qs) j)
      → Every g (parts_blocks g.state in_process i n outer next qs)
  parts_placed g h in_process i n outer next no_parts lawful home c v apart agree = every_nil g
  parts_placed g h in_process i n outer next (more_parts q qs) lawful home c v apart agree =
      let further = passed_part (scope_at g.state.blocks.scopes i) n q in
      let a = part_blocks g.state in_process i n outer next q in
      let b = parts_blocks g.state in_process i further outer (next + part_scopes q) qs in
      every_append g a b
      (part_placed g h in_process i n outer next q lawful.0 home c v (λ j x y. apart j x (omega (arith, y)))
      (λ j x y. agree j x (omega (arith, y)) ∙ lookup_left a b j
      (parts_out g in_process i further outer (next + part_scopes q) qs j (λ z w. omega (arith, y, z)))))
      (parts_placed g h in_process i further outer (next + part_scopes q) qs lawful.1 home c v (λ j x y. apart j (omega (arith, x)) (omega (arith, y)))
      (λ j x y. agree j (omega (arith, x)) (omega (arith, y)) ∙ lookup_right a b j (part_out g in_process i n outer next q j (λ z w. omega (arith, x, w)))))

  sub_placed :
      (g : Program) (h : Home) (in_process : Bool) (i n : ℕ) (outer : List Level) (next : ℕ) (b : SubTree) → IsLawfulSub h (forget_sub b)
      → ((k : ℕ) → Chain g (linked g.state.blocks (level i k ∷ outer))) → ((k : ℕ) → Covered g.state.blocks (level i k ∷ outer))
      → ((j : ℕ) → next ≤ j → j < next + sub_scopes b → is_mains g.state.blocks j ≡ false)
      → ((j : ℕ) → next ≤ j → j < next + sub_scopes b → lookup g.blocks j ≡ lookup (sub_blocks g.state in_process i n outer next b) j)
      → Every g (sub_blocks g.state in_process i n outer next b)
  sub_placed g h in_process i n outer next (sub x gs kind ps (body ss from to) p) lawful c v apart agree =
      let own = scope_at g.state.blocks.scopes next in
      let before = passed (scope_at g.state.blocks.scopes i) n x in
      let count = passed_groups own 0 gs in
      let around = level i before ∷ outer in
      let guard = guard_of (env_at g.state (level next count ∷ level i n ∷ outer) (around_guard i)) kind in
      let b = block_of next i (env_at g.state (here g.state.blocks.scopes next around) (around_sub in_process kind)) (next + 1 + parts_scopes ps)
      (body ss from to) (sub_layout_at g.state.blocks next) 0 guard in
      let inner = parts_blocks g.state in_process next count around (next + 1) ps in
      let free : lookup inner next ≡ None = parts_out g in_process next count around (next + 1) ps next (λ x y. omega (arith, x)) in
      let link : linked_to g next ≡ held_with g.state.blocks i = link_of g inner b (agree next (omega arith) (omega arith)) free in
      let chain : (k : ℕ) → Chain g (linked g.state.blocks (level next k ∷ around)) = λ k. chain_more g (level next k) (level i before) outer link (c before) in
      let covered : (k : ℕ) → Covered g.state.blocks (level next k ∷ around) =
      λ k. covered_sub g.state.blocks (level next k) around (apart next (omega arith) (omega arith)) (v before) in
      every_push g inner b
      (parts_placed g of_other in_process next count around (next + 1) ps lawful.2 (λ e. e) chain covered
      (λ j x y. apart j (omega (arith, x)) (omega (arith, y)))
      (λ j x y. agree j (omega (arith, x)) (omega (arith, y)) ∙ lookup_left inner (b ∷ []) j (lookup_other b j (λ e. omega (arith, x, e)))))
      (record { count = length own; rest = around; view = refl; chain = chain (length own); covered = covered (length own) })

process_placed :
    (g : Program) (i n : ℕ) (outer : List Level) (next : ℕ) (q : ProcessTree) → IsLawfulProcess (forget_process q)
    → ((k : ℕ) → Chain g (linked g.state.blocks (level i k ∷ outer))) → ((k : ℕ) → Covered g.state.blocks (level i k ∷ outer))
    → ((j : ℕ) → next ≤ j → j < next + process_scopes q → is_mains g.state.blocks j ≡ false)
    → ((j : ℕ) → next ≤ j → j < next + process_scopes q → lookup g.blocks j ≡ lookup (process_blocks g.state i n outer next q) j)
    → Every g (process_blocks g.state i n outer next q)
process_placed g i n outer next (process many x gs es ps (body ss from to) p) lawful c v apart agree =
    let own = scope_at g.state.blocks.scopes next in
    let before = passed (scope_at g.state.blocks.scopes i) n x in
    let count = passed_entries own (passed_groups own 0 gs) es in
    let around = level i before ∷ outer in
    let stmts = body ss from to in
    let first = next + 1 + parts_scopes ps in
    let b = block_of next i (env_at g.state (here g.state.blocks.scopes next around) around_process) first stmts
    (process_layout own (take (body_scopes stmts) (drop first g.state.blocks.scopes))) (body_scopes stmts) None in
    let inner = parts_blocks g.state true next count around (next + 1) ps in
    let free : lookup inner next ≡ None = parts_out g true next count around (next + 1) ps next (λ x y. omega (arith, x)) in
    let link : linked_to g next ≡ held_with g.state.blocks i = link_of g inner b (agree next (omega arith) (omega arith)) free in
    let chain : (k : ℕ) → Chain g (linked g.state.blocks (level next k ∷ around)) = λ k. chain_more g (level next k) (level i before) outer link (c before) in
    let covered : (k : ℕ) → Covered g.state.blocks (level next k ∷ around) =
    λ k. covered_sub g.state.blocks (level next k) around (apart next (omega arith) (omega arith)) (v before) in
    every_push g inner b
    (parts_placed g of_other true next count around (next + 1) ps lawful.2 (λ e. e) chain covered
    (λ j x y. apart j (omega (arith, x)) (omega (arith, y)))
    (λ j x y. agree j (omega (arith, x)) (omega (arith, y)) ∙ lookup_left inner (b ∷ []) j (lookup_other b j (λ e. omega (arith, x, e)))))
    (record { count = length own; rest = around; view = refl; chain = chain (length own); covered = covered (length own) })

module_placed :
    (g : Program) (h : Home) (n next : ℕ) (m : ModuleTree) → (HoldsModules h → ⊥) → IsLawfulModule h (forget_module m) → g.main.outer ≡ 0
    → ((j : ℕ) → next < j → j < next + module_scopes m → is_mains g.state.blocks j ≡ false)
    → ((j : ℕ) → next ≤ j → j < next + module_scopes m → lookup g.blocks j ≡ lookup (module_blocks g.state 0 n [] next m) j)
    → Every g (module_blocks g.state 0 n [] next m)
unfolding Chain Covered AllMains
module_placed g h n next (the_module x exports ps b last p) none lawful main apart agree =
    let free : lookup g.blocks next ≡ None =
    agree next (omega arith) (omega arith) ∙ parts_out g false next 0 (level 0 n ∷ []) (next + 1) ps next (λ x y. omega (arith, x)) in
    let link : linked_to g next ≡ held_with g.state.blocks 0 = link_of_none g next free main in
    parts_placed g h false next 0 (level 0 n ∷ []) (next + 1) ps lawful.1 none
    (λ k. chain_more g (level next k) (level 0 n) [] link tt)
    (λ k. covered_module g.state.blocks (level next k) (level 0 n ∷ []) (refl, tt) ((λ e. tt), tt))
    (λ j x y. apart j (omega (arith, x)) (omega (arith, y)))
    (λ j x y. agree j (omega (arith, x)) (omega (arith, y)))

-- ## Scopes that are no module's

Away : List ModuleHead → ℕ → Type 0
Away [] j = Unit {0}
Away (m ∷ ms) j = (m.scope ≡ j → ⊥) × Away ms j

away_append : (a b : List ModuleHead) (j : ℕ) → Away a j → Away b j → Away (a ++ b) j
unfolding Away
away_append [] b j p q = q
away_append (m ∷ a) b j p q = (p.0, away_append a b j p.1 q)

module_opens : (m : ModuleTree) → 0 < module_scopes m
module_opens (the_module x exports ps b last p) = omega arith

from_away : (next : ℕ) (qs : PartTrees) (j : ℕ) → j < next → Away (modules_from next qs) j
unfolding Away
from_away next no_parts j h = tt
from_away next (more_parts (consts items) qs) j h = from_away (next + 0) qs j (omega (arith, h))
from_away next (more_parts (types items) qs) j h = from_away (next + 0) qs j (omega (arith, h))
from_away next (more_parts (vars vs) qs) j h = from_away (next + 0) qs j (omega (arith, h))
from_away next (more_parts (sub_part b) qs) j h = from_away (next + part_scopes (sub_part b)) qs j (omega (arith, h))
from_away next (more_parts (monitor m) qs) j h = ((λ e. omega (arith, e, h)), from_away (next + part_scopes (monitor m)) qs j (omega (arith, h)))
from_away next (more_parts (resource m) qs) j h = ((λ e. omega (arith, e, h)), from_away (next + part_scopes (resource m)) qs j (omega (arith, h)))
from_away next (more_parts (process_part p) qs) j h = from_away (next + part_scopes (process_part p)) qs j (omega (arith, h))

none_at : (ms : List ModuleHead) (j : ℕ) → Away ms j → position_or_len (λ m. m.scope == j) ms ≡ length ms
unfolding Away
none_at [] j h = refl
none_at (m ∷ ms) j h = by (m.scope == j) refl (none_at ms j h.1)
  where
    by : (r : Bool) → (m.scope == j) ≡ r → position_or_len (λ x. x.scope == j) ms ≡ length ms
        → cond (not r) (1 + position_or_len (λ (x : ModuleHead). x.scope == j) ms) 0 ≡ suc (length ms)
    by true same rest = absurd (h.0 (grind (arith, nat_tests)))
    by false same rest = omega (arith, rest)

not_mains : (b : Blocks) (ms : List ModuleHead) (j : ℕ) → b.modules ≡ ms → Away ms j → 0 < j → is_mains b j ≡ false
not_mains b ms j is away some =
    let at = position_or_len (λ (m : ModuleHead). m.scope == j) ms in
    let last : at ≡ length ms = none_at ms j away in
    let test : nat_lt at (length ms) ≡ false = grind (arith, nat_tests) in
    let zero_test : (j == 0) ≡ false = grind (arith, nat_tests) in
    let none : is_some (module_of b j) ≡ false =
    ap (λ (l : List ModuleHead). is_some (position (λ m. m.scope == j) l)) is ∙ ap (λ (r : Bool). is_some (cond r (Some at) None)) test in
    ap (λ (r : Bool). r || is_some (module_of b j)) zero_test ∙ none

-- ## The parts of a program

top_join :
    (g : Program) (n next : ℕ) (q : PartTree) (qs : PartTrees)
    → ((j : ℕ) → next ≤ j → j < next + parts_scopes (more_parts q qs)
    → lookup g.blocks j ≡ lookup (parts_blocks g.state false 0 n [] next (more_parts q qs)) j)
    → (((j : ℕ) → next ≤ j → j < next + part_scopes q → lookup g.blocks j ≡ lookup (part_blocks g.state false 0 n [] next q) j)
    → Every g (part_blocks g.state false 0 n [] next q))
    → (((j : ℕ) → next + part_scopes q ≤ j → j < next + part_scopes q + parts_scopes qs
    → lookup g.blocks j ≡ lookup (parts_blocks g.state false 0 (passed_part (scope_at g.state.blocks.scopes 0) n q) [] (next + part_scopes q) qs) j)
    → Every g (parts_blocks g.state false 0 (passed_part (scope_at g.state.blocks.scopes 0) n q) [] (next + part_scopes q) qs))
    → Every g (parts_blocks g.state false 0 n [] next (more_parts q qs))
top_join g n next q qs agree own rest =
    let further = passed_part (scope_at g.state.blocks.scopes 0) n q in
    let a = part_blocks g.state false 0 n [] next q in
    let b = parts_blocks g.state false 0 further [] (next + part_scopes q) qs in
    every_append g a b
    (own (λ j x y. agree j x (omega (arith, y)) ∙ lookup_left a b j (parts_out g false 0 further [] (next + part_scopes q) qs j (λ z w. omega (arith, y, z)))))
    (rest (λ j x y. agree j (omega (arith, x)) (omega (arith, y)) ∙ lookup_right a b j (part_out g false 0 n [] next q j (λ z w. omega (arith, x, w)))))

top_placed :
    (g : Program) (before : List ModuleHead) (n next : ℕ) (qs : PartTrees) → AreLawfulParts of_program (forget_parts qs)
    → g.state.blocks.modules ≡ before ++ modules_from next qs → ((j : ℕ) → next ≤ j → Away before j) → 0 < next → g.main.outer ≡ 0
    → ((j : ℕ) → next ≤ j → j < next + parts_scopes qs → lookup g.blocks j ≡ lookup (parts_blocks g.state false 0 n [] next qs) j)
    → Every g (parts_blocks g.state false 0 n [] next qs)
unfolding Chain Covered AllMains Away
top_placed g before n next no_parts lawful is away some main agree = every_nil g
top_placed g before n next (more_parts (consts items) qs) lawful is away some main agree =
    top_join g n next (consts items) qs agree (λ f. every_nil g)
    (top_placed g before (passed_part (scope_at g.state.blocks.scopes 0) n (consts items)) (next + part_scopes (consts items)) qs lawful.1 is
    (λ j x. away j (omega (arith, x))) (omega (arith, some)) main)
top_placed g before n next (more_parts (types items) qs) lawful is away some main agree =
    top_join g n next (types items) qs agree (λ f. every_nil g)
    (top_placed g before (passed_part (scope_at g.state.blocks.scopes 0) n (types items)) (next + part_scopes (types items)) qs lawful.1 is
    (λ j x. away j (omega (arith, x))) (omega (arith, some)) main)
top_placed g before n next (more_parts (vars vs) qs) lawful is away some main agree =
    top_join g n next (vars vs) qs agree (λ f. every_nil g)
    (top_placed g before (passed_part (scope_at g.state.blocks.scopes 0) n (vars vs)) (next + part_scopes (vars vs)) qs lawful.1 is
    (λ j x. away j (omega (arith, x))) (omega (arith, some)) main)
top_placed g before n next (more_parts (sub_part b) qs) lawful is away some main agree =
    top_join g n next (sub_part b) qs agree
    (λ f. sub_placed g of_program false 0 n [] next b lawful.0 (λ k. tt) (λ k. ((λ e. tt), tt))
    (λ j x y. not_mains g.state.blocks (before ++ modules_from (next + part_scopes (sub_part b)) qs) j is
    (away_append before (modules_from (next + part_scopes (sub_part b)) qs) j (away j x) (from_away (next + part_scopes (sub_part b)) qs j y))
    (omega (arith, x, some)))
    f)
    (top_placed g before (passed_part (scope_at g.state.blocks.scopes 0) n (sub_part b)) (next + part_scopes (sub_part b)) qs lawful.1 is
    (λ j x. away j (omega (arith, x))) (omega (arith, some)) main)
top_placed g before n next (more_parts (monitor m) qs) lawful is away some main agree =
    let head : ModuleHead = record { scope = next; resource = false } in
    let rest = modules_from (next + part_scopes (monitor m)) qs in
    let long = module_opens m in
    top_join g n next (monitor m) qs agree
    (λ f. module_placed g of_other n next m (λ e. e) lawful.0.1 main
    (λ j x y. not_mains g.state.blocks (before ++ head ∷ rest) j is
    (away_append before (head ∷ rest) j (away j (omega (arith, x))) ((λ e. omega (arith, x, e)), from_away (next + part_scopes (monitor m)) qs j y))
    (omega (arith, x)))
    f)
    (top_placed g (before ++ head ∷ []) (passed_part (scope_at g.state.blocks.scopes 0) n (monitor m)) (next + part_scopes (monitor m)) qs lawful.1
    (is ∙ sym (append_assoc before (head ∷ []) rest))
    (λ j x. away_append before (head ∷ []) j (away j (omega (arith, x))) ((λ e. omega (arith, x, e, long)), tt)) (omega (arith, some)) main)
top_placed g before n next (more_parts (resource m) qs) lawful is away some main agree =
    let head : ModuleHead = record { scope = next; resource = true } in
    let rest = modules_from (next + part_scopes (resource m)) qs in
    let long = module_opens m in
    top_join g n next (resource m) qs agree
    (λ f. module_placed g of_resource n next m (λ e. e) lawful.0.1 main
    (λ j x y. not_mains g.state.blocks (before ++ head ∷ rest) j is
    (away_append before (head ∷ rest) j (away j (omega (arith, x))) ((λ e. omega (arith, x, e)), from_away (next + part_scopes (resource m)) qs j y))
    (omega (arith, x)))
    f)
    (top_placed g (before ++ head ∷ []) (passed_part (scope_at g.state.blocks.scopes 0) n (resource m)) (next + part_scopes (resource m)) qs lawful.1
    (is ∙ sym (append_assoc before (head ∷ []) rest))
    (λ j x. away_append before (head ∷ []) j (away j (omega (arith, x))) ((λ e. omega (arith, x, e, long)), tt)) (omega (arith, some)) main)
top_placed g before n next (more_parts (process_part p) qs) lawful is away some main agree =
    top_join g n next (process_part p) qs agree
    (λ f. process_placed g 0 n [] next p lawful.0.1 (λ k. tt) (λ k. ((λ e. tt), tt))
    (λ j x y. not_mains g.state.blocks (before ++ modules_from (next + part_scopes (process_part p)) qs) j is
    (away_append before (modules_from (next + part_scopes (process_part p)) qs) j (away j x) (from_away (next + part_scopes (process_part p)) qs j y))
    (omega (arith, x, some)))
    f)
    (top_placed g before (passed_part (scope_at g.state.blocks.scopes 0) n (process_part p)) (next + part_scopes (process_part p)) qs lawful.1 is
    (λ j x. away j (omega (arith, x))) (omega (arith, some)) main)

-- ## The program

block_outer :
    (scope outer : ℕ) (env : Env) (next : ℕ) (b : BodyTree) (layout : Layout) (accepts : ℕ) (guard : Option Guard)
    → (block_of scope outer env next b layout accepts guard).outer ≡ outer
block_outer scope outer env next (body ss from to) layout accepts guard = refl

block_scope :
    (scope outer : ℕ) (env : Env) (next : ℕ) (b : BodyTree) (layout : Layout) (accepts : ℕ) (guard : Option Guard)
    → (block_of scope outer env next b layout accepts guard).scope ≡ scope
block_scope scope outer env next (body ss from to) layout accepts guard = refl

block_env :
    (scope outer : ℕ) (env : Env) (next : ℕ) (b : BodyTree) (layout : Layout) (accepts : ℕ) (guard : Option Guard)
    → (block_of scope outer env next b layout accepts guard).env ≡ env
block_env scope outer env next (body ss from to) layout accepts guard = refl

-- of main's block
of_the_main :
    (t : ProgramTree) → ((program_of t).main.outer ≡ 0) × ((program_of t).main.scope ≡ 0) ×
    (linked (program_of t).state.blocks (program_of t).main.env.view ≡ [])
of_the_main t = (
  block_outer 0 0 (env_of_main s) (1 + parts_scopes t.parts) t.body (main_layout s.blocks (scope_at s.blocks.scopes 0)) 0 None,
  block_scope 0 0 (env_of_main s) (1 + parts_scopes t.parts) t.body (main_layout s.blocks (scope_at s.blocks.scopes 0)) 0 None,
  ap (λ (e : Env). linked s.blocks e.view) (block_env 0 0 (env_of_main s) (1 + parts_scopes t.parts) t.body
      (main_layout s.blocks (scope_at s.blocks.scopes 0)) 0 None),
)
  where
    s : State
    s = finished t

-- in the main body only main's scope is in view
main_view : (t : ProgramTree) → AllMains (program_of t).state.blocks (program_of t).main.env.view
unfolding AllMains
main_view t =
    let s = finished t in
    let view : (program_of t).main.env ≡ env_of_main s =
    block_env 0 0 (env_of_main s) (1 + parts_scopes t.parts) t.body (main_layout s.blocks (scope_at s.blocks.scopes 0)) 0 None in
    subst (λ (e : Env). AllMains s.blocks e.view) (sym view) (refl, tt)

pub main_reached : (t : ProgramTree) → IsReached (program_of t) (program_of t).main
unfolding Chain
main_reached t i around =
    let m = of_the_main t in
    reached_in (program_of t) (program_of t).main [] m.2 (ap (λ n. held_with (program_of t).state.blocks n) m.1) tt i (by (is_mains bs i) refl around)
  where
    bs : Blocks
    bs = (program_of t).state.blocks

    by : (r : Bool) → is_mains bs i ≡ r → (r || sees (program_of t).main.env.view i) ≡ true
        → (r || is_some (position (λ j. j == i) (linked bs (program_of t).main.env.view))) ≡ true
    by true e h = refl
    by false e h = let both : true ≡ false = sym (seen_mains bs (program_of t).main.env.view i (main_view t) h) ∙ e in absurd (cc)

all_reached : (g : Program) (bs : List Block) → Every g bs → All (λ b. IsReached g b) bs
unfolding Every
all_reached g [] h = All-nil (λ b. IsReached g b)
all_reached g (b ∷ bs) h = All-cons (λ x. IsReached g x) b bs (placed_reached g b h.0) (all_reached g bs h.1)

pub blocks_reached : (t : ProgramTree) → IsLawful (forget_program t) → All (λ (b : Block). IsReached (program_of t) b) (program_of t).blocks
unfolding Away
blocks_reached t lawful =
    let g = program_of t in
    all_reached g g.blocks
    (top_placed g [] 0 1 t.parts lawful.0 (program_modules t lawful) (λ j x. tt) (omega arith) (of_the_main t).0 (λ j x y. refl))

pub main_level : (t : ProgramTree) → level_of (program_of t).state.blocks (program_of t).main ≡ 0
main_level t = ap (λ (is : List ℕ). length is) (of_the_main t).2
