-- Each variable that is in view in a body has a place in the block that holds it: by induction over the parts.
use Rattle.std.proofs.Common.{◌≡◌, ℕ, ◌+◌, ◌-◌, ◌<◌, ◌≤◌, suc, ◌==◌, nat_lt, nat_le, not, ◌||◌, ◌&&◌, zero, Bool, true, false, List, [], ◌∷◌, ◌++◌, length}
use Rattle.std.proofs.Common.{take, drop, get_or, slice_get, map, position, is_some, unwrap_or, cond, if◌then◌else◌, Option, Some, None, refl, ap, sym, ◌∙◌}
use Rattle.std.proofs.Common.{subst, arith}
use Rattle.std.specs.List.{All, position_or_len}
use Rattle.std.specs.Option.{IfSome}
use Rattle.pfc_types.specs.rules.Expressions.{Env}
use Rattle.std.proofs.lemmas.Bool.Decides.{nat_tests}
use Rattle.std.proofs.lemmas.List.Elements.{All-nil, All-cons, All-head, All-tail, All-append}
use Rattle.pfc_tree.specs.trees.Stmts.{BodyTree, body}
use Rattle.pfc_tree.specs.trees.Parts.{KindTree, PartTree, PartTrees, SubTree, ModuleTree, ProcessTree, ProgramTree, procedure, function, guarded, consts}
use Rattle.pfc_tree.specs.trees.Parts.{types, vars, sub_part, monitor, resource, process_part, no_parts, more_parts, sub, the_module, process}
use Rattle.pfc_tree.specs.forget.Parts.{forget_part, forget_parts, forget_sub, forget_module, forget_process, forget_program}
use Rattle.pfc_tree.specs.lawful.Parts.{Home, of_program, of_resource, of_other, HoldsModules, IsLawfulPart, AreLawfulParts, IsLawfulSub, IsLawfulModule}
use Rattle.pfc_tree.specs.lawful.Parts.{IsLawfulProcess, IsLawful}
use Rattle.pfc_types.specs.Scopes.{Names, Level, scope_at, here}
use Rattle.pfc_types.specs.Blocks.{Blocks, State, no_module as no_module_head, module_at, no_sub, sub_at}
use Rattle.pfc_types.specs.rules.Statements.{body_scopes}
use Rattle.pfc_types.specs.rules.Bodies.{env_at, around_guard, around_sub, around_process, level, passed, passed_part, passed_groups, passed_entries}
use Rattle.pfc_types.specs.rules.Bodies.{part_scopes, parts_scopes, sub_scopes, module_scopes, process_scopes}
use Rattle.pfc_types.specs.declared.heads.SubHead.{SubHead}
use Rattle.pfc_types.specs.declared.heads.ModuleHead.{ModuleHead}
use Rattle.pfc_types.specs.declared.scope.Meaning.{Meaning}
use Rattle.pfc_semantics.specs.Layouts.{Layout, is_laid, laid_names, main_layout, before_module, sub_layout, sub_layout_at, layout_by, sub_with, process_layout}
use Rattle.pfc_semantics.specs.Layouts.{behind_result, before_scope, variable_place}
use Rattle.pfc_semantics.specs.Programs.{Block, Program, layout_cells, block_of, guard_of, found_block, block_at, part_blocks, parts_blocks, sub_blocks}
use Rattle.pfc_semantics.specs.Programs.{module_blocks, process_blocks, init_block, module_inits, part_inits, parts_inits, env_of_main, program_of}
use Rattle.pfc_translation.specs.Sites.{module_of, is_mains, linked, level_of, links_from, is_accept}
use Rattle.pfc_image_laws.specs.Modules.{modules_from}
use Rattle.pfc_image_laws.specs.Levels.{links_up, sees}
use Rattle.pfc_image_laws.proofs.Modules.{program_modules}
use Rattle.pfc_image_numbers.proofs.Rules.{and_left, and_right}
use Rattle.pfc_image_cells.specs.Subs.{part_subs, parts_subs, sub_subs, module_subs, process_subs}
use Rattle.pfc_image_cells.proofs.Subs.{program_subs}
use Rattle.pfc_image_cells.proofs.Layouts.{IsAt, get_there, sub_place, process_place, accept_place, main_place, module_place, AreLaid, process_is_laid}
use Rattle.pfc_image_cells.proofs.Layouts.{main_is_laid, sub_is_laid}
use Rattle.pfc_image_cells.specs.Cells.{AreNamed}
use Rattle.std.proofs.lemmas.List.Quantifiers.{position-Some}
use Rattle.pfc_types.specs.rules.Whole.{finished}

-- ## Numbers of scopes

abbrev pub among : ℕ → List ℕ → Bool
among i [] = false
among i (j ∷ js) = j == i || among i js

pub among_append : (i : ℕ) (a b : List ℕ) → among i (a ++ b) ≡ (among i a || among i b)
among_append i [] b = refl
among_append i (j ∷ a) b = by (j == i) (among_append i a b)
  where
    by : (r : Bool) → among i (a ++ b) ≡ (among i a || among i b) → (r || among i (a ++ b)) ≡ ((r || among i a) || among i b)
    by true e = refl
    by false e = e

or_false : (x y : Bool) → y ≡ false → (x || y) ≡ x
or_false true y e = refl
or_false false y e = e

pub same_number : (n : ℕ) → (n == n) ≡ true
same_number n = grind (arith, nat_tests)

pub other_number : (m n : ℕ) → (m ≡ n → ⊥) → (m == n) ≡ false
other_number m n h = by (m == n) refl
  where
    by : (r : Bool) → (m == n) ≡ r → r ≡ false
    by true e = absurd (h (grind (arith, nat_tests)))
    by false e = refl

pub equal_number : (m n : ℕ) → (m == n) ≡ true → m ≡ n
equal_number m n e = grind (arith, nat_tests)

pub sub_there : (heads : List SubHead) (i : ℕ) → among i (map (λ (h : SubHead). h.scope) heads) ≡ true
    → (head : SubHead) × (sub_with heads i ≡ Some head) × (head.scope ≡ i)
sub_there [] i e = absurd (cc)
sub_there (h ∷ heads) i e = by (h.scope == i) refl e (λ q. sub_there heads i q)
  where
    by : (r : Bool) → (h.scope == i) ≡ r → (r || among i (map (λ (x : SubHead). x.scope) heads)) ≡ true
        → (among i (map (λ (x : SubHead). x.scope) heads) ≡ true → (head : SubHead) × (sub_with heads i ≡ Some head) × (head.scope ≡ i))
        → (head : SubHead) × ((if r then Some h else sub_with heads i) ≡ Some head) × (head.scope ≡ i)
    by true same q rest = (h, refl, equal_number h.scope i same)
    by false same q rest = rest q

pub sub_none : (heads : List SubHead) (i : ℕ) → among i (map (λ (h : SubHead). h.scope) heads) ≡ false → sub_with heads i ≡ None
sub_none [] i e = refl
sub_none (h ∷ heads) i e = by (h.scope == i) e (λ q. sub_none heads i q)
  where
    by : (r : Bool) → (r || among i (map (λ (x : SubHead). x.scope) heads)) ≡ false
        → (among i (map (λ (x : SubHead). x.scope) heads) ≡ false → sub_with heads i ≡ None) → (if r then Some h else sub_with heads i) ≡ None
    by true q rest = absurd (cc)
    by false q rest = rest q

place_none : (ms : List ModuleHead) (i : ℕ) → among i (map (λ (m : ModuleHead). m.scope) ms) ≡ false
    → position_or_len (λ (m : ModuleHead). m.scope == i) ms ≡ length ms
place_none [] i e = refl
place_none (m ∷ ms) i e = by (m.scope == i) e (λ q. place_none ms i q)
  where
    by : (r : Bool) → (r || among i (map (λ (x : ModuleHead). x.scope) ms)) ≡ false
        → (among i (map (λ (x : ModuleHead). x.scope) ms) ≡ false → position_or_len (λ (x : ModuleHead). x.scope == i) ms ≡ length ms)
        → cond (not r) (1 + position_or_len (λ (x : ModuleHead). x.scope == i) ms) 0 ≡ suc (length ms)
    by true q rest = absurd (cc)
    by false q rest = let e = rest q in omega (arith, e)

place_some : (ms : List ModuleHead) (i : ℕ) → among i (map (λ (m : ModuleHead). m.scope) ms) ≡ true
    → position_or_len (λ (m : ModuleHead). m.scope == i) ms < length ms
place_some [] i e = absurd (cc)
place_some (m ∷ ms) i e = by (m.scope == i) e (λ q. place_some ms i q)
  where
    by : (r : Bool) → (r || among i (map (λ (x : ModuleHead). x.scope) ms)) ≡ true
        → (among i (map (λ (x : ModuleHead). x.scope) ms) ≡ true → position_or_len (λ (x : ModuleHead). x.scope == i) ms < length ms)
        → cond (not r) (1 + position_or_len (λ (x : ModuleHead). x.scope == i) ms) 0 < suc (length ms)
    by true q rest = omega arith
    by false q rest = let e = rest q in omega (arith, e)

-- the scopes but the program's whose variables are main's are those of modules
pub mains_are : (b : Blocks) (i : ℕ) → 0 < i → is_mains b i ≡ among i (map (λ (m : ModuleHead). m.scope) b.modules)
mains_are b i some = by (among i (map (λ (m : ModuleHead). m.scope) b.modules)) refl
  where
    at : ℕ
    at = position_or_len (λ (m : ModuleHead). m.scope == i) b.modules

    zero_test : (i == 0) ≡ false
    zero_test = other_number i 0 (λ e. omega (arith, some, e))

    by : (r : Bool) → among i (map (λ (m : ModuleHead). m.scope) b.modules) ≡ r → is_mains b i ≡ r
    by true e =
        let within = place_some b.modules i e in
        let test : nat_lt at (length b.modules) ≡ true = grind (arith, nat_tests) in
        ap (λ (r : Bool). r || is_some (module_of b i)) zero_test ∙ ap (λ (r : Bool). is_some (cond r (Some at) None)) test
    by false e =
        let last = place_none b.modules i e in
        let test : nat_lt at (length b.modules) ≡ false = grind (arith, nat_tests) in
        ap (λ (r : Bool). r || is_some (module_of b i)) zero_test ∙ ap (λ (r : Bool). is_some (cond r (Some at) None)) test

-- ## Blocks by their scopes

found_append : (a b : List Block) (j : ℕ) (d : Block) → found_block (a ++ b) j d ≡ found_block a j (found_block b j d)
found_append [] b j d = refl
found_append (x ∷ a) b j d = ap (λ (y : Block). if x.scope == j then x else y) (found_append a b j d)

pub found_self : (b d : Block) → found_block (b ∷ []) b.scope d ≡ b
found_self b d = ap (λ (r : Bool). if r then b else d) (same_number b.scope)

found_other : (b d : Block) (j : ℕ) → (b.scope ≡ j → ⊥) → found_block (b ∷ []) j d ≡ d
found_other b d j h = ap (λ (r : Bool). if r then b else d) (other_number b.scope j h)

-- the scope j is of none of these
pub record Out (j : ℕ) (is : List ℕ) (bs : List Block) : Type 0 where
  pub subs : among j is ≡ false
  pub blocks : (d : Block) → found_block bs j d ≡ d

out_nil : (j : ℕ) → Out j [] []
out_nil j = record { subs = refl; blocks = λ d. refl }

out_append : (j : ℕ) (is js : List ℕ) (a b : List Block) → Out j is a → Out j js b → Out j (is ++ js) (a ++ b)
out_append j is js a b p q =
    record {
      subs = among_append j is js ∙ (ap (λ (r : Bool). r || among j js) p.subs ∙ q.subs);
      blocks = λ d. found_append a b j d ∙ (ap (λ (x : Block). found_block a j x) (q.blocks d) ∙ p.blocks d);
    }

out_push : (j : ℕ) (is : List ℕ) (a : List Block) (b : Block) → Out j is a → (b.scope ≡ j → ⊥) → Out j is (a ++ b ∷ [])
out_push j is a b p other =
    record {
      subs = p.subs;
      blocks = λ d. found_append a (b ∷ []) j d ∙ (ap (λ (x : Block). found_block a j x) (found_other b d j other) ∙ p.blocks d);
    }

mutual
  pub part_out :
      (s : State) (in_process : Bool) (i n : ℕ) (outer : List Level) (next : ℕ) (q : PartTree) (j : ℕ) → (next ≤ j → j < next + part_scopes q → ⊥)
      → Out j (part_subs next q) (part_blocks s in_process i n outer next q)
  part_out s in_process i n outer next (consts items) j h = out_nil j
  part_out s in_process i n outer next (types items) j h = out_nil j
  part_out s in_process i n outer next (vars vs) j h = out_nil j
  part_out s in_process i n outer next (sub_part b) j h = sub_out s in_process i n outer next b j h
  part_out s in_process i n outer next (monitor m) j h = module_out s i n outer next m j h
  part_out s in_process i n outer next (resource m) j h = module_out s i n outer next m j h
  part_out s in_process i n outer next (process_part p) j h = process_out s i n outer next p j h

  pub parts_out :
      (s : State) (in_process : Bool) (i n : ℕ) (outer : List Level) (next : ℕ) (qs : PartTrees) (j : ℕ)
      → (next ≤ j → j < next + parts_scopes qs → ⊥) → Out j (parts_subs next qs) (parts_blocks s in_process i n outer next qs)
  parts_out s in_process i n outer next no_parts j h = out_nil j
  parts_out s in_process i n outer next (more_parts q qs) j h =
      let further = passed_part (scope_at s.blocks.scopes i) n q in
      out_append j (part_subs next q) (parts_subs (next + part_scopes q) qs) (part_blocks s in_process i n outer next q)
      (parts_blocks s in_process i further outer (next + part_scopes q) qs)
      (part_out s in_process i n outer next q j (λ u v. h u (omega (arith, v))))
      (parts_out s in_process i further outer (next + part_scopes q) qs j (λ u v. h (omega (arith, u)) (omega (arith, v))))

  sub_out :
      (s : State) (in_process : Bool) (i n : ℕ) (outer : List Level) (next : ℕ) (b : SubTree) (j : ℕ) → (next ≤ j → j < next + sub_scopes b → ⊥)
      → Out j (sub_subs next b) (sub_blocks s in_process i n outer next b)
  sub_out s in_process i n outer next (sub x gs kind ps (body ss from to) p) j h =
      let own = scope_at s.blocks.scopes next in
      let around = level i (passed (scope_at s.blocks.scopes i) n x) ∷ outer in
      let inner = parts_out s in_process next (passed_groups own 0 gs) around (next + 1) ps j (λ u v. h (omega (arith, u)) (omega (arith, v))) in
      let other : next ≡ j → ⊥ = λ e. h (omega (arith, e)) (omega (arith, e)) in
      let more = out_push j (parts_subs (next + 1) ps) (parts_blocks s in_process next (passed_groups own 0 gs) around (next + 1) ps) _ inner other in
      record { subs = ap (λ (r : Bool). r || among j (parts_subs (next + 1) ps)) (other_number next j other) ∙ more.subs; blocks = more.blocks }

  module_out :
      (s : State) (i n : ℕ) (outer : List Level) (next : ℕ) (m : ModuleTree) (j : ℕ) → (next ≤ j → j < next + module_scopes m → ⊥)
      → Out j (module_subs next m) (module_blocks s i n outer next m)
  module_out s i n outer next (the_module x exports ps b last p) j h =
      parts_out s false next 0 (level i n ∷ outer) (next + 1) ps j (λ u v. h (omega (arith, u)) (omega (arith, v)))

  process_out :
      (s : State) (i n : ℕ) (outer : List Level) (next : ℕ) (q : ProcessTree) (j : ℕ) → (next ≤ j → j < next + process_scopes q → ⊥)
      → Out j (process_subs next q) (process_blocks s i n outer next q)
  process_out s i n outer next (process many x gs es ps (body ss from to) p) j h =
      let own = scope_at s.blocks.scopes next in
      let count = passed_entries own (passed_groups own 0 gs) es in
      let around = level i (passed (scope_at s.blocks.scopes i) n x) ∷ outer in
      out_push j (parts_subs (next + 1) ps) (parts_blocks s true next count around (next + 1) ps) _
      (parts_out s true next count around (next + 1) ps j (λ u v. h (omega (arith, u)) (omega (arith, v))))
      (λ e. h (omega (arith, e)) (omega (arith, e)))

-- what has the scope j in the program, it has among these
record Agrees (g : Program) (j : ℕ) (is : List ℕ) (bs : List Block) : Type 0 where
  subs : among j (map (λ (h : SubHead). h.scope) g.state.blocks.subs) ≡ among j is
  block : block_at g j ≡ found_block bs j g.main

agrees_left : (g : Program) (j : ℕ) (is js : List ℕ) (a b : List Block) → Agrees g j (is ++ js) (a ++ b) → Out j js b → Agrees g j is a
agrees_left g j is js a b h out =
    record {
      subs = h.subs ∙ (among_append j is js ∙ or_false (among j is) (among j js) out.subs);
      block = h.block ∙ (found_append a b j g.main ∙ ap (λ (x : Block). found_block a j x) (out.blocks g.main));
    }

agrees_right : (g : Program) (j : ℕ) (is js : List ℕ) (a b : List Block) → Agrees g j (is ++ js) (a ++ b) → Out j is a → Agrees g j js b
agrees_right g j is js a b h out =
    record {
      subs = h.subs ∙ (among_append j is js ∙ ap (λ (r : Bool). r || among j js) out.subs);
      block = h.block ∙ (found_append a b j g.main ∙ out.blocks (found_block b j g.main));
    }

agrees_inner : (g : Program) (j : ℕ) (is : List ℕ) (a : List Block) (b : Block) → Agrees g j is (a ++ b ∷ []) → (b.scope ≡ j → ⊥) → Agrees g j is a
agrees_inner g j is a b h other =
    record {
      subs = h.subs;
      block = h.block ∙ (found_append a (b ∷ []) j g.main ∙ ap (λ (x : Block). found_block a j x) (found_other b g.main j other));
    }

agrees_behind : (g : Program) (i j : ℕ) (is : List ℕ) (a : List Block) → Agrees g j (i ∷ is) a → (i ≡ j → ⊥) → Agrees g j is a
agrees_behind g i j is a h other =
    record { subs = h.subs ∙ ap (λ (r : Bool). r || among j is) (other_number i j other); block = h.block }

-- the block behind its inner ones
agrees_own : (g : Program) (is js : List ℕ) (a : List Block) (b : Block) → Agrees g b.scope is (a ++ b ∷ []) → Out b.scope js a → block_at g b.scope ≡ b
agrees_own g is js a b h out =
    h.block ∙ (found_append a (b ∷ []) b.scope g.main ∙ (ap (λ (x : Block). found_block a b.scope x) (found_self b g.main) ∙ out.blocks b))

-- ## Places

-- each variable of the scope i stands at its place in this layout
abbrev pub Holds : Program → ℕ → Layout → Type 0
Holds g i layout =
    (k : ℕ) (m : Meaning) → IsAt (scope_at g.state.blocks.scopes i) k m → is_laid m ≡ true
    → slice_get layout (variable_place g.state.blocks i k) ≡ Some m

-- the layout is that of the sub with the scope i, or else of a process
abbrev pub IsLaidOut : Program → ℕ → Option SubHead → Layout → Type 0
IsLaidOut g i None layout = (accepts : List Names) × (layout ≡ process_layout (scope_at g.state.blocks.scopes i) accepts)
IsLaidOut g i (Some head) layout = layout ≡ sub_layout g.state.blocks head

abbrev pub IsBlocks : Program → ℕ → Layout → Type 0
IsBlocks g i layout = IsLaidOut g i (sub_with g.state.blocks.subs i) layout

-- where the scope is not main's, its variables have places in its own block
abbrev pub Fine : Program → ℕ → Type 0
Fine g i =
    is_mains g.state.blocks i ≡ false
    → Holds g i (block_at g i).layout × ((block_at g i).cells ≡ layout_cells g.state.forms (block_at g i).layout) × IsBlocks g i (block_at g i).layout

-- the variables of the accept with the scope i stand at their places in the block, to which no link leads
pub record InAccept (g : Program) (b : Block) (i : ℕ) : Type 0 where
  pub stands :
      (k : ℕ) (m : Meaning) → IsAt (scope_at g.state.blocks.scopes i) k m → is_laid m ≡ true
      → slice_get b.layout
      (length (process_layout (scope_at g.state.blocks.scopes b.scope) (take (i - b.next) (drop b.next g.state.blocks.scopes)))
      + variable_place g.state.blocks i k) ≡ Some m
  pub links : block_at g (links_up g (links_from g.state.blocks b i) b.scope) ≡ b
  pub none : sub_with g.state.blocks.subs i ≡ None

pub record Placed (g : Program) (b : Block) : Type 0 where
  pub laid : AreLaid b.layout
  pub seen : (i : ℕ) → sees b.env.view i ≡ true → Fine g i × (is_accept b i ≡ false)
  pub accept : (i : ℕ) → is_accept b i ≡ true → InAccept g b i
  -- a guard sees no more than the body
  pub guard : IfSome b.guard (λ w. (i : ℕ) → sees w.env.view i ≡ true → sees b.env.view i ≡ true)

guard_sees : (env : Env) (kind : KindTree) (v : List Level) → ((j : ℕ) → sees env.view j ≡ true → sees v j ≡ true)
    → IfSome (guard_of env kind) (λ w. (j : ℕ) → sees w.env.view j ≡ true → sees v j ≡ true)
guard_sees env procedure v h = tt
guard_sees env (function x p) v h = tt
guard_sees env (guarded e p) v h = h

place_own : (b : Blocks) (i k : ℕ) → is_mains b i ≡ false
    → variable_place b i k ≡ length (laid_names (take k (scope_at b.scopes i))) + behind_result (sub_with b.subs i) k
place_own b i k h = by (i == 0) (module_of b i) h
  where
    own : ℕ
    own = length (laid_names (take k (scope_at b.scopes i))) + behind_result (sub_with b.subs i) k

    by : (r : Bool) (o : Option ℕ) → (r || is_some o) ≡ false
        → (if r then length (main_layout b (take k (scope_at b.scopes 0))) else before_scope b o + own) ≡ own
    by true o e = absurd (cc)
    by false (Some n) e = absurd (cc)
    by false None e = omega arith

sub_holds : (g : Program) (i : ℕ) → is_mains g.state.blocks i ≡ false → among i (map (λ (h : SubHead). h.scope) g.state.blocks.subs) ≡ true
    → Holds g i (sub_layout_at g.state.blocks i)
sub_holds g i apart has k m h laid =
    let b = g.state.blocks in
    let found = sub_there b.subs i has in
    let head = found.0 in
    let e : sub_with b.subs i ≡ Some head = found.1 in
    let at : head.scope ≡ i = found.2 in
    let stands = sub_place b head k m (subst (λ j. IsAt (scope_at b.scopes j) k m) (sym at) h) laid in
    let place = place_own b i k apart in
    let layout : sub_layout_at b i ≡ sub_layout b head = ap (λ (o : Option SubHead). layout_by b o) e in
    let own = length (laid_names (take k (scope_at b.scopes head.scope))) + behind_result (Some head) k in
    let behind : behind_result (sub_with b.subs i) k ≡ behind_result (Some head) k = ap (λ (o : Option SubHead). behind_result o k) e in
    let names : length (laid_names (take k (scope_at b.scopes head.scope))) ≡ length (laid_names (take k (scope_at b.scopes i))) =
    ap (λ (j : ℕ). length (laid_names (take k (scope_at b.scopes j)))) at in
    let same : variable_place b i k ≡ own = omega (arith, place, behind, names) in
    ap (λ (l : Layout). slice_get l (variable_place b i k)) layout ∙ get_there (sub_layout b head) own (variable_place b i k) m stands same

process_holds : (g : Program) (i : ℕ) (accepts : List Names) → is_mains g.state.blocks i ≡ false
    → among i (map (λ (h : SubHead). h.scope) g.state.blocks.subs) ≡ false → Holds g i (process_layout (scope_at g.state.blocks.scopes i) accepts)
process_holds g i accepts apart none k m h laid =
    let b = g.state.blocks in
    let own = scope_at b.scopes i in
    let place = place_own b i k apart in
    let behind : behind_result (sub_with b.subs i) k ≡ 0 = ap (λ (o : Option SubHead). behind_result o k) (sub_none b.subs i none) in
    get_there (process_layout own accepts) (length (laid_names (take k own))) (variable_place b i k) m (process_place own accepts k m h laid)
    (omega (arith, place, behind))

fine_mains : (g : Program) (i : ℕ) → is_mains g.state.blocks i ≡ true → Fine g i
fine_mains g i e = λ apart. let both : true ≡ false = sym e ∙ apart in absurd (cc)

fine_more : (g : Program) (i j : ℕ) (rest : Bool) → Fine g i → (rest ≡ true → Fine g j) → (i == j || rest) ≡ true → Fine g j
fine_more g i j rest mine others = by (i == j) refl
  where
    by : (r : Bool) → (i == j) ≡ r → (r || rest) ≡ true → Fine g j
    by true e q = subst (λ (k : ℕ). Fine g k) (equal_number i j e) mine
    by false e q = others q

fine_program : (g : Program) (j : ℕ) → (0 == j || false) ≡ true → Fine g j
fine_program g j = fine_more g 0 j false (fine_mains g 0 refl) (λ q. absurd (cc))

none_accepted : (next j : ℕ) → (nat_le next j && nat_lt j (next + 0)) ≡ false
none_accepted next j = by (nat_le next j) (nat_lt j (next + 0)) refl refl
  where
    by : (r q : Bool) → nat_le next j ≡ r → nat_lt j (next + 0) ≡ q → (r && q) ≡ false
    by true true e f =
        let low : next ≤ j = grind (arith, nat_tests) in let high : j < next + 0 = grind (arith, nat_tests) in absurd (omega (arith, low, high))
    by true false e f = refl
    by false q e f = refl

-- a scope that stands before those of the accepts
before_accepts : (next accepts j : ℕ) → j < next → (nat_le next j && nat_lt j (next + accepts)) ≡ false
before_accepts next accepts j h = by (nat_le next j) refl
  where
    by : (r : Bool) → nat_le next j ≡ r → (r && nat_lt j (next + accepts)) ≡ false
    by true e = let low : next ≤ j = grind (arith, nat_tests) in absurd (omega (arith, low, h))
    by false e = refl

seen_before : (next j : ℕ) → (next == j || (0 == j || false)) ≡ true → j ≤ next
seen_before next j = by (next == j) (0 == j) refl refl
  where
    by : (r q : Bool) → (next == j) ≡ r → (0 == j) ≡ q → (r || (q || false)) ≡ true → j ≤ next
    by true q e f h = let same = equal_number next j e in omega (arith, same)
    by false true e f h = let same = equal_number 0 j f in omega (arith, same)
    by false false e f h = absurd (cc)

mutual
  part_placed :
      (g : Program) (h : Home) (in_process : Bool) (i n : ℕ) (outer : List Level) (next : ℕ) (q : PartTree) → IsLawfulPart h (forget_part q)
      → (HoldsModules h → ⊥) → ((j : ℕ) → (i == j || sees outer j) ≡ true → Fine g j)
      → ((j : ℕ) → next ≤ j → j < next + part_scopes q → is_mains g.state.blocks j ≡ false)
      → ((j : ℕ) → next ≤ j → j < next + part_scopes q → Agrees g j (part_subs next q) (part_blocks g.state in_process i n outer next q))
      → All (Placed g) (part_blocks g.state in_process i n outer next q)
  part_placed g h in_process i n outer next (consts items) lawful home fine apart agree = All-nil (Placed g)
  part_placed g h in_process i n outer next (types items) lawful home fine apart agree = All-nil (Placed g)
  part_placed g h in_process i n outer next (vars vs) lawful home fine apart agree = All-nil (Placed g)
  part_placed g h in_process i n outer next (sub_part b) lawful home fine apart agree =
      sub_placed g h in_process i n outer next b lawful fine apart agree
  part_placed g h in_process i n outer next (monitor m) lawful home fine apart agree = absurd (home lawful.0)
  part_placed g h in_process i n outer next (resource m) lawful home fine apart agree = absurd (home lawful.0)
  part_placed g h in_process i n outer next (process_part p) lawful home fine apart agree = absurd (home lawful.0)

  parts_placed :
      (g : Program) (h : Home) (in_process : Bool) (i n : ℕ) (outer : List Level) (next : ℕ) (qs : PartTrees) → AreLawfulParts h (forget_parts qs)
      → (HoldsModules h → ⊥) → ((j : ℕ) → (i == j || sees outer j) ≡ true → Fine g j)
      → ((j : ℕ) → next ≤ j → j < next + parts_scopes qs → is_mains g.state.blocks j ≡ false)
      → ((j : ℕ) → next ≤ j → j < next + parts_scopes qs → Agrees g j (parts_subs next qs) (parts_blocks g.state in_process i n outer next qs))
      → All (Placed g) (parts_blocks g.state in_process i n outer next qs)
  parts_placed g h in_process i n outer next no_parts lawful home fine apart agree = All-nil (Placed g)
  parts_placed g h in_process i n outer next (more_parts q qs) lawful home fine apart agree =
      let further = passed_part (scope_at g.state.blocks.scopes i) n q in
      let a = part_blocks g.state in_process i n outer next q in
      let b = parts_blocks g.state in_process i further outer (next + part_scopes q) qs in
      All-append (Placed g) a b
      (part_placed g h in_process i n outer next q lawful.0 home fine (λ j x y. apart j x (omega (arith, y)))
      (λ j x y. agrees_left g j (part_subs next q) (parts_subs (next + part_scopes q) qs) a b (agree j x (omega (arith, y)))
      (parts_out g.state in_process i further outer (next + part_scopes q) qs j (λ z w. omega (arith, y, z)))))
      (parts_placed g h in_process i further outer (next + part_scopes q) qs lawful.1 home fine (λ j x y. apart j (omega (arith, x)) (omega (arith, y)))
      (λ j x y. agrees_right g j (part_subs next q) (parts_subs (next + part_scopes q) qs) a b (agree j (omega (arith, x)) (omega (arith, y)))
      (part_out g.state in_process i n outer next q j (λ z w. omega (arith, x, w)))))

  sub_placed :
      (g : Program) (h : Home) (in_process : Bool) (i n : ℕ) (outer : List Level) (next : ℕ) (b : SubTree) → IsLawfulSub h (forget_sub b)
      → ((j : ℕ) → (i == j || sees outer j) ≡ true → Fine g j)
      → ((j : ℕ) → next ≤ j → j < next + sub_scopes b → is_mains g.state.blocks j ≡ false)
      → ((j : ℕ) → next ≤ j → j < next + sub_scopes b → Agrees g j (sub_subs next b) (sub_blocks g.state in_process i n outer next b))
      → All (Placed g) (sub_blocks g.state in_process i n outer next b)
  sub_placed g h in_process i n outer next (sub x gs kind ps (body ss from to) p) lawful fine apart agree =
      let own = scope_at g.state.blocks.scopes next in
      let count = passed_groups own 0 gs in
      let around = level i (passed (scope_at g.state.blocks.scopes i) n x) ∷ outer in
      let guard = guard_of (env_at g.state (level next count ∷ level i n ∷ outer) (around_guard i)) kind in
      let b = block_of next i (env_at g.state (here g.state.blocks.scopes next around) (around_sub in_process kind)) (next + 1 + parts_scopes ps)
      (body ss from to) (sub_layout_at g.state.blocks next) 0 guard in
      let inner = parts_blocks g.state in_process next count around (next + 1) ps in
      let is = parts_subs (next + 1) ps in
      let free : Out next is inner = parts_out g.state in_process next count around (next + 1) ps next (λ x y. omega (arith, x)) in
      let at : Agrees g next (next ∷ is) (inner ++ b ∷ []) = agree next (omega arith) (omega arith) in
      let me : block_at g next ≡ b = agrees_own g (next ∷ is) is inner b at free in
      let has : among next (map (λ (h : SubHead). h.scope) g.state.blocks.subs) ≡ true =
      at.subs ∙ ap (λ (r : Bool). r || among next is) (same_number next) in
      let mine : Fine g next =
      λ e. subst (λ (x : Block). Holds g next x.layout × (x.cells ≡ layout_cells g.state.forms x.layout) × IsBlocks g next x.layout) (sym me)
      (sub_holds g next e has, refl, its_layout (sub_with g.state.blocks.subs next) refl (sub_there g.state.blocks.subs next has)) in
      let all : (j : ℕ) → (next == j || (i == j || sees outer j)) ≡ true → Fine g j =
      λ j. fine_more g next j (i == j || sees outer j) mine (fine j) in
      All-append (Placed g) inner (b ∷ [])
      (parts_placed g of_other in_process next count around (next + 1) ps lawful.2 (λ e. e) all
      (λ j x y. apart j (omega (arith, x)) (omega (arith, y)))
      (λ j x y. agrees_inner g j is inner b (agrees_behind g next j is (inner ++ b ∷ []) (agree j (omega (arith, x)) (omega (arith, y)))
      (λ e. omega (arith, x, e))) (λ e. omega (arith, x, e))))
      (All-cons (Placed g) b []
      (record {
        laid = sub_is_laid g.state.blocks (sub_with g.state.blocks.subs next);
        seen = λ j q. (all j q, none_accepted (next + 1 + parts_scopes ps) j);
        accept = λ j q. let both : true ≡ false = sym q ∙ none_accepted (next + 1 + parts_scopes ps) j in absurd (cc);
        guard = guard_sees (env_at g.state (level next count ∷ level i n ∷ outer) (around_guard i)) kind (here g.state.blocks.scopes next around) (λ j q. q);
      }) (All-nil (Placed g)))
    where
      its_layout :
          (o : Option SubHead) → sub_with g.state.blocks.subs next ≡ o
          → (head : SubHead) × (sub_with g.state.blocks.subs next ≡ Some head) × (head.scope ≡ next) → IsLaidOut g next o (layout_by g.state.blocks o)
      its_layout None e h = let both : None ≡ Some h.0 = sym e ∙ h.1 in absurd (cc)
      its_layout (Some head) e h = refl

process_placed :
    (g : Program) (n next : ℕ) (q : ProcessTree) → IsLawfulProcess (forget_process q)
    → ((j : ℕ) → next ≤ j → j < next + process_scopes q → is_mains g.state.blocks j ≡ false)
    → ((j : ℕ) → next ≤ j → j < next + process_scopes q → Agrees g j (process_subs next q) (process_blocks g.state 0 n [] next q))
    → All (Placed g) (process_blocks g.state 0 n [] next q)
process_placed g n next (process many x gs es ps (body ss from to) p) lawful apart agree =
    let scopes = g.state.blocks.scopes in
    let own = scope_at scopes next in
    let count = passed_entries own (passed_groups own 0 gs) es in
    let around = level 0 (passed (scope_at scopes 0) n x) ∷ [] in
    let stmts = body ss from to in
    let first = next + 1 + parts_scopes ps in
    let b = block_of next 0 (env_at g.state (here scopes next around) around_process) first stmts
    (process_layout own (take (body_scopes stmts) (drop first scopes))) (body_scopes stmts) None in
    let inner = parts_blocks g.state true next count around (next + 1) ps in
    let is = parts_subs (next + 1) ps in
    let free : Out next is inner = parts_out g.state true next count around (next + 1) ps next (λ x y. omega (arith, x)) in
    let at : Agrees g next is (inner ++ b ∷ []) = agree next (omega arith) (omega arith) in
    let me : block_at g next ≡ b = agrees_own g is is inner b at free in
    let mine : Fine g next =
    λ e. subst (λ (x : Block). Holds g next x.layout × (x.cells ≡ layout_cells g.state.forms x.layout) × IsBlocks g next x.layout) (sym me) (
      process_holds g next (take (body_scopes stmts) (drop first scopes)) e (at.subs ∙ free.subs),
      refl,
      subst (λ (o : Option SubHead). IsLaidOut g next o b.layout) (sym (sub_none g.state.blocks.subs next (at.subs ∙ free.subs)))
          (take (body_scopes stmts) (drop first scopes), refl),
    ) in
    let all : (j : ℕ) → (next == j || (0 == j || false)) ≡ true → Fine g j = λ j. fine_more g next j (0 == j || false) mine (fine_program g j) in
    let accepted : (j : ℕ) → first ≤ j → j < first + body_scopes stmts → InAccept g b j =
    λ j low high.
    let e : is_mains g.state.blocks j ≡ false = apart j (omega (arith, low)) (omega (arith, high)) in
    let out = parts_out g.state true next count around (next + 1) ps j (λ u v. omega (arith, low, v)) in
    let there = agree j (omega (arith, low)) (omega (arith, high)) in
    let nobody = sub_none g.state.blocks.subs j (there.subs ∙ out.subs) in
    let behind : (k : ℕ) → behind_result (sub_with g.state.blocks.subs j) k ≡ 0 = λ k. ap (λ (o : Option SubHead). behind_result o k) nobody in
    let links : links_from g.state.blocks b j ≡ 0 =
    ap (λ (r : Bool). cond r (level_of g.state.blocks b) (unwrap_or (position (λ k. k == j) (linked g.state.blocks b.env.view)) 0)) e
    ∙ ap (λ (r : Bool). unwrap_or (position (λ k. k == j) (cond r [] (next ∷ []))) 0) (apart next (omega arith) (omega arith))
    ∙ ap (λ (r : Bool). unwrap_or (cond (nat_lt (cond (not r) (1 + 0) 0) 1) (Some (cond (not r) (1 + 0) 0)) None) 0)
    (other_number next j (λ e. omega (arith, low, e))) in
    record {
      stands = λ k m h laid.
          let place = place_own g.state.blocks j k e in
          let none = behind k in
          let before = length (process_layout own (take (j - first) (drop first scopes))) in
          get_there b.layout (before + length (laid_names (take k (scope_at scopes j)))) (before + variable_place g.state.blocks j k) m
          (accept_place scopes own first (body_scopes stmts) j k m low high h laid) (omega (arith, place, none));
      links = ap (λ (l : ℕ). block_at g (links_up g l next)) links
          ∙ ap (λ (r : Bool). block_at g (cond r 0 next)) (apart next (omega arith) (omega arith)) ∙ me;
      none = nobody;
    } in
    All-append (Placed g) inner (b ∷ [])
    (parts_placed g of_other true next count around (next + 1) ps lawful.2 (λ e. e) all
    (λ j x y. apart j (omega (arith, x)) (omega (arith, y)))
    (λ j x y. agrees_inner g j is inner b (agree j (omega (arith, x)) (omega (arith, y))) (λ e. omega (arith, x, e))))
    (All-cons (Placed g) b []
    (record {
      laid = process_is_laid own (take (body_scopes stmts) (drop first scopes));
      seen = λ j q. (all j q, before_accepts first (body_scopes stmts) j (let low = seen_before next j q in omega (arith, low)));
      accept = λ j q. accepted j (at_least first j (and_left (nat_le first j) (nat_lt j (first + body_scopes stmts)) q))
          (below first (body_scopes stmts) j (and_right (nat_le first j) (nat_lt j (first + body_scopes stmts)) q));
      guard = tt;
    }) (All-nil (Placed g)))
  where
    at_least : (m n : ℕ) → nat_le m n ≡ true → m ≤ n
    at_least m n e = grind (arith, nat_tests)

    below : (m k n : ℕ) → nat_lt n (m + k) ≡ true → n < m + k
    below m k n e = grind (arith, nat_tests)

module_placed :
    (g : Program) (h : Home) (n next : ℕ) (m : ModuleTree) → (HoldsModules h → ⊥) → IsLawfulModule h (forget_module m)
    → is_mains g.state.blocks next ≡ true
    → ((j : ℕ) → next < j → j < next + module_scopes m → is_mains g.state.blocks j ≡ false)
    → ((j : ℕ) → next ≤ j → j < next + module_scopes m → Agrees g j (module_subs next m) (module_blocks g.state 0 n [] next m))
    → All (Placed g) (module_blocks g.state 0 n [] next m)
module_placed g h n next (the_module x exports ps b last p) home lawful mains apart agree =
    parts_placed g h false next 0 (level 0 n ∷ []) (next + 1) ps lawful.1 home
    (λ j. fine_more g next j (0 == j || false) (fine_mains g next mains) (fine_program g j))
    (λ j x y. apart j (omega (arith, x)) (omega (arith, y)))
    (λ j x y. agree j (omega (arith, x)) (omega (arith, y)))

-- ## The parts of a program

abbrev pub mods : ℕ → PartTrees → List ℕ
mods next qs = map (λ (m : ModuleHead). m.scope) (modules_from next qs)

pub module_opens : (m : ModuleTree) → 0 < module_scopes m
module_opens (the_module x exports ps b last p) = omega arith

pub mods_behind : (next : ℕ) (qs : PartTrees) (j : ℕ) → j < next → among j (mods next qs) ≡ false
mods_behind next no_parts j h = refl
mods_behind next (more_parts (consts items) qs) j h = mods_behind (next + 0) qs j (omega (arith, h))
mods_behind next (more_parts (types items) qs) j h = mods_behind (next + 0) qs j (omega (arith, h))
mods_behind next (more_parts (vars vs) qs) j h = mods_behind (next + 0) qs j (omega (arith, h))
mods_behind next (more_parts (sub_part b) qs) j h = mods_behind (next + part_scopes (sub_part b)) qs j (omega (arith, h))
mods_behind next (more_parts (monitor m) qs) j h =
    ap (λ (r : Bool). r || among j (mods (next + part_scopes (monitor m)) qs)) (other_number next j (λ e. omega (arith, e, h)))
    ∙ mods_behind (next + part_scopes (monitor m)) qs j (omega (arith, h))
mods_behind next (more_parts (resource m) qs) j h =
    ap (λ (r : Bool). r || among j (mods (next + part_scopes (resource m)) qs)) (other_number next j (λ e. omega (arith, e, h)))
    ∙ mods_behind (next + part_scopes (resource m)) qs j (omega (arith, h))
mods_behind next (more_parts (process_part p) qs) j h = mods_behind (next + part_scopes (process_part p)) qs j (omega (arith, h))

top_join :
    (g : Program) (n next : ℕ) (q : PartTree) (qs : PartTrees)
    → ((j : ℕ) → next ≤ j → j < next + parts_scopes (more_parts q qs)
    → Agrees g j (parts_subs next (more_parts q qs)) (parts_blocks g.state false 0 n [] next (more_parts q qs)))
    → (((j : ℕ) → next ≤ j → j < next + part_scopes q → Agrees g j (part_subs next q) (part_blocks g.state false 0 n [] next q))
    → All (Placed g) (part_blocks g.state false 0 n [] next q))
    → (((j : ℕ) → next + part_scopes q ≤ j → j < next + part_scopes q + parts_scopes qs
    → Agrees g j (parts_subs (next + part_scopes q) qs)
    (parts_blocks g.state false 0 (passed_part (scope_at g.state.blocks.scopes 0) n q) [] (next + part_scopes q) qs))
    → All (Placed g) (parts_blocks g.state false 0 (passed_part (scope_at g.state.blocks.scopes 0) n q) [] (next + part_scopes q) qs))
    → All (Placed g) (parts_blocks g.state false 0 n [] next (more_parts q qs))
top_join g n next q qs agree own rest =
    let further = passed_part (scope_at g.state.blocks.scopes 0) n q in
    let a = part_blocks g.state false 0 n [] next q in
    let b = parts_blocks g.state false 0 further [] (next + part_scopes q) qs in
    All-append (Placed g) a b
    (own (λ j x y. agrees_left g j (part_subs next q) (parts_subs (next + part_scopes q) qs) a b (agree j x (omega (arith, y)))
    (parts_out g.state false 0 further [] (next + part_scopes q) qs j (λ z w. omega (arith, y, z)))))
    (rest (λ j x y. agrees_right g j (part_subs next q) (parts_subs (next + part_scopes q) qs) a b (agree j (omega (arith, x)) (omega (arith, y)))
    (part_out g.state false 0 n [] next q j (λ z w. omega (arith, x, w)))))

-- which scopes are modules', among those of the parts
abbrev AreMods : Program → ℕ → PartTrees → Type 0
AreMods g next qs = (j : ℕ) → next ≤ j → is_mains g.state.blocks j ≡ among j (mods next qs)

mods_more : (g : Program) (next : ℕ) (q : PartTree) (qs : PartTrees) → ((j : ℕ) → next ≤ j → is_mains g.state.blocks j ≡ among j
    (mods (next + part_scopes q) qs)) → AreMods g (next + part_scopes q) qs
mods_more g next q qs h j x = h j (omega (arith, x))

mods_then : (g : Program) (next k : ℕ) (qs : PartTrees) → 0 < k → ((j : ℕ) → next ≤ j → is_mains g.state.blocks j ≡ (next == j || among j
    (mods (next + k) qs))) → AreMods g (next + k) qs
mods_then g next k qs some h j x =
    h j (omega (arith, x)) ∙ ap (λ (r : Bool). r || among j (mods (next + k) qs)) (other_number next j (λ e. omega (arith, e, x, some)))

a_module : (g : Program) (next k : ℕ) (qs : PartTrees) → ((j : ℕ) → next ≤ j → is_mains g.state.blocks j ≡ (next == j || among j
    (mods (next + k) qs))) → is_mains g.state.blocks next ≡ true
a_module g next k qs h =
    h next (omega arith) ∙ ap (λ (r : Bool). r || among next (mods (next + k) qs)) (same_number next)

no_module : (g : Program) (next k : ℕ) (qs : PartTrees) → ((j : ℕ) → next ≤ j → is_mains g.state.blocks j ≡ (next == j || among j
    (mods (next + k) qs))) → (j : ℕ) → next < j → j < next + k → is_mains g.state.blocks j ≡ false
no_module g next k qs h j x y =
    h j (omega (arith, x)) ∙ ap (λ (r : Bool). r || among j (mods (next + k) qs)) (other_number next j (λ e. omega (arith, e, x)))
    ∙ mods_behind (next + k) qs j y

top_placed :
    (g : Program) (n next : ℕ) (qs : PartTrees) → AreLawfulParts of_program (forget_parts qs) → AreMods g next qs
    → ((j : ℕ) → next ≤ j → j < next + parts_scopes qs → Agrees g j (parts_subs next qs) (parts_blocks g.state false 0 n [] next qs))
    → All (Placed g) (parts_blocks g.state false 0 n [] next qs)
top_placed g n next no_parts lawful are agree = All-nil (Placed g)
top_placed g n next (more_parts (consts items) qs) lawful are agree =
    top_join g n next (consts items) qs agree (λ f. All-nil (Placed g))
    (top_placed g (passed_part (scope_at g.state.blocks.scopes 0) n (consts items)) (next + part_scopes (consts items)) qs lawful.1
    (mods_more g next (consts items) qs are))
top_placed g n next (more_parts (types items) qs) lawful are agree =
    top_join g n next (types items) qs agree (λ f. All-nil (Placed g))
    (top_placed g (passed_part (scope_at g.state.blocks.scopes 0) n (types items)) (next + part_scopes (types items)) qs lawful.1
    (mods_more g next (types items) qs are))
top_placed g n next (more_parts (vars vs) qs) lawful are agree =
    top_join g n next (vars vs) qs agree (λ f. All-nil (Placed g))
    (top_placed g (passed_part (scope_at g.state.blocks.scopes 0) n (vars vs)) (next + part_scopes (vars vs)) qs lawful.1
    (mods_more g next (vars vs) qs are))
top_placed g n next (more_parts (sub_part b) qs) lawful are agree =
    top_join g n next (sub_part b) qs agree
    (λ f. sub_placed g of_program false 0 n [] next b lawful.0 (fine_program g)
    (λ j x y. are j x ∙ mods_behind (next + part_scopes (sub_part b)) qs j y) f)
    (top_placed g (passed_part (scope_at g.state.blocks.scopes 0) n (sub_part b)) (next + part_scopes (sub_part b)) qs lawful.1
    (mods_more g next (sub_part b) qs are))
top_placed g n next (more_parts (monitor m) qs) lawful are agree =
    top_join g n next (monitor m) qs agree
    (λ f. module_placed g of_other n next m (λ e. e) lawful.0.1 (a_module g next (part_scopes (monitor m)) qs are)
    (no_module g next (part_scopes (monitor m)) qs are) f)
    (top_placed g (passed_part (scope_at g.state.blocks.scopes 0) n (monitor m)) (next + part_scopes (monitor m)) qs lawful.1
    (mods_then g next (part_scopes (monitor m)) qs (module_opens m) are))
top_placed g n next (more_parts (resource m) qs) lawful are agree =
    top_join g n next (resource m) qs agree
    (λ f. module_placed g of_resource n next m (λ e. e) lawful.0.1 (a_module g next (part_scopes (resource m)) qs are)
    (no_module g next (part_scopes (resource m)) qs are) f)
    (top_placed g (passed_part (scope_at g.state.blocks.scopes 0) n (resource m)) (next + part_scopes (resource m)) qs lawful.1
    (mods_then g next (part_scopes (resource m)) qs (module_opens m) are))
top_placed g n next (more_parts (process_part p) qs) lawful are agree =
    top_join g n next (process_part p) qs agree
    (λ f. process_placed g n next p lawful.0.1 (λ j x y. are j x ∙ mods_behind (next + part_scopes (process_part p)) qs j y) f)
    (top_placed g (passed_part (scope_at g.state.blocks.scopes 0) n (process_part p)) (next + part_scopes (process_part p)) qs lawful.1
    (mods_more g next (process_part p) qs are))

mods_from : (next : ℕ) (qs : PartTrees) (j : ℕ) → among j (mods next qs) ≡ true → next ≤ j
mods_from next qs j e = by (nat_lt j next) refl
  where
    by : (r : Bool) → nat_lt j next ≡ r → next ≤ j
    by true f =
        let low : j < next = grind (arith, nat_tests) in
        let both : true ≡ false = sym e ∙ mods_behind next qs j low in
        absurd (cc)
    by false f = grind (arith, nat_tests)

module_subs_apart : (s : State) (next : ℕ) (m : ModuleTree) → among next (module_subs next m) ≡ false
module_subs_apart s next (the_module x exports ps b last p) = (parts_out s false next 0 [] (next + 1) ps next (λ u v. omega (arith, u))).subs

-- no sub has the scope of a module
apart_behind :
    (s : State) (next : ℕ) (q : PartTree) (qs : PartTrees) (j : ℕ) → among j (mods (next + part_scopes q) qs) ≡ true
    → among j (parts_subs (next + part_scopes q) qs) ≡ false → among j (parts_subs next (more_parts q qs)) ≡ false
apart_behind s next q qs j e rest =
    let low = mods_from (next + part_scopes q) qs j e in
    let out = part_out s false 0 0 [] next q j (λ u v. omega (arith, low, v)) in
    among_append j (part_subs next q) (parts_subs (next + part_scopes q) qs)
    ∙ ap (λ (r : Bool). r || among j (parts_subs (next + part_scopes q) qs)) out.subs ∙ rest

apart_own :
    (s : State) (next : ℕ) (q : PartTree) (qs : PartTrees) → 0 < part_scopes q → among next (part_subs next q) ≡ false
    → among next (parts_subs next (more_parts q qs)) ≡ false
apart_own s next q qs some own =
    let out = parts_out s false 0 0 [] (next + part_scopes q) qs next (λ u v. omega (arith, u, some)) in
    among_append next (part_subs next q) (parts_subs (next + part_scopes q) qs)
    ∙ ap (λ (r : Bool). r || among next (parts_subs (next + part_scopes q) qs)) own ∙ out.subs

either_apart :
    (next : ℕ) (q : PartTree) (qs : PartTrees) (j : ℕ) (rest : Bool) → (next == j || rest) ≡ true → among next (parts_subs next (more_parts q qs)) ≡ false
    → (rest ≡ true → among j (parts_subs next (more_parts q qs)) ≡ false) → among j (parts_subs next (more_parts q qs)) ≡ false
either_apart next q qs j rest e own others = by (next == j) refl e
  where
    by : (r : Bool) → (next == j) ≡ r → (r || rest) ≡ true → among j (parts_subs next (more_parts q qs)) ≡ false
    by true same h = subst (λ (k : ℕ). among k (parts_subs next (more_parts q qs)) ≡ false) (equal_number next j same) own
    by false same h = others h

mods_apart : (s : State) (next : ℕ) (qs : PartTrees) (j : ℕ) → among j (mods next qs) ≡ true → among j (parts_subs next qs) ≡ false
mods_apart s next no_parts j e = refl
mods_apart s next (more_parts (consts items) qs) j e = apart_behind s next (consts items) qs j e (mods_apart s (next + 0) qs j e)
mods_apart s next (more_parts (types items) qs) j e = apart_behind s next (types items) qs j e (mods_apart s (next + 0) qs j e)
mods_apart s next (more_parts (vars vs) qs) j e = apart_behind s next (vars vs) qs j e (mods_apart s (next + 0) qs j e)
mods_apart s next (more_parts (sub_part b) qs) j e =
    apart_behind s next (sub_part b) qs j e (mods_apart s (next + part_scopes (sub_part b)) qs j e)
mods_apart s next (more_parts (process_part p) qs) j e =
    apart_behind s next (process_part p) qs j e (mods_apart s (next + part_scopes (process_part p)) qs j e)
mods_apart s next (more_parts (monitor m) qs) j e =
    either_apart next (monitor m) qs j (among j (mods (next + part_scopes (monitor m)) qs)) e
    (apart_own s next (monitor m) qs (module_opens m) (module_subs_apart s next m))
    (λ q. apart_behind s next (monitor m) qs j q (mods_apart s (next + part_scopes (monitor m)) qs j q))
mods_apart s next (more_parts (resource m) qs) j e =
    either_apart next (resource m) qs j (among j (mods (next + part_scopes (resource m)) qs)) e
    (apart_own s next (resource m) qs (module_opens m) (module_subs_apart s next m))
    (λ q. apart_behind s next (resource m) qs j q (mods_apart s (next + part_scopes (resource m)) qs j q))

-- ## Initialising bodies

-- it stands in a module, and sees that and the program
abbrev pub IsInitial : Program → Block → Type 0
IsInitial g b = Placed g b × (is_mains g.state.blocks b.scope ≡ true) × ((i : ℕ) → sees b.env.view i ≡ true → is_mains g.state.blocks i ≡ true)

init_placed :
    (g : Program) (n next number : ℕ) (b : Option BodyTree) → is_mains g.state.blocks next ≡ true
    → All (IsInitial g) (init_block g.state next (here g.state.blocks.scopes next (level 0 n ∷ [])) number b)
init_placed g n next number None mains = All-nil (IsInitial g)
init_placed g n next number (Some (body ss from to)) mains =
    let seen : (j : ℕ) → (next == j || (0 == j || false)) ≡ true → is_mains g.state.blocks j ≡ true = λ j q. by j (next == j) (0 == j) refl refl q in
    All-cons (IsInitial g) _ [] (
      record {
        laid = tt;
        seen = λ j q. (fine_mains g j (seen j q), none_accepted number j);
        accept = λ j q. let both : true ≡ false = sym q ∙ none_accepted number j in absurd (cc);
        guard = tt;
      },
      mains,
      seen,
    ) (All-nil (IsInitial g))
  where
    by : (j : ℕ) (r q : Bool) → (next == j) ≡ r → (0 == j) ≡ q → (r || (q || false)) ≡ true → is_mains g.state.blocks j ≡ true
    by j true q e f h = subst (λ (k : ℕ). is_mains g.state.blocks k ≡ true) (equal_number next j e) mains
    by j false true e f h = subst (λ (k : ℕ). is_mains g.state.blocks k ≡ true) (equal_number 0 j f) refl
    by j false false e f h = absurd (cc)

module_init_placed : (g : Program) (n next : ℕ) (m : ModuleTree) → is_mains g.state.blocks next ≡ true → All (IsInitial g) (module_inits g.state n next m)
module_init_placed g n next (the_module x exports ps b last p) mains = init_placed g n next (next + 1 + parts_scopes ps) b mains

inits_placed : (g : Program) (n next : ℕ) (qs : PartTrees) → AreMods g next qs → All (IsInitial g) (parts_inits g.state n next qs)
inits_placed g n next no_parts are = All-nil (IsInitial g)
inits_placed g n next (more_parts (consts items) qs) are =
    inits_placed g (passed_part (scope_at g.state.blocks.scopes 0) n (consts items)) (next + 0) qs (mods_more g next (consts items) qs are)
inits_placed g n next (more_parts (types items) qs) are =
    inits_placed g (passed_part (scope_at g.state.blocks.scopes 0) n (types items)) (next + 0) qs (mods_more g next (types items) qs are)
inits_placed g n next (more_parts (vars vs) qs) are =
    inits_placed g (passed_part (scope_at g.state.blocks.scopes 0) n (vars vs)) (next + 0) qs (mods_more g next (vars vs) qs are)
inits_placed g n next (more_parts (sub_part b) qs) are =
    inits_placed g (passed_part (scope_at g.state.blocks.scopes 0) n (sub_part b)) (next + part_scopes (sub_part b)) qs (mods_more g next (sub_part b) qs are)
inits_placed g n next (more_parts (process_part p) qs) are =
    inits_placed g (passed_part (scope_at g.state.blocks.scopes 0) n (process_part p)) (next + part_scopes (process_part p)) qs
    (mods_more g next (process_part p) qs are)
inits_placed g n next (more_parts (monitor m) qs) are =
    let further = passed_part (scope_at g.state.blocks.scopes 0) n (monitor m) in
    All-append (IsInitial g) (part_inits g.state n next (monitor m)) (parts_inits g.state further (next + part_scopes (monitor m)) qs)
    (module_init_placed g n next m (a_module g next (part_scopes (monitor m)) qs are))
    (inits_placed g further (next + part_scopes (monitor m)) qs (mods_then g next (part_scopes (monitor m)) qs (module_opens m) are))
inits_placed g n next (more_parts (resource m) qs) are =
    let further = passed_part (scope_at g.state.blocks.scopes 0) n (resource m) in
    All-append (IsInitial g) (part_inits g.state n next (resource m)) (parts_inits g.state further (next + part_scopes (resource m)) qs)
    (module_init_placed g n next m (a_module g next (part_scopes (resource m)) qs are))
    (inits_placed g further (next + part_scopes (resource m)) qs (mods_then g next (part_scopes (resource m)) qs (module_opens m) are))

-- ## The program

pub program_mods : (t : ProgramTree) → IsLawful (forget_program t) → AreMods (program_of t) 1 t.parts
program_mods t lawful j x =
    mains_are (program_of t).state.blocks j (omega (arith, x))
    ∙ ap (λ (l : List ModuleHead). among j (map (λ (m : ModuleHead). m.scope) l)) (program_modules t lawful)

pub blocks_placed : (t : ProgramTree) → IsLawful (forget_program t) → All (Placed (program_of t)) (program_of t).blocks
blocks_placed t lawful =
    let g = program_of t in
    top_placed g 0 1 t.parts lawful.0 (program_mods t lawful)
    (λ j x y. record { subs = ap (λ (l : List ℕ). among j l) (program_subs t); block = refl })

-- main's block
pub main_found : (t : ProgramTree) → block_at (program_of t) 0 ≡ (program_of t).main
main_found t = (parts_out (program_of t).state false 0 0 [] 1 t.parts 0 (λ x y. omega (arith, x))).blocks (program_of t).main

pub initial_placed : (t : ProgramTree) → IsLawful (forget_program t) → All (IsInitial (program_of t)) (program_of t).modules
initial_placed t lawful = inits_placed (program_of t) 0 1 t.parts (program_mods t lawful)

-- the subs are among the parts
pub no_sub_of_module : (t : ProgramTree) → IsLawful (forget_program t) → (i : ℕ) → 0 < i → is_mains (program_of t).state.blocks i ≡ true
    → sub_with (program_of t).state.blocks.subs i ≡ None
no_sub_of_module t lawful i some mains =
    let b = (program_of t).state.blocks in
    let is : among i (mods 1 t.parts) ≡ true = sym (program_mods t lawful i (omega (arith, some))) ∙ mains in
    sub_none b.subs i (ap (λ (l : List ℕ). among i l) (program_subs t) ∙ mods_apart (program_of t).state 1 t.parts i is)

main_block : (t : ProgramTree) → ((program_of t).main.layout ≡ main_layout (program_of t).state.blocks (scope_at (program_of t).state.blocks.scopes 0))
    × ((program_of t).main.cells ≡ layout_cells (program_of t).state.forms (program_of t).main.layout) × ((program_of t).main.scope ≡ 0)
main_block t = by t.body
  where
    s : State
    s = finished t

    whole : Layout
    whole = main_layout s.blocks (scope_at s.blocks.scopes 0)

    block : BodyTree → Block
    block b = block_of 0 0 (env_of_main s) (1 + parts_scopes t.parts) b whole 0 None

    by : (b : BodyTree) → ((block b).layout ≡ whole) × ((block b).cells ≡ layout_cells s.forms (block b).layout) × ((block b).scope ≡ 0)
    by (body ss from to) = (refl, refl, refl)

pub main_cells_are : (t : ProgramTree) → (program_of t).main.cells ≡ layout_cells (program_of t).state.forms (program_of t).main.layout
main_cells_are t = (main_block t).1

-- the main body sees the program's scope
pub main_placed : (t : ProgramTree) → Placed (program_of t) (program_of t).main
main_placed t = by t.body
  where
    s : State
    s = finished t

    by : (b : BodyTree) → Placed (program_of t) (block_of 0 0 (env_of_main s) (1 + parts_scopes t.parts) b (main_layout s.blocks
        (scope_at s.blocks.scopes 0)) 0 None)
    by (body ss from to) =
        record {
          laid = main_is_laid s.blocks (scope_at s.blocks.scopes 0);
          seen = λ j q. (fine_program (program_of t) j q, none_accepted (1 + parts_scopes t.parts) j);
          accept = λ j q. let both : true ≡ false = sym q ∙ none_accepted (1 + parts_scopes t.parts) j in absurd (cc);
          guard = tt;
        }

-- the variables of the program and of its modules have places in main's block
place_of_module :
    (b : Blocks) (i k n : ℕ) → (i == 0) ≡ false → module_of b i ≡ Some n
    → variable_place b i k ≡ before_module b n (scope_at b.scopes 0)
    + (length (laid_names (take k (scope_at b.scopes i))) + behind_result (sub_with b.subs i) k)
place_of_module b i k n e m =
    let own = length (laid_names (take k (scope_at b.scopes i))) + behind_result (sub_with b.subs i) k in
    ap (λ (r : Bool). if r then length (main_layout b (take k (scope_at b.scopes 0))) else before_scope b (module_of b i) + own) e
    ∙ ap (λ (o : Option ℕ). before_scope b o + own) m

module_found : (b : Blocks) (i n : ℕ) → module_of b i ≡ Some n → (n < length b.modules) × ((module_at b n).scope ≡ i)
module_found b i n e =
    let found = position-Some (λ (m : ModuleHead). m.scope == i) b.modules n no_module_head e in
    (found.0, equal_number (get_or b.modules n no_module_head).scope i found.1)

pub mains_hold : (t : ProgramTree) → IsLawful (forget_program t) → AreNamed (finished t) → (i : ℕ) → is_mains (program_of t).state.blocks i ≡ true
    → Holds (program_of t) i (program_of t).main.layout
mains_hold t lawful named i mains = by (i == 0) refl
  where
    b : Blocks
    b = (finished t).blocks

    whole : Layout
    whole = main_layout b (scope_at b.scopes 0)

    in_main : (p q : ℕ) (d : Meaning) → slice_get whole q ≡ Some d → p ≡ q → slice_get (program_of t).main.layout p ≡ Some d
    in_main p q d e same = ap (λ (l : Layout). slice_get l p) (main_block t).0 ∙ get_there whole q p d e same

    of_module : (i == 0) ≡ false → (o : Option ℕ) → module_of b i ≡ o → ((i == 0) || is_some o) ≡ true → Holds (program_of t) i (program_of t).main.layout
    of_module e None m h = let both : (false || false) ≡ true = sym (ap (λ (r : Bool). r || false) e) ∙ h in absurd (cc)
    of_module e (Some n) m h = λ k d at laid.
        let found = module_found b i n m in
        let own = before_module b n (scope_at b.scopes 0) + length (laid_names (take k (scope_at b.scopes (module_at b n).scope))) in
        let some : 0 < i = positive i e in
        let none : behind_result (sub_with b.subs i) k ≡ 0 = ap (λ (o : Option SubHead). behind_result o k) (no_sub_of_module t lawful i some mains) in
        let place = place_of_module b i k n e m in
        let names : length (laid_names (take k (scope_at b.scopes (module_at b n).scope))) ≡ length (laid_names (take k (scope_at b.scopes i))) =
        ap (λ (j : ℕ). length (laid_names (take k (scope_at b.scopes j)))) found.1 in
        in_main (variable_place b i k) own d
        (module_place b n k d (named n found.0) (subst (λ (j : ℕ). IsAt (scope_at b.scopes j) k d) (sym found.1) at) laid)
        (omega (arith, none, place, names))
      where
        positive : (i : ℕ) → (i == 0) ≡ false → 0 < i
        positive i e = grind (arith, nat_tests)

    by : (r : Bool) → (i == 0) ≡ r → Holds (program_of t) i (program_of t).main.layout
    by true e = λ k d at laid.
        let same : i ≡ 0 = equal_number i 0 e in
        let place : variable_place b i k ≡ length (main_layout b (take k (scope_at b.scopes 0))) =
        ap (λ (r : Bool). if r then length (main_layout b (take k (scope_at b.scopes 0))) else before_scope b (module_of b i)
        + (length (laid_names (take k (scope_at b.scopes i))) + behind_result (sub_with b.subs i) k)) e in
        in_main (variable_place b i k) (length (main_layout b (take k (scope_at b.scopes 0)))) d
        (main_place b (scope_at b.scopes 0) k d (subst (λ (j : ℕ). IsAt (scope_at b.scopes j) k d) same at) laid) place
    by false e = of_module e (module_of b i) refl mains

-- ## Subs have scopes of their own

abbrev AreDistinct : List ℕ → Type 0
AreDistinct [] = Unit {0}
AreDistinct (i ∷ is) = (among i is ≡ false) × AreDistinct is

distinct_append : (a b : List ℕ) → AreDistinct a → AreDistinct b → ((j : ℕ) → among j a ≡ true → among j b ≡ false) → AreDistinct (a ++ b)
distinct_append [] b p q apart = q
distinct_append (i ∷ a) b p q apart = (
  among_append i a b ∙ (ap (λ (r : Bool). r || among i b) p.0 ∙ apart i (ap (λ (r : Bool). r || among i a) (same_number i))),
  distinct_append a b p.1 q (λ j h. apart j (later (i == j) (among j a) h)),
)
  where
    later : (x y : Bool) → y ≡ true → (x || y) ≡ true
    later true y e = refl
    later false y e = e

mutual
  part_distinct : (s : State) (next : ℕ) (q : PartTree) → AreDistinct (part_subs next q)
  part_distinct s next (consts items) = tt
  part_distinct s next (types items) = tt
  part_distinct s next (vars vs) = tt
  part_distinct s next (sub_part b) = sub_distinct s next b
  part_distinct s next (monitor m) = module_distinct s next m
  part_distinct s next (resource m) = module_distinct s next m
  part_distinct s next (process_part p) = process_distinct s next p

  parts_distinct : (s : State) (next : ℕ) (qs : PartTrees) → AreDistinct (parts_subs next qs)
  parts_distinct s next no_parts = tt
  parts_distinct s next (more_parts q qs) =
      distinct_append (part_subs next q) (parts_subs (next + part_scopes q) qs) (part_distinct s next q) (parts_distinct s (next + part_scopes q) qs)
      (λ j h. by j (nat_lt j (next + part_scopes q)) refl h)
    where
      by : (j : ℕ) (r : Bool) → nat_lt j (next + part_scopes q) ≡ r → among j (part_subs next q) ≡ true → among j (parts_subs (next + part_scopes q) qs) ≡ false
      by j true e h =
          let low : j < next + part_scopes q = grind (arith, nat_tests) in
          (parts_out s false 0 0 [] (next + part_scopes q) qs j (λ u v. omega (arith, u, low))).subs
      by j false e h =
          let high : next + part_scopes q ≤ j = grind (arith, nat_tests) in
          let out = part_out s false 0 0 [] next q j (λ u v. omega (arith, v, high)) in
          let both : true ≡ false = sym h ∙ out.subs in
          absurd (cc)

  sub_distinct : (s : State) (next : ℕ) (b : SubTree) → AreDistinct (sub_subs next b)
  sub_distinct s next (sub x gs kind ps b p) =
      ((parts_out s false 0 0 [] (next + 1) ps next (λ u v. omega (arith, u))).subs, parts_distinct s (next + 1) ps)

  module_distinct : (s : State) (next : ℕ) (m : ModuleTree) → AreDistinct (module_subs next m)
  module_distinct s next (the_module x exports ps b last p) = parts_distinct s (next + 1) ps

  process_distinct : (s : State) (next : ℕ) (q : ProcessTree) → AreDistinct (process_subs next q)
  process_distinct s next (process many x gs es ps b p) = parts_distinct s (next + 1) ps

among_at : (heads : List SubHead) (n : ℕ) → n < length heads → among (get_or heads n no_sub).scope (map (λ (h : SubHead). h.scope) heads) ≡ true
among_at [] n below = absurd (omega (arith, below))
among_at (h ∷ heads) zero below = ap (λ (r : Bool). r || among h.scope (map (λ (x : SubHead). x.scope) heads)) (same_number h.scope)
among_at (h ∷ heads) (suc n) below = later (h.scope == (get_or heads n no_sub).scope) (among_at heads n (omega (arith, below)))
  where
    later : (r : Bool) → among (get_or heads n no_sub).scope (map (λ (x : SubHead). x.scope) heads) ≡ true
        → (r || among (get_or heads n no_sub).scope (map (λ (x : SubHead). x.scope) heads)) ≡ true
    later true e = refl
    later false e = e

with_at : (heads : List SubHead) (n : ℕ) → AreDistinct (map (λ (h : SubHead). h.scope) heads) → n < length heads
    → sub_with heads (get_or heads n no_sub).scope ≡ Some (get_or heads n no_sub)
with_at [] n d below = absurd (omega (arith, below))
with_at (h ∷ heads) zero d below = ap (λ (r : Bool). if r then Some h else sub_with heads h.scope) (same_number h.scope)
with_at (h ∷ heads) (suc n) d below =
    let other : (h.scope == (get_or heads n no_sub).scope) ≡ false =
    other_number h.scope (get_or heads n no_sub).scope
    (λ e. let there = among_at heads n (omega (arith, below)) in
    let mine : among (get_or heads n no_sub).scope (map (λ (x : SubHead). x.scope) heads) ≡ false =
    subst (λ (i : ℕ). among i (map (λ (x : SubHead). x.scope) heads) ≡ false) e d.0 in
    let both : true ≡ false = sym there ∙ mine in absurd (cc)) in
    ap (λ (r : Bool). if r then Some h else sub_with heads (get_or heads n no_sub).scope) other ∙ with_at heads n d.1 (omega (arith, below))

-- the sub whose scope it is
pub own_sub : (t : ProgramTree) (n : ℕ) → n < length (finished t).blocks.subs
    → sub_with (finished t).blocks.subs (sub_at (finished t).blocks n).scope ≡ Some (sub_at (finished t).blocks n)
own_sub t n below =
    with_at (finished t).blocks.subs n (subst (λ (l : List ℕ). AreDistinct l) (sym (program_subs t)) (parts_distinct (finished t) 1 t.parts)) below

-- main's scopes are no sub's
pub mains_no_sub : (t : ProgramTree) → IsLawful (forget_program t) → (i : ℕ) → is_mains (program_of t).state.blocks i ≡ true
    → sub_with (program_of t).state.blocks.subs i ≡ None
mains_no_sub t lawful i mains = by (nat_lt 0 i) refl
  where
    by : (r : Bool) → nat_lt 0 i ≡ r → sub_with (program_of t).state.blocks.subs i ≡ None
    by true e = let some : 0 < i = grind (arith, nat_tests) in no_sub_of_module t lawful i some mains
    by false e =
        let first : i ≤ 0 = grind (arith, nat_tests) in
        sub_none (program_of t).state.blocks.subs i
        (ap (λ (l : List ℕ). among i l) (program_subs t) ∙ (parts_out (program_of t).state false 0 0 [] 1 t.parts i (λ u v. omega (arith, u, first))).subs)

found_laid : (g : Program) (bs : List Block) (i : ℕ) (d : Block) → All (Placed g) bs → AreLaid d.layout → AreLaid (found_block bs i d).layout
found_laid g [] i d h last = last
found_laid g (b ∷ bs) i d h last = by (b.scope == i) (found_laid g bs i d (All-tail (Placed g) b bs h) last)
  where
    by : (r : Bool) → AreLaid (found_block bs i d).layout → AreLaid (if r then b else found_block bs i d).layout
    by true rest = (All-head (Placed g) b bs h).laid
    by false rest = rest

-- each layout has variables and single processes alone
pub blocks_laid : (t : ProgramTree) → IsLawful (forget_program t) → (i : ℕ) → AreLaid (block_at (program_of t) i).layout
blocks_laid t lawful i =
    found_laid (program_of t) (program_of t).blocks i (program_of t).main (blocks_placed t lawful) (main_placed t).laid
