-- What is in view in a guard: its procedure's parameters, its resource's names and main's, by induction over the parts.
use Rattle.std.proofs.Common.{◌≡◌, ℕ, ◌+◌, ◌==◌, ◌||◌, Bool, true, false, List, [], ◌∷◌, Option, Some, is_some, refl, ap, ◌∙◌, subst}
use Rattle.std.specs.List.{All, slice_get, list_any}
use Rattle.std.specs.Option.{IfSome}
use Rattle.std.proofs.lemmas.List.Elements.{All-nil, All-cons, All-append}
use Rattle.pfc_tree.specs.trees.Stmts.{body}
use Rattle.pfc_tree.specs.trees.Parts.{KindTree, PartTree, PartTrees, SubTree, ModuleTree, ProcessTree, ProgramTree, procedure, function, guarded, consts}
use Rattle.pfc_tree.specs.trees.Parts.{types, vars, sub_part, monitor, resource, process_part, no_parts, more_parts, sub, the_module, process}
use Rattle.pfc_tree.specs.forget.Parts.{forget_kind, forget_part, forget_parts, forget_sub, forget_module, forget_process, forget_program}
use Rattle.pfc_tree.specs.lawful.Parts.{Home, of_program, of_resource, of_other, HoldsModules, HoldsGuarded, IsLawfulKind, IsLawfulPart, AreLawfulParts}
use Rattle.pfc_tree.specs.lawful.Parts.{IsLawfulSub, IsLawfulModule, IsLawfulProcess, IsLawful}
use Rattle.pfc_types.specs.Scopes.{Level, scope_at}
use Rattle.pfc_types.specs.Blocks.{State}
use Rattle.pfc_types.specs.rules.Bodies.{env_at, around_guard, level, passed, passed_part, passed_groups, passed_entries, part_scopes}
use Rattle.pfc_types.specs.rules.Whole.{finished}
use Rattle.pfc_semantics.specs.Programs.{Block, Guard, guard_of, part_blocks, parts_blocks, sub_blocks, module_blocks, process_blocks, program_of}
use Rattle.pfc_translation.specs.Sites.{is_mains}
use Rattle.pfc_image_cells.proofs.Trees.{equal_number}
use Rattle.pfc_standing_code.specs.Words.{AreOwnNames}
use Rattle.pfc_standing_images.proofs.Guards.{guarded_in_resource}
use Rattle.pfc_typed_programs.proofs.Blocks.{each_of}

-- a guard sees its procedure's scope, that around the procedure and main's
abbrev SeesThree : Block → Guard → Type 0
SeesThree b w = (c n m : ℕ) × (w.env.view ≡ level b.scope c ∷ level b.outer n ∷ level 0 m ∷ [])

abbrev IsGuardView : Block → Type 0
IsGuardView b = IfSome b.guard (λ w. SeesThree b w)

-- Modules stand in main's scope, and guarded procedures in a scope in main's. Neither stands in a sub or a process.
abbrev IsTop : Home → ℕ → List Level → Type 0
IsTop h i outer = HoldsModules h → (i ≡ 0) × (outer ≡ [])

abbrev IsInMain : Home → List Level → Type 0
IsInMain h outer = HoldsGuarded h → (m : ℕ) × (outer ≡ level 0 m ∷ [])

kind_view : (s : State) (h : Home) (i n next count : ℕ) (outer : List Level) (kind : KindTree) → IsInMain h outer → IsLawfulKind h (forget_kind kind)
    → IfSome (guard_of (env_at s (level next count ∷ level i n ∷ outer) (around_guard i)) kind)
    (λ w. (c k m : ℕ) × (w.env.view ≡ level next c ∷ level i k ∷ level 0 m ∷ []))
kind_view s h i n next count outer procedure inside lawful = tt
kind_view s h i n next count outer (function x p) inside lawful = tt
kind_view s h i n next count outer (guarded e p) inside lawful =
    let main = inside lawful.0 in (count, n, main.0, ap (λ (l : List Level). level next count ∷ level i n ∷ l) main.1)

mutual
  part_views :
      (s : State) (h : Home) (in_process : Bool) (i n : ℕ) (outer : List Level) (next : ℕ) (q : PartTree) → IsTop h i outer → IsInMain h outer
      → IsLawfulPart h (forget_part q) → All IsGuardView (part_blocks s in_process i n outer next q)
  part_views s h in_process i n outer next (consts items) top inside lawful = All-nil IsGuardView
  part_views s h in_process i n outer next (types items) top inside lawful = All-nil IsGuardView
  part_views s h in_process i n outer next (vars vs) top inside lawful = All-nil IsGuardView
  part_views s h in_process i n outer next (sub_part b) top inside lawful = sub_views s h in_process i n outer next b inside lawful
  part_views s h in_process i n outer next (monitor m) top inside lawful = module_views s of_other i n outer next m (λ x. x) (top lawful.0) lawful.1
  part_views s h in_process i n outer next (resource m) top inside lawful = module_views s of_resource i n outer next m (λ x. x) (top lawful.0) lawful.1
  part_views s h in_process i n outer next (process_part p) top inside lawful = process_views s i n outer next p lawful.1

  parts_views :
      (s : State) (h : Home) (in_process : Bool) (i n : ℕ) (outer : List Level) (next : ℕ) (qs : PartTrees) → IsTop h i outer → IsInMain h outer
      → AreLawfulParts h (forget_parts qs) → All IsGuardView (parts_blocks s in_process i n outer next qs)
  parts_views s h in_process i n outer next no_parts top inside lawful = All-nil IsGuardView
  parts_views s h in_process i n outer next (more_parts q qs) top inside lawful =
      let further = passed_part (scope_at s.blocks.scopes i) n q in
      All-append IsGuardView (part_blocks s in_process i n outer next q) (parts_blocks s in_process i further outer (next + part_scopes q) qs)
      (part_views s h in_process i n outer next q top inside lawful.0)
      (parts_views s h in_process i further outer (next + part_scopes q) qs top inside lawful.1)

  sub_views :
      (s : State) (h : Home) (in_process : Bool) (i n : ℕ) (outer : List Level) (next : ℕ) (b : SubTree) → IsInMain h outer → IsLawfulSub h (forget_sub b)
      → All IsGuardView (sub_blocks s in_process i n outer next b)
  sub_views s h in_process i n outer next (sub x gs kind ps (body ss from to) p) inside lawful =
      let own = scope_at s.blocks.scopes next in
      let count = passed_groups own 0 gs in
      let around = level i (passed (scope_at s.blocks.scopes i) n x) ∷ outer in
      All-append IsGuardView (parts_blocks s in_process next count around (next + 1) ps) _
      (parts_views s of_other in_process next count around (next + 1) ps (λ none. absurd none) (λ none. absurd none) lawful.2)
      (All-cons IsGuardView _ [] (kind_view s h i n next count outer kind inside lawful.1) (All-nil IsGuardView))

  module_views :
      (s : State) (h : Home) (i n : ℕ) (outer : List Level) (next : ℕ) (m : ModuleTree) → (HoldsModules h → ⊥) → (i ≡ 0) × (outer ≡ [])
      → IsLawfulModule h (forget_module m) → All IsGuardView (module_blocks s i n outer next m)
  module_views s h i n outer next (the_module x exports ps b last p) apart top lawful =
      parts_views s h false next 0 (level i n ∷ outer) (next + 1) ps (λ some. absurd (apart some))
      (λ some. (n, ap (λ (j : ℕ). level j n ∷ outer) top.0 ∙ ap (λ (l : List Level). level 0 n ∷ l) top.1)) lawful.1

  process_views :
      (s : State) (i n : ℕ) (outer : List Level) (next : ℕ) (q : ProcessTree) → IsLawfulProcess (forget_process q)
      → All IsGuardView (process_blocks s i n outer next q)
  process_views s i n outer next (process many x gs es ps (body ss from to) p) lawful =
      let own = scope_at s.blocks.scopes next in
      let count = passed_entries own (passed_groups own 0 gs) es in
      let around = level i (passed (scope_at s.blocks.scopes i) n x) ∷ outer in
      All-append IsGuardView (parts_blocks s true next count around (next + 1) ps) _
      (parts_views s of_other true next count around (next + 1) ps (λ none. absurd none) (λ none. absurd none) lawful.2)
      (All-cons IsGuardView _ [] tt (All-nil IsGuardView))

guards_see : (t : ProgramTree) → IsLawful (forget_program t) → All IsGuardView (program_of t).blocks
guards_see t lawful = parts_views (finished t) of_program false 0 0 [] 1 t.parts (λ top. (refl, refl)) (λ none. absurd none) lawful.0

-- ## One guard

or_right : (x : Bool) → (x || true) ≡ true
or_right true = refl
or_right false = refl

-- one of three scopes, of which the last two are main's
one_of_three : (mains : ℕ → Bool) (a b i : ℕ) → mains b ≡ true → mains 0 ≡ true → ((a == i) || ((b == i) || ((0 == i) || false))) ≡ true
    → (mains i || (a == i)) ≡ true
one_of_three mains a b i of_b of_main h = by (a == i) (b == i) (0 == i) refl refl h
  where
    by : (x y z : Bool) → (b == i) ≡ y → (0 == i) ≡ z → (x || (y || (z || false))) ≡ true → (mains i || x) ≡ true
    by true y z e f h = or_right (mains i)
    by false true z e f h = ap (λ (r : Bool). r || false) (subst (λ (j : ℕ). mains j ≡ true) (equal_number b i e) of_b)
    by false false true e f h = ap (λ (r : Bool). r || false) (subst (λ (j : ℕ). mains j ≡ true) (equal_number 0 i f) of_main)
    by false false false e f h = absurd (cc)

-- a guard is one of a resource, whose variables are main's
pub guard_of_mains : (t : ProgramTree) → IsLawful (forget_program t) → (k : ℕ) (b : Block) (w : Guard) → slice_get (program_of t).blocks k ≡ Some b
    → b.guard ≡ Some w → is_mains (program_of t).state.blocks b.outer ≡ true
guard_of_mains t lawful k b w there e =
    let around = guarded_in_resource t k b w lawful there e in
    ap (λ (r : Bool). (b.outer == 0) || r) (ap (λ (o : Option ℕ). is_some o) around.1) ∙ or_right (b.outer == 0)

pub guard_own : (t : ProgramTree) → IsLawful (forget_program t) → (k : ℕ) (b : Block) (w : Guard) → slice_get (program_of t).blocks k ≡ Some b
    → b.guard ≡ Some w → AreOwnNames (program_of t) b w.env
guard_own t lawful k b w there e i seen =
    let three : SeesThree b w =
    subst (λ (o : Option Guard). IfSome o (λ z. SeesThree b z)) e (each_of IsGuardView (program_of t).blocks k b (guards_see t lawful) there) in
    let blocks = (program_of t).state.blocks in
    one_of_three (is_mains blocks) b.scope b.outer i (guard_of_mains t lawful k b w there e) refl (subst (λ (v : List Level). list_any (λ
    (l : Level). l.scope == i) v ≡ true) three.3 seen)
