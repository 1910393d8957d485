-- Each body of a program stands where its number says, and has as many accepts as are told of it.
use Rattle.std.proofs.Common.{◌≡◌, ℕ, ◌+◌, ◌<◌, ◌==◌, Bool, true, false, ◌||◌, if◌then◌else◌, List, [], ◌∷◌, Option, None, refl, arith}
use Rattle.std.specs.List.{list_any, AllByRecursion}
use Rattle.std.proofs.lemmas.Bool.Decides.{nat_tests}
use Rattle.pfc_tree.specs.trees.Stmts.{BodyTree, body}
use Rattle.pfc_tree.specs.trees.Parts.{KindTree, PartTree, PartTrees, SubTree, ModuleTree, ProcessTree, ProgramTree, consts, types, vars, sub_part, monitor}
use Rattle.pfc_tree.specs.trees.Parts.{resource, process_part, no_parts, more_parts, sub, the_module, process}
use Rattle.pfc_types.specs.Scopes.{Level, scope_at, all_names, here}
use Rattle.pfc_types.specs.Blocks.{State}
use Rattle.pfc_types.specs.rules.Expressions.{Env}
use Rattle.pfc_types.specs.rules.Statements.{stmts_scopes, body_scopes, broken_body}
use Rattle.pfc_types.specs.rules.Bodies.{env_at, around_process, around_sub, around_guard, level, passed, passed_part, passed_groups}
use Rattle.pfc_types.specs.rules.Bodies.{passed_entries, part_scopes, parts_scopes, broken_part, broken_parts, broken_sub, broken_module, broken_process}
use Rattle.pfc_types.specs.rules.Whole.{finished, broken, faults_in}
use Rattle.pfc_semantics.specs.Layouts.{Layout, main_layout, sub_layout_at}
use Rattle.pfc_semantics.specs.Programs.{Block, Guard, block_of, guard_of, part_blocks, parts_blocks, sub_blocks, module_blocks, process_blocks}
use Rattle.pfc_semantics.specs.Programs.{env_of_main, program_of, found_block}
use Rattle.pfc_image_numbers.proofs.Rules.{IsClean, clean_of}
use Rattle.pfc_accept_laws.specs.Places.{IsBefore}
use Rattle.pfc_accept_laws.specs.Placed.{HasPlaces}
use Rattle.pfc_accept_laws.proofs.Lists.{all_append, all_push}
use Rattle.pfc_accept_programs.proofs.Statements.{Forbids, stmts_none}

-- ## Names in view

-- all of them are of scopes before this number
abbrev Before : ℕ → List Level → Type 0
Before n view = (i : ℕ) → list_any (λ (l : Level). l.scope == i) view ≡ true → i < n

nothing_before : (n : ℕ) → Before n []
nothing_before n i seen = absurd (cc)

level_before : (n : ℕ) (l : Level) (view : List Level) → l.scope < n → Before n view → Before n (l ∷ view)
level_before n l view less before i seen = by (l.scope == i) refl seen
  where
    by : (b : Bool) → (l.scope == i) ≡ b → (b || list_any (λ (m : Level). m.scope == i) view) ≡ true → i < n
    by true same seen = let is : l.scope ≡ i = grind (arith, nat_tests, same) in omega (arith, less, is)
    by false other seen = before i seen

further : (m n : ℕ) (view : List Level) → m < n + 1 → Before m view → Before n view
further m n view less before i seen = let low = before i seen in omega (arith, low, less)

-- ## Bodies

-- a body stands behind all scopes that are in view in it, and its accepts are told
abbrev pub Stands : Block → Type 0
Stands b = IsBefore b.next b.env × (stmts_scopes b.stmts ≡ b.accepts)

alone :
    (scope outer : ℕ) (env : Env) (next : ℕ) (b : BodyTree) (layout : Layout) (guard : Option Guard) → Before next env.view → Forbids env
    → IsClean (broken_body env next b) → Stands (block_of scope outer env next b layout 0 guard)
alone scope outer env next (body ss first last) layout guard before never clean = (before, stmts_none env next ss never clean)

counted :
    (scope outer : ℕ) (env : Env) (next : ℕ) (b : BodyTree) (layout : Layout) (guard : Option Guard) → Before next env.view
    → Stands (block_of scope outer env next b layout (body_scopes b) guard)
counted scope outer env next (body ss first last) layout guard before = (before, refl)

in_sub : (in_process : Bool) (kind : KindTree) (s : State) (view : List Level) → Forbids (env_at s view (around_sub in_process kind))
in_sub true kind s view = refl
in_sub false kind s view = refl

-- ## Parts

mutual
  part_stands :
      (s : State) (in_process : Bool) (i n : ℕ) (outer : List Level) (next : ℕ) (q : PartTree) → i < next → Before next outer
      → IsClean (broken_part s in_process i n outer next q) → AllByRecursion Stands (part_blocks s in_process i n outer next q)
  part_stands s in_process i n outer next (consts items) less before clean = tt
  part_stands s in_process i n outer next (types items) less before clean = tt
  part_stands s in_process i n outer next (vars vs) less before clean = tt
  part_stands s in_process i n outer next (sub_part b) less before clean = sub_stands s in_process i n outer next b less before clean
  part_stands s in_process i n outer next (monitor m) less before clean = module_stands s i n outer next m less before clean
  part_stands s in_process i n outer next (resource m) less before clean = module_stands s i n outer next m less before clean
  part_stands s in_process i n outer next (process_part q) less before clean = process_stands s i n outer next q less before clean

  pub parts_stand :
      (s : State) (in_process : Bool) (i n : ℕ) (outer : List Level) (next : ℕ) (qs : PartTrees) → i < next → Before next outer
      → IsClean (broken_parts s in_process i n outer next qs) → AllByRecursion Stands (parts_blocks s in_process i n outer next qs)
  parts_stand s in_process i n outer next no_parts less before clean = tt
  parts_stand s in_process i n outer next (more_parts q qs) less before clean =
      let behind : ℕ = passed_part (scope_at s.blocks.scopes i) n q in
      all_append Stands (part_blocks s in_process i n outer next q) (parts_blocks s in_process i behind outer (next + part_scopes q) qs)
      (part_stands s in_process i n outer next q less before clean.0)
      (parts_stand s in_process i behind outer (next + part_scopes q) qs (omega (arith, less)) (further next (next + part_scopes q) outer (omega arith) before)
      clean.1)

  sub_stands :
      (s : State) (in_process : Bool) (i n : ℕ) (outer : List Level) (next : ℕ) (b : SubTree) → i < next → Before next outer
      → IsClean (broken_sub s in_process i n outer next b) → AllByRecursion Stands (sub_blocks s in_process i n outer next b)
  sub_stands s in_process i n outer next (sub x gs kind ps b p) less before clean =
      let count : ℕ = passed_groups (scope_at s.blocks.scopes next) 0 gs in
      let named : Level = level i (passed (scope_at s.blocks.scopes i) n x) in
      let around : List Level = named ∷ outer in
      let guard = guard_of (env_at s (level next count ∷ level i n ∷ outer) (around_guard i)) kind in
      let view : List Level = here s.blocks.scopes next around in
      all_push Stands (parts_blocks s in_process next count around (next + 1) ps) _
      (parts_stand s in_process next count around (next + 1) ps (omega arith)
      (further next (next + 1) around (omega arith) (level_before next named outer less before)) clean.1.0)
      (alone next i (env_at s view (around_sub in_process kind)) (next + 1 + parts_scopes ps) b (sub_layout_at s.blocks next) guard
      (level_before (next + 1 + parts_scopes ps) (all_names s.blocks.scopes next) around (omega arith)
      (further next (next + 1 + parts_scopes ps) around (omega arith) (level_before next named outer less before)))
      (in_sub in_process kind s view) clean.1.1)

  module_stands :
      (s : State) (i n : ℕ) (outer : List Level) (next : ℕ) (m : ModuleTree) → i < next → Before next outer
      → IsClean (broken_module s i n outer next m) → AllByRecursion Stands (module_blocks s i n outer next m)
  module_stands s i n outer next (the_module x exports ps b last p) less before clean =
      let around : List Level = level i n ∷ outer in
      parts_stand s false next 0 around (next + 1) ps (omega arith)
      (further next (next + 1) around (omega arith) (level_before next (level i n) outer less before)) clean.0

  process_stands :
      (s : State) (i n : ℕ) (outer : List Level) (next : ℕ) (q : ProcessTree) → i < next → Before next outer
      → IsClean (broken_process s i n outer next q) → AllByRecursion Stands (process_blocks s i n outer next q)
  process_stands s i n outer next (process many x gs es ps b p) less before clean =
      let count : ℕ = passed_entries (scope_at s.blocks.scopes next) (passed_groups (scope_at s.blocks.scopes next) 0 gs) es in
      let named : Level = level i (passed (scope_at s.blocks.scopes i) n x) in
      let around : List Level = named ∷ outer in
      let view : List Level = here s.blocks.scopes next around in
      all_push Stands (parts_blocks s true next count around (next + 1) ps) _
      (parts_stand s true next count around (next + 1) ps (omega arith)
      (further next (next + 1) around (omega arith) (level_before next named outer less before)) clean.0)
      (counted next i (env_at s view around_process) (next + 1 + parts_scopes ps) b _ None
      (level_before (next + 1 + parts_scopes ps) (all_names s.blocks.scopes next) around (omega arith)
      (further next (next + 1 + parts_scopes ps) around (omega arith) (level_before next named outer less before))))

-- ## Of a program

-- whatever is found by a scope is one of the bodies, or main's
found_stands : (bs : List Block) (i : ℕ) (other : Block) → AllByRecursion Stands bs → Stands other → Stands (found_block bs i other)
found_stands [] i other all one = one
found_stands (b ∷ bs) i other all one = by (b.scope == i) (found_stands bs i other all.1 one)
  where
    by : (c : Bool) → Stands (found_block bs i other) → Stands (if c then b else found_block bs i other)
    by true later = all.0
    by false later = later

pub has_places : (t : ProgramTree) → broken t ≡ [] → HasPlaces (program_of t)
has_places t whole q some =
    let s = finished t in
    let clean = (clean_of (faults_in (finished t) t) whole).1 in
    found_stands (program_of t).blocks _ (program_of t).main
    (parts_stand s false 0 0 [] 1 t.parts (omega arith) (nothing_before 1) clean.0)
    (alone 0 0 (env_of_main s) (1 + parts_scopes t.parts) t.body (main_layout s.blocks (scope_at s.blocks.scopes 0)) None
    (level_before (1 + parts_scopes t.parts) (all_names s.blocks.scopes 0) [] (omega arith) (nothing_before (1 + parts_scopes t.parts))) refl clean.1)
