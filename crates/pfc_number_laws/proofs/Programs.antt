-- In a program whose text has numbers of 32 bits each body has such numbers alone.
use Rattle.std.proofs.Common.{ℕ, ◌+◌, Bool, true, false, List, [], ◌∷◌, take, drop, Option, Some, None}
use Rattle.std.specs.List.{AllByRecursion}
use Rattle.pfc_tree.specs.trees.Stmts.{BodyTree, body}
use Rattle.pfc_tree.specs.trees.Parts.{KindTree, PartTree, PartTrees, SubTree, ModuleTree, ProcessTree, ProgramTree, procedure, function, guarded, consts}
use Rattle.pfc_tree.specs.trees.Parts.{types, vars, sub_part, monitor, resource, process_part, no_parts, more_parts, sub, the_module, process}
use Rattle.pfc_types.specs.Scopes.{Level, scope_at, here}
use Rattle.pfc_types.specs.Blocks.{State}
use Rattle.pfc_types.specs.rules.Expressions.{Env}
use Rattle.pfc_types.specs.rules.Statements.{body_scopes}
use Rattle.pfc_types.specs.rules.Bodies.{env_at, around_nothing, around_process, around_sub, around_guard, passed, passed_part, passed_groups, passed_entries}
use Rattle.pfc_types.specs.rules.Bodies.{part_scopes, parts_scopes, level}
use Rattle.pfc_types.specs.rules.Whole.{finished}
use Rattle.pfc_semantics.specs.Layouts.{Layout, main_layout, sub_layout_at, process_layout}
use Rattle.pfc_semantics.specs.Programs.{Block, Program, Guard, block_of, guard_of, part_blocks, parts_blocks, sub_blocks, module_blocks, process_blocks}
use Rattle.pfc_semantics.specs.Programs.{init_block, module_inits, part_inits, parts_inits, env_of_main, program_of}
use Rattle.pfc_run_invariants.specs.Fitting.{FitNames}
use Rattle.pfc_number_laws.specs.Written.{HasBody, FitsKind, FitsEnding, FitsPart, FitParts, FitsSub, FitsModule, FitsProcess, FitsTree}
use Rattle.pfc_number_laws.specs.Objects.{AreFew}
use Rattle.pfc_run_invariants.specs.Configurations.{FitsGuard, FitsBlock}
use Rattle.pfc_number_laws.specs.Numbers.{numbers_of, KnowsConstants, HasNumbers}
use Rattle.pfc_run_invariants.proofs.Lists.{all_append, all_push}
use Rattle.pfc_number_laws.proofs.Objects.{firsts_fit, variables_fit}
use Rattle.pfc_number_laws.proofs.Parts.{finished_fits}

-- a body knows constants of 32 bits, and writes such numbers
abbrev IsSmall : Program → Block → Type 0
IsSmall g b = KnowsConstants b × FitsBlock (numbers_of g) b

all_known : (g : Program) (bs : List Block) → AllByRecursion (IsSmall g) bs → AllByRecursion KnowsConstants bs
all_known g [] all = tt
all_known g (b ∷ bs) all = (all.0.0, all_known g bs all.1)

all_written : (g : Program) (bs : List Block) → AllByRecursion (IsSmall g) bs → AllByRecursion (FitsBlock (numbers_of g)) bs
all_written g [] all = tt
all_written g (b ∷ bs) all = (all.0.1, all_written g bs all.1)

block_fits :
    (g : Program) (scope outer : ℕ) (env : Env) (next : ℕ) (b : BodyTree) (layout : Layout) (accepts : ℕ) (guard : Option Guard)
    → FitNames env.state.blocks.scopes → HasBody b → FitsGuard (numbers_of g) guard → IsSmall g (block_of scope outer env next b layout accepts guard)
block_fits g scope outer env next (body ss first last) layout accepts guard known small test = (known, record { stmts = small next; guard = test })

module _ (g : Program) (s : State) (known : FitNames s.blocks.scopes) where
  guard_fits : (view : List Level) (i : ℕ) (kind : KindTree) → FitsKind kind → FitsGuard (numbers_of g) (guard_of (env_at s view (around_guard i)) kind)
  guard_fits view i procedure small = tt
  guard_fits view i (function x p) small = tt
  guard_fits view i (guarded e p) small = (known, small)

  mutual
    part_fits :
        (in_process : Bool) (i n : ℕ) (outer : List Level) (next : ℕ) (q : PartTree) → FitsPart q
        → AllByRecursion (IsSmall g) (part_blocks s in_process i n outer next q)
    part_fits in_process i n outer next (consts items) small = tt
    part_fits in_process i n outer next (types items) small = tt
    part_fits in_process i n outer next (vars vs) small = tt
    part_fits in_process i n outer next (sub_part b) small = sub_fits in_process i n outer next b small
    part_fits in_process i n outer next (monitor m) small = module_fits i n outer next m small
    part_fits in_process i n outer next (resource m) small = module_fits i n outer next m small
    part_fits in_process i n outer next (process_part q) small = process_fits i n outer next q small

    parts_fit :
        (in_process : Bool) (i n : ℕ) (outer : List Level) (next : ℕ) (qs : PartTrees) → FitParts qs
        → AllByRecursion (IsSmall g) (parts_blocks s in_process i n outer next qs)
    parts_fit in_process i n outer next no_parts small = tt
    parts_fit in_process i n outer next (more_parts q qs) small =
        all_append (IsSmall g) (part_blocks s in_process i n outer next q)
        (parts_blocks s in_process i (passed_part (scope_at s.blocks.scopes i) n q) outer (next + part_scopes q) qs)
        (part_fits in_process i n outer next q small.0)
        (parts_fit in_process i (passed_part (scope_at s.blocks.scopes i) n q) outer (next + part_scopes q) qs small.1)

    sub_fits :
        (in_process : Bool) (i n : ℕ) (outer : List Level) (next : ℕ) (b : SubTree) → FitsSub b
        → AllByRecursion (IsSmall g) (sub_blocks s in_process i n outer next b)
    sub_fits in_process i n outer next (sub x gs kind ps b p) small =
        let own = scope_at s.blocks.scopes next in
        let count = passed_groups own 0 gs in
        let around = level i (passed (scope_at s.blocks.scopes i) n x) ∷ outer in
        let view = level next count ∷ level i n ∷ outer in
        let guard = guard_of (env_at s view (around_guard i)) kind in
        let inside = env_at s (here s.blocks.scopes next around) (around_sub in_process kind) in
        let behind = next + 1 + parts_scopes ps in
        let layout = sub_layout_at s.blocks next in
        all_push (IsSmall g) (parts_blocks s in_process next count around (next + 1) ps) (block_of next i inside behind b layout 0 guard)
        (parts_fit in_process next count around (next + 1) ps small.1)
        (block_fits g next i inside behind b layout 0 guard known small.2 (guard_fits view i kind small.0))

    module_fits :
        (i n : ℕ) (outer : List Level) (next : ℕ) (m : ModuleTree) → FitsModule m → AllByRecursion (IsSmall g) (module_blocks s i n outer next m)
    module_fits i n outer next (the_module x exports ps b last p) small = parts_fit false next 0 (level i n ∷ outer) (next + 1) ps small.0

    process_fits :
        (i n : ℕ) (outer : List Level) (next : ℕ) (q : ProcessTree) → FitsProcess q → AllByRecursion (IsSmall g) (process_blocks s i n outer next q)
    process_fits i n outer next (process many x gs es ps b p) small =
        let own = scope_at s.blocks.scopes next in
        let count = passed_entries own (passed_groups own 0 gs) es in
        let around = level i (passed (scope_at s.blocks.scopes i) n x) ∷ outer in
        let inner = next + 1 + parts_scopes ps in
        let inside = env_at s (here s.blocks.scopes next around) around_process in
        let layout = process_layout own (take (body_scopes b) (drop inner s.blocks.scopes)) in
        all_push (IsSmall g) (parts_blocks s true next count around (next + 1) ps) (block_of next i inside inner b layout (body_scopes b) None)
        (parts_fit true next count around (next + 1) ps small.0) (block_fits g next i inside inner b layout (body_scopes b) None known small.1 tt)

  init_fits : (scope : ℕ) (view : List Level) (next : ℕ) (b : Option BodyTree) → FitsEnding b → AllByRecursion (IsSmall g) (init_block s scope view next b)
  init_fits scope view next None small = tt
  init_fits scope view next (Some b) small = (block_fits g scope 0 (env_at s view around_nothing) next b [] 0 None known small tt, tt)

  module_inits_fit : (n next : ℕ) (m : ModuleTree) → FitsModule m → AllByRecursion (IsSmall g) (module_inits s n next m)
  module_inits_fit n next (the_module x exports ps b last p) small =
      init_fits next (here s.blocks.scopes next (level 0 n ∷ [])) (next + 1 + parts_scopes ps) b small.1

  part_inits_fit : (n next : ℕ) (q : PartTree) → FitsPart q → AllByRecursion (IsSmall g) (part_inits s n next q)
  part_inits_fit n next (monitor m) small = module_inits_fit n next m small
  part_inits_fit n next (resource m) small = module_inits_fit n next m small
  part_inits_fit n next q small = tt

  inits_fit : (n next : ℕ) (qs : PartTrees) → FitParts qs → AllByRecursion (IsSmall g) (parts_inits s n next qs)
  inits_fit n next no_parts small = tt
  inits_fit n next (more_parts q qs) small =
      all_append (IsSmall g) (part_inits s n next q) (parts_inits s (passed_part (scope_at s.blocks.scopes 0) n q) (next + part_scopes q) qs)
      (part_inits_fit n next q small.0) (inits_fit (passed_part (scope_at s.blocks.scopes 0) n q) (next + part_scopes q) qs small.1)

pub program_fits : (t : ProgramTree) → FitsTree t → AreFew (program_of t).objects → HasNumbers (program_of t)
program_fits t small few =
    let g = program_of t in
    let s = finished t in
    let known = finished_fits t small in
    let blocks = parts_fit g s known false 0 0 [] 1 t.parts small.parts in
    let modules = inits_fit g s known 0 1 t.parts small.parts in
    let layout = main_layout s.blocks (scope_at s.blocks.scopes 0) in
    let main = block_fits g 0 0 (env_of_main s) (1 + parts_scopes t.parts) t.body layout 0 None known small.body tt in
    record {
      program =
          record {
            blocks = all_written g g.blocks blocks;
            modules = all_written g g.modules modules;
            main = main.1;
            firsts = firsts_fit s.forms;
            variables = variables_fit s.forms s.blocks few;
          };
      blocks = all_known g g.blocks blocks;
      modules = all_known g g.modules modules;
      main = main.0;
    }
