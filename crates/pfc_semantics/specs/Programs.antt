-- The blocks of a program: what is known of each body before anything runs.
use Rattle.std.specs.Prelude.{ℕ, ◌+◌, ◌==◌, false, true, Bool, if◌then◌else◌, List, [], ◌∷◌, ◌++◌, take, drop, sum_by, position, Option, Some, None, unwrap_or}
use Rattle.pfc_tree.specs.trees.Exprs.{ExprTree}
use Rattle.pfc_tree.specs.trees.Stmts.{StmtTrees, BodyTree, body}
use Rattle.pfc_tree.specs.trees.Parts.{KindTree, PartTree, PartTrees, SubTree, ModuleTree, ProcessTree, ProgramTree, procedure, function, guarded, consts}
use Rattle.pfc_tree.specs.trees.Parts.{types, vars, sub_part, monitor, resource, process_part, no_parts, more_parts, sub, the_module, process}
use Rattle.pfc_types.specs.Types.{Forms}
use Rattle.pfc_types.specs.Scopes.{Level, scope_at, here}
use Rattle.pfc_types.specs.Blocks.{State}
use Rattle.pfc_types.specs.rules.Expressions.{Env}
use Rattle.pfc_types.specs.rules.Statements.{body_scopes}
use Rattle.pfc_types.specs.rules.Declarations.{name_cells}
use Rattle.pfc_types.specs.rules.Bodies.{env_at, around_main, around_nothing, around_process, around_sub, around_guard, passed, passed_part, passed_groups}
use Rattle.pfc_types.specs.rules.Bodies.{passed_entries, part_scopes, parts_scopes, level}
use Rattle.pfc_types.specs.rules.Whole.{finished}
use Rattle.pfc_semantics.specs.Values.{Value}
use Rattle.pfc_semantics.specs.Layouts.{Layout, main_layout, sub_layout_at, process_layout}
use Rattle.pfc_semantics.specs.Objects.{Objects, all_first, main_objects}

-- the guard of a guarded procedure, with the names in view there and the line of its `when`
pub record Guard : Type 0 where
  pub env : Env
  pub test : ExprTree
  pub line : ℕ

-- a body, with the block around it
pub record Block : Type 0 where
  -- the number of its scope, which tells the blocks apart, and that of the scope in which the block is declared
  pub scope : ℕ
  pub outer : ℕ
  -- the names in view in its body, and the number of the next scope of the text there
  pub env : Env
  pub next : ℕ
  pub stmts : StmtTrees
  -- the lines of its `begin` and its `end`
  pub first_line : ℕ
  pub last_line : ℕ
  -- its variables and their cells, and how many accepts stand in it, whose scopes are numbered from `next` on
  pub layout : Layout
  pub cells : ℕ
  pub accepts : ℕ
  pub guard : Option Guard

pub record Program : Type 0 where
  pub state : State
  -- the bodies of subs, guarded procedures and processes in the order of their `begin`
  pub blocks : List Block
  -- the initialising bodies, in the order of the text
  pub modules : List Block
  pub main : Block
  -- the line of each resource's final `end`, in the order of the text
  pub resource_ends : List ℕ
  -- the first value of a variable of each type, those of main's variables, and all objects
  pub firsts : List Value
  pub variables : List Value
  pub objects : Objects

-- A variable takes its type's cells, a reference and a single process one.
abbrev pub layout_cells : Forms → Layout → ℕ
layout_cells forms layout = sum_by (λ m. name_cells forms m) layout

abbrev pub block_of : ℕ → ℕ → Env → ℕ → BodyTree → Layout → ℕ → Option Guard → Block
block_of scope outer env next (body ss first last) layout accepts guard =
    record {
      scope = scope;
      outer = outer;
      env = env;
      next = next;
      stmts = ss;
      first_line = first.line;
      last_line = last.line;
      layout = layout;
      cells = layout_cells env.state.forms layout;
      accepts = accepts;
      guard = guard;
    }

abbrev pub guard_of : Env → KindTree → Option Guard
guard_of env procedure = None
guard_of env (function x p) = None
guard_of env (guarded e p) = Some (record { env = env; test = e; line = p.line })

-- ## The walk over the declarations

-- It counts the names in view as the rules of bodies do: a part stands in the scope i, of which n names were declared before it, and
-- `outer` is in view around that scope; `next` is the number of the next scope of the text.
abbrev mutual
  pub part_blocks : State → Bool → ℕ → ℕ → List Level → ℕ → PartTree → List Block
  part_blocks s in_process i n outer next (consts items) = []
  part_blocks s in_process i n outer next (types items) = []
  part_blocks s in_process i n outer next (vars vs) = []
  part_blocks s in_process i n outer next (sub_part b) = sub_blocks s in_process i n outer next b
  part_blocks s in_process i n outer next (monitor m) = module_blocks s i n outer next m
  part_blocks s in_process i n outer next (resource m) = module_blocks s i n outer next m
  part_blocks s in_process i n outer next (process_part q) = process_blocks s i n outer next q

  pub parts_blocks : State → Bool → ℕ → ℕ → List Level → ℕ → PartTrees → List Block
  parts_blocks s in_process i n outer next no_parts = []
  parts_blocks s in_process i n outer next (more_parts q qs) =
      part_blocks s in_process i n outer next q
      ++ parts_blocks s in_process i (passed_part (scope_at s.blocks.scopes i) n q) outer (next + part_scopes q) qs

  -- a guard sees the parameters, but not the procedure's own name, nor what the procedure declares
  pub sub_blocks : State → Bool → ℕ → ℕ → List Level → ℕ → SubTree → List Block
  sub_blocks s in_process i n outer next (sub x gs kind ps b p) =
      let own = scope_at s.blocks.scopes next in
      let count = passed_groups own 0 gs in
      let around = level i (passed (scope_at s.blocks.scopes i) n x) ∷ outer in
      let guard = guard_of (env_at s (level next count ∷ level i n ∷ outer) (around_guard i)) kind in
      parts_blocks s in_process next count around (next + 1) ps
      ++ block_of next i (env_at s (here s.blocks.scopes next around) (around_sub in_process kind)) (next + 1 + parts_scopes ps) b
      (sub_layout_at s.blocks next) 0 guard ∷ []

  pub module_blocks : State → ℕ → ℕ → List Level → ℕ → ModuleTree → List Block
  module_blocks s i n outer next (the_module x exports ps b last p) = parts_blocks s false next 0 (level i n ∷ outer) (next + 1) ps

  pub process_blocks : State → ℕ → ℕ → List Level → ℕ → ProcessTree → List Block
  process_blocks s i n outer next (process many x gs es ps b p) =
      let own = scope_at s.blocks.scopes next in
      let count = passed_entries own (passed_groups own 0 gs) es in
      let around = level i (passed (scope_at s.blocks.scopes i) n x) ∷ outer in
      let inner = next + 1 + parts_scopes ps in
      parts_blocks s true next count around (next + 1) ps
      ++ block_of next i (env_at s (here s.blocks.scopes next around) around_process) inner b
      (process_layout own (take (body_scopes b) (drop inner s.blocks.scopes))) (body_scopes b) None ∷ []

-- an initialising body: its variables are main's
abbrev pub init_block : State → ℕ → List Level → ℕ → Option BodyTree → List Block
init_block s scope view next None = []
init_block s scope view next (Some b) = block_of scope 0 (env_at s view around_nothing) next b [] 0 None ∷ []

abbrev pub module_inits : State → ℕ → ℕ → ModuleTree → List Block
module_inits s n next (the_module x exports ps b last p) = init_block s next (here s.blocks.scopes next (level 0 n ∷ [])) (next + 1 + parts_scopes ps) b

abbrev pub part_inits : State → ℕ → ℕ → PartTree → List Block
part_inits s n next (monitor m) = module_inits s n next m
part_inits s n next (resource m) = module_inits s n next m
part_inits s n next q = []

-- of the parts of a program, of whose scope n names were declared before
abbrev pub parts_inits : State → ℕ → ℕ → PartTrees → List Block
parts_inits s n next no_parts = []
parts_inits s n next (more_parts q qs) =
    part_inits s n next q ++ parts_inits s (passed_part (scope_at s.blocks.scopes 0) n q) (next + part_scopes q) qs

abbrev pub module_end : ModuleTree → ℕ
module_end (the_module x exports ps b last p) = last.line

abbrev pub ends_of_resources : PartTrees → List ℕ
ends_of_resources no_parts = []
ends_of_resources (more_parts (resource m) qs) = module_end m ∷ ends_of_resources qs
ends_of_resources (more_parts q qs) = ends_of_resources qs

-- the names in view in the main body
abbrev pub env_of_main : State → Env
env_of_main s = env_at s (here s.blocks.scopes 0 []) around_main

abbrev pub main_env : ProgramTree → Env
main_env t = env_of_main (finished t)

abbrev pub program_over : State → ProgramTree → Program
program_over s t =
    let main = main_objects s.forms s.blocks in
    record {
      state = s;
      blocks = parts_blocks s false 0 0 [] 1 t.parts;
      modules = parts_inits s 0 1 t.parts;
      main = block_of 0 0 (env_of_main s) (1 + parts_scopes t.parts) t.body (main_layout s.blocks (scope_at s.blocks.scopes 0)) 0 None;
      resource_ends = ends_of_resources t.parts;
      firsts = all_first s.forms;
      variables = main.is;
      objects = main.objects;
    }

abbrev pub program_of : ProgramTree → Program
program_of t = program_over (finished t) t

-- ## Looking up

abbrev pub found_block : List Block → ℕ → Block → Block
found_block [] i other = other
found_block (b ∷ bs) i other = if b.scope == i then b else found_block bs i other

-- the block whose scope has this number
abbrev pub block_at : Program → ℕ → Block
block_at g i = found_block g.blocks i g.main

-- its place in the order of `begin`, by which a guarded procedure is known
abbrev pub block_number : Program → ℕ → ℕ
block_number g i = unwrap_or (position (λ b. b.scope == i) g.blocks) 0
