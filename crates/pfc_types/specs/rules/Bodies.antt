-- Bodies: the rules that are broken in the statements and guards of all blocks.
--
-- The declarations are finished: the table and the scopes hold all. So the walk counts which names are in view at a body: those of
-- the scopes around that were declared before it.
use Rattle.std.specs.Prelude.{ℕ, ◌+◌, ◌==◌, Bool, true, false, if◌then◌else◌, List, [], ◌∷◌, Option, Some, None}
use Rattle.pfc_base.specs.declared.places.Place.{Place}
use Rattle.pfc_tree.specs.Symbols.{Text}
use Rattle.pfc_tree.specs.declared.tree.ConstItem.{ConstItem}
use Rattle.pfc_tree.specs.trees.Types.{VarTrees, TypeItemTree, GroupTree, var_item, no_vars, more_vars}
use Rattle.pfc_tree.specs.trees.Stmts.{BodyTree}
use Rattle.pfc_tree.specs.trees.Parts.{KindTree, EntryTree, PartTree, PartTrees, SubTree, ModuleTree, ProcessTree, procedure, function, guarded, consts, types}
use Rattle.pfc_tree.specs.trees.Parts.{vars, sub_part, monitor, resource, process_part, no_parts, more_parts, sub, the_module, process}
use Rattle.pfc_types.specs.Faults.{Faults, none, ◌⨾◌}
use Rattle.pfc_types.specs.Scopes.{Names, Level, scope_at, position_in, here}
use Rattle.pfc_types.specs.Blocks.{State}
use Rattle.pfc_types.specs.declared.view.Around.{Around}
use Rattle.pfc_types.specs.rules.Kinds.{condition_rule}
use Rattle.pfc_types.specs.rules.Expressions.{Env, expr_type, expr_place, broken_expr}
use Rattle.pfc_types.specs.rules.Statements.{broken_body, body_scopes}

-- ## Counting the names that were passed

-- A name that is passed is the next in its scope, or one that was declared before and counts no more.
abbrev pub counted : Option ℕ → ℕ → ℕ
counted None n = n
counted (Some k) n = if k == n then n + 1 else n

abbrev pub passed : Names → ℕ → Text → ℕ
passed names n x = counted (position_in names x) n

abbrev pub passed_names : Names → ℕ → List (Text × Place) → ℕ
passed_names names n [] = n
passed_names names n (x ∷ xs) = passed_names names (passed names n x.0) xs

abbrev pub passed_consts : Names → ℕ → List ConstItem → ℕ
passed_consts names n [] = n
passed_consts names n (c ∷ cs) = passed_consts names (passed names n c.name) cs

abbrev pub passed_types : Names → ℕ → List TypeItemTree → ℕ
passed_types names n [] = n
passed_types names n (d ∷ ds) = passed_types names (passed names n d.name) ds

abbrev pub passed_vars : Names → ℕ → VarTrees → ℕ
passed_vars names n no_vars = n
passed_vars names n (more_vars (var_item xs t) vs) = passed_vars names (passed_names names n xs) vs

abbrev pub passed_groups : Names → ℕ → List GroupTree → ℕ
passed_groups names n [] = n
passed_groups names n (g ∷ gs) = passed_groups names (passed_names names n g.names) gs

abbrev pub passed_entries : Names → ℕ → List EntryTree → ℕ
passed_entries names n [] = n
passed_entries names n (e ∷ es) = passed_entries names (passed names n e.name) es

abbrev pub sub_name : SubTree → Text
sub_name (sub x gs kind ps b p) = x

abbrev pub module_name : ModuleTree → Text
module_name (the_module x exports ps b last p) = x

abbrev pub process_name : ProcessTree → Text
process_name (process many x gs es ps b p) = x

abbrev pub passed_part : Names → ℕ → PartTree → ℕ
passed_part names n (consts items) = passed_consts names n items
passed_part names n (types items) = passed_types names n items
passed_part names n (vars vs) = passed_vars names n vs
passed_part names n (sub_part b) = passed names n (sub_name b)
passed_part names n (monitor m) = passed names n (module_name m)
passed_part names n (resource m) = passed names n (module_name m)
passed_part names n (process_part q) = passed names n (process_name q)

-- ## Scopes of a part

abbrev pub init_scopes : Option BodyTree → ℕ
init_scopes None = 0
init_scopes (Some b) = body_scopes b

-- how many scopes a part opens: one for each block and each accept
abbrev mutual
  pub part_scopes : PartTree → ℕ
  part_scopes (consts items) = 0
  part_scopes (types items) = 0
  part_scopes (vars vs) = 0
  part_scopes (sub_part b) = sub_scopes b
  part_scopes (monitor m) = module_scopes m
  part_scopes (resource m) = module_scopes m
  part_scopes (process_part q) = process_scopes q

  pub parts_scopes : PartTrees → ℕ
  parts_scopes no_parts = 0
  parts_scopes (more_parts q qs) = part_scopes q + parts_scopes qs

  pub sub_scopes : SubTree → ℕ
  sub_scopes (sub x gs kind ps b p) = 1 + parts_scopes ps + body_scopes b

  pub module_scopes : ModuleTree → ℕ
  module_scopes (the_module x exports ps b last p) = 1 + parts_scopes ps + init_scopes b

  pub process_scopes : ProcessTree → ℕ
  process_scopes (process many x gs es ps b p) = 1 + parts_scopes ps + body_scopes b

-- ## The tree around

-- in no body
abbrev pub around_nothing : Around
around_nothing = record { main = false; cobegin = false; process = false; sub = false; guarded = false; guard = None }

abbrev pub around_main : Around
around_main = record around_nothing { main = true }

abbrev pub around_process : Around
around_process = record around_nothing { process = true }

abbrev pub is_guarded : KindTree → Bool
is_guarded procedure = false
is_guarded (function x p) = false
is_guarded (guarded e p) = true

-- in the body of a sub, which stands in a process or not
abbrev pub around_sub : Bool → KindTree → Around
around_sub in_process kind = record around_nothing { process = in_process; sub = true; guarded = is_guarded kind }

-- in the guard of a procedure of the resource whose scope is number i
abbrev pub around_guard : ℕ → Around
around_guard i = record around_nothing { guard = Some i }

-- ## Bodies

-- the first n names of the scope i, and around it what is in view outside
abbrev pub level : ℕ → ℕ → Level
level i n = record { scope = i; count = n }

abbrev pub env_at : State → List Level → Around → Env
env_at s view around = record { state = s; view = view; around = around }

-- 313: a guard is a boolean; at the expression. The name of the procedure is not in view in it, and its parameters are.
abbrev pub broken_when : Env → KindTree → Faults
broken_when env procedure = none
broken_when env (function x p) = none
broken_when env (guarded e p) = broken_expr env e ⨾ condition_rule (expr_type env e) (expr_place e)

abbrev pub broken_init : State → List Level → ℕ → Option BodyTree → Faults
broken_init s view next None = none
broken_init s view next (Some b) = broken_body (env_at s view around_nothing) next b

-- The rules that are broken in the bodies of a part. It stands in the scope i, of which n names were declared before it, and
-- `outer` is in view around that scope. `next` is the number of the next scope of the text.
abbrev mutual
  pub broken_part : State → Bool → ℕ → ℕ → List Level → ℕ → PartTree → Faults
  broken_part s in_process i n outer next (consts items) = none
  broken_part s in_process i n outer next (types items) = none
  broken_part s in_process i n outer next (vars vs) = none
  broken_part s in_process i n outer next (sub_part b) = broken_sub s in_process i n outer next b
  broken_part s in_process i n outer next (monitor m) = broken_module s i n outer next m
  broken_part s in_process i n outer next (resource m) = broken_module s i n outer next m
  broken_part s in_process i n outer next (process_part q) = broken_process s i n outer next q

  pub broken_parts : State → Bool → ℕ → ℕ → List Level → ℕ → PartTrees → Faults
  broken_parts s in_process i n outer next no_parts = none
  broken_parts s in_process i n outer next (more_parts q qs) =
      broken_part s in_process i n outer next q
      ⨾ broken_parts s in_process i (passed_part (scope_at s.blocks.scopes i) n q) outer (next + part_scopes q) qs

  -- a sub's own name is in view behind its heading
  pub broken_sub : State → Bool → ℕ → ℕ → List Level → ℕ → SubTree → Faults
  broken_sub s in_process i n outer next (sub x gs kind ps b p) =
      let own = scope_at s.blocks.scopes next in
      let count = passed_groups own 0 gs in
      let around = level i (passed (scope_at s.blocks.scopes i) n x) ∷ outer in
      broken_when (env_at s (level next count ∷ level i n ∷ outer) (around_guard i)) kind
      ⨾ broken_parts s in_process next count around (next + 1) ps
      ⨾ broken_body (env_at s (here s.blocks.scopes next around) (around_sub in_process kind)) (next + 1 + parts_scopes ps) b

  -- a module's own name is not in view in it
  pub broken_module : State → ℕ → ℕ → List Level → ℕ → ModuleTree → Faults
  broken_module s i n outer next (the_module x exports ps b last p) =
      let around = level i n ∷ outer in
      broken_parts s false next 0 around (next + 1) ps
      ⨾ broken_init s (here s.blocks.scopes next around) (next + 1 + parts_scopes ps) b

  -- a process's own name is in view behind its heading
  pub broken_process : State → ℕ → ℕ → List Level → ℕ → ProcessTree → Faults
  broken_process s i n outer next (process many x gs es ps b p) =
      let own = scope_at s.blocks.scopes next in
      let count = passed_entries own (passed_groups own 0 gs) es in
      let around = level i (passed (scope_at s.blocks.scopes i) n x) ∷ outer in
      broken_parts s true next count around (next + 1) ps
      ⨾ broken_body (env_at s (here s.blocks.scopes next around) around_process) (next + 1 + parts_scopes ps) b
