-- The words of the rules of bodies and guards.
use Rattle.std.proofs.Common.{refl}
use Rattle.std.specs.Prelude.{ℕ, ◌+◌, Bool, true, false, List, [], ◌∷◌, Option, Some, None}
use Rattle.pfc_tree.specs.trees.Stmts.{BodyTree}
use Rattle.pfc_tree.specs.trees.Parts.{KindTree, PartTree, PartTrees, SubTree, ModuleTree, ProcessTree, ProgramTree, procedure, function, guarded, consts}
use Rattle.pfc_tree.specs.trees.Parts.{types, vars, sub_part, monitor, resource, process_part, no_parts, more_parts, sub, the_module, process}
use Rattle.pfc_types.specs.Scopes.{Level, scope_at, here}
use Rattle.pfc_types.specs.Blocks.{State}
use Rattle.pfc_types.specs.rules.Expressions.{Env}
use Rattle.pfc_types.specs.rules.Bodies.{passed, passed_groups, passed_entries, passed_part, part_scopes, parts_scopes, around_nothing, around_main}
use Rattle.pfc_types.specs.rules.Bodies.{around_process, around_sub, around_guard, level, env_at, broken_when, broken_init, broken_part, broken_parts}
use Rattle.pfc_types.specs.rules.Bodies.{broken_sub, broken_module, broken_process}
use Rattle.pfc_types.specs.rules.Whole.{broken_bodies}
use Rattle.pfc_refusals.proofs.Worded.{Worded, no_rule, ◌&◌, rule}
use Rattle.pfc_refusals.proofs.Expressions.{expr_worded}
use Rattle.pfc_refusals.proofs.Statements.{body_worded}

when_worded : (env : Env) (kind : KindTree) → Worded (broken_when env kind)
when_worded env procedure = no_rule
when_worded env (function x p) = no_rule
when_worded env (guarded e p) = expr_worded env e & rule _ _ _ refl

init_worded : (s : State) (view : List Level) (next : ℕ) (b : Option BodyTree) → Worded (broken_init s view next b)
init_worded s view next None = no_rule
init_worded s view next (Some b) = body_worded (env_at s view around_nothing) next b

mutual
  part_worded : (s : State) (in_process : Bool) (i n : ℕ) (outer : List Level) (next : ℕ) (q : PartTree) → Worded (broken_part s in_process i n outer next q)
  part_worded s in_process i n outer next (consts items) = no_rule
  part_worded s in_process i n outer next (types items) = no_rule
  part_worded s in_process i n outer next (vars vs) = no_rule
  part_worded s in_process i n outer next (sub_part b) = sub_worded s in_process i n outer next b
  part_worded s in_process i n outer next (monitor m) = module_worded s i n outer next m
  part_worded s in_process i n outer next (resource m) = module_worded s i n outer next m
  part_worded s in_process i n outer next (process_part q) = process_worded s i n outer next q

  parts_worded : (s : State) (in_process : Bool) (i n : ℕ) (outer : List Level) (next : ℕ) (qs : PartTrees) →
      Worded (broken_parts s in_process i n outer next qs)
  parts_worded s in_process i n outer next no_parts = no_rule
  parts_worded s in_process i n outer next (more_parts q qs) =
      part_worded s in_process i n outer next q
      & parts_worded s in_process i (passed_part (scope_at s.blocks.scopes i) n q) outer (next + part_scopes q) qs

  sub_worded : (s : State) (in_process : Bool) (i n : ℕ) (outer : List Level) (next : ℕ) (b : SubTree) → Worded (broken_sub s in_process i n outer next b)
  sub_worded s in_process i n outer next (sub x gs kind ps b p) =
      let count = passed_groups (scope_at s.blocks.scopes next) 0 gs in
      let around = level i (passed (scope_at s.blocks.scopes i) n x) ∷ outer in
      when_worded (env_at s (level next count ∷ level i n ∷ outer) (around_guard i)) kind
      & parts_worded s in_process next count around (next + 1) ps
      & body_worded (env_at s (here s.blocks.scopes next around) (around_sub in_process kind)) (next + 1 + parts_scopes ps) b

  module_worded : (s : State) (i n : ℕ) (outer : List Level) (next : ℕ) (m : ModuleTree) → Worded (broken_module s i n outer next m)
  module_worded s i n outer next (the_module x exports ps b last p) =
      let around = level i n ∷ outer in
      parts_worded s false next 0 around (next + 1) ps
      & init_worded s (here s.blocks.scopes next around) (next + 1 + parts_scopes ps) b

  process_worded : (s : State) (i n : ℕ) (outer : List Level) (next : ℕ) (q : ProcessTree) → Worded (broken_process s i n outer next q)
  process_worded s i n outer next (process many x gs es ps b p) =
      let own = scope_at s.blocks.scopes next in
      let count = passed_entries own (passed_groups own 0 gs) es in
      let around = level i (passed (scope_at s.blocks.scopes i) n x) ∷ outer in
      parts_worded s true next count around (next + 1) ps
      & body_worded (env_at s (here s.blocks.scopes next around) around_process) (next + 1 + parts_scopes ps) b

pub bodies_worded : (s : State) (t : ProgramTree) → Worded (broken_bodies s t)
bodies_worded s t =
    parts_worded s false 0 0 [] 1 t.parts
    & body_worded (env_at s (here s.blocks.scopes 0 []) around_main) (1 + parts_scopes t.parts) t.body
