-- The views of the walk over the bodies, part by part, over the finished scopes.
use Rattle.std.proofs.Common.{ℕ, ◌+◌, List, [], ◌∷◌, ◌++◌, Option, Some, None}
use Rattle.pfc_tree.specs.trees.Stmts.{BodyTree}
use Rattle.pfc_tree.specs.trees.Parts.{PartTree, PartTrees, SubTree, ModuleTree, ProcessTree, consts, types, vars, sub_part, monitor, resource, process_part}
use Rattle.pfc_tree.specs.trees.Parts.{no_parts, more_parts, sub, the_module, process}
use Rattle.pfc_types.specs.Scopes.{Names, Level, scope_at, here}
use Rattle.pfc_types.specs.Stops.{guard_views, body_views}
use Rattle.pfc_types.specs.rules.Bodies.{passed, passed_part, passed_groups, passed_entries, part_scopes, parts_scopes, level}

abbrev pub init_views : List Names → List Level → ℕ → Option BodyTree → List (List Level)
init_views scopes view next None = []
init_views scopes view next (Some b) = body_views scopes view next b

abbrev mutual
  pub part_views : List Names → ℕ → ℕ → List Level → ℕ → PartTree → List (List Level)
  part_views scopes i n outer next (consts items) = []
  part_views scopes i n outer next (types items) = []
  part_views scopes i n outer next (vars vs) = []
  part_views scopes i n outer next (sub_part b) = sub_views scopes i n outer next b
  part_views scopes i n outer next (monitor m) = module_views scopes i n outer next m
  part_views scopes i n outer next (resource m) = module_views scopes i n outer next m
  part_views scopes i n outer next (process_part q) = process_views scopes i n outer next q

  pub parts_views : List Names → ℕ → ℕ → List Level → ℕ → PartTrees → List (List Level)
  parts_views scopes i n outer next no_parts = []
  parts_views scopes i n outer next (more_parts q qs) =
      part_views scopes i n outer next q ++ parts_views scopes i (passed_part (scope_at scopes i) n q) outer (next + part_scopes q) qs

  pub sub_views : List Names → ℕ → ℕ → List Level → ℕ → SubTree → List (List Level)
  sub_views scopes i n outer next (sub x gs kind ps b p) =
      let own = scope_at scopes next in
      let count = passed_groups own 0 gs in
      let around = level i (passed (scope_at scopes i) n x) ∷ outer in
      guard_views kind (level next count ∷ level i n ∷ outer)
      ++ (parts_views scopes next count around (next + 1) ps ++ body_views scopes (here scopes next around) (next + 1 + parts_scopes ps) b)

  pub module_views : List Names → ℕ → ℕ → List Level → ℕ → ModuleTree → List (List Level)
  module_views scopes i n outer next (the_module x exports ps b last p) =
      let around = level i n ∷ outer in
      parts_views scopes next 0 around (next + 1) ps ++ init_views scopes (here scopes next around) (next + 1 + parts_scopes ps) b

  pub process_views : List Names → ℕ → ℕ → List Level → ℕ → ProcessTree → List (List Level)
  process_views scopes i n outer next (process many x gs es ps b p) =
      let own = scope_at scopes next in
      let count = passed_entries own (passed_groups own 0 gs) es in
      let around = level i (passed (scope_at scopes i) n x) ∷ outer in
      parts_views scopes next count around (next + 1) ps ++ body_views scopes (here scopes next around) (next + 1 + parts_scopes ps) b
