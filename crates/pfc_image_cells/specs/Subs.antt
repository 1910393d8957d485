-- The subs of a program.
use Rattle.std.specs.Prelude.{ℕ, ◌+◌, List, [], ◌∷◌, ◌++◌}
use Rattle.pfc_tree.specs.trees.Parts.{PartTree, PartTrees, SubTree, ModuleTree, ProcessTree, consts, types, vars, sub_part, monitor, resource, process_part}
use Rattle.pfc_tree.specs.trees.Parts.{no_parts, more_parts, sub, the_module, process}
use Rattle.pfc_types.specs.rules.Bodies.{part_scopes}

-- The scopes of the subs in a part, whose next scope has this number, in the order of their headings.
abbrev mutual
  pub part_subs : ℕ → PartTree → List ℕ
  part_subs next (consts items) = []
  part_subs next (types items) = []
  part_subs next (vars vs) = []
  part_subs next (sub_part b) = sub_subs next b
  part_subs next (monitor m) = module_subs next m
  part_subs next (resource m) = module_subs next m
  part_subs next (process_part q) = process_subs next q

  pub parts_subs : ℕ → PartTrees → List ℕ
  parts_subs next no_parts = []
  parts_subs next (more_parts q qs) = part_subs next q ++ parts_subs (next + part_scopes q) qs

  pub sub_subs : ℕ → SubTree → List ℕ
  sub_subs next (sub x gs kind ps b p) = next ∷ parts_subs (next + 1) ps

  pub module_subs : ℕ → ModuleTree → List ℕ
  module_subs next (the_module x exports ps b last p) = parts_subs (next + 1) ps

  pub process_subs : ℕ → ProcessTree → List ℕ
  process_subs next (process many x gs es ps b p) = parts_subs (next + 1) ps
