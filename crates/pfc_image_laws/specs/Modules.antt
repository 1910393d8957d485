-- The modules of a program.
use Rattle.std.specs.Prelude.{ℕ, ◌+◌, true, false, List, [], ◌∷◌}
use Rattle.pfc_tree.specs.trees.Parts.{PartTrees, monitor, resource, no_parts, more_parts}
use Rattle.pfc_types.specs.declared.heads.ModuleHead.{ModuleHead}
use Rattle.pfc_types.specs.rules.Bodies.{part_scopes}

-- the headings of the modules among the parts of a program, whose next scope has this number
abbrev pub modules_from : ℕ → PartTrees → List ModuleHead
modules_from next no_parts = []
modules_from next (more_parts (monitor m) qs) = record { scope = next; resource = false } ∷ modules_from (next + part_scopes (monitor m)) qs
modules_from next (more_parts (resource m) qs) = record { scope = next; resource = true } ∷ modules_from (next + part_scopes (resource m)) qs
modules_from next (more_parts q qs) = modules_from (next + part_scopes q) qs
