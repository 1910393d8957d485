-- The processes of a program.
use Rattle.std.specs.Prelude.{ℕ, ◌+◌, List, [], ◌∷◌}
use Rattle.pfc_tree.specs.trees.Parts.{PartTrees, process_part, no_parts, more_parts}
use Rattle.pfc_types.specs.rules.Bodies.{part_scopes}

-- the scopes of the processes among the parts of a program, whose next scope has this number
abbrev pub processes_from : ℕ → PartTrees → List ℕ
processes_from next no_parts = []
processes_from next (more_parts (process_part p) qs) = next ∷ processes_from (next + part_scopes (process_part p)) qs
processes_from next (more_parts q qs) = processes_from (next + part_scopes q) qs
