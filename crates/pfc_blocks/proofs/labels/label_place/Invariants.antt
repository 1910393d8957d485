-- The names still to come decide.
use Rattle.std.proofs.Common.{◌≡◌, drop}
use Rattle.std.specs.List.{position_from}
use Rattle.pfc_program.specs.Views.{tables_view}
use Rattle.pfc_blocks.proofs.LabelPlaces.{is_named}
use Rattle.pfc_blocks.proofs.labels.label_place.Given as goal

abbrev pub invariant-loop-k : goal.invariant-loop-k
invariant-loop-k l =
    let named = is_named (tables_view l.tables) l.i in position_from named l.k (drop l.k l.names) ≡ position_from named 0 l.names
