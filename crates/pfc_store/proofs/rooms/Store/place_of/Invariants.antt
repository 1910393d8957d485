-- None of the rooms that were passed is that of the activation.
use Rattle.std.proofs.Common.{drop}
use Rattle.pfc_store.specs.Views.{rooms_view}
use Rattle.pfc_store.specs.Latest.{NoneOf}
use Rattle.pfc_store.proofs.rooms.Store.place_of.Given as goal

abbrev pub invariant-loop-i : goal.invariant-loop-i
invariant-loop-i l = NoneOf l.activation (rooms_view (drop l.i l.self.rooms.items))
