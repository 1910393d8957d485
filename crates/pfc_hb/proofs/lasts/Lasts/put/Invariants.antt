use Rattle.std.proofs.Common.{take}
use Rattle.std.specs.List.{list_any}
use Rattle.pfc_hb.specs.Lasts.{PutsIn}
use Rattle.pfc_hb.specs.Order.{is_same_thing}
use Rattle.pfc_hb.proofs.lasts.Lasts.put.Given as goal

abbrev pub invariant-loop-thing : goal.invariant-loop-thing
invariant-loop-thing l =
    PutsIn (λ other. list_any (is_same_thing other) (take l.thing-index l.things)) l.place l.initial.self.places.entries l.self.places.entries
