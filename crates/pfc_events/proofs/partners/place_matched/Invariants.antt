-- What is left to be passed over leads to the one that is sought.
use Rattle.std.proofs.Common.{◌≡◌, drop}
use Rattle.std.specs.Prelude.{slice_get}
use Rattle.pfc_world.specs.Selects.{matched, matched_from}
use Rattle.pfc_events.proofs.partners.place_matched.Given as goal

abbrev pub invariant-loop-place : goal.invariant-loop-place
invariant-loop-place l = slice_get (matched_from l.place l.world.rows l.p (drop l.place l.arms)) l.left ≡ slice_get (matched l.world.rows l.p l.arms) l.k
