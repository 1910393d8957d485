-- No frame that was passed is that of the scope.
use Rattle.std.proofs.Common.{◌≡◌, drop}
use Rattle.pfc_semantics.specs.Displays.{outward}
use Rattle.pfc_store.specs.Frames.{frames_view}
use Rattle.pfc_store.proofs.displays.outward_of.Given as goal

abbrev pub invariant-loop-i : goal.invariant-loop-i
invariant-loop-i l = outward (frames_view l.frames) l.scope ≡ outward (frames_view (drop l.i l.frames)) l.scope
