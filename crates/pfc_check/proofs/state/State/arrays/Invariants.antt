use Rattle.std.proofs.Common.{◌≡◌, vec_len}
use Rattle.pfc_types.specs.rules.Constants.{made_arrays}
use Rattle.pfc_check.specs.States.{made_of, extents_of}
use Rattle.pfc_check.proofs.state.State.arrays.Given as goal

-- what is still to come completes it
abbrev pub invariant-loop-extent : goal.invariant-loop-extent
invariant-loop-extent l =
    made_arrays (made_of l.self l.t) (extents_of l.extents.items) l.place ≡ made_arrays (made_of l.initial.self l.initial.t)
    (extents_of l.initial.extents.items) l.place

abbrev pub decreases-loop-extent : goal.decreases-loop-extent
decreases-loop-extent l = vec_len l.extents
