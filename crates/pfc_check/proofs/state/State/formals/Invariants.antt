use Rattle.std.proofs.Common.{◌≡◌, drop}
use Rattle.pfc_types.specs.rules.Declarations.{formals_heading}
use Rattle.pfc_check.specs.States.{heading_of}
use Rattle.pfc_check.proofs.state.State.formals.Given as goal

-- what is still to come completes it
abbrev pub invariant-loop-x : goal.invariant-loop-x
invariant-loop-x l =
    formals_heading l.i l.formal.reference l.formal.t (heading_of l.self l.heading) (drop l.x-index l.names) ≡ formals_heading l.i l.formal.reference l.formal.t
    (heading_of l.initial.self l.initial.heading) l.names
