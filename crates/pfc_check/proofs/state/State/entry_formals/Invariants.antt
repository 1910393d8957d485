use Rattle.std.proofs.Common.{◌≡◌, drop}
use Rattle.pfc_types.specs.rules.Declarations.{entry_formals}
use Rattle.pfc_check.specs.States.{entry_heading_of}
use Rattle.pfc_check.proofs.state.State.entry_formals.Given as goal

-- what is still to come completes it
abbrev pub invariant-loop-x : goal.invariant-loop-x
invariant-loop-x l =
    entry_formals l.formal.reference l.formal.t (entry_heading_of l.self l.heading) (drop l.x-index l.names) ≡ entry_formals l.formal.reference l.formal.t
    (entry_heading_of l.initial.self l.initial.heading) l.names
