use Rattle.std.proofs.Common.{◌≡◌, drop}
use Rattle.pfc_types.specs.rules.Constants.{made_names}
use Rattle.pfc_check.specs.States.{fields_of}
use Rattle.pfc_check.proofs.state.State.field_names.Given as goal

-- what is still to come completes it
abbrev pub invariant-loop-x : goal.invariant-loop-x
invariant-loop-x l =
    made_names l.t (fields_of l.self l.fields) (drop l.x-index l.names) ≡ made_names l.t (fields_of l.initial.self l.initial.fields) l.names
