use Rattle.std.proofs.Common.{rules, FitsSigned, w32, w64, to_z, of_z, refl, ◌∙◌}
use Rattle.std.proofs.lemmas.Int.{to_z-of_z}
use Rattle.pfc_activities.specs.declared.state.State.{State}
use Rattle.pfc_waiting.proofs.Performing.{initials_so, initials_stop, fault_so}
use Rattle.pfc_waiting.proofs.Turns.{nothing_acts}
use Rattle.pfc_waiting.proofs.semaphores.initials.Goals as goal

pub returns-in-Ok-clause-ok : goal.returns-in-Ok-clause-ok
returns-in-Ok-clause-ok c =
    let old : State = c.args.state.now in
    let mid : State = record old { semaphores = c.sem_initial.new.sems } in
    let fits : FitsSigned w32 c.in-Some-in_32_bits.count = search rules in
    let whole : FitsSigned w64 c.args.n = search rules in
    initials_so old mid c.go_on_when_ready.new.state c.args.p c.in-Some.s c.args.spot c.args.n (to_z w32 (of_z w32 c.in-Some-in_32_bits.count))
    c.go_on_when_ready.result refl (nothing_acts old.world c.requires.alone) refl refl c.in-Some.ensures.number
    (to_z-of_z w32 c.in-Some-in_32_bits.count fits ∙ c.in-Some-in_32_bits.ensures ∙ to_z-of_z w64 c.args.n whole)
    c.in-Ok.ensures.0 c.in-Ok.ensures.1 c.go_on_when_ready.ensures

pub returns-clause-ok : goal.returns-clause-ok
returns-clause-ok c =
    let old : State = c.args.state.now in
    let mid : State = record old { semaphores = c.sem_initial.new.sems } in
    let fits : FitsSigned w32 c.in-Some-in_32_bits.count = search rules in
    let whole : FitsSigned w64 c.args.n = search rules in
    initials_stop old c.end_in_fault.new.self c.args.p c.args.spot c.args.n (to_z w32 (of_z w32 c.in-Some-in_32_bits.count)) c.in-Err.fault
    c.end_in_fault.result
    (to_z-of_z w32 c.in-Some-in_32_bits.count fits ∙ c.in-Some-in_32_bits.ensures ∙ to_z-of_z w64 c.args.n whole)
    c.in-Err.ensures.0 c.in-Err.ensures.1
    (fault_so old mid c.end_in_fault.new.self c.args.p c.in-Err.fault c.end_in_fault.result refl refl c.in-Err.ensures.2 refl c.end_in_fault.ensures)
