use Rattle.std.proofs.Common.{◌≡◌, rules, ℕ, ℤ, FitsSigned, w64, to_z, of_z, refl, ap, ◌∙◌}
use Rattle.std.proofs.lemmas.Int.{to_z-of_z}
use Rattle.pfc_activities.specs.declared.state.State.{State}
use Rattle.pfc_waiting.specs.Moments.{due_behind}
use Rattle.pfc_waiting.proofs.Performing.{sleeps_so, sleeps_on, sleeps_stop}
use Rattle.pfc_waiting.proofs.Turns.{nothing_acts}
use Rattle.pfc_waiting.proofs.time.sleeps.Goals as goal

-- the moment was found for the clock of the state, and for the number that was given
found : (now moment : ℕ) (n : ℤ) → FitsSigned w64 n → now ≡ moment → due_behind now (to_z w64 (of_z w64 n)) ≡ due_behind moment n
found now moment n fits is = ap (due_behind now) (to_z-of_z w64 n fits) ∙ ap (λ (m : ℕ). due_behind m n) is

pub returns-in-Ok-None : goal.returns-in-Ok-None
returns-in-Ok-None c =
    let old : State = c.args.state.now in
    sleeps_on old c.go_on_when_ready.new.state c.args.p c.args.n c.go_on_when_ready.result (nothing_acts old.world c.requires.alone)
    ((rw c.in-Ok-None.field-0-is at c.in-Ok-None.ensures) ∙ found c.now.result _ c.args.n (search rules) c.now.ensures)
    c.go_on_when_ready.ensures

pub returns-in-Ok-Some : goal.returns-in-Ok-Some
returns-in-Ok-Some c =
    let old : State = c.args.state.now in
    let mid : State = record old { world = c.block_by.new.world } in
    sleeps_so old mid c.go_on_when_ready-in-Ok-Some.new.state c.args.p c.in-Ok-Some.due c.args.n c.go_on_when_ready-in-Ok-Some.result refl
    c.block_by.ensures.acted refl refl
    ((rw c.in-Ok-Some.field-0-is at c.in-Ok-Some.ensures) ∙ found c.now.result _ c.args.n (search rules) c.now.ensures)
    c.block_by.ensures.rule c.go_on_when_ready-in-Ok-Some.ensures

pub returns-in-Err : goal.returns-in-Err
returns-in-Err c =
    sleeps_stop c.args.state.now c.end_in_fault.new.self c.args.p c.args.n c.in-Err.fault c.end_in_fault.result
    (c.in-Err.ensures ∙ found c.now.result _ c.args.n (search rules) c.now.ensures)
    c.end_in_fault.ensures
