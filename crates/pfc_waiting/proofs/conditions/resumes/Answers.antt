use Rattle.std.proofs.Common.{get_or, refl, sym, ◌∙◌}
use Rattle.pfc_activities.specs.declared.state.State.{State}
use Rattle.pfc_waiting.proofs.Performing.{resumes_so, nobody_resumed}
use Rattle.pfc_waiting.proofs.Turns.{nothing_acts}
use Rattle.pfc_waiting.proofs.conditions.resumes.Goals as goal

pub returns-then-is_empty-clause-ok : goal.returns-then-is_empty-clause-ok
returns-then-is_empty-clause-ok c =
    let old : State = c.args.state.now in
    resumes_so old old c.go_on_when_ready.new.state c.args.p c.in-Some.c c.args.spot c.go_on_when_ready.result refl
    (nothing_acts old.world c.requires.alone) refl refl c.in-Some.ensures.number
    (nobody_resumed old.world old.monitors.holders c.args.p (get_or old.monitors.owners c.in-Some.c 0) c.in-Some.c
    (sym c.is_empty.ensures ∙ c.if-is_empty.true))
    c.go_on_when_ready.ensures

pub returns-clause-ok : goal.returns-clause-ok
returns-clause-ok c =
    let old : State = c.args.state.now in
    let mid : State = record old { world = c.resume_by.new.world; monitors = c.resume_by.new.mons } in
    resumes_so old mid c.go_on_when_ready-2.new.state c.args.p c.in-Some.c c.args.spot c.go_on_when_ready-2.result refl c.resume_by.ensures.acted refl
    c.resume_by.ensures.conditions c.in-Some.ensures.number c.resume_by.ensures.rule c.go_on_when_ready-2.ensures
