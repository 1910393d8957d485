use Rattle.std.proofs.Common.{sym, ap, ◌∙◌}
use Rattle.pfc_semantics.specs.Selects.{open_timeout}
use Rattle.pfc_pending.specs.Selects.{opens_view}
use Rattle.pfc_deciding.proofs.Timing.{no_timeout, timeout_now, timeout_later}
use Rattle.pfc_deciding.proofs.waiting.time_out.Goals as goal

pub returns-in_default : goal.returns-in_default
returns-in_default c =
    no_timeout c.args.state.now c.wait_or_close.new.state c.args.p c.args.select c.wait_or_close.result
    (sym (c.in_default.ensures ∙ ap (λ os. open_timeout (opens_view os)) c.deref.ensures.value)) c.wait_or_close.ensures

pub returns-then-seconds-eq0 : goal.returns-then-seconds-eq0
returns-then-seconds-eq0 c =
    timeout_now c.args.state.now c.go_behind.new.state c.args.p c.args.select c.in-Some.delay c.behind_open-way.result c.go_behind.result
    (sym (c.in-Some.ensures ∙ ap (λ os. open_timeout (opens_view os)) c.deref.ensures.value)) c.if-seconds-eq0.true c.behind_open-way.ensures
    c.go_behind.ensures

pub returns : goal.returns
returns c =
    timeout_later c.args.state.now c.wait_for.new.state c.args.p c.args.select c.in-Some.delay c.behind_open-way.result c.wait_for.result
    (sym (c.in-Some.ensures ∙ ap (λ os. open_timeout (opens_view os)) c.deref.ensures.value)) c.if-seconds-eq0.false c.behind_open-way.ensures
    c.wait_for.ensures
