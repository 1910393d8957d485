use Rattle.std.proofs.Common.{◌≡◌, length, arith, ap, ◌∙◌}
use Rattle.std.proofs.lemmas.List.{take_all}
use Rattle.pfc_activities.specs.declared.activities.Activity.{Activity}
use Rattle.pfc_deciding.proofs.Timing.{closes_so, waits_so, nothing_open, something_open}
use Rattle.pfc_deciding.proofs.waiting.wait_or_close.Goals as goal

pub returns-then-is_empty : goal.returns-then-is_empty
returns-then-is_empty c =
    closes_so c.args.state.now c.end_in_fault.new.self c.args.p c.args.select c.end_in_fault.result
    (nothing_open c.args.select.offered.items c.args.select.offered.len c.is_empty.result c.is_empty.ensures c.if-is_empty.true c.args.select.offered.ok.0)
    c.end_in_fault.ensures

pub returns : goal.returns
returns c =
    let here : Activity = c.index.result.now in
    waits_so c.args.state.now c.wait_until.new.state c.args.p c.args.select c.args.arms.now c.len-kept.result c.wait_until.result
    (something_open c.args.select.offered.items c.args.select.offered.len c.is_empty.result c.is_empty.ensures c.if-is_empty.false c.args.select.offered.ok.0)
    c.requires.arms
    (λ a there.
    let e : c.len-kept.result ≡ length a.doing.pending.items
    = c.len-kept.ensures ∙ here.doing.pending.ok.0 ∙ ap (λ (b : Activity). length b.doing.pending.items) (c.index.ensures ∙ there.is here) in
    take_all c.len-kept.result a.doing.pending.items (omega arith))
    c.wait_until.ensures
