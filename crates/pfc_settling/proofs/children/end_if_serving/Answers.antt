use Rattle.std.proofs.Common.{◌≡◌, ◌<◌, ◌≤◌, length, sym, ◌∙◌, arith}
use Rattle.pfc_settling.proofs.Ending.{none_there, goes_past, ends_next, any_of}
use Rattle.pfc_settling.proofs.children.end_if_serving.Goals as goal

pub returns-then-len-p : goal.returns-then-len-p
returns-then-len-p c =
    none_there c.args.state.now c.args.p (let high : length c.args.state.now.activities.items ≤ c.args.p = omega arith in high)

pub returns-then-not-is_serving : goal.returns-then-not-is_serving
returns-then-not-is_serving c = goes_past c.args.state.now c.args.p (sym c.is_serving.ensures ∙ c.if-not-is_serving.true)

pub returns : goal.returns
returns c =
    let low : c.args.p < length c.args.state.now.activities.items = omega arith in
    ends_next c.args.state.now c.args.p c.end_one.new.state (any_of c.args.state.now.activities.items c.args.p low) low
    (sym c.is_serving.ensures ∙ c.if-not-is_serving.false) c.end_one.ensures
