use Rattle.std.proofs.Common.{sym, subst}
use Rattle.pfc_stacks.specs.Answers.{IsCallBy}
use Rattle.pfc_call_actions.specs.declared.beginning.Entry.{Entry}
use Rattle.pfc_call_actions.specs.Calls.{link_by, mark_by}
use Rattle.pfc_call_actions.proofs.beginning.call_block.Goals as goal

pub returns-in-Inside : goal.returns-in-Inside
returns-in-Inside c = λ b is.
    let s = c.args.stacks.now in
    subst (λ (e : Entry). IsCallBy c.args.p c.args.k b (link_by e c.args.p s) (mark_by e) s c.call_inside.result c.call_inside.new.self)
    (sym c.in-Inside.is) (c.call_inside.ensures b is)

pub returns-in-Outside : goal.returns-in-Outside
returns-in-Outside c = λ b is.
    let s = c.args.stacks.now in
    subst (λ (e : Entry). IsCallBy c.args.p c.args.k b (link_by e c.args.p s) (mark_by e) s c.call.result c.call.new.self)
    (sym c.in-Outside.is) (c.call.ensures b is)
