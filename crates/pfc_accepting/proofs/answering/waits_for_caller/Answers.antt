use Rattle.std.proofs.Common.{◌≡◌, length, rules, refl}
use Rattle.pfc_activities.specs.declared.hands.Offering.{Offering}
use Rattle.pfc_accepting.proofs.Accepting.{accept_waits}
use Rattle.pfc_accepting.proofs.answering.waits_for_caller.Goals as goal

pub returns-clause-ok : goal.returns-clause-ok
returns-clause-ok c =
    let own = c.index.result.now in
    let kept : c.len.result ≡ length own.doing.pending.items = search rules in
    let offering : Offering = record { line = own.doing.line; opens = c.in_ok-opens.opens; kept = c.len.result } in
    accept_waits c.args.source.now c.args.state.now c.show.new.state c.accept_by.new.world c.args.p c.args.accepting own offering c.show.result
    c.requires.nobody c.index.ensures refl c.in_ok-opens.ensures kept c.accept_by.ensures.rule c.accept_by.ensures.acted c.show.ensures
