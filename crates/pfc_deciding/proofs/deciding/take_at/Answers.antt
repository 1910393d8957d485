use Rattle.std.proofs.Common.{sym, ap, ◌∙◌}
use Rattle.std.specs.Prelude.{slice_get}
use Rattle.pfc_semantics.specs.Channels.{communications}
use Rattle.pfc_pending.specs.Selects.{opens_view}
use Rattle.pfc_deciding.proofs.Taking.{takes_ok}
use Rattle.pfc_deciding.proofs.deciding.take_at.Goals as goal

pub returns-clause-ok : goal.returns-clause-ok
returns-clause-ok c =
    takes_ok c.args.source.now c.args.state.now c.take_open.new.state c.args.p c.args.select.now c.args.arms.now c.args.place
    c.in-Some-communication_at.open.now c.in-Some.met c.take_open.result c.requires.arms c.in-Some.ensures.matched
    (ap (λ os. slice_get (communications (opens_view os)) c.in-Some.met.place) (sym c.deref.ensures.value) ∙ sym c.in-Some-communication_at.ensures)
    c.take_open.ensures.ok
