use Rattle.std.proofs.Common.{sym, ◌∙◌}
use Rattle.pfc_settling.proofs.Standings.{nobody_ready, somebody_ready}
use Rattle.pfc_settling.proofs.settling.answer.Goals as goal

pub returns-then-ready_count-eq0 : goal.returns-then-ready_count-eq0
returns-then-ready_count-eq0 c =
    record { nobody = nobody_ready c.args.world.now.rows (sym c.ready_count.ensures ∙ c.if-ready_count-eq0.true); pending = c.requires }

pub returns-else-ready_count-eq0 : goal.returns-else-ready_count-eq0
returns-else-ready_count-eq0 c = somebody_ready c.args.world.now.rows (λ e. c.if-ready_count-eq0.false (c.ready_count.ensures ∙ e))
