use Rattle.std.proofs.Common.{◌==◌, ℕ, ap, ◌∙◌}
use Rattle.pfc_sessions.proofs.Ready.{none_ready}
use Rattle.pfc_sessions.proofs.endings.is_stuck.Goals as goal

pub returns : goal.returns
returns c = ap (λ (n : ℕ). n == 0) c.ready_count.ensures ∙ none_ready c.args.machine.now.world.rows
