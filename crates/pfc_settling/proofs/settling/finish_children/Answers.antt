use Rattle.std.proofs.Common.{◌≡◌, None, sym, subst}
use Rattle.pfc_world.specs.Settling.{earliest}
use Rattle.pfc_world.specs.Tables.{Table}
use Rattle.pfc_settling.proofs.Standings.{terminated_due, ending_due}
use Rattle.pfc_settling.proofs.settling.finish_children.Goals as goal

pub answer-requires : goal.answer-requires
answer-requires c =
    subst (λ (w : Table). earliest w.rows ≡ None) (sym c.terminate.ensures) (terminated_due c.args.world.now (ending_due c.args.world.now.rows c.requires))
