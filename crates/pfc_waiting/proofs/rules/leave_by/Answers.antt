use Rattle.std.proofs.Common.{sym, subst}
use Rattle.pfc_world.specs.Holders.{Held}
use Rattle.pfc_waiting.specs.Waiting.{HasActed}
use Rattle.pfc_waiting.proofs.Turns.{handed_acts}
use Rattle.pfc_waiting.proofs.rules.leave_by.Goals as goal

pub returns-clause-acted : goal.returns-clause-acted
returns-clause-acted c =
    subst (λ (h : Held). HasActed c.args.world.now h.table) (sym c.leave.ensures.table)
    (handed_acts c.args.world.now c.args.mons.now.holders c.args.m c.requires.alone)
