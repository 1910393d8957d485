use Rattle.std.proofs.Common.{arith}
use Rattle.pfc_select_actions.specs.Selects.{takes_up}
use Rattle.pfc_step_laws.proofs.Lengths.{quiet_is_short}
use Rattle.pfc_step_laws.proofs.laws.actions_take_few_instructions.Goals as goal

pub returns-clause-quiet : goal.returns-clause-quiet
returns-clause-quiet c = λ t p n m m' lawful run.
    quiet_is_short t (c.images_are_laid_out.ensures.layout t) (c.numbers_are_there.ensures.lawful t lawful) p n m m' run

pub returns-clause-actions : goal.returns-clause-actions
returns-clause-actions c = λ t picking p m lawful may.
    let few =
    quiet_is_short t (c.images_are_laid_out.ensures.layout t) (c.numbers_are_there.ensures.lawful t lawful) p may.count (takes_up p m) may.before
    may.next.run in
    omega (arith, few)
