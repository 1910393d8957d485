use Rattle.pfc_call_laws.proofs.Mains.{main_sees, shows_none}
use Rattle.pfc_call_laws.proofs.laws.main_sees_its_own.Goals as goal

pub returns : goal.returns
returns c = λ g homes entries store b e cells sound of_main at living number holds small. (
  main_sees g sound homes entries store b of_main at e living number cells holds small,
  shows_none g sound homes entries store b of_main at e living number cells holds small,
)
