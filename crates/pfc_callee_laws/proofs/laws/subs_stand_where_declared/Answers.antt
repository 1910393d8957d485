use Rattle.pfc_callee_laws.proofs.Program.{declared_in}
use Rattle.pfc_callee_laws.proofs.laws.subs_stand_where_declared.Goals as goal

pub returns : goal.returns
returns c = λ t n i x lawful declared. declared_in t lawful n i x declared
