use Rattle.pfc_declared_order.proofs.Before.{program_before}
use Rattle.pfc_declared_order.proofs.laws.names_were_declared_before.Goals as goal

pub returns : goal.returns
returns c = λ t lawful. program_before t lawful
