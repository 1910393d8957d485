use Rattle.std.proofs.Common.{ap, ◌∙◌}
use Rattle.pfc_world.specs.Tables.{Table}
use Rattle.pfc_settling_laws.proofs.Settled.{represents_settled, agrees_settled}
use Rattle.pfc_settling_laws.proofs.settling.settling_keeps_the_representation.Goals as goal

pub returns-clause-acting : goal.returns-clause-acting
returns-clause-acting c = λ facts m config is. ap (λ (w : Table). w.acting) is.world ∙ is.alike.between.acting

pub returns-clause-represents : goal.returns-clause-represents
returns-clause-represents c = λ facts m config is. represents_settled facts m config is

pub returns-clause-agrees : goal.returns-clause-agrees
returns-clause-agrees c = λ facts m config is. agrees_settled facts m config is
