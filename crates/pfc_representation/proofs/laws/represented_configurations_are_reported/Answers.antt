use Rattle.pfc_representation.proofs.laws.represented_configurations_are_reported.Goals as goal

pub returns : goal.returns
returns c = λ facts m config is. record { words = is.alike.words; world = is.world; lines = λ p below. (is.processes p below).line }
