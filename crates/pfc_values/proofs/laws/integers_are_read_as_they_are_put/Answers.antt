use Rattle.pfc_values.proofs.Prints.{piece_read}
use Rattle.pfc_values.proofs.laws.integers_are_read_as_they_are_put.Goals as goal

pub returns : goal.returns
returns c = piece_read
