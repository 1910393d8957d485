use Rattle.std.proofs.Common.{refl}
use Rattle.pfc_scan.proofs.Written.{written}
use Rattle.pfc_scan.proofs.laws.tokens_are_written.Goals as goal

pub returns : goal.returns
returns c text ts end h = written h ts end refl
