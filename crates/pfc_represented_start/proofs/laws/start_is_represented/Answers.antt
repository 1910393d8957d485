use Rattle.std.proofs.Common.{arith}
use Rattle.pfc_represented_start.proofs.Whole.{start_represented}
use Rattle.pfc_represented_start.proofs.laws.start_is_represented.Goals as goal

pub returns : goal.returns
returns c = λ t input seed lawful whole mains can small short. start_represented t lawful whole mains can.few small (omega (arith, short)) input seed
