use Rattle.pfc_following_source.proofs.Source.{source_followed}
use Rattle.pfc_following_source.proofs.laws.code_follows_source.Goals as goal

pub returns : goal.returns
returns c = λ g. source_followed g
