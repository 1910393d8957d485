use Rattle.std.proofs.Common.{sym}
use Rattle.pfc_lists.proofs.Bits.{lowest-number}
use Rattle.pfc_lists.proofs.words.number_of_lowest.Goals as goal

pub returns : goal.returns
returns c = sym (lowest-number 64 c.args.lowest c.args.word c.requires.found)
