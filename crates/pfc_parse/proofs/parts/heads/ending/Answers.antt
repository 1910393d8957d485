use Rattle.std.proofs.Common.{rules}
use Rattle.pfc_grammar.specs.placed.Reading.{bind, pure}
use Rattle.pfc_grammar.specs.placed.Parts.{ending}
use Rattle.pfc_token_parser.proofs.Branches.{branch_not_taken}
use Rattle.pfc_parse.proofs.PartLevels.{body_ends}
use Rattle.pfc_parse.proofs.parts.heads.ending.Goals as goal

pub returns-clause-gives : goal.returns-clause-gives
unfolding ending bind pure
returns-clause-gives c = rw (branch_not_taken _ _ _ _ c.in_default.ensures.taken, c.in_ok-body.ensures.gives, body_ends c.in_ok-body.body) (search rules)
