use Rattle.pfc_rewriting.proofs.Sorts.{plain_others}
use Rattle.pfc_rewriting.proofs.going.Going.end.Goals as goal

pub end_plain-requires-clause-plain : goal.end_plain-requires-clause-plain
end_plain-requires-clause-plain c = plain_others _ c.in_default.not-Within c.in_default.not-GoThrough
