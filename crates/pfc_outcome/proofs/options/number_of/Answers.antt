use Rattle.std.proofs.Common.{rules}
use Rattle.pfc_outcome.proofs.Numbers.{unread, within}
use Rattle.pfc_outcome.proofs.options.number_of.Goals as goal

pub returns-in_default-clause-number : goal.returns-in_default-clause-number
returns-in_default-clause-number c = unread c.args.least c.args.most c.args.word.now c.in_default.field-0 c.in_default.ensures.value.0

pub returns-clause-number : goal.returns-clause-number
returns-clause-number c =
    let parsed = c.in-Ok.ensures.value.0 in
    within c.args.least c.args.most c.args.word.now c.in-Ok.n parsed.0.0 parsed.0.1 parsed.1 (search rules) (search rules)
