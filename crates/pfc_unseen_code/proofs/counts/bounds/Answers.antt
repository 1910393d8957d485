use Rattle.pfc_types.specs.rules.Expressions.{find}
use Rattle.pfc_semantics.specs.Expressions.{spot_of}
use Rattle.pfc_phrases.specs.Views.{env_view}
use Rattle.pfc_unseen_code.proofs.Alternatives.{values_counted}
use Rattle.pfc_unseen_code.proofs.counts.bounds.Goals as goal

pub returns : goal.returns
returns c =
    let env = env_view c.args.env in
    let s = c.args.s.now in
    values_counted (spot_of env (find env s.name)).spot env s c.spread_values.result (c.spread_values.ensures 0)
