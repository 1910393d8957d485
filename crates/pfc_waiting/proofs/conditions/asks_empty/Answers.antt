use Rattle.std.proofs.Common.{rules, FitsSigned, w64, ap, ◌∙◌}
use Rattle.std.proofs.lemmas.Int.{to_z-of_z}
use Rattle.pfc_values.specs.Numbers.{truth}
use Rattle.pfc_semantics.specs.Values.{ordinal}
use Rattle.pfc_waiting.proofs.Performing.{asks_empty_so}
use Rattle.pfc_waiting.proofs.conditions.asks_empty.Goals as goal

pub returns-clause-ok : goal.returns-clause-ok
returns-clause-ok c =
    let fits : FitsSigned w64 c.truth.result = search rules in
    asks_empty_so c.args.state.now c.go_on.new.self c.args.p c.in-Some.c c.args.spot c.of.result c.go_on.result c.in-Some.ensures
    (c.of.ensures ∙ ap ordinal (to_z-of_z w64 c.truth.result fits ∙ c.truth.ensures ∙ ap truth c.is_empty-nobody.ensures)) c.go_on.ensures
