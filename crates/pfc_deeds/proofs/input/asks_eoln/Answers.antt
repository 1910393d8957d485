use Rattle.std.proofs.Common.{◌≡◌, ap, ◌∙◌, rules}
use Rattle.pfc_values.specs.Numbers.{truth}
use Rattle.pfc_store.specs.Views.{value_view}
use Rattle.pfc_semantics.specs.Values.{ordinal}
use Rattle.pfc_deeds.proofs.Performing.{asks_eoln_so}
use Rattle.pfc_deeds.proofs.input.asks_eoln.Goals as goal

pub returns : goal.returns
returns c =
    let held : value_view c.of.result ≡ ordinal c.truth.result = search rules in
    asks_eoln_so c.args.state.now c.go_on.new.self c.args.p c.of.result c.go_on.result
    (held ∙ ap ordinal (c.truth.ensures ∙ ap truth c.is_at_line_end-is_at_end.ensures)) c.go_on.ensures
