use Rattle.std.proofs.Common.{◌≡◌, ℕ, ◌/◌, pos, ap, ◌∙◌, rules}
use Rattle.pfc_values.specs.Numbers.{fitting}
use Rattle.pfc_store.specs.Views.{value_view}
use Rattle.pfc_semantics.specs.Values.{ordinal}
use Rattle.pfc_deeds.proofs.Performing.{asks_clock_so, asks_clock_stop}
use Rattle.pfc_deeds.proofs.plain.asks_clock.Goals as goal

pub returns-in-Ok : goal.returns-in-Ok
returns-in-Ok c =
    let held : value_view c.of.result ≡ ordinal c.in-Ok.n = search rules in
    asks_clock_so c.args.state.now c.go_on.new.self c.args.p c.in-Ok.n c.of.result c.go_on.result
    (c.in-Ok.ensures ∙ ap (λ (m : ℕ). fitting (pos (m / 1000))) c.now.ensures) held c.go_on.ensures

pub returns-in-Err : goal.returns-in-Err
returns-in-Err c =
    asks_clock_stop c.args.state.now c.end_in_fault.new.self c.args.p c.in-Err.fault c.end_in_fault.result
    (c.in-Err.ensures ∙ ap (λ (m : ℕ). fitting (pos (m / 1000))) c.now.ensures) c.end_in_fault.ensures
