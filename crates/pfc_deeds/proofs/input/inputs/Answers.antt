use Rattle.std.proofs.Common.{◌≡◌, refl, sym, ap, ◌∙◌, rules}
use Rattle.pfc_values.specs.Inputs.{item}
use Rattle.pfc_values.specs.declared.simple.Simple.{Simple}
use Rattle.pfc_store.specs.Views.{value_view}
use Rattle.pfc_semantics.specs.Values.{ordinal}
use Rattle.pfc_deeds.proofs.Performing.{found_in, inputs_so, inputs_stop}
use Rattle.pfc_deeds.proofs.input.inputs.Goals as goal

pub returns-in-Ok-item-clause-ok : goal.returns-in-Ok-item-clause-ok
returns-in-Ok-item-clause-ok c =
    let held : value_view c.of.result ≡ ordinal c.in-Ok-item.n = search rules in
    inputs_so c.args.state.now (record c.args.state.now {
      input = c.item.new.self;
      store =
          c.put.new.self;
    }) c.go_on.new.self c.args.p c.args.t c.args.spot c.in-Ok-item.n c.of.result
    c.in-Ok.location c.index.result.now.display c.go_on.result refl refl (found_in c.args.state.now c.args.p c.index.result.now c.index.ensures) c.in-Ok.ensures
    (ap (λ (t : Simple). item t c.args.state.now.input.bytes) (sym c.simple_of.ensures) ∙ c.in-Ok-item.ensures.item) c.in-Ok-item.ensures.whole held
    c.put.ensures c.go_on.ensures

pub returns-clause-ok : goal.returns-clause-ok
returns-clause-ok c =
    inputs_stop c.args.state.now (record c.args.state.now { input = c.item.new.self }) c.end_in_fault.new.self c.args.p c.args.t
    c.args.spot c.in-Err.fault c.end_in_fault.result
    refl refl c.in-Err.ensures.err refl
    (ap (λ (t : Simple). item t c.args.state.now.input.bytes) (sym c.simple_of.ensures) ∙ c.in-Err.ensures.item) c.end_in_fault.ensures
