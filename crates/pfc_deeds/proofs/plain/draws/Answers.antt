use Rattle.std.proofs.Common.{◌≡◌, ℤ, w64, refl, ap, ◌∙◌, rules}
use Rattle.std.proofs.lemmas.Int.{to_z-of_z}
use Rattle.pfc_sched.specs.Draws.{drawn, after_draw}
use Rattle.pfc_store.specs.Views.{value_view}
use Rattle.pfc_semantics.specs.Values.{ordinal}
use Rattle.pfc_deeds.proofs.Performing.{draws_so, draws_stop}
use Rattle.pfc_deeds.proofs.plain.draws.Goals as goal

pub returns-in-Ok : goal.returns-in-Ok
returns-in-Ok c =
    let same = to_z-of_z w64 c.args.n c.ranges.n in
    let held : value_view c.of.result ≡ ordinal c.in-Ok.drawn = search rules in
    draws_so c.args.state.now (record c.args.state.now { draws = c.draw.new.self }) c.go_on.new.self c.args.p c.args.n c.in-Ok.drawn c.of.result c.go_on.result
    refl refl refl (c.in-Ok.ensures.answer ∙ ap (λ (z : ℤ). drawn c.args.state.now.draws z) same)
    (c.in-Ok.ensures.words ∙ ap (λ (z : ℤ). after_draw c.args.state.now.draws z) same) held c.go_on.ensures

pub returns-in-Err : goal.returns-in-Err
returns-in-Err c =
    let same = to_z-of_z w64 c.args.n c.ranges.n in
    draws_stop c.args.state.now (record c.args.state.now {
      draws =
          c.draw.new.self;
    }) c.end_in_fault.new.self c.args.p c.args.n c.in-Err.fault c.end_in_fault.result
    refl refl refl (c.in-Err.ensures.answer ∙ ap (λ (z : ℤ). drawn c.args.state.now.draws z) same)
    (c.in-Err.ensures.words ∙ ap (λ (z : ℤ). after_draw c.args.state.now.draws z) same) c.end_in_fault.ensures
