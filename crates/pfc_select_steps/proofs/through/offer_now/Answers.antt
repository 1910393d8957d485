use Rattle.std.proofs.Common.{◌≡◌, ap, ◌∙◌}
use Rattle.pfc_pending.specs.Selects.{alternative_view, rest_view, select_view}
use Rattle.pfc_pending.specs.declared.select.Choosing.{Choosing}
use Rattle.pfc_pending.specs.Waiting.{remainder_of}
use Rattle.pfc_select_steps.proofs.Rules.{comm_kept}
use Rattle.pfc_select_steps.proofs.through.offer_now.Goals as goal

pub returns-clause-err : goal.returns-clause-err
returns-clause-err c = λ t here w.
    let x = c.reserve.new.choosing in
    let y = c.args.choosing.value in
    let same : c.deref_mut.result.now ≡ y = c.deref_mut.ensures.value in
    let current : alternative_view x.current ≡ alternative_view y.current =
    ap alternative_view c.reserve.ensures.current ∙ ap (λ (z : Choosing). alternative_view z.current) same in
    let rest : rest_view x ≡ rest_view y = c.reserve.ensures.rest ∙ ap rest_view same in
    let select : select_view x.select ≡ select_view y.select =
    c.reserve.ensures.select ∙ ap (λ (z : Choosing). select_view z.select) same in
    comm_kept here (alternative_view x.current) (alternative_view y.current) (rest_view x) (rest_view y) (select_view x.select) (select_view y.select)
    (remainder_of w) current rest select
