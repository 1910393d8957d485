use Rattle.std.proofs.Common.{refl, rules}
use Rattle.pfc_activities.specs.Views.{doing_ahead, deed_of}
use Rattle.pfc_acting.proofs.Before.{found_at, moved_on, may_act_still}
use Rattle.pfc_acting.proofs.advancing.next.Goals as goal

pub returns-in-Ok-clause-ok : goal.returns-in-Ok-clause-ok
returns-in-Ok-clause-ok c = λ c' before.
    let t = c.args.source.now.program.tables in
    let a = c.index_mut-activity.result.now in
    let d = c.rewrite.new.doing in (
      record a { doing = d },
      moved_on c.args.source.now c.args.state.now _ c' c.args.p a d (deed_of t d c.in-Ok.deed) (doing_ahead t a.doing)
          (found_at c.args.source.now c.args.state.now c' c.args.p a c.index_mut-activity.ensures.value before) c.in-Ok.ensures.ok refl refl,
    )

pub returns-in-Err-clause-err : goal.returns-in-Err-clause-err
returns-in-Err-clause-err c = λ c' before.
    let t = c.args.source.now.program.tables in
    let a = c.index_mut-activity.result.now in
    let d = c.rewrite.new.doing in (
      record a { doing = d },
      moved_on c.args.source.now c.args.state.now _ c' c.args.p a d (doing_ahead t d) (doing_ahead t a.doing)
          (found_at c.args.source.now c.args.state.now c' c.args.p a c.index_mut-activity.ensures.value before) c.in-Err.ensures.err refl refl,
    )

pub returns-in-Ok-clause-may : goal.returns-in-Ok-clause-may
returns-in-Ok-clause-may c =
    may_act_still c.args.state.now _ c.args.p c.requires (search rules) refl

pub returns-in-Err-clause-may : goal.returns-in-Err-clause-may
returns-in-Err-clause-may c =
    may_act_still c.args.state.now _ c.args.p c.requires (search rules) refl
