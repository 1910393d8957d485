use Rattle.std.proofs.Common.{refl}
use Rattle.pfc_activities.specs.Views.{deed_of}
use Rattle.pfc_pending.specs.declared.at_hand.At.TheVariants as at
use Rattle.pfc_acting.proofs.Before.{deed_at, moved_on}
use Rattle.pfc_acting.proofs.advancing.put_back.Goals as goal

pub returns : goal.returns
returns c = λ source c' before.
    let t = source.program.tables in
    let a = c.index_mut.result.now in
    let d = record a.doing { at = at.Deed c.args.deed } in (
      record a { doing = d },
      moved_on source c.args.state.now _ c' c.args.p a d (deed_of t a.doing c.args.deed) (deed_of t a.doing c.args.deed)
          (deed_at source c.args.state.now c' c.args.p a c.args.deed c.index_mut.ensures.value before) refl refl refl,
    )
