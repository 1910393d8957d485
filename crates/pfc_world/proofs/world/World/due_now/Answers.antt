use Rattle.std.proofs.Common.{◌<◌, arith, sym, ap, ◌∙◌}
use Rattle.pfc_state.specs.Stands.{is_due}
use Rattle.pfc_world.specs.Settling.{earliest}
use Rattle.pfc_world.proofs.Earliest.{earliest-first, earliest-nobody}
use Rattle.pfc_world.proofs.Waking.{not-due}
use Rattle.pfc_world.proofs.world.World.due_now.Goals as goal

pub returns-in_default : goal.returns-in_default
returns-in_default c =
    let later : c.args.self.now.moment < c.in-Some.due.moment = omega arith in
    not-due c.args.self.now.moment c.in-Some.due.moment (earliest c.args.self.now.rows)
    (sym (ap (λ w. earliest w.rows) c.self.view_is) ∙
    earliest-first c.self.inside.rows.rows c.self.inside.index.dues c.in-Some.due c.self.invariant.indexed.dues c.in-Some.ensures) later

pub returns-in_default-2 : goal.returns-in_default-2
returns-in_default-2 c =
    ap (λ o. is_due c.args.self.now.moment o)
    (sym (ap (λ w. earliest w.rows) c.self.view_is) ∙
    earliest-nobody c.self.inside.rows.rows c.self.inside.index.dues c.self.invariant.indexed.dues c.in_default.ensures)
