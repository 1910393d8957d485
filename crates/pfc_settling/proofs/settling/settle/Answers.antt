use Rattle.std.proofs.Common.{refl, sym, ◌∙◌}
use Rattle.pfc_activities.specs.declared.state.State.{State}
use Rattle.pfc_settling.proofs.Settled.{whole_stands, whole_reports}
use Rattle.pfc_settling.proofs.settling.settle.Goals as goal

pub returns-clause-stands : goal.returns-clause-stands
returns-clause-stands c = λ source c' stands.
    let mid : State = record c.args.state.now { world = c.settle-settled.new.self } in
    let new : State = record c.end_children.new.state { world = c.finish_children.new.world } in
    whole_stands c.args.state.now mid c' refl c.settle-settled.ensures.world c.end_children.new.state new
    (sym c.may_all_end.ensures ∙
    c.if-not-may_all_end.false) c.end_children.ensures refl c.finish_children.ensures.world source stands c.settle-settled.ensures.fresh

pub returns-clause-reports : goal.returns-clause-reports
returns-clause-reports c = λ c' reports.
    let mid : State = record c.args.state.now { world = c.settle-settled.new.self } in
    let new : State = record c.end_children.new.state { world = c.finish_children.new.world } in
    whole_reports c.args.state.now mid c' refl c.settle-settled.ensures.world c.end_children.new.state new
    (sym c.may_all_end.ensures ∙ c.if-not-may_all_end.false) c.end_children.ensures refl c.finish_children.ensures.world reports
