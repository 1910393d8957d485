use Rattle.std.proofs.Common.{rules, ap, ◌∙◌, subst}
use Rattle.pfc_world.specs.Tables.{Table}
use Rattle.pfc_activities.specs.declared.changes.Done.{Done}
use Rattle.pfc_acting.proofs.Before.{before_any}
use Rattle.pfc_walker.specs.Telling.{IsTold, step_by}
use Rattle.pfc_walker.proofs.OneTurn.{not_begun, continues, faulted}
use Rattle.pfc_walker.proofs.turns.act_out.Goals as goal

pub returns-in_default-clause-turn : goal.returns-in_default-clause-turn
returns-in_default-clause-turn c = λ g limit left picking c' d program stands pick.
    not_begun g limit picking c' c.args.told _ c.args.out.now c.act_told.new.out (search rules)

pub settle-requires : goal.settle-requires
settle-requires c =
    let (g, d, program, stands) = c.requires.before in
    let action = c.in-Ok.ensures.ok g d program (before_any c.args.source.now c.args.state.now d c.args.p c.requires.may.within stands) in
    ap (λ (w : Table). w.acting) action.ends.reports.table ∙ action.ends.reports.acting

pub returns-in-Stepped-clause-turn : goal.returns-in-Stepped-clause-turn
returns-in-Stepped-clause-turn c = λ g limit left picking c' d program stands pick.
    continues c.args.told c.args.source.now g limit left picking c.args.picker.now c' d c.args.p pick c.act_told.new.state
    c.act_told.new.picker c.args.out.now c.act_told.new.out
    (subst
    (λ (x : Done). IsTold c.args.told c.args.source.now g c.act_told.new.state d c.args.p c.args.picker.now
    c.act_told.new.picker c.args.out.now c.act_told.new.out x)
    c.in-Stepped.is
    (c.in-Ok.ensures.ok g d program (before_any c.args.source.now c.args.state.now d c.args.p c.requires.may.within stands)))

pub returns-in-Faulted-clause-turn : goal.returns-in-Faulted-clause-turn
returns-in-Faulted-clause-turn c = λ g limit left picking c' d program stands pick.
    let action = c.in-Ok.ensures.ok g d program (before_any c.args.source.now c.args.state.now d c.args.p c.requires.may.within stands) in
    faulted c.args.told c.args.source.now g limit left picking c.args.picker.now c' d c.args.p pick c.act_told.new.state
    c.act_told.new.picker c.args.out.now c.act_told.new.out
    c.in-Faulted.line c.in-Faulted.fault
    (subst
    (λ (x : Done). IsTold c.args.told c.args.source.now g c.act_told.new.state d c.args.p c.args.picker.now
    c.act_told.new.picker c.args.out.now c.act_told.new.out x)
    c.in-Faulted.is action)
    c.settle.new.state
    (c.settle.ensures.reports (step_by g d c.args.p c.args.picker.now).config action.ends.reports)
