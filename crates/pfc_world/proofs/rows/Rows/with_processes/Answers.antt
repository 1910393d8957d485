use Rattle.std.proofs.Common.{◌≡◌, arith, sym, ap, ◌∙◌, subst}
use Rattle.pfc_state.specs.Stands.{started}
use Rattle.pfc_world.specs.Rows.{seat_by}
use Rattle.pfc_world.specs.Tickets.{IsNew}
use Rattle.pfc_world.proofs.Starts.{starts, starts-new, AreIdle}
use Rattle.pfc_world.proofs.rows.Rows.with_processes.Goals as goal

pub invariant_of-result : goal.invariant_of-result
invariant_of-result c =
    let all : c.loop-p.p ≡ c.args.n = omega arith in
    (starts c.loop-p.rows.items c.args.n c.args.arms c.index_mut-main.result.now c.start_created.new.self c.requires.some c.requires.few
    (subst (λ n. AreIdle c.loop-p.rows.items n c.args.arms) all c.loop-p.invariant) c.index_mut-main.ensures.value
    (c.start_created.ensures ∙ ap (seat_by started) c.create.ensures)).tied

pub returns-clause-table : goal.returns-clause-table
returns-clause-table c =
    let all : c.loop-p.p ≡ c.args.n = omega arith in
    (starts c.loop-p.rows.items c.args.n c.args.arms c.index_mut-main.result.now c.start_created.new.self c.requires.some c.requires.few
    (subst (λ n. AreIdle c.loop-p.rows.items n c.args.arms) all c.loop-p.invariant) c.index_mut-main.ensures.value
    (c.start_created.ensures ∙ ap (seat_by started) c.create.ensures)).is

pub returns-clause-fresh : goal.returns-clause-fresh
returns-clause-fresh c =
    let all : c.loop-p.p ≡ c.args.n = omega arith in
    subst (λ w. IsNew w.rows w.done)
    (sym (starts c.loop-p.rows.items c.args.n c.args.arms c.index_mut-main.result.now c.start_created.new.self c.requires.some c.requires.few
    (subst (λ n. AreIdle c.loop-p.rows.items n c.args.arms) all c.loop-p.invariant) c.index_mut-main.ensures.value
    (c.start_created.ensures ∙ ap (seat_by started) c.create.ensures)).is)
    (starts-new c.args.n c.args.arms)
