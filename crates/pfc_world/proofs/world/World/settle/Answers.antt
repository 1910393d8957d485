use Rattle.std.proofs.Common.{Some, sym, ap, ◌∙◌, subst}
use Rattle.pfc_world.specs.Tables.{Table, some_ready}
use Rattle.pfc_world.specs.Tickets.{IsNew}
use Rattle.pfc_world.specs.Settling.{woken_now, moved_to}
use Rattle.pfc_world.proofs.AfterSettling.{earliest-ready}
use Rattle.pfc_world.proofs.Kept.{new-kept, none-woken}
use Rattle.pfc_world.proofs.world.World.settle.Goals as goal

-- the clock went to the earliest due moment
pub returns-in-Some-clause-answer : goal.returns-in-Some-clause-answer
returns-in-Some-clause-answer c =
    ap (λ w. some_ready w.rows) c.move_to.ensures ∙ earliest-ready c.wake_due.new.self.rows c.in-Some.moment (sym c.in-Some.ensures)

pub returns-then-some_ready-clause-fresh : goal.returns-then-some_ready-clause-fresh
returns-then-some_ready-clause-fresh c =
    let w : Table = c.args.self.now in
    λ fresh. subst (λ v. IsNew v.rows v.done) (sym c.wake_due.ensures) (new-kept w.rows (woken_now w).rows w.done (none-woken w.moment w.rows) fresh)

pub returns-in-Some-clause-fresh : goal.returns-in-Some-clause-fresh
returns-in-Some-clause-fresh c =
    let w : Table = c.args.self.now in
    λ fresh. subst (λ v. IsNew v.rows v.done) (sym (c.move_to.ensures ∙ ap (moved_to (Some c.in-Some.moment)) c.wake_due.ensures))
    (new-kept (woken_now w).rows (moved_to (Some c.in-Some.moment) (woken_now w)).rows w.done (none-woken c.in-Some.moment (woken_now w).rows)
    (new-kept w.rows (woken_now w).rows w.done (none-woken w.moment w.rows) fresh))

pub returns-in-None-clause-fresh : goal.returns-in-None-clause-fresh
returns-in-None-clause-fresh c =
    let w : Table = c.args.self.now in
    λ fresh. subst (λ v. IsNew v.rows v.done) (sym c.wake_due.ensures) (new-kept w.rows (woken_now w).rows w.done (none-woken w.moment w.rows) fresh)
