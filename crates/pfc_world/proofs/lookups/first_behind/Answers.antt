use Rattle.std.proofs.Common.{None, sym, ◌∙◌, subst}
use Rattle.std.specs.Prelude.{MatchOption}
use Rattle.pfc_links.specs.Members.{IsEmpty, IsFirst}
use Rattle.pfc_state.specs.Stands.{ticket_barred}
use Rattle.pfc_world.specs.Lists.{list_at}
use Rattle.pfc_world.specs.Tables.{at}
use Rattle.pfc_world.specs.Walks.{IsForward}
use Rattle.pfc_world.proofs.Barring.{barred-listed, behind-starts}
use Rattle.pfc_world.proofs.InOrder.{forward-starts, same-member}
use Rattle.pfc_world.proofs.lookups.first_behind.Goals as goal

pub returns-in-Some-Some : goal.returns-in-Some-Some
returns-in-Some-Some c =
    subst (λ o. IsForward c.args.spread (ticket_barred c.args.resource o) c.args.rows.now.rows (list_at c.args.spread 12 c.args.resource) c.next.result)
    (sym c.in-Some-Some.is-0)
    (behind-starts c.args.spread c.args.resource c.in-Some-Some.ticket c.args.rows.now.rows c.args.waits.now c.next.result c.requires
    (c.next.ensures (list_at c.args.spread 12 c.args.resource) c.in-Some-Some.ticket
    (same-member c.args.spread c.args.rows.now.rows c.args.waits.now c.in-Some-Some.p c.requires
    ∙ barred-listed c.args.spread c.args.resource None (at c.args.rows.now.rows c.in-Some-Some.p) c.in-Some-Some.ticket
    (c.is_barred_since.ensures.barred c.if-is_barred_since.true))))

pub returns-in_default : goal.returns-in_default
returns-in_default c =
    forward-starts c.args.spread (ticket_barred c.args.resource c.args.after) c.args.rows.now.rows (list_at c.args.spread 12 c.args.resource)
    c.args.waits.now c.first.result (barred-listed c.args.spread c.args.resource c.args.after) c.requires
    (subst (λ n. MatchOption c.first.result (IsEmpty c.args.waits.now.members n) (IsFirst c.args.waits.now.members n))
    c.list_of_barred.ensures.list c.first.ensures)
