use Rattle.std.proofs.Common.{sym, subst}
use Rattle.std.specs.Prelude.{MatchOption}
use Rattle.pfc_links.specs.Members.{IsEmpty, IsFirst}
use Rattle.pfc_world.specs.Indexes.{AreListed}
use Rattle.pfc_world.specs.Lists.{list_at}
use Rattle.pfc_world.specs.Terminating.{AreServers, IsNoServer, IsServer}
use Rattle.pfc_world.proofs.ChildrenEnd.{no-server, second-server}
use Rattle.pfc_world.proofs.world.World.next_server.Goals as goal

pub returns-in_default : goal.returns-in_default
returns-in_default c =
    let listed : AreListed c.self.inside.index.spread c.self.inside.rows.rows c.self.inside.index.waits =
    record { is = c.self.invariant.indexed.spread; members = c.self.invariant.indexed.waits; count = c.self.invariant.indexed.lists } in
    let empty : IsEmpty c.self.inside.index.waits.members (list_at c.self.inside.index.spread 7 0) =
    subst (λ n. IsEmpty c.self.inside.index.waits.members n) c.list_of_selects.ensures.list c.in_default.ensures in
    subst (λ w. IsNoServer w.rows) c.self.view_is (no-server c.self.inside.index.spread c.self.inside.rows.rows c.self.inside.index.waits listed empty)

pub returns-then-first-eq0 : goal.returns-then-first-eq0
returns-then-first-eq0 c =
    let listed : AreListed c.self.inside.index.spread c.self.inside.rows.rows c.self.inside.index.waits =
    record { is = c.self.invariant.indexed.spread; members = c.self.invariant.indexed.waits; count = c.self.invariant.indexed.lists } in
    let first : IsFirst c.self.inside.index.waits.members (list_at c.self.inside.index.spread 7 0) 0 =
    subst (λ p. IsFirst c.self.inside.index.waits.members (list_at c.self.inside.index.spread 7 0) p) c.if-first-eq0.true
    (subst (λ n. IsFirst c.self.inside.index.waits.members n c.in-Some.first) c.list_of_selects.ensures.list c.in-Some.ensures) in
    subst (λ w. MatchOption c.next.result (IsNoServer w.rows) (IsServer w.rows)) c.self.view_is
    (second-server c.self.inside.index.spread c.self.inside.rows.rows c.self.inside.index.waits c.next.result c.done-done.ensures.tickets.apart listed
    (subst (λ w. AreServers w.rows) (sym c.self.view_is) c.requires) first (c.next.ensures (list_at c.self.inside.index.spread 7 0) first.ticket first.own))
