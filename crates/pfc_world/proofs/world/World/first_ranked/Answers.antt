use Rattle.std.proofs.Common.{ap, ◌∙◌, subst}
use Rattle.std.specs.Prelude.{MatchOption, IfSome}
use Rattle.pfc_state.specs.Stands.{IsWaiting, ticket_on}
use Rattle.pfc_world.specs.Firsts.{IsFirstRanked, IsNobody, first_ranked}
use Rattle.pfc_world.specs.Tables.{at}
use Rattle.pfc_world.proofs.Ranks.{ranked-first, ranked-found, ranked-waits}
use Rattle.pfc_world.proofs.world.World.first_ranked.Goals as goal

pub returns-clause-first : goal.returns-clause-first
returns-clause-first c =
    ranked-first c.args.condition c.self.inside.rows.rows c.self.inside.index.ranks c.first.result c.done-done.ensures.tickets.apart
    c.self.invariant.indexed.ranks c.first.ensures
    ∙ ap (λ w. first_ranked c.args.condition w.rows) c.self.view_is

pub returns-clause-found : goal.returns-clause-found
returns-clause-found c =
    subst (λ w. MatchOption c.first.result (IsNobody (ticket_on c.args.condition) w.rows) (IsFirstRanked c.args.condition w.rows)) c.self.view_is
    (ranked-found c.args.condition c.self.inside.rows.rows c.self.inside.index.ranks c.first.result c.self.invariant.indexed.ranks c.first.ensures)

pub returns-clause-waits : goal.returns-clause-waits
returns-clause-waits c =
    subst (λ w. IfSome c.first.result (λ p. IsWaiting (at w.rows p))) c.self.view_is
    (ranked-waits c.args.condition c.self.inside.rows.rows c.self.inside.index.ranks c.first.result c.self.invariant.indexed.ranks c.first.ensures)
