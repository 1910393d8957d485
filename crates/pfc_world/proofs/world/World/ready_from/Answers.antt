use Rattle.std.proofs.Common.{◌<◌, ◌≤◌, length, get_or, take, arith, sym, ap, ◌∙◌, subst}
use Rattle.pfc_lists.specs.Bits.{numbers}
use Rattle.pfc_world.specs.Ready.{ready_numbers, turn_of}
use Rattle.pfc_world.proofs.ReadySets.{ready-numbers, turn-found, turn-round}
use Rattle.pfc_world.proofs.world.World.ready_from.Goals as goal

pub at-requires-else-before-count : goal.at-requires-else-before-count
at-requires-else-before-count c =
    subst (λ v. 0 < length v) (sym (ready-numbers c.self.inside.rows.rows c.self.inside.index.ready c.self.invariant.indexed.bits))
    (subst (λ w. 0 < length (ready_numbers w.rows)) (sym c.self.view_is) c.requires)

pub returns-then-before-count : goal.returns-then-before-count
returns-then-before-count c =
    let lt : c.below-before.result < c.count.result = omega arith in
    let lt' : length (numbers (take c.args.last c.self.inside.index.ready)) < length (numbers c.self.inside.index.ready) =
    subst (λ n. length (numbers (take c.args.last c.self.inside.index.ready)) < n) c.count.ensures
    (subst (λ n. n < c.count.result) c.below-before.ensures lt) in
    c.at.ensures
    ∙ ap (λ n. get_or (numbers c.self.inside.index.ready) n 0) c.below-before.ensures
    ∙ turn-found c.args.last c.self.inside.index.ready lt'
    ∙ ap (turn_of c.args.last) (ready-numbers c.self.inside.rows.rows c.self.inside.index.ready c.self.invariant.indexed.bits)
    ∙ ap (λ w. turn_of c.args.last (ready_numbers w.rows)) c.self.view_is

pub returns-else-before-count : goal.returns-else-before-count
returns-else-before-count c =
    let le : c.count.result ≤ c.below-before.result = omega arith in
    let le' : length (numbers c.self.inside.index.ready) ≤ length (numbers (take c.args.last c.self.inside.index.ready)) =
    subst (λ n. n ≤ length (numbers (take c.args.last c.self.inside.index.ready))) c.count.ensures
    (subst (λ n. c.count.result ≤ n) c.below-before.ensures le) in
    c.at-else-before-count.ensures
    ∙ turn-round c.args.last c.self.inside.index.ready le'
    ∙ ap (turn_of c.args.last) (ready-numbers c.self.inside.rows.rows c.self.inside.index.ready c.self.invariant.indexed.bits)
    ∙ ap (λ w. turn_of c.args.last (ready_numbers w.rows)) c.self.view_is
