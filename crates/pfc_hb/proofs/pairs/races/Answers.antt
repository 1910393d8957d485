use Rattle.std.proofs.Common.{◌≡◌, length, arith, ap, sym, subst, ◌∙◌}
use Rattle.pfc_hb.specs.Conflicts.{AreRaces, races_below, races_of}
use Rattle.pfc_hb.proofs.RaceLaws.{are_races, races-pairs}
use Rattle.pfc_hb.proofs.pairs.races.Goals as goal

pub returns-clause-exact : goal.returns-clause-exact
returns-clause-exact c =
    let events = c.args.events.now in
    let last : c.loop-first.first ≡ length events = omega arith in
    let all : c.loop-first.races.items ≡ races_of events = c.loop-first.invariant ∙ ap (races_below events) last in
    subst (AreRaces events) (sym all) (are_races events)

pub returns-clause-pairs : goal.returns-clause-pairs
returns-clause-pairs c = races-pairs c.args.events.now c.loop-first.races.items (returns-clause-exact c)
