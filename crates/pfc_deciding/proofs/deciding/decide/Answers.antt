use Rattle.std.proofs.Common.{arith}
use Rattle.pfc_world.specs.Selects.{matched}
use Rattle.pfc_deciding.proofs.Chosen.{none_matched, otherwise_chosen, taken_chosen}
use Rattle.pfc_deciding.proofs.deciding.decide.Goals as goal

pub go_otherwise-requires-clause-unmatched : goal.go_otherwise-requires-clause-unmatched
go_otherwise-requires-clause-unmatched c =
    none_matched (matched c.args.state.now.world.rows c.args.p c.args.arms.now) c.matches-matched.result c.matches-matched.ensures c.if-matched-eq0.true

pub returns-then-matched-eq0-clause-ok : goal.returns-then-matched-eq0-clause-ok
returns-then-matched-eq0-clause-ok c =
    otherwise_chosen c.args.source.now c.args.state.now c.go_otherwise.new.state c.args.picker.now c.args.p c.args.select c.args.arms.now c.go_otherwise.result
    c.requires.arms (none_matched (matched c.args.state.now.world.rows c.args.p c.args.arms.now) c.matches-matched.result
    c.matches-matched.ensures c.if-matched-eq0.true)
    (c.go_otherwise.ensures c.args.source.now)

pub returns-in-Ok-clause-ok : goal.returns-in-Ok-clause-ok
returns-in-Ok-clause-ok c =
    taken_chosen c.args.source.now c.args.state.now c.take_at.new.state c.args.picker.now c.choose_among.new.picker c.args.p c.args.select c.args.arms.now
    c.matches-matched.result c.place_among-place.result c.in-Ok.done c.requires.arms c.matches-matched.ensures (omega arith) c.place_among-place.ensures
    c.choose_among.ensures c.in-Ok.ensures.ok
