use Rattle.std.proofs.Common.{◌≡◌, ◌+◌, Bool, true, false, cond, get_or, set, take, arith, refl, sym, ◌∙◌}
use Rattle.std.proofs.lemmas.List.{append-nil, length-set}
use Rattle.pfc_hb.specs.Conflicts.{is_race, race_at}
use Rattle.pfc_hb.proofs.RaceLaws.{note-step, one-at-most, races_with-nothing, races_with-step}
use Rattle.pfc_hb.proofs.pairs.note_races.Goals as goal
use mir.Val.{bool_byte}

as_number : (b : Bool) → bool_byte b ≡ cond b 1 0
as_number true = refl
as_number false = refl

pub loop-second-init : goal.loop-second-init
loop-second-init c = record {
  room = refl;
  few = omega arith;
  noted = rw (races_with-nothing c.args.events.now c.args.first (c.args.first + 1) (omega arith)) (sym (append-nil (take c.args.start c.args.races.now)));
}

pub loop-second-preserved : goal.loop-second-preserved
loop-second-preserved c =
    let events = c.args.events.now in
    let i = c.args.first in
    let j = c.loop-second.second in
    let races = c.loop-second.races in
    let end = c.loop-second.end in
    let n = c.from-end.result in
    let marked : Bool = get_or c.args.row.now j false in
    let is : n ≡ cond marked 1 0 = c.from-end.ensures ∙ as_number marked in
    let later = set races end (race_at i j) in
    let told : marked ≡ is_race events i j = c.requires.row.told j (omega arith) (omega arith) in
    record {
      room = length-set races end (race_at i j) ∙ c.loop-second.invariant.room;
      few = omega (arith, one-at-most marked n is);
      noted = races_with-step events i j (take c.args.start c.args.races.now) (take end races) (take (end + n) later) marked
          (omega arith) told c.loop-second.invariant.noted
          (note-step races end (race_at i j) marked n (omega arith) is);
    }
