use Rattle.std.proofs.Common.{rules, ◌≡◌, true, to_z, of_z, w32}
use Rattle.pfc_object_actions.specs.Conditions.{is_inside, monitor_of}
use Rattle.pfc_object_actions.specs.Objects.{object_at}
use Rattle.pfc_object_actions.proofs.Acting.{delayed_is}
use Rattle.pfc_object_actions.proofs.conditions.delay.Goals as goal

pub returns-then-inside : goal.returns-then-inside
returns-then-inside c =
    let m = c.args.machine.now in
    let p = c.args.r.number in
    let inside : is_inside (monitor_of m (object_at 1 p m)) p m ≡ true = search rules in
    delayed_is p m c.number-p.result c.object_at-c.result (to_z w32 (of_z w32 c.top_integer-rank.result)) c.leave.new.stacks c.delay.new.world c.delay.new.mons
    c.number-p.ensures (search rules) (search rules) inside c.delay.ensures.table c.delay.ensures.conditions c.leave.ensures
