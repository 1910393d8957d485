use Rattle.std.proofs.Common.{◌≡◌, ◌<◌, ◌≤◌, length, get_or, ap, arith}
use Rattle.pfc_walker.proofs.Reported.{told_all, told_more}
use Rattle.pfc_walker.proofs.standings.standings_of.Goals as goal

pub returns-in_default : goal.returns-in_default
returns-in_default c =
    let same = ap length c.deref.ensures.value in
    let none : length c.args.state.now.activities.items ≤ c.loop-p.p = omega (arith, same, c.in_default.ensures.lookup.3) in
    told_all c.args.state.now c.loop-p.p c.loop-p.list.items _ none c.loop-p.invariant

pub loop-p-preserved : goal.loop-p-preserved
loop-p-preserved c =
    let low : c.loop-p.p < length c.args.state.now.world.rows = omega (arith, c.loop-p-test.true, c.processes-p-end.ensures.count) in
    let same = ap length c.deref.ensures.value in
    let within : c.loop-p.p < length c.args.state.now.activities.items = omega (arith, same, c.in-Some.ensures.lookup.3.0) in
    let there : c.in-Some.activity.now ≡ get_or c.args.state.now.activities.items c.loop-p.p c.in-Some.activity.now =
    cc (c.deref.ensures.value, c.in-Some.ensures.lookup.1) in
    told_more c.args.state.now c.loop-p.p c.loop-p.list.items c.push.new.self.items _ c.in-Some.activity.now c.state.result low within there
    c.state.ensures.state c.in_ok-push.ensures.items c.loop-p.invariant
