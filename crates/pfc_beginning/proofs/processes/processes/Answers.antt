use Rattle.std.proofs.Common.{◌<◌, ◌≤◌, length, arith}
use Rattle.pfc_beginning.proofs.Parts.{first_shown, next_shown, all_shown}
use Rattle.pfc_beginning.proofs.processes.processes.Goals as goal

pub loop-i-init : goal.loop-i-init
loop-i-init c = λ variables.
    first_shown c.args.source.now.program.tables c.new-made.result.items c.add.new.made.items c.in_ok-main.main _
    (c.in_ok-add.ensures c.args.source.now.program.tables) c.new-made.ensures.items (c.in_ok-main.ensures variables)

pub loop-i-preserved : goal.loop-i-preserved
loop-i-preserved c = λ variables.
    let low : c.loop-i.i < length c.args.source.now.objects.processes.items = omega (arith, c.loop-i-test.true, c.len-i-end.ensures) in
    next_shown c.args.source.now variables c.loop-i.i c.loop-i.made.items c.add-in-loop-i.new.made.items c.declaration_at.result c.in_ok-process.process low
    (c.loop-i.invariant variables) (c.in_ok-add-2.ensures c.args.source.now.program.tables) c.declaration_at.ensures (c.in_ok-process.ensures variables)

pub returns : goal.returns
returns c = λ variables.
    let all : length c.args.source.now.objects.processes.items ≤ c.loop-i.i = omega (arith, c.loop-i-test.false, c.len-i-end.ensures) in
    all_shown c.args.source.now variables c.loop-i.i c.loop-i.made.items all (c.loop-i.invariant variables)
