use Rattle.std.proofs.Common.{length, ◌≤◌, ◌∙◌, arith}
use Rattle.pfc_settling.proofs.Ending.{all_so}
use Rattle.pfc_settling.proofs.children.end_children.Goals as goal

pub returns : goal.returns
returns c =
    let high : length c.args.state.now.world.rows ≤ c.loop-p.p = omega arith in
    all_so c.args.state.now c.loop-p.state c.loop-p.p high c.loop-p.invariant.activities c.loop-p.invariant.store
    c.loop-p.invariant.lines c.loop-p.invariant.rest
