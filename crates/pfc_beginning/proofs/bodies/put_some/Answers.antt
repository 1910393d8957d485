use Rattle.std.proofs.Common.{ap, ◌∙◌}
use Rattle.pfc_pending.specs.Waiting.{remainder_of, waiting}
use Rattle.pfc_beginning.proofs.Parts.{performs}
use Rattle.pfc_beginning.proofs.bodies.put_some.Goals as goal

pub returns : goal.returns
returns c = λ t.
    ap remainder_of (c.in_ok-put_part.ensures t)
    ∙ performs c.args.block.now.next c.args.block.now.stmts.now.items (remainder_of (waiting t c.args.pending.now.items)) c.requires
