use Rattle.std.proofs.Common.{arith, ◌∙◌}
use Rattle.pfc_hb.proofs.PathLaws.{shorter-begins}
use Rattle.pfc_hb.proofs.comparing.does_one_begin.Goals as goal

pub returns-then-path-other : goal.returns-then-path-other
returns-then-path-other c =
    c.does_begin_with.ensures ∙ shorter-begins c.args.path.now c.args.other.now (omega arith)
