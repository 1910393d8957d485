use Rattle.std.proofs.Common.{ℕ, ◌<◌, List, length, ◌∙◌, subst}
use Rattle.pfc_own_actions.proofs.Lines.{open_is}
use Rattle.pfc_own_actions.proofs.output.is_inside_line.Goals as goal

pub returns-then-before-bytes : goal.returns-then-before-bytes
returns-then-before-bytes c = λ old bytes size is.
    c.ends_inside_line.ensures
    ∙ open_is c.args.was old bytes c.args.out.now c.args.before size is
    (subst (λ (xs : List ℕ). c.args.before < length xs) c.bytes.ensures c.if-before-bytes.true)
