use Rattle.std.proofs.Common.{◌∙◌, List, sym, ap}
use Rattle.std.proofs.Math.ListN.{drop_of_length-le}
use Rattle.std.proofs.lemmas.Int.{to_z-of_z}
use Rattle.pfc_tree.specs.declared.tree.CaseArm.{CaseArm}
use Rattle.pfc_tree.specs.views.Stmts.{arms_view}
use Rattle.pfc_semantics.specs.Alternatives.{context}
use Rattle.pfc_semantics.specs.Statements.{from_arms}
use Rattle.pfc_phrases.specs.Views.{env_view}
use Rattle.pfc_pending.specs.Ahead.{on_rest}
use Rattle.pfc_pending.specs.Waiting.{remainder_of}
use Rattle.pfc_statement_steps.proofs.lists.arm.Goals as goal

pub returns : goal.returns
returns c = λ t line w.
    let here = context (env_view c.args.env) line in
    ap (λ (arms : List CaseArm). from_arms here c.loop-arm.next c.args.v (arms_view arms) (remainder_of w) (on_rest here w))
    (sym (drop_of_length-le c.args.arms.now c.loop-arm-test.false))
    ∙ (simp (to_z-of_z, c.ranges.v) at c.loop-arm.invariant line (remainder_of w) (on_rest here w))
