use Rattle.std.proofs.Common.{◌≡◌, ◌∙◌, ap, sym}
use Rattle.pfc_tree.specs.declared.tree.Comm.{fold-roll-Comm}
use Rattle.pfc_tree.specs.declared.tree.Comm.TheVariants as variant
use Rattle.pfc_tree.specs.trees.Stmts.{CommTree, StmtTree, AcceptTree, AltTree, BodyTree, ArmTree, comm_send, comm_receive}
use Rattle.pfc_tree.specs.views.Exprs.{expr_view, desig_view}
use Rattle.pfc_tree.specs.views.Stmts.{comm_view, comm_step, stmt_step, accept_step, alt_step, body_step, arm_step}
use Rattle.pfc_semantics.specs.Alternatives.{context}
use Rattle.pfc_phrases.specs.Views.{env_view}
use Rattle.pfc_select_steps.specs.Gone.{comm_ahead}
use Rattle.pfc_select_steps.proofs.through.offered.Goals as goal

pub returns-in-Send-clause-ok : goal.returns-in-Send-clause-ok
returns-in-Send-clause-ok c = λ t line w.
    let here = context (env_view c.args.site.env) line in
    let same : comm_view c.args.comm.now ≡ comm_send (desig_view c.in-Send.d) (expr_view c.in-Send.e) c.in-Send.field-2 =
    ap comm_view c.in-Send.is
    ∙ ap comm_view (sym (variant.rolls-Send c.in-Send.d c.in-Send.e c.in-Send.field-2))
    ∙ fold-roll-Comm CommTree StmtTree AcceptTree AltTree BodyTree ArmTree comm_step stmt_step accept_step alt_step body_step arm_step _
    in
    c.offer_send.ensures t line w ∙ ap (comm_ahead here w c.args.choosing.value) (sym same)

pub returns-in-Receive-clause-ok : goal.returns-in-Receive-clause-ok
returns-in-Receive-clause-ok c = λ t line w.
    let here = context (env_view c.args.site.env) line in
    let same : comm_view c.args.comm.now ≡ comm_receive (desig_view c.in-Receive.d) (desig_view c.in-Receive.v) c.in-Receive.field-2 =
    ap comm_view c.in-Receive.is
    ∙ ap comm_view (sym (variant.rolls-Receive c.in-Receive.d c.in-Receive.v c.in-Receive.field-2))
    ∙ fold-roll-Comm CommTree StmtTree AcceptTree AltTree BodyTree ArmTree comm_step stmt_step accept_step alt_step body_step arm_step _
    in
    c.offer_receive.ensures t line w ∙ ap (comm_ahead here w c.args.choosing.value) (sym same)
