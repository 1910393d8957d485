use Rattle.pfc_tree.specs.views.Exprs.{expr_view}
use Rattle.pfc_phrases.specs.Views.{env_view}
use Rattle.pfc_program.specs.Views.{spot_view}
use Rattle.pfc_pending.specs.Texts.{stmt_at}
use Rattle.pfc_pending.specs.Waiting.{remainder_of}
use Rattle.pfc_statement_steps.proofs.Rules.{for_step}
use Rattle.pfc_statement_steps.proofs.loops.begin_for.Goals as goal

pub returns : goal.returns
returns c = λ t w down b pass q is.
    for_step (env_view c.args.site.env) c.args.n (stmt_at c.args.s) c.args.x.now (expr_view c.args.a.now) down b pass c.args.place q (remainder_of w)
    (spot_view c.variable-variable.result) c.variable-variable.ensures is
