use Rattle.std.proofs.Common.{◌≡◌, ◌∙◌, subst}
use Rattle.pfc_phrases.specs.Views.{env_view}
use Rattle.pfc_semantics.specs.Rewriting.{from_remainder}
use Rattle.pfc_semantics.specs.Statements.{from_stmt}
use Rattle.pfc_pending.specs.Texts.{stmt_at}
use Rattle.pfc_pending.specs.Waiting.{remainder_of, waiting}
use Rattle.pfc_statement_steps.specs.Begins.{begin_ahead}
use Rattle.pfc_statement_steps.specs.declared.begins.Begin.{Begin}
use Rattle.pfc_rewriting.proofs.going.Going.read_stmt.Goals as goal

pub read_select-requires : goal.read_select-requires
read_select-requires c = λ t w.
    let env = env_view c.args.site.env in
    subst (λ (b : Begin). begin_ahead t env c.args.n w b ≡ from_stmt env c.args.n (stmt_at c.args.s) (remainder_of w) (from_remainder env (remainder_of w)))
    c.in-Ok-Select.field-0-is (c.in-Ok-Select.ensures t w)

pub returns-in-Ok-Step : goal.returns-in-Ok-Step
returns-in-Ok-Step c = λ t.
    let env = env_view c.args.site.env in
    let w = waiting t c.args.self.now.pending.items in
    c.begin.ensures t env
    ∙ subst (λ (b : Begin). begin_ahead t env c.args.n w b ≡ from_stmt env c.args.n (stmt_at c.args.s) (remainder_of w) (from_remainder env (remainder_of w)))
    c.in-Ok-Step.field-0-is (c.in-Ok-Step.ensures t w)
