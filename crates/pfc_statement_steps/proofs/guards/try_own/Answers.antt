use Rattle.std.proofs.Common.{◌≡◌, ◌∙◌, rules}
use Rattle.std.proofs.lemmas.Result.{IfOk-weaker}
use Rattle.pfc_semantics.specs.Remainders.{in_names}
use Rattle.pfc_program.specs.Views.{names_view}
use Rattle.pfc_pending.specs.Waiting.{remainder_of, bar_view}
use Rattle.pfc_statement_steps.specs.Resumed.{under}
use Rattle.pfc_statement_steps.proofs.Guarded.{own_here}
use Rattle.pfc_statement_steps.proofs.guards.try_own.Goals as goal

pub returns-in-Some-InNames : goal.returns-in-Some-InNames
returns-in-Some-InNames c =
    IfOk-weaker c.test.result _ _
    (λ r given t env w.
    let names = names_view t c.in-Some-InNames.field-0-0 in
    let is : remainder_of (under t w c.args.below) ≡ in_names names (remainder_of w) = first_of (cc, search rules, simp c.in-Some-InNames.is) in
    given t env (under t w c.args.below) ∙ own_here env names (bar_view t c.args.bar) (remainder_of w) (remainder_of (under t w c.args.below)) is)
    c.test.ensures
