use Rattle.std.proofs.Common.{◌≡◌, ◌∙◌, ◌-◌, ℕ, length, take, drop, ap}
use Rattle.std.proofs.lemmas.Result.{IfOk-weaker}
use Rattle.pfc_types.specs.Scopes.{scope_at}
use Rattle.pfc_types.specs.Blocks.{Blocks}
use Rattle.pfc_semantics.specs.Layouts.{process_layout}
use Rattle.pfc_translation.specs.Sites.{before_accept}
use Rattle.pfc_addresses.specs.Sites.{site_view}
use Rattle.pfc_select_code.proofs.cells.variables_before.Goals as goal

pub returns-clause-value : goal.returns-clause-value
unfolding site_view
returns-clause-value c =
    let block = c.args.site.body.now.block.now in
    let count : Blocks → ℕ =
    λ b. length (process_layout (scope_at b.scopes block.scope) (take (c.args.n - block.next) (drop block.next b.scopes)))
    in
    IfOk-weaker c.variables_up_to.result (λ k. k ≡ count c.tables.result.scopes.now) (λ k. k ≡ before_accept (site_view c.args.site) c.args.n)
    (λ k e. e ∙ ap count c.tables.ensures.blocks) c.variables_up_to.ensures.value
