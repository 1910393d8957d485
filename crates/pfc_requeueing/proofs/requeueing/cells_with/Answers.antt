use Rattle.std.proofs.Common.{◌≡◌, List, [], ap, ◌∙◌}
use Rattle.std.specs.Prelude.{nat_le}
use Rattle.pfc_program.specs.Views.{block_view}
use Rattle.pfc_semantics.specs.Calls as calls
use Rattle.pfc_semantics.specs.Configurations.{Activation}
use Rattle.pfc_requeueing.proofs.Requeued.{none_below, some_with}
use Rattle.pfc_requeueing.proofs.requeueing.cells_with.Goals as goal

pub returns-in-empty-clause-some : goal.returns-in-empty-clause-some
returns-in-empty-clause-some c =
    some_with c.cells_above.result _ _
    (λ n holds t.
    ap (λ (x : List Activation). calls.cells_above x (block_view t c.args.block.now)) (none_below t c.args.activations.now c.in-empty.len_below) ∙ holds t)
    c.cells_above.ensures.some

pub returns-in-empty-clause-many : goal.returns-in-empty-clause-many
returns-in-empty-clause-many c = λ none t.
    ap (λ (x : List Activation). nat_le (calls.cells_above x (block_view t c.args.block.now)) (calls.most_cells c.args.p))
    (none_below t c.args.activations.now c.in-empty.len_below)
    ∙ c.cells_above.ensures.many none t
