use Rattle.pfc_store.specs.Views.{values_view}
use Rattle.pfc_beginning.proofs.Beginning.{start_stands}
use Rattle.pfc_beginning.proofs.starting.at_start.Goals as goal

pub returns : goal.returns
returns c =
    let variables = values_view c.args.variables.items in
    start_stands c.args.source.now variables c.args.input.now c.args.seed _
    (c.in_ok-activities.ensures variables) c.in_ok-world.ensures.table c.in_ok-world.ensures.fresh c.in_ok-semaphores.ensures c.in_ok-guards.ensures
    c.in_ok-free.ensures c.with_main-store.ensures c.in_ok-bytes.ensures c.new-draws.ensures
