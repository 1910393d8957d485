use Rattle.std.proofs.Common.{refl}
use Rattle.pfc_store.specs.Views.{values_view}
use Rattle.pfc_walker.proofs.walker.Walker.start.Goals as goal

pub returns-clause-walks : goal.returns-clause-walks
returns-clause-walks c =
    record { program = record { variables = values_view c.args.variables.items; is = refl }; stands = c.in_ok-state.ensures; line = refl }
