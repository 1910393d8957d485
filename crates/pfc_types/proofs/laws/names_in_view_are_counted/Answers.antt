use Rattle.pfc_types.proofs.Stops.{bodies_broken}
use Rattle.pfc_types.proofs.WalkParts.{scopes_counted}
use Rattle.pfc_types.proofs.ViewsParts.{program_counted}
use Rattle.pfc_types.proofs.laws.names_in_view_are_counted.Goals as goal

pub returns : goal.returns
returns c = record { views = program_counted; stops = bodies_broken; count = scopes_counted }
