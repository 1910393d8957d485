use Rattle.pfc_kept_calls.proofs.Returning.{procedure_ends, function_ends}
use Rattle.pfc_kept_calls.proofs.Scanning.{resource_left}
use Rattle.pfc_kept_calls.proofs.laws.returns_are_kept.Goals as goal

pub returns-clause-procedures : goal.returns-clause-procedures
returns-clause-procedures c = procedure_ends

pub returns-clause-functions : goal.returns-clause-functions
returns-clause-functions c = function_ends

pub returns-clause-resources : goal.returns-clause-resources
returns-clause-resources c =
    λ facts m config p choice r level n ends entered acting arrived. resource_left facts m config p choice r level n ends entered acting arrived
