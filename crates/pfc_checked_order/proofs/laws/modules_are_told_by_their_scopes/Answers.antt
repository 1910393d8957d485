use Rattle.pfc_checked_order.proofs.Modules.{mark_found, module_start}
use Rattle.pfc_checked_order.proofs.laws.modules_are_told_by_their_scopes.Goals as goal

pub returns : goal.returns
returns c = record { marks = λ t n low. mark_found t n low; starts = λ t n lawful low. module_start t n lawful low }
