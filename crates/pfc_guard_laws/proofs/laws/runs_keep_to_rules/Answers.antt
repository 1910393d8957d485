use Rattle.pfc_guard_laws.proofs.Keeping.{run_keeps}
use Rattle.pfc_guard_laws.proofs.laws.runs_keep_to_rules.Goals as goal

pub returns : goal.returns
returns c = λ g input seed d p program comes outside holds. run_keeps g input seed d p program comes outside holds
