use Rattle.std.proofs.Common.{[], ◌∷◌, None}
use Rattle.pfc_semantics.specs.Configurations.{main_activation, start}
use Rattle.pfc_guard_laws.specs.Configurations.{Left}
use Rattle.pfc_guard_laws.proofs.Runs.{start_suits}
use Rattle.pfc_guard_laws.proofs.Leaving.{next_left}
use Rattle.pfc_guard_laws.proofs.laws.who_scans_has_left.Goals as goal

pub returns : goal.returns
returns c = λ g input seed d p program comes.
    next_left g program (start g input seed) d (λ q. main_activation g ∷ [], start_suits g None Left program input seed) comes p
