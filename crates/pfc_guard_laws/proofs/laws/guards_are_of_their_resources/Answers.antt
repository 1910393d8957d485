use Rattle.std.proofs.Common.{[], ◌∷◌, None}
use Rattle.pfc_semantics.specs.Configurations.{main_activation, start}
use Rattle.pfc_guard_laws.proofs.Runs.{start_suits, all_barred, next_guards}
use Rattle.pfc_guard_laws.proofs.laws.guards_are_of_their_resources.Goals as goal

pub returns : goal.returns
returns c =
    record {
      barred = λ g input seed d program comes.
          all_barred g program (start g input seed) d (λ q. main_activation g ∷ [], start_suits g None (λ own s. Unit {0}) program input seed) comes;
      next = λ g input seed d p program comes.
          next_guards g program (start g input seed) d (λ q. main_activation g ∷ [], start_suits g None (λ own s. Unit {0}) program input seed) comes p;
    }
