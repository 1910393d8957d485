use Rattle.std.proofs.Common.{◌≡◌, ◌⊎◌, inl, inr, refl}
use Rattle.pfc_accept_laws.specs.Shown.{ShowsArguments, IsToAsk}
use Rattle.pfc_accept_laws.proofs.Asked.{start_asked, settled_asked, step_asked}
use Rattle.pfc_accept_laws.proofs.laws.hands_show_what_was_asked.Goals as goal

pub returns : goal.returns
returns c =
    record {
      start = λ g input seed q owner entry ticket values is. start_asked (λ q o e n vs. ⊥) g input seed q owner entry ticket values is;
      settles = λ g d q owner entry ticket values is.
          settled_asked (λ q o e n vs. ShowsArguments g d q o e n vs) g d (λ q o e n vs so. so) q owner entry ticket values is;
      steps = λ g d p choice q owner entry ticket values is.
          step_asked (λ q o e n vs. ShowsArguments g d q o e n vs ⊎ ((q ≡ p) × IsToAsk g d p o e vs)) g d p choice (λ q o e n vs so. inl so)
          (λ o e n vs about. inr (refl, about)) q owner entry ticket values is;
    }
