use Rattle.std.proofs.Common.{◌≡◌, ◌⊎◌, inl, inr, refl}
use Rattle.pfc_accept_laws.proofs.Offered.{start_offered, settled_offered, step_offered}
use Rattle.pfc_accept_laws.specs.Shown.{ShowsOpen, IsToOffer}
use Rattle.pfc_accept_laws.proofs.laws.hands_show_what_was_offered.Goals as goal

pub returns : goal.returns
returns c =
    record {
      start = λ g input seed q x os k is. start_offered (λ q x os k. ⊥) g input seed q x os k is;
      settles = λ g d q x os k is. settled_offered (λ q x os k. ShowsOpen g d q x os k) g d (λ q x os k so. so) q x os k is;
      steps = λ g d p choice q x os k is.
          step_offered (λ q x os k. ShowsOpen g d q x os k ⊎ ((q ≡ p) × IsToOffer g d p x os k)) g d p choice (λ q x os k so. inl so)
          (λ x os k about. inr (refl, about)) q x os k is;
    }
