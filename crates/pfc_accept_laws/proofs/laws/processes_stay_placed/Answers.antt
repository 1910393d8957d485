use Rattle.std.proofs.Common.{◌≡◌, ℕ, true, false, sym, ap, ◌∙◌}
use Rattle.pfc_state.specs.Stands.{is_unfinished}
use Rattle.pfc_world.specs.Tables.{at}
use Rattle.pfc_semantics.specs.Configurations.{Config}
use Rattle.pfc_accept_laws.proofs.Placed.{starts_placed, settles_placed}
use Rattle.pfc_accept_laws.proofs.PlacedSteps.{step_placed}
use Rattle.pfc_accept_laws.proofs.laws.processes_stay_placed.Goals as goal

apart : (c : Config) (p n : ℕ) → is_unfinished (at c.table.rows p) ≡ true → is_unfinished (at c.table.rows n) ≡ false → p ≡ n → ⊥
apart c p n ready idle same = never (sym (ap (λ (i : ℕ). is_unfinished (at c.table.rows i)) same ∙ idle) ∙ ready)
  where
    never : false ≡ true → ⊥
    never e = cc

pub returns : goal.returns
returns c =
    record {
      start = λ g input seed program. starts_placed g program input seed;
      settles = λ g d program all. settles_placed g program d all;
      steps = λ g d p choice program all ready alive inside. step_placed g d p inside program choice all (λ n idle same. apart d p n ready idle same) alive;
    }
