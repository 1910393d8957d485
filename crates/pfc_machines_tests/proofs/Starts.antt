-- What holds before the first action.
use Rattle.std.proofs.Common.{◌≡◌, ℕ, zero, suc, None, [], ◌∷◌, sym, refl, ◌∙◌}
use Rattle.std.proofs.lemmas.Option.{none-some}
use Rattle.pfc_state.specs.Stands.{Is_idle, Is_created, Is_ready, ticket_of}
use Rattle.pfc_world.specs.Tables.{at}
use Rattle.pfc_world.specs.Tickets.{IsNew}

nobody_waits : (k : ℕ) → ticket_of (at (Is_ready ∷ Is_idle ∷ []) k) ≡ None
nobody_waits zero = refl
nobody_waits (suc zero) = refl
nobody_waits (suc (suc k)) = refl

pub new_at_start : IsNew (Is_ready ∷ Is_idle ∷ []) 0
new_at_start k e = none-some 1 (sym (nobody_waits k) ∙ e)

nobody_waits_yet : (k : ℕ) → ticket_of (at (Is_ready ∷ Is_created ∷ []) k) ≡ None
nobody_waits_yet zero = refl
nobody_waits_yet (suc zero) = refl
nobody_waits_yet (suc (suc k)) = refl

pub new_at_creation : IsNew (Is_ready ∷ Is_created ∷ []) 0
new_at_creation k e = none-some 1 (sym (nobody_waits_yet k) ∙ e)

nobody_of_two : (k : ℕ) → ticket_of (at (Is_ready ∷ Is_ready ∷ []) k) ≡ None
nobody_of_two zero = refl
nobody_of_two (suc zero) = refl
nobody_of_two (suc (suc k)) = refl

pub new_with_two : IsNew (Is_ready ∷ Is_ready ∷ []) 0
new_with_two k e = none-some 1 (sym (nobody_of_two k) ∙ e)
