-- The values of one activation, and of all others, when it gets other values.
use Rattle.std.proofs.Common.{◌≡◌, ◌≢◌, ℕ, ◌<◌, List, [], ◌∷◌, length, refl, sym, ap, ◌∙◌, subst, arith}
use Rattle.std.specs.Prelude.{◌==◌, if◌then◌else◌}
use Rattle.pfc_semantics.specs.Values.{Value}
use Rattle.pfc_semantics.specs.Store.{Store, values_in, with_values}
use Rattle.pfc_cells.proofs.Numbers.{same, other, same_or_not, is_same, is_other}

-- the activation, whose room is there
pub values_written : (store : Store) (a : ℕ) (new : List Value) → 0 < length (values_in store a) → values_in (with_values store a new) a ≡ new
values_written [] a new h = absurd (omega (arith, h))
values_written (room ∷ store) a new h =
    elim (same_or_not room.activation a) [
      | same e ↦
          ap (λ t. values_in (if t then record room { values = new } ∷ store else room ∷ with_values store a new) a) (is_same room.activation a e)
          ∙ ap (λ t. if t then new else values_in store a) (is_same room.activation a e)
      | other n ↦
          let later : 0 < length (values_in store a) = subst (λ t. 0 < length (if t then room.values else values_in store a))
          (is_other room.activation a n) h in
          ap (λ t. values_in (if t then record room { values = new } ∷ store else room ∷ with_values store a new) a) (is_other room.activation a n)
          ∙ ap (λ t. if t then room.values else values_in (with_values store a new) a) (is_other room.activation a n)
          ∙ values_written store a new later
    ]

-- all others
pub values_kept : (store : Store) (a : ℕ) (new : List Value) (b : ℕ) → b ≢ a → values_in (with_values store a new) b ≡ values_in store b
values_kept [] a new b n = refl
values_kept (room ∷ store) a new b n =
    elim (same_or_not room.activation a) [
      | same e ↦
          let apart : room.activation ≢ b = λ f. n (sym f ∙ e) in
          ap (λ t. values_in (if t then record room { values = new } ∷ store else room ∷ with_values store a new) b) (is_same room.activation a e)
          ∙ ap (λ t. if t then new else values_in store b) (is_other room.activation b apart)
          ∙ sym (ap (λ t. if t then room.values else values_in store b) (is_other room.activation b apart))
      | other m ↦
          ap (λ t. values_in (if t then record room { values = new } ∷ store else room ∷ with_values store a new) b) (is_other room.activation a m)
          ∙ ap (λ vs. if room.activation == b then room.values else vs) (values_kept store a new b n)
    ]
