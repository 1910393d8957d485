-- The commands are such as whose answers their words determine.
use Rattle.std.proofs.Common.{◌≡◌, ◌∷◌, [], List, Option, true, refl, subst, inl, inr, None}
use Rattle.std.specs.Prelude.{◌≢◌}
use Rattle.clap.specs.Words.{App, Row, Text, Kinds, HasKind, IsAmong, fault_of, is_simple, is_simple_and_free, kind_of, matches_of}
use Rattle.clap.specs.declared.error.Error.{Error}
use Rattle.clap.specs.declared.error.kind.ErrorKind.{ErrorKind}
use Rattle.clap.specs.declared.error.kind.ErrorKind.TheVariants as kinds
use Rattle.clap.proofs.OnLiterals.{clap_on_literals}
use Rattle.pfc_outcome.specs.Options.{Asked, options_by, pfc_command, taken}
use Rattle.pfc_outcome.specs.WalkOptions.{walk_command}

pub pfc_simple : is_simple pfc_command ≡ true
unfolding clap_on_literals
pfc_simple = refl

pub pfc_free : is_simple_and_free pfc_command ≡ true
unfolding clap_on_literals
pfc_free = refl

pub walk_simple : is_simple walk_command ≡ true
unfolding clap_on_literals
walk_simple = refl

pub walk_free : is_simple_and_free walk_command ≡ true
unfolding clap_on_literals
walk_free = refl

-- a command that is given by its rules, and what its rows ask for
module _ (rules : App) (simple : is_simple rules ≡ true) (free : is_simple_and_free rules ≡ true) (by : List Row → Option Asked) where
  pub found_rows : (command : App) (words : List Text) (rows : List Row) → command ≡ rules
      → (is_simple command ≡ true → rows ≡ matches_of command words) → rows ≡ matches_of rules words
  found_rows command words rows is given = subst (λ x. is_simple x ≡ true → rows ≡ matches_of x words) is given simple

  pub taken_words : (command : App) (words : List Text) (rows : List Row) → command ≡ rules
      → (is_simple command ≡ true → rows ≡ matches_of command words) → (is_simple_and_free command ≡ true → fault_of command words ≡ [])
      → by rows ≡ options_by rules by words
  taken_words command words rows is given faultless =
      let faults : fault_of rules words ≡ [] = subst (λ x. is_simple_and_free x ≡ true → fault_of x words ≡ []) is faultless free in
      let found : rows ≡ matches_of rules words = found_rows command words rows is given in
      rw (faults, ← found) refl

  among : (faults : Kinds) (kind : ErrorKind) (rows : List Row) → IsAmong kind faults → None ≡ taken by faults rows
  among [] kind rows h = absurd h
  among (fault ∷ faults) kind rows h = refl

  pub refused_words : (command : App) (words : List Text) (error : Error) → command ≡ rules → kind_of error ≢ kinds.OutOfMemory
      → (is_simple_and_free command ≡ true → HasKind (fault_of command words) error) → None ≡ options_by rules by words
  refused_words command words error is other has =
      let one : HasKind (fault_of rules words) error = subst (λ x. is_simple_and_free x ≡ true → HasKind (fault_of x words) error) is has free in
      elim one [
        | inl memory ↦ absurd (other memory)
        | inr h ↦ among (fault_of rules words) (kind_of error) (matches_of rules words) h
      ]
