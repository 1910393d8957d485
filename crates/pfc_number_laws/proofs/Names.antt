-- Constants that a program declares have 32 bits, whatever is in view.
use Rattle.std.proofs.Common.{ℕ, Bool, true, false, if◌then◌else◌, List, [], ◌∷◌, Option, Some, None, refl}
use Rattle.std.specs.Prelude.{nat_lt, bytes_eq, option_map}
use Rattle.std.specs.Option.{option_or}
use Rattle.std.specs.List.{AllByRecursion}
use Rattle.pfc_tree.specs.Symbols.{Text}
use Rattle.pfc_types.specs.Scopes.{Names, Level, meaning_in, position_in, predeclared_names, scope_at, within, found_at, found_in, meaning_of}
use Rattle.pfc_types.specs.declared.scope.Meaning.{Meaning}
use Rattle.pfc_types.specs.declared.view.Found.{Found}
use Rattle.pfc_run_invariants.specs.Fitting.{FitsMeaning, FitNames}
use Rattle.pfc_run_invariants.proofs.Lists.{all_get}

abbrev pub FitsName : Text × Meaning → Type 0
FitsName x = FitsMeaning (Some x.1)

abbrev pub FitsScope : Names → Type 0
FitsScope names = AllByRecursion FitsName names

-- ## Looking up

looked_up : (names : Names) (x : Text) → FitsScope names → FitsMeaning (meaning_in names x)
looked_up [] x all = tt
looked_up (y ∷ names) x all = by (bytes_eq x y.0) (looked_up names x all.1)
  where
    by : (b : Bool) → FitsMeaning (meaning_in names x) → FitsMeaning (if b then Some y.1 else meaning_in names x)
    by true later = all.0
    by false later = later

within_fits : (level : Level) (k : Option ℕ) (m : Option Meaning) → FitsMeaning m → FitsMeaning (meaning_of (within level k m))
within_fits level (Some k) (Some m) fits = by (nat_lt k level.count)
  where
    by : (b : Bool) → FitsMeaning (meaning_of (if b then Some (record { scope = Some level.scope; place = k; meaning = m }) else None))
    by true = fits
    by false = tt
within_fits level None m fits = tt
within_fits level (Some k) None fits = tt

or_fits : (f g : Option Found) → FitsMeaning (meaning_of f) → FitsMeaning (meaning_of g) → FitsMeaning (meaning_of (option_or f g))
or_fits None g first second = second
or_fits (Some f) g first second = first

predeclared_fit : FitsScope predeclared_names
predeclared_fit = (
  tt,
  (
    tt,
    (
      tt,
      (
        tt,
        (
          tt,
          (
            tt,
            (
              refl,
              (
                refl,
                (
                  refl,
                  (
                    tt,
                    (tt, (tt, (tt, (tt, (tt, (tt, (tt, (tt, (tt, (tt, (tt, (tt, (tt, (tt, (tt, (tt, (tt, (tt, (tt, (tt, (tt, (tt, tt)))))))))))))))))))))),
                  ),
                ),
              ),
            ),
          ),
        ),
      ),
    ),
  ),
)

outside : (x : Text) (m : Option Meaning) → FitsMeaning m
    → FitsMeaning (meaning_of (option_map (λ (m : Meaning). record { scope = None; place = 0; meaning = m }) m))
outside x None fits = tt
outside x (Some m) fits = fits

pub names_fit : (scopes : List Names) → AllByRecursion FitsScope scopes → FitNames scopes
names_fit scopes all [] x = outside x (meaning_in predeclared_names x) (looked_up predeclared_names x predeclared_fit)
names_fit scopes all (level ∷ view) x =
    let names = scope_at scopes level.scope in
    or_fits (found_at scopes level x) (found_in scopes view x)
    (within_fits level (position_in names x) (meaning_in names x) (looked_up names x (all_get FitsScope scopes level.scope [] all tt)))
    (names_fit scopes all view x)
