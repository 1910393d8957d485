-- The modules among some names are numbered in their order.
use Rattle.std.proofs.Common.{ℕ, suc, ◌≤◌, [], ◌∷◌, ◌++◌, arith}
use Rattle.pfc_tree.specs.Symbols.{Text}
use Rattle.pfc_types.specs.Types.{Forms}
use Rattle.pfc_types.specs.Scopes.{Names}
use Rattle.pfc_types.specs.declared.scope.Meaning.{Meaning}
use Rattle.pfc_types.specs.declared.scope.Meaning.TheVariants.{Constant, Named, Variable, Sub, Module, Process, Entry, Predeclared, Faulty}
use Rattle.pfc_main_names.proofs.Placed.{IsPlain}

abbrev pub RisesBy : Meaning → ℕ → (ℕ → Type 0) → Type 0
RisesBy (Module n) from rest = (from ≤ n) × rest (suc n)
RisesBy m from rest = rest from

-- the numbers of modules rise, from one number on and below another
abbrev pub Rises : ℕ → Names → ℕ → Type 0
Rises from [] to = from ≤ to
Rises from (x ∷ names) to = RisesBy x.1 from (λ (k : ℕ). Rises k names to)

by_map : (m : Meaning) (from : ℕ) (P Q : ℕ → Type 0) → ((k : ℕ) → P k → Q k) → RisesBy m from P → RisesBy m from Q
by_map (Module n) from P Q f h = (h.0, f (suc n) h.1)
by_map (Constant t v) from P Q f h = f from h
by_map (Named t) from P Q f h = f from h
by_map (Variable t r) from P Q f h = f from h
by_map (Sub n) from P Q f h = f from h
by_map (Process n) from P Q f h = f from h
by_map (Entry n) from P Q f h = f from h
by_map (Predeclared n) from P Q f h = f from h
by_map Faulty from P Q f h = f from h

pub rises_more : (from : ℕ) (names : Names) (to later : ℕ) → to ≤ later → Rises from names to → Rises from names later
rises_more from [] to later le h = omega (arith, le, h)
rises_more from (x ∷ names) to later le h =
    by_map x.1 from (λ (k : ℕ). Rises k names to) (λ (k : ℕ). Rises k names later) (λ k i. rises_more k names to later le i) h

plain_last : (forms : Forms) (m : Meaning) (from to : ℕ) → IsPlain forms m → from ≤ to → RisesBy m from (λ (k : ℕ). k ≤ to)
plain_last forms (Module n) from to plain h = absurd plain
plain_last forms (Constant t v) from to plain h = h
plain_last forms (Named t) from to plain h = h
plain_last forms (Variable t r) from to plain h = h
plain_last forms (Sub n) from to plain h = h
plain_last forms (Process n) from to plain h = h
plain_last forms (Entry n) from to plain h = h
plain_last forms (Predeclared n) from to plain h = h
plain_last forms Faulty from to plain h = h

-- a name that is no module's
pub rises_push : (forms : Forms) (from : ℕ) (names : Names) (x : Text) (m : Meaning) (to : ℕ) → IsPlain forms m → Rises from names to
    → Rises from (names ++ (x, m) ∷ []) to
rises_push forms from [] x m to plain h = plain_last forms m from to plain h
rises_push forms from (y ∷ names) x m to plain h =
    by_map y.1 from (λ (k : ℕ). Rises k names to) (λ (k : ℕ). Rises k (names ++ (x, m) ∷ []) to) (λ k i. rises_push forms k names x m to plain i) h

-- the next module's
pub rises_next : (from : ℕ) (names : Names) (x : Text) (to n : ℕ) → to ≤ n → Rises from names to → Rises from (names ++ (x, Module n) ∷ []) (suc n)
rises_next from [] x to n le h = (omega (arith, le, h), omega arith)
rises_next from (y ∷ names) x to n le h =
    by_map y.1 from (λ (k : ℕ). Rises k names to) (λ (k : ℕ). Rises k (names ++ (x, Module n) ∷ []) (suc n)) (λ k i. rises_next k names x to n le i) h
