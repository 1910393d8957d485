-- Scopes that are finished: what was in view while they grew is found in them alike, and a scope that was closed is the one that it was.
use Rattle.std.proofs.Common.{◌≡◌, ◌≢◌, ℕ, ◌<◌, ◌≤◌, Bool, true, false, nat_lt, ◌==◌, List, [], ◌∷◌, ◌++◌, length, refl, sym, ap, ap₂, ◌∙◌, subst, arith}
use Rattle.std.specs.Option.{option_or}
use Rattle.std.proofs.lemmas.Bool.Decides.{nat_tests}
use Rattle.std.proofs.lemmas.List.{map-append, get_or_past}
use Rattle.std.proofs.lemmas.List.Elements.{All-nil, All-cons, All-append}
use Rattle.pfc_types.specs.Growing.{Begins}
use Rattle.pfc_types.specs.Scopes.{Names, Level, scope_at, here}
use Rattle.pfc_types.specs.Blocks.{State}
use Rattle.pfc_types.specs.Visits.{Visit, FindsAlike, AreCounted}
use Rattle.pfc_types.proofs.Prefixes.{begins_same, begins_all, begins_trans, begins_length, found_alike}
use Rattle.pfc_types.proofs.Walking.{held, Opened, Walked}

-- ## What is in view

-- the names that are counted stand in the scopes
abbrev pub AllWithin : List Names → List Level → Type 0
AllWithin scopes [] = Unit {0}
AllWithin scopes (level ∷ view) = (level.count ≤ length (scope_at scopes level.scope)) × AllWithin scopes view

-- each scope begins with what it was
abbrev pub Grown : List Names → List Names → Type 0
Grown old new = (j : ℕ) → Begins (scope_at old j) (scope_at new j)

pub within_grown : (old new : List Names) (view : List Level) → Grown old new → AllWithin old view → AllWithin new view
within_grown old new [] g h = tt
within_grown old new (level ∷ view) g h =
    (omega (arith, h.0, begins_length (scope_at old level.scope) (scope_at new level.scope) (g level.scope)), within_grown old new view g h.1)

pub within_here : (scopes : List Names) (i : ℕ) (outer : List Level) → AllWithin scopes outer → AllWithin scopes (here scopes i outer)
within_here scopes i outer h = (omega arith, h)

pub finds_alike : (scopes fin : List Names) (view : List Level) → Grown scopes fin → AllWithin scopes view →
    FindsAlike fin (record { scopes = scopes; view = view })
finds_alike scopes fin [] g h x = refl
finds_alike scopes fin (level ∷ view) g h x =
    ap₂ (λ a b. option_or a b) (found_alike level (scope_at scopes level.scope) (scope_at fin level.scope) x
    (g level.scope) h.0) (finds_alike scopes fin view g h.1 x)

pub grown_trans : (a b c : List Names) → Grown a b → Grown b c → Grown a c
grown_trans a b c g h j = begins_trans (scope_at a j) (scope_at b j) (scope_at c j) (g j) (h j)

lt_of : (j n : ℕ) → nat_lt j n ≡ true → j < n
lt_of j n h = grind (arith, nat_tests)

le_of : (j n : ℕ) → nat_lt j n ≡ false → n ≤ j
le_of j n h = grind (arith, nat_tests)

eq_of : (j i : ℕ) → (j == i) ≡ true → j ≡ i
eq_of j i h = grind (arith, nat_tests)

ne_of : (j i : ℕ) → (j == i) ≡ false → j ≢ i
ne_of j i h e = no (sym (same j) ∙ ap (λ k. j == k) e ∙ h)
  where
    same : (n : ℕ) → (n == n) ≡ true
    same n = grind (arith, nat_tests)

    no : true ≡ false → ⊥
    no x = cc

-- a number that is no scope's yet
grown_past : (old new : List Names) (j : ℕ) → length old ≤ j → Begins (scope_at old j) (scope_at new j)
grown_past old new j h = subst (λ x. Begins x (scope_at new j)) (sym (get_or_past old j [] h)) (begins_all (scope_at new j))

pub opened_grown : {s t : State} {k : ℕ} → Opened s t k → Grown (held s) (held t)
opened_grown {s} {t} h j = by (nat_lt j (length (held s))) refl
  where
    by : (b : Bool) → nat_lt j (length (held s)) ≡ b → Begins (scope_at (held s) j) (scope_at (held t) j)
    by true e = subst (λ x. Begins (scope_at (held s) j) x) (sym (h.others j (lt_of j (length (held s)) e))) (begins_same (scope_at (held s) j))
    by false e = grown_past (held s) (held t) j (le_of j (length (held s)) e)

pub walked_grown : {i : ℕ} {s t : State} {k : ℕ} {P : Names → ℕ → ℕ} → Walked i s t k P → Grown (held s) (held t)
walked_grown {i} {s} {t} h j = by (j == i) (nat_lt j (length (held s))) refl refl
  where
    by : (a b : Bool) → (j == i) ≡ a → nat_lt j (length (held s)) ≡ b → Begins (scope_at (held s) j) (scope_at (held t) j)
    by true b d e = subst (λ k. Begins (scope_at (held s) k) (scope_at (held t) k)) (sym (eq_of j i d)) h.own
    by false true d e = subst (λ x. Begins (scope_at (held s) j) x)
        (sym (h.others j (lt_of j (length (held s)) e) (ne_of j i d))) (begins_same (scope_at (held s) j))
    by false false d e = grown_past (held s) (held t) j (le_of j (length (held s)) e)

-- ## The finished scopes

-- what the scopes become behind a part: they only grow, and those that the part opened, from number b on, are closed
pub record Finished (b : ℕ) (after fin : List Names) : Type 0 where
  pub grown : Grown after fin
  pub closed : (j : ℕ) → b ≤ j → j < length after → scope_at fin j ≡ scope_at after j

pub finished_later : {b c : ℕ} {after fin : List Names} → Finished b after fin → b ≤ c → Finished c after fin
finished_later h l = record { grown = h.grown; closed = λ j low high. h.closed j (omega (arith, l, low)) high }

-- as it is before more scopes were opened
pub finished_opened : {b : ℕ} {s t : State} {k : ℕ} {fin : List Names} → Opened s t k → Finished b (held t) fin → Finished b (held s) fin
finished_opened {b} {s} {t} {k} {fin} o h =
    record {
      grown = grown_trans (held s) (held t) fin (opened_grown o) h.grown;
      closed = λ j low high. h.closed j low (omega (arith, high, o.count)) ∙ o.others j high;
    }

-- as it is before more names were declared in a scope that is not closed
pub finished_walked : {b i : ℕ} {s t : State} {k : ℕ} {P : Names → ℕ → ℕ} {fin : List Names} → i < b → Walked i s t k P →
    Finished b (held t) fin → Finished b (held s) fin
finished_walked {b} {i} {s} {t} {k} {P} {fin} below w h =
    record {
      grown = grown_trans (held s) (held t) fin (walked_grown w) h.grown;
      closed = λ j low high. h.closed j low (omega (arith, high, w.count)) ∙ w.others j high (apart j low);
    }
  where
    apart : (j : ℕ) → b ≤ j → j ≢ i
    apart j low e = absurd (omega (arith, below, low, e))

-- ## Visits

pub counted_none : (fin : List Names) → AreCounted fin [] []
counted_none fin = record { same = refl; alike = All-nil (FindsAlike fin) }

pub counted_both : {fin : List Names} {vs ws : List Visit} {us xs : List (List Level)} → AreCounted fin vs us →
    AreCounted fin ws xs → AreCounted fin (vs ++ ws) (us ++ xs)
counted_both {fin} {vs} {ws} {us} {xs} h k =
    record {
      same = ap₂ (λ a b. a ++ b) h.same k.same ∙ sym (map-append (λ v. v.view) vs ws);
      alike = All-append (FindsAlike fin) vs ws h.alike k.alike;
    }

pub counted_one : {fin scopes : List Names} {view : List Level} {vs : List Visit} {us : List (List Level)} → Grown scopes fin → AllWithin scopes view →
    AreCounted fin vs us → AreCounted fin (record { scopes = scopes; view = view } ∷ vs) (view ∷ us)
counted_one {fin} {scopes} {view} {vs} {us} g h k =
    record {
      same = ap (λ l. view ∷ l) k.same;
      alike = All-cons (FindsAlike fin) (record { scopes = scopes; view = view }) vs (finds_alike scopes fin view g h) k.alike;
    }

pub counted_as : {fin : List Names} {vs : List Visit} {us xs : List (List Level)} → AreCounted fin vs us → us ≡ xs → AreCounted fin vs xs
counted_as {fin} {vs} h e = subst (λ l. AreCounted fin vs l) e h
