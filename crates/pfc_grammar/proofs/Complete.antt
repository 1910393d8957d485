-- What something lawful writes is read back, as far as the levels go: no mark above n, and else a halt at the first such mark.
use Rattle.std.proofs.Common.{◌≡◌, ℕ, zero, suc, ◌+◌, List, [], ◌∷◌, ◌++◌, length, map, Bool, true, false, Option, Some, None, Ok, Err, refl, sym, ap, subst}
use Rattle.std.proofs.Common.{◌∙◌, append_assoc, length-append, nat_le, arith}
use Rattle.std.proofs.lemmas.List.{length-map}
use Rattle.std.proofs.Math.Dec.{leb-zero, leb-suc-suc, leb-suc-zero}
use Rattle.pfc_tree.specs.Symbols.{Symbol}
use Rattle.pfc_grammar.specs.Heads.{takes}
use Rattle.pfc_grammar.specs.Reading.{deep, Outcome, Reader, pure, then_read, bind, stop, stop_deep, branch_at, branch, choose_at, choose, take_as}

-- how many marks stand from the first one above n on
abbrev pub over_at : Bool → ℕ → ℕ → ℕ
over_at true here later = later
over_at false here later = here

unfoldable pub over : ℕ → List ℕ → ℕ
over n [] = 0
over n (d ∷ m) = over_at (nat_le d n) (suc (length m)) (over n m)

abbrev pub limited_at : {A : Type 0} → ℕ → A → List Symbol → Outcome A
limited_at zero v rest = Ok (v, rest)
limited_at (suc k) v rest = Err (deep (suc k + length rest))

-- the value where no mark is above n, and else a halt at the first such mark
abbrev pub limited : {A : Type 0} → ℕ → List ℕ → A → List Symbol → Outcome A
limited n m v rest = limited_at (over n m) v rest

abbrev pub over_then : ℕ → ℕ → ℕ → ℕ
over_then zero later l = later
over_then (suc k) later l = suc (k + l)

pub over-append : (n : ℕ) (a b : List ℕ) → over n (a ++ b) ≡ over_then (over n a) (over n b) (length b)
unfolding over
over-append n [] b = refl
over-append n (d ∷ a) b = at (nat_le d n) (over-append n a b)
  where
    at : (t : Bool) → over n (a ++ b) ≡ over_then (over n a) (over n b) (length b) →
        over_at t (suc (length (a ++ b))) (over n (a ++ b)) ≡ over_then (over_at t (suc (length a)) (over n a)) (over n b) (length b)
    at true h = h
    at false h = ap suc (length-append a b) ∙ omega arith

pub over-zero : (n : ℕ) (m : List ℕ) → over n (0 ∷ m) ≡ over n m
unfolding over
over-zero n m = ap (λ t. over_at t (suc (length m)) (over n m)) (leb-zero n)

pub over-up : (n : ℕ) (m : List ℕ) → over (suc n) (map suc m) ≡ over n m
unfolding over
over-up n [] = refl
over-up n (d ∷ m) = ap (λ t. over_at t (suc (length (map suc m))) (over (suc n) (map suc m))) (leb-suc-suc d n) ∙ at (nat_le d n) (over-up n m)
  where
    at : (t : Bool) → over (suc n) (map suc m) ≡ over n m →
        over_at t (suc (length (map suc m))) (over (suc n) (map suc m)) ≡ over_at t (suc (length m)) (over n m)
    at true h = h
    at false h = ap suc (length-map m suc)

-- the reader k reads v back from the symbols toks, whose marks are m, where what follows meets C
pub record Complete {A : Type 0} (n : ℕ) (k : Reader A) (toks : List Symbol) (m : List ℕ) (v : A) (C : List Symbol → Type 0) : Type 0 where
  pub same : length toks ≡ length m
  pub reads : (rest : List Symbol) → C rest → k (toks ++ rest) ≡ limited n m v rest

-- the first symbol is none that f takes
abbrev pub Skips : {O : Type 0} → (Symbol → Option O) → List Symbol → Type 0
Skips f [] = Unit {0}
Skips f (s ∷ ss) = f s ≡ None

-- the first symbol is not in the set
abbrev pub Lacks : (Symbol → Bool) → List Symbol → Type 0
Lacks p [] = Unit {0}
Lacks p (s ∷ ss) = p s ≡ false

-- the first symbol is in the set
abbrev pub Heads : (Symbol → Bool) → List Symbol → Type 0
Heads p [] = ⊥
Heads p (s ∷ ss) = p s ≡ true

-- whatever follows
abbrev pub Any : List Symbol → Type 0
Any ss = Unit {0}

-- reading on after an outcome that is known
pub after : {A B : Type 0} (n : ℕ) (ma m : List ℕ) (x : A) (l rest : List Symbol) (g : A → Reader B) (v : B) →
    g x l ≡ limited n m v rest → length l ≡ length m + length rest →
    then_read (limited n ma x l) g ≡ limited n (ma ++ m) v rest
after n ma m x l rest g v e k = at (over n ma) ∙ ap (λ z. limited_at z v rest) (sym (over-append n ma m))
  where
    at : (t : ℕ) → then_read (limited_at t x l) g ≡ limited_at (over_then t (over n m) (length m)) v rest
    at zero = e
    at (suc t) = let same : suc t + length l ≡ suc (t + length m) + length rest = omega arith in ap (λ z. Err (deep z)) same

pub complete_pure : {A : Type 0} {n : ℕ} {v : A} {C : List Symbol → Type 0} → Complete n (pure v) [] [] v C
unfolding pure over
complete_pure = record { same = refl; reads = λ rest c. refl }

-- the same reading where less may follow
pub complete_less : {A : Type 0} {n : ℕ} {k : Reader A} {toks : List Symbol} {m : List ℕ} {v : A} {C C' : List Symbol → Type 0} →
    ((rest : List Symbol) → C' rest → C rest) → Complete n k toks m v C → Complete n k toks m v C'
complete_less h c = record { same = c.same; reads = λ rest c'. c.reads rest (h rest c') }

-- one reader after the other
pub complete_bind : {A B : Type 0} {n : ℕ} {r : Reader A} (g : A → Reader B) {ta toks : List Symbol} {ma m : List ℕ} {x : A}
    {v : B} {C' C : List Symbol → Type 0} →
    Complete n r ta ma x C' → ((rest : List Symbol) → C rest → C' (toks ++ rest)) → Complete n (g x) toks m v C →
    Complete n (bind r g) (ta ++ toks) (ma ++ m) v C
unfolding bind
complete_bind {n = n} {r = r} g {ta = ta} {toks = toks} {ma = ma} {m = m} {x = x} {v = v} h f k = record {
  same = length-append ta toks ∙ ap (λ z. z + length toks) h.same ∙ ap (λ z. length ma + z) k.same ∙ sym (length-append ma m);
  reads = λ rest c. ap (λ z. then_read (r z) g) (append_assoc ta toks rest) ∙ ap (λ z. then_read z g) (h.reads (toks ++ rest) (f rest c))
      ∙ after n ma m x (toks ++ rest) rest g v (k.reads rest c) (length-append toks rest ∙ ap (λ z. z + length rest) k.same);
}

-- one reader, and then a value made of what it read
pub complete_last : {A B : Type 0} {n : ℕ} {r : Reader A} (h : A → B) {ta : List Symbol} {ma : List ℕ} {x : A} {C' C : List Symbol → Type 0} →
    Complete n r ta ma x C' → ((rest : List Symbol) → C rest → C' rest) → Complete n (bind r (λ y. pure (h y))) ta ma (h x) C
unfolding bind pure
complete_last {n = n} {r = r} h {ma = ma} {x = x} c f =
    record { same = c.same; reads = λ rest k. ap (λ z. then_read z (λ y. pure (h y))) (c.reads rest (f rest k)) ∙ at rest (over n ma) }
  where
    at : (rest : List Symbol) (t : ℕ) → then_read (limited_at t x rest) (λ y. pure (h y)) ≡ limited_at t (h x) rest
    at rest zero = refl
    at rest (suc t) = refl

-- a symbol that is taken
pub complete_take : {O B : Type 0} {n : ℕ} (f : Symbol → Option O) (g : O → Reader B) (r : Reader B) {s : Symbol} (o : O) {toks : List Symbol}
    {m : List ℕ} {v : B} {C : List Symbol → Type 0} →
    f s ≡ Some o → Complete n (g o) toks m v C → Complete n (branch f g r) (s ∷ toks) (0 ∷ m) v C
unfolding branch
complete_take {n = n} f g r {s = s} o {toks = toks} {m = m} {v = v} e h = record {
  same = ap suc h.same;
  reads = λ rest c. ap (λ z. branch_at z g r s (toks ++ rest)) e ∙ h.reads rest c ∙ ap (λ z. limited_at z v rest) (sym (over-zero n m));
}

-- a symbol that is not taken
pub complete_skip : {O B : Type 0} {n : ℕ} (f : Symbol → Option O) (g : O → Reader B) {r : Reader B} {toks : List Symbol}
    {m : List ℕ} {v : B} {C : List Symbol → Type 0} →
    ((rest : List Symbol) → C rest → Skips f (toks ++ rest)) → Complete n r toks m v C → Complete n (branch f g r) toks m v C
unfolding branch
complete_skip f g {r = r} {toks = toks} skips h = record { same = h.same; reads = λ rest c. at (toks ++ rest) (skips rest c) ∙ h.reads rest c }
  where
    at : (ss : List Symbol) → Skips f ss → branch f g r ss ≡ r ss
    at [] e = refl
    at (s ∷ ss) e = ap (λ z. branch_at z g r s ss) e

pub complete_pass : {B : Type 0} {n : ℕ} (p : Symbol → Bool) (g : Reader B) {r : Reader B} {toks : List Symbol}
    {m : List ℕ} {v : B} {C : List Symbol → Type 0} →
    ((rest : List Symbol) → C rest → Lacks p (toks ++ rest)) → Complete n r toks m v C → Complete n (choose p g r) toks m v C
unfolding choose
complete_pass p g {r = r} {toks = toks} lacks h = record { same = h.same; reads = λ rest c. at (toks ++ rest) (lacks rest c) ∙ h.reads rest c }
  where
    at : (ss : List Symbol) → Lacks p ss → choose p g r ss ≡ r ss
    at [] e = refl
    at (s ∷ ss) e = ap (λ z. choose_at z g r (s ∷ ss)) e

pub complete_symbol : {O : Type 0} {n : ℕ} (f : Symbol → Option O) {s : Symbol} {o : O} → f s ≡ Some o → Complete n (take_as f) (s ∷ []) (0 ∷ []) o Any
unfolding take_as
complete_symbol f {o = o} e = complete_take f pure stop o e complete_pure

-- one symbol, and then the rest
pub complete_next : {O B : Type 0} {n : ℕ} (f : Symbol → Option O) (g : O → Reader B) {s : Symbol} (o : O) {toks : List Symbol}
    {m : List ℕ} {v : B} {C : List Symbol → Type 0} →
    f s ≡ Some o → Complete n (g o) toks m v C → Complete n (bind (take_as f) g) (s ∷ toks) (0 ∷ m) v C
complete_next f g {s = s} o e h = complete_bind g {ta = s ∷ []} {ma = 0 ∷ []} (complete_symbol f e) (λ rest c. tt) h

-- one level deeper
pub complete_up : {A : Type 0} {n : ℕ} {k : Reader A} {toks : List Symbol} {m : List ℕ} {v : A} {C : List Symbol → Type 0} → Complete n k toks m v C →
    Complete (suc n) k toks (map suc m) v C
complete_up {n = n} {m = m} {v = v} h = record {
  same = h.same ∙ sym (length-map m suc);
  reads = λ rest c. h.reads rest c ∙
      ap (λ z. limited_at z v rest) (sym (over-up n m));
}

-- where no level is left, a first symbol halts
pub complete_deep : {A : Type 0} (p : Symbol → Bool) (r : Reader A) {s : Symbol} {toks : List Symbol} (d : ℕ) (m : List ℕ) {v : A} {C : List Symbol → Type 0} →
    p s ≡ true → length toks ≡ length m → Complete 0 (choose p stop_deep r) (s ∷ toks) (map suc (d ∷ m)) v C
unfolding choose stop_deep over
complete_deep p r {s = s} {toks = toks} d m {v = v} e k = record {
  same = ap suc (k ∙ sym (length-map m suc));
  reads = λ rest c. ap (λ z. choose_at z stop_deep r (s ∷ (toks ++ rest))) e
      ∙ (let count : suc (length (toks ++ rest)) ≡ suc (length (map suc m)) + length rest =
      omega (arith, length-append toks rest, k, length-map m suc) in ap (λ z. Err (deep z)) count)
      ∙ ap (λ z. limited_at (over_at z (suc (length (map suc m))) (over 0 (map suc m))) v rest) (sym (leb-suc-zero d));
}

-- the same reading, said of equal symbols, marks and values
pub complete_same : {A : Type 0} {n : ℕ} {k : Reader A} {toks toks' : List Symbol} {m m' : List ℕ} {v v' : A} {C : List Symbol → Type 0} → toks' ≡ toks →
    m' ≡ m → v' ≡ v → Complete n k toks' m' v' C → Complete n k toks m v C
complete_same {A = A} {n = n} {k = k} {toks' = toks'} {m = m} {m' = m'} {v = v} {v' = v'} {C = C} et em ev h =
    subst (λ z. Complete n k z m v C) et (subst (λ z. Complete n k toks' z v C) em (subst (λ z. Complete n k toks' m' z C) ev h))

pub complete_value : {A : Type 0} {n : ℕ} {k : Reader A} {toks : List Symbol} {m : List ℕ} {v v' : A} {C : List Symbol → Type 0} → v' ≡ v →
    Complete n k toks m v' C → Complete n k toks m v C
complete_value ev h = complete_same refl refl ev h

-- Sets of symbols that do not follow.
pub lacks_less : (p q : Symbol → Bool) → ((s : Symbol) → p s ≡ false → q s ≡ false) → (rest : List Symbol) → Lacks p rest → Lacks q rest
lacks_less p q h [] l = tt
lacks_less p q h (s ∷ rest) l = h s l

untaken_none : {O : Type 0} (c : Option O) → takes c ≡ false → c ≡ None
untaken_none (Some o) e = absurd (let e' : true ≡ false = e in cc)
untaken_none None e = refl

pub skips : {O : Type 0} (f : Symbol → Option O) (p : Symbol → Bool) → ((s : Symbol) → p s ≡ false → takes (f s) ≡ false) →
    (rest : List Symbol) → Lacks p rest → Skips f rest
skips f p h [] l = tt
skips f p h (s ∷ rest) l = untaken_none (f s) (h s l)
