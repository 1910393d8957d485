-- Sets of symbols, and small facts on lists.
use Rattle.std.proofs.Common.{◌≡◌, List, [], ◌∷◌, ◌++◌, Bool, true, false, ◌||◌, refl, sym, ap, ◌∙◌, ◌⊎◌, inl, inr, append_assoc, append-nil, Option, is_some}
use Rattle.pfc_tree.specs.Symbols.{Symbol}

-- the first symbol, where there is one, is not in the set
abbrev pub Apart : (Symbol → Bool) → List Symbol → Type 0
Apart t [] = Unit {0}
Apart t (s ∷ ss) = t s ≡ false

-- the empty set
abbrev pub none : Symbol → Bool
none s = false

-- what f takes, or what is in t
abbrev pub or_taken : {O : Type 0} → (Symbol → Option O) → (Symbol → Bool) → Symbol → Bool
or_taken f t s = t s || is_some (f s)

pub or-left : (a b : Bool) → (a || b) ≡ false → a ≡ false
or-left true b e = e
or-left false b e = refl

pub or-right : (a b : Bool) → (a || b) ≡ false → b ≡ false
or-right true true e = e
or-right true false e = refl
or-right false b e = e

pub or-both : (a b : Bool) → a ≡ false → b ≡ false → (a || b) ≡ false
or-both true b e h = e
or-both false b e h = h

pub apart_none : (ss : List Symbol) → Apart none ss
apart_none [] = tt
apart_none (s ∷ ss) = refl

pub apart_less : (t u : Symbol → Bool) → ((s : Symbol) → t s ≡ false → u s ≡ false) → (ss : List Symbol) → Apart t ss → Apart u ss
apart_less t u h [] a = tt
apart_less t u h (s ∷ ss) a = h s a

-- what items write, one after the other
abbrev pub flat : {A : Type 0} → (A → List Symbol) → List A → List Symbol
flat U [] = []
flat U (x ∷ xs) = U x ++ flat U xs

pub flat-snoc : {A : Type 0} (U : A → List Symbol) (xs : List A) (x : A) → flat U (xs ++ x ∷ []) ≡ flat U xs ++ U x
flat-snoc U [] x = append-nil (U x)
flat-snoc U (y ∷ xs) x = ap (λ z. U y ++ z) (flat-snoc U xs x) ∙ sym (append_assoc (U y) (flat U xs) (U x))

-- items with a symbol between them
abbrev pub separated : {A : Type 0} → Symbol → (A → List Symbol) → List A → List Symbol
separated s T [] = []
separated s T (x ∷ xs) = T x ++ flat (λ y. s ∷ T y) xs

-- each item is lawful
abbrev pub Each : {A : Type 0} → (A → Type 0) → List A → Type 0
Each L [] = Unit {0}
Each L (x ∷ xs) = L x × Each L xs

pub each-snoc : {A : Type 0} (L : A → Type 0) (xs : List A) (x : A) → Each L xs → L x → Each L (xs ++ x ∷ [])
each-snoc L [] x h l = (l, tt)
each-snoc L (y ∷ xs) x h l = (h.0, each-snoc L xs x h.1 l)

-- the set behind the last item
abbrev pub behind_last : {A : Type 0} → (A → Symbol → Bool) → List A → Symbol → Bool
behind_last X [] s = false
behind_last X (x ∷ []) s = X x s
behind_last X (x ∷ (y ∷ ys)) s = behind_last X (y ∷ ys) s

pub behind_last-snoc : {A : Type 0} (X : A → Symbol → Bool) (xs : List A) (x : A) (s : Symbol) → behind_last X (xs ++ x ∷ []) s ≡ X x s
behind_last-snoc X [] x s = refl
behind_last-snoc X (y ∷ []) x s = refl
behind_last-snoc X (y ∷ (z ∷ zs)) x s = behind_last-snoc X (z ∷ zs) x s

-- one or more lawful items, and the separator may stand behind each but the last
abbrev pub Chain : {A : Type 0} → Symbol → (A → Symbol → Bool) → (A → Type 0) → List A → Type 0
Chain s X L [] = ⊥
Chain s X L (x ∷ []) = L x
Chain s X L (x ∷ (y ∷ ys)) = L x × (X x s ≡ false) × Chain s X L (y ∷ ys)

pub chain-snoc : {A : Type 0} (s : Symbol) (X : A → Symbol → Bool) (L : A → Type 0) (xs : List A) (x : A) → Chain s X L xs →
    behind_last X xs s ≡ false → L x → Chain s X L (xs ++ x ∷ [])
chain-snoc s X L [] x h e l = absurd h
chain-snoc s X L (y ∷ []) x h e l = (h, e, l)
chain-snoc s X L (y ∷ (z ∷ zs)) x h e l = (h.0, h.1, chain-snoc s X L (z ∷ zs) x h.2 e l)

pub separated-snoc : {A : Type 0} (s : Symbol) (T : A → List Symbol) (X : A → Symbol → Bool) (L : A → Type 0) (xs : List A) → Chain s X L xs → (x : A) →
    separated s T (xs ++ x ∷ []) ≡ separated s T xs ++ (s ∷ T x)
separated-snoc s T X L [] h x = absurd h
separated-snoc s T X L (y ∷ ys) h x = ap (λ z. T y ++ z) (flat-snoc (λ y'. s ∷ T y') ys x) ∙ sym (append_assoc (T y) (flat (λ y'. s ∷ T y') ys) (s ∷ T x))

-- regrouping
pub regroup4 : {A : Type 0} (a b c d : List A) → ((a ++ b) ++ c) ++ d ≡ a ++ (b ++ (c ++ d))
regroup4 a b c d = append_assoc (a ++ b) c d ∙ append_assoc a b (c ++ d)

pub or_cases : (a b : Bool) → (a || b) ≡ true → (a ≡ true) ⊎ (b ≡ true)
or_cases true b e = inl refl
or_cases false b e = inr e

pub or_else : {G : Type 0} (a b : Bool) → (a ≡ true → G) → (b ≡ true → G) → (a || b) ≡ true → G
or_else true b f g e = f refl
or_else false b f g e = g e

-- an item moves from one list to the one before
pub shift : {A : Type 0} (a : List A) (s : A) (b c : List A) → (a ++ (s ∷ b)) ++ c ≡ (a ++ (s ∷ [])) ++ (b ++ c)
shift a s b c = append_assoc a (s ∷ b) c ∙ sym (append_assoc a (s ∷ []) (b ++ c))

pub regroup6 : {A : Type 0} (a b c d e f : List A) → ((((a ++ b) ++ c) ++ d) ++ e) ++ f ≡ a ++ (b ++ (c ++ (d ++ (e ++ f))))
regroup6 a b c d e f = append_assoc (((a ++ b) ++ c) ++ d) e f ∙ append_assoc ((a ++ b) ++ c) d (e ++ f) ∙ regroup4 a b c (d ++ (e ++ f))
