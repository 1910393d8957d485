-- Signs at the front of a text.
use Rattle.std.proofs.Common.{◌≡◌, ℕ, ◌<◌, ◌≤◌, true, false, ◌⊎◌, inl, inr, Some, None, List, [], ◌∷◌, ◌++◌, length, slice_index, ap, refl, ◌∙◌, sym, arith}
use Rattle.std.proofs.lemmas.Bool.{cond_below}
use Rattle.pfc_base.specs.declared.tokens.Kind.TheVariants.{Sign}
use Rattle.pfc_scan.specs.declared.piece.First.TheVariants.{Mark}
use Rattle.pfc_scan.specs.declared.piece.Reading.{Reading}
use Rattle.pfc_scan.specs.declared.piece.Reading.TheVariants.{Token}
use Rattle.pfc_scan.specs.Pieces.{IsSign, sign_number, sign}
use Rattle.pfc_scan.specs.Cutting.{NothingBegins, opens_comment}
use Rattle.pfc_scan.specs.Finding.{first_of, double_number, IsNextPiece}
use Rattle.pfc_scan.proofs.Firsts.{Sort, is_sign_shaped, sign-shape}
use Rattle.pfc_scan.proofs.Fronts.{next_by, nothing_by}

-- where no comment is opened, a mark begins nothing but a sign
only_sign : (text other left : List ℕ) (r : Reading) → opens_comment text ≡ false → text ≡ other ++ left → Sort Mark other r → (n : ℕ) × IsSign n other
only_sign text other left r closed cut (inl c) =
    let e : opens_comment text ≡ true = ap opens_comment (cut ∙ ap (λ p. p ++ left) c.0.is) in
    absurd (cc)
only_sign text other left r closed cut (inr s) = (s.0, s.1)

no_comment : (text : List ℕ) (P : Type 0) → opens_comment text ≡ false → opens_comment text ≡ true → P
no_comment text P e f = absurd (cc)

-- a sign at the front of a text is its first byte or its first two
sign_is : (other left text : List ℕ) (n : ℕ) → text ≡ other ++ left → IsSign n other
    → ((other ≡ slice_index text 0 ∷ []) ⊎ ((1 < length text) × (other ≡ slice_index text 0 ∷ (slice_index text 1 ∷ []))))
sign_is [] left text n cut h = let s : is_sign_shaped [] ≡ true = sign-shape [] n h in cc
sign_is (b ∷ []) left text n cut h = inl (ap (λ t. slice_index t 0 ∷ []) (sym cut))
sign_is (b ∷ c ∷ []) left text n cut h =
    let long : length text ≡ length (b ∷ c ∷ left) = ap length cut in
    inr (omega arith, ap (λ t. slice_index t 0 ∷ (slice_index t 1 ∷ [])) (sym cut))
sign_is (b ∷ c ∷ d ∷ rest) left text n cut h = let s : is_sign_shaped (b ∷ c ∷ d ∷ rest) ≡ true = sign-shape (b ∷ c ∷ d ∷ rest) n h in cc

-- where there are two bytes
double-long : (text : List ℕ) → 1 < length text → double_number text ≡ sign_number (slice_index text 0 ∷ (slice_index text 1 ∷ []))
double-long text h = sym (cond_below 1 (length text) (sign_number (slice_index text 0 ∷ (slice_index text 1 ∷ []))) None h)

pub sign_double : (text : List ℕ) (n : ℕ) → first_of (slice_index text 0) ≡ Mark → opens_comment text ≡ false → double_number text ≡ Some n →
    IsNextPiece text (record { length = 2; reading = Token (Sign n) })
sign_double [] n first closed is = cc
sign_double (b ∷ []) n first closed is = cc
sign_double (b ∷ c ∷ rest) n first closed is =
    next_by Mark b (c ∷ rest) 2 (Token (Sign n)) first (omega arith) (omega arith) (sign n (sym (double-long (b ∷ c ∷ rest) (omega arith)) ∙
    is) refl) (no_comment (b ∷ c ∷ rest) _ closed)
    (λ other left r cut sort opened. short other left (only_sign (b ∷ c ∷ rest) other left r closed cut sort) cut)
  where
    short : (other left : List ℕ) → ((n : ℕ) × IsSign n other) → b ∷ c ∷ rest ≡ other ++ left → length other ≤ 2
    short other left s cut = elim (sign_is other left (b ∷ c ∷ rest) s.0 cut s.1) [ inl e ↦ rw e (omega arith) | inr e ↦ rw e.1 (omega arith) ]

pub sign_single : (text : List ℕ) (n : ℕ) → 0 < length text → first_of (slice_index text 0) ≡ Mark → opens_comment text ≡ false → double_number text ≡ None
    → sign_number (slice_index text 0 ∷ []) ≡ Some n → IsNextPiece text (record { length = 1; reading = Token (Sign n) })
sign_single [] n some first closed other_is is = absurd (omega arith)
sign_single (b ∷ rest) n some first closed other_is is =
    next_by Mark b rest 1 (Token (Sign n)) first (omega arith) (omega arith) (sign n is refl) (no_comment (b ∷ rest) _ closed)
    (λ other left r cut sort opened. short other left (only_sign (b ∷ rest) other left r closed cut sort) cut)
  where
    short : (other left : List ℕ) → ((n : ℕ) × IsSign n other) → b ∷ rest ≡ other ++ left → length other ≤ 1
    short other left s cut =
        elim (sign_is other left (b ∷ rest) s.0 cut s.1) [
          | inl e ↦ rw e (omega arith)
          | inr e ↦ (let x : None ≡ Some s.0 = sym other_is ∙ double-long (b ∷ rest) e.0 ∙ ap sign_number (sym e.1) ∙ s.1 in absurd (cc))
        ]

pub sign_none : (text : List ℕ) → 0 < length text → first_of (slice_index text 0) ≡ Mark → opens_comment text ≡ false → double_number text ≡ None
    → sign_number (slice_index text 0 ∷ []) ≡ None → NothingBegins text
sign_none [] some first closed other_is none = absurd (omega arith)
sign_none (b ∷ rest) some first closed other_is none =
    nothing_by Mark b rest first (λ other left r cut sort opened. short other left (only_sign (b ∷ rest) other left r closed cut sort) cut)
  where
    short : (other left : List ℕ) → ((n : ℕ) × IsSign n other) → b ∷ rest ≡ other ++ left → ⊥
    short other left s cut =
        elim (sign_is other left (b ∷ rest) s.0 cut s.1) [
          | inl e ↦ (let x : None ≡ Some s.0 = sym none ∙ ap sign_number (sym e) ∙ s.1 in absurd (cc))
          | inr e ↦ (let x : None ≡ Some s.0 = sym other_is ∙ double-long (b ∷ rest) e.0 ∙ ap sign_number (sym e.1) ∙ s.1 in absurd (cc))
        ]
