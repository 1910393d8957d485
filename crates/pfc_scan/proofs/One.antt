-- A text has one cutting: a piece has one reading, and a text one longest piece.
use Rattle.std.proofs.Common.{◌≡◌, ◌≢◌, ℕ, ◌≤◌, ◌+◌, Bool, true, false, ◌||◌, ◌==◌, cond, inl, inr, Some, List, [], ◌∷◌, ◌++◌, length, ap, refl, ◌∙◌, sym}
use Rattle.std.proofs.Common.{subst, arith, codes}
use Rattle.std.specs.List.{list_all, prefix_len}
use Rattle.std.specs.Char.{is_ascii_digit}
use Rattle.std.proofs.lemmas.Bool.Decides.{nat_tests, Decides-eqb}
use Rattle.std.proofs.lemmas.List.{append_cancel_right, length-append, append-nil}
use Rattle.pfc_base.specs.declared.places.Place.{Place}
use Rattle.pfc_base.specs.declared.tokens.Kind.TheVariants.{Sign, Literal}
use Rattle.pfc_scan.specs.declared.piece.Reading.{Reading}
use Rattle.pfc_scan.specs.declared.piece.Reading.TheVariants.{Gap, Token, Refused}
use Rattle.pfc_scan.specs.Pieces.{IsClosed, IsNumber, is_scale, is_power, IsReal, fraction, scaled, both, IsLiteral, quoted, IsSign, Reads}
use Rattle.pfc_scan.specs.Cutting.{Begins, BeginsLongest, Cutting, refusal, with_token, IsCutFrom, ended, skipped, taken, barred, stuck, after}
use Rattle.pfc_scan.specs.declared.piece.First.{First}
use Rattle.pfc_scan.specs.declared.piece.First.TheVariants.{Blank, Brace, Quote, Letter, Digit, Mark}
use Rattle.pfc_scan.specs.Finding.{first_of}
use Rattle.pfc_scan.proofs.Lists.{and_left, prefix-least, prefix-exact, front-one, rest-one}
use Rattle.pfc_scan.proofs.Firsts.{Sort, sorted, sort_at, sign-shape, is_sign_shaped}

-- ---- a piece has one reading

-- a real literal is a number and a byte behind it that is no digit
pub record GoesOn (piece : List ℕ) : Type 0 where
  pub whole : List ℕ
  pub byte : ℕ
  pub more : List ℕ
  pub is : piece ≡ whole ++ (byte ∷ more)
  pub number : IsNumber whole
  pub stops : is_ascii_digit byte ≡ false

scale_goes_on : (whole scale piece more : List ℕ) → IsNumber whole → is_scale scale ≡ true → piece ≡ whole ++ (scale ++ more) → GoesOn piece
scale_goes_on whole [] piece more n s is = cc
scale_goes_on whole (b ∷ bytes) piece more n s is =
    let e : (b == 69 || b == 101) ≡ true = and_left (b == 69 || b == 101) (is_power bytes) s in
    record { whole = whole; byte = b; more = bytes ++ more; is = is; number = n; stops = no_digit b e }
  where
    no_digit : (b : ℕ) → (b == 69 || b == 101) ≡ true → is_ascii_digit b ≡ false
    no_digit b e = grind (arith, nat_tests)

pub goes_on : (piece : List ℕ) → IsReal piece → GoesOn piece
goes_on piece (fraction whole digits n d is) = record { whole = whole; byte = 46; more = digits; is = is; number = n; stops = refl }
goes_on piece (scaled whole scale n s is) = scale_goes_on whole scale piece [] n s (is ∙ ap (λ x. whole ++ x) (sym (append-nil scale)))
goes_on piece (both whole digits scale n d s is) = record { whole = whole; byte = 46; more = digits ++ scale; is = is; number = n; stops = refl }

pub number_all : (piece : List ℕ) → IsNumber piece → list_all is_ascii_digit piece ≡ true
number_all [] h = refl
number_all (b ∷ bytes) h = h

number_or_real : (piece : List ℕ) → IsNumber piece → IsReal piece → ⊥
number_or_real piece n r =
    let g = goes_on piece r in
    let least : length piece ≤ prefix_len is_ascii_digit (piece ++ []) = prefix-least is_ascii_digit piece [] (number_all piece n) in
    let exact : prefix_len is_ascii_digit (g.whole ++ (g.byte ∷ g.more)) ≡ length g.whole =
    prefix-exact is_ascii_digit g.whole g.byte g.more (number_all g.whole g.number) g.stops in
    let nothing : prefix_len is_ascii_digit (piece ++ []) ≡ prefix_len is_ascii_digit (g.whole ++ (g.byte ∷ g.more)) =
    ap (prefix_len is_ascii_digit) (append-nil piece ∙ g.is) in
    let long : length piece ≡ length g.whole + length (g.byte ∷ g.more) = ap length g.is ∙ length-append g.whole (g.byte ∷ g.more) in
    absurd (omega arith)

quoted-some : (b : ℕ) (bytes : List ℕ) → quoted (b ∷ bytes) ≢ []
quoted-some b bytes h = go (b == 39) h
  where
    go : (t : Bool) → cond t (39 ∷ (39 ∷ quoted bytes)) (b ∷ quoted bytes) ≡ [] → ⊥
    go true h = cc
    go false h = cc

quoted-step : (b c : ℕ) (bytes others : List ℕ) (t u : Bool) → (b == 39) ≡ t → (c == 39) ≡ u
    → cond t (39 ∷ (39 ∷ quoted bytes)) (b ∷ quoted bytes) ≡ cond u (39 ∷ (39 ∷ quoted others)) (c ∷ quoted others)
    → (b ≡ c) × (quoted bytes ≡ quoted others)
quoted-step b c bytes others true true x y h =
    let e : b ≡ 39 = (Decides-eqb b 39).0 x in
    let f : c ≡ 39 = (Decides-eqb c 39).0 y in
    (cc, cc)
quoted-step b c bytes others true false x y h =
    let f : 39 ≡ c = cc in
    let z : (c == 39) ≡ true = ap (λ n. n == 39) (sym f) in
    absurd (cc)
quoted-step b c bytes others false true x y h =
    let f : b ≡ 39 = cc in
    let z : (b == 39) ≡ true = ap (λ n. n == 39) f in
    absurd (cc)
quoted-step b c bytes others false false x y h = (cc, cc)

quoted-one : (bytes others : List ℕ) → quoted bytes ≡ quoted others → bytes ≡ others
quoted-one [] [] h = refl
quoted-one [] (c ∷ others) h = absurd (quoted-some c others (sym h))
quoted-one (b ∷ bytes) [] h = absurd (quoted-some b bytes h)
quoted-one (b ∷ bytes) (c ∷ others) h =
    let e = quoted-step b c bytes others (b == 39) (c == 39) refl refl h in
    let rest : bytes ≡ others = quoted-one bytes others e.1 in
    let byte : b ≡ c = e.0 in
    cc

literal-one : (bytes others piece : List ℕ) → IsLiteral bytes piece → IsLiteral others piece → bytes ≡ others
literal-one bytes others piece h k =
    let e : quoted bytes ++ (39 ∷ []) ≡ quoted others ++ (39 ∷ []) = cc (sym h.is ∙ k.is) in
    quoted-one bytes others (append_cancel_right (quoted bytes) (quoted others) (39 ∷ []) e)

sign_or_comment : (piece : List ℕ) (n : ℕ) → IsSign n piece → IsClosed (codes "(*") (codes "*)") piece → ⊥
sign_or_comment piece n s c = go c.body (subst (λ p. is_sign_shaped p ≡ true) c.is (sign-shape piece n s))
  where
    go : (body : List ℕ) → is_sign_shaped (40 ∷ (42 ∷ (body ++ codes "*)"))) ≡ true → ⊥
    go [] h = cc
    go (b ∷ body) h = cc

same_sort : (f : First) (piece : List ℕ) (r s : Reading) → Sort f piece r → Sort f piece s → r ≡ s
same_sort Blank piece r s h k = h.1 ∙ sym k.1
same_sort Brace piece r s h k = h.1 ∙ sym k.1
same_sort Quote piece r s h k = h.2 ∙ ap (λ b. Token (Literal b)) (literal-one h.0 k.0 piece h.1 k.1) ∙ sym k.2
same_sort Letter piece r s h k = h.1 ∙ sym k.1
same_sort Digit piece r s (inl h) (inl k) = h.1 ∙ sym k.1
same_sort Digit piece r s (inl h) (inr k) = absurd (number_or_real piece h.0 k.0)
same_sort Digit piece r s (inr h) (inl k) = absurd (number_or_real piece k.0 h.0)
same_sort Digit piece r s (inr h) (inr k) = h.1 ∙ sym k.1
same_sort Mark piece r s (inl h) (inl k) = h.1 ∙ sym k.1
same_sort Mark piece r s (inl h) (inr k) = absurd (sign_or_comment piece k.0 k.1 h.0)
same_sort Mark piece r s (inr h) (inl k) = absurd (sign_or_comment piece h.0 h.1 k.0)
same_sort Mark piece r s (inr h) (inr k) =
    let same : Some h.0 ≡ Some k.0 = sym h.1 ∙ k.1 in
    let n : h.0 ≡ k.0 = cc in
    h.2 ∙ ap (λ n. Token (Sign n)) n ∙ sym k.2

pub one_reading : (piece : List ℕ) (r s : Reading) → Reads piece r → Reads piece s → r ≡ s
one_reading piece r s h k =
    let t = sorted piece r h in
    same_sort (first_of t.byte) piece r s t.sort (sort_at (first_of t.byte) t.byte t.bytes piece [] s refl (sym t.is ∙ sym (append-nil piece)) k)

-- ---- a text has one longest piece

pub begins_some : (text piece rest : List ℕ) (r : Reading) → Begins text piece rest r → text ≢ []
begins_some text piece rest r h e =
    let s = sorted piece r h.reads in
    let c : [] ≡ (s.byte ∷ s.bytes) ++ rest = sym e ∙ h.cut ∙ ap (λ p. p ++ rest) s.is in
    cc

pub record SameStep (piece other rest left : List ℕ) (r s : Reading) : Type 0 where
  pub same_piece : piece ≡ other
  pub same_rest : rest ≡ left
  pub same_reading : r ≡ s

pub one_step : (text piece other rest left : List ℕ) (r s : Reading) → BeginsLongest text piece rest r →
    BeginsLongest text other left s → SameStep piece other rest left r s
one_step text piece other rest left r s h k =
    let e : piece ++ rest ≡ other ++ left = sym h.begins.cut ∙ k.begins.cut in
    let a : length other ≤ length piece = h.longest other left s k.begins in
    let b : length piece ≤ length other = k.longest piece rest r h.begins in
    let same : piece ≡ other = front-one piece other rest left e (omega arith) in
    record {
      same_piece = same;
      same_rest = rest-one piece other rest left e same;
      same_reading = one_reading other r s (subst (λ p. Reads p r) same h.begins.reads) k.begins.reads;
    }

-- ---- a text has one cutting

along : (place : Place) (piece other rest left : List ℕ) (c : Cutting) → piece ≡ other → rest ≡ left →
    IsCutFrom (after place other) left c → IsCutFrom (after place piece) rest c
along place piece other rest left c p r h = subst (λ x. IsCutFrom (after place x) rest c) (sym p) (subst (λ x. IsCutFrom (after place other) x c) (sym r) h)

pub one_cut : {place : Place} {text : List ℕ} {c d : Cutting} → IsCutFrom place text c → IsCutFrom place text d → c ≡ d
one_cut (ended e x) (ended f y) = x ∙ sym y
one_cut (ended e x) (skipped p r b h) = absurd (begins_some _ _ _ _ b.begins e)
one_cut (ended e x) (taken p r k l b h y) = absurd (begins_some _ _ _ _ b.begins e)
one_cut (ended e x) (barred p r k b y) = absurd (begins_some _ _ _ _ b.begins e)
one_cut (ended e x) (stuck n b y) = absurd (n e)
one_cut (skipped p r b h) (ended f y) = absurd (begins_some _ _ _ _ b.begins f)
one_cut {place} {text} {c} {d} (skipped p r b h) (skipped q s e k) =
    let same = one_step text p q r s Gap Gap b e in
    one_cut h (along place p q r s d same.same_piece same.same_rest k)
one_cut (skipped p r b h) (taken q s k l e i y) = let same = one_step _ _ _ _ _ _ _ b e in let x : Gap ≡ Token k = same.same_reading in cc
one_cut (skipped p r b h) (barred q s k e y) = let same = one_step _ _ _ _ _ _ _ b e in let x : Gap ≡ Refused k = same.same_reading in cc
one_cut (skipped p r b h) (stuck n e y) = absurd (e _ _ _ b.begins)
one_cut (taken p r k l b h x) (ended f y) = absurd (begins_some _ _ _ _ b.begins f)
one_cut (taken p r k l b h x) (skipped q s e i) = let same = one_step _ _ _ _ _ _ _ b e in let z : Token k ≡ Gap = same.same_reading in cc
one_cut {place} {text} {c} {d} (taken p r k l b h x) (taken q s m n e i y) =
    let same = one_step text p q r s (Token k) (Token m) b e in
    let kinds : Token k ≡ Token m = same.same_reading in
    let kind : k ≡ m = cc in
    let left : l ≡ n = one_cut h (along place p q r s n same.same_piece same.same_rest i) in
    x ∙ ap (λ a. with_token (record { kind = a; place = place }) l) kind ∙ ap (with_token (record { kind = m; place = place })) left ∙ sym y
one_cut (taken p r k l b h x) (barred q s m e y) = let same = one_step _ _ _ _ _ _ _ b e in let z : Token k ≡ Refused m = same.same_reading in cc
one_cut (taken p r k l b h x) (stuck n e y) = absurd (e _ _ _ b.begins)
one_cut (barred p r k b x) (ended f y) = absurd (begins_some _ _ _ _ b.begins f)
one_cut (barred p r k b x) (skipped q s e i) = let same = one_step _ _ _ _ _ _ _ b e in let z : Refused k ≡ Gap = same.same_reading in cc
one_cut (barred p r k b x) (taken q s m n e i y) = let same = one_step _ _ _ _ _ _ _ b e in let z : Refused k ≡ Token m = same.same_reading in cc
one_cut {place} (barred p r k b x) (barred q s m e y) =
    let same = one_step _ _ _ _ _ _ _ b e in
    let codes_are : Refused k ≡ Refused m = same.same_reading in
    let code : k ≡ m = cc in
    x ∙ ap (λ a. refusal (record { code = a; place = place })) code ∙ sym y
one_cut (barred p r k b x) (stuck n e y) = absurd (e _ _ _ b.begins)
one_cut (stuck n b x) (ended f y) = absurd (n f)
one_cut (stuck n b x) (skipped q s e i) = absurd (b _ _ _ e.begins)
one_cut (stuck n b x) (taken q s m l e i y) = absurd (b _ _ _ e.begins)
one_cut (stuck n b x) (barred q s m e y) = absurd (b _ _ _ e.begins)
one_cut (stuck n b x) (stuck m e y) = x ∙ sym y
