-- The cutting so far, with what is still to come, is the cutting of the text.
use Rattle.std.proofs.Common.{◌≡◌, ◌≢◌, ℕ, ◌+◌, ◌-◌, ◌<◌, ◌≤◌, List, [], ◌∷◌, ◌++◌, length, take, drop, sym, ap, refl, subst, arith}
use Rattle.std.proofs.lemmas.List.{append_assoc, append-nil, length-append, length-drop}
use Rattle.pfc_base.specs.declared.places.Place.{Place}
use Rattle.pfc_base.specs.declared.tokens.Kind.{Kind}
use Rattle.pfc_base.specs.declared.tokens.Token.{Token}
use Rattle.pfc_scan.specs.declared.piece.Reading.TheVariants as reading
use Rattle.pfc_scan.specs.Cutting.{BeginsLongest, NothingBegins, Cutting, tokens, refusal, with_token, IsCutFrom, ended, skipped, taken, barred, stuck, IsCut}
use Rattle.pfc_scan.specs.Cutting.{text_start, after, cause_of}

-- these tokens before those of a cutting
abbrev pub with_tokens : List Token → Cutting → Cutting
with_tokens ts (tokens us end) = tokens (ts ++ us) end
with_tokens ts (refusal r) = refusal r

with_tokens-nil : (c : Cutting) → with_tokens [] c ≡ c
with_tokens-nil (tokens ts end) = refl
with_tokens-nil (refusal r) = refl

with_tokens-push : (ts : List Token) (t : Token) (c : Cutting) → with_tokens ts (with_token t c) ≡ with_tokens (ts ++ (t ∷ [])) c
with_tokens-push ts t (tokens us end) = ap (λ x. tokens x end) (sym (append_assoc ts (t ∷ []) us))
with_tokens-push ts t (refusal r) = refl

-- what a text is cut to from a place on makes, with the tokens so far, what the whole text is cut to
pub record CutSoFar (text : List ℕ) (ts : List Token) (place : Place) (rest : List ℕ) : Type 0 where
  pub cut : (c : Cutting) → IsCutFrom place rest c → IsCut text (with_tokens ts c)
  pub lines : place.line + length rest ≤ 262145
  pub columns : place.column + length rest ≤ 262145
  pub count : length ts + length rest ≤ length text

pub cut_start : (text : List ℕ) → length text ≤ 262144 → CutSoFar text [] text_start text
cut_start text h = record {
  cut = λ c k. subst (IsCut text) (sym (with_tokens-nil c)) k;
  lines = omega arith;
  columns = omega arith;
  count = omega arith;
}

is_nil : (rest : List ℕ) → length rest ≡ 0 → rest ≡ []
is_nil [] e = refl
is_nil (b ∷ rest) e = absurd (omega arith)

not_empty : (rest : List ℕ) → 0 < length rest → rest ≢ []
not_empty rest h e = let l : length rest ≡ 0 = ap length e in absurd (omega arith)

pub cut_done : (text : List ℕ) (ts : List Token) (place : Place) (rest : List ℕ) → length rest ≡ 0 → CutSoFar text ts place rest → IsCut text (tokens ts place)
cut_done text ts place rest e s = subst (λ x. IsCut text (tokens x place)) (append-nil ts) (s.cut (tokens [] place) (ended (is_nil rest e) refl))

module _ (text : List ℕ) (ts : List Token) (place : Place) (rest : List ℕ) (s : CutSoFar text ts place rest) where
  pub cut_barred : (piece left : List ℕ) (code : ℕ) → BeginsLongest rest piece left (reading.Refused code) →
      IsCut text (refusal (record { code = code; place = place }))
  cut_barred piece left code b = s.cut (refusal (record { code = code; place = place })) (barred piece left code b refl)

  pub cut_stuck : 0 < length rest → NothingBegins rest → IsCut text (refusal (record { code = cause_of rest; place = place }))
  cut_stuck some none = s.cut (refusal (record { code = cause_of rest; place = place })) (stuck (not_empty rest some) none refl)

  -- behind a piece of `n` bytes
  module _ (n : ℕ) (within : n ≤ length rest) (next : Place) (at : next ≡ after place (take n rest)) (lines : next.line ≤ place.line + n)
      (columns : next.column ≤ place.column + n) where
    left_is : length (drop n rest) + n ≡ length rest
    left_is = let l : length (drop n rest) ≡ length rest - n = length-drop n rest in omega arith

    pub cut_skipped : BeginsLongest rest (take n rest) (drop n rest) reading.Gap → CutSoFar text ts next (drop n rest)
    cut_skipped b = record {
      cut = λ c k. s.cut c (skipped (take n rest) (drop n rest) b (subst (λ p. IsCutFrom p (drop n rest) c) at k));
      lines = (let l = s.lines in let m = left_is in omega arith);
      columns = (let l = s.columns in let m = left_is in omega arith);
      count = (let l = s.count in let m = left_is in omega arith);
    }

    pub cut_taken : (kind : Kind) → 0 < n → BeginsLongest rest (take n rest) (drop n rest) (reading.Token kind) →
        CutSoFar text (ts ++ (record { kind = kind; place = place } ∷ [])) next (drop n rest)
    cut_taken kind some b = record {
      cut = λ c k. subst (IsCut text) (with_tokens-push ts (record { kind = kind; place = place }) c)
          (s.cut (with_token (record { kind = kind; place = place }) c) (taken (take n rest) (drop n rest) kind c b
          (subst (λ p. IsCutFrom p (drop n rest) c) at k) refl));
      lines = (let l = s.lines in let m = left_is in omega arith);
      columns = (let l = s.columns in let m = left_is in omega arith);
      count = (let l = s.count in let m = left_is in let k : length (ts ++ (record { kind = kind; place = place } ∷ [])) ≡ length ts + 1 =
          length-append ts (record { kind = kind; place = place } ∷ []) in omega arith);
    }
