-- Writes one after the other.
use Rattle.std.proofs.Common.{ℕ, ◌+◌, ◌-◌, ◌≤◌, List, ◌++◌, length, take, drop, Option, subst, sym, arith, length-append, length-drop}
use Rattle.std.proofs.Math.Seq.{take-add, take-append-add, take-length}
use Rattle.std.proofs.lemmas.List.{take_rest, take-append-le}
use Rattle.std.specs.Io.KnownBytes.{Appends}
use Rattle.std.proofs.KnownBytes.{Appends-trans, Appends-nil}
use Rattle.pfc_io.specs.Writes.{AppendsFront}

-- the first i bytes were appended, and then n of those after them
pub Appends-more : (a b c : Option (List ℕ)) (bytes : List ℕ) (i n : ℕ) → Appends a b (take i bytes)
    → Appends b c (take n (take (length bytes - i) (drop i bytes))) → Appends a c (take (i + n) bytes)
Appends-more a b c bytes i n first then =
    let rest : Appends b c (take n (drop i bytes)) = subst (λ (s : List ℕ). Appends b c (take n s)) (take_rest bytes i) then in
    subst (λ (s : List ℕ). Appends a c s) (sym (take-add i n bytes)) (Appends-trans a b c _ _ first rest)

pub within : (bytes : List ℕ) (i n : ℕ) → i ≤ length bytes → n ≤ length (take (length bytes - i) (drop i bytes)) → i + n ≤ length bytes
within bytes i n low high = omega (arith, simp (take_rest, length-drop) at high)

-- all of these bytes
pub AppendsFront-whole : (a b : Option (List ℕ)) (bytes : List ℕ) → Appends a b bytes → AppendsFront a b bytes
AppendsFront-whole a b bytes all = record {
  count = length bytes;
  bound = omega arith;
  front =
      subst (λ (s : List ℕ). Appends a b s) (sym (take-length bytes)) all;
}

-- the first of them, as a cut write says
pub AppendsFront-cut : (a b : Option (List ℕ)) (bytes : List ℕ) (n : ℕ) → n ≤ length bytes → Appends a b (take n bytes) → AppendsFront a b bytes
AppendsFront-cut a b bytes n low first = record { count = n; bound = low; front = first }

-- none of them
pub AppendsFront-none : (a : Option (List ℕ)) (bytes : List ℕ) → AppendsFront a a bytes
AppendsFront-none a bytes = record { count = 0; bound = omega arith; front = Appends-nil a }

-- a front of the first part is a front of both
pub AppendsFront-append : (a b : Option (List ℕ)) (xs ys : List ℕ) → AppendsFront a b xs → AppendsFront a b (xs ++ ys)
AppendsFront-append a b xs ys p = record {
  count = p.count;
  bound = let h : p.count ≤ length xs = p.bound in simp length-append (omega arith);
  front = subst (λ (s : List ℕ). Appends a b s) (let h : p.count ≤ length xs = p.bound in rw take-append-le) p.front;
}

-- the first part was appended, and then a front of the second
pub AppendsFront-after : (a b c : Option (List ℕ)) (xs ys : List ℕ) → Appends a b xs → AppendsFront b c ys → AppendsFront a c (xs ++ ys)
AppendsFront-after a b c xs ys first p = record {
  count = length xs + p.count;
  bound = let h : p.count ≤ length ys = p.bound in simp length-append (omega arith);
  front = subst (λ (s : List ℕ). Appends a c s) (sym (take-append-add xs ys p.count)) (Appends-trans a b c _ _ first p.front);
}

-- the lemmas on fronts, for a search
pub ruleset fronts = (AppendsFront-whole, AppendsFront-cut, AppendsFront-none, AppendsFront-append, AppendsFront-after)
