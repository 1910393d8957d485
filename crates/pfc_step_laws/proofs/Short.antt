-- How much some code adds to the numbers of `ahead`, wherever it is put and whatever stands behind it.
use Rattle.std.proofs.Common.{◌≡◌, ℕ, zero, suc, ◌+◌, ◌-◌, ◌≤◌, max, List, [], ◌∷◌, ◌++◌, length, get_or, Bool, true, false, cond, refl, ap, sym, ◌∙◌}
use Rattle.std.proofs.Common.{inl, inr, subst, arith, length-append}
use Rattle.std.proofs.lemmas.Bool.{cases_lt}
use Rattle.pfc_tree.specs.Symbols.{Text}
use Rattle.pfc_code.specs.declared.instructions.Instr.{Instr}
use Rattle.pfc_code.specs.declared.instructions.Instr.TheVariants.{JMP, WRS}
use Rattle.pfc_translation.specs.Sites.{Site}
use Rattle.pfc_translation.specs.Codes.{Code, Lined, nothing, ◌⨾◌, instruction, one, over, back, string, unseen, with_arms}
use Rattle.pfc_translation.specs.Images.{instructions}
use Rattle.pfc_step_laws.proofs.Ahead.{Way, stays, on, way, from_here, ahead}

-- ## Lists

-- each number up to a place is at most so much
abbrev pub Low : List ℕ → ℕ → ℕ → Type 0
Low xs m most = (i : ℕ) → i ≤ m → get_or xs i 0 ≤ most

pub low_cons : (x : ℕ) (xs : List ℕ) (m most : ℕ) → x ≤ most → Low xs m most → Low (x ∷ xs) (1 + m) most
low_cons x xs m most h p zero q = h
low_cons x xs m most h p (suc i) q = p i (omega (arith, q))

-- what stands behind is behind
pub ahead_append :
    (at last : ℕ) (a b : Lined) (behind : List ℕ) → last ≡ at + length a
    → ahead at (instructions (a ++ b)) behind ≡ ahead at (instructions a) (ahead last (instructions b) behind)
ahead_append at last [] b behind e = ap (λ (j : ℕ). ahead j (instructions b) behind) (omega (arith, e))
ahead_append at last (i ∷ a) b behind e =
    ap (λ (rest : List ℕ). from_here (way i.0) at rest ∷ rest) (ahead_append (at + 1) last a b behind (omega (arith, e)))

-- and keeps its numbers
pub ahead_keeps : (at : ℕ) (a : Lined) (behind : List ℕ) (i j : ℕ) → i ≡ length a + j → get_or (ahead at (instructions a) behind) i 0 ≡ get_or behind j 0
ahead_keeps at [] behind i j e = ap (λ (k : ℕ). get_or behind k 0) (omega (arith, e))
ahead_keeps at (x ∷ a) behind zero j e = absurd (omega (arith, e))
ahead_keeps at (x ∷ a) behind (suc i) j e = ahead_keeps (at + 1) a behind i j (omega (arith, e))

-- ## Code

-- Where the numbers of the next place behind some code, and of m more, are at most some number, each up to there is at most k more.
pub record Within (c : Code) (m k : ℕ) : Type 0 where
  pub sized : (at n : ℕ) → length (c.put at n) ≡ c.size
  pub low : (at n most : ℕ) (behind : List ℕ) → Low behind m most → Low (ahead at (instructions (c.put at n)) behind) (c.size + m) (most + k)

-- code that leads only to the place behind it
abbrev pub Short : Code → ℕ → Type 0
Short c k = Within c 0 k

pub more : {c : Code} {m j k : ℕ} → Within c m j → j ≤ k → Within c m k
more {c} {m} {j} {k} p h = record {
  sized = p.sized;
  low = λ at n most behind q i g. let it = p.low at n most behind q i g in omega (arith, it, h);
}

-- Code that leads only to the place behind it adds to the number there, and what stands further behind keeps its own.
pub before :
    {c : Code} {k : ℕ} → Short c k → (at n first most m : ℕ) (behind : List ℕ) → get_or behind 0 0 ≤ first → first + k ≤ most → Low behind m most
    → Low (ahead at (instructions (c.put at n)) behind) (c.size + m) most
before {c} {k} p at n first most m behind h within q i g =
    elim (cases_lt i c.size) [
      | inl l ↦ let it = p.low at n first behind (λ j r. at_first j (omega (arith, r))) i (omega (arith, l)) in omega (arith, it, within)
      | inr l ↦
          let size = p.sized at n in
          let same = ahead_keeps at (c.put at n) behind i (i - c.size) (omega (arith, l, size)) in
          let it = q (i - c.size) (omega (arith, g, l)) in omega (arith, same, it)
    ]
  where
    at_first : (j : ℕ) → j ≡ 0 → get_or behind j 0 ≤ first
    at_first j e = subst (λ (x : ℕ). get_or behind x 0 ≤ first) (sym e) h

pub further : {c : Code} {m k : ℕ} → Short c k → Within c m k
further {c} {m} {k} p = record {
  sized = p.sized;
  low = λ at n most behind q.
      before p at n most (most + k) m behind (q 0 (omega arith)) (omega arith) (λ i g. let it = q i g in omega (arith, it));
}

pub no_code : {m : ℕ} → Within nothing m 0
no_code {m} = record { sized = λ at n. refl; low = λ at n most behind p i q. let it = p i (omega (arith, q)) in omega (arith, it) }

pub joined : {c d : Code} {m j k : ℕ} → Within c (d.size + m) j → Within d m k → Within (c ⨾ d) m (j + k)
joined {c} {d} {m} {j} {k} p q = record {
  sized = λ at n.
      length-append (c.put at n) (d.put (at + c.size) (n + length c.texts))
      ∙ (let a = p.sized at n in let b = q.sized (at + c.size) (n + length c.texts) in omega (arith, a, b));
  low = λ at n most behind h.
      let last = d.put (at + c.size) (n + length c.texts) in
      let size = p.sized at n in
      let outer = p.low at n (most + k) (ahead (at + c.size) (instructions last) behind) (q.low (at + c.size) (n + length c.texts) most behind h) in
      subst (λ (xs : List ℕ). Low xs (c.size + d.size + m) (most + (j + k)))
      (sym (ahead_append at (at + c.size) (c.put at n) last behind (omega (arith, size))))
      (λ i g. let it = outer i (omega (arith, g)) in omega (arith, it));
}

-- ## Instructions

-- a quiet one counts
pub counted : (s : Site) (f : ℕ → ℕ → Instr) (m : ℕ) → ((at n : ℕ) → way (f at n) ≡ on) → Within (instruction s f) m 1
counted s f m h = record {
  sized = λ at n. refl;
  low = λ at n most behind p.
      low_cons (from_here (way (f at n)) at behind) behind m (most + 1)
      (subst (λ (w : Way). from_here w at behind ≤ most + 1) (sym (h at n)) (let first = p 0 (omega arith) in omega (arith, first)))
      (λ i q. let it = p i q in omega (arith, it));
}

-- at an action no more are gone through
pub stopped : (s : Site) (i : Instr) (m : ℕ) → way i ≡ stays → Within (one s i) m 0
stopped s i m h = record {
  sized = λ at n. refl;
  low = λ at n most behind p.
      low_cons (from_here (way i) at behind) behind m (most + 0) (subst (λ (w : Way). from_here w at behind ≤ most + 0) (sym h) (omega arith))
      (λ j q. let it = p j q in omega (arith, it));
}

-- one with an address ahead leads to a place behind it
pub leading :
    (s : Site) (f : ℕ → Instr) (count m : ℕ)
    → ((a at : ℕ) (rest : List ℕ) → from_here (way (f a)) at rest ≤ suc (max (get_or rest 0 0) (get_or rest (a - (at + 1)) 0)))
    → count ≤ m → Within (over s f count) m 1
leading s f count m h within = record {
  sized = λ at n. refl;
  low = λ at n most behind p.
      low_cons (from_here (way (f (at + 1 + count))) at behind) behind m (most + 1)
      (let first = p 0 (omega arith) in
      let there = p count within in
      let same : at + 1 + count - (at + 1) ≡ count = omega arith in
      let found : get_or behind (at + 1 + count - (at + 1)) 0 ≤ most = subst (λ (j : ℕ). get_or behind j 0 ≤ most) (sym same) there in
      let it = h (at + 1 + count) at behind in omega (arith, first, found, it))
      (λ i q. let it = p i q in omega (arith, it));
}

pub jumping : (s : Site) (count m : ℕ) → count ≤ m → Within (over s JMP count) m 1
jumping s count m = leading s JMP count m (λ a at rest. omega arith)

-- ## Forms

-- code that leads to no place behind the other
pub both : {c d : Code} {m j k : ℕ} → Short c j → Within d m k → Within (c ⨾ d) m (j + k)
both {c} {d} {m} {j} {k} p q = joined (further p) q

pub lone : (s : Site) (i : Instr) → way i ≡ on → Short (one s i) 1
lone s i h = counted s (λ at n. i) 0 (λ at n. h)

pub turning : (s : Site) (f : ℕ → Instr) (count : ℕ) → ((a : ℕ) → way (f a) ≡ on) → Short (back s f count) 1
turning s f count h = counted s (λ at n. f (at - count)) 0 (λ at n. h (at - count))

pub a_string : (s : Site) (x : Text) (w : ℕ) → Short (string s x w) 1
a_string s x w = let p = counted s (λ at n. WRS n w) 0 (λ at n. refl) in record { sized = p.sized; low = p.low }

pub unseen_code : (c : Code) → Short (unseen c) 0
unseen_code c = let p = no_code {m = 0} in record { sized = p.sized; low = p.low }

pub armed : (n : ℕ) (c : Code) (m k : ℕ) → Within c m k → Within (with_arms n c) m k
armed n c m k p = record { sized = p.sized; low = p.low }

pub one_of : (r : Bool) (c d : Code) (m k : ℕ) → Within c m k → Within d m k → Within (cond r c d) m k
one_of true c d m k p q = p
one_of false c d m k p q = q
