-- Marks of the callers of an activation.
use Rattle.std.proofs.Common.{◌≡◌, ℕ, suc, ◌<◌, ◌≤◌, ℤ, List, true, false, sym, ap, ◌∙◌, refl, arith, nat_lt}
use Rattle.std.proofs.lemmas.Bool.Decides.{nat_tests}
use Rattle.pfc_stacks.specs.declared.marks.Mark.{Mark}
use Rattle.pfc_stacks.specs.Activations.{caller_of, has_mark_at, is_marked}

below : (k base : ℕ) → k < base → nat_lt k base ≡ true
below k base h = grind (arith, nat_tests)

not_below : (k base : ℕ) → base ≤ k → nat_lt k base ≡ false
not_below k base h = grind (arith, nat_tests)

-- the first of them has it not, so it is one of the others
pub marked_behind : (n m k : ℕ) (mark : Mark) (cells : List ℤ) (base : ℕ) → n ≡ suc m → false ≡ has_mark_at mark cells base
    → k ≡ caller_of cells base → k < base → is_marked m mark cells k ≡ is_marked n mark cells base
marked_behind n m k mark cells base e h caller lt =
    let none : has_mark_at mark cells base ≡ false = sym h in
    let lower : nat_lt (caller_of cells base) base ≡ true = ap (λ (j : ℕ). nat_lt j base) (sym caller) ∙ below k base lt in
    ap (λ (j : ℕ). is_marked m mark cells j) caller ∙ sym (ap (λ (j : ℕ). is_marked j mark cells base) e ∙ rw (none, lower) refl)

-- or none, where it has no caller
pub unmarked : (n m k : ℕ) (mark : Mark) (cells : List ℤ) (base : ℕ) → n ≡ suc m → false ≡ has_mark_at mark cells base
    → k ≡ caller_of cells base → base ≤ k → false ≡ is_marked n mark cells base
unmarked n m k mark cells base e h caller le =
    let none : has_mark_at mark cells base ≡ false = sym h in
    let not_lower : nat_lt (caller_of cells base) base ≡ false = ap (λ (j : ℕ). nat_lt j base) (sym caller) ∙ not_below k base le in
    sym (ap (λ (j : ℕ). is_marked j mark cells base) e ∙ rw (none, not_lower) refl)
