-- Searches in a list that lies in two pieces.
use Rattle.std.proofs.Common.{◌≡◌, ℕ, ◌+◌, ◌-◌, ◌<◌, ◌≤◌, Bool, true, false, inl, inr, List, ◌++◌, length, get_or, arith, refl, sym, ap, ◌∙◌, subst}
use Rattle.std.specs.List.{AllWithin}
use Rattle.std.specs.List.Sorted.{IsPartitionedBy, IsPartitionPoint}
use Rattle.std.proofs.lemmas.List.{get_or_append_left, get_or-append-add, get_or_default, length-append}
use Rattle.std.proofs.lemmas.Bool.{cases_lt}
use Rattle.pfc_sorted.specs.Sorted.{IsParted}

contrary : (A : Type 0) (b : Bool) → b ≡ true → b ≡ false → A
contrary A true e f = cc
contrary A false e f = cc

not-true : (b : Bool) → (b ≡ true → ⊥) → b ≡ false
not-true true h = absurd (h refl)
not-true false h = refl

-- who stands behind the first piece stands in the second
second : (front back : List ℕ) (k d : ℕ) → length front ≤ k → get_or (front ++ back) k d ≡ get_or back (k - length front) d
second front back k d ge =
    let back_to : k ≡ length front + (k - length front) = omega (arith, ge) in
    ap (λ n. get_or (front ++ back) n d) back_to ∙ get_or-append-add front back (k - length front) d

begins : (front back : List ℕ) (d : ℕ) → get_or (front ++ back) (length front) d ≡ get_or back 0 d
begins front back d = let none : length front ≡ length front + 0 = omega arith in ap (λ n. get_or (front ++ back) n d) none ∙ get_or-append-add front back 0 d

front-parted : (p : ℕ → Bool) (front back : List ℕ) → IsPartitionedBy p (front ++ back) → IsPartitionedBy p front
front-parted p front back h i j d le lt is =
    let long : length (front ++ back) ≡ length front + length back = length-append front back in
    ap p (sym (get_or_append_left front back d i (omega (arith, le, lt))))
    ∙ h i j d le (omega (arith, long, lt)) (ap p (get_or_append_left front back d j lt) ∙ is)

back-parted : (p : ℕ → Bool) (front back : List ℕ) → IsPartitionedBy p (front ++ back) → IsPartitionedBy p back
back-parted p front back h i j d le lt is =
    let long : length (front ++ back) ≡ length front + length back = length-append front back in
    ap p (sym (get_or-append-add front back i d))
    ∙ h (length front + i) (length front + j) d (omega (arith, le)) (omega (arith, long, lt)) (ap p (get_or-append-add front back j d) ∙ is)

in-front : (p : ℕ → Bool) (front back : List ℕ) (i d : ℕ) → IsPartitionedBy p (front ++ back) → i ≤ length front →
    IsPartitionPoint (λ y. p y ≡ true) (λ y. p y ≡ false) front i
    → (0 < length back → p (get_or back 0 d) ≡ false) → IsParted p (front ++ back) i
in-front p front back i d h le point fails = record { within = omega (arith, length-append front back, le); before = before; behind = behind }
  where
    long : length (front ++ back) ≡ length front + length back
    long = length-append front back

    before : AllWithin (λ y. p y ≡ true) (front ++ back) 0 i
    before k e from lt = ap p (get_or_append_left front back e k (omega (arith, lt, le))) ∙ point.0 k e from lt

    -- whoever stands in the second piece does not pass, since its first does not
    past : (k e : ℕ) → length front ≤ k → k < length (front ++ back) → p (get_or (front ++ back) k e) ≡ false
    past k e ge lt =
        let some : 0 < length back = omega (arith, ge, lt, long) in
        not-true (p (get_or (front ++ back) k e))
        (λ is. contrary ⊥ (p (get_or back 0 d))
        (ap p (get_or_default back 0 d e some ∙ sym (begins front back e)) ∙ h (length front) k e ge lt is)
        (fails some))

    behind : AllWithin (λ y. p y ≡ false) (front ++ back) i (length (front ++ back))
    behind k e from lt = elim (cases_lt k (length front)) [
      | inl less ↦ ap p (get_or_append_left front back e k less) ∙ point.1 k e from less
      | inr ge ↦ past k e ge lt
    ]

in-back : (p : ℕ → Bool) (front back : List ℕ) (i d : ℕ) → IsPartitionedBy p (front ++ back) → IsPartitionPoint (λ y. p y ≡ true) (λ y. p y ≡ false) back i
    → i ≤ length back → 0 < length back → p (get_or back 0 d) ≡ true → IsParted p (front ++ back) (length front + i)
in-back p front back i d h point le some passes = record { within = omega (arith, length-append front back, le); before = before; behind = behind }
  where
    long : length (front ++ back) ≡ length front + length back
    long = length-append front back

    before : AllWithin (λ y. p y ≡ true) (front ++ back) 0 (length front + i)
    before k e from lt = elim (cases_lt k (length front)) [
      | inl less ↦
          h k (length front) e (omega (arith, less)) (omega (arith, long, some)) (ap p (begins front back e ∙ get_or_default back 0 e d some) ∙ passes)
      | inr ge ↦ ap p (second front back k e ge) ∙ point.0 (k - length front) e (omega arith) (omega (arith, ge, lt))
    ]

    behind : AllWithin (λ y. p y ≡ false) (front ++ back) (length front + i) (length (front ++ back))
    behind k e from lt =
        let ge : length front ≤ k = omega (arith, from) in
        ap p (second front back k e ge) ∙ point.1 (k - length front) e (omega (arith, from)) (omega (arith, ge, lt, long))

-- the first of the second piece does not pass, or there is none, so the first piece was searched
pub found-in_front : (p : ℕ → Bool) (xs front back : List ℕ) (i d : ℕ) → front ++ back ≡ xs → IsPartitionedBy p xs → i ≤ length front
    → (IsPartitionedBy p front → IsPartitionPoint (λ y. p y ≡ true) (λ y. p y ≡ false) front i) →
    (0 < length back → p (get_or back 0 d) ≡ false) → IsParted p xs i
found-in_front p xs front back i d is h le point fails =
    let parts : IsPartitionedBy p (front ++ back) = subst (λ v. IsPartitionedBy p v) (sym is) h in
    subst (λ v. IsParted p v i) is (in-front p front back i d parts le (point (front-parted p front back parts)) fails)

-- the first of the second piece passes, so this was searched
pub found-in_back : (p : ℕ → Bool) (xs front back : List ℕ) (i d : ℕ) → front ++ back ≡ xs → IsPartitionedBy p xs → i ≤ length back
    → (IsPartitionedBy p back → IsPartitionPoint (λ y. p y ≡ true) (λ y. p y ≡ false) back i) → 0 < length back →
    p (get_or back 0 d) ≡ true → IsParted p xs (length front + i)
found-in_back p xs front back i d is h le point some passes =
    let parts : IsPartitionedBy p (front ++ back) = subst (λ v. IsPartitionedBy p v) (sym is) h in
    subst (λ v. IsParted p v (length front + i)) is (in-back p front back i d parts (point (back-parted p front back parts)) le some passes)
