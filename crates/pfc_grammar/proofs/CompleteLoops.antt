-- Loops read back what lists write.
use Rattle.std.proofs.Common.{◌≡◌, ℕ, zero, suc, ◌+◌, ◌≤◌, List, [], ◌∷◌, ◌++◌, length, Bool, true, false, Option, Some, Ok, refl, sym, ap, ◌∙◌, append_assoc}
use Rattle.std.proofs.Common.{append-nil, length-append, arith}
use Rattle.pfc_tree.specs.Symbols.{Symbol}
use Rattle.pfc_grammar.specs.Reading.{Reader, pure, then_read, bind, stop, branch_at, branch, choose_at, choose, many_turns, many_onto, many, some_of, list_of}
use Rattle.pfc_grammar.specs.Reading.{end_turns, end_onto, list_end, while_turns, while_onto, many_while}
use Rattle.pfc_grammar.proofs.Complete.{over, over-zero, limited, limited_at, Complete, Skips, Lacks, Heads, after, complete_bind, complete_take}

-- What a loop reads: items, each behind a symbol that f takes, and then no such symbol.
pub data Run {A O : Type 0} (n : ℕ) (f : Symbol → Option O) (g : O → Reader A) (C : List Symbol → Type 0) : List Symbol → List ℕ → List A → Type 1 where
  run_end : ((rest : List Symbol) → C rest → Skips f rest) → Run n f g C [] [] []
  run_item : {s : Symbol} (o : O) {ta toks : List Symbol} {ma m : List ℕ} {y : A} {ys : List A} {D : List Symbol → Type 0} →
      f s ≡ Some o → Complete n (g o) ta ma y D → ((rest : List Symbol) → C rest → D (toks ++ rest)) → Run n f g C toks m ys →
      Run n f g C (s ∷ (ta ++ toks)) (0 ∷ (ma ++ m)) (y ∷ ys)

fits : (s : Symbol) (ta toks rest : List Symbol) (k : ℕ) → length (s ∷ ((ta ++ toks) ++ rest)) ≤ suc k → length (toks ++ rest) ≤ k
fits s ta toks rest k h =
    let h' : suc (length ((ta ++ toks) ++ rest)) ≤ suc k = h in
    omega (arith, ap length (append_assoc ta toks rest), length-append ta (toks ++ rest))

run_same : {A O : Type 0} {n : ℕ} {f : Symbol → Option O} {g : O → Reader A} {C : List Symbol → Type 0} {toks : List Symbol} {m : List ℕ} {ys : List A} →
    Run n f g C toks m ys → length toks ≡ length m
run_same (run_end h) = refl
run_same (run_item o {ta = ta} {toks = toks} {ma = ma} {m = m} e c d r) =
    ap suc (length-append ta toks ∙ ap (λ z. z + length toks) c.same ∙ ap (λ z. length ma + z) (run_same r) ∙ sym (length-append ma m))

skipped : {O B : Type 0} (f : Symbol → Option O) (g : O → Reader B) (r : Reader B) (ss : List Symbol) → Skips f ss → branch f g r ss ≡ r ss
unfolding branch
skipped f g r [] e = refl
skipped f g r (s ∷ ss) e = ap (λ z. branch_at z g r s ss) e

run_turns : {A O : Type 0} {n : ℕ} {f : Symbol → Option O} {g : O → Reader A} {C : List Symbol → Type 0} {toks : List Symbol} {m : List ℕ}
    {ys : List A} → Run n f g C toks m ys →
    (k : ℕ) (xs : List A) (rest : List Symbol) → C rest → length (toks ++ rest) ≤ k → many_turns k xs f g (toks ++ rest) ≡ limited n m (xs ++ ys) rest
unfolding many_turns pure over bind branch
run_turns (run_end h) zero xs rest c q = ap (λ z. Ok (z, rest)) (sym (append-nil xs))
run_turns {A = A} {f = f} {g = g} (run_end h) (suc k) xs rest c q = skipped f (λ o. bind (g o) (λ x. many_turns k (xs ++ x ∷ []) f g)) (pure xs) rest
    (h rest c) ∙ ap (λ z. Ok (z, rest)) (sym (append-nil xs))
run_turns (run_item {s = s} o e c d r) zero xs rest k q = absurd (omega (arith, q))
run_turns {A = A} {n = n} {f = f} {g = g} (run_item {s = s} o {ta = ta} {toks = toks} {ma = ma} {m = m} {y = y} {ys = ys} e c d r) (suc k) xs rest cr q =
    ap (λ z. branch_at z (λ o'. bind (g o') (λ x. many_turns k (xs ++ x ∷ []) f g)) (pure xs) s ((ta ++ toks) ++ rest)) e
    ∙ ap (λ z. then_read (g o z) (λ x. many_turns k (xs ++ x ∷ []) f g)) (append_assoc ta toks rest)
    ∙ ap (λ z. then_read z (λ x. many_turns k (xs ++ x ∷ []) f g)) (c.reads (toks ++ rest) (d rest cr))
    ∙ after n ma m y (toks ++ rest) rest (λ x. many_turns k (xs ++ x ∷ []) f g) ((xs ++ y ∷ []) ++ ys)
    (run_turns r k (xs ++ y ∷ []) rest cr (fits s ta toks rest k q)) (length-append toks rest ∙ ap (λ z. z + length rest) (run_same r))
    ∙ ap (λ z. limited n (ma ++ m) z rest) (append_assoc xs (y ∷ []) ys)
    ∙ ap (λ z. limited_at z (xs ++ (y ∷ ys)) rest) (sym (over-zero n (ma ++ m)))

pub complete_onto : {A O : Type 0} {n : ℕ} {f : Symbol → Option O} {g : O → Reader A} {C : List Symbol → Type 0} {toks : List Symbol} {m : List ℕ} {ys : List A}
    (xs : List A) → Run n f g C toks m ys →
    Complete n (many_onto xs f g) toks m (xs ++ ys) C
unfolding many_onto
complete_onto {toks = toks} xs r = record { same = run_same r; reads = λ rest c. run_turns r (length (toks ++ rest)) xs rest c (omega arith) }

pub complete_many : {A O : Type 0} {n : ℕ} {f : Symbol → Option O} {g : O → Reader A} {C : List Symbol → Type 0} {toks : List Symbol} {m : List ℕ}
    {ys : List A} → Run n f g C toks m ys →
    Complete n (many f g) toks m ys C
unfolding many
complete_many r = complete_onto [] r

-- a list with a symbol between its items
pub complete_list : {A O : Type 0} {n : ℕ} (f : Symbol → Option O) {r : Reader A} {ta toks : List Symbol} {ma m : List ℕ} {x : A}
    {ys : List A} {D C : List Symbol → Type 0} →
    Complete n r ta ma x D → ((rest : List Symbol) → C rest → D (toks ++ rest)) → Run n f (λ o. r) C toks m ys →
    Complete n (list_of f r) (ta ++ toks) (ma ++ m) (x ∷ ys) C
unfolding list_of
complete_list f {r = r} {x = x} c d run = complete_bind (λ y. many_onto (y ∷ []) f (λ o. r)) c d (complete_onto (x ∷ []) run)

-- one or more items, each behind a symbol
pub complete_some : {A O : Type 0} {n : ℕ} {f : Symbol → Option O} {g : O → Reader A} {s : Symbol} (o : O) {ta toks : List Symbol} {ma m : List ℕ} {x : A}
    {ys : List A} {D C : List Symbol → Type 0} →
    f s ≡ Some o → Complete n (g o) ta ma x D → ((rest : List Symbol) → C rest → D (toks ++ rest)) → Run n f g C toks m ys →
    Complete n (some_of f g) (s ∷ (ta ++ toks)) (0 ∷ (ma ++ m)) (x ∷ ys) C
unfolding some_of
complete_some {f = f} {g = g} o {x = x} e c d run = complete_take f (λ o'. bind (g o') (λ y. many_onto (y ∷ []) f g)) stop o e
    (complete_bind (λ y. many_onto (y ∷ []) f g) c d (complete_onto (x ∷ []) run))

-- What a loop with an optional last separator reads.
pub data EndRun {A O : Type 0} (n : ℕ) (f : Symbol → Option O) (p : Symbol → Bool) (r : Reader A) (C : List Symbol →
    Type 0) : List Symbol → List ℕ → List A → Bool → Type 1 where
  end_none : ((rest : List Symbol) → C rest → Skips f rest) → EndRun n f p r C [] [] [] false
  end_last : {s : Symbol} (o : O) → f s ≡ Some o → ((rest : List Symbol) → C rest → Heads p rest) → EndRun n f p r C (s ∷ []) (0 ∷ []) [] true
  end_item : {s : Symbol} (o : O) {ta toks : List Symbol} {ma m : List ℕ} {y : A} {ys : List A} {b : Bool} {D : List Symbol → Type 0} →
      f s ≡ Some o → ((rest : List Symbol) → C rest → Lacks p (ta ++ (toks ++ rest))) → Complete n r ta ma y D →
      ((rest : List Symbol) → C rest → D (toks ++ rest)) → EndRun n f p r C toks m ys b →
      EndRun n f p r C (s ∷ (ta ++ toks)) (0 ∷ (ma ++ m)) (y ∷ ys) b

end_same : {A O : Type 0} {n : ℕ} {f : Symbol → Option O} {p : Symbol → Bool} {r : Reader A} {C : List Symbol → Type 0} {toks : List Symbol} {m : List ℕ}
    {ys : List A} {b : Bool} → EndRun n f p r C toks m ys b → length toks ≡ length m
end_same (end_none h) = refl
end_same (end_last o e h) = refl
end_same (end_item o {ta = ta} {toks = toks} {ma = ma} {m = m} e l c d r) =
    ap suc (length-append ta toks ∙ ap (λ z. z + length toks) c.same ∙ ap (λ z. length ma + z) (end_same r) ∙ sym (length-append ma m))

chosen : {B : Type 0} (p : Symbol → Bool) (g r : Reader B) (ss : List Symbol) → Heads p ss → choose p g r ss ≡ g ss
unfolding choose
chosen p g r [] e = absurd e
chosen p g r (s ∷ ss) e = ap (λ z. choose_at z g r (s ∷ ss)) e

unchosen : {B : Type 0} (p : Symbol → Bool) (g r : Reader B) (ss : List Symbol) → Lacks p ss → choose p g r ss ≡ r ss
unfolding choose
unchosen p g r [] e = refl
unchosen p g r (s ∷ ss) e = ap (λ z. choose_at z g r (s ∷ ss)) e

end_run : {A O : Type 0} {n : ℕ} {f : Symbol → Option O} {p : Symbol → Bool} {r : Reader A} {C : List Symbol → Type 0} {toks : List Symbol} {m : List ℕ}
    {ys : List A} {b : Bool} → EndRun n f p r C toks m ys b →
    (k : ℕ) (xs : List A) (rest : List Symbol) → C rest → length (toks ++ rest) ≤ k → end_turns k xs f p r (toks ++ rest) ≡ limited n m (xs ++ ys, b) rest
unfolding end_turns pure over bind branch
end_run (end_none h) zero xs rest c q = ap (λ z. Ok ((z, false), rest)) (sym (append-nil xs))
end_run {f = f} {p = p} {r = r} (end_none h) (suc k) xs rest c q = skipped f (λ o. choose p (pure (xs, true)) (bind r (λ x. end_turns k (xs ++ x ∷ []) f p r)))
    (pure (xs, false)) rest (h rest c) ∙ ap (λ z. Ok ((z, false), rest)) (sym (append-nil xs))
end_run (end_last {s = s} o e h) zero xs rest c q = absurd (omega (arith, q))
end_run {n = n} {f = f} {p = p} {r = r} (end_last {s = s} o e h) (suc k) xs rest c q =
    ap (λ z. branch_at z (λ o'. choose p (pure (xs, true)) (bind r (λ x. end_turns k (xs ++ x ∷ []) f p r))) (pure (xs, false)) s rest) e
    ∙ chosen p (pure (xs, true)) (bind r (λ x. end_turns k (xs ++ x ∷ []) f p r)) rest (h rest c)
    ∙ ap (λ z. Ok ((z, true), rest)) (sym (append-nil xs))
    ∙ ap (λ z. limited_at z (xs ++ [], true) rest) (sym (over-zero n []))
end_run (end_item {s = s} o e l c d r) zero xs rest k q = absurd (omega (arith, q))
end_run {n = n} {f = f} {p = p} {r = r} (end_item {s = s} o {ta = ta} {toks = toks} {ma = ma} {m = m} {y = y} {ys =
    ys} {b = b} e l c d run) (suc k) xs rest cr q =
    ap (λ z. branch_at z (λ o'. choose p (pure (xs, true)) (bind r (λ x. end_turns k (xs ++ x ∷ []) f p r))) (pure (xs, false)) s ((ta ++ toks) ++ rest)) e
    ∙ ap (λ z. choose p (pure (xs, true)) (bind r (λ x. end_turns k (xs ++ x ∷ []) f p r)) z) (append_assoc ta toks rest)
    ∙ unchosen p (pure (xs, true)) (bind r (λ x. end_turns k (xs ++ x ∷ []) f p r)) (ta ++ (toks ++ rest)) (l rest cr)
    ∙ ap (λ z. then_read z (λ x. end_turns k (xs ++ x ∷ []) f p r)) (c.reads (toks ++ rest) (d rest cr))
    ∙ after n ma m y (toks ++ rest) rest (λ x. end_turns k (xs ++ x ∷ []) f p r) ((xs ++ y ∷ []) ++ ys, b)
    (end_run run k (xs ++ y ∷ []) rest cr (fits s ta toks rest k q)) (length-append toks rest ∙ ap (λ z. z + length rest) (end_same run))
    ∙ ap (λ z. limited n (ma ++ m) (z, b) rest) (append_assoc xs (y ∷ []) ys)
    ∙ ap (λ z. limited_at z (xs ++ (y ∷ ys), b) rest) (sym (over-zero n (ma ++ m)))

pub complete_list_end : {A O : Type 0} {n : ℕ} {f : Symbol → Option O} {p : Symbol → Bool} {r : Reader A} {ta toks : List Symbol} {ma m : List ℕ} {x : A}
    {ys : List A} {b : Bool} {D C : List Symbol → Type 0} →
    Complete n r ta ma x D → ((rest : List Symbol) → C rest → D (toks ++ rest)) → EndRun n f p r C toks m ys b →
    Complete n (list_end f p r) (ta ++ toks) (ma ++ m) (x ∷ ys, b) C
unfolding list_end end_onto
complete_list_end {f = f} {p = p} {r = r} {toks = toks} {x = x} c d run = complete_bind (λ y. end_onto (y ∷ []) f p r) c d
    (record { same = end_same run; reads = λ rest cr. end_run run (length (toks ++ rest)) (x ∷ []) rest cr (omega arith) })

-- What a loop reads that goes on as long as an item begins.
pub data WhileRun {A : Type 0} (n : ℕ) (p : Symbol → Bool) (r : Reader A) (C : List Symbol → Type 0) : List Symbol → List ℕ → List A → Type 1 where
  while_end : ((rest : List Symbol) → C rest → Lacks p rest) → WhileRun n p r C [] [] []
  while_item : {ta toks : List Symbol} {ma m : List ℕ} {y : A} {ys : List A} {D : List Symbol → Type 0} →
      ((l : List Symbol) → Heads p (ta ++ l)) → Complete n r ta ma y D → ((rest : List Symbol) → C rest → D (toks ++ rest)) → WhileRun n p r C toks m ys →
      WhileRun n p r C (ta ++ toks) (ma ++ m) (y ∷ ys)

while_same : {A : Type 0} {n : ℕ} {p : Symbol → Bool} {r : Reader A} {C : List Symbol → Type 0} {toks : List Symbol} {m : List ℕ} {ys : List A} →
    WhileRun n p r C toks m ys → length toks ≡ length m
while_same (while_end h) = refl
while_same (while_item {ta = ta} {toks = toks} {ma = ma} {m = m} l c d r) = length-append ta toks ∙ ap (λ z. z + length toks) c.same ∙
    ap (λ z. length ma + z) (while_same r) ∙ sym (length-append ma m)

some_head : (p : Symbol → Bool) (ta : List Symbol) → ((l : List Symbol) → Heads p (ta ++ l)) → 1 ≤ length ta
some_head p [] h = absurd (h [])
some_head p (s ∷ ta) h = omega arith

while_run : {A : Type 0} {n : ℕ} {p : Symbol → Bool} {r : Reader A} {C : List Symbol → Type 0} {toks : List Symbol} {m : List ℕ}
    {ys : List A} → WhileRun n p r C toks m ys →
    (k : ℕ) (xs : List A) (rest : List Symbol) → C rest → length (toks ++ rest) ≤ k → while_turns k xs p r (toks ++ rest) ≡ limited n m (xs ++ ys) rest
unfolding while_turns pure over bind
while_run (while_end h) zero xs rest c q = ap (λ z. Ok (z, rest)) (sym (append-nil xs))
while_run {p = p} {r = r} (while_end h) (suc k) xs rest c q = unchosen p (bind r (λ x. while_turns k (xs ++ x ∷ []) p r)) (pure xs) rest (h rest c) ∙
    ap (λ z. Ok (z, rest)) (sym (append-nil xs))
while_run {p = p} (while_item {ta = ta} {toks = toks} l c d run) zero xs rest k q =
    absurd (let one : 1 ≤ length ta = some_head p ta l in omega (arith, length-append ta toks, length-append (ta ++ toks) rest, q))
while_run {n = n} {p = p} {r = r} (while_item {ta = ta} {toks = toks} {ma = ma} {m = m} {y = y} {ys = ys} l c d run) (suc k) xs rest cr q =
    ap (λ z. choose p (bind r (λ x. while_turns k (xs ++ x ∷ []) p r)) (pure xs) z) (append_assoc ta toks rest)
    ∙ chosen p (bind r (λ x. while_turns k (xs ++ x ∷ []) p r)) (pure xs) (ta ++ (toks ++ rest)) (l (toks ++ rest))
    ∙ ap (λ z. then_read z (λ x. while_turns k (xs ++ x ∷ []) p r)) (c.reads (toks ++ rest) (d rest cr))
    ∙ after n ma m y (toks ++ rest) rest (λ x. while_turns k (xs ++ x ∷ []) p r) ((xs ++ y ∷ []) ++ ys)
    (while_run run k (xs ++ y ∷ []) rest cr (let one : 1 ≤ length ta =
    some_head p ta l in omega (arith, length-append ta toks, length-append (ta ++ toks) rest, length-append toks rest, q)))
    (length-append toks rest ∙ ap (λ z. z + length rest) (while_same run))
    ∙ ap (λ z. limited n (ma ++ m) z rest) (append_assoc xs (y ∷ []) ys)

pub complete_while : {A : Type 0} {n : ℕ} {p : Symbol → Bool} {r : Reader A} {C : List Symbol → Type 0} {toks : List Symbol} {m : List ℕ} {ys : List A} →
    WhileRun n p r C toks m ys → Complete n (many_while p r) toks m ys C
unfolding many_while while_onto
complete_while {toks = toks} run = record { same = while_same run; reads = λ rest c. while_run run (length (toks ++ rest)) [] rest c (omega arith) }
