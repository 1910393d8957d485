-- Loops look no further than at the symbol on which they end, whatever the number of turns that is great enough.
use Rattle.std.proofs.Common.{◌≡◌, ℕ, zero, suc, ◌+◌, ◌≤◌, List, [], ◌∷◌, ◌++◌, length, Bool, true, false, Option, Some, None, Ok, Err, refl, ap, subst, ◌∙◌}
use Rattle.std.proofs.Common.{length-append, arith}
use Rattle.pfc_tree.specs.Symbols.{Symbol}
use Rattle.pfc_grammar.specs.Reading.{Halt, Outcome, Reader, pure, then_read, bind, branch_at, branch, choose_at, choose, many_turns, many_onto, many, some_of}
use Rattle.pfc_grammar.specs.Reading.{list_of, end_turns, end_onto, list_end, while_turns, while_onto, many_while}
use Rattle.pfc_grammar.proofs.Local.{head_of, same_heads, EndsOk, Ends, Gives, Local, joined_ends, ends_same, ends_halted, not_taken, untaken, has_test, tested}
use Rattle.pfc_grammar.proofs.Local.{local_bind, local_branch, local_stop}

few : (u v : List Symbol) (s : Symbol) (n : ℕ) (rest : List Symbol) → u ≡ v ++ rest → length (s ∷ u) ≤ suc n → length rest ≤ n
few u v s n rest e h =
    let k : length u ≡ length v + length rest = ap length e ∙ length-append v rest in
    let h' : suc (length u) ≤ suc n = h in
    omega arith

module _ {A O : Type 0} (f : Symbol → Option O) (g : O → Reader A) (h : (o : O) → Local (g o)) where
  Turning : List A → List Symbol → Outcome (List A) → Type 0
  Turning xs ss o = (k : ℕ) → length ss ≤ k → many_turns k xs f g ss ≡ o

  turned : (xs : List A) (s : Symbol) (o : O) (x : A) (u : List Symbol) (l : List Symbol) (c : Outcome (List A)) → f s ≡ Some o → g o (u ++ l) ≡ Ok (x, l) →
      Turning (xs ++ x ∷ []) l c → Turning xs (s ∷ (u ++ l)) c
  unfolding Turning many_turns branch bind
  turned xs s o x u l c e r t zero n = absurd (omega (arith, n))
  turned xs s o x u l c e r t (suc k) n =
      ap (λ z. branch_at z (λ o'. bind (g o') (λ y. many_turns k (xs ++ y ∷ []) f g)) (pure xs) s (u ++ l)) e
      ∙ ap (λ z. then_read z (λ y. many_turns k (xs ++ y ∷ []) f g)) r ∙ t k (few (u ++ l) u s k l refl n)

  failed : (xs : List A) (s : Symbol) (o : O) (l : List Symbol) (q : Halt) → f s ≡ Some o → g o l ≡ Err q → Turning xs (s ∷ l) (Err q)
  unfolding Turning many_turns branch bind
  failed xs s o l q e r zero n = absurd (omega (arith, n))
  failed xs s o l q e r (suc k) n =
      ap (λ z. branch_at z (λ o'. bind (g o') (λ y. many_turns k (xs ++ y ∷ []) f g)) (pure xs) s l) e ∙
      ap (λ z. then_read z (λ y. many_turns k (xs ++ y ∷ []) f g)) r

  ended : (xs : List A) (l : List Symbol) → not_taken f (head_of l) → Turning xs l (Ok (xs, l))
  unfolding Turning many_turns pure
  ended xs l e zero n = refl
  ended xs l e (suc k) n = untaken f (λ o. bind (g o) (λ y. many_turns k (xs ++ y ∷ []) f g)) (pure xs) l e

  ends_here : (xs : List A) (ss : List Symbol) → not_taken f (head_of ss) → EndsOk (Turning xs) ss xs ss
  ends_here xs ss e = record { read = []; splits = refl; again = λ l a. ended xs l (subst (not_taken f) a e) }

  loop_ends : (k : ℕ) (xs : List A) (ss : List Symbol) → length ss ≤ k → Ends (Turning xs) ss (many_turns k xs f g ss)
  unfolding many_turns branch bind pure
  loop_ends zero xs [] n = ends_here xs [] tt
  loop_ends zero xs (s ∷ ss) n = absurd (omega (arith, n))
  loop_ends (suc k) xs [] n = ends_here xs [] tt
  loop_ends (suc k) xs (s ∷ ss) n = at (λ x l q. loop_ends k (xs ++ x ∷ []) l q) (f s) refl
    where
      item : (o : O) → f s ≡ Some o → (c : Outcome A) → Ends (Gives (g o)) ss c → ((x : A) (l : List Symbol) → length l ≤ k →
          Ends (Turning (xs ++ x ∷ [])) l (many_turns k (xs ++ x ∷ []) f g l)) →
          Ends (Turning xs) (s ∷ ss) (then_read c (λ x. many_turns k (xs ++ x ∷ []) f g))
      item o e (Ok p) w r = joined_ends (Turning (xs ++ p.0 ∷ [])) (Turning xs) (s ∷ w.read) (s ∷ ss) p.1
          (many_turns k (xs ++ p.0 ∷ []) f g p.1) (ap (λ z. s ∷ z) w.splits)
          (λ l a c q. turned xs s o p.0 w.read l c e (w.again l a) q) (r p.0 p.1 (few ss w.read s k p.1 w.splits n))
      item o e (Err q) w r = ends_halted (Gives (g o)) (Turning xs) (s ∷ []) (s ∷ ss) ss q refl (λ l a c t. failed xs s o l c e t) w

      at : ((x : A) (l : List Symbol) → length l ≤ k → Ends (Turning (xs ++ x ∷ [])) l (many_turns k (xs ++ x ∷ []) f g l)) → (o : Option O) → f s ≡ o →
          Ends (Turning xs) (s ∷ ss) (branch_at o (λ o'. bind (g o') (λ x. many_turns k (xs ++ x ∷ []) f g)) (pure xs) s ss)
      at r (Some o) e = item o e (g o ss) ((h o).ends ss) r
      at r None e = ends_here xs (s ∷ ss) e

  pub local_onto : (xs : List A) → Local (many_onto xs f g)
  unfolding many_onto Turning
  local_onto xs = record {
    ends = λ ss. ends_same (Turning xs) (Gives (many_onto xs f g)) (λ o. Unit {0}) ss (many_turns (length ss) xs f g ss) tt
        (λ l n c q. q (length l) (omega arith)) (loop_ends (length ss) xs ss (omega arith));
  }

pub local_many : {A O : Type 0} (f : Symbol → Option O) {g : O → Reader A} → ((o : O) → Local (g o)) → Local (many f g)
unfolding many
local_many f {g = g} h = local_onto f g h []

pub local_list : {A O : Type 0} (f : Symbol → Option O) {r : Reader A} → Local r → Local (list_of f r)
unfolding list_of
local_list f {r = r} h = local_bind h (λ x. local_onto f (λ o. r) (λ o. h) (x ∷ []))

pub local_some : {A O : Type 0} (f : Symbol → Option O) {g : O → Reader A} → ((o : O) → Local (g o)) → Local (some_of f g)
unfolding some_of
local_some f {g = g} h = local_branch f (λ o. local_bind (h o) (λ x. local_onto f g h (x ∷ []))) local_stop

-- Lists with an optional last separator.
module _ {A O : Type 0} (f : Symbol → Option O) (p : Symbol → Bool) (r : Reader A) (h : Local r) where
  EndTurning : List A → List Symbol → Outcome (List A × Bool) → Type 0
  EndTurning xs ss o = (k : ℕ) → length ss ≤ k → end_turns k xs f p r ss ≡ o

  -- behind a separator
  Behind : List A → List Symbol → Outcome (List A × Bool) → Type 0
  Behind xs ss o = (k : ℕ) → length ss ≤ k → choose p (pure (xs, true)) (bind r (λ x. end_turns k (xs ++ x ∷ []) f p r)) ss ≡ o

  end_taken : (xs : List A) (s : Symbol) (o : O) (l : List Symbol) (c : Outcome (List A × Bool)) → f s ≡ Some o → Behind xs l c → EndTurning xs (s ∷ l) c
  unfolding EndTurning Behind end_turns branch
  end_taken xs s o l c e t zero n = absurd (omega (arith, n))
  end_taken xs s o l c e t (suc k) n =
      ap (λ z. branch_at z (λ o'. choose p (pure (xs, true)) (bind r (λ y. end_turns k (xs ++ y ∷ []) f p r))) (pure (xs, false)) s l) e ∙
      t k (few l [] s k l refl n)

  end_ended : (xs : List A) (l : List Symbol) → not_taken f (head_of l) → EndTurning xs l (Ok ((xs, false), l))
  unfolding EndTurning end_turns pure
  end_ended xs l e zero n = refl
  end_ended xs l e (suc k) n = untaken f (λ o. choose p (pure (xs, true)) (bind r (λ y. end_turns k (xs ++ y ∷ []) f p r))) (pure (xs, false)) l e

  end_closed : (xs : List A) (l : List Symbol) → has_test p true (head_of l) → Behind xs l (Ok ((xs, true), l))
  unfolding Behind pure
  end_closed xs l e k n = tested p true (pure (xs, true)) (bind r (λ y. end_turns k (xs ++ y ∷ []) f p r)) l e

  end_turned : (xs : List A) (x : A) (u : List Symbol) (l : List Symbol) (c : Outcome (List A × Bool)) → has_test p false (head_of (u ++ l)) →
      r (u ++ l) ≡ Ok (x, l) → EndTurning (xs ++ x ∷ []) l c → Behind xs (u ++ l) c
  unfolding Behind EndTurning bind
  end_turned xs x u l c e q t k n = tested p false (pure (xs, true)) (bind r (λ y. end_turns k (xs ++ y ∷ []) f p r)) (u ++ l) e ∙
      ap (λ z. then_read z (λ y. end_turns k (xs ++ y ∷ []) f p r)) q ∙ t k (omega (arith, length-append u l, n))

  end_failed : (xs : List A) (l : List Symbol) (q : Halt) → has_test p false (head_of l) → r l ≡ Err q → Behind xs l (Err q)
  unfolding Behind bind
  end_failed xs l q e w k n = tested p false (pure (xs, true)) (bind r (λ y. end_turns k (xs ++ y ∷ []) f p r)) l e ∙
      ap (λ z. then_read z (λ y. end_turns k (xs ++ y ∷ []) f p r)) w

  end_here : (xs : List A) (ss : List Symbol) → not_taken f (head_of ss) → EndsOk (EndTurning xs) ss (xs, false) ss
  end_here xs ss e = record { read = []; splits = refl; again = λ l a. end_ended xs l (subst (not_taken f) a e) }

  end_loop : (k : ℕ) (xs : List A) (ss : List Symbol) → length ss ≤ k → Ends (EndTurning xs) ss (end_turns k xs f p r ss)
  unfolding end_turns branch bind pure choose
  end_loop zero xs [] n = end_here xs [] tt
  end_loop zero xs (s ∷ ss) n = absurd (omega (arith, n))
  end_loop (suc k) xs [] n = end_here xs [] tt
  end_loop (suc k) xs (s ∷ ss) n = at (λ x l q. end_loop k (xs ++ x ∷ []) l q) (f s) refl
    where
      item : (us : List Symbol) → length us ≤ k → has_test p false (head_of us) → (c : Outcome A) → Ends (Gives r) us c →
          ((x : A) (l : List Symbol) → length l ≤ k → Ends (EndTurning (xs ++ x ∷ [])) l (end_turns k (xs ++ x ∷ []) f p r l)) →
          Ends (Behind xs) us (then_read c (λ x. end_turns k (xs ++ x ∷ []) f p r))
      item us m e (Ok q) w more = joined_ends (EndTurning (xs ++ q.0 ∷ [])) (Behind xs) w.read us q.1 (end_turns k (xs ++ q.0 ∷ []) f p r q.1) w.splits
          (λ l a c y. end_turned xs q.0 w.read l c (subst (has_test p false) (ap head_of w.splits ∙ same_heads w.read q.1 l a) e) (w.again l a) y)
          (more q.0 q.1 (omega (arith, length-append w.read q.1, ap length w.splits)))
      item us m e (Err b) w more = ends_halted (Gives r) (Behind xs) [] us us b refl (λ l a c t. end_failed xs l c (subst (has_test p false) a e) t) w

      tests : (us : List Symbol) → length us ≤ k → ((x : A) (l : List Symbol) → length l ≤ k →
          Ends (EndTurning (xs ++ x ∷ [])) l (end_turns k (xs ++ x ∷ []) f p r l)) →
          Ends (Behind xs) us (choose p (pure (xs, true)) (bind r (λ x. end_turns k (xs ++ x ∷ []) f p r)) us)
      tests [] m more = item [] m refl (r []) (h.ends []) more
      tests (u ∷ us) m more = which (p u) refl
        where
          which : (b : Bool) → p u ≡ b → Ends (Behind xs) (u ∷ us) (choose_at b (pure (xs, true)) (bind r (λ x. end_turns k (xs ++ x ∷ []) f p r)) (u ∷ us))
          which true e = record { read = []; splits = refl; again = λ l a. end_closed xs l (subst (has_test p true) a e) }
          which false e = item (u ∷ us) m e (r (u ∷ us)) (h.ends (u ∷ us)) more

      at : ((x : A) (l : List Symbol) → length l ≤ k → Ends (EndTurning (xs ++ x ∷ [])) l (end_turns k (xs ++ x ∷ []) f p r l)) → (o : Option O) → f s ≡ o →
          Ends (EndTurning xs) (s ∷ ss)
          (branch_at o (λ o'. choose p (pure (xs, true)) (bind r (λ x. end_turns k (xs ++ x ∷ []) f p r))) (pure (xs, false)) s ss)
      at more (Some o) e = joined_ends (Behind xs) (EndTurning xs) (s ∷ []) (s ∷ ss) ss
          (choose p (pure (xs, true)) (bind r (λ x. end_turns k (xs ++ x ∷ []) f p r)) ss) refl (λ l a c q. end_taken xs s o l c e q)
          (tests ss (few ss [] s k ss refl n) more)
      at more None e = end_here xs (s ∷ ss) e

  pub local_end_onto : (xs : List A) → Local (end_onto xs f p r)
  unfolding end_onto EndTurning
  local_end_onto xs = record {
    ends = λ ss. ends_same (EndTurning xs) (Gives (end_onto xs f p r)) (λ o. Unit {0}) ss (end_turns (length ss) xs f p r ss) tt
        (λ l n c q. q (length l) (omega arith)) (end_loop (length ss) xs ss (omega arith));
  }

pub local_list_end : {A O : Type 0} (f : Symbol → Option O) (p : Symbol → Bool) {r : Reader A} → Local r → Local (list_end f p r)
unfolding list_end
local_list_end f p {r = r} h = local_bind h (λ x. local_end_onto f p r h (x ∷ []))

-- Items as long as one begins. Each takes a symbol.
module _ {A : Type 0} (p : Symbol → Bool) (r : Reader A) (h : Local r)
    (takes : (ss : List Symbol) (x : A) (rest : List Symbol) → r ss ≡ Ok (x, rest) → suc (length rest) ≤ length ss) where
  WhileTurning : List A → List Symbol → Outcome (List A) → Type 0
  WhileTurning xs ss o = (k : ℕ) → length ss ≤ k → while_turns k xs p r ss ≡ o

  while_turned : (xs : List A) (x : A) (u : List Symbol) (l : List Symbol) (c : Outcome (List A)) → has_test p true (head_of (u ++ l)) →
      r (u ++ l) ≡ Ok (x, l) → WhileTurning (xs ++ x ∷ []) l c → WhileTurning xs (u ++ l) c
  unfolding WhileTurning while_turns bind
  while_turned xs x u l c e q t zero n = absurd (omega (arith, n, takes (u ++ l) x l q))
  while_turned xs x u l c e q t (suc k) n = tested p true (bind r (λ y. while_turns k (xs ++ y ∷ []) p r)) (pure xs) (u ++ l) e ∙
      ap (λ z. then_read z (λ y. while_turns k (xs ++ y ∷ []) p r)) q ∙ t k (omega (arith, n, takes (u ++ l) x l q))

  while_failed : (xs : List A) (l : List Symbol) (q : Halt) → has_test p true (head_of l) → r l ≡ Err q → WhileTurning xs l (Err q)
  unfolding WhileTurning while_turns bind
  while_failed xs [] q e w k n = absurd (let e' : true ≡ false = e in cc)
  while_failed xs (s ∷ l) q e w zero n = absurd (omega (arith, n))
  while_failed xs (s ∷ l) q e w (suc k) n = tested p true (bind r (λ y. while_turns k (xs ++ y ∷ []) p r)) (pure xs) (s ∷ l) e ∙
      ap (λ z. then_read z (λ y. while_turns k (xs ++ y ∷ []) p r)) w

  while_ended : (xs : List A) (l : List Symbol) → has_test p false (head_of l) → WhileTurning xs l (Ok (xs, l))
  unfolding WhileTurning while_turns pure
  while_ended xs l e zero n = refl
  while_ended xs l e (suc k) n = tested p false (bind r (λ y. while_turns k (xs ++ y ∷ []) p r)) (pure xs) l e

  while_here : (xs : List A) (ss : List Symbol) → has_test p false (head_of ss) → EndsOk (WhileTurning xs) ss xs ss
  while_here xs ss e = record { read = []; splits = refl; again = λ l a. while_ended xs l (subst (has_test p false) a e) }

  while_loop : (k : ℕ) (xs : List A) (ss : List Symbol) → length ss ≤ k → Ends (WhileTurning xs) ss (while_turns k xs p r ss)
  unfolding while_turns bind pure choose
  while_loop zero xs [] n = while_here xs [] refl
  while_loop zero xs (s ∷ ss) n = absurd (omega (arith, n))
  while_loop (suc k) xs [] n = while_here xs [] refl
  while_loop (suc k) xs (s ∷ ss) n = at (λ x l q. while_loop k (xs ++ x ∷ []) l q) (p s) refl
    where
      item : p s ≡ true → (c : Outcome A) → r (s ∷ ss) ≡ c → Ends (Gives r) (s ∷ ss) c → ((x : A) (l : List Symbol) → length l ≤ k →
          Ends (WhileTurning (xs ++ x ∷ [])) l (while_turns k (xs ++ x ∷ []) p r l)) →
          Ends (WhileTurning xs) (s ∷ ss) (then_read c (λ x. while_turns k (xs ++ x ∷ []) p r))
      item e (Ok q) y w more = joined_ends (WhileTurning (xs ++ q.0 ∷ [])) (WhileTurning xs) w.read (s ∷ ss) q.1
          (while_turns k (xs ++ q.0 ∷ []) p r q.1) w.splits
          (λ l a c z. while_turned xs q.0 w.read l c (subst (has_test p true) (ap head_of w.splits ∙ same_heads w.read q.1 l a) e) (w.again l a) z)
          (more q.0 q.1 (omega (arith, takes (s ∷ ss) q.0 q.1 y, n)))
      item e (Err b) y w more =
          ends_halted (Gives r) (WhileTurning xs) [] (s ∷ ss) (s ∷ ss) b refl (λ l a c t. while_failed xs l c (subst (has_test p true) a e) t) w

      at : ((x : A) (l : List Symbol) → length l ≤ k → Ends (WhileTurning (xs ++ x ∷ [])) l (while_turns k (xs ++ x ∷ []) p r l)) → (b : Bool) → p s ≡ b →
          Ends (WhileTurning xs) (s ∷ ss) (choose_at b (bind r (λ x. while_turns k (xs ++ x ∷ []) p r)) (pure xs) (s ∷ ss))
      at more true e = item e (r (s ∷ ss)) refl (h.ends (s ∷ ss)) more
      at more false e = while_here xs (s ∷ ss) e

  pub local_while : Local (many_while p r)
  unfolding many_while while_onto WhileTurning
  local_while = record {
    ends = λ ss. ends_same (WhileTurning []) (Gives (many_while p r)) (λ o. Unit {0}) ss (while_turns (length ss) [] p r ss) tt
        (λ l n c q. q (length l) (omega arith)) (while_loop (length ss) [] ss (omega arith));
  }
