-- Loops of the parser against the lists of the readers: items, each behind a token that f takes, and perhaps one more such
-- token before the token, one that p is true of, that ends the list.
use Rattle.std.proofs.Common.{◌≡◌, ℕ, zero, suc, ◌≤◌, List, [], ◌∷◌, ◌++◌, length, Bool, true, false, Option, Some, None, Ok, Err, sym, ap, ◌∙◌, subst, arith}
use Rattle.pfc_base.specs.declared.places.Place.{Place}
use Rattle.pfc_base.specs.declared.tokens.Token.{Token}
use Rattle.pfc_tree.specs.Symbols.{Symbol}
use Rattle.pfc_grammar.specs.Reading.{Halt, bad, deep}
use Rattle.pfc_grammar.specs.placed.Reading.{Reader, Outcome, pure, bind, then_read, choose, end_turns, end_onto}
use Rattle.pfc_token_parser.specs.declared.tokens.Halt as fault
use Rattle.pfc_token_parser.specs.declared.tokens.Halt.TheVariants.{Unexpected, Deep, Memory}
use Rattle.pfc_token_parser.specs.Giving.{Halts, taken, sees}
use Rattle.pfc_token_parser.proofs.Branches.{branch_taken, branch_not_taken, taken_shorter, choose_seen, choose_not_seen}

-- What comes of a list from here, where xs are read and ts are left: the outcome of the whole loop. The turns that are left are
-- enough for the tokens.
pub record Ending {O A : Type 0} (f : Symbol → Option O) (p : Symbol → Bool) (r : Reader A) (xs : List A) (ts : List Token)
    (out : Outcome (List A × Bool)) : Type 0 where
  pub turns : ℕ
  pub enough : length ts ≤ turns
  pub gives : end_turns turns xs f p r ts ≡ out

pub ending_begins : {O A : Type 0} (f : Symbol → Option O) (p : Symbol → Bool) (r : Reader A) (xs ys : List A)
    (ts : List Token) (out : Outcome (List A × Bool)) →
    ys ≡ xs → out ≡ end_onto xs f p r ts → Ending f p r ys ts out
unfolding end_onto
ending_begins f p r xs ys ts out e k = record { turns = length ts; enough = omega arith; gives = ap (λ zs. end_turns (length ts) zs f p r ts) e ∙ sym k }

-- where no token is taken
stays : {O A : Type 0} (f : Symbol → Option O) (p : Symbol → Bool) (r : Reader A) (xs : List A) (ts : List Token) (out : Outcome (List A × Bool)) (k : ℕ) →
    taken f ts ≡ None → end_turns k xs f p r ts ≡ out → out ≡ Ok ((xs, false), ts)
unfolding end_turns pure
stays f p r xs ts out zero a t = sym t
stays f p r xs ts out (suc k) a t = sym t ∙
    branch_not_taken f (λ o. choose p (pure (xs, true)) (bind r (λ x. end_turns k (xs ++ x ∷ []) f p r))) (pure (xs, false)) ts a

pub ending_ends : {O A : Type 0} (f : Symbol → Option O) (p : Symbol → Bool) (r : Reader A) (xs : List A) (ts : List Token) (out : Outcome (List A × Bool)) →
    Ending f p r xs ts out → taken f ts ≡ None → out ≡ Ok ((xs, false), ts)
ending_ends f p r xs ts out t a = stays f p r xs ts out t.turns a t.gives

-- behind a token that is taken
behind : {O A : Type 0} (f : Symbol → Option O) (p : Symbol → Bool) (r : Reader A) (xs : List A) (ts more : List Token) (o : O × Place) (k : ℕ) →
    taken f ts ≡ Some (o, more) → end_turns (suc k) xs f p r ts ≡ choose p (pure (xs, true)) (bind r (λ x. end_turns k (xs ++ x ∷ []) f p r)) more
unfolding end_turns
behind f p r xs ts more o k a = branch_taken f (λ o. choose p (pure (xs, true)) (bind r (λ x. end_turns k (xs ++ x ∷ []) f p r))) (pure (xs, false)) ts more o a

-- a token that is taken, and behind it the one that ends the list
closes : {O A : Type 0} (f : Symbol → Option O) (p : Symbol → Bool) (r : Reader A) (xs : List A) (ts more : List Token) (o : O ×
    Place) (out : Outcome (List A × Bool)) (k : ℕ) →
    taken f ts ≡ Some (o, more) → sees p more ≡ true → length ts ≤ k → end_turns k xs f p r ts ≡ out → out ≡ Ok ((xs, true), more)
unfolding pure
closes f p r xs ts more o out zero a b n t = absurd (omega (arith, taken_shorter f ts more o a))
closes f p r xs ts more o out (suc k) a b n t = sym t ∙ behind f p r xs ts more o k a ∙
    choose_seen p (pure (xs, true)) (bind r (λ x. end_turns k (xs ++ x ∷ []) f p r)) more b

pub ending_closes : {O A : Type 0} (f : Symbol → Option O) (p : Symbol → Bool) (r : Reader A) (xs : List A) (ts more : List Token) (o : O ×
    Place) (out : Outcome (List A × Bool)) →
    Ending f p r xs ts out → taken f ts ≡ Some (o, more) → sees p more ≡ true → out ≡ Ok ((xs, true), more)
ending_closes f p r xs ts more o out t a b = closes f p r xs ts more o out t.turns a b t.enough t.gives

-- a token that is taken and an item behind it
item : {O A : Type 0} (f : Symbol → Option O) (p : Symbol → Bool) (r : Reader A) (xs : List A) (ts more : List Token) (o : O ×
    Place) (out : Outcome (List A × Bool)) (k : ℕ) →
    taken f ts ≡ Some (o, more) → sees p more ≡ false → end_turns (suc k) xs f p r ts ≡ out → then_read (r more) (λ x. end_turns k (xs ++ x ∷ []) f p r) ≡ out
unfolding bind
item f p r xs ts more o out k a b t = sym (choose_not_seen p (pure (xs, true)) (bind r (λ x. end_turns k (xs ++ x ∷ []) f p r)) more b) ∙
    sym (behind f p r xs ts more o k a) ∙ t

goes : {O A : Type 0} (f : Symbol → Option O) (p : Symbol → Bool) (r : Reader A) (xs : List A) (x : A) (ts more rest : List Token) (o : O ×
    Place) (out : Outcome (List A × Bool)) (k : ℕ) →
    taken f ts ≡ Some (o, more) → sees p more ≡ false → r more ≡ Ok (x, rest) → length rest ≤ length more → length ts ≤ k →
    end_turns k xs f p r ts ≡ out → Ending f p r (xs ++ x ∷ []) rest out
goes f p r xs x ts more rest o out zero a b c l n t = absurd (omega (arith, taken_shorter f ts more o a))
goes f p r xs x ts more rest o out (suc k) a b c l n t = record {
  turns = k;
  enough = omega (arith, taken_shorter f ts more o a);
  gives = ap (λ w. then_read w (λ y. end_turns k (xs ++ y ∷ []) f p r)) (sym c) ∙ item f p r xs ts more o out k a b t;
}

pub ending_goes : {O A : Type 0} (f : Symbol → Option O) (p : Symbol → Bool) (r : Reader A) (xs ys : List A) (x : A) (ts more rest : List Token) (o : O ×
    Place) (out : Outcome (List A × Bool)) →
    Ending f p r xs ts out → taken f ts ≡ Some (o, more) → sees p more ≡ false → r more ≡ Ok (x, rest) → length rest ≤ length more →
    ys ≡ xs ++ x ∷ [] → Ending f p r ys rest out
ending_goes f p r xs ys x ts more rest o out t a b c l e =
    subst (λ zs. Ending f p r zs rest out) (sym e) (goes f p r xs x ts more rest o out t.turns a b c l t.enough t.gives)

-- an item that halts
halts : {O A : Type 0} (f : Symbol → Option O) (p : Symbol → Bool) (r : Reader A) (xs : List A) (ts more : List Token) (o : O ×
    Place) (h : Halt) (out : Outcome (List A × Bool)) (k : ℕ) →
    taken f ts ≡ Some (o, more) → sees p more ≡ false → r more ≡ Err h → length ts ≤ k → end_turns k xs f p r ts ≡ out → out ≡ Err h
halts f p r xs ts more o h out zero a b c n t = absurd (omega (arith, taken_shorter f ts more o a))
halts f p r xs ts more o h out (suc k) a b c n t = sym (item f p r xs ts more o out k a b t) ∙ ap (λ w. then_read w (λ y. end_turns k (xs ++ y ∷ []) f p r)) c

pub ending_halts : {O A : Type 0} (f : Symbol → Option O) (p : Symbol → Bool) (r : Reader A) (xs : List A) (ts more : List Token) (o : O ×
    Place) (h : fault.Halt) (out : Outcome (List A × Bool)) →
    Ending f p r xs ts out → taken f ts ≡ Some (o, more) → sees p more ≡ false → Halts h (r more) → Halts h out
ending_halts f p r xs ts more o (Unexpected n) out t a b c = halts f p r xs ts more o (bad n) out t.turns a b c t.enough t.gives
ending_halts f p r xs ts more o (Deep n) out t a b c = halts f p r xs ts more o (deep n) out t.turns a b c t.enough t.gives
ending_halts f p r xs ts more o Memory out t a b c = tt
