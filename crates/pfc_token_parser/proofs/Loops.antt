-- Loops of the parser against the lists of the readers: items, each behind a token that f takes.
use Rattle.std.proofs.Common.{◌≡◌, ℕ, zero, suc, ◌≤◌, List, [], ◌∷◌, ◌++◌, length, Option, Some, None, Ok, Err, sym, ap, ◌∙◌, subst, arith}
use Rattle.pfc_base.specs.declared.places.Place.{Place}
use Rattle.pfc_base.specs.declared.tokens.Token.{Token}
use Rattle.pfc_tree.specs.Symbols.{Symbol}
use Rattle.pfc_grammar.specs.Reading.{Halt, bad, deep}
use Rattle.pfc_grammar.specs.placed.Reading.{Reader, Outcome, pure, bind, then_read, many_turns, many_onto}
use Rattle.pfc_token_parser.specs.declared.tokens.Halt as fault
use Rattle.pfc_token_parser.specs.declared.tokens.Halt.TheVariants.{Unexpected, Deep, Memory}
use Rattle.pfc_token_parser.specs.Giving.{Halts, taken}
use Rattle.pfc_token_parser.proofs.Branches.{branch_taken, branch_not_taken, taken_shorter}

-- What comes of a list from here, where xs are read and ts are left: the outcome of the whole loop. The turns that are left are
-- enough for the tokens.
pub record Turning {O A : Type 0} (f : Symbol → Option O) (g : O × Place → Reader A) (xs : List A) (ts : List Token) (out : Outcome (List A)) : Type 0 where
  pub turns : ℕ
  pub enough : length ts ≤ turns
  pub gives : many_turns turns xs f g ts ≡ out

pub turning_begins : {O A : Type 0} (f : Symbol → Option O) (g : O × Place → Reader A) (xs ys : List A) (ts : List Token) (out : Outcome (List A)) →
    ys ≡ xs → out ≡ many_onto xs f g ts → Turning f g ys ts out
unfolding many_onto
turning_begins f g xs ys ts out e k = record { turns = length ts; enough = omega arith; gives = ap (λ zs. many_turns (length ts) zs f g ts) e ∙ sym k }

-- a token that is taken and an item behind it
goes : {O A : Type 0} (f : Symbol → Option O) (g : O × Place → Reader A) (xs : List A) (x : A) (ts more rest : List Token) (o : O ×
    Place) (out : Outcome (List A)) (k : ℕ) →
    taken f ts ≡ Some (o, more) → g o more ≡ Ok (x, rest) → length rest ≤ length more → length ts ≤ k →
    many_turns k xs f g ts ≡ out → Turning f g (xs ++ x ∷ []) rest out
unfolding many_turns bind
goes f g xs x ts more rest o out zero a b l n t = absurd (omega (arith, taken_shorter f ts more o a))
goes f g xs x ts more rest o out (suc k) a b l n t = record {
  turns = k;
  enough = omega (arith, taken_shorter f ts more o a);
  gives = ap (λ w. then_read w (λ y. many_turns k (xs ++ y ∷ []) f g)) (sym b) ∙
      sym (branch_taken f (λ o. bind (g o) (λ y. many_turns k (xs ++ y ∷ []) f g)) (pure xs) ts more o a) ∙ t;
}

pub turning_goes : {O A : Type 0} (f : Symbol → Option O) (g : O × Place → Reader A) (xs ys : List A) (x : A) (ts more rest : List Token)
    (o : O × Place) (out : Outcome (List A)) →
    Turning f g xs ts out → taken f ts ≡ Some (o, more) → g o more ≡ Ok (x, rest) → length rest ≤ length more → ys ≡ xs ++ x ∷ [] → Turning f g ys rest out
turning_goes f g xs ys x ts more rest o out t a b l e =
    subst (λ zs. Turning f g zs rest out) (sym e) (goes f g xs x ts more rest o out t.turns a b l t.enough t.gives)

-- the end, where no token is taken
ends : {O A : Type 0} (f : Symbol → Option O) (g : O × Place → Reader A) (xs : List A) (ts : List Token) (out : Outcome (List A)) (k : ℕ) →
    taken f ts ≡ None → many_turns k xs f g ts ≡ out → out ≡ Ok (xs, ts)
unfolding many_turns pure
ends f g xs ts out zero a t = sym t
ends f g xs ts out (suc k) a t = sym t ∙ branch_not_taken f (λ o. bind (g o) (λ y. many_turns k (xs ++ y ∷ []) f g)) (pure xs) ts a

pub turning_ends : {O A : Type 0} (f : Symbol → Option O) (g : O × Place → Reader A) (xs : List A) (ts : List Token) (out : Outcome (List A)) →
    Turning f g xs ts out → taken f ts ≡ None → out ≡ Ok (xs, ts)
turning_ends f g xs ts out t a = ends f g xs ts out t.turns a t.gives

-- an item that halts
halts : {O A : Type 0} (f : Symbol → Option O) (g : O × Place → Reader A) (xs : List A) (ts more : List Token) (o : O ×
    Place) (h : Halt) (out : Outcome (List A)) (k : ℕ) →
    taken f ts ≡ Some (o, more) → g o more ≡ Err h → length ts ≤ k → many_turns k xs f g ts ≡ out → out ≡ Err h
unfolding many_turns bind
halts f g xs ts more o h out zero a b n t = absurd (omega (arith, taken_shorter f ts more o a))
halts f g xs ts more o h out (suc k) a b n t = sym t ∙ branch_taken f (λ o. bind (g o) (λ y. many_turns k (xs ++ y ∷ []) f g)) (pure xs) ts more o a ∙
    ap (λ w. then_read w (λ y. many_turns k (xs ++ y ∷ []) f g)) b

pub turning_halts : {O A : Type 0} (f : Symbol → Option O) (g : O × Place → Reader A) (xs : List A) (ts more : List Token) (o : O ×
    Place) (h : fault.Halt) (out : Outcome (List A)) →
    Turning f g xs ts out → taken f ts ≡ Some (o, more) → Halts h (g o more) → Halts h out
turning_halts f g xs ts more o (Unexpected n) out t a b = halts f g xs ts more o (bad n) out t.turns a b t.enough t.gives
turning_halts f g xs ts more o (Deep n) out t a b = halts f g xs ts more o (deep n) out t.turns a b t.enough t.gives
turning_halts f g xs ts more o Memory out t a b = tt
