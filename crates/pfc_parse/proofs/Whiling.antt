-- Loops of the parser against the lists of the readers: items as long as the first token is one that p is true of.
use Rattle.std.proofs.Common.{◌≡◌, ℕ, zero, suc, ◌≤◌, ◌<◌, List, [], ◌∷◌, ◌++◌, length, Bool, true, false, Ok, Err, sym, ap, ◌∙◌, subst, arith}
use Rattle.pfc_base.specs.declared.tokens.Token.{Token}
use Rattle.pfc_tree.specs.Symbols.{Symbol}
use Rattle.pfc_grammar.specs.Reading.{Halt, bad, deep}
use Rattle.pfc_grammar.specs.placed.Reading.{Reader, Outcome, pure, bind, then_read, while_turns, while_onto}
use Rattle.pfc_token_parser.specs.declared.tokens.Halt as fault
use Rattle.pfc_token_parser.specs.declared.tokens.Halt.TheVariants.{Unexpected, Deep, Memory}
use Rattle.pfc_token_parser.specs.Giving.{Halts, sees}
use Rattle.pfc_token_parser.proofs.Branches.{choose_seen, choose_not_seen}

-- What comes of a list from here, where xs are read and ts are left: the outcome of the whole loop. The turns that are left are
-- enough for the tokens.
pub record Whiling {A : Type 0} (p : Symbol → Bool) (r : Reader A) (xs : List A) (ts : List Token) (out : Outcome (List A)) : Type 0 where
  pub turns : ℕ
  pub enough : length ts ≤ turns
  pub gives : while_turns turns xs p r ts ≡ out

pub whiling_begins : {A : Type 0} (p : Symbol → Bool) (r : Reader A) (xs ys : List A) (ts : List Token) (out : Outcome (List A)) →
    ys ≡ xs → out ≡ while_onto xs p r ts → Whiling p r ys ts out
unfolding while_onto
whiling_begins p r xs ys ts out e k = record { turns = length ts; enough = omega arith; gives = ap (λ zs. while_turns (length ts) zs p r ts) e ∙ sym k }

-- the end, where the first token begins no item
ends : {A : Type 0} (p : Symbol → Bool) (r : Reader A) (xs : List A) (ts : List Token) (out : Outcome (List A)) (k : ℕ) →
    sees p ts ≡ false → while_turns k xs p r ts ≡ out → out ≡ Ok (xs, ts)
unfolding while_turns pure
ends p r xs ts out zero a t = sym t
ends p r xs ts out (suc k) a t = sym t ∙ choose_not_seen p (bind r (λ x. while_turns k (xs ++ x ∷ []) p r)) (pure xs) ts a

pub whiling_ends : {A : Type 0} (p : Symbol → Bool) (r : Reader A) (xs : List A) (ts : List Token) (out : Outcome (List A)) →
    Whiling p r xs ts out → sees p ts ≡ false → out ≡ Ok (xs, ts)
whiling_ends p r xs ts out t a = ends p r xs ts out t.turns a t.gives

-- an item
item : {A : Type 0} (p : Symbol → Bool) (r : Reader A) (xs : List A) (ts : List Token) (out : Outcome (List A)) (k : ℕ) →
    sees p ts ≡ true → while_turns (suc k) xs p r ts ≡ out → then_read (r ts) (λ x. while_turns k (xs ++ x ∷ []) p r) ≡ out
unfolding while_turns bind
item p r xs ts out k a t = sym (choose_seen p (bind r (λ x. while_turns k (xs ++ x ∷ []) p r)) (pure xs) ts a) ∙ t

-- a list that is not empty
seen_some : (p : Symbol → Bool) (ts : List Token) → sees p ts ≡ true → 0 < length ts
seen_some p [] e = cc
seen_some p (t ∷ ts) e = omega arith

goes : {A : Type 0} (p : Symbol → Bool) (r : Reader A) (xs : List A) (x : A) (ts rest : List Token) (out : Outcome (List A)) (k : ℕ) →
    sees p ts ≡ true → r ts ≡ Ok (x, rest) → length rest < length ts → length ts ≤ k → while_turns k xs p r ts ≡ out → Whiling p r (xs ++ x ∷ []) rest out
goes p r xs x ts rest out zero a b l n t = absurd (omega arith)
goes p r xs x ts rest out (suc k) a b l n t = record {
  turns = k;
  enough = omega arith;
  gives = ap (λ w. then_read w (λ y. while_turns k (xs ++ y ∷ []) p r)) (sym b) ∙ item p r xs ts out k a t;
}

pub whiling_goes : {A : Type 0} (p : Symbol → Bool) (r : Reader A) (xs ys : List A) (x : A) (ts rest : List Token) (out : Outcome (List A)) →
    Whiling p r xs ts out → sees p ts ≡ true → r ts ≡ Ok (x, rest) → length rest < length ts → ys ≡ xs ++ x ∷ [] → Whiling p r ys rest out
whiling_goes p r xs ys x ts rest out t a b l e = subst (λ zs. Whiling p r zs rest out) (sym e) (goes p r xs x ts rest out t.turns a b l t.enough t.gives)

-- an item that halts
halts : {A : Type 0} (p : Symbol → Bool) (r : Reader A) (xs : List A) (ts : List Token) (h : Halt) (out : Outcome (List A)) (k : ℕ) →
    sees p ts ≡ true → r ts ≡ Err h → length ts ≤ k → while_turns k xs p r ts ≡ out → out ≡ Err h
halts p r xs ts h out zero a b n t = absurd (omega (arith, seen_some p ts a))
halts p r xs ts h out (suc k) a b n t = sym (item p r xs ts out k a t) ∙ ap (λ w. then_read w (λ y. while_turns k (xs ++ y ∷ []) p r)) b

pub whiling_halts : {A : Type 0} (p : Symbol → Bool) (r : Reader A) (xs : List A) (ts : List Token) (h : fault.Halt) (out : Outcome (List A)) →
    Whiling p r xs ts out → sees p ts ≡ true → Halts h (r ts) → Halts h out
whiling_halts p r xs ts (Unexpected n) out t a b = halts p r xs ts (bad n) out t.turns a b t.enough t.gives
whiling_halts p r xs ts (Deep n) out t a b = halts p r xs ts (deep n) out t.turns a b t.enough t.gives
whiling_halts p r xs ts Memory out t a b = tt
