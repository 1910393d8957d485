-- The readers of expressions read lawful expressions.
use Rattle.std.proofs.Common.{◌≡◌, ℕ, zero, suc, ℤ, List, [], ◌∷◌, ◌++◌, Bool, true, false, ◌||◌, Option, Some, None, is_some, nat_eq, ◌⊎◌, inl, inr, refl, sym}
use Rattle.std.proofs.Common.{ap, subst, ◌∙◌, append_assoc, append-nil}
use Rattle.pfc_base.specs.declared.tokens.Kind.TheVariants.{Word, Sign, Name, Number, Literal}
use Rattle.pfc_base.specs.declared.word.TheConstants.{NOT, OR}
use Rattle.pfc_base.specs.declared.sign.TheConstants.{OPEN_PAREN, CLOSE_PAREN, OPEN_BRACKET, CLOSE_BRACKET, COMMA, COLON}
use Rattle.pfc_tree.specs.declared.tree.Sign as plus_or_minus
use Rattle.pfc_tree.specs.declared.tree.AddOp.{AddOp}
use Rattle.pfc_tree.specs.declared.tree.AddOp.TheVariants.{Or}
use Rattle.pfc_tree.specs.declared.tree.MulOp.{MulOp}
use Rattle.pfc_tree.specs.Symbols.{Symbol, Text}
use Rattle.pfc_tree.specs.shapes.Exprs.{ExprShape, TermShape, FactorShape, SelectorShape, ActualShape, plain, related, sum, no_summands, product}
use Rattle.pfc_tree.specs.shapes.Exprs.{no_multipliers, number, literal, negation, paren, applied, desig, index, field, no_selectors, actual, actual_width}
use Rattle.pfc_tree.specs.shapes.Exprs.{no_actuals}
use Rattle.pfc_tree.specs.tokens.Exprs.{sign_symbol, sign_tokens, relation_symbol, add_symbol, mul_symbol, expr_tokens, simple_tokens, summands_tokens}
use Rattle.pfc_tree.specs.tokens.Exprs.{term_tokens, multipliers_tokens, factor_tokens, desig_tokens, selectors_tokens, selector_tokens, exprs_tokens}
use Rattle.pfc_tree.specs.tokens.Exprs.{comma_exprs_tokens, actuals_tokens, comma_actuals_tokens, actual_tokens}
use Rattle.pfc_tree.specs.lawful.Exprs.{IsLawfulExpr, IsLawfulSimple, AreLawfulSummands, IsLawfulTerm, AreLawfulMultipliers, IsLawfulFactor, IsLawfulDesig}
use Rattle.pfc_tree.specs.lawful.Exprs.{AreLawfulSelectors, IsLawfulSelector, AreLawfulIndices, AreLawfulExprs, AreLawfulActuals, IsLawfulActual}
use Rattle.pfc_grammar.specs.Reading.{Reader}
use Rattle.pfc_grammar.specs.Heads.{as_sign, as_name, as_number, as_literal, as_plus_minus, as_add_op, takes, is_word, begins_factor, begins_expr}
use Rattle.pfc_grammar.specs.grammar.Exprs.{exprs_of, selectors_of, actuals_of, multipliers_of, summands_of, selector_behind, desig_behind, desig_with}
use Rattle.pfc_grammar.specs.grammar.Exprs.{actual_with, actuals_with, paren_behind, applied_behind, plain_factor, factor_with, multiplier_behind, term_with}
use Rattle.pfc_grammar.specs.grammar.Exprs.{summand_behind, simple_behind, simple_with, expr_with, no_expr, factor_at, expr_at}
use Rattle.pfc_grammar.proofs.Lists.{none, or-left, or-right, or_cases, flat, separated, Each, Chain}
use Rattle.pfc_grammar.proofs.Sound.{Sound, Goes, here, sound_pure, sound_stop, sound_bind, sound_last, sound_branch, sound_level}
use Rattle.pfc_grammar.proofs.SoundLoops.{sound_bind_behind, sound_each, sound_separated, Filled}
use Rattle.pfc_grammar.proofs.Heads.{sign_is, name_is, number_is, literal_is, plus_minus_is, relation_is, add_op_is, mul_op_is, selector_symbol, selector_is}
use Rattle.pfc_grammar.proofs.Heads.{taken, word_was, sound_on, sound_sign, sound_name, sound_on_word, sound_on_sign}

pub chain_filled : {A : Type 0} (s : Symbol) (X : A → Symbol → Bool) (L : A → Type 0) (xs : List A) → Chain s X L xs → Filled L xs
chain_filled s X L [] h = absurd h
chain_filled s X L (x ∷ []) h = (h, tt)
chain_filled s X L (x ∷ (y ∷ ys)) h = (h.0, chain_filled s X L (y ∷ ys) h.2)

-- What lists of shapes write, and when they are lawful.
comma_exprs_written : (es : List ExprShape) → comma_exprs_tokens (exprs_of es) ≡ flat (λ e. Sign COMMA ∷ expr_tokens e) es
comma_exprs_written [] = refl
comma_exprs_written (e ∷ es) = ap (λ z. (Sign COMMA ∷ expr_tokens e) ++ z) (comma_exprs_written es)

exprs_written : (es : List ExprShape) → exprs_tokens (exprs_of es) ≡ separated (Sign COMMA) expr_tokens es
exprs_written [] = refl
exprs_written (e ∷ es) = ap (λ z. expr_tokens e ++ z) (comma_exprs_written es)

exprs_lawful : (es : List ExprShape) → Each IsLawfulExpr es → AreLawfulExprs (exprs_of es)
exprs_lawful [] l = tt
exprs_lawful (e ∷ es) l = (l.0, exprs_lawful es l.1)

indices_lawful : (es : List ExprShape) → Filled IsLawfulExpr es → AreLawfulIndices (exprs_of es)
indices_lawful [] l = absurd l
indices_lawful (e ∷ es) l = (l.0, exprs_lawful es l.1)

selectors_written : (ss : List SelectorShape) → selectors_tokens (selectors_of ss) ≡ flat selector_tokens ss
selectors_written [] = refl
selectors_written (s ∷ ss) = ap (λ z. selector_tokens s ++ z) (selectors_written ss)

selectors_lawful : (ss : List SelectorShape) → Each IsLawfulSelector ss → AreLawfulSelectors (selectors_of ss)
selectors_lawful [] l = tt
selectors_lawful (s ∷ ss) l = (l.0, selectors_lawful ss l.1)

-- with the sign that closes them
comma_actuals_written : (args : List ActualShape) →
    comma_actuals_tokens (actuals_of args) ≡ flat (λ a. Sign COMMA ∷ actual_tokens a) args ++ (Sign CLOSE_PAREN ∷ [])
comma_actuals_written [] = refl
comma_actuals_written (a ∷ args) = ap (λ z. (Sign COMMA ∷ actual_tokens a) ++ z) (comma_actuals_written args) ∙
    sym (append_assoc (Sign COMMA ∷ actual_tokens a) (flat (λ a'. Sign COMMA ∷ actual_tokens a') args) (Sign CLOSE_PAREN ∷ []))

actuals_written : (args : List ActualShape) → Filled IsLawfulActual args →
    actuals_tokens (actuals_of args) ≡ Sign OPEN_PAREN ∷ (separated (Sign COMMA) actual_tokens args ++ (Sign CLOSE_PAREN ∷ []))
actuals_written [] l = absurd l
actuals_written (a ∷ args) l = ap (λ z. Sign OPEN_PAREN ∷ (actual_tokens a ++ z)) (comma_actuals_written args) ∙
    ap (λ z. Sign OPEN_PAREN ∷ z) (sym (append_assoc (actual_tokens a) (flat (λ a'. Sign COMMA ∷ actual_tokens a') args) (Sign CLOSE_PAREN ∷ [])))

actuals_lawful : (args : List ActualShape) → Each IsLawfulActual args → AreLawfulActuals (actuals_of args)
actuals_lawful [] l = tt
actuals_lawful (a ∷ args) l = (l.0, actuals_lawful args l.1)

filled_actuals_lawful : (args : List ActualShape) → Filled IsLawfulActual args → AreLawfulActuals (actuals_of args)
filled_actuals_lawful [] l = absurd l
filled_actuals_lawful (a ∷ args) l = (l.0, actuals_lawful args l.1)

abbrev multiplier_tokens : MulOp × FactorShape → List Symbol
multiplier_tokens m = mul_symbol m.0 ∷ factor_tokens m.1

multipliers_written : (ms : List (MulOp × FactorShape)) → multipliers_tokens (multipliers_of ms) ≡ flat multiplier_tokens ms
multipliers_written [] = refl
multipliers_written (m ∷ ms) = ap (λ z. multiplier_tokens m ++ z) (multipliers_written ms)

multipliers_lawful : (ms : List (MulOp × FactorShape)) → Each (λ m. IsLawfulFactor m.1) ms → AreLawfulMultipliers (multipliers_of ms)
multipliers_lawful [] l = tt
multipliers_lawful (m ∷ ms) l = (l.0, multipliers_lawful ms l.1)

abbrev summand_tokens : AddOp × TermShape → List Symbol
summand_tokens u = add_symbol u.0 ∷ term_tokens u.1

summands_written : (us : List (AddOp × TermShape)) → summands_tokens (summands_of us) ≡ flat summand_tokens us
summands_written [] = refl
summands_written (u ∷ us) = ap (λ z. summand_tokens u ++ z) (summands_written us)

summands_lawful : (us : List (AddOp × TermShape)) → Each (λ u. IsLawfulTerm u.1) us → AreLawfulSummands (summands_of us)
summands_lawful [] l = tt
summands_lawful (u ∷ us) l = (l.0, summands_lawful us l.1)

-- no symbol
abbrev pub free : {A : Type 0} → A → Symbol → Bool
free x s = false

-- `or`, which does not follow an expression
abbrev pub is_or : {A : Type 0} → A → Symbol → Bool
is_or x s = is_word OR s

not_or : (s : Symbol) → is_some (as_add_op s) ≡ false → is_word OR s ≡ false
not_or (Word n) e = at (nat_eq n OR) e
  where
    at : (b : Bool) → is_some (elim b as (λ z. Option AddOp) [ true ↦ Some Or | false ↦ None ]) ≡ false →
        takes (elim b as (λ z. Option (Unit {0})) [ true ↦ Some tt | false ↦ None ]) ≡ false
    at true q = q
    at false q = refl
not_or (Sign n) e = refl
not_or (Name x) e = refl
not_or (Number n) e = refl
not_or (Literal x) e = refl

-- With a reader of expressions.
module _ (e : Reader ExprShape) (he : Sound expr_tokens IsLawfulExpr is_or none here e) where
  sound_selector : (b : Bool) → Sound selector_tokens IsLawfulSelector free none (λ k. selector_symbol b ∷ k) (selector_behind e b)
  unfolding selector_behind
  sound_selector true = sound_bind (sound_separated (Sign COMMA) (as_sign COMMA) he (sign_is COMMA)) (λ es l. sound_sign CLOSE_BRACKET (λ u.
      sound_pure (index (exprs_of es)) (ap (λ z. Sign OPEN_BRACKET ∷ (z ++ (Sign CLOSE_BRACKET ∷ []))) (exprs_written es))
      (indices_lawful es (chain_filled (Sign COMMA) is_or IsLawfulExpr es l)) (λ s q. refl)))
  sound_selector false = sound_name (λ x. sound_pure (field x) refl tt (λ s q. refl))

  pub sound_desig_behind : (x : Text) → Sound desig_tokens IsLawfulDesig free none (λ k. Name x ∷ k) (desig_behind e x)
  unfolding desig_behind
  sound_desig_behind x =
      sound_last (λ ss. desig x (selectors_of ss))
      (sound_each (λ s o q. subst (λ z. Sound selector_tokens IsLawfulSelector free none (λ k. z ∷ k) (selector_behind e o))
      (sym (selector_is s o q)) (sound_selector o)))
      (λ ss l. ap (λ z. Name x ∷ z) (selectors_written ss)) selectors_lawful (λ ss l s q. refl)

  pub sound_desig : Sound desig_tokens IsLawfulDesig free none here (desig_with e)
  unfolding desig_with
  sound_desig = sound_name sound_desig_behind

  sound_actual : Sound actual_tokens IsLawfulActual free none here (actual_with e)
  unfolding actual_with
  sound_actual = sound_bind he (λ v l. sound_on_sign COLON (λ u n. sound_last (λ w. actual_width v w) he (λ w m. refl) (λ w m. (l, m)) (λ w m s q. refl))
      (sound_pure (actual v) (sym (append-nil (expr_tokens v))) l (λ s q. refl)))

  pub sound_actuals : {t : Symbol → Bool} → Sound actuals_tokens AreLawfulActuals free t here (actuals_with e)
  unfolding actuals_with
  sound_actuals = sound_on_sign OPEN_PAREN (λ t n. sound_bind (sound_separated (Sign COMMA) (as_sign COMMA) sound_actual (sign_is COMMA))
      (λ args l. sound_sign CLOSE_PAREN (λ u.
      sound_pure (actuals_of args) (actuals_written args (chain_filled (Sign COMMA) free IsLawfulActual args l))
      (filled_actuals_lawful args (chain_filled (Sign COMMA) free IsLawfulActual args l)) (λ s q. refl))))
      (sound_pure no_actuals refl tt (λ s q. refl))

  sound_paren : Sound factor_tokens IsLawfulFactor free none (λ k. Sign OPEN_PAREN ∷ k) (paren_behind e)
  unfolding paren_behind
  sound_paren = sound_bind he (λ x l. sound_sign CLOSE_PAREN (λ u. sound_pure (paren x) refl l (λ s q. refl)))

  sound_applied : (x : Text) → Sound factor_tokens IsLawfulFactor free none (λ k. Name x ∷ k) (applied_behind e x)
  unfolding applied_behind
  sound_applied x = sound_bind_behind (Name x) here (sound_desig_behind x) (λ d l. sound_last (λ args. applied d args) sound_actuals (λ args m. refl)
      (λ args m. (l, m)) (λ args m s q. refl))

  pub sound_plain_factor : {t : Symbol → Bool} → Sound factor_tokens IsLawfulFactor free t here (plain_factor e)
  unfolding plain_factor
  sound_plain_factor = sound_branch (λ s n m q. sound_pure (number n) (ap (λ z. z ∷ []) (sym (number_is s n q).0)) (number_is s n q).1 (λ s' q'. refl))
      (sound_on Literal literal_is (λ x n. sound_pure (literal x) refl tt (λ s' q'. refl))
      (sound_on_sign OPEN_PAREN (λ u n. sound_paren)
      (sound_on Name name_is (λ x n. sound_applied x)
      (sound_stop (record { whole = literal []; more = Literal [] ∷ []; lawful = tt; writes = refl })))))

-- With a reader of factors.
module _ (f : Reader FactorShape) (hf : Sound factor_tokens IsLawfulFactor free none here f) where
  sound_multiplier : (op : MulOp) → Sound multiplier_tokens (λ m. IsLawfulFactor m.1) free none (λ k. mul_symbol op ∷ k) (multiplier_behind f op)
  unfolding multiplier_behind
  sound_multiplier op = sound_last (λ x. (op, x)) hf (λ x l. refl) (λ x l. l) (λ x l s q. refl)

  sound_term : {t : Symbol → Bool} → Sound term_tokens IsLawfulTerm free t here (term_with f)
  unfolding term_with
  sound_term = sound_bind hf (λ x l. sound_last (λ ms. product x (multipliers_of ms))
      (sound_each (λ s o q. subst (λ z. Sound multiplier_tokens (λ m. IsLawfulFactor m.1) free none (λ k. z ∷ k) (multiplier_behind f o))
      (sym (mul_op_is s o q)) (sound_multiplier o)))
      (λ ms m. ap (λ z. factor_tokens x ++ z) (multipliers_written ms)) (λ ms m. (l, multipliers_lawful ms m)) (λ ms m s q. refl))

  sound_summand : (op : AddOp) → Sound summand_tokens (λ u. IsLawfulTerm u.1) free none (λ k. add_symbol op ∷ k) (summand_behind f op)
  unfolding summand_behind
  sound_summand op = sound_last (λ x. (op, x)) sound_term (λ x l. refl) (λ x l. l) (λ x l s q. refl)

  sound_simple_behind : {t : Symbol → Bool} (sign : Option plus_or_minus.Sign) →
      Sound simple_tokens IsLawfulSimple is_or t (λ k. sign_tokens sign ++ k) (simple_behind f sign)
  unfolding simple_behind
  sound_simple_behind sign = sound_bind sound_term (λ x l. sound_last (λ us. sum sign x (summands_of us))
      (sound_each (λ s o q. subst (λ z. Sound summand_tokens (λ u. IsLawfulTerm u.1) free none (λ k. z ∷ k) (summand_behind f o))
      (sym (add_op_is s o q)) (sound_summand o)))
      (λ us m. append_assoc (sign_tokens sign) (term_tokens x) (summands_tokens (summands_of us)) ∙
      ap (λ z. sign_tokens sign ++ (term_tokens x ++ z)) (summands_written us)) (λ us m. (l, summands_lawful us m)) (λ us m s q. not_or s (or-right _ _ q)))

  sound_simple : {t : Symbol → Bool} → Sound simple_tokens IsLawfulSimple is_or t here (simple_with f)
  unfolding simple_with
  sound_simple = sound_on sign_symbol plus_minus_is (λ o n. sound_simple_behind (Some o)) (sound_simple_behind None)

  pub sound_expr_with : {t : Symbol → Bool} → Sound expr_tokens IsLawfulExpr is_or t here (expr_with f)
  unfolding expr_with
  sound_expr_with = sound_bind sound_simple (λ x l. sound_on relation_symbol relation_is (λ r n. sound_last (λ y. related x r y) sound_simple
      (λ y m. refl) (λ y m. (l, m)) (λ y m s q. q))
      (sound_pure (plain x) (sym (append-nil (simple_tokens x))) l (λ s q. or-left _ _ q)))

  pub sound_factor_with : (e : Reader ExprShape) → Sound expr_tokens IsLawfulExpr is_or none here e → {t : Symbol → Bool} →
      Sound factor_tokens IsLawfulFactor free t here (factor_with f e)
  unfolding factor_with
  sound_factor_with e he = sound_on_word NOT (λ u n. sound_last (λ x. negation x) hf (λ x l. refl) (λ x l. l) (λ x l s q. refl)) (sound_plain_factor e he)

-- Each symbol that begins an expression does begin a lawful one.
abbrev pub expr_of : FactorShape → ExprShape
expr_of f = plain (sum None (product f no_multipliers) no_summands)

goes_expr : (s : Symbol) → Goes factor_tokens IsLawfulFactor (λ k. s ∷ k) → Goes expr_tokens IsLawfulExpr (λ k. s ∷ k)
goes_expr s g = record {
  whole = expr_of g.whole;
  more = g.more;
  lawful = ((g.lawful, tt), tt);
  writes = append-nil (factor_tokens g.whole ++ []) ∙ append-nil (factor_tokens g.whole) ∙ g.writes;
}

begun_number : (s : Symbol) (n : ℤ) → as_number s ≡ Some n → Goes factor_tokens IsLawfulFactor (λ k. s ∷ k)
begun_number s n e = record { whole = number n; more = []; lawful = (number_is s n e).1; writes = ap (λ z. z ∷ []) (sym (number_is s n e).0) }

begun_literal : (s : Symbol) (x : Text) → as_literal s ≡ Some x → Goes factor_tokens IsLawfulFactor (λ k. s ∷ k)
begun_literal s x e = record { whole = literal x; more = []; lawful = tt; writes = ap (λ z. z ∷ []) (sym (literal_is s x e)) }

begun_not : (s : Symbol) → is_word NOT s ≡ true → Goes factor_tokens IsLawfulFactor (λ k. s ∷ k)
begun_not s e = record { whole = negation (literal []); more = Literal [] ∷ []; lawful = tt; writes = ap (λ z. z ∷ (Literal [] ∷ [])) (sym (word_was NOT s e)) }

begun_paren : (s : Symbol) (o : Unit {0}) → as_sign OPEN_PAREN s ≡ Some o → Goes factor_tokens IsLawfulFactor (λ k. s ∷ k)
begun_paren s o e = record {
  whole = paren (expr_of (literal []));
  more = Literal [] ∷ Sign CLOSE_PAREN ∷ [];
  lawful = ((tt, tt), tt);
  writes =
      ap (λ z. z ∷ (Literal [] ∷ Sign CLOSE_PAREN ∷ [])) (sym (sign_is OPEN_PAREN s o e));
}

begun_applied : (s : Symbol) (x : Text) → as_name s ≡ Some x → Goes factor_tokens IsLawfulFactor (λ k. s ∷ k)
begun_applied s x e = record {
  whole = applied (desig x no_selectors) no_actuals;
  more = [];
  lawful = (tt, tt);
  writes =
      ap (λ z. z ∷ []) (sym (name_is s x e));
}

begun_factor : (s : Symbol) → begins_factor s ≡ true → Goes factor_tokens IsLawfulFactor (λ k. s ∷ k)
begun_factor s e = four (or_cases _ _ e)
  where
    one : ((takes (as_number s)) ≡ true) ⊎ (takes (as_literal s) ≡ true) → Goes factor_tokens IsLawfulFactor (λ k. s ∷ k)
    one (inl h) = begun_number s (taken (as_number s) h).0 (taken (as_number s) h).1
    one (inr h) = begun_literal s (taken (as_literal s) h).0 (taken (as_literal s) h).1

    two : ((takes (as_number s) || takes (as_literal s)) ≡ true) ⊎ (is_word NOT s ≡ true) → Goes factor_tokens IsLawfulFactor (λ k. s ∷ k)
    two (inl h) = one (or_cases _ _ h)
    two (inr h) = begun_not s h

    three : ((takes (as_number s) || takes (as_literal s) || is_word NOT s) ≡ true) ⊎ (takes (as_sign OPEN_PAREN s) ≡ true) →
        Goes factor_tokens IsLawfulFactor (λ k. s ∷ k)
    three (inl h) = two (or_cases _ _ h)
    three (inr h) = begun_paren s (taken (as_sign OPEN_PAREN s) h).0 (taken (as_sign OPEN_PAREN s) h).1

    four : ((takes (as_number s) || takes (as_literal s) || is_word NOT s || takes (as_sign OPEN_PAREN s)) ≡ true) ⊎ (takes (as_name s) ≡ true) →
        Goes factor_tokens IsLawfulFactor (λ k. s ∷ k)
    four (inl h) = three (or_cases _ _ h)
    four (inr h) = begun_applied s (taken (as_name s) h).0 (taken (as_name s) h).1

begun_signed : (s : Symbol) (o : plus_or_minus.Sign) → as_plus_minus s ≡ Some o → Goes expr_tokens IsLawfulExpr (λ k. s ∷ k)
begun_signed s o e = record {
  whole = plain (sum (Some o) (product (literal []) no_multipliers) no_summands);
  more = Literal [] ∷ [];
  lawful = ((tt, tt), tt);
  writes = ap (λ z. z ∷ (Literal [] ∷ [])) (sym (plus_minus_is s o e));
}

pub begun_expr : (s : Symbol) → begins_expr s ≡ true → Goes expr_tokens IsLawfulExpr (λ k. s ∷ k)
begun_expr s e = at (or_cases _ _ e)
  where
    at : (takes (as_plus_minus s) ≡ true) ⊎ (begins_factor s ≡ true) → Goes expr_tokens IsLawfulExpr (λ k. s ∷ k)
    at (inl h) = begun_signed s (taken (as_plus_minus s) h).0 (taken (as_plus_minus s) h).1
    at (inr h) = goes_expr s (begun_factor s h)

-- Whatever the number of levels.
pub sound_no_expr : Sound expr_tokens IsLawfulExpr is_or none here no_expr
unfolding no_expr
sound_no_expr = sound_level begun_expr (sound_stop (record { whole = expr_of (literal []); more = Literal [] ∷ []; lawful = ((tt, tt), tt); writes = refl }))

pub sound_factor_at : (n : ℕ) → Sound factor_tokens IsLawfulFactor free none here (factor_at n)
unfolding factor_at
sound_factor_at zero = sound_level begun_not (sound_plain_factor no_expr sound_no_expr)
sound_factor_at (suc n) = sound_factor_with (factor_at n) (sound_factor_at n) (expr_with (factor_at n)) (sound_expr_with (factor_at n) (sound_factor_at n))

pub sound_expr_at : (n : ℕ) → Sound expr_tokens IsLawfulExpr is_or none here (expr_at n)
unfolding expr_at
sound_expr_at zero = sound_no_expr
sound_expr_at (suc n) = sound_expr_with (factor_at n) (sound_factor_at n)
