-- What the reader of an expression or a factor is, by the levels that are left.
use Rattle.std.proofs.Common.{◌≡◌, ℕ, zero, suc, List, [], length, Option, Some, None, Ok, Err, ap, ◌∙◌, refl}
use Rattle.pfc_base.specs.declared.places.Place.{Place}
use Rattle.pfc_base.specs.declared.tokens.Token.{Token}
use Rattle.pfc_base.specs.declared.word.TheConstants.{NOT}
use Rattle.pfc_tree.specs.Symbols.{Symbol}
use Rattle.pfc_tree.specs.trees.Exprs.{negation}
use Rattle.pfc_grammar.specs.Heads.{as_word, is_word}
use Rattle.pfc_grammar.specs.Reading.{deep}
use Rattle.pfc_grammar.specs.placed.Reading.{Reader, pure, bind, many, stop_deep}
use Rattle.pfc_grammar.specs.placed.Exprs.{plain_factor, no_expr, factor_at, factor_with, expr_at, expr_with}
use Rattle.pfc_token_parser.specs.Giving.{taken}
use Rattle.pfc_token_parser.proofs.Branches.{branch_taken, branch_not_taken, choose_seen, choose_not_seen, seen_taken, seen_not_taken}
use Rattle.pfc_token_parser.proofs.Loops.{turning_begins, turning_ends}

pub expr_below : (n m : ℕ) (ts : List Token) → n ≡ suc m → expr_at n ts ≡ expr_with (factor_at m) ts
unfolding expr_at
expr_below n m ts e = ap (λ k. expr_at k ts) e

-- a factor that begins with no `not`
pub factor_plain : (n : ℕ) (ts : List Token) → taken (as_word NOT) ts ≡ None → factor_at n ts ≡ plain_factor (expr_at n) ts
unfolding factor_at factor_with expr_at
factor_plain zero ts e = choose_not_seen (is_word NOT) stop_deep (plain_factor no_expr) ts (seen_not_taken (as_word NOT) ts e)
factor_plain (suc n) ts e =
    branch_not_taken (as_word NOT) (λ t. bind (factor_at n) (λ x. pure (negation x t.1))) (plain_factor (expr_with (factor_at n))) ts e

-- a `not` where no level is left
pub factor_deep : (n : ℕ) (ts more : List Token) (o : Unit {0} × Place) → n ≡ zero → taken (as_word NOT) ts ≡ Some (o, more) →
    factor_at n ts ≡ Err (deep (length ts))
unfolding factor_at stop_deep
factor_deep n ts more o k e = ap (λ m. factor_at m ts) k ∙ choose_seen (is_word NOT) stop_deep (plain_factor no_expr) ts (seen_taken (as_word NOT) ts more o e)

-- a `not` and the factor behind it
pub factor_not : (n m : ℕ) (ts more : List Token) (o : Unit {0} × Place) → n ≡ suc m → taken (as_word NOT) ts ≡ Some (o, more) →
    factor_at n ts ≡ bind (factor_at m) (λ x. pure (negation x o.1)) more
unfolding factor_at factor_with
factor_not n m ts more o k e = ap (λ l. factor_at l ts) k ∙ branch_taken (as_word NOT) (λ t. bind (factor_at m) (λ x. pure (negation x t.1)))
    (plain_factor (expr_with (factor_at m))) ts more o e

-- no items, where no token is taken
pub many_ended : {O A : Type 0} (f : Symbol → Option O) (g : O × Place → Reader A) (ts : List Token) → taken f ts ≡ None → many f g ts ≡ Ok ([], ts)
unfolding many
many_ended f g ts e = turning_ends f g [] ts (many f g ts) (turning_begins f g [] [] ts (many f g ts) refl refl) e
