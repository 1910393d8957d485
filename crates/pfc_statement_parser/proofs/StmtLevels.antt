-- What the reader of a statement is, by the levels that are left.
use Rattle.std.proofs.Common.{◌≡◌, ℕ, zero, suc, List, ap}
use Rattle.pfc_base.specs.declared.tokens.Token.{Token}
use Rattle.pfc_grammar.specs.placed.Exprs.{expr_at}
use Rattle.pfc_grammar.specs.placed.Stmts.{stmt_at, stmt_with}

pub stmt_below : (n m : ℕ) (ts : List Token) → n ≡ suc m → stmt_at n ts ≡ stmt_with (expr_at m) (stmt_at m) ts
unfolding stmt_at
stmt_below n m ts e = ap (λ k. stmt_at k ts) e

pub stmt_at_zero : (n : ℕ) (ts : List Token) → n ≡ zero → stmt_at n ts ≡ stmt_at zero ts
stmt_at_zero n ts e = ap (λ k. stmt_at k ts) e
