-- What the reader of a type is, by the levels that are left.
use Rattle.std.proofs.Common.{◌≡◌, ℕ, suc, List, ap}
use Rattle.pfc_base.specs.declared.tokens.Token.{Token}
use Rattle.pfc_grammar.specs.placed.Types.{type_at, type_with}

pub type_below : (n m : ℕ) (ts : List Token) → n ≡ suc m → type_at n ts ≡ type_with (type_at m) ts
unfolding type_at
type_below n m ts e = ap (λ k. type_at k ts) e
