-- What the readers of parts are, by the levels that are left.
use Rattle.std.proofs.Common.{◌≡◌, ℕ, zero, suc, List, refl, ap, rules, Ok}
use Rattle.pfc_base.specs.declared.tokens.Token.{Token}
use Rattle.pfc_tree.specs.lawful.Parts.{Home}
use Rattle.pfc_tree.specs.declared.tree.Body.{Body}
use Rattle.pfc_tree.specs.declared.tree.Comm.{the_lemmas}
use Rattle.pfc_tree.specs.views.Stmts.{body_view}
use Rattle.pfc_grammar.specs.Heads.{begins_part}
use Rattle.pfc_grammar.specs.placed.Reading.{Reader, Outcome, many_while}
use Rattle.pfc_grammar.specs.placed.Exprs.{expr_at}
use Rattle.pfc_grammar.specs.placed.Types.{type_at}
use Rattle.pfc_grammar.specs.placed.Stmts.{stmt_at}
use Rattle.pfc_grammar.specs.placed.Parts.{SubHead, parts_at, part_with, block_with, sub_behind, body_end}
use Rattle.pfc_tree.specs.trees.Parts.{SubTree}
use Rattle.pfc_parse.specs.Homes.{block_at, sub_after}
use Rattle.pfc_token_parser.proofs.Branches.{bind_given}

pub parts_are : (n : ℕ) (h : Home) (ts : List Token) → parts_at n h ts ≡ many_while (begins_part h) (part_with (type_at n) (block_at n h)) ts
unfolding parts_at block_at
parts_are zero h ts = refl
parts_are (suc n) h ts = refl

pub block_below : (n m : ℕ) (h : Home) (ts : List Token) → n ≡ suc m → block_at n h ts ≡ block_with (parts_at m) (expr_at m) (stmt_at m) h ts
unfolding block_at
block_below n m h ts e = ap (λ k. block_at k h ts) e

pub block_at_zero : (n : ℕ) (h : Home) (ts : List Token) → n ≡ zero → block_at n h ts ≡ block_at zero h ts
block_at_zero n h ts e = ap (λ k. block_at k h ts) e

-- the place of the `end` of a body that is made
pub body_ends : (b : Body) → body_end (body_view b) ≡ b.last
body_ends b = search (rules, the_lemmas)

-- a sub whose head is read
pub sub_goes : (n : ℕ) (head : Reader SubHead) (ts rest : List Token) (h : SubHead) (out : Outcome SubTree) → head ts ≡ Ok (h, rest) →
    sub_after n h rest ≡ out → sub_behind (parts_at n) (stmt_at n) head ts ≡ out
unfolding sub_behind sub_after
sub_goes n head ts rest h out a b = bind_given head _ ts rest h out a b
