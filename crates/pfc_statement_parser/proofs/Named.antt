-- What the reader of a statement is where a name comes.
use Rattle.std.proofs.Common.{◌≡◌, ℕ, List, [], ◌∷◌, Some, None, refl, ◌∙◌}
use Rattle.pfc_base.specs.declared.places.Place.{Place}
use Rattle.pfc_base.specs.declared.tokens.Token.{Token}
use Rattle.pfc_base.specs.declared.tokens.Kind.TheVariants.{Word, Sign, Name, Number, Literal}
use Rattle.pfc_tree.specs.Symbols.{Text}
use Rattle.pfc_tree.specs.trees.Exprs.{ExprTree}
use Rattle.pfc_tree.specs.trees.Stmts.{StmtTree}
use Rattle.pfc_grammar.specs.Heads.{as_name, as_word}
use Rattle.pfc_grammar.specs.placed.Reading.{Reader}
use Rattle.pfc_grammar.specs.placed.Stmts.{action_behind, stmt_second, stmt_with}
use Rattle.pfc_token_parser.specs.Giving.{taken, taken_at}
use Rattle.pfc_token_parser.proofs.Branches.{branch_taken, branch_not_taken}

-- a name is no word
no_word : (n : ℕ) (ts more : List Token) (o : Text × Place) → taken as_name ts ≡ Some (o, more) → taken (as_word n) ts ≡ None
no_word n [] more o e = cc
no_word n (t ∷ ts) more o e =
    elim t.kind as (λ k. taken_at (as_name k) t.place ts ≡ Some (o, more) → taken_at (as_word n k) t.place ts ≡ None) [
      | Word w ↦ λ h. cc
      | Sign s ↦ λ h. cc
      | Name x ↦ λ h. refl
      | Number i ↦ λ h. cc
      | Literal x ↦ λ h. cc
    ] e

second : (e : Reader ExprTree) (s : Reader StmtTree) (ts more : List Token) (o : Text × Place)
    → taken as_name ts ≡ Some (o, more) → stmt_second e s ts ≡ action_behind e o more
unfolding stmt_second
second e s ts more o h =
    branch_not_taken _ _ _ ts (no_word _ ts more o h) ∙ branch_not_taken _ _ _ ts (no_word _ ts more o h) ∙ branch_not_taken _ _ _ ts (no_word _ ts more o h)
    ∙ branch_not_taken _ _ _ ts (no_word _ ts more o h) ∙ branch_not_taken _ _ _ ts (no_word _ ts more o h) ∙ branch_taken as_name _ _ ts more o h

pub stmt_named : (e : Reader ExprTree) (s : Reader StmtTree) (ts more : List Token) (o : Text × Place)
    → taken as_name ts ≡ Some (o, more) → stmt_with e s ts ≡ action_behind e o more
unfolding stmt_with
stmt_named e s ts more o h =
    branch_not_taken _ _ _ ts (no_word _ ts more o h) ∙ branch_not_taken _ _ _ ts (no_word _ ts more o h) ∙ branch_not_taken _ _ _ ts (no_word _ ts more o h)
    ∙ branch_not_taken _ _ _ ts (no_word _ ts more o h) ∙ branch_not_taken _ _ _ ts (no_word _ ts more o h) ∙ branch_not_taken _ _ _ ts (no_word _ ts more o h)
    ∙ branch_not_taken _ _ _ ts (no_word _ ts more o h) ∙ second e s ts more o h
