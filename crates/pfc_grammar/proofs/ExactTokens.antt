-- What the reading of tokens comes to, by what the reading of their kinds comes to.
use Rattle.std.proofs.Common.{◌≡◌, ℕ, ◌-◌, ◌≤◌, List, [], ◌∷◌, All, length, Ok, Err, refl, sym, ap, subst, ◌∙◌}
use Rattle.pfc_base.specs.declared.tokens.Token.{Token}
use Rattle.pfc_tree.specs.Symbols.{Symbol, symbols}
use Rattle.pfc_tree.specs.shapes.Parts.{ProgramShape}
use Rattle.pfc_tree.specs.trees.Parts.{ProgramTree}
use Rattle.pfc_tree.specs.forget.Parts.{forget_program}
use Rattle.pfc_tree.specs.tokens.Parts.{tokens_of}
use Rattle.pfc_tree.specs.lawful.Parts.{IsLawful}
use Rattle.pfc_tree.specs.depths.Parts.{depths_of}
use Rattle.pfc_tree.specs.Grammar.{most_depth, IsDeep, IsSyntaxFault}
use Rattle.pfc_grammar.specs.Outcomes.{IsRead, IsTreeOf, bare_outcome}
use Rattle.pfc_grammar.specs.Reading.{bad, deep}
use Rattle.pfc_grammar.specs.Reading as kinds
use Rattle.pfc_grammar.specs.grammar.Parts.{read_program}
use Rattle.pfc_grammar.specs.placed.Reading.{Outcome}
use Rattle.pfc_grammar.specs.placed.Parts.{read_tokens}
use Rattle.pfc_grammar.proofs.Exact.{read_is_sound, read_is_complete, read_is_not_deep, bad_is_fault, deep_is_fault}
use Rattle.pfc_grammar.proofs.placed_bare.Readers.{counted}
use Rattle.pfc_grammar.proofs.placed_bare.Parts.{tokens_are_read}
use Rattle.pfc_grammar.proofs.placed_kept.Parts.{places_are_kept}
use Rattle.pfc_grammar.proofs.placed_one.Parts.{one_tree_of}

-- what comes of tokens comes of their kinds
of_kinds : (ts : List Token) (o : Outcome ProgramTree) → read_tokens ts ≡ o → read_program (symbols ts) ≡ bare_outcome o
of_kinds ts o e = sym (tokens_are_read ts) ∙ ap bare_outcome e

pub shape_is_read : (tokens rest : List Token) (tree : ProgramTree) → read_tokens tokens ≡ Ok (tree, rest) →
    IsRead most_depth (symbols tokens) (forget_program tree)
shape_is_read tokens rest tree e = read_is_sound (symbols tokens) (forget_program tree) (symbols rest) (of_kinds tokens (Ok (tree, rest)) e)

pub tree_is_read : (tokens rest : List Token) (tree : ProgramTree) → read_tokens tokens ≡ Ok (tree, rest) → IsTreeOf tokens tree
tree_is_read tokens rest tree e =
    let shape : IsRead most_depth (symbols tokens) (forget_program tree) = shape_is_read tokens rest tree e in
    record { lawful = shape.lawful; written = shape.written; kept = places_are_kept tokens rest tree e }

pub lawful_is_read : (tokens : List Token) (shape : ProgramShape) → IsLawful shape → All (λ d. d ≤ most_depth) (depths_of shape) →
    symbols tokens ≡ tokens_of shape → bare_outcome (read_tokens tokens) ≡ Ok (shape, [])
lawful_is_read tokens shape lawful within e = tokens_are_read tokens ∙ ap read_program e ∙ read_is_complete shape lawful within

pub none_is_deep : (tokens rest : List Token) (tree : ProgramTree) (place : ℕ) → read_tokens tokens ≡ Ok (tree, rest) → IsDeep (symbols tokens) place → ⊥
none_is_deep tokens rest tree place e d = read_is_not_deep (symbols tokens) (forget_program tree) (symbols rest) place (of_kinds tokens (Ok (tree, rest)) e) d

pub bad_token : (tokens : List Token) (left : ℕ) → read_tokens tokens ≡ Err (bad left) → IsSyntaxFault (symbols tokens) 201 (length tokens - left)
bad_token tokens left e = subst (λ n. IsSyntaxFault (symbols tokens) 201 (n - left)) (sym (counted tokens))
    (bad_is_fault (symbols tokens) left (of_kinds tokens (Err (bad left)) e))

pub deep_token : (tokens : List Token) (left : ℕ) → read_tokens tokens ≡ Err (deep left) → IsSyntaxFault (symbols tokens) 202 (length tokens - left)
deep_token tokens left e = subst (λ n. IsSyntaxFault (symbols tokens) 202 (n - left)) (sym (counted tokens))
    (deep_is_fault (symbols tokens) left (of_kinds tokens (Err (deep left)) e))

-- The tree of the tokens is what is read.
no_tokens : (ts : List Token) → symbols ts ≡ [] → ts ≡ []
no_tokens [] e = refl
no_tokens (t ∷ ts) e = absurd (let e' : t.kind ∷ symbols ts ≡ [] = e in cc)

left : kinds.Outcome ProgramShape → List Symbol
left (Ok p) = p.1
left (Err h) = []

pub tree_is_read_again : (tokens : List Token) (tree : ProgramTree) → IsTreeOf tokens tree →
    All (λ d. d ≤ most_depth) (depths_of (forget_program tree)) → read_tokens tokens ≡ Ok (tree, [])
unfolding left
tree_is_read_again tokens tree w within = at (read_tokens tokens) refl (lawful_is_read tokens (forget_program tree) w.lawful within w.written)
  where
    at : (o : Outcome ProgramTree) → read_tokens tokens ≡ o → bare_outcome o ≡ Ok (forget_program tree, []) → o ≡ Ok (tree, [])
    at (Ok p) e b = ap (λ z. Ok (z, p.1)) (one_tree_of tokens p.0 tree (tree_is_read tokens p.1 p.0 e) w) ∙ ap (λ z. Ok (tree, z)) (no_tokens p.1 (ap left b))
    at (Err h) e b = absurd (let b' : Err h ≡ Ok (forget_program tree, []) = b in cc)
