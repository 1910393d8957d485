-- The reading of a whole program, and what its laws say of an answer.
use Rattle.std.proofs.Common.{◌≡◌, ℕ, ◌-◌, ◌<◌, List, [], ◌∷◌, length, Ok, Err, refl, sym, ap, ◌∙◌, arith}
use Rattle.pfc_base.specs.declared.word.TheConstants.{PROGRAM}
use Rattle.pfc_base.specs.declared.tokens.Token.{Token}
use Rattle.pfc_tree.specs.Symbols.{Symbol, symbols}
use Rattle.pfc_tree.specs.trees.Parts.{ProgramTree}
use Rattle.pfc_tree.specs.shapes.Parts.{ProgramShape}
use Rattle.pfc_tree.specs.declared.tree.Tree.{Tree}
use Rattle.pfc_tree.specs.Readings.{tree_shape}
use Rattle.pfc_tree.specs.views.Parts.{tree_view}
use Rattle.pfc_tree.specs.Grammar.{IsSyntaxFault, most_depth}
use Rattle.pfc_grammar.specs.Heads.{as_word}
use Rattle.pfc_grammar.specs.Reading.{Halt, bad, deep}
use Rattle.pfc_grammar.specs.Reading as kinds
use Rattle.pfc_grammar.specs.Outcomes.{bare_outcome}
use Rattle.pfc_grammar.specs.placed.Reading.{Outcome, bind, take_as, finish}
use Rattle.pfc_grammar.specs.placed.Stmts.{stmt_at}
use Rattle.pfc_grammar.specs.placed.Parts.{program_at, program_behind, parts_at, whole_at, read_tokens}
use Rattle.pfc_token_parser.specs.declared.tokens.Halt as fault
use Rattle.pfc_token_parser.specs.declared.tokens.Halt.TheVariants.{Unexpected, Deep, Memory}
use Rattle.pfc_token_parser.specs.Giving.{Halts}
use Rattle.pfc_parse.specs.Parsing.{IsFaultOf, IsUnlessMemory, fault_at}

-- the reader of a program where 64 levels are left
pub program_is : (ts : List Token) → program_at most_depth ts ≡ bind (take_as (as_word PROGRAM)) (λ t. program_behind (parts_at 63) (stmt_at 63) t.1) ts
unfolding program_at
program_is ts = refl

-- the reader of a whole program
pub whole_is : (ts : List Token) → read_tokens ts ≡ bind (program_at most_depth) (λ t. finish t) ts
unfolding read_tokens whole_at
whole_is ts = refl

pub finished : {A : Type 0} (x : A) (ts : List Token) → length ts ≡ 0 → finish x ts ≡ Ok (x, [])
unfolding finish
finished x [] e = refl
finished x (t ∷ ts) e = absurd (omega (arith, e))

pub unfinished : {A : Type 0} (x : A) (ts : List Token) → 0 < length ts → finish x ts ≡ Err (bad (length ts))
unfolding finish
unfinished x [] e = absurd (omega (arith, e))
unfinished x (t ∷ ts) e = refl

abbrev accepted : ProgramShape × List Symbol → kinds.Outcome ProgramShape
accepted p = Ok p

ok_is : (p q : ProgramShape × List Symbol) → accepted p ≡ accepted q → p ≡ q
ok_is p q h = cc

err_is : (h : Halt) (p : ProgramShape × List Symbol) → Err h ≡ Ok p → ⊥
err_is h p e = cc

-- a tree that is read is the only one
pub read_alone : (out : Outcome ProgramTree) (tree : Tree) (shape : ProgramShape) → out ≡ Ok (tree_view tree, []) →
    bare_outcome out ≡ Ok (shape, []) → tree_shape tree ≡ shape
read_alone out tree shape e b = ap (λ p. p.0) (ok_is (tree_shape tree, []) (shape, []) (sym (ap bare_outcome e) ∙ b))

-- where a reading halts, there is no tree
pub halts_alone : (count : ℕ) (h : fault.Halt) (out : Outcome ProgramTree) (shape : ProgramShape) → Halts h out → bare_outcome out ≡ Ok (shape, []) →
    IsUnlessMemory (Err (fault_at count h)) shape
halts_alone count (Unexpected n) out shape e b = err_is (bad n) (shape, []) (sym (ap bare_outcome e) ∙ b)
halts_alone count (Deep n) out shape e b = err_is (deep n) (shape, []) (sym (ap bare_outcome e) ∙ b)
halts_alone count Memory out shape e b = tt

-- where a reading halts, the fault is there
pub halts_at_fault : (tokens : List Token) (h : fault.Halt) (out : Outcome ProgramTree) →
    ((left : ℕ) → out ≡ Err (bad left) → IsSyntaxFault (symbols tokens) 201 (length tokens - left)) →
    ((left : ℕ) → out ≡ Err (deep left) → IsSyntaxFault (symbols tokens) 202 (length tokens - left)) →
    Halts h out → IsFaultOf (symbols tokens) (fault_at (length tokens) h)
halts_at_fault tokens (Unexpected n) out u d e = u n e
halts_at_fault tokens (Deep n) out u d e = d n e
halts_at_fault tokens Memory out u d e = tt
