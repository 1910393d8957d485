-- What a parsing function gives, against what its reader gives.
use Rattle.std.specs.Prelude.{◌≡◌, Bool, false, List, [], ◌∷◌, Option, Some, None, Result, Ok, Err}
use Rattle.pfc_base.specs.declared.tokens.Token.{Token}
use Rattle.pfc_base.specs.declared.places.Place.{Place}
use Rattle.pfc_tree.specs.Symbols.{Symbol}
use Rattle.pfc_grammar.specs.Reading.{bad, deep}
use Rattle.pfc_grammar.specs.placed.Reading.{Outcome}
use Rattle.pfc_token_parser.specs.declared.tokens.Halt.{Halt}
use Rattle.pfc_token_parser.specs.declared.tokens.Halt.TheVariants.{Unexpected, Deep, Memory}

-- a halt for the same reason with as many tokens left; of want of memory nothing
abbrev pub Halts : {A : Type 0} → Halt → Outcome A → Type 0
Halts (Unexpected n) out = out ≡ Err (bad n)
Halts (Deep n) out = out ≡ Err (deep n)
Halts Memory out = Unit {0}

-- the same value and the same tokens left, or the same halt
abbrev pub Gives : {R A : Type 0} → (R → A × List Token) → Result R Halt → Outcome A → Type 0
Gives f (Ok r) out = out ≡ Ok (f r)
Gives f (Err h) out = Halts h out

abbrev pub taken_at : {O : Type 0} → Option O → Place → List Token → Option ((O × Place) × List Token)
taken_at (Some o) p ts = Some ((o, p), ts)
taken_at None p ts = None

-- what the first token says, with its place, and the tokens behind it; nothing where it does not say that, or where there is none
abbrev pub taken : {O : Type 0} → (Symbol → Option O) → List Token → Option ((O × Place) × List Token)
taken f [] = None
taken f (t ∷ ts) = taken_at (f t.kind) t.place ts

-- whether the first token is one that p takes
abbrev pub sees : (Symbol → Bool) → List Token → Bool
sees p [] = false
sees p (t ∷ ts) = p t.kind
