-- What a list of kinds is made of. A kind holds no list of the program's own, so it is a plain value already.
use Rattle.std.specs.Prelude.{◌≡◌, ℕ, List, ◌++◌, map}
use Rattle.pfc_base.specs.declared.tokens.Kind.{Kind}
use Rattle.pfc_base.specs.declared.tokens.Token.{Token}

-- the bytes of a name or of a literal
abbrev pub Text : Type 0
Text = List ℕ

-- a word or a sign by its number, a name or a literal by its bytes, or a number
abbrev pub Symbol : Type 0
Symbol = Kind

-- the kinds of tokens
abbrev pub symbols : List Token → List Symbol
symbols ts = map (λ t. t.kind) ts

-- what was written before, and these kinds behind it
abbrev pub Adds : List Symbol → List Symbol → List Symbol → Type 0
Adds old new added = new ≡ old ++ added
