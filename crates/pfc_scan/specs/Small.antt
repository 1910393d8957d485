-- Tokens that write small numbers.
use Rattle.std.specs.Prelude.{ℕ, ◌≡◌, ◌≤◌, pos, List, [], ◌∷◌}
use Rattle.std.specs.List.{AllByRecursion}
use Rattle.pfc_base.specs.declared.tokens.Kind.{Kind}
use Rattle.pfc_base.specs.declared.tokens.Kind.TheVariants.{Number, Literal}
use Rattle.pfc_base.specs.declared.tokens.Token.{Token}

abbrev pub AreBytes : List ℕ → Type 0
AreBytes bytes = AllByRecursion (λ (b : ℕ). b ≤ 255) bytes

abbrev pub BeginsWithByte : List ℕ → Type 0
BeginsWithByte [] = Unit {0}
BeginsWithByte (b ∷ bytes) = b ≤ 255

-- a number has at most 31 bits, and the first char of a literal is a byte
abbrev pub IsSmallKind : Kind → Type 0
IsSmallKind (Number n) = (m : ℕ) × (n ≡ pos m) × (m ≤ 2147483647)
IsSmallKind (Literal bytes) = BeginsWithByte bytes
IsSmallKind kind = Unit {0}

abbrev pub AreSmall : List Token → Type 0
AreSmall ts = AllByRecursion (λ (t : Token). IsSmallKind t.kind) ts
