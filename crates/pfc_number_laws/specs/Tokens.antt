-- What a text is read with: its numbers have 32 bits, and its chars are bytes.
use Rattle.std.specs.Prelude.{List}
use Rattle.std.specs.List.{AllByRecursion}
use Rattle.pfc_base.specs.declared.tokens.Kind.TheVariants.{Number, Literal}
use Rattle.pfc_tree.specs.Symbols.{Symbol}
use Rattle.pfc_semantics.specs.Expressions.{char_in}
use Rattle.pfc_run_invariants.specs.Fitting.{Fits}

abbrev pub FitsSymbol : Symbol → Type 0
FitsSymbol (Number n) = Fits n
FitsSymbol (Literal x) = Fits (char_in x)
FitsSymbol k = Unit {0}

abbrev pub FitSymbols : List Symbol → Type 0
FitSymbols symbols = AllByRecursion FitsSymbol symbols
