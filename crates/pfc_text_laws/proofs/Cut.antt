-- Small tokens write numbers of 32 bits.
use Rattle.std.proofs.Common.{◌≡◌, ℕ, ◌≤◌, pos, ℤ, List, [], ◌∷◌, sym, subst, arith}
use Rattle.std.proofs.lemmas.Bool.Decides.{nat_tests}
use Rattle.pfc_base.specs.declared.tokens.Kind.{Kind}
use Rattle.pfc_base.specs.declared.tokens.Kind.TheVariants.{Word, Sign, Name, Number, Literal}
use Rattle.pfc_base.specs.declared.tokens.Token.{Token}
use Rattle.pfc_scan.specs.Small.{IsSmallKind, AreSmall}
use Rattle.pfc_tree.specs.Symbols.{symbols}
use Rattle.pfc_run_invariants.specs.Fitting.{Fits}
use Rattle.pfc_number_laws.specs.Tokens.{FitsSymbol, FitSymbols}

natural_fits : (n : ℕ) → n ≤ 2147483647 → Fits (pos n)
natural_fits n most = grind (arith, nat_tests)

byte_fits : (b : ℕ) → b ≤ 255 → Fits (pos b)
byte_fits b most = grind (arith, nat_tests)

kind_fits : (kind : Kind) → IsSmallKind kind → FitsSymbol kind
kind_fits (Word n) small = tt
kind_fits (Sign n) small = tt
kind_fits (Name bytes) small = tt
kind_fits (Number n) small = subst (λ (k : ℤ). Fits k) (sym small.1) (natural_fits small.0 small.2)
kind_fits (Literal []) small = byte_fits 0 (omega arith)
kind_fits (Literal (b ∷ bytes)) small = byte_fits b small

pub kinds_fit : (ts : List Token) → AreSmall ts → FitSymbols (symbols ts)
kinds_fit [] small = tt
kinds_fit (t ∷ ts) small = (kind_fits t.kind small.0, kinds_fit ts small.1)
