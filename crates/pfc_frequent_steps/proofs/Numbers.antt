-- A number, as a value.
use Rattle.std.proofs.Common.{◌≡◌, ℤ, sym, ap}
use Rattle.pfc_semantics.specs.Values.{Value, ordinal}
use Rattle.pfc_semantics.specs.Remainders.{Context, AwaitsValue}
use Rattle.pfc_semantics.specs.Rewriting.{from_value}
use Rattle.pfc_store.specs.Views.{value_view}
use Rattle.pfc_store.specs.declared.values.Value.TheVariants.{Ordinal}
use Rattle.pfc_store.proofs.Seen.{ordinal_seen}

pub number_held : (c : Context) (u : AwaitsValue) (n : ℤ) → from_value c u (ordinal n) ≡ from_value c u (value_view (Ordinal n))
number_held c u n = sym (ap (λ (v : Value). from_value c u v) (ordinal_seen n))

pub ruleset numbers = number_held
