-- A word reads as a number exactly where the command's numbers take it.
use Rattle.std.proofs.Common.{◌≡◌, ℕ, ◌≤◌, ◌<◌, ◌^◌, List, Bool, true, false, refl, arith, ap, Some, None}
use Rattle.std.specs.Prelude.{Err, if◌then◌else◌}
use Rattle.std.specs.Str.Parse.{IsNumeral, ParsesUnsigned, digits_value, without_leading_plus}
use Rattle.clap.specs.ValueTests.{accepts}
use Rattle.clap.specs.declared.builder.value_parser.ValueParser.TheVariants as parser
use Rattle.clap.proofs.ValueTestLemmas.{accepts-Accepts, Accepts-accepts}
use Rattle.pfc_outcome.specs.Options.{number_of}

module _ (least most : ℕ) (word : List ℕ) where
  -- the number that the word writes
  abbrev value : ℕ
  value = digits_value 10 (without_leading_plus word)

  refused : (taken : Bool) → accepts false (parser.Unsigned least most) word ≡ taken
      → ¬ (IsNumeral 10 (without_leading_plus word) × (value < 2 ^ 64) × (least ≤ value) × (value ≤ most))
      → None ≡ (if taken then Some value else None)
  refused false e unread = refl
  refused true e unread = absurd (unread (accepts-Accepts false (parser.Unsigned least most) word e))

  pub unread : {E : Type 0} (e : E) → ParsesUnsigned 64 10 word (Err e) → None ≡ number_of least most word
  unread e h = refused (accepts false (parser.Unsigned least most) word) refl (λ all. h (all.0, all.1))

  pub within : (n : ℕ) → IsNumeral 10 (without_leading_plus word) → value < 2 ^ 64 → n ≡ value → least ≤ n → n ≤ most → Some n ≡ number_of least most word
  within n digits fits same low high =
      let taken : accepts false (parser.Unsigned least most) word ≡ true =
      Accepts-accepts false (parser.Unsigned least most) word (digits, fits, omega (arith, low, same), omega (arith, high, same)) in
      rw taken (ap Some same)
