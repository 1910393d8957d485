-- What the activation at hand has made since its last select: all that the machine counts of it.
use Rattle.std.proofs.Common.{◌≡◌, ℕ, zero, suc, ◌+◌, ◌<◌, ◌==◌, if◌then◌else◌, ℤ, Bool, true, false, List, [], ◌∷◌, ◌++◌, length, refl, sym, ap, ◌∙◌, arith}
use Rattle.std.proofs.Common.{length-append}
use Rattle.pfc_code.specs.declared.instructions.Instr.{Instr}
use Rattle.pfc_code.specs.declared.instructions.Instr.TheVariants.{ARMS, ARMR, ARMA, ARMT, ARMX}
use Rattle.pfc_world.specs.Tables.{Table}
use Rattle.pfc_semantics.specs.Store.{Store}
use Rattle.pfc_semantics.specs.Configurations.{Activation}
use Rattle.pfc_cells.specs.Homes.{Homes}
use Rattle.pfc_cells.specs.Memory.{Entry, Entries}
use Rattle.pfc_machines.specs.declared.alternatives.Alternative.{Alternative}
use Rattle.pfc_machines.specs.Communications.{Communicating}
use Rattle.pfc_machines.specs.Offers.{made_by}
use Rattle.pfc_standing_code.specs.Effects.{Arm}
use Rattle.pfc_representation.specs.Levels.{Facts, LivingLevel}
use Rattle.pfc_representation.specs.Callers.{AreCallers}
use Rattle.pfc_representation.specs.Alternatives.{IsReceiving, IsMadeBy, IsMade, AreMade, none_made, one_made}

-- ## By whom

receiving_depth : (depth z : ℕ) (operands : List ℤ) (to : ℕ) (a : Alternative) → IsReceiving depth z operands to a → a.activation ≡ depth
receiving_depth depth zero operands to a is = ap (λ (x : Alternative). x.activation) is.2
receiving_depth depth (suc z) operands to a is = ap (λ (x : Alternative). x.activation) is.3

depth_by : (depth : ℕ) (i : Instr) (operands : List ℤ) (a : Alternative) (words : List ℤ) → IsMadeBy depth i operands a words → a.activation ≡ depth
depth_by depth (ARMS z to) operands a words is = ap (λ (x : Alternative). x.activation) is.3
depth_by depth (ARMR z to) operands a words is = receiving_depth depth z operands to a is.1
depth_by depth (ARMA e d z to) operands a words is = ap (λ (x : Alternative). x.activation) is.1
depth_by depth (ARMT to) operands a words is = ap (λ (x : Alternative). x.activation) is.3
depth_by depth ARMX operands a words is = ap (λ (x : Alternative). x.activation) is.1
depth_by depth i operands a words is = absurd is

depth_made : (depth : ℕ) (arm : Arm) (a : Alternative) (words : List ℤ) → IsMade depth arm a words → a.activation ≡ depth
depth_made depth arm a words is = depth_by depth arm.by arm.operands a words is

same_number : (n k : ℕ) → n ≡ k → (n == k) ≡ true
same_number n k h = grind (arith, h)

other_number : (n k : ℕ) → (n ≡ k → ⊥) → (n == k) ≡ false
other_number n k h = by_test (n == k) refl
  where
    equal : (n == k) ≡ true → n ≡ k
    equal is = grind (arith, is)

    by_test : (b : Bool) → (n == k) ≡ b → (n == k) ≡ false
    by_test true is = absurd (h (equal is))
    by_test false is = is

-- ## How many

by_others : (depth k : ℕ) (alternatives : List Alternative) (words : List ℤ) (arms : List Arm) (latest : List Alternative) (ws : List ℤ)
    → AreMade depth alternatives words arms latest ws → (depth ≡ k → ⊥) → made_by k alternatives ≡ 0 → made_by k latest ≡ 0
by_others depth k alternatives words _ _ _ none_made apart none = none
by_others depth k alternatives words _ _ _ (one_made arms before ws arm a message made is) apart none =
    ap (λ (b : Bool). if b then 1 + made_by k before else 0)
    (other_number a.activation k (λ same. apart (sym (depth_made depth arm a message is) ∙ same)))

by_itself : (depth : ℕ) (alternatives : List Alternative) (words : List ℤ) (arms : List Arm) (latest : List Alternative) (ws : List ℤ)
    → AreMade depth alternatives words arms latest ws → made_by depth alternatives ≡ 0 → made_by depth latest ≡ length arms
by_itself depth alternatives words _ _ _ none_made none = none
by_itself depth alternatives words _ _ _ (one_made arms before ws arm a message made is) none =
    ap (λ (b : Bool). if b then 1 + made_by depth before else 0) (same_number a.activation depth (depth_made depth arm a message is))
    ∙ ap (λ n. 1 + n) (by_itself depth alternatives words arms before ws made none)
    ∙ more (length arms) (length (arms ++ arm ∷ [])) (length-append arms (arm ∷ []))
  where
    more : (n k : ℕ) → k ≡ n + 1 → 1 + n ≡ k
    more n k h = grind (arith, h)

-- What it has made, over what was made before.
pub record HasMade (level : LivingLevel) (latest : Communicating) (count : ℕ) : Type 0 where
  pub alternatives : List Alternative
  pub words : List ℤ
  pub made : AreMade count alternatives words level.arms latest.alternatives latest.words
  pub counted : made_by count latest.alternatives ≡ length level.arms

module _ (facts : Facts) (homes : Homes) (entries : Entries) (store : Store) (table : Table) (p room : ℕ) where
  -- outer ones have made nothing as inner ones
  none_deeper : (level : LivingLevel) (w : ℤ) (latest : Communicating) (xs : List Activation) (es : List Entry)
      → AreCallers facts homes entries store table p room level w latest xs es → (k : ℕ) → length xs < k → made_by k latest.alternatives ≡ 0
  none_deeper level w latest [] es is k less = absurd is
  none_deeper level w latest (a ∷ xs) [] is k less = absurd is
  none_deeper level w latest (a ∷ []) (e ∷ []) is k less =
      by_others 1 k [] [] level.arms latest.alternatives latest.words is.made.2 (λ same. apart k less same) refl
    where
      apart : (n : ℕ) → 1 < n → 1 ≡ n → ⊥
      apart n h j = grind (arith, h, j)
  none_deeper level w latest (a ∷ []) (e ∷ f ∷ es) is k less = absurd is
  none_deeper level w latest (a ∷ b ∷ xs) (e ∷ []) is k less = absurd is
  none_deeper level w latest (a ∷ b ∷ xs) (e ∷ f ∷ es) (outer, v, earlier, called, within, others) k less =
      by_others (length (a ∷ b ∷ xs)) k earlier.alternatives earlier.words level.arms latest.alternatives latest.words called.made.2
      (λ same. apart (length (a ∷ b ∷ xs)) k less same)
      (none_deeper outer v earlier (b ∷ xs) (f ∷ es) others k (fewer (length (b ∷ xs)) k less))
    where
      apart : (n j : ℕ) → n < j → n ≡ j → ⊥
      apart n j h same = grind (arith, h, same)

      fewer : (n j : ℕ) → suc n < j → n < j
      fewer n j h = grind (arith, h)

  pub has_made : (level : LivingLevel) (w : ℤ) (latest : Communicating) (xs : List Activation) (es : List Entry)
      → AreCallers facts homes entries store table p room level w latest xs es → HasMade level latest (length xs)
  has_made level w latest [] es is = absurd is
  has_made level w latest (a ∷ xs) [] is = absurd is
  has_made level w latest (a ∷ []) (e ∷ []) is =
      record {
        alternatives = [];
        words = [];
        made = is.made.2;
        counted = by_itself 1 [] [] level.arms latest.alternatives latest.words is.made.2 refl;
      }
  has_made level w latest (a ∷ []) (e ∷ f ∷ es) is = absurd is
  has_made level w latest (a ∷ b ∷ xs) (e ∷ []) is = absurd is
  has_made level w latest (a ∷ b ∷ xs) (e ∷ f ∷ es) (outer, v, earlier, called, within, others) =
      record {
        alternatives = earlier.alternatives;
        words = earlier.words;
        made = called.made.2;
        counted =
            by_itself (length (a ∷ b ∷ xs)) earlier.alternatives earlier.words level.arms latest.alternatives latest.words called.made.2
            (none_deeper outer v earlier (b ∷ xs) (f ∷ es) others (length (a ∷ b ∷ xs)) (more (length (b ∷ xs))));
      }
    where
      more : (n : ℕ) → n < suc n
      more n = grind arith
