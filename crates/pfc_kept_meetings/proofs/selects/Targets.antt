-- What an alternative that receives is, and where its message is written.
use Rattle.std.proofs.Common.{sym, ap, ◌∙◌, arith, ◌≡◌, ℕ, zero, suc, ◌<◌, ℤ, pos, List, [], ◌∷◌, Option}
use Rattle.pfc_types.specs.declared.types.TypeId.{TypeId}
use Rattle.pfc_semantics.specs.Displays.{Spot}
use Rattle.pfc_semantics.specs.Programs.{Block}
use Rattle.pfc_semantics.specs.Remainders.{Context}
use Rattle.pfc_semantics.specs.Configurations.{Config, activity_of}
use Rattle.pfc_stacks.specs.Refs.{number_of}
use Rattle.pfc_cells.specs.Homes.{Homes}
use Rattle.pfc_cells.specs.Memory.{Entries}
use Rattle.pfc_machines.specs.declared.machine.Machine.{Machine}
use Rattle.pfc_machines.specs.declared.descriptors.Descriptor.{Descriptor}
use Rattle.pfc_machines.specs.declared.alternatives.Alternative.{Alternative}
use Rattle.pfc_machines.specs.declared.alternatives.Offer.TheVariants.{Receive}
use Rattle.pfc_message_actions.specs.Messages.{target_of}
use Rattle.pfc_standing_code.specs.Settings.{of_own}
use Rattle.pfc_standing_code.specs.Words.{IsChecked}
use Rattle.pfc_representation.specs.Levels.{Facts, program_in, LivingLevel}
use Rattle.pfc_representation.specs.Alternatives.{IsReceiving}
use Rattle.pfc_representation.specs.Holding.{holders_in}
use Rattle.pfc_representation.specs.Processes.{IsAtLevel}
use Rattle.pfc_representation.specs.Machines.{AreAlike}
use Rattle.pfc_kept_messages.proofs.Passing.{IsTarget, to_variable, to_nobody}

-- an alternative that receives
module _ (facts : Facts) (m : Machine) (c : Config) (homes : Homes) (entries : Entries) (alike : AreAlike facts homes entries m c) (r : ℕ) (e : Descriptor)
    (level : LivingLevel)
    (stands : IsAtLevel facts homes entries c.store m.stacks c.table (holders_in facts c) r (activity_of (program_in facts) c r) e level)
    (own : level.setting.trial ≡ of_own)
    (b : Block) (x : Context) (checked : IsChecked level.setting b x.env) where
  -- where its message is written
  pub receiving_word : (depth z : ℕ) (operands : List ℤ) (to : ℕ) (a : Alternative) (n : ℤ) (u : TypeId) (target : Option Spot) (word : ℤ)
      → IsReceiving depth z operands to a
      → IsTarget facts m c homes entries alike r e level stands own b x checked z n operands u target word → target_of a.offer ≡ word
  receiving_word depth zero operands to a n u _ _ is (to_variable target word carried lies size held) = absurd (no_cells _ size carried.0)
    where
      no_cells : (j : ℕ) → 0 ≡ j → 0 < j → ⊥
      no_cells j same less = grind (arith, same, less)
  receiving_word depth (suc z) operands to a n u _ _ is (to_variable target word carried lies size held) =
      let both : is.1 ∷ is.0 ∷ [] ≡ word ∷ n ∷ [] = sym is.2 ∙ held in
      let same : is.1 ≡ word = cc in
      ap (λ (y : Alternative). target_of y.offer) is.3 ∙ same
  receiving_word depth zero operands to a n u _ _ is (to_nobody signal size held) = ap (λ (y : Alternative). target_of y.offer) is.2
  receiving_word depth (suc z) operands to a n u _ _ is (to_nobody signal size held) = absurd (some_cells size)
    where
      some_cells : suc z ≡ 0 → ⊥
      some_cells same = grind (arith, same)

  -- what it is
  pub receiving_offer : (depth z : ℕ) (operands : List ℤ) (to : ℕ) (a : Alternative) (n : ℤ) (u : TypeId) (target : Option Spot) (word : ℤ) (k : ℕ)
      → IsReceiving depth z operands to a
      → IsTarget facts m c homes entries alike r e level stands own b x checked z n operands u target word → number_of n ≡ k
      → a.offer ≡ Receive k z word
  receiving_offer depth zero operands to a n u _ _ k is (to_variable target word carried lies size held) number = absurd (no_cells _ size carried.0)
    where
      no_cells : (j : ℕ) → 0 ≡ j → 0 < j → ⊥
      no_cells j same less = grind (arith, same, less)
  receiving_offer depth (suc z) operands to a n u _ _ k is (to_variable target word carried lies size held) number =
      let both : is.1 ∷ is.0 ∷ [] ≡ word ∷ n ∷ [] = sym is.2 ∙ held in
      let same : is.1 ≡ word = cc in
      let one : is.0 ≡ n = cc in
      ap (λ (y : Alternative). y.offer) is.3 ∙ ap (λ (j : ℤ). Receive (number_of j) (suc z) is.1) one
      ∙ ap (λ (j : ℕ). Receive j (suc z) is.1) number ∙ ap (λ (j : ℤ). Receive k (suc z) j) same
  receiving_offer depth zero operands to a n u _ _ k is (to_nobody signal size held) number =
      let both : is.0 ∷ [] ≡ n ∷ [] = sym is.1 ∙ held in
      let one : is.0 ≡ n = cc in
      ap (λ (y : Alternative). y.offer) is.2 ∙ ap (λ (j : ℤ). Receive (number_of j) 0 (pos 0)) one ∙ ap (λ (j : ℕ). Receive j 0 (pos 0)) number
  receiving_offer depth (suc z) operands to a n u _ _ k is (to_nobody signal size held) number = absurd (some_cells size)
    where
      some_cells : suc z ≡ 0 → ⊥
      some_cells same = grind (arith, same)
