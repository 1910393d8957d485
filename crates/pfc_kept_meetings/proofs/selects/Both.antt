-- A process that is to decide: what is open there, as both sides have it.
use Rattle.std.proofs.Common.{◌≡◌, ℕ, suc, ◌≤◌, ℤ, List, [], ◌∷◌, length, take, Option, Some, None, refl}
use Rattle.std.proofs.Common.{sym, ap, ◌∙◌, subst, arith}
use Rattle.pfc_state.specs.declared.waits.Arm.{Arm as WaitArm}
use Rattle.pfc_types.specs.declared.types.TypeId.{TypeId}
use Rattle.pfc_world.specs.Selects.{matched}
use Rattle.pfc_world.specs.Tables.{Table}
use Rattle.pfc_semantics.specs.Displays.{Spot}
use Rattle.pfc_semantics.specs.Programs.{Block, Program}
use Rattle.pfc_semantics.specs.Remainders.{Context, Open, Remainder}
use Rattle.pfc_semantics.specs.Configurations.{Activity, Config, activity_of, number_for}
use Rattle.pfc_semantics.specs.Channels as text
use Rattle.pfc_translation.specs.Images.{image_of}
use Rattle.pfc_stacks.specs.Refs.{word_of, number_of}
use Rattle.pfc_stacks.specs.Stacks.{stack_of, operands_of, last_activation}
use Rattle.pfc_machines.specs.declared.machine.Machine.{Machine}
use Rattle.pfc_machines.specs.declared.descriptors.Descriptor.{Descriptor}
use Rattle.pfc_machines.specs.declared.alternatives.KeptAlternative.{KeptAlternative}
use Rattle.pfc_machines.specs.Descriptors.{descriptor_of}
use Rattle.pfc_machines.specs.Offers.{arms_of, kept_under, made_by}
use Rattle.pfc_select_actions.specs.Selects.{open_count, open_ones, open_arms, matched_places}
use Rattle.pfc_standing_code.specs.Effects.{Arm}
use Rattle.pfc_standing_code.specs.Settings.{of_own, site_of}
use Rattle.pfc_standing_code.specs.TypedStatements.{IsChannel}
use Rattle.pfc_standing_code.specs.Words.{IsObject, IsChecked}
use Rattle.pfc_standing_code.specs.Performs.{AreOpen, Performs}
use Rattle.pfc_representation.specs.Levels.{Facts, program_in, LivingLevel}
use Rattle.pfc_representation.specs.Acting.{IsActing}
use Rattle.pfc_kept_own_actions.proofs.Arrived.{has_setting}
use Rattle.pfc_kept_messages.proofs.Made.{AreKeptArms, kept_arms, arms_kept}
use Rattle.pfc_kept_messages.proofs.Sight.{channel_number}
use Rattle.pfc_kept_meetings.proofs.selects.Made.{HasMade, has_made}
use Rattle.pfc_kept_meetings.proofs.selects.Same.{arms_same}

-- no more than there are communicate
few_listed : (program : Program) (c : Config) (p : ℕ) (os : List Open) → length (text.arms_of_all program c p os) ≤ length os
few_listed program c p [] = grind arith
few_listed program c p (o ∷ os) = by_arm (few_listed program c p os) (text.arm_of program c p o.offer)
  where
    by_arm : length (text.arms_of_all program c p os) ≤ length os → (y : Option WaitArm)
        → length (text.listed_arm y (text.arms_of_all program c p os)) ≤ suc (length os)
    by_arm less None = grind (arith, less)
    by_arm less (Some w) = grind (arith, less)

module _ (facts : Facts) (m : Machine) (c : Config) (p : ℕ) (level : LivingLevel) (acting : IsActing facts m c p level) (own : level.setting.trial ≡ of_own)
    (b : Block) (x : Context) (checked : IsChecked level.setting b x.env) (os : List Open) (left : Remainder) where
  abbrev g : Program
  g = program_in facts

  abbrev a : Activity
  a = activity_of g c p

  abbrev d : Descriptor
  d = descriptor_of m.descriptors p

  abbrev ops : List ℤ
  ops = operands_of m.stacks p

  abbrev pub behind : ℕ → Type 0
  behind = λ end. Performs level.setting b x.env end ops [] left

  pub made : HasMade level d.communications (length a.activations)
  made =
      has_made facts acting.homes acting.entries c.store c.table p (stack_of m.stacks p).room level (word_of (last_activation m.stacks p)) d.communications
      a.activations (acting.entries p) acting.actor.stands.callers

  -- all that it has made is open
  pub count_is : open_count m p ≡ length level.arms
  count_is = ap (λ n. made_by n d.communications.alternatives) acting.actor.stands.count ∙ made.counted

  abbrev pub kept_ones : List KeptAlternative
  kept_ones = kept_under 0 (take (length level.arms) d.communications.alternatives)

  pub ones_are : open_ones m p ≡ kept_ones
  ones_are = ap (λ n. kept_under 0 (take n d.communications.alternatives)) count_is

  pub kept : AreKeptArms (length a.activations) d.communications.words level.arms kept_ones
  kept =
      kept_arms (length a.activations) made.alternatives made.words level.arms d.communications.alternatives d.communications.words made.made 0
      d.communications.words refl (grind arith)

  -- a channel has one number
  pub number : (v : Spot) (t : Option TypeId) (u : TypeId) (n : ℤ) → IsChannel level.setting.program.state.forms t u
      → IsObject level.setting (site_of level.setting b x) v t n → number_of n ≡ number_for g c p v
  number v t u n is object =
      let k = channel_number facts m c acting.homes acting.entries acting.alike p d level acting.actor.stands own b x v t u n checked is object in
      k.word ∙ sym k.spot

  module _ (opened : AreOpen level.setting (site_of level.setting b x) (length ops) os level.arms behind) where
    pub as_many : length os ≡ length level.arms
    as_many = counted os level.arms opened
      where
        counted : (os : List Open) (arms : List Arm) → AreOpen level.setting (site_of level.setting b x) (length ops) os arms behind → length os ≡ length arms
        counted [] [] is = refl
        counted [] (arm ∷ arms) is = absurd is
        counted (o ∷ os) [] is = absurd is
        counted (o ∷ os) (arm ∷ arms) is = ap (λ n. suc n) (counted os arms is.1)

    -- what the table has of them
    pub offered_are : arms_of (take (length level.arms) d.communications.alternatives) ≡ text.arms_of_all g c p os
    offered_are =
        arms_kept 0 (take (length level.arms) d.communications.alternatives)
        ∙ sym (arms_same c p g level.setting b x number facts (length a.activations) d.communications.words ops left os level.arms kept_ones opened kept)

    pub arms_are : open_arms m p ≡ text.arms_of_all g c p os
    arms_are = ap (λ n. arms_of (take n d.communications.alternatives)) count_is ∙ offered_are

    pub matched_are : matched_places m p ≡ matched c.table.rows p (text.arms_of_all g c p os)
    matched_are = ap (λ (w : Table). matched w.rows p (open_arms m p)) acting.world ∙ ap (λ (ws : List WaitArm). matched c.table.rows p ws) arms_are

    pub few_open : length level.arms ≤ level.setting.arms → length (open_arms m p) ≤ (image_of facts.tree).arms
    few_open fits =
        let listed : length (open_arms m p) ≤ length level.arms =
        subst (λ (ws : List WaitArm). length ws ≤ length level.arms) (sym arms_are)
        (subst (λ n. length (text.arms_of_all g c p os) ≤ n) as_many (few_listed g c p os)) in
        subst (λ n. length (open_arms m p) ≤ n) (has_setting facts m c p level acting).arms
        (less (length (open_arms m p)) (length level.arms) level.setting.arms listed fits)
      where
        less : (i j n : ℕ) → i ≤ j → j ≤ n → i ≤ n
        less i j n h k = grind (arith, h, k)
