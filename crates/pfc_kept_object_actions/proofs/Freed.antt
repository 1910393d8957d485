-- The clause of a process that is freed.
use Rattle.std.proofs.Common.{◌≡◌, ℕ, ℤ, true, false, List, [], ◌∷◌, get_or, refl, ap, ◌∙◌, subst, sym, ◌⊎◌, inl, inr}
use Rattle.pfc_state.specs.Stands.{Stand, Is_ready, Waits, is_unfinished}
use Rattle.pfc_state.specs.declared.waits.Arm.{Arm}
use Rattle.pfc_state.specs.declared.waits.Arm.TheVariants.{Send as To, Receive as From, Accept as Entry}
use Rattle.pfc_state.specs.declared.waits.Why.TheVariants.{Barred}
use Rattle.pfc_world.specs.Partners.{plain_wait}
use Rattle.pfc_world.specs.Tables.{Table, at}
use Rattle.pfc_semantics.specs.Configurations.{Mark, plain, of_monitor, of_resource, Hand, empty_hand, offering, asking, barred_at, Activation, Activity}
use Rattle.pfc_semantics.specs.Remainders.{Open}
use Rattle.pfc_semantics.specs.Rewriting.{Doing}
use Rattle.pfc_semantics.specs.Store.{Store}
use Rattle.pfc_stacks.specs.Stacks.{Stacks, stack_of}
use Rattle.pfc_cells.specs.Homes.{Homes}
use Rattle.pfc_cells.specs.Memory.{Entries}
use Rattle.pfc_machines.specs.declared.descriptors.Descriptor.{Descriptor}
use Rattle.pfc_standing_code.specs.Settings.{Trial}
use Rattle.pfc_representation.specs.Levels.{Facts, LivingLevel}
use Rattle.pfc_representation.specs.Hands.{shows_nothing, IsOffered, is_woken, waits_plainly, waits_selecting, HandIs}
use Rattle.pfc_representation.specs.Holding.{Holders, HoldsFor, Holds}
use Rattle.pfc_representation.specs.Processes.{IsUnderWay, ActivationsAre, RepresentsProcess}
use Rattle.pfc_kept_object_actions.specs.Freed.{HasItsTurn, IsFreed}
use Rattle.pfc_kept_object_actions.proofs.Rows.{level_anew, trial_anew}

-- ## What it holds

holds_for_freed : (h : Holders) (q : ℕ) (s : Stand) (mark : Mark) → HasItsTurn h q s → HoldsFor h q s mark → HoldsFor h q Is_ready mark
holds_for_freed h q s plain has is = is
holds_for_freed h q s (of_monitor m) has (inl holds) = inl holds
holds_for_freed h q s (of_monitor m) has (inr waits) = inl (has.monitors m waits)
holds_for_freed h q s (of_resource r) has (inl holds) = inl holds
holds_for_freed h q s (of_resource r) has (inr waits) = inl (has.resources r waits)

pub holds_freed : (h : Holders) (q : ℕ) (s : Stand) (trial : Trial) (xs : List Activation) → HasItsTurn h q s → Holds h q s trial xs
    → Holds h q Is_ready trial xs
holds_freed h q s trial xs has is =
    record { entered = λ k d below. holds_for_freed h q s (get_or xs k d).mark has (is.entered k d below); scanned = is.scanned }

-- ## What it shows

plainly_shows : (arm : Arm) (ticket : ℕ) → shows_nothing (Waits (plain_wait arm) ticket []) ≡ true → ⊥
plainly_shows (To c) ticket h = cc
plainly_shows (From c) ticket h = cc
plainly_shows (Entry e) ticket h = cc

-- who shows nothing and offers something is ready
offers_ready : (s : Stand) (os : List Open) (arms : List Arm) → IsOffered s os arms → shows_nothing s ≡ true → s ≡ Is_ready
offers_ready _ _ _ (is_woken os arms) h = refl
offers_ready _ _ _ (waits_plainly o arm ticket) h = absurd (plainly_shows arm ticket h)
offers_ready _ _ _ (waits_selecting os arms due ticket) h = absurd (let no : false ≡ true = h in cc)

module _ (facts : Facts) (homes : Homes) (entries : Entries) (store : Store) (stacks : Stacks) (table table' : Table) (h : Holders) (q : ℕ) (d : Descriptor)
    (freed : IsFreed table table' h q d) where
  hand_freed : (level : LivingLevel) (to : ℕ) (ops : List ℤ) (s : Stand) (doing : Doing) (hand : Hand) → shows_nothing s ≡ true
      → HandIs facts homes table entries q level to ops d s doing hand → HandIs facts homes table' entries q level to ops d Is_ready doing hand
  hand_freed level to ops s doing empty_hand shows is = (is.0, refl, is.2)
  hand_freed level to ops s doing (offering x os k) shows (inl is) =
      let ready : s ≡ Is_ready = offers_ready s os _ is.offered shows in
      subst (λ (y : Stand). HandIs facts homes table' entries q level to ops d y doing (offering x os k)) ready (inl is)
  hand_freed level to ops s doing (offering x os k) shows (inr is) = inr (record { offered = is.offered; ready = refl; does = is.does })
  hand_freed level to ops s doing (asking values) shows is =
      absurd (let no : false ≡ true = ap shows_nothing (sym is.1.waits) ∙ shows in cc)
  hand_freed level to ops s doing (barred_at bar) shows is = by_waits is.1.waits
    where
      by_waits : (s ≡ Is_ready) ⊎ ((ticket : ℕ) × (s ≡ Waits (Barred bar.resource bar.procedure) ticket []))
          → HandIs facts homes table' entries q level to ops d Is_ready doing (barred_at bar)
      by_waits (inl ready) = subst (λ (y : Stand). HandIs facts homes table' entries q level to ops d y doing (barred_at bar)) ready is
      by_waits (inr barred) = absurd (let no : false ≡ true = ap shows_nothing (sym barred.1) ∙ shows in cc)

  -- ## All of it

  under_way_freed : (a : Activity) → IsUnderWay facts homes entries store stacks table h q a d → IsUnderWay facts homes entries store stacks table' h q a d
  under_way_freed a is =
      let level : LivingLevel = is.level in
      let holds : Holds h q Is_ready level.setting.trial a.activations =
      holds_freed h q (at table.rows q) level.setting.trial a.activations freed.has is.stands.holds in
      let hand = hand_freed level (stack_of stacks q).at (stack_of stacks q).operands (at table.rows q) a.doing a.hand freed.showed is.hand in
      record {
        unfinished = ap is_unfinished freed.ready;
        level = level;
        stands =
            level_anew facts homes entries store stacks table table' q freed.lenders h h d a level
            (subst (λ (y : Stand). Holds h q y level.setting.trial a.activations) (sym freed.ready) holds) is.stands;
        within = is.within;
        hand =
            subst (λ (y : Stand). HandIs facts homes table' entries q level (stack_of stacks q).at (stack_of stacks q).operands d y a.doing a.hand)
            (sym freed.ready) hand;
        trial = trial_anew facts homes entries store stacks table table' d freed.tried q level.setting.trial level a.activations is.trial;
      }

  activations_freed : (xs : List Activation) (a : Activity) → ActivationsAre xs facts homes entries store stacks table h q a d
      → ActivationsAre xs facts homes entries store stacks table' h q a d
  activations_freed [] a is = absurd (let no : true ≡ false = sym freed.unfinished ∙ is.finished in cc)
  activations_freed (x ∷ xs) a is = under_way_freed a is

  pub process_freed : (a : Activity) → RepresentsProcess facts homes entries store stacks table h q a d
      → RepresentsProcess facts homes entries store stacks table' h q a d
  process_freed a is = record { line = is.line; spare = is.spare; activations = activations_freed a.activations a is.activations }
