-- The clause of a barred process that is let on: its guard was found true, and it has the resource.
use Rattle.std.proofs.Common.{◌≡◌, ℕ, ℤ, Bool, true, false, List, [], ◌∷◌, Option, Some, refl, ap, ◌∙◌, subst, sym, ◌⊎◌, inl, inr}
use Rattle.pfc_state.specs.Stands.{Stand, Is_ready, Waits, is_unfinished}
use Rattle.pfc_state.specs.declared.waits.Arm.{Arm}
use Rattle.pfc_state.specs.declared.waits.Arm.TheVariants.{Send as To, Receive as From, Accept as Entry}
use Rattle.pfc_state.specs.declared.waits.Why.TheVariants.{Call, Select, Barred}
use Rattle.pfc_world.specs.Partners.{plain_wait}
use Rattle.pfc_world.specs.Tables.{Table, at}
use Rattle.pfc_semantics.specs.Configurations.{Hand, empty_hand, offering, asking, barred_at, Activation, Activity}
use Rattle.pfc_semantics.specs.Remainders.{Open, Bar}
use Rattle.pfc_semantics.specs.Rewriting.{Doing}
use Rattle.pfc_semantics.specs.Selects.{may_terminate_at}
use Rattle.pfc_semantics.specs.Store.{Store}
use Rattle.pfc_stacks.specs.Stacks.{Stacks, stack_of}
use Rattle.pfc_cells.specs.Homes.{Homes}
use Rattle.pfc_cells.specs.Memory.{Entries}
use Rattle.pfc_machines.specs.declared.descriptors.Descriptor.{Descriptor}
use Rattle.pfc_machines.specs.Quiet.{tried_in}
use Rattle.pfc_representation.specs.Levels.{Facts, LivingLevel}
use Rattle.pfc_representation.specs.Hands.{shows_nothing, IsOffered, is_woken, waits_plainly, waits_selecting, IsBarred, HandIs}
use Rattle.pfc_representation.specs.Holding.{Holders, Holds}
use Rattle.pfc_representation.specs.Processes.{IsUnderWay, ActivationsAre, RepresentsProcess}
use Rattle.pfc_representation.specs.Keeping.{IsLender}
use Rattle.pfc_kept_object_actions.specs.Freed.{StandsStill, HasItsTurn}
use Rattle.pfc_kept_object_actions.proofs.Rows.{level_anew, trial_anew}
use Rattle.pfc_kept_object_actions.proofs.Freed.{holds_freed}

-- ## Who is barred shows its guard

not_plain : (arm : Arm) (r k n t : ℕ) (arms : List Arm) → Waits (plain_wait arm) n [] ≡ Waits (Barred r k) t arms → ⊥
not_plain (To c) r k n t arms h = cc
not_plain (From c) r k n t arms h = cc
not_plain (Entry e) r k n t arms h = cc

not_ready : (r k t : ℕ) (arms : List Arm) → Is_ready ≡ Waits (Barred r k) t arms → ⊥
not_ready r k t arms h = cc

not_selecting : (due : Option ℕ) (ends : Bool) (ticket r k t : ℕ) (os arms : List Arm) → Waits (Select due ends) ticket os ≡ Waits (Barred r k) t arms → ⊥
not_selecting due ends ticket r k t os arms h = cc

not_offered : (s : Stand) (os : List Open) (offered : List Arm) (r k t : ℕ) (arms : List Arm) → IsOffered s os offered → s ≡ Waits (Barred r k) t arms → ⊥
not_offered _ _ _ r k t arms (is_woken os offered) h = not_ready r k t arms h
not_offered _ _ _ r k t arms (waits_plainly o arm ticket) h = not_plain arm r k ticket t arms h
not_offered _ _ _ r k t arms (waits_selecting os offered due ticket) h = not_selecting due (may_terminate_at os) ticket r k t offered arms h

module _ (facts : Facts) (homes : Homes) (entries : Entries) (table : Table) (q : ℕ) (d : Descriptor) where
  -- its guard, with the wait at its procedure
  pub record ShowsGuard (level : LivingLevel) (to : ℕ) (ops : List ℤ) (stand : Stand) (doing : Doing) (hand : Hand) (r k t : ℕ) (arms : List Arm) : Type 0 where
    pub bar : Bar
    pub hand_is : hand ≡ barred_at bar
    pub offered : d.offered ≡ 0
    pub shown : IsBarred level to ops stand doing bar
    pub resource : bar.resource ≡ r
    pub procedure : bar.procedure ≡ k
    pub none : arms ≡ []

  by_wait : (level : LivingLevel) (to : ℕ) (ops : List ℤ) (stand : Stand) (doing : Doing) (bar : Bar) (r k t : ℕ) (arms : List Arm) → d.offered ≡ 0
      → IsBarred level to ops stand doing bar
      → stand ≡ Waits (Barred r k) t arms
      → (stand ≡ Is_ready) ⊎ ((ticket : ℕ) × (stand ≡ Waits (Barred bar.resource bar.procedure) ticket []))
      → ShowsGuard level to ops stand doing (barred_at bar) r k t arms
  by_wait level to ops stand doing bar r k t arms offered is waits (inl ready) = absurd (not_ready r k t arms (sym ready ∙ waits))
  by_wait level to ops stand doing bar r k t arms offered is waits (inr (ticket, barred)) =
      let both : Waits (Barred bar.resource bar.procedure) ticket [] ≡ Waits (Barred r k) t arms = sym barred ∙ waits in
      record {
        bar = bar;
        hand_is = refl;
        offered = offered;
        shown = is;
        resource = (let same : bar.resource ≡ r = cc in same);
        procedure = (let same : bar.procedure ≡ k = cc in same);
        none = (let same : arms ≡ [] = cc in same);
      }

  pub shows_guard : (level : LivingLevel) (to : ℕ) (ops : List ℤ) (stand : Stand) (doing : Doing) (hand : Hand) (r k t : ℕ) (arms : List Arm)
      → HandIs facts homes table entries q level to ops d stand doing hand → stand ≡ Waits (Barred r k) t arms
      → ShowsGuard level to ops stand doing hand r k t arms
  shows_guard level to ops stand doing empty_hand r k t arms is waits = absurd (let no : false ≡ true = ap shows_nothing (sym waits) ∙ is.1 in cc)
  shows_guard level to ops stand doing (offering x os left) r k t arms (inl is) waits = absurd (not_offered stand os _ r k t arms is.offered waits)
  shows_guard level to ops stand doing (offering x os left) r k t arms (inr is) waits = absurd (not_ready r k t arms (sym is.ready ∙ waits))
  shows_guard level to ops stand doing (asking values) r k t arms is waits =
      absurd (let no : Waits (Call is.1.owner is.1.entry) is.1.ticket [] ≡ Waits (Barred r k) t arms = sym is.1.waits ∙ waits in cc)
  shows_guard level to ops stand doing (barred_at bar) r k t arms is waits = by_wait level to ops stand doing bar r k t arms is.0 is.1 waits is.1.waits

-- ## Behind it

-- Process q was barred, and is ready now with the resource. Those who lend to it stand where they stood, and so does one whose guard it tries.
pub record IsLetOn (table table' : Table) (h : Holders) (q : ℕ) (d : Descriptor) : Type 0 where
  pub resource : ℕ
  pub procedure : ℕ
  pub ticket : ℕ
  pub barred : at table.rows q ≡ Waits (Barred resource procedure) ticket []
  pub ready : at table'.rows q ≡ Is_ready
  pub has : HasItsTurn h q (at table.rows q)
  pub lenders : (r : ℕ) → IsLender table q r → at table'.rows r ≡ at table.rows r
  pub tried : (r : ℕ) → tried_in d.scan ≡ Some r → StandsStill table table' r

module _ (facts : Facts) (homes : Homes) (entries : Entries) (store : Store) (stacks : Stacks) (table table' : Table) (h : Holders) (q : ℕ) (d : Descriptor)
    (on : IsLetOn table table' h q d) where
  under_way_on : (a : Activity) → IsUnderWay facts homes entries store stacks table h q a d → IsUnderWay facts homes entries store stacks table' h q a d
  under_way_on a is =
      let level : LivingLevel = is.level in
      let guard =
      shows_guard facts homes entries table q d level (stack_of stacks q).at (stack_of stacks q).operands (at table.rows q) a.doing a.hand on.resource
      on.procedure on.ticket [] is.hand on.barred in
      let hand : HandIs facts homes table' entries q level (stack_of stacks q).at (stack_of stacks q).operands d Is_ready a.doing (barred_at guard.bar) = (
        guard.offered,
        record { own = guard.shown.own; guard = guard.shown.guard; names = guard.shown.names; waits = inl refl; behind = guard.shown.behind },
      ) in
      record {
        unfinished = ap is_unfinished on.ready;
        level = level;
        stands =
            level_anew facts homes entries store stacks table table' q on.lenders h h d a level
            (subst (λ (y : Stand). Holds h q y level.setting.trial a.activations) (sym on.ready)
            (holds_freed h q (at table.rows q) level.setting.trial a.activations on.has is.stands.holds)) is.stands;
        within = is.within;
        hand =
            subst (λ (y : Stand). HandIs facts homes table' entries q level (stack_of stacks q).at (stack_of stacks q).operands d y a.doing a.hand)
            (sym on.ready)
            (subst (λ (y : Hand). HandIs facts homes table' entries q level (stack_of stacks q).at (stack_of stacks q).operands d Is_ready a.doing y)
            (sym guard.hand_is) hand);
        trial = trial_anew facts homes entries store stacks table table' d on.tried q level.setting.trial level a.activations is.trial;
      }

  activations_on : (xs : List Activation) (a : Activity) → ActivationsAre xs facts homes entries store stacks table h q a d
      → ActivationsAre xs facts homes entries store stacks table' h q a d
  activations_on [] a is = absurd (let no : true ≡ false = ap is_unfinished (sym on.barred) ∙ is.finished in cc)
  activations_on (x ∷ xs) a is = under_way_on a is

  pub let_on : (a : Activity) → RepresentsProcess facts homes entries store stacks table h q a d
      → RepresentsProcess facts homes entries store stacks table' h q a d
  let_on a is = record { line = is.line; spare = is.spare; activations = activations_on a.activations a is.activations }
