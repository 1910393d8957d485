-- A caller that waits for an entry: what it shows, and what becomes of it once its meeting has begun.
use Rattle.std.proofs.Common.{◌≡◌, ℕ, ◌==◌, ◌≤◌, ℤ, Bool, true, false, if◌then◌else◌, List, [], ◌∷◌, get_or, Option, Some, None, refl, sym, ap, ap₂, ◌∙◌, subst}
use Rattle.std.proofs.Common.{◌⊎◌, inl, inr}
use Rattle.std.specs.Prelude.{is_some}
use Rattle.pfc_state.specs.Stands.{Stand, Is_idle, Is_created, Is_ready, Is_done, Waits, is_unfinished, ticket_at}
use Rattle.pfc_state.specs.Waits.{same_why}
use Rattle.pfc_state.specs.declared.waits.Arm.{Arm as WaitArm}
use Rattle.pfc_state.specs.declared.waits.Arm.TheVariants.{Send as To, Receive as From, Accept as Entered}
use Rattle.pfc_state.specs.declared.waits.Why.{Why}
use Rattle.pfc_state.specs.declared.waits.Why.TheVariants.{Call, Meeting, Barred, Select}
use Rattle.pfc_world.specs.Partners.{plain_wait}
use Rattle.pfc_world.specs.Tables.{Table, at}
use Rattle.pfc_semantics.specs.Remainders.{Open}
use Rattle.pfc_semantics.specs.Store.{Store}
use Rattle.pfc_semantics.specs.Values.{Value}
use Rattle.pfc_semantics.specs.Configurations.{Hand, empty_hand, offering, asking, barred_at, Activation, Activity}
use Rattle.pfc_stacks.specs.declared.refs.Ref.{Ref}
use Rattle.pfc_stacks.specs.Refs.{word_of}
use Rattle.pfc_stacks.specs.Stacks.{Stacks, stack_of, last_activation}
use Rattle.pfc_cells.specs.Homes.{Homes}
use Rattle.pfc_cells.specs.Memory.{Entries}
use Rattle.pfc_machines.specs.declared.descriptors.Descriptor.{Descriptor}
use Rattle.pfc_standing_code.specs.Settings.{Trial, of_own}
use Rattle.pfc_views.specs.Keeping.{IsLike}
use Rattle.pfc_representation.specs.Levels.{Facts, program_in, LivingLevel, is_met_by, MayKeep, IsSeenBy, DoesOn}
use Rattle.pfc_representation.specs.Rooms.{own_address}
use Rattle.pfc_representation.specs.Callers.{IsWithin, AreCallers}
use Rattle.pfc_representation.specs.Hands.{IsOffered, is_woken, waits_plainly, waits_selecting, Asks, HandIs, shows_nothing}
use Rattle.pfc_representation.specs.Holding.{Holders, Holds}
use Rattle.pfc_representation.specs.Keeping.{IsLender}
use Rattle.pfc_representation.specs.Trials.{TrialIs}
use Rattle.pfc_representation.specs.Processes.{IsAtLevel, IsUnderWay, ActivationsAre, RepresentsProcess}
use Rattle.pfc_representation.proofs.Kept.{seen_still, callers_still}
use Rattle.pfc_kept_messages.proofs.Held.{WaitsForNone, holds_anew}
use Rattle.pfc_kept_messages.proofs.Others.{lender_waits}
use Rattle.pfc_kept_messages.proofs.Waiting.{not_empty}
use Rattle.pfc_call_laws.proofs.Displays.{same_of}
use Rattle.pfc_call_laws.proofs.Places.{and_both}

-- ## Who calls

calls_why : (why : Why) (p e : ℕ) → same_why why (Call p e) ≡ true → why ≡ Call p e
calls_why (Call q f) p e is =
    let both = and_both (q == p) (f == e) is in ap₂ (λ n j. Call n j) (same_of q p both.0) (same_of f e both.1)
calls_why why p e is = absurd (let no : false ≡ true = is in (let none : ⊥ = cc in none))

calls_by : (why : Why) (p e t : ℕ) (arms : List WaitArm) (b : Bool) → same_why why (Call p e) ≡ b → is_some (if b then Some t else None) ≡ true
    → Waits why t arms ≡ Waits (Call p e) t arms
calls_by why p e t arms true is h = ap (λ (y : Why). Waits y t arms) (calls_why why p e is)
calls_by why p e t arms false is h = absurd (let no : false ≡ true = h in (let none : ⊥ = cc in none))

pub calling : (p e : ℕ) (s : Stand) → is_some (ticket_at (Call p e) s) ≡ true → (t : ℕ) × (arms : List WaitArm) × (s ≡ Waits (Call p e) t arms)
calling p e (Waits why t arms) h = (t, arms, calls_by why p e t arms (same_why why (Call p e)) refl h)
calling p e Is_idle h = absurd (let no : false ≡ true = h in (let none : ⊥ = cc in none))
calling p e Is_created h = absurd (let no : false ≡ true = h in (let none : ⊥ = cc in none))
calling p e Is_ready h = absurd (let no : false ≡ true = h in (let none : ⊥ = cc in none))
calling p e Is_done h = absurd (let no : false ≡ true = h in (let none : ⊥ = cc in none))

-- ## What it shows

no_plain : (w : WaitArm) (t u p e : ℕ) (arms : List WaitArm) → Waits (plain_wait w) t [] ≡ Waits (Call p e) u arms → ⊥
no_plain (To n) t u p e arms h = cc
no_plain (From n) t u p e arms h = cc
no_plain (Entered n) t u p e arms h = cc

selects_no_call : (due : Option ℕ) (ends : Bool) (u : ℕ) (arms : List WaitArm) (p e t : ℕ) (waits : List WaitArm)
    → Waits (Select due ends) u arms ≡ Waits (Call p e) t waits → ⊥
selects_no_call due ends u arms p e t waits h = cc

offers_no_call : (s : Stand) (os : List Open) (arms : List WaitArm) (p e t : ℕ) (waits : List WaitArm) → IsOffered s os arms → s ≡ Waits (Call p e) t waits → ⊥
offers_no_call _ _ _ p e t waits (is_woken os arms) h = (let no : Is_ready ≡ Waits (Call p e) t waits = h in cc)
offers_no_call _ _ _ p e t waits (waits_plainly o w u) h = no_plain w u t p e waits h
offers_no_call _ _ _ p e t waits (waits_selecting os arms due u) h = selects_no_call due _ u arms p e t waits h

module _ (facts : Facts) (homes : Homes) (entries : Entries) (store : Store) (stacks : Stacks) (table : Table) (h : Holders) (q : ℕ) (a : Activity)
    (d : Descriptor) (p e t : ℕ) (arms : List WaitArm) (calls : at table.rows q ≡ Waits (Call p e) t arms) where
  pub record IsAsking : Type 0 where
    pub under_way : IsUnderWay facts homes entries store stacks table h q a d
    pub values : List Value
    pub hand : a.hand ≡ asking values
    pub offered : d.offered ≡ 0
    pub asks : Asks facts homes table entries q under_way.level (stack_of stacks q).at (stack_of stacks q).operands d.communications.callers
        (at table.rows q) a.doing values

  by_hand : (is : IsUnderWay facts homes entries store stacks table h q a d) (hand : Hand) → a.hand ≡ hand
      → HandIs facts homes table entries q is.level (stack_of stacks q).at (stack_of stacks q).operands d (at table.rows q) a.doing hand → IsAsking
  by_hand is empty_hand same shown = absurd (let no : false ≡ true = sym (ap shows_nothing calls) ∙ shown.1 in (let none : ⊥ = cc in none))
  by_hand is (offering x os k) same (inl shown) = absurd (offers_no_call (at table.rows q) os _ p e t arms shown.offered calls)
  by_hand is (offering x os k) same (inr shown) = absurd (let no : Is_ready ≡ Waits (Call p e) t arms = sym shown.ready ∙ calls in cc)
  by_hand is (asking values) same shown = record { under_way = is; values = values; hand = same; offered = shown.0; asks = shown.1 }
  by_hand is (barred_at bar) same shown = absurd (by_waits shown.1.waits)
    where
      by_waits : (at table.rows q ≡ Is_ready) ⊎ ((ticket : ℕ) × (at table.rows q ≡ Waits (Barred bar.resource bar.procedure) ticket [])) → ⊥
      by_waits (inl ready) = (let no : Is_ready ≡ Waits (Call p e) t arms = sym ready ∙ calls in cc)
      by_waits (inr barred) = (let no : Waits (Barred bar.resource bar.procedure) barred.0 [] ≡ Waits (Call p e) t arms = sym barred.1 ∙ calls in cc)

  by_activations : (xs : List Activation) → ActivationsAre xs facts homes entries store stacks table h q a d → IsAsking
  by_activations [] is = absurd (let no : true ≡ false = sym (ap is_unfinished calls) ∙ is.finished in (let none : ⊥ = cc in none))
  by_activations (x ∷ xs) is = by_hand is a.hand refl is.hand

  pub is_asking : RepresentsProcess facts homes entries store stacks table h q a d → IsAsking
  is_asking is = by_activations a.activations is.activations

  -- it asks this owner
  pub asked_is : (asking_so : IsAsking) → (asking_so.asks.owner ≡ p) × (asking_so.asks.entry ≡ e)
      × (at table.rows q ≡ Waits (Call p e) asking_so.asks.ticket [])
  asked_is asking_so =
      let both : Waits (Call asking_so.asks.owner asking_so.asks.entry) asking_so.asks.ticket [] ≡ Waits (Call p e) t arms = sym asking_so.asks.waits ∙ calls in
      let one : asking_so.asks.owner ≡ p = cc in
      let two : asking_so.asks.entry ≡ e = cc in
      (one, two, asking_so.asks.waits ∙ ap₂ (λ n j. Waits (Call n j) asking_so.asks.ticket []) one two)

-- ## In the meeting

module _ (facts : Facts) (homes : Homes) (entries : Entries) (store store' : Store) (stacks stacks' : Stacks) (table table' : Table) (h : Holders) (q : ℕ)
    (a : Activity) (d : Descriptor) (is : IsUnderWay facts homes entries store stacks table h q a d) (own : is.level.setting.trial ≡ of_own)
    (offered : d.offered ≡ 0)
    (p ticket : ℕ) (row : at table'.rows q ≡ Waits (Meeting p) ticket [])
    (none : WaitsForNone h.owners (at table.rows q))
    (stay : (r s : ℕ) → is_met_by (at table.rows r) s → at table'.rows r ≡ at table.rows r)
    (like : (keeps : ℕ → Bool) → ((y : ℕ) → keeps y ≡ true → (lenders : List ℕ) × MayKeep table entries q lenders (entries q) y)
    → IsLike (program_in facts) keeps homes homes entries entries store store')
    (below : List ℤ) (place : (stack_of stacks' q).at ≡ (stack_of stacks q).at) (base : (stack_of stacks' q).base ≡ (stack_of stacks q).base)
    (operands : (stack_of stacks' q).operands ≡ below) (room : (stack_of stacks' q).room ≡ (stack_of stacks q).room)
    (spare : (stack_of stacks' q).spare ≡ (stack_of stacks q).spare) (looks : (stack_of stacks' q).looks_from ≡ (stack_of stacks q).looks_from)
    (behind : DoesOn is.level (stack_of stacks q).at below a.doing) where
  abbrev level : LivingLevel
  level = is.level

  abbrev a' : Activity
  a' = record a { hand = empty_hand }

  abbrev w : ℤ
  w = word_of (last_activation stacks q)

  same_place : last_activation stacks' q ≡ last_activation stacks q
  same_place = ap (λ n. record { process = q; cell = n }) base

  lenders_stay : (r : ℕ) → IsLender table q r → (at table'.rows r ≡ at table.rows r) × (entries r ≡ entries r)
  lenders_stay r lender = (let waits = lender_waits table q r lender in (stay r waits.0 waits.1, refl))

  level_then : IsAtLevel facts homes entries store' stacks' table' h q a' d level
  level_then =
      let old = is.stands in
      record {
        count = old.count;
        seen =
            subst (λ (y : Ref). IsSeenBy facts homes entries store' table' q d.communications.callers (entries q) (word_of y) a.display level) (sym same_place)
            (seen_still facts q homes homes entries entries store store' table table' (entries q) (λ n home at. at) like lenders_stay d.communications.callers
            (entries q) w a.display level (λ n among. among) old.seen);
        callers =
            subst (λ n. AreCallers facts homes entries store' table' q n level (word_of (last_activation stacks' q)) d.communications a.activations (entries q))
            (sym room)
            (subst (λ (y : Ref). AreCallers facts homes entries store' table' q (stack_of stacks q).room level (word_of y) d.communications a.activations
            (entries q)) (sym same_place)
            (callers_still facts q homes homes entries entries store store' table table' (entries q) (λ n home at. at) like lenders_stay
            (stack_of stacks q).room level w d.communications a.activations (entries q) (λ n among. among) old.callers));
        room = subst (λ n. level.setting.room ≤ n) (sym room) old.room;
        accepts = old.accepts;
        met = record {
          waiting = λ k y inside. subst (λ (s : Stand). is_met_by s q)
              (sym (stay (get_or d.communications.callers k y) q (old.met.waiting k y inside))) (old.met.waiting k y inside);
          once = old.met.once;
        };
        holds =
            subst (λ (s : Stand). Holds h q s level.setting.trial a.activations) (sym row)
            (holds_anew h q (at table.rows q) (Waits (Meeting p) ticket []) level.setting.trial a.activations none old.holds);
      }

  at_own : ((stack_of stacks' q).looks_from ≡ None) × (d.scan ≡ None)
  at_own =
      let old = subst (λ (t : Trial). TrialIs t facts homes entries store stacks table q level a.activations d) own is.trial in (looks ∙ old.0, old.1)

  under_way : IsUnderWay facts homes entries store' stacks' table' h q a' d
  under_way =
      record {
        unfinished = ap is_unfinished row;
        level = level;
        stands = level_then;
        within = subst (λ n. IsWithin facts level (own_address level.setting.trial n) d.communications) (sym place) is.within;
        hand = (
          offered,
          ap shows_nothing row,
          subst (λ n. DoesOn level n (stack_of stacks' q).operands a.doing) (sym place)
              (subst (λ (ops : List ℤ). DoesOn level (stack_of stacks q).at ops a.doing) (sym operands) behind),
        );
        trial = subst (λ (t : Trial). TrialIs t facts homes entries store' stacks' table' q level a.activations d) (sym own) at_own;
      }

  pub met_kept : RepresentsProcess facts homes entries store stacks table h q a d → RepresentsProcess facts homes entries store' stacks' table' h q a' d
  met_kept old =
      record {
        line = old.line;
        spare = spare ∙ old.spare;
        activations =
            not_empty facts homes entries store' stacks' table' h q (stack_of stacks' q).room level (word_of (last_activation stacks' q)) d.communications
            a.activations (entries q) a' d level_then.callers under_way;
      }
