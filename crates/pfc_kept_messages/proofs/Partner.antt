-- A process that waits in a communication is met: it goes on behind its alternative, and what it offered is gone.
use Rattle.std.proofs.Common.{◌≡◌, ℕ, zero, suc, ◌<◌, ℤ, Bool, true, false, List, [], ◌∷◌, ◌++◌, length, set, Option, None, refl, sym, ap, ◌∙◌, subst, ◌⊎◌, inl}
use Rattle.std.proofs.Common.{inr}
use Rattle.std.specs.Prelude.{is_some}
use Rattle.std.proofs.lemmas.List.{get_or-set_same}
use Rattle.pfc_code.specs.declared.images.Block.{Block as CodeBlock}
use Rattle.pfc_state.specs.Stands.{Stand, Is_idle, Is_created, Is_ready, Is_done, Waits, is_unfinished}
use Rattle.pfc_state.specs.declared.waits.Why.{Why}
use Rattle.pfc_state.specs.declared.waits.Why.TheVariants.{Send, Receive, Accept, Select, Barred, Meeting}
use Rattle.pfc_state.specs.declared.waits.Arm.{Arm as WaitArm}
use Rattle.pfc_state.specs.declared.waits.Arm.TheVariants.{Send as To, Receive as From, Accept as Entered}
use Rattle.pfc_world.specs.Partners.{ticket_open_to}
use Rattle.pfc_world.specs.Tables.{Table, at}
use Rattle.pfc_semantics.specs.Remainders.{Context, Open, Remainder}
use Rattle.pfc_semantics.specs.Rewriting.{Doing}
use Rattle.pfc_semantics.specs.Store.{Store}
use Rattle.pfc_semantics.specs.Configurations.{Hand, empty_hand, offering, asking, barred_at, Activation, Activity, at_work}
use Rattle.pfc_translation.specs.Images.{image_of}
use Rattle.pfc_stacks.specs.Refs.{word_of}
use Rattle.pfc_stacks.specs.Stacks.{Stack, Stacks, no_stack, stack_of, last_activation}
use Rattle.pfc_cells.specs.Homes.{Homes}
use Rattle.pfc_cells.specs.Memory.{Entry, Entries}
use Rattle.pfc_machines.specs.declared.descriptors.Descriptor.{Descriptor}
use Rattle.pfc_machines.specs.declared.alternatives.Alternative.{Alternative}
use Rattle.pfc_machines.specs.declared.rooms.Room.{Room}
use Rattle.pfc_machines.specs.Communications.{Communicating}
use Rattle.pfc_machines.specs.Descriptors.{withdrawn}
use Rattle.pfc_machines.specs.Offers.{without, without_last}
use Rattle.pfc_standing_code.specs.Settings.{Trial, of_own}
use Rattle.pfc_representation.specs.Levels.{Facts, program_in, LivingLevel, block_of, IsBlockAt, is_met_by, DoesOn}
use Rattle.pfc_representation.specs.Rooms.{room_in, own_address, HasRoom, HasRoomFor, IsInBlock, LeadWithin}
use Rattle.pfc_representation.specs.Callers.{IsMadeOver, is_unmade, IsWithin, AreCallers}
use Rattle.pfc_representation.specs.Alternatives.{AreMade, none_made}
use Rattle.pfc_representation.specs.Hands.{shows_nothing, Offers, HandIs}
use Rattle.pfc_representation.specs.Holding.{Holders, Holds, is_quiet, waits_at_coend}
use Rattle.pfc_representation.specs.Trials.{TrialIs}
use Rattle.pfc_representation.specs.Processes.{IsAtLevel, IsUnderWay, ActivationsAre, RepresentsProcess}
use Rattle.pfc_kept_own_actions.proofs.Within.{room_anywhere}
use Rattle.pfc_kept_object_actions.proofs.Rows.{level_anew}
use Rattle.pfc_kept_messages.proofs.Held.{WaitsForNone, holds_anew}
use Rattle.pfc_kept_messages.proofs.Others.{lender_waits, IsBarredStand}
use Rattle.pfc_kept_messages.proofs.Made.{gone}
use Rattle.pfc_kept_messages.proofs.Rearmed.{AreInstead, level_again}
use Rattle.pfc_kept_messages.proofs.Waiting.{not_empty}

-- ## Who waits in a communication

-- in a plain one or in a select
abbrev pub is_open_at : Why → Bool
is_open_at (Send c) = true
is_open_at (Receive c) = true
is_open_at (Accept e) = true
is_open_at (Select due terminate) = true
is_open_at why = false

abbrev pub is_open_stand : Stand → Bool
is_open_stand (Waits why ticket arms) = is_open_at why
is_open_stand stand = false

no_ticket_at : (want : WaitArm) (why : Why) (t : ℕ) (arms : List WaitArm) → is_open_at why ≡ false → ticket_open_to want (Waits why t arms) ≡ None
no_ticket_at (To c) (Send e) t arms h = absurd (let no : true ≡ false = h in cc)
no_ticket_at (To c) (Receive e) t arms h = absurd (let no : true ≡ false = h in cc)
no_ticket_at (To c) (Accept e) t arms h = absurd (let no : true ≡ false = h in cc)
no_ticket_at (To c) (Select due ends) t arms h = absurd (let no : true ≡ false = h in cc)
no_ticket_at (To c) why t arms h = refl
no_ticket_at (From c) (Send e) t arms h = absurd (let no : true ≡ false = h in cc)
no_ticket_at (From c) (Receive e) t arms h = absurd (let no : true ≡ false = h in cc)
no_ticket_at (From c) (Accept e) t arms h = absurd (let no : true ≡ false = h in cc)
no_ticket_at (From c) (Select due ends) t arms h = absurd (let no : true ≡ false = h in cc)
no_ticket_at (From c) why t arms h = refl
no_ticket_at (Entered c) (Send e) t arms h = absurd (let no : true ≡ false = h in cc)
no_ticket_at (Entered c) (Receive e) t arms h = absurd (let no : true ≡ false = h in cc)
no_ticket_at (Entered c) (Accept e) t arms h = absurd (let no : true ≡ false = h in cc)
no_ticket_at (Entered c) (Select due ends) t arms h = absurd (let no : true ≡ false = h in cc)
no_ticket_at (Entered c) why t arms h = refl

open_by_ticket : (want : WaitArm) (why : Why) (t : ℕ) (arms : List WaitArm) (b : Bool) → is_open_at why ≡ b
    → is_some (ticket_open_to want (Waits why t arms)) ≡ true → b ≡ true
open_by_ticket want why t arms true is h = refl
open_by_ticket want why t arms false is h = ap (λ (o : Option ℕ). is_some o) (sym (no_ticket_at want why t arms is)) ∙ h

-- who has a ticket for a communication waits in one
pub open_stand : (want : WaitArm) (s : Stand) → is_some (ticket_open_to want s) ≡ true → is_open_stand s ≡ true
open_stand want Is_idle h = h
open_stand want Is_created h = h
open_stand want Is_ready h = h
open_stand want Is_done h = h
open_stand want (Waits why t arms) h = open_by_ticket want why t arms (is_open_at why) refl h

pub open_unfinished : (s : Stand) → is_open_stand s ≡ true → is_unfinished s ≡ true
open_unfinished (Waits why t arms) h = refl
open_unfinished s h = absurd (let no : false ≡ true = h in cc)

pub open_awake : (s : Stand) → is_open_stand s ≡ true → is_quiet s ≡ false
open_awake (Waits why t arms) h = refl
open_awake s h = absurd (let no : false ≡ true = h in cc)

shown_at : (why : Why) (t : ℕ) (arms : List WaitArm) → is_open_at why ≡ true → shows_nothing (Waits why t arms) ≡ false
shown_at (Send c) t arms h = refl
shown_at (Receive c) t arms h = refl
shown_at (Accept e) t arms h = refl
shown_at (Select due ends) t arms h = refl
shown_at why t arms h = absurd (let no : false ≡ true = h in cc)

open_shows : (s : Stand) → is_open_stand s ≡ true → shows_nothing s ≡ false
open_shows (Waits why t arms) h = shown_at why t arms h
open_shows s h = absurd (let no : false ≡ true = h in cc)

no_coend_at : (why : Why) (t : ℕ) (arms : List WaitArm) → is_open_at why ≡ true → waits_at_coend (Waits why t arms) ≡ false
no_coend_at (Send c) t arms h = refl
no_coend_at (Receive c) t arms h = refl
no_coend_at (Accept e) t arms h = refl
no_coend_at (Select due ends) t arms h = refl
no_coend_at why t arms h = absurd (let no : false ≡ true = h in cc)

pub open_no_coend : (s : Stand) → is_open_stand s ≡ true → waits_at_coend s ≡ false
open_no_coend (Waits why t arms) h = no_coend_at why t arms h
open_no_coend s h = absurd (let no : false ≡ true = h in cc)

no_monitor_at : (owners : List ℕ) (why : Why) (t : ℕ) (arms : List WaitArm) → is_open_at why ≡ true → WaitsForNone owners (Waits why t arms)
no_monitor_at owners (Send c) t arms h = record { monitors = λ n. refl; resources = λ n. refl }
no_monitor_at owners (Receive c) t arms h = record { monitors = λ n. refl; resources = λ n. refl }
no_monitor_at owners (Accept e) t arms h = record { monitors = λ n. refl; resources = λ n. refl }
no_monitor_at owners (Select due ends) t arms h = record { monitors = λ n. refl; resources = λ n. refl }
no_monitor_at owners why t arms h = absurd (let no : false ≡ true = h in cc)

open_waits : (owners : List ℕ) (s : Stand) → is_open_stand s ≡ true → WaitsForNone owners s
open_waits owners (Waits why t arms) h = no_monitor_at owners why t arms h
open_waits owners s h = absurd (let no : false ≡ true = h in cc)

-- it is in no rendezvous of another, and at no guard
unmet_at : (why : Why) (t : ℕ) (arms : List WaitArm) (p : ℕ) → is_open_at why ≡ true → is_met_by (Waits why t arms) p → ⊥
unmet_at (Meeting owner) t arms p h met = (let no : false ≡ true = h in cc)
unmet_at why t arms p h met = absurd met

pub open_unmet : (s : Stand) (p : ℕ) → is_open_stand s ≡ true → is_met_by s p → ⊥
open_unmet (Waits why t arms) p h met = unmet_at why t arms p h met
open_unmet s p h met = absurd (let no : false ≡ true = h in cc)

pub open_unbarred : (s : Stand) → is_open_stand s ≡ true → IsBarredStand s → ⊥
open_unbarred s h barred = (let no : false ≡ true = ap is_open_stand (sym barred.is) ∙ h in cc)

pub open_not_ready : (s : Stand) → is_open_stand s ≡ true → s ≡ Is_ready → ⊥
open_not_ready s h ready = (let no : false ≡ true = ap is_open_stand (sym ready) ∙ h in cc)

pub open_not_idle : (s : Stand) → is_open_stand s ≡ true → s ≡ Is_idle → ⊥
open_not_idle s h idle = (let no : false ≡ true = ap is_open_stand (sym idle) ∙ h in cc)

-- ## What it offers

module _ (facts : Facts) (homes : Homes) (entries : Entries) (store : Store) (stacks : Stacks) (table : Table) (h : Holders) (q : ℕ) (a : Activity)
    (d : Descriptor)
    (waits : is_open_stand (at table.rows q) ≡ true) where
  -- its level, and what it shows
  pub record IsShowing : Type 0 where
    pub under_way : IsUnderWay facts homes entries store stacks table h q a d
    pub context : Context
    pub opened : List Open
    pub left : Remainder
    pub hand : a.hand ≡ offering context opened left
    pub offers : Offers under_way.level (stack_of stacks q).at (stack_of stacks q).operands d (at table.rows q) a.doing context opened left

  by_hand : (is : IsUnderWay facts homes entries store stacks table h q a d) (hand : Hand) → a.hand ≡ hand
      → HandIs facts homes table entries q is.level (stack_of stacks q).at (stack_of stacks q).operands d (at table.rows q) a.doing hand → IsShowing
  by_hand is empty_hand same shown = absurd (let no : false ≡ true = sym (open_shows (at table.rows q) waits) ∙ shown.1 in cc)
  by_hand is (offering x os k) same (inl shown) = record { under_way = is; context = x; opened = os; left = k; hand = same; offers = shown }
  by_hand is (offering x os k) same (inr shown) = absurd (open_not_ready (at table.rows q) waits shown.ready)
  by_hand is (asking values) same shown = absurd (let no : false ≡ true = ap is_open_stand (sym shown.1.waits) ∙ waits in cc)
  by_hand is (barred_at bar) same shown = absurd (by_waits shown.1.waits)
    where
      by_waits : (at table.rows q ≡ Is_ready) ⊎ ((ticket : ℕ) × (at table.rows q ≡ Waits (Barred bar.resource bar.procedure) ticket [])) → ⊥
      by_waits (inl ready) = open_not_ready (at table.rows q) waits ready
      by_waits (inr barred) = (let no : false ≡ true = ap is_open_stand (sym barred.1) ∙ waits in cc)

  by_activations : (xs : List Activation) → ActivationsAre xs facts homes entries store stacks table h q a d → IsShowing
  by_activations [] is = absurd (let no : true ≡ false = sym (open_unfinished (at table.rows q) waits) ∙ is.finished in cc)
  by_activations (x ∷ xs) is = by_hand is a.hand refl is.hand

  pub showing_it : RepresentsProcess facts homes entries store stacks table h q a d → IsShowing
  showing_it is = by_activations a.activations is.activations

-- ## What is gone

last_keeps : (e : Communicating) (made : List Alternative) → ((without_last e made).room ≡ e.room) × ((without_last e made).callers ≡ e.callers)
last_keeps e [] = (refl, refl)
last_keeps e (a ∷ made) = (refl, refl)

without_keeps : (n : ℕ) (e : Communicating) → ((without n e).room ≡ e.room) × ((without n e).callers ≡ e.callers)
without_keeps zero e = (refl, refl)
without_keeps (suc n) e =
    let rest = without_keeps n (without_last e e.alternatives) in
    let last = last_keeps e e.alternatives in
    (rest.0 ∙ last.0, rest.1 ∙ last.1)

module _ (facts : Facts) (homes : Homes) (entries : Entries) (store : Store) (table : Table) (q : ℕ) (level : LivingLevel) where
  -- all that its last activation has made is gone
  unmade : (count offered : ℕ) (latest : Communicating) → offered ≡ length level.arms
      → AreInstead facts homes entries store table q level [] count latest (without offered latest)
  unmade count offered latest all =
      record {
        room = (without_keeps offered latest).0;
        callers = (without_keeps offered latest).1;
        made = λ earlier is. made_before earlier is.0 is.1 is.2;
        leads = λ n b block old. tt;
        accepts = λ old. tt;
      }
    where
      made_before : (earlier : Communicating) → earlier.room ≡ latest.room → latest.callers ≡ level.setting.meetings ++ earlier.callers
          → AreMade count earlier.alternatives earlier.words level.arms latest.alternatives latest.words
          → IsMadeOver count (record level { arms = [] }) earlier (without offered latest)
      made_before earlier room callers are =
          let rest : without offered latest ≡ record
          { alternatives = earlier.alternatives; words = earlier.words; callers = latest.callers; room = latest.room } =
          ap (λ n. without n latest) all
          ∙ gone count earlier.alternatives earlier.words level.arms latest.alternatives latest.words latest.callers latest.room are in (
            room ∙ sym (without_keeps offered latest).0,
            (without_keeps offered latest).1 ∙ callers,
            subst (λ (e : Communicating). AreMade count earlier.alternatives earlier.words [] e.alternatives e.words) (sym rest) none_made,
          )

  -- and the branches of all lead into the code of its block, where there is room again
  record HasBranches (latest : Communicating) : Type 0 where
    number : ℕ
    code : CodeBlock
    is : IsBlockAt (program_in facts) (image_of facts.tree).blocks number (block_of level) code
    branches : LeadWithin facts number level.arms
    room : HasRoomFor latest (room_in facts number)

  over_earlier : (count offered room k : ℕ) (code : CodeBlock) (earlier latest : Communicating) → offered ≡ length level.arms
      → IsBlockAt (program_in facts) (image_of facts.tree).blocks k (block_of level) code → HasRoom facts room level k earlier
      → IsMadeOver count level earlier latest
      → HasBranches (without offered latest)
  over_earlier count offered room k code earlier latest all block fits is =
      let rest : without offered latest ≡ record { alternatives = earlier.alternatives; words = earlier.words; callers = latest.callers; room = latest.room } =
      ap (λ n. without n latest) all
      ∙ gone count earlier.alternatives earlier.words level.arms latest.alternatives latest.words latest.callers latest.room is.2 in
      record {
        number = k;
        code = code;
        is = block;
        branches = fits.branches;
        room =
            subst (λ (e : Communicating). HasRoomFor e (room_in facts k)) (sym rest)
            (subst (λ (r : Room). HasRoomFor (record { alternatives = earlier.alternatives; words = earlier.words; callers = latest.callers; room = r })
            (room_in facts k)) is.0
            (fits.made.0, fits.made.1, fits.made.2));
      }

  branches_of : (room : ℕ) (w : ℤ) (offered : ℕ) (latest : Communicating) (xs : List Activation) (es : List Entry) → offered ≡ length level.arms
      → AreCallers facts homes entries store table q room level w latest xs es → HasBranches (without offered latest)
  branches_of room w offered latest [] es all is = absurd is
  branches_of room w offered latest (a ∷ xs) [] all is = absurd is
  branches_of room w offered latest (a ∷ []) (e ∷ []) all is =
      over_earlier 1 offered room is.own.block is.stands.code (is_unmade latest) latest all is.stands.is is.fits is.made
  branches_of room w offered latest (a ∷ []) (e ∷ f ∷ es) all is = absurd is
  branches_of room w offered latest (a ∷ b ∷ xs) (e ∷ []) all is = absurd is
  branches_of room w offered latest (a ∷ b ∷ xs) (e ∷ f ∷ es) all (outer, v, earlier, called, within, others) =
      over_earlier (length (a ∷ b ∷ xs)) offered room called.own.block called.stands.code earlier latest all called.stands.is called.fits called.made

-- ## Behind the alternative

module _ (facts : Facts) (homes : Homes) (entries : Entries) (store : Store) (stacks : Stacks) (table table' : Table) (h : Holders) (q : ℕ) (a : Activity)
    (d : Descriptor)
    (waits : is_open_stand (at table.rows q) ≡ true) (ready : at table'.rows q ≡ Is_ready)
    (met : (r s : ℕ) → is_met_by (at table.rows r) s → at table'.rows r ≡ at table.rows r) (there : q < length stacks)
    (is : IsUnderWay facts homes entries store stacks table h q a d) (own : is.level.setting.trial ≡ of_own) (all : d.offered ≡ length is.level.arms)
    (branch : ℕ) (leads : (n : ℕ) → LeadWithin facts n is.level.arms → IsInBlock facts n branch) where
  abbrev level : LivingLevel
  level = is.level

  abbrev level' : LivingLevel
  level' = record level { arms = [] }

  abbrev latest : Communicating
  latest = without d.offered d.communications

  abbrev pub stacks' : Stacks
  stacks' = set stacks q (record (stack_of stacks q) { at = branch })

  module _ (doing : Doing) (does : DoesOn level' branch (stack_of stacks q).operands doing) where
    abbrev a' : Activity
    a' = at_work a doing

    abbrev d' : Descriptor
    d' = withdrawn d

    here : stack_of stacks' q ≡ record (stack_of stacks q) { at = branch }
    here = get_or-set_same stacks q (record (stack_of stacks q) { at = branch }) no_stack there

    level_there : IsAtLevel facts homes entries store stacks table' h q a d level
    level_there =
        level_anew facts homes entries store stacks table table' q
        (λ r lender. let waiting = lender_waits table q r lender in met r waiting.0 waiting.1) h h d a level
        (subst (λ (s : Stand). Holds h q s level.setting.trial a.activations) (sym ready)
        (holds_anew h q (at table.rows q) Is_ready level.setting.trial a.activations (open_waits h.owners (at table.rows q) waits) is.stands.holds))
        is.stands

    level_then : IsAtLevel facts homes entries store stacks' table' h q a' d' level'
    level_then =
        level_again facts homes entries store table' q level [] stacks stacks' h a d latest
        (unmade facts homes entries store table' q level d.activations d.offered d.communications all)
        (ap (λ (s : Stack). record { process = q; cell = s.base }) here) (ap (λ (s : Stack). s.room) here) doing empty_hand a.line d.line 0 level_there

    within_then : IsWithin facts level' branch latest
    within_then =
        let has = branches_of facts homes entries store table q level (stack_of stacks q).room
        (word_of (last_activation stacks q)) d.offered d.communications a.activations (entries q) all
        is.stands.callers in
        let inside = leads has.number has.branches has.code has.is.0 in (
          has.number,
          has.code,
          has.is,
          record { entry = inside.0; before = inside.1; rest = room_anywhere facts has.number has.code branch latest has.is.0 inside.0 has.room },
        )

    at_own : ((stack_of stacks' q).looks_from ≡ None) × (d.scan ≡ None)
    at_own =
        let old = subst (λ (t : Trial). TrialIs t facts homes entries store stacks table q level a.activations d) own is.trial in
        (ap (λ (s : Stack). s.looks_from) here ∙ old.0, old.1)

    under_way : IsUnderWay facts homes entries store stacks' table' h q a' d'
    under_way =
        record {
          unfinished = ap is_unfinished ready;
          level = level';
          stands = level_then;
          within =
              subst (λ (t : Trial). IsWithin facts level' (own_address t (stack_of stacks' q).at) latest) (sym own)
              (subst (λ (s : Stack). IsWithin facts level' s.at latest) (sym here) within_then);
          hand = (refl, ap shows_nothing ready, subst (λ (s : Stack). DoesOn level' s.at s.operands doing) (sym here) does);
          trial = subst (λ (t : Trial). TrialIs t facts homes entries store stacks' table' q level' a'.activations d') (sym own) at_own;
        }

    pub behind_kept : RepresentsProcess facts homes entries store stacks table h q a d → RepresentsProcess facts homes entries store stacks' table' h q a' d'
    behind_kept old =
        record {
          line = old.line;
          spare = ap (λ (s : Stack). s.spare) here ∙ old.spare;
          activations =
              not_empty facts homes entries store stacks' table' h q (stack_of stacks' q).room level'
              (word_of (last_activation stacks' q)) latest a.activations (entries q) a' d'
              level_then.callers under_way;
        }
