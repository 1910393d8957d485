-- The clause of a process is kept where some processes are let on, itself or others.
use Rattle.std.proofs.Common.{◌≡◌, ℕ, ℤ, List, [], ◌∷◌, ◌++◌, length, get_or, All, refl, ◌⊎◌, inl, inr}
use Rattle.pfc_state.specs.Stands.{Stand, Is_ready, Waits}
use Rattle.pfc_state.specs.declared.waits.Why.TheVariants.{Call, Barred}
use Rattle.pfc_world.specs.Tables.{Table, at}
use Rattle.pfc_semantics.specs.Configurations.{Mark, plain, of_monitor, of_resource, Hand, empty_hand, offering, asking, barred_at, Activation, Activity}
use Rattle.pfc_semantics.specs.Displays.{Display}
use Rattle.pfc_semantics.specs.Programs.{Block}
use Rattle.pfc_semantics.specs.Rewriting.{Doing}
use Rattle.pfc_semantics.specs.Store.{Store}
use Rattle.pfc_semantics.specs.Values.{Value, ordinal, compound, points}
use Rattle.pfc_stacks.specs.Refs.{word_of}
use Rattle.pfc_stacks.specs.Stacks.{Stacks, stack_of, last_activation}
use Rattle.pfc_cells.specs.Homes.{Homes}
use Rattle.pfc_cells.specs.Memory.{Entry, Entries}
use Rattle.pfc_machines.specs.Communications.{Communicating}
use Rattle.pfc_machines.specs.declared.descriptors.Descriptor.{Descriptor}
use Rattle.pfc_standing_code.specs.Settings.{View, Setting, Trial, of_own, of_turn, of_another}
use Rattle.pfc_standing_code.specs.Performs.{own_view, own_accepts}
use Rattle.pfc_representation.specs.Levels.{Facts, LivingLevel, block_of, is_met_by, MayKeep, of_main, of_own as of_own_stack, lent, SeesWith, SeesThrough}
use Rattle.pfc_representation.specs.Levels.{IsSeenBy}
use Rattle.pfc_representation.specs.Callers.{IsCalled, AreCallers}
use Rattle.pfc_representation.specs.Hands.{AreKept, HandIs}
use Rattle.pfc_representation.specs.Holding.{Holders, HoldsFor, Holds}
use Rattle.pfc_representation.specs.Trials.{TrialIs}
use Rattle.pfc_representation.specs.Processes.{IsAtLevel, IsUnderWay, ActivationsAre, RepresentsProcess}
use Rattle.pfc_settling_laws.proofs.Standings.{IsSameOrLetOn, stays_at, still_met, still_unfinished, still_ended, still_shows_nothing, still_offered}
use Rattle.pfc_settling_laws.proofs.Standings.{went_by_itself, still_for_monitor, still_for_resource}

module _ (table table' : Table) (on : (p : ℕ) → IsSameOrLetOn (at table.rows p) (at table'.rows p)) where
  -- who waits in a meeting waits there still, so what is lent is lent still
  kept_on : (entries : Entries) (p : ℕ) (lenders : List ℕ) (mine : List Entry) (a : ℕ) → MayKeep table entries p lenders mine a
      → MayKeep table' entries p lenders mine a
  kept_on entries _ _ _ _ (of_main p lenders mine) = of_main p lenders mine
  kept_on entries _ _ _ _ (of_own_stack p lenders mine a among) = of_own_stack p lenders mine a among
  kept_on entries _ _ _ _ (lent p lenders mine a k q others there met inner) =
      lent p lenders mine a k q others there (still_met (at table.rows q) (at table'.rows q) p (on q) met) (kept_on entries q others (entries q) a inner)

  all_kept_on : (entries : Entries) (p : ℕ) (lenders : List ℕ) (values : List Value) → AreKept table entries p lenders values
      → AreKept table' entries p lenders values
  all_kept_on entries p lenders [] h = tt
  all_kept_on entries p lenders (points l ∷ values) h = (kept_on entries p lenders (entries p) l.activation h.0, all_kept_on entries p lenders values h.1)
  all_kept_on entries p lenders (ordinal n ∷ values) h = all_kept_on entries p lenders values h
  all_kept_on entries p lenders (compound vs ∷ values) h = all_kept_on entries p lenders values h

  all_met_on : (p : ℕ) (callers : List ℕ) → All (λ (q : ℕ). is_met_by (at table.rows q) p) callers → All (λ (q : ℕ). is_met_by (at table'.rows q) p) callers
  all_met_on p callers h =
      λ k d below. still_met (at table.rows (get_or callers k d)) (at table'.rows (get_or callers k d)) p (on (get_or callers k d)) (h k d below)

  barred_on : (q resource procedure ticket : ℕ) → at table.rows q ≡ Waits (Barred resource procedure) ticket []
      → at table'.rows q ≡ Waits (Barred resource procedure) ticket []
  barred_on q resource procedure ticket h = stays_at (at table.rows q) (at table'.rows q) (Waits (Barred resource procedure) ticket []) refl (on q) h

-- ## Holders

holds_for_on : (h : Holders) (p : ℕ) (s s' : Stand) (mark : Mark) → IsSameOrLetOn s s' → HoldsFor h p s mark → HoldsFor h p s' mark
holds_for_on h p s s' plain on is = is
holds_for_on h p s s' (of_monitor m) on (inl holds) = inl holds
holds_for_on h p s s' (of_monitor m) on (inr waits) = inr (still_for_monitor h.owners m s s' on waits)
holds_for_on h p s s' (of_resource r) on (inl holds) = inl holds
holds_for_on h p s s' (of_resource r) on (inr waits) = inr (still_for_resource r s s' on waits)

holds_on : (h : Holders) (p : ℕ) (s s' : Stand) (trial : Trial) (activations : List Activation) → IsSameOrLetOn s s' → Holds h p s trial activations
    → Holds h p s' trial activations
holds_on h p s s' trial activations on is =
    record { entered = λ k d below. holds_for_on h p s s' (get_or activations k d).mark on (is.entered k d below); scanned = is.scanned }

module _ (facts : Facts) (homes : Homes) (entries : Entries) (store : Store) (stacks : Stacks) (table table' : Table)
    (on : (p : ℕ) → IsSameOrLetOn (at table.rows p) (at table'.rows p)) where
  -- ## What is seen

  with_on : (p : ℕ) (lenders : List ℕ) (mine : List Entry) (w : ℤ) (display : Display) (setting : Setting) (b : Block) (accepts : List ℕ) (view : View)
      → SeesWith facts homes entries store table p lenders mine w display setting b accepts view
      → SeesWith facts homes entries store table' p lenders mine w display setting b accepts view
  with_on p lenders mine w display setting b accepts view is =
      record {
        keeps = is.keeps;
        chain = is.chain;
        sees = is.sees;
        keeps_these = λ a kept. kept_on table table' on entries p lenders mine a (is.keeps_these a kept);
      }

  through_on : (p : ℕ) (mine : List Entry) (w : ℤ) (display : Display) (setting : Setting) (b : Block) (view : View) (others accepts meetings : List ℕ)
      → SeesThrough facts homes entries store table p mine w display setting b view others accepts meetings
      → SeesThrough facts homes entries store table' p mine w display setting b view others accepts meetings
  through_on p mine w display setting b view others [] [] is = with_on p others mine w display setting b [] view is
  through_on p mine w display setting b view others (i ∷ accepts) (r ∷ meetings) is = (
    with_on p (r ∷ meetings ++ others) mine w display setting b (i ∷ accepts) view is.0,
    through_on p mine w display setting b view others accepts meetings is.1,
  )
  through_on p mine w display setting b view others [] (r ∷ meetings) is = absurd is
  through_on p mine w display setting b view others (i ∷ accepts) [] is = absurd is

  seen_on : (p : ℕ) (callers : List ℕ) (mine : List Entry) (w : ℤ) (display : Display) (level : LivingLevel)
      → IsSeenBy facts homes entries store table p callers mine w display level → IsSeenBy facts homes entries store table' p callers mine w display level
  seen_on p callers mine w display level is =
      record {
        others = is.others;
        met = is.met;
        sees =
            through_on p mine w display level.setting (block_of level) (own_view level.setting.trial level.setting.view) is.others
            (own_accepts level.setting.trial level.setting.accepts) level.setting.meetings is.sees;
        around = is.around;
      }

  abbrev called_on : (p room depth : ℕ) (level : LivingLevel) (w : ℤ) (latest : Communicating) (a b : Activation) (e : Entry) (below : List Entry)
      (outer : LivingLevel) (v : ℤ) (earlier : Communicating)
      → IsCalled facts homes entries store table p room depth level w latest a b e below outer v earlier
      → IsCalled facts homes entries store table' p room depth level w latest a b e below outer v earlier
  called_on p room depth level w latest a b e below outer v earlier is =
      record {
        own = is.own;
        stands = is.stands;
        fits = is.fits;
        made = is.made;
        home = is.home;
        at = is.at;
        word = is.word;
        caller = is.caller;
        trial = is.trial;
        seen = seen_on p earlier.callers below v a.display outer is.seen;
        back = is.back;
        accepts = is.accepts;
      }

  callers_on : (p room : ℕ) (level : LivingLevel) (w : ℤ) (latest : Communicating) (xs : List Activation) (es : List Entry)
      → AreCallers facts homes entries store table p room level w latest xs es → AreCallers facts homes entries store table' p room level w latest xs es
  callers_on p room level w latest [] es h = absurd h
  callers_on p room level w latest (a ∷ xs) [] h = absurd h
  callers_on p room level w latest (a ∷ []) (e ∷ []) h = h
  callers_on p room level w latest (a ∷ []) (e ∷ f ∷ es) h = absurd h
  callers_on p room level w latest (a ∷ b ∷ xs) (e ∷ []) h = absurd h
  callers_on p room level w latest (a ∷ b ∷ xs) (e ∷ f ∷ es) (outer, v, earlier, called, within, others) = (
    outer,
    v,
    earlier,
    called_on p room (length (a ∷ b ∷ xs)) level w latest a b e (f ∷ es) outer v earlier called,
    within,
    callers_on p room outer v earlier (b ∷ xs) (f ∷ es) others,
  )

  module _ (h : Holders) (p : ℕ) (d : Descriptor) where
    -- ## What is shown, and what is tried

    hand_on : (level : LivingLevel) (at : ℕ) (ops : List ℤ) (stand stand' : Stand) (doing : Doing) (hand : Hand) → IsSameOrLetOn stand stand'
        → HandIs facts homes table entries p level at ops d stand doing hand → HandIs facts homes table' entries p level at ops d stand' doing hand
    hand_on level at ops stand stand' doing empty_hand go is = (is.0, still_shows_nothing stand stand' go is.1, is.2)
    hand_on level at ops stand stand' doing (offering x os k) go (inl is) =
        inl (record {
          own = is.own;
          block = is.block;
          beside = is.beside;
          checked = is.checked;
          open_ones = is.open_ones;
          behind = is.behind;
          count = is.count;
          offered = still_offered stand stand' os _ go is.offered;
          few = is.few;
          alone = λ goes. is.alone (went_by_itself stand stand' os _ go is.offered goes);
        })
    hand_on level at ops stand stand' doing (offering x os k) go (inr is) =
        inr (record { offered = is.offered; ready = stays_at stand stand' Is_ready refl go is.ready; does = is.does })
    hand_on level at ops stand stand' doing (asking values) go is =
        let asks = is.1 in (
          is.0,
          record {
            own = asks.own;
            owner = asks.owner;
            entry = asks.entry;
            ticket = asks.ticket;
            waits = stays_at stand stand' (Waits (Call asks.owner asks.entry) asks.ticket []) refl go asks.waits;
            words = asks.words;
            number = asks.number;
            below = asks.below;
            operands = asks.operands;
            hold = asks.hold;
            kept = all_kept_on table table' on entries p d.communications.callers values asks.kept;
            behind = asks.behind;
          },
        )
    hand_on level at ops stand stand' doing (barred_at bar) go is =
        let at_guard = is.1 in (
          is.0,
          record { own = at_guard.own; guard = at_guard.guard; names = at_guard.names; waits = waits_on at_guard.waits; behind = at_guard.behind },
        )
      where
        waits_on : (stand ≡ Is_ready) ⊎ ((ticket : ℕ) × (stand ≡ Waits (Barred bar.resource bar.procedure) ticket []))
            → (stand' ≡ Is_ready) ⊎ ((ticket : ℕ) × (stand' ≡ Waits (Barred bar.resource bar.procedure) ticket []))
        waits_on (inl ready) = inl (stays_at stand stand' Is_ready refl go ready)
        waits_on (inr barred) = inr (barred.0, stays_at stand stand' (Waits (Barred bar.resource bar.procedure) barred.0 []) refl go barred.1)

    trial_on : (trial : Trial) (level : LivingLevel) (xs : List Activation) → TrialIs trial facts homes entries store stacks table p level xs d
        → TrialIs trial facts homes entries store stacks table' p level xs d
    trial_on of_own level xs is = is
    trial_on (of_turn scan back) level xs is = is
    trial_on (of_another attempt) level xs is =
        record {
          from = is.from;
          barred = barred_on table table' on attempt.whom.process attempt.scan.resource attempt.whom.bar.procedure attempt.whom.ticket is.barred;
          procedure = is.procedure;
          turn = is.turn;
          scan = is.scan;
          way = is.way;
          room = is.room;
          lenders = is.lenders;
          display = is.display;
          sees =
              with_on attempt.whom.process is.lenders (entries attempt.whom.process) (word_of (last_activation stacks attempt.whom.process)) is.display
              level.setting level.setting.block level.setting.accepts level.setting.view is.sees;
          around = is.around;
        }

    -- ## All of it

    level_on : (a : Activity) (level : LivingLevel) → IsAtLevel facts homes entries store stacks table h p a d level
        → IsAtLevel facts homes entries store stacks table' h p a d level
    level_on a level is =
        record {
          count = is.count;
          seen = seen_on p d.communications.callers (entries p) (word_of (last_activation stacks p)) a.display level is.seen;
          callers = callers_on p (stack_of stacks p).room level (word_of (last_activation stacks p)) d.communications a.activations (entries p) is.callers;
          room = is.room;
          accepts = is.accepts;
          met = record { waiting = all_met_on table table' on p d.communications.callers is.met.waiting; once = is.met.once };
          holds = holds_on h p (at table.rows p) (at table'.rows p) level.setting.trial a.activations (on p) is.holds;
        }

    under_way_on : (a : Activity) → IsUnderWay facts homes entries store stacks table h p a d → IsUnderWay facts homes entries store stacks table' h p a d
    under_way_on a is =
        record {
          unfinished = still_unfinished (at table.rows p) (at table'.rows p) (on p) is.unfinished;
          level = is.level;
          stands = level_on a is.level is.stands;
          within = is.within;
          hand = hand_on is.level (stack_of stacks p).at (stack_of stacks p).operands (at table.rows p) (at table'.rows p) a.doing a.hand (on p) is.hand;
          trial = trial_on is.level.setting.trial is.level a.activations is.trial;
        }

    activations_on : (xs : List Activation) (a : Activity) → ActivationsAre xs facts homes entries store stacks table h p a d
        → ActivationsAre xs facts homes entries store stacks table' h p a d
    activations_on [] a is = record { none = is.none; scan = is.scan; finished = still_ended (at table.rows p) (at table'.rows p) (on p) is.finished }
    activations_on (x ∷ xs) a is = under_way_on a is

    pub process_on : (a : Activity) → RepresentsProcess facts homes entries store stacks table h p a d
        → RepresentsProcess facts homes entries store stacks table' h p a d
    process_on a is = record { line = is.line; spare = is.spare; activations = activations_on a.activations a is.activations }
