-- What is kept of a process where it stands anew, and those who lend to it stand where they stood.
use Rattle.std.proofs.Common.{◌≡◌, ℕ, ℤ, List, [], ◌∷◌, ◌++◌, length, get_or, All, Some, refl, ap, ◌∙◌, subst, sym}
use Rattle.pfc_state.specs.Stands.{Stand}
use Rattle.pfc_world.specs.Tables.{Table, at}
use Rattle.pfc_semantics.specs.Configurations.{Activation, Activity}
use Rattle.pfc_semantics.specs.Displays.{Display}
use Rattle.pfc_semantics.specs.Programs.{Block}
use Rattle.pfc_semantics.specs.Store.{Store}
use Rattle.pfc_stacks.specs.Refs.{word_of}
use Rattle.pfc_stacks.specs.Stacks.{Stacks, stack_of, last_activation}
use Rattle.pfc_cells.specs.Homes.{Homes}
use Rattle.pfc_cells.specs.Memory.{Entry, Entries}
use Rattle.pfc_machines.specs.Communications.{Communicating}
use Rattle.pfc_machines.specs.Quiet.{tried_in}
use Rattle.pfc_machines.specs.declared.descriptors.Descriptor.{Descriptor}
use Rattle.pfc_standing_code.specs.Settings.{View, Setting, Trial, of_own, of_turn, of_another}
use Rattle.pfc_standing_code.specs.Performs.{own_view, own_accepts}
use Rattle.pfc_representation.specs.Levels.{Facts, LivingLevel, block_of, is_met_by, SeesWith, SeesThrough, IsSeenBy}
use Rattle.pfc_representation.specs.Callers.{IsCalled, AreCallers}
use Rattle.pfc_representation.specs.Holding.{Holders, Holds}
use Rattle.pfc_representation.specs.Trials.{TrialIs}
use Rattle.pfc_representation.specs.Processes.{IsAtLevel}
use Rattle.pfc_representation.specs.Keeping.{IsLender, meets}
use Rattle.pfc_representation.proofs.Kept.{may_keep}
use Rattle.pfc_kept_object_actions.specs.Freed.{StandsStill}

all_met : (table table' : Table) (p : ℕ) (callers : List ℕ) → ((r : ℕ) → is_met_by (at table.rows r) p → is_met_by (at table'.rows r) p)
    → All (λ (q : ℕ). is_met_by (at table.rows q) p) callers → All (λ (q : ℕ). is_met_by (at table'.rows q) p) callers
all_met table table' p callers f h = λ k d below. f (get_or callers k d) (h k d below)

module _ (facts : Facts) (homes : Homes) (entries : Entries) (store : Store) (stacks : Stacks) (table table' : Table) where
  module _ (p : ℕ) (lenders_same : (r : ℕ) → IsLender table p r → at table'.rows r ≡ at table.rows r) where
    both_same : (r : ℕ) → IsLender table p r → (at table'.rows r ≡ at table.rows r) × (entries r ≡ entries r)
    both_same r lender = (lenders_same r lender, refl)

    -- ## What is seen

    pub with_anew : (lenders : List ℕ) (mine : List Entry) (w : ℤ) (display : Display) (setting : Setting) (b : Block) (accepts : List ℕ) (view : View)
        → SeesWith facts homes entries store table p lenders mine w display setting b accepts view
        → SeesWith facts homes entries store table' p lenders mine w display setting b accepts view
    with_anew lenders mine w display setting b accepts view is =
        record {
          keeps = is.keeps;
          chain = is.chain;
          sees = is.sees;
          keeps_these = λ a kept. may_keep table table' entries entries p lenders mine a (is.keeps_these a kept) both_same;
        }

    through_anew : (mine : List Entry) (w : ℤ) (display : Display) (setting : Setting) (b : Block) (view : View) (others accepts meetings : List ℕ)
        → SeesThrough facts homes entries store table p mine w display setting b view others accepts meetings
        → SeesThrough facts homes entries store table' p mine w display setting b view others accepts meetings
    through_anew mine w display setting b view others [] [] is = with_anew others mine w display setting b [] view is
    through_anew mine w display setting b view others (i ∷ accepts) (r ∷ meetings) is = (
      with_anew (r ∷ meetings ++ others) mine w display setting b (i ∷ accepts) view is.0,
      through_anew mine w display setting b view others accepts meetings is.1,
    )
    through_anew mine w display setting b view others [] (r ∷ meetings) is = absurd is
    through_anew mine w display setting b view others (i ∷ accepts) [] is = absurd is

    seen_anew : (callers : List ℕ) (mine : List Entry) (w : ℤ) (display : Display) (level : LivingLevel)
        → IsSeenBy facts homes entries store table p callers mine w display level → IsSeenBy facts homes entries store table' p callers mine w display level
    seen_anew callers mine w display level is =
        record {
          others = is.others;
          met = is.met;
          sees =
              through_anew mine w display level.setting (block_of level) (own_view level.setting.trial level.setting.view) is.others
              (own_accepts level.setting.trial level.setting.accepts) level.setting.meetings is.sees;
          around = is.around;
        }

    abbrev called_anew : (room depth : ℕ) (level : LivingLevel) (w : ℤ) (latest : Communicating) (a b : Activation) (e : Entry) (below : List Entry)
        (outer : LivingLevel) (v : ℤ) (earlier : Communicating)
        → IsCalled facts homes entries store table p room depth level w latest a b e below outer v earlier
        → IsCalled facts homes entries store table' p room depth level w latest a b e below outer v earlier
    called_anew room depth level w latest a b e below outer v earlier is =
        record {
          own = is.own;
          stands = is.stands;
          fits = is.fits;
          made = is.made;
          home = is.home;
          at = is.at;
          word = is.word;
          caller = is.caller;
          trial = is.trial;
          accepts = is.accepts;
          seen = seen_anew earlier.callers below v a.display outer is.seen;
          back = is.back;
        }

    callers_anew : (room : ℕ) (level : LivingLevel) (w : ℤ) (latest : Communicating) (xs : List Activation) (es : List Entry)
        → AreCallers facts homes entries store table p room level w latest xs es → AreCallers facts homes entries store table' p room level w latest xs es
    callers_anew room level w latest [] es h = absurd h
    callers_anew room level w latest (a ∷ xs) [] h = absurd h
    callers_anew room level w latest (a ∷ []) (e ∷ []) h = h
    callers_anew room level w latest (a ∷ []) (e ∷ f ∷ es) h = absurd h
    callers_anew room level w latest (a ∷ b ∷ xs) (e ∷ []) h = absurd h
    callers_anew room level w latest (a ∷ b ∷ xs) (e ∷ f ∷ es) (outer, v, earlier, called, within, others) = (
      outer,
      v,
      earlier,
      called_anew room (length (a ∷ b ∷ xs)) level w latest a b e (f ∷ es) outer v earlier called,
      within,
      callers_anew room outer v earlier (b ∷ xs) (f ∷ es) others,
    )

    -- ## Its level

    pub level_anew : (h h' : Holders) (d : Descriptor) (a : Activity) (level : LivingLevel) → Holds h' p (at table'.rows p) level.setting.trial a.activations
        → IsAtLevel facts homes entries store stacks table h p a d level → IsAtLevel facts homes entries store stacks table' h' p a d level
    level_anew h h' d a level holds is =
        record {
          count = is.count;
          seen = seen_anew d.communications.callers (entries p) (word_of (last_activation stacks p)) a.display level is.seen;
          callers = callers_anew (stack_of stacks p).room level (word_of (last_activation stacks p)) d.communications a.activations (entries p) is.callers;
          room = is.room;
          accepts = is.accepts;
          met = record {
            waiting =
                all_met table table' p d.communications.callers
                (λ r met. subst (λ (s : Stand). is_met_by s p) (sym (lenders_same r (meets p r met))) met) is.met.waiting;
            once = is.met.once;
          };
          holds = holds;
        }

  -- ## What it tries

  module _ (d : Descriptor) (tried : (r : ℕ) → tried_in d.scan ≡ Some r → StandsStill table table' r) where
    pub trial_anew : (p : ℕ) (trial : Trial) (level : LivingLevel) (xs : List Activation) → TrialIs trial facts homes entries store stacks table p level xs d
        → TrialIs trial facts homes entries store stacks table' p level xs d
    trial_anew p of_own level xs is = is
    trial_anew p (of_turn scan back) level xs is = is
    trial_anew p (of_another attempt) level xs is =
        let r : ℕ = attempt.whom.process in
        let still : StandsStill table table' r = tried r (ap tried_in is.scan) in
        record {
          from = is.from;
          barred = still.row ∙ is.barred;
          procedure = is.procedure;
          turn = is.turn;
          scan = is.scan;
          way = is.way;
          room = is.room;
          lenders = is.lenders;
          display = is.display;
          sees =
              with_anew r still.lenders is.lenders (entries r) (word_of (last_activation stacks r)) is.display level.setting level.setting.block
              level.setting.accepts level.setting.view is.sees;
          around = is.around;
        }
