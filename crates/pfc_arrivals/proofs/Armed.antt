-- A level with other alternatives: what is kept of its process, where the machine has made or dropped the same.
use Rattle.std.proofs.Common.{ℕ, ◌≤◌, ℤ, List, [], ◌∷◌, length, refl, arith, ◌⊎◌, inl, inr}
use Rattle.pfc_code.specs.declared.images.Block.{Block as CodeBlock}
use Rattle.pfc_world.specs.Tables.{Table}
use Rattle.pfc_semantics.specs.Displays.{Display}
use Rattle.pfc_semantics.specs.Remainders.{Way, leave, own, Scan}
use Rattle.pfc_semantics.specs.Store.{Store}
use Rattle.pfc_semantics.specs.Configurations.{Activation, Activity}
use Rattle.pfc_translation.specs.Images.{image_of}
use Rattle.pfc_stacks.specs.Refs.{word_of}
use Rattle.pfc_stacks.specs.Stacks.{Stack, Stacks, stack_of, last_activation}
use Rattle.pfc_cells.specs.Homes.{Homes}
use Rattle.pfc_cells.specs.Memory.{Entry, Entries}
use Rattle.pfc_machines.specs.declared.alternatives.Alternative.{Alternative}
use Rattle.pfc_machines.specs.declared.descriptors.Descriptor.{Descriptor}
use Rattle.pfc_machines.specs.Communications.{Communicating}
use Rattle.pfc_standing_code.specs.Effects.{Arm}
use Rattle.pfc_standing_code.specs.Settings.{Trial, Attempt, of_own, of_turn, of_another}
use Rattle.pfc_representation.specs.Alternatives.{AreMade}
use Rattle.pfc_representation.specs.Levels.{Facts, program_in, LivingLevel, block_of, IsBlockAt, HasSetting, IsSeenBy}
use Rattle.pfc_representation.specs.Rooms.{process_count, LeadWithin, HasRoom, MayMeet}
use Rattle.pfc_representation.specs.Callers.{Linkage, StandsFor, IsWithin, AreCallers}
use Rattle.pfc_representation.specs.Holding.{Holders}
use Rattle.pfc_representation.specs.Trials.{WayIs, TriesAnother, TrialIs, HasTried}
use Rattle.pfc_representation.specs.Processes.{IsAtLevel}

abbrev pub armed : LivingLevel → List Arm → LivingLevel
armed level arms = record level { arms = arms }

abbrev pub exchanged : Communicating → List Alternative → List ℤ → Communicating
exchanged e alternatives words = record e { alternatives = alternatives; words = words }

-- and so many are offered
abbrev pub remade : Descriptor → List Alternative → List ℤ → ℕ → Descriptor
remade d alternatives words n = record d { communications = exchanged d.communications alternatives words; offered = n }

-- what stands for some alternatives over any stands for others over the same
abbrev pub AreRemade : ℕ → List Arm → List Alternative → List ℤ → List Arm → List Alternative → List ℤ → Type 0
AreRemade depth arms alts ws arms' alts' ws' =
    (alternatives : List Alternative) (words : List ℤ) → AreMade depth alternatives words arms alts ws → AreMade depth alternatives words arms' alts' ws'

-- others lead to addresses in the code of the block of their level, where those that it had do
abbrev pub LeadAgain : Facts → LivingLevel → List Arm → Type 0
LeadAgain facts level arms =
    (k : ℕ) (c : CodeBlock) → IsBlockAt (program_in facts) (image_of facts.tree).blocks k (block_of level) c → LeadWithin facts k level.arms
    → LeadWithin facts k arms

module _ (facts : Facts) (level : LivingLevel) (arms : List Arm) where
  setting_armed : HasSetting facts level → HasSetting facts (armed level arms)
  setting_armed is = record { image = is.image; arms = is.arms; number = is.number }

  room_armed : (room k : ℕ) (e : Communicating) (c : CodeBlock) → IsBlockAt (program_in facts) (image_of facts.tree).blocks k (block_of level) c
      → LeadAgain facts level arms → HasRoom facts room level k e → HasRoom facts room (armed level arms) k e
  room_armed room k e c there leads is = record { operands = is.operands; made = is.made; branches = leads k c there is.branches }

  way_armed : (xs : List Activation) (back : ℕ) (scan : Scan) (way : Way) → WayIs facts level xs back scan way → WayIs facts (armed level arms) xs back scan way
  way_armed xs back scan leave is = is
  way_armed xs back scan (own bar) is = is

  module _ (homes : Homes) (store : Store) where
    stands_armed : (p : ℕ) (a : Activation) (e : Entry) (w : ℤ) (linked : Linkage) → StandsFor facts homes store p a e w linked level
        → StandsFor facts homes store p a e w linked (armed level arms)
    stands_armed p a e w linked is = record {
      number = is.number;
      home = is.home;
      at = is.at;
      process = is.process;
      scope = is.scope;
      block = is.block;
      word = is.word;
      cells = is.cells;
      words = is.words;
      mark = is.mark;
      link = is.link;
      under = is.under;
      code = is.code;
      is = is.is;
      of_block = is.of_block;
      last = is.last;
      setting = setting_armed is.setting;
      laid = is.laid;
      apart = is.apart;
      guarded = is.guarded;
      accepts = is.accepts;
    }

    module _ (entries : Entries) (table : Table) (p : ℕ) where
      seen_armed : (callers : List ℕ) (mine : List Entry) (w : ℤ) (display : Display) → IsSeenBy facts homes entries store table p callers mine w display level
          → IsSeenBy facts homes entries store table p callers mine w display (armed level arms)
      seen_armed callers mine w display is = record { others = is.others; met = is.met; sees = is.sees; around = is.around }

      callers_armed : (room : ℕ) (w : ℤ) (e : Communicating) (alts : List Alternative) (ws : List ℤ) (xs : List Activation) (es : List Entry)
          → LeadAgain facts level arms → AreRemade (length xs) level.arms e.alternatives e.words arms alts ws
          → AreCallers facts homes entries store table p room level w e xs es
          → AreCallers facts homes entries store table p room (armed level arms) w (exchanged e alts ws) xs es
      callers_armed room w e alts ws [] es leads new is = absurd is
      callers_armed room w e alts ws (a ∷ xs) [] leads new is = absurd is
      callers_armed room w e alts ws (a ∷ []) (x ∷ []) leads new is = record {
        own = is.own;
        stands = stands_armed p a x w is.own is.stands;
        fits = room_armed room is.own.block _ is.stands.code is.stands.is leads is.fits;
        made = (refl, is.made.1, new [] [] is.made.2);
        block = is.block;
        number = is.number;
        waits = is.waits;
        mark = is.mark;
        under = is.under;
        caller = is.caller;
        link = is.link;
      }
      callers_armed room w e alts ws (a ∷ []) (x ∷ y ∷ es) leads new is = absurd is
      callers_armed room w e alts ws (a ∷ b ∷ xs) (x ∷ []) leads new is = absurd is
      callers_armed room w e alts ws (a ∷ b ∷ xs) (x ∷ y ∷ es) leads new (outer, v, earlier, called, within, others) = (
        outer,
        v,
        earlier,
        record {
          own = called.own;
          stands = stands_armed p a x w called.own called.stands;
          fits = room_armed room called.own.block earlier called.stands.code called.stands.is leads called.fits;
          made = (called.made.0, called.made.1, new earlier.alternatives earlier.words called.made.2);
          home = called.home;
          at = called.at;
          word = called.word;
          caller = called.caller;
          trial = called.trial;
          seen = called.seen;
          back = called.back;
          accepts = called.accepts;
        },
        within,
        others,
      )

      -- the level of a process, whatever it offers
      pub level_armed : (stacks : Stacks) (h : Holders) (a : Activity) (d : Descriptor) (alts : List Alternative) (ws : List ℤ) (n : ℕ)
          → AreRemade (length a.activations) level.arms d.communications.alternatives d.communications.words arms alts ws
          → MayMeet (process_count facts) d.communications.room.meetings arms → LeadAgain facts level arms
          → IsAtLevel facts homes entries store stacks table h p a d level
          → IsAtLevel facts homes entries store stacks table h p a (remade d alts ws n) (armed level arms)
      level_armed stacks h a d alts ws n new meet leads is = record {
        count = is.count;
        seen = seen_armed d.communications.callers (entries p) (word_of (last_activation stacks p)) a.display is.seen;
        callers =
            callers_armed (stack_of stacks p).room (word_of (last_activation stacks p)) d.communications alts ws a.activations (entries p) leads new is.callers;
        room = is.room;
        accepts = meet;
        met = is.met;
        holds = is.holds;
      }

      another_armed : (stacks : Stacks) (attempt : Attempt) (xs : List Activation) (d : Descriptor) (alts : List Alternative) (ws : List ℤ) (n : ℕ)
          → TriesAnother facts homes entries store stacks table p level attempt xs d
          → TriesAnother facts homes entries store stacks table p (armed level arms) attempt xs (remade d alts ws n)
      another_armed stacks attempt xs d alts ws n is = record {
        from = is.from;
        barred = is.barred;
        procedure = is.procedure;
        turn = is.turn;
        scan = is.scan;
        way = way_armed xs attempt.back attempt.scan attempt.scan.way is.way;
        room = is.room;
        lenders = is.lenders;
        display = is.display;
        sees = is.sees;
        around = is.around;
      }

      pub trial_armed : (trial : Trial) (stacks : Stacks) (xs : List Activation) (d : Descriptor) (alts : List Alternative) (ws : List ℤ) (n : ℕ)
          → TrialIs trial facts homes entries store stacks table p level xs d
          → TrialIs trial facts homes entries store stacks table p (armed level arms) xs (remade d alts ws n)
      trial_armed of_own stacks xs d alts ws n is = is
      trial_armed (of_turn scan back) stacks xs d alts ws n is = (is.0, is.1, way_armed xs back scan scan.way is.2)
      trial_armed (of_another attempt) stacks xs d alts ws n is = another_armed stacks attempt xs d alts ws n is

      pub has_tried_armed : (trial : Trial) (s : Stack) (xs : List Activation) (d : Descriptor) (alts : List Alternative) (ws : List ℤ) (n : ℕ)
          → HasTried trial facts s level xs d → HasTried trial facts s (armed level arms) xs (remade d alts ws n)
      has_tried_armed of_own s xs d alts ws n is = absurd is
      has_tried_armed (of_turn scan back) s xs d alts ws n is = absurd is
      has_tried_armed (of_another attempt) s xs d alts ws n is = (is.0, is.1, is.2, way_armed xs attempt.back attempt.scan attempt.scan.way is.3)

      pub either_armed : (trial : Trial) (stacks : Stacks) (xs : List Activation) (d : Descriptor) (alts : List Alternative) (ws : List ℤ) (n : ℕ)
          → TrialIs trial facts homes entries store stacks table p level xs d ⊎ HasTried trial facts (stack_of stacks p) level xs d
          → TrialIs trial facts homes entries store stacks table p (armed level arms) xs (remade d alts ws n)
          ⊎ HasTried trial facts (stack_of stacks p) (armed level arms) xs (remade d alts ws n)
      either_armed trial stacks xs d alts ws n (inl is) = inl (trial_armed trial stacks xs d alts ws n is)
      either_armed trial stacks xs d alts ws n (inr is) = inr (has_tried_armed trial (stack_of stacks p) xs d alts ws n is)

-- ## Where it goes on

-- with no more alternatives there is room still
pub within_fewer : (facts : Facts) (level : LivingLevel) (arms : List Arm) (at : ℕ) (e : Communicating) (alts : List Alternative) (ws : List ℤ)
    → (length alts ≤ length e.alternatives) × (length ws ≤ length e.words) → IsWithin facts level at e
    → IsWithin facts (armed level arms) at (exchanged e alts ws)
within_fewer facts level arms at e alts ws fewer (k, c, is, goes) = (
  k,
  c,
  is,
  record {
    entry = goes.entry;
    before = goes.before;
    rest =
        (grind (arith, fewer.0, goes.rest.0), grind (arith, fewer.1, goes.rest.1), goes.rest.2);
  },
)
