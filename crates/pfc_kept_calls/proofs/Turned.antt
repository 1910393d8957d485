-- A level before the turn of a scan is seen and called as it is in none.
use Rattle.std.proofs.Common.{ℕ, ◌++◌, ℤ, List, [], ◌∷◌}
use Rattle.pfc_world.specs.Tables.{Table}
use Rattle.pfc_semantics.specs.Displays.{Display}
use Rattle.pfc_semantics.specs.Programs.{Block}
use Rattle.pfc_semantics.specs.Store.{Store}
use Rattle.pfc_semantics.specs.Remainders.{Scan}
use Rattle.pfc_semantics.specs.Configurations.{Activation}
use Rattle.pfc_cells.specs.Homes.{Homes}
use Rattle.pfc_cells.specs.Memory.{Entry, Entries}
use Rattle.pfc_machines.specs.Communications.{Communicating}
use Rattle.pfc_standing_code.specs.Settings.{View, Trial, of_own, of_turn, of_another, IsBeside, same_block, both_mains}
use Rattle.pfc_representation.specs.Levels.{Facts, LivingLevel, in_turn, SeesWith, SeesThrough, IsSeenBy}
use Rattle.pfc_representation.specs.Callers.{Linkage, StandsFor, AreCallers}

-- in no scan, or before a turn of one
abbrev pub IsOwnTurn : Trial → Type 0
IsOwnTurn of_own = Unit {0}
IsOwnTurn (of_turn scan back) = Unit {0}
IsOwnTurn (of_another attempt) = ⊥

module _ (facts : Facts) (homes : Homes) (entries : Entries) (store : Store) (table : Table) (p : ℕ) (level : LivingLevel) (scan : Scan) (back : ℕ) where
  abbrev plainly : LivingLevel
  plainly = in_turn level of_own

  abbrev turned : LivingLevel
  turned = in_turn level (of_turn scan back)

  beside_plainly : (b c : Block) → IsBeside turned.setting b c → IsBeside plainly.setting b c
  beside_plainly b _ same_block = same_block
  beside_plainly b _ (both_mains c one two) = both_mains c one two

  with_turned : (lenders : List ℕ) (mine : List Entry) (w : ℤ) (display : Display) (b : Block) (accepts : List ℕ) (view : View)
      → SeesWith facts homes entries store table p lenders mine w display plainly.setting b accepts view
      → SeesWith facts homes entries store table p lenders mine w display turned.setting b accepts view
  with_turned lenders mine w display b accepts view is = record {
    keeps = is.keeps;
    chain = is.chain;
    sees = λ c beside. is.sees c
        (beside_plainly b c beside);
    keeps_these = is.keeps_these;
  }

  through_turned : (mine : List Entry) (w : ℤ) (display : Display) (b : Block) (view : View) (others accepts meetings : List ℕ)
      → SeesThrough facts homes entries store table p mine w display plainly.setting b view others accepts meetings
      → SeesThrough facts homes entries store table p mine w display turned.setting b view others accepts meetings
  through_turned mine w display b view others [] [] is = with_turned others mine w display b [] view is
  through_turned mine w display b view others (i ∷ accepts) (q ∷ meetings) is =
      (with_turned (q ∷ meetings ++ others) mine w display b (i ∷ accepts) view is.0, through_turned mine w display b view others accepts meetings is.1)
  through_turned mine w display b view others [] (q ∷ meetings) is = absurd is
  through_turned mine w display b view others (i ∷ accepts) [] is = absurd is

  pub seen_turned : (callers : List ℕ) (mine : List Entry) (w : ℤ) (display : Display)
      → IsSeenBy facts homes entries store table p callers mine w display plainly
      → IsSeenBy facts homes entries store table p callers mine w display turned
  seen_turned callers mine w display is = record {
    others = is.others;
    met = is.met;
    sees = through_turned mine w display level.setting.block level.setting.view is.others level.setting.accepts level.setting.meetings is.sees;
    around = λ c beside. is.around c (beside_plainly level.setting.block c beside);
  }

  stands_turned : (a : Activation) (e : Entry) (w : ℤ) (own : Linkage) → StandsFor facts homes store p a e w own plainly
      → StandsFor facts homes store p a e w own turned
  stands_turned a e w own h = record {
    number = h.number;
    home = h.home;
    at = h.at;
    process = h.process;
    scope = h.scope;
    block = h.block;
    word = h.word;
    cells = h.cells;
    words = h.words;
    mark = h.mark;
    link = h.link;
    under = h.under;
    code = h.code;
    is = h.is;
    of_block = h.of_block;
    last = h.last;
    setting =
        let has = h.setting.image in
        record {
          image = record { program = has.program; code = has.code; lines = has.lines; texts = has.texts; arms = has.arms };
          arms = h.setting.arms;
          number = h.setting.number;
        };
    laid = h.laid;
    apart = h.apart;
    guarded = h.guarded;
    accepts = h.accepts;
  }

  pub callers_turned : (room : ℕ) (w : ℤ) (last : Communicating) (xs : List Activation) (es : List Entry)
      → AreCallers facts homes entries store table p room plainly w last xs es
      → AreCallers facts homes entries store table p room turned w last xs es
  callers_turned room w last [] es is = absurd is
  callers_turned room w last (a ∷ xs) [] is = absurd is
  callers_turned room w last (a ∷ []) (e ∷ []) is = record {
    own = is.own;
    stands = stands_turned a e w is.own is.stands;
    fits = record { operands = is.fits.operands; made = is.fits.made; branches = is.fits.branches };
    made = is.made;
    block = is.block;
    number = is.number;
    waits = is.waits;
    mark = is.mark;
    under = is.under;
    caller = is.caller;
    link = is.link;
  }
  callers_turned room w last (a ∷ []) (e ∷ f ∷ es) is = absurd is
  callers_turned room w last (a ∷ b ∷ xs) (e ∷ []) is = absurd is
  callers_turned room w last (a ∷ b ∷ xs) (e ∷ f ∷ es) (outer, v, earlier, called, at, others) = (
    outer,
    v,
    earlier,
    record {
      own = called.own;
      stands = stands_turned a e w called.own called.stands;
      fits = record { operands = called.fits.operands; made = called.fits.made; branches = called.fits.branches };
      made = called.made;
      home = called.home;
      at = called.at;
      word = called.word;
      caller = called.caller;
      trial = called.trial;
      seen = called.seen;
      back = called.back;
      accepts = called.accepts;
    },
    at,
    others,
  )
