-- A level with another view, other accepts and other meetings, while all else of it is as it was.
use Rattle.std.proofs.Common.{◌≡◌, ◌==◌, ◌||◌, ℕ, ℤ, Bool, true, false, List, [], ◌∷◌, ◌++◌, length, refl, sym, ap, ◌∙◌, arith}
use Rattle.std.specs.List.{list_any}
use Rattle.pfc_world.specs.Tables.{Table}
use Rattle.pfc_semantics.specs.Configurations.{Activation}
use Rattle.pfc_semantics.specs.Displays.{Display}
use Rattle.pfc_semantics.specs.Programs.{Block}
use Rattle.pfc_semantics.specs.Store.{Store}
use Rattle.pfc_translation.specs.Sites.{is_accept}
use Rattle.pfc_cells.specs.Homes.{Homes}
use Rattle.pfc_cells.specs.Memory.{Entry, Entries}
use Rattle.pfc_machines.specs.Communications.{Communicating}
use Rattle.pfc_standing_code.specs.Settings.{View, Trial, of_own, of_turn, of_another, IsBeside, same_block, both_mains}
use Rattle.pfc_standing_code.specs.Performs.{own_accepts}
use Rattle.pfc_representation.specs.Levels.{Facts, LivingLevel, block_of, HasSetting, SeesWith, SeesThrough}
use Rattle.pfc_representation.specs.Rooms.{HasRoom}
use Rattle.pfc_representation.specs.Callers.{Linkage, StandsFor, IsMadeOver, is_unmade, IsWithin, IsFirst, IsCalled, AreCallers}

module _ (level : LivingLevel) (view : View) (accepts meetings : List ℕ) where
  abbrev pub settled : LivingLevel
  settled = record level { setting = record level.setting { view = view; accepts = accepts; meetings = meetings } }

  -- blocks are beside one another as before
  pub beside_back : (b c : Block) → IsBeside settled.setting b c → IsBeside level.setting b c
  beside_back b _ same_block = same_block
  beside_back b _ (both_mains c one two) = both_mains c one two

  pub beside_then : (b c : Block) → IsBeside level.setting b c → IsBeside settled.setting b c
  beside_then b _ same_block = same_block
  beside_then b _ (both_mains c one two) = both_mains c one two

  module _ (facts : Facts) (homes : Homes) (entries : Entries) (store : Store) (table : Table) (p : ℕ) (mine : List Entry) (w : ℤ) (display : Display)
      (b : Block) (seen : View) where
    with_then : (lenders open_ones : List ℕ) → SeesWith facts homes entries store table p lenders mine w display level.setting b open_ones seen
        → SeesWith facts homes entries store table p lenders mine w display settled.setting b open_ones seen
    with_then lenders open_ones is =
        record { keeps = is.keeps; chain = is.chain; sees = λ c beside. is.sees c (beside_back b c beside); keeps_these = is.keeps_these }

    pub through_then : (others open_ones callers : List ℕ)
        → SeesThrough facts homes entries store table p mine w display level.setting b seen others open_ones callers
        → SeesThrough facts homes entries store table p mine w display settled.setting b seen others open_ones callers
    through_then others [] [] is = with_then others [] is
    through_then others (i ∷ open_ones) (q ∷ callers) is =
        (with_then (q ∷ callers ++ others) (i ∷ open_ones) is.0, through_then others open_ones callers is.1)
    through_then others [] (q ∷ callers) is = absurd is
    through_then others (i ∷ open_ones) [] is = absurd is

  pub has_setting_then : (facts : Facts) → HasSetting facts level → HasSetting facts settled
  has_setting_then facts is =
      record {
        image = record {
          program = is.image.program;
          code = is.image.code;
          lines = is.image.lines;
          texts = is.image.texts;
          arms = is.image.arms;
        };
        arms = is.arms;
        number = is.number;
      }

  -- these are accepts of the block
  abbrev pub AreOwn : List ℕ → Type 0
  AreOwn open_ones = (i : ℕ) → list_any (λ j. j == i) (own_accepts level.setting.trial open_ones) ≡ true → is_accept (block_of level) i ≡ true

  pub stands_then : (AreOwn level.setting.accepts → AreOwn accepts)
      → (facts : Facts) (homes : Homes) (store : Store) (p : ℕ) (a : Activation) (e : Entry) (w : ℤ) (own : Linkage)
      → StandsFor facts homes store p a e w own level → StandsFor facts homes store p a e w own settled
  stands_then opens facts homes store p a e w own is =
      record {
        number = is.number;
        home = is.home;
        at = is.at;
        process = is.process;
        scope = is.scope;
        block = is.block;
        word = is.word;
        cells = is.cells;
        words = is.words;
        mark = is.mark;
        link = is.link;
        under = is.under;
        code = is.code;
        is = is.is;
        of_block = record { last = is.of_block.last; room = is.of_block.room };
        last = is.last;
        setting = has_setting_then facts is.setting;
        laid = is.laid;
        apart = is.apart;
        guarded = is.guarded;
        accepts = opens is.accepts;
      }

  room_then : (facts : Facts) (room k : ℕ) (earlier : Communicating) → HasRoom facts room level k earlier → HasRoom facts room settled k earlier
  room_then facts room k earlier is = record { operands = is.operands; made = is.made; branches = is.branches }

  module _ (latest : Communicating) (callers : List ℕ)
      (are : (es : List ℕ) → latest.callers ≡ level.setting.meetings ++ es → callers ≡ meetings ++ es) where
    abbrev pub called_so : Communicating
    called_so = record latest { callers = callers }

    made_then : (depth : ℕ) (earlier : Communicating) → IsMadeOver depth level earlier latest → IsMadeOver depth settled earlier called_so
    made_then depth earlier is = (is.0, are earlier.callers is.1, is.2)

    pub within_then : (facts : Facts) (to : ℕ) → IsWithin facts level to latest → IsWithin facts settled to called_so
    within_then facts to (k, c, is, goes) = (k, c, is, record { entry = goes.entry; before = goes.before; rest = goes.rest })

    module _ (opens : AreOwn level.setting.accepts → AreOwn accepts) where
      pub first_then : (facts : Facts) (homes : Homes) (store : Store) (p room : ℕ) (w : ℤ) (a : Activation) (e : Entry)
          → IsFirst facts homes store p room level w latest a e → IsFirst facts homes store p room settled w called_so a e
      first_then facts homes store p room w a e is =
          record {
            own = is.own;
            stands = stands_then opens facts homes store p a e w is.own is.stands;
            fits = room_then facts room is.own.block (is_unmade latest) is.fits;
            made = made_then 1 (is_unmade latest) is.made;
            block = is.block;
            number = is.number;
            waits = is.waits;
            mark = is.mark;
            under = is.under;
            caller = is.caller;
            link = is.link;
          }

      abbrev called_then : (facts : Facts) (homes : Homes) (entries : Entries) (store : Store) (table : Table) (p room depth : ℕ) (w : ℤ) (a b : Activation)
          (e : Entry) (below : List Entry) (outer : LivingLevel) (v : ℤ) (earlier : Communicating)
          → IsCalled facts homes entries store table p room depth level w latest a b e below outer v earlier
          → IsCalled facts homes entries store table p room depth settled w called_so a b e below outer v earlier
      called_then facts homes entries store table p room depth w a b e below outer v earlier is =
          record {
            own = is.own;
            stands = stands_then opens facts homes store p a e w is.own is.stands;
            fits = room_then facts room is.own.block earlier is.fits;
            made = made_then depth earlier is.made;
            home = is.home;
            at = is.at;
            word = is.word;
            caller = is.caller;
            trial = is.trial;
            accepts = is.accepts;
            seen = is.seen;
            back = is.back;
          }

      pub callers_then : (facts : Facts) (homes : Homes) (entries : Entries) (store : Store) (table : Table) (p room : ℕ) (w : ℤ) (xs : List Activation)
          (es : List Entry)
          → AreCallers facts homes entries store table p room level w latest xs es
          → AreCallers facts homes entries store table p room settled w called_so xs es
      callers_then facts homes entries store table p room w [] es is = absurd is
      callers_then facts homes entries store table p room w (a ∷ xs) [] is = absurd is
      callers_then facts homes entries store table p room w (a ∷ []) (e ∷ []) is = first_then facts homes store p room w a e is
      callers_then facts homes entries store table p room w (a ∷ []) (e ∷ f ∷ es) is = absurd is
      callers_then facts homes entries store table p room w (a ∷ b ∷ xs) (e ∷ []) is = absurd is
      callers_then facts homes entries store table p room w (a ∷ b ∷ xs) (e ∷ f ∷ es) (outer, v, earlier, called, within, others) = (
        outer,
        v,
        earlier,
        called_then facts homes entries store table p room (length (a ∷ b ∷ xs)) w a b e (f ∷ es) outer v earlier called,
        within,
        others,
      )

-- ## One accept more

equal : (n k : ℕ) → (n == k) ≡ true → n ≡ k
equal n k h = grind (arith, h)

one_more : (b : Block) (n : ℕ) (accepts : List ℕ) → is_accept b n ≡ true → ((i : ℕ) → list_any (λ j. j == i) accepts ≡ true → is_accept b i ≡ true)
    → (i : ℕ) → list_any (λ j. j == i) (n ∷ accepts) ≡ true → is_accept b i ≡ true
one_more b n accepts its old i is_open = by (n == i) refl
  where
    by : (c : Bool) → (n == i) ≡ c → is_accept b i ≡ true
    by true same = ap (λ k. is_accept b k) (sym (equal n i same)) ∙ its
    by false other = old i (sym (ap (λ (c : Bool). c || list_any (λ j. j == i) accepts) other) ∙ is_open)

pub one_more_own : (t : Trial) (b : Block) (n : ℕ) (accepts : List ℕ) → is_accept b n ≡ true
    → ((i : ℕ) → list_any (λ j. j == i) (own_accepts t accepts) ≡ true → is_accept b i ≡ true)
    → (i : ℕ) → list_any (λ j. j == i) (own_accepts t (n ∷ accepts)) ≡ true → is_accept b i ≡ true
one_more_own of_own b n accepts its old = one_more b n accepts its old
one_more_own (of_turn scan back) b n accepts its old = one_more b n accepts its old
one_more_own (of_another attempt) b n accepts its old = old
