-- A level of which the own parts are those of another: in another turn or trial of a scan, or behind it.
use Rattle.std.proofs.Common.{◌≡◌, ℕ, ◌+◌, ◌≤◌, ◌==◌, ◌++◌, ℤ, List, [], ◌∷◌, length, map, slice_get, sym, ap, ◌∙◌, subst}
use Rattle.std.specs.List.{list_any}
use Rattle.pfc_world.specs.Tables.{Table}
use Rattle.pfc_semantics.specs.Displays.{Display}
use Rattle.pfc_semantics.specs.Programs.{Block, Program}
use Rattle.pfc_semantics.specs.Store.{Store}
use Rattle.pfc_semantics.specs.Configurations.{of_resource, Activation}
use Rattle.pfc_translation.specs.Sites.{is_accept}
use Rattle.pfc_translation.specs.Calls.{resource_of}
use Rattle.pfc_translation.specs.Images.{image_of, instructions, site_in}
use Rattle.pfc_cells.specs.Homes.{Homes}
use Rattle.pfc_cells.specs.Memory.{Entry, Entries}
use Rattle.pfc_machines.specs.Communications.{Communicating}
use Rattle.pfc_standing_code.specs.Settings.{View, Setting, IsMains, IsBeside, same_block, both_mains}
use Rattle.pfc_standing_code.specs.Effects.{Arm}
use Rattle.pfc_standing_code.specs.Performs.{own_view, own_accepts, own_again}
use Rattle.pfc_standing_images.specs.Images.{IsOfBlock}
use Rattle.pfc_representation.specs.Levels.{Facts, program_in, LivingLevel, block_of, IsBlockAt, HasSetting, SeesWith, SeesThrough, IsSeenBy}
use Rattle.pfc_representation.specs.Rooms.{guards_room, HasRoom, LeadWithin}
use Rattle.pfc_representation.specs.Callers.{GoesBack, Linkage, StandsFor, IsMadeOver, is_unmade, IsFirst, IsCalled, AreCallers}
use Rattle.pfc_representation.specs.Alternatives.{AreMade}

module _ (facts : Facts) (homes : Homes) (entries : Entries) (store : Store) (table : Table) (p : ℕ) (level level' : LivingLevel)
    (same : own_again level'.setting ≡ own_again level.setting) (arms : level'.arms ≡ level.arms) where
  program_same : level'.setting.program ≡ level.setting.program
  program_same = ap (λ (s : Setting). s.program) same

  block_same : block_of level' ≡ block_of level
  block_same = ap (λ (s : Setting). s.block) same

  meetings_same : level.setting.meetings ≡ level'.setting.meetings
  meetings_same = ap (λ (s : Setting). s.meetings) (sym same)

  -- ## What is seen

  mains_same : (b : Block) → IsMains level'.setting b → IsMains level.setting b
  mains_same b (i, is) = (i, ap (λ (g : Program). slice_get (g.main ∷ g.modules) i) (sym program_same) ∙ is)

  beside_same : (b c : Block) → IsBeside level'.setting b c → IsBeside level.setting b c
  beside_same b _ same_block = same_block
  beside_same b _ (both_mains c one two) = both_mains c (mains_same b one) (mains_same c two)

  with_again : (lenders : List ℕ) (mine : List Entry) (w : ℤ) (display : Display) (b : Block) (accepts : List ℕ) (view : View)
      → SeesWith facts homes entries store table p lenders mine w display level.setting b accepts view
      → SeesWith facts homes entries store table p lenders mine w display level'.setting b accepts view
  with_again lenders mine w display b accepts view is =
      record { keeps = is.keeps; chain = is.chain; sees = λ c beside. is.sees c (beside_same b c beside); keeps_these = is.keeps_these }

  through_again : (mine : List Entry) (w : ℤ) (display : Display) (b : Block) (view : View) (others accepts meetings : List ℕ)
      → SeesThrough facts homes entries store table p mine w display level.setting b view others accepts meetings
      → SeesThrough facts homes entries store table p mine w display level'.setting b view others accepts meetings
  through_again mine w display b view others [] [] is = with_again others mine w display b [] view is
  through_again mine w display b view others (i ∷ accepts) (q ∷ meetings) is =
      (with_again (q ∷ meetings ++ others) mine w display b (i ∷ accepts) view is.0, through_again mine w display b view others accepts meetings is.1)
  through_again mine w display b view others [] (q ∷ meetings) is = absurd is
  through_again mine w display b view others (i ∷ accepts) [] is = absurd is

  pub seen_again : (callers : List ℕ) (mine : List Entry) (w : ℤ) (display : Display)
      → IsSeenBy facts homes entries store table p callers mine w display level → IsSeenBy facts homes entries store table p callers mine w display level'
  seen_again callers mine w display is =
      record {
        others = is.others;
        met = is.met ∙ ap (λ (qs : List ℕ). qs ++ is.others) meetings_same;
        sees =
            subst (λ (s : Setting). SeesThrough facts homes entries store table p mine w display level'.setting s.block s.view is.others s.accepts s.meetings)
            (sym same)
            (through_again mine w display (block_of level) (own_view level.setting.trial level.setting.view) is.others
            (own_accepts level.setting.trial level.setting.accepts) level.setting.meetings is.sees);
        around = λ c beside. is.around c (subst (λ (b : Block). IsBeside level.setting b c) block_same (beside_same (block_of level') c beside));
      }

  -- ## The activations

  setting_again : HasSetting facts level → HasSetting facts level'
  setting_again is =
      record {
        image = record {
          program = program_same ∙ is.image.program;
          code = ap (λ (s : Setting). instructions s.code) same ∙ is.image.code;
          lines = ap (λ (s : Setting). map (λ c. c.1) s.code) same ∙ is.image.lines;
          texts = ap (λ (s : Setting). s.texts) same ∙ is.image.texts;
          arms = subst (λ (s : Setting). (image_of facts.tree).arms ≤ s.arms) (sym same) is.image.arms;
        };
        arms = ap (λ (s : Setting). s.arms) same ∙ is.arms;
        number = ap (λ (s : Setting). s.number) same ∙ is.number;
      }

  stands_again : (a : Activation) (e : Entry) (w : ℤ) (own : Linkage) → StandsFor facts homes store p a e w own level
      → StandsFor facts homes store p a e w own level'
  stands_again a e w own is =
      record {
        number = is.number;
        home = is.home;
        at = is.at;
        process = is.process;
        scope = is.scope;
        block = ap (λ (b : Block). b.scope) block_same ∙ is.block;
        word = is.word;
        cells = is.cells ∙ ap (λ (b : Block). is.home.cell + (b.cells + 8)) (sym block_same);
        words = is.words;
        mark = is.mark;
        link = is.link;
        under = is.under ∙ ap (λ (s : Setting). length s.under) (sym same);
        code = is.code;
        is = subst (λ (b : Block). IsBlockAt (program_in facts) (image_of facts.tree).blocks own.block b is.code) (sym block_same) is.is;
        of_block = subst (λ (s : Setting). IsOfBlock s s.block is.code) (sym same) is.of_block;
        last = ap (λ (s : Setting). s.last) same ∙ is.last;
        setting = setting_again is.setting;
        laid = is.laid ∙ ap (λ (b : Block). b.layout) (sym block_same);
        apart = λ k t l laid. is.apart k t l (ap (λ (b : Block). slice_get b.layout k) (sym block_same) ∙ laid);
        guarded = λ guard has.
            is.guarded guard (ap (λ (b : Block). b.guard) (sym block_same) ∙ has)
            ∙ ap (λ (b : Block). of_resource (resource_of (site_in (program_in facts) b))) (sym block_same);
        accepts = λ i is_open. ap (λ (b : Block). is_accept b i) block_same
            ∙ is.accepts i (ap (λ (s : Setting). list_any (λ j. j == i) s.accepts) (sym same) ∙ is_open);
      }

  room_again : (room k : ℕ) (earlier : Communicating) → HasRoom facts room level k earlier → HasRoom facts room level' k earlier
  room_again room k earlier is =
      record {
        operands = subst (λ (s : Setting). s.room + guards_room facts ≤ room) (sym same) is.operands;
        made = is.made;
        branches = subst (λ (xs : List Arm). LeadWithin facts k xs) (sym arms) is.branches;
      }

  made_again : (depth : ℕ) (earlier latest : Communicating) → IsMadeOver depth level earlier latest → IsMadeOver depth level' earlier latest
  made_again depth earlier latest is = (
    is.0,
    is.1 ∙ ap (λ (qs : List ℕ). qs ++ earlier.callers) meetings_same,
    subst (λ (xs : List Arm). AreMade depth earlier.alternatives earlier.words xs latest.alternatives latest.words) (sym arms) is.2,
  )

  first_again : (room : ℕ) (w : ℤ) (latest : Communicating) (a : Activation) (e : Entry) → IsFirst facts homes store p room level w latest a e
      → IsFirst facts homes store p room level' w latest a e
  first_again room w latest a e is =
      record {
        own = is.own;
        stands = stands_again a e w is.own is.stands;
        fits = room_again room is.own.block (is_unmade latest) is.fits;
        made = made_again 1 (is_unmade latest) latest is.made;
        block = block_same ∙ is.block;
        number = is.number;
        waits = is.waits;
        mark = is.mark;
        under = ap (λ (s : Setting). s.under) same ∙ is.under;
        caller = is.caller;
        link = is.link;
      }

  abbrev called_again : (room depth : ℕ) (w : ℤ) (latest : Communicating) (a b : Activation) (e : Entry) (below : List Entry) (outer : LivingLevel) (v : ℤ)
      (earlier : Communicating)
      → IsCalled facts homes entries store table p room depth level w latest a b e below outer v earlier
      → IsCalled facts homes entries store table p room depth level' w latest a b e below outer v earlier
  called_again room depth w latest a b e below outer v earlier is =
      record {
        own = is.own;
        stands = stands_again a e w is.own is.stands;
        fits = room_again room is.own.block earlier is.fits;
        made = made_again depth earlier latest is.made;
        home = is.home;
        at = is.at;
        word = is.word;
        caller = is.caller;
        trial = is.trial;
        seen = is.seen;
        back = subst (λ (s : Setting). GoesBack facts outer is.own.address s.under a.mark a.caller) (sym same) is.back;
        accepts = is.accepts;
      }

  pub callers_again : (room : ℕ) (w : ℤ) (latest : Communicating) (xs : List Activation) (es : List Entry)
      → AreCallers facts homes entries store table p room level w latest xs es → AreCallers facts homes entries store table p room level' w latest xs es
  callers_again room w latest [] es is = absurd is
  callers_again room w latest (a ∷ xs) [] is = absurd is
  callers_again room w latest (a ∷ []) (e ∷ []) is = first_again room w latest a e is
  callers_again room w latest (a ∷ []) (e ∷ f ∷ es) is = absurd is
  callers_again room w latest (a ∷ b ∷ xs) (e ∷ []) is = absurd is
  callers_again room w latest (a ∷ b ∷ xs) (e ∷ f ∷ es) (outer, v, earlier, called, within, others) = (
    outer,
    v,
    earlier,
    called_again room (length (a ∷ b ∷ xs)) w latest a b e (f ∷ es) outer v earlier called,
    within,
    others,
  )
