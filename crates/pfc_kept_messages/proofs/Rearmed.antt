-- A process that has made other alternatives, or that goes on elsewhere in its code, while all else of its level is as it was.
use Rattle.std.proofs.Common.{◌≡◌, ◌≤◌, ℕ, ℤ, List, [], ◌∷◌, length, sym, ap, ◌∙◌, subst}
use Rattle.pfc_code.specs.declared.images.Block.{Block as CodeBlock}
use Rattle.pfc_world.specs.Tables.{Table}
use Rattle.pfc_semantics.specs.Configurations.{Hand, Activation, Activity}
use Rattle.pfc_semantics.specs.Displays.{Display}
use Rattle.pfc_semantics.specs.Rewriting.{Doing}
use Rattle.pfc_semantics.specs.Store.{Store}
use Rattle.pfc_translation.specs.Images.{image_of}
use Rattle.pfc_stacks.specs.declared.refs.Ref.{Ref}
use Rattle.pfc_stacks.specs.Refs.{word_of}
use Rattle.pfc_stacks.specs.Stacks.{Stacks, stack_of, last_activation}
use Rattle.pfc_cells.specs.Homes.{Homes}
use Rattle.pfc_cells.specs.Memory.{Entry, Entries}
use Rattle.pfc_machines.specs.declared.descriptors.Descriptor.{Descriptor}
use Rattle.pfc_machines.specs.declared.rooms.Room.{Room}
use Rattle.pfc_machines.specs.Communications.{Communicating}
use Rattle.pfc_standing_code.specs.Effects.{Arm}
use Rattle.pfc_representation.specs.Levels.{Facts, program_in, LivingLevel, block_of, IsBlockAt, HasSetting, IsSeenBy}
use Rattle.pfc_representation.specs.Rooms.{process_count, HasRoom, LeadWithin, MayMeet}
use Rattle.pfc_representation.specs.Callers.{Linkage, StandsFor, IsMadeOver, is_unmade, IsFirst, IsCalled, AreCallers}
use Rattle.pfc_representation.specs.Holding.{Holders}
use Rattle.pfc_representation.specs.Processes.{AreMet, IsAtLevel}

module _ (facts : Facts) (homes : Homes) (entries : Entries) (store : Store) (table : Table) (p : ℕ) (level : LivingLevel) (arms : List Arm) where
  abbrev level' : LivingLevel
  level' = record level { arms = arms }

  -- other alternatives of the last of so many activations, in the place of those that were made over the same earlier ones
  pub record AreInstead (count : ℕ) (latest latest' : Communicating) : Type 0 where
    pub room : latest'.room ≡ latest.room
    pub callers : latest'.callers ≡ latest.callers
    pub made : (earlier : Communicating) → IsMadeOver count level earlier latest → IsMadeOver count level' earlier latest'
    pub leads : (k : ℕ) (b : CodeBlock) → IsBlockAt (program_in facts) (image_of facts.tree).blocks k (block_of level) b → LeadWithin facts k level.arms
        → LeadWithin facts k arms
    pub accepts : MayMeet (process_count facts) latest.room.meetings level.arms → MayMeet (process_count facts) latest'.room.meetings arms

  setting_again : HasSetting facts level → HasSetting facts level'
  setting_again is = record { image = is.image; arms = is.arms; number = is.number }

  stands_again : (a : Activation) (e : Entry) (w : ℤ) (own : Linkage) → StandsFor facts homes store p a e w own level
      → StandsFor facts homes store p a e w own level'
  stands_again a e w own is =
      record {
        number = is.number;
        home = is.home;
        at = is.at;
        process = is.process;
        scope = is.scope;
        block = is.block;
        word = is.word;
        cells = is.cells;
        words = is.words;
        mark = is.mark;
        link = is.link;
        under = is.under;
        code = is.code;
        is = is.is;
        of_block = is.of_block;
        last = is.last;
        setting = setting_again is.setting;
        laid = is.laid;
        apart = is.apart;
        guarded = is.guarded;
        accepts = is.accepts;
      }

  module _ (count : ℕ) (latest latest' : Communicating) (instead : AreInstead count latest latest') where
    room_again : (room k : ℕ) (b : CodeBlock) (earlier : Communicating) → IsBlockAt (program_in facts) (image_of facts.tree).blocks k (block_of level) b
        → HasRoom facts room level k earlier → HasRoom facts room level' k earlier
    room_again room k b earlier block is = record { operands = is.operands; made = is.made; branches = instead.leads k b block is.branches }

    made_again : (depth : ℕ) (earlier : Communicating) → depth ≡ count → IsMadeOver depth level earlier latest → IsMadeOver depth level' earlier latest'
    made_again depth earlier same is =
        subst (λ n. IsMadeOver n level' earlier latest') (sym same) (instead.made earlier (subst (λ n. IsMadeOver n level earlier latest) same is))

    unmade_same : is_unmade latest ≡ is_unmade latest'
    unmade_same = ap (λ (r : Room). record { alternatives = []; words = []; callers = []; room = r }) (sym instead.room)

    first_again : (room : ℕ) (w : ℤ) (a : Activation) (e : Entry) → 1 ≡ count → IsFirst facts homes store p room level w latest a e
        → IsFirst facts homes store p room level' w latest' a e
    first_again room w a e size is =
        record {
          own = is.own;
          stands = stands_again a e w is.own is.stands;
          fits =
              subst (λ (x : Communicating). HasRoom facts room level' is.own.block x) unmade_same
              (room_again room is.own.block is.stands.code (is_unmade latest) is.stands.is is.fits);
          made = subst (λ (x : Communicating). IsMadeOver 1 level' x latest') unmade_same (made_again 1 (is_unmade latest) size is.made);
          block = is.block;
          number = is.number;
          waits = is.waits;
          mark = is.mark;
          under = is.under;
          caller = is.caller;
          link = is.link;
        }

    abbrev called_again : (room depth : ℕ) (w : ℤ) (a b : Activation) (e : Entry) (below : List Entry) (outer : LivingLevel) (v : ℤ) (earlier : Communicating)
        → depth ≡ count → IsCalled facts homes entries store table p room depth level w latest a b e below outer v earlier
        → IsCalled facts homes entries store table p room depth level' w latest' a b e below outer v earlier
    called_again room depth w a b e below outer v earlier size is =
        record {
          own = is.own;
          stands = stands_again a e w is.own is.stands;
          fits = room_again room is.own.block is.stands.code earlier is.stands.is is.fits;
          made = made_again depth earlier size is.made;
          home = is.home;
          at = is.at;
          word = is.word;
          caller = is.caller;
          trial = is.trial;
          accepts = is.accepts;
          seen = is.seen;
          back = is.back;
        }

    pub callers_again : (room : ℕ) (w : ℤ) (xs : List Activation) (es : List Entry) → length xs ≡ count
        → AreCallers facts homes entries store table p room level w latest xs es
        → AreCallers facts homes entries store table p room level' w latest' xs es
    callers_again room w [] es size is = absurd is
    callers_again room w (a ∷ xs) [] size is = absurd is
    callers_again room w (a ∷ []) (e ∷ []) size is = first_again room w a e size is
    callers_again room w (a ∷ []) (e ∷ f ∷ es) size is = absurd is
    callers_again room w (a ∷ b ∷ xs) (e ∷ []) size is = absurd is
    callers_again room w (a ∷ b ∷ xs) (e ∷ f ∷ es) size (outer, v, earlier, called, within, others) = (
      outer,
      v,
      earlier,
      called_again room (length (a ∷ b ∷ xs)) w a b e (f ∷ es) outer v earlier size called,
      within,
      others,
    )

    seen_again : (mine : List Entry) (w : ℤ) (display : Display) → IsSeenBy facts homes entries store table p latest.callers mine w display level
        → IsSeenBy facts homes entries store table p latest'.callers mine w display level'
    seen_again mine w display is =
        record { others = is.others; met = instead.callers ∙ is.met; sees = is.sees; around = is.around }

  module _ (stacks stacks' : Stacks) (h : Holders) (a : Activity) (d : Descriptor) (latest' : Communicating)
      (instead : AreInstead d.activations d.communications latest')
      (base : last_activation stacks' p ≡ last_activation stacks p) (room : (stack_of stacks' p).room ≡ (stack_of stacks p).room) where
    -- whatever it does, shows and offers then
    pub level_again : (doing : Doing) (hand : Hand) (line line' offered : ℕ) → IsAtLevel facts homes entries store stacks table h p a d level
        → IsAtLevel facts homes entries store stacks' table h p (record a { doing = doing; hand = hand; line = line })
        (record d { line = line'; communications = latest'; offered = offered }) level'
    level_again doing hand line line' offered is =
        record {
          count = is.count;
          seen =
              subst (λ (r : Ref). IsSeenBy facts homes entries store table p latest'.callers (entries p) (word_of r) a.display level') (sym base)
              (seen_again d.activations d.communications latest' instead (entries p) (word_of (last_activation stacks p)) a.display is.seen);
          callers =
              subst (λ (r : Ref). AreCallers facts homes entries store table p (stack_of stacks' p).room level' (word_of r) latest' a.activations (entries p))
              (sym base)
              (subst (λ n. AreCallers facts homes entries store table p n level' (word_of (last_activation stacks p)) latest' a.activations (entries p))
              (sym room)
              (callers_again d.activations d.communications latest' instead (stack_of stacks p).room (word_of (last_activation stacks p)) a.activations
              (entries p) (sym is.count) is.callers));
          room = subst (λ n. level.setting.room ≤ n) (sym room) is.room;
          accepts = instead.accepts is.accepts;
          met = subst (λ (qs : List ℕ). AreMet table p qs) (sym instead.callers) is.met;
          holds = is.holds;
        }
