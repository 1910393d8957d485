-- Who creates a process is main, in its only activation, in no meeting: it sees main's variables alone.
use Rattle.std.proofs.Common.{◌≡◌, ℕ, zero, suc, ◌+◌, ◌<◌, ◌||◌, Bool, true, false, ℤ, List, [], ◌∷◌, ◌++◌, length, slice_get}
use Rattle.std.proofs.Common.{All, ◌==◌, Some, None, refl, sym, ap, ◌∙◌, subst, arith, ◌⊎◌, inl, inr}
use Rattle.std.specs.List.{list_any}
use Rattle.std.proofs.lemmas.Option.{slice_get_within}
use Rattle.pfc_code.specs.declared.instructions.Instr.TheVariants.{NEW, END}
use Rattle.pfc_types.specs.declared.scope.Meaning.{Meaning}
use Rattle.pfc_state.specs.Stands.{Stand, Is_ready, Waits}
use Rattle.pfc_state.specs.declared.waits.Why.TheVariants.{Meeting}
use Rattle.pfc_world.specs.Tables.{Table, at}
use Rattle.pfc_semantics.specs.Displays.{Spot, Display, frame_of}
use Rattle.pfc_semantics.specs.Layouts.{sub_with}
use Rattle.pfc_semantics.specs.Programs.{Block, Program}
use Rattle.pfc_semantics.specs.Processes.{process_block}
use Rattle.pfc_semantics.specs.Store.{Store, variable}
use Rattle.pfc_semantics.specs.Configurations.{Activation, Config, activity_of}
use Rattle.pfc_translation.specs.Sites.{is_mains}
use Rattle.pfc_translation.specs.Images.{image_of, end_of}
use Rattle.pfc_stacks.specs.Refs.{word_of}
use Rattle.pfc_stacks.specs.Stacks.{stack_of, last_activation}
use Rattle.pfc_stacks.specs.Activations.{main_link}
use Rattle.pfc_cells.specs.Homes.{Home, Homes}
use Rattle.pfc_cells.specs.Memory.{Entry, Entries, IsAmong}
use Rattle.pfc_machines.specs.declared.machine.Machine.{Machine}
use Rattle.pfc_machines.specs.declared.descriptors.Descriptor.{Descriptor}
use Rattle.pfc_machines.specs.Communications.{Communicating}
use Rattle.pfc_machines.specs.Descriptors.{descriptor_of}
use Rattle.pfc_standing_code.specs.Settings.{View, Trial, Setting, of_own, IsBeside, same_block, IsAt}
use Rattle.pfc_standing_code.specs.Words.{is_known}
use Rattle.pfc_standing_code.specs.Performs.{own_view, own_accepts, own_block}
use Rattle.pfc_views.specs.Views.{own_place, IsNamed, Sees}
use Rattle.pfc_stack_laws.specs.Standing.{IsAtHand}
use Rattle.pfc_call_laws.specs.Around.{scopes_around}
use Rattle.pfc_call_laws.specs.Calls.{first_home}
use Rattle.pfc_call_laws.proofs.Displays.{no_frame}
use Rattle.pfc_call_laws.proofs.Inside.{mains_not_shown}
use Rattle.pfc_nesting_laws.proofs.Programs.{main_alone}
use Rattle.pfc_represented_start.proofs.Setting.{main_end}
use Rattle.pfc_representation.specs.Levels.{Facts, program_in, LivingLevel, block_of, is_met_by, MayKeep, of_main, of_own as of_own_stack, lent}
use Rattle.pfc_representation.specs.Levels.{SeesThrough}
use Rattle.pfc_representation.specs.Rooms.{end_in, own_address}
use Rattle.pfc_representation.specs.Callers.{first_block, IsWithin, AreCallers}
use Rattle.pfc_representation.specs.Holding.{is_quiet, waits_at_coend}
use Rattle.pfc_representation.specs.Acting.{IsActing}
use Rattle.pfc_kept_own_actions.proofs.Arrived.{has_setting, code_there}
use Rattle.pfc_kept_calls.proofs.Caller.{g, a, w, outer, seen_here, hand, shows}
use Rattle.pfc_kept_lives.proofs.Creators.{created_in_main}
use Rattle.pfc_kept_lives.proofs.Callees.{process_is_not_main}
use Rattle.pfc_kept_lives.proofs.Only.{IsOnly, only_of}

-- ## Another display

-- in which the scopes that are known have the same frames
module _ (g : Program) (homes : Homes) (entries : Entries) (store : Store) (keeps : ℕ → Bool) (b : Block) (accepts : List ℕ) (w : ℤ) (chain : List ℕ)
    (view : View) (display other : Display) (alike : (i : ℕ) → is_known g.state.blocks b accepts i ≡ true → frame_of display i ≡ frame_of other i)
  where
    named_alike : (v : Spot) (meaning : Meaning) → frame_of display v.scope ≡ frame_of other v.scope
        → IsNamed g homes store keeps display b chain view v meaning → IsNamed g homes store keeps other b chain view v meaning
    named_alike v meaning same is = record {
      linked = is.linked ∙ ap (λ f. Some f.activation) same;
      home = is.home;
      at = ap (λ f. homes f.activation) (sym same) ∙ is.at;
      place = ap (λ f. f.first + v.variable) (sym same) ∙ is.place;
      layout = is.layout;
      reached = is.reached;
      refers = is.refers;
      target = λ t reference. (let its = is.target t reference in (
        its.0,
        its.1,
        ap (λ f. variable store (record { activation = f.activation; variable = f.first + v.variable; selectors = [] })) (sym same) ∙ its.2,
        its.3,
        its.4,
        its.5,
      ));
    }

    pub sees_alike : Sees g homes entries store keeps display b accepts w chain view → Sees g homes entries store keeps other b accepts w chain view
    sees_alike is = record {
      live = is.live;
      links = is.links;
      firsts = is.firsts;
      cells = is.cells;
      references = is.references;
      names = λ v meaning known own laid variable_laid.
          named_alike v meaning (alike v.scope known) (is.names v meaning known own laid variable_laid);
    }

-- ## Nobody meets main while it acts

met_not_quiet : (s : Stand) (q : ℕ) → is_met_by s q → is_quiet s ≡ true → ⊥
met_not_quiet (Waits (Meeting owner) ticket arms) q met quiet = (let no : false ≡ true = quiet in cc)
met_not_quiet s q met quiet = absurd met

no_parts : (xs ys : List ℕ) → xs ++ ys ≡ [] → xs ≡ []
no_parts [] ys h = refl
no_parts (x ∷ xs) ys h = (let no : x ∷ (xs ++ ys) ≡ [] = h in absurd (cc))

none_open : (facts : Facts) (homes : Homes) (entries : Entries) (store : Store) (table : Table) (p : ℕ) (mine : List Entry) (w : ℤ) (display : Display)
    (g : Setting) (b : Block) (view : View) (others accepts meetings : List ℕ)
    → SeesThrough facts homes entries store table p mine w display g b view others accepts meetings → meetings ≡ [] → accepts ≡ []
none_open facts homes entries store table p mine w display g b view others [] meetings is none = refl
none_open facts homes entries store table p mine w display g b view others (i ∷ accepts) [] is none = absurd is
none_open facts homes entries store table p mine w display g b view others (i ∷ accepts) (q ∷ meetings) is none =
    (let no : q ∷ meetings ≡ [] = none in absurd (cc))

kept_zero : (table : Table) (entries : Entries) (p : ℕ) (lenders : List ℕ) (mine : List Entry) (y : ℕ) → MayKeep table entries p lenders mine y → lenders ≡ []
    → ((x : ℕ) → IsAmong x mine → x ≡ 0) → y ≡ 0
kept_zero table entries _ _ _ _ (of_main p lenders mine) none zeroth = refl
kept_zero table entries _ _ _ _ (of_own_stack p lenders mine y among) none zeroth = zeroth y among
kept_zero table entries _ _ _ _ (lent p lenders mine y k q others there met inner) none zeroth =
    (let no : None ≡ Some q = ap (λ (l : List ℕ). slice_get l k) (sym none) ∙ there in absurd (cc))

-- how the body of a level ends
ends_as : (facts : Facts) (homes : Homes) (entries : Entries) (store : Store) (table : Table) (p room : ℕ) (level : LivingLevel) (w : ℤ)
    (latest : Communicating) (xs : List Activation) (es : List Entry) → AreCallers facts homes entries store table p room level w latest xs es
    → level.setting.last ≡ end_of (sub_with level.setting.program.state.blocks.subs (block_of level).scope)
ends_as facts homes entries store table p room level w latest [] es is = absurd is
ends_as facts homes entries store table p room level w latest (a ∷ xs) [] is = absurd is
ends_as facts homes entries store table p room level w latest (a ∷ []) (e ∷ []) is = is.stands.of_block.last
ends_as facts homes entries store table p room level w latest (a ∷ []) (e ∷ f ∷ es) is = absurd is
ends_as facts homes entries store table p room level w latest (a ∷ b ∷ xs) (e ∷ []) is = absurd is
ends_as facts homes entries store table p room level w latest (a ∷ b ∷ xs) (e ∷ f ∷ es) (caller, v, earlier, called, within, others) =
    called.stands.of_block.last

-- only that of main has its block
first_is_main : (g : Program) (q most : ℕ) → ((r : ℕ) → 0 < r → r < most → process_block g r ≡ g.main → ⊥) → q < most → first_block g q ≡ g.main → q ≡ 0
first_is_main g zero most apart less is = refl
first_is_main g (suc q) most apart less is = absurd (apart (suc q) (some q) less is)
  where
    some : (n : ℕ) → 0 < suc n
    some n = grind arith

-- ## Main

-- what main sees, by main's own display, and keeps: itself alone
pub record IsMaker (facts : Facts) (m : Machine) (c : Config) (p : ℕ) (level : LivingLevel) (acting : IsActing facts m c p level)
    (own : level.setting.trial ≡ of_own) : Type 0 where
  pub hand : IsAtHand (outer facts m c p level acting) acting.homes acting.entries c.store (program_in facts).main main_link
  pub display : hand.display ≡ []
  pub keeps : (y : ℕ) → hand.keeps y ≡ (seen_here facts m c p level acting own).keeps y
  pub main_alone : (y : ℕ) → hand.keeps y ≡ true → y ≡ 0

module _ (facts : Facts) (m : Machine) (c : Config) (p : ℕ) (level : LivingLevel) (acting : IsActing facts m c p level) (own : level.setting.trial ≡ of_own)
    (n line : ℕ) (there : IsAt level.setting (stack_of m.stacks p).at (NEW n) line)
    (goes : IsWithin facts level (own_address level.setting.trial (stack_of m.stacks p).at) (descriptor_of m.descriptors p).communications) where
  abbrev q : Program
  q = program_in facts

  abbrev its : Descriptor
  its = descriptor_of m.descriptors p

  abbrev here : ℕ
  here = (stack_of m.stacks p).at

  block_is_main : block_of level ≡ q.main
  block_is_main =
      let (k, code, is, on) = subst (λ (t : Trial). IsWithin facts level (own_address t here) its.communications) own goes in by k is.2 on.before
    where
      by : (k : ℕ) → (slice_get q.blocks k ≡ Some (block_of level)) ⊎ ((k ≡ length q.blocks) × (block_of level ≡ q.main))
          → here < end_in facts k → block_of level ≡ q.main
      by k (inl among) before =
          absurd (created_in_main facts.tree acting.alike.program.lawful acting.alike.program.unbroken k here n
          (slice_get_within q.blocks k (block_of level) among) before (code_there facts m c p level acting here (NEW n) line there))
      by k (inr is) before = is.1

  setting_block : level.setting.block ≡ q.main
  setting_block = ap (λ (t : Trial). own_block t level.setting.block) (sym own) ∙ block_is_main

  ends : level.setting.last ≡ END
  ends =
      ends_as facts acting.homes acting.entries c.store c.table p (stack_of m.stacks p).room level (word_of (last_activation m.stacks p)) its.communications
      (activity_of q c p).activations (acting.entries p) acting.actor.stands.callers
      ∙ ap (λ (x : Program). end_of (sub_with x.state.blocks.subs (block_of level).scope)) (has_setting facts m c p level acting).image.program
      ∙ ap (λ (b : Block). end_of (sub_with q.state.blocks.subs b.scope)) block_is_main ∙ sym (main_end facts.tree)

  only : IsOnly facts acting.homes c.store p (stack_of m.stacks p).room level (word_of (last_activation m.stacks p)) its.communications
      (activity_of q c p).activations (acting.entries p)
  only = only_of facts acting.homes acting.entries c.store c.table p (stack_of m.stacks p).room level (word_of (last_activation m.stacks p))
      its.communications (activity_of q c p).activations (acting.entries p) ends acting.actor.stands.callers

  is_main : p ≡ 0
  is_main = first_is_main q p (length (image_of facts.tree).processes)
      (process_is_not_main facts.tree acting.alike.program.lawful acting.alike.program.unbroken)
      (subst (λ k. p < k) acting.alike.words.processes acting.actor.process) (sym only.first.block ∙ block_is_main)

  number_zero : only.top.number ≡ 0
  number_zero = only.first.number is_main

  home_first : only.first.stands.home ≡ first_home 0 0
  home_first =
      let both : Some only.first.stands.home ≡ Some (first_home 0 0) = sym only.first.stands.at ∙ ap acting.homes number_zero ∙ acting.alike.holds.main in
      cc

  word_main : word_of (last_activation m.stacks p) ≡ main_link
  word_main = only.first.stands.word ∙ ap (λ (h : Home). word_of (own_place h)) home_first

  -- ### Its meetings

  away : waits_at_coend (at c.table.rows 0) ≡ false
  away = ap (λ k. waits_at_coend (at c.table.rows k)) (sym is_main) ∙ ap waits_at_coend acting.actor.ready

  no_callers : its.communications.callers ≡ []
  no_callers = by its.communications.callers acting.actor.stands.met.waiting
    where
      ready_unmet : (s : Stand) (k : ℕ) → s ≡ Is_ready → is_met_by s k → ⊥
      ready_unmet s k ready met = (let none : is_met_by Is_ready k = subst (λ (x : Stand). is_met_by x k) ready met in none)

      some : (k : ℕ) → 0 < suc k
      some k = grind arith

      not_met : (r : ℕ) → is_met_by (at c.table.rows r) p → ⊥
      not_met zero met = ready_unmet (at c.table.rows 0) p (ap (λ k. at c.table.rows k) (sym is_main) ∙ acting.actor.ready) met
      not_met (suc r) met = met_not_quiet (at c.table.rows (suc r)) p met (acting.alike.children away (suc r) (some r))

      by : (callers : List ℕ) → All (λ (r : ℕ). is_met_by (at c.table.rows r) p) callers → callers ≡ []
      by [] met = refl
      by (r ∷ rest) met = absurd (not_met r (met 0 0 (some (length rest))))

  no_meetings : level.setting.meetings ≡ []
  no_meetings = no_parts level.setting.meetings acting.actor.stands.seen.others (sym acting.actor.stands.seen.met ∙ no_callers)

  pub no_accepts : level.setting.accepts ≡ []
  no_accepts =
      ap (λ (t : Trial). own_accepts t level.setting.accepts) (sym own)
      ∙ none_open facts acting.homes acting.entries c.store c.table p (acting.entries p) (word_of (last_activation m.stacks p)) (activity_of q c p).display
      level.setting (block_of level) (own_view level.setting.trial level.setting.view) acting.actor.stands.seen.others
      (own_accepts level.setting.trial level.setting.accepts) level.setting.meetings acting.actor.stands.seen.sees no_meetings

  -- ### What it sees

  beside_main : IsBeside level.setting level.setting.block q.main
  beside_main = subst (λ (b : Block). IsBeside level.setting level.setting.block b) setting_block same_block

  alone : scopes_around q q.main ≡ []
  alone = main_alone facts.tree acting.alike.program.lawful

  known_mains : (i : ℕ) → is_known q.state.blocks q.main level.setting.accepts i ≡ true → is_mains q.state.blocks i ≡ true
  known_mains i known =
      nothing_more (is_mains q.state.blocks i)
      (ap (λ (xs : List ℕ). is_mains q.state.blocks i || (list_any (λ j. j == i) xs || list_any (λ j. j == i) [])) (sym alone)
      ∙ ap (λ (xs : List ℕ). is_mains q.state.blocks i || (list_any (λ j. j == i) (scopes_around q q.main) || list_any (λ j. j == i) xs)) (sym no_accepts)
      ∙ known)
    where
      nothing_more : (b : Bool) → (b || (false || false)) ≡ true → b ≡ true
      nothing_more true h = refl
      nothing_more false h = absurd (let no : false ≡ true = h in cc)

  no_frames : (i : ℕ) → is_known q.state.blocks q.main level.setting.accepts i ≡ true → frame_of (activity_of q c p).display i ≡ frame_of [] i
  no_frames i known =
      no_frame i (activity_of q c p).display
      (mains_not_shown q q.main (activity_of q c p).display (shows facts m c p level acting own q.main beside_main) i (known_mains i known))

  pub is_maker : IsMaker facts m c p level acting own
  is_maker =
      let mine = hand facts m c p level acting own q.main beside_main in
      record {
        hand = record {
          keeps = mine.keeps;
          display = [];
          chain = mine.chain;
          sees = subst (λ (v : ℤ). Sees q acting.homes acting.entries c.store mine.keeps [] q.main level.setting.accepts v mine.chain level.setting.view)
              word_main
              (sees_alike q acting.homes acting.entries c.store mine.keeps q.main level.setting.accepts (word_of (last_activation m.stacks p)) mine.chain
              level.setting.view (activity_of q c p).display [] no_frames mine.sees);
        };
        display = refl;
        keeps = λ y. refl;
        main_alone = λ y kept.
            kept_zero c.table acting.entries p its.communications.callers (acting.entries p) y
            ((seen_here facts m c p level acting own).keeps_these y kept) no_callers zeroth;
      }
    where
      zeroth : (x : ℕ) → IsAmong x (acting.entries p) → x ≡ 0
      zeroth x among = by (subst (λ (es : List Entry). IsAmong x es) only.entries among)
        where
          by : IsAmong x (only.entry ∷ []) → x ≡ 0
          by (inl same) = sym same ∙ only.first.stands.number ∙ number_zero
          by (inr none) = absurd none
