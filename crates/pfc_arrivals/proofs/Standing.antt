-- What the laws on code and on stacks ask of a process that acts, where it tries no guard of another.
use Rattle.std.proofs.Common.{◌≡◌, ℕ, ◌<◌, ℤ, List, [], ◌∷◌, ◌++◌, length, slice_get, Option, Some, None, option_map, unwrap_or, refl, sym, ap, ◌∙◌, subst, ◌⊎◌}
use Rattle.std.proofs.Common.{inl, inr}
use Rattle.std.proofs.lemmas.Option.{slice_get-map}
use Rattle.pfc_code.specs.declared.instructions.Instr.{Instr}
use Rattle.pfc_code.specs.Images.{PlainImage}
use Rattle.pfc_world.specs.Tables.{Table}
use Rattle.pfc_semantics.specs.Displays.{Display}
use Rattle.pfc_semantics.specs.Programs.{Block, Program}
use Rattle.pfc_semantics.specs.Store.{Store}
use Rattle.pfc_semantics.specs.Configurations.{Activation, Config, activity_of}
use Rattle.pfc_translation.specs.Codes.{Lined}
use Rattle.pfc_translation.specs.Images.{image_of, instructions}
use Rattle.pfc_stacks.specs.Refs.{word_of}
use Rattle.pfc_stacks.specs.Stacks.{Stack, Stacks, stack_of, operands_of, last_activation, first_in_view}
use Rattle.pfc_cells.specs.Homes.{Homes}
use Rattle.pfc_cells.specs.Memory.{Entry, Entries, MemoryIs}
use Rattle.pfc_machines.specs.declared.machine.Machine.{Machine}
use Rattle.pfc_machines.specs.declared.descriptors.Descriptor.{Descriptor}
use Rattle.pfc_machines.specs.Communications.{Communicating}
use Rattle.pfc_machines.specs.Descriptors.{descriptor_of}
use Rattle.pfc_standing_code.specs.Settings.{View, Trial, Setting, of_own, of_turn, of_another, same_block, IsAt}
use Rattle.pfc_standing_code.specs.Performs.{own_view, own_accepts, own_block}
use Rattle.pfc_stack_laws.specs.Standing.{StandsAt, AreTypes, HoldStore, IsAtHand}
use Rattle.pfc_views.specs.Views.{Sees, AreObjects}
use Rattle.pfc_representation.specs.Levels.{Facts, program_in, LivingLevel, HasSetting, SeesWith, SeesThrough}
use Rattle.pfc_representation.specs.Callers.{AreCallers}
use Rattle.pfc_representation.specs.Trials.{TrialIs, HasTried}
use Rattle.pfc_representation.specs.Acting.{IsActing}

-- where the guard of another is tried, static links are counted from that one's last activation: it is not false yet
abbrev pub IsLooking : Trial → Stack → Type 0
IsLooking of_own s = Unit {0}
IsLooking (of_turn scan back) s = Unit {0}
IsLooking (of_another attempt) s = s.looks_from ≡ Some attempt.whom.process

-- the word of the activation from which a process counts them
abbrev pub view_word : Trial → Stacks → ℕ → ℤ
view_word of_own stacks p = word_of (last_activation stacks p)
view_word (of_turn scan back) stacks p = word_of (last_activation stacks p)
view_word (of_another attempt) stacks p = word_of (last_activation stacks attempt.whom.process)

-- the process tries no guard of another
abbrev pub IsCalm : Trial → Type 0
IsCalm of_own = Unit {0}
IsCalm (of_turn scan back) = Unit {0}
IsCalm (of_another attempt) = ⊥

-- ## Code

module _ (code : Lined) (instrs : List Instr) (same : instructions code ≡ instrs) (at : ℕ) (i : Instr) (line : ℕ)
    (there : slice_get code at ≡ Some (i, line)) where
  instr_there : slice_get instrs at ≡ Some i
  instr_there = ap (λ xs. slice_get xs at) (sym same) ∙ slice_get-map (λ c. c.0) code at ∙ ap (λ o. option_map (λ c. c.0) o) there

-- ## The level

setting_of : (facts : Facts) (homes : Homes) (entries : Entries) (store : Store) (table : Table) (p room : ℕ) (level : LivingLevel) (w : ℤ)
    (latest : Communicating) (xs : List Activation) (es : List Entry)
    → AreCallers facts homes entries store table p room level w latest xs es → HasSetting facts level
setting_of facts homes entries store table p room level w latest [] es is = absurd is
setting_of facts homes entries store table p room level w latest (a ∷ xs) [] is = absurd is
setting_of facts homes entries store table p room level w latest (a ∷ []) (e ∷ []) is = is.stands.setting
setting_of facts homes entries store table p room level w latest (a ∷ []) (e ∷ f ∷ es) is = absurd is
setting_of facts homes entries store table p room level w latest (a ∷ b ∷ xs) (e ∷ []) is = absurd is
setting_of facts homes entries store table p room level w latest (a ∷ b ∷ xs) (e ∷ f ∷ es) (outer, v, earlier, called, within, others) = called.stands.setting

first_seen : (facts : Facts) (homes : Homes) (entries : Entries) (store : Store) (table : Table) (p : ℕ) (mine : List Entry) (w : ℤ) (display : Display)
    (g : Setting) (b : Block) (view : View) (others accepts meetings : List ℕ)
    → SeesThrough facts homes entries store table p mine w display g b view others accepts meetings → (lenders : List ℕ)
    × SeesWith facts homes entries store table p lenders mine w display g b accepts view
first_seen facts homes entries store table p mine w display g b view others [] [] is = (others, is)
first_seen facts homes entries store table p mine w display g b view others (i ∷ accepts) (q ∷ meetings) is = (q ∷ meetings ++ others, is.0)
first_seen facts homes entries store table p mine w display g b view others [] (q ∷ meetings) is = absurd is
first_seen facts homes entries store table p mine w display g b view others (i ∷ accepts) [] is = absurd is

module _ (facts : Facts) (m : Machine) (c : Config) (p : ℕ) (level : LivingLevel) (acting : IsActing facts m c p level) where
  abbrev g : Setting
  g = level.setting

  abbrev image : PlainImage
  image = image_of facts.tree

  abbrev here : ℕ
  here = (stack_of m.stacks p).at

  abbrev d : Descriptor
  d = descriptor_of m.descriptors p

  abbrev xs : List Activation
  xs = (activity_of (program_in facts) c p).activations

  pub has_setting : HasSetting facts level
  has_setting =
      setting_of facts acting.homes acting.entries c.store c.table p (stack_of m.stacks p).room level (word_of (last_activation m.stacks p)) d.communications
      xs (acting.entries p)
      acting.actor.stands.callers

  pub stack_there : p < length m.stacks
  stack_there = subst (λ n. p < n) (sym acting.alike.words.stacks) acting.actor.process

  pub descriptor_there : p < length m.descriptors
  descriptor_there = subst (λ n. p < n) (sym acting.alike.words.descriptors) acting.actor.process

  pub code_there : (at : ℕ) (i : Instr) (line : ℕ) → IsAt g at i line → slice_get image.code at ≡ Some i
  code_there at i line there = instr_there g.code image.code has_setting.image.code at i line there

  -- ## What the laws on stacks ask

  pub hold_store : HoldStore g acting.homes acting.entries c.store m.stacks
  hold_store =
      let old = acting.alike.holds in
      let same : g.program ≡ program_in facts = has_setting.image.program in
      record {
        types = subst (λ (x : Program). AreTypes x.state.forms) (sym same) acting.alike.program.types;
        memory = subst (λ (x : Program). MemoryIs x acting.homes acting.entries c.store m.stacks) (sym same) old.memory;
        few = old.few;
        objects =
            subst (λ (x : Program). AreObjects x acting.homes acting.entries c.store g.number) (sym same)
            (subst (λ (f : ℤ → Option ℤ). AreObjects (program_in facts) acting.homes acting.entries c.store f) (sym has_setting.number) old.objects);
      }

  pub not_tried : (t : Trial) → IsLooking t (stack_of m.stacks p) → HasTried t facts (stack_of m.stacks p) level xs d → ⊥
  not_tried of_own looking is = is
  not_tried (of_turn scan back) looking is = is
  not_tried (of_another attempt) looking is = (let both : Some attempt.whom.process ≡ None = sym looking ∙ is.0 in cc)

  pub still_tries : (t : Trial) → IsLooking t (stack_of m.stacks p)
      → TrialIs t facts acting.homes acting.entries c.store m.stacks c.table p level xs d ⊎ HasTried t facts (stack_of m.stacks p) level xs d
      → TrialIs t facts acting.homes acting.entries c.store m.stacks c.table p level xs d
  still_tries t looking (inl is) = is
  still_tries t looking (inr is) = absurd (not_tried t looking is)

  counts_from : (t : Trial) → TrialIs t facts acting.homes acting.entries c.store m.stacks c.table p level xs d
      → word_of (first_in_view m.stacks p) ≡ view_word t m.stacks p
  counts_from of_own is = ap (λ (o : Option ℕ). word_of (last_activation m.stacks (unwrap_or o p))) is.0
  counts_from (of_turn scan back) is = ap (λ (o : Option ℕ). word_of (last_activation m.stacks (unwrap_or o p))) is.0
  counts_from (of_another attempt) is = ap (λ (o : Option ℕ). word_of (last_activation m.stacks (unwrap_or o p))) is.from

  abbrev SeenThrough : Trial → Type 0
  SeenThrough t =
      SeesThrough facts acting.homes acting.entries c.store c.table p (acting.entries p) (word_of (last_activation m.stacks p))
      (activity_of (program_in facts) c p).display g
      (own_block t g.block) (own_view t g.view) acting.actor.stands.seen.others (own_accepts t g.accepts) g.meetings

  own_hand : SeesThrough facts acting.homes acting.entries c.store c.table p (acting.entries p) (word_of (last_activation m.stacks p))
      (activity_of (program_in facts) c p).display g g.block g.view
      acting.actor.stands.seen.others g.accepts g.meetings → IsAtHand g acting.homes acting.entries c.store g.block (word_of (last_activation m.stacks p))
  own_hand sees =
      let w : ℤ = word_of (last_activation m.stacks p) in
      let display : Display = (activity_of (program_in facts) c p).display in
      let first = first_seen facts acting.homes acting.entries c.store c.table p (acting.entries p) w display g g.block g.view
      acting.actor.stands.seen.others g.accepts g.meetings sees in
      record {
        keeps = first.1.keeps;
        display = display;
        chain = first.1.chain;
        sees = subst (λ (x : Program). Sees x acting.homes acting.entries c.store first.1.keeps display g.block g.accepts w first.1.chain g.view)
            (sym has_setting.image.program) (first.1.sees g.block same_block);
      }

  hand_by : (t : Trial) → TrialIs t facts acting.homes acting.entries c.store m.stacks c.table p level xs d → SeenThrough t
      → IsAtHand g acting.homes acting.entries c.store g.block (view_word t m.stacks p)
  hand_by of_own is sees = own_hand sees
  hand_by (of_turn scan back) is sees = own_hand sees
  hand_by (of_another attempt) is sees = record {
    keeps = is.sees.keeps;
    display = is.display;
    chain = is.sees.chain;
    sees = subst (λ (x : Program). Sees x acting.homes acting.entries c.store is.sees.keeps is.display g.block g.accepts
        (word_of (last_activation m.stacks attempt.whom.process)) is.sees.chain g.view)
        (sym has_setting.image.program) (is.sees.sees g.block same_block);
  }

  module _ (looking : IsLooking g.trial (stack_of m.stacks p)) where
    pub stands_at : StandsAt m.stacks p here (operands_of m.stacks p) g.room (view_word g.trial m.stacks p)
    stands_at = record {
      process = stack_there;
      address = refl;
      operands = refl;
      has_room = acting.actor.stands.room;
      from = counts_from g.trial (still_tries g.trial looking acting.actor.trial);
    }

    pub at_hand : IsAtHand g acting.homes acting.entries c.store g.block (view_word g.trial m.stacks p)
    at_hand = hand_by g.trial (still_tries g.trial looking acting.actor.trial) acting.actor.stands.seen.sees
