-- Where the code of the process that acts has arrived at an action of its own: what the laws on code and on stacks ask, and what an action may count on.
use Rattle.std.proofs.Common.{◌≡◌, ◌≢◌, ℕ, ◌+◌, ◌*◌, ◌^◌, ◌<◌, ◌≤◌, ℤ, false, List, [], ◌∷◌, ◌++◌, length, map, slice_get, get_or, Option, Some, None}
use Rattle.std.proofs.Common.{option_map, unwrap_or, refl, sym, ap, ◌∙◌, subst, arith, ◌⊎◌, inl, inr}
use Rattle.std.proofs.lemmas.Option.{slice_get-map, slice_get_within, get_or_from_slice_get}
use Rattle.pfc_code.specs.declared.instructions.Instr.{Instr}
use Rattle.pfc_code.specs.Images.{PlainImage}
use Rattle.pfc_state.specs.Stands.{ticket_of}
use Rattle.pfc_world.specs.Tables.{Table, at}
use Rattle.pfc_world.specs.Tickets.{IsNew}
use Rattle.pfc_semantics.specs.Displays.{Display}
use Rattle.pfc_semantics.specs.Programs.{Block, Program}
use Rattle.pfc_semantics.specs.Store.{Store}
use Rattle.pfc_semantics.specs.Configurations.{Activation, Config, activity_of}
use Rattle.pfc_translation.specs.Codes.{Lined}
use Rattle.pfc_translation.specs.Images.{image_of, instructions}
use Rattle.pfc_stacks.specs.Refs.{word_of}
use Rattle.pfc_stacks.specs.Stacks.{stack_of, operands_of, last_activation, first_in_view}
use Rattle.pfc_cells.specs.Homes.{Homes}
use Rattle.pfc_cells.specs.Memory.{Entry, Entries, MemoryIs}
use Rattle.pfc_machines.specs.declared.machine.Machine.{Machine}
use Rattle.pfc_machines.specs.Communications.{Communicating}
use Rattle.pfc_machines.specs.Descriptors.{descriptor_of}
use Rattle.pfc_machine_acts.specs.Conditions.{IsActing as ActsNow}
use Rattle.pfc_standing_code.specs.Settings.{View, Trial, Setting, of_own, of_turn, of_another, IsBeside, IsAt}
use Rattle.pfc_standing_code.specs.Performs.{own_view, own_accepts, own_block}
use Rattle.pfc_stack_laws.specs.Standing.{StandsAt, AreTypes, HoldStore, IsAtHand}
use Rattle.pfc_views.specs.Views.{Sees, AreObjects}
use Rattle.pfc_representation.specs.Levels.{Facts, program_in, LivingLevel, HasSetting, SeesWith, SeesThrough}
use Rattle.pfc_representation.specs.Rooms.{own_address}
use Rattle.pfc_representation.specs.Callers.{IsWithin, AreCallers}
use Rattle.pfc_representation.specs.Trials.{TrialIs, HasTried}
use Rattle.pfc_representation.specs.Acting.{IsActing}
use Rattle.pfc_image_laws.specs.Operands.{is_end}
use Rattle.pfc_kept_own_actions.proofs.Within.{within_next}

-- ## Code

module _ (code : Lined) (instrs : List Instr) (lines : List ℕ) (same : instructions code ≡ instrs) (lined : map (λ c. c.1) code ≡ lines) (at : ℕ) (i : Instr)
    (line : ℕ) (there : slice_get code at ≡ Some (i, line)) where
  pub instr_there : slice_get instrs at ≡ Some i
  instr_there = ap (λ xs. slice_get xs at) (sym same) ∙ slice_get-map (λ c. c.0) code at ∙ ap (λ o. option_map (λ c. c.0) o) there

  pub line_there : get_or lines at 0 ≡ line
  line_there = get_or_from_slice_get lines at line 0
      (ap (λ xs. slice_get xs at) (sym lined) ∙ slice_get-map (λ c. c.1) code at ∙ ap (λ o. option_map (λ c. c.1) o) there)

-- ## The level

setting_of : (facts : Facts) (homes : Homes) (entries : Entries) (store : Store) (table : Table) (p room : ℕ) (level : LivingLevel) (w : ℤ)
    (latest : Communicating) (xs : List Activation) (es : List Entry)
    → AreCallers facts homes entries store table p room level w latest xs es → HasSetting facts level
setting_of facts homes entries store table p room level w latest [] es is = absurd is
setting_of facts homes entries store table p room level w latest (a ∷ xs) [] is = absurd is
setting_of facts homes entries store table p room level w latest (a ∷ []) (e ∷ []) is = is.stands.setting
setting_of facts homes entries store table p room level w latest (a ∷ []) (e ∷ f ∷ es) is = absurd is
setting_of facts homes entries store table p room level w latest (a ∷ b ∷ xs) (e ∷ []) is = absurd is
setting_of facts homes entries store table p room level w latest (a ∷ b ∷ xs) (e ∷ f ∷ es) (outer, v, earlier, called, within, others) = called.stands.setting

pub first_seen : (facts : Facts) (homes : Homes) (entries : Entries) (store : Store) (table : Table) (p : ℕ) (mine : List Entry) (w : ℤ) (display : Display)
    (g : Setting) (b : Block) (view : View) (others accepts meetings : List ℕ)
    → SeesThrough facts homes entries store table p mine w display g b view others accepts meetings → (lenders : List ℕ)
    × SeesWith facts homes entries store table p lenders mine w display g b accepts view
first_seen facts homes entries store table p mine w display g b view others [] [] is = (others, is)
first_seen facts homes entries store table p mine w display g b view others (i ∷ accepts) (q ∷ meetings) is = (q ∷ meetings ++ others, is.0)
first_seen facts homes entries store table p mine w display g b view others [] (q ∷ meetings) is = absurd is
first_seen facts homes entries store table p mine w display g b view others (i ∷ accepts) [] is = absurd is

module _ (facts : Facts) (m : Machine) (c : Config) (p : ℕ) (level : LivingLevel) (acting : IsActing facts m c p level) where
  abbrev g : Setting
  g = level.setting

  abbrev image : PlainImage
  image = image_of facts.tree

  abbrev here : ℕ
  here = (stack_of m.stacks p).at

  pub has_setting : HasSetting facts level
  has_setting =
      let is = acting.actor.stands in
      setting_of facts acting.homes acting.entries c.store c.table p (stack_of m.stacks p).room level (word_of (last_activation m.stacks p))
      (descriptor_of m.descriptors p).communications
      (activity_of (program_in facts) c p).activations (acting.entries p) is.callers

  pub stack_there : p < length m.stacks
  stack_there = subst (λ n. p < n) (sym acting.alike.words.stacks) acting.actor.process

  pub descriptor_there : p < length m.descriptors
  descriptor_there = subst (λ n. p < n) (sym acting.alike.words.descriptors) acting.actor.process

  pub code_there : (at : ℕ) (i : Instr) (line : ℕ) → IsAt g at i line → slice_get image.code at ≡ Some i
  code_there at i line there = instr_there g.code image.code image.lines has_setting.image.code has_setting.image.lines at i line there

  pub code_line : (at : ℕ) (i : Instr) (line : ℕ) → IsAt g at i line → get_or image.lines at 0 ≡ line
  code_line at i line there = line_there g.code image.code image.lines has_setting.image.code has_setting.image.lines at i line there

  -- ## Whoever stands at an instruction may act

  next_fits : (n size : ℕ) → n < size → size < 4294967296 → n + 1 < 4294967296
  next_fits n size less short = grind (arith, less, short)

  pub acts_now : (i : Instr) (line : ℕ) → IsAt g here i line → ActsNow p m
  acts_now i line there =
      record {
        acts = record {
          acting = ap (λ (w : Table). w.acting) acting.world;
          stack = stack_there;
          descriptor = descriptor_there;
          next = next_fits here (length image.code) (slice_get_within image.code here i (code_there here i line there)) acting.alike.program.short;
        };
        fresh = subst (λ (w : Table). IsNew w.rows w.done) (sym acting.world) fresh;
        done = subst (λ (w : Table). w.done < 10 ^ 18) (sym acting.world) acting.few;
        moment = subst (λ (w : Table). w.moment < 2 * 10 ^ 18) (sym acting.world) (soon c.table.moment c.table.done acting.alike.between.moment acting.few);
      }
    where
      late : (n k : ℕ) → n ≡ k + 1 → n ≤ k → ⊥
      late n k h less = grind (arith, h, less)

      fresh : (q : ℕ) → ticket_of (at c.table.rows q) ≢ Some (c.table.done + 1)
      fresh q is = late (c.table.done + 1) c.table.done refl (acting.alike.between.tickets q (c.table.done + 1) is)

      soon : (n k : ℕ) → n ≤ 10 ^ 15 + k → k < 10 ^ 18 → n < 2 * 10 ^ 18
      soon n k h few = grind (arith, h, few)

  -- ## What the laws on stacks ask

  pub hold_store : HoldStore g acting.homes acting.entries c.store m.stacks
  hold_store =
      let old = acting.alike.holds in
      let same : g.program ≡ program_in facts = has_setting.image.program in
      record {
        types = subst (λ (x : Program). AreTypes x.state.forms) (sym same) acting.alike.program.types;
        memory = subst (λ (x : Program). MemoryIs x acting.homes acting.entries c.store m.stacks) (sym same) old.memory;
        few = old.few;
        objects =
            subst (λ (x : Program). AreObjects x acting.homes acting.entries c.store g.number) (sym same)
            (subst (λ (f : ℤ → Option ℤ). AreObjects (program_in facts) acting.homes acting.entries c.store f) (sym has_setting.number) old.objects);
      }

  module _ (own : g.trial ≡ of_own) where
    pub untried : HasTried g.trial facts (stack_of m.stacks p) level (activity_of (program_in facts) c p).activations (descriptor_of m.descriptors p) → ⊥
    untried is = subst (λ (t : Trial). HasTried t facts (stack_of m.stacks p) level (activity_of (program_in facts) c p).activations
        (descriptor_of m.descriptors p)) own is

    looks_own : (stack_of m.stacks p).looks_from ≡ None
    looks_own = which acting.actor.trial
      where
        which : TrialIs g.trial facts acting.homes acting.entries c.store m.stacks c.table p level (activity_of (program_in facts) c p).activations
            (descriptor_of m.descriptors p)
            ⊎ HasTried g.trial facts (stack_of m.stacks p) level (activity_of (program_in facts) c p).activations (descriptor_of m.descriptors p)
            → (stack_of m.stacks p).looks_from ≡ None
        which (inl is) = (subst
            (λ (t : Trial). TrialIs t facts acting.homes acting.entries c.store m.stacks c.table p level (activity_of (program_in facts) c p).activations
            (descriptor_of m.descriptors p)) own is).0
        which (inr is) = absurd (untried is)

    pub stands_at : (ops : List ℤ) → operands_of m.stacks p ≡ ops → StandsAt m.stacks p here ops g.room (word_of (last_activation m.stacks p))
    stands_at ops same = record {
      process = stack_there;
      address = refl;
      operands = same;
      has_room = acting.actor.stands.room;
      from = ap (λ (o : Option ℕ). word_of (last_activation m.stacks (unwrap_or o p))) looks_own;
    }

    pub at_hand : (b : Block) → IsBeside g g.block b → IsAtHand g acting.homes acting.entries c.store b (word_of (last_activation m.stacks p))
    at_hand b beside =
        let seen = acting.actor.stands.seen in
        let w : ℤ = word_of (last_activation m.stacks p) in
        let display : Display = (activity_of (program_in facts) c p).display in
        let plainly : SeesThrough facts acting.homes acting.entries c.store c.table p
        (acting.entries p) w display g g.block g.view seen.others g.accepts g.meetings =
        subst (λ (t : Trial). SeesThrough facts acting.homes acting.entries c.store c.table p (acting.entries p) w display g (own_block t g.block)
        (own_view t g.view) seen.others (own_accepts t g.accepts) g.meetings) own seen.sees in
        let first = first_seen facts acting.homes acting.entries c.store c.table p
        (acting.entries p) w display g g.block g.view seen.others g.accepts g.meetings plainly in
        record {
          keeps = first.1.keeps;
          display = display;
          chain = first.1.chain;
          sees = subst (λ (x : Program). Sees x acting.homes acting.entries c.store first.1.keeps display b g.accepts w first.1.chain g.view)
              (sym has_setting.image.program) (first.1.sees b beside);
        }

    -- by the display of the process
    pub displayed : (b : Block) (beside : IsBeside g g.block b) → (at_hand b beside).display ≡ (activity_of (program_in facts) c p).display
    unfolding at_hand
    displayed b beside = refl

    -- behind an instruction that is no end its code goes on at the next one
    pub next_within : (i : Instr) (line : ℕ) → IsAt g here i line → is_end i ≡ false
        → IsWithin facts level (own_address g.trial here) (descriptor_of m.descriptors p).communications
        → IsWithin facts level (own_address g.trial (here + 1)) (descriptor_of m.descriptors p).communications
    next_within i line there no_end is =
        subst (λ (t : Trial). IsWithin facts level (own_address t (here + 1)) (descriptor_of m.descriptors p).communications) (sym own)
        (within_next facts level here (descriptor_of m.descriptors p).communications i
        (subst (λ (t : Trial). IsWithin facts level (own_address t here) (descriptor_of m.descriptors p).communications) own is)
        (code_there here i line there) no_end)

  -- ## In any trial

  -- what the process sees where it counts static links from
  pub in_sight : TrialIs g.trial facts acting.homes acting.entries c.store m.stacks c.table p level (activity_of (program_in facts) c p).activations
      (descriptor_of m.descriptors p)
      → (b : Block) → IsBeside g g.block b → IsAtHand g acting.homes acting.entries c.store b (word_of (first_in_view m.stacks p))
  in_sight is b beside = which g.trial refl is
    where
      place_of : (o : Option ℕ) → (stack_of m.stacks p).looks_from ≡ o → word_of (first_in_view m.stacks p) ≡ word_of (last_activation m.stacks (unwrap_or o p))
      place_of o same = ap (λ (x : Option ℕ). word_of (last_activation m.stacks (unwrap_or x p))) same

      at_home : (t : Trial) → g.trial ≡ t → own_block t g.block ≡ g.block → own_view t g.view ≡ g.view → own_accepts t g.accepts ≡ g.accepts
          → (stack_of m.stacks p).looks_from ≡ None
          → IsAtHand g acting.homes acting.entries c.store b (word_of (first_in_view m.stacks p))
      at_home t trial block view accepts none =
          let seen = acting.actor.stands.seen in
          let w : ℤ = word_of (last_activation m.stacks p) in
          let display : Display = (activity_of (program_in facts) c p).display in
          let by_trial : SeesThrough facts acting.homes acting.entries c.store c.table p (acting.entries p) w display g (own_block t g.block)
          (own_view t g.view) seen.others (own_accepts t g.accepts) g.meetings =
          subst (λ (y : Trial). SeesThrough facts acting.homes acting.entries c.store c.table p (acting.entries p) w display g (own_block y g.block)
          (own_view y g.view) seen.others (own_accepts y g.accepts) g.meetings) trial seen.sees in
          let by_block = subst (λ (y : Block). SeesThrough facts acting.homes acting.entries c.store c.table p (acting.entries p) w display g y
          (own_view t g.view) seen.others (own_accepts t g.accepts) g.meetings) block by_trial in
          let by_view = subst (λ (y : View). SeesThrough facts acting.homes acting.entries c.store c.table p
          (acting.entries p) w display g g.block y seen.others (own_accepts t g.accepts) g.meetings) view by_block in
          let plainly = subst (λ (y : List ℕ). SeesThrough facts acting.homes acting.entries c.store c.table p
          (acting.entries p) w display g g.block g.view seen.others y g.meetings) accepts by_view in
          let first = first_seen facts acting.homes acting.entries c.store c.table p
          (acting.entries p) w display g g.block g.view seen.others g.accepts g.meetings plainly in
          subst (λ (y : ℤ). IsAtHand g acting.homes acting.entries c.store b y) (sym (place_of None none))
          (record {
            keeps = first.1.keeps;
            display = display;
            chain = first.1.chain;
            sees = subst (λ (x : Program). Sees x acting.homes acting.entries c.store first.1.keeps display b g.accepts w first.1.chain g.view)
                (sym has_setting.image.program) (first.1.sees b beside);
          })

      which : (t : Trial) → g.trial ≡ t
          → TrialIs t facts acting.homes acting.entries c.store m.stacks c.table p level (activity_of (program_in facts) c p).activations
          (descriptor_of m.descriptors p)
          → IsAtHand g acting.homes acting.entries c.store b (word_of (first_in_view m.stacks p))
      which of_own trial is = at_home of_own trial refl refl refl is.0
      which (of_turn scan back) trial is = at_home (of_turn scan back) trial refl refl refl is.0
      which (of_another attempt) trial is =
          let other = is.sees in
          subst (λ (y : ℤ). IsAtHand g acting.homes acting.entries c.store b y) (sym (place_of (Some attempt.whom.process) is.from))
          (record {
            keeps = other.keeps;
            display = is.display;
            chain = other.chain;
            sees = subst (λ (x : Program). Sees x acting.homes acting.entries c.store other.keeps is.display b g.accepts
                (word_of (last_activation m.stacks attempt.whom.process)) other.chain g.view) (sym has_setting.image.program) (other.sees b beside);
          })

  pub stands_in_sight : StandsAt m.stacks p here (operands_of m.stacks p) g.room (word_of (first_in_view m.stacks p))
  stands_in_sight = record { process = stack_there; address = refl; operands = refl; has_room = acting.actor.stands.room; from = refl }
