-- Reads of variables in any trial: in the guard of another main's alone are read.
use Rattle.std.proofs.Common.{◌≡◌, ℕ, zero, suc, ◌+◌, ◌==◌, ℤ, Bool, true, false, if◌then◌else◌, List, [], ◌∷◌, ◌++◌, map, drop, reverse, slice_get, get_or}
use Rattle.std.proofs.Common.{Option, Some, None, unwrap_or, refl, sym, ap, ◌∙◌, subst, arith, ◌⊎◌, inl, inr}
use Rattle.std.proofs.lemmas.List.{length-set}
use Rattle.pfc_code.specs.declared.instructions.Instr.{Instr}
use Rattle.pfc_code.specs.declared.instructions.Instr.TheVariants.{LOAD, SCAN}
use Rattle.pfc_types.specs.Blocks.{Blocks}
use Rattle.pfc_types.specs.Scopes.{Level}
use Rattle.pfc_types.specs.declared.types.TypeId.{TypeId}
use Rattle.pfc_semantics.specs.Values.{Value, Location}
use Rattle.pfc_semantics.specs.Displays.{Spot, Frame, Display, frame_of, main_frame, reached, located}
use Rattle.pfc_semantics.specs.Programs.{Block, Program}
use Rattle.pfc_semantics.specs.Store.{Store, variable, value_at}
use Rattle.pfc_semantics.specs.Remainders.{Context, AwaitsValue, reads}
use Rattle.pfc_semantics.specs.Rewriting.{holding}
use Rattle.pfc_semantics.specs.Configurations.{Config, activity_of}
use Rattle.pfc_translation.specs.Sites.{is_mains, linked}
use Rattle.pfc_translation.specs.Images.{image_of}
use Rattle.pfc_image_laws.specs.Operands.{is_end}
use Rattle.pfc_stacks.specs.Refs.{word_of}
use Rattle.pfc_stacks.specs.Stacks.{stack_of, operands_of, last_activation, first_in_view}
use Rattle.pfc_stacks.specs.Effects as stacked
use Rattle.pfc_stacks.specs.Effects.{moved}
use Rattle.pfc_cells.specs.Shapes.{words_of}
use Rattle.pfc_cells.specs.Memory.{MemoryIs}
use Rattle.pfc_machines.specs.declared.machine.Machine.{Machine}
use Rattle.pfc_machines.specs.Descriptors.{descriptor_of}
use Rattle.pfc_machines.specs.Quiet.{quiet_effect}
use Rattle.pfc_machine_acts.specs.Performing.{performs}
use Rattle.pfc_standing_code.specs.Shapes.{shape_of, shape_cells}
use Rattle.pfc_standing_code.specs.Settings.{View, Trial, of_own, of_turn, of_another, MayRead, IsBeside, same_block, IsAt}
use Rattle.pfc_standing_code.specs.Performs.{own_view, own_accepts, own_block}
use Rattle.pfc_standing_code.specs.Words.{IsChecked}
use Rattle.pfc_standing_code.specs.Following.{ArrivedBy}
use Rattle.pfc_standing_images.proofs.Wholes.{scan_stands}
use Rattle.pfc_stack_laws.specs.Standing.{StandsAt, IsAtHand}
use Rattle.pfc_stack_laws.specs.Instructions.{Reads}
use Rattle.pfc_stack_laws.proofs.Moves.{hold_moved}
use Rattle.pfc_stack_laws.proofs.Variables.{read}
use Rattle.pfc_views.specs.Views.{Sees}
use Rattle.pfc_call_laws.specs.Around.{scopes_around, ShowsAround}
use Rattle.pfc_following_source.specs.Behind.{GoesOnAt}
use Rattle.pfc_following_source.proofs.Behind.{leads_on}
use Rattle.pfc_representation.specs.Levels.{Facts, program_in, LivingLevel, SeesThrough}
use Rattle.pfc_representation.specs.Rooms.{own_address}
use Rattle.pfc_representation.specs.Callers.{IsWithin}
use Rattle.pfc_representation.specs.Trials.{TrialIs, HasTried, IsAtTurn}
use Rattle.pfc_representation.specs.Acting.{IsActing, HasArrived}
use Rattle.pfc_representation.specs.Actions.{IsKept, AreKept}
use Rattle.pfc_kept_own_actions.specs.Groups.{IsRead}
use Rattle.pfc_kept_own_actions.proofs.Reading.{read_kept}
use Rattle.pfc_kept_own_actions.proofs.Within.{within_next}
use Rattle.pfc_kept_own_actions.proofs.Steps.{IsOwnStep}
use Rattle.pfc_kept_own_actions.proofs.Arrived.{first_seen, has_setting, stack_there, code_there, code_line, acts_now, hold_store, stands_in_sight}
use Rattle.pfc_kept_own_actions.proofs.Alone.{does_on, alone_comes}

-- ## Frames

-- no scope around a block is main's
linked_apart : (bs : Blocks) (view : List Level) (k i : ℕ) → slice_get (linked bs view) k ≡ Some i → is_mains bs i ≡ false
linked_apart bs [] k i there = (let none : None ≡ Some i = there in cc)
linked_apart bs (l ∷ view) k i there = which (λ j is. linked_apart bs view j i is) (is_mains bs l.scope) refl
  where
    inner : ((j : ℕ) → slice_get (linked bs view) j ≡ Some i → is_mains bs i ≡ false) → (j : ℕ) → is_mains bs l.scope ≡ false
        → slice_get (l.scope ∷ linked bs view) j ≡ Some i → is_mains bs i ≡ false
    inner others zero not_mains is = (let same : l.scope ≡ i = (let both : Some l.scope ≡ Some i = is in cc) in ap (λ n. is_mains bs n) (sym same) ∙ not_mains)
    inner others (suc j) not_mains is = others j is

    which : ((j : ℕ) → slice_get (linked bs view) j ≡ Some i → is_mains bs i ≡ false) → (b : Bool) → is_mains bs l.scope ≡ b → is_mains bs i ≡ false
    which others true is = (let none : None ≡ Some i = ap (λ (t : Bool). slice_get (if t then [] else l.scope ∷ linked bs view) k) (sym is) ∙ there in cc)
    which others false is = inner others k is (ap (λ (t : Bool). slice_get (if t then [] else l.scope ∷ linked bs view) k) (sym is) ∙ there)

-- in two lists one behind the other each is in one of them
either_of : (P : ℕ → Type 0) (xs ys : List ℕ) → ((k i : ℕ) → slice_get xs k ≡ Some i → P i) → ((k i : ℕ) → slice_get ys k ≡ Some i → P i) → (k i : ℕ)
    → slice_get (xs ++ ys) k ≡ Some i → P i
either_of P [] ys left right k i there = right k i there
either_of P (x ∷ xs) ys left right zero i there = left zero i there
either_of P (x ∷ xs) ys left right (suc k) i there = either_of P xs ys (λ j n is. left (suc j) n is) right k i there

frames_apart : (bs : Blocks) (display : Display) (i : ℕ) → ((k n : ℕ) → slice_get (map (λ (f : Frame). f.scope) display) k ≡ Some n → is_mains bs n ≡ false)
    → is_mains bs i ≡ true → frame_of display i ≡ main_frame i
frames_apart bs [] i apart mains = refl
frames_apart bs (f ∷ display) i apart mains = which (frames_apart bs display i (λ k n there. apart (suc k) n there) mains) (f.scope == i) refl
  where
    equal : (n j : ℕ) → (n == j) ≡ true → n ≡ j
    equal n j h = grind (arith, h)

    which : frame_of display i ≡ main_frame i → (b : Bool) → (f.scope == i) ≡ b → frame_of (f ∷ display) i ≡ main_frame i
    which others true is =
        let other : is_mains bs i ≡ false = ap (λ n. is_mains bs n) (sym (equal f.scope i is)) ∙ apart zero f.scope refl in
        let none : ⊥ = (let both : true ≡ false = sym mains ∙ other in cc) in absurd none
    which others false is = ap (λ (t : Bool). if t then f else frame_of display i) is ∙ others

mains_frame : (g : Program) (b : Block) (display : Display) (i : ℕ) → ShowsAround g b display → is_mains g.state.blocks i ≡ true
    → frame_of display i ≡ main_frame i
mains_frame g b display i shows mains =
    frames_apart g.state.blocks display i
    (λ k n there. either_of (λ j. is_mains g.state.blocks j ≡ false) (scopes_around g b) shows.accepts (linked_apart g.state.blocks b.env.view) shows.apart k n
    (ap (λ (xs : List ℕ). slice_get xs k) (sym shows.scopes) ∙ there)) mains

-- so main's variables lie where they lie for everybody
same_place : (store : Store) (one two : Display) (v : Spot) → frame_of one v.scope ≡ frame_of two v.scope → located store one v ≡ located store two v
same_place store one two v same =
    ap (λ (f : Frame). (let own : Location = record { activation = f.activation; variable = f.first + v.variable; selectors = [] } in reached
    (variable store own) own v.selectors)) same

pair_first : (one two : Instr × ℕ) → Some one ≡ Some two → one.0 ≡ two.0
pair_first one two h = (let same : one ≡ two = cc in ap (λ (y : Instr × ℕ). y.0) same)

load_apart : (z r : ℕ) → LOAD z ≡ SCAN r → ⊥
load_apart z r h = cc

-- ## A read

module _ (facts : Facts) (m : Machine) (c : Config) (p choice : ℕ) (level : LivingLevel) (x : Context) (v : Spot) (u : AwaitsValue)
    (mains : is_mains (program_in facts).state.blocks v.scope ≡ true)
    (acting : IsActing facts m c p level) (arrived : HasArrived facts m c p level (reads x v u)) where
  abbrev here : ℕ
  here = (stack_of m.stacks p).at

  abbrev ops : List ℤ
  ops = operands_of m.stacks p

  abbrev display : Display
  display = (activity_of (program_in facts) c p).display

  -- what the process sees where it counts static links from, which has no frame for main's scopes
  abbrev IsSight : Block → ℤ → Type 0
  IsSight b w = (hand : IsAtHand level.setting acting.homes acting.entries c.store b w) × (frame_of hand.display v.scope ≡ main_frame v.scope)

  sight : TrialIs level.setting.trial facts acting.homes acting.entries c.store m.stacks c.table p level (activity_of (program_in facts) c p).activations
      (descriptor_of m.descriptors p)
      → (b : Block) → IsBeside level.setting level.setting.block b → IsSight b (word_of (first_in_view m.stacks p))
  sight is b beside = which level.setting.trial refl is
    where
      place_of : (o : Option ℕ) → (stack_of m.stacks p).looks_from ≡ o → word_of (first_in_view m.stacks p) ≡ word_of (last_activation m.stacks (unwrap_or o p))
      place_of o same = ap (λ (y : Option ℕ). word_of (last_activation m.stacks (unwrap_or y p))) same

      at_home : (t : Trial) → level.setting.trial ≡ t → own_block t level.setting.block ≡ level.setting.block
          → own_view t level.setting.view ≡ level.setting.view → own_accepts t level.setting.accepts ≡ level.setting.accepts
          → (stack_of m.stacks p).looks_from ≡ None → IsSight b (word_of (first_in_view m.stacks p))
      at_home t trial block view accepts none =
          let seen = acting.actor.stands.seen in
          let w : ℤ = word_of (last_activation m.stacks p) in
          let own_is : own_block level.setting.trial level.setting.block ≡ level.setting.block = ap (λ (y : Trial). own_block y level.setting.block) trial
          ∙ block in
          let by_block = subst (λ (y : Block). SeesThrough facts acting.homes acting.entries c.store c.table p (acting.entries p) w display level.setting y
          (own_view level.setting.trial level.setting.view) seen.others (own_accepts level.setting.trial level.setting.accepts) level.setting.meetings)
          own_is seen.sees in
          let by_view = subst (λ (y : View). SeesThrough facts acting.homes acting.entries c.store c.table p
          (acting.entries p) w display level.setting level.setting.block y seen.others
          (own_accepts level.setting.trial level.setting.accepts) level.setting.meetings)
          (ap (λ (y : Trial). own_view y level.setting.view) trial ∙ view) by_block in
          let plainly = subst (λ (y : List ℕ). SeesThrough facts acting.homes acting.entries c.store c.table p
          (acting.entries p) w display level.setting level.setting.block level.setting.view seen.others y level.setting.meetings)
          (ap (λ (y : Trial). own_accepts y level.setting.accepts) trial ∙ accepts) by_view in
          let first = first_seen facts acting.homes acting.entries c.store c.table p
          (acting.entries p) w display level.setting level.setting.block level.setting.view seen.others level.setting.accepts level.setting.meetings
          plainly in
          let shows : ShowsAround (program_in facts) b display = seen.around b (subst (λ (y : Block). IsBeside level.setting y b) (sym own_is) beside) in
          let hand : IsAtHand level.setting acting.homes acting.entries c.store b w = record {
            keeps = first.1.keeps;
            display = display;
            chain = first.1.chain;
            sees = subst (λ (y : Program). Sees y acting.homes acting.entries c.store first.1.keeps display b level.setting.accepts w first.1.chain
                level.setting.view) (sym (has_setting facts m c p level acting).image.program) (first.1.sees b beside);
          } in
          subst (λ (y : ℤ). IsSight b y) (sym (place_of None none)) (hand, mains_frame (program_in facts) b display v.scope shows mains)

      which : (t : Trial) → level.setting.trial ≡ t
          → TrialIs t facts acting.homes acting.entries c.store m.stacks c.table p level (activity_of (program_in facts) c p).activations
          (descriptor_of m.descriptors p)
          → IsSight b (word_of (first_in_view m.stacks p))
      which of_own trial is = at_home of_own trial refl refl refl is.0
      which (of_turn scan back) trial is = at_home (of_turn scan back) trial refl refl refl is.0
      which (of_another attempt) trial is =
          let other = is.sees in
          let w : ℤ = word_of (last_activation m.stacks attempt.whom.process) in
          let hand : IsAtHand level.setting acting.homes acting.entries c.store b w = record {
            keeps = other.keeps;
            display = is.display;
            chain = other.chain;
            sees = subst (λ (y : Program). Sees y acting.homes acting.entries c.store other.keeps is.display b level.setting.accepts w other.chain
                level.setting.view) (sym (has_setting facts m c p level acting).image.program) (other.sees b beside);
          } in
          subst (λ (y : ℤ). IsSight b y) (sym (place_of (Some attempt.whom.process) is.from))
          (hand, mains_frame (program_in facts) level.setting.block is.display v.scope is.around mains)

  -- before a turn stands the scan, and no read
  no_turn : (i : Instr) → IsAt level.setting here i x.line → ((r : ℕ) → i ≡ SCAN r → ⊥) → (t : Trial)
      → HasTried t facts (stack_of m.stacks p) level (activity_of (program_in facts) c p).activations (descriptor_of m.descriptors p) → IsAtTurn t here → ⊥
  no_turn i there apart of_own is turned = absurd is
  no_turn i there apart (of_turn scan back) is turned = absurd is
  no_turn i there apart (of_another attempt) is turned =
      let scans = scan_stands facts.tree level.setting (has_setting facts m c p level acting).image attempt.scan.resource attempt.turn is.2 in
      apart attempt.scan.resource
      (pair_first (i, x.line) (SCAN attempt.scan.resource, get_or level.setting.program.resource_ends attempt.scan.resource 0)
      (sym there ∙ ap (λ n. slice_get level.setting.code n) turned ∙ scans))

  untried : (i : Instr) → IsAt level.setting here i x.line → ((r : ℕ) → i ≡ SCAN r → ⊥)
      → HasTried level.setting.trial facts (stack_of m.stacks p) level (activity_of (program_in facts) c p).activations (descriptor_of m.descriptors p) → ⊥
  untried i there apart tried = no_turn i there apart level.setting.trial tried (arrived.turned tried)

  trial_is : (i : Instr) → IsAt level.setting here i x.line → ((r : ℕ) → i ≡ SCAN r → ⊥)
      → TrialIs level.setting.trial facts acting.homes acting.entries c.store m.stacks c.table p level (activity_of (program_in facts) c p).activations
      (descriptor_of m.descriptors p)
  trial_is i there apart = which acting.actor.trial
    where
      which : TrialIs level.setting.trial facts acting.homes acting.entries c.store m.stacks c.table p level (activity_of (program_in facts) c p).activations
          (descriptor_of m.descriptors p)
          ⊎ HasTried level.setting.trial facts (stack_of m.stacks p) level (activity_of (program_in facts) c p).activations (descriptor_of m.descriptors p)
          → TrialIs level.setting.trial facts acting.homes acting.entries c.store m.stacks c.table p level (activity_of (program_in facts) c p).activations
          (descriptor_of m.descriptors p)
      which (inl is) = is
      which (inr tried) = absurd (untried i there apart tried)

  -- in a trial the address at which its own code goes on stays
  goes_within : (i : Instr) → IsAt level.setting here i x.line → is_end i ≡ false
      → IsWithin facts level (own_address level.setting.trial (here + 1)) (descriptor_of m.descriptors p).communications
  goes_within i there no_end = which level.setting.trial arrived.within
    where
      which : (t : Trial) → IsWithin facts level (own_address t here) (descriptor_of m.descriptors p).communications
          → IsWithin facts level (own_address t (here + 1)) (descriptor_of m.descriptors p).communications
      which of_own is = within_next facts level here (descriptor_of m.descriptors p).communications i is
          (code_there facts m c p level acting here i x.line there) no_end
      which (of_turn scan back) is = is
      which (of_another attempt) is = is

  module _ (b : Block) (checked : IsChecked level.setting b x.env) (by : ArrivedBy level.setting b here ops level.arms (reads x v u)) where
    abbrev t : TypeId
    t = by.0

    abbrev below : List ℤ
    below = by.2

    abbrev instr : Instr
    instr = LOAD (shape_cells level.setting.program.state.forms (shape_of t))

    there : IsAt level.setting here instr x.line
    there = by.5

    no_scan : (r : ℕ) → instr ≡ SCAN r → ⊥
    no_scan r is = load_apart (shape_cells level.setting.program.state.forms (shape_of t)) r is

    abbrev value : Value
    value = value_at c.store (located c.store display v)

    abbrev left : List ℤ
    left = reverse (words_of value) ++ below

    given : Reads level.setting (image_of facts.tree).blocks instr p m.stacks here below t value
    given =
        let seen = sight (trial_is instr there no_scan) b checked.beside in
        let shows : ShowsAround (program_in facts) (own_block level.setting.trial level.setting.block) display = acting.actor.stands.seen.around
        (own_block level.setting.trial level.setting.block) same_block in
        let same : located c.store seen.0.display v ≡ located c.store display v =
        same_place c.store seen.0.display display v
        (seen.1 ∙ sym (mains_frame (program_in facts) (own_block level.setting.trial level.setting.block) display v.scope shows mains)) in
        subst (λ (l : Location). Reads level.setting (image_of facts.tree).blocks instr p m.stacks here below t (value_at c.store l)) same
        (read level.setting acting.homes acting.entries c.store b (image_of facts.tree).blocks m.stacks p here (word_of (first_in_view m.stacks p)) seen.0
        (hold_store facts m c p level acting) x v t by.1 below
        (subst (λ (xs : List ℤ). StandsAt m.stacks p here xs level.setting.room (word_of (first_in_view m.stacks p))) by.3
        (stands_in_sight facts m c p level acting)) checked by.4 by.8 by.6)

    goes : GoesOnAt level.setting b (here + 1) left level.arms (holding x value u)
    goes =
        subst (λ (xs : List ℤ). GoesOnAt level.setting b (here + 1) (reverse (words_of value) ++ drop 1 xs) level.arms (holding x value u)) by.3
        (leads_on level.setting b here (reads x v u) ops level.arms arrived.room checked by t by.1 value by.4 given.typed instr x.line there)

    step : IsOwnStep facts m c p level acting (here + 1) left (moved m.stacks p (here + 1) left) c.store (holding x value u)
    step =
        let held = hold_moved level.setting acting.homes acting.entries c.store m.stacks p (here + 1) left (stack_there facts m c p level acting)
        (hold_store facts m c p level acting) in
        record {
          size = length-set m.stacks p (record (stack_of m.stacks p) { at = here + 1; operands = left });
          same = λ q. record { at = refl; base = refl; operands = refl; room = refl; spare = refl; looks_from = refl };
          like = λ keeps. record { at_home = λ a home at. at; living = λ q e kept lives. lives; references = λ a k home t kept at laid. refl };
          memory = subst (λ (g : Program). MemoryIs g acting.homes acting.entries c.store (moved m.stacks p (here + 1) left))
              (has_setting facts m c p level acting).image.program held.memory;
          few = held.few;
          objects = acting.alike.holds.objects;
          does = does_on level b (here + 1) left (holding x value u) checked.beside arrived.arms goes;
          within = goes_within instr there refl;
          untried = untried instr there no_scan;
        }

    outward_no : stacked.effect (image_of facts.tree).blocks instr p m.stacks ≡ stacked.outward → ⊥
    outward_no is = (let both : stacked.acts (moved m.stacks p (here + 1) left) ≡ stacked.outward = sym given.effect ∙ is in cc)

    pub tried_read_kept : IsKept facts m c p choice (reads x v u)
    tried_read_kept = record {
      instr = instr;
      is = code_there facts m c p level acting here instr x.line there;
      can_step = record { stack = stack_there facts m c p level acting; performed = given.can; goes = λ is. absurd (outward_no is) };
      no_move = tt;
      can_do = record { acting = acts_now facts m c p level acting instr x.line there; can = tt };
      line = code_line facts m c p level acting here instr x.line there;
      choices = refl;
      same =
          alone_comes facts m c p level acting (stacked.effect (image_of facts.tree).blocks instr p m.stacks)
          (quiet_effect (image_of facts.tree).scans instr p m)
          (performs (image_of facts.tree) instr choice p m) (here + 1) left (moved m.stacks p (here + 1) left) c.store
          (holding x value u) x.line given.effect step;
    }

pub reads_kept : AreKept IsRead
reads_kept facts m c p choice level (reads x v u) is acting arrived chosen =
    let (b, checked, by) = arrived.arrived in which b checked by by.9
  where
    which : (b : Block) → IsChecked level.setting b x.env
        → ArrivedBy level.setting b (stack_of m.stacks p).at (operands_of m.stacks p) level.arms (reads x v u) → MayRead level.setting v.scope
        → IsKept facts m c p choice (reads x v u)
    which b checked by (inl own) = read_kept facts m c p choice level x v u own acting arrived b checked by
    which b checked by (inr mains) =
        tried_read_kept facts m c p choice level x v u
        (subst (λ (g : Program). is_mains g.state.blocks v.scope ≡ true) (has_setting facts m c p level acting).image.program mains) acting arrived b checked by
reads_kept facts m c p choice level n is acting arrived chosen = absurd is
