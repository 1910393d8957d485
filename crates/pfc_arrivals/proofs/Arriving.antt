-- Quiet instructions lead to the next action.
use Rattle.std.proofs.Common.{◌≡◌, ℕ, suc, ◌+◌, ◌<◌, ◌≤◌, ℤ, List, [], length, Some, refl, sym, ap, ap₂, ◌∙◌, subst, arith, ◌⊎◌, inl, inr, slice_get, true}
use Rattle.std.proofs.Common.{false}
use Rattle.std.proofs.lemmas.Option.{slice_get_within, same_Some}
use Rattle.pfc_code.specs.declared.instructions.Instr.{Instr}
use Rattle.pfc_semantics.specs.Programs.{Block}
use Rattle.pfc_semantics.specs.Remainders.{Action}
use Rattle.pfc_semantics.specs.Rewriting.{Doing, next, going, holding, from_value}
use Rattle.pfc_semantics.specs.Configurations.{Activation, Config, activity_of}
use Rattle.pfc_semantics.specs.Steps.{next_of}
use Rattle.pfc_translation.specs.Images.{image_of}
use Rattle.pfc_stacks.specs.Stacks.{stack_of, operands_of}
use Rattle.pfc_machines.specs.declared.machine.Machine.{Machine}
use Rattle.pfc_machines.specs.Descriptors.{descriptor_of}
use Rattle.pfc_machines.specs.Quiet.{scans_on}
use Rattle.pfc_machine_acts.specs.Running.{QuietStep, QuietRun}
use Rattle.pfc_select_actions.specs.Selects.{takes_up}
use Rattle.pfc_standing_code.specs.Settings.{Trial, Attempt, Setting, of_own, of_turn, of_another, IsAt}
use Rattle.pfc_standing_code.specs.Effects.{Arm, effect_of, CanPerform, onward, otherwise}
use Rattle.pfc_standing_code.specs.Following.{Arrived, Follows, arrives, moves, DoesIn}
use Rattle.pfc_following_source.proofs.structures.Left.{remainder_follows}
use Rattle.pfc_following_source.proofs.awaits.Anywhere.{values_follow_anywhere}
use Rattle.pfc_representation.specs.Levels.{Facts, program_in, LivingLevel, StandsOn, IsBeforeAction}
use Rattle.pfc_representation.specs.Rooms.{own_address}
use Rattle.pfc_representation.specs.Callers.{IsWithin}
use Rattle.pfc_representation.specs.Trials.{TrialIs, HasTried, IsAtTurn}
use Rattle.pfc_representation.specs.Machines.{Represents}
use Rattle.pfc_representation.specs.Acting.{IsActing}
use Rattle.pfc_arrivals.specs.Arrivals.{begins, IsAboutToAct, ComesToAction}
use Rattle.pfc_arrivals.proofs.Armed.{armed}
use Rattle.pfc_code.specs.declared.instructions.Instr.TheVariants.{JMP, GRD, SCAN}
use Rattle.pfc_image_laws.proofs.Layouts.{image_laid}
use Rattle.pfc_arrivals.proofs.Blocks.{scan_there}
use Rattle.pfc_arrivals.proofs.Evaluating.{may_evaluate}
use Rattle.pfc_arrivals.proofs.Guards.{GuardAhead, at_end, evaluating, jumping, doing_ahead}
use Rattle.pfc_arrivals.proofs.Ahead.{none_before, makes_one, armed_some, evaluates_alone, evaluates_on, jumps_on}
use Rattle.pfc_arrivals.proofs.Turns.{AreClearAt, clear_at_turn}
use Rattle.pfc_arrivals.proofs.Standing.{IsCalm, IsLooking, code_there, not_tried}
use Rattle.pfc_arrivals.proofs.Steps.{StepsTo, Fails, one_step, another_fails}
use Rattle.pfc_arrivals.proofs.Taken.{HasBegun, has_begun}

-- the turn of a scan stands where the image has it
pub scan_stands : (facts : Facts) (r a : ℕ) → slice_get (image_of facts.tree).scans r ≡ Some a
    → (k : ℕ) × (slice_get (image_of facts.tree).code a ≡ Some (SCAN k))
scan_stands facts r a there =
    let whole : List Instr = (image_of facts.tree).code in
    scan_there whole (image_of facts.tree) r a (image_laid facts.tree)
    (λ j. ap (λ n. slice_get whole n) (let h : 0 + j ≡ j = grind arith in h), let h : length whole ≡ 0 + length whole = grind arith in h) there

-- code follows what is left for a process in a block
does_follow : (g : Setting) (b : Block) (at : ℕ) (ops : List ℤ) (arms : List Arm) (d : Doing) → length ops ≤ g.room → length arms ≤ g.arms
    → DoesIn g b at ops arms d → Follows g (next d) at ops arms
does_follow g b at ops arms (going env k) room few h = remainder_follows g k b env at ops arms h.0 room h.1
does_follow g b at ops arms (holding x v u) room few h =
    let fit = subst (λ (y : List ℤ). length y ≤ g.room) h.4 room in
    subst (λ (y : List ℤ). Follows g (from_value x u v) at y arms) (sym h.4) (values_follow_anywhere g b x h.2 u h.0 v at h.1 arms few fit h.3 h.5)

module _ (g : Setting) (calm : IsCalm g.trial) (n : Action) where
  -- in a scan no alternative is made on the way
  none_armed : (at : ℕ) (ops : List ℤ) (arms : List Arm) → AreClearAt g n → Follows g n at ops arms → arms ≡ []
  none_armed _ _ _ clear (arrives at ops arms h) = clear at ops arms h
  none_armed _ _ _ clear (moves at ops arms i line to left more is can effect up room few on) = none_before g calm at to ops left arms more i effect
      (none_armed to left more clear on)

-- At the instruction of the action, behind so many quiet ones.
pub record HasCome (facts : Facts) (c : Config) (p : ℕ) (base : LivingLevel) (n : Action) (m : Machine) (at : ℕ) : Type 0 where
  pub more : List Arm
  pub count : ℕ
  pub before : Machine
  pub run : QuietRun (image_of facts.tree) p count m before
  pub few : (count ≡ 0) ⊎ (at + count ≤ length (image_of facts.tree).code)
  pub acting : IsActing facts before c p (armed base more)
  pub arrived : Arrived base.setting (stack_of before.stacks p).at (operands_of before.stacks p) more n
  pub room : length (operands_of before.stacks p) ≤ base.setting.room
  pub arms_fit : length more ≤ base.setting.arms
  pub turned :
      HasTried base.setting.trial facts (stack_of before.stacks p) (armed base more) (activity_of (program_in facts) c p).activations
      (descriptor_of before.descriptors p)
      → IsAtTurn base.setting.trial (stack_of before.stacks p).at
  pub within :
      IsWithin facts (armed base more) (own_address base.setting.trial (stack_of before.stacks p).at) (descriptor_of before.descriptors p).communications

-- Where a process is: in its own code; before a turn of its scan; or in the guard of another.
data Stance (g : Setting) (n : Action) (at : ℕ) : Type 0 where
  in_own : g.trial ≡ of_own → Stance g n at
  in_turn : IsCalm g.trial → AreClearAt g n → Stance g n at
  in_guard : (attempt : Attempt) → g.trial ≡ of_another attempt → GuardAhead g attempt.scan.resource at → Stance g n at

-- what comes there in the guard of another
data AtGuard (g : Setting) (r at : ℕ) (i : Instr) : Type 0 where
  it_ends : i ≡ GRD r → AtGuard g r at i
  it_evaluates : may_evaluate i ≡ true → GuardAhead g r (at + 1) → AtGuard g r at i
  it_jumps : (to : ℕ) → i ≡ JMP to → GuardAhead g r to → AtGuard g r at i

same_instr : (g : Setting) (at : ℕ) (i j : Instr) (line other : ℕ) → IsAt g at i line → IsAt g at j other → i ≡ j
same_instr g at i j line other is there = ap (λ (y : Instr × ℕ). y.0) (same_Some (i, line) (j, other) (sym is ∙ there))

at_guard : (g : Setting) (r at : ℕ) (i : Instr) (line : ℕ) → IsAt g at i line → GuardAhead g r at → AtGuard g r at i
at_guard g r _ i line is (at_end at other there) = it_ends (same_instr g at i (GRD r) line other is there)
at_guard g r _ i line is (evaluating at j other there e rest) =
    it_evaluates (subst (λ k. may_evaluate k ≡ true) (sym (same_instr g at i j line other is there)) e) rest
at_guard g r _ i line is (jumping at to other there rest) = it_jumps to (same_instr g at i (JMP to) line other is there) rest

no_guard : (i : Instr) (r : ℕ) {A : Type 0} → may_evaluate i ≡ true → i ≡ GRD r → A
no_guard i r e same = absurd (let both : false ≡ true = ap may_evaluate (sym same) ∙ e in cc)

module _ (facts : Facts) (c : Config) (p : ℕ) (base : LivingLevel) (n : Action) where
  abbrev g : Setting
  g = base.setting

  fewer : (at mid k size : ℕ) → at < mid → at < size → (k ≡ 0) ⊎ (mid + k ≤ size) → at + suc k ≤ size
  fewer at mid k size up there (inl none) = grind (arith, there, none)
  fewer at mid k size up there (inr few) = grind (arith, up, few)

  abbrev Inside : Machine → ℕ → List Arm → Type 0
  Inside m at arms = IsWithin facts (armed base arms) (own_address g.trial at) (descriptor_of m.descriptors p).communications

  abbrev Turned : Machine → ℕ → List Arm → Type 0
  Turned m at arms =
      HasTried g.trial facts (stack_of m.stacks p) (armed base arms) (activity_of (program_in facts) c p).activations (descriptor_of m.descriptors p)
      → IsAtTurn g.trial at

  -- at the action
  arrive : (m : Machine) (at : ℕ) (ops : List ℤ) (arms : List Arm) → IsActing facts m c p (armed base arms) → (stack_of m.stacks p).at ≡ at
      → operands_of m.stacks p ≡ ops → Inside m at arms
      → Turned m at arms → length ops ≤ g.room → length arms ≤ g.arms → Arrived g at ops arms n → HasCome facts c p base n m at
  arrive m at ops arms acting at_is ops_are within turned room few h = record {
    more = arms;
    count = 0;
    before = m;
    run = refl;
    few = inl refl;
    acting = acting;
    arrived = subst (λ a. Arrived g a (operands_of m.stacks p) arms n) (sym at_is) (subst (λ (l : List ℤ). Arrived g at l arms n) (sym ops_are) h);
    room = subst (λ (l : List ℤ). length l ≤ g.room) (sym ops_are) room;
    arms_fit = few;
    turned = subst (λ a. Turned m a arms) (sym at_is) turned;
    within = subst (λ a. Inside m a arms) (sym at_is) within;
  }

  -- one instruction more comes first
  behind_one : (m mid : Machine) (at to : ℕ) → at < to → at < length (image_of facts.tree).code → QuietStep (image_of facts.tree) p m mid
      → HasCome facts c p base n mid to
      → HasCome facts c p base n m at
  behind_one m mid at to up there step rest = record {
    more = rest.more;
    count = suc rest.count;
    before = rest.before;
    run = (mid, step, rest.run);
    few = inr (fewer at to rest.count (length (image_of facts.tree).code) up there rest.few);
    acting = rest.acting;
    arrived = rest.arrived;
    room = rest.room;
    arms_fit = rest.arms_fit;
    turned = rest.turned;
    within = rest.within;
  }

  -- at the turn of a scan no instruction is quiet
  at_turn : (m : Machine) (attempt : Attempt) (to : ℕ) (left : List ℤ) (more : List Arm) → g.trial ≡ of_another attempt → to ≡ attempt.turn
      → slice_get (image_of facts.tree).scans attempt.scan.resource ≡ Some attempt.turn → IsActing facts m c p (armed base more) → (stack_of m.stacks p).at ≡ to
      → operands_of m.stacks p ≡ left → Inside m to more → length left ≤ g.room → length more ≤ g.arms → Follows g n to left more
      → HasCome facts c p base n m to
  at_turn m attempt _ _ _ is turn there acting at_is ops_are within room few (arrives to left more h) =
      arrive m to left more acting at_is ops_are within (λ tried. subst (λ (t : Trial). IsAtTurn t to) (sym is) turn) room few h
  at_turn m attempt _ _ _ is turn there acting at_is ops_are within room few
      (moves to left more i line mid ops_then arms_then is_at can effect up fit fit_arms on) =
      let code : List Instr = (image_of facts.tree).code in
      let scan = scan_stands facts attempt.scan.resource attempt.turn there in
      let here : slice_get code to ≡ Some i = code_there facts m c p (armed base more) acting to i line is_at in
      absurd (scan_acts scan.0 i (let both : Some i ≡ Some (SCAN scan.0) = sym here ∙ ap (λ a. slice_get code a) turn ∙ scan.1 in cc) effect)
    where
      scan_acts : (k : ℕ) (i : Instr) → i ≡ SCAN k → effect_of g i to left more ≡ onward mid ops_then arms_then → ⊥
      scan_acts k i same effect = (let both : otherwise ≡ onward mid ops_then arms_then = ap (λ j. effect_of g j to left more) (sym same) ∙ effect in cc)

  -- how it goes on behind one instruction
  abbrev GoesOn : Machine → List Arm → ℕ → List ℤ → List Arm → Type 0
  GoesOn m arms to left more = (step : StepsTo facts m c p (armed base arms) to left more) → Stance g n to → HasCome facts c p base n step.next to

  come : (m : Machine) (at : ℕ) (ops : List ℤ) (arms : List Arm) → IsActing facts m c p (armed base arms) → (stack_of m.stacks p).at ≡ at
      → operands_of m.stacks p ≡ ops → Inside m at arms
      → IsLooking g.trial (stack_of m.stacks p) → Stance g n at → length ops ≤ g.room → length arms ≤ g.arms → Follows g n at ops arms
      → HasCome facts c p base n m at
  come m _ _ _ acting at_is ops_are within looking stance room few (arrives at ops arms h) =
      arrive m at ops arms acting at_is ops_are within (λ tried. absurd (not_tried facts m c p (armed base arms) acting g.trial looking tried)) room few h
  come m _ _ _ acting at_is ops_are within looking stance room few (moves at ops arms i line to left more is can effect up fit fit_arms on) =
      by (λ step later. come step.next to left more step.acting step.at_is step.ops_are step.within step.looking later fit fit_arms on) stance
    where
      here : IsAt g (stack_of m.stacks p).at i line
      here = subst (λ a. IsAt g a i line) (sym at_is) is

      inside : Inside m (stack_of m.stacks p).at arms
      inside = subst (λ a. Inside m a arms) (sym at_is) within

      can_here : CanPerform g i (operands_of m.stacks p)
      can_here = subst (λ (l : List ℤ). CanPerform g i l) (sym ops_are) can

      effect_here : effect_of g i (stack_of m.stacks p).at (operands_of m.stacks p) arms ≡ onward to left more
      effect_here = ap₂ (λ a l. effect_of g i a l arms) at_is ops_are ∙ effect

      there : at < length (image_of facts.tree).code
      there = slice_get_within (image_of facts.tree).code at i (code_there facts m c p (armed base arms) acting at i line is)

      onwards : GoesOn m arms to left more → (makes_one i ≡ true → g.trial ≡ of_own) → ((r : ℕ) → i ≡ GRD r → IsCalm g.trial) → Stance g n to
          → HasCome facts c p base n m at
      onwards goes_on own calm next_stance =
          let step : StepsTo facts m c p (armed base arms) to left more =
          one_step facts m c p (armed base arms) acting looking inside i line to left more own calm here can_here effect_here
          (subst (λ a. a < to) (sym at_is) up) fit in
          behind_one m step.next at to up there step.step (goes_on step next_stance)

      in_another : GoesOn m arms to left more → (attempt : Attempt) → g.trial ≡ of_another attempt → AtGuard g attempt.scan.resource at i
          → HasCome facts c p base n m at
      in_another goes_on attempt another (it_evaluates e rest) =
          onwards goes_on (λ made. absurd (let both : false ≡ true = sym (evaluates_alone i e) ∙ made in cc)) (λ r same. no_guard i r e same)
          (in_guard attempt another (subst (λ a. GuardAhead g attempt.scan.resource a) (sym (evaluates_on g at to ops left arms more i e effect)) rest))
      in_another goes_on attempt another (it_jumps a same rest) =
          onwards goes_on (λ made. absurd (let both : false ≡ true = ap makes_one (sym same) ∙ made in cc))
          (λ r guard. absurd (let both : JMP a ≡ GRD r = sym same ∙ guard in cc))
          (in_guard attempt another (subst (λ x. GuardAhead g attempt.scan.resource x)
          (sym (jumps_on g at to ops left arms more a (ap (λ j. effect_of g j at ops arms) (sym same) ∙ effect))) rest))
      in_another goes_on attempt another (it_ends same) =
          let r : ℕ = attempt.scan.resource in
          let fails : Fails facts m c p (armed base arms) attempt to left more =
          another_fails facts m c p (armed base arms) acting looking inside attempt another line to left more
          (subst (λ j. IsAt g (stack_of m.stacks p).at j line) same here)
          (subst (λ j. CanPerform g j (operands_of m.stacks p)) same can_here)
          (ap (λ j. effect_of g j (stack_of m.stacks p).at (operands_of m.stacks p) arms) (sym same) ∙ effect_here) in
          let within_then : Inside (scans_on attempt.turn p m) to more = subst
          (λ (t : Trial). IsWithin facts (armed base more) (own_address t to) (descriptor_of (scans_on attempt.turn p m).descriptors p).communications)
          (sym another) fails.within in
          behind_one m (scans_on attempt.turn p m) at to up there fails.step
          (at_turn (scans_on attempt.turn p m) attempt to left more another fails.at_turn fails.turn fails.acting fails.at_is fails.ops_are within_then fit
          fit_arms on)

      by : GoesOn m arms to left more → Stance g n at → HasCome facts c p base n m at
      by goes_on (in_own own) = onwards goes_on (λ made. own) (λ r same. subst (λ (t : Trial). IsCalm t) (sym own) tt) (in_own own)
      by goes_on (in_turn calm clear) =
          onwards goes_on (λ made. absurd (armed_some g calm at to ops left arms more i made effect (none_armed g calm n to left more clear on)))
          (λ r same. calm) (in_turn calm clear)
      by goes_on (in_guard attempt another ahead) = in_another goes_on attempt another (at_guard g attempt.scan.resource at i line is ahead)

-- ## From the beginning

module _ (facts : Facts) (m : Machine) (c : Config) (p : ℕ) (is : Represents facts m c) (about : IsAboutToAct facts m c p) where
  abbrev taking : Machine
  taking = takes_up p (begins p m)

  abbrev xs : List Activation
  xs = (activity_of (program_in facts) c p).activations

  abbrev n : Action
  n = next_of (program_in facts) c p

  pub few_in_all : (k a size : ℕ) → (k ≡ 0) ⊎ (a + k ≤ size) → k ≤ size
  few_in_all k a size (inl none) = omega (arith, none)
  few_in_all k a size (inr few) = omega (arith, few)

  module _ (b : HasBegun facts m c p) where
    looking_of : (t : Trial) → TrialIs t facts b.acting.homes b.acting.entries c.store m.stacks c.table p b.level xs (descriptor_of taking.descriptors p)
        → IsLooking t (stack_of m.stacks p)
    looking_of of_own trial = tt
    looking_of (of_turn scan back) trial = tt
    looking_of (of_another attempt) trial = trial.from

    abbrev doing : Doing
    doing = (activity_of (program_in facts) c p).doing

    -- where it is to do what is left
    module _ (stands : StandsOn b.level (stack_of m.stacks p).at (stack_of m.stacks p).operands doing) where
      stance_of : (t : Trial) → b.level.setting.trial ≡ t → Stance b.level.setting n (stack_of m.stacks p).at
      stance_of of_own same = in_own same
      stance_of (of_turn scan back) same =
          in_turn (subst (λ (t : Trial). IsCalm t) (sym same) tt)
          (clear_at_turn b.level.setting scan back same stands.0 (stack_of m.stacks p).at (stack_of m.stacks p).operands b.level.arms doing stands.2)
      stance_of (of_another attempt) same =
          in_guard attempt same
          (doing_ahead b.level.setting attempt same stands.0 (stack_of m.stacks p).at (stack_of m.stacks p).operands b.level.arms doing stands.2)

      came_on : length (stack_of m.stacks p).operands ≤ b.level.setting.room → length b.level.arms ≤ b.level.setting.arms
          → HasCome facts c p b.level n taking (stack_of m.stacks p).at
      came_on room few =
          come facts c p b.level n taking (stack_of m.stacks p).at (stack_of m.stacks p).operands b.level.arms b.acting refl refl b.within
          (looking_of b.level.setting.trial b.trial) (stance_of b.level.setting.trial refl) room few
          (does_follow b.level.setting stands.0 (stack_of m.stacks p).at (stack_of m.stacks p).operands b.level.arms doing room few stands.2)

    -- where it is before its next action already
    was_there : IsBeforeAction b.level (stack_of m.stacks p).at (stack_of m.stacks p).operands doing
        → length (stack_of m.stacks p).operands ≤ b.level.setting.room → length b.level.arms ≤ b.level.setting.arms
        → HasCome facts c p b.level n taking (stack_of m.stacks p).at
    was_there there room few =
        arrive facts c p b.level n taking (stack_of m.stacks p).at (stack_of m.stacks p).operands b.level.arms b.acting refl refl b.within
        (λ tried. absurd (not_tried facts taking c p (armed b.level b.level.arms) b.acting b.level.setting.trial
        (looking_of b.level.setting.trial b.trial) tried)) room few there

    came_by : (StandsOn b.level (stack_of m.stacks p).at (stack_of m.stacks p).operands doing
        ⊎ IsBeforeAction b.level (stack_of m.stacks p).at (stack_of m.stacks p).operands doing)
        → length (stack_of m.stacks p).operands ≤ b.level.setting.room → length b.level.arms ≤ b.level.setting.arms
        → HasCome facts c p b.level n taking (stack_of m.stacks p).at
    came_by (inl stands) room few = came_on stands room few
    came_by (inr there) room few = was_there there room few

    has_come : HasCome facts c p b.level n taking (stack_of m.stacks p).at
    has_come = let does = b.does in came_by does.2 does.0 does.1

  -- the end of the way
  pub came : HasCome facts c p (has_begun facts m c p is about).level n taking (stack_of m.stacks p).at
  came = has_come (has_begun facts m c p is about)

  unfoldable pub comes_to_action : ComesToAction facts m c p
  comes_to_action = record {
    level = armed (has_begun facts m c p is about).level came.more;
    count = came.count;
    before = came.before;
    run = came.run;
    few = few_in_all came.count (stack_of m.stacks p).at (length (image_of facts.tree).code) came.few;
    acting = came.acting;
    arrived = record {
      next = refl;
      number = about.number;
      arrived = came.arrived;
      room = came.room;
      arms = came.arms_fit;
      turned = came.turned;
      within = came.within;
    };
  }
