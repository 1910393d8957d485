-- Faults of quiet instructions, and of widths.
use Rattle.std.proofs.Common.{◌≡◌, ℕ, suc, ◌+◌, ◌-◌, ◌≤◌, ℤ, pos, negsuc, int_lt, Bool, true, false, if◌then◌else◌, List, [], ◌∷◌, ◌++◌, length, take, drop}
use Rattle.std.proofs.Common.{slice_get, get_or, Some, Result, Err, refl, sym, ap, ◌∙◌, subst, arith, ◌⊎◌, inl, inr}
use Rattle.pfc_base.specs.declared.faults.RunFault.{RunFault}
use Rattle.pfc_base.specs.declared.faults.RunFault.TheVariants.{Below}
use Rattle.pfc_code.specs.declared.instructions.Instr.{Instr}
use Rattle.pfc_code.specs.declared.instructions.Instr.TheVariants.{CALL, RET, RETF, MCALL, RCALL, GRD, SCAN, REQ, NEW, SINI, SWAIT, SSIG, SEND, RECV, ECALL}
use Rattle.pfc_code.specs.declared.instructions.Instr.TheVariants.{ACC, EACC, ARMS, ARMR, ARMA, ARMT, ARMX, SEL, DELAY, RESUME, EMPTY, CLOCK, RAND, WRS, RDI}
use Rattle.pfc_code.specs.declared.instructions.Instr.TheVariants.{RDC, EOF, EOLN}
use Rattle.pfc_code.specs.Images.{PlainImage}
use Rattle.pfc_values.specs.Numbers.{is_true}
use Rattle.pfc_values.specs.Pieces.{shown, padded}
use Rattle.pfc_semantics.specs.Remainders.{Context, faults}
use Rattle.pfc_semantics.specs.Configurations.{Config, activity_of}
use Rattle.pfc_translation.specs.Calls.{write_instr}
use Rattle.pfc_translation.specs.Images.{image_of}
use Rattle.pfc_stacks.specs.Refs.{word_of}
use Rattle.pfc_stacks.specs.Stacks.{stack_of, operand, operands_of, first_in_view}
use Rattle.pfc_stacks.specs.Effects as stacked
use Rattle.pfc_machines.specs.declared.machine.Machine.{Machine}
use Rattle.pfc_machines.specs.Communications.{Communicating}
use Rattle.pfc_machines.specs.Descriptors.{descriptor_of}
use Rattle.pfc_machines.specs.Rooms.{room_for}
use Rattle.pfc_machines.specs.Actions.{PrintedEffect}
use Rattle.pfc_machines.specs.Quiet.{QuietEffect, ends_in, timing, quiet_effect}
use Rattle.pfc_machine_acts.specs.Acting.{comes_to}
use Rattle.pfc_machine_acts.specs.Conditions.{CanPrint}
use Rattle.pfc_machine_acts.specs.Performing.{acts_by, choices_for}
use Rattle.pfc_machine_acts.specs.Quietly.{on_stacks, quietly, CanTry, CanStep}
use Rattle.pfc_machine_acts.specs.Running.{IsNoMove}
use Rattle.pfc_standing_code.specs.Settings.{Trial, of_own, of_turn, of_another, same_block, IsAt}
use Rattle.pfc_standing_code.specs.Effects.{Arm, Effect, onward, refuses, otherwise, guarded, effect_of, CanPerform, is_timeout, MayRefuse}
use Rattle.pfc_standing_code.specs.Following.{IsFault, of_operands, of_number_width, of_string_width}
use Rattle.pfc_standing_images.proofs.Wholes.{scan_stands}
use Rattle.pfc_stack_laws.specs.Instructions.{IsOfStacks, EndsIn}
use Rattle.pfc_stack_laws.proofs.Quiet.{end_in}
use Rattle.pfc_representation.specs.Levels.{Facts, program_in, LivingLevel}
use Rattle.pfc_representation.specs.Rooms.{process_count, own_address, HasRoomFor}
use Rattle.pfc_representation.specs.Callers.{IsWithin}
use Rattle.pfc_representation.specs.Trials.{TrialIs, HasTried, IsAtTurn}
use Rattle.pfc_representation.specs.Acting.{IsActing, HasArrived}
use Rattle.pfc_representation.specs.Actions.{ComeToSame, IsKept, AreKept}
use Rattle.pfc_kept_own_actions.specs.Groups.{IsFaulted}
use Rattle.pfc_kept_own_actions.proofs.Within.{room_here}
use Rattle.pfc_kept_own_actions.proofs.Arrived.{has_setting, stack_there, code_there, code_line, acts_now, hold_store, in_sight, stands_in_sight}
use Rattle.pfc_kept_own_actions.proofs.Alone.{refuse}
use Rattle.pfc_kept_own_actions.proofs.Printing.{Prints, number_prints, text_prints}

-- ## Instructions that may be refused

-- an instruction that is tried as most are, asks nothing more, and chooses nothing
record IsTried (image : PlainImage) (i : Instr) (p choice : ℕ) (m : Machine) : Type 0 where
  pub quiet : quietly image i p m ≡ on_stacks (stacked.effect image.blocks i p m.stacks) (quiet_effect image.scans i p m) m
  pub step : CanTry image i p m → CanStep image i p m
  pub can : CanPrint image i choice p m
  pub none : choices_for i p m ≡ 0

module _ (image : PlainImage) (p choice : ℕ) (m : Machine) (facts : Facts) (level : LivingLevel) (at : ℕ) (ops : List ℤ) (arms : List Arm) (f : RunFault) where
  other : {A : Type 0} → otherwise ≡ refuses f → A
  other h = (let none : ⊥ = cc in absurd none)

  goes : {A : Type 0} (to : ℕ) (left : List ℤ) (more : List Arm) → onward to left more ≡ refuses f → A
  goes to left more h = (let none : ⊥ = cc in absurd none)

  no_guard : {A : Type 0} (t : Trial) (b : Bool) (v : ℤ) → is_true v ≡ b → guarded t at v (drop 1 ops) arms ≡ refuses f → A
  no_guard of_own true v is h = goes (at + 1) (drop 1 ops) arms (sym (ap (λ (x : Bool). if x then onward (at + 1) (drop 1 ops) arms else otherwise) is) ∙ h)
  no_guard of_own false v is h = other (sym (ap (λ (x : Bool). if x then onward (at + 1) (drop 1 ops) arms else otherwise) is) ∙ h)
  no_guard (of_turn scan back) b v is h = other h
  no_guard (of_another attempt) true v is h = other (sym (ap (λ (x : Bool). if x then otherwise else onward attempt.turn (drop 1 ops) arms) is) ∙ h)
  no_guard (of_another attempt) false v is h = goes attempt.turn (drop 1 ops) arms
      (sym (ap (λ (x : Bool). if x then otherwise else onward attempt.turn (drop 1 ops) arms) is) ∙ h)

  tried_of : (i : Instr) → effect_of level.setting i at ops arms ≡ refuses f → IsTried image i p choice m
  tried_of (CALL k l) h = other h
  tried_of RET h = other h
  tried_of RETF h = other h
  tried_of (MCALL n k) h = other h
  tried_of (RCALL n k) h = other h
  tried_of (GRD r) h = no_guard level.setting.trial (is_true (operand ops 0)) (operand ops 0) refl h
  tried_of (SCAN r) h = other h
  tried_of (REQ r k) h = other h
  tried_of (NEW k) h = other h
  tried_of SINI h = other h
  tried_of SWAIT h = other h
  tried_of SSIG h = other h
  tried_of (SEND z) h = other h
  tried_of (RECV z) h = other h
  tried_of (ECALL e z) h = other h
  tried_of (ACC e d z) h = other h
  tried_of EACC h = other h
  tried_of (SEL pri x) h = other h
  tried_of DELAY h = other h
  tried_of RESUME h = other h
  tried_of EMPTY h = other h
  tried_of CLOCK h = other h
  tried_of RAND h = other h
  tried_of (WRS s w) h = other h
  tried_of RDI h = other h
  tried_of RDC h = other h
  tried_of EOF h = other h
  tried_of EOLN h = other h
  tried_of i h = record { quiet = refl; step = λ try. try; can = tt; none = refl }

  -- all but the alternative of a `timeout` are of the stacks alone
  of_stacks : (i : Instr) → effect_of level.setting i at ops arms ≡ refuses f → IsOfStacks i ⊎ ((a : ℕ) × (i ≡ ARMT a))
  of_stacks (GRD r) h = no_guard level.setting.trial (is_true (operand ops 0)) (operand ops 0) refl h
  of_stacks (ARMS z a) h = goes _ _ _ h
  of_stacks (ARMR z a) h = goes _ _ _ h
  of_stacks (ARMA e d z a) h = goes _ _ _ h
  of_stacks (ARMT a) h = inr (a, refl)
  of_stacks ARMX h = goes _ _ _ h
  of_stacks i h = inl tt

pair_first : (one two : Instr × ℕ) → Some one ≡ Some two → one.0 ≡ two.0
pair_first one two h = (let same : one ≡ two = cc in ap (λ (y : Instr × ℕ). y.0) same)

same_refusal : (f g : RunFault) → refuses f ≡ refuses g → g ≡ f
same_refusal f g h = cc

below_zero : (f : RunFault) (v : ℤ) (b : Bool) (more : Effect) → int_lt v (pos 0) ≡ b → (if int_lt v (pos 0) then refuses Below else more) ≡ refuses f
    → ((g : RunFault) → more ≡ refuses g → ⊥) → (int_lt v (pos 0) ≡ true) × (f ≡ Below)
below_zero f v true more is h never = (is, same_refusal Below f (sym (ap (λ (t : Bool). if t then refuses Below else more) is) ∙ h))
below_zero f v false more is h never = absurd (never f (sym (ap (λ (t : Bool). if t then refuses Below else more) is) ∙ h))

-- ## A fault

module _ (facts : Facts) (m : Machine) (c : Config) (p choice : ℕ) (level : LivingLevel) (x : Context) (f : RunFault) (acting : IsActing facts m c p level)
    (arrived : HasArrived facts m c p level (faults x f)) where
  abbrev here : ℕ
  here = (stack_of m.stacks p).at

  abbrev ops : List ℤ
  ops = operands_of m.stacks p

  abbrev image : PlainImage
  image = image_of facts.tree

  -- before a turn the instruction is that of the scan
  at_turn : {A : Type 0} (i : Instr) → IsAt level.setting here i x.line → effect_of level.setting i here ops level.arms ≡ refuses f → (t : Trial)
      → HasTried t facts (stack_of m.stacks p) level (activity_of (program_in facts) c p).activations (descriptor_of m.descriptors p) → IsAtTurn t here → A
  at_turn i there h of_own is turned = absurd is
  at_turn i there h (of_turn scan back) is turned = absurd is
  at_turn i there h (of_another attempt) is turned =
      let scans = scan_stands facts.tree level.setting (has_setting facts m c p level acting).image attempt.scan.resource attempt.turn is.2 in
      let same = pair_first (i, x.line) (SCAN attempt.scan.resource, get_or level.setting.program.resource_ends attempt.scan.resource 0)
      (sym there ∙ ap (λ n. slice_get level.setting.code n) turned ∙ scans) in
      other image p choice m facts level here ops level.arms f
      (subst (λ (k : Instr). effect_of level.setting k here ops level.arms ≡ refuses f) same h)

  outward_no : (e : stacked.Effect) → e ≡ stacked.ends_in f → e ≡ stacked.outward → ⊥
  outward_no e is out = (let both : stacked.ends_in f ≡ stacked.outward = sym is ∙ out in cc)

  ends_kept : (i : Instr) → IsAt level.setting here i x.line → effect_of level.setting i here ops level.arms ≡ refuses f → EndsIn image.blocks i p m.stacks f
      → IsKept facts m c p choice (faults x f)
  ends_kept i there h given =
      let tried = tried_of image p choice m facts level here ops level.arms f i h in
      let ends : quietly image i p m ≡ ends_in f = tried.quiet ∙ ap (λ (e : stacked.Effect). on_stacks e (quiet_effect image.scans i p m) m) given.effect in
      record {
        instr = i;
        is = code_there facts m c p level acting here i x.line there;
        can_step = tried.step (record {
          stack = stack_there facts m c p level acting;
          performed = given.can;
          goes = λ out. absurd (outward_no (stacked.effect image.blocks i p m.stacks) given.effect out);
        });
        no_move = subst (λ (q : QuietEffect). IsNoMove q) (sym ends) tt;
        can_do = record { acting = acts_now facts m c p level acting i x.line there; can = tried.can };
        line = code_line facts m c p level acting here i x.line there;
        choices = tried.none;
        same = subst (λ (q : QuietEffect). ComeToSame facts m c p x.line (comes_to q (acts_by image i choice p m)) (Err f)) (sym ends)
            (refuse facts m c p level acting x.line f);
      }

  stacks_fault : (i : Instr) → IsAt level.setting here i x.line → CanPerform level.setting i ops → effect_of level.setting i here ops level.arms ≡ refuses f
      → IsOfStacks i → IsKept facts m c p choice (faults x f)
  stacks_fault i there can h is = which acting.actor.trial
    where
      which : TrialIs level.setting.trial facts acting.homes acting.entries c.store m.stacks c.table p level (activity_of (program_in facts) c p).activations
          (descriptor_of m.descriptors p)
          ⊎ HasTried level.setting.trial facts (stack_of m.stacks p) level (activity_of (program_in facts) c p).activations (descriptor_of m.descriptors p)
          → IsKept facts m c p choice (faults x f)
      which (inr tried) = at_turn i there h level.setting.trial tried (arrived.turned tried)
      which (inl trial) =
          ends_kept i there h
          (end_in level.setting acting.homes acting.entries c.store level.setting.block image.blocks m.stacks p here ops level.arms
          (word_of (first_in_view m.stacks p))
          (hold_store facts m c p level acting) (in_sight facts m c p level acting trial level.setting.block same_block)
          (stands_in_sight facts m c p level acting) i f is can h)

  -- ### A number of seconds below 0

  timed : (a : ℕ) (v : ℤ) → int_lt v (pos 0) ≡ true → timing v a p m ≡ ends_in Below
  timed a (pos n) h = absurd (no n h)
    where
      no : (k : ℕ) → int_lt (pos k) (pos 0) ≡ true → ⊥
      no k less = grind (arith, less)
  timed a (negsuc n) h = refl

  timeout_fault : (own : level.setting.trial ≡ of_own) (a : ℕ) → IsAt level.setting here (ARMT a) x.line → CanPerform level.setting (ARMT a) ops
      → effect_of level.setting (ARMT a) here ops level.arms ≡ refuses f → IsKept facts m c p choice (faults x f)
  timeout_fault own a there can h =
      let less = below_zero f (operand ops 0) (int_lt (operand ops 0) (pos 0))
      (onward (here + 1) (drop 1 ops) (level.arms ++ record { by = ARMT a; operands = take 1 ops } ∷ [])) refl h
      (λ g none. goes image p choice m facts level here ops level.arms g _ _ _ none) in
      let ends : quietly image (ARMT a) p m ≡ ends_in f = timed a (operand ops 0) less.0 ∙ ap (λ (g : RunFault). ends_in g) (sym less.1) in
      let acts = acts_now facts m c p level acting (ARMT a) x.line there in
      let latest : Communicating = (descriptor_of m.descriptors p).communications in
      let room : HasRoomFor latest (room_for (process_count facts) (ARMT a)) =
      room_here facts level here latest (ARMT a) (subst (λ (t : Trial). IsWithin facts level (own_address t here) latest) own arrived.within)
      (code_there facts m c p level acting here (ARMT a) x.line there) in
      record {
        instr = ARMT a;
        is = code_there facts m c p level acting here (ARMT a) x.line there;
        can_step = record {
          stack = stack_there facts m c p level acting;
          performed = record { held = can.held; room = no_more (stack_of m.stacks p).room (length ops); reach = tt };
          goes = λ out. record {
            stack = acts.acts.stack;
            descriptor = acts.acts.descriptor;
            held = can.held;
            places = room.0;
            words = room.1;
            next = acts.acts.next;
          };
        };
        no_move = subst (λ (q : QuietEffect). IsNoMove q) (sym ends) tt;
        can_do = record { acting = acts; can = tt };
        line = code_line facts m c p level acting here (ARMT a) x.line there;
        choices = refl;
        same = subst (λ (q : QuietEffect). ComeToSame facts m c p x.line (comes_to q (acts_by image (ARMT a) choice p m)) (Err f)) (sym ends)
            (refuse facts m c p level acting x.line f);
      }
    where
      no_more : (j n : ℕ) → 0 - 1 ≤ j - n
      no_more j n = grind arith

  -- ### A width

  width_fault : (i : Instr) (count : ℕ) → IsAt level.setting here i x.line → Prints image i p choice m count (Err f) → IsKept facts m c p choice (faults x f)
  width_fault i count there is = record {
    instr = i;
    is = code_there facts m c p level acting here i x.line there;
    can_step = is.step;
    no_move = subst (λ (e : QuietEffect). IsNoMove e) (sym is.quiet) tt;
    can_do = record { acting = acts_now facts m c p level acting i x.line there; can = is.can };
    line = code_line facts m c p level acting here i x.line there;
    choices = is.none;
    same =
        subst (λ (e : PrintedEffect). ComeToSame facts m c p x.line e (Err f))
        (sym (ap (λ (q : QuietEffect). comes_to q (acts_by image i choice p m)) is.quiet ∙ is.does))
        (refuse facts m c p level acting x.line f);
  }

  fault_kept : IsFault level.setting x.line here ops level.arms f → IsKept facts m c p choice (faults x f)
  fault_kept (of_operands i there can h may) = which may (of_stacks image p choice m facts level here ops level.arms f i h)
    where
      timeout : (a : ℕ) → i ≡ ARMT a → MayRefuse level.setting i → IsKept facts m c p choice (faults x f)
      timeout a same (inl own) =
          timeout_fault own a (subst (λ (k : Instr). IsAt level.setting here k x.line) same there)
          (subst (λ (k : Instr). CanPerform level.setting k ops) same can)
          (subst (λ (k : Instr). effect_of level.setting k here ops level.arms ≡ refuses f) same h)
      timeout a same (inr none) = absurd (let both : true ≡ false = sym (ap (λ (k : Instr). is_timeout k) same) ∙ none in cc)

      which : MayRefuse level.setting i → IsOfStacks i ⊎ ((a : ℕ) × (i ≡ ARMT a)) → IsKept facts m c p choice (faults x f)
      which allowed (inl is) = stacks_fault i there can h is
      which allowed (inr (a, same)) = timeout a same allowed
  fault_kept (of_number_width t n w below is shows there) =
      let held : 1 + 1 ≤ length ops = subst (λ (xs : List ℤ). 1 + 1 ≤ length xs) (sym is) (two (length below)) in
      let value : padded (operand ops 0) (shown t (operand ops 1)) ≡ Err f = ap (λ (xs : List ℤ). padded (operand xs 0) (shown t (operand xs 1))) is ∙ shows in
      width_fault (write_instr t 1) 2 there
      (subst (λ (r : Result (List ℕ) RunFault). Prints image (write_instr t 1) p choice m 2 r) value
      (number_prints facts m c p choice level acting t 1 x.line there held arrived.within))
    where
      two : (n : ℕ) → 1 + 1 ≤ suc (suc n)
      two n = grind arith
  fault_kept (of_string_width s w text below is known shows there) =
      let held : 1 ≤ length ops = subst (λ (xs : List ℤ). 1 ≤ length xs) (sym is) (one (length below)) in
      let value : padded (operand ops 0) text ≡ Err f = ap (λ (xs : List ℤ). padded (operand xs 0) text) is ∙ shows in
      width_fault (WRS s 1) 1 there
      (subst (λ (r : Result (List ℕ) RunFault). Prints image (WRS s 1) p choice m 1 r) value
      (text_prints facts m c p choice level acting s 1 x.line text there known held arrived.within))
    where
      one : (n : ℕ) → 1 ≤ suc n
      one n = grind arith

pub faults_kept : AreKept IsFaulted
faults_kept facts m c p choice level (faults x f) is acting arrived chosen =
    let (b, checked, by) = arrived.arrived in fault_kept facts m c p choice level x f acting arrived by
faults_kept facts m c p choice level n is acting arrived chosen = absurd is
