-- One quiet instruction of a process that acts.
use Rattle.std.proofs.Common.{◌≡◌, ℕ, zero, suc, ◌+◌, ◌<◌, ◌≤◌, ℤ, Bool, true, false, List, [], ◌∷◌, ◌++◌, length, take, drop, get_or, Option, None, refl, sym}
use Rattle.std.proofs.Common.{ap, ◌∙◌, subst, arith, ◌⊎◌, inl, inr, slice_get, Some}
use Rattle.std.proofs.lemmas.Bool.Decides.{nat_tests}
use Rattle.std.specs.Prelude.{pos, negsuc, int_lt}
use Rattle.std.proofs.lemmas.List.{get_or-set_same}
use Rattle.std.proofs.lemmas.Option.{slice_get_within}
use Rattle.pfc_code.specs.declared.instructions.Instr.{Instr}
use Rattle.pfc_code.specs.declared.instructions.Instr.TheVariants.{CALL, RET, RETF, GRD, ARMS, ARMR, ARMA, ARMT, ARMX}
use Rattle.pfc_code.specs.Images.{PlainImage}
use Rattle.pfc_code.specs.Operands.{told, receiving, operands_of as operands_in}
use Rattle.pfc_image_laws.specs.Operands.{is_end}
use Rattle.pfc_semantics.specs.Configurations.{Activation, Config, activity_of}
use Rattle.pfc_translation.specs.Images.{image_of}
use Rattle.pfc_stacks.specs.Refs.{number_of}
use Rattle.pfc_stacks.specs.Stacks.{Stack, Stacks, no_stack, stack_of, operand, operands_of}
use Rattle.pfc_stacks.specs.Conditions.{CanPerform as CanPerformOnStacks}
use Rattle.pfc_stacks.specs.Effects as stacked
use Rattle.pfc_stacks.specs.Effects.{moved}
use Rattle.pfc_values.specs.Numbers.{is_true}
use Rattle.pfc_machines.specs.declared.alternatives.Alternative.{Alternative}
use Rattle.pfc_machines.specs.declared.alternatives.Offer.{Offer}
use Rattle.pfc_machines.specs.declared.alternatives.Offer.TheVariants.{Send, Receive, Accept, Timeout, Terminate}
use Rattle.pfc_machines.specs.declared.machine.Machine.{Machine}
use Rattle.pfc_machines.specs.declared.descriptors.Descriptor.{Descriptor}
use Rattle.pfc_machines.specs.Communications.{Communicating}
use Rattle.pfc_machines.specs.Descriptors.{descriptor_of}
use Rattle.pfc_machines.specs.Quiet.{goes, makes, left_by, timing, tried_in, tried_by, guarding, quiet_effect, CanGo}
use Rattle.pfc_machines.specs.Rooms.{room_for}
use Rattle.pfc_machine_acts.specs.Quietly.{on_stacks, quietly, CanTry, CanStep}
use Rattle.pfc_machine_acts.specs.Running.{QuietStep}
use Rattle.pfc_standing_code.specs.Settings.{Trial, Setting, of_own, of_turn, of_another, IsAt}
use Rattle.pfc_standing_code.specs.Effects.{Arm, onward, arming, effect_of, CanPerform}
use Rattle.pfc_stack_laws.specs.Instructions.{IsOfStacks, Goes}
use Rattle.pfc_stack_laws.proofs.Quiet.{lead_on}
use Rattle.pfc_representation.specs.Alternatives.{IsMadeBy, one_made}
use Rattle.pfc_representation.specs.Levels.{Facts, program_in, LivingLevel}
use Rattle.pfc_representation.specs.Rooms.{process_count, HasRoomFor, own_address, LeadsWithin, LeadWithin, MayMeetBy, MayMeet}
use Rattle.pfc_representation.specs.Callers.{IsWithin}
use Rattle.pfc_representation.specs.Trials.{TrialIs, HasTried}
use Rattle.pfc_representation.specs.Acting.{IsActing}
use Rattle.pfc_representation.proofs.Quiet.{acting_moved}
use Rattle.pfc_arrivals.proofs.Armed.{armed}
use Rattle.pfc_arrivals.proofs.Ahead.{IsAhead, guard_true, seconds_armed, is_ahead}
use Rattle.pfc_arrivals.proofs.Within.{within_ahead, leads_in, room_first, within_made}
use Rattle.pfc_representation.specs.Trials.{TriesAnother}
use Rattle.pfc_machines.specs.Quiet.{scans_on}
use Rattle.pfc_machines.specs.Rooms.{no_room}
use Rattle.std.proofs.lemmas.Option.{get_or_from_slice_get}
use Rattle.pfc_standing_code.specs.Effects.{guarded}
use Rattle.pfc_standing_code.specs.Settings.{Attempt}
use Rattle.pfc_arrivals.proofs.Ahead.{makes_one, guard_false}
use Rattle.pfc_arrivals.proofs.Untried.{stack_now, d_now as untried_now, acting_untried}
use Rattle.pfc_arrivals.proofs.Standing.{IsLooking, view_word, still_tries, IsCalm, stack_there, descriptor_there, code_there, hold_store, stands_at, at_hand}
use Rattle.pfc_arrivals.proofs.Remade.{acting_remade, d_now}

-- A quiet instruction leads process p on: it acts still, at the same level with these alternatives.
pub record StepsTo (facts : Facts) (m : Machine) (c : Config) (p : ℕ) (level : LivingLevel) (to : ℕ) (left : List ℤ) (more : List Arm) : Type 0 where
  pub next : Machine
  pub step : QuietStep (image_of facts.tree) p m next
  pub acting : IsActing facts next c p (armed level more)
  pub at_is : (stack_of next.stacks p).at ≡ to
  pub ops_are : operands_of next.stacks p ≡ left
  pub within : IsWithin facts (armed level more) (own_address level.setting.trial to) (descriptor_of next.descriptors p).communications
  pub looking : IsLooking level.setting.trial (stack_of next.stacks p)

-- The guard of another is false, and the process before the next turn.
pub record Fails (facts : Facts) (m : Machine) (c : Config) (p : ℕ) (level : LivingLevel) (attempt : Attempt) (to : ℕ) (left : List ℤ) (more : List Arm) :
    Type 0 where
  pub at_turn : to ≡ attempt.turn
  pub step : QuietStep (image_of facts.tree) p m (scans_on attempt.turn p m)
  pub acting : IsActing facts (scans_on attempt.turn p m) c p (armed level more)
  pub at_is : (stack_of (scans_on attempt.turn p m).stacks p).at ≡ to
  pub ops_are : operands_of (scans_on attempt.turn p m).stacks p ≡ left
  pub turn : slice_get (image_of facts.tree).scans attempt.scan.resource ≡ Some attempt.turn
  pub within : IsWithin facts (armed level more) attempt.back (descriptor_of (scans_on attempt.turn p m).descriptors p).communications

-- ## Operands

take_last : (z : ℕ) (ops : List ℤ) → z + 1 ≤ length ops → take (z + 1) ops ≡ take z ops ++ operand ops z ∷ []
take_last z [] few = absurd (omega (arith, few))
take_last zero (v ∷ ops) few = refl
take_last (suc z) (v ∷ ops) few =
    ap (λ n. take n (v ∷ ops)) (let h : suc z + 1 ≡ suc (z + 1) = grind arith in h) ∙ ap (λ (xs : List ℤ). v ∷ xs) (take_last z ops (grind (arith, few)))

take_size : (z : ℕ) (ops : List ℤ) → z + 1 ≤ length ops → length (take z ops) ≡ z
take_size zero ops few = refl
take_size (suc z) [] few = absurd (omega (arith, few))
take_size (suc z) (v ∷ ops) few = ap suc (take_size z ops (grind (arith, few)))

take_two : (ops : List ℤ) → 2 ≤ length ops → take 2 ops ≡ operand ops 0 ∷ operand ops 1 ∷ []
take_two [] few = absurd (omega (arith, few))
take_two (v ∷ []) few = absurd (omega (arith, few))
take_two (v ∷ w ∷ ops) few = refl

receives_two : (z : ℕ) → receiving (suc z) ≡ 2
receives_two z = grind (arith, nat_tests)

may_meet_more : (count most : ℕ) (arms : List Arm) (arm : Arm) → MayMeet count most arms → MayMeetBy count most arm.by → MayMeet count most (arms ++ arm ∷ [])
may_meet_more count most [] arm is by = (by, tt)
may_meet_more count most (x ∷ arms) arm is by = (is.0, may_meet_more count most arms arm is.1 by)

lead_more : (facts : Facts) (k : ℕ) (arms : List Arm) (arm : Arm) → LeadWithin facts k arms → LeadsWithin facts k arm.by → LeadWithin facts k (arms ++ arm ∷ [])
lead_more facts k [] arm is by = (by, tt)
lead_more facts k (x ∷ arms) arm is by = (is.0, lead_more facts k arms arm is.1 by)

-- ## One instruction

module _ (facts : Facts) (m : Machine) (c : Config) (p : ℕ) (level : LivingLevel) (acting : IsActing facts m c p level)
    (looking : IsLooking level.setting.trial (stack_of m.stacks p))
    (within : IsWithin facts level (own_address level.setting.trial (stack_of m.stacks p).at) (descriptor_of m.descriptors p).communications) where
  abbrev g : Setting
  g = level.setting

  abbrev image : PlainImage
  image = image_of facts.tree

  abbrev here : ℕ
  here = (stack_of m.stacks p).at

  abbrev ops : List ℤ
  ops = operands_of m.stacks p

  abbrev d : Descriptor
  d = descriptor_of m.descriptors p

  abbrev xs : List Activation
  xs = (activity_of (program_in facts) c p).activations

  steps_at : (to to' : ℕ) (left left' : List ℤ) (more more' : List Arm) → to ≡ to' → left ≡ left' → more ≡ more' → StepsTo facts m c p level to' left' more'
      → StepsTo facts m c p level to left more
  steps_at to to' left left' more more' to_is left_is more_is is =
      subst (λ t. StepsTo facts m c p level t left more) (sym to_is)
      (subst (λ (l : List ℤ). StepsTo facts m c p level to' l more) (sym left_is)
      (subst (λ (a : List Arm). StepsTo facts m c p level to' left' a) (sym more_is) is))

  moved_here : (to : ℕ) (left : List ℤ) → stack_of (moved m.stacks p to left) p ≡ record (stack_of m.stacks p) { at = to; operands = left }
  moved_here to left = get_or-set_same m.stacks p (record (stack_of m.stacks p) { at = to; operands = left }) no_stack (stack_there facts m c p level acting)

  looking_moved : (t : Trial) (to : ℕ) (left : List ℤ) → IsLooking t (stack_of m.stacks p) → IsLooking t (stack_of (moved m.stacks p to left) p)
  looking_moved of_own to left is = tt
  looking_moved (of_turn scan back) to left is = tt
  looking_moved (of_another attempt) to left is = ap (λ (s : Stack). s.looks_from) (moved_here to left) ∙ is

  -- where nothing but its stack changes
  by_stacks : (i : Instr) (line to : ℕ) (left : List ℤ) → IsAt g here i line → here < to → (g.trial ≡ of_own → IsAhead here to i) → CanStep image i p m
      → quietly image i p m ≡ goes (record m { stacks = moved m.stacks p to left }) → StepsTo facts m c p level to left level.arms
  by_stacks i line to left there up ahead can leads = record {
    next = record m { stacks = moved m.stacks p to left };
    step = record { instr = i; is = code_there facts m c p level acting here i line there; can = can; goes_on = leads };
    acting = acting_moved facts m c p level to left acting;
    at_is = ap (λ (s : Stack). s.at) (moved_here to left);
    ops_are = ap (λ (s : Stack). s.operands) (moved_here to left);
    within = on g.trial refl within;
    looking = looking_moved g.trial to left looking;
  }
    where
      on : (t : Trial) → g.trial ≡ t → IsWithin facts level (own_address t here) d.communications → IsWithin facts level (own_address t to) d.communications
      on of_own own is = within_ahead facts level here to d.communications i is (code_there facts m c p level acting here i line there) up (ahead own)
      on (of_turn scan back) same is = is
      on (of_another attempt) same is = is

  calm_own : g.trial ≡ of_own → IsCalm g.trial
  calm_own own = subst (λ (t : Trial). IsCalm t) (sym own) tt

  outward_not : (stacks : Stacks) (e : stacked.Effect) → e ≡ stacked.goes stacks → e ≡ stacked.outward → ⊥
  outward_not stacks e is out = (let both : stacked.goes stacks ≡ stacked.outward = sym is ∙ out in cc)

  -- an instruction of the stacks alone
  steps_quietly : (i : Instr) (to : ℕ) (left : List ℤ) (more : List Arm) → effect_of g i here ops level.arms ≡ onward to left more
      → Goes image.blocks i p m.stacks to left
      → CanStep image i p m × (quietly image i p m ≡ goes (record m { stacks = moved m.stacks p to left }))
  steps_quietly (CALL k l) to left more is lead = absurd (cc)
  steps_quietly RET to left more is lead = absurd (cc)
  steps_quietly RETF to left more is lead = absurd (cc)
  steps_quietly i to left more is lead = (
    record {
      stack = stack_there facts m c p level acting;
      performed = lead.can;
      goes = λ out. absurd
          (outward_not (moved m.stacks p to left) _ lead.effect out);
    },
    ap (λ (e : stacked.Effect). on_stacks e (quiet_effect image.scans i p m) m) lead.effect,
  )

  stack_step : (i : Instr) (line to : ℕ) (left : List ℤ) (more : List Arm) → IsAt g here i line → IsOfStacks i → CanPerform g i ops
      → effect_of g i here ops level.arms ≡ onward to left more
      → here < to → length left ≤ g.room → StepsTo facts m c p level to left more
  stack_step i line to left more there alone can is up fit =
      let lead =
      lead_on g acting.homes acting.entries c.store g.block image.blocks m.stacks p here ops level.arms (view_word g.trial m.stacks p)
      (hold_store facts m c p level acting)
      (at_hand facts m c p level acting looking) (stands_at facts m c p level acting looking) i to left more alone can is fit in
      let both = steps_quietly i to left more is lead.0 in
      steps_at to to left left more level.arms refl refl lead.1 (by_stacks i line to left there up
      (λ own. is_ahead g (calm_own own) here to ops left level.arms more i is) both.0 both.1)

  -- ## What is not of the stacks alone

  address_fits : (n size : ℕ) → n < size → size < 4294967296 → n + 1 < 4294967296
  address_fits n size less short = grind (arith, less, short)

  counts : length m.descriptors ≡ process_count facts
  counts = acting.alike.words.descriptors ∙ acting.alike.words.processes

  own_within : g.trial ≡ of_own → IsWithin facts level here d.communications
  own_within own = subst (λ (t : Trial). IsWithin facts level (own_address t here) d.communications) own within

  has_room : (i : Instr) (line : ℕ) → g.trial ≡ of_own → IsAt g here i line → HasRoomFor d.communications (room_for (process_count facts) i)
  has_room i line own there = room_first facts level here d.communications i (own_within own) (code_there facts m c p level acting here i line there)

  can_go : (i : Instr) (line : ℕ) → HasRoomFor d.communications (room_for (process_count facts) i) → IsAt g here i line
      → told (operands_in i).reads ≤ length ops → CanGo i p m
  can_go i line has there held =
      let room = subst (λ n. HasRoomFor d.communications (room_for n i)) (sym counts) has in
      record {
        stack = stack_there facts m c p level acting;
        descriptor = descriptor_there facts m c p level acting;
        held = held;
        places = room.0;
        words = room.1;
        next = address_fits here (length image.code) (slice_get_within image.code here i (code_there facts m c p level acting here i line there))
            acting.alike.program.short;
      }

  -- ## The own guard

  unscanned : (t : Trial) → t ≡ of_own
      → TrialIs t facts acting.homes acting.entries c.store m.stacks c.table p level xs d ⊎ HasTried t facts (stack_of m.stacks p) level xs d → d.scan ≡ None
  unscanned of_own own (inl is) = is.1
  unscanned of_own own (inr is) = absurd is
  unscanned (of_turn scan back) own is = absurd (cc)
  unscanned (of_another attempt) own is = absurd (cc)

  room_at_all : HasRoomFor d.communications no_room
  room_at_all = by within
    where
      by : IsWithin facts level (own_address g.trial here) d.communications → HasRoomFor d.communications no_room
      by (k, code, is, inside) = (grind (arith, inside.rest.0), grind (arith, inside.rest.1), grind arith)

  can_end : (r line : ℕ) → IsAt g here (GRD r) line → 1 ≤ length ops → CanTry image (GRD r) p m
  can_end r line there held = record {
    stack = stack_there facts m c p level acting;
    performed = record { held = held; room = omega arith; reach = tt };
    goes = λ out. can_go (GRD r) line room_at_all there held;
  }

  guard_step : (r line to : ℕ) (left : List ℤ) (more : List Arm) → IsCalm g.trial → IsAt g here (GRD r) line → CanPerform g (GRD r) ops
      → effect_of g (GRD r) here ops level.arms ≡ onward to left more
      → here < to → StepsTo facts m c p level to left more
  guard_step r line to left more calm there can is up =
      let told_so = guard_true g.trial calm here to (operand ops 0) (drop 1 ops) left level.arms more is in
      let own : g.trial ≡ of_own = told_so.0 in
      let untried : tried_by m p ≡ None = ap tried_in (unscanned g.trial own acting.actor.trial) in
      let quiet_so : quietly image (GRD r) p m ≡ goes (left_by m p 1) =
      ap (λ (o : Option ℕ). guarding o (is_true (operand ops 0)) (get_or image.scans r 0) p m) untried
      ∙ ap (λ (b : Bool). guarding None b (get_or image.scans r 0) p m) told_so.1 in
      steps_at to (here + 1) left (drop 1 ops) more level.arms told_so.2 told_so.3 told_so.4
      (by_stacks (GRD r) line (here + 1) (drop 1 ops) there (grind arith) (λ own. (inl refl, refl)) (can_end r line there can.held) quiet_so)

  -- ## Alternatives

  onward_is : (at to : ℕ) (l left : List ℤ) (arms more : List Arm) → onward at l arms ≡ onward to left more → (to ≡ at) × (left ≡ l) × (more ≡ arms)
  onward_is at to l left arms more is = (cc, cc, cc)

  -- one more is made, of some operands, with the words of its message
  made_step : (i : Instr) (line n : ℕ) (offer : Offer) (branch : ℕ) (words : List ℤ) (to : ℕ) (left : List ℤ) (more : List Arm) → g.trial ≡ of_own
      → IsAt g here i line → is_end i ≡ false
      → (room_for (process_count facts) i).alternatives ≡ 1 → (room_for (process_count facts) i).words ≡ length words
      → MayMeetBy (process_count facts) d.communications.room.meetings i
      → CanStep image i p m → quietly image i p m ≡ goes (makes m p offer branch n words)
      → IsMadeBy d.activations i (take n ops) (record { activation = d.activations; offer = offer; branch = branch }) words
      → arming i n here ops level.arms ≡ onward to left more → StepsTo facts m c p level to left more
  made_step i line n offer branch words to left more own there no_end one many meet can leads made is =
      let code_is = code_there facts m c p level acting here i line there in
      let arm : Arm = record { by = i; operands = take n ops } in
      let new : Alternative = record { activation = d.activations; offer = offer; branch = branch } in
      let e : Communicating = d.communications in
      let mid : Machine = record m { stacks = moved m.stacks p (here + 1) (drop n ops) } in
      let on = acting_moved facts m c p level (here + 1) (drop n ops) acting in
      let end = onward_is (here + 1) to (drop n ops) left (level.arms ++ arm ∷ []) more is in
      let depth_made : IsMadeBy (length xs) i (take n ops) new words = subst (λ k. IsMadeBy k i (take n ops) new words) acting.actor.stands.count made in
      let after = acting_remade facts mid c p level on (level.arms ++ arm ∷ []) (new ∷ e.alternatives) (words ++ e.words)
      (λ alternatives ws before. one_made level.arms e.alternatives e.words arm new words before depth_made)
      (may_meet_more (process_count facts) e.room.meetings level.arms arm acting.actor.stands.accepts meet)
      (λ k b there_is old. lead_more facts k level.arms arm old (leads_in facts level here e i (own_within own) code_is no_end k b there_is)) in
      let now = d_now facts mid c p level on (level.arms ++ arm ∷ []) (new ∷ e.alternatives) (words ++ e.words) in
      let inside = within_made facts level here e i new words (own_within own) code_is no_end one many in
      steps_at to (here + 1) left (drop n ops) more (level.arms ++ arm ∷ []) end.0 end.1 end.2
      (record {
        next = makes m p offer branch n words;
        step = record { instr = i; is = code_is; can = can; goes_on = leads };
        acting = after;
        at_is = ap (λ (s : Stack). s.at) (moved_here (here + 1) (drop n ops));
        ops_are = ap (λ (s : Stack). s.operands) (moved_here (here + 1) (drop n ops));
        within =
            subst (λ (t : Trial). IsWithin facts level (own_address t (here + 1))
            (descriptor_of (makes m p offer branch n words).descriptors p).communications) (sym own)
            (subst (λ (x : Descriptor). IsWithin facts level (here + 1) x.communications) (sym now) inside);
        looking = looking_moved g.trial (here + 1) (drop n ops) looking;
      })

  can_make : (i : Instr) (line : ℕ) → g.trial ≡ of_own → IsAt g here i line → told (operands_in i).reads ≤ length ops
      → CanPerformOnStacks image.blocks i p m.stacks → CanTry image i p m
  can_make i line own there held can = record {
    stack = stack_there facts m c p level acting;
    performed = can;
    goes = λ out. can_go i line
        (has_room i line own there) there held;
  }

  arms_made : (z a line to : ℕ) (left : List ℤ) (more : List Arm) → g.trial ≡ of_own → IsAt g here (ARMS z a) line → CanPerform g (ARMS z a) ops
      → effect_of g (ARMS z a) here ops level.arms ≡ onward to left more → StepsTo facts m c p level to left more
  arms_made z a line to left more own there can is =
      made_step (ARMS z a) line (z + 1) (Send (number_of (operand ops z)) z) a (take z ops) to left more own there refl refl (sym (take_size z ops can.held)) tt
      (can_make (ARMS z a) line own there can.held (record { held = can.held; room = omega arith; reach = tt })) refl
      (operand ops z, take_last z ops can.held, take_size z ops can.held, refl) is

  armr_made : (z a line to : ℕ) (left : List ℤ) (more : List Arm) → g.trial ≡ of_own → IsAt g here (ARMR z a) line → CanPerform g (ARMR z a) ops
      → effect_of g (ARMR z a) here ops level.arms ≡ onward to left more → StepsTo facts m c p level to left more
  armr_made zero a line to left more own there can is =
      made_step (ARMR 0 a) line 1 (Receive (number_of (operand ops 0)) 0 (pos 0)) a [] to left more own there refl refl refl tt
      (can_make (ARMR 0 a) line own there can.held (record { held = can.held; room = omega arith; reach = tt })) refl
      (refl, (operand ops 0, take_last 0 ops can.held, refl)) is
  armr_made (suc z) a line to left more own there can is =
      let two = receives_two z in
      made_step (ARMR (suc z) a) line 2 (Receive (number_of (operand ops 1)) (suc z) (operand ops 0)) a [] to left more own there refl refl refl tt
      (can_make (ARMR (suc z) a) line own there can.held (record { held = can.held; room = omega arith; reach = tt })) refl
      (refl, (operand ops 1, operand ops 0, take_two ops (subst (λ n. n ≤ length ops) two can.held), refl))
      (ap (λ n. arming (ARMR (suc z) a) n here ops level.arms) (sym two) ∙ is)

  arma_made : (e f z a line to : ℕ) (left : List ℤ) (more : List Arm) → g.trial ≡ of_own → IsAt g here (ARMA e f z a) line → CanPerform g (ARMA e f z a) ops
      → effect_of g (ARMA e f z a) here ops level.arms ≡ onward to left more → StepsTo facts m c p level to left more
  arma_made e f z a line to left more own there can is =
      made_step (ARMA e f z a) line 0 (Accept e f z) a [] to left more own there refl refl refl (has_room (ARMA e f z a) line own there).2
      (can_make (ARMA e f z a) line own there can.held (record { held = can.held; room = omega arith; reach = tt })) refl (refl, refl) is

  armx_made : (line to : ℕ) (left : List ℤ) (more : List Arm) → g.trial ≡ of_own → IsAt g here ARMX line → CanPerform g ARMX ops
      → effect_of g ARMX here ops level.arms ≡ onward to left more → StepsTo facts m c p level to left more
  armx_made line to left more own there can is =
      made_step ARMX line 0 Terminate 0 [] to left more own there refl refl refl tt
      (can_make ARMX line own there can.held (record { held = can.held; room = omega arith; reach = tt })) refl (refl, refl) is

  armt_made : (a line to : ℕ) (left : List ℤ) (more : List Arm) → g.trial ≡ of_own → IsAt g here (ARMT a) line → CanPerform g (ARMT a) ops
      → effect_of g (ARMT a) here ops level.arms ≡ onward to left more → StepsTo facts m c p level to left more
  armt_made a line to left more own there can is =
      let some = seconds_armed (int_lt (operand ops 0) (pos 0)) here to (ARMT a) 1 ops left level.arms more is in by (operand ops 0) refl some.0 some.1
    where
      by : (v : ℤ) → operand ops 0 ≡ v → int_lt (operand ops 0) (pos 0) ≡ false → arming (ARMT a) 1 here ops level.arms ≡ onward to left more
          → StepsTo facts m c p level to left more
      by (negsuc n) v_is low made = absurd (let both : true ≡ false = sym (ap (λ v. int_lt v (pos 0)) v_is) ∙ low in cc)
      by (pos n) v_is low made =
          made_step (ARMT a) line 1 (Timeout n) a [] to left more own there refl refl refl tt
          (can_make (ARMT a) line own there can.held (record { held = can.held; room = omega arith; reach = tt })) (ap (λ v. timing v a p m) v_is)
          (n, take_last 0 ops can.held ∙ ap (λ v. v ∷ []) v_is, refl, refl) made

  -- any but the end of the guard of another; one that makes an alternative is no scan's
  pub one_step : (i : Instr) (line to : ℕ) (left : List ℤ) (more : List Arm) → (makes_one i ≡ true → g.trial ≡ of_own) → ((r : ℕ) → i ≡ GRD r → IsCalm g.trial)
      → IsAt g here i line → CanPerform g i ops → effect_of g i here ops level.arms ≡ onward to left more → here < to → length left ≤ g.room
      → StepsTo facts m c p level to left more
  one_step (GRD r) line to left more own calm there can is up fit = guard_step r line to left more (calm r refl) there can is up
  one_step (ARMS z a) line to left more own calm there can is up fit = arms_made z a line to left more (own refl) there can is
  one_step (ARMR z a) line to left more own calm there can is up fit = armr_made z a line to left more (own refl) there can is
  one_step (ARMA e f z a) line to left more own calm there can is up fit = arma_made e f z a line to left more (own refl) there can is
  one_step ARMX line to left more own calm there can is up fit = armx_made line to left more (own refl) there can is
  one_step (ARMT a) line to left more own calm there can is up fit = armt_made a line to left more (own refl) there can is
  one_step i line to left more own calm there can is up fit = stack_step i line to left more there tt can is up fit

  -- ## The false guard of another

  module _ (attempt : Attempt) (is_another : g.trial ≡ of_another attempt) where
    tries : TriesAnother facts acting.homes acting.entries c.store m.stacks c.table p level attempt xs d
    tries = subst (λ (t : Trial). TrialIs t facts acting.homes acting.entries c.store m.stacks c.table p level xs d) is_another
        (still_tries facts m c p level acting g.trial looking acting.actor.trial)

    pub another_fails : (line to : ℕ) (left : List ℤ) (more : List Arm) → IsAt g here (GRD attempt.scan.resource) line
        → CanPerform g (GRD attempt.scan.resource) ops
        → effect_of g (GRD attempt.scan.resource) here ops level.arms ≡ onward to left more → Fails facts m c p level attempt to left more
    another_fails line to left more there can is =
        let r : ℕ = attempt.scan.resource in
        let told_so =
        guard_false attempt here to (operand ops 0) (drop 1 ops) left level.arms more
        (ap (λ (t : Trial). guarded t here (operand ops 0) (drop 1 ops) level.arms) (sym is_another) ∙ is) in
        let scan_is : get_or image.scans r 0 ≡ attempt.turn = get_or_from_slice_get image.scans r attempt.turn 0 tries.turn in
        let tried : tried_by m p ≡ Some attempt.whom.process = ap tried_in tries.scan in
        let quiet_so : quietly image (GRD r) p m ≡ goes (scans_on attempt.turn p m) =
        ap (λ (o : Option ℕ). guarding o (is_true (operand ops 0)) (get_or image.scans r 0) p m) tried
        ∙ ap (λ (b : Bool). guarding (Some attempt.whom.process) b (get_or image.scans r 0) p m) told_so.0
        ∙ ap (λ n. goes (scans_on n p m)) scan_is in
        record {
          at_turn = told_so.1;
          step = record {
            instr = GRD r;
            is = code_there facts m c p level acting here (GRD r) line there;
            can = can_end r line there can.held;
            goes_on =
                quiet_so;
          };
          acting = subst (λ (xs : List Arm). IsActing facts (scans_on attempt.turn p m) c p (armed level xs)) (sym told_so.3)
              (acting_untried facts m c p level acting attempt tries is_another);
          at_is = ap (λ (s : Stack). s.at) (stack_now facts m c p level acting attempt tries) ∙ sym told_so.1;
          ops_are = ap (λ (s : Stack). s.operands) (stack_now facts m c p level acting attempt tries) ∙ sym told_so.2;
          turn = tries.turn;
          within =
              subst (λ (xs : List Arm). IsWithin facts (armed level xs) attempt.back
              (descriptor_of (scans_on attempt.turn p m).descriptors p).communications) (sym told_so.3)
              (subst (λ (x : Descriptor). IsWithin facts level attempt.back x.communications) (sym (untried_now facts m c p level acting attempt tries))
              (subst (λ (t : Trial). IsWithin facts level (own_address t here) d.communications) is_another within));
        }
