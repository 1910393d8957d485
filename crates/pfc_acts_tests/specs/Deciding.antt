-- Whether what an action asks of the machine is met, computed.
use Rattle.std.specs.Prelude.{ℕ, zero, suc, ◌+◌, ◌-◌, ◌*◌, ◌^◌, ◌==◌, nat_le, nat_lt, Bool, true, false, not, ◌&&◌, ℤ, pos, ◌+ℤ◌, int_le, int_lt, List, [], ◌∷◌}
use Rattle.std.specs.Prelude.{length, Option, None, Some}
use Rattle.std.specs.List.{slice_get}
use Rattle.pfc_code.specs.declared.images.Block.{Block}
use Rattle.pfc_code.specs.declared.instructions.Instr.{Instr}
use Rattle.pfc_code.specs.declared.instructions.Instr.TheVariants.{ADDR, REF, IDX, FLD, LOAD, STORE, FORW, CALL, RET, RETF, MCALL, RCALL, GRD, SCAN, REQ, NEW}
use Rattle.pfc_code.specs.declared.instructions.Instr.TheVariants.{END, SINI, SWAIT, SSIG, SEND, RECV, ECALL, ACC, EACC, SEL, DELAY, RESUME, EMPTY, CLOCK, RAND}
use Rattle.pfc_code.specs.declared.instructions.Instr.TheVariants.{WRS, RDI, RDC, EOF, EOLN}
use Rattle.pfc_code.specs.Images.{PlainImage}
use Rattle.pfc_code.specs.Operands.{told}
use Rattle.pfc_code.specs.Operands as table
use Rattle.pfc_sched.specs.Picks.{Picking}
use Rattle.pfc_stacks.specs.declared.marks.Mark.{Mark}
use Rattle.pfc_stacks.specs.declared.marks.Mark.TheVariants.{Plain, Monitor, Resource}
use Rattle.pfc_stacks.specs.declared.refs.Ref.{Ref}
use Rattle.pfc_stacks.specs.Activations.{params_of, mark_in}
use Rattle.pfc_stacks.specs.Conditions.{count_in, adds}
use Rattle.pfc_stacks.specs.Effects.{is_within, element_word}
use Rattle.pfc_stacks.specs.Effects as stacked
use Rattle.pfc_stacks.specs.Refs.{ref_of}
use Rattle.pfc_stacks.specs.Stacks.{Stacks, stack_of, operand, operands_of, cells_of, cell_word, own_cells}
use Rattle.pfc_state.specs.declared.waits.Arm.{Arm}
use Rattle.pfc_state.specs.declared.waits.Arm.TheVariants.{Send as To, Receive as From, Accept as Entry}
use Rattle.pfc_state.specs.declared.waits.Why.TheVariants.{Meeting, Barred}
use Rattle.pfc_state.specs.Stands.{Stand, Waits, ticket_of}
use Rattle.pfc_values.specs.declared.simple.Simple.TheVariants.{Integer}
use Rattle.pfc_values.specs.Numbers.{is_of}
use Rattle.pfc_world.specs.Holders.{holder_in}
use Rattle.pfc_world.specs.Partners.{is_empty_condition, is_accepting, receiver, sender, caller}
use Rattle.pfc_world.specs.Tables.{at}
use Rattle.pfc_machines.specs.declared.alternatives.KeptAlternative.{KeptAlternative}
use Rattle.pfc_machines.specs.declared.alternatives.Offer.{Offer}
use Rattle.pfc_machines.specs.declared.alternatives.Offer.TheVariants.{Send, Receive, Accept}
use Rattle.pfc_machines.specs.declared.machine.Machine.{Machine}
use Rattle.pfc_machines.specs.Descriptors.{descriptor_of}
use Rattle.pfc_machines.specs.Offers.{communications, words_in}
use Rattle.pfc_machines.specs.Partners.{open_to}
use Rattle.pfc_machines.specs.Quiet.{QuietEffect, goes, ends_in, acts, left_by, quiet_effect, tried_by}
use Rattle.pfc_machines.specs.Rooms.{room_for}
use Rattle.pfc_own_actions.specs.Creating.{created_by}
use Rattle.pfc_object_actions.specs.Conditions.{monitor_of, is_inside}
use Rattle.pfc_object_actions.specs.Objects.{object_at}
use Rattle.pfc_message_actions.specs.Messages.{channel_under, channel_for, target_for, target_of}
use Rattle.pfc_meeting_actions.specs.Meetings.{called_by, last_caller, cell_of, parameter_cell}
use Rattle.pfc_select_actions.specs.Selects.{takes_up, open_count, open_ones, open_arms, matched_places, place_taken, partner_at}
use Rattle.pfc_machine_acts.specs.Acting.{choice_among}
use Rattle.pfc_machine_acts.specs.Performing.{choices_for}
use Rattle.pfc_machine_acts.specs.Quietly.{quietly, next_instr}
use Rattle.pfc_machine_acts.specs.Running.{effect_of_next, quiet_ahead}

-- ## Parts

abbrev pub implies : Bool → Bool → Bool
implies true b = b
implies false b = true

abbrev pub is_holder : Option ℕ → ℕ → Bool
is_holder None p = false
is_holder (Some q) p = q == p

-- of what there is
abbrev pub if_some : {A : Type 0} → Option A → (A → Bool) → Bool
if_some None f = true
if_some (Some a) f = f a

abbrev pub is_some_and : {A : Type 0} → Option A → (A → Bool) → Bool
is_some_and None f = false
is_some_and (Some a) f = f a

-- ## Instructions of the stacks

abbrev pub is_address : ℤ → Bool
is_address w = int_le (pos 0) w && int_lt w (pos (2 ^ 42))

abbrev pub are_live : Stacks → Ref → ℕ → Bool
are_live stacks r z = nat_le (r.cell + z) (length (cells_of stacks r.process))

abbrev pub leads : ℕ → ℕ → ℕ → Stacks → Bool
leads zero d p stacks = true
leads (suc l) d p stacks = is_address (cell_word stacks p (suc l) d)

abbrev pub reckons : Instr → List ℤ → Bool
reckons (IDX low high z) ops =
    is_address (operand ops 1) && implies (is_within low high (operand ops 0)) (is_address (element_word low z (operand ops 0) (operand ops 1)))
reckons (FLD k) ops = is_address (operand ops 0 +ℤ pos k)
reckons i ops = true

abbrev pub reaches : List Block → Instr → ℕ → Stacks → Bool
reaches blocks (ADDR l d) p stacks = leads l d p stacks
reaches blocks (REF l d) p stacks = leads l d p stacks
reaches blocks (LOAD z) p stacks = are_live stacks (ref_of (operand (operands_of stacks p) 0)) z
reaches blocks (STORE z) p stacks = are_live stacks (ref_of (operand (operands_of stacks p) z)) z
reaches blocks FORW p stacks = are_live stacks (ref_of (operand (operands_of stacks p) 2)) 1
reaches blocks (CALL k l) p stacks = nat_lt k (length blocks)
reaches blocks i p stacks = reckons i (operands_of stacks p)

abbrev pub may_perform : List Block → Instr → ℕ → Stacks → Bool
may_perform blocks i p stacks =
    nat_le (count_in blocks (table.operands_of i).reads) (length (operands_of stacks p))
    && (nat_le (adds i) ((stack_of stacks p).room - length (operands_of stacks p)) && reaches blocks i p stacks)

-- ## Up to the next action

abbrev pub may_go : Instr → ℕ → Machine → Bool
may_go i p m =
    let d = descriptor_of m.descriptors p in
    let room = room_for (length m.descriptors) i in
    nat_lt p (length m.stacks) && (nat_lt p (length m.descriptors) && (nat_le (told (table.operands_of i).reads) (length (operands_of m.stacks p))
    && (nat_le (length d.communications.alternatives + room.alternatives) d.communications.room.alternatives
    && (nat_le (length d.communications.words + room.words) d.communications.room.words && nat_lt ((stack_of m.stacks p).at + 1) (2 ^ 32)))))

abbrev pub where_outward : stacked.Effect → Bool → Bool
where_outward (stacked.goes stacks) b = true
where_outward (stacked.acts stacks) b = true
where_outward (stacked.ends_in f) b = true
where_outward stacked.outward b = b

abbrev pub may_try : PlainImage → Instr → ℕ → Machine → Bool
may_try image i p m =
    nat_lt p (length m.stacks) && (may_perform image.blocks i p m.stacks && where_outward (stacked.effect image.blocks i p m.stacks) (may_go i p m))

abbrev pub may_step : PlainImage → Instr → ℕ → Machine → Bool
may_step image (CALL k l) p m = true
may_step image RET p m = true
may_step image RETF p m = true
may_step image i p m = may_try image i p m

abbrev pub is_no_move : QuietEffect → Bool
is_no_move (goes m) = false
is_no_move (ends_in f) = true
is_no_move acts = true

abbrev pub on_goes : QuietEffect → (Machine → Bool) → Bool
on_goes (goes m) f = f m
on_goes (ends_in f) g = false
on_goes acts f = false

-- n quiet instructions of the process may be performed, and then an action stands
abbrev pub may_walk : PlainImage → ℕ → ℕ → Machine → Bool
may_walk image p zero m = is_some_and (next_instr image p m) (λ i. may_step image i p m && is_no_move (quietly image i p m))
may_walk image p (suc n) m = is_some_and (next_instr image p m) (λ i. may_step image i p m && on_goes (quietly image i p m) (may_walk image p n))

abbrev pub moved : QuietEffect → Machine → Machine
moved (goes m) old = m
moved (ends_in f) old = old
moved acts old = old

-- behind n quiet instructions
abbrev pub walked : PlainImage → ℕ → ℕ → Machine → Machine
walked image p zero m = m
walked image p (suc n) m = walked image p n (moved (effect_of_next (next_instr image p m) image p m) m)

abbrev pub instr_of : Option Instr → Instr
instr_of None = END
instr_of (Some i) = i

-- ## Actions

abbrev pub is_not_new : ℕ → Option ℕ → Bool
is_not_new done None = true
is_not_new done (Some t) = not (t == done + 1)

abbrev pub are_old : List Stand → ℕ → Bool
are_old [] done = true
are_old (s ∷ rows) done = is_not_new done (ticket_of s) && are_old rows done

abbrev pub may_act_at : ℕ → Machine → Bool
may_act_at p m =
    is_holder m.world.acting p && (nat_lt p (length m.stacks) && (nat_lt p (length m.descriptors) && nat_lt ((stack_of m.stacks p).at + 1) (2 ^ 32)))

abbrev pub is_acting : ℕ → Machine → Bool
is_acting p m =
    may_act_at p m && (are_old m.world.rows m.world.done && (nat_lt m.world.done (10 ^ 18) && nat_lt m.world.moment (2 * 10 ^ 18)))

abbrev pub is_offering : Machine → ℕ → Bool
is_offering m q = let d = descriptor_of m.descriptors q in nat_le d.offered (length d.communications.alternatives)

abbrev pub may_take : Machine → ℕ → Arm → ℕ → Bool
may_take m q arm z =
    nat_lt q (length m.descriptors) && (is_offering m q
    && if_some (open_to m q arm) (λ k. are_live m.stacks (ref_of (target_of k.alternative.offer)) z))

abbrev pub may_hand_over : Machine → ℕ → Ref → KeptAlternative → Bool
may_hand_over m q to k =
    nat_le (k.above + words_in k.alternative.offer) (length (descriptor_of m.descriptors q).communications.words)
    && are_live m.stacks to (words_in k.alternative.offer)

abbrev pub may_give : Machine → ℕ → Arm → Ref → Bool
may_give m q arm to = nat_lt q (length m.descriptors) && (is_offering m q && if_some (open_to m q arm) (may_hand_over m q to))

abbrev pub may_meet : Machine → ℕ → ℕ → ℕ → ℕ → Bool
may_meet m owner d z q =
    let c = (descriptor_of m.descriptors owner).communications in
    nat_lt owner (length m.descriptors) && (nat_lt (length c.callers) c.room.meetings && (nat_lt q (length m.stacks)
    && (nat_le z (length (operands_of m.stacks q)) && (are_live m.stacks (parameter_cell owner d) z && nat_lt (own_cells + d) (2 ^ 32)))))

abbrev pub may_be_called : Machine → ℕ → ℕ → ℕ → ℕ → Bool
may_be_called m q e z p =
    nat_lt q (length m.descriptors) && (is_offering m q && if_some (open_to m q (Entry e)) (λ k. may_meet m q (cell_of k.alternative.offer) z p))

abbrev pub is_in_meeting : Stand → Bool
is_in_meeting (Waits (Meeting owner) ticket arms) = true
is_in_meeting _ = false

abbrev pub is_barred_at : ℕ → Stand → Bool
is_barred_at g (Waits (Barred resource procedure) ticket arms) = resource == g
is_barred_at g _ = false

-- selects

abbrev pub may_communicate_with : Offer → KeptAlternative → ℕ → ℕ → Machine → Bool
may_communicate_with (Send c z) own p q m =
    nat_lt q (length m.descriptors) && (is_offering m q
    && if_some (open_to m q (From c)) (λ k. may_hand_over m p (ref_of (target_of k.alternative.offer)) own))
may_communicate_with (Receive c z to) own p q m = may_give m q (To c) (ref_of to)
may_communicate_with (Accept e d z) own p q m = may_meet m p d z q
may_communicate_with offer own p q m = true

abbrev pub may_offer : ℕ → Machine → Bool
may_offer p m =
    may_act_at p m && (are_old m.world.rows m.world.done && (nat_lt m.world.moment (2 * 10 ^ 18)
    && (nat_lt (length (open_arms m p)) (2 ^ 32) && nat_le (length (open_arms m p)) m.world.room)))

-- an alternative at its place, with its partner
abbrev pub may_match : ℕ → ℕ → Machine → KeptAlternative → Bool
may_match place p m own =
    if_some (partner_at m.world.rows p (slice_get (open_arms m p) place)) (λ q. may_communicate_with own.alternative.offer own p q m)

abbrev pub may_match_at : ℕ → Machine → ℕ → Bool
may_match_at p m place = if_some (slice_get (communications (open_ones m p)) place) (may_match place p m)

abbrev pub may_take_at : ℕ → ℕ → Machine → Bool
may_take_at k p m = may_offer p m && (nat_lt k (length (matched_places m p)) && if_some (slice_get (matched_places m p) k) (may_match_at p m))

abbrev pub may_decide : ℕ → ℕ → ℕ → Machine → Bool
may_decide mark choice p m =
    may_offer p m && (nat_lt (open_count m p) (2 ^ 32)
    && implies (nat_lt 0 (length (matched_places m p))) (may_take_at (place_taken mark choice) p m))

abbrev pub may_select : Instr → ℕ → ℕ → Machine → Bool
may_select (SEL mark x) choice p m = may_decide mark choice p m
may_select i choice p m = true

abbrev pub may_communicate : Instr → ℕ → ℕ → Machine → Bool
may_communicate (SEND z) choice p m =
    may_go (SEND z) p m && if_some (receiver m.world.rows (channel_under z p m)) (λ q. may_take m q (From (channel_under z p m)) z)
may_communicate (RECV z) choice p m =
    may_go (RECV z) p m
    && if_some (sender m.world.rows (channel_for z p m)) (λ q. may_give m q (To (channel_for z p m)) (ref_of (target_for z p m)))
may_communicate (ECALL e z) choice p m =
    nat_le (z + 1) (length (operands_of m.stacks p)) && (nat_lt (called_by z p m) (length m.world.rows)
    && implies (is_accepting m.world.rows (called_by z p m) e) (may_be_called (left_by m p 0) (called_by z p m) e z p))
may_communicate (ACC e d z) choice p m =
    may_go (ACC e d z) p m && if_some (caller m.world.rows p e) (λ q. may_meet (left_by m p 0) p d z q)
may_communicate EACC choice p m = if_some (last_caller p m) (λ q. is_in_meeting (at m.world.rows q))
may_communicate i choice p m = may_select i choice p m

-- semaphores, conditions and resources

abbrev pub holds : ℕ → ℕ → Machine → Bool
holds g p m = nat_lt g (length m.resources) && is_holder (holder_in m.resources g) p

abbrev pub is_acts : QuietEffect → Bool
is_acts (goes m) = false
is_acts (ends_in f) = false
is_acts acts = true

abbrev pub may_hold : PlainImage → Instr → ℕ → ℕ → Machine → Bool
may_hold image SINI choice p m = is_of Integer (operand (operands_of m.stacks p) 0) && nat_lt (object_at 1 p m) (length m.semaphores)
may_hold image SWAIT choice p m = nat_lt (object_at 0 p m) (length m.semaphores)
may_hold image SSIG choice p m = nat_lt (object_at 0 p m) (length m.semaphores)
may_hold image DELAY choice p m =
    let n = monitor_of m (object_at 1 p m) in
    is_of Integer (operand (operands_of m.stacks p) 0) && (nat_lt (object_at 1 p m) (length m.monitors.owners)
    && implies (is_inside n p m) (is_holder (holder_in m.monitors.holders n) p))
may_hold image RESUME choice p m =
    nat_lt (object_at 0 p m) (length m.monitors.owners)
    && implies (not (is_empty_condition m.world.rows (object_at 0 p m))) (is_holder (holder_in m.monitors.holders (monitor_of m (object_at 0 p m))) p)
may_hold image EMPTY choice p m = nat_le 1 (length (operands_of m.stacks p))
may_hold image (GRD g) choice p m =
    holds g p m && (is_acts (quiet_effect image.scans (GRD g) p m) && if_some (tried_by m p) (λ q. is_barred_at g (at m.world.rows q)))
may_hold image (SCAN g) choice p m = holds g p m && nat_le (length m.world.rows) (length m.stacks)
may_hold image i choice p m = may_communicate i choice p m

-- activations

abbrev pub may_call : List Block → ℕ → ℕ → Machine → Bool
may_call blocks k p m =
    nat_lt k (length blocks) && (nat_le (params_of (slice_get blocks k)) (length (operands_of m.stacks p))
    && nat_lt ((descriptor_of m.descriptors p).activations + 1) (2 ^ 32))

abbrev pub holds_marked : Mark → ℕ → Machine → Bool
holds_marked Plain p m = true
holds_marked (Monitor n) p m = nat_lt n (length m.monitors.holders) && is_holder (holder_in m.monitors.holders n) p
holds_marked (Resource g) p m = true

abbrev pub has_room : ℕ → Machine → Bool
has_room p m = nat_lt (length (operands_of m.stacks p)) (stack_of m.stacks p).room

abbrev pub is_process : Machine → ℕ → Bool
is_process m q = nat_lt q (length m.world.rows) && (nat_lt q (length m.stacks) && nat_lt q (length m.descriptors))

abbrev pub may_activate : PlainImage → Instr → ℕ → ℕ → Machine → Bool
may_activate image (CALL k l) choice p m = may_call image.blocks k p m
may_activate image (MCALL n k) choice p m = nat_lt n (length m.monitors.holders) && may_call image.blocks k p m
may_activate image (RCALL g k) choice p m = nat_lt g (length m.resources) && may_call image.blocks k p m
may_activate image RET choice p m = holds_marked (mark_in (stack_of m.stacks p)) p m
may_activate image RETF choice p m = has_room p m
may_activate image (REQ g k) choice p m =
    nat_lt k (length image.blocks) && nat_le (params_of (slice_get image.blocks k)) (length (operands_of m.stacks p))
may_activate image (NEW k) choice p m =
    nat_lt k (length image.blocks) && (nat_le (params_of (slice_get image.blocks k) + 1) (length (operands_of m.stacks p))
    && if_some (slice_get image.blocks k) (λ b. is_process m (created_by m p b)))
may_activate image i choice p m = may_hold image i choice p m

abbrev pub may_read : ℕ → Machine → Bool
may_read p m = nat_le 1 (length (operands_of m.stacks p)) && are_live m.stacks (ref_of (operand (operands_of m.stacks p) 0)) 1

abbrev pub may_live : PlainImage → Instr → ℕ → ℕ → Machine → Bool
may_live image CLOCK choice p m = has_room p m
may_live image RAND choice p m = nat_le 1 (length (operands_of m.stacks p))
may_live image RDI choice p m = may_read p m
may_live image RDC choice p m = may_read p m
may_live image EOF choice p m = has_room p m
may_live image EOLN choice p m = has_room p m
may_live image i choice p m = may_activate image i choice p m

abbrev pub may_print : PlainImage → Instr → ℕ → ℕ → Machine → Bool
may_print image (WRS s w) choice p m = nat_lt s (length image.texts)
may_print image i choice p m = may_live image i choice p m

-- ## Any action

abbrev pub may_do : PlainImage → Instr → ℕ → ℕ → Machine → Bool
may_do image i choice p m = is_acting p m && may_print image i choice p m

-- how many quiet instructions come first, behind which machine
abbrev pub quiet_of : PlainImage → ℕ → Machine → ℕ
quiet_of image p m = quiet_ahead image p (length image.code) (takes_up p m)

abbrev pub before_action : PlainImage → ℕ → Machine → Machine
before_action image p m = walked image p (quiet_of image p m) (takes_up p m)

abbrev pub action_of : PlainImage → ℕ → Machine → Instr
action_of image p m = instr_of (next_instr image p (before_action image p m))

abbrev pub may_act : PlainImage → Picking → ℕ → Machine → Bool
may_act image picking p m =
    let before = before_action image p m in
    let i = action_of image p m in
    nat_lt (length image.code) 4294967296 && (nat_lt p (length m.descriptors) && (may_walk image p (quiet_of image p m) (takes_up p m)
    && (nat_le (quiet_of image p m) (length image.code) && may_do image i (choice_among picking (choices_for i p before)) p before)))
