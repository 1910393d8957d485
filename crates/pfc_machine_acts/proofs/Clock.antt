-- No action moves the clock or counts itself.
use Rattle.std.proofs.Common.{◌≡◌, ℕ, zero, suc, ◌+◌, ◌-◌, ◌/◌, Bool, true, false, ℤ, pos, List, [], ◌∷◌, refl, ◌∙◌}
use Rattle.std.specs.Prelude.{if◌then◌else◌, ◌==◌, min, get_or, slice_get, Option, None, Some, Result, Ok, Err}
use Rattle.rand_pcg.specs.Lcg.{Lcg}
use Rattle.pfc_base.specs.declared.faults.RunFault.{RunFault}
use Rattle.pfc_base.specs.declared.faults.RunFault.TheVariants.{Stack as Full, Active, Negative, Count, NotActive, Closed}
use Rattle.pfc_code.specs.declared.images.Block.{Block}
use Rattle.pfc_code.specs.declared.instructions.Instr.{Instr}
use Rattle.pfc_code.specs.declared.instructions.Instr.TheVariants.{CALL, RET, RETF, MCALL, RCALL, GRD, SCAN, REQ, NEW, COEND, END, SINI, SWAIT, SSIG, SEND}
use Rattle.pfc_code.specs.declared.instructions.Instr.TheVariants.{RECV, ECALL, ACC, EACC, SEL, DELAY, RESUME, EMPTY, SLEEP, CLOCK, RAND, WRI, WRB, WRC, WRS}
use Rattle.pfc_code.specs.declared.instructions.Instr.TheVariants.{WRNL, RDI, RDC, RDNL, EOF, EOLN}
use Rattle.pfc_code.specs.Images.{PlainImage}
use Rattle.pfc_resource.specs.declared.scans.Barred.{Barred}
use Rattle.pfc_resource.specs.Scans.{scanned}
use Rattle.pfc_sched.specs.Draws.{drawn, after_draw}
use Rattle.pfc_stacks.specs.declared.marks.Mark.{Mark}
use Rattle.pfc_stacks.specs.declared.marks.Mark.TheVariants.{Plain, Monitor, Resource}
use Rattle.pfc_stacks.specs.Activations.{has_place, main_link, mark_in}
use Rattle.pfc_stacks.specs.Stacks.{stack_of, operand, operands_of, in_view}
use Rattle.pfc_state.specs.declared.waits.Arm.{Arm}
use Rattle.pfc_state.specs.declared.waits.Arm.TheVariants.{Send as To, Receive as From, Accept as Entry}
use Rattle.pfc_state.specs.declared.waits.Why.{Why}
use Rattle.pfc_state.specs.declared.waits.Why.TheVariants as why
use Rattle.pfc_state.specs.declared.waits.Why.TheVariants.{Coend, Semaphore, Condition, Meeting, Call}
use Rattle.pfc_state.specs.Stands.{Stand, Is_ready, Is_done, is_unfinished}
use Rattle.pfc_values.specs.declared.simple.Simple.{Simple}
use Rattle.pfc_values.specs.declared.simple.Simple.TheVariants.{Integer, Boolean, Char}
use Rattle.pfc_values.specs.Inputs.{Item, item, skipped}
use Rattle.pfc_values.specs.Numbers.{Outcome, fitting}
use Rattle.pfc_values.specs.Pieces.{piece, shown}
use Rattle.pfc_world.specs.Channels.{passed_with, sent, received}
use Rattle.pfc_world.specs.Holders.{Held, holder_in, standing, given_to}
use Rattle.pfc_world.specs.Monitors.{entered_where, delayed, resumed_with}
use Rattle.pfc_world.specs.Monitors.{entered as monitor_entered}
use Rattle.pfc_world.specs.Partners.{next_holder, next_entrant, condition_waiter, semaphore_waiter, receiver, sender, caller, partner, is_accepting}
use Rattle.pfc_world.specs.Rendezvous.{is_uncalled, called, accepted_with, accepted}
use Rattle.pfc_world.specs.Resources.{resource_entered_where, resource_entered}
use Rattle.pfc_world.specs.Selects.{communicated_with, committed_to, committed_at, committed, matched}
use Rattle.pfc_world.specs.Semaphores.{Counted, count_of, counting, is_below_zero, initialised, is_overfull, signalled_to, signalled}
use Rattle.pfc_world.specs.Tables.{Table, at, some_created}
use Rattle.pfc_world.specs.Transitions.{rested, placed, blocked, is_released, released, all_started}
use Rattle.pfc_machines.specs.declared.alternatives.KeptAlternative.{KeptAlternative}
use Rattle.pfc_machines.specs.declared.alternatives.Offer.{Offer}
use Rattle.pfc_machines.specs.declared.alternatives.Offer.TheVariants.{Send, Receive, Accept, Timeout, Terminate}
use Rattle.pfc_machines.specs.declared.alternatives.Sought.TheVariants.{Delay}
use Rattle.pfc_machines.specs.declared.descriptors.Scan.{Scan}
use Rattle.pfc_machines.specs.declared.machine.Machine.{Machine}
use Rattle.pfc_machines.specs.Actions.{at_rest, Effect, PrintedEffect}
use Rattle.pfc_machines.specs.Descriptors.{descriptor_of}
use Rattle.pfc_machines.specs.Offers.{last_made, first_sought, communications}
use Rattle.pfc_machines.specs.Partners.{open_to}
use Rattle.pfc_machines.specs.Quiet.{left_by, receiving}
use Rattle.pfc_own_actions.specs.Creating.{created_by, creation, creates}
use Rattle.pfc_own_actions.specs.Doing.{read_to, skipped_to, drawn_to, clocked_to, slept_to, due_after, due_behind, joined}
use Rattle.pfc_own_actions.specs.Writing.{width_of, written_to, writes_value, writes_text, line_end}
use Rattle.pfc_object_actions.specs.Conditions.{monitors_held, with_monitors, monitor_of, is_inside}
use Rattle.pfc_object_actions.specs.Objects.{object_at}
use Rattle.pfc_object_actions.specs.Semaphores.{semaphores_counted, with_semaphores}
use Rattle.pfc_call_actions.specs.Calls.{activated, unless_full, has_place_above, calls, calls_monitor, calls_resource, resources_held, with_resources}
use Rattle.pfc_call_actions.specs.Requeues.{in_place, requeues}
use Rattle.pfc_call_actions.specs.Returns.{scans_from, returned_by}
use Rattle.pfc_resource_actions.specs.Guards.{bars, passes_where, guarded_by, guarded_in}
use Rattle.pfc_resource_actions.specs.Scans.{scan_ended, over, scanned_to, turned}
use Rattle.pfc_message_actions.specs.Messages.{next_of, channel_under, channel_for, sent_into, sent_to, received_out, received_from}
use Rattle.pfc_meeting_actions.specs.Meetings.{called_by, called_into, accepted_from, last_caller, parted_from}
use Rattle.pfc_select_actions.specs.Selects.{open_count, open_ones, open_arms, matched_places, place_taken, sent_from, received_by, communicates_by}
use Rattle.pfc_select_actions.specs.Selects.{communicates, partner_at, takes_at, waits_at, times_out, seconds_of, waits_or_closed, goes_otherwise, decides_by}
use Rattle.pfc_machine_acts.specs.Acting.{clock, KeepsClock}
use Rattle.pfc_stacks.specs.Effects as stacked
use Rattle.pfc_machine_acts.specs.Performing.{acts_by, does_alone, with_block, selects_by, meets_by, holds_by, calls_by, lives_by, silent, performs}

abbrev pub Keeps : Table → Effect → Type 0
Keeps w (Ok m) = clock m.world ≡ clock w
Keeps w (Err f) = Unit {0}

if_so : {A : Type 0} (f : A → Table) (w : Table) (b : Bool) (x y : A) → clock (f x) ≡ clock w → clock (f y) ≡ clock w → clock (f (if b then x else y)) ≡ clock w
if_so f w true x y hx hy = hx
if_so f w false x y hx hy = hy

keeps_if : (w : Table) (b : Bool) (x y : Effect) → Keeps w x → Keeps w y → Keeps w (if b then x else y)
keeps_if w true x y hx hy = hx
keeps_if w false x y hx hy = hy

of_holders : (w : Table) (o : Option ℕ) (h : Held) (m : ℕ) → clock h.table ≡ clock w → clock (given_to o h m).table ≡ clock w
of_holders w None h m e = e
of_holders w (Some q) h m e = e

-- ## The ends of processes, time, input and draws

joined_keeps : (w : Table) (p : ℕ) → clock (joined w p) ≡ clock w
joined_keeps w p = if_so (λ (v : Table). v) w (some_created w.rows) (blocked (all_started w) p Coend []) (rested w) refl refl

released_keeps : (w : Table) → clock (released w) ≡ clock w
released_keeps w = if_so (λ (v : Table). v) w (is_released w.rows) (placed w 0 Is_ready) w refl refl

slept_keeps : (m : Machine) (p : ℕ) (due : Result (Option ℕ) RunFault) → Keeps m.world (slept_to m p due)
slept_keeps m p (Ok None) = refl
slept_keeps m p (Ok (Some due)) = refl
slept_keeps m p (Err f) = tt

clocked_keeps : (m : Machine) (p : ℕ) (seconds : Outcome) → Keeps m.world (clocked_to m p seconds)
clocked_keeps m p (Ok n) = refl
clocked_keeps m p (Err f) = tt

drawn_keeps : (m : Machine) (p : ℕ) (words : Lcg) (n : Result ℤ RunFault) → Keeps m.world (drawn_to m p words n)
drawn_keeps m p words (Ok n) = refl
drawn_keeps m p words (Err f) = tt

read_keeps : (m : Machine) (p : ℕ) (i : Result Item RunFault) → Keeps m.world (read_to m p i)
read_keeps m p (Ok i) = refl
read_keeps m p (Err f) = tt

skipped_keeps : (m : Machine) (p : ℕ) (left : Result (List ℕ) RunFault) → Keeps m.world (skipped_to m p left)
skipped_keeps m p (Ok left) = refl
skipped_keeps m p (Err f) = tt

-- ## Activations

unless_full_keeps : (w : Table) (placed : Bool) (next : Machine) → clock next.world ≡ clock w → Keeps w (unless_full placed next)
unless_full_keeps w placed next e = keeps_if w placed (Ok (at_rest next)) (Err Full) e tt

block_keeps : (o : Option Block) (m : Machine) (does : Block → Effect) → ((b : Block) → Keeps m.world (does b)) → Keeps m.world (with_block o m does)
block_keeps None m does each = refl
block_keeps (Some b) m does each = each b

monitor_keeps : (w : Table) (o : Option ℕ) (h : Held) (p n : ℕ) → clock h.table ≡ clock w → clock (entered_where o h p n).table ≡ clock w
monitor_keeps w None h p n e = e
monitor_keeps w (Some q) h p n e = e

resource_keeps : (w : Table) (o : Option ℕ) (h : Held) (p g : ℕ) → clock h.table ≡ clock w → clock (resource_entered_where o h p g).table ≡ clock w
resource_keeps w None h p g e = e
resource_keeps w (Some q) h p g e = e

returned_keeps : (mark : Mark) (scans : List ℕ) (p : ℕ) (m : Machine) → clock (returned_by mark scans p m).world ≡ clock m.world
returned_keeps Plain scans p m = refl
returned_keeps (Monitor n) scans p m = of_holders m.world (next_holder m.world.rows n) (monitors_held m) n refl
returned_keeps (Resource g) scans p m = refl

calls_keep : (image : PlainImage) (i : Instr) (choice p : ℕ) (m : Machine) → Keeps m.world (holds_by image i choice p m) →
    Keeps m.world (calls_by image i choice p m)
calls_keep image (CALL k l) choice p m h =
    block_keeps (slice_get image.blocks k) m (λ b. calls k b l p m)
    (λ b. unless_full_keeps m.world (has_place_above b p m) (activated k b (in_view m.stacks p l) Plain p m) refl)
calls_keep image (MCALL n k) choice p m h =
    block_keeps (slice_get image.blocks k) m (λ b. calls_monitor n k b p m) (λ b.
    let inside : Machine = activated k b main_link (Monitor n) p m in
    unless_full_keeps m.world (has_place_above b p m) (with_monitors inside (monitor_entered (monitors_held inside) p n))
    (monitor_keeps m.world (holder_in m.monitors.holders n) (monitors_held inside) p n refl))
calls_keep image (RCALL g k) choice p m h =
    block_keeps (slice_get image.blocks k) m (λ b. calls_resource g k b p m) (λ b.
    let inside : Machine = activated k b main_link (Resource g) p m in
    unless_full_keeps m.world (has_place_above b p m) (with_resources inside (resource_entered (resources_held inside) p g))
    (resource_keeps m.world (holder_in m.resources g) (resources_held inside) p g refl))
calls_keep image RET choice p m h = returned_keeps (mark_in (stack_of m.stacks p)) image.scans p m
calls_keep image RETF choice p m h = refl
calls_keep image (REQ g k) choice p m h =
    block_keeps (slice_get image.blocks k) m (λ b. requeues (get_or image.scans g 0) k b p m)
    (λ b. unless_full_keeps m.world (has_place p (stack_of m.stacks p).base b) (scans_from (get_or image.scans g 0) true p (in_place k b p m)) refl)
calls_keep image (NEW k) choice p m h =
    block_keeps (slice_get image.blocks k) m (λ b. creates k b p m) (λ b.
    let q : ℕ = created_by m p b in
    keeps_if m.world (is_unfinished (at m.world.rows q)) (Err Active) (if has_place q 0 b then Ok (at_rest (creation k b p q m)) else Err Full) tt
    (keeps_if m.world (has_place q 0 b) (Ok (at_rest (creation k b p q m))) (Err Full) refl tt))
calls_keep image i choice p m h = h

lives_keep : (image : PlainImage) (i : Instr) (choice p : ℕ) (m : Machine) → Keeps m.world (calls_by image i choice p m) →
    Keeps m.world (lives_by image i choice p m)
lives_keep image COEND choice p m h = joined_keeps m.world p
lives_keep image END choice p m h = released_keeps (rested (placed m.world p Is_done))
lives_keep image SLEEP choice p m h = slept_keeps m p (due_behind m.world.moment (operand (operands_of m.stacks p) 0))
lives_keep image CLOCK choice p m h = clocked_keeps m p (fitting (pos (m.world.moment / 1000)))
lives_keep image RAND choice p m h =
    let n : ℤ = operand (operands_of m.stacks p) 0 in drawn_keeps m p (after_draw m.draws n) (drawn m.draws n)
lives_keep image RDI choice p m h = read_keeps m p (item Integer m.input.bytes)
lives_keep image RDC choice p m h = read_keeps m p (item Char m.input.bytes)
lives_keep image RDNL choice p m h = skipped_keeps m p (skipped m.input.whole_lines m.input.bytes)
lives_keep image EOF choice p m h = refl
lives_keep image EOLN choice p m h = refl
lives_keep image i choice p m h = h

-- ## Objects

signalled_keeps : (w : Table) (o : Option ℕ) (c : Counted) (s : ℕ) → clock c.table ≡ clock w → clock (signalled_to o c s).table ≡ clock w
signalled_keeps w None c s e = e
signalled_keeps w (Some q) c s e = e

resumed_keeps : (w : Table) (o : Option ℕ) (h : Held) (p n : ℕ) → clock h.table ≡ clock w → clock (resumed_with o h p n).table ≡ clock w
resumed_keeps w None h p n e = e
resumed_keeps w (Some q) h p n e = e

bars_keep : (g p : ℕ) (m : Machine) → clock (bars g p m).world ≡ clock m.world
bars_keep g p m = of_holders m.world (next_entrant m.world.rows g) (resources_held m) g refl

passes_keep : (requeued : Bool) (blocks : List Block) (s : Scan) (q g p : ℕ) (m : Machine) →
    clock (passes_where requeued blocks s q g p m).world ≡ clock m.world
passes_keep false blocks s q g p m = refl
passes_keep true blocks s q g p m = refl

guarded_keeps : (blocks : List Block) (s : Scan) (tried : Option ℕ) (g p : ℕ) (m : Machine) → clock (guarded_by blocks s tried g p m).world ≡ clock m.world
guarded_keeps blocks s None g p m = bars_keep g p m
guarded_keeps blocks s (Some q) g p m = passes_keep s.requeued blocks s q g p m

guards_keep : (blocks : List Block) (scan : Option Scan) (g p : ℕ) (m : Machine) → clock (guarded_in blocks scan g p m).world ≡ clock m.world
guards_keep blocks None g p m = bars_keep g p m
guards_keep blocks (Some s) g p m = guarded_keeps blocks s s.tried g p m

over_keeps : (requeued : Bool) (g : ℕ) (m : Machine) → clock (over requeued g m).world ≡ clock m.world
over_keeps true g m = refl
over_keeps false g m = of_holders m.world (next_entrant m.world.rows g) (resources_held m) g refl

scanned_keeps : (blocks : List Block) (s : Scan) (o : Option Barred) (g p : ℕ) (m : Machine) → clock (scanned_to blocks s o g p m).world ≡ clock m.world
scanned_keeps blocks s None g p m = over_keeps s.requeued g (scan_ended s.back p m)
scanned_keeps blocks s (Some b) g p m = refl

turned_keeps : (blocks : List Block) (scan : Option Scan) (g p : ℕ) (m : Machine) → clock (turned blocks scan g p m).world ≡ clock m.world
turned_keeps blocks None g p m = refl
turned_keeps blocks (Some s) g p m = scanned_keeps blocks s (scanned m.world.rows g s.after) g p m

holds_keep : (image : PlainImage) (i : Instr) (choice p : ℕ) (m : Machine) → Keeps m.world (meets_by i choice p m) → Keeps m.world (holds_by image i choice p m)
holds_keep image SINI choice p m h =
    let n : ℤ = operand (operands_of m.stacks p) 0 in
    keeps_if m.world (is_below_zero n) (Err Negative)
    (Ok (at_rest (record (left_by m p 2) { semaphores = initialised m.semaphores (object_at 1 p m) n }))) tt refl
holds_keep image SWAIT choice p m h =
    let c : Counted = semaphores_counted m in
    let s : ℕ = object_at 0 p m in
    if_so (λ (x : Counted). x.table) m.world (count_of c s == 0) (record { table = blocked c.table p (Semaphore s) []; counts = c.counts })
    (counting c s (count_of c s - 1)) refl refl
holds_keep image SSIG choice p m h =
    let c : Counted = semaphores_counted m in
    let s : ℕ = object_at 0 p m in
    keeps_if m.world (is_overfull c s) (Err Count) (Ok (at_rest (with_semaphores (left_by m p 1) (signalled c s)))) tt
    (signalled_keeps m.world (semaphore_waiter m.world.rows s) c s refl)
holds_keep image DELAY choice p m h =
    let c : ℕ = object_at 1 p m in
    let n : ℕ = monitor_of m c in
    let rank : ℤ = operand (operands_of m.stacks p) 0 in
    let held : Held = monitors_held m in
    if_so (λ (x : Held). x.table) m.world (is_inside n p m) (delayed held p n c rank) (standing held (blocked held.table p (Condition c rank) []))
    (of_holders m.world (next_holder m.world.rows n) held n refl) refl
holds_keep image RESUME choice p m h =
    let c : ℕ = object_at 0 p m in resumed_keeps m.world (condition_waiter m.world.rows c) (monitors_held m) p (monitor_of m c) refl
holds_keep image EMPTY choice p m h = refl
holds_keep image (GRD g) choice p m h = guards_keep image.blocks (descriptor_of m.descriptors p).scan g p m
holds_keep image (SCAN g) choice p m h = turned_keeps image.blocks (descriptor_of m.descriptors p).scan g p m
holds_keep image i choice p m h = h

-- ## Other processes

passed_keeps : (w : Table) (o : Option ℕ) (p : ℕ) (why : Why) → clock (passed_with o w p why) ≡ clock w
passed_keeps w None p why = refl
passed_keeps w (Some q) p why = refl

into_keeps : (k : Option KeptAlternative) (z p q : ℕ) (m : Machine) → clock (sent_into k z p q m).world ≡ clock m.world
into_keeps None z p q m = refl
into_keeps (Some k) z p q m = refl

sent_keeps : (o : Option ℕ) (c z p : ℕ) (m : Machine) → clock (sent_to o c z p m).world ≡ clock m.world
sent_keeps None c z p m = refl
sent_keeps (Some q) c z p m = into_keeps (open_to m q (From c)) z p q m

out_keeps : (k : Option KeptAlternative) (z p q : ℕ) (m : Machine) → clock (received_out k z p q m).world ≡ clock m.world
out_keeps None z p q m = refl
out_keeps (Some k) z p q m = refl

receiving_keeps : (z branch p : ℕ) (m : Machine) → clock (receiving z branch p m).world ≡ clock m.world
receiving_keeps zero branch p m = refl
receiving_keeps (suc z) branch p m = refl

received_keeps : (o : Option ℕ) (c z p : ℕ) (m : Machine) → clock (received_from o c z p m).world ≡ clock m.world
received_keeps None c z p m = receiving_keeps z (next_of m p) p m
received_keeps (Some q) c z p m = out_keeps (open_to m q (To c)) z p q m

called_into_keeps : (k : Option KeptAlternative) (z p q : ℕ) (m : Machine) → clock (called_into k z p q m).world ≡ clock m.world
called_into_keeps None z p q m = refl
called_into_keeps (Some k) z p q m = refl

called_keeps : (w : Table) (p q e : ℕ) → clock (called w p q e) ≡ clock w
called_keeps w p q e =
    if_so (λ (v : Table). v) w (is_accepting w.rows q e) (blocked (placed w q Is_ready) p (Meeting q) []) (blocked w p (Call q e) []) refl refl

accepted_keeps : (w : Table) (o : Option ℕ) (p e : ℕ) → clock (accepted_with o w p e) ≡ clock w
accepted_keeps w None p e = refl
accepted_keeps w (Some q) p e = refl

accepted_from_keeps : (o : Option ℕ) (e d z p : ℕ) (m : Machine) → clock (accepted_from o e d z p m).world ≡ clock m.world
accepted_from_keeps None e d z p m = refl
accepted_from_keeps (Some q) e d z p m = refl

parted_keeps : (o : Option ℕ) (p : ℕ) (m : Machine) → clock (parted_from o p m).world ≡ clock m.world
parted_keeps None p m = refl
parted_keeps (Some q) p m = refl

-- ## Selects

communicated_keeps : (w : Table) (o : Option ℕ) (p : ℕ) (arm : Arm) → clock (communicated_with o w p arm) ≡ clock w
communicated_keeps w None p arm = refl
communicated_keeps w (Some q) p (To c) = refl
communicated_keeps w (Some q) p (From c) = refl
communicated_keeps w (Some q) p (Entry e) = refl

committed_to_keeps : (w : Table) (o : Option Arm) (p : ℕ) → clock (committed_to o w p) ≡ clock w
committed_to_keeps w None p = refl
committed_to_keeps w (Some arm) p = communicated_keeps w (partner w.rows p arm) p arm

committed_keeps : (w : Table) (o : Option ℕ) (p : ℕ) (arms : List Arm) → clock (committed_at o w p arms) ≡ clock w
committed_keeps w None p arms = refl
committed_keeps w (Some place) p arms = committed_to_keeps w (slice_get arms place) p

sent_from_keeps : (k : Option KeptAlternative) (own : KeptAlternative) (n p q : ℕ) (m : Machine) → clock (sent_from k own n p q m).world ≡ clock m.world
sent_from_keeps None own n p q m = refl
sent_from_keeps (Some k) own n p q m = refl

received_by_keeps : (k : Option KeptAlternative) (to : ℤ) (own : KeptAlternative) (n p q : ℕ) (m : Machine) →
    clock (received_by k to own n p q m).world ≡ clock m.world
received_by_keeps None to own n p q m = refl
received_by_keeps (Some k) to own n p q m = refl

offer_keeps : (offer : Offer) (own : KeptAlternative) (n p q : ℕ) (m : Machine) → clock (communicates_by offer own n p q m).world ≡ clock m.world
offer_keeps (Send c z) own n p q m = sent_from_keeps (open_to m q (From c)) own n p q m
offer_keeps (Receive c z to) own n p q m = received_by_keeps (open_to m q (To c)) to own n p q m
offer_keeps (Accept e d z) own n p q m = refl
offer_keeps (Timeout n) own k p q m = refl
offer_keeps Terminate own n p q m = refl

communicates_keep : (own : Option KeptAlternative) (q : Option ℕ) (n p : ℕ) (m : Machine) → clock (communicates own q n p m).world ≡ clock m.world
communicates_keep None None n p m = refl
communicates_keep None (Some q) n p m = refl
communicates_keep (Some own) None n p m = refl
communicates_keep (Some own) (Some q) n p m = offer_keeps own.alternative.offer own n p q m

takes_keep : (o : Option ℕ) (rows : List Stand) (arms : List Arm) (n p : ℕ) (m : Machine) → clock (takes_at o rows arms n p m).world ≡ clock m.world
takes_keep None rows arms n p m = refl
takes_keep (Some place) rows arms n p m =
    communicates_keep (slice_get (communications (last_made n (descriptor_of m.descriptors p).communications)) place)
    (partner_at rows p (slice_get arms place)) n p m

times_out_keeps : (due : Result (Option ℕ) RunFault) (branch p : ℕ) (m : Machine) → Keeps m.world (times_out due branch p m)
times_out_keeps (Ok None) branch p m = refl
times_out_keeps (Ok (Some due)) branch p m = refl
times_out_keeps (Err f) branch p m = tt

closed_keeps : (k : Option KeptAlternative) (p : ℕ) (m : Machine) → Keeps m.world (waits_or_closed k p m)
closed_keeps (Some k) p m = times_out_keeps (due_after m.world.moment (seconds_of k.alternative.offer)) k.alternative.branch p m
closed_keeps None p m = keeps_if m.world (open_count m p == 0) (Err Closed) (Ok (waits_at None ((stack_of m.stacks p).at + 1) p m)) tt refl

otherwise_keeps : (x p : ℕ) (m : Machine) → Keeps m.world (goes_otherwise x p m)
otherwise_keeps zero p m = closed_keeps (first_sought Delay (open_ones m p)) p m
otherwise_keeps (suc x) p m = refl

decides_keep : (places : List ℕ) (mark x choice p : ℕ) (m : Machine) → Keeps m.world (decides_by places mark x choice p m)
decides_keep [] mark x choice p m = otherwise_keeps x p m
decides_keep (place ∷ places) mark x choice p m =
    let k : ℕ = place_taken mark choice in
    let arms : List Arm = open_arms m p in
    let after : Machine = record m { world = rested (committed m.world p arms k) } in
    takes_keep (slice_get (matched_places m p) k) m.world.rows arms (open_count m p) p after
    ∙ committed_keeps m.world (slice_get (matched m.world.rows p arms) k) p arms

selects_keep : (i : Instr) (choice p : ℕ) (m : Machine) → Keeps m.world (selects_by i choice p m)
selects_keep (SEL mark x) choice p m = decides_keep (matched_places m p) mark x choice p m
selects_keep i choice p m = refl

meets_keep : (i : Instr) (choice p : ℕ) (m : Machine) → Keeps m.world (selects_by i choice p m) → Keeps m.world (meets_by i choice p m)
meets_keep (SEND z) choice p m h =
    let c : ℕ = channel_under z p m in
    let after : Machine = record m { world = rested (sent m.world p c) } in
    sent_keeps (receiver m.world.rows c) c z p after ∙ passed_keeps m.world (receiver m.world.rows c) p (why.Send c)
meets_keep (RECV z) choice p m h =
    let c : ℕ = channel_for z p m in
    let after : Machine = record m { world = rested (received m.world p c) } in
    received_keeps (sender m.world.rows c) c z p after ∙ passed_keeps m.world (sender m.world.rows c) p (why.Receive c)
meets_keep (ECALL e z) choice p m h =
    let q : ℕ = called_by z p m in
    let waiting : Machine = record (left_by m p 0) { world = called m.world p q e } in
    let met : Effect = Ok (called_into (open_to m q (Entry e)) z p q waiting) in
    keeps_if m.world (is_uncalled m.world q) (Err NotActive) (if is_accepting m.world.rows q e then met else Ok waiting) tt
    (keeps_if m.world (is_accepting m.world.rows q e) met (Ok waiting)
    (called_into_keeps (open_to m q (Entry e)) z p q waiting ∙ called_keeps m.world p q e) (called_keeps m.world p q e))
meets_keep (ACC e d z) choice p m h =
    let after : Machine = record m { world = rested (accepted m.world p e) } in
    accepted_from_keeps (caller m.world.rows p e) e d z p after ∙ accepted_keeps m.world (caller m.world.rows p e) p e
meets_keep EACC choice p m h = parted_keeps (last_caller p m) p (at_rest (left_by m p 0))
meets_keep i choice p m h = h

-- ## Any action

silent_keeps : (w : Table) (e : Effect) → Keeps w e → KeepsClock w (silent e)
silent_keeps w (Ok m) h = h
silent_keeps w (Err f) h = tt

written_keeps : (m : Machine) (p n : ℕ) (bytes : Result (List ℕ) RunFault) → KeepsClock m.world (written_to m p n bytes)
written_keeps m p n (Ok bytes) = refl
written_keeps m p n (Err f) = tt

value_keeps : (t : Simple) (w p : ℕ) (m : Machine) → KeepsClock m.world (writes_value t w p m)
value_keeps t w p m =
    let ops : List ℤ = operands_of m.stacks p in
    written_keeps m p (1 + min w 1) (piece (width_of w ops) (shown t (operand ops (min w 1))))

text_keeps : (text : List ℕ) (w p : ℕ) (m : Machine) → KeepsClock m.world (writes_text text w p m)
text_keeps text w p m = written_keeps m p (min w 1) (piece (width_of w (operands_of m.stacks p)) text)

pub performs_keep : (image : PlainImage) (i : Instr) (choice p : ℕ) (m : Machine) → KeepsClock m.world (performs image i choice p m)
performs_keep image (WRI w) choice p m = value_keeps Integer w p m
performs_keep image (WRB w) choice p m = value_keeps Boolean w p m
performs_keep image (WRC w) choice p m = value_keeps Char w p m
performs_keep image (WRS s w) choice p m = text_keeps (get_or image.texts s []) w p m
performs_keep image WRNL choice p m = text_keeps line_end 0 p m
performs_keep image i choice p m =
    silent_keeps m.world (lives_by image i choice p m)
    (lives_keep image i choice p m (calls_keep image i choice p m (holds_keep image i choice p m (meets_keep i choice p m (selects_keep i choice p m)))))

alone_keeps : (e : stacked.Effect) (outward : PrintedEffect) (m : Machine) → KeepsClock m.world outward → KeepsClock m.world (does_alone e outward m)
alone_keeps (stacked.goes stacks) outward m h = refl
alone_keeps (stacked.acts stacks) outward m h = refl
alone_keeps (stacked.ends_in f) outward m h = tt
alone_keeps stacked.outward outward m h = h

pub acts_keep : (image : PlainImage) (i : Instr) (choice p : ℕ) (m : Machine) → KeepsClock m.world (acts_by image i choice p m)
acts_keep image (CALL k l) choice p m = performs_keep image (CALL k l) choice p m
acts_keep image RET choice p m = performs_keep image RET choice p m
acts_keep image RETF choice p m = performs_keep image RETF choice p m
acts_keep image i choice p m = alone_keeps (stacked.effect image.blocks i p m.stacks) (performs image i choice p m) m (performs_keep image i choice p m)
