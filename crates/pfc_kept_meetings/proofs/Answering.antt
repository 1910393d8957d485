-- A call of an entry that its owner waits to accept: all processes.
use Rattle.std.proofs.Common.{◌≡◌, ◌≢◌, ℕ, ◌+◌, ◌<◌, ◌≤◌, ℤ, pos, true, List, [], length, set, get_or, slice_get, Some, None, refl, sym, ap, ◌∙◌, subst, arith}
use Rattle.std.proofs.Common.{◌⊎◌, inl, inr}
use Rattle.std.proofs.lemmas.List.{get_or-set_same, get_or-set_other, length-set}
use Rattle.pfc_types.specs.declared.types.TypeId.{TypeId}
use Rattle.pfc_types.specs.declared.scope.Meaning.TheVariants.{Variable}
use Rattle.pfc_state.specs.Stands.{Is_ready, Waits, is_unfinished, ticket_of, due_of}
use Rattle.pfc_state.specs.declared.waits.Why.TheVariants.{Meeting, Barred}
use Rattle.pfc_world.specs.Partners.{ticket_open_to}
use Rattle.pfc_world.specs.Tables.{Table, at}
use Rattle.pfc_world.specs.Transitions.{ticked, placed}
use Rattle.pfc_semantics.specs.Values.{Value, Location, ordinal, points}
use Rattle.pfc_semantics.specs.Programs.{Program}
use Rattle.pfc_semantics.specs.Store.{Store}
use Rattle.pfc_semantics.specs.Configurations.{Activity, Config, activity_of, nobody, at_work}
use Rattle.pfc_stacks.specs.Stacks.{Stacks}
use Rattle.pfc_cells.specs.Memory.{AreCells}
use Rattle.pfc_machines.specs.declared.machine.Machine.{Machine}
use Rattle.pfc_machines.specs.declared.descriptors.Descriptor.{Descriptor}
use Rattle.pfc_machines.specs.Descriptors.{descriptor_of, descriptor_by, meeting, withdrawn}
use Rattle.pfc_standing_code.specs.Settings.{of_own}
use Rattle.pfc_representation.specs.Levels.{Facts, program_in, LivingLevel, DoesOn}
use Rattle.pfc_representation.specs.Hands.{laid_parameters, entry_formals, AreKept}
use Rattle.pfc_representation.specs.Holding.{Holders, holders_in, is_quiet, waits_at_coend}
use Rattle.pfc_representation.specs.Keeping.{IsUntouched}
use Rattle.pfc_representation.specs.Processes.{RepresentsProcess}
use Rattle.pfc_representation.specs.Acting.{IsActing}
use Rattle.pfc_kept_meetings.specs.Owners.{HasTypedEntries}
use Rattle.pfc_kept_meetings.specs.Accepts.{HasProcesses, KeepsAccepts}
use Rattle.pfc_semantics.specs.Rewriting.{Doing}
use Rattle.pfc_machines.specs.Communications.{Communicating}
use Rattle.pfc_representation.specs.Callers.{IsWithin}
use Rattle.pfc_representation.proofs.Kept.{process_still}
use Rattle.pfc_kept_messages.proofs.Others.{IsBarredStand, lender_waits}
use Rattle.pfc_kept_messages.proofs.Whole.{IsNewStand, IsBehind}
use Rattle.pfc_kept_meetings.proofs.Tried.{tried_barred}
use Rattle.std.specs.Prelude.{is_some}
use Rattle.pfc_state.specs.declared.waits.Arm.TheVariants.{Accept as Entered}
use Rattle.pfc_kept_messages.proofs.Partner.{open_awake, open_no_coend, open_unbarred}
use Rattle.pfc_kept_meetings.specs.Waiting.{KeepsOffers}
use Rattle.pfc_kept_meetings.proofs.Giving as giving
use Rattle.pfc_kept_meetings.proofs.Waiting as waiting
use Rattle.pfc_kept_meetings.proofs.Granted as granted
use Rattle.pfc_kept_meetings.proofs.Granting as granting

module _ (facts : Facts) (m : Machine) (c : Config) (p : ℕ) (level : LivingLevel) (acting : IsActing facts m c p level) (own : level.setting.trial ≡ of_own)
    (q entry : ℕ) (ticket : is_some (ticket_open_to (Entered entry) (at c.table.rows q)) ≡ true)
    (processes : HasProcesses facts.tree) (typed : HasTypedEntries facts.tree) (runs : KeepsAccepts facts c) (offers : KeepsOffers facts c)
    (values : List Value) (words : List ℤ)
    (hold : AreCells (program_in facts) acting.homes (laid_parameters (entry_formals (program_in facts) q (waiting.a facts m c p level acting own q entry
    ticket processes typed runs offers).entry)) values words)
    (given : (k : ℕ) (t : TypeId) → slice_get (laid_parameters (entry_formals (program_in facts) q (waiting.a facts m c p level acting own q entry ticket
    processes typed runs offers).entry)) k ≡ Some (Variable t true)
    → (l : Location) × (get_or values k (ordinal (pos 0)) ≡ points l))
    (kept : AreKept c.table acting.entries p (descriptor_of m.descriptors p).communications.callers values)
    (to : ℕ) (ops below : List ℤ) (doing_p : Doing) (does_p : DoesOn level to below doing_p)
    (within_p : IsWithin facts level to (descriptor_of m.descriptors p).communications) (line : ℕ) where
  abbrev pub g : Program
  g = program_in facts

  abbrev h : Holders
  h = holders_in facts c

  abbrev ap0 : Activity
  ap0 = activity_of g c p

  abbrev dq : Descriptor
  dq = descriptor_of m.descriptors q

  abbrev stacks' : Stacks
  stacks' = granted.stacks' facts m c p level acting own q entry ticket processes typed runs offers values words hold given kept to ops below doing_p does_p
      within_p line

  abbrev table : Table
  table = granted.table facts m c p level acting own q entry ticket processes typed runs offers values words hold given kept to ops below doing_p does_p
      within_p line

  abbrev table' : Table
  table' = ticked table

  abbrev new_store : Store
  new_store = granted.new_store facts m c p level acting own q entry ticket processes typed runs offers values words hold given kept to ops below doing_p
      does_p within_p line

  abbrev doing_q : Doing
  doing_q = granting.doing_q facts m c p level acting own q entry ticket processes typed runs offers values words hold given kept to ops below doing_p does_p
      within_p line

  off : q ≢ p
  off = granted.off facts m c p level acting own q entry ticket processes typed runs offers values words hold given kept to ops below doing_p does_p within_p
      line

  inside : q < length c.activities
  inside = waiting.inside facts m c p level acting own q entry ticket processes typed runs offers

  abbrev d' : Descriptor
  d' = granting.d' facts m c p level acting own q entry ticket processes typed runs offers values words hold given kept to ops below doing_p does_p within_p
      line

  -- ## The others

  barred_apart : (r : ℕ) → IsBarredStand (at c.table.rows r) → (r ≢ p) × (r ≢ q)
  barred_apart r barred = (
    λ is.
        (let no : Waits (Barred barred.resource barred.procedure) barred.ticket [] ≡ Is_ready =
        sym barred.is ∙ ap (λ n. at c.table.rows n) is ∙ acting.actor.ready in cc),
    λ is. open_unbarred (at c.table.rows q) (granted.waits_q facts m c p level acting own q entry ticket processes typed runs offers values words hold given
        kept to ops below doing_p does_p within_p line) (subst (λ n. IsBarredStand (at c.table.rows n)) is barred),
  )

  untouched : (r : ℕ) → r ≢ p → r ≢ q
      → IsUntouched facts r acting.homes acting.homes acting.entries acting.entries c.store new_store m.stacks stacks' c.table table'
  untouched r away other =
      record {
        like = λ keeps these. granted.like_of facts m c p level acting own q entry ticket processes typed runs offers values words hold given kept to ops below
            doing_p does_p within_p line r other keeps these;
        lenders = λ s lender. (let waits = lender_waits c.table r s lender in (
          granted.stay facts m c p level acting own q entry ticket processes typed runs
              offers values words hold given kept to ops below doing_p does_p within_p line s waits.0 waits.1,
          refl,
        ));
        stack = granted.stack_other facts m c p level acting own q entry ticket processes typed runs offers values words hold given kept to ops below doing_p
            does_p within_p line r away other;
        entries_same = refl;
        row = granted.row_other facts m c p level acting own q entry ticket processes typed runs offers values words hold given kept to ops below doing_p
            does_p within_p line r away other;
      }

  other_kept : (r : ℕ) → r ≢ p → r ≢ q → r < length c.activities
      → RepresentsProcess facts acting.homes acting.entries new_store stacks' table' h r (activity_of g c r) (descriptor_of m.descriptors r)
  other_kept r away other inside_r =
      let old = acting.others r inside_r away in
      process_still facts r (descriptor_of m.descriptors r) acting.homes acting.homes acting.entries acting.entries c.store new_store m.stacks stacks' c.table
      table' h h
      (record {
        at_home = λ n home at. at;
        untouched = untouched r away other;
        tried = λ s whom.
            let far = barred_apart s
            (tried_barred facts acting.homes acting.entries c.store m.stacks c.table h r s (descriptor_of m.descriptors r) whom (activity_of g c r) old) in
            untouched s far.0 far.1;
        holds = record { owners = refl; monitors = λ n held. held; resources = λ n held. held };
      })
      (activity_of g c r) old

  -- ## Lists

  abbrev working : Activity
  working = at_work ap0 doing_p

  abbrev pub once : List Activity
  once = set c.activities p working

  abbrev behind_it : Activity
  behind_it = at_work (get_or once q (nobody g)) doing_q

  abbrev pub activities : List Activity
  activities = set once q behind_it

  abbrev first_changed : List Descriptor
  first_changed = set m.descriptors q (meeting p dq)

  abbrev pub descriptors : List Descriptor
  descriptors = set first_changed q (withdrawn (descriptor_of first_changed q))

  once_size : length once ≡ length c.activities
  once_size = length-set c.activities p working

  pub once_other : get_or once q (nobody g) ≡ activity_of g c q
  once_other = get_or-set_other c.activities p q working (nobody g) off

  activity_here : record (get_or activities p (nobody g)) { line = line } ≡ granted.a1 facts m c p level acting own q entry ticket processes typed runs offers
      values words hold given kept to ops below doing_p does_p within_p line
  activity_here =
      ap (λ (y : Activity). record y { line = line })
      (get_or-set_other once q p behind_it (nobody g) (λ is. off (sym is)) ∙ get_or-set_same c.activities p working (nobody g) acting.actor.process)

  activity_owner : get_or activities q (nobody g) ≡ at_work (activity_of g c q) doing_q
  activity_owner =
      get_or-set_same once q behind_it (nobody g) (subst (λ n. q < n) (sym once_size) inside)
      ∙ ap (λ (y : Activity). at_work y doing_q) once_other

  activity_there : (r : ℕ) → r ≢ p → r ≢ q → get_or activities r (nobody g) ≡ activity_of g c r
  activity_there r away other = get_or-set_other once q r behind_it (nobody g) other ∙ get_or-set_other c.activities p r working (nobody g) away

  descriptor_in : q < length m.descriptors
  descriptor_in = subst (λ n. q < n) (sym acting.alike.words.descriptors) inside

  first_size : length first_changed ≡ length m.descriptors
  first_size = length-set m.descriptors q (meeting p dq)

  descriptor_owner : descriptor_of descriptors q ≡ d'
  descriptor_owner =
      get_or-set_same first_changed q (withdrawn (descriptor_of first_changed q)) (descriptor_by 0) (subst (λ n. q < n) (sym first_size) descriptor_in)
      ∙ ap (λ (y : Descriptor). withdrawn y) (get_or-set_same m.descriptors q (meeting p dq) (descriptor_by 0) descriptor_in)
      ∙ ap (λ (y : Communicating). record dq { communications = y; offered = 0 }) (granting.latest_is facts m c p level acting own q entry ticket processes
      typed runs offers values words hold given kept to ops below doing_p does_p within_p line)

  descriptor_there : (r : ℕ) → r ≢ q → descriptor_of descriptors r ≡ descriptor_of m.descriptors r
  descriptor_there r other =
      get_or-set_other first_changed q r (withdrawn (descriptor_of first_changed q)) (descriptor_by 0) other
      ∙ get_or-set_other m.descriptors q r (meeting p dq) (descriptor_by 0) other

  others_kept : (r : ℕ) → r ≢ p → (r ≡ q) ⊎ (r ≢ q) → r < length c.activities
      → RepresentsProcess facts acting.homes acting.entries new_store stacks' table' h r (get_or activities r (nobody g)) (descriptor_of descriptors r)
  others_kept r away (inl is) inside_r =
      subst (λ n. RepresentsProcess facts acting.homes acting.entries new_store stacks' table' h n (get_or activities n (nobody g)) (descriptor_of descriptors
      n)) (sym is)
      (subst (λ (y : Activity). RepresentsProcess facts acting.homes acting.entries new_store stacks' table' h q y (descriptor_of descriptors q)) (sym
      activity_owner)
      (subst (λ (y : Descriptor). RepresentsProcess facts acting.homes acting.entries new_store stacks' table' h q (at_work (activity_of g c q) doing_q) y)
      (sym descriptor_owner) (granting.owner_then facts m c p level acting own q entry ticket processes typed runs offers values words hold given kept to ops
      below doing_p does_p within_p line)))
  others_kept r away (inr other) inside_r =
      subst (λ (y : Activity). RepresentsProcess facts acting.homes acting.entries new_store stacks' table' h r y (descriptor_of descriptors r)) (sym
      (activity_there r away other))
      (subst (λ (y : Descriptor). RepresentsProcess facts acting.homes acting.entries new_store stacks' table' h r (activity_of g c r) y) (sym
      (descriptor_there r other))
      (other_kept r away other inside_r))

  -- ## All of it

  either : (n k : ℕ) → (n ≡ k) ⊎ (n ≢ k)
  either n k = grind arith

  new_caller : IsNewStand c (at c.table.rows p) (at table.rows p)
  new_caller =
      record {
        unfinished = ap is_unfinished (granted.row_p facts m c p level acting own q entry ticket processes typed runs offers values words hold given kept to
            ops below doing_p does_p within_p line);
        awake = ap is_quiet acting.actor.ready;
        no_coend = ap waits_at_coend acting.actor.ready;
        ticket = λ t is. at_now t (let both : Some (c.table.done + 1) ≡ Some t = ap ticket_of (sym (granted.row_p facts m c p level acting own q entry ticket
            processes typed runs offers values words hold given kept to ops below doing_p does_p within_p line)) ∙ is in cc);
        due = λ t is. absurd (let no : None ≡ Some t = ap due_of (sym (granted.row_p facts m c p level acting own q entry ticket processes typed runs offers
            values words hold given kept to ops below doing_p does_p within_p line)) ∙ is in cc);
      }
    where
      at_now : (t : ℕ) → c.table.done + 1 ≡ t → t ≤ c.table.done + 1
      at_now t is = grind (arith, is)

  new_owner : IsNewStand c (at c.table.rows q) (at table.rows q)
  new_owner =
      record {
        unfinished = ap is_unfinished (granted.row_q facts m c p level acting own q entry ticket processes typed runs offers values words hold given kept to
            ops below doing_p does_p within_p line);
        awake = open_awake (at c.table.rows q) (granted.waits_q facts m c p level acting own q entry ticket processes typed runs offers values words hold given
            kept to ops below doing_p does_p within_p line);
        no_coend = open_no_coend (at c.table.rows q) (granted.waits_q facts m c p level acting own q entry ticket processes typed runs offers values words hold
            given kept to ops below doing_p does_p within_p line);
        ticket = λ t is. absurd (let no : None ≡ Some t = ap ticket_of (sym (granted.row_q facts m c p level acting own q entry ticket processes typed runs
            offers values words hold given kept to ops below doing_p does_p within_p line)) ∙ is in cc);
        due = λ t is. absurd (let no : None ≡ Some t = ap due_of (sym (granted.row_q facts m c p level acting own q entry ticket processes typed runs offers
            values words hold given kept to ops below doing_p does_p within_p line)) ∙ is in cc);
      }

  stands_as : (r : ℕ) → (r ≡ p) ⊎ (r ≢ p) → (r ≡ q) ⊎ (r ≢ q)
      → (at table.rows r ≡ at c.table.rows r) ⊎ IsNewStand c (at c.table.rows r) (at table.rows r)
  stands_as r (inl is) other = inr (subst (λ n. IsNewStand c (at c.table.rows n) (at table.rows n)) (sym is) new_caller)
  stands_as r (inr away) (inl is) = inr (subst (λ n. IsNewStand c (at c.table.rows n) (at table.rows n)) (sym is) new_owner)
  stands_as r (inr away) (inr other) = inl (granted.row_other facts m c p level acting own q entry ticket processes typed runs offers values words hold given
      kept to ops below doing_p does_p within_p line r away other)

  pub grants_behind : IsBehind facts m c p level acting line activities descriptors new_store stacks' table
  grants_behind =
      let held = giving.holds_then facts m c acting.homes acting.entries acting.alike q (waiting.its_level facts m c p level acting own q entry ticket
      processes typed runs offers) (waiting.shows facts m c p level acting own q entry ticket processes typed runs offers).under_way.stands (waiting.shows
      facts m c p level acting own q entry ticket processes typed runs offers).offers.own (waiting.inside facts m c p level acting own q entry ticket
      processes typed runs offers) processes (waiting.b facts m c p level acting own q entry ticket processes typed runs offers) (waiting.x facts m c p
      level acting own q entry ticket processes typed runs offers) (waiting.shows facts m c p level acting own q entry ticket processes typed runs
      offers).offers.checked (waiting.a facts m c p level acting own q entry ticket processes typed runs offers) (waiting.accepts facts m c p level acting
      own q entry ticket processes typed runs offers) typed runs (waiting.of_block facts m c p level acting own q entry ticket processes typed runs offers)
      values words hold stacks' (granted.same facts m c p level acting own q entry ticket processes typed runs offers values words hold given kept to ops
      below doing_p does_p within_p line) (granted.size facts m c p level acting own q entry ticket processes typed runs offers values words hold given
      kept to ops below doing_p does_p within_p line) in
      record {
        activity_count = length-set once q behind_it ∙ once_size;
        descriptor_count = length-set first_changed q (withdrawn (descriptor_of first_changed q)) ∙ first_size;
        stack_count = granted.size facts m c p level acting own q entry ticket processes typed runs offers values words hold given kept to ops below doing_p
            does_p within_p line;
        row_count = length-set (placed c.table q Is_ready).rows p (Waits (Meeting q) (c.table.done + 1) []) ∙ length-set c.table.rows q Is_ready;
        memory = held.memory;
        few = held.few;
        objects = held.objects;
        rests = refl;
        done = refl;
        moment = refl;
        stands = λ r. stands_as r (either r p) (either r q);
        mine =
            subst (λ (y : Activity). RepresentsProcess facts acting.homes acting.entries new_store stacks' table' h p y (record (descriptor_of descriptors p) {
              line = line;
            }))
            (sym activity_here)
            (subst (λ (y : Descriptor). RepresentsProcess facts acting.homes acting.entries new_store stacks' table' h p (granted.a1 facts m c p level acting
            own q entry ticket processes typed runs offers values words hold given kept to ops below doing_p does_p within_p line) (record y {
              line = line;
            }))
            (sym (descriptor_there p (λ is. off (sym is)))) (granted.caller_then facts m c p level acting own q entry ticket processes typed runs offers values
            words hold given kept to ops below doing_p does_p within_p line));
        others = λ r away inside_r. others_kept r away (either r q) inside_r;
      }
