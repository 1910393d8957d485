-- A call of an entry that its owner waits to accept: the table, the stacks, and the caller.
use Rattle.std.proofs.Common.{◌≡◌, ◌≢◌, ℕ, ◌+◌, ◌<◌, ℤ, pos, Bool, true, List, [], length, set, get_or, slice_get, Some, None, refl, sym, ap, ◌∙◌, subst, arith}
use Rattle.std.proofs.Common.{◌⊎◌, inl, inr}
use Rattle.std.proofs.lemmas.List.{get_or-set_same, get_or-set_other, length-set}
use Rattle.pfc_types.specs.declared.types.TypeId.{TypeId}
use Rattle.pfc_types.specs.declared.scope.Meaning.TheVariants.{Variable}
use Rattle.pfc_state.specs.Stands.{Stand, Is_ready, Waits, is_unfinished}
use Rattle.pfc_state.specs.declared.waits.Arm.{Arm as WaitArm}
use Rattle.pfc_state.specs.declared.waits.Why.TheVariants.{Meeting}
use Rattle.pfc_world.specs.Partners.{ticket_open_to}
use Rattle.pfc_world.specs.Tables.{Table, at}
use Rattle.pfc_world.specs.Transitions.{ticked, placed, blocked}
use Rattle.pfc_semantics.specs.Values.{Value, Location, ordinal, points}
use Rattle.pfc_semantics.specs.Programs.{Program, Block}
use Rattle.pfc_semantics.specs.Remainders.{Context, Open}
use Rattle.pfc_semantics.specs.Store.{Store}
use Rattle.pfc_semantics.specs.Configurations.{Activity, Config, activity_of, at_work}
use Rattle.pfc_translation.specs.Sites.{is_accept}
use Rattle.pfc_translation.specs.Selects.{accept_cell}
use Rattle.pfc_stacks.specs.declared.refs.Ref.{Ref}
use Rattle.pfc_stacks.specs.Stacks.{Stack, Stacks, no_stack, stack_of, cells_of, written, last_activation}
use Rattle.pfc_stacks.specs.Effects.{moved}
use Rattle.pfc_cells.specs.Memory.{AreCells, Lives}
use Rattle.pfc_cells.proofs.Stores.{values_kept}
use Rattle.pfc_machines.specs.declared.machine.Machine.{Machine}
use Rattle.pfc_machines.specs.declared.descriptors.Descriptor.{Descriptor}
use Rattle.pfc_machines.specs.Descriptors.{descriptor_of}
use Rattle.pfc_meeting_actions.specs.Meetings.{parameter_cell}
use Rattle.pfc_standing_code.specs.Settings.{of_own, site_of, Trial}
use Rattle.pfc_standing_code.specs.TypedStatements.{AcceptsEntry}
use Rattle.pfc_views.specs.Keeping.{IsLike}
use Rattle.pfc_representation.specs.Levels.{Facts, program_in, LivingLevel, is_met_by, MayKeep, DoesOn}
use Rattle.pfc_representation.specs.Hands.{laid_parameters, entry_formals, AreKept, shows_nothing, IsOffered, is_woken, waits_plainly, waits_selecting}
use Rattle.pfc_representation.specs.Holding.{Holders, holders_in, waits_for_monitor, waits_for_resource}
use Rattle.pfc_representation.specs.Keeping.{IsSameStack}
use Rattle.pfc_representation.specs.Processes.{RepresentsProcess, IsAtLevel, IsUnderWay}
use Rattle.pfc_representation.specs.Acting.{IsActing, IsActor}
use Rattle.pfc_kept_object_actions.proofs.Change.{row_here, row_there}
use Rattle.pfc_kept_messages.proofs.Stacks.{written_same, changed_cells, written_alike}
use Rattle.pfc_kept_meetings.specs.Owners.{HasTypedEntries}
use Rattle.pfc_kept_meetings.specs.Accepts.{HasProcesses, KeepsAccepts}
use Rattle.pfc_kept_meetings.proofs.Apart.{AreApart}
use Rattle.pfc_kept_meetings.proofs.Caller.{met_kept}
use Rattle.pfc_kept_meetings.proofs.Lenders.{ready_unmet}
use Rattle.pfc_kept_meetings.proofs.Untouched.{others_alike, main_lives}
use Rattle.pfc_semantics.specs.Rewriting.{Doing}
use Rattle.pfc_stacks.specs.Refs.{word_of}
use Rattle.pfc_representation.specs.Rooms.{own_address}
use Rattle.pfc_representation.specs.Callers.{IsWithin}
use Rattle.pfc_representation.specs.Trials.{TrialIs, HasTried}
use Rattle.pfc_representation.proofs.Quiet.{actor_moved}
use Rattle.pfc_kept_own_actions.proofs.Arrived.{stack_there}
use Rattle.pfc_kept_messages.proofs.Waiting.{not_empty}
use Rattle.std.specs.Prelude.{is_some}
use Rattle.pfc_state.specs.declared.waits.Arm.TheVariants.{Accept as Entered, Send as To, Receive as From}
use Rattle.pfc_kept_messages.proofs.Meeting.{apart as process_apart}
use Rattle.pfc_kept_messages.proofs.Partner.{is_open_stand, open_unmet, IsShowing}
use Rattle.pfc_kept_messages.proofs.Held.{WaitsForNone}
use Rattle.pfc_kept_meetings.specs.Waiting.{KeepsOffers}
use Rattle.pfc_semantics.specs.Remainders.{Accepting}
use Rattle.pfc_kept_meetings.proofs.Giving as giving
use Rattle.pfc_kept_meetings.proofs.Owner as owner
use Rattle.pfc_kept_messages.proofs.Finding as finding
use Rattle.pfc_kept_meetings.proofs.Waiting as waiting

-- what an offer waits for is neither a monitor nor a resource
pub no_holder : (owners : List ℕ) (s : Stand) (os : List Open) (arms : List WaitArm) → IsOffered s os arms → WaitsForNone owners s
no_holder owners _ _ _ (is_woken os arms) = record { monitors = λ n. refl; resources = λ n. refl }
no_holder owners _ _ _ (waits_plainly o (To n) u) = record { monitors = λ n. refl; resources = λ n. refl }
no_holder owners _ _ _ (waits_plainly o (From n) u) = record { monitors = λ n. refl; resources = λ n. refl }
no_holder owners _ _ _ (waits_plainly o (Entered n) u) = record { monitors = λ n. refl; resources = λ n. refl }
no_holder owners _ _ _ (waits_selecting os arms due u) = record { monitors = λ n. refl; resources = λ n. refl }

module _ (facts : Facts) (m : Machine) (c : Config) (p : ℕ) (level : LivingLevel) (acting : IsActing facts m c p level) (own : level.setting.trial ≡ of_own)
    (q entry : ℕ) (ticket : is_some (ticket_open_to (Entered entry) (at c.table.rows q)) ≡ true)
    (processes : HasProcesses facts.tree) (typed : HasTypedEntries facts.tree) (runs : KeepsAccepts facts c) (offers : KeepsOffers facts c)
    (values : List Value) (words : List ℤ)
    (hold : AreCells (program_in facts) acting.homes (laid_parameters (entry_formals (program_in facts) q (waiting.a facts m c p level acting own q entry
    ticket processes typed runs offers).entry)) values words)
    (given : (k : ℕ) (t : TypeId) → slice_get (laid_parameters (entry_formals (program_in facts) q (waiting.a facts m c p level acting own q entry ticket
    processes typed runs offers).entry)) k ≡ Some (Variable t true)
    → (l : Location) × (get_or values k (ordinal (pos 0)) ≡ points l))
    (kept : AreKept c.table acting.entries p (descriptor_of m.descriptors p).communications.callers values)
    (to : ℕ) (ops below : List ℤ) (doing_p : Doing) (does_p : DoesOn level to below doing_p)
    (within_p : IsWithin facts level to (descriptor_of m.descriptors p).communications) (line : ℕ) where
  abbrev pub g : Program
  g = program_in facts

  abbrev pub h : Holders
  h = holders_in facts c

  abbrev pub ap0 : Activity
  ap0 = activity_of g c p

  abbrev pub dp : Descriptor
  dp = descriptor_of m.descriptors p

  abbrev pub aq : Activity
  aq = activity_of g c q

  abbrev pub dq : Descriptor
  dq = descriptor_of m.descriptors q

  abbrev pub its_level : LivingLevel
  its_level = waiting.its_level facts m c p level acting own q entry ticket processes typed runs offers

  abbrev pub shows : IsShowing facts acting.homes acting.entries c.store m.stacks c.table (holders_in facts c) q (activity_of g c q) (descriptor_of
      m.descriptors q) (finding.waits facts m c p level acting own q (Entered entry) ticket)
  shows = waiting.shows facts m c p level acting own q entry ticket processes typed runs offers

  abbrev pub b : Block
  b = waiting.b facts m c p level acting own q entry ticket processes typed runs offers

  abbrev pub x : Context
  x = waiting.x facts m c p level acting own q entry ticket processes typed runs offers

  abbrev pub a : Accepting
  a = waiting.a facts m c p level acting own q entry ticket processes typed runs offers

  abbrev pub i : ℕ
  i = a.scope

  abbrev pub inside : q < length c.activities
  inside = waiting.inside facts m c p level acting own q entry ticket processes typed runs offers

  abbrev pub accepts_so : AcceptsEntry its_level.setting.program.state.blocks b.scope a.entry a.scope
  accepts_so = waiting.accepts facts m c p level acting own q entry ticket processes typed runs offers

  abbrev pub of_block_so : is_accept b a.scope ≡ true
  of_block_so = waiting.of_block facts m c p level acting own q entry ticket processes typed runs offers

  abbrev pub apart_so : AreApart b a.scope its_level.setting.accepts
  apart_so = waiting.apart facts m c p level acting own q entry ticket processes typed runs offers

  abbrev pub lenders : List ℕ
  lenders = dp.communications.callers

  pub waits_q : is_open_stand (at c.table.rows q) ≡ true
  waits_q = finding.waits facts m c p level acting own q (Entered entry) ticket

  pub off : q ≢ p
  off = process_apart facts m c p level acting own q waits_q

  -- ## The table

  abbrev pub stand : Stand
  stand = Waits (Meeting q) (c.table.done + 1) []

  abbrev pub table : Table
  table = blocked (placed c.table q Is_ready) p (Meeting q) []

  abbrev pub table' : Table
  table' = ticked table

  abbrev pub rows_first : List Stand
  rows_first = (placed c.table q Is_ready).rows

  pub rows_size : length rows_first ≡ length c.table.rows
  rows_size = length-set c.table.rows q Is_ready

  pub q_in : q < length c.table.rows
  q_in = subst (λ n. q < n) (sym acting.alike.words.rows) inside

  pub p_in : p < length c.table.rows
  p_in = subst (λ n. p < n) (sym acting.alike.words.rows) acting.actor.process

  pub row_p : at table'.rows p ≡ stand
  row_p = row_here rows_first p stand (subst (λ n. p < n) (sym rows_size) p_in)

  pub row_q : at table'.rows q ≡ Is_ready
  row_q = row_there rows_first p q stand off ∙ row_here c.table.rows q Is_ready q_in

  pub row_other : (r : ℕ) → r ≢ p → r ≢ q → at table'.rows r ≡ at c.table.rows r
  row_other r away other = row_there rows_first p r stand away ∙ row_there c.table.rows q r Is_ready other

  pub awake_q : (s : ℕ) → is_met_by (at c.table.rows q) s → ⊥
  awake_q s met_by = open_unmet (at c.table.rows q) s waits_q met_by

  pub awake_p : (s : ℕ) → is_met_by (at c.table.rows p) s → ⊥
  awake_p s met_by = ready_unmet (at c.table.rows p) s acting.actor.ready met_by

  pub stay : (r s : ℕ) → is_met_by (at c.table.rows r) s → at table'.rows r ≡ at c.table.rows r
  stay r s met_by =
      row_other r (λ is. awake_p s (subst (λ n. is_met_by (at c.table.rows n) s) is met_by))
      (λ is. awake_q s (subst (λ n. is_met_by (at c.table.rows n) s) is met_by))

  pub met : is_met_by (at table'.rows p) q
  met = subst (λ (s : Stand). is_met_by s q) (sym row_p) refl

  -- ## The process that acts, before its meeting

  abbrev pub stacks1 : Stacks
  stacks1 = moved m.stacks p to below

  abbrev pub m1 : Machine
  m1 = record m { stacks = stacks1 }

  abbrev pub a1 : Activity
  a1 = record (at_work ap0 doing_p) { line = line }

  abbrev pub d1 : Descriptor
  d1 = record dp { line = line }

  pub p_there : p < length m.stacks
  p_there = stack_there facts m c p level acting

  pub q_there : q < length m.stacks
  q_there = subst (λ n. q < n) (sym acting.alike.words.stacks) inside

  pub moved_p : stack_of stacks1 p ≡ record (stack_of m.stacks p) { at = to; operands = below }
  moved_p = get_or-set_same m.stacks p (record (stack_of m.stacks p) { at = to; operands = below }) no_stack p_there

  pub actor1 : IsActor facts acting.homes acting.entries m1 c p level
  actor1 = actor_moved facts m c p level to below acting

  pub level_p : IsAtLevel facts acting.homes acting.entries c.store stacks1 c.table h p a1 d1 level
  level_p =
      let old = actor1.stands in
      record { count = old.count; seen = old.seen; callers = old.callers; room = old.room; accepts = old.accepts; met = old.met; holds = old.holds }

  pub at_own_p : ((stack_of stacks1 p).looks_from ≡ None) × (dp.scan ≡ None)
  at_own_p = which actor1.trial
    where
      which : TrialIs level.setting.trial facts acting.homes acting.entries c.store stacks1 c.table p level ap0.activations dp
          ⊎ HasTried level.setting.trial facts (stack_of stacks1 p) level ap0.activations dp → ((stack_of stacks1 p).looks_from ≡ None) × (dp.scan ≡ None)
      which (inl is) = subst (λ (t : Trial). TrialIs t facts acting.homes acting.entries c.store stacks1 c.table p level ap0.activations dp) own is
      which (inr is) = absurd (let no : ⊥ = subst (λ (t : Trial). HasTried t facts (stack_of stacks1 p) level ap0.activations dp) own is in no)

  abbrev pub under_p : IsUnderWay facts acting.homes acting.entries c.store stacks1 c.table h p a1 d1
  under_p =
      record {
        unfinished = ap is_unfinished acting.actor.ready;
        level = level;
        stands = level_p;
        within =
            subst (λ (t : Trial). IsWithin facts level (own_address t (stack_of stacks1 p).at) dp.communications) (sym own)
            (subst (λ (s : Stack). IsWithin facts level s.at dp.communications) (sym moved_p) within_p);
        hand = (
          acting.actor.offered,
          ap shows_nothing acting.actor.ready,
          subst (λ (s : Stack). DoesOn level s.at s.operands doing_p) (sym moved_p) does_p,
        );
        trial = subst (λ (t : Trial). TrialIs t facts acting.homes acting.entries c.store stacks1 c.table p level a1.activations d1) (sym own) at_own_p;
      }

  pub p_first : RepresentsProcess facts acting.homes acting.entries c.store stacks1 c.table h p a1 d1
  p_first =
      record {
        line = refl;
        spare = actor1.spare;
        activations =
            not_empty facts acting.homes acting.entries c.store stacks1 c.table h p (stack_of stacks1 p).room level (word_of (last_activation stacks1 p))
            dp.communications
            ap0.activations (acting.entries p) a1 d1 level_p.callers under_p;
      }

  pub main : Lives acting.entries 0
  main = by (either 0 p)
    where
      either : (n k : ℕ) → (n ≡ k) ⊎ (n ≢ k)
      either n k = grind arith

      more : (n k : ℕ) → n < k → 0 < k
      more n k less = grind (arith, less)

      by : (0 ≡ p) ⊎ (0 ≢ p) → Lives acting.entries 0
      by (inl is) =
          main_lives facts acting.homes acting.entries c.store stacks1 c.table h a1 d1 acting.alike.main
          (subst (λ n. RepresentsProcess facts acting.homes acting.entries c.store stacks1 c.table h n a1 d1) (sym is) p_first)
      by (inr away) =
          main_lives facts acting.homes acting.entries c.store m.stacks c.table h (activity_of g c 0) (descriptor_of m.descriptors 0) acting.alike.main
          (acting.others 0 (more p (length c.activities) acting.actor.process) away)

  -- ## The stacks

  abbrev pub place : Ref
  place = parameter_cell q (accept_cell (site_of its_level.setting b x) i)

  abbrev pub branch : ℕ
  branch = waiting.to facts m c p level acting own q entry ticket processes typed runs offers

  abbrev pub gone : Stacks
  gone = moved m.stacks p to ops

  abbrev pub wrote : Stacks
  wrote = written gone place words

  abbrev pub took : Stacks
  took = set wrote p (record (stack_of wrote p) { operands = below })

  abbrev pub stacks' : Stacks
  stacks' = set took q (record (stack_of took q) { at = branch })

  pub gone_size : length gone ≡ length m.stacks
  gone_size = length-set m.stacks p (record (stack_of m.stacks p) { at = to; operands = ops })

  pub wrote_size : length wrote ≡ length m.stacks
  wrote_size = length-set gone place.process _ ∙ gone_size

  pub took_size : length took ≡ length m.stacks
  took_size = length-set wrote p (record (stack_of wrote p) { operands = below }) ∙ wrote_size

  pub size : length stacks' ≡ length m.stacks
  size = length-set took q (record (stack_of took q) { at = branch }) ∙ took_size

  pub gone_cells : (r : ℕ) → cells_of gone r ≡ cells_of m.stacks r
  gone_cells r = changed_cells m.stacks p (λ (s : Stack). record s { at = to; operands = ops }) (λ s. refl) p_there r

  pub same : (r : ℕ) → cells_of stacks' r ≡ cells_of (written m.stacks place words) r
  same r =
      changed_cells took q (λ (s : Stack). record s { at = branch }) (λ s. refl) (subst (λ n. q < n) (sym took_size) q_there) r
      ∙ changed_cells wrote p (λ (s : Stack). record s { operands = below }) (λ s. refl) (subst (λ n. p < n) (sym wrote_size) p_there) r
      ∙ written_alike m.stacks gone place words q_there (subst (λ n. q < n) (sym gone_size) q_there) gone_cells r

  pub gone_other : (r : ℕ) → r ≢ p → stack_of gone r ≡ stack_of m.stacks r
  gone_other r away = get_or-set_other m.stacks p r (record (stack_of m.stacks p) { at = to; operands = ops }) no_stack away

  pub wrote_other : (r : ℕ) → r ≢ p → IsSameStack (stack_of m.stacks r) (stack_of wrote r)
  wrote_other r away = subst (λ (s : Stack). IsSameStack s (stack_of wrote r)) (gone_other r away) (written_same gone place words r)

  pub wrote_p : IsSameStack (record (stack_of m.stacks p) { at = to; operands = ops }) (stack_of wrote p)
  wrote_p =
      subst (λ (s : Stack). IsSameStack s (stack_of wrote p))
      (get_or-set_same m.stacks p (record (stack_of m.stacks p) { at = to; operands = ops }) no_stack p_there) (written_same gone place words p)

  pub stack_p : stack_of stacks' p ≡ record (stack_of wrote p) { operands = below }
  stack_p =
      get_or-set_other took q p (record (stack_of took q) { at = branch }) no_stack (λ is. off (sym is))
      ∙ get_or-set_same wrote p (record (stack_of wrote p) { operands = below }) no_stack (subst (λ n. p < n) (sym wrote_size) p_there)

  pub stack_q : stack_of stacks' q ≡ record (stack_of wrote q) { at = branch }
  stack_q =
      get_or-set_same took q (record (stack_of took q) { at = branch }) no_stack (subst (λ n. q < n) (sym took_size) q_there)
      ∙ ap (λ (s : Stack). record s { at = branch })
      (get_or-set_other wrote p q (record (stack_of wrote p) { operands = below }) no_stack off)

  pub stack_other : (r : ℕ) → r ≢ p → r ≢ q → IsSameStack (stack_of m.stacks r) (stack_of stacks' r)
  stack_other r away other =
      subst (λ (s : Stack). IsSameStack (stack_of m.stacks r) s)
      (sym
      (get_or-set_other took q r (record (stack_of took q) { at = branch }) no_stack other
      ∙ get_or-set_other wrote p r (record (stack_of wrote p) { operands = below }) no_stack away)) (wrote_other r away)

  -- ## Store

  abbrev pub new_store : Store
  new_store = giving.new_store facts m c acting.homes acting.entries acting.alike q its_level shows.under_way.stands shows.offers.own inside processes b x
      shows.offers.checked a accepts_so typed runs of_block_so values words hold

  pub like_of : (r : ℕ) → r ≢ q → (keeps : ℕ → Bool)
      → ((y : ℕ) → keeps y ≡ true → (others : List ℕ) × MayKeep c.table acting.entries r others (acting.entries r) y)
      → IsLike g keeps acting.homes acting.homes acting.entries acting.entries c.store new_store
  like_of r away =
      others_alike facts m c acting.homes acting.entries acting.alike q (giving.act facts m c acting.homes acting.entries acting.alike q its_level
      shows.under_way.stands shows.offers.own inside processes b x shows.offers.checked a accepts_so typed runs of_block_so).number (giving.home facts m c
      acting.homes acting.entries acting.alike q its_level shows.under_way.stands shows.offers.own inside processes b x shows.offers.checked a accepts_so
      typed runs of_block_so) (giving.at_home facts m c acting.homes acting.entries acting.alike q its_level shows.under_way.stands shows.offers.own inside
      processes b x shows.offers.checked a accepts_so typed runs of_block_so) (owner.first facts m c acting.homes acting.entries acting.alike q its_level
      shows.under_way.stands shows.offers.own inside processes b x shows.offers.checked a.entry a.scope accepts_so).stands.process
      (owner.child facts m c acting.homes acting.entries acting.alike q its_level shows.under_way.stands shows.offers.own inside processes b x
      shows.offers.checked a.entry a.scope accepts_so) awake_q new_store (λ y other. values_kept c.store (giving.act facts m c acting.homes acting.entries
      acting.alike q its_level shows.under_way.stands shows.offers.own inside processes b x shows.offers.checked a accepts_so typed runs
      of_block_so).number _ y other) r away

  -- ## The caller

  pub caller_then : RepresentsProcess facts acting.homes acting.entries new_store stacks' table' h p a1 d1
  caller_then =
      met_kept facts acting.homes acting.entries c.store new_store stacks1 stacks' c.table table' h p a1 d1 under_p own acting.actor.offered q (c.table.done +
      1) row_p
      (record {
        monitors = λ n. ap (λ (s : Stand). waits_for_monitor h.owners n s) acting.actor.ready;
        resources = λ n. ap (λ (s : Stand). waits_for_resource n s) acting.actor.ready;
      })
      stay (like_of p (λ is. off (sym is))) below
      (ap (λ (s : Stack). s.at) stack_p ∙ wrote_p.at ∙ sym (ap (λ (s : Stack). s.at) moved_p))
      (ap (λ (s : Stack). s.base) stack_p ∙ wrote_p.base ∙ sym (ap (λ (s : Stack). s.base) moved_p)) (ap (λ (s : Stack). s.operands) stack_p)
      (ap (λ (s : Stack). s.room) stack_p ∙ wrote_p.room ∙ sym (ap (λ (s : Stack). s.room) moved_p))
      (ap (λ (s : Stack). s.spare) stack_p ∙ wrote_p.spare ∙ sym (ap (λ (s : Stack). s.spare) moved_p))
      (ap (λ (s : Stack). s.looks_from) stack_p ∙ wrote_p.looks_from ∙ sym (ap (λ (s : Stack). s.looks_from) moved_p))
      (subst (λ n. DoesOn level n below doing_p) (sym (ap (λ (s : Stack). s.at) moved_p)) does_p) p_first
