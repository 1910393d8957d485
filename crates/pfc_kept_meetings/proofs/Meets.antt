-- An accept of a process that acts meets a caller that waits.
use Rattle.std.proofs.Common.{◌≡◌, ◌≢◌, ℕ, ◌+◌, ◌<◌, ℤ, pos, Bool, true, List, [], ◌∷◌, length, reverse, set, get_or, slice_get, Some, refl, sym, ap, ◌∙◌}
use Rattle.std.proofs.Common.{subst, arith, append_assoc, ◌⊎◌, inl, inr}
use Rattle.std.proofs.lemmas.List.{get_or-set_same, get_or-set_other, length-set, length-reverse}
use Rattle.pfc_types.specs.declared.types.TypeId.{TypeId}
use Rattle.pfc_types.specs.declared.scope.Meaning.TheVariants.{Variable}
use Rattle.pfc_state.specs.Stands.{Stand, Is_idle, Is_ready, Waits, ticket_at}
use Rattle.pfc_state.specs.declared.waits.Arm.{Arm as WaitArm}
use Rattle.pfc_state.specs.declared.waits.Why.TheVariants.{Call, Meeting}
use Rattle.pfc_world.specs.Partners.{caller}
use Rattle.pfc_world.specs.Rendezvous.{taken}
use Rattle.pfc_world.specs.Tables.{Table, at}
use Rattle.pfc_world.specs.Transitions.{ticked}
use Rattle.pfc_semantics.specs.Values.{Value, Location, ordinal, points}
use Rattle.pfc_semantics.specs.Programs.{Program, Block}
use Rattle.pfc_semantics.specs.Remainders.{Context, Accepting}
use Rattle.pfc_semantics.specs.Store.{Store}
use Rattle.pfc_semantics.specs.Configurations.{empty_hand, Activity, Config, activity_of}
use Rattle.pfc_translation.specs.Sites.{is_accept}
use Rattle.pfc_translation.specs.Selects.{accept_cell, accept_cells}
use Rattle.pfc_stacks.specs.declared.refs.Ref.{Ref}
use Rattle.pfc_stacks.specs.Stacks.{Stack, Stacks, no_stack, stack_of, cells_of, operands_of, written}
use Rattle.pfc_stacks.specs.Effects.{moved}
use Rattle.pfc_cells.specs.Memory.{AreCells, Lives}
use Rattle.pfc_cells.proofs.Blocks.{block_length}
use Rattle.pfc_cells.proofs.Stores.{values_kept}
use Rattle.pfc_machines.specs.declared.machine.Machine.{Machine}
use Rattle.pfc_machines.specs.declared.descriptors.Descriptor.{Descriptor}
use Rattle.pfc_machines.specs.Descriptors.{descriptor_of}
use Rattle.pfc_meeting_actions.specs.Meetings.{parameter_cell}
use Rattle.pfc_standing_code.specs.Settings.{of_own, site_of}
use Rattle.pfc_standing_code.specs.TypedStatements.{AcceptsEntry}
use Rattle.pfc_standing_code.specs.Words.{IsChecked}
use Rattle.pfc_views.specs.Keeping.{IsLike}
use Rattle.pfc_representation.specs.Levels.{Facts, program_in, LivingLevel, is_met_by, MayKeep}
use Rattle.pfc_representation.specs.Hands.{laid_parameters, entry_formals, AreKept}
use Rattle.pfc_representation.specs.Holding.{Holders, holders_in, waits_for_monitor, waits_for_resource}
use Rattle.pfc_representation.specs.Keeping.{IsSameStack}
use Rattle.pfc_representation.specs.Processes.{RepresentsProcess}
use Rattle.pfc_representation.specs.Acting.{IsActing}
use Rattle.pfc_kept_object_actions.proofs.Change.{row_here, row_there, within_rows}
use Rattle.pfc_kept_object_actions.proofs.Finding.{first_has}
use Rattle.pfc_kept_messages.proofs.Passing.{LiesOver, lies_over}
use Rattle.pfc_kept_messages.proofs.Stacks.{written_same, changed_cells, written_alike}
use Rattle.pfc_kept_meetings.specs.Owners.{HasTypedEntries}
use Rattle.pfc_kept_meetings.specs.Accepts.{HasProcesses, KeepsAccepts}
use Rattle.pfc_kept_meetings.proofs.Apart.{AreApart}
use Rattle.pfc_kept_meetings.proofs.Caller.{calling, IsAsking, is_asking, asked_is, met_kept}
use Rattle.pfc_kept_meetings.proofs.Giving as giving
use Rattle.pfc_kept_meetings.proofs.Lenders.{ready_unmet}
use Rattle.pfc_kept_meetings.proofs.Owner as owner
use Rattle.pfc_kept_meetings.proofs.Untouched.{others_alike, main_lives}

pub calls_unmet : (s : Stand) (p e t r : ℕ) (arms : List WaitArm) → s ≡ Waits (Call p e) t arms → is_met_by s r → ⊥
calls_unmet s p e t r arms is met = (let none : is_met_by (Waits (Call p e) t arms) r = subst (λ (y : Stand). is_met_by y r) is met in none)

module _ (facts : Facts) (m : Machine) (c : Config) (p : ℕ) (level : LivingLevel) (acting : IsActing facts m c p level) (own : level.setting.trial ≡ of_own)
    (b : Block) (x : Context) (checked : IsChecked level.setting b x.env) (acc : Accepting)
    (accepts : AcceptsEntry level.setting.program.state.blocks b.scope acc.entry acc.scope) (processes : HasProcesses facts.tree)
    (typed : HasTypedEntries facts.tree) (runs : KeepsAccepts facts c) (of_block : is_accept b acc.scope ≡ true)
    (apart : AreApart b acc.scope level.setting.accepts) (q : ℕ) (is_first : caller c.table.rows p acc.entry ≡ Some q) (to : ℕ) (ops : List ℤ) where
  abbrev pub g : Program
  g = program_in facts

  abbrev pub h : Holders
  h = holders_in facts c

  abbrev pub i : ℕ
  i = acc.scope

  abbrev pub dq : Descriptor
  dq = descriptor_of m.descriptors q

  abbrev pub aq : Activity
  aq = activity_of g c q

  -- ## The caller

  pub calls_so : (t : ℕ) × (arms : List WaitArm) × (at c.table.rows q ≡ Waits (Call p acc.entry) t arms)
  calls_so = calling p acc.entry (at c.table.rows q) (first_has (ticket_at (Call p acc.entry)) c.table.rows q is_first)

  pub calls : at c.table.rows q ≡ Waits (Call p acc.entry) calls_so.0 calls_so.1
  calls = calls_so.2

  pub off : q ≢ p
  off is = (let no : Waits (Call p acc.entry) calls_so.0 calls_so.1 ≡ Is_ready = sym calls ∙ ap (λ n. at c.table.rows n) is ∙ acting.actor.ready in cc)

  in_rows : q < length c.table.rows
  in_rows =
      within_rows c.table.rows q
      (λ idle. (let no : Waits (Call p acc.entry) calls_so.0 calls_so.1 ≡ Is_idle = sym calls ∙ idle in cc))

  pub inside : q < length c.activities
  inside = subst (λ n. q < n) acting.alike.words.rows in_rows

  pub q_there : q < length m.stacks
  q_there = subst (λ n. q < n) (sym acting.alike.words.stacks) inside

  pub p_there : p < length m.stacks
  p_there = subst (λ n. p < n) (sym acting.alike.words.stacks) acting.actor.process

  pub asking_so : IsAsking facts acting.homes acting.entries c.store m.stacks c.table h q aq dq p acc.entry calls_so.0 calls_so.1 calls
  asking_so =
      is_asking facts acting.homes acting.entries c.store m.stacks c.table h q aq dq p acc.entry calls_so.0 calls_so.1 calls (acting.others q inside off)

  asked_so : (asking_so.asks.owner ≡ p) × (asking_so.asks.entry ≡ acc.entry) × (at c.table.rows q ≡ Waits (Call p acc.entry) asking_so.asks.ticket [])
  asked_so = asked_is facts acting.homes acting.entries c.store m.stacks c.table h q aq dq p acc.entry calls_so.0 calls_so.1 calls asking_so

  abbrev pub values : List Value
  values = asking_so.values

  abbrev pub words : List ℤ
  words = asking_so.asks.words

  abbrev pub below : List ℤ
  below = asking_so.asks.below

  abbrev pub lenders : List ℕ
  lenders = dq.communications.callers

  pub hold : AreCells g acting.homes (laid_parameters (entry_formals g p acc.entry)) values words
  hold =
      subst (λ j. AreCells g acting.homes (laid_parameters (entry_formals g p j)) values words) asked_so.1
      (subst (λ n. AreCells g acting.homes (laid_parameters (entry_formals g n asking_so.asks.entry)) values words) asked_so.0 asking_so.asks.hold)

  pub given : (k : ℕ) (t : TypeId) → slice_get (laid_parameters (entry_formals g p acc.entry)) k ≡ Some (Variable t true)
      → (l : Location) × (get_or values k (ordinal (pos 0)) ≡ points l)
  given k t laid = runs.asked q p acc.entry asking_so.asks.ticket values asking_so.hand asked_so.2 k t laid

  pub kept : AreKept c.table acting.entries q lenders values
  kept = asking_so.asks.kept

  -- ## The table

  abbrev stand : Stand
  stand = Waits (Meeting p) (c.table.done + 1) []

  abbrev pub table : Table
  table = taken c.table p q

  abbrev pub table' : Table
  table' = ticked table

  pub row_is : at table'.rows q ≡ stand
  row_is = row_here c.table.rows q stand in_rows

  pub row_other : (r : ℕ) → r ≢ q → at table'.rows r ≡ at c.table.rows r
  row_other r away = row_there c.table.rows q r stand away

  pub stay : (r s : ℕ) → is_met_by (at c.table.rows r) s → at table'.rows r ≡ at c.table.rows r
  stay r s met_by =
      row_other r
      (λ is. calls_unmet (at c.table.rows q) p acc.entry calls_so.0 s calls_so.1 calls (subst (λ n. is_met_by (at c.table.rows n) s) is met_by))

  pub met : is_met_by (at table'.rows q) p
  met = subst (λ (s : Stand). is_met_by s p) (sym row_is) refl

  pub main : Lives acting.entries 0
  main = by (either 0 p)
    where
      either : (n k : ℕ) → (n ≡ k) ⊎ (n ≢ k)
      either n k = grind arith

      by : (0 ≡ p) ⊎ (0 ≢ p) → Lives acting.entries 0
      by (inl is) = absurd (none p (owner.child facts m c acting.homes acting.entries acting.alike p level acting.actor.stands own acting.actor.process
          processes b x checked acc.entry i accepts) (sym is))
        where
          none : (n : ℕ) → 0 < n → n ≡ 0 → ⊥
          none n less is = grind (arith, less, is)
      by (inr away) =
          main_lives facts acting.homes acting.entries c.store m.stacks c.table h (activity_of g c 0) (descriptor_of m.descriptors 0) acting.alike.main
          (acting.others 0 (more p (length c.activities) acting.actor.process) away)
        where
          more : (n k : ℕ) → n < k → 0 < k
          more n k less = grind (arith, less)

  -- ## The stacks

  abbrev pub place : Ref
  place = parameter_cell p (accept_cell (site_of level.setting b x) i)

  abbrev pub z : ℕ
  z = accept_cells (site_of level.setting b x) i

  pub words_count : length words ≡ z
  words_count =
      block_length g acting.alike.program.types.counted acting.homes (laid_parameters (entry_formals g p acc.entry)) values words hold
      ∙ sym (giving.cells_are facts m c acting.homes acting.entries acting.alike p level acting.actor.stands own acting.actor.process processes b x checked acc
      accepts typed runs of_block)

  pub over : LiesOver (operands_of m.stacks q) (reverse words) below asking_so.asks.number z
  over =
      lies_over (operands_of m.stacks q) (reverse words) below asking_so.asks.number z
      (asking_so.asks.operands ∙ sym (append_assoc (reverse words) (asking_so.asks.number ∷ []) below)) (length-reverse words ∙ words_count)

  abbrev pub gone : Stacks
  gone = moved m.stacks p to ops

  abbrev pub wrote : Stacks
  wrote = written gone place words

  abbrev pub stacks' : Stacks
  stacks' = set wrote q (record (stack_of wrote q) { operands = below })

  gone_size : length gone ≡ length m.stacks
  gone_size = length-set m.stacks p (record (stack_of m.stacks p) { at = to; operands = ops })

  wrote_size : length wrote ≡ length m.stacks
  wrote_size = length-set gone place.process _ ∙ gone_size

  pub size : length stacks' ≡ length m.stacks
  size = length-set wrote q (record (stack_of wrote q) { operands = below }) ∙ wrote_size

  gone_cells : (r : ℕ) → cells_of gone r ≡ cells_of m.stacks r
  gone_cells r = changed_cells m.stacks p (λ (s : Stack). record s { at = to; operands = ops }) (λ s. refl) p_there r

  pub same : (r : ℕ) → cells_of stacks' r ≡ cells_of (written m.stacks place words) r
  same r =
      changed_cells wrote q (λ (s : Stack). record s { operands = below }) (λ s. refl) (subst (λ n. q < n) (sym wrote_size) q_there) r
      ∙ written_alike m.stacks gone place words p_there (subst (λ n. p < n) (sym gone_size) p_there) gone_cells r

  -- each is where it was
  pub stack_p : IsSameStack (record (stack_of m.stacks p) { at = to; operands = ops }) (stack_of stacks' p)
  stack_p =
      subst (λ (s : Stack). IsSameStack s (stack_of stacks' p))
      (get_or-set_same m.stacks p (record (stack_of m.stacks p) { at = to; operands = ops }) no_stack p_there)
      (subst (λ (s : Stack). IsSameStack (stack_of gone p) s)
      (sym (get_or-set_other wrote q p (record (stack_of wrote q) { operands = below }) no_stack (λ is. off (sym is))))
      (written_same gone place words p))

  gone_other : (r : ℕ) → r ≢ p → stack_of gone r ≡ stack_of m.stacks r
  gone_other r away = get_or-set_other m.stacks p r (record (stack_of m.stacks p) { at = to; operands = ops }) no_stack away

  pub stack_other : (r : ℕ) → r ≢ p → r ≢ q → IsSameStack (stack_of m.stacks r) (stack_of stacks' r)
  stack_other r away other =
      subst (λ (s : Stack). IsSameStack s (stack_of stacks' r)) (gone_other r away)
      (subst (λ (s : Stack). IsSameStack (stack_of gone r) s)
      (sym (get_or-set_other wrote q r (record (stack_of wrote q) { operands = below }) no_stack other))
      (written_same gone place words r))

  wrote_q : IsSameStack (stack_of m.stacks q) (stack_of wrote q)
  wrote_q = subst (λ (s : Stack). IsSameStack s (stack_of wrote q)) (gone_other q off) (written_same gone place words q)

  pub stack_q : stack_of stacks' q ≡ record (stack_of wrote q) { operands = below }
  stack_q =
      get_or-set_same wrote q (record (stack_of wrote q) { operands = below }) no_stack (subst (λ n. q < n) (sym wrote_size) q_there)

  -- ## What becomes of the caller

  abbrev pub new_store : Store
  new_store = giving.new_store facts m c acting.homes acting.entries acting.alike p level acting.actor.stands own acting.actor.process processes b x checked
      acc accepts typed runs of_block values words hold

  awake : (s : ℕ) → is_met_by (at c.table.rows p) s → ⊥
  awake s met_by = ready_unmet (at c.table.rows p) s acting.actor.ready met_by

  pub like_of : (r : ℕ) → r ≢ p → (keeps : ℕ → Bool)
      → ((y : ℕ) → keeps y ≡ true → (others : List ℕ) × MayKeep c.table acting.entries r others (acting.entries r) y)
      → IsLike g keeps acting.homes acting.homes acting.entries acting.entries c.store new_store
  like_of r away =
      others_alike facts m c acting.homes acting.entries acting.alike p (giving.act facts m c acting.homes acting.entries acting.alike p level
      acting.actor.stands own acting.actor.process processes b x checked acc accepts typed runs of_block).number (giving.home facts m c acting.homes
      acting.entries acting.alike p level acting.actor.stands own acting.actor.process processes b x checked acc accepts typed runs of_block)
      (giving.at_home facts m c acting.homes acting.entries acting.alike p level acting.actor.stands own acting.actor.process processes b x checked acc
      accepts typed runs of_block)
      (owner.first facts m c acting.homes acting.entries acting.alike p level acting.actor.stands own acting.actor.process processes b x checked acc.entry i
      accepts).stands.process (owner.child facts m c acting.homes acting.entries acting.alike p level acting.actor.stands own acting.actor.process
      processes b x checked acc.entry i accepts) awake new_store
      (λ y other. values_kept c.store (giving.act facts m c acting.homes acting.entries acting.alike p level acting.actor.stands own acting.actor.process
      processes b x checked acc accepts typed runs of_block).number _ y other) r away

  pub caller_then : RepresentsProcess facts acting.homes acting.entries new_store stacks' table' h q (record aq { hand = empty_hand }) dq
  caller_then =
      met_kept facts acting.homes acting.entries c.store new_store m.stacks stacks' c.table table' h q aq dq asking_so.under_way asking_so.asks.own
      asking_so.offered p (c.table.done + 1) row_is
      (record {
        monitors = λ n. ap (λ (s : Stand). waits_for_monitor h.owners n s) calls;
        resources = λ n. ap (λ (s : Stand). waits_for_resource n s) calls;
      })
      stay (like_of q off) below (ap (λ (s : Stack). s.at) stack_q ∙ wrote_q.at) (ap (λ (s : Stack). s.base) stack_q ∙ wrote_q.base)
      (ap (λ (s : Stack). s.operands) stack_q) (ap (λ (s : Stack). s.room) stack_q ∙ wrote_q.room) (ap (λ (s : Stack). s.spare) stack_q ∙ wrote_q.spare)
      (ap (λ (s : Stack). s.looks_from) stack_q ∙ wrote_q.looks_from) asking_so.asks.behind (acting.others q inside off)
