-- The process that acts and one that waits both go on, and a message may have been written.
use Rattle.std.proofs.Common.{◌≡◌, ◌≢◌, ℕ, ◌<◌, ℤ, true, List, [], length, set, get_or, Some, None, refl, sym, ap, ◌∙◌, subst, arith, ◌⊎◌, inl, inr}
use Rattle.std.proofs.lemmas.List.{get_or-set_same, get_or-set_other, length-set}
use Rattle.pfc_state.specs.Stands.{Stand, Is_ready, Waits, is_unfinished, ticket_of, due_of}
use Rattle.pfc_state.specs.declared.waits.Why.TheVariants.{Barred}
use Rattle.pfc_world.specs.Tables.{Table, at}
use Rattle.pfc_world.specs.Transitions.{placed, ticked}
use Rattle.pfc_semantics.specs.Programs.{Program}
use Rattle.pfc_semantics.specs.Rewriting.{Doing}
use Rattle.pfc_semantics.specs.Store.{Store}
use Rattle.pfc_semantics.specs.Configurations.{Activity, Config, nobody, activity_of, at_work}
use Rattle.pfc_stacks.specs.Refs.{word_of}
use Rattle.pfc_stacks.specs.Stacks.{Stack, Stacks, no_stack, stack_of, last_activation}
use Rattle.pfc_stacks.specs.Effects.{moved}
use Rattle.pfc_machines.specs.declared.machine.Machine.{Machine}
use Rattle.pfc_machines.specs.declared.descriptors.Descriptor.{Descriptor}
use Rattle.pfc_machines.specs.Descriptors.{descriptor_by, descriptor_of, withdrawn}
use Rattle.pfc_standing_code.specs.Settings.{Trial, of_own}
use Rattle.pfc_representation.specs.Levels.{Facts, program_in, LivingLevel, is_met_by, DoesOn}
use Rattle.pfc_representation.specs.Rooms.{own_address}
use Rattle.pfc_representation.specs.Callers.{IsWithin}
use Rattle.pfc_representation.specs.Hands.{shows_nothing}
use Rattle.pfc_representation.specs.Holding.{Holders, holders_in}
use Rattle.pfc_representation.specs.Keeping.{IsSameStack}
use Rattle.pfc_representation.specs.Trials.{TrialIs, HasTried}
use Rattle.pfc_representation.specs.Processes.{IsAtLevel, IsUnderWay, RepresentsProcess}
use Rattle.pfc_representation.specs.Acting.{IsActor, IsActing}
use Rattle.pfc_representation.proofs.Quiet.{actor_moved, others_moved}
use Rattle.pfc_kept_object_actions.proofs.Change.{row_here, row_there, within_rows}
use Rattle.pfc_kept_messages.proofs.Others.{IsBarredStand, StaysAt, IsQuietAround, stays_kept}
use Rattle.pfc_kept_messages.proofs.Sight.{StillHolds}
use Rattle.pfc_kept_messages.proofs.Partner.{is_open_stand, open_awake, open_no_coend, open_unmet, open_unbarred, open_not_ready, open_not_idle}
use Rattle.pfc_kept_messages.proofs.Waiting.{not_empty}
use Rattle.pfc_kept_messages.proofs.Whole.{IsNewStand, IsBehind}

either : (q p : ℕ) → (q ≡ p) ⊎ (q ≢ p)
either q p = grind arith

same_stack : (s s' : Stack) → s' ≡ s → IsSameStack s s'
same_stack s s' h = record {
  at = ap (λ (x : Stack). x.at) h;
  base = ap (λ (x : Stack). x.base) h;
  operands = ap (λ (x : Stack). x.operands) h;
  room = ap (λ (x : Stack). x.room) h;
  spare = ap (λ (x : Stack). x.spare) h;
  looks_from = ap (λ (x : Stack). x.looks_from) h;
}

barred_not_ready : (s : Stand) → IsBarredStand s → s ≡ Is_ready → ⊥
barred_not_ready s barred ready = (let no : Waits (Barred barred.resource barred.procedure) barred.ticket [] ≡ Is_ready = sym barred.is ∙ ready in cc)

module _ (facts : Facts) (m : Machine) (c : Config) (p : ℕ) (level : LivingLevel) (acting : IsActing facts m c p level) (own : level.setting.trial ≡ of_own)
    (q : ℕ) (waits : is_open_stand (at c.table.rows q) ≡ true) where
  abbrev g : Program
  g = program_in facts

  abbrev h : Holders
  h = holders_in facts c

  abbrev a : Activity
  a = activity_of g c p

  abbrev d : Descriptor
  d = descriptor_of m.descriptors p

  abbrev table : Table
  table = placed c.table q Is_ready

  pub apart : q ≢ p
  apart same = open_not_ready (at c.table.rows q) waits (ap (λ n. at c.table.rows n) same ∙ acting.actor.ready)

  in_rows : q < length c.table.rows
  in_rows = within_rows c.table.rows q (open_not_idle (at c.table.rows q) waits)

  pub is_process : q < length c.activities
  is_process = subst (λ n. q < n) acting.alike.words.rows in_rows

  pub row_is : at (ticked table).rows q ≡ Is_ready
  row_is = row_here c.table.rows q Is_ready in_rows

  row_other : (r : ℕ) → r ≢ q → at (ticked table).rows r ≡ at c.table.rows r
  row_other r off = row_there c.table.rows q r Is_ready off

  met_other : (r s : ℕ) → is_met_by (at c.table.rows r) s → r ≢ q
  met_other r s met same = open_unmet (at c.table.rows q) s waits (subst (λ n. is_met_by (at c.table.rows n) s) same met)

  pub met_stays : (r s : ℕ) → is_met_by (at c.table.rows r) s → at (ticked table).rows r ≡ at c.table.rows r
  met_stays r s met = row_other r (met_other r s met)

  -- ## Both on the stacks

  module _ (to : ℕ) (left : List ℤ) (branch : ℕ) where
    abbrev gone_on : Stacks
    gone_on = moved m.stacks p to left

    abbrev pub base : Stacks
    base = set gone_on q (record (stack_of gone_on q) { at = branch })

    abbrev branched : Stacks
    branched = set m.stacks q (record (stack_of m.stacks q) { at = branch })

    p_there : p < length m.stacks
    p_there = subst (λ n. p < n) (sym acting.alike.words.stacks) acting.actor.process

    pub q_there : q < length m.stacks
    q_there = subst (λ n. q < n) (sym acting.alike.words.stacks) is_process

    gone_size : length gone_on ≡ length m.stacks
    gone_size = length-set m.stacks p (record (stack_of m.stacks p) { at = to; operands = left })

    gone_here : stack_of gone_on p ≡ record (stack_of m.stacks p) { at = to; operands = left }
    gone_here = get_or-set_same m.stacks p (record (stack_of m.stacks p) { at = to; operands = left }) no_stack p_there

    gone_there : (r : ℕ) → r ≢ p → stack_of gone_on r ≡ stack_of m.stacks r
    gone_there r off = get_or-set_other m.stacks p r (record (stack_of m.stacks p) { at = to; operands = left }) no_stack off

    base_there : (r : ℕ) → r ≢ q → stack_of base r ≡ stack_of gone_on r
    base_there r off = get_or-set_other gone_on q r (record (stack_of gone_on q) { at = branch }) no_stack off

    base_here : stack_of base q ≡ stack_of branched q
    base_here =
        get_or-set_same gone_on q (record (stack_of gone_on q) { at = branch }) no_stack (subst (λ n. q < n) (sym gone_size) q_there)
        ∙ ap (λ (s : Stack). record s { at = branch }) (gone_there q apart)
        ∙ sym (get_or-set_same m.stacks q (record (stack_of m.stacks q) { at = branch }) no_stack q_there)

    branched_there : (r : ℕ) → r ≢ q → stack_of branched r ≡ stack_of m.stacks r
    branched_there r off = get_or-set_other m.stacks q r (record (stack_of m.stacks q) { at = branch }) no_stack off

    module _ (doing : Doing) (line : ℕ) (does : DoesOn level to left doing)
        (within : IsWithin facts level (own_address level.setting.trial to) d.communications)
        (store' : Store) (stacks' : Stacks) (size : length stacks' ≡ length m.stacks) (same : (r : ℕ) → IsSameStack (stack_of base r) (stack_of stacks' r))
        (holds : StillHolds facts acting.homes acting.entries c.store store' stacks') (doing_q : Doing)
        (behind : RepresentsProcess facts acting.homes acting.entries c.store branched (ticked table) h q (at_work (activity_of g c q) doing_q)
        (withdrawn (descriptor_of m.descriptors q))) where
      -- ### The process that acts, before the message is written

      abbrev m1 : Machine
      m1 = record m { stacks = gone_on }

      abbrev a' : Activity
      a' = record (at_work a doing) { line = line }

      abbrev d' : Descriptor
      d' = record d { line = line }

      actor : IsActor facts acting.homes acting.entries m1 c p level
      actor = actor_moved facts m c p level to left acting

      level_then : IsAtLevel facts acting.homes acting.entries c.store gone_on c.table h p a' d' level
      level_then =
          let old = actor.stands in
          record { count = old.count; seen = old.seen; callers = old.callers; room = old.room; accepts = old.accepts; met = old.met; holds = old.holds }

      at_own : ((stack_of gone_on p).looks_from ≡ None) × (d.scan ≡ None)
      at_own = which actor.trial
        where
          which : TrialIs level.setting.trial facts acting.homes acting.entries c.store gone_on c.table p level a.activations d
              ⊎ HasTried level.setting.trial facts (stack_of gone_on p) level a.activations d → ((stack_of gone_on p).looks_from ≡ None) × (d.scan ≡ None)
          which (inl is) = subst (λ (t : Trial). TrialIs t facts acting.homes acting.entries c.store gone_on c.table p level a.activations d) own is
          which (inr is) = absurd (let no : ⊥ = subst (λ (t : Trial). HasTried t facts (stack_of gone_on p) level a.activations d) own is in no)

      under_way : IsUnderWay facts acting.homes acting.entries c.store gone_on c.table h p a' d'
      under_way =
          record {
            unfinished = ap is_unfinished acting.actor.ready;
            level = level;
            stands = level_then;
            within = subst (λ (s : Stack). IsWithin facts level (own_address level.setting.trial s.at) d.communications) (sym gone_here) within;
            hand = (
              acting.actor.offered,
              ap shows_nothing acting.actor.ready,
              subst (λ (s : Stack). DoesOn level s.at s.operands doing) (sym gone_here) does,
            );
            trial = subst (λ (t : Trial). TrialIs t facts acting.homes acting.entries c.store gone_on c.table p level a'.activations d') (sym own) at_own;
          }

      mine_first : RepresentsProcess facts acting.homes acting.entries c.store gone_on c.table h p a' d'
      mine_first =
          record {
            line = refl;
            spare = actor.spare;
            activations =
                not_empty facts acting.homes acting.entries c.store gone_on c.table h p (stack_of gone_on p).room level
                (word_of (last_activation gone_on p)) d.communications a.activations
                (acting.entries p) a' d' level_then.callers under_way;
          }

      -- ### All

      stays_as : (r : ℕ) (s : Stack) → s ≡ stack_of base r → IsSameStack s (stack_of stacks' r)
      stays_as r s is = subst (λ (x : Stack). IsSameStack x (stack_of stacks' r)) (sym is) (same r)

      stays_at : (r : ℕ) → r ≢ q → StaysAt gone_on stacks' c.table (ticked table) r
      stays_at r off = record { stack = stays_as r (stack_of gone_on r) (sym (base_there r off)); row = row_other r off }

      around : IsQuietAround facts acting.homes acting.entries c.store store' gone_on stacks' c.table (ticked table)
      around =
          record {
            like = holds.like;
            met = met_stays;
            barred = λ r barred. stays_at r (λ is. open_unbarred (at c.table.rows q) waits (subst (λ n. IsBarredStand (at c.table.rows n)) is barred));
          }

      around_partner : IsQuietAround facts acting.homes acting.entries c.store store' branched stacks' (ticked table) (ticked table)
      around_partner =
          record {
            like = holds.like;
            met = λ r s met. refl;
            barred = λ r barred. record { stack = barred_stays r barred; row = refl };
          }
        where
          barred_stays : (r : ℕ) → IsBarredStand (at (ticked table).rows r) → IsSameStack (stack_of branched r) (stack_of stacks' r)
          barred_stays r barred =
              let off : r ≢ q = λ is. barred_not_ready (at (ticked table).rows r) barred (ap (λ n. at (ticked table).rows n) is ∙ row_is) in
              let before : IsBarredStand (at c.table.rows r) = subst (λ (s : Stand). IsBarredStand s) (row_other r off) barred in
              let away : r ≢ p = λ is. barred_not_ready (at c.table.rows r) before (ap (λ n. at c.table.rows n) is ∙ acting.actor.ready) in
              stays_as r (stack_of branched r) (branched_there r off ∙ sym (gone_there r away) ∙ sym (base_there r off))

      mine : RepresentsProcess facts acting.homes acting.entries store' stacks' (ticked table) h p a' d'
      mine =
          stays_kept facts acting.homes acting.entries c.store store' gone_on stacks' c.table (ticked table) h around p a' d'
          (stays_at p (λ is. apart (sym is))) mine_first

      partner : RepresentsProcess facts acting.homes acting.entries store' stacks' (ticked table) h q (at_work (activity_of g c q) doing_q)
          (withdrawn (descriptor_of m.descriptors q))
      partner =
          stays_kept facts acting.homes acting.entries c.store store' branched stacks' (ticked table) (ticked table) h around_partner q
          (at_work (activity_of g c q) doing_q)
          (withdrawn (descriptor_of m.descriptors q)) (record { stack = stays_as q (stack_of branched q) (sym base_here); row = refl }) behind

      -- ### Lists

      abbrev working : Activity
      working = at_work a doing

      abbrev once : List Activity
      once = set c.activities p working

      abbrev behind_it : Activity
      behind_it = at_work (get_or once q (nobody g)) doing_q

      abbrev pub activities : List Activity
      activities = set once q behind_it

      abbrev pub descriptors : List Descriptor
      descriptors = set m.descriptors q (withdrawn (descriptor_of m.descriptors q))

      once_size : length once ≡ length c.activities
      once_size = length-set c.activities p working

      activity_here : record (get_or activities p (nobody g)) { line = line } ≡ a'
      activity_here =
          ap (λ (y : Activity). record y { line = line })
          (get_or-set_other once q p behind_it (nobody g) (λ is. apart (sym is)) ∙ get_or-set_same c.activities p working (nobody g) acting.actor.process)

      activity_partner : get_or activities q (nobody g) ≡ at_work (activity_of g c q) doing_q
      activity_partner =
          get_or-set_same once q behind_it (nobody g) (subst (λ n. q < n) (sym once_size) is_process)
          ∙ ap (λ (y : Activity). at_work y doing_q) (get_or-set_other c.activities p q working (nobody g) apart)

      activity_there : (r : ℕ) → r ≢ p → r ≢ q → get_or activities r (nobody g) ≡ activity_of g c r
      activity_there r off away = get_or-set_other once q r behind_it (nobody g) away ∙ get_or-set_other c.activities p r working (nobody g) off

      descriptor_there : (r : ℕ) → r ≢ q → descriptor_of descriptors r ≡ descriptor_of m.descriptors r
      descriptor_there r off = get_or-set_other m.descriptors q r (withdrawn (descriptor_of m.descriptors q)) (descriptor_by 0) off

      descriptor_partner : descriptor_of descriptors q ≡ withdrawn (descriptor_of m.descriptors q)
      descriptor_partner =
          get_or-set_same m.descriptors q (withdrawn (descriptor_of m.descriptors q)) (descriptor_by 0)
          (subst (λ n. q < n) (sym acting.alike.words.descriptors) is_process)

      others : (r : ℕ) → r ≢ p → (r ≡ q) ⊎ (r ≢ q) → r < length c.activities
          → RepresentsProcess facts acting.homes acting.entries store' stacks' (ticked table) h r (get_or activities r (nobody g)) (descriptor_of descriptors r)
      others r off (inl is) inside =
          subst (λ n. RepresentsProcess facts acting.homes acting.entries store' stacks' (ticked table) h n (get_or activities n (nobody g))
          (descriptor_of descriptors n)) (sym is)
          (subst (λ (y : Activity). RepresentsProcess facts acting.homes acting.entries store' stacks' (ticked table) h q y (descriptor_of descriptors q))
          (sym activity_partner)
          (subst (λ (e : Descriptor). RepresentsProcess facts acting.homes acting.entries store' stacks' (ticked table) h q
          (at_work (activity_of g c q) doing_q) e) (sym descriptor_partner) partner))
      others r off (inr away) inside =
          subst (λ (y : Activity). RepresentsProcess facts acting.homes acting.entries store' stacks' (ticked table) h r y (descriptor_of descriptors r))
          (sym (activity_there r off away))
          (subst (λ (e : Descriptor). RepresentsProcess facts acting.homes acting.entries store' stacks' (ticked table) h r (activity_of g c r) e)
          (sym (descriptor_there r away))
          (stays_kept facts acting.homes acting.entries c.store store' gone_on stacks' c.table (ticked table) h around r (activity_of g c r)
          (descriptor_of m.descriptors r) (stays_at r away)
          (others_moved facts m c p level to left acting r inside off)))

      new_stand : IsNewStand c (at c.table.rows q) (at table.rows q)
      new_stand =
          record {
            unfinished = ap is_unfinished row_is;
            awake = open_awake (at c.table.rows q) waits;
            no_coend = open_no_coend (at c.table.rows q) waits;
            ticket = λ t is. absurd (let no : None ≡ Some t = ap ticket_of (sym row_is) ∙ is in cc);
            due = λ t is. absurd (let no : None ≡ Some t = ap due_of (sym row_is) ∙ is in cc);
          }

      stands_then : (r : ℕ) → (r ≡ q) ⊎ (r ≢ q) → (at table.rows r ≡ at c.table.rows r) ⊎ IsNewStand c (at c.table.rows r) (at table.rows r)
      stands_then r (inl is) = inr (subst (λ n. IsNewStand c (at c.table.rows n) (at table.rows n)) (sym is) new_stand)
      stands_then r (inr off) = inl (row_other r off)

      pub meets_behind : IsBehind facts m c p level acting line activities descriptors store' stacks' table
      meets_behind =
          record {
            activity_count = length-set once q behind_it ∙ once_size;
            descriptor_count = length-set m.descriptors q (withdrawn (descriptor_of m.descriptors q));
            stack_count = size;
            row_count = length-set c.table.rows q Is_ready;
            memory = holds.memory;
            few = holds.few;
            objects = holds.objects;
            rests = acting.alike.between.acting;
            done = refl;
            moment = refl;
            stands = λ r. stands_then r (either r q);
            mine =
                subst (λ (y : Activity). RepresentsProcess facts acting.homes acting.entries store' stacks' (ticked table) h p y
                (record (descriptor_of descriptors p) { line = line }))
                (sym activity_here)
                (subst (λ (e : Descriptor). RepresentsProcess facts acting.homes acting.entries store' stacks' (ticked table) h p a' (record e { line = line }))
                (sym (descriptor_there p (λ is. apart (sym is)))) mine);
            others = λ r off inside. others r off (either r q) inside;
          }
