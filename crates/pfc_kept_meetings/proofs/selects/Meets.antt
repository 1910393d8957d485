-- The process that decides and one that waits both go on, and a message may have been written.
use Rattle.std.proofs.Common.{◌≡◌, ◌≢◌, ℕ, ◌<◌, ℤ, true, List, [], length, set, get_or, Some, None, refl, sym, ap, ◌∙◌, subst, arith, ◌⊎◌, inl, inr}
use Rattle.std.proofs.lemmas.List.{get_or-set_same, get_or-set_other, length-set}
use Rattle.pfc_state.specs.Stands.{Stand, Is_ready, Waits, is_unfinished, ticket_of, due_of}
use Rattle.pfc_state.specs.declared.waits.Why.TheVariants.{Barred}
use Rattle.pfc_world.specs.Tables.{Table, at}
use Rattle.pfc_world.specs.Transitions.{placed, ticked}
use Rattle.pfc_semantics.specs.Programs.{Program}
use Rattle.pfc_semantics.specs.Rewriting.{Doing}
use Rattle.pfc_semantics.specs.Store.{Store}
use Rattle.pfc_semantics.specs.Configurations.{empty_hand, Activity, Config, nobody, activity_of, at_work}
use Rattle.pfc_stacks.specs.Stacks.{Stack, Stacks, no_stack, stack_of, operands_of}
use Rattle.pfc_stacks.specs.Effects.{moved}
use Rattle.pfc_machines.specs.declared.machine.Machine.{Machine}
use Rattle.pfc_machines.specs.declared.descriptors.Descriptor.{Descriptor}
use Rattle.pfc_machines.specs.Communications.{Communicating}
use Rattle.pfc_machines.specs.Descriptors.{descriptor_by, descriptor_of, withdrawn}
use Rattle.pfc_standing_code.specs.Settings.{of_own}
use Rattle.pfc_representation.specs.Levels.{Facts, program_in, LivingLevel}
use Rattle.pfc_representation.specs.Holding.{Holders, holders_in}
use Rattle.pfc_representation.specs.Keeping.{IsSameStack}
use Rattle.pfc_representation.specs.Processes.{RepresentsProcess}
use Rattle.pfc_representation.specs.Acting.{IsActing}
use Rattle.pfc_representation.proofs.Quiet.{others_moved}
use Rattle.pfc_kept_object_actions.proofs.Change.{row_there}
use Rattle.pfc_kept_messages.proofs.Others.{IsBarredStand, StaysAt, IsQuietAround, stays_kept}
use Rattle.pfc_kept_messages.proofs.Sight.{StillHolds}
use Rattle.pfc_kept_messages.proofs.Partner.{is_open_stand, open_awake, open_no_coend, open_unbarred}
use Rattle.pfc_kept_messages.proofs.Meeting.{apart, is_process, row_is, met_stays, q_there, base}
use Rattle.pfc_kept_messages.proofs.Whole.{IsNewStand, IsBehind}
use Rattle.pfc_kept_meetings.proofs.selects.Alone.{DecidesAlone, process_here}

either : (q p : ℕ) → (q ≡ p) ⊎ (q ≢ p)
either q p = grind arith

barred_not_ready : (s : Stand) → IsBarredStand s → s ≡ Is_ready → ⊥
barred_not_ready s barred ready = (let no : Waits (Barred barred.resource barred.procedure) barred.ticket [] ≡ Is_ready = sym barred.is ∙ ready in cc)

module _ (facts : Facts) (m : Machine) (c : Config) (p : ℕ) (level : LivingLevel) (acting : IsActing facts m c p level) (own : level.setting.trial ≡ of_own)
    (q : ℕ) (waits : is_open_stand (at c.table.rows q) ≡ true) (latest : Communicating) (to : ℕ) (doing : Doing) (line : ℕ)
    (alone : DecidesAlone facts m c p level acting own [] latest (descriptor_of m.descriptors p).offered c.table to doing empty_hand line) (branch : ℕ) where
  abbrev g : Program
  g = program_in facts

  abbrev h : Holders
  h = holders_in facts c

  abbrev a : Activity
  a = activity_of g c p

  abbrev d : Descriptor
  d = descriptor_of m.descriptors p

  abbrev left : List ℤ
  left = operands_of m.stacks p

  abbrev table : Table
  table = placed c.table q Is_ready

  abbrev gone_on : Stacks
  gone_on = moved m.stacks p to left

  abbrev branched : Stacks
  branched = set m.stacks q (record (stack_of m.stacks q) { at = branch })

  off_it : q ≢ p
  off_it = apart facts m c p level acting own q waits

  row_other : (r : ℕ) → r ≢ q → at (ticked table).rows r ≡ at c.table.rows r
  row_other r off = row_there c.table.rows q r Is_ready off

  gone_there : (r : ℕ) → r ≢ p → stack_of gone_on r ≡ stack_of m.stacks r
  gone_there r off = get_or-set_other m.stacks p r (record (stack_of m.stacks p) { at = to; operands = left }) no_stack off

  abbrev its_base : Stacks
  its_base = base facts m c p level acting own q waits to left branch

  base_there : (r : ℕ) → r ≢ q → stack_of its_base r ≡ stack_of gone_on r
  base_there r off = get_or-set_other gone_on q r (record (stack_of gone_on q) { at = branch }) no_stack off

  q_inside : q < length m.stacks
  q_inside = q_there facts m c p level acting own q waits to left branch

  base_here : stack_of its_base q ≡ stack_of branched q
  base_here =
      get_or-set_same gone_on q (record (stack_of gone_on q) { at = branch }) no_stack
      (subst (λ n. q < n) (sym (length-set m.stacks p (record (stack_of m.stacks p) { at = to; operands = left }))) q_inside)
      ∙ ap (λ (s : Stack). record s { at = branch }) (gone_there q off_it)
      ∙ sym (get_or-set_same m.stacks q (record (stack_of m.stacks q) { at = branch }) no_stack q_inside)

  branched_there : (r : ℕ) → r ≢ q → stack_of branched r ≡ stack_of m.stacks r
  branched_there r off = get_or-set_other m.stacks q r (record (stack_of m.stacks q) { at = branch }) no_stack off

  module _ (store' : Store) (stacks' : Stacks) (size : length stacks' ≡ length m.stacks)
      (same : (r : ℕ) → IsSameStack (stack_of (base facts m c p level acting own q waits to left branch) r) (stack_of stacks' r))
      (holds : StillHolds facts acting.homes acting.entries c.store store' stacks') (doing_q : Doing)
      (behind : RepresentsProcess facts acting.homes acting.entries c.store (set m.stacks q (record (stack_of m.stacks q) { at = branch }))
      (ticked (placed c.table q Is_ready)) (holders_in facts c) q (at_work (activity_of (program_in facts) c q) doing_q)
      (withdrawn (descriptor_of m.descriptors q))) where
    abbrev a' : Activity
    a' = record a { doing = doing; hand = empty_hand; line = line }

    abbrev d' : Descriptor
    d' = record d { line = line; communications = latest; offered = d.offered }

    stays_as : (r : ℕ) (s : Stack) → s ≡ stack_of its_base r → IsSameStack s (stack_of stacks' r)
    stays_as r s is = subst (λ (x : Stack). IsSameStack x (stack_of stacks' r)) (sym is) (same r)

    stays_at : (r : ℕ) → r ≢ q → StaysAt gone_on stacks' c.table (ticked table) r
    stays_at r off = record { stack = stays_as r (stack_of gone_on r) (sym (base_there r off)); row = row_other r off }

    not_barred : (r : ℕ) → IsBarredStand (at c.table.rows r) → r ≢ q
    not_barred r barred is = open_unbarred (at c.table.rows q) waits (subst (λ n. IsBarredStand (at c.table.rows n)) is barred)

    around : IsQuietAround facts acting.homes acting.entries c.store store' gone_on stacks' c.table (ticked table)
    around =
        record {
          like = holds.like;
          met = met_stays facts m c p level acting own q waits;
          barred = λ r barred. stays_at r (not_barred r barred);
        }

    around_mine : IsQuietAround facts acting.homes acting.entries c.store store' gone_on stacks' (ticked c.table) (ticked table)
    around_mine =
        record {
          like = holds.like;
          met = met_stays facts m c p level acting own q waits;
          barred = λ r barred.
              record { stack = stays_as r (stack_of gone_on r) (sym (base_there r (not_barred r barred))); row = row_other r (not_barred r barred) };
        }

    around_partner : IsQuietAround facts acting.homes acting.entries c.store store' branched stacks' (ticked table) (ticked table)
    around_partner =
        record {
          like = holds.like;
          met = λ r s met. refl;
          barred = λ r barred. record { stack = barred_stays r barred; row = refl };
        }
      where
        barred_stays : (r : ℕ) → IsBarredStand (at (ticked table).rows r) → IsSameStack (stack_of branched r) (stack_of stacks' r)
        barred_stays r barred =
            let off : r ≢ q = λ is. barred_not_ready (at (ticked table).rows r) barred
            (ap (λ n. at (ticked table).rows n) is ∙ row_is facts m c p level acting own q waits) in
            let before : IsBarredStand (at c.table.rows r) = subst (λ (s : Stand). IsBarredStand s) (row_other r off) barred in
            let away : r ≢ p = λ is. barred_not_ready (at c.table.rows r) before (ap (λ n. at c.table.rows n) is ∙ acting.actor.ready) in
            stays_as r (stack_of branched r) (branched_there r off ∙ sym (gone_there r away) ∙ sym (base_there r off))

    mine : RepresentsProcess facts acting.homes acting.entries store' stacks' (ticked table) h p a' d'
    mine =
        stays_kept facts acting.homes acting.entries c.store store' gone_on stacks' (ticked c.table) (ticked table) h around_mine p a' d'
        (record { stack = stays_as p (stack_of gone_on p) (sym (base_there p (λ is. off_it (sym is)))); row = row_other p (λ is. off_it (sym is)) })
        (process_here facts m c p level acting own [] latest d.offered c.table to doing empty_hand line alone)

    partner : RepresentsProcess facts acting.homes acting.entries store' stacks' (ticked table) h q (at_work (activity_of g c q) doing_q)
        (withdrawn (descriptor_of m.descriptors q))
    partner =
        stays_kept facts acting.homes acting.entries c.store store' branched stacks' (ticked table) (ticked table) h around_partner q
        (at_work (activity_of g c q) doing_q)
        (withdrawn (descriptor_of m.descriptors q)) (record { stack = stays_as q (stack_of branched q) (sym base_here); row = refl }) behind

    -- ## Lists

    abbrev working : Activity
    working = at_work a doing

    abbrev once : List Activity
    once = set c.activities p working

    abbrev behind_it : Activity
    behind_it = at_work (get_or once q (nobody g)) doing_q

    abbrev pub activities : List Activity
    activities = set once q behind_it

    abbrev forgot : Descriptor
    forgot = record d { communications = latest }

    abbrev made_once : List Descriptor
    made_once = set m.descriptors p forgot

    abbrev pub descriptors : List Descriptor
    descriptors = set made_once q (withdrawn (descriptor_of made_once q))

    once_size : length once ≡ length c.activities
    once_size = length-set c.activities p working

    made_size : length made_once ≡ length m.descriptors
    made_size = length-set m.descriptors p forgot

    q_process : q < length c.activities
    q_process = is_process facts m c p level acting own q waits

    activity_here : record (get_or activities p (nobody g)) { line = line } ≡ a'
    activity_here =
        ap (λ (y : Activity). record y { line = line })
        (get_or-set_other once q p behind_it (nobody g) (λ is. off_it (sym is)) ∙ get_or-set_same c.activities p working (nobody g) acting.actor.process)

    activity_partner : get_or activities q (nobody g) ≡ at_work (activity_of g c q) doing_q
    activity_partner =
        get_or-set_same once q behind_it (nobody g) (subst (λ n. q < n) (sym once_size) q_process)
        ∙ ap (λ (y : Activity). at_work y doing_q) (get_or-set_other c.activities p q working (nobody g) off_it)

    activity_there : (r : ℕ) → r ≢ p → r ≢ q → get_or activities r (nobody g) ≡ activity_of g c r
    activity_there r off away = get_or-set_other once q r behind_it (nobody g) away ∙ get_or-set_other c.activities p r working (nobody g) off

    descriptor_here : record (descriptor_of descriptors p) { line = line } ≡ d'
    descriptor_here =
        ap (λ (y : Descriptor). record y { line = line })
        (get_or-set_other made_once q p (withdrawn (descriptor_of made_once q)) (descriptor_by 0) (λ is. off_it (sym is))
        ∙ get_or-set_same m.descriptors p forgot (descriptor_by 0) (subst (λ n. p < n) (sym acting.alike.words.descriptors) acting.actor.process))

    descriptor_partner : descriptor_of descriptors q ≡ withdrawn (descriptor_of m.descriptors q)
    descriptor_partner =
        get_or-set_same made_once q (withdrawn (descriptor_of made_once q)) (descriptor_by 0)
        (subst (λ n. q < n) (sym (made_size ∙ acting.alike.words.descriptors)) q_process)
        ∙ ap withdrawn (get_or-set_other m.descriptors p q forgot (descriptor_by 0) off_it)

    descriptor_there : (r : ℕ) → r ≢ p → r ≢ q → descriptor_of descriptors r ≡ descriptor_of m.descriptors r
    descriptor_there r off away =
        get_or-set_other made_once q r (withdrawn (descriptor_of made_once q)) (descriptor_by 0) away
        ∙ get_or-set_other m.descriptors p r forgot (descriptor_by 0) off

    abbrev IsThere : ℕ → Activity → Descriptor → Type 0
    IsThere r y e = RepresentsProcess facts acting.homes acting.entries store' stacks' (ticked table) h r y e

    others : (r : ℕ) → r ≢ p → (r ≡ q) ⊎ (r ≢ q) → r < length c.activities → IsThere r (get_or activities r (nobody g)) (descriptor_of descriptors r)
    others r off (inl is) inside =
        subst (λ n. IsThere n (get_or activities n (nobody g)) (descriptor_of descriptors n)) (sym is)
        (subst (λ (y : Activity). IsThere q y (descriptor_of descriptors q)) (sym activity_partner)
        (subst (λ (e : Descriptor). IsThere q (at_work (activity_of g c q) doing_q) e) (sym descriptor_partner) partner))
    others r off (inr away) inside =
        subst (λ (y : Activity). IsThere r y (descriptor_of descriptors r)) (sym (activity_there r off away))
        (subst (λ (e : Descriptor). IsThere r (activity_of g c r) e) (sym (descriptor_there r off away))
        (stays_kept facts acting.homes acting.entries c.store store' gone_on stacks' c.table (ticked table) h around r (activity_of g c r)
        (descriptor_of m.descriptors r) (stays_at r away)
        (others_moved facts m c p level to left acting r inside off)))

    new_stand : IsNewStand c (at c.table.rows q) (at table.rows q)
    new_stand =
        let ready = row_is facts m c p level acting own q waits in
        record {
          unfinished = ap is_unfinished ready;
          awake = open_awake (at c.table.rows q) waits;
          no_coend = open_no_coend (at c.table.rows q) waits;
          ticket = λ t is. absurd (let no : None ≡ Some t = ap ticket_of (sym ready) ∙ is in cc);
          due = λ t is. absurd (let no : None ≡ Some t = ap due_of (sym ready) ∙ is in cc);
        }

    stands_then : (r : ℕ) → (r ≡ q) ⊎ (r ≢ q) → (at table.rows r ≡ at c.table.rows r) ⊎ IsNewStand c (at c.table.rows r) (at table.rows r)
    stands_then r (inl is) = inr (subst (λ n. IsNewStand c (at c.table.rows n) (at table.rows n)) (sym is) new_stand)
    stands_then r (inr off) = inl (row_other r off)

    pub meets_behind : IsBehind facts m c p level acting line activities descriptors store' stacks' table
    meets_behind =
        record {
          activity_count = length-set once q behind_it ∙ once_size;
          descriptor_count = length-set made_once q (withdrawn (descriptor_of made_once q)) ∙ made_size;
          stack_count = size;
          row_count = length-set c.table.rows q Is_ready;
          memory = holds.memory;
          few = holds.few;
          objects = holds.objects;
          rests = acting.alike.between.acting;
          done = refl;
          moment = refl;
          stands = λ r. stands_then r (either r q);
          mine =
              subst (λ (y : Activity). IsThere p y (record (descriptor_of descriptors p) { line = line })) (sym activity_here)
              (subst (λ (e : Descriptor). IsThere p a' e) (sym descriptor_here) mine);
          others = λ r off inside. others r off (either r q) inside;
        }
