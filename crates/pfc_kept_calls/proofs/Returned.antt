-- An activation that was called from inside its module ends: its caller goes on.
use Rattle.std.proofs.Common.{◌≡◌, ◌≢◌, ℕ, suc, ◌+◌, ◌-◌, ◌^◌, ◌<◌, ◌≤◌, ℤ, pos, List, [], ◌∷◌, length, set, get_or, All, Option}
use Rattle.std.proofs.Common.{Some, None, refl, sym, ap, ◌∙◌, subst, arith, ◌⊎◌, inl, inr}
use Rattle.std.proofs.lemmas.List.{get_or-set_same, length-set}
use Rattle.pfc_base.specs.declared.faults.RunFault.TheVariants.{Stack as Full}
use Rattle.pfc_code.specs.declared.instructions.Instr.TheVariants.{END}
use Rattle.pfc_state.specs.Stands.{is_unfinished}
use Rattle.pfc_world.specs.Tables.{at}
use Rattle.pfc_world.specs.Transitions.{ticked}
use Rattle.pfc_semantics.specs.Store.{Store, without}
use Rattle.pfc_semantics.specs.Programs.{Program}
use Rattle.pfc_semantics.specs.Rewriting.{Doing}
use Rattle.pfc_semantics.specs.Configurations.{Activation, Activity, Config, activity_of, with_activity, at_work, done_at}
use Rattle.pfc_semantics.specs.Calls.{left_by}
use Rattle.pfc_stacks.specs.Refs.{word_of, number_of}
use Rattle.pfc_stacks.specs.Stacks.{Stack, Stacks, no_stack, stack_of, own_word, last_activation}
use Rattle.pfc_stacks.specs.Activations.{returned}
use Rattle.pfc_cells.specs.Homes.{Home}
use Rattle.pfc_cells.specs.Memory.{Entry, Entries}
use Rattle.pfc_cells.specs.Activations.{with_entries}
use Rattle.pfc_machines.specs.declared.machine.Machine.{Machine}
use Rattle.pfc_machines.specs.declared.descriptors.Descriptor.{Descriptor}
use Rattle.pfc_machines.specs.declared.descriptors.Scan.{Scan as MachineScan}
use Rattle.pfc_machines.specs.Actions.{at_rest}
use Rattle.pfc_machines.specs.Communications.{Communicating}
use Rattle.pfc_machines.specs.Descriptors.{descriptor_of, left as one_less}
use Rattle.pfc_machine_acts.specs.Acting.{acted}
use Rattle.pfc_standing_code.specs.Settings.{Trial, of_own, of_turn, of_another}
use Rattle.pfc_standing_code.specs.Performs.{own_room}
use Rattle.pfc_stack_laws.specs.Standing.{HoldStore}
use Rattle.pfc_call_laws.proofs.Returning.{held_left}
use Rattle.pfc_representation.specs.Levels.{Facts, program_in, LivingLevel, in_turn, DoesOn, IsSeenBy}
use Rattle.pfc_representation.specs.Rooms.{process_count, guards_room, own_address, MayMeet}
use Rattle.pfc_representation.specs.Callers.{StandsFor, Linkage, linkage_words, IsWithin, AreCallers}
use Rattle.pfc_representation.specs.Hands.{shows_nothing}
use Rattle.pfc_representation.specs.Holding.{Holders, holders_in, HoldsFor, HoldsScanned}
use Rattle.pfc_representation.specs.Trials.{TrialIs, HasTried}
use Rattle.pfc_representation.specs.Processes.{IsAtLevel, IsUnderWay, RepresentsProcess}
use Rattle.pfc_representation.specs.Machines.{SharesWords, HoldsStore, AreAlike, Represents}
use Rattle.pfc_representation.specs.Keeping.{IsLender, IsUntouched}
use Rattle.pfc_representation.specs.Acting.{IsActing}
use Rattle.pfc_representation.proofs.Kept.{seen_still, callers_still, process_still}
use Rattle.pfc_representation.proofs.Quiet.{tried_waits}
use Rattle.pfc_kept_calls.proofs.Tops.{same_cell}
use Rattle.pfc_kept_calls.proofs.Lists.{stack_beside, own_activity, other_activity, as_many_activities, own_descriptor, other_descriptor}
use Rattle.pfc_kept_calls.proofs.Lists.{as_many_descriptors}
use Rattle.pfc_kept_calls.proofs.Turned.{IsOwnTurn, seen_turned, callers_turned}
use Rattle.pfc_kept_calls.proofs.Beginnings.{end_within}
use Rattle.pfc_kept_calls.proofs.Faults.{world_then}
use Rattle.pfc_kept_calls.proofs.Caller.{lender_apart, ticks, kinds_still, entries_here, entries_there, outer, hold}
use Rattle.pfc_kept_calls.proofs.Ended.{HasCaller, caller_of, first_stands, operands_fit, as_before, not_below, only_here, no_objects, like_ended, own_is}
use Rattle.pfc_kept_calls.proofs.Ended.{caller_small, number_back}

either_number : (n k : ℕ) → (n ≡ k) ⊎ (n ≢ k)
either_number n k = grind arith

module _ (facts : Facts) (m : Machine) (c : Config) (p : ℕ) (level : LivingLevel) (acting : IsActing facts m c p level)
    (more : level.setting.last ≡ END → ⊥) where
  abbrev pub g : Program
  g = program_in facts

  abbrev pub a : Activity
  a = activity_of g c p

  abbrev pub d : Descriptor
  d = descriptor_of m.descriptors p

  abbrev pub s : Stack
  s = stack_of m.stacks p

  abbrev pub w : ℤ
  w = word_of (last_activation m.stacks p)

  pub has : HasCaller facts acting.homes acting.entries c.store c.table p s.room level w d.communications a.activations (acting.entries p)
  has = caller_of facts acting.homes acting.entries c.store c.table p s.room level w d.communications a.activations
      (acting.entries p) more acting.actor.stands.callers

  abbrev pub e : Entry
  e = has.entry

  abbrev pub rest : List Entry
  rest = has.under ∷ has.below

  abbrev pub home : Home
  home = has.called.stands.home

  pub home_at : acting.homes e.activation ≡ Some home
  home_at = ap acting.homes has.called.stands.number ∙ has.called.stands.at

  pub base : home.cell ≡ s.base
  base = sym (same_cell p s.base home.cell (has.called.stands.word ∙ ap (λ q. word_of (record { process = q; cell = home.cell })) has.called.stands.process))

  -- ## Where the caller goes on

  abbrev pub own : Linkage
  own = has.called.own

  its : (mine : Linkage) × StandsFor facts acting.homes c.store p has.next has.under has.v mine has.outer
  its = first_stands facts acting.homes acting.entries c.store c.table p s.room has.outer has.v has.earlier has.next has.rest has.under has.below has.others

  same_home : its.1.home ≡ has.called.home
  same_home = (let both : Some its.1.home ≡ Some has.called.home = sym its.1.at ∙ has.called.at in cc)

  caller_there : own.caller ≡ its.1.home.cell
  caller_there = has.called.caller ∙ ap (λ (x : Home). x.cell) (sym same_home)

  address_small : own.address < 2 ^ 32
  address_small =
      let (k, code, is, goes) = has.within in
      let before = goes.before in
      let all = end_within facts k in
      let short = acting.alike.program.short in
      omega (arith, before, all, short)

  own_there : (k : ℕ) → k < 8 → own_word s k ≡ get_or (linkage_words own) k (pos 0)
  own_there k few =
      own_is facts acting.homes acting.entries c.store m.stacks c.table.done acting.alike.holds p e has.under has.below has.entries_are home home_at base k few
      ∙ ap (λ ws. get_or ws k (pos 0)) has.called.stands.words

  pub back_at : (returned s).at ≡ own.address
  back_at = ap number_of (own_there 0 (omega arith)) ∙ number_back own.address address_small

  back_base : (returned s).base ≡ own.caller
  back_base =
      ap number_of (own_there 4 (omega arith))
      ∙ number_back own.caller (subst (λ n. n < 2 ^ 32) (sym caller_there)
      (caller_small facts acting.homes acting.entries c.store m.stacks c.table.done acting.alike.holds p e has.under has.below has.entries_are home
      home_at its.1.home
      (ap acting.homes its.1.number ∙ its.1.at)))

  pub mark_there : own_word s 2 ≡ get_or (linkage_words own) 2 (pos 0)
  mark_there = own_there 2 (omega arith)

  pub block_there : own_word s 1 ≡ get_or (linkage_words own) 1 (pos 0)
  block_there = own_there 1 (omega arith)

  -- ## What changes for all

  abbrev pub entries : Entries
  entries = with_entries acting.entries p rest

  abbrev pub store : Store
  store = without c.store e.activation

  lenders_stay : (q r : ℕ) → IsLender c.table q r → (at (ticked c.table).rows r ≡ at c.table.rows r) × (entries r ≡ acting.entries r)
  lenders_stay q r lender = (refl, entries_there acting.entries p rest r (lender_apart c.table p q r acting.actor.ready lender))

  there : p < length m.stacks
  there = subst (λ n. p < n) (sym acting.alike.words.stacks) acting.actor.process

  module _ (left : List ℤ) (to : ℕ) where
    abbrev pub stack : Stack
    stack = record (returned s) { operands = left; at = to }

    abbrev pub stacks : Stacks
    stacks = set m.stacks p stack

    new_hold : HoldStore (outer facts m c p level acting) acting.homes entries store stacks
    new_hold =
        held_left (outer facts m c p level acting) acting.homes acting.entries c.store m.stacks p e rest
        (hold facts m c p level acting) has.entries_are home home_at base
        (no_objects facts acting.homes acting.entries c.store m.stacks c.table.done acting.alike.holds p e has.under has.below has.entries_are home
        home_at) stack refl there

    -- ## The caller

    pub is_stack : stack_of stacks p ≡ stack
    is_stack = get_or-set_same m.stacks p stack no_stack there

    abbrev pub h : Holders
    h = holders_in facts c

    old_seen : IsSeenBy facts acting.homes entries store (ticked c.table) p has.earlier.callers rest has.v has.top.display has.outer
    old_seen =
        seen_still facts p acting.homes acting.homes acting.entries entries c.store store c.table (ticked c.table) rest (λ y x is. is)
        (λ keeps these. like_ended facts acting.homes acting.entries c.store m.stacks c.table.done acting.alike.holds p e has.under has.below
        has.entries_are home home_at c.table p rest
        (not_below facts acting.homes acting.entries c.store m.stacks c.table.done acting.alike.holds p e has.under has.below has.entries_are home home_at)
        (λ r lender. lender_apart c.table p p r acting.actor.ready lender) keeps these)
        (λ r lender. lenders_stay p r lender) has.earlier.callers rest has.v has.top.display has.outer (λ y among. among) has.called.seen

    old_callers : AreCallers facts acting.homes entries store (ticked c.table) p s.room has.outer has.v has.earlier (has.next ∷ has.rest) rest
    old_callers =
        callers_still facts p acting.homes acting.homes acting.entries entries c.store store c.table (ticked c.table) rest (λ y x is. is)
        (λ keeps these. like_ended facts acting.homes acting.entries c.store m.stacks c.table.done acting.alike.holds p e has.under has.below
        has.entries_are home home_at c.table p rest
        (not_below facts acting.homes acting.entries c.store m.stacks c.table.done acting.alike.holds p e has.under has.below has.entries_are home home_at)
        (λ r lender. lender_apart c.table p p r acting.actor.ready lender) keeps these)
        (λ r lender. lenders_stay p r lender) s.room has.outer has.v has.earlier (has.next ∷ has.rest) rest (λ y among. among) has.others

    word_back : has.v ≡ word_of (last_activation stacks p)
    word_back =
        its.1.word ∙ ap (λ q. word_of (record { process = q; cell = its.1.home.cell })) its.1.process
        ∙ ap (λ n. word_of (record { process = p; cell = n })) (sym caller_there ∙ sym back_base ∙ sym (ap (λ (x : Stack). x.base) is_stack))

    all_hold : All (λ (x : Activation). HoldsFor h p (at c.table.rows p) x.mark) (has.top ∷ (has.next ∷ has.rest)) → All
        (λ (x : Activation). HoldsFor h p (at c.table.rows p) x.mark) (has.next ∷ has.rest)
    all_hold old j x less = old (suc j) x (omega (arith, less))

    module _ (none : level.arms ≡ []) (unmet : level.setting.meetings ≡ []) (own_trial : level.setting.trial ≡ of_own) where
      same_made : has.earlier ≡ d.communications
      same_made = as_before (length (has.top ∷ (has.next ∷ has.rest))) level has.earlier d.communications none unmet has.called.made

      pub room_fits : has.outer.setting.room ≤ s.room
      room_fits =
          let fits = operands_fit facts acting.homes acting.entries c.store c.table p s.room has.outer has.v has.earlier
          (has.next ∷ has.rest) rest has.others in
          subst (λ (t : Trial). own_room t has.outer.setting.room + guards_room facts ≤ s.room → has.outer.setting.room ≤ s.room) (sym has.called.trial)
          (λ k. omega (arith, k)) fits

      -- before a turn, or in no scan
      abbrev pub now : Trial → LivingLevel
      now trial = in_turn has.outer trial

      outer_plainly : has.outer ≡ now of_own
      outer_plainly = ap (λ (t : Trial). in_turn has.outer t) has.called.trial

      seen_now : (trial : Trial) → IsOwnTurn trial → IsSeenBy facts acting.homes entries store
          (ticked c.table) p has.earlier.callers rest has.v has.top.display (now trial)
      seen_now of_own is = subst (λ (l : LivingLevel). IsSeenBy facts acting.homes entries store
          (ticked c.table) p has.earlier.callers rest has.v has.top.display l) outer_plainly old_seen
      seen_now (of_turn scan back) is =
          seen_turned facts acting.homes entries store (ticked c.table) p has.outer scan back has.earlier.callers rest has.v has.top.display
          (subst (λ (l : LivingLevel). IsSeenBy facts acting.homes entries store
          (ticked c.table) p has.earlier.callers rest has.v has.top.display l) outer_plainly old_seen)
      seen_now (of_another attempt) is = absurd is

      callers_now : (trial : Trial) → IsOwnTurn trial → AreCallers facts acting.homes entries store (ticked c.table) p s.room
          (now trial) has.v has.earlier (has.next ∷ has.rest) rest
      callers_now of_own is = subst (λ (l : LivingLevel). AreCallers facts acting.homes entries store (ticked c.table) p s.room l has.v has.earlier
          (has.next ∷ has.rest) rest) outer_plainly old_callers
      callers_now (of_turn scan back) is =
          callers_turned facts acting.homes entries store (ticked c.table) p has.outer scan back s.room has.v has.earlier (has.next ∷ has.rest) rest
          (subst (λ (l : LivingLevel). AreCallers facts acting.homes entries store (ticked c.table) p s.room l has.v has.earlier
          (has.next ∷ has.rest) rest) outer_plainly old_callers)
      callers_now (of_another attempt) is = absurd is

      within_now : (trial : Trial) → IsOwnTurn trial → (i : ℕ) → IsWithin facts has.outer i d.communications → IsWithin facts (now trial) i d.communications
      within_now of_own is i within = subst (λ (l : LivingLevel). IsWithin facts l i d.communications) outer_plainly within
      within_now (of_turn scan back) is i within = (let plainly : IsWithin facts (now of_own) i d.communications = subst
          (λ (l : LivingLevel). IsWithin facts l i d.communications) outer_plainly within in plainly)
      within_now (of_another attempt) is i within = absurd is

      module _ (trial : Trial) (own_turn : IsOwnTurn trial) (scanned : HoldsScanned h p trial) (scan : Option MachineScan) where
        abbrev pub d1 : Descriptor
        d1 = record (one_less d) { scan = scan }

        new_level : IsAtLevel facts acting.homes entries store stacks (ticked c.table) h p
            (record a { activations = has.next ∷ has.rest; display = has.top.display }) d1 (now trial)
        new_level =
            let old = acting.actor.stands in
            let seen : IsSeenBy facts acting.homes entries store (ticked c.table) p d.communications.callers (entries p) (word_of
            (last_activation stacks p)) has.top.display (now trial) =
            subst (λ (es : List Entry). IsSeenBy facts acting.homes entries store (ticked c.table) p d.communications.callers es (word_of
            (last_activation stacks p)) has.top.display (now trial)) (sym (entries_here acting.entries p rest))
            (subst (λ (v : ℤ). IsSeenBy facts acting.homes entries store (ticked c.table) p d.communications.callers rest v has.top.display
            (now trial)) word_back
            (subst (λ (x : Communicating). IsSeenBy facts acting.homes entries store (ticked c.table) p x.callers rest has.v has.top.display
            (now trial)) same_made (seen_now trial own_turn))) in
            let callers : AreCallers facts acting.homes entries store (ticked c.table) p (stack_of stacks p).room (now trial) (word_of
            (last_activation stacks p)) d.communications (has.next ∷ has.rest) (entries p) =
            subst (λ (es : List Entry). AreCallers facts acting.homes entries store (ticked c.table) p (stack_of stacks p).room (now trial) (word_of
            (last_activation stacks p)) d.communications (has.next ∷ has.rest) es) (sym (entries_here acting.entries p rest))
            (subst (λ (v : ℤ). AreCallers facts acting.homes entries store (ticked c.table) p (stack_of stacks p).room (now trial) v d.communications
            (has.next ∷ has.rest) rest) word_back
            (subst (λ (x : Stack). AreCallers facts acting.homes entries store (ticked c.table) p x.room (now trial) has.v d.communications
            (has.next ∷ has.rest) rest) (sym is_stack)
            (subst (λ (x : Communicating). AreCallers facts acting.homes entries store (ticked c.table) p s.room (now trial) has.v x
            (has.next ∷ has.rest) rest) same_made (callers_now trial own_turn)))) in
            record {
              count = ap (λ n. n - 1) (old.count ∙ ap (λ (xs : List Activation). length xs) has.activations) ∙ one_fewer (length (has.next ∷ has.rest));
              seen = seen;
              callers = callers;
              room = subst (λ (x : Stack). has.outer.setting.room ≤ x.room) (sym is_stack) room_fits;
              accepts = subst (λ (x : Communicating). MayMeet (process_count facts) x.room.meetings has.outer.arms) same_made has.called.accepts;
              met = record { waiting = old.met.waiting; once = old.met.once };
              holds = record {
                entered = all_hold (subst (λ (xs : List Activation). All (λ (x : Activation). HoldsFor h p
                    (at c.table.rows p) x.mark) xs) has.activations old.holds.entered);
                scanned = scanned;
              };
            }
          where
            one_fewer : (n : ℕ) → suc n - 1 ≡ n
            one_fewer n = omega arith

      trial_here : (s.looks_from ≡ None) × (d.scan ≡ None)
      trial_here = which acting.actor.trial
        where
          which : TrialIs level.setting.trial facts acting.homes acting.entries c.store m.stacks c.table p level a.activations d ⊎ HasTried
              level.setting.trial facts s level a.activations d
              → (s.looks_from ≡ None) × (d.scan ≡ None)
          which (inl is) = subst (λ (t : Trial). TrialIs t facts acting.homes acting.entries c.store m.stacks c.table p level a.activations d) own_trial is
          which (inr is) = absurd (subst (λ (t : Trial). HasTried t facts s level a.activations d) own_trial is)

      -- ## What the others keep

      untouched : (q : ℕ) → q ≢ p → IsUntouched facts q acting.homes acting.homes acting.entries entries c.store store m.stacks stacks c.table
          (ticked c.table)
      untouched q apart = record {
        like = λ keeps these. like_ended facts acting.homes acting.entries c.store m.stacks c.table.done acting.alike.holds p e has.under has.below
            has.entries_are home home_at c.table q (acting.entries q)
            (only_here facts acting.homes acting.entries c.store m.stacks c.table.done acting.alike.holds p e has.under has.below has.entries_are
            home home_at q apart)
            (λ r lender. lender_apart c.table p q r acting.actor.ready lender) keeps these;
        lenders = λ r lender. lenders_stay q r lender;
        stack = stack_beside m.stacks p stack q apart;
        entries_same = entries_there acting.entries p rest q apart;
        row = refl;
      }

      other_still : (q : ℕ) → q < length c.activities → q ≢ p → RepresentsProcess facts acting.homes entries store stacks (ticked c.table) h q
          (activity_of g c q) (descriptor_of m.descriptors q)
      other_still q less apart =
          let old = acting.others q less apart in
          let x : Descriptor = descriptor_of m.descriptors q in
          process_still facts q x acting.homes acting.homes acting.entries entries c.store store m.stacks stacks c.table (ticked c.table) h h
          (record {
            at_home = λ y there is. is;
            untouched = untouched q apart;
            tried = λ r tried. untouched r (λ same. tried_waits facts acting.homes acting.entries c.store m.stacks c.table h q x
                (activity_of g c q) r old tried (ap (λ n. at c.table.rows n) same ∙ acting.actor.ready));
            holds = record { owners = refl; monitors = λ n held. held; resources = λ n held. held };
          }) (activity_of g c q) old

      -- ## The process that returns

      module _ (trial : Trial) (own_turn : IsOwnTurn trial) (scanned : HoldsScanned h p trial) (scan : Option MachineScan) (doing : Doing)
          (does : DoesOn (now trial) to left doing)
          (goes_at : own_address trial to ≡ own.address) (scans : (s.looks_from ≡ None) × (d.scan ≡ None)
          → TrialIs trial facts acting.homes entries store stacks (ticked c.table) p (now trial) (has.next ∷ has.rest) (d1 trial own_turn scanned scan))
          (line : ℕ) where
        abbrev next_activity : Activity
        next_activity = record (at_work a doing) { display = has.top.display; activations = has.next ∷ has.rest }

        abbrev a' : Activity
        a' = record next_activity { line = line }

        abbrev d2 : Descriptor
        d2 = d1 trial own_turn scanned scan

        abbrev d' : Descriptor
        d' = record d2 { line = line }

        abbrev m' : Machine
        m' = acted line p (at_rest (record m { stacks = stacks; descriptors = set m.descriptors p d2 }))

        abbrev c' : Config
        c' = done_at g (with_activity (record c { store = store }) p next_activity) p line

        level_then : IsAtLevel facts acting.homes entries store stacks (ticked c.table) h p a' d' (now trial)
        level_then =
            let is = new_level trial own_turn scanned scan in
            record { count = is.count; seen = is.seen; callers = is.callers; room = is.room; accepts = is.accepts; met = is.met; holds = is.holds }

        at_back : (stack_of stacks p).at ≡ to
        at_back = ap (λ (x : Stack). x.at) is_stack

        goes_within : IsWithin facts (now trial) (own_address trial (stack_of stacks p).at) d.communications
        goes_within =
            subst (λ n. IsWithin facts (now trial) (own_address trial n) d.communications) (sym at_back)
            (subst (λ n. IsWithin facts (now trial) n d.communications) (sym goes_at)
            (within_now trial own_turn own.address (subst (λ (x : Communicating). IsWithin facts has.outer own.address x) same_made has.within)))

        goes_on : IsUnderWay facts acting.homes entries store stacks (ticked c.table) h p a' d'
        goes_on = record {
          unfinished = ap is_unfinished acting.actor.ready;
          level = now trial;
          stands = level_then;
          within = goes_within;
          hand = (
            acting.actor.offered,
            ap shows_nothing acting.actor.ready,
            subst (λ i. DoesOn (now trial) i (stack_of stacks p).operands doing) (sym at_back)
                (subst (λ (x : Stack). DoesOn (now trial) to x.operands doing) (sym is_stack) does),
          );
          trial = trial_again trial own_turn (scans trial_here);
        }
          where
            trial_again : (t : Trial) → IsOwnTurn t → TrialIs t facts acting.homes entries store stacks (ticked c.table) p (now trial)
                (has.next ∷ has.rest) d2
                → TrialIs t facts acting.homes entries store stacks (ticked c.table) p (now trial) a'.activations d'
            trial_again of_own _ is = is
            trial_again (of_turn scan at) _ is = is
            trial_again (of_another attempt) none is = absurd none

        process_here : RepresentsProcess facts acting.homes entries store stacks (ticked c.table) h p a' d'
        process_here = record { line = refl; spare = ap (λ (x : Stack). x.spare) is_stack ∙ acting.actor.spare; activations = goes_on }

        -- ### All lists

        activity_here : activity_of g c' p ≡ a'
        activity_here = own_activity g c.activities p acting.actor.process next_activity line

        activity_there : (q : ℕ) → q ≢ p → activity_of g c' q ≡ activity_of g c q
        activity_there q apart = other_activity g c.activities p acting.actor.process next_activity line q apart

        activity_count : length c'.activities ≡ length c.activities
        activity_count = as_many_activities g c.activities p acting.actor.process next_activity line

        descriptor_fits : p < length m.descriptors
        descriptor_fits = subst (λ n. p < n) (sym acting.alike.words.descriptors) acting.actor.process

        descriptor_here : descriptor_of m'.descriptors p ≡ d'
        descriptor_here = own_descriptor m.descriptors p descriptor_fits d2 line

        descriptor_there : (q : ℕ) → q ≢ p → descriptor_of m'.descriptors q ≡ descriptor_of m.descriptors q
        descriptor_there q apart = other_descriptor m.descriptors p descriptor_fits d2 line q apart

        descriptor_count : length m'.descriptors ≡ length m.descriptors
        descriptor_count = as_many_descriptors m.descriptors p descriptor_fits d2 line

        processes : (q : ℕ) → (q ≡ p) ⊎ (q ≢ p) → q < length c.activities → RepresentsProcess facts acting.homes entries store stacks
            (ticked c.table) h q (activity_of g c' q) (descriptor_of m'.descriptors q)
        processes q (inl same) less =
            subst (λ n. RepresentsProcess facts acting.homes entries store stacks (ticked c.table) h n (activity_of g c' n)
            (descriptor_of m'.descriptors n)) (sym same)
            (subst (λ (x : Activity). RepresentsProcess facts acting.homes entries store stacks (ticked c.table) h p x (descriptor_of m'.descriptors p))
            (sym activity_here)
            (subst (λ (x : Descriptor). RepresentsProcess facts acting.homes entries store stacks (ticked c.table) h p a' x)
            (sym descriptor_here) process_here))
        processes q (inr apart) less =
            subst (λ (x : Activity). RepresentsProcess facts acting.homes entries store stacks (ticked c.table) h q x (descriptor_of m'.descriptors q))
            (sym (activity_there q apart))
            (subst (λ (x : Descriptor). RepresentsProcess facts acting.homes entries store stacks (ticked c.table) h q (activity_of g c q) x) (sym
            (descriptor_there q apart)) (other_still q less apart))

        -- ### All that is alike

        words_then : SharesWords facts m' c'
        words_then =
            let old = acting.alike.words in
            record {
              processes = activity_count ∙ old.processes;
              stacks = length-set m.stacks p stack ∙ old.stacks ∙ sym activity_count;
              descriptors = descriptor_count ∙ old.descriptors ∙ sym activity_count;
              rows = old.rows ∙ sym activity_count;
              semaphores = old.semaphores;
              monitors = old.monitors;
              owners = old.owners;
              resources = old.resources;
              input = old.input;
              draws = old.draws;
              in_line = old.in_line;
            }

        holds_then : HoldsStore facts acting.homes entries store stacks (c.table.done + 1)
        holds_then =
            let old = acting.alike.holds in
            record {
              memory = new_hold.memory;
              few = new_hold.few;
              objects = new_hold.objects;
              main = old.main;
              mains = old.mains;
              numbers = λ y there is. later y c.table.done (old.numbers y there is);
            }
          where
            later : (n k : ℕ) → n ≤ k → n ≤ k + 1
            later n k less = grind (arith, less)

        alike_then : AreAlike facts acting.homes entries m' c'
        alike_then =
            let old = acting.alike in
            record {
              program = old.program;
              words = words_then;
              holds = holds_then;
              kinds = kinds_still facts acting.homes acting.homes acting.entries entries c c' old.holds.objects new_hold.objects refl activity_count
                  (λ l t r lies object. lies) old.kinds;
              children = old.children;
              main = old.main;
              between = ticks c.table old.between acting.few;
              counts = old.counts;
              monitor_count = old.monitor_count;
              resource_count = old.resource_count;
              rooms = old.rooms;
              fault = old.fault;
            }

        represents_left : Represents facts m' c'
        represents_left = record {
          homes = acting.homes;
          entries = entries;
          alike = alike_then;
          world = world_then facts m c p level acting line Full;
          processes = λ q less. processes q (either_number q p) (subst (λ n. q < n) activity_count less);
        }

        -- Behind the return, counted, the machine represents what the source text has come to.
        pub represents_returned : Represents facts m' (done_at g (left_by g c p has.top (has.next ∷ has.rest) doing) p line)
        represents_returned =
            subst (λ n. Represents facts m' (done_at g (with_activity
            (record c { store = without c.store n }) p next_activity) p line)) has.called.stands.number represents_left
