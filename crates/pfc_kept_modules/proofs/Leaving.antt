-- The end of a procedure that was called from outside its monitor: the monitor passes to one that waits for it, or to nobody.
use Rattle.std.proofs.Common.{◌≡◌, ◌≢◌, ℕ, zero, suc, ◌+◌, ◌-◌, ◌%◌, ◌^◌, ◌<◌, ℤ, pos, true, false, List, [], ◌∷◌, length, set, get_or, drop}
use Rattle.std.proofs.Common.{All, Option, Some, None, Ok, refl, sym, ap, ◌∙◌, subst, arith, ◌⊎◌, inl, inr}
use Rattle.std.specs.Prelude.{int_lt}
use Rattle.std.proofs.lemmas.Int.{ints}
use Rattle.std.proofs.lemmas.List.{append-nil, get_or-set_same, get_or-set_other, length-set}
use Rattle.pfc_types.specs.rules.Expressions.{Env}
use Rattle.pfc_code.specs.declared.instructions.Instr.{Instr}
use Rattle.pfc_code.specs.declared.instructions.Instr.TheVariants.{RET, RETF, END}
use Rattle.pfc_state.specs.Stands.{Stand, Is_idle, Is_ready}
use Rattle.pfc_world.specs.Holders.{held_in, holder_in, given_to}
use Rattle.pfc_world.specs.Monitors.{handed_over}
use Rattle.pfc_world.specs.Partners.{next_holder}
use Rattle.pfc_world.specs.Tables.{Table, at}
use Rattle.pfc_world.specs.Transitions.{placed, ticked}
use Rattle.pfc_semantics.specs.Objects.{of_kind}
use Rattle.pfc_semantics.specs.Programs.{Program}
use Rattle.pfc_semantics.specs.Remainders.{Remainder, Action, finishes}
use Rattle.pfc_semantics.specs.Rewriting.{going}
use Rattle.pfc_semantics.specs.Configurations.{Mark, plain, of_monitor, of_resource, Caller, of_nobody, of_remainder, of_value, Activation, Activity}
use Rattle.pfc_semantics.specs.Configurations.{Config, activity_of, at_work, done_at, with_monitors}
use Rattle.pfc_semantics.specs.Calls.{left_by}
use Rattle.pfc_semantics.specs.Steps.{returns_to, ends_for, ends_body}
use Rattle.pfc_translation.specs.Images.{image_of}
use Rattle.pfc_stacks.specs.declared.marks.Mark.{Mark as StackMark}
use Rattle.pfc_stacks.specs.declared.marks.Mark.TheVariants.{Monitor}
use Rattle.pfc_stacks.specs.Marks.{word_of_mark, mark_of as mark_in_word}
use Rattle.pfc_stacks.specs.Stacks.{Stack, stack_of, operands_of}
use Rattle.pfc_stacks.specs.Activations.{mark_in}
use Rattle.pfc_machines.specs.declared.machine.Machine.{Machine}
use Rattle.pfc_machines.specs.Actions.{at_rest}
use Rattle.pfc_object_actions.specs.Conditions.{with_monitors as machine_with_monitors}
use Rattle.pfc_call_actions.specs.Returns.{ended, returned_by, HoldsMarked}
use Rattle.pfc_machine_acts.specs.Acting.{acted}
use Rattle.pfc_machine_acts.specs.Performing.{silent}
use Rattle.pfc_standing_code.specs.Settings.{Trial, of_own, of_turn, of_another, IsAt}
use Rattle.pfc_representation.specs.Levels.{Facts, program_in, LivingLevel, DoesOn}
use Rattle.pfc_representation.specs.Callers.{ending_of, GoesBack, stack_mark}
use Rattle.pfc_representation.specs.Holding.{Holders, holders_in, waits_for_monitor, HoldsFor, Holds}
use Rattle.pfc_representation.specs.Trials.{mark_of}
use Rattle.pfc_representation.specs.Machines.{Represents, goes_on}
use Rattle.pfc_representation.specs.Keeping.{HoldsStill}
use Rattle.pfc_representation.specs.Acting.{IsActing, HasArrived}
use Rattle.pfc_representation.specs.Actions.{ComeToSame, IsKept}
use Rattle.pfc_kept_own_actions.proofs.Arrived.{has_setting, code_there, code_line, acts_now}
use Rattle.pfc_kept_object_actions.specs.Freed.{may_be_freed}
use Rattle.pfc_kept_object_actions.proofs.Change.{IsOneLetGo, row_here, row_there, within_rows}
use Rattle.pfc_kept_object_actions.proofs.Handing.{WaitsFor, next_waits}
use Rattle.pfc_kept_object_actions.proofs.Popped.{world, rests}
use Rattle.pfc_kept_calls.proofs.Caller.{either_number}
use Rattle.pfc_kept_calls.proofs.Ended.{number_back}
use Rattle.pfc_kept_calls.proofs.Lists.{own_activity}
use Rattle.pfc_kept_calls.proofs.Returned.{has, own, mark_there}
use Rattle.pfc_kept_calls.proofs.Returning.{represents_plainly}
use Rattle.pfc_kept_modules.specs.Endings.{EndsInMonitor, AreOutside}
use Rattle.pfc_kept_modules.proofs.Settled.{IsSettled, represents_settled}

-- ## The mark

less_one : (n : ℕ) → (n + 1 - 1) % 2 ^ 32 ≡ n % 2 ^ 32
less_one n = ap (λ (i : ℕ). i % 2 ^ 32) (omega arith)

above_zero : (n : ℕ) → int_lt (pos 0) (pos (n + 1)) ≡ true
above_zero n = grind (arith, ints)

monitor_back : (n : ℕ) → n < 2 ^ 32 → mark_in_word (word_of_mark (Monitor n)) ≡ Monitor n
monitor_back n h = rw (above_zero n) (ap Monitor (less_one n ∙ number_back n h))

-- ## Who holds it

held_within : (holders : List (Option ℕ)) (n p : ℕ) → holder_in holders n ≡ Some p → n < length holders
held_within [] n p h = absurd (let no : None ≡ Some p = h in cc)
held_within (x ∷ holders) zero p h = grind arith
held_within (x ∷ holders) (suc n) p h = (let less : n < length holders = held_within holders n p h in grind (arith, less))

one_holder : (p q : ℕ) → Some p ≡ Some q → q ≡ p
one_holder p q h = cc

-- who is ready waits for nothing
ready_has : (held : Type 0) (owners : List ℕ) (n : ℕ) (stand : Stand) → stand ≡ Is_ready → held ⊎ (waits_for_monitor owners n stand ≡ true) → held
ready_has held owners n stand ready (inl h) = h
ready_has held owners n stand ready (inr h) = absurd (let both : false ≡ true = ap (λ (s : Stand). waits_for_monitor owners n s) (sym ready) ∙ h in cc)

module _ (facts : Facts) (m : Machine) (c : Config) (p choice : ℕ) (level : LivingLevel) (line n : ℕ) (acting : IsActing facts m c p level)
    (own_trial : level.setting.trial ≡ of_own) (none : level.arms ≡ [])
    (unmet : level.setting.meetings ≡ []) (ops : operands_of m.stacks p ≡ level.setting.under) (last : level.setting.last ≡ RET)
    (entered : mark_of (activity_of (program_in facts) c p).activations ≡ of_monitor n) (there : IsAt level.setting (stack_of m.stacks p).at RET line)
    (few : of_kind false (program_in facts).state.blocks.modules < 2 ^ 32) (outside : AreOutside n (activity_of (program_in facts) c p).activations) where
  abbrev g : Program
  g = program_in facts

  abbrev s : Stack
  s = stack_of m.stacks p

  abbrev owners : List ℕ
  owners = g.objects.conditions

  no_end : level.setting.last ≡ END → ⊥
  no_end h = (let both : RET ≡ END = sym last ∙ h in cc)

  abbrev top : Activation
  top = (has facts m c p level acting no_end).top

  abbrev others : List Activation
  others = (has facts m c p level acting no_end).next ∷ (has facts m c p level acting no_end).rest

  abbrev caller : LivingLevel
  caller = (has facts m c p level acting no_end).outer

  abbrev back : ℕ
  back = (own facts m c p level acting no_end).address

  activations_are : (activity_of g c p).activations ≡ top ∷ others
  activations_are = (has facts m c p level acting no_end).activations

  top_mark : top.mark ≡ of_monitor n
  top_mark = sym (ap mark_of activations_are) ∙ entered

  goes_back : GoesBack facts caller back s.operands (of_monitor n) top.caller
  goes_back =
      subst (λ (x : Mark). GoesBack facts caller back s.operands x top.caller) top_mark
      (subst (λ (xs : List ℤ). GoesBack facts caller back xs top.mark top.caller) (sym ops) (has facts m c p level acting no_end).called.back)

  holds : holder_in c.monitors n ≡ Some p
  holds =
      ready_has (holder_in c.monitors n ≡ Some p) owners n (at c.table.rows p) acting.actor.ready
      (subst (λ (x : Mark). HoldsFor (holders_in facts c) p (at c.table.rows p) x) top_mark
      (subst (λ (xs : List Activation). All (λ (x : Activation). HoldsFor (holders_in facts c) p (at c.table.rows p) x.mark) xs) activations_are
      acting.actor.stands.holds.entered 0 top (grind arith)))

  known : n < length c.monitors
  known = held_within c.monitors n p holds

  is_marked : mark_in s ≡ Monitor n
  is_marked =
      ap mark_in_word (mark_there facts m c p level acting no_end)
      ∙ ap (λ (x : StackMark). mark_in_word (word_of_mark x)) ((has facts m c p level acting no_end).called.stands.mark ∙ ap stack_mark top_mark)
      ∙ monitor_back n (smaller n (length c.monitors) _ known acting.alike.monitor_count few)
    where
      smaller : (i k j : ℕ) → i < k → k ≡ j → j < 2 ^ 32 → i < 2 ^ 32
      smaller i k j h same less = omega (arith, h, same, less)

  -- the callers are in it no more
  away : All (λ (x : Activation). x.mark ≢ of_monitor n) others
  away = subst (λ (xs : List Activation). All (λ (x : Activation). x.mark ≢ of_monitor n) (drop 1 xs)) activations_are outside

  -- ## Behind the return, before it passes on

  module _ (env : Env) (k : Remainder) (does : DoesOn caller back s.operands (going env k)) where
    abbrev machine : Machine
    machine = acted line p (at_rest (ended p m))

    abbrev config : Config
    config = done_at g (left_by g c p top others (going env k)) p line

    left_there : Represents facts machine config
    left_there = represents_plainly facts m c p choice level line acting own_trial none unmet ops no_end s.operands (going env k) does

    abbrev next_activity : Activity
    next_activity = record (at_work (activity_of g c p) (going env k)) { display = top.display; activations = others }

    activity_is : activity_of g config p ≡ record next_activity { line = line }
    activity_is = own_activity g c.activities p acting.actor.process next_activity line

    -- ## It passes on

    abbrev given : Option ℕ → List (Option ℕ)
    given o = set c.monitors n o

    abbrev holders : Option ℕ → Holders
    holders o = record { owners = owners; monitors = given o; resources = c.resources }

    held_beside : (o : Option ℕ) (j q : ℕ) → j ≢ n → holder_in c.monitors j ≡ Some q → holder_in (given o) j ≡ Some q
    held_beside o j q apart held = get_or-set_other c.monitors n j o None apart ∙ held

    own_mark : (o : Option ℕ) (mark : Mark) → mark ≢ of_monitor n → HoldsFor (holders_in facts c) p Is_ready mark → HoldsFor (holders o) p Is_ready mark
    own_mark o plain apart is = is
    own_mark o (of_monitor j) apart (inl held) = inl (held_beside o j p (λ same. apart (ap of_monitor same)) held)
    own_mark o (of_monitor j) apart (inr waits) = inr waits
    own_mark o (of_resource r) apart (inl held) = inl held
    own_mark o (of_resource r) apart (inr waits) = inr waits

    own_others : (o : Option ℕ) (trial : Trial) → Holds (holders_in facts c) p Is_ready trial others → Holds (holders o) p Is_ready trial others
    own_others o of_own is = record { entered = λ i e less. own_mark o (get_or others i e).mark (away i e less) (is.entered i e less); scanned = tt }
    own_others o (of_turn scan at) is =
        record { entered = λ i e less. own_mark o (get_or others i e).mark (away i e less) (is.entered i e less); scanned = is.scanned }
    own_others o (of_another attempt) is =
        record { entered = λ i e less. own_mark o (get_or others i e).mark (away i e less) (is.entered i e less); scanned = is.scanned }

    own_holds : (o : Option ℕ) (trial : Trial) → Holds (holders_in facts c) p Is_ready trial (activity_of g config p).activations
        → Holds (holders o) p Is_ready trial (activity_of g config p).activations
    own_holds o trial is =
        subst (λ (x : Activity). Holds (holders o) p Is_ready trial x.activations) (sym activity_is)
        (own_others o trial (subst (λ (x : Activity). Holds (holders_in facts c) p Is_ready trial x.activations) activity_is is))

    others_hold : (o : Option ℕ) (q : ℕ) → q ≢ p → HoldsStill q (holders_in facts c) (holders o)
    others_hold o q apart = record {
      owners = refl;
      monitors = λ j held. held_beside o j q (λ same. apart (one_holder p q (sym (ap (λ i. holder_in c.monitors i) same ∙ holds) ∙ held))) held;
      resources = λ r held. held;
    }

    -- to nobody
    to_none : IsSettled facts machine config left_there p (ticked c.table) (given None)
    to_none = record {
      ready = acting.actor.ready;
      mine = acting.actor.ready;
      empty = ap (λ (x : Activity). x.hand) activity_is;
      holds = own_holds None;
      rest = λ r. inl refl;
      still = others_hold None;
      size = refl;
      rests = acting.alike.between.acting;
      done = refl;
      moment = refl;
      count = length-set c.monitors n None;
    }

    -- to this process
    module _ (q : ℕ) (next : WaitsFor owners n (at c.table.rows q)) where
      not_ready : p ≢ q
      not_ready same =
          (let no : false ≡ true = ap may_be_freed (sym (ap (λ i. at c.table.rows i) (sym same) ∙ acting.actor.ready)) ∙ next.may in cc)

      not_idle : at c.table.rows q ≡ Is_idle → ⊥
      not_idle idle = (let no : false ≡ true = ap may_be_freed (sym idle) ∙ next.may in cc)

      goes : IsOneLetGo (holders (Some q)) q (at c.table.rows q) (at (set c.table.rows q Is_ready) q)
      goes = record {
        go = record {
          waited = next.may;
          ready = row_here c.table.rows q Is_ready (within_rows c.table.rows q not_idle);
          has = record {
            monitors = λ j waits. ap (λ i. holder_in (given (Some q)) i) (next.only j waits) ∙ get_or-set_same c.monitors n (Some q) None known;
            resources = λ r waits. absurd (let no : false ≡ true = sym (next.none r) ∙ waits in cc);
          };
        };
        runs = next.runs;
        no_coend = next.no_coend;
      }

      rest : (r : ℕ) → (r ≡ q) ⊎ (r ≢ q) → (at (set c.table.rows q Is_ready) r ≡ at c.table.rows r)
          ⊎ IsOneLetGo (holders (Some q)) r (at c.table.rows r) (at (set c.table.rows q Is_ready) r)
      rest r (inr apart) = inl (row_there c.table.rows q r Is_ready apart)
      rest r (inl same) =
          inr (subst (λ i. IsOneLetGo (holders (Some q)) i (at c.table.rows i) (at (set c.table.rows q Is_ready) i)) (sym same) goes)

      to_one : IsSettled facts machine config left_there p (ticked (placed c.table q Is_ready)) (given (Some q))
      to_one = record {
        ready = acting.actor.ready;
        mine = row_there c.table.rows q p Is_ready not_ready ∙ acting.actor.ready;
        empty = ap (λ (x : Activity). x.hand) activity_is;
        holds = own_holds (Some q);
        rest = λ r. rest r (either_number r q);
        still = others_hold (Some q);
        size = length-set c.table.rows q Is_ready;
        rests = acting.alike.between.acting;
        done = refl;
        moment = refl;
        count = length-set c.monitors n (Some q);
      }

    abbrev w : Table
    w = world facts m c p level acting

    passes : (o : Option ℕ) → ((q : ℕ) → o ≡ Some q → WaitsFor owners n (at c.table.rows q))
        → ComeToSame facts m c p line (silent (Ok (at_rest (machine_with_monitors (ended p m) (given_to o (held_in w c.monitors) n)))))
        (Ok (with_monitors (left_by g c p top others (going env k)) (given_to o (held_in c.table c.monitors) n)))
    passes None waits = (
      goes_on (represents_settled facts machine config left_there p (ticked c.table) (given None) to_none _ (record m.monitors { holders = given None })
          (ap ticked (rests facts m c p level acting)) refl refl),
      sym (append-nil c.output),
    )
    passes (Some q) waits = (
      goes_on (represents_settled facts machine config left_there p (ticked (placed c.table q Is_ready)) (given (Some q)) (to_one q (waits q refl)) _
          (record m.monitors { holders = given (Some q) })
          (ap (λ (t : Table). ticked (placed t q Is_ready)) (rests facts m c p level acting)) refl refl),
      sym (append-nil c.output),
    )

    -- to whom it is
    passes_on : ComeToSame facts m c p line (silent (Ok (at_rest (returned_by (Monitor n) (image_of facts.tree).scans p m))))
        (Ok (returns_to g c p top others env k (of_monitor n)))
    passes_on =
        subst (λ (t : Table). ComeToSame facts m c p line
        (silent (Ok (at_rest (machine_with_monitors (ended p m) (handed_over (held_in t m.monitors.holders) n)))))
        (Ok (returns_to g c p top others env k (of_monitor n)))) (sym acting.world)
        (subst (λ (hs : List (Option ℕ)). ComeToSame facts m c p line
        (silent (Ok (at_rest (machine_with_monitors (ended p m) (handed_over (held_in w hs) n)))))
        (Ok (returns_to g c p top others env k (of_monitor n)))) (sym acting.alike.words.monitors)
        (passes (next_holder c.table.rows n) (λ q is. next_waits owners c.table.rows n q is)))

  -- ## The instruction

  come : (x : Caller) → RET ≡ ending_of x → GoesBack facts caller back s.operands (of_monitor n) x
      → ComeToSame facts m c p line (silent (Ok (at_rest (returned_by (Monitor n) (image_of facts.tree).scans p m)))) (Ok (ends_for g c p top others x))
  come of_nobody h goes = absurd goes
  come (of_value x u) h goes = (let both : RET ≡ RETF = h in cc)
  come (of_remainder env k) h goes =
      subst (λ (x : Mark). ComeToSame facts m c p line (silent (Ok (at_rest (returned_by (Monitor n) (image_of facts.tree).scans p m))))
      (Ok (returns_to g c p top others env k x))) (sym top_mark) (passes_on env k goes)

  pub leaving_kept : IsKept facts m c p choice (finishes line)
  leaving_kept = record {
    instr = RET;
    is = code_there facts m c p level acting s.at RET line there;
    can_step = tt;
    no_move = tt;
    can_do = record {
      acting = acts_now facts m c p level acting RET line there;
      can = subst (λ (x : StackMark). HoldsMarked x p m) (sym is_marked)
          (subst (λ (hs : List (Option ℕ)). (n < length hs) × (holder_in hs n ≡ Some p)) (sym acting.alike.words.monitors) (known, holds));
    };
    line = code_line facts m c p level acting s.at RET line there;
    choices = refl;
    same =
        subst (λ (xs : List Activation). ComeToSame facts m c p line (silent (Ok (at_rest (returned_by (mark_in s) (image_of facts.tree).scans p m))))
        (ends_body g c p xs)) (sym activations_are)
        (subst (λ (x : StackMark). ComeToSame facts m c p line (silent (Ok (at_rest (returned_by x (image_of facts.tree).scans p m)))) (Ok
        (ends_for g c p top others top.caller))) (sym is_marked)
        (come top.caller (sym last ∙ (has facts m c p level acting no_end).called.stands.last) goes_back));
  }

-- of a procedure that was called from outside its monitor
pub monitor_left : (facts : Facts) (m : Machine) (c : Config) (p choice n : ℕ) (level : LivingLevel) (action : Action) → EndsInMonitor level action
    → mark_of (activity_of (program_in facts) c p).activations ≡ of_monitor n → AreOutside n (activity_of (program_in facts) c p).activations
    → IsActing facts m c p level → HasArrived facts m c p level action → IsKept facts m c p choice action
monitor_left facts m c p choice n level (finishes line) (last, few) entered outside acting arrived =
    let (b, names, ((own, none), (ops, there, unmet))) = arrived.arrived in
    leaving_kept facts m c p choice level line n acting own none unmet ops last entered
    (subst (λ (i : Instr). IsAt level.setting (stack_of m.stacks p).at i line) last there)
    (few facts.tree (has_setting facts m c p level acting).image.program acting.alike.program) outside
monitor_left facts m c p choice n level action ends entered outside acting arrived = absurd ends
