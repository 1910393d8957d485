-- The end of a procedure that was called from outside its resource: a scan comes before its caller goes on.
use Rattle.std.proofs.Common.{◌≡◌, ℕ, ◌+◌, ◌-◌, ◌%◌, ◌^◌, ◌<◌, ℤ, pos, true, false, List, [], ◌∷◌, length, set, slice_get, get_or}
use Rattle.std.proofs.Common.{Some, None, Ok, refl, sym, ap, ◌∙◌, subst, arith, ◌⊎◌, inl, inr}
use Rattle.std.specs.Prelude.{◌-ℤ◌, unsigned_abs, All}
use Rattle.std.specs.Prelude.{int_lt}
use Rattle.std.proofs.lemmas.Int.{ints}
use Rattle.std.proofs.lemmas.List.{append-nil, get_or-set_same}
use Rattle.std.proofs.lemmas.Option.{get_or_from_slice_get}
use Rattle.pfc_types.specs.rules.Expressions.{Env}
use Rattle.pfc_code.specs.declared.instructions.Instr.{Instr}
use Rattle.pfc_code.specs.declared.instructions.Instr.TheVariants.{RET, RETF, END}
use Rattle.pfc_state.specs.Stands.{Stand, Is_ready}
use Rattle.pfc_world.specs.Tables.{at}
use Rattle.pfc_world.specs.Holders.{holder_in}
use Rattle.pfc_semantics.specs.Remainders.{Remainder, Scan, Action, leave, in_names, scan_on, finishes}
use Rattle.pfc_semantics.specs.Rewriting.{going}
use Rattle.pfc_semantics.specs.Configurations.{Mark, of_resource, Caller, of_nobody, of_remainder, of_value, Activation, Config, activity_of, done_at}
use Rattle.pfc_semantics.specs.Calls.{left_by}
use Rattle.pfc_semantics.specs.Resources.{scan_of}
use Rattle.pfc_semantics.specs.Steps.{returns_to, ends_for, ends_body}
use Rattle.pfc_translation.specs.Images.{image_of}
use Rattle.pfc_stacks.specs.declared.marks.Mark.{Mark as StackMark}
use Rattle.pfc_stacks.specs.declared.marks.Mark.TheVariants.{Resource}
use Rattle.pfc_stacks.specs.Marks.{word_of_mark, mark_of as mark_in_word}
use Rattle.pfc_stacks.specs.Stacks.{Stack, Stacks, no_stack, stack_of, operands_of}
use Rattle.pfc_stacks.specs.Activations.{returned, mark_in}
use Rattle.pfc_machines.specs.declared.machine.Machine.{Machine}
use Rattle.pfc_machines.specs.declared.descriptors.Descriptor.{Descriptor}
use Rattle.pfc_machines.specs.Actions.{at_rest}
use Rattle.pfc_machines.specs.Descriptors.{descriptor_by, descriptor_of, left as one_less}
use Rattle.pfc_call_actions.specs.Returns.{returned_by, HoldsMarked}
use Rattle.pfc_machine_acts.specs.Acting.{acted}
use Rattle.pfc_machine_acts.specs.Performing.{silent}
use Rattle.pfc_standing_code.specs.Settings.{of_own, of_turn, IsAt}
use Rattle.pfc_representation.specs.Levels.{Facts, program_in, LivingLevel, in_turn, DoesOn}
use Rattle.pfc_representation.specs.Callers.{ending_of, GoesBack, stack_mark}
use Rattle.pfc_representation.specs.Holding.{HoldsFor, holders_in, waits_for_resource}
use Rattle.pfc_representation.specs.Trials.{mark_of, next_turn}
use Rattle.pfc_representation.specs.Machines.{Represents, goes_on}
use Rattle.pfc_representation.specs.Acting.{IsActing, HasArrived}
use Rattle.pfc_representation.specs.Actions.{ComeToSame, IsKept}
use Rattle.pfc_kept_own_actions.proofs.Arrived.{code_there, code_line, acts_now}
use Rattle.pfc_kept_calls.specs.Groups.{EndsProcedure}
use Rattle.pfc_kept_calls.proofs.Beginnings.{scan_within}
use Rattle.pfc_kept_calls.proofs.Ended.{number_back}
use Rattle.pfc_kept_calls.proofs.Lists.{set_twice}
use Rattle.pfc_kept_calls.proofs.Returned.{has, own, mark_there, back_at, is_stack, represents_returned}

-- ## The mark

less_one : (n : ℕ) → (n + 1 - 1) % 2 ^ 32 ≡ n % 2 ^ 32
less_one n = ap (λ (m : ℕ). m % 2 ^ 32) (omega arith)

below_zero : (n : ℕ) → int_lt (pos 0 -ℤ pos (n + 1)) (pos 0) ≡ true
below_zero n = grind (arith, ints)

not_above : (n : ℕ) → int_lt (pos 0) (pos 0 -ℤ pos (n + 1)) ≡ false
not_above n = grind (arith, ints)

size_below : (n : ℕ) → unsigned_abs (pos 0 -ℤ pos (n + 1)) ≡ n + 1
size_below n = grind (arith, ints)

resource_back : (r : ℕ) → r < 2 ^ 32 → mark_in_word (word_of_mark (Resource r)) ≡ Resource r
resource_back r h = rw (not_above r, below_zero r, size_below r) (ap Resource (less_one r ∙ number_back r h))

-- who is ready waits for nothing
pub ready_holds : (holds : Type 0) (r : ℕ) (stand : Stand) → stand ≡ Is_ready → holds ⊎ (waits_for_resource r stand ≡ true) → holds
ready_holds holds r stand ready (inl h) = h
ready_holds holds r stand ready (inr h) = absurd (let both : false ≡ true = ap (λ (s : Stand). waits_for_resource r s) (sym ready) ∙ h in cc)

module _ (facts : Facts) (m : Machine) (c : Config) (p choice : ℕ) (level : LivingLevel) (line r : ℕ) (acting : IsActing facts m c p level)
    (own_trial : level.setting.trial ≡ of_own) (none : level.arms ≡ [])
    (unmet : level.setting.meetings ≡ []) (ops : operands_of m.stacks p ≡ level.setting.under) (last : level.setting.last ≡ RET)
    (entered : mark_of (activity_of (program_in facts) c p).activations ≡ of_resource r) (there : IsAt level.setting (stack_of m.stacks p).at RET line) where
  abbrev s : Stack
  s = stack_of m.stacks p

  no_end : level.setting.last ≡ END → ⊥
  no_end h = (let both : RET ≡ END = sym last ∙ h in cc)

  abbrev top : Activation
  top = (has facts m c p level acting no_end).top

  abbrev others : List Activation
  others = (has facts m c p level acting no_end).next ∷ (has facts m c p level acting no_end).rest

  abbrev caller : LivingLevel
  caller = (has facts m c p level acting no_end).outer

  abbrev back : ℕ
  back = (own facts m c p level acting no_end).address

  abbrev turn : Scan
  turn = scan_of (program_in facts) r leave

  top_mark : top.mark ≡ of_resource r
  top_mark = sym (ap mark_of (has facts m c p level acting no_end).activations) ∙ entered

  goes_back : GoesBack facts caller back s.operands (of_resource r) top.caller
  goes_back =
      subst (λ (x : Mark). GoesBack facts caller back s.operands x top.caller) top_mark
      (subst (λ (xs : List ℤ). GoesBack facts caller back xs top.mark top.caller) (sym ops) (has facts m c p level acting no_end).called.back)

  is_held : holder_in (holders_in facts c).resources r ≡ Some p
  is_held =
      let all = acting.actor.stands.holds.entered in
      let first : HoldsFor (holders_in facts c) p (at c.table.rows p) top.mark =
      (subst (λ (xs : List Activation). All (λ (x : Activation). HoldsFor (holders_in facts c) p (at c.table.rows p) x.mark) xs)
      (has facts m c p level acting no_end).activations all) 0 top (omega arith) in
      ready_holds (holder_in (holders_in facts c).resources r ≡ Some p) r (at c.table.rows p) acting.actor.ready
      (subst (λ (x : Mark). HoldsFor (holders_in facts c) p (at c.table.rows p) x) top_mark first)

  module _ (scan : ℕ) (scans_at : slice_get (image_of facts.tree).scans r ≡ Some scan) where
    is_marked : mark_in s ≡ Resource r
    is_marked =
        let few = scan_within facts r scan scans_at in
        let short = acting.alike.program.short in
        ap mark_in_word (mark_there facts m c p level acting no_end)
        ∙ ap (λ (x : StackMark). mark_in_word (word_of_mark x)) ((has facts m c p level acting no_end).called.stands.mark ∙ ap stack_mark top_mark)
        ∙ resource_back r (omega (arith, few, short))

    process_there : p < length m.stacks
    process_there = subst (λ n. p < n) (sym acting.alike.words.stacks) acting.actor.process

    descriptor_there : p < length m.descriptors
    descriptor_there = subst (λ n. p < n) (sym acting.alike.words.descriptors) acting.actor.process

    abbrev after : Machine
    after = record m {
      stacks = set m.stacks p (record (returned s) { operands = s.operands; at = scan });
      descriptors = set m.descriptors p (record (one_less (descriptor_of m.descriptors p)) { scan = Some (next_turn back turn) });
    }

    is_after : returned_by (Resource r) (image_of facts.tree).scans p m ≡ after
    is_after =
        let x : Stack = returned s in
        let y : Descriptor = one_less (descriptor_of m.descriptors p) in
        let stack_is : stack_of (set m.stacks p x) p ≡ x = get_or-set_same m.stacks p x no_stack process_there in
        let descriptor_is : descriptor_of (set m.descriptors p y) p ≡ y = get_or-set_same m.descriptors p y (descriptor_by 0) descriptor_there in
        ap (λ (z : Stack). record m {
          stacks = set (set m.stacks p x) p (record z { at = get_or (image_of facts.tree).scans r 0 });
          descriptors = set (set m.descriptors p y) p (record (descriptor_of (set m.descriptors p y) p) {
            scan = Some
                (record { back = z.at; after = None; tried = None; requeued = false });
          });
        }) stack_is
        ∙ ap (λ (z : Descriptor). record m {
          stacks = set (set m.stacks p x) p (record x { at = get_or (image_of facts.tree).scans r 0 });
          descriptors = set (set m.descriptors p y) p (record z { scan = Some (record { back = x.at; after = None; tried = None; requeued = false }) });
        }) descriptor_is
        ∙ ap (λ n. record m {
          stacks = set (set m.stacks p x) p (record x { at = n });
          descriptors = set (set m.descriptors p y) p (record y { scan = Some (record { back = x.at; after = None; tried = None; requeued = false }) });
        }) (get_or_from_slice_get (image_of facts.tree).scans r scan 0 scans_at)
        ∙ ap (λ n. record m {
          stacks = set (set m.stacks p x) p (record x { at = scan });
          descriptors = set (set m.descriptors p y) p (record y { scan = Some (record { back = n; after = None; tried = None; requeued = false }) });
        }) (back_at facts m c p level acting no_end)
        ∙ ap (λ (stacks : Stacks). record m {
          stacks = stacks;
          descriptors = set (set m.descriptors p y) p (record y { scan = Some (record { back = back; after = None; tried = None; requeued = false }) });
        }) (set_twice m.stacks p x (record x { at = scan }))
        ∙ ap (λ (descriptors : List Descriptor). record m { stacks = set m.stacks p (record x { at = scan }); descriptors = descriptors })
        (set_twice m.descriptors p y (record y { scan = Some (record { back = back; after = None; tried = None; requeued = false }) }))

    represents_scanning : (env : Env) (k : Remainder) → DoesOn (in_turn caller (of_turn turn back)) scan s.operands (going env (scan_on turn
        (in_names env k)))
        → Represents facts (acted line p (at_rest after)) (done_at (program_in facts) (left_by (program_in facts) c p top others (going env
        (scan_on turn (in_names env k)))) p line)
    represents_scanning env k does =
        represents_returned facts m c p level acting no_end s.operands scan none unmet own_trial (of_turn turn back) tt is_held (Some
        (next_turn back turn)) (going env (scan_on turn (in_names env k))) does refl
        (λ is. (ap (λ (x : Stack). x.looks_from) (is_stack facts m c p level acting no_end s.operands scan) ∙ is.0, refl, tt)) line

    scanning_kept : (env : Env) (k : Remainder) → top.caller ≡ of_remainder env k → DoesOn (in_turn caller (of_turn turn back)) scan s.operands
        (going env (scan_on turn (in_names env k)))
        → IsKept facts m c p choice (finishes line)
    scanning_kept env k is does = record {
      instr = RET;
      is = code_there facts m c p level acting s.at RET line there;
      can_step = tt;
      no_move = tt;
      can_do = record {
        acting = acts_now facts m c p level acting RET line there;
        can = subst (λ (x : StackMark). HoldsMarked x p m) (sym is_marked) tt;
      };
      line = code_line facts m c p level acting s.at RET line there;
      choices = refl;
      same =
          subst (λ (xs : List Activation). ComeToSame facts m c p line (silent (Ok (at_rest (returned_by (mark_in s) (image_of facts.tree).scans p m))))
          (ends_body (program_in facts) c p xs))
          (sym (has facts m c p level acting no_end).activations)
          (subst (λ (x : StackMark). ComeToSame facts m c p line (silent (Ok (at_rest (returned_by x (image_of facts.tree).scans p m)))) (Ok (ends_for
          (program_in facts) c p top others top.caller))) (sym is_marked)
          (subst (λ (x : Machine). ComeToSame facts m c p line (silent (Ok (at_rest x))) (Ok (ends_for (program_in facts) c p top others top.caller)))
          (sym is_after)
          (subst (λ (x : Caller). ComeToSame facts m c p line (silent (Ok (at_rest after))) (Ok (ends_for (program_in facts) c p top others x))) (sym is)
          (subst (λ (x : Mark). ComeToSame facts m c p line (silent (Ok (at_rest after))) (Ok (returns_to (program_in facts) c p top others env k x)))
          (sym top_mark)
          (goes_on (represents_scanning env k does), sym (append-nil c.output))))));
    }

  by_caller : (x : Caller) → top.caller ≡ x → RET ≡ ending_of x → GoesBack facts caller back s.operands (of_resource r) x → IsKept facts m c p choice
      (finishes line)
  by_caller of_nobody is h goes = absurd goes
  by_caller (of_value x u) is h goes = (let both : RET ≡ RETF = h in cc)
  by_caller (of_remainder env k) is h (scan, scans_at, does) = scanning_kept scan scans_at env k is does

  pub leaves_kept : IsKept facts m c p choice (finishes line)
  leaves_kept = by_caller top.caller refl (sym last ∙ (has facts m c p level acting no_end).called.stands.last) goes_back

-- of a procedure that was called from outside its resource
pub resource_left : (facts : Facts) (m : Machine) (c : Config) (p choice r : ℕ) (level : LivingLevel) (n : Action) → EndsProcedure level n
    → mark_of (activity_of (program_in facts) c p).activations ≡ of_resource r → IsActing facts m c p level → HasArrived facts m c p level n
    → IsKept facts m c p choice n
resource_left facts m c p choice r level (finishes line) last entered acting arrived =
    let (b, names, ((own, none), (ops, there, unmet))) = arrived.arrived in
    leaves_kept facts m c p choice level line r acting own none unmet ops last entered (subst (λ (i : Instr). IsAt level.setting
    (stack_of m.stacks p).at i line) last there)
resource_left facts m c p choice r level n last entered acting arrived = absurd last
