-- The end of a procedure or a function that was called from inside its module.
use Rattle.std.proofs.Common.{◌≡◌, ℕ, suc, ◌≤◌, ℤ, false, List, [], ◌∷◌, length, set, slice_get, Option, Some, Ok}
use Rattle.std.proofs.Common.{refl, sym, ap, ap₂, ◌∙◌, subst, arith}
use Rattle.std.proofs.lemmas.List.{append-nil}
use Rattle.pfc_types.specs.declared.scope.Meaning.TheVariants.{Variable}
use Rattle.pfc_code.specs.declared.images.Block.{Block as CodeBlock}
use Rattle.pfc_code.specs.declared.instructions.Instr.{Instr}
use Rattle.pfc_code.specs.declared.instructions.Instr.TheVariants.{RET, RETF, END}
use Rattle.pfc_semantics.specs.Values.{Value, ordinal}
use Rattle.pfc_semantics.specs.Layouts.{Layout, sub_with}
use Rattle.pfc_semantics.specs.Programs.{Block, Program}
use Rattle.pfc_semantics.specs.Remainders.{Context, AwaitsValue, Action, finishes}
use Rattle.pfc_semantics.specs.Rewriting.{Doing, going, holding}
use Rattle.pfc_semantics.specs.Store.{variable}
use Rattle.pfc_semantics.specs.Configurations.{Mark, plain, of_monitor, of_resource, Caller, of_nobody, of_remainder, of_value, Activation, Config}
use Rattle.pfc_semantics.specs.Configurations.{activity_of, done_at}
use Rattle.pfc_semantics.specs.Calls.{left_by, formals_of, result_in}
use Rattle.pfc_semantics.specs.Steps.{returns_to, ends_for, ends_body}
use Rattle.pfc_translation.specs.Images.{image_of}
use Rattle.pfc_stacks.specs.declared.marks.Mark.{Mark as StackMark}
use Rattle.pfc_stacks.specs.declared.marks.Mark.TheVariants.{Plain}
use Rattle.pfc_stacks.specs.Marks.{word_of_mark, mark_of as mark_in_word}
use Rattle.pfc_stacks.specs.Refs.{number_of}
use Rattle.pfc_stacks.specs.Stacks.{Stack, stack_of, operands_of}
use Rattle.pfc_machines.specs.Descriptors.{descriptor_of, left as one_less}
use Rattle.pfc_machine_acts.specs.Acting.{acted}
use Rattle.pfc_stacks.specs.Activations.{returned, mark_in, result_in as result_on_stack}
use Rattle.pfc_stacks.specs.Effects.{last_block}
use Rattle.pfc_cells.specs.Homes.{cells_before, layout_at}
use Rattle.pfc_machines.specs.declared.machine.Machine.{Machine}
use Rattle.pfc_machines.specs.Actions.{at_rest}
use Rattle.pfc_call_actions.specs.Returns.{ended, returned_by, returns_result, HoldsMarked}
use Rattle.pfc_machine_acts.specs.Performing.{silent}
use Rattle.pfc_standing_code.specs.Settings.{Trial, of_own, IsAt}
use Rattle.pfc_standing_code.specs.Performs.{own_block}
use Rattle.pfc_call_laws.proofs.Returning.{result_held}
use Rattle.pfc_representation.specs.Levels.{Facts, program_in, LivingLevel, in_turn, block_of, number_in, DoesOn}
use Rattle.pfc_representation.specs.Callers.{ending_of, GoesBack, stack_mark}
use Rattle.pfc_representation.specs.Trials.{mark_of}
use Rattle.pfc_representation.specs.Machines.{Represents, goes_on}
use Rattle.pfc_representation.specs.Acting.{IsActing, HasArrived}
use Rattle.pfc_representation.specs.Actions.{ComeToSame, IsKept, AreKept}
use Rattle.pfc_kept_own_actions.proofs.Arrived.{has_setting, code_there, code_line, acts_now}
use Rattle.pfc_kept_calls.specs.Groups.{HasResult, EndsProcedure, EndsFunction}
use Rattle.pfc_kept_calls.proofs.Beginnings.{number_within}
use Rattle.pfc_kept_calls.proofs.Caller.{outer, hold}
use Rattle.pfc_kept_calls.proofs.Ended.{number_back}
use Rattle.pfc_kept_calls.proofs.Returned.{has, e, rest, home, home_at, base, own, mark_there, block_there, back_at, is_stack, room_fits, represents_returned}

no_end : (i : Instr) → i ≡ RET → i ≡ END → ⊥
no_end i h k = (let both : RET ≡ END = sym h ∙ k in cc)

no_end_with : (i : Instr) → i ≡ RETF → i ≡ END → ⊥
no_end_with i h k = (let both : RETF ≡ END = sym h ∙ k in cc)

module _ (facts : Facts) (m : Machine) (c : Config) (p choice : ℕ) (level : LivingLevel) (line : ℕ) (acting : IsActing facts m c p level)
    (own_trial : level.setting.trial ≡ of_own) (none : level.arms ≡ [])
    (unmet : level.setting.meetings ≡ []) (ops : operands_of m.stacks p ≡ level.setting.under) where
  abbrev g : Program
  g = program_in facts

  abbrev s : Stack
  s = stack_of m.stacks p

  module _ (on : level.setting.last ≡ END → ⊥) (left : List ℤ) (doing : Doing)
      (does : DoesOn (has facts m c p level acting on).outer (own facts m c p level acting on).address left doing) where
    abbrev caller : LivingLevel
    caller = (has facts m c p level acting on).outer

    does_plainly : DoesOn (in_turn caller of_own) (returned s).at left doing
    does_plainly =
        subst (λ i. DoesOn (in_turn caller of_own) i left doing) (sym (back_at facts m c p level acting on))
        (subst (λ (l : LivingLevel). DoesOn l (own facts m c p level acting on).address left doing) (ap (λ (t : Trial). in_turn caller t)
        (has facts m c p level acting on).called.trial) does)

    -- behind the call, in no scan
    pub represents_plainly : Represents facts
        (acted line p (at_rest (record m {
          stacks = set m.stacks p (record (returned s) { operands = left });
          descriptors = set m.descriptors p
              (one_less (descriptor_of m.descriptors p));
        })))
        (done_at g (left_by g c p (has facts m c p level acting on).top ((has facts m c p level acting on).next ∷
        (has facts m c p level acting on).rest) doing) p line)
    represents_plainly =
        represents_returned facts m c p level acting on left (returned s).at none unmet own_trial of_own tt tt
        (descriptor_of m.descriptors p).scan doing does_plainly (back_at facts m c p level acting on)
        (λ is. (ap (λ (x : Stack). x.looks_from) (is_stack facts m c p level acting on left (returned s).at) ∙ is.0, is.1)) line

  -- ## To a statement

  module _ (last : level.setting.last ≡ RET) (plainly : mark_of (activity_of g c p).activations ≡ plain) (there : IsAt level.setting s.at RET line) where
    abbrev more : level.setting.last ≡ END → ⊥
    more = no_end level.setting.last last

    abbrev top : Activation
    top = (has facts m c p level acting more).top

    abbrev others : List Activation
    others = (has facts m c p level acting more).next ∷ (has facts m c p level acting more).rest

    top_plain : top.mark ≡ plain
    top_plain = sym (ap mark_of (has facts m c p level acting more).activations) ∙ plainly

    is_plain : mark_in s ≡ Plain
    is_plain =
        ap mark_in_word (mark_there facts m c p level acting more)
        ∙ ap (λ (x : StackMark). mark_in_word (word_of_mark x)) ((has facts m c p level acting more).called.stands.mark ∙ ap stack_mark top_plain)

    back : GoesBack facts (has facts m c p level acting more).outer (own facts m c p level acting more).address s.operands plain top.caller
    back =
        subst (λ (x : Mark). GoesBack facts (has facts m c p level acting more).outer
        (own facts m c p level acting more).address s.operands x top.caller) top_plain
        (subst (λ (xs : List ℤ). GoesBack facts (has facts m c p level acting more).outer
        (own facts m c p level acting more).address xs top.mark top.caller) (sym ops) (has facts m c p level acting more).called.back)

    come : (x : Caller) → RET ≡ ending_of x → GoesBack facts (has facts m c p level acting more).outer
        (own facts m c p level acting more).address s.operands plain x
        → ComeToSame facts m c p line (silent (Ok (at_rest (ended p m)))) (Ok (ends_for g c p top others x))
    come of_nobody h back = absurd back
    come (of_value x u) h back = (let both : RET ≡ RETF = h in cc)
    come (of_remainder env k) h back =
        subst (λ (x : Mark). ComeToSame facts m c p line (silent (Ok (at_rest (ended p m)))) (Ok (returns_to g c p top others env k x))) (sym top_plain)
        (goes_on (represents_plainly more s.operands (going env k) back), sym (append-nil c.output))

    pub returned_kept : IsKept facts m c p choice (finishes line)
    returned_kept = record {
      instr = RET;
      is = code_there facts m c p level acting s.at RET line there;
      can_step = tt;
      no_move = tt;
      can_do = record {
        acting = acts_now facts m c p level acting RET line there;
        can = subst (λ (x : StackMark). HoldsMarked x p m) (sym is_plain) tt;
      };
      line = code_line facts m c p level acting s.at RET line there;
      choices = refl;
      same =
          subst (λ (xs : List Activation). ComeToSame facts m c p line (silent (Ok (at_rest (returned_by (mark_in s) (image_of facts.tree).scans p m))))
          (ends_body g c p xs)) (sym (has facts m c p level acting more).activations)
          (subst (λ (x : StackMark). ComeToSame facts m c p line (silent (Ok (at_rest (returned_by x (image_of facts.tree).scans p m)))) (Ok
          (ends_for g c p top others top.caller))) (sym is_plain)
          (come top.caller (sym last ∙ (has facts m c p level acting more).called.stands.last) back));
    }

  -- ## To an expression

  module _ (last : level.setting.last ≡ RETF) (result : HasResult facts.tree level.setting.block) (there : IsAt level.setting s.at RETF line) where
    abbrev over : level.setting.last ≡ END → ⊥
    over = no_end_with level.setting.last last

    abbrev first : Activation
    first = (has facts m c p level acting over).top

    abbrev callers : List Activation
    callers = (has facts m c p level acting over).next ∷ (has facts m c p level acting over).rest

    abbrev v : ℤ
    v = result_on_stack (last_block (image_of facts.tree).blocks s) s

    abbrev code : CodeBlock
    code = (has facts m c p level acting over).called.stands.code

    same_block_of : block_of level ≡ level.setting.block
    same_block_of = ap (λ (t : Trial). own_block t level.setting.block) own_trial

    block_is : last_block (image_of facts.tree).blocks s ≡ Some code
    block_is =
        let stands = (has facts m c p level acting over).called.stands in
        let few = number_within facts (own facts m c p level acting over).block code stands.is.0 in
        let short = acting.alike.program.short in
        ap (λ k. slice_get (image_of facts.tree).blocks k) (ap number_of (block_there facts m c p level acting over)
        ∙ number_back (own facts m c p level acting over).block (omega (arith, few, short))) ∙ stands.is.0

    laid : slice_get (layout_at g (home facts m c p level acting over)) (length result.head.formals) ≡ Some (Variable result.of_type false)
    laid = ap (λ (xs : Layout). slice_get xs (length result.head.formals)) ((has facts m c p level acting over).called.stands.laid ∙ ap
        (λ (x : Block). x.layout) same_block_of) ∙ result.laid

    params : code.params ≡ cells_before g.state.forms (layout_at g (home facts m c p level acting over)) (length result.head.formals)
    params =
        let stands = (has facts m c p level acting over).called.stands in
        result.params (own facts m c p level acting over).block code stands.is.0 (stands.is.1 ∙ ap (λ (x : Block). number_in g x) same_block_of)
        ∙ ap (λ (xs : Layout). cells_before g.state.forms xs (length result.head.formals)) (sym (stands.laid ∙ ap (λ (x : Block). x.layout) same_block_of))

    result_is : result_in g c first ≡ ordinal v
    result_is =
        let stands = (has facts m c p level acting over).called.stands in
        let scope : first.scope ≡ level.setting.block.scope = sym stands.block ∙ ap (λ (x : Block). x.scope) same_block_of in
        let formals : formals_of (sub_with g.state.blocks.subs first.scope) ≡ length result.head.formals =
        ap (λ n. formals_of (sub_with g.state.blocks.subs n)) scope ∙ ap formals_of result.headed in
        ap₂ (λ x k. variable c.store (record { activation = x; variable = k; selectors = [] })) (sym stands.number) formals
        ∙ result_held (outer facts m c p level acting) acting.homes acting.entries c.store m.stacks p (e facts m c p level acting over)
        (rest facts m c p level acting over) (hold facts m c p level acting)
        (has facts m c p level acting over).entries_are (home facts m c p level acting over) (home_at facts m c p level acting over)
        (base facts m c p level acting over)
        (length result.head.formals) result.of_type code laid result.simple params
        ∙ ap (λ (o : Option CodeBlock). ordinal (result_on_stack o s)) (sym block_is)

    -- whatever the mark
    to_value : (x : Context) (u : AwaitsValue) (mark : Mark) → GoesBack facts (has facts m c p level acting over).outer
        (own facts m c p level acting over).address s.operands mark (of_value x u)
        → DoesOn (has facts m c p level acting over).outer (own facts m c p level acting over).address (v ∷ s.operands) (holding x (ordinal v) u)
    to_value x u plain back = back v
    to_value x u (of_monitor n) back = back v
    to_value x u (of_resource n) back = back v

    back_with : GoesBack facts (has facts m c p level acting over).outer (own facts m c p level acting over).address s.operands first.mark first.caller
    back_with = subst (λ (xs : List ℤ). GoesBack facts (has facts m c p level acting over).outer
        (own facts m c p level acting over).address xs first.mark first.caller) (sym ops) (has facts m c p level acting over).called.back

    come_with : (x : Caller) → RETF ≡ ending_of x → GoesBack facts (has facts m c p level acting over).outer
        (own facts m c p level acting over).address s.operands first.mark x
        → ComeToSame facts m c p line (silent (returns_result (image_of facts.tree).blocks p m)) (Ok (ends_for g c p first callers x)) × (suc
        (length s.operands) ≤ (has facts m c p level acting over).outer.setting.room)
    come_with of_nobody h back = (let both : RETF ≡ END = h in cc)
    come_with (of_remainder env k) h back = (let both : RETF ≡ RET = h in cc)
    come_with (of_value x u) h back = (
      subst (λ (y : Value). ComeToSame facts m c p line (silent (returns_result (image_of facts.tree).blocks p m)) (Ok (left_by g c p first callers
          (holding x y u)))) (sym result_is)
          (goes_on (represents_plainly over (v ∷ s.operands) (holding x (ordinal v) u) (to_value x u first.mark back)), sym (append-nil c.output)),
      (to_value x u first.mark back).0,
    )

    pub result_kept : IsKept facts m c p choice (finishes line)
    result_kept =
        let both = come_with first.caller (sym last ∙ (has facts m c p level acting over).called.stands.last) back_with in
        let fits = both.1 in
        let room = room_fits facts m c p level acting over s.operands (returned s).at none unmet own_trial in
        record {
          instr = RETF;
          is = code_there facts m c p level acting s.at RETF line there;
          can_step = tt;
          no_move = tt;
          can_do = record { acting = acts_now facts m c p level acting RETF line there; can = omega (arith, fits, room) };
          line = code_line facts m c p level acting s.at RETF line there;
          choices = refl;
          same =
              subst (λ (xs : List Activation). ComeToSame facts m c p line (silent (returns_result (image_of facts.tree).blocks p m))
              (ends_body g c p xs)) (sym (has facts m c p level acting over).activations) both.0;
        }

-- of a procedure, which was not called from outside a monitor or a resource
pub procedure_ends : (facts : Facts) (m : Machine) (c : Config) (p choice : ℕ) (level : LivingLevel) (n : Action) → EndsProcedure level n → mark_of
    (activity_of (program_in facts) c p).activations ≡ plain
    → IsActing facts m c p level → HasArrived facts m c p level n → IsKept facts m c p choice n
procedure_ends facts m c p choice level (finishes line) last plainly acting arrived =
    let (b, names, ((own, none), (ops, there, unmet))) = arrived.arrived in
    returned_kept facts m c p choice level line acting own none unmet ops last plainly (subst (λ (i : Instr). IsAt level.setting
    (stack_of m.stacks p).at i line) last there)
procedure_ends facts m c p choice level n last plainly acting arrived = absurd last

-- of a function
pub function_ends : AreKept EndsFunction
function_ends facts m c p choice level (finishes line) may acting arrived chosen =
    let (b, names, ((own, none), (ops, there, unmet))) = arrived.arrived in
    result_kept facts m c p choice level line acting own none unmet ops may.0 (may.1 facts.tree
    (has_setting facts m c p level acting).image.program acting.alike.program)
    (subst (λ (i : Instr). IsAt level.setting (stack_of m.stacks p).at i line) may.0 there)
function_ends facts m c p choice level n may acting arrived chosen = absurd may
