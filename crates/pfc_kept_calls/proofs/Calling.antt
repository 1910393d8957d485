-- A call of a procedure or a function from inside its module.
use Rattle.std.proofs.Common.{◌≡◌, ℕ, ◌+◌, ◌≤◌, ℤ, Bool, true, false, if◌then◌else◌, List, length}
use Rattle.std.proofs.Common.{slice_get, get_or, Option, Some, Ok, Err, refl, sym, ap, ◌∙◌, subst}
use Rattle.std.proofs.Common.{arith, inl}
use Rattle.std.proofs.lemmas.List.{append-nil}
use Rattle.std.proofs.lemmas.Option.{get_or_from_slice_get}
use Rattle.pfc_base.specs.declared.faults.RunFault.TheVariants.{Stack as Full}
use Rattle.pfc_types.specs.declared.heads.Formal.{Formal}
use Rattle.pfc_types.specs.declared.heads.SubHead.{SubHead}
use Rattle.pfc_types.specs.declared.heads.SubSort.{SubSort}
use Rattle.pfc_types.specs.declared.heads.SubSort.TheVariants.{Procedure, Guarded, Function}
use Rattle.pfc_code.specs.declared.images.Block.{Block as CodeBlock}
use Rattle.pfc_code.specs.declared.instructions.Instr.{Instr}
use Rattle.pfc_code.specs.declared.instructions.Instr.TheVariants.{CALL, RET, RETF}
use Rattle.pfc_semantics.specs.Layouts.{sub_with}
use Rattle.pfc_semantics.specs.Programs.{Block, Program, block_at, block_number, layout_cells}
use Rattle.pfc_semantics.specs.Remainders.{Context, Argument, Action, calls, to_procedure, to_function}
use Rattle.pfc_semantics.specs.Configurations.{Caller, of_remainder, of_value, plain, Config, Effect, body_of}
use Rattle.pfc_semantics.specs.Calls.{activated, called}
use Rattle.pfc_semantics.specs.Selects.{choices}
use Rattle.pfc_semantics.specs.Steps.{effect, line_of}
use Rattle.pfc_translation.specs.Sites.{links_from, links_to}
use Rattle.pfc_translation.specs.Operands.{results, result_of}
use Rattle.pfc_translation.specs.Images.{image_of, end_of}
use Rattle.pfc_stacks.specs.declared.marks.Mark.TheVariants.{Plain}
use Rattle.pfc_stacks.specs.Stacks.{stack_of, operands_of, in_view}
use Rattle.pfc_stacks.specs.Activations.{has_place}
use Rattle.pfc_machines.specs.declared.machine.Machine.{Machine}
use Rattle.pfc_machines.specs.Descriptors.{descriptor_of}
use Rattle.pfc_call_actions.specs.Calls.{calls as machine_calls, activated as machine_activated, unless_full as machine_unless_full}
use Rattle.pfc_machine_acts.specs.Performing.{silent, with_block}
use Rattle.pfc_standing_code.specs.Settings.{Trial, of_own, site_of, IsBeside, same_block, IsAt}
use Rattle.pfc_standing_code.specs.Shapes.{a_number}
use Rattle.pfc_standing_code.specs.Effects.{Arm}
use Rattle.pfc_standing_code.specs.Words.{AreHeld, AreKnown, IsChecked}
use Rattle.pfc_standing_code.specs.Typed.{ByName, InExpressions, IsOfSub}
use Rattle.pfc_standing_code.specs.Performs.{own_block, Performs}
use Rattle.pfc_standing_code.proofs.Checked.{checked_for}
use Rattle.pfc_representation.specs.Levels.{Facts, program_in, LivingLevel, block_of}
use Rattle.pfc_representation.specs.Rooms.{own_address}
use Rattle.pfc_representation.specs.Callers.{ending_of, GoesBack, IsWithin}
use Rattle.pfc_representation.specs.Machines.{goes_on}
use Rattle.pfc_representation.specs.Acting.{IsActing}
use Rattle.pfc_representation.specs.Actions.{ComeToSame, IsKept, AreKept}
use Rattle.pfc_kept_own_actions.proofs.Arrived.{has_setting, code_there, code_line, acts_now, next_within}
use Rattle.pfc_kept_calls.specs.Callees.{IsCallable}
use Rattle.pfc_kept_calls.specs.Groups.{MayCall, CallsProcedure, CallsFunction}
use Rattle.pfc_kept_calls.proofs.Faults.{faulted}
use Rattle.pfc_kept_calls.proofs.Caller.{outer}
use Rattle.pfc_kept_calls.proofs.Called.{represents_called}
use Rattle.pfc_kept_calls.proofs.Sizes.{first_values, short_below, same_limit, can_call}

-- ## Both sides

module _ (facts : Facts) (m : Machine) (c : Config) (p : ℕ) (level : LivingLevel) (acting : IsActing facts m c p level)
    (own : level.setting.trial ≡ of_own) (b callee : Block) (k l : ℕ) (formals : List Formal) (x : Context) (given : List Argument) (below : List ℤ)
    (beside : IsBeside level.setting level.setting.block b) (known : AreKnown (program_in facts) b level.setting.accepts x.env)
    (can : IsCallable facts.tree b callee k l formals)
    (held : AreHeld level.setting.view (site_of (outer facts m c p level acting) b x) formals given (stack_of m.stacks p).operands below)
    (counted : (block_of level).cells ≡ layout_cells (program_in facts).state.forms (block_of level).layout) (caller : Caller) (last : Instr)
    (ends : last ≡ end_of (sub_with (program_in facts).state.blocks.subs callee.scope)) (ending : last ≡ ending_of caller)
    (back : GoesBack facts level ((stack_of m.stacks p).at + 1) below plain caller)
    (within : IsWithin facts level ((stack_of m.stacks p).at + 1) (descriptor_of m.descriptors p).communications) (line : ℕ) where
  abbrev code : CodeBlock
  code = can.code

  by_place : (u : Bool) → has_place p (length (stack_of m.stacks p).cells) code ≡ u
      → ComeToSame facts m c p line (silent (machine_unless_full u (machine_activated k code (in_view m.stacks p l) Plain p m)))
      (if u then Ok (activated (program_in facts) c p callee plain caller given (body_of callee)) else Err Full)
  by_place true place = (
    goes_on (represents_called facts m c p level acting b callee k l formals x given below caller last (first_values facts m c p level acting)
        (record {
          own = own;
          beside = beside;
          known = known;
          can = can;
          held = held;
          place = place;
          ends = ends;
          ending = ending;
          back = back;
          within = within;
          counted = counted;
        }) line),
    sym (append-nil c.output),
  )
  by_place false place = (refl, faulted facts m c p level acting line Full)

  pub come_to_same : ComeToSame facts m c p line (silent (with_block (slice_get (image_of facts.tree).blocks k) m (λ (c : CodeBlock). machine_calls k c l p m)))
      (called (program_in facts) c p callee caller given)
  come_to_same =
      subst (λ (o : Option CodeBlock). ComeToSame facts m c p line (silent (with_block o m (λ (c : CodeBlock). machine_calls k c l p m))) (called
      (program_in facts) c p callee caller given)) (sym can.is)
      (subst (λ (v : Bool). ComeToSame facts m c p line (silent (machine_unless_full (has_place p (length (stack_of m.stacks p).cells) code)
      (machine_activated k code (in_view m.stacks p l) Plain p m)))
      (if v then Ok (activated (program_in facts) c p callee plain caller given (body_of callee)) else Err Full))
      (sym (same_limit facts m c p level acting own b callee k code formals x given below beside known can.takes can.there can.is held counted))
      (by_place (has_place p (length (stack_of m.stacks p).cells) code) refl))

-- ## How the body ends

ends_by : (head : SubHead) → result_of (Some head) ≡ 0 → RET ≡ end_of (Some head)
ends_by head none = by head.sort none
  where
    by : (sort : SubSort) → result_of (Some (record head { sort = sort })) ≡ 0 → RET ≡ end_of (Some (record head { sort = sort }))
    by (Function t) h = (let both : 1 ≡ 0 = h in absurd (omega (arith, both)))
    by Procedure h = refl
    by Guarded h = refl

ends_with_result : (head : SubHead) → result_of (Some head) ≡ 1 → RETF ≡ end_of (Some head)
ends_with_result head one = by head.sort one
  where
    by : (sort : SubSort) → result_of (Some (record head { sort = sort })) ≡ 1 → RETF ≡ end_of (Some (record head { sort = sort }))
    by (Function t) h = refl
    by Procedure h = (let both : 0 ≡ 1 = h in absurd (omega (arith, both)))
    by Guarded h = (let both : 0 ≡ 1 = h in absurd (omega (arith, both)))

-- ## The laws

module _ (facts : Facts) (m : Machine) (c : Config) (p choice : ℕ) (level : LivingLevel) (acting : IsActing facts m c p level) (x : Context) (b : Block)
    (scope : ℕ)
    (formals : List Formal) (asked : ℕ → SubSort → Type 0) (given : List Argument) (below : List ℤ) (checked : IsChecked level.setting b x.env)
    (own : level.setting.trial ≡ of_own)
    (may : MayCall level scope)
    (sub : IsOfSub (site_of level.setting b x) scope formals asked) (held : AreHeld level.setting.view (site_of level.setting b x) formals given
    (operands_of m.stacks p) below)
    (there : IsAt level.setting (stack_of m.stacks p).at (CALL (block_number level.setting.program scope) (links_to (site_of level.setting b x)
    (block_at level.setting.program scope).outer)) x.line)
    (goes : IsWithin facts level (own_address level.setting.trial (stack_of m.stacks p).at) (descriptor_of m.descriptors p).communications) where
  abbrev g0 : Program
  g0 = program_in facts

  same : level.setting.program ≡ g0
  same = (has_setting facts m c p level acting).image.program

  abbrev callee : Block
  callee = block_at g0 scope

  abbrev k : ℕ
  k = block_number g0 scope

  abbrev l : ℕ
  l = links_from g0.state.blocks b callee.outer

  pub can : IsCallable facts.tree b callee k l formals
  can = callable_by level.setting.program same sub
    where
      callable_by : (q : Program) → q ≡ g0 → IsOfSub (record (site_of level.setting b x) { program = q }) scope formals asked
          → IsCallable facts.tree b callee k l formals
      callable_by q is of_sub =
          let of : IsOfSub (record (site_of level.setting b x) { program = g0 }) scope formals asked = subst (λ (z : Program). IsOfSub (record
          (site_of level.setting b x) { program = z }) scope formals asked) is of_sub in
          subst (λ (fs : List Formal). IsCallable facts.tree b callee k l fs) (sym of.own_formals)
          (may.callable facts.tree b of.number same acting.alike.program checked.beside of.among of.own_scope)

  counted : (block_of level).cells ≡ layout_cells g0.state.forms (block_of level).layout
  counted = subst (λ (t : Trial). (own_block t level.setting.block).cells ≡ layout_cells g0.state.forms (own_block t level.setting.block).layout) (sym own)
      (may.counted facts.tree level.setting.block same acting.alike.program same_block)

  known : AreKnown g0 b level.setting.accepts x.env
  known = subst (λ (z : Program). AreKnown z b level.setting.accepts x.env) same checked.known

  is_held : AreHeld level.setting.view (site_of (outer facts m c p level acting) b x) formals given (operands_of m.stacks p) below
  is_held = subst (λ (z : Program). AreHeld level.setting.view (record (site_of level.setting b x) { program = z }) formals given
      (operands_of m.stacks p) below) same held

  is_there : IsAt level.setting (stack_of m.stacks p).at (CALL k l) x.line
  is_there = subst (λ (z : Program). IsAt level.setting (stack_of m.stacks p).at (CALL (block_number z scope) (links_from z.state.blocks b
      (block_at z scope).outer)) x.line) same there

  goes_next : IsWithin facts level ((stack_of m.stacks p).at + 1) (descriptor_of m.descriptors p).communications
  goes_next = subst (λ (t : Trial). IsWithin facts level (own_address t ((stack_of m.stacks p).at + 1)) (descriptor_of m.descriptors p).communications) own
      (next_within facts m c p level acting own (CALL k l) x.line is_there refl goes)

  left_behind : (n : ℕ) → results level.setting.program (block_number level.setting.program scope) ≡ n → result_of (Some can.head) ≡ n
  left_behind n h =
      let leaves : results g0 k ≡ n = subst (λ (z : Program). results z (block_number z scope) ≡ n) same h in
      let found : get_or g0.blocks k g0.main ≡ callee = get_or_from_slice_get g0.blocks k callee g0.main can.there in
      sym (ap result_of can.headed) ∙ ap (λ (z : Block). result_of (sub_with g0.state.blocks.subs z.scope)) (sym found) ∙ leaves

  pub is_short : length below ≤ length (operands_of m.stacks p)
  is_short = short_below facts m c p level acting own b callee k can.code formals x given below checked.beside known can.takes can.there can.is is_held counted

  pub kept_by : (caller : Caller) (last : Instr) (n : Action) → last ≡ end_of (Some can.head) → last ≡ ending_of caller → GoesBack facts level
      ((stack_of m.stacks p).at + 1) below plain caller
      → line_of n ≡ x.line → choices g0 c p n ≡ 0 → effect g0 c p choice n ≡ called g0 c p callee caller given → IsKept facts m c p choice n
  kept_by caller last n ends ending back line none does = record {
    instr = CALL k l;
    is = code_there facts m c p level acting (stack_of m.stacks p).at (CALL k l) x.line is_there;
    can_step = tt;
    no_move = tt;
    can_do = record {
      acting = acts_now facts m c p level acting (CALL k l) x.line is_there;
      can = can_call facts m c p level acting own b callee k can.code formals x given below checked.beside known can.takes can.there can.is is_held counted;
    };
    line = code_line facts m c p level acting (stack_of m.stacks p).at (CALL k l) x.line is_there ∙ sym line;
    choices = sym none;
    same = subst (λ (e : Effect). ComeToSame facts m c p (line_of n) (silent (with_block (slice_get (image_of facts.tree).blocks k) m
        (λ (c : CodeBlock). machine_calls k c l p m))) e) (sym does)
        (come_to_same facts m c p level acting own b callee k l formals x given below checked.beside known can is_held counted caller last
        (ends ∙ ap end_of (sym can.headed)) ending back goes_next (line_of n));
  }

-- of a procedure
pub procedures_kept : AreKept CallsProcedure
procedures_kept facts m c p choice level (calls x (to_procedure scope k) given) may acting arrived chosen =
    let (b, checked, (formals, below, held, (alone, (sub, takes, leaves, there, behind)), lends)) = arrived.arrived in
    kept_by facts m c p choice level acting x b scope formals ByName given below checked alone.0 may sub held there arrived.within (of_remainder x.env k) RET
    (calls x (to_procedure scope k) given)
    (ends_by (can facts m c p choice level acting x b scope formals ByName given below checked alone.0 may sub held there arrived.within).head
    (left_behind facts m c p choice level acting x b scope formals ByName given below checked alone.0 may sub held there arrived.within 0 leaves))
    refl (
      shorter (length below) (length (operands_of m.stacks p)) level.setting.room
          (is_short facts m c p choice level acting x b scope formals ByName given below checked alone.0 may sub held there arrived.within) arrived.room,
      arrived.arms,
      inl (
        b,
        checked.beside,
        (
          checked_for level.setting b x.env k checked,
          subst (λ (arms : List Arm). Performs level.setting b x.env
              ((stack_of m.stacks p).at + 1) below arms k) (sym alone.1) behind,
        ),
      ),
    )
    refl refl refl
  where
    shorter : (i j n : ℕ) → i ≤ j → j ≤ n → i ≤ n
    shorter i j n h k = omega (arith, h, k)
procedures_kept facts m c p choice level n may acting arrived chosen = absurd may

-- of a function
pub functions_kept : AreKept CallsFunction
functions_kept facts m c p choice level (calls x (to_function scope u) given) may acting arrived chosen =
    let (b, checked, (formals, below, held, (own, (sub, takes, leaves, there, room, awaited)), lends)) = arrived.arrived in
    kept_by facts m c p choice level acting x b scope formals InExpressions given below checked own may sub held there arrived.within (of_value x u) RETF
    (calls x
    (to_function scope u) given)
    (ends_with_result (can facts m c p choice level acting x b scope formals InExpressions given below checked own may sub held there arrived.within).head
    (left_behind facts m c p choice level acting x b scope formals InExpressions given below checked own may sub held there arrived.within 1 leaves))
    refl
    (λ n. (room, arrived.arms, inl (b, checked.beside, (a_number, below, checked, (n, refl), refl, awaited))))
    refl refl refl
functions_kept facts m c p choice level n may acting arrived chosen = absurd may
