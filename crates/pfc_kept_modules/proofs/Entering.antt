-- A call of a procedure of a monitor or of a resource from outside.
use Rattle.std.proofs.Common.{◌≡◌, ℕ, ◌+◌, ◌<◌, ◌≤◌, ℤ, Bool, true, false, if◌then◌else◌, List, [], length, set, slice_get, Option, Some, None}
use Rattle.std.proofs.Common.{Ok, Err, refl, sym, ap, ◌∙◌, subst, arith}
use Rattle.std.specs.Prelude.{nat_le}
use Rattle.std.proofs.lemmas.List.{append-nil}
use Rattle.pfc_base.specs.declared.faults.RunFault.TheVariants.{Stack as Full}
use Rattle.pfc_types.specs.Blocks.{Blocks, module_at}
use Rattle.pfc_types.specs.declared.heads.Formal.{Formal}
use Rattle.pfc_code.specs.declared.images.Block.{Block as CodeBlock}
use Rattle.pfc_code.specs.declared.instructions.Instr.{Instr}
use Rattle.pfc_code.specs.declared.instructions.Instr.TheVariants.{MCALL, RCALL}
use Rattle.pfc_state.specs.declared.waits.Why.TheVariants.{Enter, Entrant}
use Rattle.pfc_world.specs.Holders.{Held, held_in, holder_in}
use Rattle.pfc_world.specs.Monitors.{entered_where, entered}
use Rattle.pfc_world.specs.Resources.{resource_entered_where, resource_entered}
use Rattle.pfc_world.specs.Tables.{Table}
use Rattle.pfc_world.specs.Transitions.{blocked}
use Rattle.pfc_semantics.specs.Programs.{Block, Guard, Program, block_at, block_number, layout_cells}
use Rattle.pfc_semantics.specs.Objects.{of_kind, module_number}
use Rattle.pfc_semantics.specs.Remainders.{Context, Argument, Remainder, Action, calls, to_module}
use Rattle.pfc_semantics.specs.Configurations.{of_monitor, of_resource, of_remainder, Config, Effect, activity_of, body_of, with_monitors, with_resources}
use Rattle.pfc_semantics.specs.Calls.{most_cells, cells_above, activated}
use Rattle.pfc_semantics.specs.Monitors.{enters_monitor}
use Rattle.pfc_semantics.specs.Resources.{guarded_body, enters_resource}
use Rattle.pfc_semantics.specs.Selects.{choices}
use Rattle.pfc_semantics.specs.Steps.{enters_module, effect, line_of}
use Rattle.pfc_translation.specs.Calls.{number_or_none, enter_instr, resource_of}
use Rattle.pfc_translation.specs.Images.{image_of, site_in}
use Rattle.pfc_image_laws.specs.Operands.{is_end}
use Rattle.pfc_image_laws.proofs.Modules.{module_numbered}
use Rattle.pfc_stacks.specs.declared.marks.Mark.TheVariants.{Monitor, Resource}
use Rattle.pfc_stacks.specs.Stacks.{stack_of, operands_of}
use Rattle.pfc_stacks.specs.Activations.{has_place, main_link, params_of}
use Rattle.pfc_machines.specs.declared.machine.Machine.{Machine}
use Rattle.pfc_machines.specs.Actions.{at_rest}
use Rattle.pfc_machines.specs.Descriptors.{descriptor_of}
use Rattle.pfc_object_actions.specs.Conditions.{with_monitors as machine_with_monitors}
use Rattle.pfc_call_actions.specs.Calls.{activated as machine_activated, unless_full as machine_unless_full, calls_monitor, calls_resource}
use Rattle.pfc_call_actions.specs.Calls.{with_resources as machine_with_resources}
use Rattle.pfc_machine_acts.specs.Performing.{silent, with_block}
use Rattle.pfc_standing_code.specs.Settings.{Trial, of_own, site_of, IsBeside, same_block, IsAt}
use Rattle.pfc_standing_code.specs.Words.{AreHeld, AreKnown, IsChecked}
use Rattle.pfc_standing_code.specs.Performs.{own_block, Performs}
use Rattle.pfc_standing_images.proofs.Guards.{guarded_in_resource}
use Rattle.pfc_representation.specs.Levels.{Facts, program_in, LivingLevel, block_of}
use Rattle.pfc_representation.specs.Rooms.{own_address}
use Rattle.pfc_representation.specs.Callers.{IsWithin}
use Rattle.pfc_representation.specs.Machines.{goes_on}
use Rattle.pfc_representation.specs.Acting.{IsActing, HasArrived}
use Rattle.pfc_representation.specs.Actions.{ComeToSame, IsKept, AreKept}
use Rattle.pfc_kept_own_actions.proofs.Alone.{can_go}
use Rattle.pfc_kept_own_actions.proofs.Arrived.{has_setting, stack_there, code_there, code_line, acts_now, next_within}
use Rattle.pfc_kept_object_actions.proofs.Popped.{world, rests}
use Rattle.pfc_kept_calls.proofs.Caller.{outer}
use Rattle.pfc_kept_calls.proofs.Faults.{faulted}
use Rattle.pfc_kept_calls.proofs.Sizes.{first_values, short_below, same_limit, can_call, arguments_there}
use Rattle.pfc_kept_calls.proofs.Begun.{represents_begun}
use Rattle.pfc_kept_modules.specs.Exported.{IsExported}
use Rattle.pfc_kept_modules.specs.Groups.{MayEnter, EntersModule}
use Rattle.pfc_kept_modules.proofs.Subs.{IsSubOf}
use Rattle.pfc_kept_modules.proofs.Entered.{IsEntry, begins, is_begun}
use Rattle.pfc_kept_modules.proofs.Entrances.{with_monitor, has_monitor, monitor_change, with_resource, has_resource, resource_change}
use Rattle.pfc_kept_modules.proofs.Entrances.{as_entrant, entrant_change, entrant_waits, entrant_beside}
use Rattle.pfc_kept_modules.proofs.Entrances.{as_resource_entrant, resource_entrant_change, resource_entrant_waits, resource_entrant_beside}
use Rattle.pfc_kept_modules.proofs.Behind.{IsLeft, behind_monitor, behind_resource}

shorter : (i j n : ℕ) → i ≤ j → j ≤ n → i ≤ n
shorter i j n h k = omega (arith, h, k)

module _ (facts : Facts) (m : Machine) (c : Config) (p choice : ℕ) (level : LivingLevel) (acting : IsActing facts m c p level) (b callee : Block)
    (k n : ℕ) (formals : List Formal) (x : Context) (given : List Argument) (below : List ℤ) (rest : Remainder) (own : level.setting.trial ≡ of_own)
    (beside : IsBeside level.setting level.setting.block b) (known : AreKnown (program_in facts) b level.setting.accepts x.env)
    (can : IsExported facts.tree n k callee formals)
    (held : AreHeld level.setting.view (site_of (outer facts m c p level acting) b x) formals given (stack_of m.stacks p).operands below)
    (counted : (block_of level).cells ≡ layout_cells (program_in facts).state.forms (block_of level).layout)
    (within : IsWithin facts level ((stack_of m.stacks p).at + 1) (descriptor_of m.descriptors p).communications)
    (left : IsLeft level b x.env ((stack_of m.stacks p).at + 1) below rest) where
  abbrev g : Program
  g = program_in facts

  abbrev blocks : Blocks
  blocks = g.state.blocks

  abbrev code : CodeBlock
  code = can.code

  -- the number of the module among the monitors, or among the resources
  abbrev number : ℕ
  number = module_number blocks n

  abbrev placed : Bool
  placed = has_place p (length (stack_of m.stacks p).cells) code

  limit : nat_le (cells_above (activity_of g c p).activations callee) (most_cells p) ≡ placed
  limit = same_limit facts m c p level acting own b callee k code formals x given below beside known can.takes can.there can.is held counted

  abbrev w : Table
  w = world facts m c p level acting

  -- ## A monitor

  module _ (kind : (module_at blocks n).resource ≡ false) where
    monitors_few : number < length c.monitors
    monitors_few =
        subst (λ i. number < i) (sym acting.alike.monitor_count)
        (subst (λ (q : Bool). number < of_kind q blocks.modules) kind (module_numbered blocks n can.among))

    -- its procedures have no guards
    unguarded : (guard : Guard) → callee.guard ≡ Some guard → ⊥
    unguarded guard is =
        let there = guarded_in_resource facts.tree k callee guard acting.alike.program.lawful can.there is in
        let one : there.0 ≡ n = (let both : Some there.0 ≡ Some n = sym there.1 ∙ can.inside in cc) in
        let both : true ≡ false = sym there.2 ∙ ap (λ i. (module_at blocks i).resource) one ∙ kind in
        cc

    no_guard : callee.guard ≡ None
    no_guard = by callee.guard refl
      where
        by : (q : Option Guard) → callee.guard ≡ q → callee.guard ≡ None
        by None is = is
        by (Some guard) is = absurd (unguarded guard is)

    monitor_entry : placed ≡ true → IsEntry facts m c p level acting b callee k n (of_monitor number) formals x given below x.env rest
    monitor_entry place = record {
      own = own;
      beside = beside;
      known = known;
      can = can;
      held = held;
      place = place;
      back = behind_monitor facts level b x.env ((stack_of m.stacks p).at + 1) below rest left number;
      within = within;
      counted = counted;
      linked = refl;
      guarded = λ guard is. absurd (unguarded guard is);
    }

    abbrev asked : Held → Config
    asked h = with_monitors (activated g c p callee (of_monitor number) (of_remainder x.env rest) given (guarded_body g
        (resource_of (site_in g callee)) callee callee.guard)) h

    abbrev machine_asked : Held → Machine
    machine_asked h = machine_with_monitors (machine_activated k code main_link (Monitor number) p m) h

    monitor_entered : placed ≡ true → (o : Option ℕ) → holder_in c.monitors number ≡ o
        → ComeToSame facts m c p x.line (silent (Ok (at_rest (machine_asked (entered_where o (held_in w c.monitors) p number)))))
        (Ok (asked (entered_where o (held_in c.table c.monitors) p number)))
    unfolding monitors_few monitor_entry
    monitor_entered place None free = (
      goes_on (represents_begun facts m c p level acting (with_monitor facts m c p level acting number)
          (begins facts m c p level acting b callee k n (of_monitor number) formals x given below x.env rest (first_values facts m c p level acting)
          (monitor_entry place) (with_monitor facts m c p level acting number))
          (is_begun facts m c p level acting b callee k n (of_monitor number) formals x given below x.env rest (first_values facts m c p level acting)
          (monitor_entry place) (with_monitor facts m c p level acting number) (monitor_change facts m c p level acting number free) (λ q apart. refl)
          (has_monitor facts m c p level acting number monitors_few))
          x.line w (record m.monitors { holders = set c.monitors number (Some p) }) m.resources (rests facts m c p level acting) refl refl refl
          acting.alike.words.resources),
      sym (append-nil c.output),
    )
    monitor_entered place (Some q) taken = (
      goes_on (represents_begun facts m c p level acting (as_entrant facts m c p level acting number)
          (begins facts m c p level acting b callee k n (of_monitor number) formals x given below x.env rest (first_values facts m c p level acting)
          (monitor_entry place) (as_entrant facts m c p level acting number))
          (is_begun facts m c p level acting b callee k n (of_monitor number) formals x given below x.env rest (first_values facts m c p level acting)
          (monitor_entry place) (as_entrant facts m c p level acting number) (entrant_change facts m c p level acting number)
          (entrant_beside facts m c p level acting number) (entrant_waits facts m c p level acting number))
          x.line (blocked w p (Enter number) []) (record m.monitors { holders = c.monitors }) m.resources refl refl refl refl
          acting.alike.words.resources),
      sym (append-nil c.output),
    )

    monitor_by_place : (u : Bool) → placed ≡ u
        → ComeToSame facts m c p x.line (silent (machine_unless_full u (machine_asked (entered (held_in w c.monitors) p number))))
        (if u then Ok (asked (entered (held_in c.table c.monitors) p number)) else Err Full)
    monitor_by_place true place = monitor_entered place (holder_in c.monitors number) refl
    monitor_by_place false place = (refl, faulted facts m c p level acting x.line Full)

    pub monitor_same : ComeToSame facts m c p x.line
        (silent (with_block (slice_get (image_of facts.tree).blocks k) m (λ (e : CodeBlock). calls_monitor number k e p m)))
        (enters_monitor g c p callee number (of_remainder x.env rest) given)
    monitor_same =
        subst (λ (q : Option CodeBlock). ComeToSame facts m c p x.line (silent (with_block q m (λ (e : CodeBlock). calls_monitor number k e p m)))
        (enters_monitor g c p callee number (of_remainder x.env rest) given)) (sym can.is)
        (subst (λ (y : Table). ComeToSame facts m c p x.line
        (silent (machine_unless_full placed (machine_asked (entered (held_in y m.monitors.holders) p number))))
        (enters_monitor g c p callee number (of_remainder x.env rest) given)) (sym acting.world)
        (subst (λ (hs : List (Option ℕ)). ComeToSame facts m c p x.line
        (silent (machine_unless_full placed (machine_asked (entered (held_in w hs) p number))))
        (enters_monitor g c p callee number (of_remainder x.env rest) given)) (sym acting.alike.words.monitors)
        (subst (λ (v : Bool). ComeToSame facts m c p x.line (silent (machine_unless_full placed (machine_asked (entered (held_in w c.monitors) p number))))
        (if v then Ok (with_monitors (activated g c p callee (of_monitor number) (of_remainder x.env rest) given (body_of callee))
        (entered (held_in c.table c.monitors) p number)) else Err Full)) (sym limit)
        (subst (λ (q : Option Guard). ComeToSame facts m c p x.line
        (silent (machine_unless_full placed (machine_asked (entered (held_in w c.monitors) p number))))
        (if placed then Ok (with_monitors (activated g c p callee (of_monitor number) (of_remainder x.env rest) given
        (guarded_body g (resource_of (site_in g callee)) callee q)) (entered (held_in c.table c.monitors) p number)) else Err Full)) no_guard
        (monitor_by_place placed refl)))))

  -- ## A resource

  module _ (kind : (module_at blocks n).resource ≡ true) where
    below_resources : number < of_kind true blocks.modules
    below_resources = subst (λ (q : Bool). number < of_kind q blocks.modules) kind (module_numbered blocks n can.among)

    resources_few : number < length c.resources
    resources_few = subst (λ i. number < i) (sym acting.alike.resource_count) below_resources

    its_number : resource_of (site_in g callee) ≡ number
    its_number = ap (λ (q : Option ℕ). number_or_none blocks q) can.inside

    resource_entry : placed ≡ true → IsEntry facts m c p level acting b callee k n (of_resource number) formals x given below x.env rest
    resource_entry place = record {
      own = own;
      beside = beside;
      known = known;
      can = can;
      held = held;
      place = place;
      back = behind_resource facts level b x.env ((stack_of m.stacks p).at + 1) below rest left number acting.alike.program
          (has_setting facts m c p level acting).image below_resources;
      within = within;
      counted = counted;
      linked = refl;
      guarded = λ guard is. ap of_resource (sym its_number);
    }

    abbrev wanted : Held → Config
    wanted h = with_resources (activated g c p callee (of_resource number) (of_remainder x.env rest) given (guarded_body g
        (resource_of (site_in g callee)) callee callee.guard)) h

    abbrev machine_wanted : Held → Machine
    machine_wanted h = machine_with_resources (machine_activated k code main_link (Resource number) p m) h

    resource_entered_so : placed ≡ true → (o : Option ℕ) → holder_in c.resources number ≡ o
        → ComeToSame facts m c p x.line (silent (Ok (at_rest (machine_wanted (resource_entered_where o (held_in w c.resources) p number)))))
        (Ok (wanted (resource_entered_where o (held_in c.table c.resources) p number)))
    unfolding resources_few resource_entry
    resource_entered_so place None free = (
      goes_on (represents_begun facts m c p level acting (with_resource facts m c p level acting number)
          (begins facts m c p level acting b callee k n (of_resource number) formals x given below x.env rest (first_values facts m c p level acting)
          (resource_entry place) (with_resource facts m c p level acting number))
          (is_begun facts m c p level acting b callee k n (of_resource number) formals x given below x.env rest (first_values facts m c p level acting)
          (resource_entry place) (with_resource facts m c p level acting number) (resource_change facts m c p level acting number free) (λ q apart. refl)
          (has_resource facts m c p level acting number resources_few))
          x.line w m.monitors (set c.resources number (Some p)) (rests facts m c p level acting) refl acting.alike.words.monitors refl refl),
      sym (append-nil c.output),
    )
    resource_entered_so place (Some q) taken = (
      goes_on (represents_begun facts m c p level acting (as_resource_entrant facts m c p level acting number)
          (begins facts m c p level acting b callee k n (of_resource number) formals x given below x.env rest (first_values facts m c p level acting)
          (resource_entry place) (as_resource_entrant facts m c p level acting number))
          (is_begun facts m c p level acting b callee k n (of_resource number) formals x given below x.env rest (first_values facts m c p level acting)
          (resource_entry place) (as_resource_entrant facts m c p level acting number) (resource_entrant_change facts m c p level acting number)
          (resource_entrant_beside facts m c p level acting number) (resource_entrant_waits facts m c p level acting number))
          x.line (blocked w p (Entrant number) []) m.monitors c.resources refl refl acting.alike.words.monitors refl refl),
      sym (append-nil c.output),
    )

    resource_by_place : (u : Bool) → placed ≡ u
        → ComeToSame facts m c p x.line (silent (machine_unless_full u (machine_wanted (resource_entered (held_in w c.resources) p number))))
        (if u then Ok (wanted (resource_entered (held_in c.table c.resources) p number)) else Err Full)
    resource_by_place true place = resource_entered_so place (holder_in c.resources number) refl
    resource_by_place false place = (refl, faulted facts m c p level acting x.line Full)

    pub resource_same : ComeToSame facts m c p x.line
        (silent (with_block (slice_get (image_of facts.tree).blocks k) m (λ (e : CodeBlock). calls_resource number k e p m)))
        (enters_resource g c p callee number (of_remainder x.env rest) given)
    resource_same =
        subst (λ (q : Option CodeBlock). ComeToSame facts m c p x.line (silent (with_block q m (λ (e : CodeBlock). calls_resource number k e p m)))
        (enters_resource g c p callee number (of_remainder x.env rest) given)) (sym can.is)
        (subst (λ (y : Table). ComeToSame facts m c p x.line
        (silent (machine_unless_full placed (machine_wanted (resource_entered (held_in y m.resources) p number))))
        (enters_resource g c p callee number (of_remainder x.env rest) given)) (sym acting.world)
        (subst (λ (hs : List (Option ℕ)). ComeToSame facts m c p x.line
        (silent (machine_unless_full placed (machine_wanted (resource_entered (held_in w hs) p number))))
        (enters_resource g c p callee number (of_remainder x.env rest) given)) (sym acting.alike.words.resources)
        (subst (λ (v : Bool). ComeToSame facts m c p x.line
        (silent (machine_unless_full placed (machine_wanted (resource_entered (held_in w c.resources) p number))))
        (if v then Ok (with_resources (activated g c p callee (of_resource number) (of_remainder x.env rest) given
        (guarded_body g number callee callee.guard)) (resource_entered (held_in c.table c.resources) p number)) else Err Full)) (sym limit)
        (subst (λ (r : ℕ). ComeToSame facts m c p x.line
        (silent (machine_unless_full placed (machine_wanted (resource_entered (held_in w c.resources) p number))))
        (if placed then Ok (with_resources (activated g c p callee (of_resource number) (of_remainder x.env rest) given
        (guarded_body g r callee callee.guard)) (resource_entered (held_in c.table c.resources) p number)) else Err Full)) its_number
        (resource_by_place placed refl)))))

  -- ## The instruction

  module _ (there : IsAt level.setting (stack_of m.stacks p).at (enter_instr (module_at blocks n).resource number k) x.line)
      (goes : IsWithin facts level (own_address level.setting.trial (stack_of m.stacks p).at) (descriptor_of m.descriptors p).communications) where
    abbrev here : ℕ
    here = (stack_of m.stacks p).at

    enough : params_of (slice_get (image_of facts.tree).blocks k) ≤ length (operands_of m.stacks p)
    enough = subst (λ (o : Option CodeBlock). params_of o ≤ length (operands_of m.stacks p)) (sym can.is)
        (arguments_there facts m c p level acting own b callee k code formals x given below beside known can.takes can.there can.is held counted)

    pub monitor_kept : (module_at blocks n).resource ≡ false → (action : Action) → line_of action ≡ x.line → choices g c p action ≡ 0
        → effect g c p choice action ≡ enters_module g c p n callee (of_remainder x.env rest) given → IsKept facts m c p choice action
    monitor_kept kind action line none does =
        let at : IsAt level.setting here (MCALL number k) x.line =
        subst (λ (q : Bool). IsAt level.setting here (enter_instr q number k) x.line) kind there in
        record {
          instr = MCALL number k;
          is = code_there facts m c p level acting here (MCALL number k) x.line at;
          can_step = record {
            stack = stack_there facts m c p level acting;
            performed = record { held = enough; room = grind arith; reach = tt };
            goes = λ outward. can_go facts m c p level acting (MCALL number k) x.line at refl (grind arith) goes;
          };
          no_move = tt;
          can_do = record {
            acting = acts_now facts m c p level acting (MCALL number k) x.line at;
            can = record {
              known = subst (λ (hs : List (Option ℕ)). number < length hs) (sym acting.alike.words.monitors) (monitors_few kind);
              can = can_call facts m c p level acting own b callee k code formals x given below beside known can.takes can.there can.is held counted;
            };
          };
          line = code_line facts m c p level acting here (MCALL number k) x.line at ∙ sym line;
          choices = sym none;
          same =
              subst (λ (l : ℕ). ComeToSame facts m c p l
              (silent (with_block (slice_get (image_of facts.tree).blocks k) m (λ (e : CodeBlock). calls_monitor number k e p m)))
              (effect g c p choice action)) (sym line)
              (subst (λ (e : Effect). ComeToSame facts m c p x.line
              (silent (with_block (slice_get (image_of facts.tree).blocks k) m (λ (e : CodeBlock). calls_monitor number k e p m))) e) (sym does)
              (subst (λ (q : Bool). ComeToSame facts m c p x.line
              (silent (with_block (slice_get (image_of facts.tree).blocks k) m (λ (e : CodeBlock). calls_monitor number k e p m)))
              (if q then enters_resource g c p callee number (of_remainder x.env rest) given
              else enters_monitor g c p callee number (of_remainder x.env rest) given)) (sym kind) (monitor_same kind)));
        }

    pub resource_kept : (module_at blocks n).resource ≡ true → (action : Action) → line_of action ≡ x.line → choices g c p action ≡ 0
        → effect g c p choice action ≡ enters_module g c p n callee (of_remainder x.env rest) given → IsKept facts m c p choice action
    resource_kept kind action line none does =
        let at : IsAt level.setting here (RCALL number k) x.line =
        subst (λ (q : Bool). IsAt level.setting here (enter_instr q number k) x.line) kind there in
        record {
          instr = RCALL number k;
          is = code_there facts m c p level acting here (RCALL number k) x.line at;
          can_step = record {
            stack = stack_there facts m c p level acting;
            performed = record { held = enough; room = grind arith; reach = tt };
            goes = λ outward. can_go facts m c p level acting (RCALL number k) x.line at refl (grind arith) goes;
          };
          no_move = tt;
          can_do = record {
            acting = acts_now facts m c p level acting (RCALL number k) x.line at;
            can = record {
              known = subst (λ (hs : List (Option ℕ)). number < length hs) (sym acting.alike.words.resources) (resources_few kind);
              can = can_call facts m c p level acting own b callee k code formals x given below beside known can.takes can.there can.is held counted;
            };
          };
          line = code_line facts m c p level acting here (RCALL number k) x.line at ∙ sym line;
          choices = sym none;
          same =
              subst (λ (l : ℕ). ComeToSame facts m c p l
              (silent (with_block (slice_get (image_of facts.tree).blocks k) m (λ (e : CodeBlock). calls_resource number k e p m)))
              (effect g c p choice action)) (sym line)
              (subst (λ (e : Effect). ComeToSame facts m c p x.line
              (silent (with_block (slice_get (image_of facts.tree).blocks k) m (λ (e : CodeBlock). calls_resource number k e p m))) e) (sym does)
              (subst (λ (q : Bool). ComeToSame facts m c p x.line
              (silent (with_block (slice_get (image_of facts.tree).blocks k) m (λ (e : CodeBlock). calls_resource number k e p m)))
              (if q then enters_resource g c p callee number (of_remainder x.env rest) given
              else enters_monitor g c p callee number (of_remainder x.env rest) given)) (sym kind) (resource_same kind)));
        }

-- ## The law

module _ (facts : Facts) (m : Machine) (c : Config) (p choice : ℕ) (level : LivingLevel) (acting : IsActing facts m c p level) (x : Context) (b : Block)
    (n scope : ℕ) (rest : Remainder) (formals : List Formal) (given : List Argument) (below : List ℤ) (checked : IsChecked level.setting b x.env)
    (alone : (level.setting.trial ≡ of_own) × (level.arms ≡ [])) (may : MayEnter level n scope) (sub : IsSubOf level.setting.program scope formals)
    (held : AreHeld level.setting.view (site_of level.setting b x) formals given (operands_of m.stacks p) below)
    (there : IsAt level.setting (stack_of m.stacks p).at (enter_instr (module_at level.setting.program.state.blocks n).resource
    (module_number level.setting.program.state.blocks n) (block_number level.setting.program scope)) x.line)
    (behind : Performs level.setting b x.env ((stack_of m.stacks p).at + 1) below [] rest)
    (arrived : HasArrived facts m c p level (calls x (to_module n scope rest) given)) where
  abbrev g0 : Program
  g0 = program_in facts

  same : level.setting.program ≡ g0
  same = (has_setting facts m c p level acting).image.program

  abbrev called : Block
  called = block_at g0 scope

  abbrev number_of_block : ℕ
  number_of_block = block_number g0 scope

  exported : IsExported facts.tree n number_of_block called formals
  exported = by level.setting.program same sub
    where
      by : (q : Program) → q ≡ g0 → IsSubOf q scope formals → IsExported facts.tree n number_of_block called formals
      by q is of_sub =
          let of : IsSubOf g0 scope formals = subst (λ (z : Program). IsSubOf z scope formals) is of_sub in
          subst (λ (fs : List Formal). IsExported facts.tree n number_of_block called fs) (sym of.own_formals)
          (may.exported facts.tree of.number same acting.alike.program of.among of.own_scope)

  counted_so : (block_of level).cells ≡ layout_cells g0.state.forms (block_of level).layout
  counted_so = subst (λ (t : Trial). (own_block t level.setting.block).cells ≡ layout_cells g0.state.forms (own_block t level.setting.block).layout)
      (sym alone.0) (may.counted facts.tree level.setting.block same acting.alike.program same_block)

  known_there : AreKnown g0 b level.setting.accepts x.env
  known_there = subst (λ (z : Program). AreKnown z b level.setting.accepts x.env) same checked.known

  held_there : AreHeld level.setting.view (site_of (outer facts m c p level acting) b x) formals given (operands_of m.stacks p) below
  held_there = subst (λ (z : Program). AreHeld level.setting.view (record (site_of level.setting b x) { program = z }) formals given
      (operands_of m.stacks p) below) same held

  instruction : IsAt level.setting (stack_of m.stacks p).at (enter_instr (module_at g0.state.blocks n).resource (module_number g0.state.blocks n)
      number_of_block) x.line
  instruction = subst (λ (z : Program). IsAt level.setting (stack_of m.stacks p).at (enter_instr (module_at z.state.blocks n).resource
      (module_number z.state.blocks n) (block_number z scope)) x.line) same there

  goes_next : IsWithin facts level ((stack_of m.stacks p).at + 1) (descriptor_of m.descriptors p).communications
  goes_next = by (module_at g0.state.blocks n).resource instruction
    where
      step : (i : Instr) → IsAt level.setting (stack_of m.stacks p).at i x.line → is_end i ≡ false
          → IsWithin facts level ((stack_of m.stacks p).at + 1) (descriptor_of m.descriptors p).communications
      step i at no_end =
          subst (λ (t : Trial). IsWithin facts level (own_address t ((stack_of m.stacks p).at + 1)) (descriptor_of m.descriptors p).communications) alone.0
          (next_within facts m c p level acting alone.0 i x.line at no_end arrived.within)

      by : (q : Bool) → IsAt level.setting (stack_of m.stacks p).at (enter_instr q (module_number g0.state.blocks n) number_of_block) x.line
          → IsWithin facts level ((stack_of m.stacks p).at + 1) (descriptor_of m.descriptors p).communications
      by true at = step (RCALL (module_number g0.state.blocks n) number_of_block) at refl
      by false at = step (MCALL (module_number g0.state.blocks n) number_of_block) at refl

  is_left : IsLeft level b x.env ((stack_of m.stacks p).at + 1) below rest
  is_left = record {
    own = alone.0;
    none = alone.1;
    fits = shorter (length below) (length (operands_of m.stacks p)) level.setting.room
        (short_below facts m c p level acting alone.0 b called number_of_block exported.code formals x given below checked.beside known_there exported.takes
        exported.there exported.is held_there counted_so) arrived.room;
    beside = checked.beside;
    checked = checked;
    performs = behind;
  }

  pub entering_kept : IsKept facts m c p choice (calls x (to_module n scope rest) given)
  entering_kept = by (module_at g0.state.blocks n).resource refl
    where
      by : (q : Bool) → (module_at g0.state.blocks n).resource ≡ q → IsKept facts m c p choice (calls x (to_module n scope rest) given)
      by true kind =
          resource_kept facts m c p choice level acting b called number_of_block n formals x given below rest alone.0 checked.beside known_there exported
          held_there counted_so goes_next is_left instruction arrived.within kind (calls x (to_module n scope rest) given) refl refl refl
      by false kind =
          monitor_kept facts m c p choice level acting b called number_of_block n formals x given below rest alone.0 checked.beside known_there exported
          held_there counted_so goes_next is_left instruction arrived.within kind (calls x (to_module n scope rest) given) refl refl refl

pub modules_kept : AreKept EntersModule
modules_kept facts m c p choice level (calls x (to_module n scope k) given) may acting arrived chosen =
    let (b, checked, (formals, below, held, (alone, (sub, takes, there, behind)), lends)) = arrived.arrived in
    entering_kept facts m c p choice level acting x b n scope k formals given below checked alone may
    (record { number = sub.number; among = sub.among; own_scope = sub.own_scope; own_formals = sub.own_formals }) held there behind arrived
modules_kept facts m c p choice level n may acting arrived chosen = absurd may
