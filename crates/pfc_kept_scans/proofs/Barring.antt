-- A false guard of the own procedure: the process is barred.
use Rattle.std.proofs.Common.{◌≡◌, ℕ, ◌+◌, ◌≤◌, ℤ, Bool, List, [], length, set, drop, slice_get, get_or, Option, Some, None, Ok}
use Rattle.std.proofs.Common.{refl, sym, ap, ◌∙◌, subst, arith, inl, inr, ◌⊎◌}
use Rattle.std.proofs.lemmas.List.{get_or-set_same}
use Rattle.pfc_code.specs.declared.instructions.Instr.TheVariants.{GRD}
use Rattle.pfc_state.specs.Stands.{Stand, is_unfinished}
use Rattle.pfc_state.specs.declared.waits.Why.TheVariants.{Barred}
use Rattle.pfc_values.specs.Numbers.{is_true}
use Rattle.pfc_world.specs.Holders.{Held, held_in, holder_in}
use Rattle.pfc_world.specs.Partners.{next_entrant}
use Rattle.pfc_world.specs.Resources.{given_up, barred}
use Rattle.pfc_world.specs.Tables.{Table, at}
use Rattle.pfc_world.specs.Transitions.{blocked, rested, ticked}
use Rattle.pfc_semantics.specs.Programs.{Block, Program, block_number}
use Rattle.pfc_semantics.specs.Remainders.{Context, Bar, Remainder, bars}
use Rattle.pfc_semantics.specs.Rewriting.{Doing, going}
use Rattle.pfc_semantics.specs.Resources.{barred_by}
use Rattle.pfc_semantics.specs.Configurations.{Hand, barred_at, Activity, Config, activity_of}
use Rattle.pfc_translation.specs.Calls.{resource_of}
use Rattle.pfc_translation.specs.Images.{image_of, site_in}
use Rattle.pfc_stacks.specs.Stacks.{Stack, no_stack, stack_of, operand, operands_of, own_number, block_place}
use Rattle.pfc_machines.specs.declared.machine.Machine.{Machine}
use Rattle.pfc_machines.specs.declared.descriptors.Descriptor.{Descriptor}
use Rattle.pfc_machines.specs.declared.descriptors.Scan.{Scan as MachineScan}
use Rattle.pfc_machines.specs.Actions.{at_rest}
use Rattle.pfc_machines.specs.Descriptors.{descriptor_by, descriptor_of}
use Rattle.pfc_machines.specs.Quiet.{QuietEffect, acts, left_by, tried_in, guarding, quiet_effect}
use Rattle.pfc_call_actions.specs.Calls.{with_resources}
use Rattle.pfc_resource_actions.specs.Guards as machine
use Rattle.pfc_machine_acts.specs.Acting.{comes_to}
use Rattle.pfc_machine_acts.specs.Performing.{silent}
use Rattle.pfc_machine_acts.specs.Running.{IsNoMove}
use Rattle.pfc_standing_code.specs.Settings.{Trial, of_own, IsAt, IsBeside}
use Rattle.pfc_standing_code.specs.Effects.{Arm}
use Rattle.pfc_standing_code.specs.Words.{IsChecked}
use Rattle.pfc_standing_code.specs.Performs.{IsOwnBar, own_block}
use Rattle.pfc_standing_code.specs.Following.{ArrivedBy}
use Rattle.pfc_following_source.specs.Behind.{GoesOnAt}
use Rattle.pfc_following_source.proofs.Behind.{leads_on}
use Rattle.pfc_representation.specs.Levels.{Facts, program_in, LivingLevel, block_of, DoesOn}
use Rattle.pfc_representation.specs.Hands.{IsBarred}
use Rattle.pfc_representation.specs.Holding.{Holds}
use Rattle.pfc_representation.specs.Trials.{TrialIs, HasTried}
use Rattle.pfc_representation.specs.Machines.{machine_table}
use Rattle.pfc_representation.specs.Acting.{IsActing, HasArrived}
use Rattle.pfc_representation.specs.Actions.{ComeToSame, IsKept, AreKept}
use Rattle.pfc_kept_own_actions.proofs.Alone.{does_on, can_go}
use Rattle.pfc_kept_own_actions.proofs.Arrived.{has_setting, stack_there, code_there, code_line, acts_now, next_within}
use Rattle.pfc_kept_scans.specs.Groups.{IsOfItsBlock, IsBarring}
use Rattle.pfc_kept_scans.proofs.Behind.{holders_with, comes_then}
use Rattle.pfc_kept_scans.proofs.Others.{lender_still}
use Rattle.pfc_kept_scans.proofs.Procedures.{guarded_alone}
use Rattle.pfc_kept_scans.proofs.Giving.{WaitsFor, holder_within, next_waits, machine_gives, given_holders}
use Rattle.pfc_kept_scans.proofs.Giving as give
use Rattle.pfc_kept_scans.proofs.GuardNames.{guard_checked}
use Rattle.pfc_kept_scans.proofs.Own.{own_number_is, block_there, number_is, own_held}
use Rattle.pfc_kept_scans.proofs.Own as mine
use Rattle.pfc_kept_scans.proofs.Step.{stacks, activities, descriptors, IsStep, behind_of}
use Rattle.pfc_kept_scans.proofs.Waiting.{set_same, shown_so, blocked_same}
use Rattle.pfc_kept_scans.proofs.Waiting as wait

module _ (facts : Facts) (m : Machine) (c : Config) (p choice : ℕ) (level : LivingLevel) (x : Context) (bar : Bar) (k : Remainder)
    (acting : IsActing facts m c p level) (arrived : HasArrived facts m c p level (bars x bar k)) (own : level.setting.trial ≡ of_own) where
  abbrev s : Stack
  s = stack_of m.stacks p

  abbrev here : ℕ
  here = s.at

  abbrev ops : List ℤ
  ops = operands_of m.stacks p

  abbrev g : Program
  g = program_in facts

  abbrev a : Activity
  a = activity_of g c p

  abbrev d : Descriptor
  d = descriptor_of m.descriptors p

  abbrev r : ℕ
  r = bar.resource

  in_none : (s.looks_from ≡ None) × (d.scan ≡ None)
  in_none = which acting.actor.trial
    where
      which : TrialIs level.setting.trial facts acting.homes acting.entries c.store m.stacks c.table p level a.activations d
          ⊎ HasTried level.setting.trial facts s level a.activations d
          → (s.looks_from ≡ None) × (d.scan ≡ None)
      which (inl is) = subst (λ (t : Trial). TrialIs t facts acting.homes acting.entries c.store m.stacks c.table p level a.activations d) own is
      which (inr is) = absurd (let no : ⊥ = subst (λ (t : Trial). HasTried t facts s level a.activations d) own is in no)

  module _ (b : Block) (checked : IsChecked level.setting b x.env) (by : ArrivedBy level.setting b here ops level.arms (bars x bar k))
      (of_own_block : IsOfItsBlock level.setting.program bar) where
    there : IsAt level.setting here (GRD r) x.line
    there = by.1.5

    guard : IsOwnBar level.setting b bar
    guard = by.1.4

    -- ## Its procedure

    same_program : level.setting.program ≡ g
    same_program = (has_setting facts m c p level acting).image.program

    its_block : b ≡ level.setting.block
    its_block = guarded_alone facts.tree level.setting level.setting.block b guard.0 same_program checked.beside guard.1

    own_one : b ≡ block_of level
    own_one = its_block ∙ sym (ap (λ (t : Trial). own_block t level.setting.block) own)

    has_guard : (block_of level).guard ≡ Some guard.0
    has_guard = ap (λ (y : Block). y.guard) (sym own_one) ∙ guard.1

    names : IsChecked level.setting (block_of level) bar.context.env
    names =
        guard_checked facts m c p level acting own bar (subst (λ (y : Block). IsOwnBar level.setting y bar) own_one guard)
        (subst (λ (y : Block). IsBeside level.setting level.setting.block y) own_one checked.beside)

    number : (mine.top facts m c p level acting).own.block ≡ bar.procedure
    number =
        number_is facts m c p level acting guard.0 has_guard ∙ ap (λ (y : Block). block_number g y.scope) (sym own_one)
        ∙ ap (λ (y : Program). block_number y b.scope) (sym same_program) ∙ ap (λ (y : Bar). y.procedure) (sym guard.2)

    procedure_is : own_number s block_place ≡ bar.procedure
    procedure_is = own_number_is facts m c p level acting ∙ number

    resource_is : r ≡ resource_of (site_in g (block_of level))
    resource_is =
        of_own_block (block_of level) (ap (λ (y : Program). slice_get y.blocks bar.procedure) same_program ∙ ap (λ n. slice_get g.blocks n) (sym number)
        ∙ block_there facts m c p level acting guard.0 has_guard)
        ∙ ap (λ (y : Program). resource_of (site_in y (block_of level))) same_program

    held : holder_in c.resources r ≡ Some p
    held = ap (λ n. holder_in c.resources n) resource_is ∙ own_held facts m c p level acting guard.0 has_guard

    -- ## Behind it

    next : (q : ℕ) → next_entrant c.table.rows r ≡ Some q → WaitsFor r (at c.table.rows q)
    next q is = next_waits c.table.rows r q is

    abbrev given : Held
    given = give.given facts m c p level acting r held (next_entrant c.table.rows r) next

    abbrev table : Table
    table = wait.table facts m c p level acting r bar.procedure held (next_entrant c.table.rows r) next

    abbrev stand : Stand
    stand = wait.stand facts m c p level acting r bar.procedure held (next_entrant c.table.rows r) next

    abbrev stack : Stack
    stack = record s { at = here + 1; operands = drop 1 ops }

    abbrev doing : Doing
    doing = going x.env k

    abbrev hand : Hand
    hand = barred_at bar

    row_mine : at table.rows p ≡ stand
    row_mine = wait.row_mine facts m c p level acting r bar.procedure held (next_entrant c.table.rows r) next

    does : DoesOn level (here + 1) (drop 1 ops) doing
    does =
        let goes : GoesOnAt level.setting b (here + 1) (drop 1 ops) [] doing =
        leads_on level.setting b here (bars x bar k) ops level.arms arrived.room checked by (GRD r) x.line there in
        does_on level b (here + 1) (drop 1 ops) doing checked.beside arrived.arms
        (subst (λ (arms : List Arm). GoesOnAt level.setting b (here + 1) (drop 1 ops) arms doing) (sym by.0.1) goes)

    shows : IsBarred level (here + 1) (drop 1 ops) (at table.rows p) doing bar
    shows =
        record {
          own = own;
          guard = subst (λ (y : Block). IsOwnBar level.setting y bar) its_block guard;
          names = subst (λ (y : Block). IsChecked level.setting y bar.context.env) (sym own_one ∙ its_block) names;
          waits = inr (given.table.done + 1, row_mine);
          behind = does;
        }

    stack_here : stack_of (set m.stacks p stack) p ≡ stack
    stack_here = get_or-set_same m.stacks p stack no_stack (stack_there facts m c p level acting)

    abbrev d' : Descriptor
    d' = record d { scan = None; line = x.line }

    step : IsStep facts m c p level acting level stack table given.holders None doing hand x.line (here + 1) (drop 1 ops) s.looks_from
    step =
        record {
          stack_is = refl;
          row_count = wait.rows_same facts m c p level acting r bar.procedure held (next_entrant c.table.rows r) next;
          resource_count = give.resource_count facts m c p level acting r held (next_entrant c.table.rows r) next;
          rests = refl;
          done = (give.clock_same facts m c p level acting r held (next_entrant c.table.rows r) next).0;
          moment = (give.clock_same facts m c p level acting r held (next_entrant c.table.rows r) next).1;
          stands = wait.stands_then facts m c p level acting r bar.procedure held (next_entrant c.table.rows r) next;
          others = wait.others_so facts m c p level acting r bar.procedure held (next_entrant c.table.rows r) next stack;
          mine = record {
            same = refl;
            arms = refl;
            here = stack_here;
            lenders =
                lender_still facts m c p level acting (set m.stacks p stack) table given.holders
                (wait.others_so facts m c p level acting r bar.procedure held (next_entrant c.table.rows r) next stack) p;
            unfinished = ap is_unfinished row_mine;
            holds =
                subst (λ (t : Trial). Holds (holders_with facts c given.holders) p (at table.rows p) t a.activations) (sym own)
                (wait.holds_then facts m c p level acting r bar.procedure held (next_entrant c.table.rows r) next a.activations acting.actor.stands.holds);
            room = acting.actor.stands.room;
            within = next_within facts m c p level acting own (GRD r) x.line there refl arrived.within;
            shown = (acting.actor.offered, shows);
            trial =
                subst (λ (t : Trial). TrialIs t facts acting.homes acting.entries c.store (set m.stacks p stack) (ticked table) p level a.activations d')
                (sym own) (ap (λ (y : Stack). y.looks_from) stack_here ∙ in_none.0, refl);
          };
        }

    -- ## Both sides

    descriptors_same : set m.descriptors p (record d { scan = None }) ≡ m.descriptors
    descriptors_same =
        ap (λ (o : Option MachineScan). set m.descriptors p (record d { scan = o })) (sym in_none.1) ∙ set_same m.descriptors p (descriptor_by 0)

    abbrev end : ℕ → Machine
    end n = with_resources (left_by m p 1) (barred (held_in m.world m.resources) p r n)

    world_is : rested (blocked (given_up (held_in m.world m.resources) r).table p (Barred r bar.procedure) []) ≡ machine_table facts table
    world_is =
        ap (λ (h : Held). blocked h.table p (Barred r bar.procedure) []) (machine_gives facts m c p level acting r)
        ∙ blocked_same facts m c p level acting (next_entrant c.table.rows r) r bar.procedure

    barred_same : ComeToSame facts m c p x.line (silent (Ok (at_rest (end bar.procedure)))) (barred_by g c p x bar k)
    barred_same =
        subst (λ (xs : List Activity). ComeToSame facts m c p x.line (silent (Ok (at_rest (end bar.procedure))))
        (Ok (record c { activities = xs; table = table; resources = given.holders }))) (sym (shown_so facts m c p level acting doing hand))
        (subst (λ (ds : List Descriptor). ComeToSame facts m c p x.line
        (silent (Ok (record m {
          stacks = set m.stacks p stack;
          descriptors = ds;
          world = rested (blocked (given_up (held_in m.world m.resources) r).table p
              (Barred r bar.procedure) []);
          resources = (given_up (held_in m.world m.resources) r).holders;
        })))
        (Ok (record c { activities = set c.activities p (record a { doing = doing; hand = hand }); table = table; resources = given.holders })))
        descriptors_same
        (comes_then facts m c p level acting x.line
        (activities facts m c p level acting level stack table given.holders None doing hand x.line)
        (descriptors facts m c p level acting level stack table given.holders None doing hand x.line)
        (stacks facts m c p level acting level stack table given.holders None doing hand x.line) table given.holders
        (behind_of facts m c p level acting level stack table given.holders None doing hand x.line (here + 1) (drop 1 ops) s.looks_from step)
        (rested (blocked (given_up (held_in m.world m.resources) r).table p (Barred r bar.procedure) []))
        (given_up (held_in m.world m.resources) r).holders world_is
        (ap (λ (h : Held). h.holders) (machine_gives facts m c p level acting r)
        ∙ given_holders facts m c p level acting r (next_entrant c.table.rows r))))

    guards_are : machine.guarded_in (image_of facts.tree).blocks d.scan r p m ≡ end bar.procedure
    guards_are =
        ap (λ (o : Option MachineScan). machine.guarded_in (image_of facts.tree).blocks o r p m) in_none.1 ∙ ap (λ n. end n) procedure_is

    is_action : quiet_effect (image_of facts.tree).scans (GRD r) p m ≡ acts
    is_action =
        ap (λ (o : Option MachineScan). guarding (tried_in o) (is_true (operand ops 0)) (get_or (image_of facts.tree).scans r 0) p m) in_none.1
        ∙ ap (λ (xs : List ℤ). guarding None (is_true (operand xs 0)) (get_or (image_of facts.tree).scans r 0) p m) by.1.2
        ∙ ap (λ (t : Bool). guarding None t (get_or (image_of facts.tree).scans r 0) p m) by.1.3

    one_held : 1 ≤ length ops
    one_held = (let size = ap (λ (xs : List ℤ). length xs) by.1.2 in grind (arith, size))

    held_there : holder_in m.resources r ≡ Some p
    held_there = ap (λ (hs : List (Option ℕ)). holder_in hs r) acting.alike.words.resources ∙ held

    pub bar_kept : IsKept facts m c p choice (bars x bar k)
    bar_kept =
        record {
          instr = GRD r;
          is = code_there facts m c p level acting here (GRD r) x.line there;
          can_step = record {
            stack = stack_there facts m c p level acting;
            performed = record { held = one_held; room = grind arith; reach = tt };
            goes = λ outward. can_go facts m c p level acting (GRD r) x.line there refl one_held arrived.within;
          };
          no_move = subst (λ (e : QuietEffect). IsNoMove e) (sym is_action) tt;
          can_do = record {
            acting = acts_now facts m c p level acting (GRD r) x.line there;
            can = record {
              holds = record { known = holder_within m.resources r p held_there; holder = held_there };
              action = is_action;
              barred = λ q tried. absurd (none_tried q (ap tried_in (sym in_none.1) ∙ tried));
            };
          };
          line = code_line facts m c p level acting here (GRD r) x.line there;
          choices = refl;
          same =
              subst (λ (e : QuietEffect). ComeToSame facts m c p x.line
              (comes_to e (silent (machine.guards (image_of facts.tree).blocks r p m))) (barred_by g c p x bar k)) (sym is_action)
              (subst (λ (n : Machine). ComeToSame facts m c p x.line (silent (Ok (at_rest n))) (barred_by g c p x bar k)) (sym guards_are) barred_same);
        }
      where
        none_tried : (q : ℕ) → None ≡ Some q → ⊥
        none_tried q h = cc

pub bars_kept : AreKept IsBarring
bars_kept facts m c p choice level (bars x bar k) is acting arrived chosen =
    let (b, checked, by) = arrived.arrived in bar_kept facts m c p choice level x bar k acting arrived by.0.0 b checked by is
bars_kept facts m c p choice level n is acting arrived chosen = absurd is
