-- A true guard of a barred process: it is let on.
use Rattle.std.proofs.Common.{◌≡◌, ℕ, ◌+◌, ◌≤◌, ℤ, Bool, true, false, List, [], length, set, drop, slice_get, get_or, Option, Some, None, Ok}
use Rattle.std.proofs.Common.{refl, sym, ap, ◌∙◌, subst, arith, inl, inr, ◌⊎◌}
use Rattle.std.proofs.lemmas.List.{get_or-set_same}
use Rattle.pfc_code.specs.declared.instructions.Instr.{Instr}
use Rattle.pfc_code.specs.declared.instructions.Instr.TheVariants.{GRD, SCAN}
use Rattle.pfc_code.specs.declared.images.Block.{Block as CodeBlock}
use Rattle.pfc_resource.specs.Scans.{IsBarredAt}
use Rattle.pfc_state.specs.Stands.{Stand, Waits, is_unfinished}
use Rattle.pfc_state.specs.declared.waits.Why.TheVariants.{Barred}
use Rattle.pfc_values.specs.Numbers.{is_true}
use Rattle.pfc_world.specs.Holders.{Held, held_in, holder_in, given_to}
use Rattle.pfc_world.specs.Resources.{passed_to, requeued}
use Rattle.pfc_world.specs.Tables.{Table, at}
use Rattle.pfc_world.specs.Transitions.{blocked, rested}
use Rattle.pfc_semantics.specs.Programs.{Guard, Block, Program, block_number}
use Rattle.pfc_semantics.specs.Remainders.{Context, Bar, Way, Scan, Tried, Remainder, leave, own, passes}
use Rattle.pfc_semantics.specs.Rewriting.{Doing, going}
use Rattle.pfc_semantics.specs.Resources.{passed_by, passes_to}
use Rattle.pfc_semantics.specs.Configurations.{Hand, barred_at, Activity, Config, activity_of}
use Rattle.pfc_translation.specs.Codes.{◌⨾◌, one}
use Rattle.pfc_translation.specs.Expressions.{expr_code}
use Rattle.pfc_translation.specs.Images.{image_of, guard_code}
use Rattle.pfc_stacks.specs.Stacks.{Stack, Stacks, no_stack, stack_of, operand, operands_of, own_number, block_place}
use Rattle.pfc_machines.specs.declared.machine.Machine.{Machine}
use Rattle.pfc_machines.specs.declared.descriptors.Descriptor.{Descriptor}
use Rattle.pfc_machines.specs.declared.descriptors.Scan.{Scan as MachineScan}
use Rattle.pfc_machines.specs.Actions.{at_rest}
use Rattle.pfc_machines.specs.Descriptors.{descriptor_of}
use Rattle.pfc_machines.specs.Quiet.{QuietEffect, acts, tried_in, tried_by, guarding, quiet_effect}
use Rattle.pfc_call_actions.specs.Calls.{with_resources}
use Rattle.pfc_resource_actions.specs.Guards as machine
use Rattle.pfc_resource_actions.specs.Scans.{scan_ended}
use Rattle.pfc_machine_acts.specs.Acting.{comes_to}
use Rattle.pfc_machine_acts.specs.Performing.{silent}
use Rattle.pfc_machine_acts.specs.Running.{IsNoMove}
use Rattle.pfc_standing_code.specs.Settings.{Trial, Setting, site_of, IsAt}
use Rattle.pfc_standing_code.specs.Words.{IsChecked}
use Rattle.pfc_standing_code.specs.Performs.{Tries, own_block, own_again, behind_scan}
use Rattle.pfc_standing_code.specs.Following.{ArrivedBy}
use Rattle.pfc_standing_images.specs.Images.{BlockStands}
use Rattle.pfc_standing_images.proofs.Wholes.{block_stands}
use Rattle.pfc_following_source.specs.Behind.{GoesOnAt, BehindPass}
use Rattle.pfc_following_source.proofs.Behind.{leads_on}
use Rattle.pfc_representation.specs.Levels.{Facts, program_in, LivingLevel, room_of}
use Rattle.pfc_representation.specs.Rooms.{guards_room, room_in, room_behind, own_address, HasRoomFor}
use Rattle.pfc_representation.specs.Callers.{IsWithin}
use Rattle.pfc_representation.specs.Hands.{IsBarred}
use Rattle.pfc_representation.specs.Holding.{holders_in, HoldsScanned}
use Rattle.pfc_representation.specs.Trials.{is_own, WayIs, TrialIs, HasTried, IsAtTurn, TriesAnother}
use Rattle.pfc_representation.specs.Machines.{machine_table}
use Rattle.pfc_representation.specs.Acting.{IsActing, HasArrived}
use Rattle.pfc_representation.specs.Actions.{ComeToSame, IsKept}
use Rattle.pfc_kept_own_actions.proofs.Alone.{can_go}
use Rattle.pfc_kept_own_actions.proofs.Arrived.{has_setting, stack_there, code_there, code_line, acts_now}
use Rattle.pfc_kept_own_actions.proofs.Within.{room_anywhere}
use Rattle.pfc_kept_calls.proofs.Beginnings.{room_from_entry}
use Rattle.pfc_kept_scans.specs.Groups.{HasLeft}
use Rattle.pfc_kept_scans.proofs.Behind.{comes_then}
use Rattle.pfc_kept_scans.proofs.Others.{lender_still}
use Rattle.pfc_kept_scans.proofs.Levels.{own_level, does_own}
use Rattle.pfc_kept_scans.proofs.Giving.{WaitsFor, holder_within, barred_waits, given, machine_passes, given_rested, given_holders, resource_count, clock_same}
use Rattle.pfc_kept_scans.proofs.Leaving.{less, leaves_same}
use Rattle.pfc_kept_scans.proofs.Own.{body_before, own_number_is, block_there, number_is}
use Rattle.pfc_kept_scans.proofs.Own as mine
use Rattle.pfc_kept_scans.proofs.Tops.{HasTop}
use Rattle.pfc_kept_scans.proofs.Step.{set_twice, stacks, activities, descriptors, IsStep, behind_of}
use Rattle.pfc_kept_scans.proofs.Waiting.{shown_so, blocked_same}
use Rattle.pfc_kept_scans.proofs.Waiting as wait

pair_first : (i j : Instr × ℕ) → Some i ≡ Some j → i.0 ≡ j.0
pair_first i j h = (let same : i ≡ j = cc in ap (λ (y : Instr × ℕ). y.0) same)

module _ (facts : Facts) (m : Machine) (c : Config) (p choice : ℕ) (level : LivingLevel) (x : Context) (whom : Tried) (scan : Scan) (k : Remainder)
    (acting : IsActing facts m c p level) (arrived : HasArrived facts m c p level (passes x whom scan k)) where
  abbrev s : Stack
  s = stack_of m.stacks p

  abbrev here : ℕ
  here = s.at

  abbrev ops : List ℤ
  ops = operands_of m.stacks p

  abbrev g : Program
  g = program_in facts

  abbrev a : Activity
  a = activity_of g c p

  abbrev d : Descriptor
  d = descriptor_of m.descriptors p

  abbrev blocks : List CodeBlock
  blocks = (image_of facts.tree).blocks

  abbrev r : ℕ
  r = scan.resource

  abbrev q : ℕ
  q = whom.process

  abbrev back : ℕ
  back = behind_scan level.setting.trial

  -- ## In its trial

  abbrev tried_so : ℕ → Tried → Scan → MachineScan
  tried_so to w y = record { back = to; after = Some w.ticket; tried = Some w.process; requeued = is_own y.way }

  -- the machine tries the same guard
  record IsTrying : Type 0 where
    barred : at c.table.rows q ≡ Waits (Barred r whom.bar.procedure) whom.ticket []
    is : d.scan ≡ Some (tried_so back whom scan)
    way : WayIs facts level a.activations back scan scan.way
    held : holder_in c.resources r ≡ Some p
    within : IsWithin facts level back d.communications

  module _ (line : ℕ) (there : IsAt level.setting here (GRD r) line) (tries : Tries level.setting whom scan (length (drop 1 ops))) where
    untried : HasTried level.setting.trial facts s level a.activations d → ⊥
    untried tried =
        let turn : here ≡ tries.attempt.turn = subst (λ (t : Trial). IsAtTurn t here) tries.trial (arrived.turned tried) in
        apart (pair_first (GRD r, line) (SCAN r, scan.line)
        (sym there ∙ ap (λ n. slice_get level.setting.code n) turn ∙ tries.turn))
      where
        apart : GRD r ≡ SCAN r → ⊥
        apart h = cc

    its : TriesAnother facts acting.homes acting.entries c.store m.stacks c.table p level tries.attempt a.activations d
    its = which acting.actor.trial
      where
        which : TrialIs level.setting.trial facts acting.homes acting.entries c.store m.stacks c.table p level a.activations d
            ⊎ HasTried level.setting.trial facts s level a.activations d
            → TriesAnother facts acting.homes acting.entries c.store m.stacks c.table p level tries.attempt a.activations d
        which (inl is) =
            subst (λ (t : Trial). TrialIs t facts acting.homes acting.entries c.store m.stacks c.table p level a.activations d) tries.trial is
        which (inr is) = absurd (untried is)

    back_is : tries.attempt.back ≡ back
    back_is = ap behind_scan (sym tries.trial)

    trying : IsTrying
    trying =
        record {
          barred =
              subst (λ (y : Scan). at c.table.rows q ≡ Waits (Barred y.resource whom.bar.procedure) whom.ticket []) tries.within
              (subst (λ (w : Tried). at c.table.rows w.process ≡ Waits (Barred tries.attempt.scan.resource w.bar.procedure) w.ticket []) tries.whom
              its.barred);
          is =
              its.scan ∙ ap (λ (w : Tried). Some (tried_so tries.attempt.back w tries.attempt.scan)) tries.whom
              ∙ ap (λ (y : Scan). Some (tried_so tries.attempt.back whom y)) tries.within ∙ ap (λ n. Some (tried_so n whom scan)) back_is;
          way =
              subst (λ n. WayIs facts level a.activations n scan scan.way) back_is
              (subst (λ (y : Scan). WayIs facts level a.activations tries.attempt.back y y.way) tries.within its.way);
          held =
              subst (λ (y : Scan). holder_in c.resources y.resource ≡ Some p) tries.within
              (subst (λ (t : Trial). HoldsScanned (holders_in facts c) p t) tries.trial acting.actor.stands.holds.scanned);
          within =
              subst (λ n. IsWithin facts level n d.communications) back_is
              (subst (λ (t : Trial). IsWithin facts level (own_address t here) d.communications) tries.trial arrived.within);
        }

  module _ (none : level.arms ≡ []) (trying : IsTrying) where
    waits : (i : ℕ) → Some q ≡ Some i → WaitsFor r (at c.table.rows i)
    waits i is =
        let same : q ≡ i = cc in
        subst (λ n. WaitsFor r (at c.table.rows n)) same (barred_waits r whom.bar.procedure whom.ticket (at c.table.rows q) trying.barred)

    abbrev gone : Held
    gone = given facts m c p level acting r trying.held (Some q) waits

    abbrev before : MachineScan
    before = tried_so back whom scan

    -- ## On the machine

    popped_ended : (to : ℕ) → scan_ended to p (machine.guard_popped p m)
        ≡ record m {
          stacks = set m.stacks p (record s { at = to; operands = drop 1 ops; looks_from = None });
          descriptors = set m.descriptors p (record d { scan = None });
        }
    popped_ended to =
        let once : Stack = record s { operands = drop 1 ops } in
        ap (λ (y : Stack). record m {
          stacks = set (set m.stacks p once) p (record y { at = to; looks_from = None });
          descriptors = set m.descriptors p (record d { scan = None });
        }) (get_or-set_same m.stacks p once no_stack (stack_there facts m c p level acting))
        ∙ ap (λ (ys : Stacks). record m { stacks = ys; descriptors = set m.descriptors p (record d { scan = None }) })
        (set_twice m.stacks p once (record s { at = to; operands = drop 1 ops; looks_from = None }))

    -- ## Behind a return

    leaves : GoesOnAt (own_again level.setting) (own_block level.setting.trial level.setting.block) back (drop 1 ops) [] (going x.env k)
        → HasLeft facts c p scan leave
        → ComeToSame facts m c p x.line (silent (Ok (at_rest (machine.passes_where false blocks before q r p m)))) (Ok (passed_by g c p x whom k r leave))
    leaves goes left =
        subst (λ (n : Machine). ComeToSame facts m c p x.line
        (silent (Ok (at_rest (with_resources n (passed_to (held_in m.world m.resources) r q))))) (Ok (passed_by g c p x whom k r leave)))
        (sym (popped_ended back))
        (leaves_same facts m c p level acting r trying.held (Some q) waits back (drop 1 ops) (going x.env k) x.line
        (record { none = none; few = arrived.arms; within = trying.within; goes = goes; left = left })
        (rested (passed_to (held_in m.world m.resources) r q).table) (passed_to (held_in m.world m.resources) r q).holders
        (ap (λ (h : Held). rested h.table) (machine_passes facts m c p level acting r (Some q)) ∙ given_rested facts m c p level acting r (Some q))
        (ap (λ (h : Held). h.holders) (machine_passes facts m c p level acting r (Some q)) ∙ given_holders facts m c p level acting r (Some q)))

    -- ## Behind a requeue

    module _ (bar : Bar) (way : WayIs facts level a.activations back scan (own bar)) (pass : BehindPass level.setting (drop 1 ops) x (own bar) k) where
      abbrev b : Block
      b = own_block level.setting.trial level.setting.block

      abbrev again : Setting
      again = own_again level.setting

      abbrev guard : Guard
      guard = pass.0.0

      abbrev top : HasTop facts acting.homes c.store p s.room level (mine.w facts m c p level acting) a.activations (acting.entries p)
      top = mine.top facts m c p level acting

      abbrev code : CodeBlock
      code = top.stands.code

      same_program : level.setting.program ≡ g
      same_program = (has_setting facts m c p level acting).image.program

      number : top.own.block ≡ bar.procedure
      number =
          number_is facts m c p level acting guard pass.0.1 ∙ ap (λ (y : Program). block_number y b.scope) (sym same_program)
          ∙ ap (λ (y : Bar). y.procedure) (sym pass.0.2)

      procedure_is : own_number s block_place ≡ bar.procedure
      procedure_is = own_number_is facts m c p level acting ∙ number

      code_is : slice_get blocks bar.procedure ≡ Some code
      code_is = ap (λ n. slice_get blocks n) (sym number) ∙ top.stands.is.0

      back_at : back ≡ code.entry
      back_at = way.2 top.own.block code top.stands.is

      stands : BlockStands level.setting b code
      stands =
          block_stands facts.tree level.setting (has_setting facts m c p level acting).image top.own.block b code
          (ap (λ (y : Program). slice_get y.blocks top.own.block) same_program ∙ block_there facts m c p level acting guard pass.0.1) top.stands.is.0

      body_is : code.body ≡ back + (expr_code (site_of again b bar.context) bar.test ⨾ one (site_of again b bar.context) (GRD bar.resource)).size
      body_is =
          stands.behind_guard ∙ ap (λ n. n + (guard_code level.setting.program b b.guard).size) (sym back_at)
          ∙ ap (λ (o : Option Guard). back + (guard_code level.setting.program b o).size) pass.0.1
          ∙ ap (λ (y : Bar). back + (expr_code (site_of again b y.context) y.test ⨾ one (site_of again b y.context) (GRD y.resource)).size) (sym pass.0.2)

      entry_below : code.entry ≤ code.body
      entry_below =
          let size = (guard_code level.setting.program b b.guard).size in
          subst (λ n. code.entry ≤ n) (sym stands.behind_guard) (more code.entry size)
        where
          more : (n i : ℕ) → n ≤ n + i
          more n i = grind arith

      abbrev table : Table
      table = wait.table facts m c p level acting r bar.procedure trying.held (Some q) waits

      abbrev stack : Stack
      stack = record s { at = code.body; operands = drop 1 ops; looks_from = None }

      abbrev doing : Doing
      doing = going x.env k

      abbrev hand : Hand
      hand = barred_at bar

      row_mine : at table.rows p ≡ wait.stand facts m c p level acting r bar.procedure trying.held (Some q) waits
      row_mine = wait.row_mine facts m c p level acting r bar.procedure trying.held (Some q) waits

      stack_here : stack_of (set m.stacks p stack) p ≡ stack
      stack_here = get_or-set_same m.stacks p stack no_stack (stack_there facts m c p level acting)

      within : IsWithin facts (own_level level) code.body d.communications
      within =
          let (i, e, is, goes) = trying.within in
          let same : i ≡ top.own.block = is.1 ∙ sym top.stands.is.1 in
          let room : HasRoomFor d.communications (room_in facts top.own.block) =
          subst (λ y. HasRoomFor d.communications y) (sym (room_from_entry facts top.own.block code top.stands.is.0))
          (subst (λ n. HasRoomFor d.communications (room_behind facts top.own.block n)) back_at
          (subst (λ n. HasRoomFor d.communications (room_behind facts n back)) same goes.rest)) in (
            top.own.block,
            code,
            top.stands.is,
            record {
              entry = entry_below;
              before = body_before facts top.own.block code top.stands.is.0;
              rest = room_anywhere facts top.own.block code code.body d.communications top.stands.is.0 entry_below room;
            },
          )

      goes_on : GoesOnAt again b code.body (drop 1 ops) [] doing
      goes_on = subst (λ n. GoesOnAt again b n (drop 1 ops) [] doing) (sym body_is) pass.1.4

      shows : IsBarred (own_level level) code.body (drop 1 ops) (at table.rows p) doing bar
      shows =
          record {
            own = refl;
            guard = pass.0;
            names = pass.1.0;
            waits = inr (gone.table.done + 1, row_mine ∙ ap (λ n. Waits (Barred n bar.procedure) (gone.table.done + 1) []) (sym way.0));
            behind = does_own level code.body (drop 1 ops) doing none arrived.arms goes_on;
          }

      step : IsStep facts m c p level acting (own_level level) stack table gone.holders None doing hand x.line code.body (drop 1 ops) None
      step =
          record {
            stack_is = refl;
            row_count = wait.rows_same facts m c p level acting r bar.procedure trying.held (Some q) waits;
            resource_count = resource_count facts m c p level acting r trying.held (Some q) waits;
            rests = refl;
            done = (clock_same facts m c p level acting r trying.held (Some q) waits).0;
            moment = (clock_same facts m c p level acting r trying.held (Some q) waits).1;
            stands = wait.stands_then facts m c p level acting r bar.procedure trying.held (Some q) waits;
            others = wait.others_so facts m c p level acting r bar.procedure trying.held (Some q) waits stack;
            mine = record {
              same = refl;
              arms = refl;
              here = stack_here;
              lenders =
                  lender_still facts m c p level acting (set m.stacks p stack) table gone.holders
                  (wait.others_so facts m c p level acting r bar.procedure trying.held (Some q) waits stack) p;
              unfinished = ap is_unfinished row_mine;
              holds = wait.holds_then facts m c p level acting r bar.procedure trying.held (Some q) waits a.activations acting.actor.stands.holds;
              room = less (room_of level) (guards_room facts) s.room top.operands;
              within = within;
              shown = (acting.actor.offered, shows);
              trial = (ap (λ (y : Stack). y.looks_from) stack_here, refl);
            };
          }

      abbrev end : ℕ → ℕ → Machine
      end n to =
          with_resources (scan_ended to p (machine.guard_popped p m)) (requeued (held_in m.world m.resources) p r n q)

      where_is : machine.body_in (slice_get blocks (own_number s block_place)) ≡ code.body
      where_is = ap (λ n. machine.body_in (slice_get blocks n)) procedure_is ∙ ap machine.body_in code_is

      blocked_there : Table
      blocked_there = blocked (given_to (Some q) (held_in m.world m.resources) r).table p (Barred r bar.procedure) []

      world_is : rested (blocked (given_to (Some q) (held_in m.world m.resources) r).table p (Barred r bar.procedure) []) ≡ machine_table facts table
      world_is =
          ap (λ (h : Held). blocked h.table p (Barred r bar.procedure) []) (machine_passes facts m c p level acting r (Some q))
          ∙ blocked_same facts m c p level acting (Some q) r bar.procedure

      requeues_same : ComeToSame facts m c p x.line (silent (Ok (at_rest (machine.passes_where true blocks before q r p m))))
          (Ok (passed_by g c p x whom k r (own bar)))
      requeues_same =
          subst (λ n. ComeToSame facts m c p x.line (silent (Ok (at_rest (end n (machine.body_in (slice_get blocks (own_number s block_place)))))))
          (Ok (passed_by g c p x whom k r (own bar)))) (sym procedure_is)
          (subst (λ n. ComeToSame facts m c p x.line (silent (Ok (at_rest (end bar.procedure n)))) (Ok (passed_by g c p x whom k r (own bar)))) (sym where_is)
          (subst (λ (n : Machine). ComeToSame facts m c p x.line
          (silent (Ok (at_rest (with_resources n (requeued (held_in m.world m.resources) p r bar.procedure q))))) (Ok (passed_by g c p x whom k r (own bar))))
          (sym (popped_ended code.body))
          (subst (λ (xs : List Activity). ComeToSame facts m c p x.line
          (silent (Ok (record m {
            stacks = set m.stacks p stack;
            descriptors = set m.descriptors p (record d { scan = None });
            world =
                rested (blocked (given_to (Some q) (held_in m.world m.resources) r).table p (Barred r bar.procedure) []);
            resources =
                (given_to (Some q) (held_in m.world m.resources) r).holders;
          })))
          (Ok (record c { activities = xs; table = table; resources = gone.holders }))) (sym (shown_so facts m c p level acting doing hand))
          (comes_then facts m c p level acting x.line
          (activities facts m c p level acting (own_level level) stack table gone.holders None doing hand x.line)
          (descriptors facts m c p level acting (own_level level) stack table gone.holders None doing hand x.line)
          (stacks facts m c p level acting (own_level level) stack table gone.holders None doing hand x.line) table gone.holders
          (behind_of facts m c p level acting (own_level level) stack table gone.holders None doing hand x.line code.body (drop 1 ops) None step)
          (rested (blocked (given_to (Some q) (held_in m.world m.resources) r).table p (Barred r bar.procedure) []))
          (given_to (Some q) (held_in m.world m.resources) r).holders world_is
          (ap (λ (h : Held). h.holders) (machine_passes facts m c p level acting r (Some q)) ∙ given_holders facts m c p level acting r (Some q))))))

    -- ## Either way

    by_way : (way : Way) → WayIs facts level a.activations back scan way → BehindPass level.setting (drop 1 ops) x way k → HasLeft facts c p scan way
        → ComeToSame facts m c p x.line (silent (Ok (at_rest (machine.passes_where (is_own way) blocks before q r p m))))
        (Ok (passed_by g c p x whom k r way))
    by_way leave way pass left = leaves pass left
    by_way (own bar) way pass left = requeues_same bar way pass

  module _ (b : Block) (checked : IsChecked level.setting b x.env) (by : ArrivedBy level.setting b here ops level.arms (passes x whom scan k))
      (left : HasLeft facts c p scan scan.way) where
    there : IsAt level.setting here (GRD r) x.line
    there = by.1.5

    below_is : drop 1 ops ≡ by.1.1
    below_is = ap (λ (xs : List ℤ). drop 1 xs) by.1.3

    now : IsTrying
    now = trying x.line there (subst (λ (xs : List ℤ). Tries level.setting whom scan (length xs)) (sym below_is) by.1.2)

    pass : BehindPass level.setting (drop 1 ops) x scan.way k
    pass = leads_on level.setting b here (passes x whom scan k) ops level.arms arrived.room checked by (GRD r) x.line there

    is_action : quiet_effect (image_of facts.tree).scans (GRD r) p m ≡ acts
    is_action =
        ap (λ (o : Option MachineScan). guarding (tried_in o) (is_true (operand ops 0)) (get_or (image_of facts.tree).scans r 0) p m) now.is
        ∙ ap (λ (xs : List ℤ). guarding (Some q) (is_true (operand xs 0)) (get_or (image_of facts.tree).scans r 0) p m) by.1.3
        ∙ ap (λ (t : Bool). guarding (Some q) t (get_or (image_of facts.tree).scans r 0) p m) by.1.4

    one_held : 1 ≤ length ops
    one_held = (let size = ap (λ (xs : List ℤ). length xs) by.1.3 in grind (arith, size))

    held_there : holder_in m.resources r ≡ Some p
    held_there = ap (λ (hs : List (Option ℕ)). holder_in hs r) acting.alike.words.resources ∙ now.held

    barred_there : (i : ℕ) → tried_by m p ≡ Some i → IsBarredAt r (at m.world.rows i)
    barred_there i is =
        let same : q ≡ i = (let both : Some q ≡ Some i = ap tried_in (sym now.is) ∙ is in cc) in
        subst (λ (y : Table). IsBarredAt r (at y.rows i)) (sym acting.world)
        (subst (λ n. IsBarredAt r (at c.table.rows n)) same (subst (λ (y : Stand). IsBarredAt r y) (sym now.barred) refl))

    pub pass_kept : IsKept facts m c p choice (passes x whom scan k)
    pass_kept =
        record {
          instr = GRD r;
          is = code_there facts m c p level acting here (GRD r) x.line there;
          can_step = record {
            stack = stack_there facts m c p level acting;
            performed = record { held = one_held; room = grind arith; reach = tt };
            goes = λ outward. can_go facts m c p level acting (GRD r) x.line there refl one_held arrived.within;
          };
          no_move = subst (λ (e : QuietEffect). IsNoMove e) (sym is_action) tt;
          can_do = record {
            acting = acts_now facts m c p level acting (GRD r) x.line there;
            can = record {
              holds = record { known = holder_within m.resources r p held_there; holder = held_there };
              action = is_action;
              barred = barred_there;
            };
          };
          line = code_line facts m c p level acting here (GRD r) x.line there;
          choices = refl;
          same =
              subst (λ (e : QuietEffect). ComeToSame facts m c p x.line (comes_to e (silent (machine.guards blocks r p m)))
              (passes_to g c p x whom scan k)) (sym is_action)
              (subst (λ (o : Option MachineScan). ComeToSame facts m c p x.line (silent (Ok (at_rest (machine.guarded_in blocks o r p m))))
              (passes_to g c p x whom scan k)) (sym now.is)
              (by_way by.0 now scan.way now.way pass left));
        }

pub passes_kept : (facts : Facts) (m : Machine) (c : Config) (p choice : ℕ) (level : LivingLevel) (x : Context) (whom : Tried) (scan : Scan) (k : Remainder)
    → HasLeft facts c p scan scan.way → IsActing facts m c p level → HasArrived facts m c p level (passes x whom scan k)
    → IsKept facts m c p choice (passes x whom scan k)
passes_kept facts m c p choice level x whom scan k left acting arrived =
    let (b, checked, by) = arrived.arrived in pass_kept facts m c p choice level x whom scan k acting arrived b checked by left
