-- Turns of a scan.
use Rattle.std.proofs.Common.{◌≡◌, ℕ, ◌+◌, ◌≤◌, ◌==◌, ◌&&◌, if◌then◌else◌, ℤ, Bool, true, false, List, [], length, set, slice_get, Option, Some, None, Ok}
use Rattle.std.proofs.Common.{refl, sym, ap, ◌∙◌, subst, arith, inl}
use Rattle.std.specs.Prelude.{is_some}
use Rattle.std.proofs.lemmas.List.{get_or-set_same}
use Rattle.pfc_code.specs.declared.instructions.Instr.TheVariants.{SCAN}
use Rattle.pfc_code.specs.declared.images.Block.{Block as CodeBlock}
use Rattle.pfc_state.specs.Stands.{Stand, Is_idle, Is_created, Is_ready, Is_done, Waits, is_unfinished, ticket_of, ticket_barred, is_above}
use Rattle.pfc_state.specs.declared.waits.Arm.{Arm as WaitArm}
use Rattle.pfc_state.specs.declared.waits.Why.TheVariants.{Barred}
use Rattle.pfc_world.specs.Holders.{Held, held_in, holder_in}
use Rattle.pfc_world.specs.Partners.{next_barred, next_entrant}
use Rattle.pfc_world.specs.Resources.{given_up}
use Rattle.pfc_world.specs.Tables.{Table, at}
use Rattle.pfc_world.specs.Transitions.{rested, ticked}
use Rattle.pfc_resource.specs.declared.scans.Barred.{Barred as BarredOne}
use Rattle.pfc_resource.specs.Scans.{barred_in, barred_among, scanned}
use Rattle.pfc_semantics.specs.Programs.{Block, Program}
use Rattle.pfc_semantics.specs.Remainders.{Context, Bar, Way, Scan, Tried, Remainder, leave, own, scans, try_guard, try_other}
use Rattle.pfc_semantics.specs.Rewriting.{Doing, going}
use Rattle.pfc_semantics.specs.Resources.{tried, tried_at, scanned_all, scanned_to, scans_at}
use Rattle.pfc_semantics.specs.Configurations.{Hand, empty_hand, barred_at, Activity, Config, activity_of}
use Rattle.pfc_translation.specs.Images.{image_of}
use Rattle.pfc_stacks.specs.Refs.{word_of}
use Rattle.pfc_stacks.specs.Stacks.{Stack, no_stack, stack_of, operands_of, last_activation}
use Rattle.pfc_machines.specs.declared.machine.Machine.{Machine}
use Rattle.pfc_machines.specs.declared.descriptors.Descriptor.{Descriptor}
use Rattle.pfc_machines.specs.declared.descriptors.Scan.{Scan as MachineScan}
use Rattle.pfc_machines.specs.Actions.{at_rest}
use Rattle.pfc_machines.specs.Descriptors.{descriptor_of}
use Rattle.pfc_call_actions.specs.Calls.{with_resources}
use Rattle.pfc_resource_actions.specs.Scans as machine
use Rattle.pfc_machine_acts.specs.Performing.{silent}
use Rattle.pfc_standing_code.specs.Settings.{Setting, IsAt}
use Rattle.pfc_standing_code.specs.Performs.{own_view, own_accepts, own_block, own_again, behind_scan}
use Rattle.pfc_standing_code.specs.Following.{ArrivedBy}
use Rattle.pfc_following_source.specs.Behind.{GoesOnAt, BehindScan, BehindTurn}
use Rattle.pfc_following_source.proofs.Behind.{leads_on}
use Rattle.pfc_representation.specs.Levels.{Facts, program_in, LivingLevel, room_of}
use Rattle.pfc_representation.specs.Rooms.{guards_room}
use Rattle.pfc_representation.specs.Hands.{shows_nothing}
use Rattle.pfc_representation.specs.Holding.{holders_in}
use Rattle.pfc_representation.specs.Trials.{is_own, TriesAnother}
use Rattle.pfc_representation.specs.Machines.{machine_table}
use Rattle.pfc_representation.specs.Acting.{IsActing, HasArrived}
use Rattle.pfc_representation.specs.Actions.{ComeToSame, IsKept}
use Rattle.pfc_kept_own_actions.proofs.Alone.{can_go}
use Rattle.pfc_kept_own_actions.proofs.Arrived.{stack_there, code_there, code_line, acts_now}
use Rattle.pfc_kept_object_actions.proofs.Change.{holds_as_was}
use Rattle.pfc_kept_object_actions.proofs.Finding.{first_has}
use Rattle.pfc_kept_object_actions.proofs.Popped.{rests}
use Rattle.pfc_kept_object_actions.proofs.Tests.{numbers_same, untrue}
use Rattle.pfc_kept_scans.specs.Groups.{AreBarredAtTheirOwn, HasLeft}
use Rattle.pfc_kept_scans.proofs.Turns.{turn_at}
use Rattle.pfc_kept_scans.proofs.Behind.{comes_then}
use Rattle.pfc_kept_scans.proofs.Others.{AreOthers, it_stays}
use Rattle.pfc_kept_scans.proofs.Tops.{HasTop, top_of}
use Rattle.pfc_kept_scans.proofs.Levels.{own_level, level_with, does_with, does_own}
use Rattle.pfc_kept_scans.proofs.AtTurn.{IsAtTurnOf, at_turn}
use Rattle.pfc_kept_scans.proofs.Giving.{WaitsFor, holder_within, next_waits, given, machine_gives, given_rested, given_holders}
use Rattle.pfc_kept_scans.proofs.Leaving.{leaves_same}
use Rattle.pfc_kept_scans.proofs.NextDoings.{in_line}
use Rattle.pfc_kept_scans.proofs.Found as found
use Rattle.pfc_kept_scans.proofs.Step.{stack_apart, stacks, activities, descriptors, IsStep, behind_of}

-- ## Who is found

-- it is barred at the resource
record IsBarredAt (r : ℕ) (s : Stand) : Type 0 where
  procedure : ℕ
  ticket : ℕ
  arms : List WaitArm
  is : s ≡ Waits (Barred r procedure) ticket arms

first_true : (a b : Bool) (ticket : ℕ) → is_some (if a && b then Some ticket else None) ≡ true → a ≡ true
first_true true b ticket h = refl
first_true false b ticket h = (let no : false ≡ true = h in cc)

at_barred : (r : ℕ) (after : Option ℕ) (s : Stand) → is_some (ticket_barred r after s) ≡ true → IsBarredAt r s
at_barred r after Is_idle h = untrue _ h
at_barred r after Is_created h = untrue _ h
at_barred r after Is_ready h = untrue _ h
at_barred r after Is_done h = untrue _ h
at_barred r after (Waits (Barred j k) t arms) h =
    let same : j ≡ r = numbers_same j r (first_true (j == r) (is_above after t) t h) in
    record { procedure = k; ticket = t; arms = arms; is = ap (λ i. Waits (Barred i k) t arms) same }
at_barred r after (Waits why t arms) h = untrue _ h

module _ (facts : Facts) (m : Machine) (c : Config) (p choice : ℕ) (level : LivingLevel) (x : Context) (scan : Scan) (k : Remainder)
    (acting : IsActing facts m c p level) (arrived : HasArrived facts m c p level (scans x scan k)) where
  abbrev here : ℕ
  here = (stack_of m.stacks p).at

  abbrev ops : List ℤ
  ops = operands_of m.stacks p

  abbrev s : Stack
  s = stack_of m.stacks p

  abbrev g : Program
  g = program_in facts

  abbrev a : Activity
  a = activity_of g c p

  abbrev d : Descriptor
  d = descriptor_of m.descriptors p

  abbrev blocks : List CodeBlock
  blocks = (image_of facts.tree).blocks

  abbrev r : ℕ
  r = scan.resource

  abbrev back : ℕ
  back = behind_scan level.setting.trial

  top : HasTop facts acting.homes c.store p s.room level (word_of (last_activation m.stacks p)) a.activations (acting.entries p)
  top =
      top_of facts acting.homes acting.entries c.store c.table p s.room level (word_of (last_activation m.stacks p)) d.communications a.activations
      (acting.entries p) acting.actor.stands.callers

  ready_shows : shows_nothing (at c.table.rows p) ≡ true
  ready_shows = ap shows_nothing acting.actor.ready

  rested_same : rested m.world ≡ machine_table facts c.table
  rested_same = ap rested acting.world ∙ rests facts m c p level acting

  stack_here : (t : Stack) → stack_of (set m.stacks p t) p ≡ t
  stack_here t = get_or-set_same m.stacks p t no_stack (stack_there facts m c p level acting)

  stay : (t : Stack) → AreOthers facts m c p level acting (set m.stacks p t) c.table c.resources
  stay t =
      record {
        stack = λ q apart. stack_apart m.stacks p q t apart;
        rows = λ q apart. it_stays refl;
        still = λ q apart. holds_as_was (holders_in facts c) q;
      }

  module _ (none : level.arms ≡ []) (turned : IsAtTurnOf facts m c p level acting scan back) (few : length ops ≤ room_of level)
      (listed : slice_get (image_of facts.tree).scans r ≡ Some here) where
    abbrev before : MachineScan
    before = record { back = back; after = scan.after; tried = turned.tried; requeued = is_own scan.way }

    -- ## A barred process is found

    module _ (q j t : ℕ) (arms : List WaitArm) (row : at c.table.rows q ≡ Waits (Barred r j) t arms) (own_bars : AreBarredAtTheirOwn facts c)
        (behind : BehindTurn level.setting here ops x scan k) where
      abbrev whom : Tried
      whom = found.whom facts m c p level acting q r j t arms row scan here

      abbrev later : Setting
      later = found.later facts m c p level acting q r j t arms row scan here

      abbrev code : CodeBlock
      code = found.code facts m c p level acting q r j t arms row

      abbrev level' : LivingLevel
      level' = level_with level later

      abbrev stack : Stack
      stack = record s { at = code.entry; looks_from = Some q }

      abbrev trying : MachineScan
      trying = record before { after = Some t; tried = Some q }

      abbrev doing : Doing
      doing = going x.env (try_other whom scan k)

      goes : GoesOnAt later later.block code.entry ops [] doing
      goes =
          behind (found.sight facts m c p level acting q r j t arms row scan here) (room_of level + guards_room facts) whom later.block code.entry
          (found.resource_is facts m c p level acting q r j t arms row)
          (found.guard_at facts m c p level acting q r j t arms row scan here
          (own_bars q whom.bar (found.hand_is facts m c p level acting q r j t arms row)) refl listed (length ops) few)

      abbrev d' : Descriptor
      d' = record d { scan = Some trying; line = x.line }

      tries : TriesAnother facts acting.homes acting.entries c.store (set m.stacks p stack) (ticked c.table) p level'
          (record {
            whom = whom;
            scan = scan;
            turn = here;
            back = back;
            seen = record {
              view = own_view level.setting.trial level.setting.view;
              accepts = own_accepts level.setting.trial level.setting.accepts;
            };
            block = own_block level.setting.trial level.setting.block;
            room = room_of level;
          }) a.activations d'
      tries =
          let sees = found.sees_later facts m c p level acting q r j t arms row scan here in
          record {
            from = ap (λ (y : Stack). y.looks_from) (stack_here stack);
            barred = found.plainly facts m c p level acting q r j t arms row;
            procedure = found.procedure_there facts m c p level acting q r j t arms row;
            turn = listed;
            scan = refl;
            way = turned.way;
            room = least (room_of level + guards_room facts);
            lenders = sees.0;
            display = (activity_of g c q).display;
            sees =
                found.sees_in facts m c p level acting q r j t arms row scan here (set m.stacks p stack) (ticked c.table)
                (stack_apart m.stacks p q stack (found.apart facts m c p level acting q r j t arms row)) (λ i lender. refl);
            around = found.shows_around facts m c p level acting q r j t arms row;
          }
        where
          least : (n : ℕ) → n ≤ n
          least n = grind arith

      step : IsStep facts m c p level acting level' stack c.table c.resources (Some trying) doing empty_hand x.line code.entry ops (Some q)
      step =
          record {
            stack_is = refl;
            row_count = refl;
            resource_count = refl;
            rests = acting.alike.between.acting;
            done = refl;
            moment = refl;
            stands = λ i. inl refl;
            others = stay stack;
            mine = record {
              same = refl;
              arms = refl;
              here = stack_here stack;
              lenders = λ i lender. refl;
              unfinished = ap is_unfinished acting.actor.ready;
              holds = record { entered = acting.actor.stands.holds.entered; scanned = turned.held };
              room = top.operands;
              within = turned.within;
              shown = (acting.actor.offered, ready_shows, does_with level later code.entry ops doing none arrived.arms goes);
              trial = tries;
            };
          }

      pub tries_same : ComeToSame facts m c p x.line
          (silent (Ok (at_rest (machine.tries blocks before (record { process = q; procedure = j; ticket = t }) p m))))
          (Ok (scanned_to g c p x scan k (Some whom)))
      tries_same =
          subst (λ n. ComeToSame facts m c p x.line
          (silent (Ok (at_rest (record m {
            stacks = set m.stacks p (record s { at = n; looks_from = Some q });
            descriptors = set m.descriptors p
                (record d { scan = Some trying });
          }))))
          (Ok (scanned_to g c p x scan k (Some whom))))
          (sym (ap machine.entry_in (found.code_there facts m c p level acting q r j t arms row)))
          (comes_then facts m c p level acting x.line
          (activities facts m c p level acting level' stack c.table c.resources (Some trying) doing empty_hand x.line)
          (descriptors facts m c p level acting level' stack c.table c.resources (Some trying) doing empty_hand x.line)
          (stacks facts m c p level acting level' stack c.table c.resources (Some trying) doing empty_hand x.line) c.table c.resources
          (behind_of facts m c p level acting level' stack c.table c.resources (Some trying) doing empty_hand x.line code.entry ops (Some q) step)
          (rested m.world) m.resources rested_same acting.alike.words.resources)

    -- ## Nobody is found

    abbrev ended : Stack
    ended = record s { at = back; looks_from = None }

    abbrev own_one : LivingLevel
    own_one = own_level level

    -- behind a requeue the own guard comes
    module _ (doing : Doing) (goes : GoesOnAt (own_again level.setting) (own_block level.setting.trial level.setting.block) back ops [] doing) where
      keeps_step : IsStep facts m c p level acting own_one ended c.table c.resources None doing empty_hand x.line back ops None
      keeps_step =
          record {
            stack_is = refl;
            row_count = refl;
            resource_count = refl;
            rests = acting.alike.between.acting;
            done = refl;
            moment = refl;
            stands = λ i. inl refl;
            others = stay ended;
            mine = record {
              same = refl;
              arms = refl;
              here = stack_here ended;
              lenders = λ i lender. refl;
              unfinished = ap is_unfinished acting.actor.ready;
              holds = record { entered = acting.actor.stands.holds.entered; scanned = tt };
              room = less (room_of level) (guards_room facts) s.room top.operands;
              within = turned.within;
              shown = (acting.actor.offered, ready_shows, does_own level back ops doing none arrived.arms goes);
              trial = (ap (λ (y : Stack). y.looks_from) (stack_here ended), refl);
            };
          }
        where
          less : (n i j : ℕ) → n + i ≤ j → n ≤ j
          less n i j h = grind (arith, h)

      keeps_same : ComeToSame facts m c p x.line (silent (Ok (at_rest (machine.scan_ended back p m))))
          (Ok (record c { activities = set c.activities p (record a { doing = doing; hand = empty_hand }) }))
      keeps_same =
          comes_then facts m c p level acting x.line (activities facts m c p level acting own_one ended c.table c.resources None doing empty_hand x.line)
          (descriptors facts m c p level acting own_one ended c.table c.resources None doing empty_hand x.line)
          (stacks facts m c p level acting own_one ended c.table c.resources None doing empty_hand x.line) c.table c.resources
          (behind_of facts m c p level acting own_one ended c.table c.resources None doing empty_hand x.line back ops None keeps_step)
          (rested m.world) m.resources rested_same acting.alike.words.resources

      -- behind a return the resource is given up
      module _ (left : HasLeft facts c p scan leave) where
        next : (q : ℕ) → next_entrant c.table.rows r ≡ Some q → WaitsFor r (at c.table.rows q)
        next q is = next_waits c.table.rows r q is

        abbrev gone : Held
        gone = given facts m c p level acting r turned.held (next_entrant c.table.rows r) next

        gives_same : ComeToSame facts m c p x.line
            (silent (Ok (at_rest (with_resources (machine.scan_ended back p m) (given_up (held_in m.world m.resources) r)))))
            (Ok (record c { activities = set c.activities p (record a { doing = doing; hand = empty_hand }); table = gone.table; resources = gone.holders }))
        gives_same =
            leaves_same facts m c p level acting r turned.held (next_entrant c.table.rows r) next back ops doing x.line
            (record { none = none; few = arrived.arms; within = turned.within; goes = goes; left = left })
            (rested (given_up (held_in m.world m.resources) r).table) (given_up (held_in m.world m.resources) r).holders
            (ap (λ (h : Held). rested h.table) (machine_gives facts m c p level acting r)
            ∙ given_rested facts m c p level acting r (next_entrant c.table.rows r))
            (ap (λ (h : Held). h.holders) (machine_gives facts m c p level acting r) ∙ given_holders facts m c p level acting r (next_entrant c.table.rows r))

    by_way : (way : Way) → BehindScan level.setting ops x way k → HasLeft facts c p scan way
        → ComeToSame facts m c p x.line (silent (Ok (at_rest (machine.over (is_own way) r (machine.scan_ended back p m)))))
        (Ok (scanned_all g c p x scan k way))
    by_way leave goes left = gives_same (going x.env k) goes left
    by_way (own bar) goes left = keeps_same (going x.env (try_guard bar k)) goes

    -- ## A turn

    by_row : (q : ℕ) → IsBarredAt r (at c.table.rows q) → AreBarredAtTheirOwn facts c → BehindTurn level.setting here ops x scan k
        → ComeToSame facts m c p x.line (silent (Ok (at_rest (machine.scanned_to blocks before (barred_among c.table.rows (Some q)) r p m))))
        (Ok (scanned_to g c p x scan k (tried_at g c (Some q))))
    by_row q barred own_bars behind =
        let j : ℕ = barred.procedure in
        let t : ℕ = barred.ticket in
        let bar : Bar = (found.bar facts m c p level acting q r j t barred.arms barred.is) in
        let by_hand = ap (λ (hand : Hand). tried q hand (ticket_of (at c.table.rows q)))
        (found.hand_is facts m c p level acting q r j t barred.arms barred.is)
        ∙ ap (λ (y : Stand). tried q (barred_at bar) (ticket_of y)) barred.is in
        let by_machine = ap (λ (y : Stand). barred_in q y) barred.is in
        subst (λ (o : Option BarredOne). ComeToSame facts m c p x.line (silent (Ok (at_rest (machine.scanned_to blocks before o r p m))))
        (Ok (scanned_to g c p x scan k (tried_at g c (Some q))))) (sym by_machine)
        (subst (λ (o : Option Tried). ComeToSame facts m c p x.line
        (silent (Ok (at_rest (machine.tries blocks before (record { process = q; procedure = j; ticket = t }) p m))))
        (Ok (scanned_to g c p x scan k o))) (sym by_hand)
        (tries_same q j t barred.arms barred.is own_bars behind))

    by_next : (o : Option ℕ) → next_barred c.table.rows r scan.after ≡ o → AreBarredAtTheirOwn facts c → HasLeft facts c p scan scan.way
        → BehindScan level.setting ops x scan.way k → BehindTurn level.setting here ops x scan k
        → ComeToSame facts m c p x.line (silent (Ok (at_rest (machine.scanned_to blocks before (barred_among c.table.rows o) r p m))))
        (Ok (scanned_to g c p x scan k (tried_at g c o)))
    by_next None is own_bars left over behind = by_way scan.way over left
    by_next (Some q) is own_bars left over behind =
        by_row q (at_barred r scan.after (at c.table.rows q) (first_has (ticket_barred r scan.after) c.table.rows q is)) own_bars behind

    turned_is : machine.turned blocks d.scan r p m ≡ machine.scanned_to blocks before (scanned c.table.rows r scan.after) r p m
    turned_is =
        ap (λ (o : Option MachineScan). machine.turned blocks o r p m) turned.is
        ∙ ap (λ (y : Table). machine.scanned_to blocks before (scanned y.rows r scan.after) r p m) acting.world

    pub turn_same : AreBarredAtTheirOwn facts c → HasLeft facts c p scan scan.way → BehindScan level.setting ops x scan.way k
        → BehindTurn level.setting here ops x scan k
        → ComeToSame facts m c p x.line (silent (machine.scans blocks r p m)) (scans_at g c p x scan k)
    turn_same own_bars left over behind =
        subst (λ (n : Machine). ComeToSame facts m c p x.line (silent (Ok (at_rest n))) (scans_at g c p x scan k)) (sym turned_is)
        (by_next (next_barred c.table.rows r scan.after) refl own_bars left over behind)

  module _ (b : Block) (by : ArrivedBy level.setting b here ops level.arms (scans x scan k)) (own_bars : AreBarredAtTheirOwn facts c)
      (left : HasLeft facts c p scan scan.way)
      (line_is : x.line ≡ scan.line) where
    there : IsAt level.setting here (SCAN r) scan.line
    there = by.1.2

    turned : IsAtTurnOf facts m c p level acting scan back
    turned = at_turn facts m c p level acting scan by.1.0 arrived.within

    held_there : holder_in m.resources r ≡ Some p
    held_there = ap (λ (hs : List (Option ℕ)). holder_in hs r) acting.alike.words.resources ∙ turned.held

    as_many : length m.world.rows ≤ length m.stacks
    as_many =
        let rows : length m.world.rows ≡ length m.stacks =
        ap (λ (y : Table). length y.rows) acting.world ∙ acting.alike.words.rows ∙ sym acting.alike.words.stacks in
        subst (λ n. n ≤ length m.stacks) (sym rows) (least (length m.stacks))
      where
        least : (n : ℕ) → n ≤ n
        least n = grind arith

    pub turn_kept : IsKept facts m c p choice (scans x scan k)
    turn_kept =
        let leads = leads_on level.setting b here (scans x scan k) ops level.arms arrived.room tt by in
        let in_code = code_there facts m c p level acting here (SCAN r) scan.line there in
        record {
          instr = SCAN r;
          is = in_code;
          can_step = record {
            stack = stack_there facts m c p level acting;
            performed = record { held = grind arith; room = grind arith; reach = tt };
            goes = λ outward. can_go facts m c p level acting (SCAN r) scan.line there refl (least (length ops)) arrived.within;
          };
          no_move = tt;
          can_do = record {
            acting = acts_now facts m c p level acting (SCAN r) scan.line there;
            can = record {
              holds = record { known = holder_within m.resources r p held_there; holder = held_there };
              processes = as_many;
            };
          };
          line = code_line facts m c p level acting here (SCAN r) scan.line there ∙ sym line_is;
          choices = refl;
          same = turn_same by.0 turned by.1.1 (turn_at facts here r in_code) own_bars left leads.0 leads.1;
        }
      where
        least : (n : ℕ) → 0 ≤ n
        least n = grind arith

pub turns_kept : (facts : Facts) (m : Machine) (c : Config) (p choice : ℕ) (level : LivingLevel) (x : Context) (scan : Scan) (k : Remainder)
    → AreBarredAtTheirOwn facts c → HasLeft facts c p scan scan.way → IsActing facts m c p level
    → HasArrived facts m c p level (scans x scan k) → IsKept facts m c p choice (scans x scan k)
turns_kept facts m c p choice level x scan k own_bars left acting arrived =
    let (b, names, by) = arrived.arrived in turn_kept facts m c p choice level x scan k acting arrived b by own_bars left
    (in_line (activity_of (program_in facts) c p).doing x scan k arrived.next)
