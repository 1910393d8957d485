-- `sleep`, and the wait at `coend`.
use Rattle.std.proofs.Common.{◌≡◌, ◌≢◌, ℕ, zero, suc, ◌+◌, ◌*◌, ◌^◌, ◌<◌, ◌≤◌, ◌==◌, ℤ, pos, negsuc, Bool, true, false, if◌then◌else◌, List, [], ◌∷◌, length}
use Rattle.std.proofs.Common.{map, drop, Some, None, Ok, Err, refl, sym, ap, ◌∙◌, subst, arith, ◌⊎◌, inl, inr}
use Rattle.std.specs.Prelude.{nat_le}
use Rattle.std.proofs.lemmas.List.{length-set, length-map}
use Rattle.pfc_base.specs.declared.faults.RunFault.TheVariants.{Below, Late}
use Rattle.pfc_code.specs.declared.instructions.Instr.TheVariants.{SLEEP, COEND}
use Rattle.pfc_state.specs.Stands.{Stand, Is_created, Waits, started, is_unfinished, ticket_of, due_of}
use Rattle.pfc_state.specs.declared.waits.Why.TheVariants.{Coend, Sleep}
use Rattle.pfc_world.specs.Tables.{Table, at, some_created}
use Rattle.pfc_world.specs.Transitions.{blocked, rested, all_started}
use Rattle.pfc_world.proofs.Maps.{at-changed, started-kind}
use Rattle.pfc_semantics.specs.Programs.{Block, Program}
use Rattle.pfc_semantics.specs.Remainders.{Context, Remainder, sleeps, joins}
use Rattle.pfc_semantics.specs.Rewriting.{going}
use Rattle.pfc_semantics.specs.Configurations.{Config, goes_on, with_table}
use Rattle.pfc_semantics.specs.Processes.{joined}
use Rattle.pfc_semantics.specs.Selects.{latest}
use Rattle.pfc_semantics.specs.Time.{sleeps_for}
use Rattle.pfc_stacks.specs.Stacks.{stack_of, operand, operands_of}
use Rattle.pfc_machines.specs.declared.machine.Machine.{Machine}
use Rattle.pfc_machines.specs.Actions.{at_rest, Effect as MachineEffect}
use Rattle.pfc_machines.specs.Quiet.{left_by}
use Rattle.pfc_own_actions.specs.Doing.{due_behind, slept_to, sleeps as machine_sleeps}
use Rattle.pfc_machine_acts.specs.Performing.{silent}
use Rattle.pfc_standing_code.specs.Settings.{of_own, IsAt}
use Rattle.pfc_standing_code.specs.Words.{IsChecked}
use Rattle.pfc_standing_code.specs.Performs.{Alone, Performs}
use Rattle.pfc_following_source.specs.Behind.{GoesOnAt}
use Rattle.pfc_following_source.proofs.Behind.{leads_on}
use Rattle.pfc_representation.specs.Levels.{Facts, program_in, LivingLevel}
use Rattle.pfc_representation.specs.Hands.{shows_nothing}
use Rattle.pfc_representation.specs.Holding.{Holders, holders_in, Holds, is_quiet, waits_at_coend}
use Rattle.pfc_representation.specs.Acting.{IsActing, HasArrived}
use Rattle.pfc_representation.specs.Actions.{ComeToSame, IsKept, AreKept}
use Rattle.pfc_kept_own_actions.proofs.Alone.{refuse, can_go}
use Rattle.pfc_kept_own_actions.proofs.Arrived.{stack_there, code_there, code_line, acts_now}
use Rattle.pfc_kept_object_actions.specs.Freed.{IsSameOrLetGo}
use Rattle.pfc_kept_object_actions.specs.Groups.{IsOfTime}
use Rattle.pfc_kept_object_actions.proofs.Step.{Objects, IsChange, IsStep}
use Rattle.pfc_kept_object_actions.proofs.Change.{row_here, row_there, holds_on, holds_as_was}
use Rattle.pfc_kept_object_actions.proofs.Popped.{step_of, comes_then, world, rests, counted_so, counts_change}
use Rattle.pfc_kept_object_actions.proofs.Blocking.{waits_so, blocked_so, blocks, there}
use Rattle.pfc_kept_object_actions.proofs.Tests.{either}

-- where the test says so, it is so
is_least : (n k : ℕ) → nat_le n k ≡ true → n ≤ k
is_least n k h = grind (arith, h)

-- ## Who is begun

let_begin : (h : Holders) (q : ℕ) (s : Stand) → IsSameOrLetGo h q s (started s)
let_begin h q Is_created =
    inr (record {
      waited = refl;
      ready = refl;
      has = record { monitors = λ m waits. absurd (let no : false ≡ true = waits in cc); resources = λ r waits. absurd (let no : false ≡ true = waits in cc) };
    })
let_begin h q s = inl refl

coend_stays : (s : Stand) → waits_at_coend s ≡ true → waits_at_coend (started s) ≡ true
coend_stays Is_created h = absurd (let no : false ≡ true = h in cc)
coend_stays s h = h

module _ (facts : Facts) (m : Machine) (c : Config) (p choice : ℕ) (level : LivingLevel) (x : Context) (r : Remainder) (own : level.setting.trial ≡ of_own)
    (acting : IsActing facts m c p level) where
  abbrev here : ℕ
  here = (stack_of m.stacks p).at

  abbrev ops : List ℤ
  ops = operands_of m.stacks p

  abbrev g : Program
  g = program_in facts

  abbrev w : Table
  w = world facts m c p level acting

  -- ## `sleep`

  -- nothing but the process moves
  passes_on : (z : ℕ) → IsStep facts m c p level acting (here + 1) (drop z ops) (going x.env r) (counted_so facts m c p level acting c.counts)
      → ComeToSame facts m c p x.line (silent (Ok (at_rest (left_by m p z)))) (Ok (goes_on g c p x r))
  passes_on z step =
      comes_then facts m c p level acting (here + 1) (drop z ops) (going x.env r) (counted_so facts m c p level acting c.counts) x.line step (rested m.world)
      m.semaphores m.monitors m.resources
      (ap rested acting.world ∙ rests facts m c p level acting) acting.alike.words.semaphores acting.alike.words.monitors refl acting.alike.words.resources

  module _ (steps : (o : Objects) → IsChange facts c p o → IsStep facts m c p level acting (here + 1) (drop 1 ops) (going x.env r) o) where
    abbrev until : ℕ → MachineEffect
    until due = Ok (record (left_by m p 1) { world = blocked m.world p (Sleep due) [] })

    sleeps_until : (due : ℕ) → due ≤ 10 ^ 15 → ComeToSame facts m c p x.line (silent (until due))
        (Ok (with_table (goes_on g c p x r) (blocked c.table p (Sleep due) [])))
    sleeps_until due early =
        let o : Objects = blocked_so facts m c p level acting (Sleep due) in
        let bounded : (t : ℕ) → Some due ≡ Some t → t ≤ 10 ^ 15 = λ t is. (let same : due ≡ t = cc in subst (λ n. n ≤ 10 ^ 15) same early) in
        comes_then facts m c p level acting (here + 1) (drop 1 ops) (going x.env r) o x.line
        (steps o (blocks facts m c p level acting (Sleep due) refl bounded)) _ m.semaphores m.monitors m.resources
        (ap (λ (y : Table). blocked y p (Sleep due) []) acting.world) acting.alike.words.semaphores acting.alike.words.monitors refl
        acting.alike.words.resources

    sleeps_or_late : (due : ℕ) (early : Bool) → nat_le due latest ≡ early
        → ComeToSame facts m c p x.line (silent (slept_to m p (if early then Ok (Some due) else Err Late)))
        (if early then Ok (with_table (goes_on g c p x r) (blocked c.table p (Sleep due) [])) else Err Late)
    sleeps_or_late due true is = sleeps_until due (is_least due latest is)
    sleeps_or_late due false is = refuse facts m c p level acting x.line Late

    sleeps_same : (n : ℤ) → ComeToSame facts m c p x.line (silent (slept_to m p (due_behind c.table.moment n))) (sleeps_for g c p x n r)
    sleeps_same (pos zero) = passes_on 1 (steps (counted_so facts m c p level acting c.counts) (counts_change facts m c p level acting c.counts refl))
    sleeps_same (pos (suc n)) =
        let due : ℕ = c.table.moment + 1000 * suc n in
        let some : (suc n == 0) ≡ false = grind arith in
        subst (λ (none : Bool). ComeToSame facts m c p x.line
        (silent (slept_to m p (if none then Ok None else (if nat_le due latest then Ok (Some due) else Err Late)))) (sleeps_for g c p x (pos (suc n)) r))
        (sym some) (sleeps_or_late due (nat_le due latest) refl)
    sleeps_same (negsuc n) = refuse facts m c p level acting x.line Below

  sleeps_are : (n : ℤ) → operand ops 0 ≡ n → machine_sleeps p m ≡ slept_to m p (due_behind c.table.moment n)
  sleeps_are n top =
      ap (λ (i : ℤ). slept_to m p (due_behind m.world.moment i)) top
      ∙ ap (λ (y : Table). slept_to m p (due_behind y.moment n)) acting.world

  pub sleep_kept : (n : ℤ) (arrived : HasArrived facts m c p level (sleeps x n r)) (b : Block) (checked : IsChecked level.setting b x.env)
      → Alone level.setting level.arms ((below : List ℤ) × (ops ≡ n ∷ below) × IsAt level.setting here SLEEP x.line
      × Performs level.setting b x.env (here + 1) below [] r)
      → IsKept facts m c p choice (sleeps x n r)
  sleep_kept n arrived b checked clear =
      let at : IsAt level.setting here SLEEP x.line = clear.1.2 in
      let held : 1 ≤ length ops = (let size = ap (λ (os : List ℤ). length os) clear.1.1 in grind (arith, size)) in
      let goes : GoesOnAt level.setting b (here + 1) (drop 1 ops) [] (going x.env r) = leads_on level.setting b here (sleeps x n r) ops level.arms arrived.room
      checked clear SLEEP x.line at in
      let same = sleeps_same (λ o change. step_of facts m c p level acting own b SLEEP x.line (drop 1 ops) (going x.env r) o checked.beside at refl clear.0.1
      goes arrived.within arrived.arms change) n in
      record {
        instr = SLEEP;
        is = code_there facts m c p level acting here SLEEP x.line at;
        can_step = record {
          stack = stack_there facts m c p level acting;
          performed = record { held = held; room = grind arith; reach = tt };
          goes = λ outward. can_go facts m c p level acting SLEEP x.line at refl held arrived.within;
        };
        no_move = tt;
        can_do = record { acting = acts_now facts m c p level acting SLEEP x.line at; can = tt };
        line = code_line facts m c p level acting here SLEEP x.line at;
        choices = refl;
        same =
            subst (λ (e : MachineEffect). ComeToSame facts m c p x.line (silent e) (sleeps_for g c p x n r))
            (sym (sleeps_are n (ap (λ (os : List ℤ). operand os 0) clear.1.1))) same;
      }

  -- ## `coend`

  abbrev begun_so : Objects
  begun_so = record { table = blocked (all_started c.table) p Coend []; counts = c.counts; monitors = c.monitors; resources = c.resources }

  size : length (map started c.table.rows) ≡ length c.table.rows
  size = length-map c.table.rows started

  begins : IsChange facts c p begun_so
  begins =
      let s : Stand = Waits Coend (c.table.done + 1) [] in
      let may = waits_so c Coend refl (λ t is. absurd (let no : None ≡ Some t = is in cc)) in
      let mine : at begun_so.table.rows p ≡ s = row_here (map started c.table.rows) p s (subst (λ n. p < n) (sym size) (there facts m c p level acting)) in
      record {
        unfinished = ap is_unfinished mine;
        shows = ap shows_nothing mine;
        holds = λ trial xs is. subst (λ (y : Stand). Holds (holders_in facts c) p y trial xs) (sym mine) (holds_on (holders_in facts c) p s trial xs is);
        ticket = λ t is. may.ticket t (ap ticket_of (sym mine) ∙ is);
        due = λ t is. may.due t (ap due_of (sym mine) ∙ is);
        others = λ q apart.
            subst (λ (y : Stand). IsSameOrLetGo (holders_in facts c) q (at c.table.rows q) y) (sym (row_then q apart))
            (let_begin (holders_in facts c) q (at c.table.rows q));
        still = λ q apart. holds_as_was (holders_in facts c) q;
        children = λ away q child. absurd (let no : true ≡ false = sym main_waits ∙ away in cc);
        rows = length-set (map started c.table.rows) p s ∙ size;
        acting = refl;
        done = refl;
        moment = refl;
        counts = refl;
        monitors = refl;
        resources = refl;
      }
    where
      row_then : (q : ℕ) → q ≢ p → at begun_so.table.rows q ≡ started (at c.table.rows q)
      row_then q apart = row_there (map started c.table.rows) p q (Waits Coend (c.table.done + 1) []) apart ∙ at-changed started c.table.rows q started-kind

      -- main waits there, where it acts itself and where another does
      main_waits : waits_at_coend (at begun_so.table.rows 0) ≡ true
      main_waits = by_main (either 0 p)
        where
          by_row : (b : Bool) → waits_at_coend (at c.table.rows 0) ≡ b → 0 ≢ p → waits_at_coend (at begun_so.table.rows 0) ≡ true
          by_row true waits apart = ap waits_at_coend (row_then 0 apart) ∙ coend_stays (at c.table.rows 0) waits
          by_row false waits apart =
              let quiet : is_quiet (at c.table.rows p) ≡ true = acting.alike.children waits p (grind (arith, apart)) in
              absurd (let no : false ≡ true = ap is_quiet (sym acting.actor.ready) ∙ quiet in cc)

          by_main : (0 ≡ p) ⊎ (0 ≢ p) → waits_at_coend (at begun_so.table.rows 0) ≡ true
          by_main (inl same) =
              ap (λ n. waits_at_coend (at begun_so.table.rows n)) same
              ∙ ap waits_at_coend (row_here (map started c.table.rows) p (Waits Coend (c.table.done + 1) [])
              (subst (λ n. p < n) (sym size) (there facts m c p level acting)))
          by_main (inr apart) = by_row (waits_at_coend (at c.table.rows 0)) refl apart

  abbrev joined_by : Bool → Table → MachineEffect
  joined_by created y = Ok (record (left_by m p 0) { world = if created then blocked (all_started y) p Coend [] else rested y })

  module _ (steps : (o : Objects) → IsChange facts c p o → IsStep facts m c p level acting (here + 1) (drop 0 ops) (going x.env r) o) where
    joins_same : (created : Bool)
        → ComeToSame facts m c p x.line (silent (joined_by created m.world))
        (if created then Ok (with_table (goes_on g c p x r) (blocked (all_started c.table) p Coend [])) else Ok (goes_on g c p x r))
    joins_same false = passes_on 0 (steps (counted_so facts m c p level acting c.counts) (counts_change facts m c p level acting c.counts refl))
    joins_same true =
        comes_then facts m c p level acting (here + 1) (drop 0 ops) (going x.env r) begun_so x.line (steps begun_so begins) _ m.semaphores m.monitors
        m.resources
        (ap (λ (y : Table). blocked (all_started y) p Coend []) acting.world) acting.alike.words.semaphores acting.alike.words.monitors refl
        acting.alike.words.resources

  pub join_kept : (arrived : HasArrived facts m c p level (joins x r)) (b : Block) (checked : IsChecked level.setting b x.env)
      → Alone level.setting level.arms (IsAt level.setting here COEND x.line × Performs level.setting b x.env (here + 1) ops [] r)
      → IsKept facts m c p choice (joins x r)
  join_kept arrived b checked clear =
      let at : IsAt level.setting here COEND x.line = clear.1.0 in
      let goes : GoesOnAt level.setting b (here + 1) (drop 0 ops) [] (going x.env r) = leads_on level.setting b here (joins x r) ops level.arms arrived.room
      checked clear COEND x.line at in
      let same = joins_same (λ o change. step_of facts m c p level acting own b COEND x.line (drop 0 ops) (going x.env r) o checked.beside at refl clear.0.1
      goes arrived.within arrived.arms change)
      (some_created c.table.rows) in
      record {
        instr = COEND;
        is = code_there facts m c p level acting here COEND x.line at;
        can_step = record {
          stack = stack_there facts m c p level acting;
          performed = record { held = grind arith; room = grind arith; reach = tt };
          goes = λ outward. can_go facts m c p level acting COEND x.line at refl (grind arith) arrived.within;
        };
        no_move = tt;
        can_do = record { acting = acts_now facts m c p level acting COEND x.line at; can = tt };
        line = code_line facts m c p level acting here COEND x.line at;
        choices = refl;
        same =
            subst (λ (rows : List Stand). ComeToSame facts m c p x.line (silent (joined_by (some_created rows) m.world)) (joined g c p x r))
            (sym (ap (λ (y : Table). y.rows) acting.world)) same;
      }

pub time_kept : AreKept IsOfTime
time_kept facts m c p choice level (sleeps x n k) is acting arrived chosen =
    let (b, checked, by) = arrived.arrived in sleep_kept facts m c p choice level x k by.0.0 acting n arrived b checked by
time_kept facts m c p choice level (joins x k) is acting arrived chosen =
    let (b, checked, by) = arrived.arrived in join_kept facts m c p choice level x k by.0.0 acting arrived b checked by
time_kept facts m c p choice level n is acting arrived chosen = absurd is
