-- Behind every action all numbers have 32 bits.
use Rattle.std.proofs.Common.{arith, inr, inl, ◌⊎◌, subst, ◌∙◌, ap, sym, refl, ◌≢◌, ◌≡◌, ℕ, ℤ, pos, negsuc, zero, suc, ◌+◌, Bool, true, false, nat_le}
use Rattle.std.proofs.Common.{if◌then◌else◌, List, [], ◌∷◌, ◌++◌, Option, Some, None, Result, Ok, Err}
use Rattle.std.specs.Prelude.{◌*◌, ◌/◌, ◌==◌}
use Rattle.rand_pcg.specs.Lcg.{Lcg}
use Rattle.pfc_base.specs.declared.faults.RunFault.{RunFault}
use Rattle.pfc_base.specs.declared.faults.RunFault.TheVariants.{Active, NotActive, Late, Count as TooLarge}
use Rattle.pfc_state.specs.declared.waits.Arm.TheVariants.{Accept as Entry}
use Rattle.pfc_state.specs.declared.waits.Why.TheVariants.{Coend, Sleep}
use Rattle.pfc_state.specs.Stands.{Is_created, is_unfinished, ticket_of}
use Rattle.pfc_sched.specs.Draws.{drawn, after_draw}
use Rattle.pfc_types.specs.Blocks.{module_at, process_at}
use Rattle.pfc_types.specs.rules.Expressions.{Env}
use Rattle.pfc_values.specs.Inputs.{Item, item, skipped, behind_line, at_end, at_line_end}
use Rattle.pfc_values.specs.Numbers.{Outcome, fitting, truth}
use Rattle.pfc_world.specs.Tables.{at, some_created}
use Rattle.pfc_world.specs.Transitions.{placed, blocked, all_started, finished}
use Rattle.pfc_world.specs.Partners.{is_accepting, is_empty_condition, next_barred}
use Rattle.pfc_world.specs.Rendezvous.{is_uncalled, called as called_in, meeting_ended}
use Rattle.pfc_world.specs.Semaphores.{counting, waited, is_overfull, signalled}
use Rattle.pfc_world.specs.Monitors.{entered, handed_over}
use Rattle.pfc_world.specs.Resources.{resource_entered, given_up, barred, passed_to, requeued}
use Rattle.pfc_semantics.specs.Values.{Value, ordinal}
use Rattle.pfc_semantics.specs.Store.{with_room, without}
use Rattle.pfc_semantics.specs.Objects.{module_number}
use Rattle.pfc_semantics.specs.Operators.{simple_of}
use Rattle.pfc_semantics.specs.Displays.{Spot}
use Rattle.pfc_semantics.specs.Programs.{Guard, Block, Program, block_at}
use Rattle.pfc_semantics.specs.Remainders.{Context, Argument, Call, Remainder, AwaitsValue, Scan, Tried, Way, leave, own, in_names, scan_on, try_guard}
use Rattle.pfc_semantics.specs.Remainders.{try_other, to_procedure, to_function, to_module, to_requeue, to_process, to_entry, Action, reads, writes, turns}
use Rattle.pfc_semantics.specs.Remainders.{calls, finishes, prints, inputs, skips, asks_eof, asks_eoln, asks_clock, asks_empty, draws, joins, initials, waits}
use Rattle.pfc_semantics.specs.Remainders.{signals, delays, resumes, sleeps, meets, decides, parts, scans, bars, passes, faults}
use Rattle.pfc_semantics.specs.Rewriting.{going, holding}
use Rattle.pfc_semantics.specs.Configurations.{Mark, plain, of_monitor, of_resource, Caller, of_nobody, of_remainder, of_value, Activation, Activity, Hand}
use Rattle.pfc_semantics.specs.Configurations.{asking, barred_at, Config, Effect, activity_of, goes_on, showing, value_for, number_for, written_for, all_passed}
use Rattle.pfc_semantics.specs.Configurations.{with_table, counted, with_counted, monitors_held, with_monitors, resources_held, with_resources, body_of}
use Rattle.pfc_semantics.specs.Layouts.{sub_with}
use Rattle.pfc_semantics.specs.Calls.{formals_of, cells_above, new_number, new_values, activated, result_in, unless_full, left_by}
use Rattle.pfc_semantics.specs.Processes.{declaration_of, process_block, created, creates, joined, ended_activity, without_all, ended_process}
use Rattle.pfc_semantics.specs.Semaphores.{initials_at, signals_to}
use Rattle.pfc_semantics.specs.Monitors.{enters_monitor}
use Rattle.pfc_semantics.specs.Resources.{guarded_body, enters_resource, scan_of, tried, tried_at, scanned_all, scanned_to, passed_by, way_to, resource_marked}
use Rattle.pfc_semantics.specs.Resources.{requeued_in, requeues}
use Rattle.pfc_semantics.specs.Channels.{Side, side_of}
use Rattle.pfc_semantics.specs.Rendezvous.{called_at, enters}
use Rattle.pfc_semantics.specs.Selects.{latest, matched_places}
use Rattle.pfc_semantics.specs.Time.{slept, sleeps_for, clocked}
use Rattle.pfc_semantics.specs.Steps.{enters_module, calls_by, returns_to, ends_for, ends_body, read_in, skipped_in, drawn_in, effect}
use Rattle.pfc_run_invariants.specs.Fitting.{FitsOutcome, FitsValue, FitList}
use Rattle.pfc_run_invariants.specs.Remainders.{FitsEnv, FitArguments, FitsBar, FitsWay, FitsRemainder, FitsAwaiting, FitsCall, FitsAction}
use Rattle.pfc_run_invariants.specs.Configurations.{FitsGuard, FitsBlock, FitsProgram, FitsCaller, FitActivations, marks_of, FitsHand, FitsConfig, IsStable}
use Rattle.pfc_run_invariants.proofs.Numbers.{FitsItem, fitting_fits, truth_fits, item_fits, drawn_fits}
use Rattle.pfc_run_invariants.proofs.Stores.{variable_fits, without_fits, without_all_fits, new_values_fit}
use Rattle.pfc_run_invariants.proofs.Steps.{FitsEffect, effect_either, tabled, with_counts, with_monitor_holders, with_resource_holders, body_fits}
use Rattle.pfc_run_invariants.proofs.Steps.{guarded_fits, block_fits, activity_fits, with_activity_fits, on_it_goes, it_holds, it_shows, found_value, it_writes}
use Rattle.pfc_run_invariants.proofs.Steps.{all_pass, full_fits, activated_fits, left_fits, marks_at, same_marks, apart_marks}
use Rattle.pfc_run_invariants.proofs.Communications.{FitsPartner, partner_fits, called_at_fits, meets_fits, decides_fits}
use Rattle.pfc_run_invariants.specs.Inputs.{AreBytes}
use Rattle.pfc_run_invariants.specs.Asked.{Asked, module_mark, IsClosed}

-- behind a line there are bytes still
line_bytes : (bytes : List ℕ) → AreBytes bytes → AreBytes (behind_line bytes)
line_bytes [] all = tt
line_bytes (b ∷ rest) all = by (b == 10) (line_bytes rest all.1)
  where
    by : (t : Bool) → AreBytes (behind_line rest) → AreBytes (if t then rest else behind_line rest)
    by true later = all.1
    by false later = later

abbrev FitsLine : Result (List ℕ) RunFault → Type 0
FitsLine (Ok left) = AreBytes left
FitsLine (Err f) = Unit {0}

line_fits : (whole : Bool) (bytes : List ℕ) → AreBytes bytes → FitsLine (skipped whole bytes)
line_fits true [] all = tt
line_fits false [] all = tt
line_fits whole (b ∷ rest) all = line_bytes (b ∷ rest) all

same_or : (n p : ℕ) → (n ≡ p) ⊎ (n ≢ p)
same_or n p = grind arith

module _ (law : Asked) (closed : IsClosed law) (program : FitsProgram law) (stable : IsStable law) (c : Config)
    (fits : FitsConfig law c) (p : ℕ) (acting : law.acts c p) where
  abbrev g : Program
  g = law.program

  abbrev ms : List Mark
  ms = marks_at law closed program c p

  abbrev FitsTried : Option Tried → Type 0
  FitsTried None = Unit {0}
  FitsTried (Some w) = FitsBar law p ms w.bar

  -- ## Calls

  called_fits :
      (b : Block) (mark : Mark) (caller : Caller) (args : List Argument) (k : Remainder) → FitsEnv law p (mark ∷ ms) b.env → FitsCaller law p ms caller
      → FitArguments law p ms args → FitsRemainder law p (mark ∷ ms) k → FitsConfig law (activated g c p b mark caller args k)
  called_fits b mark caller args k known awaited given left = activated_fits law closed program c p b mark caller args k fits known awaited given left

  enters_module_fits :
      (n : ℕ) (b : Block) (caller : Caller) (args : List Argument) → FitsEnv law p (module_mark g n ∷ ms) b.env → FitsBlock law b
      → FitsCaller law p ms caller → FitArguments law p ms args → FitsEffect law (enters_module g c p n b caller args)
  enters_module_fits n b caller args known block awaited given = by (module_at g.state.blocks n).resource known
    where
      m : ℕ
      m = module_number g.state.blocks n

      by : (r : Bool) → FitsEnv law p ((if r then of_resource (module_number g.state.blocks n) else of_monitor (module_number g.state.blocks n)) ∷ ms) b.env
          → FitsEffect law (if r then enters_resource g c p b (module_number g.state.blocks n) caller args
          else enters_monitor g c p b (module_number g.state.blocks n) caller args)
      by true inside =
          let m : ℕ = module_number g.state.blocks n in
          let new : Config = activated g c p b (of_resource m) caller args (guarded_body g m b b.guard) in
          let cells : ℕ = cells_above (activity_of g c p).activations b in
          full_fits law closed program p cells (with_resources new (resource_entered (resources_held new) p m))
          (with_resource_holders law new (resource_entered (resources_held new) p m)
          (called_fits b (of_resource m) caller args (guarded_body g m b b.guard) inside awaited given
          (guarded_fits law closed program p (of_resource m ∷ ms) m b b.guard inside block block.guard)))
      by false inside =
          let m : ℕ = module_number g.state.blocks n in
          let new : Config = activated g c p b (of_monitor m) caller args (body_of b) in
          let cells : ℕ = cells_above (activity_of g c p).activations b in
          full_fits law closed program p cells (with_monitors new (entered (monitors_held new) p m))
          (with_monitor_holders law new (entered (monitors_held new) p m)
          (called_fits b (of_monitor m) caller args (body_of b) inside awaited given (body_fits law closed program p (of_monitor m ∷ ms) b block)))

  way_fits : (marks : List Mark) (r : ℕ) (b : Block) (guard : Option Guard) → FitsGuard law guard → FitsWay law p marks (way_to g r b guard)
  way_fits marks r b None test = tt
  way_fits marks r b (Some guard) test = test

  requeued_fits :
      (b : Block) (args : List Argument) (a : Activation) (below : List Activation) → FitsBlock law b → FitsEnv law p (marks_of (a ∷ below)) b.env
      → FitArguments law p ms args → FitActivations law p (a ∷ below) → FitsConfig law (requeued_in g c p b args a below)
  requeued_fits b args a below block known given all =
      let values = new_values g b (all_passed g c p args) in
      let marks = marks_of (a ∷ below) in
      with_activity_fits law closed program (record c { store = with_room (without c.store a.number) (new_number c) values }) p _
      (record {
        activities = fits.activities;
        store = (
          new_values_fit g program.firsts b (all_passed g c p args)
              (all_pass law closed program c p ms args given),
          without_fits c.store a.number fits.store,
        );
        input = fits.input;
      })
      (record {
        doing = λ lives. (known, (way_fits marks (resource_marked a.mark) b b.guard block.guard, (known, body_fits law closed program p marks b block)));
        activations = all;
        hand = tt;
      })

  requeues_fit :
      (b : Block) (args : List Argument) (activations : List Activation) → FitsBlock law b → FitsEnv law p (marks_of activations) b.env
      → FitArguments law p ms args → FitActivations law p activations → FitsEffect law (requeues g c p b args activations)
  requeues_fit b args [] block known given all = fits
  requeues_fit b args (a ∷ below) block known given all =
      full_fits law closed program p (cells_above below b) (requeued_in g c p b args a below) (requeued_fits b args a below block known given all)

  created_fits : (n : ℕ) (values : List Value) → FitList values → FitsConfig law (created g c n (process_block g n) values)
  created_fits n values given =
      let b : Block = process_block g n in
      let block = block_fits law closed program (process_at g.state.blocks (declaration_of g n)).scope in
      with_activity_fits law closed program
      (record c { store = with_room c.store (new_number c) (new_values g b values); table = placed c.table n Is_created }) n _
      (record { activities = fits.activities; store = (new_values_fit g program.firsts b values given, fits.store); input = fits.input })
      (record {
        doing = λ lives. (closed.begins n (declaration_of g n), body_fits law closed program n (plain ∷ []) b block);
        activations = (tt, tt);
        hand = tt;
      })

  creates_fits :
      (x : Context) (s : Spot) (args : List Argument) (k : Remainder) → FitsEnv law p ms x.env → FitArguments law p ms args → FitsRemainder law p ms k
      → FitsEffect law (creates g c p x s args k)
  creates_fits x s args k known given left = by (is_unfinished (at c.table.rows n)) refl
    where
      n : ℕ
      n = number_for g c p s

      by : (r : Bool) → is_unfinished (at c.table.rows (number_for g c p s)) ≡ r
          → FitsEffect law (if r then Err Active
          else unless_full (number_for g c p s) (cells_above [] (process_block g (number_for g c p s)))
          (goes_on g (created g c (number_for g c p s) (process_block g (number_for g c p s)) (all_passed g c p args)) p x k))
      by true e = tt
      by false e = apart_or (same_or (number_for g c p s) p)
        where
          n : ℕ
          n = number_for g c p s

          new : Config
          new = created g c (number_for g c p s) (process_block g (number_for g c p s)) (all_passed g c p args)

          goes : FitsEnv law p (marks_at law closed program new p) x.env → FitsRemainder law p (marks_at law closed program new p) k
              → FitsEffect law
              (unless_full (number_for g c p s) (cells_above [] (process_block g (number_for g c p s))) (goes_on g new p x k))
          goes known left =
              full_fits law closed program (number_for g c p s) (cells_above [] (process_block g (number_for g c p s))) (goes_on g new p x k)
              (on_it_goes law closed program new p x k
              (created_fits (number_for g c p s) (all_passed g c p args) (all_pass law closed program c p ms args given)) known left)

          apart_or : (number_for g c p s ≡ p) ⊎ (number_for g c p s ≢ p)
              → FitsEffect law
              (unless_full (number_for g c p s) (cells_above [] (process_block g (number_for g c p s))) (goes_on g new p x k))
          apart_or (inl same) =
              let both = stable.anew c p ms (marks_at law closed program new p) x.env k acting
              (sym (ap (λ (q : ℕ). is_unfinished (at c.table.rows q)) same) ∙ e) known left in goes both.0 both.1
          apart_or (inr apart) =
              let still = apart_marks law closed program
              (record c {
                store = with_room c.store (new_number c) (new_values g (process_block g (number_for g c p s)) (all_passed g c p args));
                table = placed c.table (number_for g c p s) Is_created;
              })
              (number_for g c p s) p _ (λ same. apart (sym same)) in
              goes (subst (λ (m : List Mark). FitsEnv law p m x.env) (sym still) known) (subst (λ (m : List Mark). FitsRemainder law p m k) (sym still) left)

  enters_fits :
      (x : Context) (s : Spot) (entry : ℕ) (args : List Argument) (k : Remainder) → FitsEnv law p ms x.env → FitArguments law p ms args
      → FitsRemainder law p ms k → FitsEffect law (enters g c p x s entry args k)
  enters_fits x s entry args k known given left =
      let q : ℕ = number_for g c p s in
      let values : List Value = all_passed g c p args in
      let waiting : Config = with_table (goes_on g c p x k) (called_in c.table p q entry) in
      let waits_so : FitsConfig law waiting =
      tabled law (goes_on g c p x k) (called_in c.table p q entry) (on_it_goes law closed program c p x k fits known left) in
      let passed : FitList values = all_pass law closed program c p ms args given in
      let side : Option Side = side_of g c q (Entry entry) in
      let partner : FitsPartner law q (marks_at law closed program waiting q) side =
      subst (λ (m : List Mark). FitsPartner law q m side) (sym (same_marks law closed program c p q (going x.env k)))
      (partner_fits law closed program c q (Entry entry) fits) in
      let met : Effect = Ok (called_at g waiting p q values side) in
      let shown : Effect = Ok (showing g waiting p (asking values)) in
      let accepting : Bool = is_accepting c.table.rows q entry in
      effect_either law (is_uncalled c.table q) (Err NotActive) (if accepting then met else shown) tt
      (effect_either law accepting met shown (called_at_fits law closed program waiting p q values side waits_so passed partner)
      (it_shows law closed program waiting p (asking values) waits_so passed))

  calls_fit :
      (x : Context) (call : Call) (args : List Argument) → FitsEnv law p ms x.env → FitsCall law p ms call → FitArguments law p ms args
      → FitsEffect law (calls_by g c p x call args)
  calls_fit x (to_procedure scope k) args known left given =
      let b : Block = block_at g scope in
      full_fits law closed program p (cells_above (activity_of g c p).activations b) (activated g c p b plain (of_remainder x.env k) args (body_of b))
      (called_fits b plain (of_remainder x.env k) args (body_of b) left.0 (known, left.1) given
      (body_fits law closed program p (plain ∷ ms) b (block_fits law closed program scope)))
  calls_fit x (to_function scope u) args known awaited given =
      let b : Block = block_at g scope in
      full_fits law closed program p (cells_above (activity_of g c p).activations b) (activated g c p b plain (of_value x u) args (body_of b))
      (called_fits b plain (of_value x u) args (body_of b) awaited.0 (known, awaited.1) given
      (body_fits law closed program p (plain ∷ ms) b (block_fits law closed program scope)))
  calls_fit x (to_module n scope k) args known left given =
      enters_module_fits n (block_at g scope) (of_remainder x.env k) args left.0 (block_fits law closed program scope) (known, left.1) given
  calls_fit x (to_requeue scope) args known left given =
      requeues_fit (block_at g scope) args (activity_of g c p).activations (block_fits law closed program scope) left given
      (activity_fits law closed program c p fits).activations
  calls_fit x (to_process s k) args known left given = creates_fits x s args k known given left
  calls_fit x (to_entry s entry k) args known left given = enters_fits x s entry args k known given left

  -- ## Ends of bodies

  ended_fits : FitsConfig law (ended_process g c p)
  ended_fits =
      let a : Activity = activity_of g c p in
      with_activity_fits law closed program (record c { store = without_all c.store a.activations; table = finished c.table p }) p (ended_activity a)
      (record { activities = fits.activities; store = without_all_fits c.store a.activations fits.store; input = fits.input })
      (record {
        doing = λ lives. stable.ends p ms a.doing lives ((activity_fits law closed program c p fits).doing (closed.living c p acting));
        activations = tt;
        hand = tt;
      })

  module _ (a : Activation) (below : List Activation) (others : FitActivations law p below) where
    returns_fits :
        (env : Env) (k : Remainder) (mark : Mark) → FitsEnv law p (marks_of below) env → FitsRemainder law p (marks_of below) k
        → FitsConfig law (returns_to g c p a below env k mark)
    returns_fits env k plain known left = left_fits law closed program c p a below (going env k) fits others (known, left)
    returns_fits env k (of_monitor m) known left =
        let back : Config = left_by g c p a below (going env k) in
        with_monitor_holders law back (handed_over (monitors_held back) m) (left_fits law closed program c p a below (going env k) fits others (known, left))
    returns_fits env k (of_resource r) known left =
        left_fits law closed program c p a below (going env (scan_on (scan_of g r leave) (in_names env k))) fits others (known, (tt, (known, left)))

    result_fits : FitsValue (result_in g c a)
    result_fits =
        variable_fits c.store (record { activation = a.number; variable = formals_of (sub_with g.state.blocks.subs a.scope); selectors = [] }) fits.store

    ends_fit : (caller : Caller) → FitsCaller law p (marks_of below) caller → FitsConfig law (ends_for g c p a below caller)
    ends_fit of_nobody awaited = ended_fits
    ends_fit (of_remainder env k) awaited = returns_fits env k a.mark awaited.0 awaited.1
    ends_fit (of_value x u) awaited =
        left_fits law closed program c p a below (holding x (result_in g c a) u) fits others (awaited.0, result_fits, awaited.1)

  body_ends : (activations : List Activation) → FitActivations law p activations → FitsEffect law (ends_body g c p activations)
  body_ends [] all = ended_fits
  body_ends (a ∷ below) all = ends_fit a below all.1 a.caller all.0

  -- ## Input, draws and time

  module _ (x : Context) (known : FitsEnv law p ms x.env) where
    read_fits : (s : Spot) (k : Remainder) (read : Result Item RunFault) → FitsRemainder law p ms k → FitsItem read → FitsEffect law (read_in g c p x s k read)
    read_fits s k (Ok i) left read =
        let written = it_writes law closed program c p s (ordinal i.value) fits read.0 in
        on_it_goes law closed program (record (written_for g c p s (ordinal i.value)) { input = record c.input { bytes = i.left } }) p x k
        (record { activities = written.activities; store = written.store; input = read.1 }) known left
    read_fits s k (Err f) left read = tt

    skipped_fits : (k : Remainder) (rest : Result (List ℕ) RunFault) → FitsRemainder law p ms k → FitsLine rest → FitsEffect law (skipped_in g c p x k rest)
    skipped_fits k (Ok rest) left line =
        on_it_goes law closed program (record c { input = record c.input { bytes = rest } }) p x k
        (record { activities = fits.activities; store = fits.store; input = line }) known left
    skipped_fits k (Err f) left line = tt

    drawn_in_fits : (u : AwaitsValue) (words : Lcg) (o : Outcome) → FitsAwaiting law p ms u → FitsOutcome o → FitsEffect law (drawn_in g c p x u words o)
    drawn_in_fits u words (Ok n) awaited fit =
        it_holds law closed program (record c { words = words }) p x (ordinal n) u
        (record { activities = fits.activities; store = fits.store; input = fits.input }) known fit awaited
    drawn_in_fits u words (Err f) awaited fit = tt

    clocked_fits : (u : AwaitsValue) (o : Outcome) → FitsAwaiting law p ms u → FitsOutcome o → FitsEffect law (clocked g c p x u o)
    clocked_fits u (Ok n) awaited fit = it_holds law closed program c p x (ordinal n) u fits known fit awaited
    clocked_fits u (Err f) awaited fit = tt

    module _ (k : Remainder) (left : FitsRemainder law p ms k) where
      on : FitsConfig law (goes_on g c p x k)
      on = on_it_goes law closed program c p x k fits known left

      slept_fits : (n : ℕ) → FitsEffect law (slept g c p x n k)
      slept_fits zero = on
      slept_fits (suc n) =
          let due : ℕ = c.table.moment + 1000 * suc n in
          effect_either law (nat_le due latest) (Ok (with_table (goes_on g c p x k) (blocked c.table p (Sleep due) []))) (Err Late)
          (tabled law (goes_on g c p x k) (blocked c.table p (Sleep due) []) on) tt

      sleeps_fit : (n : ℤ) → FitsEffect law (sleeps_for g c p x n k)
      sleeps_fit (pos n) = slept_fits n
      sleeps_fit (negsuc n) = tt

      joined_fits : FitsEffect law (joined g c p x k)
      joined_fits =
          let waiting = blocked (all_started c.table) p Coend [] in
          effect_either law (some_created c.table.rows) (Ok (with_table (goes_on g c p x k) waiting)) (Ok (goes_on g c p x k))
          (tabled law (goes_on g c p x k) waiting on) on

      -- ## Semaphores and resources

      initials_fit : (s : Spot) (n : ℤ) → FitsEffect law (initials_at g c p x s n k)
      initials_fit s (pos n) = with_counts law (goes_on g c p x k) (counting (counted c) (number_for g c p s) n) on
      initials_fit s (negsuc n) = tt

      signals_fit : (s : Spot) → FitsEffect law (signals_to g c p x s k)
      signals_fit s =
          let n : ℕ = number_for g c p s in
          effect_either law (is_overfull (counted c) n) (Err TooLarge) (Ok (with_counted (goes_on g c p x k) (signalled (counted c) n))) tt
          (with_counts law (goes_on g c p x k) (signalled (counted c) n) on)

      all_scanned : (s : Scan) (way : Way) → FitsWay law p ms way → FitsConfig law (scanned_all g c p x s k way)
      all_scanned s leave way = with_resource_holders law (goes_on g c p x k) (given_up (resources_held c) s.resource) on
      all_scanned s (own b) way = on_it_goes law closed program c p x (try_guard b k) fits known (way, left)

      scanned_fits : (s : Scan) (found : Option Tried) → FitsWay law p ms s.way → FitsTried found → FitsConfig law (scanned_to g c p x s k found)
      scanned_fits s None way bar = all_scanned s s.way way
      scanned_fits s (Some w) way bar = on_it_goes law closed program c p x (try_other w s k) fits known (bar, way, left)

      passed_fits : (w : Tried) (r : ℕ) (way : Way) → FitsWay law p ms way → FitsConfig law (passed_by g c p x w k r way)
      passed_fits w r leave way = with_resource_holders law (goes_on g c p x k) (passed_to (resources_held c) r w.process) on
      passed_fits w r (own b) way =
          with_resource_holders law (showing g (goes_on g c p x k) p (barred_at b)) (requeued (resources_held c) p r b.procedure w.process)
          (it_shows law closed program (goes_on g c p x k) p (barred_at b) on way)

  tried_fits : (q : ℕ) (hand : Hand) (ticket : Option ℕ) → FitsHand law q (marks_at law closed program c q) hand → FitsTried (tried q hand ticket)
  tried_fits q (barred_at b) (Some ticket) shown = shown
  tried_fits q (barred_at b) None shown = tt
  tried_fits q hand ticket shown = tt

  tried_at_fits : (q : Option ℕ) → FitsTried (tried_at g c q)
  tried_at_fits None = tt
  tried_at_fits (Some q) = tried_fits q (activity_of g c q).hand (ticket_of (at c.table.rows q)) (activity_fits law closed program c q fits).hand

  -- ## Every action

  pub effect_fits : (choice : ℕ) (n : Action) → FitsAction law p ms n → FitsEffect law (effect g c p choice n)
  effect_fits choice (reads x s u) n = it_holds law closed program c p x (value_for g c p s) u fits n.0 (found_value law closed program c p s fits) n.1
  effect_fits choice (writes x s v k) n = on_it_goes law closed program (written_for g c p s v) p x k (it_writes law closed program c p s v fits n.1) n.0 n.2
  effect_fits choice (turns x k) n = on x n.0 k n.1
  effect_fits choice (calls x call args) n = calls_fit x call args n.0 n.1 n.2
  effect_fits choice (finishes line) n = body_ends (activity_of g c p).activations (activity_fits law closed program c p fits).activations
  effect_fits choice (prints x bytes k) n =
      on_it_goes law closed program (record c { output = c.output ++ bytes }) p x k
      (record { activities = fits.activities; store = fits.store; input = fits.input }) n.0 n.1
  effect_fits choice (inputs x t s k) n =
      read_fits x n.0 s k (item (simple_of t) c.input.bytes) n.1 (item_fits (simple_of t) c.input.bytes fits.input)
  effect_fits choice (skips x k) n =
      skipped_fits x n.0 k (skipped c.input.whole_lines c.input.bytes) n.1 (line_fits c.input.whole_lines c.input.bytes fits.input)
  effect_fits choice (asks_eof x u) n = it_holds law closed program c p x (ordinal (truth (at_end c.input.bytes))) u fits n.0
      (truth_fits (at_end c.input.bytes)) n.1
  effect_fits choice (asks_eoln x u) n =
      it_holds law closed program c p x (ordinal (truth (at_line_end c.input.bytes))) u fits n.0 (truth_fits (at_line_end c.input.bytes)) n.1
  effect_fits choice (asks_clock x u) n =
      clocked_fits x n.0 u (fitting (pos (c.table.moment / 1000))) n.1 (fitting_fits (pos (c.table.moment / 1000)))
  effect_fits choice (asks_empty x s u) n =
      let none = is_empty_condition c.table.rows (number_for g c p s) in
      it_holds law closed program c p x (ordinal (truth none)) u fits n.0 (truth_fits none) n.1
  effect_fits choice (draws x m u) n = drawn_in_fits x n.0 u (after_draw c.words m) (drawn c.words m) n.2 (drawn_fits c.words m n.1)
  effect_fits choice (joins x k) n = joined_fits x n.0 k n.1
  effect_fits choice (initials x s m k) n = initials_fit x n.0 k n.2 s m
  effect_fits choice (waits x s k) n = with_counts law (goes_on g c p x k) (waited (counted c) p (number_for g c p s)) (on x n.0 k n.1)
  effect_fits choice (signals x s k) n = signals_fit x n.0 k n.1 s
  effect_fits choice (delays x s rank k) n = with_monitor_holders law (goes_on g c p x k) _ (on x n.0 k n.2)
  effect_fits choice (resumes x s k) n = with_monitor_holders law (goes_on g c p x k) _ (on x n.0 k n.2)
  effect_fits choice (sleeps x m k) n = sleeps_fit x n.0 k n.1 m
  effect_fits choice (meets x o k) n = meets_fits law closed program c fits p x n.0 k n.2 o n.1
  effect_fits choice (decides x s k) n = decides_fits law closed program c fits p x n.0 k n.2 s n.1 choice (matched_places g c p s)
  effect_fits choice (parts x caller k) n = tabled law (goes_on g c p x k) (meeting_ended c.table caller) (on x n.0 k n.1)
  effect_fits choice (scans x s k) n =
      scanned_fits x n.0 k n.2 s (tried_at g c (next_barred c.table.rows s.resource s.after)) n.1 (tried_at_fits (next_barred c.table.rows s.resource s.after))
  effect_fits choice (bars x b k) n =
      with_resource_holders law (showing g (goes_on g c p x k) p (barred_at b)) (barred (resources_held c) p b.resource b.procedure)
      (it_shows law closed program (goes_on g c p x k) p (barred_at b) (on x n.0 k n.2) n.1)
  effect_fits choice (passes x w s k) n = passed_fits x n.0 k n.3 w s.resource s.way n.2
  effect_fits choice (faults x f) n = tt
