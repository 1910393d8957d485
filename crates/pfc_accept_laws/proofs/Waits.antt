-- What is told of the standings of all processes is so behind every action that is no call of an entry.
use Rattle.std.proofs.Common.{ℕ, ℤ, pos, negsuc, zero, suc, ◌+◌, Bool, true, false, nat_le, if◌then◌else◌, List, [], ◌∷◌, Option, Some, None, Result, Ok, Err}
use Rattle.std.specs.Prelude.{◌*◌, ◌/◌, ◌==◌}
use Rattle.rand_pcg.specs.Lcg.{Lcg}
use Rattle.pfc_base.specs.declared.faults.RunFault.{RunFault}
use Rattle.pfc_base.specs.declared.faults.RunFault.TheVariants.{Active, Late, Stack, Count as TooLarge}
use Rattle.pfc_state.specs.declared.waits.Why.TheVariants.{Coend, Condition, Select, Sleep}
use Rattle.pfc_state.specs.Stands.{Stand, Is_created, Is_ready, is_unfinished}
use Rattle.pfc_sched.specs.Draws.{drawn, after_draw}
use Rattle.pfc_types.specs.Blocks.{module_at}
use Rattle.pfc_types.specs.rules.Expressions.{Env}
use Rattle.pfc_values.specs.Inputs.{Item, item, skipped}
use Rattle.pfc_values.specs.Numbers.{Outcome, fitting}
use Rattle.pfc_world.specs.Tables.{at, some_created}
use Rattle.pfc_world.specs.Transitions.{blocked, all_started}
use Rattle.pfc_world.specs.Holders.{standing}
use Rattle.pfc_world.specs.Semaphores.{is_overfull, signalled}
use Rattle.pfc_world.specs.Monitors.{entered, delayed}
use Rattle.pfc_world.specs.Partners.{next_barred}
use Rattle.pfc_world.specs.Resources.{resource_entered}
use Rattle.pfc_semantics.specs.Objects.{module_number}
use Rattle.pfc_semantics.specs.Operators.{simple_of}
use Rattle.pfc_semantics.specs.Displays.{Spot}
use Rattle.pfc_semantics.specs.Programs.{Block, Program, block_at}
use Rattle.pfc_semantics.specs.Remainders.{Context, Argument, Call, Open, Otherwise, Selecting, Remainder, AwaitsValue, Scan, Tried, Way, leave, own as trying}
use Rattle.pfc_semantics.specs.Remainders.{to_procedure, to_function, to_module, to_requeue, to_process, to_entry, Action, reads, writes, turns, calls}
use Rattle.pfc_semantics.specs.Remainders.{finishes, prints, inputs, skips, asks_eof, asks_eoln, asks_clock, asks_empty, draws, joins, initials, waits, signals}
use Rattle.pfc_semantics.specs.Remainders.{delays, resumes, sleeps, meets, decides, parts, scans, bars, passes, faults}
use Rattle.pfc_semantics.specs.Rewriting.{going}
use Rattle.pfc_semantics.specs.Configurations.{Mark, plain, of_monitor, of_resource, Caller, of_nobody, of_remainder, of_value, Activation, Config, Effect}
use Rattle.pfc_semantics.specs.Configurations.{activity_of, goes_on, number_for, all_passed, with_table, counted, with_counted, monitors_held, with_monitors}
use Rattle.pfc_semantics.specs.Configurations.{resources_held, with_resources, body_of, after}
use Rattle.pfc_semantics.specs.Calls.{most_cells, cells_above, activated, left_by, unless_full}
use Rattle.pfc_semantics.specs.Processes.{process_block, created, creates, joined}
use Rattle.pfc_semantics.specs.Semaphores.{initials_at, signals_to}
use Rattle.pfc_semantics.specs.Monitors.{monitor_of, is_inside, enters_monitor}
use Rattle.pfc_semantics.specs.Resources.{guarded_body, enters_resource, tried_at, scanned_all, scanned_to, passed_by, requeued_in, requeues}
use Rattle.pfc_semantics.specs.Channels.{arm_of, arms_of_all, behind_open}
use Rattle.pfc_semantics.specs.Selects.{matched_places, place_taken, Timeout, open_timeout, may_terminate_at, latest, waits_until, waits_or_closed, times_out}
use Rattle.pfc_semantics.specs.Selects.{goes_otherwise, decides_by}
use Rattle.pfc_semantics.specs.Time.{slept, sleeps_for, clocked}
use Rattle.pfc_semantics.specs.Steps.{enters_module, calls_by, returns_to, ends_for, ends_body, read_in, skipped_in, drawn_in, effect}
use Rattle.pfc_accept_laws.proofs.Rows.{IsNoCall, RowsSo, placed_so, blocked_so, all_started_so, finished_so, waited_so, signalled_so, handed_so, entered_so}
use Rattle.pfc_accept_laws.proofs.Rows.{delayed_so, resumed_so, resource_so, given_up_so, barred_so, passed_so, requeued_so, plainly_so, committed_so}

-- no call of an entry
abbrev pub IsElse : Action → Type 0
IsElse (calls x (to_entry s entry k) given) = ⊥
IsElse n = Unit {0}

module _ (R : ℕ → Stand → Type 0) (free : (q : ℕ) (s : Stand) → IsNoCall s → R q s) where
  abbrev pub RowsIn : Effect → Type 0
  RowsIn (Ok d) = RowsSo R free d.table
  RowsIn (Err f) = Unit {0}

  pub after_rows : (g : Program) (c : Config) (p line : ℕ) (e : Effect) → RowsSo R free c.table → RowsIn e → RowsSo R free (after g c p line e).table
  after_rows g c p line (Ok d) all so = so
  after_rows g c p line (Err f) all so = all

  either_so : (b : Bool) (d e : Effect) → RowsIn d → RowsIn e → RowsIn (if b then d else e)
  either_so true d e first second = first
  either_so false d e first second = second

  full_so : (p cells : ℕ) (c : Config) → RowsSo R free c.table → RowsIn (unless_full p cells c)
  full_so p cells c all = either_so (nat_le cells (most_cells p)) (Ok c) (Err Stack) all tt

  module _ (g : Program) (c : Config) (all : RowsSo R free c.table) (p : ℕ) where
    -- ## Calls

    creates_so : (x : Context) (s : Spot) (args : List Argument) (k : Remainder) → RowsIn (creates g c p x s args k)
    creates_so x s args k =
        let n : ℕ = number_for g c p s in
        let b : Block = process_block g n in
        let new : Config = created g c n b (all_passed g c p args) in
        either_so (is_unfinished (at c.table.rows n)) (Err Active) (unless_full n (cells_above [] b) (goes_on g new p x k)) tt
        (full_so n (cells_above [] b) (goes_on g new p x k) (placed_so R free c.table n Is_created tt all))

    enters_module_so : (n : ℕ) (b : Block) (caller : Caller) (args : List Argument) → RowsIn (enters_module g c p n b caller args)
    enters_module_so n b caller args =
        let m : ℕ = module_number g.state.blocks n in
        let cells : ℕ = cells_above (activity_of g c p).activations b in
        let guarded : Config = activated g c p b (of_resource m) caller args (guarded_body g m b b.guard) in
        let inside : Config = activated g c p b (of_monitor m) caller args (body_of b) in
        either_so (module_at g.state.blocks n).resource (enters_resource g c p b m caller args) (enters_monitor g c p b m caller args)
        (full_so p cells (with_resources guarded (resource_entered (resources_held guarded) p m)) (resource_so R free (resources_held guarded) p m all))
        (full_so p cells (with_monitors inside (entered (monitors_held inside) p m)) (entered_so R free (monitors_held inside) p m all))

    requeues_so : (b : Block) (args : List Argument) (activations : List Activation) → RowsIn (requeues g c p b args activations)
    requeues_so b args [] = all
    requeues_so b args (a ∷ below) = full_so p (cells_above below b) (requeued_in g c p b args a below) all

    called_so :
        (b : Block) (caller : Caller) (args : List Argument)
        → RowsIn (unless_full p (cells_above (activity_of g c p).activations b) (activated g c p b plain caller args (body_of b)))
    called_so b caller args = full_so p (cells_above (activity_of g c p).activations b) (activated g c p b plain caller args (body_of b)) all

    calls_so : (x : Context) (call : Call) (args : List Argument) → IsElse (calls x call args) → RowsIn (calls_by g c p x call args)
    calls_so x (to_procedure scope k) args other = called_so (block_at g scope) (of_remainder x.env k) args
    calls_so x (to_function scope u) args other = called_so (block_at g scope) (of_value x u) args
    calls_so x (to_module n scope k) args other = enters_module_so n (block_at g scope) (of_remainder x.env k) args
    calls_so x (to_requeue scope) args other = requeues_so (block_at g scope) args (activity_of g c p).activations
    calls_so x (to_process s k) args other = creates_so x s args k
    calls_so x (to_entry s entry k) args other = absurd other

    -- ## Ends of bodies

    returns_so :
        (a : Activation) (below : List Activation) (env : Env) (k : Remainder) (mark : Mark) → RowsSo R free (returns_to g c p a below env k mark).table
    returns_so a below env k plain = all
    returns_so a below env k (of_monitor m) = handed_so R free (monitors_held (left_by g c p a below (going env k))) m all
    returns_so a below env k (of_resource r) = all

    ends_so : (a : Activation) (below : List Activation) (caller : Caller) → RowsSo R free (ends_for g c p a below caller).table
    ends_so a below of_nobody = finished_so R free c.table p all
    ends_so a below (of_remainder env k) = returns_so a below env k a.mark
    ends_so a below (of_value x u) = all

    body_ends : (activations : List Activation) → RowsIn (ends_body g c p activations)
    body_ends [] = finished_so R free c.table p all
    body_ends (a ∷ below) = ends_so a below a.caller

    -- ## Input, draws and time

    module _ (x : Context) where
      read_so : (s : Spot) (k : Remainder) (read : Result Item RunFault) → RowsIn (read_in g c p x s k read)
      read_so s k (Ok i) = all
      read_so s k (Err f) = tt

      skipped_so : (k : Remainder) (rest : Result (List ℕ) RunFault) → RowsIn (skipped_in g c p x k rest)
      skipped_so k (Ok rest) = all
      skipped_so k (Err f) = tt

      drawn_so : (u : AwaitsValue) (words : Lcg) (o : Outcome) → RowsIn (drawn_in g c p x u words o)
      drawn_so u words (Ok n) = all
      drawn_so u words (Err f) = tt

      clocked_so : (u : AwaitsValue) (o : Outcome) → RowsIn (clocked g c p x u o)
      clocked_so u (Ok n) = all
      clocked_so u (Err f) = tt

      module _ (k : Remainder) where
        slept_so : (n : ℕ) → RowsIn (slept g c p x n k)
        slept_so zero = all
        slept_so (suc n) =
            let due : ℕ = c.table.moment + 1000 * suc n in
            either_so (nat_le due latest) (Ok (with_table (goes_on g c p x k) (blocked c.table p (Sleep due) []))) (Err Late)
            (blocked_so R free c.table p (Sleep due) [] tt all) tt

        sleeps_so : (n : ℤ) → RowsIn (sleeps_for g c p x n k)
        sleeps_so (pos n) = slept_so n
        sleeps_so (negsuc n) = tt

        joined_so : RowsIn (joined g c p x k)
        joined_so =
            let waiting = blocked (all_started c.table) p Coend [] in
            either_so (some_created c.table.rows) (Ok (with_table (goes_on g c p x k) waiting)) (Ok (goes_on g c p x k))
            (blocked_so R free (all_started c.table) p Coend [] tt (all_started_so R free c.table all)) all

        -- ## Semaphores, monitors and resources

        initials_so : (s : Spot) (n : ℤ) → RowsIn (initials_at g c p x s n k)
        initials_so s (pos n) = all
        initials_so s (negsuc n) = tt

        signals_so : (s : Spot) → RowsIn (signals_to g c p x s k)
        signals_so s =
            let n : ℕ = number_for g c p s in
            either_so (is_overfull (counted c) n) (Err TooLarge) (Ok (with_counted (goes_on g c p x k) (signalled (counted c) n))) tt
            (signalled_so R free (counted c) n all)

        delays_so : (n m : ℕ) (rank : ℤ) (b : Bool)
            → (let h = monitors_held c in
            RowsSo R free (if b then delayed h p m n rank else standing h (blocked h.table p (Condition n rank) [])).table)
        delays_so n m rank true = delayed_so R free (monitors_held c) p m n rank all
        delays_so n m rank false = blocked_so R free c.table p (Condition n rank) [] tt all

        all_scanned : (s : Scan) (way : Way) → RowsSo R free (scanned_all g c p x s k way).table
        all_scanned s leave = given_up_so R free (resources_held c) s.resource all
        all_scanned s (trying b) = all

        scanned_so : (s : Scan) (w : Option Tried) → RowsSo R free (scanned_to g c p x s k w).table
        scanned_so s None = all_scanned s s.way
        scanned_so s (Some w) = all

        passes_so : (w : Tried) (r : ℕ) (way : Way) → RowsSo R free (passed_by g c p x w k r way).table
        passes_so w r leave = passed_so R free (resources_held c) r w.process all
        passes_so w r (trying b) = requeued_so R free (resources_held c) p r b.procedure w.process all

        -- ## Selects

        module _ (s : Selecting) where
          waits_so : (due : Option ℕ) (end : Remainder) → RowsSo R free (waits_until g c p x s k due end).table
          waits_so due end =
              blocked_so R free c.table p (Select due (may_terminate_at s.offered)) (arms_of_all g c p s.offered) tt all

          closed_so : (timeout : Option Timeout) (os : List Open) → RowsIn (waits_or_closed g c p x s k timeout os)
          closed_so None [] = tt
          closed_so None (o ∷ os) = waits_so None k
          closed_so (Some timeout) os =
              let due : ℕ = c.table.moment + 1000 * timeout.seconds in
              either_so (nat_le due latest) (Ok (waits_until g c p x s k (Some due) (behind_open timeout.at k))) (Err Late)
              (waits_so (Some due) (behind_open timeout.at k)) tt

          out_so : (timeout : Option Timeout) → RowsIn (times_out g c p x s k timeout)
          out_so None = closed_so None s.offered
          out_so (Some timeout) =
              either_so (timeout.seconds == 0) (Ok (goes_on g c p x (behind_open timeout.at k))) (waits_or_closed g c p x s k (Some timeout) s.offered)
              all (closed_so (Some timeout) s.offered)

          otherwise_so : (other : Option Otherwise) → RowsIn (goes_otherwise g c p x s k other)
          otherwise_so (Some other) = all
          otherwise_so None = out_so (open_timeout s.offered)

          decides_so : (choice : ℕ) (places : List ℕ) → RowsIn (decides_by g c p x s k choice places)
          decides_so choice [] = otherwise_so s.otherwise
          decides_so choice (place ∷ places) = committed_so R free c.table p (arms_of_all g c p s.offered) (place_taken s.pri choice) all

    -- ## Every other action

    pub effect_rows : (choice : ℕ) (n : Action) → IsElse n → RowsIn (effect g c p choice n)
    effect_rows choice (reads x s u) other = all
    effect_rows choice (writes x s v k) other = all
    effect_rows choice (turns x k) other = all
    effect_rows choice (calls x call args) other = calls_so x call args other
    effect_rows choice (finishes line) other = body_ends (activity_of g c p).activations
    effect_rows choice (prints x bytes k) other = all
    effect_rows choice (inputs x t s k) other = read_so x s k (item (simple_of t) c.input.bytes)
    effect_rows choice (skips x k) other = skipped_so x k (skipped c.input.whole_lines c.input.bytes)
    effect_rows choice (asks_eof x u) other = all
    effect_rows choice (asks_eoln x u) other = all
    effect_rows choice (asks_clock x u) other = clocked_so x u (fitting (pos (c.table.moment / 1000)))
    effect_rows choice (asks_empty x s u) other = all
    effect_rows choice (draws x m u) other = drawn_so x u (after_draw c.words m) (drawn c.words m)
    effect_rows choice (joins x k) other = joined_so x k
    effect_rows choice (initials x s m k) other = initials_so x k s m
    effect_rows choice (waits x s k) other = waited_so R free (counted c) p (number_for g c p s) all
    effect_rows choice (signals x s k) other = signals_so x k s
    effect_rows choice (delays x s rank k) other =
        let n : ℕ = number_for g c p s in delays_so x k n (monitor_of g n) rank (is_inside g c p (monitor_of g n))
    effect_rows choice (resumes x s k) other =
        let n : ℕ = number_for g c p s in resumed_so R free (monitors_held c) p (monitor_of g n) n all
    effect_rows choice (sleeps x m k) other = sleeps_so x k m
    effect_rows choice (meets x o k) other = plainly_so R free c.table p (arm_of g c p o.offer) all
    effect_rows choice (decides x s k) other = decides_so x k s choice (matched_places g c p s)
    effect_rows choice (parts x caller k) other = placed_so R free c.table caller Is_ready tt all
    effect_rows choice (scans x s k) other = scanned_so x k s (tried_at g c (next_barred c.table.rows s.resource s.after))
    effect_rows choice (bars x b k) other = barred_so R free (resources_held c) p b.resource b.procedure all
    effect_rows choice (passes x w s k) other = passes_so x k w s.resource s.way
    effect_rows choice (faults x f) other = tt
