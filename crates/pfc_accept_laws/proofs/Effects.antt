-- What is told of each process is so behind every action.
use Rattle.std.proofs.Common.{◌≡◌, ℕ, ℤ, pos, negsuc, zero, suc, ◌+◌, Bool, true, false, nat_le, if◌then◌else◌, List, [], ◌∷◌, ◌++◌, Option, Some, None, Result}
use Rattle.std.proofs.Common.{Ok, Err, ◌≢◌, ◌⊎◌, inl, inr, refl, sym, subst}
use Rattle.std.specs.Prelude.{◌*◌, ◌/◌}
use Rattle.rand_pcg.specs.Lcg.{Lcg}
use Rattle.pfc_base.specs.declared.faults.RunFault.{RunFault}
use Rattle.pfc_base.specs.declared.faults.RunFault.TheVariants.{Active, NotActive, Late, Count as TooLarge}
use Rattle.pfc_state.specs.declared.waits.Arm.TheVariants.{Accept as Entry}
use Rattle.pfc_state.specs.declared.waits.Why.TheVariants.{Coend, Sleep}
use Rattle.pfc_state.specs.Stands.{Is_created, is_unfinished}
use Rattle.pfc_sched.specs.Draws.{drawn, after_draw}
use Rattle.pfc_types.specs.Blocks.{module_at}
use Rattle.pfc_types.specs.rules.Expressions.{Env}
use Rattle.pfc_values.specs.Inputs.{Item, item, skipped, at_end, at_line_end}
use Rattle.pfc_values.specs.Numbers.{Outcome, fitting, truth}
use Rattle.pfc_world.specs.Tables.{at, some_created}
use Rattle.pfc_world.specs.Transitions.{placed, blocked, all_started, finished}
use Rattle.pfc_world.specs.Partners.{is_accepting, is_empty_condition, next_barred}
use Rattle.pfc_world.specs.Rendezvous.{is_uncalled, called as called_in}
use Rattle.pfc_world.specs.Semaphores.{is_overfull, signalled}
use Rattle.pfc_world.specs.Monitors.{entered}
use Rattle.pfc_world.specs.Resources.{resource_entered}
use Rattle.pfc_semantics.specs.Values.{Value, ordinal}
use Rattle.pfc_semantics.specs.Store.{with_room, without}
use Rattle.pfc_semantics.specs.Objects.{module_number}
use Rattle.pfc_semantics.specs.Operators.{simple_of}
use Rattle.pfc_semantics.specs.Displays.{Spot}
use Rattle.pfc_semantics.specs.Programs.{Block, Program, block_at}
use Rattle.pfc_semantics.specs.Remainders.{Context, Argument, Bar, Call, Otherwise, Remainder, AwaitsValue, Scan, Tried, Way, leave, own as trying, in_names}
use Rattle.pfc_semantics.specs.Remainders.{scan_on, try_guard, try_other, to_procedure, to_function, to_module, to_requeue, to_process, to_entry, Action, reads}
use Rattle.pfc_semantics.specs.Remainders.{writes, turns, calls, finishes, prints, inputs, skips, asks_eof, asks_eoln, asks_clock, asks_empty, draws, joins}
use Rattle.pfc_semantics.specs.Remainders.{initials, waits, signals, delays, resumes, sleeps, meets, decides, parts, scans, bars, passes, faults}
use Rattle.pfc_semantics.specs.Rewriting.{Doing, going, holding}
use Rattle.pfc_semantics.specs.Configurations.{nobody, Mark, plain, of_monitor, of_resource, Caller, of_nobody, of_remainder, of_value, Activation, Activity}
use Rattle.pfc_semantics.specs.Configurations.{offering, asking, barred_at, Config, Effect, activity_of, goes_on, showing, value_for, number_for, written_for}
use Rattle.pfc_semantics.specs.Configurations.{all_passed, with_table, counted, with_counted, monitors_held, with_monitors, resources_held, with_resources}
use Rattle.pfc_semantics.specs.Configurations.{body_of}
use Rattle.pfc_semantics.specs.Calls.{cells_above, new_number, new_values, activated, left_by, result_in, unless_full}
use Rattle.pfc_semantics.specs.Processes.{process_block, created, creates, joined, ended_activity, without_all, ended_process}
use Rattle.pfc_semantics.specs.Semaphores.{initials_at, signals_to}
use Rattle.pfc_semantics.specs.Monitors.{enters_monitor}
use Rattle.pfc_semantics.specs.Resources.{guarded_body, enters_resource, scan_of, tried_at, scanned_all, scanned_to, passed_by, requeued_in, requeues}
use Rattle.pfc_semantics.specs.Channels.{side_of}
use Rattle.pfc_semantics.specs.Rendezvous.{called_at, enters}
use Rattle.pfc_semantics.specs.Selects.{latest, matched_places}
use Rattle.pfc_semantics.specs.Time.{slept, sleeps_for, clocked}
use Rattle.pfc_semantics.specs.Steps.{enters_module, calls_by, returns_to, ends_for, ends_body, read_in, skipped_in, drawn_in, effect}
use Rattle.pfc_accept_laws.proofs.Lists.{set_apart}
use Rattle.pfc_accept_laws.proofs.Each.{Told, OpenSo, any_open, IsTold, Each, acts_of, acts_stay, EachIn, MayShow, effect_either, unless_full_so, each_with}
use Rattle.pfc_accept_laws.proofs.Each.{it_shows, it_goes, it_holds}
use Rattle.pfc_accept_laws.proofs.Communications.{SelectSo, OthersSo, side_so, side_on, called_at_so, meets_so, decides_so}

module _ (t : Told) where
  -- ## What an action may show, and who may requeue

  abbrev pub CallsSo : Config → ℕ → Call → List Argument → Type 0
  CallsSo c p (to_entry s entry k) given = MayShow t p (acts_of t c p) (asking (all_passed t.program c p given))
  CallsSo c p (to_requeue scope) given =
      (top : Activation) (below : List Activation) → (activity_of t.program c p).activations ≡ top ∷ below → t.requeues top.mark
  CallsSo c p call given = Unit {0}

  abbrev pub ShowsWay : ℕ → List Activation → Way → Type 0
  ShowsWay p l leave = Unit {0}
  ShowsWay p l (trying b) = MayShow t p l (barred_at b)

  abbrev pub ActsSo : Config → ℕ → Action → Type 0
  ActsSo c p (calls x call given) = CallsSo c p call given
  ActsSo c p (meets x o k) = MayShow t p (acts_of t c p) (offering x (o ∷ []) k)
  ActsSo c p (decides x s k) = MayShow t p (acts_of t c p) (offering x s.offered k)
  ActsSo c p (bars x b k) = MayShow t p (acts_of t c p) (barred_at b)
  ActsSo c p (passes x w s k) = ShowsWay p (acts_of t c p) s.way
  ActsSo c p n = Unit {0}

  -- who acts is not created anew, or nothing is asked of what is done
  abbrev pub ActsApart : Config → ℕ → Type 0
  ActsApart c p =
      ((n : ℕ) → is_unfinished (at c.table.rows n) ≡ false → p ≢ n) ⊎ ((q : ℕ) (l : List Activation) (doing : Doing) → t.does q l doing)

  -- ## What comes behind it, in the activations of who acts

  module _ (p : ℕ) (l : List Activation) where
    abbrev pub On : Context → Remainder → Type 0
    On x k = t.does p l (going x.env k)

    abbrev pub With : Context → AwaitsValue → Type 0
    With x u = (v : Value) → t.does p l (holding x v u)

    abbrev pub CallOn : Context → Call → Type 0
    CallOn x (to_procedure scope k) = t.waits p l (of_remainder x.env k)
    CallOn x (to_function scope u) = t.waits p l (of_value x u)
    CallOn x (to_module n scope k) = t.waits p l (of_remainder x.env k)
    CallOn x (to_requeue scope) = Unit {0}
    CallOn x (to_process s k) = On x k
    CallOn x (to_entry s entry k) = On x k

    abbrev pub GoesOn : Action → Type 0
    GoesOn (reads x s u) = With x u
    GoesOn (writes x s v k) = On x k
    GoesOn (turns x k) = On x k
    GoesOn (calls x call given) = CallOn x call
    GoesOn (finishes line) = Unit {0}
    GoesOn (prints x bytes k) = On x k
    GoesOn (inputs x ty s k) = On x k
    GoesOn (skips x k) = On x k
    GoesOn (asks_eof x u) = With x u
    GoesOn (asks_eoln x u) = With x u
    GoesOn (asks_clock x u) = With x u
    GoesOn (asks_empty x s u) = With x u
    GoesOn (draws x n u) = With x u
    GoesOn (joins x k) = On x k
    GoesOn (initials x s n k) = On x k
    GoesOn (waits x s k) = On x k
    GoesOn (signals x s k) = On x k
    GoesOn (delays x s n k) = On x k
    GoesOn (resumes x s k) = On x k
    GoesOn (sleeps x n k) = On x k
    GoesOn (meets x o k) = OpenSo t p l x k o × On x k
    GoesOn (decides x s k) = SelectSo t p l x s k
    GoesOn (parts x caller k) = On x k
    GoesOn (scans x s k) = On x k × ((bar : Bar) → On x (try_guard bar k)) × ((w : Tried) → On x (try_other w s k))
    GoesOn (bars x bar k) = On x k
    GoesOn (passes x w s k) = On x k
    GoesOn (faults x f) = Unit {0}

  module _ (told : IsTold t) where
    abbrev g : Program
    g = t.program

    -- ## Calls of entries

    pub enters_so :
        (c : Config) (p : ℕ) (x : Context) (s : Spot) (entry : ℕ) (args : List Argument) (k : Remainder) → Each t c → t.does p (acts_of t c p) (going x.env k)
        → MayShow t p (acts_of t c p) (asking (all_passed g c p args)) → EachIn t (enters g c p x s entry args k)
    enters_so c p x s entry args k all left may =
        let q : ℕ = number_for g c p s in
        let values : List Value = all_passed g c p args in
        let waiting : Config = with_table (goes_on g c p x k) (called_in c.table p q entry) in
        let met : Effect = Ok (called_at g waiting p q values (side_of g c q (Entry entry))) in
        let shown : Effect = Ok (showing g waiting p (asking values)) in
        let accepting : Bool = is_accepting c.table.rows q entry in
        effect_either t (is_uncalled c.table q) (Err NotActive) (if accepting then met else shown) tt
        (effect_either t accepting met shown
        (called_at_so t told waiting p q values (side_of g c q (Entry entry)) (it_goes t told c p x k all left)
        (side_on t told c p x k q (side_of g c q (Entry entry)) (side_so t told c q (Entry entry) all)))
        (it_shows t told waiting p (asking values) (acts_of t c p) (acts_stay t c p (going x.env k) p) (it_goes t told c p x k all left) may))

    module _ (c : Config) (all : Each t c) (p : ℕ) where
      abbrev l : List Activation
      l = acts_of t c p

      on : (x : Context) (k : Remainder) → On p l x k → Each t (goes_on g c p x k)
      on x k left = it_goes t told c p x k all left

      -- ## Calls

      module _ (ready : ActsApart c p) where
        creates_so : (x : Context) (s : Spot) (args : List Argument) (k : Remainder) → On p l x k → EachIn t (creates g c p x s args k)
        creates_so x s args k left = by (is_unfinished (at c.table.rows n)) refl
          where
            n : ℕ
            n = number_for g c p s

            b : Block
            b = process_block g n

            new : Config
            new = created g c n b (all_passed g c p args)

            new_so : Each t new
            new_so =
                each_with t told
                (record c {
                  store = with_room c.store (new_number c) (new_values g b (all_passed g c p args));
                  table = placed c.table n Is_created;
                }) n _ all (told.created c n (activity_of g c n) (all n))

            stays : p ≢ n → activity_of g new p ≡ activity_of g c p
            stays off = set_apart (nobody g) c.activities n p _ off

            left_now : ActsApart c p → is_unfinished (at c.table.rows n) ≡ false → t.does p (acts_of t new p) (going x.env k)
            left_now (inl apart) idle = subst (λ (a : Activity). t.does p a.activations (going x.env k)) (sym (stays (apart n idle))) left
            left_now (inr any) idle = any p (acts_of t new p) (going x.env k)

            by : (z : Bool) → is_unfinished (at c.table.rows n) ≡ z
                → EachIn t (if z then Err Active else unless_full n (cells_above [] b) (goes_on g new p x k))
            by true e = tt
            by false e =
                unless_full_so t n (cells_above [] b) (goes_on g new p x k)
                (it_goes t told new p x k new_so (left_now ready e))

      module _ (alive : t.alive (activity_of g c p).activations) where
        activated_so :
            (b : Block) (mark : Mark) (caller : Caller) (args : List Argument) (k : Remainder) → t.waits p l caller
            → Each t (activated g c p b mark caller args k)
        activated_so b mark caller args k waiting =
            each_with t told (record c { store = with_room c.store (new_number c) (new_values g b (all_passed g c p args)) }) p _ all
            (told.called c p (activity_of g c p) b mark caller (going b.env k) alive waiting (all p))

        called_so :
            (b : Block) (caller : Caller) (args : List Argument) → t.waits p l caller
            → EachIn t (unless_full p (cells_above (activity_of g c p).activations b) (activated g c p b plain caller args (body_of b)))
        called_so b caller args waiting =
            unless_full_so t p (cells_above (activity_of g c p).activations b) (activated g c p b plain caller args (body_of b))
            (activated_so b plain caller args (body_of b) waiting)

        enters_module_so : (n : ℕ) (b : Block) (caller : Caller) (args : List Argument) → t.waits p l caller → EachIn t (enters_module g c p n b caller args)
        enters_module_so n b caller args waiting =
            let m : ℕ = module_number g.state.blocks n in
            let cells : ℕ = cells_above (activity_of g c p).activations b in
            let guarded : Config = activated g c p b (of_resource m) caller args (guarded_body g m b b.guard) in
            let inside : Config = activated g c p b (of_monitor m) caller args (body_of b) in
            effect_either t (module_at g.state.blocks n).resource (enters_resource g c p b m caller args) (enters_monitor g c p b m caller args)
            (unless_full_so t p cells (with_resources guarded (resource_entered (resources_held guarded) p m))
            (activated_so b (of_resource m) caller args (guarded_body g m b b.guard) waiting))
            (unless_full_so t p cells (with_monitors inside (entered (monitors_held inside) p m))
            (activated_so b (of_monitor m) caller args (body_of b) waiting))

        requeues_so :
            (b : Block) (args : List Argument) (activations : List Activation) → (activity_of g c p).activations ≡ activations
            → ((top : Activation) (below : List Activation) → activations ≡ top ∷ below → t.requeues top.mark)
            → EachIn t (requeues g c p b args activations)
        requeues_so b args [] is may = all
        requeues_so b args (a ∷ below) is may =
            let values = new_values g b (all_passed g c p args) in
            unless_full_so t p (cells_above below b) (requeued_in g c p b args a below)
            (each_with t told (record c { store = with_room (without c.store a.number) (new_number c) values }) p _ all
            (told.requeued c p (activity_of g c p) a below b _ is (may a below refl) (all p)))

        calls_so :
            ActsApart c p → (x : Context) (call : Call) (args : List Argument) → CallsSo c p call args → CallOn p l x call
            → EachIn t (calls_by g c p x call args)
        calls_so ready x (to_procedure scope k) args so next = called_so (block_at g scope) (of_remainder x.env k) args next
        calls_so ready x (to_function scope u) args so next = called_so (block_at g scope) (of_value x u) args next
        calls_so ready x (to_module n scope k) args so next = enters_module_so n (block_at g scope) (of_remainder x.env k) args next
        calls_so ready x (to_requeue scope) args so next = requeues_so (block_at g scope) args (activity_of g c p).activations refl so
        calls_so ready x (to_process s k) args so next = creates_so ready x s args k next
        calls_so ready x (to_entry s entry k) args so next = enters_so c p x s entry args k all next so

      -- ## Ends of bodies

      ended_so : Each t (ended_process g c p)
      ended_so =
          let a : Activity = activity_of g c p in
          each_with t told (record c { store = without_all c.store a.activations; table = finished c.table p }) p (ended_activity a) all
          (told.ended p a (all p))

      module _ (a : Activation) (below : List Activation) (is : (activity_of g c p).activations ≡ a ∷ below) where
        left_so : (doing : Doing) → t.does p below doing → Each t (left_by g c p a below doing)
        left_so doing may =
            each_with t told (record c { store = without c.store a.number }) p _ all (told.left p (activity_of g c p) a below doing is may (all p))

        returns_so : (env : Env) (k : Remainder) (mark : Mark) → t.does p below (going env k) → Each t (returns_to g c p a below env k mark)
        returns_so env k plain may = left_so (going env k) may
        returns_so env k (of_monitor m) may = left_so (going env k) may
        returns_so env k (of_resource r) may =
            left_so (going env (scan_on (scan_of g r leave) (in_names env k))) (told.scanned p below env (scan_of g r leave) k may)

        ends_so : (caller : Caller) → a.caller ≡ caller → Each t (ends_for g c p a below caller)
        ends_so of_nobody by = ended_so
        ends_so (of_remainder env k) by = returns_so env k a.mark (told.back p (activity_of g c p) a below env k is by (all p))
        ends_so (of_value x u) by =
            left_so (holding x (result_in g c a) u) (told.result p (activity_of g c p) a below x u (result_in g c a) is by (all p))

      body_ends : (activations : List Activation) → (activity_of g c p).activations ≡ activations → EachIn t (ends_body g c p activations)
      body_ends [] is = ended_so
      body_ends (a ∷ below) is = ends_so a below is a.caller refl

      -- ## Input, draws and time

      module _ (x : Context) where
        read_so : (s : Spot) (k : Remainder) (read : Result Item RunFault) → On p l x k → EachIn t (read_in g c p x s k read)
        read_so s k (Ok i) left =
            it_goes t told (record (written_for g c p s (ordinal i.value)) { input = record c.input { bytes = i.left } }) p x k all left
        read_so s k (Err f) left = tt

        skipped_so : (k : Remainder) (rest : Result (List ℕ) RunFault) → On p l x k → EachIn t (skipped_in g c p x k rest)
        skipped_so k (Ok rest) left = it_goes t told (record c { input = record c.input { bytes = rest } }) p x k all left
        skipped_so k (Err f) left = tt

        drawn_so : (u : AwaitsValue) (words : Lcg) (o : Outcome) → With p l x u → EachIn t (drawn_in g c p x u words o)
        drawn_so u words (Ok n) awaits = it_holds t told (record c { words = words }) p x (ordinal n) u all (awaits (ordinal n))
        drawn_so u words (Err f) awaits = tt

        clocked_so : (u : AwaitsValue) (o : Outcome) → With p l x u → EachIn t (clocked g c p x u o)
        clocked_so u (Ok n) awaits = it_holds t told c p x (ordinal n) u all (awaits (ordinal n))
        clocked_so u (Err f) awaits = tt

        module _ (k : Remainder) (left : On p l x k) where
          slept_so : (n : ℕ) → EachIn t (slept g c p x n k)
          slept_so zero = on x k left
          slept_so (suc n) =
              let due : ℕ = c.table.moment + 1000 * suc n in
              effect_either t (nat_le due latest) (Ok (with_table (goes_on g c p x k) (blocked c.table p (Sleep due) []))) (Err Late) (on x k left) tt

          sleeps_so : (n : ℤ) → EachIn t (sleeps_for g c p x n k)
          sleeps_so (pos n) = slept_so n
          sleeps_so (negsuc n) = tt

          joined_so : EachIn t (joined g c p x k)
          joined_so =
              let waiting = blocked (all_started c.table) p Coend [] in
              effect_either t (some_created c.table.rows) (Ok (with_table (goes_on g c p x k) waiting)) (Ok (goes_on g c p x k)) (on x k left) (on x k left)

          -- ## Semaphores and resources

          initials_so : (s : Spot) (n : ℤ) → EachIn t (initials_at g c p x s n k)
          initials_so s (pos n) = on x k left
          initials_so s (negsuc n) = tt

          signals_so : (s : Spot) → EachIn t (signals_to g c p x s k)
          signals_so s =
              let n : ℕ = number_for g c p s in
              effect_either t (is_overfull (counted c) n) (Err TooLarge) (Ok (with_counted (goes_on g c p x k) (signalled (counted c) n))) tt (on x k left)

          all_scanned : (s : Scan) (way : Way) → ((bar : Bar) → On p l x (try_guard bar k)) → Each t (scanned_all g c p x s k way)
          all_scanned s leave guard = on x k left
          all_scanned s (trying b) guard = on x (try_guard b k) (guard b)

          scanned_so :
              (s : Scan) (w : Option Tried) → ((bar : Bar) → On p l x (try_guard bar k)) → ((w : Tried) → On p l x (try_other w s k))
              → Each t (scanned_to g c p x s k w)
          scanned_so s None guard other = all_scanned s s.way guard
          scanned_so s (Some w) guard other = on x (try_other w s k) (other w)

          barred_so : (b : Bar) → MayShow t p l (barred_at b) → Each t (showing g (goes_on g c p x k) p (barred_at b))
          barred_so b may = it_shows t told (goes_on g c p x k) p (barred_at b) l (acts_stay t c p (going x.env k) p) (on x k left) may

          passed_so : (w : Tried) (r : ℕ) (way : Way) → ShowsWay p l way → Each t (passed_by g c p x w k r way)
          passed_so w r leave may = on x k left
          passed_so w r (trying b) may = barred_so b may

      -- ## Every action

      pub effect_so :
          ActsApart c p → t.alive (activity_of g c p).activations → (choice : ℕ) (n : Action) → ActsSo c p n → GoesOn p l n
          → EachIn t (effect g c p choice n)
      effect_so ready alive choice (reads x s u) so next = it_holds t told c p x (value_for g c p s) u all (next (value_for g c p s))
      effect_so ready alive choice (writes x s v k) so next = it_goes t told (written_for g c p s v) p x k all next
      effect_so ready alive choice (turns x k) so next = on x k next
      effect_so ready alive choice (calls x call args) so next = calls_so alive ready x call args so next
      effect_so ready alive choice (finishes line) so next = body_ends (activity_of g c p).activations refl
      effect_so ready alive choice (prints x bytes k) so next = it_goes t told (record c { output = c.output ++ bytes }) p x k all next
      effect_so ready alive choice (inputs x ty s k) so next = read_so x s k (item (simple_of ty) c.input.bytes) next
      effect_so ready alive choice (skips x k) so next = skipped_so x k (skipped c.input.whole_lines c.input.bytes) next
      effect_so ready alive choice (asks_eof x u) so next = let v = ordinal (truth (at_end c.input.bytes)) in it_holds t told c p x v u all (next v)
      effect_so ready alive choice (asks_eoln x u) so next = let v = ordinal (truth (at_line_end c.input.bytes)) in it_holds t told c p x v u all (next v)
      effect_so ready alive choice (asks_clock x u) so next = clocked_so x u (fitting (pos (c.table.moment / 1000))) next
      effect_so ready alive choice (asks_empty x s u) so next =
          let v = ordinal (truth (is_empty_condition c.table.rows (number_for g c p s))) in it_holds t told c p x v u all (next v)
      effect_so ready alive choice (draws x m u) so next = drawn_so x u (after_draw c.words m) (drawn c.words m) next
      effect_so ready alive choice (joins x k) so next = joined_so x k next
      effect_so ready alive choice (initials x s m k) so next = initials_so x k next s m
      effect_so ready alive choice (waits x s k) so next = on x k next
      effect_so ready alive choice (signals x s k) so next = signals_so x k next s
      effect_so ready alive choice (delays x s rank k) so next = on x k next
      effect_so ready alive choice (resumes x s k) so next = on x k next
      effect_so ready alive choice (sleeps x m k) so next = sleeps_so x k next m
      effect_so ready alive choice (meets x o k) so next = meets_so t told c all p x o k next.0 next.1 so
      effect_so ready alive choice (decides x s k) so next = decides_so t told c all p x s k next so choice (matched_places g c p s)
      effect_so ready alive choice (parts x caller k) so next = on x k next
      effect_so ready alive choice (scans x s k) so next =
          scanned_so x k next.0 s (tried_at g c (next_barred c.table.rows s.resource s.after)) next.1 next.2
      effect_so ready alive choice (bars x b k) so next = barred_so x k next b so
      effect_so ready alive choice (passes x w s k) so next = passed_so x k next w s.resource s.way so
      effect_so ready alive choice (faults x f) so next = tt

-- where nothing is asked of what is done, or waits, anything may come
any_call : (t : Told) → ((q : ℕ) (l : List Activation) (doing : Doing) → t.does q l doing)
    → ((q : ℕ) (l : List Activation) (caller : Caller) → t.waits q l caller) → (p : ℕ) (l : List Activation) (x : Context) (call : Call)
    → CallOn t p l x call
any_call t any waiting p l x (to_procedure scope k) = waiting p l _
any_call t any waiting p l x (to_function scope u) = waiting p l _
any_call t any waiting p l x (to_module n scope k) = waiting p l _
any_call t any waiting p l x (to_requeue scope) = tt
any_call t any waiting p l x (to_process s k) = any p l _
any_call t any waiting p l x (to_entry s entry k) = any p l _

any_others : (t : Told) → ((q : ℕ) (l : List Activation) (doing : Doing) → t.does q l doing) → (p : ℕ) (l : List Activation) (x : Context) (k : Remainder)
    (other : Option Otherwise) → OthersSo t p l x k other
any_others t any p l x k None = tt
any_others t any p l x k (Some other) = any p l _

pub any_next : (t : Told) → ((q : ℕ) (l : List Activation) (doing : Doing) → t.does q l doing)
    → ((q : ℕ) (l : List Activation) (caller : Caller) → t.waits q l caller) → (p : ℕ) (l : List Activation) (n : Action) → GoesOn t p l n
any_next t any waiting p l (calls x call given) = any_call t any waiting p l x call
any_next t any waiting p l (meets x o k) = ((any p l _, λ a is caller. any p l _), any p l _)
any_next t any waiting p l (decides x s k) =
    record { offered = any_open t any p l x k s.offered; otherwise = any_others t any p l x k s.otherwise; left = any p l _ }
any_next t any waiting p l (scans x s k) = (any p l _, λ bar. any p l _, λ w. any p l _)
any_next t any waiting p l (faults x f) = tt
any_next t any waiting p l (reads x s u) = λ v. any p l _
any_next t any waiting p l (writes x s v k) = any p l _
any_next t any waiting p l (turns x k) = any p l _
any_next t any waiting p l (finishes line) = tt
any_next t any waiting p l (prints x bytes k) = any p l _
any_next t any waiting p l (inputs x ty s k) = any p l _
any_next t any waiting p l (skips x k) = any p l _
any_next t any waiting p l (asks_eof x u) = λ v. any p l _
any_next t any waiting p l (asks_eoln x u) = λ v. any p l _
any_next t any waiting p l (asks_clock x u) = λ v. any p l _
any_next t any waiting p l (asks_empty x s u) = λ v. any p l _
any_next t any waiting p l (draws x n u) = λ v. any p l _
any_next t any waiting p l (joins x k) = any p l _
any_next t any waiting p l (initials x s n k) = any p l _
any_next t any waiting p l (waits x s k) = any p l _
any_next t any waiting p l (signals x s k) = any p l _
any_next t any waiting p l (delays x s n k) = any p l _
any_next t any waiting p l (resumes x s k) = any p l _
any_next t any waiting p l (sleeps x n k) = any p l _
any_next t any waiting p l (parts x caller k) = any p l _
any_next t any waiting p l (bars x bar k) = any p l _
any_next t any waiting p l (passes x w s k) = any p l _
