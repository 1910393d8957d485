-- Behind every action what is left calls what the rules ask, and each guard is of its own resource.
use Rattle.std.proofs.Common.{◌≡◌, ◌≢◌, ℕ, ℤ, pos, negsuc, zero, suc, ◌+◌, Bool, true, false, nat_le, if◌then◌else◌, List, [], ◌∷◌, ◌++◌, Option, Some, None}
use Rattle.std.proofs.Common.{is_some, Result, Ok, Err, refl, ap, sym, ◌∙◌, subst}
use Rattle.std.specs.Prelude.{◌*◌, ◌/◌}
use Rattle.rand_pcg.specs.Lcg.{Lcg}
use Rattle.pfc_base.specs.declared.faults.RunFault.{RunFault}
use Rattle.pfc_base.specs.declared.faults.RunFault.TheVariants.{Active, NotActive, Late, Count as TooLarge}
use Rattle.pfc_state.specs.declared.waits.Arm.TheVariants.{Accept as Entry}
use Rattle.pfc_state.specs.declared.waits.Why.TheVariants.{Coend, Sleep}
use Rattle.pfc_state.specs.Stands.{Stand, Is_idle, Is_created, Is_ready, Waits, Is_done, is_ready, is_unfinished, ticket_of}
use Rattle.pfc_sched.specs.Draws.{drawn, after_draw}
use Rattle.pfc_types.specs.Blocks.{module_at, process_at}
use Rattle.pfc_types.specs.rules.Expressions.{Env}
use Rattle.pfc_values.specs.Inputs.{Item, item, skipped, at_end, at_line_end}
use Rattle.pfc_values.specs.Numbers.{Outcome, fitting, truth}
use Rattle.pfc_world.specs.Tables.{at, some_created}
use Rattle.pfc_world.specs.Transitions.{placed, blocked, all_started, finished}
use Rattle.pfc_world.specs.Partners.{is_accepting, is_empty_condition, next_barred}
use Rattle.pfc_world.specs.Rendezvous.{is_uncalled, called as called_in}
use Rattle.pfc_world.specs.Semaphores.{is_overfull, signalled}
use Rattle.pfc_world.specs.Monitors.{entered}
use Rattle.pfc_world.specs.Resources.{resource_entered}
use Rattle.pfc_semantics.specs.Values.{Value, ordinal}
use Rattle.pfc_semantics.specs.Store.{with_room, without}
use Rattle.pfc_semantics.specs.Objects.{module_number}
use Rattle.pfc_semantics.specs.Operators.{simple_of}
use Rattle.pfc_semantics.specs.Displays.{Spot}
use Rattle.pfc_semantics.specs.Programs.{Guard, Block, Program, block_at}
use Rattle.pfc_semantics.specs.Remainders.{Context, Argument, Bar, Call, Remainder, AwaitsValue, Scan, Tried, Way, leave, own as trying, in_names, scan_on}
use Rattle.pfc_semantics.specs.Remainders.{try_guard, try_other, to_procedure, to_function, to_module, to_requeue, to_process, to_entry, Action, reads, writes}
use Rattle.pfc_semantics.specs.Remainders.{turns, calls, finishes, prints, inputs, skips, asks_eof, asks_eoln, asks_clock, asks_empty, draws, joins, initials}
use Rattle.pfc_semantics.specs.Remainders.{waits, signals, delays, resumes, sleeps, meets, decides, parts, scans, bars, passes, faults}
use Rattle.pfc_semantics.specs.Rewriting.{going, holding}
use Rattle.pfc_semantics.specs.Configurations.{Mark, plain, of_monitor, of_resource, Caller, of_nobody, of_remainder, of_value, Activation, Activity, Hand}
use Rattle.pfc_semantics.specs.Configurations.{empty_hand, offering, asking, barred_at, Config, Effect, activity_of, goes_on, showing, value_for, number_for}
use Rattle.pfc_semantics.specs.Configurations.{written_for, all_passed, with_table, counted, with_counted, monitors_held, with_monitors, resources_held}
use Rattle.pfc_semantics.specs.Configurations.{with_resources, body_of}
use Rattle.pfc_semantics.specs.Calls.{cells_above, new_number, new_values, new_activation, activated, result_in, unless_full}
use Rattle.pfc_semantics.specs.Processes.{declaration_of, process_block, created, creates, joined, ended_activity, without_all, ended_process}
use Rattle.pfc_semantics.specs.Semaphores.{initials_at, signals_to}
use Rattle.pfc_semantics.specs.Monitors.{enters_monitor}
use Rattle.pfc_semantics.specs.Resources.{bar_of, guarded_body, enters_resource, scan_of, tried, tried_at, scanned_all, scanned_to, passed_by, way_to}
use Rattle.pfc_semantics.specs.Resources.{resource_marked, requeued_in, requeues}
use Rattle.pfc_semantics.specs.Channels.{Side, side_of}
use Rattle.pfc_semantics.specs.Rendezvous.{called_at, enters}
use Rattle.pfc_semantics.specs.Selects.{latest, matched_places}
use Rattle.pfc_semantics.specs.Time.{slept, sleeps_for, clocked}
use Rattle.pfc_semantics.specs.Steps.{enters_module, calls_by, returns_to, ends_for, ends_body, read_in, skipped_in, drawn_in, effect}
use Rattle.pfc_guard_laws.specs.Tops.{Tops, standing_at, Beside, IsOrdered, Lives}
use Rattle.pfc_guard_laws.specs.Written.{IsCalled, IsEntered, IsOfModule, RequeuesFrom, MayRequeue, SuitStmts}
use Rattle.pfc_guard_laws.specs.Remainders.{SuitsBar, SuitsWay, SuitsScan, SuitsRemainder, SuitsAwaiting, SuitsCalling, SuitsAction}
use Rattle.pfc_guard_laws.specs.Configurations.{SuitsInOrder, mark_in, scope_in, standing_in, StandsOn, SuitsCaller, SuitActivations, SuitsHand, SuitsConfig}
use Rattle.pfc_guard_laws.proofs.Ordering.{none_ordered, first_ordered, below_ordered, replaced_ordered}
use Rattle.pfc_guard_laws.proofs.Steps.{SuitsEffect, instead, other_instead, effect_either, full_suits, unguarded_suits, bar_suits, entered_suits, body_suits}
use Rattle.pfc_guard_laws.proofs.Steps.{guarded_suits, with_activity_suits, instead_suits, on_it_goes, it_holds, it_shows, activated_suits, left_suits}
use Rattle.pfc_guard_laws.proofs.Communications.{partner_suits, called_at_suits, meets_suit, decides_suit}

-- who is ready is not finished
ready_unfinished : (s : Stand) → is_ready s ≡ true → is_unfinished s ≡ true
ready_unfinished Is_idle e = cc
ready_unfinished Is_created e = refl
ready_unfinished Is_ready e = refl
ready_unfinished (Waits why ticket arms) e = refl
ready_unfinished Is_done e = cc

apart_from : (rows : List Stand) (p n : ℕ) → is_ready (at rows p) ≡ true → is_unfinished (at rows n) ≡ false → p ≢ n
apart_from rows p n ready e h =
    let same : is_unfinished (at rows n) ≡ true = ap (λ (i : ℕ). is_unfinished (at rows i)) (sym h) ∙ ready_unfinished (at rows p) ready in
    never (sym same ∙ e)
  where
    never : true ≡ false → ⊥
    never e = cc

-- A scan behind a requeue is as is asked of a scan, whatever that is.
abbrev pub IsRequeued : Program → (List Activation → Scan → Type 0) → Type 0
IsRequeued g scanned = (own : List Activation) (r : ℕ) (bar : Bar) → scanned own (scan_of g r (trying bar))

-- So is one behind a return of this process.
abbrev pub IsReturned : Program → (List Activation → Scan → Type 0) → Config → ℕ → Type 0
IsReturned g scanned c p =
    (a : Activation) (below own : List Activation) (env : Env) (k : Remainder) (r : ℕ) → (activity_of g c p).activations ≡ a ∷ below
    → a.caller ≡ of_remainder env k → StandsOn own below → a.mark ≡ of_resource r → scanned own (scan_of g r leave)

module _ (g : Program) (tops : Option Tops) (program : SuitsInOrder g tops) (scanned : List Activation → Scan →
    Type 0) (requeued_so : IsRequeued g scanned) where
  -- behind a requeue the process scans, and then tries its own guard
  requeue_left :
      (scope : ℕ) (m : Mark) → RequeuesFrom g m scope → (own : List Activation)
      → (let b = block_at g scope in let r = resource_marked m in
      SuitsRemainder g (standing_at tops m b.scope) (scanned own) b.env (scan_on (scan_of g r (way_to g r b b.guard)) (in_names b.env (body_of b))))
  requeue_left scope (of_resource r) may own = (
    by (block_at g scope).guard refl may.1,
    λ (i : Env). body_suits g tops program (standing_at tops (of_resource r) (block_at g scope).scope) (scanned own) (block_at g scope)
        (entered_suits g tops program scope r may.0),
  )
    where
      by : (o : Option Guard) → (block_at g scope).guard ≡ o → is_some o ≡ true
          → SuitsScan g tops (scanned own) (scan_of g r (way_to g r (block_at g scope) o))
      by None e some = cc
      by (Some guard) e some = (requeued_so own r (bar_of g r (block_at g scope) guard), bar_suits g tops program scope r guard e may.0)
  requeue_left scope (of_monitor m) may own = absurd may
  requeue_left scope plain may own = absurd may

  module _ (c : Config) (owns : ℕ → List Activation) (suits : SuitsConfig g tops scanned owns c) (p : ℕ) (ready : is_ready (at c.table.rows p) ≡ true)
      (lives : Lives tops (activity_of g c p).activations) (act : Action) (returned_so : (line : ℕ) → act ≡ finishes line → IsReturned g scanned c p) where
    -- what is left of the process, and what awaited there
    abbrev Left : Env → Remainder → Type 0
    Left env k = SuitsRemainder g (standing_in tops (owns p)) (scanned (owns p)) env k

    abbrev Awaits : Env → AwaitsValue → Type 0
    Awaits env u = SuitsAwaiting g (standing_in tops (owns p)) (scanned (owns p)) env u

    on : (x : Context) (k : Remainder) → Left x.env k → SuitsEffect g tops scanned (Ok (goes_on g c p x k))
    on x k left = (owns, on_it_goes g tops scanned owns c p x k suits left)

    -- ## Calls

    enters_module_suits :
        (n scope : ℕ) (caller : Caller) (args : List Argument) → IsEntered g (standing_in tops (owns p)) n scope → SuitsCaller g tops scanned (owns p) caller
        → SuitsEffect g tops scanned (enters_module g c p n (block_at g scope) caller args)
    enters_module_suits n scope caller args within awaited = by (module_at g.state.blocks n).resource within
      where
        m : ℕ
        m = module_number g.state.blocks n

        b : Block
        b = block_at g scope

        cells : ℕ
        cells = cells_above (activity_of g c p).activations b

        by : (z : Bool) → IsOfModule g (standing_in tops (owns p)) z m scope
            → SuitsEffect g tops scanned (if z then enters_resource g c p b m caller args else enters_monitor g c p b m caller args)
        by true is =
            let inside : Config = activated g c p b (of_resource m) caller args (guarded_body g m b b.guard) in
            full_suits g tops scanned p cells (with_resources inside (resource_entered (resources_held inside) p m))
            (activated_suits g tops scanned owns c p b (of_resource m) caller args (guarded_body g m b b.guard) suits awaited lives is.1
            (guarded_suits g tops program scope m _ b.guard refl is.0))
        by false is =
            let inside : Config = activated g c p b (of_monitor m) caller args (body_of b) in
            full_suits g tops scanned p cells (with_monitors inside (entered (monitors_held inside) p m))
            (activated_suits g tops scanned owns c p b (of_monitor m) caller args (body_of b) suits awaited lives is.1
            (body_suits g tops program (standing_at tops (of_monitor m) b.scope) _ b (unguarded_suits g tops program scope (of_monitor m) is.0)))

    called_suits :
        (scope : ℕ) (caller : Caller) (args : List Argument) → IsCalled g (standing_in tops (owns p)) scope → SuitsCaller g tops scanned (owns p) caller
        → SuitsEffect g tops scanned
        (unless_full p (cells_above (activity_of g c p).activations (block_at g scope))
        (activated g c p (block_at g scope) plain caller args (body_of (block_at g scope))))
    called_suits scope caller args is awaited =
        let b = block_at g scope in
        full_suits g tops scanned p (cells_above (activity_of g c p).activations b) (activated g c p b plain caller args (body_of b))
        (activated_suits g tops scanned owns c p b plain caller args (body_of b) suits awaited lives is.1
        (body_suits g tops program (standing_at tops plain b.scope) _ b (unguarded_suits g tops program scope plain is.0)))

    requeues_suit :
        (scope : ℕ) (args : List Argument) (activations : List Activation) → MayRequeue g (standing_in tops (owns p)) scope → IsOrdered tops activations
        → StandsOn (owns p) activations
        → SuitActivations g tops scanned activations → SuitsEffect g tops scanned (requeues g c p (block_at g scope) args activations)
    requeues_suit scope args [] may so stands all = (owns, suits)
    requeues_suit scope args (a ∷ below) may so stands all =
        let b = block_at g scope in
        let values = new_values g b (all_passed g c p args) in
        let new : Activation = record a { number = new_number c; scope = b.scope; cells = cells_above below b } in
        let here : RequeuesFrom g a.mark scope = subst (λ (l : List Activation). RequeuesFrom g (mark_in l) scope) stands may.0 in
        let beside : Beside tops b.scope a.scope = subst (λ (l : List Activation). Beside tops b.scope (scope_in l)) stands may.1 in
        full_suits g tops scanned p (cells_above below b) (requeued_in g c p b args a below) (
          instead owns p (new ∷ below),
          instead_suits g tops scanned owns (record c { store = with_room (without c.store a.number) (new_number c) values }) p (new ∷ below) _ suits
              (record {
                stands = refl;
                doing = requeue_left scope a.mark here (new ∷ below);
                activations = all;
                ordered = replaced_ordered tops a below (new_number c) b.scope (cells_above below b) beside so;
                hand = tt;
              }),
        )

    creates_suits :
        (x : Context) (s : Spot) (args : List Argument) (k : Remainder) → Left x.env k → SuitsEffect g tops scanned (creates g c p x s args k)
    creates_suits x s args k left = by (is_unfinished (at c.table.rows n)) refl
      where
        n : ℕ
        n = number_for g c p s

        b : Block
        b = process_block g n

        values : List Value
        values = all_passed g c p args

        own : List Activation
        own = new_activation c (activity_of g c n) [] b plain of_nobody [] ∷ []

        new : Config
        new = created g c n b values

        stmts : SuitStmts g (standing_at tops plain b.scope) b.env b.next b.stmts
        stmts = unguarded_suits g tops program (process_at g.state.blocks (declaration_of g n)).scope plain (program.processes_unguarded (declaration_of g n))

        new_suits : SuitsConfig g tops scanned (instead owns n own) new
        new_suits =
            instead_suits g tops scanned owns
            (record c { store = with_room c.store (new_number c) (new_values g b values); table = placed c.table n Is_created }) n own _
            suits
            (record {
              stands = refl;
              doing = body_suits g tops program (standing_at tops plain b.scope) (scanned own) b stmts;
              activations = (([], tt, tt), tt);
              ordered = first_ordered tops (new_activation c (activity_of g c n) [] b plain of_nobody []) refl refl;
              hand = tt;
            })

        by : (z : Bool) → is_unfinished (at c.table.rows n) ≡ z
            → SuitsEffect g tops scanned (if z then Err Active else unless_full n (cells_above [] b) (goes_on g new p x k))
        by true e = tt
        by false e =
            let apart = apart_from c.table.rows p n ready e in
            full_suits g tops scanned n (cells_above [] b) (goes_on g new p x k) (
              instead owns n own,
              on_it_goes g tops scanned (instead owns n own) new p x k new_suits
                  (subst (λ (l : List Activation). SuitsRemainder g (standing_in tops l) (scanned l) x.env k) (sym (other_instead owns n own p apart)) left),
            )

    enters_suit :
        (x : Context) (s : Spot) (entry : ℕ) (args : List Argument) (k : Remainder) → Left x.env k → SuitsEffect g tops scanned (enters g c p x s entry args k)
    enters_suit x s entry args k left =
        let q : ℕ = number_for g c p s in
        let values : List Value = all_passed g c p args in
        let waiting : Config = with_table (goes_on g c p x k) (called_in c.table p q entry) in
        let waits_so : SuitsConfig g tops scanned owns waiting = on_it_goes g tops scanned owns c p x k suits left in
        let side : Option Side = side_of g c q (Entry entry) in
        let met : Effect = Ok (called_at g waiting p q values side) in
        let shown : Effect = Ok (showing g waiting p (asking values)) in
        let accepting : Bool = is_accepting c.table.rows q entry in
        effect_either g tops scanned (is_uncalled c.table q) (Err NotActive) (if accepting then met else shown) tt
        (effect_either g tops scanned accepting met shown
        (owns, called_at_suits g tops scanned owns waiting p q values side waits_so (partner_suits g tops scanned owns c q (Entry entry) suits))
        (owns, it_shows g tops scanned owns waiting p (asking values) waits_so tt))

    calls_suit :
        (x : Context) (call : Call) (args : List Argument) → SuitsCalling g (standing_in tops (owns p)) (scanned (owns p)) x.env call
        → SuitsEffect g tops scanned (calls_by g c p x call args)
    calls_suit x (to_procedure scope k) args calling = called_suits scope (of_remainder x.env k) args calling.0 calling.1
    calls_suit x (to_function scope u) args calling = called_suits scope (of_value x u) args calling.0 calling.1
    calls_suit x (to_module n scope k) args calling = enters_module_suits n scope (of_remainder x.env k) args calling.0 calling.1
    calls_suit x (to_requeue scope) args calling =
        requeues_suit scope args (activity_of g c p).activations calling (suits p).ordered (suits p).stands (suits p).activations
    calls_suit x (to_process s k) args calling = creates_suits x s args k calling
    calls_suit x (to_entry s entry k) args calling = enters_suit x s entry args k calling

    -- ## Ends of bodies

    ended_suits : SuitsEffect g tops scanned (Ok (ended_process g c p))
    ended_suits =
        let a : Activity = activity_of g c p in (
          owns,
          with_activity_suits g tops scanned owns (record c {
            store = without_all c.store a.activations;
            table =
                finished c.table p;
          }) p (ended_activity a) suits
              (record { stands = tt; doing = (suits p).doing; activations = tt; ordered = none_ordered tops; hand = tt }),
        )

    module _ (a : Activation) (below : List Activation) (innermost : (activity_of g c p).activations ≡ a ∷ below)
        (others : SuitActivations g tops scanned below) (so : IsOrdered tops below) (own : List Activation) (stands : StandsOn own below)
        (returned : IsReturned g scanned c p) where
      returns_suit :
          (env : Env) (k : Remainder) (mark : Mark) → a.caller ≡ of_remainder env k → a.mark ≡ mark
          → SuitsRemainder g (standing_in tops own) (scanned own) env k → SuitsEffect g tops scanned (Ok (returns_to g c p a below env k mark))
      returns_suit env k plain is marked left = left_suits g tops scanned owns c p a below own (going env k) suits stands others so left
      returns_suit env k (of_monitor m) is marked left = left_suits g tops scanned owns c p a below own (going env k) suits stands others so left
      returns_suit env k (of_resource r) is marked left =
          left_suits g tops scanned owns c p a below own (going env (scan_on (scan_of g r leave) (in_names env k))) suits stands others so
          ((returned a below own env k r innermost is stands marked, tt), λ (i : Env). left)

      ends_suit : (caller : Caller) → a.caller ≡ caller → SuitsCaller g tops scanned own caller →
          SuitsEffect g tops scanned (Ok (ends_for g c p a below caller))
      ends_suit of_nobody is awaited = ended_suits
      ends_suit (of_remainder env k) is awaited = returns_suit env k a.mark is refl awaited
      ends_suit (of_value x u) is awaited = left_suits g tops scanned owns c p a below own (holding x (result_in g c a) u) suits stands others so awaited

    body_ends :
        IsReturned g scanned c p → (activations : List Activation) → (activity_of g c p).activations ≡ activations → SuitActivations g tops scanned activations
        → IsOrdered tops activations
        → SuitsEffect g tops scanned (ends_body g c p activations)
    body_ends returned [] is all so = ended_suits
    body_ends returned (a ∷ below) is all so =
        ends_suit a below is all.1 (below_ordered tops a below so) all.0.0 all.0.1 returned a.caller refl all.0.2

    -- ## Input, draws and time

    module _ (x : Context) where
      read_suits : (s : Spot) (k : Remainder) (read : Result Item RunFault) → Left x.env k → SuitsEffect g tops scanned (read_in g c p x s k read)
      read_suits s k (Ok i) left =
          (owns, on_it_goes g tops scanned owns (record (written_for g c p s (ordinal i.value)) { input = record c.input { bytes = i.left } }) p x k suits left)
      read_suits s k (Err f) left = tt

      skipped_suits : (k : Remainder) (rest : Result (List ℕ) RunFault) → Left x.env k → SuitsEffect g tops scanned (skipped_in g c p x k rest)
      skipped_suits k (Ok rest) left = (owns, on_it_goes g tops scanned owns (record c { input = record c.input { bytes = rest } }) p x k suits left)
      skipped_suits k (Err f) left = tt

      drawn_suits : (u : AwaitsValue) (words : Lcg) (o : Outcome) → Awaits x.env u → SuitsEffect g tops scanned (drawn_in g c p x u words o)
      drawn_suits u words (Ok n) awaited = (owns, it_holds g tops scanned owns (record c { words = words }) p x (ordinal n) u suits awaited)
      drawn_suits u words (Err f) awaited = tt

      clocked_suits : (u : AwaitsValue) (o : Outcome) → Awaits x.env u → SuitsEffect g tops scanned (clocked g c p x u o)
      clocked_suits u (Ok n) awaited = (owns, it_holds g tops scanned owns c p x (ordinal n) u suits awaited)
      clocked_suits u (Err f) awaited = tt

      module _ (k : Remainder) (left : Left x.env k) where
        slept_suits : (n : ℕ) → SuitsEffect g tops scanned (slept g c p x n k)
        slept_suits zero = on x k left
        slept_suits (suc n) =
            let due : ℕ = c.table.moment + 1000 * suc n in
            effect_either g tops scanned (nat_le due latest)
            (Ok (with_table (goes_on g c p x k) (blocked c.table p (Sleep due) []))) (Err Late) (on x k left) tt

        sleeps_suit : (n : ℤ) → SuitsEffect g tops scanned (sleeps_for g c p x n k)
        sleeps_suit (pos n) = slept_suits n
        sleeps_suit (negsuc n) = tt

        joined_suits : SuitsEffect g tops scanned (joined g c p x k)
        joined_suits =
            let waiting = blocked (all_started c.table) p Coend [] in
            effect_either g tops scanned (some_created c.table.rows) (Ok (with_table (goes_on g c p x k) waiting)) (Ok (goes_on g c p x k)) (on x k left)
            (on x k left)

        -- ## Semaphores and resources

        initials_suit : (s : Spot) (n : ℤ) → SuitsEffect g tops scanned (initials_at g c p x s n k)
        initials_suit s (pos n) = on x k left
        initials_suit s (negsuc n) = tt

        signals_suit : (s : Spot) → SuitsEffect g tops scanned (signals_to g c p x s k)
        signals_suit s =
            let n : ℕ = number_for g c p s in
            effect_either g tops scanned (is_overfull (counted c) n) (Err TooLarge) (Ok (with_counted (goes_on g c p x k) (signalled (counted c) n))) tt
            (on x k left)

      module _ (k : Remainder) (left : (env : Env) → Left env k) where
        all_scanned : (s : Scan) (way : Way) → SuitsWay g tops way → SuitsEffect g tops scanned (Ok (scanned_all g c p x s k way))
        all_scanned s leave way = on x k (left x.env)
        all_scanned s (trying b) way = on x (try_guard b k) (way, left)

        scanned_suits :
            (s : Scan) (w : Option Tried) → SuitsScan g tops (scanned (owns p)) s → ((t : Tried) → w ≡ Some t → SuitsBar g tops t.bar)
            → SuitsEffect g tops scanned (Ok (scanned_to g c p x s k w))
        scanned_suits s None scan bar = all_scanned s s.way scan.1
        scanned_suits s (Some w) scan bar = on x (try_other w s k) (bar w refl, scan, left)

        barred_suits : (b : Bar) → SuitsBar g tops b → SuitsEffect g tops scanned (Ok (showing g (goes_on g c p x k) p (barred_at b)))
        barred_suits b bar = (
          owns,
          it_shows g tops scanned owns (goes_on g c p x k) p (barred_at b)
              (on_it_goes g tops scanned owns c p x k suits (left x.env)) bar,
        )

        passed_suits : (w : Tried) (r : ℕ) (way : Way) → SuitsWay g tops way → SuitsEffect g tops scanned (Ok (passed_by g c p x w k r way))
        passed_suits w r leave way = on x k (left x.env)
        passed_suits w r (trying b) way = barred_suits b way

    tried_suits : (q : ℕ) (hand : Hand) (ticket : Option ℕ) → SuitsHand g tops scanned (owns q) hand → (t : Tried) →
        tried q hand ticket ≡ Some t → SuitsBar g tops t.bar
    tried_suits q (barred_at b) (Some ticket) shown t e = subst (λ (o : Option Tried). bar_in o) e shown
      where
        bar_in : Option Tried → Type 0
        bar_in None = Unit {0}
        bar_in (Some w) = SuitsBar g tops w.bar
    tried_suits q (barred_at b) None shown t e = cc
    tried_suits q empty_hand ticket shown t e = cc
    tried_suits q (offering x os k) ticket shown t e = cc
    tried_suits q (asking values) ticket shown t e = cc

    tried_at_suits : (q : Option ℕ) → (t : Tried) → tried_at g c q ≡ Some t → SuitsBar g tops t.bar
    tried_at_suits None t e = cc
    tried_at_suits (Some q) t e = tried_suits q (activity_of g c q).hand (ticket_of (at c.table.rows q)) (suits q).hand t e

    -- ## Every action

    pub effect_suits : (choice : ℕ) (m : Action) → act ≡ m → SuitsAction g (standing_in tops (owns p)) (scanned (owns p)) m
        → SuitsEffect g tops scanned (effect g c p choice m)
    effect_suits choice (reads x s u) e suited = (owns, it_holds g tops scanned owns c p x (value_for g c p s) u suits suited)
    effect_suits choice (writes x s v k) e suited = (owns, on_it_goes g tops scanned owns (written_for g c p s v) p x k suits suited)
    effect_suits choice (turns x k) e suited = on x k suited
    effect_suits choice (calls x call args) e suited = calls_suit x call args suited
    effect_suits choice (finishes line) e suited = body_ends (returned_so line e) (activity_of g c p).activations refl (suits p).activations (suits p).ordered
    effect_suits choice (prints x bytes k) e suited = (owns, on_it_goes g tops scanned owns (record c { output = c.output ++ bytes }) p x k suits suited)
    effect_suits choice (inputs x t s k) e suited = read_suits x s k (item (simple_of t) c.input.bytes) suited
    effect_suits choice (skips x k) e suited = skipped_suits x k (skipped c.input.whole_lines c.input.bytes) suited
    effect_suits choice (asks_eof x u) e suited = (owns, it_holds g tops scanned owns c p x (ordinal (truth (at_end c.input.bytes))) u suits suited)
    effect_suits choice (asks_eoln x u) e suited = (owns, it_holds g tops scanned owns c p x (ordinal (truth (at_line_end c.input.bytes))) u suits suited)
    effect_suits choice (asks_clock x u) e suited = clocked_suits x u (fitting (pos (c.table.moment / 1000))) suited
    effect_suits choice (asks_empty x s u) e suited =
        (owns, it_holds g tops scanned owns c p x (ordinal (truth (is_empty_condition c.table.rows (number_for g c p s)))) u suits suited)
    effect_suits choice (draws x m u) e suited = drawn_suits x u (after_draw c.words m) (drawn c.words m) suited
    effect_suits choice (joins x k) e suited = joined_suits x k suited
    effect_suits choice (initials x s m k) e suited = initials_suit x k suited s m
    effect_suits choice (waits x s k) e suited = on x k suited
    effect_suits choice (signals x s k) e suited = signals_suit x k suited s
    effect_suits choice (delays x s rank k) e suited = on x k suited
    effect_suits choice (resumes x s k) e suited = on x k suited
    effect_suits choice (sleeps x m k) e suited = sleeps_suit x k suited m
    effect_suits choice (meets x o k) e suited = meets_suit g tops scanned owns c suits p x o k suited.0 suited.1
    effect_suits choice (decides x s k) e suited = decides_suit g tops scanned owns c suits p x s suited.0 k suited.1 choice (matched_places g c p s)
    effect_suits choice (parts x caller k) e suited = on x k suited
    effect_suits choice (scans x s k) e suited =
        let q = next_barred c.table.rows s.resource s.after in scanned_suits x k suited.2 s (tried_at g c q) suited.1 (tried_at_suits q)
    effect_suits choice (bars x b k) e suited = barred_suits x k suited.2 b suited.1
    effect_suits choice (passes x w s k) e suited = passed_suits x k suited.2 w s.resource s.way suited.1.1
    effect_suits choice (faults x f) e suited = tt
