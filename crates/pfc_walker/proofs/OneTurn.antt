-- The run from a configuration on, by its first turn.
use Rattle.std.proofs.Common.{◌≡◌, ◌≢◌, ◌-◌, arith, ℕ, zero, suc, ◌+◌, ◌<◌, ◌*◌, ◌^◌, Bool, true, false, List, [], ◌∷◌, ◌++◌, length, if◌then◌else◌, Option}
use Rattle.std.proofs.Common.{Some, None, refl, sym, ap, ◌∙◌, subst, append-nil}
use Rattle.std.proofs.KnownBytes.{Appends-nil}
use Rattle.pfc_io.specs.Writes.{AppendsFront}
use Rattle.pfc_io.proofs.Written.{AppendsFront-none}
use Rattle.pfc_base.specs.declared.faults.RunFault.{RunFault}
use Rattle.pfc_state.specs.declared.endings.Ending.{Ending}
use Rattle.pfc_state.specs.declared.endings.Ending.TheVariants.{Finished, Fault, Deadlock, Limit, Memory as NoMemory}
use Rattle.pfc_sched.specs.Picks.{Picking, picked, after_pick}
use Rattle.pfc_sched.specs.declared.picking.Pick.{Pick}
use Rattle.pfc_sched.specs.declared.picking.Pick.TheVariants.{Process}
use Rattle.pfc_world.specs.Tables.{Table, at, some_ready}
use Rattle.pfc_world.specs.Settling.{settled, may_all_end, IsLeftBy}
use Rattle.pfc_world.specs.declared.answers.Settled.{Settled}
use Rattle.pfc_world.specs.declared.answers.Settled.TheVariants.{SomeReady, NobodyReady}
use Rattle.pfc_world.specs.Tickets.{IsNew}
use Rattle.pfc_state.specs.Stands.{Stand, Is_idle, Is_created, Is_ready, Waits, Is_done, is_ready}
use Rattle.pfc_sched.proofs.PickLaws.{picks_ready}
use Rattle.pfc_semantics.specs.Programs.{Program}
use Rattle.pfc_semantics.specs.Configurations.{Config, FaultAt}
use Rattle.pfc_semantics.specs.Time.{terminated_over, settled_config}
use Rattle.pfc_semantics.specs.Selects.{choices}
use Rattle.pfc_semantics.specs.Steps.{next_of}
use Rattle.pfc_semantics.specs.Events.{Event, Step, step}
use Rattle.pfc_semantics.specs.Runs.{Run, is_done, ending_at, ended_with, unless_ended, by_pick, behind_event, choice_among, behind_choice, run_from}
use Rattle.pfc_races.specs.RunSteps.{of_process, steps_behind, steps_from, unless_over}
use Rattle.pfc_activities.specs.declared.changes.Done.TheVariants.{Stepped, Faulted}
use Rattle.pfc_activities.specs.declared.source.Source.{Source}
use Rattle.pfc_activities.specs.declared.state.State.{State}
use Rattle.pfc_activities.specs.Relation.{Stands, Reports, MayAct}
use Rattle.pfc_activities.proofs.Acting.{reports_of}
use Rattle.pfc_walker.specs.Courses.{GoesOn, on_the_way, Completes, IsBrokenOff, Continues, IsOver, IsPick}
use Rattle.pfc_walker.specs.Telling.{AreTold, IsTold, step_by, behind_step}
use Rattle.pfc_walker.specs.declared.telling.Told.{Told}
use Rattle.pfc_walker.proofs.Joining.{goes_here, told_as, told_end, told_still, told_twice}

-- ## Settling prints nothing, and is no fault

either_output : (b : Bool) (x c : Config) → x.output ≡ c.output → (let d : Config = if b then x else c in d.output) ≡ c.output
either_output true x c e = e
either_output false x c e = refl

either_fault : (b : Bool) (x c : Config) → x.fault ≡ c.fault → (let d : Config = if b then x else c in d.fault) ≡ c.fault
either_fault true x c e = e
either_fault false x c e = refl

pub settled_output : (c : Config) → (settled_config c).output ≡ c.output
settled_output c = either_output (may_all_end (settled c.table).rows) (terminated_over (settled c.table) c) c refl

pub settled_fault : (c : Config) → (settled_config c).fault ≡ c.fault
settled_fault c = either_fault (may_all_end (settled c.table).rows) (terminated_over (settled c.table) c) c refl

-- ## Endings

pub ends_in_fault : (d : Config) (f : FaultAt) → d.fault ≡ Some f → ending_at d ≡ Some (Fault f.process f.line f.fault)
ends_in_fault d f e = ap (λ (x : Option FaultAt). ending_at (record d { fault = x })) e

ends_sound : (d : Config) → d.fault ≡ None → ending_at d ≡ (if is_done (at d.table.rows 0) then
    Some Finished else if some_ready d.table.rows then None else Some Deadlock)
ends_sound d e = ap (λ (x : Option FaultAt). ending_at (record d { fault = x })) e

pub ends_finished : (d : Config) → d.fault ≡ None → is_done (at d.table.rows 0) ≡ true → ending_at d ≡ Some Finished
ends_finished d sound e =
    ends_sound d sound
    ∙ ap (λ (b : Bool). (let x : Option Ending = if b then Some Finished else if some_ready d.table.rows then None else Some Deadlock in x)) e

either_dead : (o r : Bool) → o ≡ false → r ≡ false → (let x : Option Ending = if o then Some Finished else if r then
    None else Some Deadlock in x) ≡ Some Deadlock
either_dead true r e f = absurd cc
either_dead false true e f = absurd cc
either_dead false false e f = refl

either_none : (o r : Bool) → o ≡ false → r ≡ true → (let x : Option Ending = if o then Some Finished else if r then None else Some Deadlock in x) ≡ None
either_none true r e f = absurd cc
either_none false true e f = refl
either_none false false e f = absurd cc

pub ends_dead : (d : Config) → d.fault ≡ None → is_done (at d.table.rows 0) ≡ false → some_ready d.table.rows ≡ false → ending_at d ≡ Some Deadlock
ends_dead d sound o r = ends_sound d sound ∙ either_dead (is_done (at d.table.rows 0)) (some_ready d.table.rows) o r

pub goes_further : (d : Config) → d.fault ≡ None → is_done (at d.table.rows 0) ≡ false → some_ready d.table.rows ≡ true → ending_at d ≡ None
goes_further d sound o r = ends_sound d sound ∙ either_none (is_done (at d.table.rows 0)) (some_ready d.table.rows) o r

-- ## The first turn

module _ (g : Program) (limit : ℕ) (picking : Picking) (c : Config) where
  pub ended : (ending : Ending) → ending_at (settled_config c) ≡ Some ending → (left : ℕ) →
      run_from g limit left picking c ≡ ended_with (settled_config c) ending
  ended ending e zero = ap (unless_ended (settled_config c) (ended_with (settled_config c) (Limit limit))) e
  ended ending e (suc left) = ap (unless_ended (settled_config c) _) e

  pub limited : ending_at (settled_config c) ≡ None → run_from g limit 0 picking c ≡ ended_with (settled_config c) (Limit limit)
  limited e = ap (unless_ended (settled_config c) (ended_with (settled_config c) (Limit limit))) e

  -- the run behind the pick of a process
  abbrev pub behind_pick : ℕ → ℕ → Run
  behind_pick left p =
      let d = settled_config c in
      let behind = after_pick picking d.table.rows in
      let m = choices g d p (next_of g d p) in
      let t = step g d p (choice_among behind m) in
      behind_event t.event (run_from g limit left (behind_choice behind m) t.config)

  pub by_a_pick :
      (left : ℕ) (pick : Pick) → ending_at (settled_config c) ≡ None → pick ≡ picked picking (settled_config c).table.rows
      → run_from g limit (suc left) picking c ≡ by_pick (settled_config c) (after_pick picking (settled_config c).table.rows) (behind_pick left) pick
  by_a_pick left pick e is =
      ap (unless_ended (settled_config c) _) e
      ∙ ap (by_pick (settled_config c) (after_pick picking (settled_config c).table.rows) (behind_pick left)) (sym is)

  -- a run that ends before its first action
  pub completes :
      (told : Told) (s : State) (left : ℕ) (ending : Ending) (out : List ℕ)
      → run_from g limit left picking c ≡ ended_with (settled_config c) ending → Reports s (settled_config c)
      → Completes told (run_from g limit left picking c) c s ending (Some out) (Some out)
  completes told s left ending out e reports =
      record {
        ends = sym (ap (λ (f : Run). f.ending) e);
        reports = subst (λ (f : Run). Reports s f.config) (sym e) reports;
        bytes = [];
        tells = subst (λ (f : Run). AreTold told c f.config f.events []) (sym e) (told_still told c (settled_config c) (settled_output c));
        written = Appends-nil (Some out);
      }

  -- a run that is broken off before its first action
  pub not_begun :
      (told : Told) (left : ℕ) (out now : List ℕ) → now ≡ out
      → IsBrokenOff told g limit (run_from g limit left picking c) c (Some out) (Some now)
  not_begun told left out now e =
      record {
        config = c;
        events = [];
        passed = on_the_way left picking c [] (goes_here (run_from g limit left picking c));
        bytes = [];
        tells = told_still told c c refl;
        front = subst (λ (x : List ℕ). AppendsFront (Some out) (Some x) []) (sym e) (AppendsFront-none (Some out) []);
      }

run_of : (g : Program) (limit left : ℕ) (picking : Picking) (c : Config) (pick : Pick)
    → ending_at (settled_config c) ≡ None → left ≢ 0 → pick ≡ picked picking (settled_config c).table.rows
    → run_from g limit left picking c
    ≡ by_pick (settled_config c) (after_pick picking (settled_config c).table.rows) (behind_pick g limit picking c (left - 1)) pick
run_of g limit left picking c pick e some is =
    let one : left ≡ suc (left - 1) = omega (arith, some) in
    ap (λ (n : ℕ). run_from g limit n picking c) one ∙ by_a_pick g limit picking c (left - 1) pick e is

-- ## The first step

pub ended_steps : (g : Program) (picking : Picking) (c : Config) (ending : Ending) → ending_at (settled_config c) ≡ Some ending →
    (left : ℕ) → steps_from g left picking c ≡ []
ended_steps g picking c ending e zero = refl
ended_steps g picking c ending e (suc left) = ap (unless_over _) e

-- of a process that is picked, or none
steps_of : (g : Program) (left : ℕ) (picking : Picking) (c : Config) (pick : Pick)
    → ending_at (settled_config c) ≡ None → left ≢ 0 → pick ≡ picked picking (settled_config c).table.rows
    → steps_from g left picking c
    ≡ of_process (λ p. steps_behind g (after_pick picking (settled_config c).table.rows) (settled_config c) p (steps_from g (left - 1))) pick
steps_of g left picking c pick e some is =
    let one : left ≡ suc (left - 1) = omega (arith, some) in
    ap (λ (n : ℕ). steps_from g n picking c) one ∙ ap (unless_over _) e ∙ ap (of_process _) (sym is)

-- ## A turn, by what settling left

module _ (source : Source) (g : Program) (limit left : ℕ) (picking : Picking) (c : Config) (s : State) (stands : Stands source s (settled_config c)) where
  abbrev d : Config
  d = settled_config c

  table : s.world ≡ d.table
  table = stands.mirrors.agrees.table

  reports : Reports s d
  reports = reports_of source s d stands

  sound : d.fault ≡ None
  sound = stands.quiet.sound

  pub turn_over : is_done (at s.world.rows 0) ≡ true → IsOver g limit left picking c s Finished
  turn_over over =
      let e : ending_at d ≡ Some Finished = ends_finished d sound (ap (λ (w : Table). is_done (at w.rows 0)) (sym table) ∙ over) in
      record {
        course = λ told out. completes g limit picking c told s left Finished out (ended g limit picking c Finished e left) reports;
        none = λ other. ended_steps g picking c Finished e left;
      }

  -- no action is counted any more
  pub turn_worn_out : IsOver g limit left picking c s NoMemory
  turn_worn_out = record { course = λ told out. not_begun g limit picking c told left out out refl; none = λ other. absurd (other refl) }

  module _ (goes : is_done (at s.world.rows 0) ≡ false) where
    on : is_done (at d.table.rows 0) ≡ false
    on = ap (λ (w : Table). is_done (at w.rows 0)) (sym table) ∙ goes

    pub turn_dead : some_ready s.world.rows ≡ false → IsOver g limit left picking c s Deadlock
    turn_dead nobody =
        let e : ending_at d ≡ Some Deadlock = ends_dead d sound on (ap (λ (w : Table). some_ready w.rows) (sym table) ∙ nobody) in
        record {
          course = λ told out. completes g limit picking c told s left Deadlock out (ended g limit picking c Deadlock e left) reports;
          none = λ other. ended_steps g picking c Deadlock e left;
        }

    module _ (ready : some_ready s.world.rows ≡ true) where
      further : ending_at d ≡ None
      further = goes_further d sound on (ap (λ (w : Table). some_ready w.rows) (sym table) ∙ ready)

      pub turn_limit : left ≡ 0 → IsOver g limit left picking c s (Limit limit)
      turn_limit none =
          record {
            course = λ told out.
                completes g limit picking c told s left (Limit limit) out
                (ap (λ (n : ℕ). run_from g limit n picking c) none ∙ limited g limit picking c further) reports;
            none = λ other. ap (λ (n : ℕ). steps_from g n picking c) none;
          }

      module _ (some : left ≢ 0) (pick : Pick) (is : pick ≡ picked picking s.world.rows) where
        there : pick ≡ picked picking d.table.rows
        there = is ∙ ap (λ (w : Table). picked picking w.rows) table

        -- no process was picked
        pub turn_ends :
            (ending : Ending) → by_pick d (after_pick picking s.world.rows) (behind_pick g limit picking c (left - 1)) pick ≡ ended_with d ending
            → (told : Told) (out : List ℕ) → Completes told (run_from g limit left picking c) c s ending (Some out) (Some out)
        turn_ends ending e told out =
            completes g limit picking c told s left ending out
            (run_of g limit left picking c pick further some there
            ∙ ap (λ (w : Table). by_pick d (after_pick picking w.rows) (behind_pick g limit picking c (left - 1)) pick) (sym table) ∙ e)
            reports

        pub no_step : ((steps : ℕ → List Step) → of_process steps pick ≡ []) → steps_from g left picking c ≡ []
        no_step none = steps_of g left picking c pick further some there ∙ none _

        -- one was
        pub turn_goes : (p : ℕ) → pick ≡ Process p → IsPick g limit (left - 1) picking (after_pick picking s.world.rows) c d p
        turn_goes p process =
            let behind : Picking = after_pick picking d.table.rows in
            let one : left ≡ (left - 1) + 1 = omega (arith, some) in
            let f : run_from g limit ((left - 1) + 1) picking c ≡ behind_pick g limit picking c (left - 1) p
            = ap (λ (n : ℕ). run_from g limit n picking c) (sym one) ∙ run_of g limit left picking c (Process p) further some (sym process ∙ there) in
            let pick_there : IsPick g limit (left - 1) picking behind c d p = record {
              output = settled_output c;
              goes = record {
                ending = sym (ap (λ (x : Run). x.ending) f);
                config = sym (ap (λ (x : Run). x.config) f);
                events = ap (λ (x : Run). x.events) f;
              };
              steps =
                  ap (λ (n : ℕ). steps_from g n picking c) (sym one) ∙ steps_of g left picking c (Process p) further some (sym process ∙ there);
            } in
            subst (λ (w : Table). IsPick g limit (left - 1) picking (after_pick picking w.rows) c d p) (sym table) pick_there

-- ## Behind an action

module _
    (told : Told) (source : Source) (g : Program) (limit left : ℕ) (picking behind : Picking) (c d : Config) (p : ℕ)
    (pick : IsPick g limit left picking behind c d p)
  where
    abbrev acted : List Event
    acted = (step_by g d p behind).event ∷ []

    module _ (new : State) (picking' : Picking) (out now : List ℕ) where
      pub continues :
          IsTold told source g new d p behind picking' out now Stepped
          → Continues told source g limit (left + 1) picking picking' c new (Some out) (Some now)
      continues action =
          let t : Config = (step_by g d p behind).config in
          record {
            config = t;
            rest = left;
            one = refl;
            stands = action.ends.stands refl;
            events = acted;
            same = subst (λ (x : Picking). GoesOn acted (run_from g limit left x t) (run_from g limit (left + 1) picking c)) (sym action.picked) pick.goes;
            bytes = action.bytes;
            tells = told_twice told c d t [] acted [] action.bytes (told_still told c d pick.output) action.tells;
            written = action.written;
          }

      module _ (line : ℕ) (fault : RunFault) (action : IsTold told source g new d p behind picking' out now (Faulted line fault)) where
        -- the run ends in the fault
        over :
            run_from g limit left (behind_step g d p behind) (step_by g d p behind).config
            ≡ ended_with (settled_config (step_by g d p behind).config) (Fault p line fault)
        over =
            let t : Config = (step_by g d p behind).config in
            ended g limit (behind_step g d p behind) t (Fault p line fault)
            (ends_in_fault (settled_config t) (record { process = p; line = line; fault = fault }) (settled_fault t ∙ action.ends.tells)) left

        -- what is told of the fault is all that is told
        told_fault :
            AreTold told c (run_from g limit (left + 1) picking c).config (run_from g limit (left + 1) picking c).events (action.bytes ++ [])
        told_fault =
            let t : Config = (step_by g d p behind).config in
            let rest : Run = run_from g limit left (behind_step g d p behind) t in
            told_end told c t acted rest (run_from g limit (left + 1) picking c) action.bytes [] pick.goes
            (told_twice told c d t [] acted [] action.bytes (told_still told c d pick.output) action.tells)
            (subst (λ (f : Run). AreTold told t f.config f.events []) (sym over) (told_still told t (settled_config t) (settled_output t)))

        pub faulted :
            (end : State) → Reports end (settled_config (step_by g d p behind).config)
            → Completes told (run_from g limit (left + 1) picking c) c end (Fault p line fault) (Some out) (Some now)
        faulted end reports =
            let t : Config = (step_by g d p behind).config in
            let same = pick.goes in
            let config : settled_config t ≡ (run_from g limit (left + 1) picking c).config = sym (ap (λ (f : Run). f.config) over) ∙ same.config in
            record {
              ends = sym (ap (λ (f : Run). f.ending) over) ∙ same.ending;
              reports = subst (λ (x : Config). Reports end x) config reports;
              bytes = action.bytes;
              tells =
                  told_as told c (run_from g limit (left + 1) picking c).config (run_from g limit (left + 1) picking c).events (action.bytes ++ []) action.bytes
                  (append-nil action.bytes) told_fault;
              written = action.written;
            }

-- ## Before an action

ready_is : (stand : Stand) → is_ready stand ≡ true → stand ≡ Is_ready
ready_is Is_ready e = refl
ready_is Is_idle e = absurd cc
ready_is Is_created e = absurd cc
ready_is (Waits why ticket arms) e = absurd cc
ready_is Is_done e = absurd cc

-- the process that was picked may act
pub may_act_so :
    (source : Source) (s : State) (c : Config) (picking : Picking) (p : ℕ)
    → Stands source s c → Process p ≡ picked picking s.world.rows → s.world.done < 10 ^ 18 → s.world.moment < 2 * 10 ^ 18 → MayAct s p
may_act_so source s c picking p stands is done moment =
    let agrees = stands.mirrors.agrees in
    let (within, ready) = picks_ready picking s.world.rows p (sym is) in
    record {
      within = subst (λ (n : ℕ). p < n) (sym (agrees.count ∙ ap (λ (w : Table). length w.rows) (sym agrees.table))) within;
      ready = ready_is (at s.world.rows p) ready;
      alone = ap (λ (w : Table). w.acting) agrees.table ∙ stands.quiet.acting;
      fresh = subst (λ (w : Table). IsNew w.rows w.done) (sym agrees.table) stands.quiet.fresh;
      done = done;
      moment = moment;
    }

-- somebody is ready where settling left not nobody
pub left_ready : (r : Settled) (rows : List Stand) → IsLeftBy r rows → r ≢ NobodyReady → some_ready rows ≡ true
left_ready SomeReady rows left not = left
left_ready NobodyReady rows left not = absurd (not refl)
