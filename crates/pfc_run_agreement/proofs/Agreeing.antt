-- Runs turn by turn.
use Rattle.std.proofs.Common.{◌≡◌, ℕ, zero, suc, Bool, true, false, List, [], ◌++◌, if◌then◌else◌, Option, Some, None, refl, sym, ap, ◌∙◌, subst, append_assoc}
use Rattle.std.proofs.Common.{append-nil}
use Rattle.pfc_code.specs.Images.{PlainImage}
use Rattle.pfc_machines.specs.declared.machine.Machine.{Machine}
use Rattle.pfc_machine_acts.specs.Settling.{machine_settled}
use Rattle.pfc_sched.specs.Picks.{Picking, picked, after_pick, item_of}
use Rattle.pfc_sched.specs.declared.picking.Pick.{Pick}
use Rattle.pfc_sched.specs.declared.picking.Pick.TheVariants.{Process, Nobody, NotReady, NoProcess, ScriptEnd}
use Rattle.pfc_state.specs.Stands.{Stand, Is_idle, Is_created, Is_ready, Waits, Is_done}
use Rattle.pfc_state.specs.declared.endings.Ending.{Ending}
use Rattle.pfc_state.specs.declared.endings.Ending.TheVariants.{Finished, Fault, Deadlock, Limit, Script, Memory}
use Rattle.pfc_state.specs.declared.endings.ScriptWhy.{ScriptWhy}
use Rattle.pfc_state.specs.declared.endings.ScriptWhy.TheVariants.{NotReady as Not_ready, NoProcess as No_process, Ended}
use Rattle.pfc_world.specs.Settling.{settled, may_all_end}
use Rattle.pfc_world.specs.Tables.{at, some_ready}
use Rattle.pfc_semantics.specs.Configurations.{Config}
use Rattle.pfc_semantics.specs.Configurations as source
use Rattle.pfc_semantics.specs.Events.{step as source_step}
use Rattle.pfc_semantics.specs.Programs.{Program}
use Rattle.pfc_semantics.specs.Runs.{behind_choice, choice_among}
use Rattle.pfc_semantics.specs.Runs as sr
use Rattle.pfc_semantics.specs.Time.{terminated_over, settled_config}
use Rattle.pfc_run_laws.proofs.Runs.{run_grows}
use Rattle.pfc_sessions.specs.Runs.{Run, is_done, ending_at, is_worn_out, ended_with, behind_bytes, by_pick, unless_ended, unless_worn_out, unless_fault}
use Rattle.pfc_sessions.specs.Runs.{behind_step, run_from, IsPicked, step_of, MayRun}
use Rattle.pfc_sessions.specs.Steps.{FaultAt, Step}
use Rattle.pfc_run_agreement.specs.Agreement.{LookAlike, fault_of, picking_behind, choices_of, behind_action, AreStepsAlike, AgreesHere, Agree, AreRunsAlike}

-- ## Who may act

pub may_run : (image : PlainImage) (g : Program) (left : ℕ) (picking : Picking) (m : Machine) (c : Config)
    → Agree image g left picking m c → MayRun image left picking m
may_run image g zero picking m c agree = agree.alone
may_run image g (suc left) picking m c agree = record {
  alone = agree.here.alone;
  may = agree.may;
  onward = λ p pick sound.
      may_run image g left (step_of image picking m p).picking (step_of image picking m p).machine (behind_action g picking c p) (agree.onward p pick sound);
}

-- ## Settling prints nothing, and is no fault

either_output : (b : Bool) (x c : Config) → x.output ≡ c.output → (let d : Config = if b then x else c in d.output) ≡ c.output
either_output true x c e = e
either_output false x c e = refl

either_fault : (b : Bool) (x c : Config) → x.fault ≡ c.fault → (let d : Config = if b then x else c in d.fault) ≡ c.fault
either_fault true x c e = e
either_fault false x c e = refl

pub settled_output : (c : Config) → (settled_config c).output ≡ c.output
settled_output c = either_output (may_all_end (settled c.table).rows) (terminated_over (settled c.table) c) c refl

pub settled_fault : (c : Config) → (settled_config c).fault ≡ c.fault
settled_fault c = either_fault (may_all_end (settled c.table).rows) (terminated_over (settled c.table) c) c refl

-- ## Endings

same_done : (stand : Stand) → sr.is_done stand ≡ is_done stand
same_done Is_idle = refl
same_done Is_created = refl
same_done Is_ready = refl
same_done (Waits why ticket arms) = refl
same_done Is_done = refl

abbrev by_tests : Bool → Bool → Option Ending
by_tests over ready = if over then Some Finished else if ready then None else Some Deadlock

pub same_ending : (m : Machine) (d : Config) → d.fault ≡ None → m.world.rows ≡ d.table.rows → sr.ending_at d ≡ ending_at m
same_ending m d sound rows =
    let by_rows : sr.ending_at d ≡ by_tests (sr.is_done (at d.table.rows 0)) (some_ready d.table.rows)
    = ap (λ (x : Option source.FaultAt). sr.ending_at (record d { fault = x })) sound in
    by_rows ∙ ap (λ (b : Bool). by_tests b (some_ready d.table.rows)) (same_done (at d.table.rows 0))
    ∙ ap (λ (rows : List Stand). by_tests (is_done (at rows 0)) (some_ready rows)) (sym rows)

ends_in_fault : (d : Config) (f : source.FaultAt) → d.fault ≡ Some f → sr.ending_at d ≡ Some (Fault f.process f.line f.fault)
ends_in_fault d f e = ap (λ (x : Option source.FaultAt). sr.ending_at (record d { fault = x })) e

source_ended : (g : Program) (limit : ℕ) (picking : Picking) (c : Config) (ending : Ending) → sr.ending_at (settled_config c) ≡ Some ending → (left : ℕ)
    → sr.run_from g limit left picking c ≡ sr.ended_with (settled_config c) ending
source_ended g limit picking c ending e zero = ap (sr.unless_ended (settled_config c) (sr.ended_with (settled_config c) (Limit limit))) e
source_ended g limit picking c ending e (suc left) = ap (sr.unless_ended (settled_config c) _) e

-- ## Runs that end before an action

-- both end so
ended_alike : (m : Machine) (c : Config) (ending : Ending) → LookAlike m (settled_config c)
    → AreRunsAlike (ended_with m ending) (sr.ended_with (settled_config c) ending) c
ended_alike m c ending look =
    let output : (settled_config c).output ≡ c.output ++ [] = settled_output c ∙ sym (append-nil c.output) in
    record {
      ending = λ other. refl;
      look = λ other. look;
      printed = λ other. output;
      front = ([], output ∙ sym (append-nil (c.output ++ [])));
    }

transported : (f f' : Run) (h h' : sr.Run) (c : Config) → f ≡ f' → h ≡ h' → AreRunsAlike f' h' c → AreRunsAlike f h c
transported f f' h h' c same_f same_h alike =
    subst (λ (x : Run). AreRunsAlike x h c) (sym same_f) (subst (λ (x : sr.Run). AreRunsAlike f' x c) (sym same_h) alike)

-- the machine counts no more, whatever the source text does
uncounted_alike : (m : Machine) (h : sr.Run) (c : Config) → (bytes : List ℕ) × (h.config.output ≡ c.output ++ bytes) → AreRunsAlike (ended_with m Memory) h c
uncounted_alike m h c (bytes, grows) = record {
  ending = λ other. absurd (other refl);
  look = λ other. absurd (other refl);
  printed = λ other. absurd (other refl);
  front = (bytes, grows ∙ ap (λ (x : List ℕ). x ++ bytes) (sym (append-nil c.output)));
}

-- ## Behind an action

behind_alike : (bytes : List ℕ) (event : _) (f : Run) (h : sr.Run) (c d : Config) → d.output ≡ c.output ++ bytes → AreRunsAlike f h d
    → AreRunsAlike (behind_bytes bytes f) (sr.behind_event event h) c
behind_alike bytes event f h c d output alike = record {
  ending = alike.ending;
  look = alike.look;
  printed = λ other. alike.printed other ∙ ap (λ (x : List ℕ). x ++ f.printed) output ∙ append_assoc c.output bytes f.printed;
  front =
      let (more, e) = alike.front in
      (more, e ∙ ap (λ (x : List ℕ). (x ++ f.printed) ++ more) output ∙ ap (λ (x : List ℕ). x ++ more) (append_assoc c.output bytes f.printed));
}

-- the fault of the source text is that of the machine
abbrev source_fault : FaultAt → source.FaultAt
source_fault f = record { process = f.process; line = f.line; fault = f.fault }

fault_so : (o : Option source.FaultAt) (f : FaultAt) → fault_of o ≡ Some f → o ≡ Some (source_fault f)
fault_so None f is = absurd (let no : None ≡ Some f = is in cc)
fault_so (Some h) f is =
    let told : FaultAt = record { process = h.process; line = h.line; fault = h.fault } in
    let same : told ≡ f = cc in ap (λ (x : FaultAt). Some (source_fault x)) same

-- ## Turns

module _ (image : PlainImage) (g : Program) (limit left : ℕ) (picking : Picking) (m : Machine) (c : Config) (agree : Agree image g (suc left) picking m c) where
  abbrev s : Machine
  s = machine_settled m

  abbrev d : Config
  d = settled_config c

  abbrev look : LookAlike s d
  look = agree.here.settled

  sound : d.fault ≡ None
  sound = settled_fault c ∙ agree.here.sound

  abbrev go_on : ℕ → Run
  go_on p = let t = step_of image picking m p in behind_step t (run_from image limit left t.picking t.machine)

  abbrev source_on : ℕ → sr.Run
  source_on p =
      let n = choices_of g c p in
      let u = source_step g d p (choice_among (picking_behind picking c) n) in
      sr.behind_event u.event (sr.run_from g limit left (behind_choice (picking_behind picking c) n) u.config)

  abbrev goes_by : Pick → Run
  goes_by pick = by_pick s (after_pick picking s.world.rows) go_on pick

  abbrev source_by : Pick → sr.Run
  source_by pick = sr.by_pick d (picking_behind picking c) source_on pick

  same_behind : after_pick picking s.world.rows ≡ picking_behind picking c
  same_behind = ap (after_pick picking) look.rows

  abbrev Later : Type 0
  Later = (picking' : Picking) (new : Machine) (e : Config) → Agree image g left picking' new e
      → AreRunsAlike (run_from image limit left picking' new) (sr.run_from g limit left picking' e) e

  -- of a process that is picked
  module _ (later : Later) (p : ℕ) (pick : IsPicked picking s p) where
    abbrev t : Step
    t = step_of image picking m p

    abbrev e : Config
    e = behind_action g picking c p

    abbrev rest : Run
    rest = run_from image limit left t.picking t.machine

    abbrev source_rest : sr.Run
    source_rest = sr.run_from g limit left (behind_choice (picking_behind picking c) (choices_of g c p)) e

    alike : AreStepsAlike g picking c p t
    alike = agree.alike p pick

    rest_alike : (o : Option FaultAt) → t.fault ≡ o → AreRunsAlike (unless_fault t.machine rest o) source_rest e
    rest_alike None is =
        subst (λ (x : Picking). AreRunsAlike rest (sr.run_from g limit left x e) e) (alike.picks is) (later t.picking t.machine e (agree.onward p pick is))
    rest_alike (Some f) is =
        let is_so : e.fault ≡ Some (source_fault f) = fault_so e.fault f (sym alike.fault ∙ is) in
        let ends : source_rest ≡ sr.ended_with (settled_config e) (Fault f.process f.line f.fault)
        = source_ended g limit (behind_choice (picking_behind picking c) (choices_of g c p)) e (Fault f.process f.line f.fault)
        (ends_in_fault (settled_config e) (source_fault f) (settled_fault e ∙ is_so)) left in
        subst (λ (x : sr.Run). AreRunsAlike (ended_with (machine_settled t.machine) (Fault f.process f.line f.fault)) x e) (sym ends)
        (ended_alike (machine_settled t.machine) e (Fault f.process f.line f.fault) (alike.faulted f is))

    picked_alike : AreRunsAlike (go_on p) (source_on p) c
    picked_alike =
        behind_alike t.printed (source_step g d p (choice_among (picking_behind picking c) (choices_of g c p))).event (unless_fault t.machine rest t.fault)
        source_rest c e alike.printed (rest_alike t.fault refl)

  abbrev stopped : Picking → ScriptWhy → Ending
  stopped x why = Script (item_of x) why

  scripted : (why : ScriptWhy)
      → AreRunsAlike (ended_with s (stopped (after_pick picking s.world.rows) why)) (sr.ended_with d (stopped (picking_behind picking c) why)) c
  scripted why =
      subst (λ (x : Picking). AreRunsAlike (ended_with s (stopped x why)) (sr.ended_with d (stopped (picking_behind picking c) why)) c) (sym same_behind)
      (ended_alike s c (stopped (picking_behind picking c) why) look)

  by_a_pick : Later → (pick : Pick) → pick ≡ picked picking s.world.rows → ending_at s ≡ None → is_worn_out s ≡ false
      → AreRunsAlike (goes_by pick) (source_by pick) c
  by_a_pick later (Process p) is goes counts = picked_alike later p (record { goes = goes; counts = counts; picks = sym is })
  by_a_pick later Nobody is goes counts = ended_alike s c Deadlock look
  by_a_pick later (NotReady p) is goes counts = scripted (Not_ready p)
  by_a_pick later (NoProcess p) is goes counts = scripted (No_process p)
  by_a_pick later ScriptEnd is goes counts = scripted Ended

  source_picks : sr.ending_at d ≡ None → sr.run_from g limit (suc left) picking c ≡ source_by (picked picking s.world.rows)
  source_picks goes = ap (sr.unless_ended d _) goes ∙ ap source_by (ap (picked picking) (sym look.rows))

  turn_alike : Later → (o : Option Ending) (b : Bool) → ending_at s ≡ o → is_worn_out s ≡ b
      → AreRunsAlike (run_from image limit (suc left) picking m) (sr.run_from g limit (suc left) picking c) c
  turn_alike later (Some ending) b is counts =
      transported (run_from image limit (suc left) picking m) (ended_with s ending) (sr.run_from g limit (suc left) picking c) (sr.ended_with d ending) c
      (ap (unless_ended s _) is) (ap (sr.unless_ended d _) (same_ending s d sound look.rows ∙ is)) (ended_alike s c ending look)
  turn_alike later None true is counts =
      transported (run_from image limit (suc left) picking m) (ended_with s Memory) (sr.run_from g limit (suc left) picking c)
      (sr.run_from g limit (suc left) picking c) c
      (ap (unless_ended s _) is ∙ ap (unless_worn_out s (goes_by (picked picking s.world.rows))) counts) refl
      (uncounted_alike s (sr.run_from g limit (suc left) picking c) c (run_grows g limit (suc left) picking c))
  turn_alike later None false is counts =
      transported (run_from image limit (suc left) picking m) (goes_by (picked picking s.world.rows)) (sr.run_from g limit (suc left) picking c)
      (source_by (picked picking s.world.rows)) c
      (ap (unless_ended s _) is ∙ ap (unless_worn_out s (goes_by (picked picking s.world.rows))) counts)
      (source_picks (same_ending s d sound look.rows ∙ is))
      (by_a_pick later (picked picking s.world.rows) refl is counts)

-- no action is left
limit_alike : (image : PlainImage) (g : Program) (limit : ℕ) (picking : Picking) (m : Machine) (c : Config) → AgreesHere m c
    → (o : Option Ending) → ending_at (machine_settled m) ≡ o → AreRunsAlike (run_from image limit 0 picking m) (sr.run_from g limit 0 picking c) c
limit_alike image g limit picking m c here (Some ending) is =
    let s : Machine = machine_settled m in
    let d : Config = settled_config c in
    transported (run_from image limit 0 picking m) (ended_with s ending) (sr.run_from g limit 0 picking c) (sr.ended_with d ending) c
    (ap (unless_ended s (ended_with s (Limit limit))) is)
    (ap (sr.unless_ended d (sr.ended_with d (Limit limit))) (same_ending s d (settled_fault c ∙ here.sound) here.settled.rows ∙ is))
    (ended_alike s c ending here.settled)
limit_alike image g limit picking m c here None is =
    let s : Machine = machine_settled m in
    let d : Config = settled_config c in
    transported (run_from image limit 0 picking m) (ended_with s (Limit limit)) (sr.run_from g limit 0 picking c) (sr.ended_with d (Limit limit)) c
    (ap (unless_ended s (ended_with s (Limit limit))) is)
    (ap (sr.unless_ended d (sr.ended_with d (Limit limit))) (same_ending s d (settled_fault c ∙ here.sound) here.settled.rows ∙ is))
    (ended_alike s c (Limit limit) here.settled)

-- ## Runs

pub same_runs : (image : PlainImage) (g : Program) (limit left : ℕ) (picking : Picking) (m : Machine) (c : Config)
    → Agree image g left picking m c → AreRunsAlike (run_from image limit left picking m) (sr.run_from g limit left picking c) c
same_runs image g limit zero picking m c agree = limit_alike image g limit picking m c agree (ending_at (machine_settled m)) refl
same_runs image g limit (suc left) picking m c agree =
    turn_alike image g limit left picking m c agree (same_runs image g limit left) (ending_at (machine_settled m)) (is_worn_out (machine_settled m)) refl refl
