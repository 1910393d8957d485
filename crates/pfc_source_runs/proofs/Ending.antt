-- How runs end on the machine and in the source text, from a stage on.
use Rattle.std.proofs.Common.{◌≡◌, ◌≢◌, ℕ, zero, suc, ◌+◌, ◌<◌, Bool, true, false, if◌then◌else◌, List, ◌++◌, Option, Some, None, Ok, Err, sym, ap, ◌∙◌, subst}
use Rattle.std.proofs.lemmas.Option.{same_Some}
use Rattle.pfc_code.specs.declared.instructions.Instr.{Instr}
use Rattle.pfc_code.specs.Images.{PlainImage}
use Rattle.pfc_sched.specs.Picks.{Picking, after_pick}
use Rattle.pfc_state.specs.declared.endings.Ending.{Ending}
use Rattle.pfc_state.specs.declared.endings.Ending.TheVariants.{Finished, Fault, Deadlock, Limit, Script, Memory}
use Rattle.pfc_state.specs.declared.endings.ScriptWhy.{ScriptWhy}
use Rattle.pfc_world.specs.Tables.{at, some_ready}
use Rattle.pfc_semantics.specs.Configurations.{Config}
use Rattle.pfc_semantics.specs.Configurations as source
use Rattle.pfc_semantics.specs.Programs.{Program}
use Rattle.pfc_semantics.specs.Runs as sr
use Rattle.pfc_semantics.specs.Time.{settled_config}
use Rattle.pfc_machines.specs.declared.machine.Machine.{Machine}
use Rattle.pfc_machines.specs.Actions.{PrintedEffect}
use Rattle.pfc_machine_acts.specs.Settling.{machine_settled}
use Rattle.pfc_representation.specs.Levels.{Facts, program_in}
use Rattle.pfc_representation.specs.Rooms.{process_count}
use Rattle.pfc_representation.specs.Machines.{Agrees}
use Rattle.pfc_sessions.specs.Runs.{Run, ending_at, is_done, step_of}
use Rattle.pfc_sessions.specs.Steps.{FaultAt, before_action, counted, step_at}
use Rattle.pfc_machine_acts.specs.Quietly.{next_instr}
use Rattle.pfc_run_agreement.specs.Agreement.{fault_of}
use Rattle.pfc_run_agreement.proofs.Agreeing.{settled_fault}
use Rattle.pfc_source_runs.specs.Points.{Point, point_after, Passes}
use Rattle.pfc_source_runs.specs.Standing.{NamesOneOf, IsWornOut}

-- ## What an end comes to

-- the ending is not for want of memory, and a fault is that of one of so many processes
abbrev pub IsPlain : ℕ → Ending → Type 0
IsPlain n ending = (ending ≢ Memory) × NamesOneOf n ending

-- Of two runs, from a stage of the machine's that has printed so much: the machine agrees with the configuration at the end; or it counts no more, where the
-- source text has come to a point.
pub data Ends (facts : Facts) (limit : ℕ) (first : Point) (f : Run) (h : sr.Run) (printed : List ℕ) : Type 0 where
  agreeing : IsPlain (process_count facts) f.ending → Agrees facts f.machine h.config → Ends facts limit first f h printed
  uncounted : f.ending ≡ Memory → (count left : ℕ) → left + count ≡ limit
      → ((k : ℕ) → k < count → Passes (program_in facts) (point_after (program_in facts) k first))
      → IsWornOut facts f.machine (point_after (program_in facts) count first)
      → (point_after (program_in facts) count first).config.output ≡ first.config.output ++ (printed ++ f.printed) → Ends facts limit first f h printed

pub along : (facts : Facts) (limit : ℕ) (first : Point) (f f' : Run) (h h' : sr.Run) (printed : List ℕ) → f ≡ f' → h ≡ h'
    → Ends facts limit first f' h' printed → Ends facts limit first f h printed
along facts limit first f f' h h' printed same_f same_h ends =
    subst (λ (x : Run). Ends facts limit first x h printed) (sym same_f) (subst (λ (x : sr.Run). Ends facts limit first f' x printed) (sym same_h) ends)

-- ## Endings without an action

abbrev by_tests : Bool → Bool → Option Ending
by_tests over ready = if over then Some Finished else if ready then None else Some Deadlock

plain_tests : (n : ℕ) (over ready : Bool) (ending : Ending) → by_tests over ready ≡ Some ending → IsPlain n ending
plain_tests n true ready ending is =
    let same : Finished ≡ ending = same_Some Finished ending is in
    subst (λ (x : Ending). IsPlain n x) same ((λ is. (let no : Finished ≡ Memory = is in cc), tt))
plain_tests n false true ending is = absurd (let no : None ≡ Some ending = is in cc)
plain_tests n false false ending is =
    let same : Deadlock ≡ ending = same_Some Deadlock ending is in
    subst (λ (x : Ending). IsPlain n x) same ((λ is. (let no : Deadlock ≡ Memory = is in cc), tt))

pub plain_ending : (n : ℕ) (m : Machine) (ending : Ending) → ending_at m ≡ Some ending → IsPlain n ending
plain_ending n m ending is = plain_tests n (is_done (at m.world.rows 0)) (some_ready m.world.rows) ending is

pub plain_deadlock : (n : ℕ) → IsPlain n Deadlock
plain_deadlock n = (λ is. (let no : Deadlock ≡ Memory = is in cc), tt)

pub plain_limit : (n limit : ℕ) → IsPlain n (Limit limit)
plain_limit n limit = (λ is. (let no : Limit limit ≡ Memory = is in cc), tt)

pub plain_script : (n item : ℕ) (why : ScriptWhy) → IsPlain n (Script item why)
plain_script n item why = (λ is. (let no : Script item why ≡ Memory = is in cc), tt)

pub plain_fault : (n : ℕ) (f : FaultAt) → f.process < n → IsPlain n (Fault f.process f.line f.fault)
plain_fault n f low = (λ is. (let no : Fault f.process f.line f.fault ≡ Memory = is in cc), low)

-- ## Faults

counted_fault : (e : PrintedEffect) (line p n : ℕ) (picking : Picking) (before : Machine) (f : FaultAt)
    → (counted e line p n picking before).fault ≡ Some f → f.process ≡ p
counted_fault (Ok x) line p n picking before f is = absurd (let no : None ≡ Some f = is in cc)
counted_fault (Err g) line p n picking before f is =
    let told : FaultAt = record { process = p; line = line; fault = g } in
    let same : told ≡ f = same_Some told f is in
    ap (λ (x : FaultAt). x.process) (sym same)

step_fault : (o : Option Instr) (image : PlainImage) (p : ℕ) (picking : Picking) (before : Machine) (f : FaultAt)
    → (step_at o image p picking before).fault ≡ Some f → f.process ≡ p
step_fault None image p picking before f is = absurd (let no : None ≡ Some f = is in cc)
step_fault (Some i) image p picking before f is = counted_fault _ _ p _ picking before f is

-- the fault of an action is its process's
pub fault_process : (image : PlainImage) (picking : Picking) (m : Machine) (p : ℕ) (f : FaultAt) → (step_of image picking m p).fault ≡ Some f → f.process ≡ p
fault_process image picking m p f is =
    let before : Machine = before_action image p (machine_settled m) in
    step_fault (next_instr image p before) image p (after_pick picking (machine_settled m).world.rows) before f is

ended_run : (g : Program) (limit : ℕ) (picking : Picking) (e : Config) (ending : Ending) → sr.ending_at (settled_config e) ≡ Some ending → (left : ℕ)
    → sr.run_from g limit left picking e ≡ sr.ended_with (settled_config e) ending
ended_run g limit picking e ending is zero = ap (sr.unless_ended (settled_config e) (sr.ended_with (settled_config e) (Limit limit))) is
ended_run g limit picking e ending is (suc left) = ap (sr.unless_ended (settled_config e) _) is

-- behind a fault the run of the source text is at its end
pub faulty_run : (g : Program) (limit left : ℕ) (picking : Picking) (e : Config) (o : Option source.FaultAt) (f : FaultAt) → e.fault ≡ o
    → fault_of o ≡ Some f → (sr.run_from g limit left picking e).config ≡ settled_config e
faulty_run g limit left picking e None f is told = absurd (let no : None ≡ Some f = told in cc)
faulty_run g limit left picking e (Some x) f is told =
    ap (λ (r : sr.Run). r.config)
    (ended_run g limit picking e (Fault x.process x.line x.fault)
    (ap (λ (y : Option source.FaultAt). sr.ending_at (record (settled_config e) { fault = y })) (settled_fault e ∙ is)) left)
