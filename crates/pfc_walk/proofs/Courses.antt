-- The run of a walker is that of its tree, and what is written of it.
use Rattle.std.proofs.Common.{◌≡◌, ◌⊎◌, inl, inr, ℕ, Bool, List, [], ◌∷◌, ◌++◌, Option, refl, sym, ap, ap₂, ◌∙◌, subst}
use Rattle.std.proofs.lemmas.List.{append-nil}
use Rattle.std.specs.Io.KnownBytes.{Appends}
use Rattle.std.proofs.KnownBytes.{Appends-trans}
use Rattle.pfc_io.specs.Writes.{AppendsFront}
use Rattle.pfc_io.proofs.Written.{AppendsFront-append, AppendsFront-after}
use Rattle.pfc_state.specs.declared.endings.Ending.{Ending}
use Rattle.pfc_state.specs.declared.endings.Ending.TheVariants.{Finished, Fault, Deadlock, Limit, Script, SinkFailed, Memory}
use Rattle.pfc_code.specs.declared.images.ProcessInfo.{ProcessInfo}
use Rattle.pfc_tree.specs.Symbols.{Text}
use Rattle.pfc_tree.specs.trees.Parts.{ProgramTree}
use Rattle.pfc_types.specs.Blocks.{State}
use Rattle.pfc_sched.specs.Picks.{Picking, first_picking}
use Rattle.pfc_semantics.specs.Values.{Value}
use Rattle.pfc_semantics.specs.Objects.{Numbered, all_first, main_objects}
use Rattle.pfc_semantics.specs.Programs.{Block, Program, program_of}
use Rattle.pfc_semantics.specs.Configurations.{Config, start}
use Rattle.pfc_semantics.specs.Events.{Event}
use Rattle.pfc_semantics.specs.Runs.{Run, run_from}
use Rattle.pfc_program.specs.Views.{tables_view, block_view, blocks_view}
use Rattle.pfc_program.specs.declared.program.Program.{Program as HeldProgram}
use Rattle.pfc_store.specs.Numbered.{numbered_variables}
use Rattle.pfc_store.specs.Views.{values_view}
use Rattle.pfc_store.specs.declared.objects.Objects.{Objects as HeldObjects}
use Rattle.pfc_store.specs.declared.values.Value.{Value as HeldValue}
use Rattle.pfc_activities.specs.declared.state.State.{State as Activities}
use Rattle.pfc_beginning.specs.Beginnings.{program_with}
use Rattle.pfc_traces.specs.Traces.{actors, trace_of, trace_text}
use Rattle.pfc_walker.specs.Courses.{IsPassed, last, on_the_way, Completes, IsBrokenOff, IsCourse, EndsLine, KnowsLine}
use Rattle.pfc_walker.specs.Telling.{AreTold}
use Rattle.pfc_walker.specs.declared.telling.Told.{Told}
use Rattle.pfc_walker.specs.declared.telling.Told.TheVariants.{Output, Trace}
use Rattle.pfc_walker.proofs.Joining.{traced_twice}
use Rattle.pfc_translation.specs.Images.{main_process}
use Rattle.pfc_translation.specs.Objects.{processes_of}
use Rattle.pfc_labels.specs.Processes.{processes_in}
use Rattle.pfc_run_laws.specs.Outputs.{Extends}
use Rattle.pfc_report.specs.Reports.{HasReport}
use Rattle.pfc_outcome.specs.Meanings.{Run as ToldRun}
use Rattle.pfc_outcome.specs.Outcomes.{report_of, status_of}
use Rattle.pfc_outcome.specs.Requests.{Settings}
use Rattle.pfc_walk.specs.Answers.{Gives, IsAnswerToText}
use Rattle.pfc_walk.specs.Meanings.{run_of, whole_meaning}
use Rattle.pfc_walk.specs.Running.{processes_by, report_by}
use Rattle.pfc_walk.specs.Traces.{end_by, run_told}
use Rattle.pfc_walk.proofs.Meant.{meant, run_is}

-- ## Endings

-- any other ending than these two has a report
pub has_report : (ending : Ending) → (ending ≡ SinkFailed → ⊥) → (ending ≡ Memory → ⊥) → HasReport ending
has_report Finished failed none = tt
has_report (Fault process line fault) failed none = tt
has_report Deadlock failed none = tt
has_report (Limit n) failed none = tt
has_report (Script item why) failed none = tt
has_report SinkFailed failed none = absurd (failed refl)
has_report Memory failed none = absurd (none refl)

-- the status of an ending that has a report
pub report_status : (ending : Ending) → HasReport ending → IsAnswerToText (status_of ending)
report_status Finished h = inl refl
report_status (Fault process line fault) h = inr (inr (inl refl))
report_status Deadlock h = inr (inr (inr (inl refl)))
report_status (Limit n) h = inr (inr (inr (inr (inl refl))))
report_status (Script item why) h = inr (inr (inr (inr (inr refl))))
report_status SinkFailed h = absurd h
report_status Memory h = absurd h

pub line_known :
    (told : Told) (f : Run) (ending : Ending) (line : Bool) → HasReport ending → EndsLine told f ending line → KnowsLine told line f.config.output
line_known told f Finished line h is = is
line_known told f (Fault process at fault) line h is = is
line_known told f Deadlock line h is = is
line_known told f (Limit n) line h is = is
line_known told f (Script item why) line h is = is
line_known told f SinkFailed line h is = absurd h
line_known told f Memory line h is = absurd h

-- ## Courses

-- all that is told of a run which begins without output
abbrev pub told_whole : Told → Run → List ℕ
told_whole Output f = f.config.output
told_whole Trace f = trace_text (trace_of f)

module _ (told : Told) (g : Program) (limit : ℕ) (f : Run) (c : Config) where
  -- a course with a report is whole
  pub completed :
      (state : Activities) (ending : Ending) (old mid : Option (List ℕ)) → HasReport ending → IsCourse told g limit f c state ending old mid
      → Completes told f c state ending old mid
  completed state Finished old mid h course = course
  completed state (Fault process line fault) old mid h course = course
  completed state Deadlock old mid h course = course
  completed state (Limit n) old mid h course = course
  completed state (Script item why) old mid h course = course
  completed state SinkFailed old mid h course = absurd h
  completed state Memory old mid h course = absurd h

module _ (g : Program) (limit : ℕ) (f : Run) (c : Config) where
  module _ (grows : (left : ℕ) (picking : Picking) (d : Config) → Extends d.output (run_from g limit left picking d).config.output) where
    -- the output of the end begins with that of a configuration before it, and the actions of the run with those before that configuration
    passed_grows : (d : Config) (events : List Event) → IsPassed g limit f d events → Extends d.output f.config.output
    passed_grows _ _ last = ([], sym (append-nil f.config.output))
    passed_grows _ _ (on_the_way left picking d events same) =
        subst (λ (e : Config). Extends d.output e.output) same.config (grows left picking d)

    passed_acts : (d : Config) (events : List Event) → IsPassed g limit f d events → (more : List Event) × (f.events ≡ events ++ more)
    passed_acts _ _ last = ([], sym (append-nil f.events))
    passed_acts _ _ (on_the_way left picking d events same) = ((run_from g limit left picking d).events, same.events)

    -- what is told up to there is a front of all that is told
    passed_told :
        (told : Told) (d : Config) (events : List Event) (bytes : List ℕ) → c.output ≡ [] → IsPassed g limit f d events → AreTold told c d events bytes
        → (more : List ℕ) × (told_whole told f ≡ bytes ++ more)
    passed_told Output d events bytes none passed tells =
        let more : Extends d.output f.config.output = passed_grows d events passed in
        (more.0, more.1 ∙ ap (λ (xs : List ℕ). xs ++ more.0) (tells ∙ ap (λ (xs : List ℕ). xs ++ bytes) none))
    passed_told Trace d events bytes none passed tells =
        let more = passed_acts d events passed in (
          trace_text (actors more.0),
          ap (λ (es : List Event). trace_text (actors es)) more.1 ∙ traced_twice events more.0
              ∙ ap (λ (xs : List ℕ). xs ++ trace_text (actors more.0)) (sym tells),
        )

    -- of a run that was broken off a front of all that is told is written
    pub broken_front :
        (told : Told) (old new : Option (List ℕ)) → c.output ≡ [] → IsBrokenOff told g limit f c old new → AppendsFront old new (told_whole told f)
    broken_front told old new none p =
        let more = passed_told told p.config p.events p.bytes none p.passed p.tells in
        subst (λ (bytes : List ℕ). AppendsFront old new bytes) (sym more.1) (AppendsFront-append old new p.bytes more.0 p.front)

-- ## What is written of a run

module _ (tree : ProgramTree) (settings : Settings) where
  abbrev pub ran : Run
  ran = run_of tree settings

  abbrev pub from : Config
  from = start (program_of tree) settings.input settings.seed

  -- the bytes of the outcome: what was printed, and the report; or the trace
  whole :
      (told : Told) (bytes : List ℕ) → AreTold told from ran.config ran.events bytes → bytes ++ end_by told tree settings ≡ (run_told told tree settings).bytes
  whole Output bytes is =
      ap (λ (xs : List ℕ). xs ++ report_by tree settings) (sym is)
      ∙ ap (λ (r : ToldRun). r.output ++ report_of whole_meaning tree r) (sym (meant tree settings))
  whole Trace bytes is = append-nil bytes ∙ is

  status_told : (told : Told) → status_of ran.ending ≡ (run_told told tree settings).status
  status_told Output = ap (λ (r : ToldRun). status_of r.ending) (sym (meant tree settings))
  status_told Trace = ap (λ (r : ToldRun). status_of r.ending) (sym (meant tree settings))

  module _
      (told : Told) (ending : Ending) (state : Activities) (old mid new : Option (List ℕ)) (p : Completes told ran from state ending old mid)
    where
      -- what is told of it, and then what stands behind that
      pub written_whole :
          Appends mid new (end_by told tree settings) → (status : ℕ) → status ≡ status_of ending → Gives (run_told told tree settings) status old new
      written_whole report status is = record {
        status = is ∙ ap status_of p.ends ∙ status_told told;
        written =
            subst (λ (bytes : List ℕ). Appends old new bytes) (whole told p.bytes p.tells)
            (Appends-trans old mid new p.bytes (end_by told tree settings) p.written report);
      }

      pub written_front : AppendsFront mid new (end_by told tree settings) → AppendsFront old new (run_told told tree settings).bytes
      written_front report =
          subst (λ (bytes : List ℕ). AppendsFront old new bytes) (whole told p.bytes p.tells)
          (AppendsFront-after old mid new p.bytes (end_by told tree settings) p.written report)

  pub output_front :
      (told : Told) (old new : Option (List ℕ)) → AppendsFront old new (told_whole told ran) → AppendsFront old new (run_told told tree settings).bytes
  output_front Output old new front =
      subst (λ (bytes : List ℕ). AppendsFront old new bytes) (whole Output ran.config.output refl)
      (AppendsFront-append old new ran.config.output (report_by tree settings) front)
  output_front Trace old new front = front

  -- the course as the walker gives it
  pub course_of :
      (told : Told) (limit : ℕ) (picking : Picking) (state : Activities) (ending : Ending) (old new : Option (List ℕ))
      → limit ≡ settings.limit → picking ≡ first_picking settings.policy
      → IsCourse told (program_of tree) limit (run_from (program_of tree) limit limit picking from) from state ending old new
      → IsCourse told (program_of tree) settings.limit ran from state ending old new
  course_of told limit picking state ending old new most picks course =
      subst (λ (f : Run). IsCourse told (program_of tree) settings.limit f from state ending old new) (sym (run_is tree settings))
      (subst
      (λ (p : Picking). IsCourse told (program_of tree) settings.limit
      (run_from (program_of tree) settings.limit settings.limit p from) from state ending old new)
      picks
      (subst (λ (n : ℕ). IsCourse told (program_of tree) n (run_from (program_of tree) n n picking from) from state ending old new) most course))

  pub line_of :
      (told : Told) (limit : ℕ) (picking : Picking) (ending : Ending) (line : Bool) → limit ≡ settings.limit → picking ≡ first_picking settings.policy
      → EndsLine told (run_from (program_of tree) limit limit picking from) ending line → EndsLine told ran ending line
  line_of told limit picking ending line most picks is =
      subst (λ (f : Run). EndsLine told f ending line) (sym (run_is tree settings))
      (subst (λ (p : Picking). EndsLine told (run_from (program_of tree) settings.limit settings.limit p from) ending line) picks
      (subst (λ (n : ℕ). EndsLine told (run_from (program_of tree) n n picking from) ending line) most is))

-- ## The program of a tree

-- a program by what is known of it, and the first values and objects of main's variables
abbrev rebuilt : State → List Block → List Block → Block → List ℕ → Numbered (List Value) → Program
rebuilt s blocks modules main ends variables = record {
  state = s;
  blocks = blocks;
  modules = modules;
  main = main;
  resource_ends = ends;
  firsts = all_first s.forms;
  variables = variables.is;
  objects = variables.objects;
}

module _ (tree : ProgramTree) (held : HeldProgram) (state : tables_view held.tables ≡ (program_of tree).state)
    (blocks : blocks_view held.tables held.blocks.items ≡ (program_of tree).blocks) where
  pub program_is :
      (values : List HeldValue) (objects : HeldObjects)
      → blocks_view held.tables held.modules.items ≡ (program_of tree).modules → block_view held.tables held.main ≡ (program_of tree).main
      → held.resource_ends.items ≡ (program_of tree).resource_ends →
      main_objects held.tables.types.now held.tables.scopes.now ≡ numbered_variables values objects
      → program_with (record { program = held; objects = objects }) (values_view values) ≡ program_of tree
  program_is values objects modules main ends numbered =
      let p : Program = program_of tree in
      let s : State = tables_view held.tables in
      let bs : List Block = blocks_view held.tables held.blocks.items in
      let ms : List Block = blocks_view held.tables held.modules.items in
      let m : Block = block_view held.tables held.main in
      ap (rebuilt s bs ms m held.resource_ends.items) (sym numbered)
      ∙ ap (λ (x : State). rebuilt x bs ms m held.resource_ends.items (main_objects x.forms x.blocks)) state
      ∙ ap₂ (λ (x y : List Block). rebuilt p.state x y m held.resource_ends.items (main_objects p.state.forms p.state.blocks)) blocks modules
      ∙ ap₂ (λ (x : Block) (e : List ℕ). rebuilt p.state p.blocks p.modules x e (main_objects p.state.forms p.state.blocks)) main ends

  -- the labels of its processes
  abbrev listed : Text → State → List Block → List ProcessInfo
  listed name s bs = let g : Program = record (program_of tree) { state = s; blocks = bs } in main_process g name ∷ processes_of g

  pub labels_are : (name : Text) → name ≡ tree.name.0 → processes_in held name ≡ processes_by tree
  labels_are name same = ap₂ (listed name) state blocks ∙ ap (λ (x : Text). listed x (program_of tree).state (program_of tree).blocks) same
