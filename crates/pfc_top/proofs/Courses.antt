-- The run of an image is that of its tree, and what is written of it.
use Rattle.std.proofs.Common.{◌≡◌, inl, inr, ℕ, ◌+◌, ◌≤◌, List, ◌++◌, Option, Some, None, refl, sym, ap, ◌∙◌, subst, length}
use Rattle.std.specs.Io.KnownBytes.{Appends}
use Rattle.std.proofs.KnownBytes.{Appends-trans}
use Rattle.pfc_code.specs.Images.{PlainImage}
use Rattle.pfc_io.specs.Writes.{AppendsFront}
use Rattle.pfc_io.proofs.Written.{AppendsFront-append, AppendsFront-after}
use Rattle.pfc_tree.specs.trees.Parts.{ProgramTree}
use Rattle.pfc_tree.specs.forget.Parts.{forget_program}
use Rattle.pfc_tree.specs.Grammar.{IsSmall}
use Rattle.pfc_types.specs.rules.Whole.{first_fault}
use Rattle.pfc_sched.specs.Picks.{Picking, first_picking}
use Rattle.pfc_sched.specs.declared.picking.Policy.{Policy}
use Rattle.pfc_state.specs.declared.endings.Ending.{Ending}
use Rattle.pfc_state.specs.declared.endings.Ending.TheVariants.{Finished, Fault, Deadlock, Limit, Script, SinkFailed, Memory}
use Rattle.pfc_run_invariants.specs.Inputs.{AreBytes}
use Rattle.pfc_number_laws.specs.Written.{FitsTree}
use Rattle.pfc_semantics.specs.Configurations.{Config, start}
use Rattle.pfc_semantics.specs.Programs.{program_of}
use Rattle.pfc_semantics.specs.Runs as source
use Rattle.pfc_translation.specs.Images.{image_of}
use Rattle.pfc_machines.specs.Machines.{start_machine}
use Rattle.pfc_machines.specs.declared.machine.Machine.{Machine}
use Rattle.pfc_represented_start.specs.Starts.{start_facts}
use Rattle.pfc_sessions.specs.Courses.{IsCourse}
use Rattle.pfc_sessions.specs.Runs.{MayRun, run_from}
use Rattle.pfc_sessions.specs.Stages.{first_stage}
use Rattle.pfc_sessions.specs.declared.session.Session.{Session}
use Rattle.pfc_run_agreement.specs.Courses.{Completes, IsBrokenOff, IsSourceCourse}
use Rattle.pfc_source_runs.specs.Points.{first_point}
use Rattle.pfc_source_runs.specs.Standing as standing
use Rattle.pfc_source_runs.specs.Standing.{IsStanding}
use Rattle.pfc_report.specs.Reports.{HasReport}
use Rattle.pfc_outcome.specs.Outcomes.{ran_with, status_of}
use Rattle.pfc_outcome.specs.Requests.{Settings}
use Rattle.pfc_top.specs.Answers.{Gives, IsRunStatus}
use Rattle.pfc_top.specs.Compiling.{IsImage}
use Rattle.pfc_top.specs.Meanings.{run_of, source_meaning}
use Rattle.pfc_top.specs.Running.{IsBegun, report_by}

-- ## Endings

-- any other ending than these two has a report
pub has_report : (ending : Ending) → (ending ≡ SinkFailed → ⊥) → (ending ≡ Memory → ⊥) → HasReport ending
has_report Finished failed none = tt
has_report (Fault process line fault) failed none = tt
has_report Deadlock failed none = tt
has_report (Limit n) failed none = tt
has_report (Script item why) failed none = tt
has_report SinkFailed failed none = absurd (failed refl)
has_report Memory failed none = absurd (none refl)

-- the status of an ending that has a report
pub report_status : (ending : Ending) → HasReport ending → IsRunStatus (status_of ending)
report_status Finished h = inl refl
report_status (Fault process line fault) h = inr (inl refl)
report_status Deadlock h = inr (inr (inl refl))
report_status (Limit n) h = inr (inr (inr (inl refl)))
report_status (Script item why) h = inr (inr (inr (inr refl)))
report_status SinkFailed h = absurd h
report_status Memory h = absurd h

-- ## What the law says of checked programs

-- who is picked may act in each of so many actions
abbrev pub May : Type 0
May = (t : ProgramTree) (input : List ℕ) (seed limit : ℕ) (picking : Picking)
    → IsSmall (forget_program t) → first_fault t ≡ None → FitsTree t → AreBytes input → length (image_of t).code ≤ 200000
    → MayRun (image_of t) limit picking (start_machine (image_of t) input seed)

-- what the run of a session comes to
abbrev CourseOf : PlainImage → ℕ → Picking → Machine → Machine → Ending → Option (List ℕ) → Option (List ℕ) → Type 0
CourseOf image limit picking m new ending before after =
    IsCourse image limit (run_from image limit limit picking m) (first_stage picking m) new ending before after

abbrev pub RunsTheSource : Type 0
RunsTheSource = (t : ProgramTree) (input : List ℕ) (seed limit : ℕ) (picking : Picking) (new : Machine) (ending : Ending) (before after : Option (List ℕ))
    → IsSmall (forget_program t) → first_fault t ≡ None → FitsTree t → AreBytes input → length (image_of t).code ≤ 200000
    → CourseOf (image_of t) limit picking (start_machine (image_of t) input seed) new ending before after
    → IsSourceCourse (source.run t input seed picking limit) (start (program_of t) input seed) new ending before after

abbrev pub StandsInTheSource : Type 0
StandsInTheSource = (t : ProgramTree) (input : List ℕ) (seed limit : ℕ) (picking : Picking) (new : Machine) (ending : Ending) (before after : Option (List ℕ))
    → IsSmall (forget_program t) → first_fault t ≡ None → FitsTree t → AreBytes input → length (image_of t).code ≤ 200000
    → CourseOf (image_of t) limit picking (start_machine (image_of t) input seed) new ending before after
    → IsStanding (start_facts t) limit (source.run t input seed picking limit) (first_point picking (start (program_of t) input seed)) new ending
    before after

-- ## What the run comes to

-- a session that was made over this image is at the start
pub starts : (tree : ProgramTree) (image : PlainImage) → IsImage tree image → (m : Machine) (given input : List ℕ) (seed : ℕ)
    → m ≡ start_machine image given seed → given ≡ input → m ≡ start_machine (image_of tree) input seed
starts tree image is m given input seed made same =
    made ∙ ap (λ (i : PlainImage). start_machine i given seed) is.same ∙ ap (λ (bytes : List ℕ). start_machine (image_of tree) bytes seed) same

run_is : (tree : ProgramTree) (s : Settings) → source.run tree s.input s.seed (first_picking s.policy) s.limit ≡ run_of tree s
unfolding run_of
run_is tree s = refl

module _ (tree : ProgramTree) (settings : Settings) where
  -- the start of the run
  abbrev pub from : Config
  from = start (program_of tree) settings.input settings.seed

  -- The session's run came to this ending, with this machine: so does the source text's, and where the machine stands there.
  pub record ComesTo (new : Machine) (ending : Ending) (old mid : Option (List ℕ)) : Type 0 where
    pub course : IsSourceCourse (run_of tree settings) from new ending old mid
    pub stands : IsStanding (start_facts tree) settings.limit (run_of tree settings) (first_point (first_picking settings.policy) from) new ending old mid

  module _ (new : Machine) (ending : Ending) (old mid : Option (List ℕ)) where
    -- a course with a report is whole
    pub completed : HasReport ending → ComesTo new ending old mid → Completes (run_of tree settings) from new ending old mid
    completed h p = at ending h p.course
      where
        at : (ending : Ending) → HasReport ending → IsSourceCourse (run_of tree settings) from new ending old mid
            → Completes (run_of tree settings) from new ending old mid
        at Finished h course = course
        at (Fault process line fault) h course = course
        at Deadlock h course = course
        at (Limit n) h course = course
        at (Script item why) h course = course
        at SinkFailed h course = absurd h
        at Memory h course = absurd h

    -- and the machine agrees with the last configuration
    pub stands_at_end : HasReport ending → ComesTo new ending old mid → standing.IsAtEnd (start_facts tree) (run_of tree settings) new ending
    stands_at_end h p = at ending h p.stands
      where
        at : (ending : Ending) → HasReport ending
            → IsStanding (start_facts tree) settings.limit (run_of tree settings) (first_point (first_picking settings.policy) from) new ending old mid
            → standing.IsAtEnd (start_facts tree) (run_of tree settings) new ending
        at Finished h stands = stands
        at (Fault process line fault) h stands = stands
        at Deadlock h stands = stands
        at (Limit n) h stands = stands
        at (Script item why) h stands = stands
        at SinkFailed h stands = absurd h
        at Memory h stands = absurd h

  module _
      (ending : Ending) (session : Session) (old mid new : Option (List ℕ)) (h : HasReport ending) (p : ComesTo session.machine ending old mid)
    where
      whole : Completes (run_of tree settings) from session.machine ending old mid
      whole = completed session.machine ending old mid h p

      -- its output, and then the report
      pub written_whole : Appends mid new (report_by tree settings) → (status : ℕ) → status ≡ status_of ending
          → Gives (ran_with source_meaning tree settings) (record { status = status; session = Some session }) old new
      written_whole report status is =
          let at_end = stands_at_end session.machine ending old mid h p in
          record {
            status = is ∙ ap status_of whole.ends;
            session = at_end.agrees;
            written =
                subst (λ (bytes : List ℕ). Appends old new (bytes ++ report_by tree settings)) (sym whole.output)
                (Appends-trans old mid new whole.bytes (report_by tree settings) whole.written report);
          }

      pub written_front : AppendsFront mid new (report_by tree settings) → AppendsFront old new (ran_with source_meaning tree settings).bytes
      written_front report =
          subst (λ (bytes : List ℕ). AppendsFront old new (bytes ++ report_by tree settings)) (sym whole.output)
          (AppendsFront-after old mid new whole.bytes (report_by tree settings) whole.written report)

  -- a run that was broken off
  pub broken_front : (old new : Option (List ℕ)) → IsBrokenOff (run_of tree settings) from old new
      → AppendsFront old new (ran_with source_meaning tree settings).bytes
  broken_front old new p =
      subst (λ (bytes : List ℕ). AppendsFront old new (bytes ++ report_by tree settings)) (sym p.output)
      (AppendsFront-append old new p.bytes (report_by tree settings) p.front)

-- ## A run that was begun

module _ (tree : ProgramTree) (settings : Settings) (image : PlainImage) (session : Session) (policy : Policy) (limit : ℕ)
    (b : IsBegun tree settings image session policy limit) (picking : Picking) (picks : picking ≡ first_picking policy) where
  abbrev first : Picking
  first = first_picking settings.policy

  abbrev start_of : Machine
  start_of = start_machine (image_of tree) settings.input settings.seed

  first_is : picking ≡ first
  first_is = picks ∙ ap first_picking b.picks

  pub may_run : May → MayRun image limit picking session.machine
  may_run may =
      subst (λ (i : PlainImage). MayRun i limit picking session.machine) (sym b.is.same)
      (subst (λ (n : ℕ). MayRun (image_of tree) n picking session.machine) (sym b.most)
      (subst (λ (p : Picking). MayRun (image_of tree) settings.limit p session.machine) (sym first_is)
      (subst (λ (m : Machine). MayRun (image_of tree) settings.limit first m) (sym b.start)
      (may tree settings.input settings.seed settings.limit first b.is.runnable.small b.is.runnable.whole b.is.runnable.fits b.bytes
      b.is.runnable.few))))

  module _ (new : Machine) (ending : Ending) (old mid : Option (List ℕ)) (ran : CourseOf image limit picking session.machine new ending old mid) where
    begun : CourseOf (image_of tree) settings.limit first start_of new ending old mid
    begun =
        subst (λ (m : Machine). CourseOf (image_of tree) settings.limit first m new ending old mid) b.start
        (subst (λ (p : Picking). CourseOf (image_of tree) settings.limit p session.machine new ending old mid) first_is
        (subst (λ (n : ℕ). CourseOf (image_of tree) n picking session.machine new ending old mid) b.most
        (subst (λ (i : PlainImage). CourseOf i limit picking session.machine new ending old mid) b.is.same ran)))

    pub comes_to : RunsTheSource → StandsInTheSource → ComesTo tree settings new ending old mid
    comes_to runs stands = record {
      course =
          subst (λ (f : source.Run). IsSourceCourse f (from tree settings) new ending old mid) (run_is tree settings)
          (runs tree settings.input settings.seed settings.limit first new ending old mid b.is.runnable.small b.is.runnable.whole
          b.is.runnable.fits b.bytes b.is.runnable.few begun);
      stands =
          subst (λ (f : source.Run). IsStanding (start_facts tree) settings.limit f (first_point first (from tree settings)) new ending old mid)
          (run_is tree settings)
          (stands tree settings.input settings.seed settings.limit first new ending old mid b.is.runnable.small b.is.runnable.whole
          b.is.runnable.fits b.bytes b.is.runnable.few begun);
    }
