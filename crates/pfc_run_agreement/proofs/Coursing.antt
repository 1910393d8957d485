-- Courses of runs that are alike.
use Rattle.std.proofs.Common.{◌≡◌, ◌≢◌, ℕ, List, ◌++◌, Option, sym, ◌∙◌, subst, append_assoc}
use Rattle.pfc_code.specs.Images.{PlainImage}
use Rattle.pfc_io.specs.Writes.{AppendsFront}
use Rattle.pfc_io.proofs.Written.{AppendsFront-append}
use Rattle.pfc_machines.specs.declared.machine.Machine.{Machine}
use Rattle.pfc_state.specs.declared.endings.Ending.{Ending}
use Rattle.pfc_state.specs.declared.endings.Ending.TheVariants.{Finished, Fault, Deadlock, Limit, Script, SinkFailed, Memory}
use Rattle.pfc_semantics.specs.Configurations.{Config}
use Rattle.pfc_semantics.specs.Runs as sr
use Rattle.pfc_sessions.specs.Courses as session
use Rattle.pfc_sessions.specs.Courses.{on_the_way, at_the_end, refused, worn_out, IsCourse}
use Rattle.pfc_sessions.specs.Runs.{Run, run_from}
use Rattle.pfc_sessions.specs.Stages.{Stage, stage_after}
use Rattle.pfc_run_agreement.specs.Agreement.{LookAlike, AreRunsAlike}
use Rattle.pfc_run_agreement.specs.Courses.{Completes, IsBrokenOff, IsSourceCourse}

module _
    (image : PlainImage) (limit : ℕ) (f : Run) (first : Stage) (h : sr.Run) (c : Config) (new : Machine) (before after : Option (List ℕ))
    (alike : AreRunsAlike f h c)
  where
    completes : (ending : Ending) → ending ≢ Memory → session.Completes f new ending before after → Completes h c new ending before after
    completes ending other e =
        let goes : f.ending ≢ Memory = λ is. other (e.ends ∙ is) in
        record {
          ends = e.ends ∙ alike.ending goes;
          look = subst (λ (x : Machine). LookAlike x h.config) (sym e.machine) (alike.look goes);
          bytes = f.printed;
          output = alike.printed goes;
          written = e.written;
        }

    -- a front of what was printed to the end
    of_all : AppendsFront before after f.printed → IsBrokenOff h c before after
    of_all front =
        let (more, e) = alike.front in
        record {
          bytes = f.printed ++ more;
          output = e ∙ append_assoc c.output f.printed more;
          front = AppendsFront-append before after f.printed more front;
        }

    -- a front of what was printed up to a stage
    of_stage : (stage_is : Stage → Type 0) → session.IsBrokenOff image limit f first stage_is before after → IsBrokenOff h c before after
    of_stage stage_is b =
        let s : Stage = stage_after image b.count first in
        let later : Run = run_from image limit b.left s.picking s.machine in
        of_all (subst (λ (x : List ℕ). AppendsFront before after x) (sym b.way.goes.printed) (AppendsFront-append before after s.printed later.printed b.front))

    pub same_course : (ending : Ending) → IsCourse image limit f first new ending before after → IsSourceCourse h c new ending before after
    same_course Finished e = completes Finished (λ is. let no : Finished ≡ Memory = is in cc) e
    same_course (Fault process line fault) e = completes (Fault process line fault) (λ is. let no : Fault process line fault ≡ Memory = is in cc) e
    same_course Deadlock e = completes Deadlock (λ is. let no : Deadlock ≡ Memory = is in cc) e
    same_course (Limit n) e = completes (Limit n) (λ is. let no : Limit n ≡ Memory = is in cc) e
    same_course (Script item why) e = completes (Script item why) (λ is. let no : Script item why ≡ Memory = is in cc) e
    same_course SinkFailed (on_the_way b) = of_stage _ b
    same_course SinkFailed (at_the_end machine front) = of_all front
    same_course Memory (refused b) = of_stage _ b
    same_course Memory (worn_out ending machine front) = of_all front
