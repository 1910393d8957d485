-- Where the machine of a session stands behind its run.
use Rattle.std.proofs.Common.{◌≡◌, ◌≢◌, ℕ, List, [], ◌++◌, Option, sym, ◌∙◌, subst, arith, append_assoc}
use Rattle.pfc_code.specs.Images.{PlainImage}
use Rattle.pfc_io.specs.Writes.{AppendsFront}
use Rattle.pfc_io.proofs.Written.{AppendsFront-append}
use Rattle.pfc_sched.specs.Picks.{Picking}
use Rattle.pfc_state.specs.declared.endings.Ending.{Ending}
use Rattle.pfc_state.specs.declared.endings.Ending.TheVariants.{Finished, Fault, Deadlock, Limit, Script, SinkFailed, Memory}
use Rattle.pfc_semantics.specs.Configurations.{Config}
use Rattle.pfc_semantics.specs.Programs.{Program}
use Rattle.pfc_semantics.specs.Runs as sr
use Rattle.pfc_translation.specs.Images.{image_of}
use Rattle.pfc_machines.specs.declared.machine.Machine.{Machine}
use Rattle.pfc_representation.specs.Levels.{Facts, program_in}
use Rattle.pfc_representation.specs.Rooms.{process_count}
use Rattle.pfc_representation.specs.Machines.{Represents, Agrees}
use Rattle.pfc_sessions.specs.Courses as session
use Rattle.pfc_sessions.specs.Courses.{IsCourse, on_the_way as broken_on_the_way, at_the_end as broken_at_the_end, refused as was_refused}
use Rattle.pfc_sessions.specs.Courses.{worn_out as was_worn_out}
use Rattle.pfc_sessions.specs.Runs.{Run, run_from}
use Rattle.pfc_sessions.specs.Stages as stages
use Rattle.pfc_sessions.specs.Stages.{Stage, first_stage, stage_after}
use Rattle.pfc_run_agreement.specs.Agreement.{AreRunsAlike}
use Rattle.pfc_run_agreement.proofs.Agreeing.{same_runs}
use Rattle.pfc_simulation.specs.Reached.{RunKeepsToRules, IsRunKept}
use Rattle.pfc_simulation.proofs.Simulating.{goes_on_agreeing}
use Rattle.pfc_source_runs.specs.Points.{Point, first_point, point_after}
use Rattle.pfc_source_runs.specs.Standing.{IsUntried, StandsFor, behind_action, settled, before_action, IsBrokenOff, IsCut, on_the_way, at_the_end, uncounted}
use Rattle.pfc_source_runs.specs.Standing.{IsWornOut}
use Rattle.pfc_source_runs.specs.Standing.{IsWanting, refused, worn_out, NamesOneOf, IsAtEnd, IsStanding, StandsIn, passing, ended}
use Rattle.pfc_source_runs.proofs.Coming.{IsAt, starts_at, comes_to, passes_to}
use Rattle.pfc_source_runs.proofs.Ending.{Ends, agreeing, uncounted as not_counted}
use Rattle.pfc_source_runs.proofs.Turns.{ends_so}
use Rattle.pfc_source_runs.proofs.Untried.{is_untried}
use Rattle.pfc_source_runs.proofs.Ways.{way_to}
use Rattle.pfc_arrivals.specs.Arrivals.{AreNumbered}

module _
    (facts : Facts) (c : Config) (kept : IsRunKept facts c) (numbered : AreNumbered facts)
    (numbers : RunKeepsToRules (program_in facts) c) (limit : ℕ) (picking : Picking)
    (m : Machine) (is : Represents facts m c) (new : Machine) (before after : Option (List ℕ))
  where
    abbrev image : PlainImage
    image = image_of facts.tree

    abbrev g : Program
    g = program_in facts

    abbrev f : Run
    f = run_from image limit limit picking m

    abbrev h : sr.Run
    h = sr.run_from g limit limit picking c

    abbrev stage : ℕ → Stage
    stage n = stage_after image n (first_stage picking m)

    abbrev first : Point
    first = first_point picking c

    ends : Ends facts limit first f h []
    ends =
        ends_so facts numbered limit first kept numbers limit 0 (first_stage picking m) (omega arith) (λ k low. absurd (omega (arith, low)))
        (starts_at facts c kept numbered numbers picking m is)

    alike : AreRunsAlike f h c
    alike = same_runs image g limit limit picking m c (goes_on_agreeing facts limit picking m c kept numbered numbers is)

    -- ## At the end

    at_end : (ending : Ending) → ending ≢ Memory → session.Completes f new ending before after → Ends facts limit first f h [] → IsAtEnd facts h new ending
    at_end ending other e (agreeing plain agrees) = record {
      agrees = subst (λ (x : Machine). Agrees facts x h.config) (sym e.machine) agrees;
      names = subst (λ (x : Ending). NamesOneOf (process_count facts) x) (sym e.ends) plain.1;
    }
    at_end ending other e (not_counted uncounts count left sum passed agrees output) = absurd (other (e.ends ∙ uncounts))

    -- ## On the way

    broken : (point_is : Point → Type 0) (stage_is : Stage → Type 0) → ((s : Stage) (t : Point) → IsAt facts c s t → stage_is s → point_is t)
        → session.IsBrokenOff image limit f (first_stage picking m) stage_is before after → IsBrokenOff g limit h first point_is before after
    broken point_is stage_is so b =
        let there : IsAt facts c (stage b.count) (point_after g b.count first) = comes_to facts c kept numbered numbers picking m is b.count b.way.passed in
        record {
          count = b.count;
          left = b.left;
          way = way_to g limit first b.count b.left b.way.sum (passes_to facts c kept numbered numbers picking m is b.count b.way.passed);
          stands = so (stage b.count) (point_after g b.count first) there b.stands;
          bytes = (stage b.count).printed;
          output = there.printed;
          front = b.front;
        }

    worn : Ends facts limit first f h [] → f.ending ≡ Memory → new ≡ f.machine → AppendsFront before after f.printed
        → IsBrokenOff g limit h first (λ s. IsWornOut facts new s) before after
    worn (agreeing plain agrees) wears machine front = absurd (plain.0 wears)
    worn (not_counted uncounts count left sum passed agrees output) wears machine front = record {
      count = count;
      left = left;
      way = way_to g limit first count left sum passed;
      stands = subst (λ (x : Machine). IsWornOut facts x (point_after g count first)) (sym machine) agrees;
      bytes = f.printed;
      output = output;
      front = front;
    }

    cut_at : Ends facts limit first f h [] → new ≡ f.machine → AppendsFront before after f.printed → IsCut facts limit h first new before after
    cut_at (agreeing plain agrees) machine front =
        let (more, e) = alike.front in
        at_the_end (record {
          agrees = subst (λ (x : Machine). Agrees facts x h.config) (sym machine) agrees;
          bytes = f.printed ++ more;
          output = e ∙ append_assoc c.output f.printed more;
          front = AppendsFront-append before after f.printed more front;
        })
    cut_at (not_counted uncounts count left sum passed agrees output) machine front =
        uncounted (worn (not_counted uncounts count left sum passed agrees output) uncounts machine front)

    cut : session.IsCut image limit f (first_stage picking m) new before after → IsCut facts limit h first new before after
    cut (broken_on_the_way b) =
        on_the_way (broken (λ t. Agrees facts new t.config) (λ s. new ≡ s.machine)
        (λ s t so same. subst (λ (x : Machine). Agrees facts x t.config) (sym same) so.relates.agrees) b)
    cut (broken_at_the_end machine front) = cut_at ends machine front

    wanting : session.IsWanting image limit f (first_stage picking m) new before after → IsWanting facts limit h first new before after
    wanting (was_refused b) =
        refused
        (broken (λ t. IsUntried facts new t) (λ s. stages.IsUntried image s new)
        (λ s t so untried. is_untried facts c kept numbered numbers s t so new untried) b)
    wanting (was_worn_out wears machine front) = worn_out (worn ends wears machine front)

    -- ## All endings

    pub stands : (ending : Ending) → IsCourse image limit f (first_stage picking m) new ending before after
        → IsStanding facts limit h first new ending before after
    stands Finished e = at_end Finished (λ is. let no : Finished ≡ Memory = is in cc) e ends
    stands (Fault process line fault) e = at_end (Fault process line fault) (λ is. let no : Fault process line fault ≡ Memory = is in cc) e ends
    stands Deadlock e = at_end Deadlock (λ is. let no : Deadlock ≡ Memory = is in cc) e ends
    stands (Limit n) e = at_end (Limit n) (λ is. let no : Limit n ≡ Memory = is in cc) e ends
    stands (Script item why) e = at_end (Script item why) (λ is. let no : Script item why ≡ Memory = is in cc) e ends
    stands SinkFailed e = cut e
    stands Memory e = wanting e

-- ## Somewhere

module _ (facts : Facts) (limit : ℕ) (h : sr.Run) (first : Point) (m : Machine) (before after : Option (List ℕ)) where
  abbrev Broken : (Point → Type 0) → Type 0
  Broken point_is = IsBrokenOff (program_in facts) limit h first point_is before after

  on_a_way : (point_is : Point → Type 0) → ((s : Point) → point_is s → StandsFor facts m s) → Broken point_is → StandsIn facts limit h first m
  on_a_way point_is so b = passing b.count b.left b.way (so (point_after (program_in facts) b.count first) b.stands)

  in_cut : IsCut facts limit h first m before after → StandsIn facts limit h first m
  in_cut (on_the_way b) = on_a_way (λ s. Agrees facts m s.config) (λ s. behind_action) b
  in_cut (at_the_end e) = ended e.agrees
  in_cut (uncounted b) = on_a_way (λ s. IsWornOut facts m s) (λ s worn. settled worn.0) b

  in_wanting : IsWanting facts limit h first m before after → StandsIn facts limit h first m
  in_wanting (refused b) = on_a_way (λ s. IsUntried facts m s) (λ s. before_action) b
  in_wanting (worn_out b) = on_a_way (λ s. IsWornOut facts m s) (λ s worn. settled worn.0) b

  pub somewhere : (ending : Ending) → IsStanding facts limit h first m ending before after → StandsIn facts limit h first m
  somewhere Finished e = ended e.agrees
  somewhere (Fault process line fault) e = ended e.agrees
  somewhere Deadlock e = ended e.agrees
  somewhere (Limit n) e = ended e.agrees
  somewhere (Script item why) e = ended e.agrees
  somewhere SinkFailed e = in_cut e
  somewhere Memory e = in_wanting e
