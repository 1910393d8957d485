use Rattle.std.proofs.Common.{refl}
use Rattle.pfc_semantics.specs.Configurations.{start}
use Rattle.pfc_semantics.specs.Programs.{program_of}
use Rattle.pfc_semantics.specs.Runs.{run}
use Rattle.pfc_translation.specs.Images.{image_of}
use Rattle.pfc_machines.specs.Machines.{start_machine}
use Rattle.pfc_represented_start.specs.Starts.{start_facts}
use Rattle.pfc_represented_start.proofs.Checked.{none_broken, can_start, checked_start}
use Rattle.pfc_run_agreement.proofs.Agreeing.{may_run}
use Rattle.pfc_simulation.proofs.Simulating.{goes_on_agreeing, runs_alike, session_alike}
use Rattle.pfc_source_runs.specs.Points.{first_point}
use Rattle.pfc_source_runs.proofs.Standing.{stands, somewhere}
use Rattle.pfc_source_runs.proofs.laws.checked_programs_run.Goals as goal

pub returns-clause-start : goal.returns-clause-start
returns-clause-start c = λ t lawful whole short. can_start t lawful (none_broken t whole) short

pub returns-clause-may : goal.returns-clause-may
returns-clause-may c = λ t input seed limit picking text whole fits bytes short.
    may_run (image_of t) (program_of t) limit picking (start_machine (image_of t) input seed) (start (program_of t) input seed)
    (goes_on_agreeing (start_facts t) limit picking (start_machine (image_of t) input seed) (start (program_of t) input seed)
    (c.checked_runs_are_kept.ensures.kept t input seed text whole fits bytes short) refl
    (c.checked_runs_are_kept.ensures.rules t input seed text whole fits bytes short)
    (checked_start t input seed text.lawful (none_broken t whole) short))

pub returns-clause-runs : goal.returns-clause-runs
returns-clause-runs c = λ t input seed limit picking text whole fits bytes short.
    runs_alike (start_facts t) input seed limit picking (start_machine (image_of t) input seed)
    (c.checked_runs_are_kept.ensures.kept t input seed text whole fits bytes short) refl
    (c.checked_runs_are_kept.ensures.rules t input seed text whole fits bytes short) (checked_start t input seed text.lawful (none_broken t whole) short)

pub returns-clause-sessions : goal.returns-clause-sessions
returns-clause-sessions c = λ t input seed limit picking new ending before after text whole fits bytes short course.
    session_alike (start_facts t) input seed limit picking (start_machine (image_of t) input seed) new ending before after
    (c.checked_runs_are_kept.ensures.kept t input seed text whole fits bytes short) refl
    (c.checked_runs_are_kept.ensures.rules t input seed text whole fits bytes short)
    (checked_start t input seed text.lawful (none_broken t whole) short) course

pub returns-clause-standing : goal.returns-clause-standing
returns-clause-standing c = λ t input seed limit picking new ending before after text whole fits bytes short course.
    stands (start_facts t) (start (program_of t) input seed) (c.checked_runs_are_kept.ensures.kept t input seed text whole fits bytes short) refl
    (c.checked_runs_are_kept.ensures.rules t input seed text whole fits bytes short) limit picking (start_machine (image_of t) input seed)
    (checked_start t input seed text.lawful (none_broken t whole) short) new before after ending course

pub returns-clause-somewhere : goal.returns-clause-somewhere
returns-clause-somewhere c = λ t input seed limit picking new ending before after text whole fits bytes short course.
    somewhere (start_facts t) limit (run t input seed picking limit) (first_point picking (start (program_of t) input seed)) new before after ending
    (stands (start_facts t) (start (program_of t) input seed) (c.checked_runs_are_kept.ensures.kept t input seed text whole fits bytes short) refl
    (c.checked_runs_are_kept.ensures.rules t input seed text whole fits bytes short) limit picking (start_machine (image_of t) input seed)
    (checked_start t input seed text.lawful (none_broken t whole) short) new before after ending course)
