use Rattle.pfc_semantics.specs.Runs as source
use Rattle.pfc_sessions.specs.Runs.{run_from}
use Rattle.pfc_sessions.specs.Stages.{first_stage}
use Rattle.pfc_run_agreement.proofs.Agreeing.{same_runs}
use Rattle.pfc_run_agreement.proofs.Coursing.{same_course}
use Rattle.pfc_run_agreement.proofs.laws.sessions_run_the_source.Goals as goal

pub returns : goal.returns
returns c = λ image g limit picking m new d ending before after agree course.
    same_course image limit (run_from image limit limit picking m) (first_stage picking m) (source.run_from g limit limit picking d) d new before after
    (same_runs image g limit limit picking m d agree) ending course
