use Rattle.pfc_simulation.proofs.Simulating.{session_alike}
use Rattle.pfc_simulation.proofs.laws.sessions_run_their_source.Goals as goal

pub returns : goal.returns
returns c = λ facts input seed limit picking m new ending before after kept numbered numbers is course.
    session_alike facts input seed limit picking m new ending before after kept numbered numbers is course
