use Rattle.pfc_walker.proofs.walker.Walker.run.Goals as goal

pub run_state-requires : goal.run_state-requires
run_state-requires g c = let (g', c', walks) = c.requires in (g', c', walks.program, walks.stands, walks.line)

pub returns-clause-run : goal.returns-clause-run
returns-clause-run g c = λ g' c' walks. c.run_state.ensures.run g' c' walks.program walks.stands walks.line

pub returns-clause-line : goal.returns-clause-line
returns-clause-line g c = λ g' c' walks. c.run_state.ensures.line g' c' walks.program walks.stands walks.line
