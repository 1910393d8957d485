use Rattle.pfc_call_laws.proofs.Creating.{process_sees, shows_process, held, new_stands, maker_stands}
use Rattle.pfc_call_laws.proofs.laws.created_processes_see.Goals as goal

pub returns-clause-seen : goal.returns-clause-seen
returns-clause-seen c = λ g homes entries config main p k ops callee code values sound free few place scopes nested shows display lent holds. (
  process_sees g homes entries config main callee scopes nested shows display sound free p k ops code values few place lent holds,
  shows_process g homes entries config main callee scopes nested shows display,
)

pub returns-clause-held : goal.returns-clause-held
returns-clause-held c = λ g homes entries config stacks k p from callee code values hold idle there free place scopes none holds.
    held g homes entries config stacks k p from callee code values hold idle there free place scopes none holds

pub returns-clause-process : goal.returns-clause-process
returns-clause-process c = λ stacks k p from i code there. new_stands stacks k p from code there i

pub returns-clause-maker : goal.returns-clause-maker
returns-clause-maker c = λ stacks k p from at room code ops w there apart stands looks. maker_stands stacks k p from code there at room ops w apart stands looks
