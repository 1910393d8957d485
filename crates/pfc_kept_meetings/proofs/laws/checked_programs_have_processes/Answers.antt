use Rattle.pfc_kept_meetings.proofs.Told.{has_processes, has_typed_entries}
use Rattle.pfc_kept_meetings.proofs.laws.checked_programs_have_processes.Goals as goal

pub returns-clause-processes : goal.returns-clause-processes
returns-clause-processes c = has_processes

pub returns-clause-entries : goal.returns-clause-entries
returns-clause-entries c = has_typed_entries
