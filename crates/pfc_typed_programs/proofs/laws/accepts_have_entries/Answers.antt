use Rattle.pfc_typed_programs.proofs.Entries.{process_accepts}
use Rattle.pfc_typed_programs.proofs.laws.accepts_have_entries.Goals as goal

pub returns : goal.returns
returns c = λ t n lawful clean below. process_accepts t n lawful clean below
