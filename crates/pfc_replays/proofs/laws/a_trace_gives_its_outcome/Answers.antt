use Rattle.pfc_replays.proofs.Files.{replays_options}
use Rattle.pfc_replays.proofs.Texts.{replays_text}
use Rattle.pfc_replays.proofs.laws.a_trace_gives_its_outcome.Goals as goal

pub returns-clause-text : goal.returns-clause-text
returns-clause-text c = replays_text

pub returns-clause-options : goal.returns-clause-options
returns-clause-options c = replays_options
