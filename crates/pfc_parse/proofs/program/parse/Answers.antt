use Rattle.pfc_grammar.specs.placed.Parts.{read_tokens}
use Rattle.pfc_parse.proofs.Whole.{read_alone, halts_alone, halts_at_fault}
use Rattle.pfc_parse.proofs.program.parse.Goals as goal

pub returns-in-Ok-clause-tree : goal.returns-in-Ok-clause-tree
returns-in-Ok-clause-tree c = c.a_reading_of_tokens_is_exact.ensures.read _ _ _ c.in-Ok.ensures

pub returns-in-Ok-clause-level : goal.returns-in-Ok-clause-level
returns-in-Ok-clause-level c = c.a_reading_of_tokens_is_exact.ensures.within _ _ _ c.in-Ok.ensures

pub returns-in-Ok-clause-only : goal.returns-in-Ok-clause-only
returns-in-Ok-clause-only c = λ shape lawful small written. read_alone (read_tokens c.args.tokens.now) c.in-Ok.tree shape c.in-Ok.ensures
    (c.a_reading_of_tokens_is_exact.ensures.back c.args.tokens.now shape lawful small written)

pub returns-in-Err-clause-only : goal.returns-in-Err-clause-only
returns-in-Err-clause-only c =
    λ shape lawful small written. rw c.fault_at.ensures (halts_alone _ c.in-Err.halt (read_tokens c.args.tokens.now) shape c.in-Err.ensures
    (c.a_reading_of_tokens_is_exact.ensures.back c.args.tokens.now shape lawful small written))

pub returns-in-Err-clause-fault : goal.returns-in-Err-clause-fault
returns-in-Err-clause-fault c =
    rw c.fault_at.ensures (halts_at_fault c.args.tokens.now c.in-Err.halt (read_tokens c.args.tokens.now)
    (c.a_reading_of_tokens_is_exact.ensures.unexpected c.args.tokens.now) (c.a_reading_of_tokens_is_exact.ensures.too_deep c.args.tokens.now) c.in-Err.ensures)
