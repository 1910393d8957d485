use Rattle.std.proofs.lemmas.Result.{err_from_is_err_and}
use Rattle.pfc_grammar.specs.placed.Reading.{bind}
use Rattle.pfc_token_parser.proofs.Branches.{bind_halts}
use Rattle.pfc_parse.proofs.Whole.{program_is}
use Rattle.pfc_parse.proofs.program.program.Goals as goal

pub returns-in_err-place : goal.returns-in_err-place
returns-in_err-place c = let p = err_from_is_err_and c.from_residual.result c.from_residual.ensures.1 in rw (p.1, p.2, program_is c.args.tokens.now)
    (bind_halts _ _ _ _ c.in_err-place.ensures.gives)

pub returns : goal.returns
unfolding bind
returns c = rw (program_is c.args.tokens.now, c.in_ok-place.ensures.gives) c.program_behind.ensures
