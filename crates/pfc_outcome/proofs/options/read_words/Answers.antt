use Rattle.std.proofs.Common.{◌∙◌, rules}
use Rattle.clap.specs.Words.{app_of, found_of, rows_of}
use Rattle.pfc_outcome.specs.Asked.{texts_of}
use Rattle.pfc_outcome.specs.Options.{asked_by, pfc_command}
use Rattle.pfc_outcome.proofs.Command.{pfc_free, pfc_simple, refused_words, taken_words}
use Rattle.pfc_outcome.proofs.options.read_words.Goals as goal

pub returns-in_err-command : goal.returns-in_err-command
returns-in_err-command c = search rules

pub returns-in-Ok-clause-options : goal.returns-in-Ok-clause-options
returns-in-Ok-clause-options c =
    c.options_in.ensures.options ∙ taken_words pfc_command pfc_simple pfc_free (λ rows. asked_by rows) (app_of c.in_ok-command.command)
    (texts_of c.args.words.now) (rows_of (found_of c.in-Ok.matches))
    c.in_ok-command.ensures (λ e. (c.in-Ok.ensures.matches e).0) c.in-Ok.ensures.kinds

pub returns-in_err-refused_for_words-in-Err : goal.returns-in_err-refused_for_words-in-Err
returns-in_err-refused_for_words-in-Err c = search rules

pub returns-in_ok-refused_for_words-in-Err-clause-options : goal.returns-in_ok-refused_for_words-in-Err-clause-options
returns-in_ok-refused_for_words-in-Err-clause-options c =
    refused_words pfc_command pfc_simple pfc_free (λ rows. asked_by rows) (app_of c.in_ok-command.command)
    (texts_of c.args.words.now) c.in-Err.error c.in_ok-command.ensures
    c.in_ok-refused_for_words-in-Err.ensures c.in-Err.ensures.kinds

pub returns-in-Ok-clause-within : goal.returns-in-Ok-clause-within
returns-in-Ok-clause-within c = c.options_in.ensures.within
