use Rattle.std.proofs.Common.{◌≡◌, ◌∙◌, IfSome, List, rules, subst}
use Rattle.clap.specs.Words.{Row, app_of, found_of, rows_of}
use Rattle.pfc_outcome.specs.Asked.{texts_of}
use Rattle.pfc_outcome.specs.WalkOptions.{shown_with, walk_asked_by, walk_command}
use Rattle.pfc_outcome.proofs.Command.{walk_free, walk_simple, found_rows, refused_words, taken_words}
use Rattle.pfc_outcome.proofs.walk_options.read_walk_words.Goals as goal

pub returns-in_err-command : goal.returns-in_err-command
returns-in_err-command c = search rules

pub returns-in-Ok-clause-options : goal.returns-in-Ok-clause-options
returns-in-Ok-clause-options c =
    c.walk_options_in.ensures.options ∙ taken_words walk_command walk_simple walk_free (λ rows. walk_asked_by rows) (app_of c.in_ok-command.command)
    (texts_of c.args.words.now) (rows_of (found_of c.in-Ok.matches))
    c.in_ok-command.ensures (λ e. (c.in-Ok.ensures.matches e).0) c.in-Ok.ensures.kinds

pub returns-in-Ok-clause-shown : goal.returns-in-Ok-clause-shown
returns-in-Ok-clause-shown c =
    subst (λ (rows : List Row). IfSome c.walk_options_in.result (λ asked. asked.shown ≡ shown_with rows))
    (found_rows walk_command walk_simple walk_free (λ rows. walk_asked_by rows) (app_of c.in_ok-command.command) (texts_of c.args.words.now)
    (rows_of (found_of c.in-Ok.matches)) c.in_ok-command.ensures (λ e. (c.in-Ok.ensures.matches e).0))
    c.walk_options_in.ensures.shown

pub returns-in_err-refused_for_words-in-Err : goal.returns-in_err-refused_for_words-in-Err
returns-in_err-refused_for_words-in-Err c = search rules

pub returns-in_ok-refused_for_words-in-Err-clause-options : goal.returns-in_ok-refused_for_words-in-Err-clause-options
returns-in_ok-refused_for_words-in-Err-clause-options c =
    refused_words walk_command walk_simple walk_free (λ rows. walk_asked_by rows) (app_of c.in_ok-command.command)
    (texts_of c.args.words.now) c.in-Err.error c.in_ok-command.ensures
    c.in_ok-refused_for_words-in-Err.ensures c.in-Err.ensures.kinds

pub returns-in-Ok-clause-within : goal.returns-in-Ok-clause-within
returns-in-Ok-clause-within c = c.walk_options_in.ensures.within

pub returns-in-Ok-clause-codeless : goal.returns-in-Ok-clause-codeless
returns-in-Ok-clause-codeless c = c.walk_options_in.ensures.codeless

pub returns-in-Ok-clause-few : goal.returns-in-Ok-clause-few
returns-in-Ok-clause-few c = c.walk_options_in.ensures.few
