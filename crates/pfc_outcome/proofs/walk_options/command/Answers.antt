use Rattle.std.proofs.Common.{◌∙◌, ap₂}
use Rattle.std.proofs.lemmas.Result.{IfOk-weaker}
use Rattle.clap.specs.Words.{with_rule}
use Rattle.pfc_outcome.proofs.walk_options.command.Goals as goal

pub returns : goal.returns
returns c =
    let one = c.in_ok-command.ensures ∙ ap₂ with_rule c.new-command.ensures.app c.needed_file.ensures.rule in
    let two = c.in_ok-command-2.ensures ∙ ap₂ with_rule one c.number.ensures.rule in
    let three = c.in_ok-command-3.ensures ∙ ap₂ with_rule two c.flag.ensures.rule in
    let four = c.in_ok-command-4.ensures ∙ ap₂ with_rule three c.number-2.ensures.rule in
    let five = c.in_ok-command-5.ensures ∙ ap₂ with_rule four c.word.ensures.rule in
    let six = c.in_ok-command-6.ensures ∙ ap₂ with_rule five c.word-2.ensures.rule in
    let seven = c.in_ok-command-7.ensures ∙ ap₂ with_rule six c.flag-2.ensures.rule in
    let eight = c.in_ok-command-8.ensures ∙ ap₂ with_rule seven c.flag-3.ensures.rule in
    IfOk-weaker c.with-9.result _ _ (λ more h. h ∙ ap₂ with_rule eight c.flag-4.ensures.rule) c.with-9.ensures
