use Rattle.std.proofs.Common.{◌≡◌, Option, Some, None, rules, refl, subst}
use Rattle.pfc_outcome.specs.Asked.{asked_of, texts_of}
use Rattle.pfc_outcome.specs.Options.{Asked, options_of}
use Rattle.pfc_outcome.specs.Outcomes.{IsOutcomeBy, without_run}
use Rattle.pfc_report.specs.Refusals.{words_refused_text}
use Rattle.pfc_top.specs.Answers.{GivesOne}
use Rattle.pfc_top.specs.Meanings.{source_meaning}
use Rattle.pfc_top.proofs.Outcomes.{refused_front}
use Rattle.pfc_top.proofs.top.pfc.Goals as goal

pub returns-in-Ok-Some-clause-headline : goal.returns-in-Ok-Some-clause-headline
returns-in-Ok-Some-clause-headline g c = λ files told unfailed uncut memory.
    let given : Some (asked_of c.in-Ok-Some.options) ≡ options_of (texts_of c.args.words.now) = search rules in
    subst (λ (asked : Option Asked). GivesOne (IsOutcomeBy source_meaning asked files) c.answer_options.result (g.O.Sink.written c.args.sink.now)
    (g.O.Sink.written c.answer_options.new.sink)) given
    (c.answer_options.ensures.outcome files told (λ six. unfailed (c.answer_options.ensures.load_failed six))
    (λ seven. uncut (c.answer_options.ensures.write_failed seven)) memory)

pub returns-in-Ok-None-clause-cut : goal.returns-in-Ok-None-clause-cut
returns-in-Ok-None-clause-cut g c = λ files told seven.
    let given : None ≡ options_of (texts_of c.args.words.now) = search rules in (
      without_run 2 words_refused_text,
      subst (λ (asked : Option Asked). IsOutcomeBy source_meaning asked files (without_run 2 words_refused_text)) given refl,
      refused_front (without_run 2 words_refused_text) c.refuse_words.result (g.O.Sink.written c.args.sink.now)
          (g.O.Sink.written c.refuse_words.new.sink) c.refuse_words.ensures.written
          c.refuse_words.ensures.only c.ended.result c.ended.ensures seven,
    )
