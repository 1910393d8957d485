use Rattle.std.proofs.Common.{◌≡◌, Option, Some, None, rules, refl, subst}
use Rattle.pfc_outcome.specs.Asked.{walk_asked_of, texts_of}
use Rattle.pfc_outcome.specs.Options.{Asked}
use Rattle.pfc_outcome.specs.WalkOptions.{shown_of, walk_options_of}
use Rattle.pfc_outcome.specs.declared.walk_options.Shown.{Shown}
use Rattle.pfc_outcome.specs.Outcomes.{without_run}
use Rattle.pfc_walk.specs.Answers.{GivesFront, GivesFrontOfAll, GivesOne}
use Rattle.pfc_walk.specs.Meanings.{whole_meaning}
use Rattle.pfc_walk.specs.Words.{IsWalkOutcomeBy, refused_text}
use Rattle.pfc_walk.proofs.Outcomes.{refused_front}
use Rattle.pfc_walk.proofs.top.walk.Goals as goal

pub returns-in-Ok-Some-clause-headline : goal.returns-in-Ok-Some-clause-headline
returns-in-Ok-Some-clause-headline g c = λ files told unfailed uncut memory.
    let shown_is : c.in-Ok-Some.asked.shown ≡ shown_of (texts_of c.args.words.now) = search rules in
    let given : Some (walk_asked_of c.in-Ok-Some.asked) ≡ walk_options_of (texts_of c.args.words.now) = search rules in
    subst (λ (asked : Option Asked). GivesOne (IsWalkOutcomeBy (shown_of (texts_of c.args.words.now)) whole_meaning asked files) c.answer_options.result
    (g.O.Sink.written c.args.sink.now) (g.O.Sink.written c.answer_options.new.sink)) given
    (subst (λ (t : Shown). GivesOne (IsWalkOutcomeBy t whole_meaning (Some (walk_asked_of c.in-Ok-Some.asked)) files) c.answer_options.result
    (g.O.Sink.written c.args.sink.now) (g.O.Sink.written c.answer_options.new.sink)) shown_is
    (c.answer_options.ensures.outcome files told (λ six. unfailed (c.answer_options.ensures.load_failed six))
    (λ seven. uncut (c.answer_options.ensures.write_failed seven)) memory))

pub returns-in-Ok-Some-clause-outcome : goal.returns-in-Ok-Some-clause-outcome
returns-in-Ok-Some-clause-outcome g c = λ files told six seven eight.
    let shown_is : c.in-Ok-Some.asked.shown ≡ shown_of (texts_of c.args.words.now) = search rules in
    let given : Some (walk_asked_of c.in-Ok-Some.asked) ≡ walk_options_of (texts_of c.args.words.now) = search rules in
    subst (λ (asked : Option Asked). GivesOne (IsWalkOutcomeBy (shown_of (texts_of c.args.words.now)) whole_meaning asked files) c.answer_options.result
    (g.O.Sink.written c.args.sink.now) (g.O.Sink.written c.answer_options.new.sink)) given
    (subst (λ (t : Shown). GivesOne (IsWalkOutcomeBy t whole_meaning (Some (walk_asked_of c.in-Ok-Some.asked)) files) c.answer_options.result
    (g.O.Sink.written c.args.sink.now) (g.O.Sink.written c.answer_options.new.sink)) shown_is
    (c.answer_options.ensures.outcome files told six seven eight))

pub returns-in-Ok-Some-clause-cut : goal.returns-in-Ok-Some-clause-cut
returns-in-Ok-Some-clause-cut g c = λ files told seven.
    let shown_is : c.in-Ok-Some.asked.shown ≡ shown_of (texts_of c.args.words.now) = search rules in
    let given : Some (walk_asked_of c.in-Ok-Some.asked) ≡ walk_options_of (texts_of c.args.words.now) = search rules in
    subst (λ (asked : Option Asked). GivesFront (IsWalkOutcomeBy (shown_of (texts_of c.args.words.now)) whole_meaning asked files)
    (g.O.Sink.written c.args.sink.now) (g.O.Sink.written c.answer_options.new.sink)) given
    (subst (λ (t : Shown). GivesFront (IsWalkOutcomeBy t whole_meaning (Some (walk_asked_of c.in-Ok-Some.asked)) files) (g.O.Sink.written c.args.sink.now)
    (g.O.Sink.written c.answer_options.new.sink)) shown_is
    (c.answer_options.ensures.cut files told seven))

pub returns-in-Ok-Some-clause-no_memory : goal.returns-in-Ok-Some-clause-no_memory
returns-in-Ok-Some-clause-no_memory g c = λ files told eight.
    let shown_is : c.in-Ok-Some.asked.shown ≡ shown_of (texts_of c.args.words.now) = search rules in
    let given : Some (walk_asked_of c.in-Ok-Some.asked) ≡ walk_options_of (texts_of c.args.words.now) = search rules in
    subst (λ (asked : Option Asked). GivesFrontOfAll (IsWalkOutcomeBy (shown_of (texts_of c.args.words.now)) whole_meaning asked files)
    (g.O.Sink.written c.args.sink.now) (g.O.Sink.written c.answer_options.new.sink)) given
    (subst (λ (t : Shown). GivesFrontOfAll (IsWalkOutcomeBy t whole_meaning (Some (walk_asked_of c.in-Ok-Some.asked)) files) (g.O.Sink.written c.args.sink.now)
    (g.O.Sink.written c.answer_options.new.sink)) shown_is
    (c.answer_options.ensures.no_memory files told eight))

pub returns-in-Ok-None-clause-cut : goal.returns-in-Ok-None-clause-cut
returns-in-Ok-None-clause-cut g c = λ files told seven.
    let given : None ≡ walk_options_of (texts_of c.args.words.now) = search rules in (
      without_run 2 refused_text,
      subst (λ (asked : Option Asked). IsWalkOutcomeBy (shown_of (texts_of c.args.words.now)) whole_meaning asked files
          (without_run 2 refused_text)) given refl,
      refused_front (without_run 2 refused_text) c.refuse_words.result (g.O.Sink.written c.args.sink.now)
          (g.O.Sink.written c.refuse_words.new.sink) c.refuse_words.ensures.written
          c.refuse_words.ensures.only c.ended.result c.ended.ensures seven,
    )
