use Rattle.std.proofs.Common.{[], rules, sym, subst}
use Rattle.std.specs.Prelude.{IsSome, Option, List}
use Rattle.pfc_io.specs.Files.{File}
use Rattle.pfc_outcome.specs.Asked.{asked_of}
use Rattle.pfc_outcome.specs.Outcomes.{IsOutcomeOf, without_run}
use Rattle.pfc_top.specs.Meanings.{source_meaning}
use Rattle.pfc_top.proofs.Outcomes.{answered_cut, answered_memory, answered_one, files_replies, gives_nothing, long_outcome}
use Rattle.pfc_top.proofs.top.answer_options.Goals as goal

pub returns-in-Ok-clause-outcome : goal.returns-in-Ok-clause-outcome
returns-in-Ok-clause-outcome g c = λ files told six seven eight.
    answered_one (IsOutcomeOf source_meaning (asked_of c.args.options.now) files) (g.O.Sink.written c.args.sink.now)
    (g.O.Sink.written c.answer.new.sink) c.answer.result
    (files_replies files (asked_of c.args.options.now) c.in-Ok.loaded (c.in-Ok.ensures.given files told) c.answer.result (g.O.Sink.written c.args.sink.now)
    (g.O.Sink.written c.answer.new.sink) c.answer.ensures.replies)
    c.answer.ensures.sound c.ended.result c.ended.ensures seven eight

pub returns-in-Ok-clause-cut : goal.returns-in-Ok-clause-cut
returns-in-Ok-clause-cut g c = λ files told seven.
    answered_cut (IsOutcomeOf source_meaning (asked_of c.args.options.now) files) (g.O.Sink.written c.args.sink.now)
    (g.O.Sink.written c.answer.new.sink) c.answer.result
    (files_replies files (asked_of c.args.options.now) c.in-Ok.loaded (c.in-Ok.ensures.given files told) c.answer.result (g.O.Sink.written c.args.sink.now)
    (g.O.Sink.written c.answer.new.sink) c.answer.ensures.replies)
    c.answer.ensures.sound c.ended.result c.ended.ensures seven

pub returns-in-Ok-clause-no_memory : goal.returns-in-Ok-clause-no_memory
returns-in-Ok-clause-no_memory g c = λ files told eight.
    answered_memory (IsOutcomeOf source_meaning (asked_of c.args.options.now) files) (g.O.Sink.written c.args.sink.now)
    (g.O.Sink.written c.answer.new.sink) c.answer.result
    (files_replies files (asked_of c.args.options.now) c.in-Ok.loaded (c.in-Ok.ensures.given files told) c.answer.result (g.O.Sink.written c.args.sink.now)
    (g.O.Sink.written c.answer.new.sink) c.answer.ensures.replies)
    c.answer.ensures.sound c.ended.result c.ended.ensures eight

pub returns-in-Err-TooLong-clause-outcome : goal.returns-in-Err-TooLong-clause-outcome
returns-in-Err-TooLong-clause-outcome g c = λ files told six seven eight. (
  without_run 9 [],
  long_outcome (g.F.Shelf.told c.args.shelf.now) files (asked_of c.args.options.now) told
      (c.in-Err-TooLong.ensures.long (search rules) (subst (λ (t : Option (List File)). IsSome t) (sym told) (search rules))),
  gives_nothing c.without_run-in-Err-TooLong.result 9 (g.O.Sink.written c.args.sink.now) c.without_run-in-Err-TooLong.ensures,
)
