use Rattle.std.proofs.Common.{[], rules, sym, subst}
use Rattle.std.specs.Prelude.{IsSome, Option, List}
use Rattle.pfc_io.specs.Files.{File}
use Rattle.pfc_outcome.specs.Asked.{asked_of}
use Rattle.pfc_outcome.specs.Outcomes.{without_run}
use Rattle.pfc_walk.specs.Meanings.{whole_meaning}
use Rattle.pfc_walk.specs.Traces.{IsToldOf}
use Rattle.pfc_walk.proofs.Outcomes.{answered_cut, answered_memory, answered_one, files_replies, gives_nothing, long_outcome, status_reply}
use Rattle.pfc_walk.proofs.top.answer_options.Goals as goal

pub returns-in-Ok-clause-outcome : goal.returns-in-Ok-clause-outcome
returns-in-Ok-clause-outcome g c = λ files told six seven eight.
    let are = c.in-Ok.ensures.given files told in
    answered_one (IsToldOf c.args.shown whole_meaning (asked_of c.args.options.now) files) (g.O.Sink.written c.args.sink.now)
    (g.O.Sink.written c.answer.new.sink) c.answer.result
    (files_replies files (asked_of c.args.options.now) c.in-Ok.loaded are c.args.shown c.answer.result
    (g.O.Sink.written c.args.sink.now) (g.O.Sink.written c.answer.new.sink)
    c.answer.ensures.replies)
    c.answer.ensures.sound c.ended.result c.ended.ensures seven eight

pub returns-in-Ok-clause-sound : goal.returns-in-Ok-clause-sound
returns-in-Ok-clause-sound g c = status_reply c.answer.result c.answer.ensures.sound c.ended.result c.ended.ensures

pub returns-in-Ok-clause-cut : goal.returns-in-Ok-clause-cut
returns-in-Ok-clause-cut g c = λ files told seven.
    let are = c.in-Ok.ensures.given files told in
    answered_cut (IsToldOf c.args.shown whole_meaning (asked_of c.args.options.now) files) (g.O.Sink.written c.args.sink.now)
    (g.O.Sink.written c.answer.new.sink) c.answer.result
    (files_replies files (asked_of c.args.options.now) c.in-Ok.loaded are c.args.shown c.answer.result
    (g.O.Sink.written c.args.sink.now) (g.O.Sink.written c.answer.new.sink)
    c.answer.ensures.replies)
    c.answer.ensures.sound c.ended.result c.ended.ensures seven

pub returns-in-Ok-clause-no_memory : goal.returns-in-Ok-clause-no_memory
returns-in-Ok-clause-no_memory g c = λ files told eight.
    let are = c.in-Ok.ensures.given files told in
    answered_memory (IsToldOf c.args.shown whole_meaning (asked_of c.args.options.now) files) (g.O.Sink.written c.args.sink.now)
    (g.O.Sink.written c.answer.new.sink) c.answer.result
    (files_replies files (asked_of c.args.options.now) c.in-Ok.loaded are c.args.shown c.answer.result
    (g.O.Sink.written c.args.sink.now) (g.O.Sink.written c.answer.new.sink)
    c.answer.ensures.replies)
    c.answer.ensures.sound c.ended.result c.ended.ensures eight

pub returns-in-Err-TooLong-clause-outcome : goal.returns-in-Err-TooLong-clause-outcome
returns-in-Err-TooLong-clause-outcome g c = λ files told six seven eight. (
  without_run 9 [],
  long_outcome c.args.shown (g.F.Shelf.told c.args.shelf.now) files (asked_of c.args.options.now) told
      (c.in-Err-TooLong.ensures.long (search rules) (subst (λ (t : Option (List File)). IsSome t) (sym told) (search rules))),
  gives_nothing 9 9 (g.O.Sink.written c.args.sink.now) (search rules),
)
