use Rattle.std.proofs.Common.{[], false, ◌∙◌, ap, refl}
use Rattle.pfc_code.specs.Images.{PlainImage, plain_image}
use Rattle.pfc_io.proofs.Written.{AppendsFront-append, AppendsFront-none}
use Rattle.pfc_report.specs.Reports.{report_text}
use Rattle.pfc_state.specs.declared.endings.Ending.TheVariants.{Script}
use Rattle.pfc_state.specs.declared.endings.ScriptWhy.TheVariants.{NotANumber}
use Rattle.pfc_outcome.specs.Outcomes.{behind, stopped_at}
use Rattle.pfc_top.specs.Listings.{list_text}
use Rattle.pfc_top.specs.Meanings.{source_meaning}
use Rattle.pfc_top.proofs.Outcomes.{both_said, gives_unrun, second_cut, stopped_written}
use Rattle.pfc_top.proofs.answering.stop_at.Goals as goal

pub returns-in_err-line-clause-written : goal.returns-in_err-line-clause-written
returns-in_err-line-clause-written g c = λ tree is.
    stopped_written c.from_residual.result _ c.from_residual.ensures.1 (behind (list_text c.args.options.now c.args.text.now (plain_image c.args.image.now))
    (stopped_at source_meaning tree c.args.item))
    (g.O.Sink.written c.args.sink.now) (g.O.Sink.written c.args.sink.now) (AppendsFront-none _ _)

pub returns-in_err-list-clause-written : goal.returns-in_err-list-clause-written
returns-in_err-list-clause-written g c = λ tree is.
    stopped_written c.from_residual-in_err-list.result _ c.from_residual-in_err-list.ensures.1
    (behind (list_text c.args.options.now c.args.text.now (plain_image c.args.image.now)) (stopped_at source_meaning tree c.args.item))
    (g.O.Sink.written c.args.sink.now) (g.O.Sink.written c.list.new.sink) (AppendsFront-append _ _ _ _ c.in_err-list.ensures.front)

pub returns-in_err-say-clause-written : goal.returns-in_err-say-clause-written
returns-in_err-say-clause-written g c = λ tree is.
    stopped_written c.from_residual-in_err-say.result _ c.from_residual-in_err-say.ensures.1
    (behind (list_text c.args.options.now c.args.text.now (plain_image c.args.image.now)) (stopped_at source_meaning tree c.args.item))
    (g.O.Sink.written c.args.sink.now) (g.O.Sink.written c.say.new.sink)
    (second_cut (list_text c.args.options.now c.args.text.now (plain_image c.args.image.now)) _ _ c.deref.result.now refl
    (c.deref.ensures.value ∙ c.in_ok-line.ensures ∙ ap (λ (i : PlainImage). report_text (Script c.args.item NotANumber) [] i false) is.same)
    (g.O.Sink.written c.args.sink.now) (g.O.Sink.written c.list.new.sink)
    (g.O.Sink.written c.say.new.sink) c.in_ok-list.ensures.whole c.in_err-say.ensures.front)

pub returns-clause-written : goal.returns-clause-written
returns-clause-written g c = λ tree is.
    gives_unrun c.without_run.result 10 (list_text c.args.options.now c.args.text.now (plain_image c.args.image.now)) _
    (g.O.Sink.written c.args.sink.now) (g.O.Sink.written c.say.new.sink)
    c.without_run.ensures
    (both_said (list_text c.args.options.now c.args.text.now (plain_image c.args.image.now)) _ _ c.deref.result.now refl
    (c.deref.ensures.value ∙ c.in_ok-line.ensures ∙ ap (λ (i : PlainImage). report_text (Script c.args.item NotANumber) [] i false) is.same)
    (g.O.Sink.written c.args.sink.now) (g.O.Sink.written c.list.new.sink)
    (g.O.Sink.written c.say.new.sink) c.in_ok-list.ensures.whole c.in_ok-say.ensures.whole)
