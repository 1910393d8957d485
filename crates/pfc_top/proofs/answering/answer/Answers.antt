use Rattle.std.proofs.Common.{ℕ, List, ◌∙◌, subst}
use Rattle.pfc_code.specs.Images.{plain_image}
use Rattle.pfc_outcome.specs.Loaded.{asks}
use Rattle.pfc_outcome.specs.Outcomes.{IsOutcomeOfText, IsUnlisted, behind, listing_written, refused, without_run}
use Rattle.pfc_top.specs.Answers.{IsWritten, Replies}
use Rattle.pfc_top.specs.Meanings.{source_meaning}
use Rattle.pfc_top.specs.Running.{program_outcome}
use Rattle.pfc_top.proofs.Images.{refused_for}
use Rattle.pfc_top.proofs.Outcomes.{listed_outcome, memory_replies, program_outcome_is, replied}
use Rattle.pfc_top.proofs.answering.answer.Goals as goal

pub returns-in_err-line-in-Err-Refused-clause-replies : goal.returns-in_err-line-in-Err-Refused-clause-replies
returns-in_err-line-in-Err-Refused-clause-replies g c =
    memory_replies (IsOutcomeOfText source_meaning c.args.loaded.now.text (asks c.args.options.now c.args.loaded.now)) c.from_residual.result
    (g.O.Sink.written c.args.sink.now) c.from_residual.ensures.1

pub returns-in-Ok-clause-replies : goal.returns-in-Ok-clause-replies
returns-in-Ok-clause-replies g c =
    let text = c.bytes-text.result.now in
    let request = asks c.args.options.now c.args.loaded.now in
    let is = c.in-Ok.ensures.image in
    subst (λ (t : List ℕ). Replies (IsOutcomeOfText source_meaning t request) c.answer_image.result (g.O.Sink.written c.args.sink.now)
    (g.O.Sink.written c.answer_image.new.sink)) c.bytes-text.ensures
    (replied (IsOutcomeOfText source_meaning text request) (program_outcome text is.compiled.tree request)
    (program_outcome_is text (plain_image c.in-Ok.image) is request)
    (c.an_outcome_is_one.ensures.text source_meaning text request) c.answer_image.result (g.O.Sink.written c.args.sink.now)
    (g.O.Sink.written c.answer_image.new.sink)
    (c.answer_image.ensures.written is.compiled.tree is.compiled.is))

pub returns-in_ok-line-in-Err-Refused-clause-replies : goal.returns-in_ok-line-in-Err-Refused-clause-replies
returns-in_ok-line-in-Err-Refused-clause-replies g c =
    let text = c.bytes-text.result.now in
    let request = asks c.args.options.now c.args.loaded.now in
    let r = c.in-Err-Refused.refusal in
    subst (λ (t : List ℕ). Replies (IsOutcomeOfText source_meaning t request) c.refuse.result (g.O.Sink.written c.args.sink.now)
    (g.O.Sink.written c.refuse.new.sink)) c.bytes-text.ensures
    (replied (IsOutcomeOfText source_meaning text request) (behind (listing_written request text) (refused r))
    (listed_outcome text request (refused r)
    (refused_for (IsUnlisted source_meaning text) c.in-Err-Refused.field-0 r c.in-Err-Refused.field-0-is c.in-Err-Refused.ensures.none request))
    (c.an_outcome_is_one.ensures.text source_meaning text request) c.refuse.result (g.O.Sink.written c.args.sink.now) (g.O.Sink.written c.refuse.new.sink)
    (subst (λ (line : List ℕ). IsWritten (behind (listing_written request text) (without_run 1 line)) c.refuse.result
    (g.O.Sink.written c.args.sink.now) (g.O.Sink.written c.refuse.new.sink))
    (c.deref.ensures.value ∙ c.in_ok-line-in-Err-Refused.ensures) c.refuse.ensures.written))
