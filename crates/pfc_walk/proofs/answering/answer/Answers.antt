use Rattle.std.proofs.Common.{ℕ, List, ◌∙◌, refl, subst}
use Rattle.pfc_tree.specs.views.Parts.{tree_view}
use Rattle.pfc_outcome.specs.Loaded.{asks}
use Rattle.pfc_outcome.specs.Outcomes.{IsOutcomeOfText, IsUnlisted, behind, listing_written, refused, without_run}
use Rattle.pfc_walk.specs.Answers.{IsWritten, Replies}
use Rattle.pfc_walk.specs.Meanings.{whole_meaning}
use Rattle.pfc_walk.specs.Traces.{IsToldOfText, program_shown}
use Rattle.pfc_walk.proofs.Readings.{listed_outcome, program_outcome_is, refused_for}
use Rattle.pfc_walk.proofs.Outcomes.{memory_replies, refused_replies, replied, written_as}
use Rattle.pfc_walk.proofs.Traced.{refused_line, told_once, told_program}
use Rattle.pfc_walk.proofs.answering.answer.Goals as goal

pub returns-in-Ok-clause-replies : goal.returns-in-Ok-clause-replies
returns-in-Ok-clause-replies g c =
    let text = c.bytes-text.result.now in
    let request = asks c.args.options.now c.args.loaded.now in
    let tree = tree_view c.in-Ok.sound.checked.0 in
    subst (λ (t : List ℕ). Replies (IsToldOfText c.args.shown whole_meaning t request) c.answer_sound.result (g.O.Sink.written c.args.sink.now)
    (g.O.Sink.written c.answer_sound.new.sink)) c.bytes-text.ensures
    (replied (IsToldOfText c.args.shown whole_meaning text request) (program_shown c.args.shown (listing_written request text) tree request)
    (told_program c.args.shown text tree request (program_outcome_is text tree c.in-Ok.ensures.sound request c.requires.codeless))
    (told_once c.args.shown (listing_written request text) (IsOutcomeOfText whole_meaning text request)
    (c.an_outcome_is_one.ensures.text whole_meaning text request)) c.answer_sound.result (g.O.Sink.written c.args.sink.now)
    (g.O.Sink.written c.answer_sound.new.sink)
    (subst (λ (listing : List ℕ). IsWritten (program_shown c.args.shown listing tree request) c.answer_sound.result (g.O.Sink.written c.args.sink.now)
    (g.O.Sink.written c.answer_sound.new.sink))
    (c.deref.ensures.value ∙ c.in_ok-listing.ensures) c.answer_sound.ensures.written))

pub returns-in_err-listing-clause-replies : goal.returns-in_err-listing-clause-replies
returns-in_err-listing-clause-replies g c =
    memory_replies (IsToldOfText c.args.shown whole_meaning c.args.loaded.now.text (asks c.args.options.now c.args.loaded.now)) c.from_residual.result
    (g.O.Sink.written c.args.sink.now) c.from_residual.ensures.1

pub returns-in_err-line-in-Err-Refused-clause-replies : goal.returns-in_err-line-in-Err-Refused-clause-replies
returns-in_err-line-in-Err-Refused-clause-replies g c =
    memory_replies (IsToldOfText c.args.shown whole_meaning c.args.loaded.now.text (asks c.args.options.now c.args.loaded.now))
    c.from_residual-in_err-line-in-Err-Refused.result (g.O.Sink.written c.args.sink.now)
    c.from_residual-in_err-line-in-Err-Refused.ensures.1

pub returns-in-Err-Refused-clause-replies : goal.returns-in-Err-Refused-clause-replies
returns-in-Err-Refused-clause-replies g c =
    let text = c.bytes-text.result.now in
    let request = asks c.args.options.now c.args.loaded.now in
    let r = c.in-Err-Refused.refusal in
    let line = rw c.in-Err-Refused.field-0-is at c.in_ok-line-in-Err-Refused.ensures in
    subst (λ (t : List ℕ). Replies (IsToldOfText c.args.shown whole_meaning t request) c.refuse.result (g.O.Sink.written c.args.sink.now)
    (g.O.Sink.written c.refuse.new.sink)) c.bytes-text.ensures
    (refused_replies c.args.shown text request (behind (listing_written request text) (refused r)) refl
    (listed_outcome text request (refused r)
    (refused_for (IsUnlisted whole_meaning text) c.in-Err-Refused.field-0 r c.in-Err-Refused.field-0-is c.in-Err-Refused.ensures.none request))
    (c.an_outcome_is_one.ensures.text whole_meaning text request) c.refuse.result (g.O.Sink.written c.args.sink.now) (g.O.Sink.written c.refuse.new.sink)
    (subst (λ (listing : List ℕ). IsWritten (behind listing (refused r)) c.refuse.result (g.O.Sink.written c.args.sink.now)
    (g.O.Sink.written c.refuse.new.sink)) (c.deref-in-Err-Refused.ensures.value ∙ c.in_ok-listing.ensures)
    (written_as (behind c.deref-in-Err-Refused.result.now (without_run 1 c.deref-in-Err-Refused-2.result.now))
    (behind c.deref-in-Err-Refused.result.now (refused r)) c.refuse.result
    (g.O.Sink.written c.args.sink.now) (g.O.Sink.written c.refuse.new.sink)
    (refused_line c.deref-in-Err-Refused.result.now c.deref-in-Err-Refused-2.result.now r (c.deref-in-Err-Refused-2.ensures.value ∙ line))
    c.refuse.ensures.written)))
