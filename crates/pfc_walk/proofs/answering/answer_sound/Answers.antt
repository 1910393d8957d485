use Rattle.std.proofs.Common.{◌≡◌, Ok, Err, Result, ℕ, rules, sym, ap, ◌∙◌}
use Rattle.pfc_io.proofs.Written.{AppendsFront-none}
use Rattle.pfc_sched.specs.declared.picking.Policy.{Policy}
use Rattle.pfc_tree.specs.views.Parts.{tree_view}
use Rattle.pfc_outcome.specs.Loaded.{asks}
use Rattle.pfc_outcome.specs.Outcomes.{behind, without_run}
use Rattle.pfc_outcome.specs.Requests.{policy_of, settings_of}
use Rattle.pfc_walk.specs.Traces.{program_shown, run_shown, under_shown}
use Rattle.pfc_walk.proofs.Outcomes.{stopped_written, written_as}
use Rattle.pfc_walk.proofs.Traced.{told_stopped}
use Rattle.pfc_walk.proofs.answering.answer_sound.Goals as goal

pub returns-in-Ok-clause-written : goal.returns-in-Ok-clause-written
returns-in-Ok-clause-written g c =
    let tree = tree_view c.args.sound.now.checked.0 in
    let request = asks c.args.options.now c.args.loaded.now in
    written_as (behind c.args.listing.now (run_shown c.args.shown tree (settings_of request c.in-Ok.policy)))
    (program_shown c.args.shown c.args.listing.now tree request) c.run_shown.result
    (g.O.Sink.written c.args.sink.now) (g.O.Sink.written c.run_shown.new.sink)
    (ap (λ (p : Result Policy ℕ). behind c.args.listing.now (under_shown c.args.shown tree request p)) (sym c.in-Ok.ensures.picks)) c.run_shown.ensures.written

pub returns-in_err-line-in-Err-NotANumber-clause-written : goal.returns-in_err-line-in-Err-NotANumber-clause-written
returns-in_err-line-in-Err-NotANumber-clause-written g c =
    stopped_written c.from_residual.result _ c.from_residual.ensures.1 (program_shown c.args.shown c.args.listing.now (tree_view c.args.sound.now.checked.0)
    (asks c.args.options.now c.args.loaded.now))
    (g.O.Sink.written c.args.sink.now) (g.O.Sink.written c.args.sink.now) (AppendsFront-none (g.O.Sink.written c.args.sink.now) _)

pub returns-in_ok-line-in-Err-NotANumber-clause-written : goal.returns-in_ok-line-in-Err-NotANumber-clause-written
returns-in_ok-line-in-Err-NotANumber-clause-written g c =
    let tree = tree_view c.args.sound.now.checked.0 in
    let request = asks c.args.options.now c.args.loaded.now in
    let item : ℕ = c.in-Err-NotANumber.item in
    let none : policy_of request ≡ Err item = search rules in
    let line = rw c.in-Err-NotANumber.field-0-is at (c.in_ok-line-in-Err-NotANumber.ensures tree) in
    written_as (behind c.args.listing.now (without_run 10 c.deref.result.now)) (program_shown c.args.shown c.args.listing.now tree request) c.refuse.result
    (g.O.Sink.written c.args.sink.now) (g.O.Sink.written c.refuse.new.sink)
    (told_stopped c.args.shown c.args.listing.now tree request item c.deref.result.now (c.deref.ensures.value ∙ line) none)
    c.refuse.ensures.written
