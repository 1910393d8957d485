use Rattle.std.proofs.Common.{subst}
use Rattle.pfc_tree.specs.views.Parts.{tree_view}
use Rattle.pfc_io.specs.Writes.{AppendsFront}
use Rattle.pfc_io.proofs.Counts.{Rose-earlier}
use Rattle.pfc_outcome.specs.Loaded.{asks}
use Rattle.pfc_outcome.specs.Outcomes.{behind}
use Rattle.pfc_outcome.specs.Requests.{settings_of}
use Rattle.pfc_walker.specs.declared.telling.Told.{Told}
use Rattle.pfc_walk.specs.Answers.{Gives}
use Rattle.pfc_walk.specs.Traces.{run_shown, run_told}
use Rattle.pfc_walk.proofs.Outcomes.{same_stop, stopped_written}
use Rattle.pfc_walk.proofs.Traced.{both_whole, first_front, second_front}
use Rattle.pfc_walk.proofs.answering.run_shown.Goals as goal

pub returns-in_err-status-clause-written : goal.returns-in_err-status-clause-written
returns-in_err-status-clause-written g c =
    let tree = tree_view c.args.sound.now.checked.0 in
    let settings = settings_of (asks c.args.options.now c.args.loaded.now) c.args.policy in
    stopped_written c.from_residual.result _ c.from_residual.ensures.1 (behind c.args.listing.now (run_shown c.args.shown tree settings))
    (g.O.Sink.written c.args.sink.now) (g.O.Sink.written c.run.new.sink)
    (first_front c.args.shown c.args.listing.now tree settings (g.O.Sink.written c.args.sink.now)
    (g.O.Sink.written c.run.new.sink) (g.O.Sink.written c.run.new.sink)
    (subst (λ (t : Told). AppendsFront (g.O.Sink.written c.args.sink.now) (g.O.Sink.written c.run.new.sink)
    (behind c.args.listing.now (run_told t tree settings)).bytes)
    c.told_in-told.ensures c.in_err-status.ensures.written))

pub returns-in_err-tell_races-clause-written : goal.returns-in_err-tell_races-clause-written
returns-in_err-tell_races-clause-written g c =
    let tree = tree_view c.args.sound.now.checked.0 in
    let settings = settings_of (asks c.args.options.now c.args.loaded.now) c.args.policy in
    stopped_written c.from_residual-in_err-tell_races.result _ c.from_residual-in_err-tell_races.ensures.1
    (behind c.args.listing.now (run_shown c.args.shown tree settings))
    (g.O.Sink.written c.args.sink.now) (g.O.Sink.written c.tell_races.new.sink)
    (second_front c.args.shown c.args.listing.now tree settings (g.O.Sink.written c.args.sink.now) (g.O.Sink.written c.run.new.sink)
    (g.O.Sink.written c.tell_races.new.sink)
    c.in_ok-status.status
    (subst (λ (t : Told). Gives (behind c.args.listing.now (run_told t tree settings)) c.in_ok-status.status
    (g.O.Sink.written c.args.sink.now) (g.O.Sink.written c.run.new.sink))
    c.told_in-told.ensures c.in_ok-status.ensures.written)
    (c.in_err-tell_races.ensures.front c.args.policy c.requires.policy))

pub returns-in_err-tell_races-clause-cut : goal.returns-in_err-tell_races-clause-cut
returns-in_err-tell_races-clause-cut g c = λ of.
    Rose-earlier _ _ _ c.run.ensures.faults
    (c.in_err-tell_races.ensures.cut (same_stop c.from_residual-in_err-tell_races.result _ c.from_residual-in_err-tell_races.ensures.1 _ of))

pub returns-clause-written : goal.returns-clause-written
returns-clause-written g c =
    let tree = tree_view c.args.sound.now.checked.0 in
    let settings = settings_of (asks c.args.options.now c.args.loaded.now) c.args.policy in
    both_whole c.args.shown c.args.listing.now tree settings (g.O.Sink.written c.args.sink.now) (g.O.Sink.written c.run.new.sink)
    (g.O.Sink.written c.tell_races.new.sink)
    c.in_ok-status.status
    (subst (λ (t : Told). Gives (behind c.args.listing.now (run_told t tree settings)) c.in_ok-status.status
    (g.O.Sink.written c.args.sink.now) (g.O.Sink.written c.run.new.sink))
    c.told_in-told.ensures c.in_ok-status.ensures.written)
    (c.in_ok-tell_races.ensures.whole c.args.policy c.requires.policy)
