use Rattle.std.proofs.Common.{rules, ℕ, List, refl, sym, subst, Ok, Err}
use Rattle.pfc_code.specs.Images.{PlainImage, plain_image}
use Rattle.pfc_io.specs.Writes.{AppendsFront}
use Rattle.pfc_io.proofs.Written.{AppendsFront-append, AppendsFront-none}
use Rattle.pfc_machines.specs.Machines.{CanStart}
use Rattle.pfc_run_invariants.specs.Inputs.{AreBytes}
use Rattle.pfc_outcome.specs.Loaded.{asks}
use Rattle.pfc_outcome.specs.Outcomes.{Outcome, behind, ran_with, stopped_at}
use Rattle.pfc_outcome.specs.Requests.{settings_of}
use Rattle.pfc_top.specs.Listings.{list_text}
use Rattle.pfc_top.specs.Meanings.{source_meaning}
use Rattle.pfc_top.specs.Running.{program_outcome}
use Rattle.pfc_top.proofs.Courses.{starts}
use Rattle.pfc_top.proofs.Outcomes.{program_as, stopped_written, written_as, written_behind}
use Rattle.pfc_top.proofs.answering.answer_image.Goals as goal

pub returns-in_err-session-in-Ok-clause-written : goal.returns-in_err-session-in-Ok-clause-written
returns-in_err-session-in-Ok-clause-written g c = λ tree is.
    stopped_written c.from_residual.result _ c.from_residual.ensures.1 (program_outcome c.args.text.now tree (asks c.args.options.now c.args.loaded.now))
    (g.O.Sink.written c.args.sink.now) (g.O.Sink.written c.args.sink.now) (AppendsFront-none _ _)

pub returns-in_err-list-in-Ok-clause-written : goal.returns-in_err-list-in-Ok-clause-written
returns-in_err-list-in-Ok-clause-written g c = λ tree is.
    stopped_written c.from_residual-in_err-list-in-Ok.result _ c.from_residual-in_err-list-in-Ok.ensures.1
    (program_outcome c.args.text.now tree (asks c.args.options.now c.args.loaded.now))
    (g.O.Sink.written c.args.sink.now) (g.O.Sink.written c.list.new.sink)
    (subst (λ (o : Outcome). AppendsFront (g.O.Sink.written c.args.sink.now) (g.O.Sink.written c.list.new.sink) o.bytes)
    (program_as c.args.text.now tree (plain_image c.args.image.now) (asks c.args.options.now c.args.loaded.now)
    (Ok c.in-Ok.policy) is.same c.in-Ok.ensures.picks)
    (AppendsFront-append _ _ _ _ c.in_err-list-in-Ok.ensures.front))

pub start-requires : goal.start-requires
start-requires g c =
    let (tree, is) = c.requires in
    subst (λ (i : PlainImage). CanStart i) (sym is.same)
    (c.checked_programs_run.ensures.start tree is.runnable.small.lawful is.runnable.whole is.runnable.few)

pub run-requires : goal.run-requires
run-requires g c =
    let (tree, is) = c.requires in (
      tree,
      settings_of (asks c.args.options.now c.args.loaded.now) c.in-Ok.policy,
      record {
        is = is;
        bytes = subst (λ (xs : List ℕ). AreBytes xs) c.bytes-input.ensures c.are_bytes.ensures;
        start =
            starts tree (plain_image c.args.image.now) is c.in_ok-session-in-Ok.session.machine c.bytes-input.result.now c.args.loaded.now.input
            c.args.options.now.seed c.in_ok-session-in-Ok.ensures c.bytes-input.ensures;
        picks = refl;
        most = refl;
      },
    )

pub returns-in_ok-list-in-Ok-clause-written : goal.returns-in_ok-list-in-Ok-clause-written
returns-in_ok-list-in-Ok-clause-written g c = λ tree is.
    written_as (behind (list_text c.args.options.now c.args.text.now (plain_image c.args.image.now))
    (ran_with source_meaning tree (settings_of (asks c.args.options.now c.args.loaded.now) c.in-Ok.policy)))
    (program_outcome c.args.text.now tree (asks c.args.options.now c.args.loaded.now)) c.run.result
    (g.O.Sink.written c.args.sink.now) (g.O.Sink.written c.run.new.sink)
    (program_as c.args.text.now tree (plain_image c.args.image.now) (asks c.args.options.now c.args.loaded.now)
    (Ok c.in-Ok.policy) is.same c.in-Ok.ensures.picks)
    (written_behind (list_text c.args.options.now c.args.text.now (plain_image c.args.image.now))
    (ran_with source_meaning tree (settings_of (asks c.args.options.now c.args.loaded.now) c.in-Ok.policy)) c.run.result
    (g.O.Sink.written c.args.sink.now) (g.O.Sink.written c.list.new.sink) (g.O.Sink.written c.run.new.sink) c.in_ok-list-in-Ok.ensures.whole
    (c.run.ensures.written tree (settings_of (asks c.args.options.now c.args.loaded.now) c.in-Ok.policy) (record {
      is = is;
      bytes = subst (λ (xs : List ℕ). AreBytes xs) c.bytes-input.ensures c.are_bytes.ensures;
      start =
          starts tree (plain_image c.args.image.now) is c.in_ok-session-in-Ok.session.machine c.bytes-input.result.now c.args.loaded.now.input
          c.args.options.now.seed c.in_ok-session-in-Ok.ensures c.bytes-input.ensures;
      picks = refl;
      most = refl;
    })))

pub returns-in-Err-NotANumber-clause-written : goal.returns-in-Err-NotANumber-clause-written
returns-in-Err-NotANumber-clause-written g c = λ tree is.
    written_as (behind (list_text c.args.options.now c.args.text.now (plain_image c.args.image.now)) (stopped_at source_meaning tree c.in-Err-NotANumber.item))
    (program_outcome c.args.text.now tree (asks c.args.options.now c.args.loaded.now)) c.stop_at.result
    (g.O.Sink.written c.args.sink.now) (g.O.Sink.written c.stop_at.new.sink)
    (program_as c.args.text.now tree (plain_image c.args.image.now) (asks c.args.options.now c.args.loaded.now)
    (Err c.in-Err-NotANumber.item) is.same (search rules))
    (c.stop_at.ensures.written tree is)
