use Rattle.std.proofs.Common.{arith, refl}
use Rattle.pfc_code.specs.Images.{plain_image}
use Rattle.pfc_sessions.specs.Runs.{run_from}
use Rattle.pfc_sessions.specs.Stages.{first_stage}
use Rattle.pfc_sessions.proofs.Gathering.{nothing_held, gathers_more, breaks_off, may_later, ends_with}
use Rattle.pfc_sessions.proofs.session.Session.run.Goals as goal

pub returns-in-Some-clause-run : goal.returns-in-Some-clause-run
returns-in-Some-clause-run g c =
    ends_with (plain_image c.args.image.now) c.args.limit
    (run_from (plain_image c.args.image.now) c.args.limit c.args.limit c.args.picker.now c.args.self.now.machine)
    (first_stage c.args.picker.now c.args.self.now.machine) c.loop-ending.left c.loop-ending.picker c.loop-ending.self.machine c.loop-ending.out
    (g.O.Sink.written c.args.sink.now) (g.O.Sink.written c.loop-ending.sink) c.loop-ending.invariant.gathers c.turn.new.self.machine c.turn.new.out
    (g.O.Sink.written c.hand_over.new.sink) c.turn.new.picker c.in-Some.ending c.hand_over.result c.in-Some.ensures.turn c.hand_over.ensures.over

pub returns-in_default-hand_piece-clause-run : goal.returns-in_default-hand_piece-clause-run
returns-in_default-hand_piece-clause-run g c =
    breaks_off (plain_image c.args.image.now) c.args.limit
    (run_from (plain_image c.args.image.now) c.args.limit c.args.limit c.args.picker.now c.args.self.now.machine)
    (first_stage c.args.picker.now c.args.self.now.machine) c.loop-ending.left c.loop-ending.picker c.loop-ending.self.machine c.loop-ending.out
    (g.O.Sink.written c.args.sink.now) (g.O.Sink.written c.loop-ending.sink) c.loop-ending.invariant.gathers c.turn.new.picker
    c.turn.new.self.machine c.turn.new.out c.in_default.ensures.turn (g.O.Sink.written c.hand_piece.new.sink)
    (c.turn.ensures.some c.in_default.is) c.in_default-hand_piece.ensures.cut

pub loop-ending-preserved : goal.loop-ending-preserved
loop-ending-preserved g c =
    let f = run_from (plain_image c.args.image.now) c.args.limit c.args.limit c.args.picker.now c.args.self.now.machine in
    let first = first_stage c.args.picker.now c.args.self.now.machine in
    record {
      may =
          may_later (plain_image c.args.image.now) c.args.limit f first c.loop-ending.left c.loop-ending.picker c.loop-ending.self.machine c.loop-ending.out
          (g.O.Sink.written c.args.sink.now) (g.O.Sink.written c.loop-ending.sink) c.loop-ending.invariant.gathers c.turn.new.picker
          c.turn.new.self.machine c.turn.new.out c.in_default.ensures.turn (c.turn.ensures.some c.in_default.is) c.loop-ending.invariant.may;
      gathers =
          gathers_more (plain_image c.args.image.now) c.args.limit f first c.loop-ending.left c.loop-ending.picker c.loop-ending.self.machine c.loop-ending.out
          (g.O.Sink.written c.args.sink.now) (g.O.Sink.written c.loop-ending.sink) c.loop-ending.invariant.gathers c.turn.new.picker
          c.turn.new.self.machine c.turn.new.out c.in_default.ensures.turn c.hand_piece.new.out (g.O.Sink.written c.hand_piece.new.sink)
          (c.turn.ensures.some c.in_default.is) c.in-Ok.ensures.sent;
      later = omega (arith, c.loop-ending.invariant.later, c.hand_piece.ensures.faults);
    }

pub loop-ending-init : goal.loop-ending-init
loop-ending-init g c = record {
  may = c.requires;
  gathers =
      nothing_held (plain_image c.args.image.now) c.args.limit
      (run_from (plain_image c.args.image.now) c.args.limit c.args.limit c.args.picker.now c.args.self.now.machine)
      (first_stage c.args.picker.now c.args.self.now.machine) c.new-out.result (g.O.Sink.written c.args.sink.now) refl c.new-out.ensures refl;
  later = omega arith;
}
