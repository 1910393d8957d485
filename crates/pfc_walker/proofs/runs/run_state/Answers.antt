use Rattle.std.proofs.Common.{◌≡◌, ◌+◌, ◌-◌, ◌<◌, Some, refl, subst, arith}
use Rattle.pfc_semantics.specs.Runs.{run_from}
use Rattle.pfc_walker.specs.Courses.{Gathers}
use Rattle.pfc_walker.proofs.Gathering.{nothing_held, gathers_more, breaks_off, ends_with, line_with}
use Rattle.pfc_walker.proofs.runs.run_state.Goals as goal

pub loop-ending-init : goal.loop-ending-init
loop-ending-init g c = record {
  some = let (g', c', program, stands, line) = c.requires in (g', c', program, stands);
  all = λ g' c' program stands line.
      nothing_held c.args.told c.args.source.now g' c.args.limit (run_from g' c.args.limit c.args.limit c.args.picker.now c') c' c.args.limit
      c.args.picker.now c.args.state.now c.new-out.result
      c.args.in_line.now (g.O.Sink.written c.args.sink.now) stands refl c.new-out.ensures line;
  later = omega arith;
}

pub returns-in-Some-clause-run : goal.returns-in-Some-clause-run
returns-in-Some-clause-run g c = λ g' c' program stands line.
    let p = c.loop-ending.invariant.all g' c' program stands line in
    ends_with c.args.told c.args.source.now g' c.args.limit (run_from g' c.args.limit c.args.limit c.args.picker.now c') c' c.loop-ending.left
    c.loop-ending.picker c.loop-ending.state c.loop-ending.out c.loop-ending.in_line (g.O.Sink.written c.args.sink.now)
    (g.O.Sink.written c.loop-ending.sink) p
    c.turn.new.state c.turn.new.out (g.O.Sink.written c.hand_over.new.sink) c.in-Some.ending c.hand_over.result
    (c.in-Some.ensures.turn g' p.config program p.stands) c.hand_over.ensures.over

pub returns-in-Some-clause-line : goal.returns-in-Some-clause-line
returns-in-Some-clause-line g c = λ g' c' program stands line.
    let p = c.loop-ending.invariant.all g' c' program stands line in
    line_with c.args.told c.args.source.now g' c.args.limit (run_from g' c.args.limit c.args.limit c.args.picker.now c') c' c.loop-ending.left
    c.loop-ending.picker c.loop-ending.state c.loop-ending.out c.loop-ending.in_line (g.O.Sink.written c.args.sink.now)
    (g.O.Sink.written c.loop-ending.sink) p
    c.turn.new.state c.turn.new.out (g.O.Sink.written c.hand_over.new.sink) c.in-Some.ending c.hand_over.result c.hand_over.new.in_line
    (c.in-Some.ensures.turn g' p.config program p.stands) c.hand_over.ensures.line c.hand_over.ensures.over

pub returns-in_default-hand_piece-clause-run : goal.returns-in_default-hand_piece-clause-run
returns-in_default-hand_piece-clause-run g c = λ g' c' program stands line.
    let p = c.loop-ending.invariant.all g' c' program stands line in
    breaks_off c.args.told c.args.source.now g' c.args.limit (run_from g' c.args.limit c.args.limit c.args.picker.now c') c' c.loop-ending.left
    c.loop-ending.picker c.loop-ending.state c.loop-ending.out c.loop-ending.in_line (g.O.Sink.written c.args.sink.now)
    (g.O.Sink.written c.loop-ending.sink) p
    c.turn.new.picker c.turn.new.state c.turn.new.out (g.O.Sink.written c.hand_piece.new.sink)
    (c.in_default.ensures.turn g' p.config program p.stands) c.in_default-hand_piece.ensures.cut

pub loop-ending-preserved : goal.loop-ending-preserved
loop-ending-preserved g c = record {
  some =
      let (g', c', program, stands) = c.loop-ending.invariant.some in
      let q = c.in_default.ensures.turn g' c' program stands in (g', q.config, program, q.stands);
  all = λ g' c' program stands line.
      let p = c.loop-ending.invariant.all g' c' program stands line in
      let q = c.in_default.ensures.turn g' p.config program p.stands in
      let one : q.rest ≡ c.loop-ending.left - 1 = omega (arith, q.one) in
      subst
      (λ n. Gathers c.args.told c.args.source.now g' c.args.limit (run_from g' c.args.limit c.args.limit c.args.picker.now c') n c.turn.new.picker
      c' c.turn.new.state c.hand_piece.new.out
      c.hand_piece.new.in_line (g.O.Sink.written c.args.sink.now) (g.O.Sink.written c.hand_piece.new.sink)) one
      (gathers_more c.args.told c.args.source.now g' c.args.limit (run_from g' c.args.limit c.args.limit c.args.picker.now c') c' c.loop-ending.left
      c.loop-ending.picker c.loop-ending.state c.loop-ending.out c.loop-ending.in_line (g.O.Sink.written c.args.sink.now)
      (g.O.Sink.written c.loop-ending.sink) p
      c.turn.new.picker c.turn.new.state c.turn.new.out c.hand_piece.new.out c.hand_piece.new.in_line (g.O.Sink.written c.hand_piece.new.sink)
      q c.in-Ok.ensures.sent);
  later = omega (arith, c.loop-ending.invariant.later, c.hand_piece.ensures.faults);
}
