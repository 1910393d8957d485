use Rattle.std.proofs.Common.{◌∙◌, sym, ap}
use Rattle.std.proofs.lemmas.List.{take_rest}
use Rattle.pfc_store.specs.Frames.{frames_view}
use Rattle.pfc_store.proofs.Living.{unlike}
use Rattle.pfc_store.proofs.InView.{no_frame, outward_found, outward_passed}
use Rattle.pfc_store.proofs.displays.outward_of.Goals as goal

pub returns-then-frame-scope : goal.returns-then-frame-scope
returns-then-frame-scope c =
    ap frames_view (take_rest c.args.frames.now c.loop-i.i)
    ∙ sym (c.loop-i.invariant ∙ outward_found c.args.frames.now c.loop-i.i c.args.scope no_frame c.loop-i-test.true c.if-frame-scope.true)

pub loop-i-preserved : goal.loop-i-preserved
loop-i-preserved c = c.loop-i.invariant ∙ outward_passed c.args.frames.now c.loop-i.i c.args.scope no_frame c.loop-i-test.true (unlike _ _ c.if-frame-scope.false)
