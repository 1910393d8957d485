use Rattle.std.proofs.Common.{◌≡◌, ◌∙◌, ◌+◌, ◌-◌, ◌++◌, ◌∷◌, [], suc, sym, ap, ap₂, arith}
use Rattle.std.proofs.lemmas.List.{map-append}
use Rattle.pfc_semantics.specs.Displays.{accept_frames}
use Rattle.pfc_store.specs.declared.displays.Frame.{Frame as HeldFrame}
use Rattle.pfc_store.specs.Frames.{frame_view, frames_view}
use Rattle.pfc_store.proofs.InView.{accept_next}
use Rattle.pfc_store.proofs.displays.Display.of_process.Goals as goal

pub loop-preserved : goal.loop-preserved
loop-preserved c =
    let b = c.args.scopes.now in
    let a = c.args.own.activation in
    let left = c.args.accepts - (c.loop.counter + 1) in
    let frames = frames_view c.loop.frames.items in
    let pushed : HeldFrame = record { scope = c.loop.scope; activation = a; first = c.loop.first } in
    let count : c.args.accepts - c.loop.counter ≡ suc left = omega arith in
    ap (λ fs. frames_view fs ++ accept_frames b a left c.in_ok-scope.scope c.in_ok-first.first) c.in_ok-push-2.ensures.items
    ∙ ap (λ fs. fs ++ accept_frames b a left c.in_ok-scope.scope c.in_ok-first.first) (map-append frame_view c.loop.frames.items (pushed ∷ []))
    ∙ ap₂ (λ i first. (frames ++ frame_view pushed ∷ []) ++ accept_frames b a left i first) c.in_ok-scope.ensures (c.in_ok-first.ensures ∙
    ap (λ n. c.loop.first + n) c.laid_count.ensures)
    ∙ accept_next b frames a left c.loop.scope c.loop.first
    ∙ ap (λ n. frames ++ accept_frames b a n c.loop.scope c.loop.first) (sym count)
    ∙ c.loop.invariant
