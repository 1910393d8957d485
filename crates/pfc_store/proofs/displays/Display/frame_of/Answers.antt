use Rattle.std.proofs.Common.{◌≡◌, ◌∙◌, [], sym, ap, arith}
use Rattle.std.proofs.lemmas.List.{nil_from_length}
use Rattle.pfc_semantics.specs.Displays.{outward}
use Rattle.pfc_store.specs.Frames.{frames_view}
use Rattle.pfc_store.proofs.InView.{no_frame, first_seen, first_or_main, frame_by_outward}
use Rattle.pfc_store.proofs.displays.Display.frame_of.Goals as goal

pub returns-in-empty : goal.returns-in-empty
returns-in-empty c =
    let scope = c.args.scope in
    let none : c.outward_of.result.now ≡ [] = nil_from_length c.outward_of.result.now (omega arith) in
    ap (λ fs. first_or_main (frames_view fs) scope) (sym none)
    ∙ ap (λ d. first_or_main d scope)
    (c.outward_of.ensures ∙ ap (λ fs. outward (frames_view fs) scope) c.deref.ensures.value ∙ ap (λ d. outward d scope) c.self.view_is)
    ∙ sym (frame_by_outward c.args.self.now scope)

pub returns-in-len1-up : goal.returns-in-len1-up
returns-in-len1-up c =
    let scope = c.args.scope in
    first_seen c.outward_of.result.now scope no_frame c.in-len1-up.len_at_least
    ∙ ap (λ d. first_or_main d scope)
    (c.outward_of.ensures ∙ ap (λ fs. outward (frames_view fs) scope) c.deref.ensures.value ∙ ap (λ d. outward d scope) c.self.view_is)
    ∙ sym (frame_by_outward c.args.self.now scope)
