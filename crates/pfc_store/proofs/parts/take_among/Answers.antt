use Rattle.std.proofs.Common.{◌≡◌, ◌∙◌, ◌+◌, ◌∷◌, [], length, set, sym, ap}
use Rattle.std.proofs.lemmas.List.{map-append, length-map}
use Rattle.pfc_semantics.specs.Rendezvous.{taken_from}
use Rattle.pfc_store.specs.Views.{value_view, values_view}
use Rattle.pfc_store.proofs.Paths.{taken_last}
use Rattle.pfc_store.proofs.parts.take_among.Goals as goal

pub loop-arg-preserved : goal.loop-arg-preserved
loop-arg-preserved c =
    let first = c.args.first in
    let before = values_view c.pop.new.self.items in
    let now = values_view c.loop-arg.values.items in
    let arg = value_view c.in-Some.arg in
    let len : c.len.result ≡ length before = c.len.ensures ∙ c.pop.new.self.ok.0 ∙ sym (length-map c.pop.new.self.items value_view) in
    ap (taken_from first before) (c.replace.ensures ∙ ap (λ k. set now (first + k) arg) len)
    ∙ sym (taken_last first before arg now)
    ∙ ap (λ l. taken_from first l now) (sym (map-append value_view c.pop.new.self.items (c.in-Some.arg ∷ [])) ∙ ap values_view (sym c.in-Some.ensures.items))
    ∙ c.loop-arg.invariant
