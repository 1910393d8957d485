use Rattle.std.proofs.Common.{◌∙◌, ◌∷◌, sym, ap, set, get_or, drop, pos}
use Rattle.std.proofs.lemmas.List.{take_rest}
use Rattle.pfc_semantics.specs.Values.{ordinal, with_part}
use Rattle.pfc_store.specs.Views.{value_view, values_view}
use Rattle.pfc_store.proofs.Seen.{compound_seen, nothing}
use Rattle.pfc_store.proofs.Paths.{no_step, first_step, put_in, put_there, places}
use Rattle.pfc_store.proofs.parts.+put.Goals as goal

pub with_part-returns-in-Compound : goal.with_part-returns-in-Compound
with_part-returns-in-Compound t c =
    let steps = c.args.steps.now in
    let new = value_view c.args.new in
    let i = (get_or steps 0 no_step).place in
    let vs = c.in-Compound.parts.items in
    compound_seen c.put_among.new.values
    ∙ put_in vs c.put_among.new.values.items i (places (drop 1 steps)) new
    (c.put_among.ensures ∙ ap (λ l. set (values_view vs) i (with_part (places l) (get_or (values_view vs) i (ordinal (pos 0))) new)) (take_rest steps 1))
    ∙ ap (λ v. with_part (i ∷ places (drop 1 steps)) v new) (sym (compound_seen c.in-Compound.parts) ∙ ap value_view (sym c.in-Compound.is))
    ∙ ap (λ p. with_part p (value_view c.args.whole) new) (sym (first_step steps c.in-len1-up.len_at_least))

pub put_among-returns-then-place-len : goal.put_among-returns-then-place-len
put_among-returns-then-place-len t c =
    ap values_view (c.exchanged.ensures.put ∙ ap (λ ws. set ws c.args.place c.with_part.result) c.exchanged-old.ensures.put)
    ∙ put_there c.args.values.now.items c.args.place (places c.args.steps.now) (value_view c.args.new) c.exchanged-old.result nothing c.with_part.result
    (c.exchanged-old.ensures.was nothing) c.with_part.ensures
