use Rattle.std.proofs.Common.{◌≡◌, ◌∙◌, ◌<◌, ℕ, true, false, drop, sym, subst, arith}
use Rattle.std.proofs.lemmas.List.{drop_all}
use Rattle.std.proofs.lemmas.Iterator.Adapters.{position_from-zero}
use Rattle.pfc_program.specs.Views.{tables_view}
use Rattle.pfc_blocks.proofs.LabelPlaces.{is_named, place_found, place_passed, no_place}
use Rattle.pfc_blocks.proofs.labels.label_place.Goals as goal

pub loop-k-preserved : goal.loop-k-preserved
loop-k-preserved c =
    place_passed (tables_view c.args.tables) c.args.i c.args.names.now c.loop-k.k c.meaning_at.result
    (subst (λ (n : ℕ). c.loop-k.k < n) c.len-k-end.ensures c.loop-k-test.true) c.meaning_at.ensures (sym c.names_block.ensures ∙ c.if-names_block.false)
    ∙ c.loop-k.invariant

pub returns-then-names_block : goal.returns-then-names_block
returns-then-names_block c =
    sym (place_found (tables_view c.args.tables) c.args.i c.args.names.now c.loop-k.k c.meaning_at.result
    (subst (λ (n : ℕ). c.loop-k.k < n) c.len-k-end.ensures c.loop-k-test.true) c.meaning_at.ensures (sym c.names_block.ensures ∙ c.if-names_block.true))
    ∙ c.loop-k.invariant ∙ sym (position_from-zero (is_named (tables_view c.args.tables) c.args.i) c.args.names.now)

pub returns : goal.returns
returns c =
    sym (no_place (tables_view c.args.tables) c.args.i c.loop-k.k (drop c.loop-k.k c.args.names.now) (drop_all c.loop-k.k c.args.names.now (omega arith)))
    ∙ c.loop-k.invariant ∙ sym (position_from-zero (is_named (tables_view c.args.tables) c.args.i) c.args.names.now)
