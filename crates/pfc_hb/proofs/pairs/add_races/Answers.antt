use Rattle.std.proofs.Common.{◌≡◌, [], length, sym, ap, ◌∙◌, eqb-true}
use Rattle.std.proofs.lemmas.List.{get_or_read, append-nil, nil_from_length}
use Rattle.pfc_hb.specs.Order.{no_event, event_at}
use Rattle.pfc_hb.proofs.RaceLaws.{races_with-no_accesses}
use Rattle.pfc_hb.proofs.pairs.add_races.Goals as goal

pub returns-then-is_empty : goal.returns-then-is_empty
returns-then-is_empty c =
    let events = c.args.rows.now.events.now in
    let i = c.args.first in
    let it = get_or_read events i c.index-rows-first.result c.requires.first c.index-rows-first.is no_event in
    let none : c.as_slice.result.now ≡ [] = nil_from_length c.as_slice.result.now (eqb-true _ _ (sym c.is_empty.ensures ∙ c.if-is_empty.true)) in
    let alone : (event_at events i).accesses ≡ [] = ap (λ e. e.accesses) (sym it) ∙
    ap (λ e. e.accesses) c.index-rows-first.is ∙ sym c.as_slice.ensures ∙ none in
    rw (races_with-no_accesses events i (length events) alone) (sym (append-nil c.args.races.now.items))
