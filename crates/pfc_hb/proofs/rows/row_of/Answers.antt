use Rattle.std.proofs.Common.{◌≡◌, ◌<◌, true, List, length, get_or, ap, subst, sym, ◌∙◌}
use Rattle.std.proofs.lemmas.List.{get_or_read}
use Rattle.pfc_hb.specs.declared.accesses.Access.{Access}
use Rattle.pfc_hb.specs.Order.{event_at, no_event}
use Rattle.pfc_hb.specs.Parts.{AllAreKnown, is_known}
use Rattle.pfc_hb.proofs.rows.row_of.Goals as goal

pub add_clashes-requires-clause-known : goal.add_clashes-requires-clause-known
add_clashes-requires-clause-known c =
    let events = c.args.rows.now.events.now in
    let parts = c.args.rows.now.parts.keys in
    let i = c.args.first in
    let k = c.loop-access.access-index in
    let a = c.access-item.result in
    let items = c.as_slice-access-items.result.now in
    let event = c.index-rows-first.result in
    let it : event ≡ event_at events i = get_or_read events i event c.requires.first c.index-rows-first.is no_event in
    let same : items ≡ (event_at events i).accesses = cc in
    let known : AllAreKnown (event_at events i).accesses parts = c.requires.rows.known i c.requires.first in
    let lt : k < length (event_at events i).accesses = subst (λ (l : List Access). k < length l) same c.loop-access-test.true in
    let at : a ≡ get_or (event_at events i).accesses k a = c.access-item.is ∙ ap (λ (l : List Access). get_or l k a) same in
    subst (λ (x : Access). is_known parts x.spot ≡ true) (sym at) (known k a lt)
