use Rattle.std.proofs.Common.{◌∙◌, ◌++◌, refl, sym, ap, ap₂, arith}
use Rattle.pfc_semantics.specs.Store.{values_in}
use Rattle.pfc_store.specs.Views.{values_view, rooms_view, main_view, store_view}
use Rattle.pfc_store.proofs.Living.{main_values, no_main, values_none, values_found, nowhere}
use Rattle.pfc_store.proofs.rooms.Store.values_of.Goals as goal

pub returns-in-Some : goal.returns-in-Some
returns-in-Some c =
    ap values_view c.deref.ensures.value
    ∙ sym (main_values c.args.self.now.rooms.items c.in-Some.values)
    ∙ ap₂ (λ m a. values_in (rooms_view c.args.self.now.rooms.items ++ main_view m) a) (sym c.in-Some.is) (sym c.if-activation-eq0.true)

pub returns-in-None : goal.returns-in-None
returns-in-None c =
    sym (values_none 0 _ (no_main c.args.self.now.rooms.items))
    ∙ ap₂ (λ m a. values_in (rooms_view c.args.self.now.rooms.items ++ main_view m) a) (sym c.in-None.is) (sym c.if-activation-eq0.true)

pub returns-in-Some-place_of : goal.returns-in-Some-place_of
returns-in-Some-place_of c =
    let rooms = c.args.self.now.rooms.items in
    ap values_view (c.deref-in-Some-place_of.ensures.value ∙ ap (λ r. r.values.items) c.index.ensures)
    ∙ sym (values_found rooms c.args.activation c.in-Some-place_of.i c.index.result.now c.in-Some-place_of.ensures.there (main_view c.args.self.now.main))

pub returns-in-None-place_of : goal.returns-in-None-place_of
returns-in-None-place_of c =
    sym (values_none c.args.activation (store_view c.args.self.now) (nowhere c.args.activation c.args.self.now.rooms.items c.args.self.now.main (omega arith)
    (c.in-None-place_of.ensures.none refl)))
