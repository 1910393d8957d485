use Rattle.std.proofs.Common.{◌∙◌, ◌++◌, [], refl, sym, ap, ap₂, arith}
use Rattle.pfc_semantics.specs.Rendezvous.{taken_from}
use Rattle.pfc_store.specs.Views.{values_view, rooms_view, main_view, store_view}
use Rattle.pfc_store.proofs.Living.{with_change, change_main, change_found, change_nowhere, nowhere, no_main}
use Rattle.pfc_store.proofs.rooms.Store.take_parameters.Goals as goal

pub returns-in-Some : goal.returns-in-Some
returns-in-Some c =
    let rooms = c.args.self.now.rooms.items in
    let change = taken_from c.args.first (values_view c.args.args.items) in
    change_main rooms c.in-Some.values c.take_among.new.values change c.take_among.ensures
    ∙ ap₂ (λ m a. with_change (rooms_view rooms ++ main_view m) a change) (sym c.in-Some.is ∙ c.take.ensures.value) (sym c.if-activation-eq0.true)

pub returns-in_default : goal.returns-in_default
returns-in_default c =
    let rooms = c.args.self.now.rooms.items in
    let change = taken_from c.args.first (values_view c.args.args.items) in
    ap (λ m. rooms_view rooms ++ main_view m) c.take.ensures.after
    ∙ change_nowhere 0 change (rooms_view rooms ++ []) (no_main rooms)
    ∙ ap₂ (λ m a. with_change (rooms_view rooms ++ main_view m) a change) (sym c.in_default.is ∙ c.take.ensures.value) (sym c.if-activation-eq0.true)

pub returns-in-Some-place_of : goal.returns-in-Some-place_of
returns-in-Some-place_of c =
    let args = values_view c.args.args.items in
    change_found c.args.self.now.rooms.items c.args.activation c.in-Some-place_of.i c.index_mut.result.now c.in-Some-place_of.ensures.there
    (main_view c.args.self.now.main) (taken_from c.args.first args) c.take-in-Some-place_of.new.self
    (c.take-in-Some-place_of.ensures.same ∙ ap (λ r. r.activation) c.index_mut.ensures.value)
    (c.take-in-Some-place_of.ensures.taken ∙ ap (λ r. taken_from c.args.first args (values_view r.values.items)) c.index_mut.ensures.value)

pub returns-in_default-place_of : goal.returns-in_default-place_of
returns-in_default-place_of c =
    let a = c.args.activation in
    change_nowhere a (taken_from c.args.first (values_view c.args.args.items)) (store_view c.args.self.now)
    (nowhere a c.args.self.now.rooms.items c.args.self.now.main (omega arith) (c.in_default-place_of.ensures.none refl))
