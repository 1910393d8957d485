use Rattle.std.proofs.Common.{◌∙◌, ◌++◌, [], refl, sym, ap, ap₂, arith}
use Rattle.pfc_store.specs.Views.{value_view, values_view, rooms_view, main_view, store_view}
use Rattle.pfc_store.proofs.Paths.{put_change}
use Rattle.pfc_store.proofs.Living.{with_change, change_main, change_found, change_nowhere, nowhere, no_main}
use Rattle.pfc_store.proofs.rooms.Store.put.Goals as goal

pub returns-in-Some : goal.returns-in-Some
returns-in-Some c =
    let rooms = c.args.self.now.rooms.items in
    let k = c.args.l.now.variable in
    let change = put_change k (value_view c.args.v) c.args.l.now.selectors.items in
    change_main rooms c.in-Some.values c.put_among.new.values change
    (c.put_among.ensures ∙ ap (λ s. put_change k (value_view c.args.v) s (values_view c.in-Some.values.items)) c.deref.ensures.value)
    ∙ ap₂ (λ m a. with_change (rooms_view rooms ++ main_view m) a change) (sym c.in-Some.is ∙ c.take.ensures.value) (sym c.if-l-eq0.true)

pub returns-in_default : goal.returns-in_default
returns-in_default c =
    let rooms = c.args.self.now.rooms.items in
    let change = put_change c.args.l.now.variable (value_view c.args.v) c.args.l.now.selectors.items in
    ap (λ m. rooms_view rooms ++ main_view m) c.take.ensures.after
    ∙ change_nowhere 0 change (rooms_view rooms ++ []) (no_main rooms)
    ∙ ap₂ (λ m a. with_change (rooms_view rooms ++ main_view m) a change) (sym c.in_default.is ∙ c.take.ensures.value) (sym c.if-l-eq0.true)

pub returns-in-Some-place_of : goal.returns-in-Some-place_of
returns-in-Some-place_of c =
    let k = c.args.l.now.variable in
    change_found c.args.self.now.rooms.items c.args.l.now.activation c.in-Some-place_of.i c.index_mut.result.now c.in-Some-place_of.ensures.there
    (main_view c.args.self.now.main) (put_change k (value_view c.args.v) c.args.l.now.selectors.items) c.put.new.self
    (c.put.ensures.same ∙ ap (λ r. r.activation) c.index_mut.ensures.value)
    (c.put.ensures.put ∙ ap₂ (λ s r. put_change k (value_view c.args.v) s
    (values_view r.values.items)) c.deref-in-Some-place_of.ensures.value c.index_mut.ensures.value)

pub returns-in_default-place_of : goal.returns-in_default-place_of
returns-in_default-place_of c =
    let a = c.args.l.now.activation in
    change_nowhere a (put_change c.args.l.now.variable (value_view c.args.v) c.args.l.now.selectors.items) (store_view c.args.self.now)
    (nowhere a c.args.self.now.rooms.items c.args.self.now.main (omega arith) (c.in_default-place_of.ensures.none refl))
