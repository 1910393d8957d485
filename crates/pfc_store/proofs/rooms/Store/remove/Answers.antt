use Rattle.std.proofs.Common.{◌∙◌, ◌++◌, refl, sym, ap, arith}
use Rattle.pfc_semantics.specs.Store.{without}
use Rattle.pfc_store.specs.Views.{rooms_view, main_view, store_view}
use Rattle.pfc_store.proofs.Living.{main_gone, removed, without_found, nowhere, without_none}
use Rattle.pfc_store.proofs.rooms.Store.remove.Goals as goal

pub returns-then-activation-eq0 : goal.returns-then-activation-eq0
returns-then-activation-eq0 c = sym (ap (λ a. without (store_view c.args.self.now) a) c.if-activation-eq0.true ∙
    main_gone c.args.self.now.rooms.items c.args.self.now.main)

pub returns-in-Some : goal.returns-in-Some
returns-in-Some c =
    let rooms = c.args.self.now.rooms.items in
    let main = main_view c.args.self.now.main in
    let r = c.remove.result in
    ap (λ rs. rooms_view rs ++ main) c.remove.ensures.items
    ∙ removed rooms c.args.activation c.in-Some.i r c.in-Some.ensures.there main
    ∙ sym (without_found rooms c.args.activation c.in-Some.i r c.in-Some.ensures.there main)

pub returns-in_default : goal.returns-in_default
returns-in_default c =
    sym (without_none c.args.activation (store_view c.args.self.now) (nowhere c.args.activation c.args.self.now.rooms.items c.args.self.now.main
    (omega arith) (c.in_default.ensures.none refl)))
