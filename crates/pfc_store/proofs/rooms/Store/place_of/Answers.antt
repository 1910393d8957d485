use Rattle.std.proofs.Common.{◌≡◌, ◌∙◌, ◌+◌, ◌-◌, ℕ, drop, sym, ap, subst, arith}
use Rattle.std.specs.Prelude.{◌==◌}
use Rattle.pfc_store.specs.Views.{rooms_view}
use Rattle.pfc_store.specs.Latest.{NoneOf}
use Rattle.pfc_store.proofs.Living.{none_behind, unlike}
use Rattle.pfc_store.proofs.rooms.Store.place_of.Goals as goal

pub loop-i-preserved : goal.loop-i-preserved
loop-i-preserved c =
    let rooms = c.args.self.now.rooms.items in
    let room = c.index.result.now in
    let next : c.loop-i.i ≡ (c.loop-i.i - 1) + 1 = omega arith in
    none_behind c.args.activation rooms (c.loop-i.i - 1) room (omega arith)
    (ap (λ r. r.activation == c.args.activation) (sym c.index.ensures) ∙ unlike room.activation c.args.activation c.if-index-activation.false)
    (subst (λ (k : ℕ). NoneOf c.args.activation (rooms_view (drop k rooms))) next c.loop-i.invariant)
