use Rattle.std.proofs.Common.{◌≡◌, ◌++◌, length, take, drop, map, sym, ap, ◌∙◌, subst}
use Rattle.pfc_state.specs.Stands.{started}
use Rattle.pfc_world.specs.Rows.{AreTied, seat_by, table_of}
use Rattle.pfc_world.proofs.Changes.{Now}
use Rattle.pfc_world.proofs.Maps.{maps, written, started-kind}
use Rattle.pfc_world.proofs.rows.Rows.start_created.Goals as goal

pub invariant_of-self : goal.invariant_of-self
invariant_of-self c =
    let h : Now c.self.inside.rows.items c.self.inside.acting c.self.inside.done c.self.inside.moment c.self.inside.room c.args.self.now =
    record { tied = c.self.invariant; is = c.self.view_is } in
    let made : c.start_all.new.rows ≡ map (seat_by started) c.self.inside.rows.items = c.start_all.ensures ∙
    ap (λ v. map (seat_by started) v) c.deref_mut.ensures.value in
    let all : take c.self.inside.rows.len (c.start_all.new.rows ++ drop (length c.start_all.new.rows) c.self.inside.rows.items) ≡ map
    (seat_by started) c.self.inside.rows.items =
    written started c.self.inside.rows.items c.start_all.new.rows c.self.inside.rows.len (sym c.deref_mut.ensures.len ∙
    ap length c.deref_mut.ensures.value) made in
    subst (λ v. AreTied v c.self.inside.acting c.self.inside.done c.self.inside.room) (sym all) (maps _ _ _ _ _ started _ started-kind h).tied

pub returns : goal.returns
returns c =
    let h : Now c.self.inside.rows.items c.self.inside.acting c.self.inside.done c.self.inside.moment c.self.inside.room c.args.self.now =
    record { tied = c.self.invariant; is = c.self.view_is } in
    let made : c.start_all.new.rows ≡ map (seat_by started) c.self.inside.rows.items = c.start_all.ensures ∙
    ap (λ v. map (seat_by started) v) c.deref_mut.ensures.value in
    let all : take c.self.inside.rows.len (c.start_all.new.rows ++ drop (length c.start_all.new.rows) c.self.inside.rows.items) ≡ map
    (seat_by started) c.self.inside.rows.items =
    written started c.self.inside.rows.items c.start_all.new.rows c.self.inside.rows.len (sym c.deref_mut.ensures.len ∙
    ap length c.deref_mut.ensures.value) made in
    ap (λ v. table_of v c.self.inside.acting c.self.inside.done c.self.inside.moment c.self.inside.room) all ∙ (maps _ _ _ _ _ started _ started-kind h).is
