use Rattle.std.proofs.Common.{refl}
use Rattle.pfc_state.specs.Stands.{Is_done}
use Rattle.pfc_world.proofs.Changes.{Now, unblocks}
use Rattle.pfc_world.proofs.rows.Rows.end.Goals as goal

pub invariant_of-self : goal.invariant_of-self
invariant_of-self c =
    let h : Now c.self.inside.rows.items c.self.inside.acting c.self.inside.done c.self.inside.moment c.self.inside.room c.args.self.now =
    record { tied = c.self.invariant; is = c.self.view_is } in
    (unblocks _ _ _ _ _ c.args.p Is_done _ _ _ h c.requires c.index_mut-row.ensures.value c.end.ensures refl).tied

pub returns : goal.returns
returns c =
    let h : Now c.self.inside.rows.items c.self.inside.acting c.self.inside.done c.self.inside.moment c.self.inside.room c.args.self.now =
    record { tied = c.self.invariant; is = c.self.view_is } in
    (unblocks _ _ _ _ _ c.args.p Is_done _ _ _ h c.requires c.index_mut-row.ensures.value c.end.ensures refl).is
