use Rattle.pfc_world.proofs.Changes.{Now, rests}
use Rattle.pfc_world.proofs.rows.Rows.rest.Goals as goal

pub invariant_of-self : goal.invariant_of-self
invariant_of-self c =
    let h : Now c.self.inside.rows.items c.self.inside.acting c.self.inside.done c.self.inside.moment c.self.inside.room c.args.self.now =
    record { tied = c.self.invariant; is = c.self.view_is } in
    (rests _ _ _ _ _ c.number.result c.args.r.number _ _ _ h c.number.ensures c.requires c.index_mut-row.ensures.value c.rest.ensures).tied

pub returns : goal.returns
returns c =
    let h : Now c.self.inside.rows.items c.self.inside.acting c.self.inside.done c.self.inside.moment c.self.inside.room c.args.self.now =
    record { tied = c.self.invariant; is = c.self.view_is } in
    (rests _ _ _ _ _ c.number.result c.args.r.number _ _ _ h c.number.ensures c.requires c.index_mut-row.ensures.value c.rest.ensures).is
