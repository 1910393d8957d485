use Rattle.pfc_state.specs.declared.waits.Why.TheVariants.{Select}
use Rattle.pfc_world.proofs.Changes.{Now, acting-within, acting-ready, blocks}
use Rattle.pfc_world.proofs.rows.Rows.block_select.Goals as goal

pub invariant_of-self : goal.invariant_of-self
invariant_of-self c =
    let h : Now c.self.inside.rows.items c.self.inside.acting c.self.inside.done c.self.inside.moment c.self.inside.room c.args.self.now =
    record { tied = c.self.invariant; is = c.self.view_is } in
    (blocks _ _ _ _ _ c.number.result c.args.r.number (Select c.args.due c.args.terminate) c.args.arms.now _ _ _ h c.number.ensures c.requires.acts
    c.index_mut-row.ensures.value c.block_select.ensures c.requires.fresh).tied

pub returns-clause-table : goal.returns-clause-table
returns-clause-table c =
    let h : Now c.self.inside.rows.items c.self.inside.acting c.self.inside.done c.self.inside.moment c.self.inside.room c.args.self.now =
    record { tied = c.self.invariant; is = c.self.view_is } in
    (blocks _ _ _ _ _ c.number.result c.args.r.number (Select c.args.due c.args.terminate) c.args.arms.now _ _ _ h c.number.ensures c.requires.acts
    c.index_mut-row.ensures.value c.block_select.ensures c.requires.fresh).is

pub returns-clause-within : goal.returns-clause-within
returns-clause-within c =
    let h : Now c.self.inside.rows.items c.self.inside.acting c.self.inside.done c.self.inside.moment c.self.inside.room c.args.self.now =
    record { tied = c.self.invariant; is = c.self.view_is } in
    acting-within _ _ _ _ _ c.args.r.number _ h c.requires.acts

pub returns-clause-acted : goal.returns-clause-acted
returns-clause-acted c =
    let h : Now c.self.inside.rows.items c.self.inside.acting c.self.inside.done c.self.inside.moment c.self.inside.room c.args.self.now =
    record { tied = c.self.invariant; is = c.self.view_is } in
    acting-ready _ _ _ _ _ c.args.r.number _ h c.requires.acts
