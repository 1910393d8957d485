use Rattle.std.proofs.Common.{ap, ◌∙◌}
use Rattle.pfc_world.proofs.Changes.{Now, begins, ready-within, seat-is}
use Rattle.pfc_world.proofs.rows.Rows.begin.Goals as goal

pub invariant_of-self : goal.invariant_of-self
invariant_of-self c =
    let h : Now c.self.inside.rows.items c.self.inside.acting c.self.inside.done c.self.inside.moment c.self.inside.room c.args.self.now =
    record { tied = c.self.invariant; is = c.self.view_is } in
    (begins _ _ _ _ _ c.args.p _ _ _ h c.requires.alone c.requires.ready c.index_mut-row.ensures.value c.begin.ensures.row).tied

pub returns-clause-number : goal.returns-clause-number
returns-clause-number c =
    let h : Now c.self.inside.rows.items c.self.inside.acting c.self.inside.done c.self.inside.moment c.self.inside.room c.args.self.now =
    record { tied = c.self.invariant; is = c.self.view_is } in
    c.begin.ensures.number ∙
    ap (λ v. v.number) (seat-is _ _ _ _ c.args.p _ c.self.invariant (ready-within _ _ _ _ _ c.args.p _ h c.requires.ready) c.index_mut-row.ensures.value)

pub returns-clause-table : goal.returns-clause-table
returns-clause-table c =
    let h : Now c.self.inside.rows.items c.self.inside.acting c.self.inside.done c.self.inside.moment c.self.inside.room c.args.self.now =
    record { tied = c.self.invariant; is = c.self.view_is } in
    (begins _ _ _ _ _ c.args.p _ _ _ h c.requires.alone c.requires.ready c.index_mut-row.ensures.value c.begin.ensures.row).is
