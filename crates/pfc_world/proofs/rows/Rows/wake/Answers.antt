use Rattle.std.proofs.Common.{set, refl, sym, subst}
use Rattle.pfc_state.specs.Stands.{Is_ready}
use Rattle.pfc_world.specs.Tickets.{IsNew}
use Rattle.pfc_world.proofs.Kept.{new-kept, none-set}
use Rattle.pfc_world.proofs.Changes.{Now, unblocks}
use Rattle.pfc_world.proofs.rows.Rows.wake.Goals as goal

pub invariant_of-self : goal.invariant_of-self
invariant_of-self c =
    let h : Now c.self.inside.rows.items c.self.inside.acting c.self.inside.done c.self.inside.moment c.self.inside.room c.args.self.now =
    record { tied = c.self.invariant; is = c.self.view_is } in
    (unblocks _ _ _ _ _ c.args.p Is_ready _ _ _ h c.requires c.index_mut-row.ensures.value c.wake.ensures refl).tied

pub returns-clause-table : goal.returns-clause-table
returns-clause-table c =
    let h : Now c.self.inside.rows.items c.self.inside.acting c.self.inside.done c.self.inside.moment c.self.inside.room c.args.self.now =
    record { tied = c.self.invariant; is = c.self.view_is } in
    (unblocks _ _ _ _ _ c.args.p Is_ready _ _ _ h c.requires c.index_mut-row.ensures.value c.wake.ensures refl).is

-- who is ready has no ticket
pub returns-clause-fresh : goal.returns-clause-fresh
returns-clause-fresh c =
    let h : Now c.self.inside.rows.items c.self.inside.acting c.self.inside.done c.self.inside.moment c.self.inside.room c.args.self.now =
    record { tied = c.self.invariant; is = c.self.view_is } in
    λ fresh. subst (λ w. IsNew w.rows w.done)
    (sym (unblocks _ _ _ _ _ c.args.p Is_ready _ _ _ h c.requires c.index_mut-row.ensures.value c.wake.ensures refl).is)
    (new-kept c.args.self.now.rows (set c.args.self.now.rows c.args.p Is_ready) c.args.self.now.done
    (none-set c.args.self.now.rows c.args.p Is_ready (λ w. w)) fresh)
