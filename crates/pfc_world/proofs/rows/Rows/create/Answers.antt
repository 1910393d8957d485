use Rattle.std.proofs.Common.{sym, ap, ◌∙◌}
use Rattle.pfc_state.specs.Stands.{is_unfinished}
use Rattle.pfc_world.proofs.Changes.{Now, creates, read-stand}
use Rattle.pfc_world.proofs.rows.Rows.create.Goals as goal

pub invariant_of-self-2 : goal.invariant_of-self-2
invariant_of-self-2 c =
    let h : Now c.self.inside.rows.items c.self.inside.acting c.self.inside.done c.self.inside.moment c.self.inside.room c.args.self.now =
    record { tied = c.self.invariant; is = c.self.view_is } in
    (creates _ _ _ _ _ c.args.p _ _ _ h c.requires c.index_mut-row.ensures.value (sym c.is_unfinished.ensures ∙ c.if-is_unfinished.false) c.create.ensures).tied

pub returns : goal.returns
returns c =
    let h : Now c.self.inside.rows.items c.self.inside.acting c.self.inside.done c.self.inside.moment c.self.inside.room c.args.self.now =
    record { tied = c.self.invariant; is = c.self.view_is } in (
      ap is_unfinished (sym (read-stand _ _ _ _ _ c.args.p _ _ h c.requires c.index_mut-row.ensures.value)) ∙
          (sym c.is_unfinished.ensures ∙ c.if-is_unfinished.false),
      (creates _ _ _ _ _ c.args.p _ _ _ h c.requires c.index_mut-row.ensures.value
          (sym c.is_unfinished.ensures ∙ c.if-is_unfinished.false) c.create.ensures).is,
    )
