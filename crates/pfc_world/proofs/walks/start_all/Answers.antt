use Rattle.std.proofs.Common.{◌≡◌, ◌<◌, length, set, arith, sym, ap, ◌∙◌}
use Rattle.std.proofs.lemmas.List.Edits.{map_over_more}
use Rattle.pfc_state.specs.Stands.{started}
use Rattle.pfc_world.specs.Rows.{seat_by}
use Rattle.pfc_world.proofs.walks.start_all.Goals as goal

pub loop-row-preserved : goal.loop-row-preserved
loop-row-preserved c =
    let lt : c.loop-row.row-index < length c.args.rows.now = omega arith in
    let made : c.start_created.new.self ≡ (seat_by started) c.row-item.result = c.start_created.ensures ∙ ap (seat_by started) (sym c.row-item.is) in
    ap (λ v. set c.loop-row.rows c.loop-row.row-index v) made
    ∙ map_over_more (seat_by started) c.args.rows.now c.loop-row.rows c.loop-row.row-index c.row-item.result lt c.loop-row.invariant c.row-item.is
