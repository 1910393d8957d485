use Rattle.std.proofs.Common.{rules, false, true, FitsSigned, w32, w64, to_z, of_z, refl, sym, ap, ◌∙◌}
use Rattle.std.proofs.lemmas.Int.{to_z-of_z}
use Rattle.pfc_world.specs.Tables.{Table}
use Rattle.pfc_world.specs.Holders.{held_in}
use Rattle.pfc_activities.specs.declared.state.State.{State}
use Rattle.pfc_waiting.proofs.Performing.{delays_so}
use Rattle.pfc_waiting.proofs.conditions.delays.Goals as goal

pub returns-then-not-is_inside-clause-ok : goal.returns-then-not-is_inside-clause-ok
returns-then-not-is_inside-clause-ok c =
    let old : State = c.args.state.now in
    let mid : State = record old { world = c.block_by.new.world } in
    let fits : FitsSigned w32 c.in-Some-in_32_bits.fitting = search rules in
    let whole : FitsSigned w64 c.args.rank = search rules in
    delays_so old mid c.go_on_when_ready.new.state c.args.p c.in-Some.c c.monitor_of-m.result c.args.spot c.args.rank
    (to_z w32 (of_z w32 c.in-Some-in_32_bits.fitting)) false c.go_on_when_ready.result refl c.block_by.ensures.acted refl refl c.in-Some.ensures.number
    c.monitor_of-m.ensures.monitor
    (λ a there. sym c.if-not-is_inside.true ∙ c.is_inside.ensures a there)
    (to_z-of_z w32 c.in-Some-in_32_bits.fitting fits ∙ c.in-Some-in_32_bits.ensures ∙ to_z-of_z w64 c.args.rank whole)
    (ap (λ (w : Table). held_in w old.monitors.holders) c.block_by.ensures.rule) c.go_on_when_ready.ensures

pub returns-clause-ok : goal.returns-clause-ok
returns-clause-ok c =
    let old : State = c.args.state.now in
    let mid : State = record old { world = c.delay_by.new.world; monitors = c.delay_by.new.mons } in
    let fits : FitsSigned w32 c.in-Some-in_32_bits.fitting = search rules in
    let whole : FitsSigned w64 c.args.rank = search rules in
    delays_so old mid c.go_on_when_ready-2.new.state c.args.p c.in-Some.c c.monitor_of-m.result c.args.spot c.args.rank
    (to_z w32 (of_z w32 c.in-Some-in_32_bits.fitting)) true c.go_on_when_ready-2.result refl c.delay_by.ensures.acted refl c.delay_by.ensures.conditions
    c.in-Some.ensures.number c.monitor_of-m.ensures.monitor
    (λ a there. sym c.if-not-is_inside.false ∙ c.is_inside.ensures a there)
    (to_z-of_z w32 c.in-Some-in_32_bits.fitting fits ∙ c.in-Some-in_32_bits.ensures ∙ to_z-of_z w64 c.args.rank whole)
    c.delay_by.ensures.rule c.go_on_when_ready-2.ensures
