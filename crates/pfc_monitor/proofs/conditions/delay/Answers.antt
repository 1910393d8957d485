use Rattle.std.proofs.Common.{rules, ◌≡◌, ℕ, ℤ, [], FitsSigned, w32, to_z, of_z, ap, ◌∙◌}
use Rattle.std.proofs.lemmas.Int.{to_z-of_z}
use Rattle.pfc_state.specs.declared.waits.Why.TheVariants.{Condition}
use Rattle.pfc_world.specs.Holders.{Held, held_in, standing}
use Rattle.pfc_world.specs.Monitors.{handed_over, delayed}
use Rattle.pfc_world.specs.Partners.{next_holder}
use Rattle.pfc_world.specs.Tables.{Table}
use Rattle.pfc_world.specs.Transitions.{blocked}
use Rattle.pfc_monitor.proofs.conditions.delay.Goals as goal

delays : (h g : Held) (w : Table) (p m n c : ℕ) (rank ranked : ℤ) → g ≡ handed_over h m → m ≡ n → w ≡ blocked g.table p (Condition c ranked) [] → ranked ≡ rank
    → held_in w g.holders ≡ delayed h p n c rank
delays h g w p m n c rank ranked handed same waits with_rank =
    ap (λ v. held_in v g.holders) waits
    ∙ ap (λ r. standing g (blocked g.table p (Condition c r) [])) with_rank
    ∙ ap (λ x. standing x (blocked x.table p (Condition c rank) [])) handed
    ∙ ap (λ k. delayed h p k c rank) same

-- the rank that is waited with is the rank that was given
same : (c : goal.After-block) → to_z w32 (of_z w32 c.args.rank) ≡ c.args.rank
same c = let fits : FitsSigned w32 c.args.rank = search rules in to_z-of_z w32 c.args.rank fits

pub returns-clause-table : goal.returns-clause-table
returns-clause-table c =
    delays (held_in c.args.world.now c.args.mons.now.holders)
    (held_in c.hand_over-next.new.world c.hand_over-next.new.mons.holders) c.block.new.self _ _ _ _ c.args.rank _
    c.hand_over-next.ensures.table c.monitor_of-m.ensures.monitor c.block.ensures (same c)

pub returns-clause-next : goal.returns-clause-next
returns-clause-next c = c.hand_over-next.ensures.next ∙ ap (λ m. next_holder c.args.world.now.rows m) c.monitor_of-m.ensures.monitor
