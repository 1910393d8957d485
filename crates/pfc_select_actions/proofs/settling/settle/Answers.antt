use Rattle.std.proofs.Common.{ap, ◌∙◌}
use Rattle.pfc_world.specs.Tables.{Table}
use Rattle.pfc_world.specs.Terminating.{finally_settled}
use Rattle.pfc_machines.specs.declared.machine.Machine.{Machine}
use Rattle.pfc_select_actions.proofs.Settled.{acting_settled}
use Rattle.pfc_select_actions.proofs.settling.settle.Goals as goal

pub terminate_all-ended-requires : goal.terminate_all-ended-requires
terminate_all-ended-requires c =
    ap (λ (w : Table). w.acting) c.settle-left.ensures.world ∙ acting_settled c.args.machine.now.world ∙ c.requires

pub returns : goal.returns
returns c =
    ap (λ (w : Table). (let after : Machine = record c.args.machine.now { world = w } in after))
    (c.terminate_all-ended.ensures.table ∙ ap finally_settled c.settle-left.ensures.world)

pub settle-left-requires : goal.settle-left-requires
settle-left-requires c = c.requires
