use Rattle.std.proofs.Common.{rules, ◌<◌, length, List, subst}
use Rattle.std.proofs.lemmas.List.{take_all}
use Rattle.std.proofs.lemmas.List.Elements.{All-more}
use Rattle.pfc_code.specs.Images.{plain_image}
use Rattle.pfc_report.specs.Reports.{NameProcesses}
use Rattle.pfc_state.specs.declared.standings.Standing.{Standing}
use Rattle.pfc_state.specs.declared.standings.State.TheVariants.{Idle}
use Rattle.pfc_walk.proofs.reporting.name_processes.Goals as goal

pub loop-standing-preserved : goal.loop-standing-preserved
loop-standing-preserved c = λ k d.
    All-more (λ (standing : Standing). standing.process < length c.args.image.now.processes.items) c.args.standings.now c.loop-standing.standing-index
    (record { process = 0; state = Idle; line = 0 })
    (search rules) c.loop-standing.invariant (search rules) k d

pub returns : goal.returns
returns c = λ yes.
    subst (λ (standings : List Standing). NameProcesses (plain_image c.args.image.now) standings)
    (take_all c.loop-standing.standing-index c.args.standings.now (search rules)) c.loop-standing.invariant
