use Rattle.std.proofs.Common.{ap, ◌∙◌}
use Rattle.pfc_state.specs.declared.waits.Why.TheVariants.{Enter, Resumer}
use Rattle.pfc_state.specs.Stands.{ticket_at}
use Rattle.pfc_world.specs.Firsts.{first}
use Rattle.pfc_world.specs.Partners.{or_else}
use Rattle.pfc_world.proofs.FirstIs.{first-is, first-none, last-is, last-none}
use Rattle.pfc_world.proofs.Open.{at-gives}
use Rattle.pfc_monitor.proofs.laws.the_latest_resumer_comes_before_any_entrant.Goals as goal

pub returns-clause-resumer : goal.returns-clause-resumer
returns-clause-resumer c = λ rows m q apart h. ap (λ o. or_else o (first (ticket_at (Enter m)) rows))
    (last-is (ticket_at (Resumer m)) rows q (at-gives (Resumer m)) apart h)

pub returns-clause-entrant : goal.returns-clause-entrant
returns-clause-entrant c =
    λ rows m q apart none h. ap (λ o. or_else o (first (ticket_at (Enter m)) rows)) (last-none (ticket_at (Resumer m)) rows none) ∙
    first-is (ticket_at (Enter m)) rows q (at-gives (Enter m)) apart h

pub returns-clause-nobody : goal.returns-clause-nobody
returns-clause-nobody c =
    λ rows m none nobody. ap (λ o. or_else o (first (ticket_at (Enter m)) rows)) (last-none (ticket_at (Resumer m)) rows none) ∙
    first-none (ticket_at (Enter m)) rows nobody
