use Rattle.std.proofs.Common.{ap, ◌∙◌}
use Rattle.std.proofs.lemmas.List.{get_or-set_other}
use Rattle.pfc_state.specs.declared.waits.Why.TheVariants.{Semaphore}
use Rattle.pfc_state.specs.Stands.{Is_idle, Is_ready, ticket_at}
use Rattle.pfc_world.specs.Semaphores.{signalled_to}
use Rattle.pfc_world.specs.Tables.{at}
use Rattle.pfc_world.proofs.FirstIs.{first-is}
use Rattle.pfc_world.proofs.Open.{at-gives}
use Rattle.pfc_pass.proofs.laws.a_signal_frees_the_first_alone.Goals as goal

pub returns-clause-first : goal.returns-clause-first
returns-clause-first c = λ d s q apart h. ap (λ o. signalled_to o d s) (first-is (ticket_at (Semaphore s)) d.table.rows q (at-gives (Semaphore s)) apart h)

pub returns-clause-alone : goal.returns-clause-alone
returns-clause-alone c = λ d s q k found other. ap (λ o. at (signalled_to o d s).table.rows k) found ∙ get_or-set_other d.table.rows q k Is_ready Is_idle other
