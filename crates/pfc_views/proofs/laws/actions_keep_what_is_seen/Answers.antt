use Rattle.pfc_views.proofs.Changes.{written, begun, ended}
use Rattle.pfc_views.proofs.laws.actions_keep_what_is_seen.Goals as goal

pub returns-clause-written : goal.returns-clause-written
returns-clause-written c = λ g keeps homes entries store l t r v lies. written g keeps homes entries store l t r v lies

pub returns-clause-begun : goal.returns-clause-begun
returns-clause-begun c = λ g keeps homes entries store p a home entry values free. begun g keeps homes entries store p a home entry values free

pub returns-clause-ended : goal.returns-clause-ended
returns-clause-ended c = λ g keeps homes entries store p top below is gone. ended g keeps homes entries store p top below is gone
