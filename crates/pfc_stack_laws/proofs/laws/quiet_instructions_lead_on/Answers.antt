use Rattle.pfc_stack_laws.proofs.Quiet.{lead_on, end_in}
use Rattle.pfc_stack_laws.proofs.laws.quiet_instructions_lead_on.Goals as goal

pub returns-clause-goes : goal.returns-clause-goes
returns-clause-goes c = λ g homes entries store b blocks stacks p at ops arms w i to left more hold hand stands is can h fit.
    lead_on g homes entries store b blocks stacks p at ops arms w hold hand stands i to left more is can h fit

pub returns-clause-ends : goal.returns-clause-ends
returns-clause-ends c = λ g homes entries store b blocks stacks p at ops arms w i f hold hand stands is can h.
    end_in g homes entries store b blocks stacks p at ops arms w hold hand stands i f is can h
