use Rattle.pfc_stack_laws.proofs.Variables.{read}
use Rattle.pfc_stack_laws.proofs.laws.variables_are_read.Goals as goal

pub returns : goal.returns
returns c = λ g homes entries store b blocks stacks p at w x v t word below hand hold stands known is plain fit.
    read g homes entries store b blocks stacks p at w hand hold x v t word below stands known is plain fit
