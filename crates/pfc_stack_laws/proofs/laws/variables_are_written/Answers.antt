use Rattle.pfc_stack_laws.proofs.Variables.{write, write_kept}
use Rattle.pfc_stack_laws.proofs.laws.variables_are_written.Goals as goal

pub returns-clause-value : goal.returns-clause-value
returns-clause-value c = λ g homes entries store b blocks stacks p at w x v t word new below hand hold stands known is typed.
    write g homes entries store b blocks stacks p at w hand hold x v t word new below stands known is typed

pub returns-clause-kept : goal.returns-clause-kept
returns-clause-kept c = λ g homes entries store b blocks stacks p at w x v t word last kept below hand hold stands known is simple.
    write_kept g homes entries store b blocks stacks p at w hand hold x v t word last kept below stands known is simple
