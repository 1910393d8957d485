use Rattle.pfc_cells.proofs.Reading.{writes, gives}
use Rattle.pfc_cells.proofs.Reading.{found}
use Rattle.pfc_cells.proofs.Values.{value_kept}
use Rattle.pfc_cells.proofs.Kept.{keeps}
use Rattle.pfc_cells.proofs.laws.writes_are_stored.Goals as goal

pub returns-clause-given : goal.returns-clause-given
returns-clause-given c = λ g homes entries store stacks l t r v sound memory lives lies n. gives g sound homes entries store stacks l t r v memory lives lies n

pub returns-clause-held : goal.returns-clause-held
returns-clause-held c = λ g homes entries store stacks l t r v sound memory lives lies n. writes g sound homes entries store stacks l t r v memory lives lies n

pub returns-clause-apart : goal.returns-clause-apart
returns-clause-apart c = λ g homes entries store stacks l m t u r s v sound memory one two x y fit apart.
    keeps g sound homes entries store stacks l m t u r s v memory one two x y fit apart

pub returns-clause-value : goal.returns-clause-value
returns-clause-value c = λ g homes entries store stacks l t r v sound memory lives lies.
    (found g sound homes entries store stacks l t r memory lives lies).gives v

pub returns-clause-others : goal.returns-clause-others
returns-clause-others c = λ g homes entries store stacks l m t r v sound memory lives lies apart.
    value_kept store l m v (found g sound homes entries store stacks l t r memory lives lies).there apart
