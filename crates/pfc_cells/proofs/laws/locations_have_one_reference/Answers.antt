use Rattle.std.proofs.Common.{refl}
use Rattle.std.specs.Prelude.{◌+◌}
use Rattle.pfc_cells.specs.Homes.{variable_at}
use Rattle.pfc_cells.proofs.Apart.{one_reference}
use Rattle.pfc_cells.proofs.Kept.{has_home}
use Rattle.pfc_cells.proofs.laws.locations_have_one_reference.Goals as goal

pub returns-clause-home : goal.returns-clause-home
returns-clause-home c = λ g homes entries store stacks q a memory among. has_home g homes entries store stacks q a memory among

pub returns-clause-one : goal.returns-clause-one
returns-clause-one c = λ g homes l t home behind is.
    let first = variable_at g home l.variable in
    (record { process = first.process; cell = first.cell + behind }, record { home = home; behind = behind; is = is; place = refl })

pub returns-clause-same : goal.returns-clause-same
returns-clause-same c = λ g homes l t u r s x y. one_reference g homes l t u r s x y
