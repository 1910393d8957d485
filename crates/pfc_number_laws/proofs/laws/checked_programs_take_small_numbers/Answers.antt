use Rattle.pfc_number_laws.proofs.Few.{few}
use Rattle.pfc_number_laws.proofs.Programs.{program_fits}
use Rattle.pfc_number_laws.proofs.Runs.{starts_small, numbers_are_small}
use Rattle.pfc_semantics.specs.Programs.{program_of}
use Rattle.pfc_semantics.specs.Configurations.{start}
use Rattle.pfc_number_laws.proofs.laws.checked_programs_take_small_numbers.Goals as goal

pub returns : goal.returns
returns c = λ t input seed d p lawful whole small bytes comes.
    let program = program_fits t small (few t lawful whole) in
    numbers_are_small (program_of t) program (start (program_of t) input seed) d (starts_small (program_of t) program input seed bytes) comes p
