use Rattle.pfc_number_laws.proofs.Few.{few}
use Rattle.pfc_number_laws.proofs.Programs.{program_fits}
use Rattle.pfc_number_laws.proofs.Tokens.{tree_fits}
use Rattle.pfc_number_laws.proofs.laws.checked_programs_have_small_numbers.Goals as goal

pub returns : goal.returns
returns c =
    record {
      written = λ t symbols. tree_fits t symbols;
      few = λ t lawful whole. few t lawful whole;
      program = λ t lawful whole small. program_fits t small (few t lawful whole);
    }
