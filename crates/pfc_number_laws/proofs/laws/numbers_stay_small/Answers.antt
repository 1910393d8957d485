use Rattle.pfc_number_laws.proofs.Runs.{starts_small, all_come_small}
use Rattle.pfc_number_laws.proofs.laws.numbers_stay_small.Goals as goal

pub returns : goal.returns
returns c =
    record {
      start = λ g input seed program bytes. starts_small g program input seed bytes;
      runs = λ g first d program fits comes. all_come_small g program first d fits comes;
    }
