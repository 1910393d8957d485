use Rattle.pfc_run_invariants.proofs.Numbers.{added_fits, multiplied_fits, applied_fits, drawn_fits}
use Rattle.pfc_run_invariants.proofs.laws.operators_give_small_numbers.Goals as goal

pub returns : goal.returns
returns c =
    record {
      added = λ op a b. added_fits op a b;
      multiplied = λ op a b fits. multiplied_fits op a b fits;
      applied = λ f t n fits. applied_fits f t n fits;
      drawn = λ words n fits. drawn_fits words n fits;
    }
