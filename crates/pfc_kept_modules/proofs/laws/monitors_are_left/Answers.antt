use Rattle.pfc_kept_modules.proofs.Leaving.{monitor_left}
use Rattle.pfc_kept_modules.proofs.laws.monitors_are_left.Goals as goal

pub returns : goal.returns
returns c = λ facts m config p choice n level action ends entered outside acting arrived.
    monitor_left facts m config p choice n level action ends entered outside acting arrived
