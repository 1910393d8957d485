-- Nobody acts behind settling, as before it.
use Rattle.std.proofs.Common.{◌≡◌, Bool, true, false, Option, None, Some, ℕ, refl}
use Rattle.std.specs.Prelude.{if◌then◌else◌}
use Rattle.pfc_world.specs.Settling.{earliest, woken_now, moved_to, settled}
use Rattle.pfc_world.specs.Tables.{Table, some_ready}

either_way : (w : Table) (b : Bool) (o : Option ℕ) → (if b then w else moved_to o w).acting ≡ w.acting
either_way w true o = refl
either_way w false None = refl
either_way w false (Some moment) = refl

pub acting_settled : (w : Table) → (settled w).acting ≡ w.acting
acting_settled w = either_way (woken_now w) (some_ready (woken_now w).rows) (earliest (woken_now w).rows)
