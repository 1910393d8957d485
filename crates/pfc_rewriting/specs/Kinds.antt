-- Parts that are pending.
use Rattle.std.specs.Prelude.{Bool, true, false}
use Rattle.pfc_pending.specs.declared.pending.Pending.{Pending}
use Rattle.pfc_pending.specs.declared.pending.Pending.TheVariants as pending

-- neither of a statement that is under way, nor of a select whose replica was written
abbrev pub is_plain : Pending → Bool
is_plain (pending.Within n s point) = false
is_plain (pending.GoThrough line c) = false
is_plain p = true
