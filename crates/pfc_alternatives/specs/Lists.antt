-- In which list an alternative stands. Each kind has so many lists, over which its channels or entries are spread by
-- their numbers; so where a program has no more of them, each has a list of its own.
use Rattle.std.specs.Prelude.{ℕ, ◌+◌, ◌*◌, ◌%◌}
use Rattle.pfc_state.specs.declared.waits.Arm.{Arm}
use Rattle.pfc_state.specs.declared.waits.Arm.TheVariants.{Send, Receive, Accept}

abbrev pub list_count : ℕ → ℕ
list_count places = places * 3

abbrev pub list_of : ℕ → Arm → ℕ
list_of places (Send c) = c % places * 3
list_of places (Receive c) = c % places * 3 + 1
list_of places (Accept e) = e % places * 3 + 2
