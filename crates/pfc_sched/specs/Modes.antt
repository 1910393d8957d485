-- The picker's fields as what contracts see of it.
use Rattle.std.specs.Prelude.{◌+◌, ◌≤◌, length}
use Rattle.pfc_sched.specs.declared.picking.Mode.{Mode}
use Rattle.pfc_sched.specs.declared.picking.Mode.TheVariants.{Fair, Unfair, Script}
use Rattle.pfc_sched.specs.Picks.{Picking, by_words, by_turn, by_list}

abbrev pub picking_of : Mode → Picking
picking_of (Fair words) = by_words words
picking_of (Unfair last) = by_turn last
picking_of (Script picks item) = by_list picks item

-- no item past the end was taken but the one that is one more than the items
abbrev pub IsModest : Mode → Type 0
IsModest (Fair words) = Unit {0}
IsModest (Unfair last) = Unit {0}
IsModest (Script picks item) = item ≤ length picks + 1
