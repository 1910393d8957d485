-- The step to an element of an array, by its bounds.
use Rattle.std.specs.Prelude.{ℤ, ◌-ℤ◌, nat_abs, int_le, ◌&&◌, if◌then◌else◌, Option, Some, None}
use Rattle.pfc_types.specs.declared.types.TypeId.{TypeId}
use Rattle.pfc_semantics.specs.Displays.{Spot, TypedSpot, within}

abbrev pub element_between : ℤ → ℤ → TypeId → Spot → ℤ → Option TypedSpot
element_between low high element s i =
    if int_le low i && int_le i high then Some (record { spot = within s (record { place = nat_abs (i -ℤ low); index = i }); t = Some element }) else None
