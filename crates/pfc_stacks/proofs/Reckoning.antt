-- The address of an element, as words of 64 bits reckon it.
use Rattle.std.proofs.Common.{◌≡◌, ℤ, ◌+ℤ◌, ◌-ℤ◌, ◌*ℤ◌, FitsSigned, w64, to_z, of_z}
use Rattle.std.proofs.lemmas.Int.{to_z-of_z}

-- what is reckoned on the way fits
pub record Steps (low z i array : ℤ) : Type 0 where
  pub low_fits : FitsSigned w64 low
  pub size_fits : FitsSigned w64 z
  pub index_fits : FitsSigned w64 i
  pub array_fits : FitsSigned w64 array
  pub places_fit : FitsSigned w64 (i -ℤ low)
  pub cells_fit : FitsSigned w64 ((i -ℤ low) *ℤ z)

-- so nothing is lost
pub reckoned : (low z i array : ℤ) → Steps low z i array →
    to_z w64 (of_z w64 array) +ℤ to_z w64 (of_z w64 (to_z w64 (of_z w64 (to_z w64 (of_z w64 i) -ℤ to_z w64 (of_z w64 low))) *ℤ to_z w64 (of_z w64 z)))
    ≡ array +ℤ (i -ℤ low) *ℤ z
reckoned low z i array s =
    let low_fits = s.low_fits in
    let size_fits = s.size_fits in
    let index_fits = s.index_fits in
    let array_fits = s.array_fits in
    let places_fit = s.places_fit in
    let cells_fit = s.cells_fit in
    simp to_z-of_z
