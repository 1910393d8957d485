-- Selects, by what they offer.
use Rattle.std.specs.Prelude.{ℕ, slice_get, Option, Some, None}
use Rattle.pfc_semantics.specs.Programs.{Program}
use Rattle.pfc_semantics.specs.Remainders.{Offer, Open, Selecting, to_send, to_receive, to_accept}
use Rattle.pfc_semantics.specs.Configurations.{Config}
use Rattle.pfc_semantics.specs.Selects.{matched_places, place_taken, open_at}

-- It sends a message or receives one.
abbrev pub IsMessageOffer : Offer → Type 0
IsMessageOffer (to_send channel v) = Unit {0}
IsMessageOffer (to_receive channel target) = Unit {0}
IsMessageOffer offer = ⊥

abbrev pub IsMessage : Option Open → Type 0
IsMessage None = ⊥
IsMessage (Some o) = IsMessageOffer o.offer

-- some alternatives are matched, and that which is taken does
abbrev pub TakesMessage : Program → Config → ℕ → Selecting → ℕ → Type 0
TakesMessage g c p sel choice = IsMessage (open_at sel.offered (slice_get (matched_places g c p sel) (place_taken sel.pri choice)))

-- It accepts an entry.
abbrev pub IsEntryOffer : Offer → Type 0
IsEntryOffer (to_accept a) = Unit {0}
IsEntryOffer offer = ⊥

abbrev pub IsEntry : Option Open → Type 0
IsEntry None = ⊥
IsEntry (Some o) = IsEntryOffer o.offer

abbrev pub TakesEntry : Program → Config → ℕ → Selecting → ℕ → Type 0
TakesEntry g c p sel choice = IsEntry (open_at sel.offered (slice_get (matched_places g c p sel) (place_taken sel.pri choice)))
