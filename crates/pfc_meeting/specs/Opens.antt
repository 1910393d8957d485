-- What is open, by the store and the display of its process.
use Rattle.std.specs.Prelude.{ℕ, unsigned_abs, if◌then◌else◌, List, [], ◌∷◌, Option, Some, None}
use Rattle.pfc_state.specs.declared.waits.Arm.{Arm}
use Rattle.pfc_state.specs.declared.waits.Arm.TheVariants.{Send as To, Receive as From, Accept as Entry}
use Rattle.pfc_semantics.specs.Values.{ordinal_of}
use Rattle.pfc_semantics.specs.Store.{Store, value_at}
use Rattle.pfc_semantics.specs.Displays.{Spot, Display, located}
use Rattle.pfc_semantics.specs.Remainders.{Offer, Open, to_send, to_receive, to_accept, to_wait, to_end}
use Rattle.pfc_semantics.specs.Channels.{is_arm, listed_arm}

-- the number of the object that a spot names
abbrev pub number_in : Store → Display → Spot → ℕ
number_in store display s = unsigned_abs (ordinal_of (value_at store (located store display s)))

-- an offer as the table has it
abbrev pub arm_in : Store → Display → Offer → Option Arm
arm_in store display (to_send channel v) = Some (To (number_in store display channel))
arm_in store display (to_receive channel target) = Some (From (number_in store display channel))
arm_in store display (to_accept a) = Some (Entry a.entry)
arm_in store display (to_wait n) = None
arm_in store display to_end = None

abbrev pub arms_in : Store → Display → List Open → List Arm
arms_in store display [] = []
arms_in store display (o ∷ os) = listed_arm (arm_in store display o.offer) (arms_in store display os)

-- the first that is open to this
abbrev pub first_met : Store → Display → Arm → List Open → Option Open
first_met store display arm [] = None
first_met store display arm (o ∷ os) = if is_arm arm (arm_in store display o.offer) then Some o else first_met store display arm os
