-- What an action reads and writes, by the store and the displays that are held.
use Rattle.std.specs.Prelude.{ℕ, ◌+◌, Bool, true, false, if◌then◌else◌, List, [], ◌∷◌, Option, Some, None}
use Rattle.pfc_hb.specs.declared.accesses.Access.{Access as AccessSeen}
use Rattle.pfc_semantics.specs.Values.{Location, Value, ordinal, compound, points}
use Rattle.pfc_semantics.specs.Store.{Store}
use Rattle.pfc_semantics.specs.Displays.{Display, Frame, Spot, frame_of, located}
use Rattle.pfc_semantics.specs.Remainders.{Accepting, Offer, to_send, to_receive, to_accept, to_wait, to_end}
use Rattle.pfc_semantics.specs.Events.{parameter_writes}
use Rattle.pfc_races.specs.Seen.{access_seen, accesses_seen}

-- an access of what lies at a location
abbrev pub access_to : Bool → Location → AccessSeen
access_to write l = access_seen (record { at = l; write = write })

-- ## Messages

abbrev pub message_in : Store → Display → Option Spot → List AccessSeen
message_in store display None = []
message_in store display (Some target) = access_to true (located store display target) ∷ []

-- ## Parameters of accepts

abbrev pub is_reference : Value → Bool
is_reference (points l) = true
is_reference (ordinal n) = false
is_reference (compound vs) = false

-- where a parameter lies
abbrev pub parameter_at : Frame → ℕ → Location
parameter_at f i = record { activation = f.activation; variable = f.first + i; selectors = [] }

-- the write of one parameter
abbrev pub parameter_write : Frame → ℕ → Value → List AccessSeen
parameter_write f i v = if is_reference v then [] else access_to true (parameter_at f i) ∷ []

abbrev pub parameters_of : Frame → ℕ → List Value → List AccessSeen
parameters_of f i args = accesses_seen (parameter_writes f i args)

abbrev pub parameters_in : Display → Accepting → List Value → List AccessSeen
parameters_in display a args = parameters_of (frame_of display a.scope) 0 args

-- ## What a partner's alternative has written by its side

abbrev pub beside_in : Store → Display → List Value → Offer → List AccessSeen
beside_in store display args (to_receive channel target) = message_in store display target
beside_in store display args (to_accept a) = parameters_in display a args
beside_in store display args (to_send channel v) = []
beside_in store display args (to_wait n) = []
beside_in store display args to_end = []
