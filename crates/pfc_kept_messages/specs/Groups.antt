-- Plain communications over channels.
use Rattle.pfc_semantics.specs.Remainders.{Offer, Action, to_send, to_receive, meets}
use Rattle.pfc_representation.specs.Levels.{LivingLevel}

abbrev pub IsSend : Offer → Type 0
IsSend (to_send channel v) = Unit {0}
IsSend offer = ⊥

-- `c ! e`
abbrev pub IsSent : LivingLevel → Action → Type 0
IsSent level (meets x o k) = IsSend o.offer
IsSent level n = ⊥

abbrev pub IsReceive : Offer → Type 0
IsReceive (to_receive channel target) = Unit {0}
IsReceive offer = ⊥

-- `c ? v`
abbrev pub IsReceived : LivingLevel → Action → Type 0
IsReceived level (meets x o k) = IsReceive o.offer
IsReceived level n = ⊥
