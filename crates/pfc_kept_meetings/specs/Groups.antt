-- Rendezvous, by their kinds.
use Rattle.pfc_semantics.specs.Remainders.{Action, parts}
use Rattle.pfc_representation.specs.Levels.{LivingLevel}

-- the end of an accept
abbrev pub EndsAccept : LivingLevel → Action → Type 0
EndsAccept level (parts x caller k) = Unit {0}
EndsAccept level n = ⊥
