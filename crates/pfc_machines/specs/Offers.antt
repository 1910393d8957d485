-- What a process offers to others: the alternatives that it has made, each with the words of its message.
use Rattle.std.specs.Prelude.{ℕ, zero, suc, ◌+◌, ◌==◌, Bool, true, false, is_some, if◌then◌else◌, ℤ, List, [], ◌∷◌, ◌++◌, take, drop, Option, None, Some}
use Rattle.std.specs.List.{find, filter}
use Rattle.pfc_state.specs.declared.waits.Arm.{Arm}
use Rattle.pfc_state.specs.declared.waits.Arm.TheVariants.{Send as To, Receive as From, Accept as Entry}
use Rattle.pfc_state.specs.Waits.{same_arm}
use Rattle.pfc_machines.specs.declared.alternatives.Alternative.{Alternative}
use Rattle.pfc_machines.specs.declared.alternatives.KeptAlternative.{KeptAlternative}
use Rattle.pfc_machines.specs.declared.alternatives.Offer.{Offer}
use Rattle.pfc_machines.specs.declared.alternatives.Offer.TheVariants.{Send, Receive, Accept, Timeout, Terminate}
use Rattle.pfc_machines.specs.declared.alternatives.Sought.{Sought}
use Rattle.pfc_machines.specs.declared.alternatives.Sought.TheVariants.{OpenTo, Delay, End}
use Rattle.pfc_machines.specs.Communications.{Communicating}

-- ## What is open

-- the alternative as the table of processes has it: none for `timeout` and `terminate`
abbrev pub arm_of : Offer → Option Arm
arm_of (Send c z) = Some (To c)
arm_of (Receive c z to) = Some (From c)
arm_of (Accept e d z) = Some (Entry e)
arm_of (Timeout n) = None
arm_of Terminate = None

abbrev pub listed_arm : Option Arm → List Arm
listed_arm None = []
listed_arm (Some arm) = arm ∷ []

-- those of alternatives of which the last made comes first, in the order in which they were made
abbrev pub arms_of : List Alternative → List Arm
arms_of [] = []
arms_of (a ∷ earlier) = arms_of earlier ++ listed_arm (arm_of a.offer)

-- how many words are kept of it
abbrev pub words_in : Offer → ℕ
words_in (Send c z) = z
words_in offer = 0

-- ## In the order in which they were made

abbrev pub kept : Alternative → ℕ → KeptAlternative
kept a above = record { alternative = a; above = above }

-- alternatives of which the last made comes first, over which so many words are kept
abbrev pub kept_under : ℕ → List Alternative → List KeptAlternative
kept_under above [] = []
kept_under above (a ∷ earlier) = kept_under (above + words_in a.offer) earlier ++ kept a above ∷ []

-- the last n that a process has made
abbrev pub last_made : ℕ → Communicating → List KeptAlternative
last_made n e = kept_under 0 (take n e.alternatives)

-- the words of its message, the last word first
abbrev pub message_of : Communicating → KeptAlternative → List ℤ
message_of e k = take (words_in k.alternative.offer) (drop k.above e.words)

-- ## The first of a kind

abbrev pub is_arm : Arm → Option Arm → Bool
is_arm arm None = false
is_arm arm (Some other) = same_arm other arm

abbrev pub is_sought : Sought → Offer → Bool
is_sought (OpenTo arm) offer = is_arm arm (arm_of offer)
is_sought Delay (Timeout n) = true
is_sought End Terminate = true
is_sought sought offer = false

abbrev pub first_sought : Sought → List KeptAlternative → Option KeptAlternative
first_sought sought ks = find (λ k. is_sought sought k.alternative.offer) ks

-- ## Those that communicate

abbrev pub communicates : KeptAlternative → Bool
communicates k = is_some (arm_of k.alternative.offer)

abbrev pub communications : List KeptAlternative → List KeptAlternative
communications ks = filter communicates ks

-- ## Those of one activation

-- how many of the last were made by an activation
abbrev pub made_by : ℕ → List Alternative → ℕ
made_by activation [] = 0
made_by activation (a ∷ earlier) = if a.activation == activation then 1 + made_by activation earlier else 0

-- ## What is taken

-- the last made is gone, with its message
abbrev pub without_last : Communicating → List Alternative → Communicating
without_last e [] = e
without_last e (a ∷ earlier) = record e { alternatives = earlier; words = drop (words_in a.offer) e.words }

-- the last n are
abbrev pub without : ℕ → Communicating → Communicating
without zero e = e
without (suc n) e = without n (without_last e e.alternatives)
