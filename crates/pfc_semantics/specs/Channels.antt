-- Communication: what passes between the process that acts and its partner.
--
-- A plain `!`, `?` or `accept` and an alternative of a select do the same: both are open alternatives. The partner is the first by ticket that waits
-- on the other side, in a plain statement or in a select, where it is met at its first such alternative in the text.
use Rattle.std.specs.Prelude.{ℕ, Bool, true, false, if◌then◌else◌, List, [], ◌∷◌, Option, Some, None}
use Rattle.pfc_state.specs.declared.waits.Arm.{Arm}
use Rattle.pfc_state.specs.declared.waits.Arm.TheVariants.{Send as To, Receive as From, Accept as Entry}
use Rattle.pfc_state.specs.Waits.{same_arm}
use Rattle.pfc_semantics.specs.Values.{Value}
use Rattle.pfc_semantics.specs.Displays.{Spot}
use Rattle.pfc_semantics.specs.Programs.{Program}
use Rattle.pfc_semantics.specs.Remainders.{Context, Replica, Offer, Open, Remainder, to_send, to_receive, to_accept, to_wait, to_end, write_again}
use Rattle.pfc_semantics.specs.Statements.{behind}
use Rattle.pfc_semantics.specs.Configurations.{Hand, Config, activity_of, offering, goes_on, number_for, written_for}

-- ## What is open

-- the alternative as the table has it: with the number of its channel or entry; none for `timeout` and `terminate`
abbrev pub arm_of : Program → Config → ℕ → Offer → Option Arm
arm_of g c p (to_send channel v) = Some (To (number_for g c p channel))
arm_of g c p (to_receive channel target) = Some (From (number_for g c p channel))
arm_of g c p (to_accept a) = Some (Entry a.entry)
arm_of g c p (to_wait n) = None
arm_of g c p to_end = None

-- the alternatives that communicate
abbrev pub is_communication : Offer → Bool
is_communication (to_wait n) = false
is_communication to_end = false
is_communication offer = true

abbrev pub communications : List Open → List Open
communications [] = []
communications (o ∷ os) = if is_communication o.offer then o ∷ communications os else communications os

abbrev pub listed_arm : Option Arm → List Arm → List Arm
listed_arm None arms = arms
listed_arm (Some arm) arms = arm ∷ arms

abbrev pub arms_of_all : Program → Config → ℕ → List Open → List Arm
arms_of_all g c p [] = []
arms_of_all g c p (o ∷ os) = listed_arm (arm_of g c p o.offer) (arms_of_all g c p os)

-- ## Behind a communication

-- A replicated alternative that is chosen writes its variable again, behind the communication and before all else.
abbrev pub behind_replica : Option Replica → Remainder → Remainder
behind_replica None k = k
behind_replica (Some r) k = write_again r k

abbrev pub behind_open : Open → Remainder → Remainder
behind_open o k = behind_replica o.replica (behind o.next o.stmts k)

-- ## The partner

-- what a partner offers there, with what is left behind it
pub record Side : Type 0 where
  pub context : Context
  pub at : Open
  pub left : Remainder

abbrev pub is_arm : Arm → Option Arm → Bool
is_arm arm None = false
is_arm arm (Some other) = same_arm other arm

-- its first open alternative of this kind; channels are those of its own display
abbrev pub first_open : Program → Config → ℕ → Arm → Context → List Open → Remainder → Option Side
first_open g c q arm x [] k = None
first_open g c q arm x (o ∷ os) k =
    if is_arm arm (arm_of g c q o.offer) then Some (record { context = x; at = o; left = k }) else first_open g c q arm x os k

abbrev pub side_in : Program → Config → ℕ → Arm → Hand → Option Side
side_in g c q arm (offering x os k) = first_open g c q arm x os k
side_in g c q arm hand = None

abbrev pub side_of : Program → Config → ℕ → Arm → Option Side
side_of g c q arm = side_in g c q arm (activity_of g c q).hand

-- a process that was met goes on behind its alternative
abbrev pub goes_behind : Program → Config → ℕ → Side → Config
goes_behind g c q s = goes_on g c q s.context (behind_open s.at s.left)

-- ## Messages

-- The value is written to the receiver's variable, which lies where the receiver's display has it; over a channel of `synchronous` nothing is.
abbrev pub delivered : Program → Config → ℕ → Option Spot → Value → Config
delivered g c q None v = c
delivered g c q (Some target) v = written_for g c q target v

-- `c ! e` meets a receiver
abbrev pub sent_into : Program → Config → ℕ → Value → Side → Offer → Config
sent_into g c q v s (to_receive channel target) = goes_behind g (delivered g c q target v) q s
sent_into g c q v s offer = c

abbrev pub sent_to : Program → Config → ℕ → Value → Option Side → Config
sent_to g c q v None = c
sent_to g c q v (Some s) = sent_into g c q v s s.at.offer

-- `c ? v` meets a sender
abbrev pub received_out : Program → Config → ℕ → Option Spot → ℕ → Side → Offer → Config
received_out g c p target q s (to_send channel v) = goes_behind g (delivered g c p target v) q s
received_out g c p target q s offer = c

abbrev pub received_from : Program → Config → ℕ → Option Spot → ℕ → Option Side → Config
received_from g c p target q None = c
received_from g c p target q (Some s) = received_out g c p target q s s.at.offer
