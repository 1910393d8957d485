-- Selects, and plain communication.
use Rattle.std.specs.Prelude.{ℕ, ◌+◌, ◌*◌, unsigned_abs, ◌==◌, Bool, true, false, nat_le, if◌then◌else◌, List, [], ◌∷◌, length, Option, Some, None, slice_get}
use Rattle.std.specs.Prelude.{Ok, Err}
use Rattle.std.specs.List.{list_any}
use Rattle.pfc_base.specs.declared.faults.RunFault.TheVariants.{Late, Closed}
use Rattle.pfc_state.specs.declared.waits.Arm.{Arm}
use Rattle.pfc_state.specs.declared.waits.Arm.TheVariants.{Send as To, Receive as From, Accept as Entry}
use Rattle.pfc_world.specs.Tables.{Table}
use Rattle.pfc_world.specs.Partners.{partner}
use Rattle.pfc_world.specs.Channels.{sent, received}
use Rattle.pfc_world.specs.Rendezvous.{accepted}
use Rattle.pfc_world.specs.Selects.{matched, committed, select_waited}
use Rattle.pfc_semantics.specs.Programs.{Program}
use Rattle.pfc_semantics.specs.Remainders.{Context, Offer, Open, Otherwise, Selecting, Remainder, Action, to_send, to_receive, to_accept, to_wait, to_end}
use Rattle.pfc_semantics.specs.Remainders.{decides}
use Rattle.pfc_semantics.specs.Statements.{behind}
use Rattle.pfc_semantics.specs.Configurations.{Config, Effect, offering, goes_on, showing, with_table}
use Rattle.pfc_semantics.specs.Channels.{arm_of, communications, arms_of_all, behind_open, side_of, sent_to, received_from}
use Rattle.pfc_semantics.specs.Rendezvous.{accepts_from}

-- ## With a partner

-- The process that acts meets q at an open alternative of its own, and goes on behind it: a message passes, or a meeting begins.
abbrev pub communicates_by : Program → Config → ℕ → Context → Open → Remainder → ℕ → Offer → Option Arm → Config
communicates_by g c p x o k q (to_send channel v) (Some (To n)) = sent_to g (goes_on g c p x (behind_open o k)) q v (side_of g c q (From n))
communicates_by g c p x o k q (to_receive channel target) (Some (From n)) =
    received_from g (goes_on g c p x (behind_open o k)) p target q (side_of g c q (To n))
communicates_by g c p x o k q (to_accept a) arm = accepts_from g c p x a o q k
communicates_by g c p x o k q offer arm = c

abbrev pub communicates_with : Program → Config → ℕ → Context → Open → Remainder → ℕ → Config
communicates_with g c p x o k q = communicates_by g c p x o k q o.offer (arm_of g c p o.offer)

-- without one nothing passes
abbrev pub communicates : Program → Config → ℕ → Context → Open → Remainder → Option ℕ → Config
communicates g c p x o k None = c
communicates g c p x o k (Some q) = communicates_with g c p x o k q

abbrev pub partner_at : Config → ℕ → Option Arm → Option ℕ
partner_at c p None = None
partner_at c p (Some arm) = partner c.table.rows p arm

-- ## A plain `!`, `?` or `accept`

-- what it does to the standings
abbrev pub plainly : Table → ℕ → Option Arm → Table
plainly w p None = w
plainly w p (Some (To c)) = sent w p c
plainly w p (Some (From c)) = received w p c
plainly w p (Some (Entry e)) = accepted w p e

-- With a partner the communication happens; without one the process waits, and shows what it offers.
abbrev pub meets_or_waits : Program → Config → ℕ → Context → Open → Remainder → Option ℕ → Config
meets_or_waits g c p x o k (Some q) = communicates_with g c p x o k q
meets_or_waits g c p x o k None = showing g (goes_on g c p x k) p (offering x (o ∷ []) k)

abbrev pub meets_at : Program → Config → ℕ → Context → Open → Remainder → Effect
meets_at g c p x o k =
    let arm = arm_of g c p o.offer in
    Ok (with_table (meets_or_waits g c p x o k (partner_at c p arm)) (plainly c.table p arm))

-- ## The deciding action of a select

-- the places of the alternatives that are matched, among those that communicate
abbrev pub matched_places : Program → Config → ℕ → Selecting → List ℕ
matched_places g c p s = matched c.table.rows p (arms_of_all g c p s.offered)

-- How many alternatives `choose` has to choose among: none but in a plain select with some that are matched.
abbrev pub choices : Program → Config → ℕ → Action → ℕ
choices g c p (decides x s k) = if s.pri then 0 else length (matched_places g c p s)
choices g c p n = 0

-- `pri` takes the first matched alternative of the text, a plain select the one that was chosen
abbrev pub place_taken : Bool → ℕ → ℕ
place_taken true choice = 0
place_taken false choice = choice

abbrev pub open_at : List Open → Option ℕ → Option Open
open_at os None = None
open_at os (Some place) = slice_get (communications os) place

abbrev pub takes : Program → Config → ℕ → Context → Remainder → Option Open → Config
takes g c p x k None = c
takes g c p x k (Some o) = communicates g c p x o k (partner_at c p (arm_of g c p o.offer))

abbrev pub takes_matched : Program → Config → ℕ → Context → Selecting → Remainder → ℕ → Config
takes_matched g c p x s k place =
    let arms = arms_of_all g c p s.offered in
    with_table (takes g c p x k (open_at s.offered (slice_get (matched_places g c p s) place))) (committed c.table p arms place)

-- the open `timeout`, if there is one, with its seconds
pub record Timeout : Type 0 where
  pub seconds : ℕ
  pub at : Open

abbrev pub timeout_at : Open → Offer → Option Timeout
timeout_at o (to_wait n) = Some (record { seconds = unsigned_abs n; at = o })
timeout_at o offer = None

abbrev pub or_timeout : Option Timeout → Option Timeout → Option Timeout
or_timeout (Some t) other = Some t
or_timeout None other = other

abbrev pub open_timeout : List Open → Option Timeout
open_timeout [] = None
open_timeout (o ∷ os) = or_timeout (timeout_at o o.offer) (open_timeout os)

abbrev pub is_end : Offer → Bool
is_end to_end = true
is_end offer = false

abbrev pub may_terminate_at : List Open → Bool
may_terminate_at os = list_any (λ o. is_end o.offer) os

-- no due moment is above 10^15
abbrev pub latest : ℕ
latest = 1000000000000000

-- The process waits with all that is open. What it does when its moment has come are the statements of its `timeout`.
abbrev pub waits_until : Program → Config → ℕ → Context → Selecting → Remainder → Option ℕ → Remainder → Config
waits_until g c p x s k due then_done =
    with_table
    (showing g (goes_on g c p x then_done) p (offering x s.offered k))
    (select_waited c.table p (arms_of_all g c p s.offered) due (may_terminate_at s.offered))

-- Step 4: fault 15 where the due moment is too late. Step 5: fault 13 where nothing is open.
abbrev pub waits_or_closed : Program → Config → ℕ → Context → Selecting → Remainder → Option Timeout → List Open → Effect
waits_or_closed g c p x s k None [] = Err Closed
waits_or_closed g c p x s k None (o ∷ os) = Ok (waits_until g c p x s k None k)
waits_or_closed g c p x s k (Some t) os =
    let due = c.table.moment + 1000 * t.seconds in
    if nat_le due latest then Ok (waits_until g c p x s k (Some due) (behind_open t.at k)) else Err Late

-- Step 3: an open `timeout 0` is taken.
abbrev pub times_out : Program → Config → ℕ → Context → Selecting → Remainder → Option Timeout → Effect
times_out g c p x s k None = waits_or_closed g c p x s k None s.offered
times_out g c p x s k (Some t) =
    if t.seconds == 0 then Ok (goes_on g c p x (behind_open t.at k)) else waits_or_closed g c p x s k (Some t) s.offered

-- Step 2: else an `else` part is taken.
abbrev pub goes_otherwise : Program → Config → ℕ → Context → Selecting → Remainder → Option Otherwise → Effect
goes_otherwise g c p x s k (Some other) = Ok (goes_on g c p x (behind other.next other.stmts k))
goes_otherwise g c p x s k None = times_out g c p x s k (open_timeout s.offered)

-- Step 1: where some alternatives are matched, one of them is taken.
abbrev pub decides_by : Program → Config → ℕ → Context → Selecting → Remainder → ℕ → List ℕ → Effect
decides_by g c p x s k choice [] = goes_otherwise g c p x s k s.otherwise
decides_by g c p x s k choice (place ∷ places) = Ok (takes_matched g c p x s k (place_taken s.pri choice))

-- the first of these five steps that applies
abbrev pub decides_at : Program → Config → ℕ → Context → Selecting → Remainder → ℕ → Effect
decides_at g c p x s k choice = decides_by g c p x s k choice (matched_places g c p s)
