-- Who is first, and who is last, among the processes that a key gives a ticket.
use Rattle.std.specs.Prelude.{ℕ, ◌≤◌, ◌≡◌, ℤ, ◌≤ℤ◌, Bool, false, ◌==◌, min, max, suc, if◌then◌else◌, Option, None, Some, option_map, List, [], ◌∷◌}
use Rattle.std.specs.Int.{int_min}
use Rattle.pfc_state.specs.declared.waits.Arm.{Arm}
use Rattle.pfc_state.specs.declared.waits.Why.TheVariants.{Condition}
use Rattle.pfc_state.specs.Stands.{Stand, ticket_of, arms_of, ticket_at, rank_on, ticket_offering}
use Rattle.pfc_state.specs.Waits.{place_of_arm}
use Rattle.pfc_world.specs.Tables.{at}
use Rattle.pfc_world.specs.declared.answers.Offer.{Offer}

-- the process has a ticket by this key, and nobody has a lesser one
pub record IsFirst (key : Stand → Option ℕ) (rows : List Stand) (p : ℕ) : Type 0 where
  pub ticket : ℕ
  pub own : key (at rows p) ≡ Some ticket
  pub least : (q t : ℕ) → key (at rows q) ≡ Some t → ticket ≤ t

-- the process has a ticket by this key, and nobody has a greater one
pub record IsLast (key : Stand → Option ℕ) (rows : List Stand) (p : ℕ) : Type 0 where
  pub ticket : ℕ
  pub own : key (at rows p) ≡ Some ticket
  pub greatest : (q t : ℕ) → key (at rows q) ≡ Some t → t ≤ ticket

-- nobody waits on the condition with a lesser rank than the process, and with its rank nobody has a lesser ticket
pub record IsFirstRanked (condition : ℕ) (rows : List Stand) (p : ℕ) : Type 0 where
  pub rank : ℤ
  pub least : (q : ℕ) (r : ℤ) → rank_on condition (at rows q) ≡ Some r → rank ≤ℤ r
  pub first : IsFirst (ticket_at (Condition condition rank)) rows p

-- nobody has a ticket by this key
abbrev pub IsNobody : (Stand → Option ℕ) → List Stand → Type 0
IsNobody key rows = (q : ℕ) → key (at rows q) ≡ None

-- the key gives no number but the ticket of the process
abbrev pub GivesTickets : (Stand → Option ℕ) → Type 0
GivesTickets key = (stand : Stand) (t : ℕ) → key stand ≡ Some t → ticket_of stand ≡ Some t

-- the lesser of two numbers, where there are two
abbrev pub lesser : Option ℕ → Option ℕ → Option ℕ
lesser None u = u
lesser (Some t) None = Some t
lesser (Some t) (Some u) = Some (min t u)

-- the least number that the key gives
abbrev pub least : (Stand → Option ℕ) → List Stand → Option ℕ
least key [] = None
least key (stand ∷ rest) = lesser (key stand) (least key rest)

abbrev pub greater : Option ℕ → Option ℕ → Option ℕ
greater None u = u
greater (Some t) None = Some t
greater (Some t) (Some u) = Some (max t u)

-- the greatest number that the key gives
abbrev pub greatest : (Stand → Option ℕ) → List Stand → Option ℕ
greatest key [] = None
greatest key (stand ∷ rest) = greater (key stand) (greatest key rest)

abbrev pub has_number : ℕ → Option ℕ → Bool
has_number t (Some u) = u == t
has_number t None = false

-- the process, counted from 0, to which the key gives this ticket
abbrev pub holder : (Stand → Option ℕ) → ℕ → List Stand → Option ℕ
holder key t [] = None
holder key t (stand ∷ rest) = if has_number t (key stand) then Some 0 else option_map suc (holder key t rest)

abbrev pub holder_of : (Stand → Option ℕ) → Option ℕ → List Stand → Option ℕ
holder_of key (Some t) rows = holder key t rows
holder_of key None rows = None

-- the process of the least ticket
abbrev pub first : (Stand → Option ℕ) → List Stand → Option ℕ
first key rows = holder_of key (least key rows) rows

-- the process of the greatest ticket
abbrev pub last : (Stand → Option ℕ) → List Stand → Option ℕ
last key rows = holder_of key (greatest key rows) rows

-- the lesser of two ranks, where there are two
abbrev pub lesser_rank : Option ℤ → Option ℤ → Option ℤ
lesser_rank None s = s
lesser_rank (Some r) None = Some r
lesser_rank (Some r) (Some s) = Some (int_min r s)

-- the least rank with which somebody waits on the condition
abbrev pub least_rank : ℕ → List Stand → Option ℤ
least_rank condition [] = None
least_rank condition (stand ∷ rest) = lesser_rank (rank_on condition stand) (least_rank condition rest)

-- the process of the least ticket among those that wait on the condition with this rank
abbrev pub first_with_rank : ℕ → Option ℤ → List Stand → Option ℕ
first_with_rank condition (Some rank) rows = first (ticket_at (Condition condition rank)) rows
first_with_rank condition None rows = None

-- the process that waits on the condition with the least rank, and at that rank the one of the least ticket
abbrev pub first_ranked : ℕ → List Stand → Option ℕ
first_ranked condition rows = first_with_rank condition (least_rank condition rows) rows

-- the process, and a place at it
abbrev pub offer_at : ℕ → Option ℕ → Option Offer
offer_at p (Some place) = Some (record { process = p; arm = place })
offer_at p None = None

abbrev pub offer_of : List Stand → Arm → Option ℕ → Option Offer
offer_of rows arm (Some p) = offer_at p (place_of_arm arm (arms_of (at rows p)))
offer_of rows arm None = None

-- the first process that waits in a select with this alternative, and its first such place there
abbrev pub first_offer : Arm → List Stand → Option Offer
first_offer arm rows = offer_of rows arm (first (ticket_offering arm) rows)
