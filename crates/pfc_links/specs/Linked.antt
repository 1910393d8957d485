-- How the links are tied to who is in which list.
use Rattle.std.specs.Prelude.{ℕ, ◌+◌, ◌<◌, ◌≤◌, ◌^◌, ◌≡◌, Option, List, length, slice_index_or}
use Rattle.pfc_links.specs.declared.links.Member.{Member}
use Rattle.pfc_links.specs.Members.{member_at, in_list, IsNext, IsNobodyAbove, IsPrevious, IsNobodyBelow, latest}

-- a place among the links, as one goes forward from it: the end of a list comes before all its members
pub data IsFrom (members : List (Option Member)) (place list ticket : ℕ) : Type 0 where
  the_end : place ≡ length members + list → ticket ≡ 0 → IsFrom members place list ticket
  a_member : member_at members place ≡ in_list list ticket → IsFrom members place list ticket

-- as one goes backward from it, the end of a list comes behind all its members
pub data IsBackFrom (members : List (Option Member)) (place list ticket : ℕ) : Type 0 where
  the_end : place ≡ length members + list → ticket ≡ latest → IsBackFrom members place list ticket
  a_member : member_at members place ≡ in_list list ticket → IsBackFrom members place list ticket

-- the place behind this ticket in the list: a member, or the end
pub data IsBehind (members : List (Option Member)) (list ticket place : ℕ) : Type 0 where
  nobody : place ≡ length members + list → IsNobodyAbove members list ticket → IsBehind members list ticket place
  somebody : IsNext members list ticket place → IsBehind members list ticket place

pub data IsBefore (members : List (Option Member)) (list ticket place : ℕ) : Type 0 where
  nobody : place ≡ length members + list → IsNobodyBelow members list ticket → IsBefore members list ticket place
  somebody : IsPrevious members list ticket place → IsBefore members list ticket place

-- each list is linked in the order of tickets, both ways, and no two of its members have one ticket
pub record AreLinked (members : List (Option Member)) (lists : ℕ) (next previous : List ℕ) : Type 0 where
  pub few : length members + lists < 2 ^ 31
  pub forward : length next ≡ length members + lists
  pub backward : length previous ≡ length members + lists
  pub listed : (p list ticket : ℕ) → member_at members p ≡ in_list list ticket → (list < lists) × (0 < ticket) × (ticket < latest)
  pub apart : (p q list ticket : ℕ) → member_at members p ≡ in_list list ticket → member_at members q ≡ in_list list ticket → p ≡ q
  pub nexts : (place list ticket : ℕ) → list < lists → IsFrom members place list ticket → IsBehind members list ticket (slice_index_or next place 0)
  pub backs : (place list ticket : ℕ) → list < lists → IsBackFrom members place list ticket → IsBefore members list ticket (slice_index_or previous place 0)
