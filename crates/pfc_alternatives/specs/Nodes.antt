-- Alternatives that are waited with. Each process has room for so many, and each of these places is a member of
-- the list of its alternative, with the ticket of the wait, or of none.
use Rattle.std.specs.Prelude.{ℕ, ◌+◌, ◌*◌, ◌<◌, ◌≤◌, ◌^◌, ◌≡◌, ◌≢◌, Option, List, length}
use Rattle.pfc_links.specs.declared.links.Member.{Member}
use Rattle.pfc_links.specs.Members.{Lists, member_at, in_list, IsLast}
use Rattle.pfc_alternatives.specs.Lists.{list_count}

-- What each place is a member of: those of a process stand one behind the other, and so do the processes; and how many
-- lists there are.
pub record Nodes : Type 0 where
  -- how many lists each kind of alternatives has
  pub places : ℕ
  pub room : ℕ
  pub members : List (Option Member)

-- what place k of process p is a member of
abbrev pub node_at : Nodes → ℕ → ℕ → Option Member
node_at nodes p k = member_at nodes.members (p * nodes.room + k)

-- there are places for process p
abbrev pub IsProcess : Nodes → ℕ → Type 0
IsProcess nodes p = p * nodes.room + nodes.room ≤ length nodes.members

-- process p is in the list, with this ticket
pub record IsIn (nodes : Nodes) (p list ticket : ℕ) : Type 0 where
  pub place : ℕ
  pub within : place < nodes.room
  pub is : node_at nodes p place ≡ in_list list ticket

-- of process p, no place from this one on is in a list, and those before are so with no other ticket
pub record AreBefore (nodes : Nodes) (p place ticket : ℕ) : Type 0 where
  pub only : (k list t : ℕ) → k < nodes.room → node_at nodes p k ≡ in_list list t → (k < place) × (t ≡ ticket)

-- whoever else is in a list is there with a lesser ticket
pub record AreEarlier (nodes : Nodes) (p ticket : ℕ) : Type 0 where
  pub below : (q k list t : ℕ) → q ≢ p → k < nodes.room → node_at nodes q k ≡ in_list list t → t < ticket

-- the last of the list is a place of process p
pub record IsLastOf (nodes : Nodes) (list p : ℕ) : Type 0 where
  pub place : ℕ
  pub within : place < nodes.room
  pub last : IsLast nodes.members list (p * nodes.room + place)

-- As many places are there after as before, and those of other processes than p stay what they are.
pub record KeepsOthers (old new : Nodes) (p : ℕ) : Type 0 where
  pub places : new.places ≡ old.places
  pub room : new.room ≡ old.room
  pub long : length new.members ≡ length old.members
  pub others : (q k : ℕ) → q ≢ p → k < old.room → node_at new q k ≡ node_at old q k

-- the lists are those of the alternatives, and their places have numbers
pub record AreNodes (places : ℕ) (nodes : Lists) : Type 0 where
  pub some : 0 < places
  pub most : places ≤ 262144
  pub lists : nodes.lists ≡ list_count places
  pub few : length nodes.members < 2 ^ 31
