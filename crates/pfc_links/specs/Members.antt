-- Who is in which list, and in which order.
use Rattle.std.specs.Prelude.{ℕ, ◌<◌, ◌≤◌, ◌≡◌, ◌≢◌, Option, None, Some, List, slice_index_or}
use Rattle.pfc_links.specs.declared.links.Member.{Member}

-- what each process, by its number, is a member of, and how many lists there are
pub record Lists : Type 0 where
  pub members : List (Option Member)
  pub lists : ℕ

-- what a process is a member of; a process past the end is in no list
abbrev pub member_at : List (Option Member) → ℕ → Option Member
member_at members p = slice_index_or members p None

-- to be in this list, with this ticket
abbrev pub in_list : ℕ → ℕ → Option Member
in_list list ticket = Some (record { list = list; ticket = ticket })

-- Process p is in the list with a ticket above this one, and no other there has a lesser one above it.
pub record IsNext (members : List (Option Member)) (list after p : ℕ) : Type 0 where
  pub ticket : ℕ
  pub own : member_at members p ≡ in_list list ticket
  pub above : after < ticket
  pub least : (q t : ℕ) → member_at members q ≡ in_list list t → after < t → ticket ≤ t

-- nobody in the list has a ticket above this one
pub record IsNobodyAbove (members : List (Option Member)) (list after : ℕ) : Type 0 where
  pub most : (q t : ℕ) → member_at members q ≡ in_list list t → t ≤ after

-- Process p is in the list with a ticket below this one, and no other there has a greater one below it.
pub record IsPrevious (members : List (Option Member)) (list before p : ℕ) : Type 0 where
  pub ticket : ℕ
  pub own : member_at members p ≡ in_list list ticket
  pub below : ticket < before
  pub greatest : (q t : ℕ) → member_at members q ≡ in_list list t → t < before → t ≤ ticket

-- nobody in the list has a ticket below this one
pub record IsNobodyBelow (members : List (Option Member)) (list before : ℕ) : Type 0 where
  pub fewest : (q t : ℕ) → member_at members q ≡ in_list list t → before ≤ t

-- Process p is in the list, and nobody there has a lesser ticket.
pub record IsFirst (members : List (Option Member)) (list p : ℕ) : Type 0 where
  pub ticket : ℕ
  pub own : member_at members p ≡ in_list list ticket
  pub least : (q t : ℕ) → member_at members q ≡ in_list list t → ticket ≤ t

-- Process p is in the list, and nobody there has a greater ticket.
pub record IsLast (members : List (Option Member)) (list p : ℕ) : Type 0 where
  pub ticket : ℕ
  pub own : member_at members p ≡ in_list list ticket
  pub greatest : (q t : ℕ) → member_at members q ≡ in_list list t → t ≤ ticket

-- nobody is in the list
pub record IsEmpty (members : List (Option Member)) (list : ℕ) : Type 0 where
  pub none : (q t : ℕ) → member_at members q ≢ in_list list t

-- above each ticket
abbrev pub latest : ℕ
latest = 18446744073709551616
