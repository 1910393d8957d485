-- Who is delayed at which object, and with which rank.
use Rattle.std.specs.Prelude.{ℕ, ◌≤◌, ◌≤ℤ◌, ◌≡◌, ◌≢◌, ◌==◌, ◌&&◌, ◌||◌, Bool, nat_lt, int_lt, Option, None, Some, List, slice_index_or}
use Rattle.std.specs.Ordering.{int_eq}
use Rattle.pfc_ranks.specs.declared.ranks.Delay.{Delay}

-- the delay of a process; a process past the end has none
abbrev pub delay_at : List (Option Delay) → ℕ → Option Delay
delay_at delays p = slice_index_or delays p None

-- the order of objects, at one object that of ranks, and at one rank that of tickets
abbrev pub is_before : Delay → Delay → Bool
is_before a b = nat_lt a.object b.object || ((a.object == b.object) && (int_lt a.rank b.rank || (int_eq a.rank b.rank && nat_lt a.ticket b.ticket)))

-- nobody is delayed at the object
abbrev pub IsNobody : List (Option Delay) → ℕ → Type 0
IsNobody delays object = (p : ℕ) (delay : Delay) → delay_at delays p ≡ Some delay → delay.object ≢ object

-- Process p is delayed at the object, nobody there has a lesser rank, and with its rank nobody has a lesser ticket.
pub record IsFirst (delays : List (Option Delay)) (object p : ℕ) : Type 0 where
  pub delay : Delay
  pub own : delay_at delays p ≡ Some delay
  pub there : delay.object ≡ object
  pub least : (q : ℕ) (other : Delay) → delay_at delays q ≡ Some other → other.object ≡ object → delay.rank ≤ℤ other.rank
  pub earliest : (q : ℕ) (other : Delay) → delay_at delays q ≡ Some other → other.object ≡ object → other.rank ≡ delay.rank → delay.ticket ≤ other.ticket
