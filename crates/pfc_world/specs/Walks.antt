-- Where a walk along a list of those who wait has come to, in the order of tickets.
use Rattle.std.specs.Prelude.{ℕ, ◌≡◌, ◌≤◌, Option, Some, List, MatchOption}
use Rattle.pfc_links.specs.Members.{in_list}
use Rattle.pfc_state.specs.Stands.{Stand}
use Rattle.pfc_world.specs.Firsts.{IsNobody}
use Rattle.pfc_world.specs.declared.lists.Spread.{Spread}
use Rattle.pfc_world.specs.Lists.{member_of}
use Rattle.pfc_world.specs.Tables.{at}

-- in the rows, a process is in this list with this ticket
abbrev pub IsIn : Spread → List Stand → ℕ → ℕ → ℕ → Type 0
IsIn spread rows list p t = member_of spread (at rows p) ≡ in_list list t

-- Process p is in the list, and who is sought has no lesser ticket than it.
pub record IsFrontier (spread : Spread) (key : Stand → Option ℕ) (rows : List Stand) (list p : ℕ) : Type 0 where
  pub ticket : ℕ
  pub own : IsIn spread rows list p ticket
  pub rest : (q t : ℕ) → key (at rows q) ≡ Some t → ticket ≤ t

-- where a walk forward has come to: a process, or the end
abbrev pub IsForward : Spread → (Stand → Option ℕ) → List Stand → ℕ → Option ℕ → Type 0
IsForward spread key rows list next = MatchOption next (IsNobody key rows) (IsFrontier spread key rows list)
