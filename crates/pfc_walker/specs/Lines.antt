-- Whether an output ends inside a line, and the lines of processes.
use Rattle.std.specs.Prelude.{ℕ, ◌+◌, Bool, List, [], ◌∷◌, map}
use Rattle.pfc_values.specs.Outputs.{is_open_line}
use Rattle.pfc_state.specs.Stands.{Stand, state_of}
use Rattle.pfc_state.specs.declared.standings.Standing.{Standing}
use Rattle.pfc_activities.specs.declared.activities.Activity.{Activity}
use Rattle.pfc_activities.specs.declared.state.State.{State}

-- an output that ended so, behind these further bytes
abbrev pub open_behind : Bool → List ℕ → Bool
open_behind before [] = before
open_behind before (b ∷ bytes) = is_open_line (b ∷ bytes)

-- the line of each process
abbrev pub lines_of : State → List ℕ
lines_of s = map (λ (a : Activity). a.line) s.activities.items

-- how the processes from this number on stand, at these lines
abbrev pub standings_at : ℕ → List Stand → List ℕ → List Standing
standings_at n (stand ∷ rows) (line ∷ lines) = record { process = n; state = state_of stand; line = line } ∷ standings_at (n + 1) rows lines
standings_at n rows lines = []
