-- The table of processes.
use Rattle.std.specs.Prelude.{ℕ, ◌-◌, Bool, Option, None, List, ◌∷◌, replicate, slice_index_or}
use Rattle.std.specs.List.{list_any}
use Rattle.pfc_state.specs.Stands.{Stand, Is_idle, Is_ready, is_ready, is_created}

-- What each process stands at, by its number, main being 0. At most one acts, and it shows as ready.
pub record Table : Type 0 where
  pub rows : List Stand
  pub acting : Option ℕ
  -- the number of actions done, and the clock
  pub done : ℕ
  pub moment : ℕ
  -- how many alternatives a process may offer
  pub room : ℕ

-- what a process stands at
abbrev pub at : List Stand → ℕ → Stand
at rows p = slice_index_or rows p Is_idle

-- before the first action main is ready, and the others were never activated
abbrev pub start_table : ℕ → ℕ → Table
start_table n room = record { rows = Is_ready ∷ replicate (n - 1) Is_idle; acting = None; done = 0; moment = 0; room = room }

abbrev pub some_ready : List Stand → Bool
some_ready rows = list_any is_ready rows

abbrev pub some_created : List Stand → Bool
some_created rows = list_any is_created rows
