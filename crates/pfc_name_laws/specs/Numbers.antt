-- What the numbers in a finished program name.
use Rattle.std.specs.Prelude.{ℕ, ◌<◌, ◌≤◌, length}
use Rattle.std.specs.List.{All}
use Rattle.std.specs.Option.{IfSome}
use Rattle.pfc_types.specs.Scopes.{scope_at}
use Rattle.pfc_types.specs.Blocks.{State, sub_at, module_at, process_at}
use Rattle.pfc_name_laws.specs.Reached.{IsNumbered, IsOfProcess}

-- Each name stands for what has its heading, each process type for a process. Subs and modules have scopes; so have processes, none
-- the program's, and each behind those of the processes before, as its entries stand behind theirs.
pub record AreNumbered (s : State) : Type 0 where
  pub names : (i : ℕ) → All (λ x. IsNumbered s.blocks i x.1) (scope_at s.blocks.scopes i)
  pub types : All (λ form. IfSome form (IsOfProcess s.blocks)) s.forms
  pub subs : (n : ℕ) → n < length s.blocks.subs → (sub_at s.blocks n).scope < length s.blocks.scopes
  pub modules : (n : ℕ) → n < length s.blocks.modules → (module_at s.blocks n).scope < length s.blocks.scopes
  pub processes : (n : ℕ) → n < length s.blocks.processes → (process_at s.blocks n).scope < length s.blocks.scopes
  pub own : (n : ℕ) → n < length s.blocks.processes → 0 < (process_at s.blocks n).scope
  pub apart : (m n : ℕ) → m < n → n < length s.blocks.processes → (process_at s.blocks m).scope < (process_at s.blocks n).scope
  pub entries : (n : ℕ) → n < length s.blocks.processes → (process_at s.blocks n).entries ≤ length s.blocks.entries
