-- The headings of a finished program.
use Rattle.std.specs.Prelude.{◌≡◌, ℕ, ◌<◌, true, [], length, get_or}
use Rattle.pfc_types.specs.Blocks.{State, sub_at, process_at}
use Rattle.pfc_types.specs.rules.FaultyNames.{all_typed}
use Rattle.pfc_name_laws.specs.Reached.{IsHeading, IsSubHeading}

-- each heading is one as its step has it, and each parameter of an entry has a type unless a rule is noted
pub record AreHeaded (s : State) : Type 0 where
  pub subs : (n : ℕ) → n < length s.blocks.subs → IsSubHeading s.blocks (sub_at s.blocks n)
  pub processes : (n : ℕ) → n < length s.blocks.processes → IsHeading s.blocks (process_at s.blocks n).scope (process_at s.blocks n).formals
  pub entries : (k : ℕ) → k < length s.blocks.entries → s.blocks.noted ≡ [] → all_typed (get_or s.blocks.entries k []) ≡ true
