-- The results so far hold their places.
use Rattle.std.proofs.Common.{◌≡◌, ℕ, ◌<◌, length, get_or}
use Rattle.pfc_types.specs.Blocks.{sub_at}
use Rattle.pfc_program.proofs.places.results.Given as goal

abbrev pub invariant-loop-n : goal.invariant-loop-n
invariant-loop-n l = (length l.results.items ≡ l.n) × ((n : ℕ) → n < l.n → get_or l.results.items n 0 ≡ length (sub_at l.scopes n).formals)
