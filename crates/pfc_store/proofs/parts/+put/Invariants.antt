-- Each step goes one deeper.
use Rattle.std.proofs.Common.{◌+◌, ◌*◌, length}
use Rattle.pfc_store.proofs.parts.+put.Given as goal

abbrev pub decreases-with_part : goal.decreases-with_part
decreases-with_part l = 2 * length l.steps.now

abbrev pub decreases-put_among : goal.decreases-put_among
decreases-put_among l = 2 * length l.steps.now + 1
