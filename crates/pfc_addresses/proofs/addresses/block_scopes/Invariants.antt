-- The scopes of the blocks so far.
use Rattle.std.proofs.Common.{◌≡◌, map, take}
use Rattle.pfc_program.specs.declared.blocks.Block.{Block}
use Rattle.pfc_addresses.proofs.addresses.block_scopes.Given as goal

abbrev pub invariant-loop-b : goal.invariant-loop-b
invariant-loop-b l = l.keys.items ≡ map (λ (b : Block). b.scope) (take l.b-index l.blocks.items)
