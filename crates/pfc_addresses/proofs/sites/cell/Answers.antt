use Rattle.std.proofs.Common.{◌∙◌, arith}
use Rattle.pfc_addresses.proofs.Sums.{cell_at, cell_behind}
use Rattle.pfc_addresses.proofs.sites.cell.Goals as goal

pub returns-then-k-all : goal.returns-then-k-all
returns-then-k-all c = λ forms is. c.at.ensures ∙ cell_at forms c.args.laid.layout.now c.args.laid.cells.now c.args.k is (omega arith)

pub returns-else-k-all : goal.returns-else-k-all
returns-else-k-all c = λ forms is. c.at-else-k-all.ensures ∙ cell_behind forms c.args.laid.layout.now c.args.laid.cells.now c.args.k is (omega arith)
