use Rattle.std.proofs.Common.{◌≡◌, ◌==◌, false, arith}
use Rattle.std.proofs.lemmas.Bool.Decides.{nat_tests}
use Rattle.pfc_program.proofs.Rows.{main_row_holds, block_row_holds}
use Rattle.pfc_program.proofs.places.scope_row.Goals as goal

pub returns-then-i-eq0 : goal.returns-then-i-eq0
returns-then-i-eq0 c = main_row_holds c.args.lookups.now.scopes.now c.args.i c.in_ok-places.places.items c.if-i-eq0.true c.in_ok-places.ensures

pub returns : goal.returns
returns c =
    let other : (c.args.i == 0) ≡ false = grind (arith, nat_tests) in
    block_row_holds c.args.lookups.now.scopes.now c.args.i c.in_ok-places-2.places.items other c.in_ok-places-2.ensures
