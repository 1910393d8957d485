use Rattle.pfc_program.proofs.Rows.{rows_pushed}
use Rattle.pfc_program.proofs.places.rows.Goals as goal

pub loop-i-preserved : goal.loop-i-preserved
loop-i-preserved c =
    let before = c.loop-i.invariant in
    rows_pushed c.args.lookups.now.scopes.now c.loop-i.rows.items c.push.new.self.items c.in_ok-scope_row.field-0 c.loop-i.i c.in_ok-push.ensures.items
    before.0 before.1 c.in_ok-scope_row.ensures
