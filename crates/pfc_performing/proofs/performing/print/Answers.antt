use Rattle.std.proofs.Common.{refl}
use Rattle.pfc_pending.specs.declared.actions.Deed.TheVariants as deed
use Rattle.pfc_performing.proofs.Performed.{plainly_done, stays_same}
use Rattle.pfc_performing.proofs.performing.print.Goals as goal

pub returns-in-Ok-clause-ok : goal.returns-in-Ok-clause-ok
returns-in-Ok-clause-ok c = λ source picking.
    let (bytes, written, performed) = c.in-Ok.ensures.ok in
    plainly_done source c.args.state.now c.prints.new.state c.args.p
    (deed.Prints c.args.bytes c.args.width) picking picking c.args.out.now c.prints.new.out bytes c.in-Ok.done
    refl (performed source) refl written

pub returns-in-Err-clause-err : goal.returns-in-Err-clause-err
returns-in-Err-clause-err c = stays_same c.args.state.now c.prints.new.state c.args.p c.in-Err.ensures.err
