-- A frequent action is done at once; nothing is to be chosen in it, and it writes nothing.
use Rattle.std.proofs.Common.{Ok, refl, ap}
use Rattle.pfc_pending.specs.declared.actions.Deed.TheVariants as deed
use Rattle.pfc_performing.specs.Performing.{is_choosing}
use Rattle.pfc_performing.proofs.Performed.{done_so, tried_at, tried_done, in_any}
use Rattle.pfc_performing.proofs.performing.perform.Goals as goal

pub returns-in-Turns-clause-ok : goal.returns-in-Turns-clause-ok
returns-in-Turns-clause-ok c =
    let source = c.args.source.now in
    let old = c.args.state.now in
    let new = c.turns.new.state in
    tried_done source old new c.args.p c.args.deed (Ok c.turns.result) c.args.picker.now c.args.out.now
    (tried_at source old new c.args.p c.args.deed _ (Ok c.turns.result) c.in-Turns.is
    (done_so source old new c.args.p deed.Turns c.turns.result (c.turns.ensures source)))
    (ap is_choosing c.in-Turns.is)

pub returns-in-Reads-clause-ok : goal.returns-in-Reads-clause-ok
returns-in-Reads-clause-ok c =
    let source = c.args.source.now in
    let old = c.args.state.now in
    let new = c.read.new.state in
    tried_done source old new c.args.p c.args.deed c.read.result c.args.picker.now c.args.out.now
    (tried_at source old new c.args.p c.args.deed _ c.read.result c.in-Reads.is (c.read.ensures source)) (ap is_choosing c.in-Reads.is)

pub returns-in-Reads-clause-err : goal.returns-in-Reads-clause-err
returns-in-Reads-clause-err c = (c.read.ensures c.args.source.now).err

pub returns-in-Reads-clause-given : goal.returns-in-Reads-clause-given
returns-in-Reads-clause-given c =
    (tried_at c.args.source.now c.args.state.now c.read.new.state c.args.p c.args.deed _ c.read.result c.in-Reads.is
    (c.read.ensures c.args.source.now)).given

pub returns-in-Reads-clause-kept : goal.returns-in-Reads-clause-kept
returns-in-Reads-clause-kept c = in_any c.read.result _ refl

pub returns-in-Writes-clause-ok : goal.returns-in-Writes-clause-ok
returns-in-Writes-clause-ok c =
    let source = c.args.source.now in
    let old = c.args.state.now in
    let new = c.write.new.state in
    tried_done source old new c.args.p c.args.deed c.write.result c.args.picker.now c.args.out.now
    (tried_at source old new c.args.p c.args.deed _ c.write.result c.in-Writes.is (c.write.ensures source)) (ap is_choosing c.in-Writes.is)

pub returns-in-Writes-clause-err : goal.returns-in-Writes-clause-err
returns-in-Writes-clause-err c = (c.write.ensures c.args.source.now).err

pub returns-in-Writes-clause-given : goal.returns-in-Writes-clause-given
returns-in-Writes-clause-given c =
    (tried_at c.args.source.now c.args.state.now c.write.new.state c.args.p c.args.deed _ c.write.result c.in-Writes.is
    (c.write.ensures c.args.source.now)).given

pub returns-in-Writes-clause-kept : goal.returns-in-Writes-clause-kept
returns-in-Writes-clause-kept c = in_any c.write.result _ refl
