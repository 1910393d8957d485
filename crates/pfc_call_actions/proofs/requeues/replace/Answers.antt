use Rattle.std.proofs.Common.{◌≡◌, set}
use Rattle.pfc_stacks.specs.Activations.{has_place, replaced}
use Rattle.pfc_stacks.specs.Stacks.{stack_of}
use Rattle.pfc_machines.specs.declared.machine.Machine.{Machine}
use Rattle.pfc_call_actions.specs.Requeues.{in_place}
use Rattle.pfc_call_actions.proofs.Entering.{given_back, refused_is}
use Rattle.pfc_call_actions.proofs.requeues.replace.Goals as goal

pub returns-in-Err-clause-replaced : goal.returns-in-Err-clause-replaced
returns-in-Err-clause-replaced c = λ b is.
    let old : Machine = c.args.machine.now in
    let p = c.args.p in
    let s = stack_of old.stacks p in
    let back : c.set_room.new.self ≡ old.descriptors =
    given_back old.descriptors c.make_room.new.self c.set_room.new.self p c.of_block.result c.room-held.result c.requires.descriptor
    c.in_ok-make_room.ensures.ok c.room-held.ensures.room c.set_room.ensures in
    refused_is (has_place p s.base b) old (in_place c.args.k b p old) (set old.stacks p (replaced c.args.k b s)) c.replace.new.self c.set_room.new.self
    c.in-Err.fault (c.in-Err.ensures b is) back
