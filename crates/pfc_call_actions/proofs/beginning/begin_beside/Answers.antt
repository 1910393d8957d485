use Rattle.std.proofs.Common.{◌≡◌, List, set, get_or, ap, ap₂, ◌∙◌}
use Rattle.pfc_stacks.specs.Activations.{called}
use Rattle.pfc_stacks.specs.Stacks.{Stacks, stack_of}
use Rattle.pfc_machines.specs.declared.descriptors.Descriptor.{Descriptor}
use Rattle.pfc_machines.specs.declared.machine.Machine.{Machine}
use Rattle.pfc_machines.specs.declared.rooms.Room.{Room}
use Rattle.pfc_machines.specs.Descriptors.{descriptor_of, roomier, entered}
use Rattle.pfc_machines.specs.Rooms.{no_room}
use Rattle.pfc_call_actions.specs.Calls.{activated, has_place_above, link_by, mark_by}
use Rattle.pfc_call_actions.proofs.Entering.{entered_in, given_back, refused_is}
use Rattle.pfc_call_actions.proofs.beginning.begin_beside.Goals as goal

pub returns-in-Ok-clause-begun : goal.returns-in-Ok-clause-begun
returns-in-Ok-clause-begun c = λ b is.
    let old : Machine = c.args.machine.now in
    let ds : List Descriptor = old.descriptors in
    let p = c.args.p in
    let called = c.in-Ok.ensures b is in
    let descriptors : c.enter.new.self ≡ set ds p (entered (roomier (descriptor_of ds p) (get_or old.rooms c.args.k no_room))) =
    c.enter.ensures ∙ entered_in ds c.make_room.new.self ds p c.of_block.result c.room-held.result c.requires.descriptor c.in_ok-make_room.ensures.ok
    ∙ ap (λ (r : Room). set ds p (entered (roomier (descriptor_of ds p) r))) c.of_block.ensures in
    (called.0, ap₂ (λ (ss : Stacks) (xs : List Descriptor). (let m : Machine = record old { stacks = ss; descriptors = xs } in m)) called.1 descriptors)

pub returns-in-Err-clause-begun : goal.returns-in-Err-clause-begun
returns-in-Err-clause-begun c = λ b is.
    let old : Machine = c.args.machine.now in
    let p = c.args.p in
    let link = link_by c.args.entry p old.stacks in
    let mark = mark_by c.args.entry in
    let back : c.set_room.new.self ≡ old.descriptors =
    given_back old.descriptors c.make_room.new.self c.set_room.new.self p c.of_block.result c.room-held.result c.requires.descriptor
    c.in_ok-make_room.ensures.ok c.room-held.ensures.room c.set_room.ensures in
    refused_is (has_place_above b p old) old (activated c.args.k b link mark p old) (set old.stacks p (called c.args.k b link mark (stack_of old.stacks p)))
    c.call_block.new.stacks c.set_room.new.self c.in-Err.fault (c.in-Err.ensures b is) back
