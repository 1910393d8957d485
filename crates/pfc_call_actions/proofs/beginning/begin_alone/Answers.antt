use Rattle.std.proofs.Common.{◌≡◌, List, set, get_or, sym, ap, ap₂, ◌∙◌, refl}
use Rattle.pfc_stacks.specs.Activations.{called}
use Rattle.pfc_stacks.specs.Stacks.{Stacks, stack_of}
use Rattle.pfc_machines.specs.declared.descriptors.Descriptor.{Descriptor}
use Rattle.pfc_machines.specs.declared.machine.Machine.{Machine}
use Rattle.pfc_machines.specs.Descriptors.{descriptor_of, roomier, entered}
use Rattle.pfc_machines.specs.Rooms.{no_room}
use Rattle.pfc_call_actions.specs.Calls.{activated, has_place_above, link_by, mark_by}
use Rattle.pfc_call_actions.proofs.Entering.{unroomed, refused_is}
use Rattle.pfc_call_actions.proofs.beginning.begin_alone.Goals as goal

pub returns-in-Ok-clause-begun : goal.returns-in-Ok-clause-begun
returns-in-Ok-clause-begun c = λ b is.
    let old : Machine = c.args.machine.now in
    let ds : List Descriptor = old.descriptors in
    let p = c.args.p in
    let room = get_or old.rooms c.args.k no_room in
    let called = c.in-Ok.ensures b is in
    let same : roomier (descriptor_of ds p) room ≡ descriptor_of ds p =
    unroomed (descriptor_of ds p) room c.room-held.result c.requires.none c.room-held.ensures.room c.room-held.ensures.between in
    let descriptors : c.enter.new.self ≡ set ds p (entered (roomier (descriptor_of ds p) room)) =
    c.enter.ensures ∙ ap (λ (d : Descriptor). set ds p (entered d)) (sym same) in
    (called.0, ap₂ (λ (ss : Stacks) (xs : List Descriptor). (let m : Machine = record old { stacks = ss; descriptors = xs } in m)) called.1 descriptors)

pub returns-in-Err-clause-begun : goal.returns-in-Err-clause-begun
returns-in-Err-clause-begun c = λ b is.
    let old : Machine = c.args.machine.now in
    let p = c.args.p in
    let link = link_by c.args.entry p old.stacks in
    let mark = mark_by c.args.entry in
    refused_is (has_place_above b p old) old (activated c.args.k b link mark p old) (set old.stacks p (called c.args.k b link mark (stack_of old.stacks p)))
    c.call_block.new.stacks old.descriptors c.in-Err.fault (c.in-Err.ensures b is) refl
