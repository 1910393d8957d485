use Rattle.std.proofs.Common.{◌≡◌, ℕ, List, set, get_or, ap, ap₂, ◌∙◌}
use Rattle.pfc_stacks.specs.Activations.{created}
use Rattle.pfc_stacks.specs.Stacks.{Stacks}
use Rattle.pfc_machines.specs.declared.descriptors.Descriptor.{Descriptor}
use Rattle.pfc_machines.specs.declared.machine.Machine.{Machine}
use Rattle.pfc_machines.specs.declared.rooms.Room.{Room}
use Rattle.pfc_machines.specs.Descriptors.{descriptor_of, roomier, begun_in}
use Rattle.pfc_machines.specs.Rooms.{no_room}
use Rattle.pfc_own_actions.proofs.Beginning.{with_room, given_back, begun_anew, refused_is}
use Rattle.pfc_own_actions.proofs.creating.begin.Goals as goal

pub returns-in-Ok-clause-begun : goal.returns-in-Ok-clause-begun
returns-in-Ok-clause-begun c = λ b is.
    let old : Machine = c.args.machine.now in
    let ds : List Descriptor = old.descriptors in
    let q : ℕ = c.args.q in
    let called = c.in-Ok.ensures b is in
    let descriptors : c.begin.new.self ≡ set ds q (begun_in (roomier (descriptor_of ds q) (get_or old.rooms c.args.k no_room))) =
    c.begin.ensures ∙ ap (λ (xs : List Descriptor). set xs q (begun_in (descriptor_of xs q))) c.in_ok-make_room.ensures.ok
    ∙ begun_anew ds q c.of_block.result c.requires.descriptor
    ∙ ap (λ (r : Room). set ds q (begun_in (roomier (descriptor_of ds q) r))) c.of_block.ensures in
    (called.0, ap₂ (λ (ss : Stacks) (xs : List Descriptor). (let m : Machine = record old { stacks = ss; descriptors = xs } in m)) called.1 descriptors)

pub returns-in-Err-clause-begun : goal.returns-in-Err-clause-begun
returns-in-Err-clause-begun c = λ b is.
    let old : Machine = c.args.machine.now in
    let ds : List Descriptor = old.descriptors in
    let q : ℕ = c.args.q in
    let more : List Descriptor = set ds q (roomier (descriptor_of ds q) c.of_block.result) in
    let back : c.set_room.new.self ≡ ds =
    c.set_room.ensures ∙ ap (λ (xs : List Descriptor). set xs q (with_room c.room-held.result (descriptor_of xs q))) c.in_ok-make_room.ensures.ok
    ∙ ap (λ (r : Room). set more q (with_room r (descriptor_of more q))) c.room-held.ensures.room
    ∙ given_back ds q c.of_block.result c.requires.descriptor in
    refused_is c.args.k b c.args.p q old (created c.args.k b q c.args.p old.stacks) c.create.new.self c.set_room.new.self c.in-Err.fault
    (c.in-Err.ensures b is) back
