use Rattle.std.proofs.Common.{◌≡◌, List, drop, set, Option, None, ap, ap₂, ◌∙◌}
use Rattle.pfc_stacks.specs.Stacks.{Stack, Stacks, no_stack, stack_of}
use Rattle.pfc_machines.specs.declared.descriptors.Descriptor.{Descriptor}
use Rattle.pfc_machines.specs.declared.descriptors.Scan.{Scan}
use Rattle.pfc_machines.specs.declared.machine.Machine.{Machine}
use Rattle.pfc_machines.specs.Descriptors.{descriptor_of}
use Rattle.pfc_machines.specs.Quiet.{untried}
use Rattle.pfc_machines.proofs.Placing.{again}
use Rattle.pfc_machines.proofs.machine.Machine.scan_on.Goals as goal

pub returns : goal.returns
returns c =
    let old : Machine = c.args.self.now in
    let s : Stack = stack_of old.stacks c.args.p in
    let popped : Stack = record s { operands = drop 1 s.operands } in
    let there : Stack = record popped { at = c.args.scan } in
    let going : Stack → Stack = λ t. (let u : Stack = record t { at = c.args.scan } in u) in
    let looking : Stack → Stack = λ t. (let u : Stack = record t { looks_from = None } in u) in
    let gone : c.go.new.self ≡ set old.stacks c.args.p there =
    c.go.ensures ∙ ap (λ (ss : Stacks). set ss c.args.p (going (stack_of ss c.args.p))) c.cut.ensures.cut
    ∙ again old.stacks c.args.p popped going no_stack c.requires.stack in
    let stacks : c.look_from.new.self ≡ set old.stacks c.args.p (looking there) =
    c.look_from.ensures ∙ ap (λ (ss : Stacks). set ss c.args.p (looking (stack_of ss c.args.p))) gone
    ∙ again old.stacks c.args.p there looking no_stack c.requires.stack in
    let d : Descriptor = descriptor_of old.descriptors c.args.p in
    let left : c.untried-left.result ≡ untried d.scan = c.untried-left.ensures ∙ ap untried c.scan.ensures in
    let descriptors : c.set_scan.new.self ≡ set old.descriptors c.args.p (record d { scan = untried d.scan }) =
    c.set_scan.ensures ∙ ap (λ (scan : Option Scan). set old.descriptors c.args.p (record d { scan = scan })) left in
    ap₂ (λ (ss : Stacks) (ds : List Descriptor). (let m : Machine = record old { stacks = ss; descriptors = ds } in m)) stacks descriptors
