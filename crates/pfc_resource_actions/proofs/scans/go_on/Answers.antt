use Rattle.std.proofs.Common.{set, ap, ◌∙◌}
use Rattle.pfc_stacks.specs.Stacks.{Stack, Stacks, no_stack, stack_of}
use Rattle.pfc_machines.proofs.Placing.{again}
use Rattle.pfc_resource_actions.proofs.scans.go_on.Goals as goal

pub returns : goal.returns
returns c =
    let old : Stacks = c.args.stacks.now in
    let p = c.args.p in
    let s : Stack = stack_of old p in
    let looking : Stack → Stack = λ t. (let u : Stack = record t { looks_from = c.args.from } in u) in
    c.look_from.ensures ∙ ap (λ (ss : Stacks). set ss p (looking (stack_of ss p))) c.go.ensures
    ∙ again old p (record s { at = c.args.at }) looking no_stack c.requires.process
