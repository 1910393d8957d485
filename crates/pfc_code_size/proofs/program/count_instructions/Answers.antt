-- The sum over all bodies is the length of the image's code.
use Rattle.std.proofs.Common.{◌≡◌, ◌<◌, ℕ, subst, IfOk, IfErr}
use Rattle.pfc_tree.specs.views.Parts.{tree_view}
use Rattle.pfc_code_size.specs.declared.adding.CountFault.TheVariants.{TooLarge}
use Rattle.pfc_code_size.proofs.ProgramLengths.{known_program}
use Rattle.pfc_code_size.proofs.program.count_instructions.Goals as goal

pub returns-clause-value : goal.returns-clause-value
returns-clause-value c =
    let tree = tree_view c.args.checked.now.0 in
    let known = c.in_ok-program.ensures in
    subst (λ (k : ℕ). IfOk c.whole.result (λ n. n ≡ k))
    (known_program c.in_ok-program.program tree
    (record { state = known.state; blocks = known.blocks; modules = known.modules; main = known.main; resource_ends = known.resource_ends }))
    c.whole.ensures.value

pub returns-clause-large : goal.returns-clause-large
returns-clause-large c =
    let tree = tree_view c.args.checked.now.0 in
    let known = c.in_ok-program.ensures in
    subst (λ (k : ℕ). IfErr c.whole.result (λ f. f ≡ TooLarge → 200000 < k))
    (known_program c.in_ok-program.program tree
    (record { state = known.state; blocks = known.blocks; modules = known.modules; main = known.main; resource_ends = known.resource_ends }))
    c.whole.ensures.large
