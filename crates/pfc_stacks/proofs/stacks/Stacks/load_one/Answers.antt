use Rattle.std.proofs.Common.{◌≡◌, ℤ, List, ◌∷◌, drop, ap, ◌∙◌, w64, to_z, of_z}
use Rattle.std.proofs.lemmas.Int.{to_z-of_z}
use Rattle.pfc_stacks.specs.declared.refs.Ref.{Ref}
use Rattle.pfc_stacks.specs.Effects.{passed}
use Rattle.pfc_stacks.specs.Refs.{ref_of}
use Rattle.pfc_stacks.specs.Stacks.{Stacks, operands_of, operand, cell_at}
use Rattle.pfc_stacks.proofs.Loads.{one_loaded}
use Rattle.pfc_stacks.proofs.stacks.Stacks.load_one.Goals as goal

pub returns : goal.returns
returns c =
    let stacks : Stacks = c.args.self.now in
    let ops : List ℤ = operands_of stacks c.args.p in
    let from : Ref = c.of-from.result in
    let from_is : from ≡ ref_of (operand ops 0) =
    c.of-from.ensures.of ∙ ap ref_of (to_z-of_z w64 c.held.result (record { sfits = c.held.type_inv }) ∙ c.held.ensures) in
    let word : to_z w64 (of_z w64 c.live_cell-v.result) ≡ cell_at stacks from =
    to_z-of_z w64 c.live_cell-v.result (record { sfits = c.live_cell-v.type_inv }) ∙ c.live_cell-v.ensures in
    c.pass_pushing.ensures
    ∙ ap (λ (v : ℤ). passed stacks c.args.p (v ∷ drop 1 ops)) word
    ∙ ap (λ (r : Ref). passed stacks c.args.p (cell_at stacks r ∷ drop 1 ops)) from_is
    ∙ ap (λ (held : List ℤ). passed stacks c.args.p held) (one_loaded stacks (ref_of (operand ops 0)) (drop 1 ops) c.requires.live)
