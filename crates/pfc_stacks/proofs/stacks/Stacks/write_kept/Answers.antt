use Rattle.std.proofs.Common.{◌≡◌, ℤ, List, [], ◌∷◌, drop, ap, sym, subst, ◌∙◌, w64, to_z, of_z}
use Rattle.std.proofs.lemmas.Int.{to_z-of_z}
use Rattle.pfc_stacks.specs.declared.refs.Ref.{Ref}
use Rattle.pfc_stacks.specs.Conditions.{AreLive}
use Rattle.pfc_stacks.specs.Effects.{passed}
use Rattle.pfc_stacks.specs.Refs.{ref_of}
use Rattle.pfc_stacks.specs.Stacks.{Stacks, operands_of, operand, written}
use Rattle.pfc_stacks.proofs.Writes.{one_written, operands_written}
use Rattle.pfc_stacks.proofs.stacks.Stacks.write_kept.Goals as goal

pub returns : goal.returns
returns c =
    let stacks : Stacks = c.args.self.now in
    let ops : List ℤ = operands_of stacks c.args.p in
    let to : Ref = c.of-to.result in
    let v : ℤ = to_z w64 (of_z w64 c.held-v.result) in
    let to_is : to ≡ ref_of (operand ops 2) =
    c.of-to.ensures.of ∙ ap ref_of (to_z-of_z w64 c.held.result (record { sfits = c.held.type_inv }) ∙ c.held.ensures) in
    let word : v ≡ operand ops 1 = to_z-of_z w64 c.held-v.result (record { sfits = c.held-v.type_inv }) ∙ c.held-v.ensures in
    let live : AreLive stacks to 1 = subst (λ (r : Ref). AreLive stacks r 1) (sym to_is) c.requires.live in
    let wrote : c.set_live_cell.new.self ≡ written stacks to (v ∷ []) = c.set_live_cell.ensures ∙ one_written stacks to v live in
    c.pass.ensures.pass
    ∙ ap (λ (s : Stacks). passed s c.args.p (drop 0 (operands_of s c.args.p))) wrote
    ∙ ap (λ (held : List ℤ). passed (written stacks to (v ∷ [])) c.args.p (drop 0 held)) (operands_written stacks to (v ∷ []) c.args.p)
    ∙ ap (λ (r : Ref). passed (written stacks r (v ∷ [])) c.args.p (drop 0 ops)) to_is
    ∙ ap (λ (ws : List ℤ). passed (written stacks (ref_of (operand ops 2)) ws) c.args.p (drop 0 ops)) (ap (λ (w : ℤ). w ∷ []) word)
