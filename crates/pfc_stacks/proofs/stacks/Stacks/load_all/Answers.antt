use Rattle.std.proofs.Common.{◌≡◌, ℕ, ◌+◌, ◌-◌, ◌<◌, ◌≤◌, ℤ, pos, List, ◌∷◌, ◌++◌, length, take, drop, get_or, ap, sym, ◌∙◌, arith, w64, to_z, of_z, set, subst}
use Rattle.std.specs.Prelude.{reverse}
use Rattle.std.proofs.lemmas.Int.{to_z-of_z}
use Rattle.std.proofs.lemmas.List.{length-append, length-reverse, length-take-le, length-drop}
use Rattle.pfc_stacks.specs.declared.refs.Ref.{Ref}
use Rattle.pfc_stacks.specs.Conditions.{AreLive}
use Rattle.pfc_stacks.specs.Refs.{ref_of}
use Rattle.pfc_stacks.specs.Effects.{passed}
use Rattle.pfc_stacks.specs.Stacks.{Stacks, stack_of, cells_of, cells_at, operand}
use Rattle.pfc_stacks.proofs.Loads.{stack_passed, cells_passed, passed_more, cell_among, length-cells_at, pushed_more}
use Rattle.pfc_stacks.proofs.stacks.Stacks.load_all.Goals as goal

pub push-requires : goal.push-requires
push-requires c =
    let stacks : Stacks = c.args.self.now in
    let ops : List ℤ = (stack_of stacks c.args.p).operands in
    let from : Ref = c.of-from.result in
    let ws : List ℤ = cells_at stacks from c.args.z in
    let j : ℕ = c.loop-j.j in
    let held : List ℤ = reverse (take j ws) ++ drop 1 ops in
    let here : stack_of c.loop-j.self c.args.p ≡ record (stack_of stacks c.args.p) { at = (stack_of stacks c.args.p).at + 1; operands = held } =
    ap (λ (s : Stacks). stack_of s c.args.p) c.loop-j.invariant ∙ stack_passed stacks c.args.p held c.requires.process in
    let from_is : from ≡ ref_of (operand ops 0) =
    c.of-from.ensures.of ∙ ap ref_of (to_z-of_z w64 c.operand.result (record { sfits = c.operand.type_inv }) ∙ c.operand.ensures) in
    let live : AreLive stacks from c.args.z = subst (λ (r : Ref). AreLive stacks r c.args.z) (sym from_is) c.requires.live in
    let size : length ws ≡ c.args.z = length-cells_at stacks from c.args.z live in
    let front : length (reverse (take j ws)) ≡ j = length-reverse (take j ws) ∙ length-take-le j ws (omega arith) in
    let count : length held ≡ j + (length ops - 1) =
    length-append (reverse (take j ws)) (drop 1 ops) ∙ (let rest = length-drop 1 ops in omega arith) in
    let few : length ops ≤ (stack_of stacks c.args.p).room = c.pass.ensures.few in
    rw here (omega arith)

pub loop-j-preserved : goal.loop-j-preserved
loop-j-preserved c =
    let stacks : Stacks = c.args.self.now in
    let ops : List ℤ = (stack_of stacks c.args.p).operands in
    let from : Ref = c.of-from.result in
    let ws : List ℤ = cells_at stacks from c.args.z in
    let j : ℕ = c.loop-j.j in
    let v : ℤ = to_z w64 (of_z w64 c.cell-v.result) in
    let held : List ℤ = reverse (take j ws) ++ drop 1 ops in
    let before : c.loop-j.self ≡ passed stacks c.args.p held = c.loop-j.invariant in
    let from_is : from ≡ ref_of (operand ops 0) =
    c.of-from.ensures.of ∙ ap ref_of (to_z-of_z w64 c.operand.result (record { sfits = c.operand.type_inv }) ∙ c.operand.ensures) in
    let live : AreLive stacks from c.args.z = subst (λ (r : Ref). AreLive stacks r c.args.z) (sym from_is) c.requires.live in
    let size : length ws ≡ c.args.z = length-cells_at stacks from c.args.z live in
    let inside : j < length ws = omega arith in
    let word : v ≡ get_or ws j (pos 0) =
    to_z-of_z w64 c.cell-v.result (record { sfits = c.cell-v.type_inv }) ∙ c.cell-v.ensures
    ∙ ap (λ (s : Stacks). get_or (cells_of s from.process) (from.cell + j) (pos 0)) before
    ∙ ap (λ (cells : List ℤ). get_or cells (from.cell + j) (pos 0)) (cells_passed stacks c.args.p held from.process)
    ∙ cell_among stacks from c.args.z j c.loop-j-test.true in
    c.push.ensures
    ∙ ap (λ (s : Stacks). set s c.args.p (record (stack_of s c.args.p) { operands = v ∷ (stack_of s c.args.p).operands })) before
    ∙ passed_more stacks c.args.p held v c.requires.process
    ∙ ap (λ (held : List ℤ). passed stacks c.args.p held) (pushed_more ws (drop 1 ops) j v inside word)
