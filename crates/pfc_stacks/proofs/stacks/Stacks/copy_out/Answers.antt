use Rattle.std.proofs.Common.{◌≡◌, ℕ, ◌+◌, ◌-◌, ℤ, pos, List, length, take, get_or, w64, to_z, of_z, ap, ◌∙◌, arith}
use Rattle.std.proofs.lemmas.Int.{to_z-of_z}
use Rattle.pfc_stacks.specs.Stacks.{Stacks, stack_of, operand, written}
use Rattle.pfc_stacks.specs.Conditions.{AreLive}
use Rattle.pfc_stacks.proofs.Writes.{written_none, written_more, operands_written, words_at, length-words_at, word_at_depth, with_cell}
use Rattle.pfc_stacks.proofs.stacks.Stacks.copy_out.Goals as goal

pub loop-j-init : goal.loop-j-init
loop-j-init c = written_none c.args.self.now c.args.to

-- the operands stay what they were, so the next word is the next of them
pub loop-j-preserved : goal.loop-j-preserved
loop-j-preserved c =
    let stacks : Stacks = c.args.self.now in
    let ops : List ℤ = (stack_of stacks c.args.p).operands in
    let ws : List ℤ = words_at ops c.args.k c.args.z in
    let j : ℕ = c.loop-j.j in
    let size : length ws ≡ c.args.z = length-words_at ops c.args.k c.args.z c.requires.held in
    let before : c.loop-j.self ≡ written stacks c.args.to (take j ws) = c.loop-j.invariant in
    let same : (stack_of c.loop-j.self c.args.p).operands ≡ ops =
    ap (λ (s : Stacks). (stack_of s c.args.p).operands) before ∙ operands_written stacks c.args.to (take j ws) c.args.p in
    let word : to_z w64 (of_z w64 c.operand-v.result) ≡ get_or ws j (pos 0) =
    to_z-of_z w64 c.operand-v.result (record { sfits = c.operand-v.type_inv }) ∙ c.operand-v.ensures ∙
    ap (λ (held : List ℤ). operand held (c.args.k + (c.args.z - 1 - j))) same
    ∙ word_at_depth ops c.args.k c.args.z j c.requires.held c.loop-j-test.true in
    let live : AreLive stacks c.args.to (length ws) = (let kept = c.requires.live in omega arith) in
    c.set_cell.ensures ∙ ap (λ (s : Stacks). with_cell s c.args.to.process (c.args.to.cell + j) (to_z w64 (of_z w64 c.operand-v.result))) before
    ∙ written_more stacks c.args.to ws j (to_z w64 (of_z w64 c.operand-v.result)) live (omega arith) word
