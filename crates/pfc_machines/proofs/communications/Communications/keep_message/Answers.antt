use Rattle.std.proofs.Common.{◌≡◌, ℕ, ◌+◌, ◌-◌, ◌<◌, ◌≤◌, ℤ, pos, List, ◌∷◌, length, get_or, w64, to_z, of_z, ap, ◌∙◌, arith}
use Rattle.std.proofs.lemmas.Int.{to_z-of_z}
use Rattle.pfc_stacks.proofs.Loads.{pushed_more}
use Rattle.pfc_stacks.proofs.Writes.{words_at, length-words_at, word_at_depth}
use Rattle.pfc_stacks.specs.Stacks.{operand, operands_of}
use Rattle.pfc_machines.specs.Communications.{Communicating}
use Rattle.pfc_machines.proofs.communications.Communications.keep_message.Goals as goal

pub loop-j-preserved : goal.loop-j-preserved
loop-j-preserved c =
    let old : Communicating = c.args.self.now in
    let ops : List ℤ = operands_of c.args.stacks.now c.args.p in
    let z : ℕ = c.args.z in
    let j : ℕ = c.loop-j.j in
    let ws : List ℤ = words_at ops 0 z in
    let v : ℤ = to_z w64 (of_z w64 c.top.result) in
    let held : 0 + z ≤ length ops = (let few = c.requires.held in omega arith) in
    let size : length ws ≡ z = length-words_at ops 0 z held in
    let inside : j < length ws = omega (arith, size, c.loop-j-test.true) in
    let depth : z - 1 - j ≡ 0 + (z - 1 - j) = omega arith in
    let word : v ≡ get_or ws j (pos 0) =
    to_z-of_z w64 c.top.result (record { sfits = c.top.type_inv }) ∙ c.top.ensures ∙ ap (operand ops) depth
    ∙ word_at_depth ops 0 z j held c.loop-j-test.true in
    c.keep_word.ensures ∙ ap (λ (e : Communicating). (let more : Communicating = record e { words = v ∷ e.words } in more)) c.loop-j.invariant
    ∙ ap (λ (xs : List ℤ). (let kept : Communicating = record old { words = xs } in kept)) (pushed_more ws old.words j v inside word)
