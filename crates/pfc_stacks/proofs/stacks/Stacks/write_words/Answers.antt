use Rattle.std.proofs.Common.{◌≡◌, ◌+◌, ℤ, pos, List, get_or, w64, to_z, of_z, ap, ◌∙◌}
use Rattle.std.proofs.lemmas.Int.{to_z-of_z}
use Rattle.pfc_stacks.specs.Stacks.{Stacks}
use Rattle.pfc_stacks.proofs.Writes.{written_none, written_more, with_cell}
use Rattle.pfc_stacks.proofs.stacks.Stacks.write_words.Goals as goal

pub loop-j-init : goal.loop-j-init
loop-j-init c = written_none c.args.self.now c.args.to

pub loop-j-preserved : goal.loop-j-preserved
loop-j-preserved c =
    let words : List ℤ = c.args.words.now in
    let v : ℤ = to_z w64 (of_z w64 c.word_at.result) in
    let word : v ≡ get_or words c.loop-j.j (pos 0) = to_z-of_z w64 c.word_at.result (record { sfits = c.word_at.type_inv }) ∙ c.word_at.ensures in
    c.set_cell.ensures ∙ ap (λ (s : Stacks). with_cell s c.args.to.process (c.args.to.cell + c.loop-j.j) v) c.loop-j.invariant
    ∙ written_more c.args.self.now c.args.to words c.loop-j.j v c.requires c.loop-j-test.true word
