-- The bodies still to come complete the code.
use Rattle.std.proofs.Common.{◌≡◌, ◌+◌, ◌++◌, drop, length}
use Rattle.std.specs.Prelude.{max}
use Rattle.pfc_translation.specs.Images.{put_from, size_of, most_arms}
use Rattle.pfc_generator.specs.Making.{AreOrdered}
use Rattle.pfc_generator.specs.Views.{initials_view}
use Rattle.pfc_generator.proofs.coded.put_initials.Given as goal

abbrev pub invariant-loop-i : goal.invariant-loop-i
invariant-loop-i l =
    let all = initials_view l.addresses.program.now l.initials in
    let left = initials_view l.addresses.program.now (drop l.i-index l.initials) in
    (l.coder.code ++ put_from (length l.coder.code) left ≡ l.fn.coder.code ++ put_from (length l.fn.coder.code) all)
    × ((length l.coder.code + size_of left ≡ length l.fn.coder.code + size_of all)
    × ((max l.coder.arms (most_arms left) ≡ max l.fn.coder.arms (most_arms all))
    × AreOrdered l.strings (length l.coder.texts) left))
