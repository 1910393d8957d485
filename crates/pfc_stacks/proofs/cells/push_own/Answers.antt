use Rattle.std.proofs.Common.{◌≡◌, ℤ, List, ◌∷◌, [], ◌++◌, pos, w64, SFits, refl, rules}
use Rattle.pfc_stacks.specs.Marks.{word_of_mark}
use Rattle.pfc_stacks.proofs.Pushed.{one, one_more}
use Rattle.pfc_stacks.proofs.cells.push_own.Goals as goal

pub returns-clause-items : goal.returns-clause-items
returns-clause-items c =
    let own = c.args.own in
    let cells : List ℤ = c.args.cells.now.items in
    let fits_address : SFits w64 (c.word_of_address.result) = search rules in
    let to_address : c.push_word.new.cells.items ≡ cells ++ pos own.address ∷ [] =
    one cells c.push_word.new.cells.items (c.word_of_address.result) (pos own.address) fits_address c.push_word.ensures.items c.word_of_address.ensures in
    let fits_block : SFits w64 (c.from.result) = search rules in
    let to_block : c.push_word-2.new.cells.items ≡ cells ++ pos own.address ∷ pos own.block ∷ [] =
    one_more cells c.push_word.new.cells.items c.push_word-2.new.cells.items
    (pos own.address ∷ []) (c.from.result) (pos own.block) fits_block to_address c.push_word-2.ensures.items c.from.ensures in
    let fits_mark : SFits w64 (c.word.result) = search rules in
    let to_mark : c.push_word-3.new.cells.items ≡ cells ++ pos own.address ∷ pos own.block ∷ word_of_mark own.mark ∷ [] =
    one_more cells c.push_word-2.new.cells.items c.push_word-3.new.cells.items
    (pos own.address ∷ pos own.block ∷ []) (c.word.result) (word_of_mark own.mark) fits_mark to_block c.push_word-3.ensures.items c.word.ensures in
    let fits_link : SFits w64 (own.link) = search rules in
    let to_link : c.push_word-4.new.cells.items ≡ cells ++ pos own.address ∷ pos own.block ∷ word_of_mark own.mark ∷ own.link ∷ [] =
    one_more cells c.push_word-3.new.cells.items c.push_word-4.new.cells.items
    (pos own.address ∷ pos own.block ∷ word_of_mark own.mark ∷ []) (own.link) (own.link) fits_link to_mark c.push_word-4.ensures.items refl in
    let fits_caller : SFits w64 (c.from-2.result) = search rules in
    let to_caller : c.push_word-5.new.cells.items ≡ cells ++ pos own.address ∷ pos own.block ∷ word_of_mark own.mark ∷ own.link ∷ pos own.caller ∷ [] =
    one_more cells c.push_word-4.new.cells.items c.push_word-5.new.cells.items
    (pos own.address ∷ pos own.block ∷ word_of_mark own.mark ∷ own.link ∷ []) (c.from-2.result)
    (pos own.caller) fits_caller to_link c.push_word-5.ensures.items c.from-2.ensures in
    let fits_under : SFits w64 (c.from-3.result) = search rules in
    let to_under : c.push_word-6.new.cells.items ≡ cells ++ pos own.address ∷ pos own.block ∷ word_of_mark own.mark ∷ own.link ∷ pos own.caller ∷ pos
    own.under ∷ [] =
    one_more cells c.push_word-5.new.cells.items c.push_word-6.new.cells.items
    (pos own.address ∷ pos own.block ∷ word_of_mark own.mark ∷ own.link ∷ pos own.caller ∷ []) (c.from-3.result)
    (pos own.under) fits_under to_caller c.push_word-6.ensures.items c.from-3.ensures in
    let fits_seventh : SFits w64 (pos 0) = search rules in
    let to_seventh : c.push_word-7.new.cells.items ≡ cells ++ pos own.address ∷ pos own.block ∷ word_of_mark own.mark ∷ own.link ∷ pos own.caller ∷
    pos own.under ∷ pos 0 ∷ [] =
    one_more cells c.push_word-6.new.cells.items c.push_word-7.new.cells.items
    (pos own.address ∷ pos own.block ∷ word_of_mark own.mark ∷ own.link ∷ pos own.caller ∷ pos own.under ∷ []) (pos 0)
    (pos 0) fits_seventh to_under c.push_word-7.ensures.items refl in
    let fits_eighth : SFits w64 (pos 0) = search rules in
    one_more cells c.push_word-7.new.cells.items c.push_word-8.new.cells.items
    (pos own.address ∷ pos own.block ∷ word_of_mark own.mark ∷ own.link ∷ pos own.caller ∷ pos own.under ∷ pos 0 ∷ []) (pos 0)
    (pos 0) fits_eighth to_seventh c.push_word-8.ensures.items refl
