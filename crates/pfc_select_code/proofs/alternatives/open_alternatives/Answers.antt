use Rattle.std.proofs.Common.{◌≡◌, ◌∙◌, ◌++◌, ℕ, List, Option, length, ap, arith}
use Rattle.pfc_tree.specs.views.Stmts.{alts_view}
use Rattle.pfc_semantics.specs.Alternatives.{alternatives}
use Rattle.pfc_translation.specs.Sites.{context_of}
use Rattle.pfc_addresses.specs.Sites.{site_view}
use Rattle.pfc_select_code.specs.Alternatives.{open_alternatives, arm_places}
use Rattle.pfc_select_code.proofs.Loops.{counted_made, length_places}
use Rattle.pfc_select_code.proofs.alternatives.open_alternatives.Goals as goal

pub returns-clause-code : goal.returns-clause-code
returns-clause-code c =
    let s = site_view c.args.site in
    let all = alternatives (context_of s) c.args.n (alts_view c.args.alts.now) in
    let at = length c.args.made.now.code in
    let first = c.new-places.result.items in
    let stand : length c.put_all.new.places.items ≡ length all =
    ap length c.in_ok-put_all.ensures.places
    ∙ ap (λ (l : List (Option ℕ)). length (l ++ arm_places s at all)) c.new-places.ensures.items
    ∙ length_places s at all
    in
    counted_made (length all) c.in-Ok.count (open_alternatives s all) c.args.made.now c.put_all.new.made c.count_alternatives.new.self
    c.in_ok-put_all.ensures.code c.count_alternatives.ensures (omega (arith, c.in-Ok.ensures, c.len.ensures, stand))
