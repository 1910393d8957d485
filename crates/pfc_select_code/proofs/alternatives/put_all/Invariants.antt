-- What is put so far, with the alternatives still to come, is what is to be put.
use Rattle.std.proofs.Common.{◌≡◌, ◌++◌, drop, length}
use Rattle.pfc_tree.specs.views.Stmts.{alts_view}
use Rattle.pfc_semantics.specs.Alternatives.{alternatives}
use Rattle.pfc_translation.specs.Sites.{context_of}
use Rattle.pfc_addresses.specs.Sites.{site_view}
use Rattle.pfc_expression_code.specs.Putting.{Made, IsMade, IsTooLarge}
use Rattle.pfc_select_code.specs.Alternatives.{open_alternatives, arm_places}
use Rattle.pfc_select_code.proofs.alternatives.put_all.Given as goal

abbrev pub invariant-loop-alt : goal.invariant-loop-alt
invariant-loop-alt l =
    let s = site_view l.site in
    let all = alternatives (context_of s) l.fn.n (alts_view l.alts) in
    let rest = alternatives (context_of s) l.next (alts_view (drop l.alt-index l.alts)) in
    record {
      code : (m : Made) → IsMade (open_alternatives s rest) l.made m → IsMade (open_alternatives s all) l.fn.made m;
      large : IsTooLarge (open_alternatives s rest) l.made → IsTooLarge (open_alternatives s all) l.fn.made;
      places : l.places.items ++ arm_places s (length l.made.code) rest ≡ l.fn.places.items ++ arm_places s (length l.fn.made.code) all;
    }
