use Rattle.std.proofs.Common.{arith}
use Rattle.std.proofs.lemmas.Result.{err_from_is_err_and}
use Rattle.pfc_tree.specs.views.Stmts.{alts_view}
use Rattle.pfc_semantics.specs.Alternatives.{alternatives}
use Rattle.pfc_translation.specs.Sites.{context_of}
use Rattle.pfc_addresses.specs.Sites.{site_view}
use Rattle.pfc_select_code.specs.Alternatives.{open_alternatives}
use Rattle.pfc_select_code.proofs.Loops.{alts_next, alts_next_large, alt_large, alts_places_next}
use Rattle.pfc_select_code.proofs.alternatives.put_all.Goals as goal

pub returns-in_err-put_alt-clause-large : goal.returns-in_err-put_alt-clause-large
returns-in_err-put_alt-clause-large c =
    let s = site_view c.args.site in
    let whole = open_alternatives s (alternatives (context_of s) c.args.n (alts_view c.args.alts.now)) in
    let p = err_from_is_err_and c.from_residual.result c.from_residual.ensures.1 in
    rw (p.1, p.2)
    (λ full. alt_large s c.loop-alt.next c.args.alts.now c.loop-alt.alt-index c.alt-item.result whole c.args.made.now c.loop-alt.made
    c.loop-alt.invariant.large (omega arith) c.alt-item.is (c.in_err-put_alt.ensures.large full))

pub loop-alt-preserved : goal.loop-alt-preserved
loop-alt-preserved c =
    let s = site_view c.args.site in
    let whole = open_alternatives s (alternatives (context_of s) c.args.n (alts_view c.args.alts.now)) in
    record {
      code =
          alts_next s c.loop-alt.next c.in-Ok.behind c.args.alts.now c.loop-alt.alt-index c.alt-item.result whole c.args.made.now c.loop-alt.made
          c.put_alt.new.made c.loop-alt.invariant.code (omega arith) c.alt-item.is c.in_ok-put_alt.ensures.code c.in-Ok.ensures.value;
      large =
          alts_next_large s c.loop-alt.next c.in-Ok.behind c.args.alts.now c.loop-alt.alt-index c.alt-item.result whole c.args.made.now c.loop-alt.made
          c.put_alt.new.made c.loop-alt.invariant.large (omega arith) c.alt-item.is c.in_ok-put_alt.ensures.code c.in-Ok.ensures.value;
      places =
          alts_places_next s c.loop-alt.next c.in-Ok.behind c.args.alts.now c.loop-alt.alt-index c.alt-item.result _ _ _ c.loop-alt.made
          c.put_alt.new.made c.loop-alt.invariant.places (omega arith) c.alt-item.is c.in_ok-put_alt.ensures.code c.in_ok-put_alt.ensures.places
          c.in-Ok.ensures.value;
    }
