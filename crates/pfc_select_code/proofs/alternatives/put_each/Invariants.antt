-- What is put so far, with the values still to come, is what is to be put.
use Rattle.std.proofs.Common.{◌≡◌, ◌++◌, ◌-◌, ◌+ℤ◌, pos, length, option_map}
use Rattle.pfc_tree.specs.views.Exprs.{expr_view}
use Rattle.pfc_tree.specs.views.Stmts.{comm_view}
use Rattle.pfc_addresses.specs.Sites.{site_view}
use Rattle.pfc_expression_code.specs.Putting.{Made, IsMade, IsTooLarge}
use Rattle.pfc_select_code.specs.Alternatives.{open_each, each_places}
use Rattle.pfc_select_code.specs.Values.{at_values}
use Rattle.pfc_select_code.proofs.alternatives.put_each.Given as goal

abbrev pub invariant-loop-k : goal.invariant-loop-k
invariant-loop-k l =
    let s = site_view l.site in
    let guard = option_map expr_view l.offer.guard.now in
    let comm = comm_view l.offer.comm.now in
    let all = at_values s l.name l.values.low l.values.count in
    let rest = at_values s l.name (l.values.low +ℤ pos l.k) (l.values.count - l.k) in
    record {
      code : (m : Made) → IsMade (open_each s l.offer.next guard comm rest) l.made m → IsMade (open_each s l.offer.next guard comm all) l.fn.made m;
      large : IsTooLarge (open_each s l.offer.next guard comm rest) l.made → IsTooLarge (open_each s l.offer.next guard comm all) l.fn.made;
      places :
          l.places.items ++ each_places s (length l.made.code) l.offer.next guard comm rest
          ≡ l.fn.places.items ++ each_places s (length l.fn.made.code) l.offer.next guard comm all;
    }
