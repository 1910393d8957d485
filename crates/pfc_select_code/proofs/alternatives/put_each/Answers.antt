use Rattle.std.proofs.Common.{◌≡◌, ◌∙◌, ◌++◌, ◌+ℤ◌, pos, [], ◌∷◌, ap, option_map, length, arith, to_z, of_z, w32}
use Rattle.std.proofs.lemmas.Int.{ints}
use Rattle.std.proofs.lemmas.Result.{err_from_is_err_and}
use Rattle.pfc_tree.specs.views.Exprs.{expr_view}
use Rattle.pfc_tree.specs.views.Stmts.{comm_view}
use Rattle.pfc_addresses.specs.Sites.{site_view}
use Rattle.pfc_select_code.specs.Alternatives.{open_each, each_places}
use Rattle.pfc_select_code.specs.Values.{at_values}
use Rattle.pfc_select_code.proofs.Loops.{each_made, each_large, each_write_large, each_guarded_large, each_places_next}
use Rattle.pfc_select_code.proofs.alternatives.put_each.Goals as goal

pub returns-in_err-write-clause-large : goal.returns-in_err-write-clause-large
returns-in_err-write-clause-large c =
    let s = site_view c.args.site in
    let guard = option_map expr_view c.args.offer.guard.now in
    let comm = comm_view c.args.offer.comm.now in
    let whole = open_each s c.args.offer.next guard comm (at_values s c.args.name.now c.args.values.low c.args.values.count) in
    let v = to_z w32 (of_z w32 c.at.result) in
    let is : v ≡ c.args.values.low +ℤ pos c.loop-k.k = omega (arith, ints, c.at.ensures) in
    let p = err_from_is_err_and c.from_residual.result c.from_residual.ensures.1 in
    rw (p.1, p.2)
    (λ full. each_write_large s c.args.name.now c.args.offer.next guard comm c.args.values.low v c.loop-k.k c.args.values.count (omega arith)
    is whole c.args.made.now c.loop-k.made c.loop-k.invariant.large (c.in_err-write.ensures.large full))

pub returns-in_err-place-clause-large : goal.returns-in_err-place-clause-large
returns-in_err-place-clause-large c =
    let s = site_view c.args.site in
    let guard = option_map expr_view c.args.offer.guard.now in
    let comm = comm_view c.args.offer.comm.now in
    let whole = open_each s c.args.offer.next guard comm (at_values s c.args.name.now c.args.values.low c.args.values.count) in
    let v = to_z w32 (of_z w32 c.at.result) in
    let is : v ≡ c.args.values.low +ℤ pos c.loop-k.k = omega (arith, ints, c.at.ensures) in
    let p = err_from_is_err_and c.from_residual-in_err-place.result c.from_residual-in_err-place.ensures.1 in
    rw (p.1, p.2)
    (λ full. each_guarded_large s c.args.name.now c.args.offer.next guard comm c.args.values.low v c.loop-k.k c.args.values.count (omega arith)
    is whole c.args.made.now c.loop-k.made c.write.new.made c.loop-k.invariant.large c.in_ok-write.ensures.code (c.in_err-place.ensures.large full))

pub loop-k-preserved : goal.loop-k-preserved
loop-k-preserved c =
    let s = site_view c.args.site in
    let x = c.args.name.now in
    let n = c.args.offer.next in
    let guard = option_map expr_view c.args.offer.guard.now in
    let comm = comm_view c.args.offer.comm.now in
    let low = c.args.values.low in
    let count = c.args.values.count in
    let whole = open_each s n guard comm (at_values s x low count) in
    let places = each_places s (length c.args.made.now.code) n guard comm (at_values s x low count) in
    let v = to_z w32 (of_z w32 c.at.result) in
    let is : v ≡ low +ℤ pos c.loop-k.k = omega (arith, ints, c.at.ensures) in
    record {
      code =
          each_made s x n guard comm low v c.loop-k.k count (omega arith) is whole c.args.made.now c.loop-k.made c.write.new.made
          c.put_guarded.new.made c.loop-k.invariant.code c.in_ok-write.ensures.code c.in_ok-place.ensures.code;
      large =
          each_large s x n guard comm low v c.loop-k.k count (omega arith) is whole c.args.made.now c.loop-k.made c.write.new.made
          c.put_guarded.new.made c.loop-k.invariant.large c.in_ok-write.ensures.code c.in_ok-place.ensures.code;
      places =
          each_places_next s x n guard comm low v c.loop-k.k count _ _ _ c.loop-k.made c.write.new.made c.put_guarded.new.made (omega arith)
          is c.loop-k.invariant.places c.in_ok-write.ensures.code c.in_ok-place.ensures.code
          (c.in_ok-add.ensures.places ∙ ap (λ place. c.loop-k.places.items ++ place ∷ []) c.in_ok-place.ensures.place);
    }
