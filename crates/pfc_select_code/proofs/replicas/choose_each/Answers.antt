use Rattle.std.proofs.Common.{◌≡◌, ◌+ℤ◌, pos, arith, to_z, of_z, w32}
use Rattle.std.proofs.lemmas.Int.{ints}
use Rattle.std.proofs.lemmas.Result.{err_from_is_err_and}
use Rattle.pfc_addresses.specs.Sites.{site_view}
use Rattle.pfc_translation.specs.Statements.{chosen_code}
use Rattle.pfc_select_code.specs.Values.{spread_spot, at_values}
use Rattle.pfc_select_code.proofs.Loops.{chosen_next, chosen_next_large, chosen_large, chosen_jump_large}
use Rattle.pfc_select_code.proofs.Values.{chosen_size}
use Rattle.pfc_select_code.proofs.replicas.choose_each.Goals as goal

pub returns-in_err-write-clause-large : goal.returns-in_err-write-clause-large
returns-in_err-write-clause-large c =
    let s = site_view c.args.site in
    let whole = chosen_code s (at_values s c.args.name.now c.args.values.low c.args.values.count) in
    let v = to_z w32 (of_z w32 c.at.result) in
    let p = err_from_is_err_and c.from_residual.result c.from_residual.ensures.1 in
    rw (p.1, p.2)
    (λ full. chosen_large s c.args.name.now c.args.values.low v c.loop-k.k c.args.values.count whole c.args.made.now c.loop-k.made
    c.loop-k.invariant.large (omega arith) (c.in_err-write.ensures.large full))

pub returns-in_err-put-clause-large : goal.returns-in_err-put-clause-large
returns-in_err-put-clause-large c =
    let s = site_view c.args.site in
    let whole = chosen_code s (at_values s c.args.name.now c.args.values.low c.args.values.count) in
    let v = to_z w32 (of_z w32 c.at.result) in
    let p = err_from_is_err_and c.from_residual-in_err-put.result c.from_residual-in_err-put.ensures.1 in
    rw (p.1, p.2)
    (λ full. chosen_jump_large s c.args.name.now c.args.values.low v c.loop-k.k c.args.values.count 0 whole c.args.made.now c.loop-k.made
    c.write.new.made c.loop-k.invariant.large (omega arith) c.in_ok-write.ensures.code (c.in_err-put.ensures.large full))

pub loop-k-preserved : goal.loop-k-preserved
loop-k-preserved c =
    let s = site_view c.args.site in
    let whole = chosen_code s (at_values s c.args.name.now c.args.values.low c.args.values.count) in
    let v = to_z w32 (of_z w32 c.at.result) in
    let is : v ≡ c.args.values.low +ℤ pos c.loop-k.k = omega (arith, ints, c.at.ensures) in
    record {
      code =
          chosen_next s c.args.name.now c.args.values.low v c.loop-k.k c.args.values.count _ whole c.args.made.now c.loop-k.made c.write.new.made
          c.put.new.self c.loop-k.invariant.code (omega arith) is c.loop-k.invariant.behind c.in_ok-write.ensures.code c.in_ok-put.ensures.code;
      large =
          chosen_next_large s c.args.name.now c.args.values.low v c.loop-k.k c.args.values.count _ whole c.args.made.now c.loop-k.made
          c.write.new.made c.put.new.self c.loop-k.invariant.large (omega arith) is c.in_ok-write.ensures.code c.in_ok-put.ensures.code;
      behind = omega (arith, c.loop-k.invariant.behind, c.in_ok-write.ensures.code.size, c.in_ok-put.ensures.code.size);
    }

pub returns-in_default-clause-large : goal.returns-in_default-clause-large
returns-in_default-clause-large c full =
    let s = site_view c.args.site in
    let size = chosen_size s (spread_spot s c.args.name.now) s.line c.args.values.low c.args.values.count in
    omega (arith, size, c.here.ensures.address, c.in_default.ensures)
