-- What is put so far, with the values still to come, is what is to be put; it ends where the jumps lead.
use Rattle.std.proofs.Common.{◌≡◌, ◌+◌, ◌*◌, ◌-◌, ◌+ℤ◌, pos, length}
use Rattle.pfc_translation.specs.Statements.{chosen_code}
use Rattle.pfc_addresses.specs.Sites.{site_view}
use Rattle.pfc_expression_code.specs.Putting.{Made, IsMade, IsTooLarge}
use Rattle.pfc_select_code.specs.Values.{at_values}
use Rattle.pfc_select_code.proofs.replicas.choose_each.Given as goal

abbrev pub invariant-loop-k : goal.invariant-loop-k
invariant-loop-k l =
    let s = site_view l.site in
    let all = at_values s l.name l.values.low l.values.count in
    let rest = at_values s l.name (l.values.low +ℤ pos l.k) (l.values.count - l.k) in
    record {
      code : (m : Made) → IsMade (chosen_code s rest) l.made m → IsMade (chosen_code s all) l.fn.made m;
      large : IsTooLarge (chosen_code s rest) l.made → IsTooLarge (chosen_code s all) l.fn.made;
      behind : l.behind ≡ length l.made.code + 4 * (l.values.count - l.k);
    }
