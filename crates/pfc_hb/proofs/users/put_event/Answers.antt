use Rattle.std.proofs.Common.{◌≡◌, ◌<◌, List, length, get_or, take, arith, ap, subst, sym, ◌∙◌}
use Rattle.std.proofs.lemmas.List.{take_all}
use Rattle.std.specs.Option.{option_to_list}
use Rattle.pfc_hb.specs.declared.accesses.Access.{Access}
use Rattle.pfc_hb.specs.Parts.{is_same_spot, lies_in}
use Rattle.pfc_hb.specs.Users.{Adds, AddsAll}
use Rattle.pfc_hb.proofs.PartLaws.{number_of-within, same_spot-number}
use Rattle.pfc_hb.proofs.UserLaws.{adds-numbers, adds_all-more, same_sizes-trans}
use Rattle.pfc_hb.proofs.users.put_event.Goals as goal

pub put_own-requires-clause-own : goal.put_own-requires-clause-own
put_own-requires-clause-own c = λ n is.
    rw (c.loop-access.invariant.sizes_at.each, c.requires.parts_at)
    (number_of-within c.args.parts.now.keys c.access-item.result.spot n (sym c.number_of-own.ensures ∙ is))

pub loop-access-preserved : goal.loop-access-preserved
loop-access-preserved c =
    let parts = c.args.parts.now.keys in
    let accesses = c.args.event.now.accesses in
    let k = c.loop-access.access-index in
    let a = c.access-item.result in
    let is : a ≡ get_or accesses k a = c.access-item.is ∙ ap (λ l. get_or l k a) c.as_slice-access-items.ensures in
    let own = option_to_list c.number_of-own.result in
    let put : Adds parts (is_same_spot a.spot) c.args.place a.write c.loop-access.at c.put_own.new.users =
    adds-numbers parts own c.args.place a.write (is_same_spot a.spot) c.loop-access.at c.put_own.new.users
    (c.loop-access.invariant.sizes_at.each ∙ c.requires.parts_at)
    (λ s n known. same_spot-number parts a.spot s n c.number_of-own.result c.number_of-own.ensures known) c.put_own.ensures.put in
    let lt : k < length accesses = omega (arith, ap length c.as_slice-access-items.ensures) in
    record {
      sizes_at = same_sizes-trans c.args.at.now c.loop-access.at c.put_own.new.users c.loop-access.invariant.sizes_at c.put_own.ensures.sizes;
      sizes_within = same_sizes-trans c.args.within.now c.loop-access.within c.put_within.new.within
          c.loop-access.invariant.sizes_within c.in_ok-put_within.ensures.sizes;
      at = adds_all-more parts is_same_spot c.args.place k accesses a c.args.at.now c.loop-access.at c.put_own.new.users lt c.loop-access.invariant.at
          (subst (λ (x : Access). Adds parts (is_same_spot x.spot) c.args.place x.write c.loop-access.at c.put_own.new.users) is put);
      within = adds_all-more parts lies_in c.args.place k accesses a c.args.within.now c.loop-access.within
          c.put_within.new.within lt c.loop-access.invariant.within
          (subst (λ (x : Access). Adds parts
          (lies_in x.spot) c.args.place x.write c.loop-access.within c.put_within.new.within) is c.in_ok-put_within.ensures.put);
    }

pub returns-clause-at : goal.returns-clause-at
returns-clause-at c =
    let accesses = c.args.event.now.accesses in
    let all : take c.loop-access.access-index accesses ≡ accesses =
    take_all c.loop-access.access-index accesses (omega (arith, ap length c.as_slice-access-items.ensures)) in
    subst (λ (l : List Access). AddsAll c.args.parts.now.keys is_same_spot c.args.place l c.args.at.now c.loop-access.at) all c.loop-access.invariant.at

pub returns-clause-within : goal.returns-clause-within
returns-clause-within c =
    let accesses = c.args.event.now.accesses in
    let all : take c.loop-access.access-index accesses ≡ accesses =
    take_all c.loop-access.access-index accesses (omega (arith, ap length c.as_slice-access-items.ensures)) in
    subst (λ (l : List Access). AddsAll c.args.parts.now.keys lies_in c.args.place l c.args.within.now c.loop-access.within) all c.loop-access.invariant.within
