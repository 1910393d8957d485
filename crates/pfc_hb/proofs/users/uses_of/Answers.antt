use Rattle.std.proofs.Common.{◌≡◌, ◌+◌, List, length, replicate, arith, ap, sym, subst, ◌∙◌}
use Rattle.std.proofs.lemmas.List.{get_or_read}
use Rattle.pfc_hb.specs.declared.accesses.Access.{Access}
use Rattle.pfc_hb.specs.declared.users.Users.{Users}
use Rattle.pfc_hb.specs.Order.{event_at, no_event}
use Rattle.pfc_hb.specs.Parts.{is_same_spot, lies_in}
use Rattle.pfc_hb.specs.Users.{AddsAll, SameSizes, no_users}
use Rattle.pfc_hb.proofs.UserLaws.{TellBelow, tell_below-none, tell_below-more, tell_users, given_back}
use Rattle.pfc_hb.proofs.users.uses_of.Goals as goal

pub loop-place-init : goal.loop-place-init
loop-place-init c =
    let events = c.args.events.now in
    let parts = c.args.parts.now.keys in
    let none = no_users (length events) in
    record {
      at = subst (TellBelow events parts is_same_spot 0) (sym (c.in_ok-at.ensures ∙ ap (λ n. replicate n none) c.len.ensures.len))
          (tell_below-none events parts is_same_spot);
      within = subst (TellBelow events parts lies_in 0) (sym (c.in_ok-within.ensures ∙ ap (λ n. replicate n none) c.len-2.ensures.len))
          (tell_below-none events parts lies_in);
    }

pub loop-place-preserved : goal.loop-place-preserved
loop-place-preserved c =
    let events = c.args.events.now in
    let parts = c.args.parts.now.keys in
    let place = c.loop-place.place in
    let at = c.loop-place.at.items in
    let within = c.loop-place.within.items in
    let new_at = c.put_event.new.at in
    let new_within = c.put_event.new.within in
    let event = c.index-events-place.result in
    let told = c.in_ok-put_event.ensures in
    let it : event ≡ event_at events place = get_or_read events place event (omega arith) c.index-events-place.is no_event in
    let sizes_at : SameSizes at new_at = subst (λ (l : List Users). SameSizes l new_at) c.deref_mut.ensures.value told.sizes_at in
    let sizes_within : SameSizes within new_within =
    subst (λ (l : List Users). SameSizes l new_within) c.deref_mut-in-loop-place.ensures.value told.sizes_within in
    let put_at : AddsAll parts is_same_spot place (event_at events place).accesses at new_at =
    subst (λ (l : List Users). AddsAll parts is_same_spot place (event_at events place).accesses l new_at) c.deref_mut.ensures.value
    (subst (λ (l : List Access). AddsAll parts is_same_spot place l c.deref_mut.result.now new_at) (ap (λ e. e.accesses) it) told.at) in
    let put_within : AddsAll parts lies_in place (event_at events place).accesses within new_within =
    subst (λ (l : List Users). AddsAll parts lies_in place (event_at events place).accesses l new_within) c.deref_mut-in-loop-place.ensures.value
    (subst (λ (l : List Access). AddsAll parts lies_in place l c.deref_mut-in-loop-place.result.now new_within) (ap (λ e. e.accesses) it) told.within) in
    record {
      at = subst (TellBelow events parts is_same_spot (place + 1))
          (sym (given_back at new_at c.loop-place.at.len (omega (arith, c.loop-place.at.ok.0)) sizes_at.each))
          (tell_below-more events parts is_same_spot place at new_at c.loop-place.invariant.at sizes_at put_at);
      within = subst (TellBelow events parts lies_in (place + 1))
          (sym (given_back within new_within c.loop-place.within.len (omega (arith, c.loop-place.within.ok.0)) sizes_within.each))
          (tell_below-more events parts lies_in place within new_within c.loop-place.invariant.within sizes_within put_within);
    }

pub returns-clause-at : goal.returns-clause-at
returns-clause-at c = tell_users c.args.events.now c.args.parts.now.keys is_same_spot c.loop-place.place c.loop-place.at.items
    (omega arith) c.loop-place.invariant.at

pub returns-clause-within : goal.returns-clause-within
returns-clause-within c = tell_users c.args.events.now c.args.parts.now.keys lies_in c.loop-place.place c.loop-place.within.items
    (omega arith) c.loop-place.invariant.within
