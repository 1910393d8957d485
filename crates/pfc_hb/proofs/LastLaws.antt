-- The last events with each object, one event after another.
use Rattle.std.proofs.Common.{◌≡◌, ℕ, ◌+◌, inl, inr, Bool, true, false, cond, Option, Some, None, eqb, List, arith, refl, sym, subst, eqb-true, eq-eqb}
use Rattle.std.specs.Option.{MatchOption}
use Rattle.std.proofs.lemmas.Bool.{cases_eq}
use Rattle.pfc_hb.specs.declared.events.Event.{Event}
use Rattle.pfc_hb.specs.declared.objects.Thing.{Thing}
use Rattle.pfc_hb.specs.declared.objects.Thing.TheVariants.{Semaphore, Channel, Monitor, Resource, Owner}
use Rattle.pfc_hb.specs.Order.{event_at, is_same_thing}
use Rattle.pfc_hb.specs.Clocks.{has_thing, IsLastWith, NoneWith}
use Rattle.pfc_hb.specs.Lasts.{PutsIn, TellLasts, last_place}
use Rattle.pfc_hb.proofs.PartLaws.{same_answer}

eqb-turned : (a b : ℕ) → eqb a b ≡ eqb b a
eqb-turned a b = same_answer (eqb a b) (eqb b a) (λ h. eq-eqb b a (sym (eqb-true a b h))) (λ h. eq-eqb a b (sym (eqb-true b a h)))

pub same_thing-sym : (a b : Thing) → is_same_thing a b ≡ is_same_thing b a
same_thing-sym (Semaphore a) (Semaphore b) = eqb-turned a b
same_thing-sym (Channel a) (Channel b) = eqb-turned a b
same_thing-sym (Monitor a) (Monitor b) = eqb-turned a b
same_thing-sym (Resource a) (Resource b) = eqb-turned a b
same_thing-sym (Owner a) (Owner b) = eqb-turned a b
same_thing-sym a b = refl

module _ (events : List Event) (thing : Thing) (place : ℕ) where
  -- one event more
  last-more : (b : Bool) → has_thing thing (event_at events place) ≡ b → (last : Option ℕ) →
      MatchOption last (NoneWith events thing 0 place) (IsLastWith events thing place)
      → MatchOption (cond b (Some place) last) (NoneWith events thing 0 (place + 1)) (IsLastWith events thing (place + 1))
  last-more true has last old = record { below = omega arith; has = has; behind = λ k from lt. absurd (omega (arith, from, lt)) }
  last-more false none None old = λ k from lt. elim (cases_eq k place) [
    | inl e ↦ subst (λ v. has_thing thing (event_at events v) ≡ false) (sym e) none
    | inr other ↦ old k from (omega (arith, lt, other))
  ]
  last-more false none (Some last) old = record {
    below = omega (arith, old.below);
    has = old.has;
    behind = λ k from lt. elim (cases_eq k place) [
      | inl e ↦ subst (λ v. has_thing thing (event_at events v) ≡ false) (sym e) none
      | inr other ↦ old.behind k from (omega (arith, lt, other))
    ];
  }

pub lasts-more : (events : List Event) (place : ℕ) (before after : List (Thing × ℕ)) → TellLasts events place before
    → PutsIn (λ other. has_thing other (event_at events place)) place before after → TellLasts events (place + 1) after
lasts-more events place before after old puts thing =
    subst (λ o. MatchOption o (NoneWith events thing 0 (place + 1)) (IsLastWith events thing (place + 1))) (sym (puts thing))
    (last-more events thing place (has_thing thing (event_at events place)) refl (last_place before thing) (old thing))
