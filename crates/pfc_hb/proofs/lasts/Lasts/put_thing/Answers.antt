use Rattle.std.proofs.Common.{◌≡◌, ℕ, Option, Some, List, cond, ap, sym, refl, ◌∙◌}
use Rattle.std.specs.Map.{lookup}
use Rattle.pfc_hb.specs.contracts.objects.ThingPartialEq.TheImpl.{eq-value}
use Rattle.pfc_hb.specs.declared.objects.Thing.{Thing}
use Rattle.pfc_hb.specs.declared.objects.Thing.TheVariants.{Semaphore, Channel, Monitor, Resource, Owner}
use Rattle.pfc_hb.specs.Lasts.{last_place}
use Rattle.pfc_hb.specs.Order.{is_same_thing}
use Rattle.pfc_hb.proofs.LastLaws.{same_thing-sym}
use Rattle.pfc_hb.proofs.lasts.Lasts.put_thing.Goals as goal

-- `==` of objects is their test
equal : (a b : Thing) → eq-value.it a b ≡ is_same_thing a b
equal (Semaphore a) (Semaphore b) = refl
equal (Channel a) (Channel b) = refl
equal (Monitor a) (Monitor b) = refl
equal (Resource a) (Resource b) = refl
equal (Owner a) (Owner b) = refl
equal a b = refl

place-equal : (places : List (Thing × ℕ)) (thing : Thing) → lookup (eq-value.it thing) places ≡ last_place places thing
place-equal places thing = λ j. lookup (λ other. equal thing other j) places

pub returns : goal.returns
returns c = λ other.
    let before = c.args.self.now.places.entries in
    sym (place-equal c.insert.new.self.entries other)
    ∙ c.in_ok-insert.ensures.updates.0 other
    ∙ ap (λ (o : Option ℕ). cond (eq-value.it c.args.thing other) (Some c.args.place) o) (place-equal before other)
    ∙ ap (λ b. cond b (Some c.args.place) (last_place before other)) (equal c.args.thing other ∙ same_thing-sym c.args.thing other)
