-- The alternative that a select takes, on both sides.
use Rattle.std.proofs.Common.{◌≡◌, ℕ, List, [], ◌∷◌, length, get_or, Option, None, refl, sym, ap, ap₂, ◌∙◌}
use Rattle.std.specs.Borrow.{Bor}
use Rattle.std.specs.Prelude.{option_map, slice_get, if◌then◌else◌}
use Rattle.pfc_state.specs.declared.waits.Arm.{Arm}
use Rattle.pfc_sched.specs.Picks.{Picking}
use Rattle.pfc_world.specs.Selects.{matched}
use Rattle.pfc_world.specs.Tables.{Table}
use Rattle.pfc_store.specs.Views.{store_view}
use Rattle.pfc_semantics.specs.Store.{Store}
use Rattle.pfc_semantics.specs.Displays.{Display}
use Rattle.pfc_semantics.specs.Programs.{Program}
use Rattle.pfc_semantics.specs.Remainders as remainders
use Rattle.pfc_semantics.specs.Remainders.{Action}
use Rattle.pfc_semantics.specs.Configurations.{Config, activity_of}
use Rattle.pfc_semantics.specs.Channels.{arms_of_all, listed_arm}
use Rattle.pfc_semantics.specs.Runs.{choice_among}
use Rattle.pfc_semantics.specs.Selects.{matched_places, open_at, place_taken}
use Rattle.pfc_pending.specs.Selects.{open_view, opens_view, select_view}
use Rattle.pfc_pending.specs.declared.select.Open.{Open}
use Rattle.pfc_pending.specs.declared.select.Selecting.{Selecting}
use Rattle.pfc_activities.specs.declared.activities.Activity.{Activity}
use Rattle.pfc_activities.specs.declared.source.Source.{Source}
use Rattle.pfc_activities.specs.declared.state.State.{State}
use Rattle.pfc_activities.specs.Relation.{IsBefore}
use Rattle.pfc_activities.proofs.Acting.{display_is}
use Rattle.pfc_meeting.specs.Opens.{arms_in}
use Rattle.pfc_meeting.proofs.Sides.{arm_is}
use Rattle.pfc_events.specs.Choosing.{IsTaken}

-- none of no alternatives
pub none_of : (l : List ℕ) (n k : ℕ) → n ≡ length l → n ≡ 0 → None ≡ slice_get l k
none_of [] n k h z = refl
none_of (x ∷ l) n k h z = absurd (let no : length (x ∷ l) ≡ 0 = sym h ∙ z in cc)

arms_are : (g : Program) (c : Config) (p : ℕ) (os : List remainders.Open) → arms_of_all g c p os ≡ arms_in c.store (activity_of g c p).display os
arms_are g c p [] = refl
arms_are g c p (o ∷ os) = ap₂ listed_arm (arm_is g c p o.offer) (arms_are g c p os)

module _ (source : Source) (g : Program) (s : State) (c : Config) (p : ℕ) (a own : Activity) (n : Action) (select : Selecting) (arms : List Arm)
    (before : IsBefore source s c p a n) (is : own ≡ get_or s.activities.items p own) (held : arms ≡ arms_in (store_view s.store) own.display
    (opens_view select.offered.items)) where
  places_are : matched s.world.rows p arms ≡ matched_places g c p (select_view select)
  places_are =
      ap (matched s.world.rows p)
      (held ∙ ap (λ (k : Store). arms_in k own.display (opens_view select.offered.items)) before.agrees.store
      ∙ ap (λ (d : Display). arms_in c.store d (opens_view select.offered.items))
      (ap (λ (x : Activity). x.display) (is ∙ before.there.is own) ∙ sym (display_is source g s c p a n before))
      ∙ sym (arms_are g c p (opens_view select.offered.items)))
      ∙ ap (λ (w : Table). matched w.rows p (arms_of_all g c p (opens_view select.offered.items))) before.agrees.table

-- the place that was found among the matched ones
abbrev pub place_in : List ℕ → Selecting → Picking → Option ℕ
place_in places select picking = slice_get places (place_taken select.pri (choice_among picking (if select.pri then 0 else length places)))

pub taken_so :
    (s : State) (p : ℕ) (own : Activity) (select : Selecting) (arms : List Arm) (picking : Picking) (place : Option ℕ) (taken : Option (Bor Open))
    → own ≡ get_or s.activities.items p own → arms ≡ arms_in (store_view s.store) own.display (opens_view select.offered.items)
    → place ≡ place_in (matched s.world.rows p arms) select picking
    → option_map (λ o. open_view o.now) taken ≡ open_at (opens_view select.offered.items) place → IsTaken s p select picking taken
taken_so s p own select arms picking place taken is held found opens source g c a n before =
    opens ∙ ap (open_at (opens_view select.offered.items)) found
    ∙ ap (λ (l : List ℕ). open_at (opens_view select.offered.items) (place_in l select picking))
    (places_are source g s c p a own n select arms before is held)
