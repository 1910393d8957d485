-- The alternative that a select takes.
use Rattle.std.specs.Prelude.{◌≡◌, ℕ, length, slice_get, Option, option_map, if◌then◌else◌}
use Rattle.std.specs.Borrow.{Bor}
use Rattle.pfc_sched.specs.Picks.{Picking}
use Rattle.pfc_semantics.specs.Programs.{Program}
use Rattle.pfc_semantics.specs.Remainders.{Action}
use Rattle.pfc_semantics.specs.Configurations.{Config}
use Rattle.pfc_semantics.specs.Runs.{choice_among}
use Rattle.pfc_semantics.specs.Selects.{matched_places, open_at, place_taken}
use Rattle.pfc_pending.specs.Selects.{open_view, select_view}
use Rattle.pfc_pending.specs.declared.select.Open.{Open}
use Rattle.pfc_pending.specs.declared.select.Selecting.{Selecting}
use Rattle.pfc_activities.specs.declared.activities.Activity.{Activity}
use Rattle.pfc_activities.specs.declared.source.Source.{Source}
use Rattle.pfc_activities.specs.declared.state.State.{State}
use Rattle.pfc_activities.specs.Relation.{IsBefore}

-- how many alternatives there are to choose among: none with `pri`
abbrev pub choices_in : Program → Config → ℕ → Selecting → ℕ
choices_in g c p s = if s.pri then 0 else length (matched_places g c p (select_view s))

-- the process takes this one, with the choice that the picker makes
abbrev pub IsTaken : State → ℕ → Selecting → Picking → Option (Bor Open) → Type 0
IsTaken s p select picking taken =
    (source : Source) (g : Program) (c : Config) (a : Activity) (n : Action)
    → IsBefore source s c p a n
    → option_map (λ o. open_view o.now) taken
    ≡ open_at (select_view select).offered (slice_get (matched_places g c p (select_view select))
    (place_taken select.pri (choice_among picking (choices_in g c p select))))
