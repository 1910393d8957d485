-- Which of the open alternatives is taken.
use Rattle.std.specs.Prelude.{◌≡◌, ℕ, List, Some, slice_get, Ok}
use Rattle.pfc_state.specs.declared.waits.Arm.{Arm}
use Rattle.pfc_state.specs.Stands.{Stand}
use Rattle.pfc_world.specs.Partners.{partner}
use Rattle.pfc_world.specs.Selects.{matched, communicated_with}
use Rattle.pfc_store.specs.Views.{store_view}
use Rattle.pfc_semantics.specs.Remainders.{Context, Remainder}
use Rattle.pfc_semantics.specs.Selects.{communicates_by, takes_matched}
use Rattle.pfc_semantics.specs.Programs.{Program}
use Rattle.pfc_semantics.specs.Configurations.{Config, Effect, with_table}
use Rattle.pfc_pending.specs.Selects.{offer_view, open_view, opens_view, select_view}
use Rattle.pfc_pending.specs.declared.select.Open.{Open}
use Rattle.pfc_pending.specs.declared.select.Selecting.{Selecting}
use Rattle.pfc_activities.specs.declared.activities.Activity.{Activity}
use Rattle.pfc_activities.specs.declared.state.State.{State}
use Rattle.pfc_activities.specs.Relation.{IsIn}
use Rattle.pfc_meeting.specs.Opens.{arms_in}
use Rattle.pfc_deciding.specs.declared.matching.Matched.{Matched}

-- these are the alternatives of the process that communicate, as the table has them
abbrev pub AreArms : State → ℕ → List Open → List Arm → Type 0
AreArms s p os arms = (a : Activity) → IsIn s.activities.items p a → arms ≡ arms_in (store_view s.store) a.display (opens_view os)

-- the k-th matched alternative of process p, at its place, and whom it meets
pub record IsMatched (rows : List Stand) (p : ℕ) (arms : List Arm) (k : ℕ) (m : Matched) : Type 0 where
  pub kth : slice_get (matched rows p arms) k ≡ Some m.place
  pub own : slice_get arms m.place ≡ Some m.arm
  pub meets : partner rows p m.arm ≡ Some m.partner

-- an alternative is taken that is open to this, with this partner
abbrev pub takes_open_in : Open → Matched → ℕ → Program → Config → Context → Remainder → Effect
takes_open_in o m p g c x k =
    Ok (with_table (communicates_by g c p x (open_view o) k m.partner (offer_view o.offer) (Some m.arm)) (communicated_with (Some m.partner) c.table p m.arm))

-- the matched alternative at a place is taken
abbrev pub takes_in : Selecting → ℕ → ℕ → Program → Config → Context → Remainder → Effect
takes_in s place p g c x k = Ok (takes_matched g c p x (select_view s) k place)
