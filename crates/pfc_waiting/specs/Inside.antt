-- Whether a process is inside a monitor.
use Rattle.std.specs.Prelude.{◌≡◌, ℕ, Bool, List}
use Rattle.std.specs.List.{list_any}
use Rattle.pfc_semantics.specs.Monitors.{is_in}
use Rattle.pfc_activities.specs.declared.activities.Activation.{Activation}
use Rattle.pfc_activities.specs.declared.activities.Activity.{Activity}
use Rattle.pfc_activities.specs.declared.state.State.{State}
use Rattle.pfc_activities.specs.Relation.{IsIn}
use Rattle.pfc_activities.specs.Views.{mark_view}

-- one of these is marked with the monitor
abbrev pub is_held_in : ℕ → List Activation → Bool
is_held_in m activations = list_any (λ (a : Activation). is_in m (mark_view a.mark)) activations

-- process p is inside the monitor or not
abbrev pub IsInside : State → ℕ → ℕ → Bool → Type 0
IsInside s p m inside = (a : Activity) → IsIn s.activities.items p a → inside ≡ is_held_in m a.activations.items
