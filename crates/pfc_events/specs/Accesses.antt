-- The variables that an action reads or writes.
use Rattle.std.specs.Prelude.{◌≡◌, ℕ, Bool, List, [], ◌∷◌}
use Rattle.pfc_hb.specs.declared.accesses.Access.{Access as AccessSeen}
use Rattle.pfc_sched.specs.Picks.{Picking}
use Rattle.pfc_store.specs.Views.{spot_view}
use Rattle.pfc_store.specs.declared.spots.Spot.{Spot as HeldSpot}
use Rattle.pfc_semantics.specs.Programs.{Program}
use Rattle.pfc_semantics.specs.Remainders.{Action, Context, Remainder, decides}
use Rattle.pfc_semantics.specs.Configurations.{Config, location_for}
use Rattle.pfc_semantics.specs.Events.{accesses_of, call_writes}
use Rattle.pfc_semantics.specs.Runs.{choice_among}
use Rattle.pfc_semantics.specs.Selects.{choices}
use Rattle.pfc_races.specs.Seen.{accesses_seen}
use Rattle.pfc_pending.specs.Selects.{select_view}
use Rattle.pfc_pending.specs.Waiting.{Waiting, callee_view, given_view}
use Rattle.pfc_pending.specs.declared.actions.Deed.{Deed}
use Rattle.pfc_pending.specs.declared.pending.Argument.{Argument}
use Rattle.pfc_pending.specs.declared.pending.Callee.{Callee}
use Rattle.pfc_pending.specs.declared.select.Selecting.{Selecting}
use Rattle.pfc_activities.specs.declared.activities.Activity.{Activity}
use Rattle.pfc_activities.specs.declared.source.Source.{Source}
use Rattle.pfc_activities.specs.declared.state.State.{State}
use Rattle.pfc_activities.specs.Relation.{IsBefore}
use Rattle.pfc_activities.specs.Views.{deed_of}
use Rattle.pfc_events.specs.Held.{access_to}

-- the one access of the variable of a spot of process p
abbrev pub IsTouched : State → ℕ → HeldSpot → Bool → List AccessSeen → Type 0
IsTouched s p spot write accesses =
    (source : Source) (g : Program) (c : Config) (a : Activity) (n : Action)
    → IsBefore source s c p a n → accesses ≡ access_to write (location_for g c p (spot_view spot)) ∷ []

-- what a call writes
abbrev pub AreCalledBy : State → ℕ → Callee → List Argument → List AccessSeen → Type 0
AreCalledBy s p callee args accesses =
    (source : Source) (g : Program) (c : Config) (a : Activity) (n : Action) (w : Waiting)
    → IsBefore source s c p a n → accesses ≡ accesses_seen (call_writes g c p (callee_view w callee) (given_view args))

-- what a select writes, with the choice that the picker makes
abbrev pub AreDecided : State → ℕ → Selecting → Picking → List AccessSeen → Type 0
AreDecided s p select picking accesses =
    (source : Source) (g : Program) (c : Config) (a : Activity) (n : Action) (x : Context) (k : Remainder)
    → IsBefore source s c p a n
    → accesses ≡ accesses_seen (accesses_of g c p (choice_among picking (choices g c p (decides x (select_view select) k))) (decides x (select_view select) k))

-- what this action of process p reads or writes
abbrev pub AreAccesses : State → ℕ → Deed → Picking → List AccessSeen → Type 0
AreAccesses s p deed picking accesses =
    (source : Source) (g : Program) (c : Config) (a : Activity)
    → IsBefore source s c p a (deed_of source.program.tables a.doing deed)
    → accesses
    ≡ accesses_seen
    (accesses_of g c p (choice_among picking (choices g c p (deed_of source.program.tables a.doing deed))) (deed_of source.program.tables a.doing deed))
