-- The end of children that only serve.
use Rattle.std.specs.Prelude.{◌≡◌, ℕ, zero, suc, ◌+◌, if◌then◌else◌, List, [], ◌∷◌, map, set, get_or}
use Rattle.pfc_program.specs.declared.tables.Tables.{Tables}
use Rattle.pfc_state.specs.Stands.{Stand, may_end}
use Rattle.pfc_store.specs.Views.{store_view}
use Rattle.pfc_semantics.specs.Configurations.{empty_hand}
use Rattle.pfc_semantics.specs.Store.{Store}
use Rattle.pfc_semantics.specs.Processes.{without_all}
use Rattle.pfc_activities.specs.declared.activities.Activity.{Activity}
use Rattle.pfc_activities.specs.declared.state.State.{State}
use Rattle.pfc_activities.specs.Shown.{Shown, activities_shown}

-- ## What is seen

-- a process that has no activation any more
abbrev pub ended_shown : Shown → Shown
ended_shown a = record a { display = []; activations = []; hand = empty_hand }

-- those that wait in a select with an open `terminate` have none
abbrev pub all_ended : List Stand → List Shown → List Shown
all_ended (stand ∷ rows) (a ∷ shown) = (if may_end stand then ended_shown a else a) ∷ all_ended rows shown
all_ended rows shown = shown

-- and their variables are gone
abbrev pub all_left : List Stand → List Shown → Store → Store
all_left (stand ∷ rows) (a ∷ shown) store = all_left rows shown (if may_end stand then without_all store a.activations else store)
all_left rows shown store = store

-- the same of those from a number on
abbrev pub ended_from : ℕ → List Stand → List Shown → List Shown
ended_from zero rows shown = all_ended rows shown
ended_from (suc n) (stand ∷ rows) (a ∷ shown) = a ∷ ended_from n rows shown
ended_from (suc n) rows shown = shown

abbrev pub left_from : ℕ → List Stand → List Shown → Store → Store
left_from zero rows shown store = all_left rows shown store
left_from (suc n) (stand ∷ rows) (a ∷ shown) store = left_from n rows shown store
left_from (suc n) rows shown store = store

-- ## States

abbrev pub lines_of : State → List ℕ
lines_of s = map (λ (a : Activity). a.line) s.activities.items

-- the process with this number has no activation any more
pub record EndsOne (old new : State) (p : ℕ) : Type 0 where
  pub activities : (t : Tables) (d : Shown)
      → activities_shown t new.activities.items
      ≡ set (activities_shown t old.activities.items) p (ended_shown (get_or (activities_shown t old.activities.items) p d))
  pub store : (t : Tables) (d : Shown) →
      store_view new.store ≡ without_all (store_view old.store) (get_or (activities_shown t old.activities.items) p d).activations
  pub lines : lines_of new ≡ lines_of old
  pub rest : new ≡ record old { activities = new.activities; store = new.store }

-- behind the process with this number those from the next one on are left to end
pub record EndsNext (old new : State) (p : ℕ) : Type 0 where
  pub activities : (t : Tables)
      → ended_from p old.world.rows (activities_shown t old.activities.items) ≡ ended_from (p + 1) old.world.rows (activities_shown t new.activities.items)
  pub store : (t : Tables)
      → left_from p old.world.rows (activities_shown t old.activities.items) (store_view old.store)
      ≡ left_from (p + 1) old.world.rows (activities_shown t new.activities.items) (store_view new.store)
  pub lines : lines_of new ≡ lines_of old
  pub rest : new ≡ record old { activities = new.activities; store = new.store }

-- all have ended that wait so
pub record EndsChildren (old new : State) : Type 0 where
  pub activities : (t : Tables) → activities_shown t new.activities.items ≡ all_ended old.world.rows (activities_shown t old.activities.items)
  pub store : (t : Tables) → store_view new.store ≡ all_left old.world.rows (activities_shown t old.activities.items) (store_view old.store)
  pub lines : lines_of new ≡ lines_of old
  pub rest : new ≡ record old { activities = new.activities; store = new.store }
