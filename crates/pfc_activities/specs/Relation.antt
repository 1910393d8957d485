-- What a state stands for, and what an action leaves.
use Rattle.std.specs.Prelude.{◌≡◌, ◌<◌, ◌*◌, ◌^◌, ℕ, List, [], ◌++◌, length, map, set, get_or, Option, Some, None, Ok, Err}
use Rattle.pfc_base.specs.declared.faults.RunFault.{RunFault}
use Rattle.pfc_pending.specs.declared.actions.Deed.{Deed}
use Rattle.pfc_pending.specs.declared.at_hand.At.{At}
use Rattle.pfc_state.specs.Stands.{Is_ready}
use Rattle.pfc_world.specs.Tables.{at}
use Rattle.pfc_world.specs.Tickets.{IsNew}
use Rattle.pfc_store.specs.Views.{store_view}
use Rattle.pfc_semantics.specs.Programs.{Program}
use Rattle.pfc_semantics.specs.Remainders.{Action}
use Rattle.pfc_semantics.specs.Rewriting.{Doing, next}
use Rattle.pfc_semantics.specs.Configurations.{Config, FaultAt, Hand, after, doing_next}
use Rattle.pfc_semantics.specs.Steps.{effect, line_of}
use Rattle.pfc_activities.specs.declared.activities.Activity.{Activity}
use Rattle.pfc_activities.specs.declared.activities.Doing.{Doing as HeldDoing}
use Rattle.pfc_activities.specs.declared.changes.Done.{Done}
use Rattle.pfc_activities.specs.declared.changes.Done.TheVariants.{Stepped, Faulted}
use Rattle.pfc_activities.specs.declared.source.Source.{Source}
use Rattle.pfc_activities.specs.declared.state.State.{State}
use Rattle.pfc_activities.specs.Programs.{IsProgram}
use Rattle.pfc_activities.specs.Views.{ahead_of, deed_of}
use Rattle.pfc_activities.specs.Shown.{Shown, shown, activity_shown, activities_shown}

-- ## A state and a configuration

-- All but the processes themselves is the same on both sides.
pub record Agrees (source : Source) (s : State) (c : Config) : Type 0 where
  pub table : s.world ≡ c.table
  pub counts : s.semaphores ≡ c.counts
  pub monitors : s.monitors.holders ≡ c.monitors
  pub resources : s.resources ≡ c.resources
  pub store : store_view s.store ≡ c.store
  pub input : s.input ≡ c.input
  pub words : s.draws ≡ c.words
  -- each process has its row, and each condition its monitor
  pub count : length s.activities.items ≡ length c.table.rows
  pub conditions : s.monitors.owners ≡ source.objects.conditions.items

-- between two actions nobody acts, nobody waits since the action that comes, and there was no fault
pub record IsQuiet (c : Config) : Type 0 where
  pub acting : c.table.acting ≡ None
  pub fresh : IsNew c.table.rows c.table.done
  pub sound : c.fault ≡ None

-- the state shows what the configuration shows
pub record Mirrors (source : Source) (s : State) (c : Config) : Type 0 where
  pub activities : map shown c.activities ≡ activities_shown source.program.tables s.activities.items
  pub agrees : Agrees source s c

-- the state stands for the configuration, between two actions
pub record Stands (source : Source) (s : State) (c : Config) : Type 0 where
  pub mirrors : Mirrors source s c
  pub quiet : IsQuiet c

-- the process with this number
pub record IsIn (activities : List Activity) (p : ℕ) (a : Activity) : Type 0 where
  pub within : p < length activities
  pub is : (d : Activity) → get_or activities p d ≡ a

-- what the process shows where this action comes next for it, and this is what it showed while it waited
abbrev pub shown_before : Source → Activity → Action → Hand → Shown
shown_before source a n hand = record (activity_shown source.program.tables a) { next = n; hand = hand }

-- The state shows what the configuration shows, but that process p, which is before this action there, had it taken from it here. What that
-- process showed while it waited, as one does whose select has timed out, nobody looks at any more: it is not compared.
pub record IsBefore (source : Source) (s : State) (c : Config) (p : ℕ) (a : Activity) (n : Action) : Type 0 where
  pub hand : Hand
  pub there : IsIn s.activities.items p a
  pub activities : map shown c.activities ≡ set (activities_shown source.program.tables s.activities.items) p (shown_before source a n hand)
  pub agrees : Agrees source s c

-- it stands for the configuration but for that
pub record IsAt (source : Source) (s : State) (c : Config) (p : ℕ) (a : Activity) (n : Action) : Type 0 where
  pub before : IsBefore source s c p a n
  pub quiet : IsQuiet c

-- the process may act, and there may be one more action
pub record MayAct (s : State) (p : ℕ) : Type 0 where
  pub within : p < length s.activities.items
  pub ready : at s.world.rows p ≡ Is_ready
  pub alone : s.world.acting ≡ None
  pub fresh : IsNew s.world.rows s.world.done
  pub done : s.world.done < 10 ^ 18
  pub moment : s.world.moment < 2 * 10 ^ 18

-- ## Behind an action

-- all but the processes and the table is as it was
pub record IsKept (old new : State) : Type 0 where
  pub semaphores : new.semaphores ≡ old.semaphores
  pub monitors : new.monitors ≡ old.monitors
  pub resources : new.resources ≡ old.resources
  pub store : new.store ≡ old.store
  pub input : new.input ≡ old.input
  pub draws : new.draws ≡ old.draws

-- what is told of a state that is not gone on from: how the processes stand, and their lines
pub record Reports (s : State) (c : Config) : Type 0 where
  pub table : s.world ≡ c.table
  pub acting : c.table.acting ≡ None
  pub lines : map (λ (a : Activity). a.line) s.activities.items ≡ map (λ a. a.line) c.activities

-- an action of process p tells the fault of the configuration, or that there is none
abbrev pub Tells : ℕ → Done → Option FaultAt → Type 0
Tells p Stepped fault = fault ≡ None
Tells p (Faulted line f) fault = fault ≡ Some (record { process = p; line = line; fault = f })

-- the configuration behind an action
abbrev pub behind : Program → Config → ℕ → ℕ → Action → Config
behind g c p choice n = after g c p (line_of n) (effect g c p choice n)

-- The action was done: the state stands for the configuration behind it, unless that is a fault, and these bytes were written.
pub record Ends (source : Source) (g : Program) (new : State) (c : Config) (p choice : ℕ) (n : Action) (bytes : List ℕ) (d : Done) : Type 0 where
  pub stands : d ≡ Stepped → Stands source new (behind g c p choice n)
  pub reports : Reports new (behind g c p choice n)
  pub tells : Tells p d (behind g c p choice n).fault
  pub output : (behind g c p choice n).output ≡ c.output ++ bytes

-- ## What performs an action

-- the process goes on with this at hand, whatever its action was before
abbrev pub GoesOn : State → State → ℕ → At → Done → Type 0
GoesOn old new p at d =
    (source : Source) (g : Program) (c k : Config) (choice : ℕ) (a : Activity) (n : Action) (doing : Doing) (bytes : List ℕ)
    → IsAt source old k p a n → effect g c p choice n ≡ Ok (doing_next g k p doing) → next doing ≡ ahead_of source.program.tables a.doing at
    → line_of n ≡ a.doing.line → k.output ≡ c.output ++ bytes → Ends source g new c p choice n bytes d

-- its action is this fault
abbrev pub IsFault : State → State → ℕ → RunFault → Done → Type 0
IsFault old new p f d =
    (source : Source) (g : Program) (c : Config) (choice : ℕ) (a : Activity) (n : Action)
    → IsAt source old c p a n → effect g c p choice n ≡ Err f → line_of n ≡ a.doing.line → Ends source g new c p choice n [] d

-- the process performs this action, over what is pending for it, and writes these bytes
abbrev pub Performs : Source → State → State → ℕ → Deed → List ℕ → Done → Type 0
Performs source old new p deed bytes d =
    (g : Program) (c : Config) (choice : ℕ) (a : Activity)
    → IsProgram source g → IsAt source old c p a (deed_of source.program.tables a.doing deed)
    → Ends source g new c p choice (deed_of source.program.tables a.doing deed) bytes d

-- where the source need not be known
abbrev pub IsPerformed : State → State → ℕ → Deed → List ℕ → Done → Type 0
IsPerformed old new p deed bytes d = (source : Source) → Performs source old new p deed bytes d

-- the same names are in view, and the same is pending, perhaps with more room
pub record IsSameDoing (old new : HeldDoing) : Type 0 where
  pub names : new.names ≡ old.names
  pub line : new.line ≡ old.line
  pub pending : new.pending.items ≡ old.pending.items

-- Nothing was done: where the process stood before its action, it still does, perhaps with more room.
abbrev pub StaysAt : State → State → ℕ → Type 0
StaysAt old new p =
    (source : Source) (c : Config) (a : Activity) (n : Action)
    → IsAt source old c p a n → (b : Activity) × IsAt source new c p b n × IsSameDoing a.doing b.doing
