-- When the machine has of a process what the source text has of it.
use Rattle.std.specs.Prelude.{ℕ, ◌≡◌, ◌≤◌, true, false, List, [], ◌∷◌, length, All, Some, None}
use Rattle.std.specs.List.{slice_get}
use Rattle.pfc_state.specs.Stands.{is_unfinished}
use Rattle.pfc_world.specs.Tables.{Table, at}
use Rattle.pfc_semantics.specs.Configurations.{Activation, Activity}
use Rattle.pfc_semantics.specs.Store.{Store}
use Rattle.pfc_stacks.specs.Refs.{word_of}
use Rattle.pfc_stacks.specs.Stacks.{Stacks, stack_of, last_activation}
use Rattle.pfc_cells.specs.Homes.{Homes}
use Rattle.pfc_cells.specs.Memory.{Entries}
use Rattle.pfc_machines.specs.declared.descriptors.Descriptor.{Descriptor}
use Rattle.pfc_representation.specs.Levels.{Facts, LivingLevel, is_met_by, IsSeenBy}
use Rattle.pfc_representation.specs.Rooms.{process_count, guards_room, own_address, MayMeet}
use Rattle.pfc_representation.specs.Callers.{IsWithin, AreCallers}
use Rattle.pfc_representation.specs.Hands.{HandIs}
use Rattle.pfc_representation.specs.Holding.{Holders, Holds}
use Rattle.pfc_representation.specs.Trials.{TrialIs}

-- ## Meetings

-- each caller waits in the meeting, and none is there twice
pub record AreMet (table : Table) (p : ℕ) (callers : List ℕ) : Type 0 where
  pub waiting : All (λ (q : ℕ). is_met_by (at table.rows q) p) callers
  pub once : (j k q : ℕ) → slice_get callers j ≡ Some q → slice_get callers k ≡ Some q → j ≡ k

-- ## A process

-- the living activations of one, of which the last is at this level, whatever is still to do there
pub record IsAtLevel (facts : Facts) (homes : Homes) (entries : Entries) (store : Store) (stacks : Stacks) (table : Table) (h : Holders) (p : ℕ) (a : Activity)
    (d : Descriptor) (level : LivingLevel) : Type 0 where
  pub count : d.activations ≡ length a.activations
  pub seen : IsSeenBy facts homes entries store table p d.communications.callers (entries p) (word_of (last_activation stacks p)) a.display level
  pub callers :
      AreCallers facts homes entries store table p (stack_of stacks p).room level (word_of (last_activation stacks p)) d.communications a.activations
      (entries p)
  pub room : level.setting.room ≤ (stack_of stacks p).room
  pub accepts : MayMeet (process_count facts) d.communications.room.meetings level.arms
  pub met : AreMet table p d.communications.callers
  pub holds : Holds h p (at table.rows p) level.setting.trial a.activations

-- one that has living activations
pub record IsUnderWay (facts : Facts) (homes : Homes) (entries : Entries) (store : Store) (stacks : Stacks) (table : Table) (h : Holders) (p : ℕ) (a : Activity)
    (d : Descriptor) : Type 0 where
  pub unfinished : is_unfinished (at table.rows p) ≡ true
  pub level : LivingLevel
  pub stands : IsAtLevel facts homes entries store stacks table h p a d level
  pub within : IsWithin facts level (own_address level.setting.trial (stack_of stacks p).at) d.communications
  pub hand : HandIs facts homes table entries p level (stack_of stacks p).at (stack_of stacks p).operands d (at table.rows p) a.doing a.hand
  pub trial : TrialIs level.setting.trial facts homes entries store stacks table p level a.activations d

-- one that has none: it was never activated, or it has finished
pub record IsAtRest (entries : Entries) (table : Table) (p : ℕ) (d : Descriptor) : Type 0 where
  pub none : entries p ≡ []
  pub scan : d.scan ≡ None
  pub finished : is_unfinished (at table.rows p) ≡ false

abbrev pub ActivationsAre : List Activation → Facts → Homes → Entries → Store → Stacks → Table → Holders → ℕ → Activity → Descriptor → Type 0
ActivationsAre [] facts homes entries store stacks table h p a d = IsAtRest entries table p d
ActivationsAre (x ∷ xs) facts homes entries store stacks table h p a d = IsUnderWay facts homes entries store stacks table h p a d

pub record RepresentsProcess (facts : Facts) (homes : Homes) (entries : Entries) (store : Store) (stacks : Stacks) (table : Table) (h : Holders) (p : ℕ)
    (a : Activity) (d : Descriptor) : Type 0 where
  pub line : d.line ≡ a.line
  pub spare : (stack_of stacks p).spare ≡ guards_room facts
  pub activations : ActivationsAre a.activations facts homes entries store stacks table h p a d
