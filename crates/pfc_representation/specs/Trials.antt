-- What the machine has of the scan in which a process is.
use Rattle.std.specs.Prelude.{ℕ, ◌+◌, ◌≡◌, ◌≤◌, Bool, true, false, List, [], ◌∷◌, Some, None}
use Rattle.std.specs.List.{slice_get}
use Rattle.pfc_code.specs.declared.images.Block.{Block as CodeBlock}
use Rattle.pfc_state.specs.Stands.{Waits}
use Rattle.pfc_state.specs.declared.waits.Why.TheVariants.{Barred}
use Rattle.pfc_world.specs.Tables.{Table, at}
use Rattle.pfc_semantics.specs.Displays.{Display}
use Rattle.pfc_semantics.specs.Remainders.{Way, leave, own, Scan}
use Rattle.pfc_semantics.specs.Configurations.{Mark, plain, of_resource, Activation}
use Rattle.pfc_semantics.specs.Store.{Store}
use Rattle.pfc_translation.specs.Images.{image_of}
use Rattle.pfc_stacks.specs.Refs.{word_of}
use Rattle.pfc_stacks.specs.Stacks.{Stack, Stacks, stack_of, last_activation}
use Rattle.pfc_cells.specs.Homes.{Homes}
use Rattle.pfc_cells.specs.Memory.{Entries}
use Rattle.pfc_machines.specs.declared.descriptors.Descriptor.{Descriptor}
use Rattle.pfc_machines.specs.declared.descriptors.Scan.{Scan as MachineScan}
use Rattle.pfc_standing_code.specs.Settings.{Trial, Attempt, of_own, of_turn, of_another}
use Rattle.pfc_call_laws.specs.Around.{ShowsAround}
use Rattle.pfc_representation.specs.Levels.{Facts, program_in, LivingLevel, block_of, room_of, IsBlockAt, SeesWith}
use Rattle.pfc_representation.specs.Rooms.{guards_room}

abbrev pub is_own : Way → Bool
is_own leave = false
is_own (own bar) = true

-- before a turn
abbrev pub next_turn : ℕ → Scan → MachineScan
next_turn back scan = record { back = back; after = scan.after; tried = None; requeued = is_own scan.way }

-- the mark of the innermost activation
abbrev pub mark_of : List Activation → Mark
mark_of [] = plain
mark_of (a ∷ below) = a.mark

-- Behind a requeue the own guard comes, of the same resource: the process goes on at the beginning of its procedure.
abbrev pub WayIs : Facts → LivingLevel → List Activation → ℕ → Scan → Way → Type 0
WayIs facts level activations back scan leave = Unit {0}
WayIs facts level activations back scan (own bar) =
    (bar.resource ≡ scan.resource) × (mark_of activations ≡ of_resource scan.resource)
    × ((k : ℕ) (c : CodeBlock) → IsBlockAt (program_in facts) (image_of facts.tree).blocks k (block_of level) c → back ≡ c.entry)

-- While a process tries the guard of another, it stands in the code of that one's procedure, counts static links from that one's last activation, and sees
-- what that one sees; there is room for the guard over what it holds itself.
pub record TriesAnother (facts : Facts) (homes : Homes) (entries : Entries) (store : Store) (stacks : Stacks) (table : Table) (p : ℕ) (level : LivingLevel)
    (attempt : Attempt) (activations : List Activation) (d : Descriptor) : Type 0 where
  pub from : (stack_of stacks p).looks_from ≡ Some attempt.whom.process
  pub barred : at table.rows attempt.whom.process ≡ Waits (Barred attempt.scan.resource attempt.whom.bar.procedure) attempt.whom.ticket []
  pub procedure : slice_get (program_in facts).blocks attempt.whom.bar.procedure ≡ Some level.setting.block
  pub turn : slice_get (image_of facts.tree).scans attempt.scan.resource ≡ Some attempt.turn
  pub scan : d.scan ≡ Some (record {
    back = attempt.back;
    after = Some attempt.whom.ticket;
    tried = Some attempt.whom.process;
    requeued = is_own attempt.scan.way;
  })
  pub way : WayIs facts level activations attempt.back attempt.scan attempt.scan.way
  pub room : level.setting.room ≤ room_of level + guards_room facts
  pub lenders : List ℕ
  pub display : Display
  pub sees :
      SeesWith facts homes entries store table attempt.whom.process lenders (entries attempt.whom.process)
      (word_of (last_activation stacks attempt.whom.process)) display level.setting level.setting.block level.setting.accepts level.setting.view
  pub around : ShowsAround (program_in facts) level.setting.block display

abbrev pub TrialIs : Trial → Facts → Homes → Entries → Store → Stacks → Table → ℕ → LivingLevel → List Activation → Descriptor → Type 0
TrialIs of_own facts homes entries store stacks table p level activations d = ((stack_of stacks p).looks_from ≡ None) × (d.scan ≡ None)
TrialIs (of_turn scan back) facts homes entries store stacks table p level activations d =
    ((stack_of stacks p).looks_from ≡ None) × (d.scan ≡ Some (next_turn back scan)) × WayIs facts level activations back scan scan.way
TrialIs (of_another attempt) facts homes entries store stacks table p level activations d =
    TriesAnother facts homes entries store stacks table p level attempt activations d

-- Behind the false guard of another the machine is before the next turn already, and the source text still in the trial.
abbrev pub HasTried : Trial → Facts → Stack → LivingLevel → List Activation → Descriptor → Type 0
HasTried of_own facts s level activations d = ⊥
HasTried (of_turn scan back) facts s level activations d = ⊥
HasTried (of_another attempt) facts s level activations d =
    (s.looks_from ≡ None) × (d.scan ≡ Some (next_turn attempt.back (record attempt.scan { after = Some attempt.whom.ticket })))
    × (slice_get (image_of facts.tree).scans attempt.scan.resource ≡ Some attempt.turn)
    × WayIs facts level activations attempt.back attempt.scan attempt.scan.way

-- its code is there then
abbrev pub IsAtTurn : Trial → ℕ → Type 0
IsAtTurn of_own at = ⊥
IsAtTurn (of_turn scan back) at = ⊥
IsAtTurn (of_another attempt) at = at ≡ attempt.turn
