-- What is so wherever a run of a checked program comes and a process is about to act. It is told of the source text alone.
use Rattle.std.specs.Prelude.{ℕ, ◌≡◌, ◌≢◌, false, List, drop, All, Some}
use Rattle.std.specs.List.{slice_get}
use Rattle.pfc_world.specs.Holders.{holder_in}
use Rattle.pfc_world.specs.Partners.{is_empty_condition}
use Rattle.pfc_semantics.specs.Displays.{Spot}
use Rattle.pfc_semantics.specs.Programs.{Block, Program}
use Rattle.pfc_semantics.specs.Remainders.{Bar, Way, Scan, Action, leave, own, finishes, resumes, scans, bars, passes}
use Rattle.pfc_semantics.specs.Configurations.{of_monitor, of_resource, barred_at, Activation, Config, activity_of, number_for}
use Rattle.pfc_semantics.specs.Monitors.{monitor_of}
use Rattle.pfc_semantics.specs.Steps.{next_of}
use Rattle.pfc_translation.specs.Calls.{resource_of}
use Rattle.pfc_translation.specs.Images.{site_in}

-- ## Guards

-- The guard is of the resource in which its procedure stands: a call from outside and a requeue name a procedure of the resource itself.
abbrev pub IsOfItsBlock : Program → Bar → Type 0
IsOfItsBlock g bar = (b : Block) → slice_get g.blocks bar.procedure ≡ Some b → bar.resource ≡ resource_of (site_in g b)

-- Whoever is barred shows such a guard: nothing else is tried at the entry of a guarded procedure.
abbrev pub AreBarredAtTheirOwn : Program → Config → Type 0
AreBarredAtTheirOwn g c = (q : ℕ) (bar : Bar) → (activity_of g c q).hand ≡ barred_at bar → IsOfItsBlock g bar

-- ## Monitors and resources

-- The callers of the activation at hand have not entered the monitor. So it is of whoever acts, at all times: who is in a monitor and calls one of its
-- procedures from outside waits for what it holds itself, and nobody else hands that over.
abbrev pub AreOutside : ℕ → List Activation → Type 0
AreOutside n activations = All (λ (a : Activation). a.mark ≢ of_monitor n) (drop 1 activations)

-- Behind a return the scan is of the resource that was left: no activation that is still there has entered it, since who is in a resource and calls one of
-- its procedures from outside waits for what it holds itself. Behind a requeue the process is in the resource still.
abbrev pub HasLeft : Program → Config → ℕ → Scan → Way → Type 0
HasLeft g c p scan leave = All (λ (a : Activation). a.mark ≢ of_resource scan.resource) (activity_of g c p).activations
HasLeft g c p scan (own bar) = Unit {0}

-- Where somebody waits on the condition that a spot names, a child that acts holds its monitor. While main acts nobody waits.
abbrev pub HoldsToResume : Program → Config → ℕ → Spot → Type 0
HoldsToResume g c p v =
    p ≢ 0 → is_empty_condition c.table.rows (number_for g c p v) ≡ false → holder_in c.monitors (monitor_of g (number_for g c p v)) ≡ Some p

-- ## An action

-- what is so of the action of process p that comes next
abbrev pub IsByRules : Program → Config → ℕ → Action → Type 0
IsByRules g c p (finishes line) = (n : ℕ) (a : Activation) → slice_get (activity_of g c p).activations 0 ≡ Some a → a.mark ≡ of_monitor n
    → AreOutside n (activity_of g c p).activations
IsByRules g c p (resumes x v k) = HoldsToResume g c p v
IsByRules g c p (scans x scan k) = (x.line ≡ scan.line) × HasLeft g c p scan scan.way
IsByRules g c p (bars x bar k) = (x.env ≡ bar.context.env) × IsOfItsBlock g bar
IsByRules g c p (passes x whom scan k) = HasLeft g c p scan scan.way
IsByRules g c p n = Unit {0}

-- Process p, which is ready, is about to act.
pub record KeepsToRules (g : Program) (c : Config) (p : ℕ) : Type 0 where
  pub barred : AreBarredAtTheirOwn g c
  pub action : IsByRules g c p (next_of g c p)
