-- Actions on guarded resources, by their kinds, and what runs of checked programs say of guards.
use Rattle.std.specs.Prelude.{ℕ, ◌≡◌, ◌≢◌, All, Some}
use Rattle.std.specs.List.{slice_get}
use Rattle.pfc_semantics.specs.Programs.{Block, Program}
use Rattle.pfc_semantics.specs.Remainders.{Bar, Way, Scan, Action, leave, own, bars}
use Rattle.pfc_semantics.specs.Configurations.{of_resource, barred_at, Activation, Config, activity_of}
use Rattle.pfc_translation.specs.Calls.{resource_of}
use Rattle.pfc_translation.specs.Images.{site_in}
use Rattle.pfc_representation.specs.Levels.{Facts, program_in, LivingLevel}

-- The guard is of the resource in which its procedure stands: a call from outside and a requeue name a procedure of the resource itself.
abbrev pub IsOfItsBlock : Program → Bar → Type 0
IsOfItsBlock g bar = (b : Block) → slice_get g.blocks bar.procedure ≡ Some b → bar.resource ≡ resource_of (site_in g b)

-- Whoever is barred shows such a guard: nothing else is tried at the entry of a guarded procedure.
abbrev pub AreBarredAtTheirOwn : Facts → Config → Type 0
AreBarredAtTheirOwn facts c =
    let g = program_in facts in (q : ℕ) (bar : Bar) → (activity_of g c q).hand ≡ barred_at bar → IsOfItsBlock g bar

-- Behind a return the scan is of the resource that was left: no activation that is still there has entered it, since nothing that is called from inside a
-- resource calls one of its procedures from outside. Behind a requeue the process is in the resource still.
abbrev pub HasLeft : Facts → Config → ℕ → Scan → Way → Type 0
HasLeft facts c p scan leave =
    All (λ (a : Activation). a.mark ≢ of_resource scan.resource) (activity_of (program_in facts) c p).activations
HasLeft facts c p scan (own bar) = Unit {0}

-- a false guard of the own procedure
abbrev pub IsBarring : LivingLevel → Action → Type 0
IsBarring level (bars x bar k) = IsOfItsBlock level.setting.program bar
IsBarring level n = ⊥
