-- What a process waits for, and what it offers.
use Rattle.std.specs.Prelude.{ℕ, ◌≡◌, List, [], ◌∷◌, take, Option, None, Some}
use Rattle.pfc_state.specs.declared.waits.Arm.{Arm}
use Rattle.pfc_state.specs.declared.waits.Arm.TheVariants.{Send as To, Receive as From, Accept as Entry}
use Rattle.pfc_state.specs.declared.waits.Why.TheVariants.{Send, Receive, Accept, Select}
use Rattle.pfc_state.specs.Stands.{Stand, Waits}
use Rattle.pfc_world.specs.Tables.{at}
use Rattle.pfc_machines.specs.declared.machine.Machine.{Machine}
use Rattle.pfc_machines.specs.Descriptors.{descriptor_of}
use Rattle.pfc_machines.specs.Offers.{arms_of}

-- the arms that are open by a standing in the table; None where it waits for no partner
abbrev pub waited_arms : Stand → Option (List Arm)
waited_arms (Waits (Send c) ticket arms) = Some (To c ∷ [])
waited_arms (Waits (Receive c) ticket arms) = Some (From c ∷ [])
waited_arms (Waits (Accept e) ticket arms) = Some (Entry e ∷ [])
waited_arms (Waits (Select due terminate) ticket arms) = Some arms
waited_arms stand = None

-- those that a process offers by its descriptor
abbrev pub offered_arms : Machine → ℕ → List Arm
offered_arms m q = let d = descriptor_of m.descriptors q in arms_of (take d.offered d.communications.alternatives)

-- it offers what it waits for
abbrev pub Agrees : Machine → ℕ → Type 0
Agrees m q = (arms : List Arm) → waited_arms (at m.world.rows q) ≡ Some arms → offered_arms m q ≡ arms
