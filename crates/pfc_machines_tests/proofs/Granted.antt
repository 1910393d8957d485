-- That nobody acts behind a call, granted or refused.
use Rattle.std.proofs.Common.{◌≡◌, ℕ, ◌<◌, Bool, true, false, List, length, Option, None, Some, Result, Ok, Err, inl, inr, refl, sym, ap, ◌∙◌, arith}
use Rattle.std.specs.List.{slice_get}
use Rattle.std.proofs.lemmas.Option.{slice_get_cases}
use Rattle.pfc_code.specs.declared.images.Block.{Block}
use Rattle.pfc_machines.specs.declared.actions.ActionFault.{ActionFault}
use Rattle.pfc_machines.specs.declared.actions.ActionFault.TheVariants.{Fault, Memory}
use Rattle.pfc_machines.specs.declared.machine.Machine.{Machine}
use Rattle.pfc_machines.specs.Actions.{Effect}
use Rattle.pfc_object_actions.specs.Conditions.{monitors_held, with_monitors}
use Rattle.pfc_stacks.specs.declared.marks.Mark.TheVariants.{Plain, Monitor, Resource}
use Rattle.pfc_stacks.specs.Activations.{has_place, main_link}
use Rattle.pfc_stacks.specs.Stacks.{stack_of, in_view}
use Rattle.pfc_world.specs.Monitors.{entered as monitor_entered}
use Rattle.pfc_world.specs.Resources.{resource_entered}
use Rattle.pfc_call_actions.specs.Calls.{activated, unless_full, has_place_above, resources_held, with_resources, IsGranted}
use Rattle.pfc_call_actions.specs.Calls.{calls, calls_monitor, calls_resource}
use Rattle.pfc_call_actions.specs.Requeues.{in_place, requeues}
use Rattle.pfc_call_actions.specs.Returns.{scans_from}

pub block_there : (blocks : List Block) (k : ℕ) → k < length blocks → (b : Block) × (slice_get blocks k ≡ Some b)
block_there blocks k h = elim (slice_get_cases blocks k).1 [ inl x ↦ (x.0, x.2) | inr y ↦ absurd (omega (arith, h, y.0)) ]

abbrev acting_in : Effect → Option ℕ
acting_in (Ok m) = m.world.acting
acting_in (Err f) = None

nobody : (placed : Bool) (next : Machine) → acting_in (unless_full placed next) ≡ None
nobody true next = refl
nobody false next = refl

pub granted_rests : (e : Effect) (old new : Machine) (r : Result (Unit {0}) ActionFault) → acting_in e ≡ None → IsGranted e old r new → new.world.acting ≡ None
granted_rests e old new (Ok u) rests h = ap acting_in (sym h) ∙ rests
granted_rests e old new (Err (Fault f)) rests h = ap (λ (m : Machine). m.world.acting) h.1
granted_rests e old new (Err Memory) rests h = ap (λ (m : Machine). m.world.acting) h.1

module _ (k : ℕ) (b : Block) (p : ℕ) (m : Machine) where
  pub calls_rest : (l : ℕ) → acting_in (calls k b l p m) ≡ None
  calls_rest l = nobody (has_place_above b p m) (activated k b (in_view m.stacks p l) Plain p m)

  pub calls_monitor_rest : (n : ℕ) → acting_in (calls_monitor n k b p m) ≡ None
  calls_monitor_rest n =
      let inside : Machine = activated k b main_link (Monitor n) p m in
      nobody (has_place_above b p m) (with_monitors inside (monitor_entered (monitors_held inside) p n))

  pub calls_resource_rest : (g : ℕ) → acting_in (calls_resource g k b p m) ≡ None
  calls_resource_rest g =
      let inside : Machine = activated k b main_link (Resource g) p m in
      nobody (has_place_above b p m) (with_resources inside (resource_entered (resources_held inside) p g))

  pub requeues_rest : (scan : ℕ) → acting_in (requeues scan k b p m) ≡ None
  requeues_rest scan = nobody (has_place p (stack_of m.stacks p).base b) (scans_from scan true p (in_place k b p m))
