-- What is done with a block of the image.
use Rattle.std.proofs.Common.{◌≡◌, ℕ, zero, suc, ◌<◌, List, [], ◌∷◌, length, Option, Some, Result, Ok, Err, refl, sym, subst, arith}
use Rattle.std.specs.List.{slice_get}
use Rattle.pfc_code.specs.declared.images.Block.{Block}
use Rattle.pfc_machines.specs.declared.actions.ActionFault.{ActionFault}
use Rattle.pfc_machines.specs.declared.actions.ActionFault.TheVariants.{Fault, Memory}
use Rattle.pfc_machines.specs.declared.machine.Machine.{Machine}
use Rattle.pfc_machines.specs.Actions.{Effect, IsTaken}
use Rattle.pfc_call_actions.specs.Calls.{IsGranted}
use Rattle.pfc_machine_acts.specs.Performing.{with_block}

there : (blocks : List Block) (k : ℕ) → k < length blocks → (b : Block) × (slice_get blocks k ≡ Some b)
there [] k within = absurd (omega (arith, within))
there (b ∷ blocks) zero within = (b, refl)
there (b ∷ blocks) (suc k) within = there blocks k (omega (arith, within))

granted_is_taken : (e : Effect) (old new : Machine) (result : Result Unit ActionFault) → IsGranted e old result new → IsTaken e old result new
granted_is_taken e old new (Ok u) h = h
granted_is_taken e old new (Err (Fault f)) h = h
granted_is_taken e old new (Err Memory) h = h.1

pub taken_with :
    (blocks : List Block) (k : ℕ) (does : Block → Effect) (old new : Machine) (result : Result Unit ActionFault)
    → k < length blocks → ((b : Block) → slice_get blocks k ≡ Some b → IsTaken (does b) old result new)
    → IsTaken (with_block (slice_get blocks k) old does) old result new
taken_with blocks k does old new result within each =
    let (b, is) = there blocks k within in
    subst (λ (o : Option Block). IsTaken (with_block o old does) old result new) (sym is) (each b is)

pub granted_with :
    (blocks : List Block) (k : ℕ) (does : Block → Effect) (old new : Machine) (result : Result Unit ActionFault)
    → k < length blocks → ((b : Block) → slice_get blocks k ≡ Some b → IsGranted (does b) old result new)
    → IsTaken (with_block (slice_get blocks k) old does) old result new
granted_with blocks k does old new result within each =
    taken_with blocks k does old new result within (λ b is. granted_is_taken (does b) old new result (each b is))
