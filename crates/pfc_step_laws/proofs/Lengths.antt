-- A quiet run is no longer than what is ahead of its address, and nowhere in the code of a program is much ahead.
use Rattle.std.proofs.Common.{ℕ, zero, suc, ◌*◌, ◌≤◌, List, [], ◌∷◌, get_or, All, arith}
use Rattle.pfc_tree.specs.trees.Parts.{ProgramTree}
use Rattle.pfc_types.specs.rules.Whole.{finished}
use Rattle.pfc_code.specs.declared.instructions.Instr.{Instr}
use Rattle.pfc_translation.specs.Images.{image_of}
use Rattle.pfc_machines.specs.declared.machine.Machine.{Machine}
use Rattle.pfc_machine_acts.specs.Running.{QuietRun}
use Rattle.pfc_stacks.specs.Stacks.{stack_of}
use Rattle.pfc_image_laws.specs.Instructions.{Each}
use Rattle.pfc_image_laws.specs.Layouts.{LaidOut}
use Rattle.pfc_image_numbers.specs.Numbers.{AreThere, IsUnruled}
use Rattle.pfc_step_laws.specs.Nodes.{largest_body}
use Rattle.pfc_step_laws.proofs.Ahead.{ahead}
use Rattle.pfc_step_laws.proofs.Images.{image_is_short}
use Rattle.pfc_step_laws.proofs.Leading.{leads_ahead}
use Rattle.pfc_step_laws.proofs.Machines.{short}

-- nor at any other address, where nothing is
everywhere : (most : ℕ) (counts : List ℕ) (a : ℕ) → All (λ x. x ≤ most) counts → get_or counts a 0 ≤ most
everywhere most [] a all = omega arith
everywhere most (x ∷ counts) zero all = all 0 0 (omega arith)
everywhere most (x ∷ counts) (suc a) all = everywhere most counts a (λ k d h. all (suc k) d (omega (arith, h)))

pub quiet_is_short : (t : ProgramTree) → LaidOut (image_of t) 0 0 (image_of t).blocks (image_of t).scans (image_of t).code
    → Each (λ (at : ℕ) (i : Instr). IsUnruled i → AreThere (image_of t) (finished t) at i) 0 (image_of t).code
    → (p n : ℕ) (m m' : Machine) → QuietRun (image_of t) p n m m' → n ≤ 2 * largest_body t
quiet_is_short t laid numbers p n m m' run =
    let within = short (image_of t) (leads_ahead t laid numbers) p n m m' run in
    let few = everywhere (2 * largest_body t) (ahead 0 (image_of t).code []) (stack_of m.stacks p).at (image_is_short t) in
    omega (arith, within, few)
