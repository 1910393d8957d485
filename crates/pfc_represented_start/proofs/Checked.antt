-- A checked program starts represented: what the start asks of a tree holds of each in which no rule is broken.
use Rattle.std.proofs.Common.{◌≡◌, ℕ, ◌≤◌, nat_le, Bool, true, false, if◌then◌else◌, List, [], ◌++◌, length, Option, Some, None, refl, ap₂, arith}
use Rattle.std.proofs.lemmas.Bool.Decides.{nat_tests}
use Rattle.pfc_base.specs.declared.faults.Refusal.{Refusal}
use Rattle.pfc_tree.specs.trees.Parts.{ProgramTree}
use Rattle.pfc_tree.specs.forget.Parts.{forget_program}
use Rattle.pfc_tree.specs.lawful.Parts.{IsLawful}
use Rattle.pfc_types.specs.Faults.{Faults, none, one, ◌⨾◌, listed, is_before, lesser, least_from}
use Rattle.pfc_types.specs.rules.Whole.{broken, first_fault, faults_of}
use Rattle.pfc_name_laws.proofs.Numbers.{none_noted}
use Rattle.pfc_semantics.specs.Programs.{program_of}
use Rattle.pfc_semantics.specs.Configurations.{start}
use Rattle.pfc_translation.specs.Images.{image_of}
use Rattle.pfc_machines.specs.Machines.{start_machine, CanStart}
use Rattle.pfc_representation.specs.Machines.{Represents}
use Rattle.pfc_main_names.proofs.Mains.{are_of_main}
use Rattle.pfc_main_names.proofs.Cells.{few_cells}
use Rattle.pfc_main_names.proofs.Few.{few_processes}
use Rattle.pfc_main_names.proofs.Conditions.{conditions_have_monitors, few_conditions}
use Rattle.pfc_main_names.proofs.Scans.{few_scans}
use Rattle.pfc_represented_start.specs.Starts.{start_facts}
use Rattle.pfc_represented_start.proofs.Whole.{start_represented}

-- ## No first fault

some_found : (f : Refusal) (best : Option Refusal) → lesser f best ≡ None → ⊥
some_found f None e = absurd (cc)
some_found f (Some g) e = by (is_before f g) e
  where
    by : (b : Bool) → (if b then Some f else Some g) ≡ None → ⊥
    by true h = absurd (cc)
    by false h = absurd (cc)

least_none : (fs : Faults) (best : Option Refusal) → least_from 0 best fs ≡ None → (best ≡ None) × (listed fs ≡ [])
least_none none best e = (e, refl)
least_none (one f) best e = by (nat_le 0 f.code) refl e
  where
    by : (b : Bool) → nat_le 0 f.code ≡ b → (if b then lesser f best else best) ≡ None → (best ≡ None) × (listed (one f) ≡ [])
    by true h found = absurd (some_found f best found)
    by false h found = absurd (grind (arith, nat_tests, h))
least_none (fs ⨾ gs) best e =
    let behind = least_none gs (least_from 0 best fs) e in
    let before = least_none fs best behind.0 in
    (before.0, ap₂ (λ (a b : List Refusal). a ++ b) before.1 behind.1)

-- where there is no first fault, no rule is broken
pub none_broken : (t : ProgramTree) → first_fault t ≡ None → broken t ≡ []
none_broken t e = (least_none (faults_of t) None e).1

-- ## The start

pub checked_start : (t : ProgramTree) (input : List ℕ) (seed : ℕ) → IsLawful (forget_program t) → broken t ≡ [] → length (image_of t).code ≤ 200000
    → Represents (start_facts t) (start_machine (image_of t) input seed) (start (program_of t) input seed)
checked_start t input seed lawful whole short =
    let cells = few_cells t lawful (none_noted t whole) in
    start_represented t lawful whole (are_of_main t lawful) (few_processes t lawful whole) (omega (arith, cells)) (omega (arith, short)) input seed

pub can_start : (t : ProgramTree) → IsLawful (forget_program t) → broken t ≡ [] → length (image_of t).code ≤ 200000 → CanStart (image_of t)
can_start t lawful whole short =
    let cells = few_cells t lawful (none_noted t whole) in
    let conditions = few_conditions t lawful in
    let scans = few_scans t in
    record {
      main = omega arith;
      few = few_processes t lawful whole;
      owners = conditions_have_monitors t lawful;
      conditions = omega (arith, cells, conditions);
      resources = omega (arith, scans, short);
    }
