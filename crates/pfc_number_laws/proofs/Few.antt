-- A program in which no static rule is broken has few objects: those of main's block take cells of it, and processes are at most 1,023.
use Rattle.std.proofs.Common.{◌≡◌, ℕ, [], length, ap, ◌∙◌, arith}
use Rattle.std.proofs.lemmas.List.{length-map}
use Rattle.pfc_tree.specs.Symbols.{Text}
use Rattle.pfc_tree.specs.trees.Parts.{ProgramTree}
use Rattle.pfc_tree.specs.forget.Parts.{forget_program}
use Rattle.pfc_tree.specs.lawful.Parts.{IsLawful}
use Rattle.pfc_types.specs.Scopes.{scope_at}
use Rattle.pfc_types.specs.rules.Whole.{finished, broken, types_of}
use Rattle.pfc_name_laws.proofs.Numbers.{none_noted}
use Rattle.pfc_semantics.specs.Programs.{program_of}
use Rattle.pfc_translation.specs.Objects.{all_labelled, names_labelled, process_info}
use Rattle.pfc_object_laws.proofs.Mains.{processes_are}
use Rattle.pfc_main_names.proofs.Cells.{few_cells}
use Rattle.pfc_main_names.proofs.Conditions.{few_objects}
use Rattle.pfc_main_names.proofs.Few.{few_processes}
use Rattle.pfc_main_names.proofs.Mains.{are_of_main}
use Rattle.pfc_number_laws.specs.Objects.{AreFew}

pub few : (t : ProgramTree) → IsLawful (forget_program t) → broken t ≡ [] → AreFew (program_of t).objects
few t lawful whole =
    let cells = few_cells t lawful (none_noted t whole) in
    let objects = few_objects t lawful in
    let images = few_processes t lawful whole in
    let labels = names_labelled (all_labelled (types_of t)) (scope_at (finished t).blocks.scopes 0) in
    let same : length (program_of t).objects.processes ≡ length labels =
    ap length (processes_are t (are_of_main t lawful)) ∙ length-map labels (λ (p : ℕ × Text). p.0) in
    let listed = length-map labels (λ (p : ℕ × Text). process_info (program_of t) p) in
    record {
      semaphores = omega (arith, cells, objects);
      channels = omega (arith, cells, objects);
      conditions = omega (arith, cells, objects);
      processes = omega (arith, images, same, listed);
    }
