-- Where runs may come by picks they come by steps of some processes; so what holds there for any of these holds of runs by picks.
use Rattle.std.proofs.Common.{◌≡◌, ℕ, List, []}
use Rattle.pfc_tree.specs.trees.Parts.{ProgramTree}
use Rattle.pfc_tree.specs.forget.Parts.{forget_program}
use Rattle.pfc_tree.specs.lawful.Parts.{IsLawful}
use Rattle.pfc_types.specs.rules.Whole.{broken}
use Rattle.pfc_semantics.specs.Programs.{Program, program_of}
use Rattle.pfc_semantics.specs.Remainders.{Action, initials, delays}
use Rattle.pfc_semantics.specs.Configurations.{Config, start}
use Rattle.pfc_semantics.specs.Runs.{choice_among}
use Rattle.pfc_semantics.specs.Steps.{next_of}
use Rattle.pfc_semantics.specs.Time.{settled_config}
use Rattle.pfc_representation.specs.Acting.{TakesNumber}
use Rattle.pfc_run_agreement.specs.Agreement.{picking_behind, choices_of}
use Rattle.pfc_simulation.specs.Reached.{IsReached, at_first, one_further}
use Rattle.pfc_number_laws.specs.Written.{FitsTree}
use Rattle.pfc_run_invariants.specs.Inputs.{AreBytes}
use Rattle.pfc_number_laws.specs.Runs.{ComesTo, TakesSmall, acts}
use Rattle.pfc_number_laws.specs.Runs as steps
use Rattle.pfc_number_laws.proofs.Few.{few}
use Rattle.pfc_number_laws.proofs.Programs.{program_fits}
use Rattle.pfc_number_laws.proofs.Runs.{starts_small, numbers_are_small}

pub comes_so : (g : Program) (first c : Config) → IsReached g first c → ComesTo g first c
comes_so g first _ at_first = steps.at_first
comes_so g first _ (one_further c picking p before on) =
    acts c p (choice_among (picking_behind picking c) (choices_of g c p)) (comes_so g first c before)

takes_so : (n : Action) → TakesSmall n → TakesNumber n
takes_so (initials x s n k) small = small
takes_so (delays x s n k) small = small
takes_so n small = tt

pub checked_take :
    (t : ProgramTree) (input : List ℕ) (seed : ℕ) → IsLawful (forget_program t) → broken t ≡ [] → FitsTree t → AreBytes input
    → (c : Config) (p : ℕ) → IsReached (program_of t) (start (program_of t) input seed) c → TakesNumber (next_of (program_of t) (settled_config c) p)
checked_take t input seed lawful whole small bytes c p reached =
    let g = program_of t in
    let first = start g input seed in
    let program = program_fits t small (few t lawful whole) in
    takes_so (next_of g (settled_config c) p)
    (numbers_are_small g program first c (starts_small g program input seed bytes) (comes_so g first c reached) p)
