-- What was added so far, and what is left to add, are all.
use Rattle.std.proofs.Common.{◌≡◌, ◌++◌, drop}
use Rattle.pfc_translation.specs.Objects.{all_labelled, names_labelled}
use Rattle.pfc_labels.specs.Processes.{infos}
use Rattle.pfc_labels.proofs.labels.add_names.Given as goal

abbrev pub invariant-loop-k : goal.invariant-loop-k
invariant-loop-k l =
    let all = all_labelled l.program.tables.types.now in
    l.all.items ++ infos l.program (names_labelled all (drop l.k l.names)) ≡ l.fn.all.items ++ infos l.program (names_labelled all l.names)
