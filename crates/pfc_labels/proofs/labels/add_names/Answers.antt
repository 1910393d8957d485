use Rattle.std.proofs.Common.{ℕ, ◌∙◌, ◌<◌, drop, subst, arith}
use Rattle.std.proofs.lemmas.List.{drop_all}
use Rattle.pfc_translation.specs.Objects.{all_labelled, process_info}
use Rattle.pfc_labels.specs.Processes.{known}
use Rattle.pfc_labels.proofs.Labelled.{names_next, names_done}
use Rattle.pfc_labels.proofs.labels.add_names.Goals as goal

pub loop-k-preserved : goal.loop-k-preserved
loop-k-preserved c =
    names_next (process_info (known c.args.program.now)) c.loop-k.all.items c.add_variable.new.all.items
    (all_labelled c.args.program.now.tables.types.now) c.args.names.now c.loop-k.k
    (subst (λ (n : ℕ). c.loop-k.k < n) c.len-k-end.ensures c.loop-k-test.true) c.in_ok-from.ensures
    ∙ c.loop-k.invariant

pub returns : goal.returns
returns c =
    names_done (process_info (known c.args.program.now)) c.loop-k.all.items
    (all_labelled c.args.program.now.tables.types.now) (drop c.loop-k.k c.args.names.now)
    (drop_all c.loop-k.k c.args.names.now (omega arith)) ∙ c.loop-k.invariant
