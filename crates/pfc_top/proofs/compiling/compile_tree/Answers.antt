use Rattle.std.proofs.Common.{rules, subst, sym}
use Rattle.pfc_base.specs.declared.faults.Refusal.{Refusal}
use Rattle.pfc_tree.specs.declared.tree.Tree.{Tree}
use Rattle.pfc_tree.specs.views.Parts.{tree_view}
use Rattle.pfc_number_laws.specs.Written.{FitsTree}
use Rattle.pfc_types.specs.Checking.{IsChecked}
use Rattle.pfc_top.specs.Compiling.{IsWithout}
use Rattle.pfc_top.specs.declared.compiling.Uncompiled.TheVariants.{Refused}
use Rattle.pfc_top.proofs.Images.{static_refusal}
use Rattle.pfc_top.proofs.compiling.compile_tree.Goals as goal

pub compile_checked-requires-clause-checked : goal.compile_checked-requires-clause-checked
compile_checked-requires-clause-checked c =
    subst (λ (t : Tree). IsChecked (tree_view t) c.in-Ok.checked.1 c.in-Ok.checked.2) (sym c.in-Ok.ensures.tree) c.in-Ok.ensures.checked

pub compile_checked-requires-clause-fits : goal.compile_checked-requires-clause-fits
compile_checked-requires-clause-fits c = subst (λ (t : Tree). FitsTree (tree_view t)) (sym c.in-Ok.ensures.tree) c.requires.fits

pub returns-in-Err-Refused-clause-none : goal.returns-in-Err-Refused-clause-none
returns-in-Err-Refused-clause-none c =
    subst (λ (r : Refusal). IsWithout (tree_view c.args.tree) (Refused r)) (sym c.in-Err-Refused.refusal-is)
    (static_refusal (tree_view c.args.tree) c.in-Err-Refused.refusal (search rules))
