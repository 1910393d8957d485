use Rattle.std.proofs.Common.{◌∙◌, rules}
use Rattle.std.proofs.lemmas.Int.{to_z-of_z}
use Rattle.std.specs.Int.{w32}
use Rattle.std.specs.Prelude.{FitsSigned}
use Rattle.pfc_check.proofs.Labels.{look_up}
use Rattle.pfc_check.proofs.stmts.Labels.hold.Goals as goal

pub returns : goal.returns
returns c =
    let fits : FitsSigned w32 c.args.c.value = search rules in
    (simp to_z-of_z at c.contains.ensures) ∙ look_up (c.args.c.t.place, c.args.c.value) c.args.self.now.seen.keys
