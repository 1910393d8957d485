use Rattle.std.proofs.Common.{◌∙◌, rules, map, ap}
use Rattle.std.proofs.lemmas.Int.{to_z-of_z}
use Rattle.std.specs.Int.{w32}
use Rattle.std.specs.Prelude.{FitsSigned}
use Rattle.pfc_check.proofs.Labels.{added}
use Rattle.pfc_check.specs.States.{label_view}
use Rattle.pfc_check.proofs.stmts.Labels.push.Goals as goal

pub returns : goal.returns
returns c =
    let fits : FitsSigned w32 c.args.c.value = search rules in
    ap (map label_view) (simp to_z-of_z at c.in_ok-insert.ensures.keys) ∙ added (c.args.c.t.place, c.args.c.value) c.args.self.now.seen.keys c.requires
