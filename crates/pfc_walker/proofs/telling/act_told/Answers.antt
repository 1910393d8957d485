use Rattle.std.proofs.Common.{IfOk, subst, sym}
use Rattle.std.proofs.lemmas.Result.{IfOk-weaker}
use Rattle.pfc_walker.specs.Telling.{IsActTold}
use Rattle.pfc_walker.specs.declared.telling.Told.{Told}
use Rattle.pfc_walker.proofs.Acted.{told_printed}
use Rattle.pfc_walker.proofs.telling.act_told.Goals as goal

pub returns-in-Output-clause-ok : goal.returns-in-Output-clause-ok
returns-in-Output-clause-ok c =
    subst
    (λ (t : Told). IfOk c.act.result
    (λ done. IsActTold t c.args.source.now c.args.state.now c.act.new.state c.args.p c.args.picker.now c.act.new.picker c.args.out.now c.act.new.out done))
    (sym c.in-Output.is)
    (IfOk-weaker c.act.result _ _
    (λ done acted. told_printed c.args.source.now c.args.state.now c.act.new.state c.args.p c.args.picker.now c.act.new.picker
    c.args.out.now c.act.new.out done acted)
    c.act.ensures.ok)
