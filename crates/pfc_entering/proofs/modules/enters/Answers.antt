use Rattle.std.proofs.Common.{sym, ap, ◌∙◌}
use Rattle.std.proofs.lemmas.Result.{IfOk-weaker}
use Rattle.pfc_types.specs.declared.heads.ModuleHead.{ModuleHead}
use Rattle.pfc_entering.proofs.Entering.{enters_as_resource, enters_as_monitor}
use Rattle.pfc_entering.proofs.modules.enters.Goals as goal

pub returns-then-module-clause-ok : goal.returns-then-module-clause-ok
returns-then-module-clause-ok c =
    IfOk-weaker c.enters_resource.result _ _
    (λ d enters.
    enters_as_resource c.args.source.now c.args.state.now c.enters_resource.new.state c.args.p c.args.n c.module_number-number.result c.args.scope
    c.args.args.now d (ap (λ (h : ModuleHead). h.resource) (sym c.module.ensures) ∙ c.if-module.true) c.module_number-number.ensures enters)
    c.enters_resource.ensures.ok

pub returns-clause-ok : goal.returns-clause-ok
returns-clause-ok c =
    IfOk-weaker c.enters_monitor.result _ _
    (λ d enters.
    enters_as_monitor c.args.source.now c.args.state.now c.enters_monitor.new.state c.args.p c.args.n c.module_number-number.result c.args.scope
    c.args.args.now d (ap (λ (h : ModuleHead). h.resource) (sym c.module.ensures) ∙ c.if-module.false) c.module_number-number.ensures enters)
    c.enters_monitor.ensures.ok
