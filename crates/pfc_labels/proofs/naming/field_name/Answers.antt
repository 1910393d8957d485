use Rattle.std.proofs.Common.{sym, ◌∙◌}
use Rattle.pfc_labels.proofs.Found.{found}
use Rattle.pfc_labels.proofs.naming.field_name.Goals as goal

pub returns-then-place-i : goal.returns-then-place-i
returns-then-place-i c = λ d.
    found c.in-Name.name c.args.fields.now c.in-Some.place c.args.i d (sym c.position.ensures ∙ c.in-Some.is) c.if-place-i.true
