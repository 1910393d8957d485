use Rattle.std.proofs.Common.{◌≡◌, ◌-◌, List, length, Option, sym, ap, ◌∙◌, subst}
use Rattle.std.specs.Prelude.{is_some, slice_get}
use Rattle.std.specs.Option.{option_copied}
use Rattle.pfc_semantics.specs.Remainders.{Remainder}
use Rattle.pfc_semantics.specs.Rewriting.{from_remainder}
use Rattle.pfc_pending.specs.Waiting.{waiting}
use Rattle.pfc_pending.specs.declared.pending.Pending.{Pending}
use Rattle.pfc_statement_steps.specs.declared.begins.Resumed.{Resumed}
use Rattle.pfc_rewriting.proofs.Sorts.{unresumed}
use Rattle.pfc_rewriting.proofs.Waiting.{over_below}
use Rattle.pfc_rewriting.proofs.going.Going.end_plain.Goals as goal

pub returns-in-Ok-Some : goal.returns-in-Ok-Some
returns-in-Ok-Some c = λ t env.
    let ps = c.args.self.now.pending.items in
    let last = subst (λ (xs : List Pending). option_copied c.last.result ≡ slice_get xs (length xs - 1)) c.deref.ensures.value c.last.ensures.value in
    let comes = rw c.in-Ok-Some.field-0-is at c.in-Ok-Some.ensures.value in
    c.take_up.ensures t env ∙ over_below t env ps c.last.result c.args.part c.in-Ok-Some.resumed last (comes t env)

pub returns-in-Ok-None : goal.returns-in-Ok-None
returns-in-Ok-None c = λ t env.
    c.put_end.ensures t env
    ∙ sym (ap (λ (k : Remainder). from_remainder env k)
    (unresumed t (waiting t c.args.self.now.pending.items) c.args.part c.requires.plain
    (sym c.in-Ok-None.ensures.taken ∙ ap (λ (o : Option Resumed). is_some o) c.in-Ok-None.field-0-is)))
