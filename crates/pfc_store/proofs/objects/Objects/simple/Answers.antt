use Rattle.std.proofs.Common.{◌≡◌, ◌∙◌, Bool, IfOk, sym, ap, subst}
use Rattle.std.specs.Prelude.{if◌then◌else◌}
use Rattle.pfc_semantics.specs.Objects.{Numbering, a_semaphore, a_condition}
use Rattle.pfc_store.specs.Numbered.{objects_view, numbered}
use Rattle.pfc_store.proofs.Counting.{unknown, simple_numbering, by_held, value_with}
use Rattle.pfc_store.proofs.objects.Objects.simple.Goals as goal

pub returns-then-held : goal.returns-then-held
returns-then-held c =
    let made = simple_numbering c.args.types.now c.args.t c.requires ∙ ap by_held (sym c.held-held.ensures.value)
    ∙ ap (λ (b : Bool). if b then a_semaphore else (if c.held-held.result.conditions then a_condition else unknown)) c.if-held.true in
    subst (λ (f : Numbering). IfOk c.semaphore.result (λ v. f c.args.monitor (objects_view c.args.self.now) ≡ numbered v c.semaphore.new.self))
    (sym made) c.semaphore.ensures

pub returns-then-held-2 : goal.returns-then-held-2
returns-then-held-2 c =
    let made = simple_numbering c.args.types.now c.args.t c.requires ∙ ap by_held (sym c.held-held.ensures.value)
    ∙ ap (λ (b : Bool). if b then a_semaphore else (if c.held-held.result.conditions then a_condition else unknown)) c.if-held.false
    ∙ ap (λ (b : Bool). if b then a_condition else unknown) c.if-held-2.true in
    subst (λ (f : Numbering). IfOk c.condition.result (λ v. f c.args.monitor (objects_view c.args.self.now) ≡ numbered v c.condition.new.self))
    (sym made) c.condition.ensures

pub returns-else-held-2 : goal.returns-else-held-2
returns-else-held-2 c =
    let o = objects_view c.args.self.now in
    let made = simple_numbering c.args.types.now c.args.t c.requires ∙ ap by_held (sym c.held-held.ensures.value)
    ∙ ap (λ (b : Bool). if b then a_semaphore else (if c.held-held.result.conditions then a_condition else unknown)) c.if-held.false
    ∙ ap (λ (b : Bool). if b then a_condition else unknown) c.if-held-2.false in
    ap (λ (f : Numbering). f c.args.monitor o) made ∙ ap (λ v. value_with v o) (sym c.of.ensures)
