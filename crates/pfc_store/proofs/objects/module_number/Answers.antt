use Rattle.std.proofs.Common.{◌≡◌, ◌∙◌, ℕ, Bool, ◌+◌, ◌<◌, length, take, min, sym, ap, arith}
use Rattle.std.specs.Prelude.{if◌then◌else◌}
use Rattle.std.proofs.lemmas.List.{take_min}
use Rattle.pfc_types.specs.Blocks.{no_module}
use Rattle.pfc_types.specs.declared.heads.ModuleHead.{ModuleHead}
use Rattle.pfc_semantics.specs.Objects.{of_kind}
use Rattle.pfc_store.proofs.Counting.{kind_next}
use Rattle.pfc_store.proofs.objects.module_number.Goals as goal
use Rattle.pfc_store.proofs.objects.module_number.Goals.{then-is_of_kind, else-is_of_kind}

pub loop-k-preserved : goal.loop-k-preserved
loop-k-preserved c =
    let modules = c.args.scopes.now.modules in
    let resource = c.module-resource.result.resource in
    let below : c.loop-k.k < length modules = omega (arith, c.loop-k-test.true, c.min-k-end.ensures, c.modules.ensures) in
    let next = kind_next resource modules c.loop-k.k c.module.result no_module below c.module.ensures in
    let one = ap {B = ℕ} (λ (b : Bool). if b then 1 else 0) (sym c.is_of_kind.ensures) in
    elim c.if-is_of_kind.branch [
      | then-is_of_kind w ↦
          let yes = ap {B = ℕ} (λ (b : Bool). if b then 1 else 0) w.if-is_of_kind.true in
          let whole : c.if-is_of_kind.count ≡ of_kind resource (take (c.loop-k.k + 1) modules) =
          omega (arith, next, one, yes, w.count-is, c.loop-k.invariant.0) in
          (whole, omega (arith, w.count-is, c.loop-k.invariant.1))
      | else-is_of_kind w ↦
          let no = ap {B = ℕ} (λ (b : Bool). if b then 1 else 0) w.if-is_of_kind.false in
          let whole : c.if-is_of_kind.count ≡ of_kind resource (take (c.loop-k.k + 1) modules) =
          omega (arith, next, one, no, w.count-is, c.loop-k.invariant.0) in
          (whole, omega (arith, w.count-is, c.loop-k.invariant.1))
    ]

pub returns : goal.returns
returns c =
    let modules = c.args.scopes.now.modules in
    let resource = c.module-resource.result.resource in
    let all : c.loop-k.k ≡ min c.args.n (length modules) = omega (arith, c.loop-k-test.false, c.loop-k.auto.k-end, c.min-k-end.ensures, c.modules.ensures) in
    c.loop-k.invariant.0
    ∙ ap (λ k. of_kind resource (take k modules)) all
    ∙ ap (of_kind resource) (take_min c.args.n modules)
    ∙ ap (λ (m : ModuleHead). of_kind m.resource (take c.args.n modules)) c.module-resource.ensures
