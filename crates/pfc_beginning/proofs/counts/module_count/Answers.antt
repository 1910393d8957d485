use Rattle.std.proofs.Common.{◌≡◌, ◌∙◌, ℕ, Bool, ◌+◌, ◌<◌, length, take, sym, ap, arith}
use Rattle.std.specs.Prelude.{if◌then◌else◌}
use Rattle.pfc_types.specs.Blocks.{no_module}
use Rattle.pfc_semantics.specs.Objects.{of_kind}
use Rattle.pfc_store.proofs.Counting.{kind_next}
use Rattle.pfc_beginning.proofs.counts.module_count.Goals as goal
use Rattle.pfc_beginning.proofs.counts.module_count.Goals.{then-is_of_kind, else-is_of_kind}

pub loop-k-preserved : goal.loop-k-preserved
loop-k-preserved c =
    let modules = c.args.scopes.now.modules in
    let resource = c.args.resource in
    let below : c.loop-k.k < length modules = omega (arith, c.loop-k-test.true, c.modules-k-end.ensures) in
    let next = kind_next resource modules c.loop-k.k c.module.result no_module below c.module.ensures in
    let one = ap {B = ℕ} (λ (b : Bool). if b then 1 else 0) (sym c.is_of_kind.ensures) in
    elim c.if-is_of_kind.branch [
      | then-is_of_kind w ↦
          let yes = ap {B = ℕ} (λ (b : Bool). if b then 1 else 0) w.if-is_of_kind.true in
          let whole : c.if-is_of_kind.count ≡ of_kind resource (take (c.loop-k.k + 1) modules) =
          omega (arith, next, one, yes, w.count-is, c.loop-k.invariant.0) in
          (whole, omega (arith, w.count-is, c.loop-k.invariant.1))
      | else-is_of_kind w ↦
          let no = ap {B = ℕ} (λ (b : Bool). if b then 1 else 0) w.if-is_of_kind.false in
          let whole : c.if-is_of_kind.count ≡ of_kind resource (take (c.loop-k.k + 1) modules) =
          omega (arith, next, one, no, w.count-is, c.loop-k.invariant.0) in
          (whole, omega (arith, w.count-is, c.loop-k.invariant.1))
    ]
