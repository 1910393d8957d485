use Rattle.std.proofs.Common.{◌≡◌, ℕ, Bool, ◌+◌, ◌<◌, length, take, sym, ap, subst, arith}
use Rattle.std.specs.Prelude.{if◌then◌else◌}
use Rattle.pfc_semantics.specs.Layouts.{laid_names}
use Rattle.pfc_store.proofs.InView.{laid_more}
use Rattle.pfc_store.proofs.displays.laid_count.Goals as goal
use Rattle.pfc_store.proofs.displays.laid_count.Goals.{then-is_variable, else-is_variable}

pub loop-k-preserved : goal.loop-k-preserved
loop-k-preserved c =
    let names = c.at-scope.result.now in
    let next = laid_more names c.loop-k.k c.meaning_at.result (subst (λ n. c.loop-k.k < n) c.len-k-end.ensures c.loop-k-test.true) c.meaning_at.ensures in
    let one = ap {B = ℕ} (λ (b : Bool). if b then 1 else 0) (sym c.is_variable.ensures) in
    elim c.if-is_variable.branch [
      | then-is_variable w ↦
          let yes = ap {B = ℕ} (λ (b : Bool). if b then 1 else 0) w.if-is_variable.true in
          let whole : c.if-is_variable.count ≡ length (laid_names (take (c.loop-k.k + 1) names)) =
          omega (arith, next, one, yes, w.count-is, c.loop-k.invariant.0) in
          (whole, omega (arith, w.count-is, c.loop-k.invariant.1))
      | else-is_variable w ↦
          let no = ap {B = ℕ} (λ (b : Bool). if b then 1 else 0) w.if-is_variable.false in
          let whole : c.if-is_variable.count ≡ length (laid_names (take (c.loop-k.k + 1) names)) =
          omega (arith, next, one, no, w.count-is, c.loop-k.invariant.0) in
          (whole, omega (arith, w.count-is, c.loop-k.invariant.1))
    ]
