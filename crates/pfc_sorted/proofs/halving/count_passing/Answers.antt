use Rattle.std.proofs.Common.{◌≤◌, length, arith, refl, sym, ap, ◌∙◌, subst}
use Rattle.std.specs.Fn.{ComputesKey}
use Rattle.std.proofs.lemmas.Fn.{called}
use Rattle.pfc_sorted.proofs.Pieces.{found-in_front, found-in_back}
use Rattle.pfc_sorted.proofs.Calls.{next}
use Rattle.pfc_sorted.proofs.halving.count_passing.Goals.{in_default-via-in-Some+else-passes, in_default-via-in_default}
use Rattle.pfc_sorted.proofs.halving.count_passing.Goals as goal

pub returns-in-Some : goal.returns-in-Some
returns-in-Some g c p h parts =
    let n = next g.P.FnMut p _ _ _ _ h (called g.P.FnMut c.if-passes.ensures refl) in
    found-in_back p c.args.sorted.now.items c.as_slices.result.0.now c.as_slices.result.1.now c.partition_point-among.result 0 c.as_slices.ensures.items parts
    c.partition_point-among.ensures.bound (λ q. c.partition_point-among.ensures.partitioned p n.1 q) c.in-Some.ensures.item.3.0
    (ap p (sym (c.in-Some.ensures.item.3.1 0)) ∙ sym n.0)

pub returns-in_default : goal.returns-in_default
returns-in_default g c p h parts =
    elim c.in_default.branch [
      | in_default-via-in-Some+else-passes w ↦
          let n = next g.P.FnMut p _ _ _ _ h (called g.P.FnMut w.if-passes.ensures refl) in
          found-in_front p c.args.sorted.now.items c.as_slices.result.0.now c.as_slices.result.1.now c.partition_point.result 0 c.as_slices.ensures.items parts
          c.partition_point.ensures.bound (λ q. c.partition_point.ensures.partitioned p (subst (λ f. ComputesKey g.P.FnMut p f) (sym w.passes-is) n.1) q)
          (λ some. ap p (sym (w.in-Some.ensures.item.3.1 0)) ∙ sym n.0)
      | in_default-via-in_default w ↦
          let none : length c.as_slices.result.1.now ≤ 0 = w.in_default.ensures.item.3 in
          found-in_front p c.args.sorted.now.items c.as_slices.result.0.now c.as_slices.result.1.now c.partition_point.result 0 c.as_slices.ensures.items parts
          c.partition_point.ensures.bound (λ q. c.partition_point.ensures.partitioned p (subst (λ f. ComputesKey g.P.FnMut p f) (sym w.passes-is) h) q)
          (λ some. absurd (omega (arith, none, some)))
    ]
