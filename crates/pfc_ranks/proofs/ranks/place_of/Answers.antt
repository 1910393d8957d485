use Rattle.std.proofs.Common.{◌≡◌, ◌-◌, ◌≤◌, length, get_or, arith, sym, ap, ◌∙◌, subst}
use Rattle.pfc_sorted.specs.Sorted.{passes, IsParted}
use Rattle.pfc_sorted.proofs.Searches.{all-pass, nobody-parted}
use Rattle.pfc_ranks.specs.Delays.{is_before}
use Rattle.pfc_ranks.proofs.Parts.{parted-before}
use Rattle.pfc_ranks.proofs.ranks.place_of.Goals.{in_default-via-in-Some+else-not-comes_before, in_default-via-in_default}
use Rattle.pfc_ranks.proofs.ranks.place_of.Goals as goal

pub returns-in_default : goal.returns-in_default
returns-in_default c =
    let long : c.args.sorted.now.len ≡ length c.args.sorted.now.items = c.args.sorted.now.ok.0 in
    subst (λ n. IsParted (passes (λ p other. is_before other c.args.delay) c.args.delays.now) c.args.sorted.now.items n) (sym (c.len.ensures ∙ long))
    (elim c.in_default.branch [
      | in_default-via-in-Some+else-not-comes_before w ↦
          all-pass (passes (λ p other. is_before other c.args.delay) c.args.delays.now) c.args.sorted.now.items w.in-Some.last.now
          (parted-before c.args.sorted.now.items c.args.delays.now c.args.delay c.requires)
          (ap (λ n. passes (λ p other. is_before other c.args.delay) c.args.delays.now (get_or c.args.sorted.now.items (n - 1) w.in-Some.last.now)) (sym long)
          ∙ ap (passes (λ p other. is_before other c.args.delay) c.args.delays.now) (sym w.in-Some.ensures.lookup) ∙
          sym w.comes_before.ensures ∙ w.if-not-comes_before.false)
      | in_default-via-in_default w ↦
          let none : length c.args.sorted.now.items ≤ 0 = w.in_default.ensures.item.3 in
          nobody-parted (passes (λ p other. is_before other c.args.delay) c.args.delays.now) c.args.sorted.now.items
          (length c.args.sorted.now.items) none (omega arith)
    ])
