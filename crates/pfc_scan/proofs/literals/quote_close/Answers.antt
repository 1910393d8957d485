use Rattle.std.proofs.Common.{arith}
use Rattle.pfc_scan.proofs.Quotes.{searched_start, searched_first, searched_second, searched_other}
use Rattle.pfc_scan.proofs.literals.quote_close.Goals as goal
use Rattle.pfc_scan.proofs.literals.quote_close.Goals.{in-39, in-39-2, in_default+else-is_after_quote-2}

pub loop-at-init : goal.loop-at-init
loop-at-init c = searched_start c.args.text.now

pub loop-at-preserved : goal.loop-at-preserved
loop-at-preserved c =
    elim c.match-b.branch [
      | in-39 w ↦ rw (w.closed-is, w.is_after_quote-is) (searched_second _ _ _ _ c.loop-at-test.true c.loop-at.invariant w.if-is_after_quote.true w.in-39.is)
      | in-39-2 w ↦ rw (w.closed-is, w.is_after_quote-is) (searched_first _ _ _ _ c.loop-at-test.true c.loop-at.invariant w.if-is_after_quote.false w.in-39.is)
      | in_default+else-is_after_quote-2 w ↦ rw (w.closed-is, w.is_after_quote-is)
          (searched_other _ _ _ _ c.loop-at-test.true c.loop-at.invariant w.if-is_after_quote-2.false (λ e. (omega arith)) (λ e. (omega arith)))
    ]
