use Rattle.std.proofs.Common.{◌≡◌, true, false, not, arith, ◌∙◌, sym}
use Rattle.std.specs.Char.{is_ascii_digit}
use Rattle.pfc_sched.proofs.Numbers.{past_at, at_least}
use Rattle.pfc_sched.proofs.script_text.number.Goals as goal

pub returns-then-value-from : goal.returns-then-value-from
returns-then-value-from c =
    past_at c.args.item.now c.loop-byte.byte-index c.loop-byte.value c.loop-byte-test.true
    (at_least _ (sym c.is_ascii_digit.ensures.value ∙ c.if-not-is_ascii_digit.false))
    (omega (arith, c.from.ensures))
    ∙ c.loop-byte.invariant.rest
