use Rattle.pfc_scan.proofs.Quotes.{Searched}
use Rattle.pfc_scan.proofs.literals.quote_close.Given as goal

abbrev pub invariant-loop-at : goal.invariant-loop-at
invariant-loop-at l = Searched l.text l.closed l.is_after_quote l.at
