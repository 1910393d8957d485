use Rattle.std.proofs.Common.{◌≡◌, ◌++◌, ◌+◌, ◌≤◌, length}
use Rattle.pfc_report.proofs.ListedLines.{listing_from}
use Rattle.pfc_report.proofs.listings.listing.Given as goal

abbrev pub invariant-loop-end : goal.invariant-loop-end
invariant-loop-end l = record {
  listed : l.page ++ listing_from l.number l.rest ≡ listing_from 1 l.text;
  counted : l.number + length l.rest ≤ 1 + length l.text;
}

abbrev pub decreases-loop-end : goal.decreases-loop-end
decreases-loop-end l = length l.rest
