use Rattle.std.proofs.Common.{append_assoc, append-nil, length-drop, arith, ◌≡◌, ◌∙◌, ap, sym, ◌++◌, ◌+◌, drop, take, length, true, false, ◌==◌}
use Rattle.std.proofs.lemmas.List.Quantifiers.{position-Some}
use Rattle.std.proofs.lemmas.List.{take_rest}
use Rattle.pfc_report.specs.Listings.{listed_line}
use Rattle.pfc_report.proofs.ListedLines.{listing_from, listing_from-line, listing_from-last, listing_from-empty}
use Rattle.pfc_report.proofs.listings.listing.Goals as goal
use Rattle.pfc_report.proofs.listings.listing.Goals.{then-not-is_empty+in_ok-list_line-2, else-not-is_empty}

pub loop-end-preserved : goal.loop-end-preserved
loop-end-preserved c = record {
  listed =
      ap (λ t. c.list_line.new.page ++ listing_from (c.loop-end.number + 1) t) (take_rest c.loop-end.rest.now (c.in-Some.end + 1))
      ∙ ap (λ t. t ++ listing_from (c.loop-end.number + 1) (drop (c.in-Some.end + 1) c.loop-end.rest.now)) c.in_ok-list_line.ensures
      ∙ append_assoc c.loop-end.page (listed_line c.loop-end.number (take c.in-Some.end c.loop-end.rest.now))
      (listing_from (c.loop-end.number + 1) (drop (c.in-Some.end + 1) c.loop-end.rest.now))
      ∙ ap (λ t. c.loop-end.page ++ t) (sym (listing_from-line c.loop-end.number c.loop-end.rest.now c.in-Some.end (sym c.in-Some.ensures)))
      ∙ c.loop-end.invariant.listed;
  counted =
      let first = position-Some (λ byte. byte == 10) c.loop-end.rest.now c.in-Some.end 0 (sym c.in-Some.ensures) in
      rw (take_rest c.loop-end.rest.now (c.in-Some.end + 1), length-drop (c.in-Some.end + 1) c.loop-end.rest.now) (omega (arith, c.loop-end.invariant.counted));
}

pub returns : goal.returns
returns c = elim c.if-not-is_empty.branch [
  | then-not-is_empty+in_ok-list_line-2 w ↦
      let some : (length c.loop-end.rest.now == 0) ≡ false = cc in
      let last = listing_from-last c.loop-end.number c.loop-end.rest.now (sym c.in_default.ensures) some in
      c.into_bytes.ensures ∙ w.page-is ∙ w.in_ok-list_line-2.ensures ∙ ap (λ t. c.loop-end.page ++ t) (sym last) ∙ c.loop-end.invariant.listed
  | else-not-is_empty w ↦
      let empty : (length c.loop-end.rest.now == 0) ≡ true = cc in
      let last = listing_from-empty c.loop-end.number c.loop-end.rest.now empty in
      c.into_bytes.ensures ∙ w.page-is ∙ sym (append-nil c.loop-end.page) ∙ ap (λ t. c.loop-end.page ++ t) (sym last) ∙ c.loop-end.invariant.listed
]
