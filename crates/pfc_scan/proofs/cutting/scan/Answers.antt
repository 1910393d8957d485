use Rattle.std.proofs.Common.{◌≡◌, ◌∙◌, ◌+◌, ◌<◌, ◌≤◌, length, take, ap, subst, arith, rules}
use Rattle.std.proofs.lemmas.Grind.{common_steps}
use Rattle.pfc_scan.specs.Cutting.{NothingBegins, after}
use Rattle.pfc_scan.specs.Finding.{IsNext, IsNextPiece}
use Rattle.pfc_scan.proofs.Codes.{fault_code}
use Rattle.pfc_scan.proofs.One.{one_cut}
use Rattle.pfc_scan.proofs.Steps.{cut_done, cut_barred, cut_stuck, cut_skipped, cut_taken}
use Rattle.pfc_scan.proofs.cutting.scan.Goals as goal
use Rattle.pfc_scan.proofs.cutting.scan.Goals.{in-Gap, in-Token+in_ok-push-in-Token}

pub returns-in_default-clause-refused : goal.returns-in_default-clause-refused
returns-in_default-clause-refused c =
    let none : NothingBegins c.loop-rest.rest.now = subst (IsNext c.loop-rest.rest.now) c.in_default.is c.in_ok-piece.ensures in
    let some : 0 < length c.loop-rest.rest.now = first_of (search rules, grind (arith, common_steps)) in
    rw c.cause_of-code.ensures (cut_stuck c.args.text.now c.loop-rest.tokens.items c.loop-rest.place c.loop-rest.rest.now c.loop-rest.invariant some none)

pub returns-in_default-clause-only : goal.returns-in_default-clause-only
returns-in_default-clause-only c d h = one_cut h (returns-in_default-clause-refused c)

pub returns-in-Refused-clause-refused : goal.returns-in-Refused-clause-refused
returns-in-Refused-clause-refused c =
    let p : IsNextPiece c.loop-rest.rest.now c.in-Some.piece = subst (IsNext c.loop-rest.rest.now) c.in-Some.is c.in_ok-piece.ensures in
    cut_barred c.args.text.now c.loop-rest.tokens.items c.loop-rest.place c.loop-rest.rest.now c.loop-rest.invariant _ _ c.in-Refused.code
    (rw c.in-Refused.is at p.longest)

pub returns-in-Refused-clause-only : goal.returns-in-Refused-clause-only
returns-in-Refused-clause-only c d h = one_cut h (returns-in-Refused-clause-refused c)

pub loop-rest-preserved : goal.loop-rest-preserved
loop-rest-preserved c =
    let rest = c.loop-rest.rest.now in
    let n = c.in-Some.piece.length in
    let p : IsNextPiece rest c.in-Some.piece = subst (IsNext rest) c.in-Some.is c.in_ok-piece.ensures in
    let cut = c.split_at.ensures in
    let at : c.after-place.result ≡ after c.loop-rest.place (take n rest) = c.after-place.ensures.value ∙ ap (after c.loop-rest.place) cut.front in
    let lines : c.after-place.result.line ≤ c.loop-rest.place.line + n = omega (arith, c.after-place.ensures.lines, cut.front_len) in
    let columns : c.after-place.result.column ≤ c.loop-rest.place.column + n = omega (arith, c.after-place.ensures.columns, cut.front_len) in
    elim c.match-piece.branch [
      | in-Gap w ↦ rw (w.tokens-is, cut.back)
          (cut_skipped c.args.text.now c.loop-rest.tokens.items c.loop-rest.place rest c.loop-rest.invariant n p.within c.after-place.result at
          lines columns (rw w.in-Gap.is at p.longest))
      | in-Token+in_ok-push-in-Token w ↦ rw (w.tokens-is, w.in_ok-push-in-Token.ensures.items, w.in-Token.kind-is, cut.back)
          (cut_taken c.args.text.now c.loop-rest.tokens.items c.loop-rest.place rest c.loop-rest.invariant n p.within c.after-place.result at lines columns
          w.in-Token.kind p.some (rw w.in-Token.is at p.longest))
    ]

pub returns-clause-ok : goal.returns-clause-ok
returns-clause-ok c =
    let none : length c.loop-rest.rest.now ≡ 0 = first_of (search rules, grind (arith, common_steps)) in
    cut_done c.args.text.now c.loop-rest.tokens.items c.loop-rest.place c.loop-rest.rest.now none c.loop-rest.invariant

pub returns-clause-only : goal.returns-clause-only
returns-clause-only c d h = one_cut h (returns-clause-ok c)

pub returns-in_default-clause-codes : goal.returns-in_default-clause-codes
returns-in_default-clause-codes c = fault_code _ _ (returns-in_default-clause-refused c)

pub returns-in-Refused-clause-codes : goal.returns-in-Refused-clause-codes
returns-in-Refused-clause-codes c = fault_code _ _ (returns-in-Refused-clause-refused c)
