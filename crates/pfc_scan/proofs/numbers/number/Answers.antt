use Rattle.std.proofs.Common.{◌≡◌, ◌∙◌, ℕ, ◌<◌, ◌≤◌, ◌+◌, ◌-◌, true, List, length, take, drop, sym, ap, subst, arith}
use Rattle.std.specs.List.{prefix_len, slice_index}
use Rattle.std.specs.Char.{is_ascii_digit}
use Rattle.std.proofs.lemmas.List.{take_rest, length-drop}
use Rattle.pfc_scan.specs.declared.piece.Reading.{Reading}
use Rattle.pfc_scan.specs.declared.piece.Reading.TheVariants.{Refused}
use Rattle.pfc_scan.specs.Pieces.{IsNumber, number_reading}
use Rattle.pfc_scan.specs.Finding.{IsNextPiece, real_len}
use Rattle.pfc_scan.proofs.Reals.{number_front, number_next}
use Rattle.pfc_scan.proofs.numbers.number.Goals as goal
use Rattle.pfc_scan.proofs.numbers.number.Goals.{then-tail-eq0, else-tail-eq0}

-- `number_next` at the numbers that the code has
number_is : (text : List ℕ) (whole tail : ℕ) (r : Reading) → is_ascii_digit (slice_index text 0) ≡ true →
    whole ≡ prefix_len is_ascii_digit text → whole ≤ length text
    → tail ≡ real_len (take (length text - whole) (drop whole text)) → tail ≤ length (take (length text - whole) (drop whole text))
    → (tail ≡ 0 → r ≡ number_reading (take whole text)) → (0 < tail → r ≡ Refused 105) → IsNextPiece text (record { length = whole + tail; reading = r })
number_is text whole tail r first is within found fits plain other =
    let rest : take (length text - whole) (drop whole text) ≡ drop whole text = take_rest text whole in
    let long : length (take (length text - whole) (drop whole text)) ≡ length text - whole = ap length rest ∙ length-drop whole text in
    let at : tail ≡ real_len (drop (prefix_len is_ascii_digit text) text) = found ∙ ap real_len rest ∙ ap (λ n. real_len (drop n text)) is in
    subst (λ n. IsNextPiece text (record { length = n + tail; reading = r })) (sym is)
    (number_next text tail r first at (omega arith) (λ e. plain e ∙ ap (λ n. number_reading (take n text)) is) other)

pub number_reading-reading-requires : goal.number_reading-reading-requires
number_reading-reading-requires c = subst (λ n. IsNumber (take n c.args.text.now)) (sym c.digits_length-whole.ensures.value)
    (number_front c.args.text.now c.requires)

pub returns : goal.returns
returns c =
    number_is c.args.text.now c.digits_length-whole.result c.real_length-tail.result c.if-tail-eq0.reading c.requires
    c.digits_length-whole.ensures.value c.digits_length-whole.ensures.within
    c.real_length-tail.ensures.value c.real_length-tail.ensures.within
    (λ e. elim c.if-tail-eq0.branch [ then-tail-eq0 w ↦ w.reading-is ∙ w.number_reading-reading.ensures | else-tail-eq0 w ↦ absurd (w.if-tail-eq0.false e) ])
    (λ h. elim c.if-tail-eq0.branch [ then-tail-eq0 w ↦ absurd (omega arith) | else-tail-eq0 w ↦ w.reading-is ])
