-- The strings of initialising bodies stand one behind the other.
use Rattle.std.proofs.Common.{◌≡◌, ◌≤◌, ℕ, ◌+◌, ◌++◌, List, [], ◌∷◌, length, sym, ap, ◌∙◌, subst, arith, length-append}
use Rattle.pfc_semantics.specs.Programs.{Program}
use Rattle.pfc_translation.specs.Codes.{Code, Lined}
use Rattle.pfc_translation.specs.Images.{Piece, a_body, an_initial, a_resource, Coded, coded, body_code, statements_code, scan_code, of_main, put_from, size_of}
use Rattle.pfc_translation.specs.Images.{strings_in, most_arms}
use Rattle.std.proofs.lemmas.List.{append_assoc}
use Rattle.pfc_generator.specs.Making.{AreOrdered}

-- all strings behind some
behind : (strings : ℕ) (c : Code) (cs : List Coded) → (strings + length c.texts) + length (strings_in cs) ≡ strings + length (c.texts ++ strings_in cs)
behind strings c cs = omega (arith, length-append c.texts (strings_in cs))

pub all_ordered :
    (g : Program) (number strings n : ℕ) (ps : List Piece) → n ≤ strings
    → AreOrdered (strings + length (strings_in (coded g number strings ps))) n (of_main (coded g number strings ps))
all_ordered g number strings n [] few = omega (arith, few)
all_ordered g number strings n (a_body b ∷ ps) few =
    let c : Code = body_code g b in
    let rest : List Coded = coded g (number + 0) (strings + length c.texts) ps in
    subst (λ (last : ℕ). AreOrdered last n (of_main rest)) (behind strings c rest)
    (all_ordered g (number + 0) (strings + length c.texts) n ps (omega (arith, few)))
all_ordered g number strings n (an_initial b ∷ ps) few =
    let c : Code = statements_code g b in
    let rest : List Coded = coded g (number + 0) (strings + length c.texts) ps in (
      few,
      subst (λ (last : ℕ). AreOrdered last (strings + length c.texts) (of_main rest)) (behind strings c rest)
          (all_ordered g (number + 0) (strings + length c.texts) (strings + length c.texts) ps (omega arith)),
    )
all_ordered g number strings n (a_resource line ∷ ps) few =
    let c : Code = scan_code g number line in
    let rest : List Coded = coded g (number + 1) (strings + length c.texts) ps in
    subst (λ (last : ℕ). AreOrdered last n (of_main rest)) (behind strings c rest)
    (all_ordered g (number + 1) (strings + length c.texts) n ps (omega (arith, few)))

-- those of main are some of all
pub arms_of_main :
    (g : Program) (number strings : ℕ) (ps : List Piece)
    → most_arms (of_main (coded g number strings ps)) ≤ most_arms (coded g number strings ps)
arms_of_main g number strings [] = omega arith
arms_of_main g number strings (a_body b ∷ ps) =
    let rest = arms_of_main g (number + 0) (strings + length (body_code g b).texts) ps in omega (arith, rest)
arms_of_main g number strings (an_initial b ∷ ps) =
    let rest = arms_of_main g (number + 0) (strings + length (statements_code g b).texts) ps in omega (arith, rest)
arms_of_main g number strings (a_resource line ∷ ps) =
    let rest = arms_of_main g (number + 1) (strings + length (scan_code g number line).texts) ps in omega (arith, rest)

-- one behind the other
pub put_both : (at : ℕ) (cs ds : List Coded) → put_from at (cs ++ ds) ≡ put_from at cs ++ put_from (at + size_of cs) ds
put_both at [] ds = ap (λ (n : ℕ). put_from n ds) (omega arith)
put_both at (c ∷ cs) ds =
    ap (λ (l : Lined). c.code.put at c.strings ++ l)
    (put_both (at + c.code.size) cs ds ∙ ap (λ (n : ℕ). put_from (at + c.code.size) cs ++ put_from n ds) (omega arith))
    ∙ sym (append_assoc (c.code.put at c.strings) (put_from (at + c.code.size) cs) (put_from (at + (c.code.size + size_of cs)) ds))
