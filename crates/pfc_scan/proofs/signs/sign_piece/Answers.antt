use Rattle.std.proofs.Common.{◌∙◌, sym}
use Rattle.pfc_scan.proofs.Marks.{sign_double, sign_single, sign_none}
use Rattle.pfc_scan.proofs.signs.sign_piece.Goals as goal

pub returns-in-Some : goal.returns-in-Some
returns-in-Some c = sign_double c.args.text.now c.in-Some.number c.requires.mark c.requires.closed (sym c.double_sign.ensures ∙ c.in-Some.is)

pub returns-in_default-sign_of_one : goal.returns-in_default-sign_of_one
returns-in_default-sign_of_one c =
    sign_none c.args.text.now c.requires.some c.requires.mark c.requires.closed (sym c.double_sign.ensures ∙
    c.in_default.is) (sym c.sign_of_one.ensures ∙ c.in_default-sign_of_one.is)

pub returns : goal.returns
returns c =
    sign_single c.args.text.now c.in-Some-sign_of_one.number c.requires.some c.requires.mark c.requires.closed (sym c.double_sign.ensures ∙ c.in_default.is)
    (sym c.sign_of_one.ensures ∙ c.in-Some-sign_of_one.is)
