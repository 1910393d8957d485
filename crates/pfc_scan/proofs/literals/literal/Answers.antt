use Rattle.std.proofs.Common.{◌∙◌, sym, ap, false}
use Rattle.std.proofs.lemmas.List.{take_rest}
use Rattle.pfc_scan.specs.Finding.{quote_close}
use Rattle.pfc_scan.proofs.Quotes.{literal_next, literal_none}
use Rattle.pfc_scan.proofs.literals.literal.Goals as goal

pub returns-in_default : goal.returns-in_default
returns-in_default c = literal_none c.args.text.now c.requires (ap (quote_close false) (sym (take_rest c.args.text.now 1)) ∙
    sym c.quote_close.ensures.value ∙ c.in_default.is)

pub returns : goal.returns
returns c =
    literal_next c.args.text.now c.in_ok-bytes.bytes c.in-Some.inside c.requires (ap (quote_close false) (sym (take_rest c.args.text.now 1)) ∙
    sym c.quote_close.ensures.value ∙ c.in-Some.is)
    c.in_ok-bytes.ensures
