use Rattle.std.proofs.Common.{◌∙◌, sym, ap, false}
use Rattle.std.proofs.lemmas.List.{take_rest}
use Rattle.pfc_scan.specs.Finding.{star_close}
use Rattle.pfc_scan.proofs.Closers.{star_next, star_none}
use Rattle.pfc_scan.proofs.comments.star_comment.Goals as goal

pub returns-in_default : goal.returns-in_default
returns-in_default c = star_none c.args.text.now c.requires.round c.requires.star (ap (star_close false 0) (sym (take_rest c.args.text.now 2)) ∙
    sym c.star_close.ensures.value ∙ c.in_default.is)

pub returns : goal.returns
returns c = star_next c.args.text.now c.in-Some.inside c.requires.round c.requires.star (ap (star_close false 0) (sym (take_rest c.args.text.now 2)) ∙
    sym c.star_close.ensures.value ∙ c.in-Some.is)
