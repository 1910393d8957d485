use Rattle.std.proofs.Common.{◌∙◌, sym, ap}
use Rattle.std.proofs.lemmas.List.{take_rest}
use Rattle.pfc_scan.specs.Finding.{brace_close}
use Rattle.pfc_scan.proofs.Closers.{brace_next, brace_none}
use Rattle.pfc_scan.proofs.comments.brace_comment.Goals as goal

pub returns-in_default : goal.returns-in_default
returns-in_default c = brace_none c.args.text.now c.requires (ap (brace_close 0) (sym (take_rest c.args.text.now 1)) ∙
    sym c.brace_close.ensures.value ∙ c.in_default.is)

pub returns : goal.returns
returns c = brace_next c.args.text.now c.in-Some.inside c.requires (ap (brace_close 0) (sym (take_rest c.args.text.now 1)) ∙
    sym c.brace_close.ensures.value ∙ c.in-Some.is)
