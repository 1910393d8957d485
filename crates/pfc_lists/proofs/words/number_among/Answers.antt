use Rattle.std.proofs.Common.{sym, ◌∙◌}
use Rattle.pfc_lists.proofs.Bits.{one-number}
use Rattle.pfc_lists.proofs.words.number_among.Goals as goal

pub returns : goal.returns
returns c =
    sym (one-number c.halved-found.result.lowest c.halved-found.result.word c.halved-found.result.before c.halved-found.ensures.found)
    ∙ c.halved-found.ensures.same
    ∙ c.halved-5.ensures.same
    ∙ c.halved-4.ensures.same
    ∙ c.halved-3.ensures.same
    ∙ c.halved-2.ensures.same
    ∙ c.halved.ensures.same
