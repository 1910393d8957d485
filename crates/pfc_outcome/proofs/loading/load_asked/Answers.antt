use Rattle.std.proofs.Common.{option_copied, ap, sym, ◌∙◌}
use Rattle.pfc_outcome.specs.Asked.{asked_of, plain_source}
use Rattle.pfc_outcome.specs.Outcomes.{text_by}
use Rattle.pfc_outcome.specs.declared.options.Source.{Source}
use Rattle.pfc_outcome.proofs.Given.{are_loaded}
use Rattle.pfc_outcome.proofs.loading.load_asked.Goals as goal

pub returns-in-Ok-clause-given : goal.returns-in-Ok-clause-given
returns-in-Ok-clause-given g c = λ files tells.
    are_loaded (g.F.Shelf.told c.args.shelf.now) files tells (asked_of c.args.options.now)
    (record { text = c.from_vec.result; input = c.in_ok-loaded.loaded.input; script = c.in_ok-loaded.loaded.script }) (option_copied c.file_of.result)
    c.in_ok-loaded.loaded.text c.file_of.ensures c.in_ok-loaded.ensures.given c.in_ok-loaded.ensures.within
    (ap (λ (s : Source). text_by files (plain_source s)) c.in-Made.is ∙ sym (c.from_vec.ensures ∙ c.in-Ok.ensures.text))
