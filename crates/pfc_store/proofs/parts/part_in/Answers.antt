use Rattle.std.proofs.Common.{◌∙◌, sym, ap, get_or, arith}
use Rattle.pfc_semantics.specs.Values.{part_of}
use Rattle.pfc_store.specs.Views.{value_view}
use Rattle.pfc_store.proofs.Seen.{compound_seen, nothing}
use Rattle.pfc_store.proofs.Paths.{looked_up}
use Rattle.pfc_store.proofs.parts.part_in.Goals as goal

pub returns-in-Compound : goal.returns-in-Compound
returns-in-Compound c =
    looked_up c.in-Compound.parts.items c.args.place c.get.result (c.get.ensures.lookup.4 (omega arith) nothing ∙
    ap (λ vs. get_or vs c.args.place nothing) c.deref.ensures.value)
    ∙ ap (λ v. part_of v c.args.place) (sym (compound_seen c.in-Compound.parts) ∙ ap value_view (sym c.in-Compound.is))
