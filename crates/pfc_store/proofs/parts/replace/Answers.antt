use Rattle.std.proofs.Common.{◌∙◌, ap}
use Rattle.pfc_store.specs.Views.{values_view}
use Rattle.pfc_store.proofs.Seen.{other_seen}
use Rattle.pfc_store.proofs.parts.replace.Goals as goal

pub returns-then-place-len : goal.returns-then-place-len
returns-then-place-len c = ap values_view c.exchanged.ensures.put ∙ other_seen c.args.values.now.items c.args.place c.args.new
