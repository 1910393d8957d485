use Rattle.std.proofs.Common.{refl, ap, ◌∙◌}
use Rattle.pfc_world.proofs.Indexes.{first-index, started-set}
use Rattle.pfc_world.proofs.index.Index.new.Goals as goal

pub returns : goal.returns
returns c =
    first-index c.args.n _ c.requires.some c.requires.few c.new-spread.ensures
    (started-set c.args.n c.in_ok-ready.ready c.put.new.self c.requires.some c.in_ok-ready.ensures.room c.in_ok-ready.ensures.empty c.put.ensures)
    (ap (λ v. v.members) c.in_ok-new.ensures) (ap (λ v. v.lists) c.in_ok-new.ensures ∙
    c.lists.ensures) c.in_ok-new-2.ensures c.in_ok-new-3.ensures refl refl refl
