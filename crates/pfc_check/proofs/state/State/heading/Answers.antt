use Rattle.std.proofs.Common.{◌≡◌, ◌+◌, ◌∷◌, ◌∙◌, sym, ap, arith, List, map, drop}
use Rattle.std.proofs.lemmas.Grind.{common_steps}
use Rattle.pfc_tree.specs.declared.tree.Group.{Group}
use Rattle.pfc_tree.specs.views.Types.{group_view}
use Rattle.pfc_types.specs.rules.Declarations.{Heading, groups_heading}
use Rattle.pfc_check.specs.States.{around, heading_of}
use Rattle.pfc_check.proofs.state.State.heading.Goals as goal

pub loop-g-preserved : goal.loop-g-preserved
loop-g-preserved c =
    let gs = c.args.groups.now in
    let i = c.args.block.scope in
    let outer = around c.args.block in
    let k = c.loop-g.g-index in
    let next : drop k gs ≡ c.g-item.result ∷ drop (k + 1) gs = grind (arith, common_steps) in
    ap (λ (h : Heading). groups_heading i outer h (map group_view (drop (k + 1) gs))) c.in_ok-group.ensures
    ∙ sym (ap (λ (rest : List Group). groups_heading i outer (heading_of c.loop-g.self c.loop-g.heading) (map group_view rest)) next)
    ∙ c.loop-g.invariant
