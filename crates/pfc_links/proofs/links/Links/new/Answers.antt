use Rattle.std.proofs.Common.{◌≡◌, None, replicate, arith, sym, ap, ◌∙◌, subst}
use Rattle.pfc_links.specs.Linked.{AreLinked}
use Rattle.pfc_links.proofs.Empty.{all-empty}
use Rattle.pfc_links.proofs.links.Links.new.Goals as goal

pub invariant_of-result : goal.invariant_of-result
invariant_of-result c =
    let all : c.loop-p._p ≡ c.args.processes = omega arith in
    let none : c.loop-p.members.items ≡ replicate c.args.processes None = c.loop-p.invariant ∙ ap (λ n. replicate n None) all in
    subst (λ v. AreLinked v c.args.lists c.in_ok-next.next.items c.in_ok-previous.previous.items) (sym none)
    (all-empty c.args.processes c.args.lists c.in_ok-next.next.items c.in_ok-previous.previous.items c.requires
    c.in_ok-next.ensures.length c.in_ok-next.ensures.each c.in_ok-previous.ensures.length c.in_ok-previous.ensures.each)
