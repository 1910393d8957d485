use Rattle.std.proofs.Common.{◌+◌, ◌<◌, length, arith, refl, ◌∙◌}
use Rattle.pfc_links.specs.Linked.{IsFrom}
use Rattle.pfc_links.proofs.Looks.{behind-read, first-of}
use Rattle.pfc_links.proofs.links.Links.first.Goals as goal

pub returns : goal.returns
returns c =
    let wide : c.end.result < length c.args.self.now.members + c.args.self.now.lists = omega (arith, c.requires, c.end.ensures) in
    first-of c.self.inside.members.items c.self.inside.lists c.self.inside.next.items c.self.inside.previous.items c.args.self.now c.args.list
    c.process.result c.self.invariant c.self.view_is
    (behind-read c.self.inside.members.items c.self.inside.lists c.self.inside.next.items c.self.inside.previous.items c.args.self.now c.args.list
    c.end.result c.index.result.now c.process.result
    c.self.invariant c.self.view_is wide c.index.ensures c.process.ensures 0 c.requires (IsFrom.the_end c.end.ensures refl))
