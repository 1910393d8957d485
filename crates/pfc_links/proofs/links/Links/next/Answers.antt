use Rattle.std.proofs.Common.{◌+◌, ◌<◌, length, arith}
use Rattle.pfc_links.specs.Linked.{IsFrom}
use Rattle.pfc_links.proofs.Looks.{behind-read, known-list}
use Rattle.pfc_links.proofs.links.Links.next.Goals as goal

pub returns : goal.returns
returns c =
    let wide : c.args.p < length c.args.self.now.members + c.args.self.now.lists = omega (arith, c.requires) in
    λ list t own.
    behind-read c.self.inside.members.items c.self.inside.lists c.self.inside.next.items c.self.inside.previous.items c.args.self.now list
    c.args.p c.index.result.now c.process.result
    c.self.invariant c.self.view_is wide c.index.ensures c.process.ensures t
    (known-list c.self.inside.members.items c.self.inside.lists c.self.inside.next.items c.self.inside.previous.items c.args.self.now c.args.p
    list t c.self.invariant c.self.view_is own)
    (IsFrom.a_member own)
