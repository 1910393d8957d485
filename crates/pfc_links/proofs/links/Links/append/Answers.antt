use Rattle.std.proofs.Common.{◌≡◌, ◌<◌, ◌+◌, length, arith, sym, ap, ◌∙◌, subst}
use Rattle.pfc_links.specs.Members.{latest}
use Rattle.pfc_links.proofs.In.{Comes, last-room, put-in}
use Rattle.pfc_links.proofs.links.Links.append.Goals as goal

pub index_mut-requires : goal.index_mut-requires
index_mut-requires c =
    let room : c.index-last.result.now < length c.self.inside.next.items =
    last-room c.self.inside.members.items c.self.inside.lists c.self.inside.next.items c.self.inside.previous.items c.args.list
    c.index-last.result.now c.end-end.result
    c.self.invariant (subst (λ w. c.args.list < w.lists) (sym c.self.view_is) c.requires.list) (c.end-end.ensures ∙
    ap (λ w. length w.members + c.args.list) (sym c.self.view_is)) c.index-last.ensures in
    omega arith

pub invariant_of-self : goal.invariant_of-self
invariant_of-self c =
    let small : c.args.ticket < latest = omega arith in
    let comes : Comes c.args.self.now.members c.args.self.now.lists c.args.p c.args.list c.args.ticket = record {
      lt = c.requires.process;
      known = c.requires.list;
      free = c.requires.free;
      from_one = c.requires.from_one;
      small = small;
      last = c.requires.last;
    } in
    put-in c.self.inside.members.items c.self.inside.lists c.self.inside.next.items c.self.inside.previous.items c.args.p c.args.list c.args.ticket
    c.end-end.result c.index-last.result.now
    c.self.invariant (subst (λ w. Comes w.members w.lists c.args.p c.args.list c.args.ticket) (sym c.self.view_is) comes)
    (c.end-end.ensures ∙ ap (λ w. length w.members + c.args.list) (sym c.self.view_is)) c.index-last.ensures
