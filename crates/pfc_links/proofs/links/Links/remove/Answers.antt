use Rattle.std.proofs.Common.{◌<◌, length, arith, sym, subst}
use Rattle.pfc_links.specs.Members.{member_at}
use Rattle.pfc_links.proofs.Out.{HasMember, member-of, before-room, behind-room, taken-out}
use Rattle.pfc_links.proofs.links.Links.remove.Goals as goal

pub index_mut-requires : goal.index_mut-requires
index_mut-requires c =
    let own : HasMember (member_at c.self.inside.members.items c.args.p) = subst (λ w. HasMember (member_at w.members c.args.p)) (sym c.self.view_is)
    (member-of (member_at c.args.self.now.members c.args.p) c.requires.member) in
    let room : c.index-before.result.now < length c.self.inside.next.items =
    before-room c.self.inside.members.items c.self.inside.lists c.self.inside.next.items c.self.inside.previous.items c.args.p c.index-before.result.now
    c.self.invariant own c.index-before.ensures in
    omega arith

pub index_mut-requires-2 : goal.index_mut-requires-2
index_mut-requires-2 c =
    let own : HasMember (member_at c.self.inside.members.items c.args.p) = subst (λ w. HasMember (member_at w.members c.args.p)) (sym c.self.view_is)
    (member-of (member_at c.args.self.now.members c.args.p) c.requires.member) in
    let room : c.index-behind.result.now < length c.self.inside.previous.items =
    behind-room c.self.inside.members.items c.self.inside.lists c.self.inside.next.items c.self.inside.previous.items c.args.p c.index-behind.result.now
    c.self.invariant own c.index-behind.ensures in
    omega arith

pub invariant_of-self : goal.invariant_of-self
invariant_of-self c =
    let own : HasMember (member_at c.self.inside.members.items c.args.p) = subst (λ w. HasMember (member_at w.members c.args.p)) (sym c.self.view_is)
    (member-of (member_at c.args.self.now.members c.args.p) c.requires.member) in
    taken-out c.self.inside.members.items c.self.inside.lists c.self.inside.next.items c.self.inside.previous.items c.args.p
    c.index-before.result.now c.index-behind.result.now
    c.self.invariant own c.index-before.ensures c.index-behind.ensures
