use Rattle.std.proofs.Common.{◌+◌, ◌*◌, ap, ◌∙◌}
use Rattle.pfc_links.specs.Members.{in_list}
use Rattle.pfc_alternatives.specs.Lists.{list_of}
use Rattle.pfc_alternatives.proofs.One.{IsOfferedOne, put-in}
use Rattle.pfc_alternatives.proofs.Places.{with_node}
use Rattle.pfc_alternatives.proofs.alternatives.Alternatives.offer_one.Goals as goal

-- the alternative was put at the end of its list
made : (c : goal.After-append) → IsOfferedOne c.args.self.now (record {
  places = c.self.inside.places;
  room = c.self.inside.room;
  members =
      c.append.new.self.members;
}) c.args.p c.args.place (list_of c.args.self.now.places c.args.arm) c.args.ticket
made c =
    put-in c.args.self.now (record { places = c.self.inside.places; room = c.self.inside.room; members = c.append.new.self.members }) c.args.p c.args.place
    (list_of c.args.self.now.places c.args.arm) c.args.ticket
    (ap (λ l. record { places = c.self.inside.places; room = c.self.inside.room; members = l.members }) c.append.ensures
    ∙ ap (λ w. with_node w c.node-node.result (in_list c.list_of-list.result c.args.ticket)) c.self.view_is
    ∙ ap (λ n. with_node c.args.self.now n (in_list c.list_of-list.result c.args.ticket)) c.node-node.ensures
    ∙ ap (λ n. with_node c.args.self.now (c.args.p * c.args.self.now.room + c.args.place) (in_list n c.args.ticket)) c.list_of-list.ensures.list
    ∙ ap (λ w. with_node c.args.self.now (c.args.p * c.args.self.now.room + c.args.place) (in_list (list_of w.places c.args.arm) c.args.ticket)) c.self.view_is)
    c.requires.process c.requires.room c.requires.free

pub returns-then-ne-clause-offered : goal.returns-then-ne-clause-offered
returns-then-ne-clause-offered c = (made c).offered

pub returns-then-ne-clause-kept : goal.returns-then-ne-clause-kept
returns-then-ne-clause-kept c = (made c).kept

pub returns-then-ne-clause-only : goal.returns-then-ne-clause-only
returns-then-ne-clause-only c = (made c).only

pub returns-then-ne-clause-others : goal.returns-then-ne-clause-others
returns-then-ne-clause-others c = (made c).others
