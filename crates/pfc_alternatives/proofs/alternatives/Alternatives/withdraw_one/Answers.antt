use Rattle.std.proofs.Common.{None, ap, ◌∙◌}
use Rattle.pfc_alternatives.proofs.One.{take-out}
use Rattle.pfc_alternatives.proofs.Places.{with_node}
use Rattle.pfc_alternatives.proofs.alternatives.Alternatives.withdraw_one.Goals as goal

pub returns-then-is_member-clause-others : goal.returns-then-is_member-clause-others
returns-then-is_member-clause-others c =
    (take-out c.args.self.now (record { places = c.self.inside.places; room = c.self.inside.room; members = c.remove.new.self.members }) c.args.p c.args.place
    (ap (λ l. record { places = c.self.inside.places; room = c.self.inside.room; members = l.members }) c.remove.ensures
    ∙ ap (λ w. with_node w c.node-node.result None) c.self.view_is
    ∙ ap (λ n. with_node c.args.self.now n None) c.node-node.ensures)
    c.requires.process c.requires.room).others
