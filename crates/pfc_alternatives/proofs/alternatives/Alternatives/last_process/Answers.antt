use Rattle.std.proofs.Common.{subst}
use Rattle.pfc_links.specs.Members.{IsLast}
use Rattle.pfc_alternatives.proofs.One.{last-of}
use Rattle.pfc_alternatives.proofs.alternatives.Alternatives.last_process.Goals as goal

pub returns-in-Some : goal.returns-in-Some
returns-in-Some c =
    last-of c.args.self.now c.args.list c.in-Some.node c.process_of.result c.requires.room c.process_of.ensures
    (subst (λ w. IsLast w.members c.args.list c.in-Some.node) c.self.view_is c.in-Some.ensures)
