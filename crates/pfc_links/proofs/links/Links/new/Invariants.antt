use Rattle.std.proofs.Common.{◌≡◌, None, replicate}
use Rattle.pfc_links.proofs.links.Links.new.Given as goal

abbrev pub invariant-loop-p : goal.invariant-loop-p
invariant-loop-p l = l.members.items ≡ replicate l._p None
