use Rattle.std.proofs.Common.{◌≡◌, replicate}
use Rattle.pfc_hb.specs.Users.{no_users}
use Rattle.pfc_hb.proofs.users.no_users.Given as goal

abbrev pub invariant-loop-part : goal.invariant-loop-part
invariant-loop-part l = l.users.items ≡ replicate l._part (no_users l.events)
