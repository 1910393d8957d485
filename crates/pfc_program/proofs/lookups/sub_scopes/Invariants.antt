-- The scopes of the subs so far.
use Rattle.std.proofs.Common.{◌≡◌, map, take}
use Rattle.pfc_types.specs.declared.heads.SubHead.{SubHead}
use Rattle.pfc_program.proofs.lookups.sub_scopes.Given as goal

abbrev pub invariant-loop-n : goal.invariant-loop-n
invariant-loop-n l = l.keys.items ≡ map (λ (h : SubHead). h.scope) (take l.n l.scopes.subs)
