-- The scopes of the modules so far.
use Rattle.std.proofs.Common.{◌≡◌, map, take}
use Rattle.pfc_types.specs.declared.heads.ModuleHead.{ModuleHead}
use Rattle.pfc_program.proofs.lookups.module_scopes.Given as goal

abbrev pub invariant-loop-n : goal.invariant-loop-n
invariant-loop-n l = l.keys.items ≡ map (λ (h : ModuleHead). h.scope) (take l.n l.scopes.modules)
