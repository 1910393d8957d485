use Rattle.std.proofs.Common.{◌≡◌, drop, map, bytes_eq}
use Rattle.std.specs.Map.{lookup}
use Rattle.pfc_types.proofs.view.look_up.Given as goal

-- the names still to come complete the look-up
abbrev pub invariant-loop-entry : goal.invariant-loop-entry
invariant-loop-entry l = lookup (bytes_eq l.name) (map (λ e. (e.0.now, e.1)) (drop l.entry-index l.table)) ≡ lookup
    (bytes_eq l.name) (map (λ e. (e.0.now, e.1)) l.table)
