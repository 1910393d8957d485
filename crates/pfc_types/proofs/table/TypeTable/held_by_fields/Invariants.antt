use Rattle.std.proofs.Common.{◌≡◌, ◌≤◌, ◌*◌, take}
use Rattle.pfc_types.specs.Types.{all_held, fields_held}
use Rattle.pfc_types.proofs.table.TypeTable.held_by_fields.Given as goal

abbrev pub invariant-loop-i : goal.invariant-loop-i
invariant-loop-i l =
    record {
      value : l.sum ≡ fields_held (all_held l.self) (take l.i l.fields);
      cells : l.sum.cells ≤ 65536 * l.i;
      processes : l.sum.processes ≤ 1024;
    }
