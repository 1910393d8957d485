-- Those from this number on are left to end.
use Rattle.std.proofs.Common.{◌≡◌}
use Rattle.pfc_program.specs.declared.tables.Tables.{Tables}
use Rattle.pfc_store.specs.Views.{store_view}
use Rattle.pfc_activities.specs.Shown.{activities_shown}
use Rattle.pfc_settling.specs.Ending.{all_ended, all_left, ended_from, left_from, lines_of}
use Rattle.pfc_settling.proofs.children.end_children.Given as goal

abbrev pub invariant-loop-p : goal.invariant-loop-p
invariant-loop-p l = record {
  activities : (t : Tables)
      → all_ended l.fn.state.world.rows (activities_shown t l.fn.state.activities.items) ≡ ended_from l.p l.fn.state.world.rows
      (activities_shown t l.state.activities.items);
  store : (t : Tables)
      → all_left l.fn.state.world.rows (activities_shown t l.fn.state.activities.items) (store_view l.fn.state.store)
      ≡ left_from l.p l.fn.state.world.rows (activities_shown t l.state.activities.items) (store_view l.state.store);
  lines : lines_of l.state ≡ lines_of l.fn.state;
  rest : l.state ≡ record l.fn.state { activities = l.state.activities; store = l.state.store };
}
