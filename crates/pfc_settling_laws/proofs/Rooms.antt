-- How many alternatives a process may offer has no part in settling.
use Rattle.std.proofs.Common.{◌≡◌, ℕ, Bool, true, false, if◌then◌else◌, Option, Some, None, refl, ap, ◌∙◌}
use Rattle.pfc_state.specs.Stands.{Is_ready}
use Rattle.pfc_world.specs.Settling.{earliest, woken_now, moved_to, settled, may_all_end}
use Rattle.pfc_world.specs.Tables.{Table, some_ready}
use Rattle.pfc_world.specs.Terminating.{terminated_child, over_children, terminated, terminated_where, finally_settled, wholly_settled}
use Rattle.pfc_world.specs.Transitions.{placed, released, is_released}

abbrev with_room : ℕ → Table → Table
with_room r w = record w { room = r }

either_way : (r : ℕ) (b : Bool) (v u : Table) → (if b then with_room r v else with_room r u) ≡ with_room r (if b then v else u)
either_way r true v u = refl
either_way r false v u = refl

moved_so : (r : ℕ) (m : Option ℕ) (w : Table) → moved_to m (with_room r w) ≡ with_room r (moved_to m w)
moved_so r None w = refl
moved_so r (Some moment) w = refl

settled_so : (r : ℕ) (w : Table) → settled (with_room r w) ≡ with_room r (settled w)
settled_so r w =
    let v : Table = woken_now w in
    ap (λ (u : Table). if some_ready v.rows then with_room r v else u) (moved_so r (earliest v.rows) v)
    ∙ either_way r (some_ready v.rows) v (moved_to (earliest v.rows) v)

released_so : (r : ℕ) (w : Table) → released (with_room r w) ≡ with_room r (released w)
released_so r w = either_way r (is_released w.rows) (placed w 0 Is_ready) w

terminated_so : (r : ℕ) (w : Table) → terminated (with_room r w) ≡ with_room r (terminated w)
terminated_so r w = released_so r (record w { rows = over_children terminated_child w.rows })

where_so : (r : ℕ) (b : Bool) (w : Table) → terminated_where b (with_room r w) ≡ with_room r (terminated_where b w)
where_so r true w = terminated_so r w
where_so r false w = refl

pub wholly_so : (r : ℕ) (w : Table) → wholly_settled (record w { room = r }) ≡ record (wholly_settled w) { room = r }
wholly_so r w = ap finally_settled (settled_so r w) ∙ where_so r (may_all_end (settled w).rows) (settled w)
