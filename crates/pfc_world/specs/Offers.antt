-- Who waits with which alternative, as the table keeps it beside its rows.
use Rattle.std.specs.Prelude.{ℕ, ◌*◌, ◌<◌, ◌≤◌, ◌≡◌, Some, List, length}
use Rattle.pfc_alternatives.specs.Lists.{list_of}
use Rattle.pfc_alternatives.specs.Nodes.{Nodes, node_at, IsIn}
use Rattle.pfc_links.specs.Members.{in_list}
use Rattle.pfc_state.specs.declared.waits.Arm.{Arm}
use Rattle.pfc_state.specs.Stands.{Stand, ticket_of, arms_of, ticket_offering}
use Rattle.pfc_world.specs.declared.index.Index.{Index}
use Rattle.pfc_world.specs.Indexes.{IsIndexed}
use Rattle.pfc_world.specs.Tables.{Table, at}

-- Each process that waits with an alternative is in the list of it, with its ticket, and nobody else is in any list.
pub record AreOffered (rows : List Stand) (nodes : Nodes) : Type 0 where
  pub long : length nodes.members ≡ length rows * nodes.room
  pub few : (p : ℕ) → length (arms_of (at rows p)) ≤ nodes.room
  pub each : (p k list t : ℕ) → k < nodes.room → node_at nodes p k ≡ in_list list t → (k < length (arms_of (at rows p))) × (ticket_of (at rows p) ≡ Some t)
  pub every : (arm : Arm) (p t : ℕ) → ticket_offering arm (at rows p) ≡ Some t → IsIn nodes p (list_of nodes.places arm) t

-- what is kept beside the rows is what they say
pub record IsKept (w : Table) (index : Index) (nodes : Nodes) : Type 0 where
  pub indexed : IsIndexed w.rows index
  pub offered : AreOffered w.rows nodes
  pub room : nodes.room ≡ w.room
