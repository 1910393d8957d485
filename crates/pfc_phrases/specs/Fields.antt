-- A name behind `.`.
use Rattle.std.specs.Prelude.{Option, Some, None}
use Rattle.pfc_base.specs.declared.places.Place.{Place}
use Rattle.pfc_tree.specs.Symbols.{Text}
use Rattle.pfc_tree.specs.trees.Exprs.{SelectorTree, index, field}

-- the name that a selector is
abbrev pub field_of : SelectorTree → Option (Text × Place)
field_of (index es p) = None
field_of (field x p) = Some (x, p)
