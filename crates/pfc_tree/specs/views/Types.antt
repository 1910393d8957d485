-- The program's types and groups of parameters read as plain trees.
use Rattle.std.specs.Prelude.{List, [], ◌∷◌, map}
use Rattle.pfc_tree.specs.declared.tree.TypeNode.{TypeNode, TypeNode-F, fold-TypeNode}
use Rattle.pfc_tree.specs.declared.tree.VarItem.{VarItem, VarItem-F, fold-VarItem}
use Rattle.pfc_tree.specs.declared.tree.TypeItem.{TypeItem}
use Rattle.pfc_tree.specs.declared.tree.Group.{Group}
use Rattle.pfc_tree.specs.declared.tree.TypeNode.TheOpen as layer
use Rattle.pfc_tree.specs.trees.Types.{TypeTree, VarTree, VarTrees, TypeItemTree, GroupTree, named, channel, array, fields, var_item, no_vars, more_vars}

-- a list of nodes
abbrev pub vars_of : List VarTree → VarTrees
vars_of [] = no_vars
vars_of (v ∷ vs) = more_vars v (vars_of vs)

-- one node, whose parts are read
abbrev pub type_step : TypeNode-F TypeTree VarTree → TypeTree
type_step (layer.Named x p) = named x p
type_step (layer.Channel t p) = channel t.value p
type_step (layer.Array rs t p) = array rs.items t.value p
type_step (layer.Fields vs last p) = fields (vars_of vs.items) last p

abbrev pub var_step : VarItem-F TypeTree VarTree → VarTree
var_step v = var_item v.names.items v.form

-- the readings
abbrev pub type_view : TypeNode → TypeTree
type_view = fold-TypeNode TypeTree VarTree type_step var_step

abbrev pub var_view : VarItem → VarTree
var_view = fold-VarItem TypeTree VarTree type_step var_step

abbrev pub vars_view : List VarItem → VarTrees
vars_view vs = vars_of (map var_view vs)

abbrev pub type_item_view : TypeItem → TypeItemTree
type_item_view i = record { name = i.name; form = type_view i.form; place = i.place }

abbrev pub group_view : Group → GroupTree
group_view g = record { reference = g.reference; names = g.names.items; form = g.form }
