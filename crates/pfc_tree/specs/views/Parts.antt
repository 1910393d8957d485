-- The program's parts, and the program itself, read as plain trees.
use Rattle.std.specs.Prelude.{List, [], ◌∷◌, map, option_map}
use Rattle.pfc_tree.specs.declared.tree.Part.{Part, Part-F, fold-Part}
use Rattle.pfc_tree.specs.declared.tree.Module.{Module, Module-F, fold-Module}
use Rattle.pfc_tree.specs.declared.tree.Process.{Process, Process-F, fold-Process}
use Rattle.pfc_tree.specs.declared.tree.Sub.{Sub, Sub-F, fold-Sub}
use Rattle.pfc_tree.specs.declared.tree.SubKind.{SubKind}
use Rattle.pfc_tree.specs.declared.tree.SubKind.TheVariants.{Procedure, Function, Guarded}
use Rattle.pfc_tree.specs.declared.tree.Entry.{Entry}
use Rattle.pfc_tree.specs.declared.tree.Tree.{Tree}
use Rattle.pfc_tree.specs.declared.tree.Part.TheOpen as layer
use Rattle.pfc_tree.specs.trees.Parts.{KindTree, EntryTree, PartTree, PartTrees, SubTree, ModuleTree, ProcessTree, ProgramTree, procedure, function, guarded}
use Rattle.pfc_tree.specs.trees.Parts.{consts, types, vars, sub_part, monitor, resource, process_part, no_parts, more_parts, sub, the_module, process}
use Rattle.pfc_tree.specs.views.Exprs.{expr_view}
use Rattle.pfc_tree.specs.views.Types.{type_item_view, vars_view, group_view}
use Rattle.pfc_tree.specs.views.Stmts.{body_view}

-- a list of nodes
abbrev pub parts_of : List PartTree → PartTrees
parts_of [] = no_parts
parts_of (q ∷ qs) = more_parts q (parts_of qs)

-- one node, whose parts are read
abbrev pub kind_view : SubKind → KindTree
kind_view Procedure = procedure
kind_view (Function x p) = function x p
kind_view (Guarded e p) = guarded (expr_view e) p

abbrev pub entry_view : Entry → EntryTree
entry_view n = record { name = n.name; formals = map group_view n.formals.items; place = n.place }

abbrev pub part_step : Part-F PartTree ModuleTree ProcessTree SubTree → PartTree
part_step (layer.Consts items) = consts items.items
part_step (layer.Types items) = types (map type_item_view items.items)
part_step (layer.Vars vs) = vars (vars_view vs.items)
part_step (layer.Sub s) = sub_part s
part_step (layer.Monitor m) = monitor m
part_step (layer.Resource m) = resource m
part_step (layer.Process q) = process_part q

abbrev pub module_step : Module-F PartTree ModuleTree ProcessTree SubTree → ModuleTree
module_step m = the_module m.name (map (λ xs. xs.items) m.exports.items) (parts_of m.parts.items) (option_map body_view m.body) m.last m.place

abbrev pub process_step : Process-F PartTree ModuleTree ProcessTree SubTree → ProcessTree
process_step q = process q.many q.name (map group_view q.formals.items) (map entry_view q.entries.items) (parts_of q.parts.items) (body_view q.body) q.place

abbrev pub sub_step : Sub-F PartTree ModuleTree ProcessTree SubTree → SubTree
sub_step s = sub s.name (map group_view s.formals.items) (kind_view s.kind) (parts_of s.parts.items) (body_view s.body) s.place

-- the readings
abbrev pub part_view : Part → PartTree
part_view = fold-Part PartTree ModuleTree ProcessTree SubTree part_step module_step process_step sub_step

abbrev pub module_view : Module → ModuleTree
module_view = fold-Module PartTree ModuleTree ProcessTree SubTree part_step module_step process_step sub_step

abbrev pub process_view : Process → ProcessTree
process_view = fold-Process PartTree ModuleTree ProcessTree SubTree part_step module_step process_step sub_step

abbrev pub sub_view : Sub → SubTree
sub_view = fold-Sub PartTree ModuleTree ProcessTree SubTree part_step module_step process_step sub_step

abbrev pub parts_view : List Part → PartTrees
parts_view qs = parts_of (map part_view qs)

-- the plain value of a program's tree
abbrev pub tree_view : Tree → ProgramTree
tree_view t = record { name = t.name; params = t.params.items; parts = parts_view t.parts.items; body = body_view t.body; place = t.place }
