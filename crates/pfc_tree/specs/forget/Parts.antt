-- Forgetting the places of parts and programs.
use Rattle.std.specs.Prelude.{map, option_map}
use Rattle.pfc_tree.specs.trees.Parts.{KindTree, EntryTree, ProgramTree, PartTree, PartTrees, SubTree, ModuleTree, ProcessTree, procedure, function, guarded}
use Rattle.pfc_tree.specs.trees.Parts.{consts, types, vars, sub_part, monitor, resource, process_part, no_parts, more_parts, sub, the_module, process}
use Rattle.pfc_tree.specs.shapes.Parts.{KindShape, EntryShape, ProgramShape, PartShape, PartShapes, SubShape, ModuleShape, ProcessShape}
use Rattle.pfc_tree.specs.shapes.Parts as shape
use Rattle.pfc_tree.specs.forget.Exprs.{forget_expr}
use Rattle.pfc_tree.specs.forget.Types.{bare, forget_const_item, forget_type_item, forget_vars, forget_group}
use Rattle.pfc_tree.specs.forget.Stmts.{forget_body}

abbrev pub forget_kind : KindTree → KindShape
forget_kind procedure = shape.procedure
forget_kind (function x p) = shape.function x
forget_kind (guarded e p) = shape.guarded (forget_expr e)

abbrev pub forget_entry : EntryTree → EntryShape
forget_entry n = record { name = n.name; formals = map forget_group n.formals }

abbrev mutual
  pub forget_part : PartTree → PartShape
  forget_part (consts items) = shape.consts (map forget_const_item items)
  forget_part (types items) = shape.types (map forget_type_item items)
  forget_part (vars vs) = shape.vars (forget_vars vs)
  forget_part (sub_part s) = shape.sub_part (forget_sub s)
  forget_part (monitor m) = shape.monitor (forget_module m)
  forget_part (resource m) = shape.resource (forget_module m)
  forget_part (process_part q) = shape.process_part (forget_process q)

  pub forget_parts : PartTrees → PartShapes
  forget_parts no_parts = shape.no_parts
  forget_parts (more_parts q qs) = shape.more_parts (forget_part q) (forget_parts qs)

  pub forget_sub : SubTree → SubShape
  forget_sub (sub x gs k qs b p) = shape.sub x (map forget_group gs) (forget_kind k) (forget_parts qs) (forget_body b)

  pub forget_module : ModuleTree → ModuleShape
  forget_module (the_module x es qs b p p') = shape.the_module x (map bare es) (forget_parts qs) (option_map forget_body b)

  pub forget_process : ProcessTree → ProcessShape
  forget_process (process b x gs ns qs b' p) = shape.process b x (map forget_group gs) (map forget_entry ns) (forget_parts qs) (forget_body b')

-- the program without its places
abbrev pub forget_program : ProgramTree → ProgramShape
forget_program t = record { name = t.name.0; params = bare t.params; parts = forget_parts t.parts; body = forget_body t.body }
