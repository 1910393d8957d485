-- Forgetting the places of constants, types and groups of parameters.
use Rattle.std.specs.Prelude.{List, map, option_map}
use Rattle.pfc_base.specs.declared.places.Place.{Place}
use Rattle.pfc_tree.specs.Symbols.{Text}
use Rattle.pfc_tree.specs.declared.tree.Constant.{Constant}
use Rattle.pfc_tree.specs.declared.tree.Constant.TheVariants.{Number, Named, Literal}
use Rattle.pfc_tree.specs.declared.tree.Range.{Range}
use Rattle.pfc_tree.specs.declared.tree.ConstItem.{ConstItem}
use Rattle.pfc_tree.specs.trees.Types.{TypeTree, VarTree, VarTrees, TypeItemTree, GroupTree, named, channel, array, fields, var_item, no_vars, more_vars}
use Rattle.pfc_tree.specs.shapes.Types.{TypeShape, VarShape, VarShapes, ConstantShape, RangeShape, ConstItemShape, TypeItemShape, GroupShape}
use Rattle.pfc_tree.specs.shapes.Types as shape

-- names without their places
abbrev pub bare : List (Text × Place) → List Text
bare xs = map (λ x. x.0) xs

abbrev pub forget_constant : Constant → ConstantShape
forget_constant (Number o n p) = shape.number (option_map (λ x. x.0) o) n
forget_constant (Named o x p) = shape.constant (option_map (λ x. x.0) o) x
forget_constant (Literal x p) = shape.literal x

abbrev pub forget_range : Range → RangeShape
forget_range r = record { low = forget_constant r.low; high = forget_constant r.high }

abbrev pub forget_const_item : ConstItem → ConstItemShape
forget_const_item i = record { name = i.name; value = forget_constant i.value }

abbrev mutual
  pub forget_type : TypeTree → TypeShape
  forget_type (named x p) = shape.named x
  forget_type (channel t p) = shape.channel (forget_type t)
  forget_type (array rs t p) = shape.array (map forget_range rs) (forget_type t)
  forget_type (fields vs b p) = shape.fields (forget_vars vs) b

  pub forget_var : VarTree → VarShape
  forget_var (var_item xs t) = shape.var_item (bare xs) (forget_type t)

  pub forget_vars : VarTrees → VarShapes
  forget_vars no_vars = shape.no_vars
  forget_vars (more_vars v vs) = shape.more_vars (forget_var v) (forget_vars vs)

abbrev pub forget_type_item : TypeItemTree → TypeItemShape
forget_type_item i = record { name = i.name; form = forget_type i.form }

abbrev pub forget_group : GroupTree → GroupShape
forget_group g = record { reference = g.reference; names = bare g.names; form = g.form.0 }
