-- The depth of each token of a type, beside the depth of what stands around it: a type adds one. It counts wherever the
-- grammar has a type; the type names of parameters and of results are no types in this sense.
use Rattle.std.specs.Prelude.{ℕ, List, [], ◌∷◌, ◌++◌}
use Rattle.pfc_tree.specs.shapes.Types.{TypeItemShape, ConstItemShape, TypeShape, VarShape, VarShapes, named, channel, array, fields, var_item, no_vars}
use Rattle.pfc_tree.specs.shapes.Types.{more_vars}
use Rattle.pfc_tree.specs.tokens.Types.{names_tokens, ranges_tokens, last_tokens, const_items_tokens}
use Rattle.pfc_tree.specs.depths.Exprs.{deeper, level}

abbrev mutual
  pub type_depths : TypeShape → List ℕ
  type_depths (named x) = deeper (0 ∷ [])
  type_depths (channel t) = deeper (0 ∷ 0 ∷ type_depths t)
  type_depths (array rs t) = deeper (0 ∷ 0 ∷ level (ranges_tokens rs) ++ 0 ∷ 0 ∷ type_depths t)
  type_depths (fields vs last) = deeper (0 ∷ fields_depths vs ++ level (last_tokens last) ++ 0 ∷ [])

  pub var_depths : VarShape → List ℕ
  var_depths (var_item xs t) = level (names_tokens xs) ++ 0 ∷ type_depths t

  pub fields_depths : VarShapes → List ℕ
  fields_depths no_vars = []
  fields_depths (more_vars v vs) = var_depths v ++ semicolon_fields_depths vs

  pub semicolon_fields_depths : VarShapes → List ℕ
  semicolon_fields_depths no_vars = []
  semicolon_fields_depths (more_vars v vs) = 0 ∷ var_depths v ++ semicolon_fields_depths vs

abbrev pub vars_depths : VarShapes → List ℕ
vars_depths no_vars = []
vars_depths (more_vars v vs) = var_depths v ++ 0 ∷ vars_depths vs

abbrev pub const_items_depths : List ConstItemShape → List ℕ
const_items_depths items = level (const_items_tokens items)

abbrev pub type_items_depths : List TypeItemShape → List ℕ
type_items_depths [] = []
type_items_depths (i ∷ items) = 0 ∷ 0 ∷ type_depths i.form ++ 0 ∷ type_items_depths items
