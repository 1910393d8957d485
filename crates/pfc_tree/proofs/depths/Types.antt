-- Types: as many depths as tokens.
use Rattle.std.proofs.Common.{◌≡◌, List, [], ◌∷◌, length, refl}
use Rattle.pfc_tree.proofs.depths.Evens.{evens, flat}
use Rattle.pfc_tree.specs.tokens.Types.{names_tokens, ranges_tokens}
use Rattle.pfc_tree.specs.shapes.Types.{TypeShape, VarShape, VarShapes, TypeItemShape, named, channel, array, fields, var_item, no_vars, more_vars}
use Rattle.pfc_tree.specs.tokens.Types.{type_tokens, var_tokens, fields_tokens, semicolon_fields_tokens, vars_tokens, type_items_tokens}
use Rattle.pfc_tree.specs.depths.Types.{type_depths, var_depths, fields_depths, semicolon_fields_depths, vars_depths, type_items_depths}

mutual
  pub type_even : (x : TypeShape) → length (type_depths x) ≡ length (type_tokens x)
  type_even (named x) = search evens depth 14
  type_even (channel t) = search (evens, type_even t) depth 14
  type_even (array rs t) = search (evens, flat (ranges_tokens rs), type_even t) depth 14
  type_even (fields vs b) = search (evens, fields_even vs) depth 14

  pub var_even : (x : VarShape) → length (var_depths x) ≡ length (var_tokens x)
  var_even (var_item xs t) = search (evens, flat (names_tokens xs), type_even t) depth 14

  pub fields_even : (xs : VarShapes) → length (fields_depths xs) ≡ length (fields_tokens xs)
  fields_even no_vars = refl
  fields_even (more_vars v vs) = search (evens, var_even v, semicolon_fields_even vs) depth 14

  pub semicolon_fields_even : (xs : VarShapes) → length (semicolon_fields_depths xs) ≡ length (semicolon_fields_tokens xs)
  semicolon_fields_even no_vars = refl
  semicolon_fields_even (more_vars v vs) = search (evens, var_even v, semicolon_fields_even vs) depth 14

pub vars_even : (xs : VarShapes) → length (vars_depths xs) ≡ length (vars_tokens xs)
vars_even no_vars = refl
vars_even (more_vars v vs) = search (evens, var_even v, vars_even vs) depth 14

pub type_items_even : (items : List TypeItemShape) → length (type_items_depths items) ≡ length (type_items_tokens items)
type_items_even [] = refl
type_items_even (i ∷ items) = search (evens, type_even i.form, type_items_even items) depth 14
