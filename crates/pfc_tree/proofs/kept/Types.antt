-- Types and groups of parameters: a trace passes as many tokens as are written.
use Rattle.std.proofs.Common.{◌≡◌, Bool, true, false, List, [], ◌∷◌, length, refl, map}
use Rattle.pfc_base.specs.declared.places.Place.{Place}
use Rattle.pfc_tree.specs.Symbols.{Text}
use Rattle.pfc_tree.specs.kept.Exprs.{passed}
use Rattle.pfc_tree.proofs.kept.Passing.{passing}
use Rattle.pfc_tree.specs.declared.tree.Constant.{Constant}
use Rattle.pfc_tree.specs.declared.tree.Constant.TheVariants.{Number, Named, Literal}
use Rattle.pfc_tree.specs.declared.tree.Range.{Range}
use Rattle.pfc_tree.specs.declared.tree.ConstItem.{ConstItem}
use Rattle.pfc_tree.specs.trees.Types.{TypeTree, VarTree, VarTrees, TypeItemTree, GroupTree, named, channel, array, fields, var_item, no_vars, more_vars}
use Rattle.pfc_tree.specs.forget.Types.{forget_type, forget_var, forget_vars, bare, forget_constant, forget_range, forget_const_item, forget_type_item}
use Rattle.pfc_tree.specs.forget.Types.{forget_group}
use Rattle.pfc_tree.specs.tokens.Types.{type_tokens, var_tokens, fields_tokens, semicolon_fields_tokens, names_tokens, comma_names_tokens, constant_tokens}
use Rattle.pfc_tree.specs.tokens.Types.{constants_tokens, comma_constants_tokens, range_tokens, ranges_tokens, comma_ranges_tokens, last_tokens, vars_tokens}
use Rattle.pfc_tree.specs.tokens.Types.{const_items_tokens, type_items_tokens, reference_tokens, group_tokens, formals_tokens, semicolon_groups_tokens}
use Rattle.pfc_tree.specs.kept.Types.{type_trace, var_trace, fields_trace, semicolon_fields_trace, names_trace, comma_names_trace, constant_trace}
use Rattle.pfc_tree.specs.kept.Types.{constants_trace, comma_constants_trace, range_trace, ranges_trace, comma_ranges_trace, flag_trace, vars_trace}
use Rattle.pfc_tree.specs.kept.Types.{const_items_trace, type_items_trace, group_trace, formals_trace, semicolon_groups_trace}
use Rattle.pfc_tree.proofs.kept.Exprs.{sign_passed}

pub comma_names_passed : (xs : List (Text × Place)) → passed (comma_names_trace xs) ≡ length (comma_names_tokens (bare xs))
comma_names_passed [] = refl
comma_names_passed (x ∷ xs) = search (passing, comma_names_passed xs) depth 14

pub names_passed : (xs : List (Text × Place)) → passed (names_trace xs) ≡ length (names_tokens (bare xs))
names_passed [] = refl
names_passed (x ∷ xs) = search (passing, comma_names_passed xs) depth 14

pub constant_passed : (c : Constant) → passed (constant_trace c) ≡ length (constant_tokens (forget_constant c))
constant_passed (Number o n p) = search (passing, sign_passed o) depth 14
constant_passed (Named o x p) = search (passing, sign_passed o) depth 14
constant_passed (Literal x p) = refl

pub comma_constants_passed : (xs : List Constant) → passed (comma_constants_trace xs) ≡ length (comma_constants_tokens (map forget_constant xs))
comma_constants_passed [] = refl
comma_constants_passed (x ∷ xs) = search (passing, constant_passed x, comma_constants_passed xs) depth 14

pub constants_passed : (xs : List Constant) → passed (constants_trace xs) ≡ length (constants_tokens (map forget_constant xs))
constants_passed [] = refl
constants_passed (x ∷ xs) = search (passing, constant_passed x, comma_constants_passed xs) depth 14

range_passed : (r : Range) → passed (range_trace r) ≡ length (range_tokens (forget_range r))
range_passed r = search (passing, constant_passed r.low, constant_passed r.high) depth 14

pub comma_ranges_passed : (xs : List Range) → passed (comma_ranges_trace xs) ≡ length (comma_ranges_tokens (map forget_range xs))
comma_ranges_passed [] = refl
comma_ranges_passed (x ∷ xs) = search (passing, range_passed x, comma_ranges_passed xs) depth 14

pub ranges_passed : (xs : List Range) → passed (ranges_trace xs) ≡ length (ranges_tokens (map forget_range xs))
ranges_passed [] = refl
ranges_passed (x ∷ xs) = search (passing, range_passed x, comma_ranges_passed xs) depth 14

pub last_passed : (b : Bool) → passed (flag_trace b) ≡ length (last_tokens b)
last_passed false = refl
last_passed true = refl

mutual
  pub type_passed : (x : TypeTree) → passed (type_trace x) ≡ length (type_tokens (forget_type x))
  type_passed (named x p) = search passing depth 14
  type_passed (channel t p) = search (passing, type_passed t) depth 14
  type_passed (array rs t p) = search (passing, ranges_passed rs, type_passed t) depth 14
  type_passed (fields vs b p) = search (passing, fields_passed vs, last_passed b) depth 14

  pub var_passed : (x : VarTree) → passed (var_trace x) ≡ length (var_tokens (forget_var x))
  var_passed (var_item xs t) = search (passing, names_passed xs, type_passed t) depth 14

  pub fields_passed : (xs : VarTrees) → passed (fields_trace xs) ≡ length (fields_tokens (forget_vars xs))
  fields_passed no_vars = refl
  fields_passed (more_vars v vs) = search (passing, var_passed v, semicolon_fields_passed vs) depth 14

  pub semicolon_fields_passed : (xs : VarTrees) → passed (semicolon_fields_trace xs) ≡ length (semicolon_fields_tokens (forget_vars xs))
  semicolon_fields_passed no_vars = refl
  semicolon_fields_passed (more_vars v vs) = search (passing, var_passed v, semicolon_fields_passed vs) depth 14

pub vars_passed : (xs : VarTrees) → passed (vars_trace xs) ≡ length (vars_tokens (forget_vars xs))
vars_passed no_vars = refl
vars_passed (more_vars v vs) = search (passing, var_passed v, vars_passed vs) depth 14

pub const_items_passed : (xs : List ConstItem) → passed (const_items_trace xs) ≡ length (const_items_tokens (map forget_const_item xs))
const_items_passed [] = refl
const_items_passed (x ∷ xs) = search (passing, constant_passed x.value, const_items_passed xs) depth 14

pub type_items_passed : (xs : List TypeItemTree) → passed (type_items_trace xs) ≡ length (type_items_tokens (map forget_type_item xs))
type_items_passed [] = refl
type_items_passed (x ∷ xs) = search (passing, type_passed x.form, type_items_passed xs) depth 14

reference_passed : (b : Bool) → passed (flag_trace b) ≡ length (reference_tokens b)
reference_passed false = refl
reference_passed true = refl

group_passed : (g : GroupTree) → passed (group_trace g) ≡ length (group_tokens (forget_group g))
group_passed g = search (passing, reference_passed g.reference, names_passed g.names) depth 14

pub semicolon_groups_passed : (xs : List GroupTree) → passed (semicolon_groups_trace xs) ≡ length (semicolon_groups_tokens (map forget_group xs))
semicolon_groups_passed [] = refl
semicolon_groups_passed (x ∷ xs) = search (passing, group_passed x, semicolon_groups_passed xs) depth 14

pub formals_passed : (xs : List GroupTree) → passed (formals_trace xs) ≡ length (formals_tokens (map forget_group xs))
formals_passed [] = refl
formals_passed (x ∷ xs) = search (passing, group_passed x, semicolon_groups_passed xs) depth 14
