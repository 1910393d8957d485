-- A constant, a type or a group of parameters is determined by its shape and the tokens.
use Rattle.std.proofs.Common.{refl, List, [], ◌∷◌, map}
use Rattle.pfc_base.specs.declared.places.Place.{Place}
use Rattle.pfc_tree.specs.Symbols.{Text}
use Rattle.pfc_tree.specs.declared.tree.Constant.{Constant}
use Rattle.pfc_tree.specs.declared.tree.Constant.TheVariants.{Number, Named, Literal}
use Rattle.pfc_tree.specs.declared.tree.Range.{Range}
use Rattle.pfc_tree.specs.declared.tree.ConstItem.{ConstItem}
use Rattle.pfc_tree.specs.shapes.Types.{ConstantShape, RangeShape, ConstItemShape, TypeItemShape, GroupShape, TypeShape, VarShape, VarShapes}
use Rattle.pfc_tree.specs.shapes.Types as shape
use Rattle.pfc_tree.specs.trees.Types.{TypeTree, VarTree, VarTrees, TypeItemTree, GroupTree, named, channel, array, fields, var_item, no_vars, more_vars}
use Rattle.pfc_tree.specs.forget.Types.{bare, forget_constant, forget_range, forget_const_item, forget_type, forget_var, forget_vars, forget_type_item}
use Rattle.pfc_tree.specs.forget.Types.{forget_group}
use Rattle.pfc_tree.specs.kept.Exprs.{here, next}
use Rattle.pfc_tree.specs.kept.Types.{comma_names_trace, names_trace, constant_trace, comma_constants_trace, constants_trace, range_trace, comma_ranges_trace}
use Rattle.pfc_tree.specs.kept.Types.{ranges_trace, flag_trace, type_trace, var_trace, fields_trace, semicolon_fields_trace, vars_trace, const_items_trace}
use Rattle.pfc_tree.specs.kept.Types.{type_items_trace, group_trace, semicolon_groups_trace, formals_trace}
use Rattle.pfc_grammar.proofs.placed_one.Filling.{Filler, fill_done, fill_here, fill_next, fill_part, fill_last, fill_flag, Fills, fills_done, fills_here}
use Rattle.pfc_grammar.proofs.placed_one.Filling.{fills_next, fills_part, fills_last, fills_three, fills_flag}
use Rattle.pfc_grammar.proofs.placed_one.Exprs.{fill_sign, fills_sign}

abbrev pub fill_comma_names : List Text → Filler (List (Text × Place))
fill_comma_names [] = fill_done []
fill_comma_names (x ∷ xs) = fill_next (fill_here (λ p. fill_next (fill_last (fill_comma_names xs) (λ xs'. (x, p) ∷ xs'))))

pub fills_comma_names : (xs : List (Text × Place)) → Fills (comma_names_trace xs) (fill_comma_names (bare xs)) xs
fills_comma_names [] = fills_done _
fills_comma_names (x ∷ xs) = fills_next (fills_here _ (fills_next (fills_last _ (fills_comma_names xs) refl)))

abbrev pub fill_names : List Text → Filler (List (Text × Place))
fill_names [] = fill_done []
fill_names (x ∷ xs) = fill_here (λ p. fill_next (fill_last (fill_comma_names xs) (λ xs'. (x, p) ∷ xs')))

pub fills_names : (xs : List (Text × Place)) → Fills (names_trace xs) (fill_names (bare xs)) xs
fills_names [] = fills_done _
fills_names (x ∷ xs) = fills_here _ (fills_next (fills_last _ (fills_comma_names xs) refl))

abbrev pub fill_constant : ConstantShape → Filler Constant
fill_constant (shape.number o n) = fill_part (fill_sign o) (λ o'. fill_here (λ p. fill_next (fill_done (Number o' n p))))
fill_constant (shape.constant o x) = fill_part (fill_sign o) (λ o'. fill_here (λ p. fill_next (fill_done (Named o' x p))))
fill_constant (shape.literal x) = fill_here (λ p. fill_next (fill_done (Literal x p)))

pub fills_constant : (x : Constant) → Fills (constant_trace x) (fill_constant (forget_constant x)) x
fills_constant (Number o n p) = fills_part _ (fills_sign o) (fills_here _ (fills_next (fills_done _)))
fills_constant (Named o x p) = fills_part _ (fills_sign o) (fills_here _ (fills_next (fills_done _)))
fills_constant (Literal x p) = fills_here _ (fills_next (fills_done _))

abbrev pub fill_comma_constants : List ConstantShape → Filler (List Constant)
fill_comma_constants [] = fill_done []
fill_comma_constants (c ∷ cs) = fill_next (fill_part (fill_constant c) (λ c'. fill_last (fill_comma_constants cs) (λ cs'. c' ∷ cs')))

pub fills_comma_constants : (xs : List Constant) → Fills (comma_constants_trace xs) (fill_comma_constants (map forget_constant xs)) xs
fills_comma_constants [] = fills_done _
fills_comma_constants (c ∷ cs) = fills_next (fills_part _ (fills_constant c) (fills_last _ (fills_comma_constants cs) refl))

abbrev pub fill_constants : List ConstantShape → Filler (List Constant)
fill_constants [] = fill_done []
fill_constants (c ∷ cs) = fill_part (fill_constant c) (λ c'. fill_last (fill_comma_constants cs) (λ cs'. c' ∷ cs'))

pub fills_constants : (xs : List Constant) → Fills (constants_trace xs) (fill_constants (map forget_constant xs)) xs
fills_constants [] = fills_done _
fills_constants (c ∷ cs) = fills_part _ (fills_constant c) (fills_last _ (fills_comma_constants cs) refl)

abbrev fill_range : RangeShape → Filler Range
fill_range r = fill_part (fill_constant r.low) (λ low. fill_next (fill_last (fill_constant r.high) (λ high. record { low = low; high = high })))

fills_range : (x : Range) → Fills (range_trace x) (fill_range (forget_range x)) x
fills_range r = fills_part _ (fills_constant r.low) (fills_next (fills_last _ (fills_constant r.high) refl))

abbrev fill_comma_ranges : List RangeShape → Filler (List Range)
fill_comma_ranges [] = fill_done []
fill_comma_ranges (r ∷ rs) = fill_next (fill_part (fill_range r) (λ r'. fill_last (fill_comma_ranges rs) (λ rs'. r' ∷ rs')))

fills_comma_ranges : (xs : List Range) → Fills (comma_ranges_trace xs) (fill_comma_ranges (map forget_range xs)) xs
fills_comma_ranges [] = fills_done _
fills_comma_ranges (r ∷ rs) = fills_next (fills_part _ (fills_range r) (fills_last _ (fills_comma_ranges rs) refl))

abbrev fill_ranges : List RangeShape → Filler (List Range)
fill_ranges [] = fill_done []
fill_ranges (r ∷ rs) = fill_part (fill_range r) (λ r'. fill_last (fill_comma_ranges rs) (λ rs'. r' ∷ rs'))

fills_ranges : (xs : List Range) → Fills (ranges_trace xs) (fill_ranges (map forget_range xs)) xs
fills_ranges [] = fills_done _
fills_ranges (r ∷ rs) = fills_part _ (fills_range r) (fills_last _ (fills_comma_ranges rs) refl)

abbrev mutual
  pub fill_type : TypeShape → Filler TypeTree
  fill_type (shape.named x) = fill_here (λ p. fill_next (fill_done (named x p)))
  fill_type (shape.channel t) = fill_here (λ p. fill_next (fill_next (fill_last (fill_type t) (λ t'. channel t' p))))
  fill_type (shape.array rs t) =
      fill_here (λ p. fill_next (fill_next (fill_part (fill_ranges rs) (λ rs'. fill_next (fill_next (fill_last (fill_type t) (λ t'. array rs' t' p)))))))
  fill_type (shape.fields vs b) =
      fill_here (λ p. fill_next (fill_part (fill_fields vs) (λ vs'. fill_part (fill_flag b) (λ b'. fill_next (fill_done (fields vs' b' p))))))

  pub fill_var : VarShape → Filler VarTree
  fill_var (shape.var_item xs t) = fill_part (fill_names xs) (λ xs'. fill_next (fill_last (fill_type t) (λ t'. var_item xs' t')))

  pub fill_fields : VarShapes → Filler VarTrees
  fill_fields shape.no_vars = fill_done no_vars
  fill_fields (shape.more_vars v vs) = fill_part (fill_var v) (λ v'. fill_last (fill_semicolon_fields vs) (λ vs'. more_vars v' vs'))

  pub fill_semicolon_fields : VarShapes → Filler VarTrees
  fill_semicolon_fields shape.no_vars = fill_done no_vars
  fill_semicolon_fields (shape.more_vars v vs) = fill_next (fill_part (fill_var v) (λ v'. fill_last (fill_semicolon_fields vs) (λ vs'. more_vars v' vs')))

mutual
  pub fills_type : (x : TypeTree) → Fills (type_trace x) (fill_type (forget_type x)) x
  fills_type (named x p) = fills_here _ (fills_next (fills_done _))
  fills_type (channel t p) = fills_here _ (fills_next (fills_next (fills_last _ (fills_type t) refl)))
  fills_type (array rs t p) =
      fills_here _ (fills_next (fills_next (fills_part _ (fills_ranges rs) (fills_next (fills_next (fills_last _ (fills_type t) refl))))))
  fills_type (fields vs b p) =
      fills_here _ (fills_next (fills_three (fields_trace vs) (flag_trace b) (next ∷ [])
      (fills_part _ (fills_fields vs) (fills_part _ (fills_flag b) (fills_next (fills_done _))))))

  pub fills_var : (x : VarTree) → Fills (var_trace x) (fill_var (forget_var x)) x
  fills_var (var_item xs t) = fills_part _ (fills_names xs) (fills_next (fills_last _ (fills_type t) refl))

  pub fills_fields : (xs : VarTrees) → Fills (fields_trace xs) (fill_fields (forget_vars xs)) xs
  fills_fields no_vars = fills_done _
  fills_fields (more_vars v vs) = fills_part _ (fills_var v) (fills_last _ (fills_semicolon_fields vs) refl)

  pub fills_semicolon_fields : (xs : VarTrees) → Fills (semicolon_fields_trace xs) (fill_semicolon_fields (forget_vars xs)) xs
  fills_semicolon_fields no_vars = fills_done _
  fills_semicolon_fields (more_vars v vs) = fills_next (fills_part _ (fills_var v) (fills_last _ (fills_semicolon_fields vs) refl))

abbrev pub fill_vars : VarShapes → Filler VarTrees
fill_vars shape.no_vars = fill_done no_vars
fill_vars (shape.more_vars v vs) = fill_part (fill_var v) (λ v'. fill_next (fill_last (fill_vars vs) (λ vs'. more_vars v' vs')))

pub fills_vars : (xs : VarTrees) → Fills (vars_trace xs) (fill_vars (forget_vars xs)) xs
fills_vars no_vars = fills_done _
fills_vars (more_vars v vs) = fills_part _ (fills_var v) (fills_next (fills_last _ (fills_vars vs) refl))

abbrev pub fill_const_items : List ConstItemShape → Filler (List ConstItem)
fill_const_items [] = fill_done []
fill_const_items (i ∷ is) =
    fill_here (λ p. fill_next
    (fill_next (fill_part (fill_constant i.value)
    (λ value. fill_next (fill_last (fill_const_items is) (λ is'. record { name = i.name; value = value; place = p } ∷ is'))))))

pub fills_const_items : (xs : List ConstItem) → Fills (const_items_trace xs) (fill_const_items (map forget_const_item xs)) xs
fills_const_items [] = fills_done _
fills_const_items (i ∷ is) =
    fills_here _ (fills_next (fills_next (fills_part _ (fills_constant i.value) (fills_next (fills_last _ (fills_const_items is) refl)))))

abbrev pub fill_type_items : List TypeItemShape → Filler (List TypeItemTree)
fill_type_items [] = fill_done []
fill_type_items (i ∷ is) =
    fill_here (λ p. fill_next
    (fill_next (fill_part (fill_type i.form)
    (λ form. fill_next (fill_last (fill_type_items is) (λ is'. record { name = i.name; form = form; place = p } ∷ is'))))))

pub fills_type_items : (xs : List TypeItemTree) → Fills (type_items_trace xs) (fill_type_items (map forget_type_item xs)) xs
fills_type_items [] = fills_done _
fills_type_items (i ∷ is) = fills_here _ (fills_next (fills_next (fills_part _ (fills_type i.form) (fills_next (fills_last _ (fills_type_items is) refl)))))

abbrev fill_group : GroupShape → Filler GroupTree
fill_group g = fill_part (fill_flag g.reference)
    (λ b. fill_part (fill_names g.names) (λ xs. fill_next (fill_here (λ p. fill_next (fill_done (record { reference = b; names = xs; form = (g.form, p) }))))))

fills_group : (x : GroupTree) → Fills (group_trace x) (fill_group (forget_group x)) x
fills_group g = fills_three (flag_trace g.reference) (names_trace g.names) (next ∷ here g.form.1 ∷ next ∷ [])
    (fills_part _ (fills_flag g.reference) (fills_part _ (fills_names g.names) (fills_next (fills_here _ (fills_next (fills_done _))))))

abbrev fill_semicolon_groups : List GroupShape → Filler (List GroupTree)
fill_semicolon_groups [] = fill_next (fill_done [])
fill_semicolon_groups (g ∷ gs) = fill_next (fill_part (fill_group g) (λ g'. fill_last (fill_semicolon_groups gs) (λ gs'. g' ∷ gs')))

fills_semicolon_groups : (xs : List GroupTree) → Fills (semicolon_groups_trace xs) (fill_semicolon_groups (map forget_group xs)) xs
fills_semicolon_groups [] = fills_next (fills_done _)
fills_semicolon_groups (g ∷ gs) = fills_next (fills_part _ (fills_group g) (fills_last _ (fills_semicolon_groups gs) refl))

abbrev pub fill_formals : List GroupShape → Filler (List GroupTree)
fill_formals [] = fill_done []
fill_formals (g ∷ gs) = fill_next (fill_part (fill_group g) (λ g'. fill_last (fill_semicolon_groups gs) (λ gs'. g' ∷ gs')))

pub fills_formals : (xs : List GroupTree) → Fills (formals_trace xs) (fill_formals (map forget_group xs)) xs
fills_formals [] = fills_done _
fills_formals (g ∷ gs) = fills_next (fills_part _ (fills_group g) (fills_last _ (fills_semicolon_groups gs) refl))
