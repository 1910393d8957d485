-- The traces of constants, types and groups of parameters.
use Rattle.std.specs.Prelude.{Bool, true, false, List, [], ◌∷◌, ◌++◌}
use Rattle.pfc_base.specs.declared.places.Place.{Place}
use Rattle.pfc_tree.specs.declared.tree.Constant.{Constant}
use Rattle.pfc_tree.specs.declared.tree.Constant.TheVariants.{Number, Named, Literal}
use Rattle.pfc_tree.specs.declared.tree.Range.{Range}
use Rattle.pfc_tree.specs.declared.tree.ConstItem.{ConstItem}
use Rattle.pfc_tree.specs.Symbols.{Text}
use Rattle.pfc_tree.specs.trees.Types.{TypeTree, VarTree, VarTrees, TypeItemTree, GroupTree, named, channel, array, fields, var_item, no_vars, more_vars}
use Rattle.pfc_tree.specs.kept.Exprs.{Step, next, at, sign_trace}

abbrev pub comma_names_trace : List (Text × Place) → List Step
comma_names_trace [] = []
comma_names_trace (x ∷ xs) = next ∷ at x.1 ++ comma_names_trace xs

abbrev pub names_trace : List (Text × Place) → List Step
names_trace [] = []
names_trace (x ∷ xs) = at x.1 ++ comma_names_trace xs

abbrev pub constant_trace : Constant → List Step
constant_trace (Number sign n p) = sign_trace sign ++ at p
constant_trace (Named sign x p) = sign_trace sign ++ at p
constant_trace (Literal x p) = at p

abbrev pub comma_constants_trace : List Constant → List Step
comma_constants_trace [] = []
comma_constants_trace (c ∷ cs) = next ∷ constant_trace c ++ comma_constants_trace cs

abbrev pub constants_trace : List Constant → List Step
constants_trace [] = []
constants_trace (c ∷ cs) = constant_trace c ++ comma_constants_trace cs

abbrev pub range_trace : Range → List Step
range_trace r = constant_trace r.low ++ next ∷ constant_trace r.high

abbrev pub comma_ranges_trace : List Range → List Step
comma_ranges_trace [] = []
comma_ranges_trace (r ∷ rs) = next ∷ range_trace r ++ comma_ranges_trace rs

abbrev pub ranges_trace : List Range → List Step
ranges_trace [] = []
ranges_trace (r ∷ rs) = range_trace r ++ comma_ranges_trace rs

-- a word or a sign that may stand, whose place is not kept
abbrev pub flag_trace : Bool → List Step
flag_trace false = []
flag_trace true = next ∷ []

abbrev mutual
  pub type_trace : TypeTree → List Step
  type_trace (named x p) = at p
  type_trace (channel t p) = at p ++ next ∷ type_trace t
  type_trace (array rs t p) = at p ++ next ∷ ranges_trace rs ++ next ∷ next ∷ type_trace t
  type_trace (fields vs last p) = at p ++ fields_trace vs ++ flag_trace last ++ next ∷ []

  pub var_trace : VarTree → List Step
  var_trace (var_item xs t) = names_trace xs ++ next ∷ type_trace t

  pub fields_trace : VarTrees → List Step
  fields_trace no_vars = []
  fields_trace (more_vars v vs) = var_trace v ++ semicolon_fields_trace vs

  pub semicolon_fields_trace : VarTrees → List Step
  semicolon_fields_trace no_vars = []
  semicolon_fields_trace (more_vars v vs) = next ∷ var_trace v ++ semicolon_fields_trace vs

abbrev pub vars_trace : VarTrees → List Step
vars_trace no_vars = []
vars_trace (more_vars v vs) = var_trace v ++ next ∷ vars_trace vs

abbrev pub const_items_trace : List ConstItem → List Step
const_items_trace [] = []
const_items_trace (i ∷ items) = at i.place ++ next ∷ constant_trace i.value ++ next ∷ const_items_trace items

abbrev pub type_items_trace : List TypeItemTree → List Step
type_items_trace [] = []
type_items_trace (i ∷ items) = at i.place ++ next ∷ type_trace i.form ++ next ∷ type_items_trace items

abbrev pub group_trace : GroupTree → List Step
group_trace g = flag_trace g.reference ++ names_trace g.names ++ next ∷ at g.form.1

abbrev pub semicolon_groups_trace : List GroupTree → List Step
semicolon_groups_trace [] = next ∷ []
semicolon_groups_trace (g ∷ gs) = next ∷ group_trace g ++ semicolon_groups_trace gs

abbrev pub formals_trace : List GroupTree → List Step
formals_trace [] = []
formals_trace (g ∷ gs) = next ∷ group_trace g ++ semicolon_groups_trace gs
