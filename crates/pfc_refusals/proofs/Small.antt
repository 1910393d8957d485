-- The words of the rules of names, constants, ranges and arguments.
use Rattle.std.proofs.Common.{refl}
use Rattle.std.specs.Prelude.{Bool, List, [], ◌∷◌, Option, Some, None}
use Rattle.pfc_base.specs.declared.places.Place.{Place}
use Rattle.pfc_tree.specs.declared.tree.Sign.{Sign}
use Rattle.pfc_tree.specs.declared.tree.Constant.{Constant}
use Rattle.pfc_tree.specs.declared.tree.Constant.TheVariants.{Number, Named as NamedConstant, Literal}
use Rattle.pfc_tree.specs.declared.tree.Range.{Range}
use Rattle.pfc_types.specs.Types.{Forms}
use Rattle.pfc_types.specs.Scopes.{Names, Level, look}
use Rattle.pfc_types.specs.declared.types.TypeId.{TypeId}
use Rattle.pfc_types.specs.declared.scope.Meaning.{Meaning}
use Rattle.pfc_types.specs.declared.scope.Meaning.TheVariants.{Constant as AConstant}
use Rattle.pfc_types.specs.declared.view.Around.{Around}
use Rattle.pfc_types.specs.rules.Kinds.{Kind, a_constant, name_rules, type_name_rules}
use Rattle.pfc_types.specs.rules.Constants.{Ordinal, constant_value, constant_place, sign_rule, broken_constant, bounds_rule, broken_range, broken_ranges}
use Rattle.pfc_types.specs.rules.Routines.{Want, a_value, a_simple_value, a_variable_of, want_rules, Site, anywhere, in_main, in_monitor_sub, site_rule}
use Rattle.pfc_refusals.proofs.Worded.{Worded, no_rule, ◌&◌, rule, broken_rule, either}

pub name_worded : (k : Kind) (m : Option Meaning) (p : Place) → Worded (name_rules k m p)
name_worded k None p = broken_rule _ _ refl
name_worded k (Some m) p = rule _ _ _ refl

pub type_name_worded : (carried : Bool) (m : Option Meaning) (p : Place) → Worded (type_name_rules carried m p)
type_name_worded carried None p = broken_rule _ _ refl
type_name_worded carried (Some m) p = either _ (rule _ _ _ refl) (broken_rule _ _ refl)

sign_worded : (sign : Option (Sign × Place)) (m : Option Meaning) → Worded (sign_rule sign m)
sign_worded (Some sign) (Some (AConstant t v)) = rule _ _ _ refl
sign_worded sign m = no_rule

pub constant_worded : (scopes : List Names) (view : List Level) (c : Constant) → Worded (broken_constant scopes view c)
constant_worded scopes view (Number sign n p) = no_rule
constant_worded scopes view (NamedConstant sign x p) = name_worded a_constant (look scopes view x) p & sign_worded sign (look scopes view x)
constant_worded scopes view (Literal x p) = rule _ _ _ refl

bounds_worded : (a b : Option Ordinal) (p : Place) → Worded (bounds_rule a b p)
bounds_worded (Some a) (Some b) p = rule _ _ _ refl
bounds_worded a b p = no_rule

range_worded : (scopes : List Names) (view : List Level) (r : Range) → Worded (broken_range scopes view r)
range_worded scopes view r =
    constant_worded scopes view r.low
    & constant_worded scopes view r.high
    & bounds_worded (constant_value scopes view r.low) (constant_value scopes view r.high) (constant_place r.low)

pub ranges_worded : (scopes : List Names) (view : List Level) (rs : List Range) → Worded (broken_ranges scopes view rs)
ranges_worded scopes view [] = no_rule
ranges_worded scopes view (r ∷ rs) = range_worded scopes view r & ranges_worded scopes view rs

pub want_worded : (forms : Forms) (w : Want) (lent : Bool) (u : Option TypeId) (p : Place) → Worded (want_rules forms w lent u p)
want_worded forms (a_value t) lent u p = rule _ _ _ refl & rule _ _ _ refl
want_worded forms a_simple_value lent u p = rule _ _ _ refl & rule _ _ _ refl
want_worded forms (a_variable_of t) lent u p = rule _ _ _ refl & rule _ _ _ refl

pub site_worded : (around : Around) (s : Site) (first : Option TypeId) (p : Place) → Worded (site_rule around s first p)
site_worded around anywhere first p = no_rule
site_worded around in_main first p = rule _ _ _ refl
site_worded around in_monitor_sub first p = rule _ _ _ refl
