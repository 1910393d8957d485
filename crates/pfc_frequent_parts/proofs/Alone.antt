-- Selectors that are one index alone.
use Rattle.std.proofs.Common.{◌≡◌, List, [], Bool, Option, Some, sym, ap, ◌∙◌}
use Rattle.pfc_base.specs.declared.places.Place.{Place}
use Rattle.pfc_tree.specs.declared.tree.Desig.{Desig, out-Desig}
use Rattle.pfc_tree.specs.declared.tree.Selector.{Selector}
use Rattle.pfc_tree.specs.trees.Exprs.{ActualTrees, DesigTree, ExprTree, ExprTrees, SelectorTrees, applied, index, field, no_exprs, more_exprs}
use Rattle.pfc_tree.specs.trees.Exprs.{no_selectors, more_selectors}
use Rattle.pfc_tree.specs.views.Exprs.{desig_view, selectors_view}
use Rattle.pfc_types.specs.Scopes.{meaning_of}
use Rattle.pfc_types.specs.declared.scope.Meaning.{Meaning}
use Rattle.pfc_types.specs.declared.scope.Meaning.TheVariants.{Variable}
use Rattle.pfc_types.specs.declared.types.TypeId.{TypeId}
use Rattle.pfc_types.specs.declared.view.Found.{Found}
use Rattle.pfc_types.specs.rules.Expressions.{find, first_type}
use Rattle.pfc_types.specs.Views.{levels}
use Rattle.pfc_semantics.specs.Displays.{TypedSpot}
use Rattle.pfc_semantics.specs.Remainders.{Context, AwaitsLocation, AwaitsValue, index_into, read_for}
use Rattle.pfc_semantics.specs.Expressions.{spot_of, from_desig, from_expr, from_factor, from_name, from_args, from_function, from_argument, from_reference}
use Rattle.pfc_semantics.specs.Expressions.{from_selectors}
use Rattle.pfc_semantics.specs.Rewriting.{from_location, from_value}
use Rattle.pfc_phrases.specs.Views.{env_view}
use Rattle.pfc_phrases.specs.declared.env.Env.{Env as HeldEnv}
use Rattle.pfc_program.specs.InView.{InView}
use Rattle.pfc_program.specs.Views.{names_view, spot_view}
use Rattle.pfc_program.specs.declared.tables.Tables.{Tables}
use Rattle.pfc_program.specs.declared.spots.NamedSpot.{NamedSpot}
use Rattle.pfc_sites.proofs.Held.{spot_same}
use Rattle.pfc_frequent_parts.specs.Parts.{index_alone}
use Rattle.pfc_frequent_parts.proofs.Nodes.{desig_view-out}

-- ## One alone

pub index_of_one : (es : ExprTrees) (p : Place) (e : ExprTree) → es ≡ more_exprs e no_exprs →
    index_alone (more_selectors (index es p) no_selectors) ≡ Some e
index_of_one es p e is = ap (λ (x : ExprTrees). index_alone (more_selectors (index x p) no_selectors)) is

pub ruleset ones = index_of_one

-- ## What waits for an element

led :
    (c : Context) (s : TypedSpot) (ss : SelectorTrees) (e : ExprTree) (goal : AwaitsLocation)
    → index_alone ss ≡ Some e
    → from_expr c e (index_into s no_exprs no_selectors goal) (from_value c (index_into s no_exprs no_selectors goal))
    ≡ from_selectors c s ss goal (from_location c goal)
led c s (more_selectors (index (more_exprs x no_exprs) p) no_selectors) e goal is =
    let same : e ≡ x = cc in
    ap (λ (y : ExprTree). from_expr c y (index_into s no_exprs no_selectors goal) (from_value c (index_into s no_exprs no_selectors goal))) same
led c s no_selectors e goal is = cc
led c s (more_selectors (field x p) ss) e goal is = cc
led c s (more_selectors (index no_exprs p) ss) e goal is = cc
led c s (more_selectors (index (more_exprs x (more_exprs y es)) p) ss) e goal is = cc
led c s (more_selectors (index (more_exprs x no_exprs) p) (more_selectors t ss)) e goal is = cc

-- the selectors are these
these : (d : Desig) (us : List Selector) (e : ExprTree) → us ≡ (out-Desig d).selectors.items → index_alone (selectors_view us) ≡ Some e →
    index_alone (selectors_view (out-Desig d).selectors.items) ≡ Some e
these d us e all one = sym (ap (λ (l : List Selector). index_alone (selectors_view l)) all) ∙ one

pub target_led :
    (c : Context) (d : Desig) (us : List Selector) (e : ExprTree) (s : TypedSpot) (goal : AwaitsLocation)
    → us ≡ (out-Desig d).selectors.items → index_alone (selectors_view us) ≡ Some e → s ≡ spot_of c.env (find c.env (out-Desig d).name)
    → from_expr c e (index_into s no_exprs no_selectors goal) (from_value c (index_into s no_exprs no_selectors goal))
    ≡ from_desig c (desig_view d) goal (from_location c goal)
target_led c d us e s goal all one is =
    led c s (selectors_view (out-Desig d).selectors.items) e goal (these d us e all one)
    ∙ ap (λ (r : TypedSpot). from_selectors c r (selectors_view (out-Desig d).selectors.items) goal (from_location c goal)) is
    ∙ ap (λ (x : DesigTree). from_desig c x goal (from_location c goal)) (sym (desig_view-out d))

-- a name with its selectors that means this
meant :
    (c : Context) (m : Option Meaning) (s : TypedSpot) (ss : SelectorTrees) (args : ActualTrees) (t : TypeId) (r : Bool) (u : AwaitsValue)
    → m ≡ Some (Variable t r)
    → from_selectors c s ss (read_for u) (from_location c (read_for u))
    ≡ from_name c m u (from_value c u)
    (λ goal arrive. from_selectors c s ss goal arrive)
    (λ formals call. from_args c formals args [] call)
    (λ f. from_function c f (first_type c.env args) u (from_value c u) (from_argument c args) (from_reference c args))
meant c m s ss args t r u is =
    sym (ap (λ (x : Option Meaning). from_name c x u (from_value c u)
    (λ goal arrive. from_selectors c s ss goal arrive)
    (λ formals call. from_args c formals args [] call)
    (λ f. from_function c f (first_type c.env args) u (from_value c u) (from_argument c args) (from_reference c args))) is)

pub read_led :
    (c : Context) (d : Desig) (us : List Selector) (e : ExprTree) (s : TypedSpot) (args : ActualTrees) (p : Place) (t : TypeId) (r : Bool) (u : AwaitsValue)
    → us ≡ (out-Desig d).selectors.items → index_alone (selectors_view us) ≡ Some e → s ≡ spot_of c.env (find c.env (out-Desig d).name)
    → meaning_of (find c.env (out-Desig d).name) ≡ Some (Variable t r)
    → from_expr c e (index_into s no_exprs no_selectors (read_for u)) (from_value c (index_into s no_exprs no_selectors (read_for u)))
    ≡ from_factor c (applied (desig_view d) args p) u (from_value c u)
read_led c d us e s args p t r u all one is means =
    let x = (out-Desig d).name in
    let ss = selectors_view (out-Desig d).selectors.items in
    led c s ss e (read_for u) (these d us e all one)
    ∙ ap (λ (r : TypedSpot). from_selectors c r ss (read_for u) (from_location c (read_for u))) is
    ∙ meant c (meaning_of (find c.env x)) (spot_of c.env (find c.env x)) ss args t r u means
    ∙ ap (λ (y : DesigTree). from_factor c (applied y args p) u (from_value c u)) (sym (desig_view-out d))

-- the variable that a name was found to be, by the program's table
pub spot_found :
    (env : HeldEnv) (tables : Tables) (found : Option Found) (r : NamedSpot)
    → ((names : InView) → spot_view r ≡ spot_of (names_view tables names) found) → env.scopes.now ≡ tables.scopes.now
    → spot_view r ≡ spot_of (env_view env) found
spot_found env tables found r is same =
    let names : InView = record { view = levels env.view.now; around = env.around } in
    is names ∙ spot_same (names_view tables names) (env_view env) found (sym same)
