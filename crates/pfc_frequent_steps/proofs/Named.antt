-- A name without selectors in an expression.
use Rattle.std.proofs.Common.{◌≡◌, ◌<◌, List, [], ◌∷◌, length, Option, refl, sym, ap, ◌∙◌, arith}
use Rattle.pfc_base.specs.declared.places.Place.{Place}
use Rattle.pfc_tree.specs.Symbols.{Text}
use Rattle.pfc_tree.specs.declared.tree.Desig.{Desig, out-Desig}
use Rattle.pfc_tree.specs.declared.tree.Selector.{Selector}
use Rattle.pfc_tree.specs.trees.Exprs.{ActualTrees, DesigTree, applied, desig}
use Rattle.pfc_tree.specs.views.Exprs.{desig_view, selectors_view}
use Rattle.pfc_types.specs.Scopes.{meaning_of}
use Rattle.pfc_types.specs.declared.view.Found.{Found}
use Rattle.pfc_types.specs.rules.Expressions.{find}
use Rattle.pfc_semantics.specs.Displays.{TypedSpot}
use Rattle.pfc_semantics.specs.Remainders.{Context, AwaitsValue}
use Rattle.pfc_semantics.specs.Expressions.{spot_of, from_factor}
use Rattle.pfc_semantics.specs.Rewriting.{from_value}
use Rattle.pfc_phrases.specs.Views.{env_view}
use Rattle.pfc_phrases.specs.declared.env.Env.{Env as HeldEnv}
use Rattle.pfc_types.specs.Views.{levels}
use Rattle.pfc_program.specs.InView.{InView}
use Rattle.pfc_program.specs.Views.{names_view, spot_view}
use Rattle.pfc_program.specs.declared.tables.Tables.{Tables}
use Rattle.pfc_program.specs.declared.spots.NamedSpot.{NamedSpot}
use Rattle.pfc_sites.proofs.Held.{spot_same}
use Rattle.pfc_frequent_steps.specs.Names.{from_whole}
use Rattle.pfc_frequent_steps.proofs.Nodes.{desig_view-out}

alone :
    (c : Context) (x : Text) (us : List Selector) (args : ActualTrees) (q p : Place) (u : AwaitsValue)
    → length us < 1
    → from_whole c (meaning_of (find c.env x)) (spot_of c.env (find c.env x)) args u
    ≡ from_factor c (applied (desig x (selectors_view us) q) args p) u (from_value c u)
alone c x [] args q p u none = refl
alone c x (s ∷ us) args q p u none = absurd (omega (arith, none))

pub named_alone :
    (c : Context) (d : Desig) (us : List Selector) (args : ActualTrees) (p : Place) (u : AwaitsValue)
    → us ≡ (out-Desig d).selectors.items → length us < 1
    → from_whole c (meaning_of (find c.env (out-Desig d).name)) (spot_of c.env (find c.env (out-Desig d).name)) args u
    ≡ from_factor c (applied (desig_view d) args p) u (from_value c u)
named_alone c d us args p u all none =
    alone c (out-Desig d).name us args (out-Desig d).place p u none
    ∙ ap (λ (l : List Selector). from_factor c (applied (desig (out-Desig d).name (selectors_view l) (out-Desig d).place) args p) u (from_value c u)) all
    ∙ ap (λ (x : DesigTree). from_factor c (applied x args p) u (from_value c u)) (sym (desig_view-out d))

-- the variable that a name was found to be, by the program's table
pub spot_found :
    (env : HeldEnv) (tables : Tables) (found : Option Found) (r : NamedSpot)
    → ((names : InView) → spot_view r ≡ spot_of (names_view tables names) found) → env.scopes.now ≡ tables.scopes.now
    → (spot_view r).spot ≡ (spot_of (env_view env) found).spot
spot_found env tables found r is same =
    let names : InView = record { view = levels env.view.now; around = env.around } in
    ap (λ (s : TypedSpot). s.spot) (is names ∙ spot_same (names_view tables names) (env_view env) found (sym same))
