-- An assignment to a variable as a whole.
use Rattle.std.proofs.Common.{◌≡◌, ◌<◌, List, [], ◌∷◌, length, refl, sym, ap, ◌∙◌, arith}
use Rattle.pfc_base.specs.declared.places.Place.{Place}
use Rattle.pfc_tree.specs.Symbols.{Text}
use Rattle.pfc_tree.specs.declared.tree.Desig.{Desig, out-Desig}
use Rattle.pfc_tree.specs.declared.tree.Selector.{Selector}
use Rattle.pfc_tree.specs.trees.Exprs.{DesigTree, ExprTree, desig}
use Rattle.pfc_tree.specs.views.Exprs.{desig_view, selectors_view}
use Rattle.pfc_types.specs.rules.Expressions.{find}
use Rattle.pfc_semantics.specs.Displays.{TypedSpot}
use Rattle.pfc_semantics.specs.Remainders.{Context, Remainder, store_at}
use Rattle.pfc_semantics.specs.Expressions.{spot_of, from_expr}
use Rattle.pfc_semantics.specs.Rewriting.{from_value}
use Rattle.pfc_semantics.specs.Statements.{from_assign}
use Rattle.pfc_frequent_steps.proofs.Nodes.{desig_view-out}

named :
    (c : Context) (x : Text) (us : List Selector) (p : Place) (e : ExprTree) (k : Remainder)
    → length us < 1
    → from_expr c e (store_at (spot_of c.env (find c.env x)).spot k) (from_value c (store_at (spot_of c.env (find c.env x)).spot k))
    ≡ from_assign c (desig x (selectors_view us) p) e k
named c x [] p e k none = refl
named c x (s ∷ us) p e k none = absurd (omega (arith, none))

pub assigned :
    (c : Context) (d : Desig) (us : List Selector) (e : ExprTree) (k : Remainder) (s : TypedSpot)
    → us ≡ (out-Desig d).selectors.items → length us < 1 → s ≡ spot_of c.env (find c.env (out-Desig d).name)
    → from_expr c e (store_at s.spot k) (from_value c (store_at s.spot k)) ≡ from_assign c (desig_view d) e k
assigned c d us e k s all none is =
    ap (λ (r : TypedSpot). from_expr c e (store_at r.spot k) (from_value c (store_at r.spot k))) is
    ∙ named c (out-Desig d).name us (out-Desig d).place e k none
    ∙ ap (λ (l : List Selector). from_assign c (desig (out-Desig d).name (selectors_view l) (out-Desig d).place) e k) all
    ∙ ap (λ (x : DesigTree). from_assign c x e k) (sym (desig_view-out d))
