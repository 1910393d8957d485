-- A variable in view stands in a scope that is in view.
use Rattle.std.proofs.Common.{◌≡◌, ℕ, ◌+◌, ◌<◌, ◌≤◌, ◌==◌, Bool, true, false, ◌&&◌, ◌||◌, cond, nat_lt, if◌then◌else◌, List, [], ◌∷◌, ◌++◌, length, take}
use Rattle.std.proofs.Common.{bytes_eq, option_map, is_some, slice_get, Option, Some, None, refl, sym, ap, ◌∙◌, subst, arith}
use Rattle.std.proofs.lemmas.Bool.Decides.{nat_tests}
use Rattle.std.proofs.lemmas.Option.{slice_get_within}
use Rattle.std.specs.List.{list_any}
use Rattle.std.specs.Option.{option_or}
use Rattle.pfc_tree.specs.Symbols.{Text}
use Rattle.pfc_types.specs.Scopes.{Names, Level, meaning_in, scope_at, position_in, predeclared_names, within, found_at, found_in, meaning_of}
use Rattle.pfc_types.specs.Blocks.{Blocks, State}
use Rattle.pfc_types.specs.rules.Expressions.{find}
use Rattle.pfc_types.specs.declared.types.TypeId.{TypeId}
use Rattle.pfc_types.specs.declared.heads.SubHead.{SubHead}
use Rattle.pfc_types.specs.declared.view.Found.{Found}
use Rattle.pfc_types.specs.declared.scope.Meaning.{Meaning}
use Rattle.pfc_types.specs.declared.scope.Meaning.TheVariants.{Variable}
use Rattle.pfc_types.proofs.Clean.{and-left, and-right}
use Rattle.pfc_semantics.specs.Layouts.{is_laid, laid_names, main_layout, sub_with, behind_result, before_scope, variable_place}
use Rattle.pfc_semantics.specs.Displays.{Spot, TypedSpot}
use Rattle.pfc_semantics.specs.Expressions.{spot_in, named_spot, found_spot, spot_of}
use Rattle.pfc_translation.specs.Sites.{Site, blocks_of, module_of, is_mains, layout_with, place_of}
use Rattle.pfc_image_cells.proofs.Layouts.{IsAt, found_place}
use Rattle.pfc_standing_code.specs.Typed.{unlined, variables_by, variables_of, StandsAt, IsOfScope, of_name}
use Rattle.pfc_typed_phrases.specs.Names.{IsLaid}
use Rattle.pfc_typed_phrases.proofs.Rules.{never}

-- ## Predeclared names

abbrev is_fixed : Meaning → Bool
is_fixed (Variable t r) = false
is_fixed m = true

abbrev are_fixed : Names → Bool
are_fixed [] = true
are_fixed (e ∷ names) = is_fixed e.1 && are_fixed names

fixed_found : (names : Names) → are_fixed names ≡ true → (x : Text) (m : Meaning) → meaning_in names x ≡ Some m → is_fixed m ≡ true
fixed_found [] h x m e = absurd (cc)
fixed_found (n ∷ names) h x m e = by (bytes_eq x n.0) e (λ k. fixed_found names (and-right (is_fixed n.1) (are_fixed names) h) x m k)
  where
    by : (b : Bool) → cond b (Some n.1) (meaning_in names x) ≡ Some m → (meaning_in names x ≡ Some m → is_fixed m ≡ true) → is_fixed m ≡ true
    by true e k = let same : n.1 ≡ m = cc in ap is_fixed (sym same) ∙ and-left (is_fixed n.1) (are_fixed names) h
    by false e k = k e

-- ## Names in view

-- the scope of a variable that is found, which is in view
pub record IsInView (view : List Level) (f : Found) : Type 0 where
  pub i : ℕ
  pub scope : f.scope ≡ Some i
  pub seen : list_any (λ (level : Level). level.scope == i) view ≡ true

same_place : (n : ℕ) (b : Bool) → ((n == n) || b) ≡ true
same_place n b = let e : (n == n) ≡ true = grind (arith, nat_tests) in ap (λ k. k || b) e

pub or_last : (a b : Bool) → b ≡ true → (a || b) ≡ true
or_last true b h = refl
or_last false b h = h

within_scope : (level : Level) (k : Option ℕ) (m : Option Meaning) (f : Found) → within level k m ≡ Some f → f.scope ≡ Some level.scope
within_scope level None m f e = absurd (cc)
within_scope level (Some k) None f e = absurd (cc)
within_scope level (Some k) (Some m) f e = by (nat_lt k level.count) e
  where
    by : (b : Bool) → (if b then Some (record { scope = Some level.scope; place = k; meaning = m }) else None) ≡ Some f → f.scope ≡ Some level.scope
    by true e = let same : record { scope = Some level.scope; place = k; meaning = m } ≡ f = cc in ap (λ (g : Found). g.scope) (sym same)
    by false e = absurd (cc)

found_view : (scopes : List Names) (view : List Level) (x : Text) (f : Found) (t : TypeId) (r : Bool) → found_in scopes view x ≡ Some f →
    f.meaning ≡ Variable t r → IsInView view f
found_view scopes [] x f t r e is = by (meaning_in predeclared_names x) refl e
  where
    by : (o : Option Meaning) → meaning_in predeclared_names x ≡ o →
        option_map (λ m. let g : Found = record { scope = None; place = 0; meaning = m } in g) o ≡ Some f → IsInView [] f
    by None h e = absurd (cc)
    by (Some m) h e =
        let same : record { scope = None; place = 0; meaning = m } ≡ f = cc in
        let meant : m ≡ Variable t r = ap (λ (g : Found). g.meaning) same ∙ is in
        never (sym (ap is_fixed meant) ∙ fixed_found predeclared_names refl x m h)
found_view scopes (level ∷ view) x f t r e is = by (found_at scopes level x) refl e (λ k. found_view scopes view x f t r k is)
  where
    by : (o : Option Found) → found_at scopes level x ≡ o → option_or o (found_in scopes view x) ≡ Some f →
        (found_in scopes view x ≡ Some f → IsInView view f) → IsInView (level ∷ view) f
    by (Some g) h e k =
        let same : g ≡ f = cc in
        record {
          i = level.scope;
          scope = ap (λ (j : Found). j.scope) (sym same) ∙
              within_scope level (position_in (scope_at scopes level.scope) x) (meaning_in (scope_at scopes level.scope) x) g h;
          seen = same_place level.scope (list_any (λ (l : Level). l.scope == level.scope) view);
        }
    by None h e k = let rest = k e in record {
      i = rest.i;
      scope = rest.scope;
      seen =
          or_last (level.scope == rest.i) (list_any (λ (l : Level). l.scope == rest.i) view) rest.seen;
    }

-- ## The variables of a scope

laid_behind : (x : Text × Meaning) (names : Names) → length (laid_names names) ≤ length (laid_names (x ∷ names))
laid_behind x names = by (is_laid x.1)
  where
    by : (r : Bool) → length (laid_names names) ≤ length (if r then x.1 ∷ laid_names names else laid_names names)
    by true = omega arith
    by false = omega arith

laid_here : (x : Text × Meaning) (names : Names) → is_laid x.1 ≡ true → 0 < length (laid_names (x ∷ names))
laid_here x names laid =
    let all : length (laid_names (x ∷ names)) ≡ 1 + length (laid_names names)
    = ap (λ (r : Bool). length (if r then x.1 ∷ laid_names names else laid_names names)) laid ∙ omega arith in
    omega (arith, all)

-- fewer are laid out before one that is than in all
laid_before : (before : Names) (x : Text × Meaning) (after : Names) → is_laid x.1 ≡ true
    → length (laid_names (take (length before) (before ++ x ∷ after))) < length (laid_names (before ++ x ∷ after))
laid_before [] x after laid = laid_here x after laid
laid_before (y ∷ before) x after laid = by (is_laid y.1) (laid_before before x after laid)
  where
    by : (r : Bool) → length (laid_names (take (length before) (before ++ x ∷ after))) < length (laid_names (before ++ x ∷ after))
        → length (if r then y.1 ∷ laid_names (take (length before) (before ++ x ∷ after)) else laid_names (take (length before) (before ++ x ∷ after)))
        < length (if r then y.1 ∷ laid_names (before ++ x ∷ after) else laid_names (before ++ x ∷ after))
    by true h = omega (arith, h)
    by false h = h

names_before : (names : Names) (k : ℕ) (m : Meaning) → IsAt names k m → is_laid m ≡ true → length (laid_names (take k names)) < length (laid_names names)
names_before names k m at laid =
    let here = laid_before at.before at.name at.after (ap is_laid at.is ∙ laid) in
    let split = subst (λ (all : Names). length (laid_names (take (length at.before) all)) < length (laid_names all)) (sym at.splits) here in
    subst (λ (n : ℕ). length (laid_names (take n names)) < length (laid_names names)) at.count split

-- the variable of a name is one of the name's scope
pub is_of_scope : (b : Blocks) (i place k : ℕ) (m : Meaning) → IsAt (scope_at b.scopes i) k m → place ≡ variable_place b i k → IsOfScope b i place m
is_of_scope b i place k m at is =
    let name : slice_get (scope_at b.scopes i) k ≡ Some at.name =
    subst (λ (j : ℕ). slice_get (scope_at b.scopes i) j ≡ Some at.name) at.count
    (ap (λ (l : Names). slice_get l (length at.before)) at.splits ∙ behind at.before at.name at.after) in
    of_name at.name.0 k (name ∙ ap (λ (n : Meaning). Some (at.name.0, n)) at.is) is
  where
    behind : (before : Names) (x : Text × Meaning) (after : Names) → slice_get (before ++ x ∷ after) (length before) ≡ Some x
    behind [] x after = refl
    behind (y ∷ before) x after = behind before x after

-- In the scope of a process or of an accept a variable is one of its own names; in any other its layout has no others.
pub own_variable :
    (s : Site) (v : Spot) (k : ℕ) (m : Meaning) → v.variable ≡ variable_place (blocks_of s) v.scope k → IsAt (scope_at (blocks_of s).scopes v.scope) k m
    → is_laid m ≡ true → StandsAt s v m → v.variable < variables_of (unlined s) v.scope
own_variable s v k m place at laid stands = by (is_mains (blocks_of s) v.scope) refl
  where
    b : Blocks
    b = blocks_of s

    i : ℕ
    i = v.scope

    within : v.variable < length (layout_with (unlined s) v.scope)
    within =
        let all = slice_get_within (layout_with (unlined s) v.scope) (place_of (unlined s) v) m stands in omega (arith, all)

    not_zero : (r : Bool) (o : Bool) → (r || o) ≡ false → (r ≡ false) × (o ≡ false)
    not_zero true o h = never (sym h)
    not_zero false o h = (refl, h)

    no_module : (o : Option ℕ) → is_some o ≡ false → o ≡ None
    no_module None h = refl
    no_module (Some n) h = never (sym h)

    among : is_mains b i ≡ false → sub_with b.subs i ≡ None → v.variable < length (laid_names (scope_at b.scopes i))
    among other none =
        let neither = not_zero (i == 0) (is_some (module_of b i)) other in
        let count = length (laid_names (take k (scope_at b.scopes i))) in
        let behind = before_scope b (module_of b i) + (count + behind_result (sub_with b.subs i) k) in
        let own : variable_place b i k ≡ count
        = ap (λ (r : Bool). if r then length (main_layout b (take k (scope_at b.scopes 0))) else behind) neither.0
        ∙ ap (λ (o : Option ℕ). before_scope b o + (count + behind_result (sub_with b.subs i) k)) (no_module (module_of b i) neither.1)
        ∙ ap (λ (o : Option SubHead). 0 + (count + behind_result o k)) none ∙ omega arith in
        let fewer = names_before (scope_at b.scopes i) k m at laid in
        omega (arith, place, own, fewer)

    by_sub : is_mains b i ≡ false → (o : Option SubHead) → sub_with b.subs i ≡ o → v.variable < variables_by (unlined s) i o
    by_sub other (Some head) e = within
    by_sub other None e = among other e

    by : (r : Bool) → is_mains b i ≡ r
        → v.variable < (if r then length (layout_with (unlined s) i) else variables_by (unlined s) i (sub_with b.subs i))
    by true e = within
    by false e = by_sub e (sub_with b.subs i) refl

-- ## A variable in view

-- it is laid out where its layout has it
pub variable_laid : (s : Site) (x : Text) (t : TypeId) (r : Bool) → s.env.state ≡ s.program.state → meaning_of (find s.env x) ≡ Some (Variable t r)
    → StandsAt s (spot_of s.env (find s.env x)).spot (Variable t r) → IsLaid s x t
variable_laid s x t r state e stands = by (find s.env x) refl e
  where
    b : Blocks
    b = s.env.state.blocks

    by : (found : Option Found) → find s.env x ≡ found → meaning_of found ≡ Some (Variable t r) → IsLaid s x t
    by None h e = absurd (cc)
    by (Some f) h e =
        let is : f.meaning ≡ Variable t r = cc in
        let at = found_view b.scopes s.env.view x f t r h is in
        let spot : spot_of s.env (find s.env x) ≡ spot_in at.i (variable_place b at.i f.place) (Some t) =
        ap (λ (o : Option Found). spot_of s.env o) h ∙ ap (λ (i : Option ℕ). found_spot b i f) at.scope ∙
        ap (λ (m : Meaning). named_spot b at.i f.place m) is in
        let scope : (spot_of s.env (find s.env x)).spot.scope ≡ at.i = ap (λ (v : TypedSpot). v.spot.scope) spot in
        let named = subst (λ (m : Meaning). IsAt (scope_at b.scopes at.i) f.place m) is (found_place b.scopes s.env.view x f at.i h at.scope) in
        let there : IsAt (scope_at (blocks_of s).scopes (spot_of s.env (find s.env x)).spot.scope) f.place (Variable t r)
        = subst (λ (i : ℕ). IsAt (scope_at (blocks_of s).scopes i) f.place (Variable t r)) (sym scope)
        (subst (λ (k : State). IsAt (scope_at k.blocks.scopes at.i) f.place (Variable t r)) state named) in
        let place : (spot_of s.env (find s.env x)).spot.variable ≡ variable_place (blocks_of s) (spot_of s.env (find s.env x)).spot.scope f.place
        = ap (λ (v : TypedSpot). v.spot.variable) spot ∙ ap (λ (k : State). variable_place k.blocks at.i f.place) state
        ∙ ap (λ (i : ℕ). variable_place (blocks_of s) i f.place) (sym scope) in
        record {
          typed = ap (λ (v : TypedSpot). v.t) spot;
          declared =
              record {
                seen = or_last (is_mains (blocks_of s) (spot_of s.env (find s.env x)).spot.scope)
                    (list_any (λ (l : Level). l.scope == (spot_of s.env (find s.env x)).spot.scope) s.env.view)
                    (subst (λ (v : TypedSpot). list_any (λ (l : Level). l.scope == v.spot.scope) s.env.view ≡ true) (sym spot) at.seen);
                own = own_variable s (spot_of s.env (find s.env x)).spot f.place (Variable t r) place there refl stands;
                meaning = Variable t r;
                laid = stands;
                variable = refl;
                typed = refl;
                whole = ap (λ (v : TypedSpot). v.spot.selectors) spot;
                named = is_of_scope (blocks_of s) (spot_of s.env (find s.env x)).spot.scope (spot_of s.env (find s.env x)).spot.variable f.place
                    (Variable t r) there place;
              };
        }
