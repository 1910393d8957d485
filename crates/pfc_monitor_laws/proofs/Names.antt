-- The conditions of each module, name by name of the program: they are the module's own, where its variables lie among main's.
use Rattle.std.proofs.Common.{◌≡◌, ℕ, suc, ◌+◌, ◌<◌, ◌==◌, Bool, true, false, if◌then◌else◌, List, [], ◌∷◌, ◌++◌, length, slice_get, Some}
use Rattle.std.proofs.Common.{refl, sym, ap, ◌∙◌, subst, arith}
use Rattle.std.specs.List.{All}
use Rattle.std.proofs.lemmas.Bool.Decides.{nat_tests}
use Rattle.std.proofs.lemmas.List.Elements.{All-head, All-tail}
use Rattle.pfc_types.specs.Types.{Forms}
use Rattle.pfc_types.specs.Growing.{Begins}
use Rattle.pfc_types.specs.Scopes.{Names, scope_at}
use Rattle.pfc_types.specs.Blocks.{State, module_at}
use Rattle.pfc_types.specs.declared.scope.Meaning.{Meaning}
use Rattle.pfc_types.specs.declared.scope.Meaning.TheVariants.{Constant, Named, Variable, Sub, Module, Process, Entry, Predeclared, Faulty}
use Rattle.pfc_semantics.specs.Values.{Value}
use Rattle.pfc_semantics.specs.Layouts.{Layout, laid_names, laid_as, main_layout, is_module, before_module}
use Rattle.pfc_semantics.specs.Objects.{Objects, Numbered, all_numberings, numbered_names, module_number, of_main, numbered_main}
use Rattle.pfc_cells.specs.Homes.{laid_type}
use Rattle.pfc_type_laws.specs.Tables.{IsBuiltUp}
use Rattle.pfc_object_laws.specs.Mains.{IsOfModule, IsOfMain}
use Rattle.pfc_object_laws.proofs.Lists.{Either, either, in_left, in_right, get_left, get_right}
use Rattle.pfc_object_laws.proofs.Names.{Laid, laid_there}
use Rattle.pfc_object_laws.proofs.Values.{numbering}
use Rattle.pfc_monitor_laws.proofs.Values.{AreOneOf, begins_same, begins_more, later_owned, owned_by}

-- what stands in the first part of a list
left_of : {X : Type 0} (a b : List X) (k : ℕ) (x : X) → k < length a → slice_get (a ++ b) k ≡ Some x → slice_get a k ≡ Some x
left_of a b k x below e = by (either a b k x e)
  where
    by : Either a b k x → slice_get a k ≡ Some x
    by (in_left h) = h
    by (in_right j n h) = absurd (omega (arith, n, below))

laid_length : (Q : Meaning → Value → Type 0) (l : Layout) (vs : List Value) → Laid Q l vs → length vs ≡ length l
laid_length Q [] [] h = refl
laid_length Q [] (v ∷ vs) h = absurd h
laid_length Q (m ∷ l) [] h = absurd h
laid_length Q (m ∷ l) (v ∷ vs) h = ap suc (laid_length Q l vs h.1)

module _ (s : State) (is_built : IsBuiltUp s.forms) where
  abbrev forms : Forms
  forms = s.forms

  -- the conditions in a variable are those of the monitor
  abbrev Owner : List ℕ → ℕ → Meaning → Value → Type 0
  Owner conditions monitor m v = AreOneOf forms is_built conditions monitor (laid_type m) v

  -- ## One module

  -- variables that are laid out so, numbered behind these objects
  record AreOwned (monitor : ℕ) (layout : Layout) (before : Objects) (r : Numbered (List Value)) : Type 0 where
    grows : Begins before.conditions r.objects.conditions
    laid : Laid (Owner r.objects.conditions monitor) layout r.is

  inside_owned : (monitor : ℕ) (names : Names) → All (λ x. IsOfModule forms x.1) names → (o : Objects)
      → AreOwned monitor (laid_names names) o (numbered_names (all_numberings forms) names monitor o)
  inside_owned monitor [] all o = record { grows = begins_same o.conditions; laid = tt }
  inside_owned monitor (x ∷ names) all o =
      at x.1 (All-head (λ y. IsOfModule forms y.1) x names all) (λ p. inside_owned monitor names (All-tail (λ y. IsOfModule forms y.1) x names all) p)
    where
      at : (m : Meaning) → IsOfModule forms m
          → ((p : Objects) → AreOwned monitor (laid_names names) p (numbered_names (all_numberings forms) names monitor p))
          → AreOwned monitor (laid_names ((x.0, m) ∷ names)) o (numbered_names (all_numberings forms) ((x.0, m) ∷ names) monitor o)
      at (Variable t reference) is rest =
          let r = numbering forms is_built t monitor o in
          let one = owned_by forms is_built t monitor o in
          let more = rest r.objects in
          let later = numbered_names (all_numberings forms) names monitor r.objects in
          record {
            grows = begins_more o.conditions r.objects.conditions later.objects.conditions one.grows more.grows;
            laid = (
              later_owned forms is_built r.objects.conditions later.objects.conditions monitor (Some t) r.is more.grows one.owned,
              more.laid,
            );
          }
      at (Process n) is rest = absurd is
      at (Constant t v) is rest = rest o
      at (Named t) is rest = rest o
      at (Sub n) is rest = rest o
      at (Module n) is rest = rest o
      at (Entry n) is rest = rest o
      at (Predeclared k) is rest = rest o
      at Faulty is rest = rest o

  -- ## All names

  -- what comes of one name: as many values as places, and conditions behind those before
  record IsMade (layout : Layout) (before : Objects) (r : Numbered (List Value)) : Type 0 where
    grows : Begins before.conditions r.objects.conditions
    count : length r.is ≡ length layout

  made : (m : Meaning) → IsOfMain s m → (o : Objects) → IsMade (laid_as s.blocks m) o (of_main s.blocks (all_numberings forms) m o)
  made (Variable t reference) is o = record { grows = (owned_by forms is_built t 0 o).grows; count = refl }
  made (Module n) is o =
      let inside = scope_at s.blocks.scopes (module_at s.blocks n).scope in
      let monitor = module_number s.blocks n in
      let its = inside_owned monitor inside is o in
      let r = numbered_names (all_numberings forms) inside monitor o in
      record { grows = its.grows; count = laid_length (Owner r.objects.conditions monitor) (laid_names inside) r.is its.laid }
  made (Process n) is o = record { grows = begins_same o.conditions; count = refl }
  made (Constant t v) is o = record { grows = begins_same o.conditions; count = refl }
  made (Named t) is o = record { grows = begins_same o.conditions; count = refl }
  made (Sub n) is o = record { grows = begins_same o.conditions; count = refl }
  made (Entry n) is o = record { grows = begins_same o.conditions; count = refl }
  made (Predeclared k) is o = record { grows = begins_same o.conditions; count = refl }
  made Faulty is o = record { grows = begins_same o.conditions; count = refl }

  abbrev of_all : Names → Objects → Numbered (List Value)
  of_all names o = numbered_main s.blocks (all_numberings forms) names o

  main_grows : (names : Names) → All (λ x. IsOfMain s x.1) names → (o : Objects) → Begins o.conditions (of_all names o).objects.conditions
  main_grows [] all o = begins_same o.conditions
  main_grows (x ∷ names) all o =
      let r = of_main s.blocks (all_numberings forms) x.1 o in
      begins_more o.conditions r.objects.conditions (of_all names r.objects).objects.conditions
      (made x.1 (All-head (λ y. IsOfMain s y.1) x names all) o).grows (main_grows names (All-tail (λ y. IsOfMain s y.1) x names all) r.objects)

  -- the j-th variable of the n-th module has its value among main's, and the conditions there are the module's
  pub record IsThere (names : Names) (o : Objects) (n j : ℕ) (m : Meaning) : Type 0 where
    pub value : Value
    pub at : slice_get (of_all names o).is (before_module s.blocks n names + j) ≡ Some value
    pub owned : AreOneOf forms is_built (of_all names o).objects.conditions (module_number s.blocks n) (laid_type m) value

  -- so it is of the names behind, whatever is numbered before
  abbrev Behind : Names → ℕ → ℕ → Meaning → Type 0
  Behind names n j m =
      (p : Objects) → slice_get (main_layout s.blocks names) (before_module s.blocks n names + j) ≡ Some m → IsThere names p n j m

  abbrev Grows : Names → Type 0
  Grows names = (p : Objects) → Begins p.conditions (of_all names p).objects.conditions

  pub module_value : (names : Names) → All (λ x. IsOfMain s x.1) names → (o : Objects) (n j : ℕ) (m : Meaning)
      → slice_get (main_layout s.blocks names) (before_module s.blocks n names + j) ≡ Some m
      → j < length (laid_names (scope_at s.blocks.scopes (module_at s.blocks n).scope)) → IsThere names o n j m
  module_value [] all o n j m there within = absurd (cc)
  module_value (x ∷ names) all o n j m there within =
      at (λ p behind. module_value names (All-tail (λ y. IsOfMain s y.1) x names all) p n j m behind within)
      (main_grows names (All-tail (λ y. IsOfMain s y.1) x names all)) x.1 (All-head (λ y. IsOfMain s y.1) x names all) there
    where
      skip : Behind names n j m → (y : Meaning) → IsOfMain s y → is_module n y ≡ false
          → slice_get (main_layout s.blocks ((x.0, y) ∷ names)) (before_module s.blocks n ((x.0, y) ∷ names) + j) ≡ Some m
          → IsThere ((x.0, y) ∷ names) o n j m
      skip rest_there y is other there =
          let r = of_main s.blocks (all_numberings forms) y o in
          let own = laid_as s.blocks y in
          let rest = main_layout s.blocks names in
          let later = of_all names r.objects in
          let before : before_module s.blocks n ((x.0, y) ∷ names) ≡ length own + before_module s.blocks n names =
          ap (λ (c : Bool). if c then 0 else length own + before_module s.blocks n names) other in
          let place : before_module s.blocks n ((x.0, y) ∷ names) + j ≡ length own + (before_module s.blocks n names + j) = omega (arith, before) in
          let inner =
          rest_there r.objects
          (sym (get_right own rest (before_module s.blocks n names + j)) ∙ ap (λ (i : ℕ). slice_get (own ++ rest) i) (sym place) ∙ there) in
          record {
            value = inner.value;
            at = ap (λ (i : ℕ). slice_get (r.is ++ later.is) i) (place ∙ ap (λ (i : ℕ). i + (before_module s.blocks n names + j)) (sym (made y is o).count))
                ∙ get_right r.is later.is (before_module s.blocks n names + j) ∙ inner.at;
            owned = inner.owned;
          }

      itself : (n == n) ≡ true
      itself = grind (arith, nat_tests)

      hit : Grows names → IsOfMain s (Module n)
          → slice_get (main_layout s.blocks ((x.0, Module n) ∷ names)) (before_module s.blocks n ((x.0, Module n) ∷ names) + j) ≡ Some m
          → IsThere ((x.0, Module n) ∷ names) o n j m
      hit grows is there =
          let inside = scope_at s.blocks.scopes (module_at s.blocks n).scope in
          let monitor = module_number s.blocks n in
          let own = laid_names inside in
          let rest = main_layout s.blocks names in
          let r = numbered_names (all_numberings forms) inside monitor o in
          let later = of_all names r.objects in
          let before : before_module s.blocks n ((x.0, Module n) ∷ names) ≡ 0 =
          ap (λ (c : Bool). if c then 0 else length own + before_module s.blocks n names) itself in
          let place : before_module s.blocks n ((x.0, Module n) ∷ names) + j ≡ j = omega (arith, before) in
          let its = inside_owned monitor inside is o in
          let (v, at, owned) =
          laid_there (Owner r.objects.conditions monitor) own r.is j m its.laid
          (left_of own rest j m within (ap (λ (i : ℕ). slice_get (own ++ rest) i) (sym place) ∙ there)) in
          record {
            value = v;
            at = ap (λ (i : ℕ). slice_get (r.is ++ later.is) i) place ∙ get_left r.is later.is j v at;
            owned = later_owned forms is_built r.objects.conditions later.objects.conditions monitor (laid_type m) v (grows r.objects) owned;
          }

      of_module : Behind names n j m → Grows names → (q : ℕ) (b : Bool) → (q == n) ≡ b → IsOfMain s (Module q)
          → slice_get (main_layout s.blocks ((x.0, Module q) ∷ names)) (before_module s.blocks n ((x.0, Module q) ∷ names) + j) ≡ Some m
          → IsThere ((x.0, Module q) ∷ names) o n j m
      of_module behind grows q false e is there = skip behind (Module q) is e there
      of_module behind grows q true e is there =
          let same : q ≡ n = grind (arith, nat_tests) in
          subst
          (λ (i : ℕ). IsOfMain s (Module i)
          → slice_get (main_layout s.blocks ((x.0, Module i) ∷ names)) (before_module s.blocks n ((x.0, Module i) ∷ names) + j) ≡ Some m
          → IsThere ((x.0, Module i) ∷ names) o n j m) (sym same) (hit grows) is there

      at : Behind names n j m → Grows names → (y : Meaning) → IsOfMain s y
          → slice_get (main_layout s.blocks ((x.0, y) ∷ names)) (before_module s.blocks n ((x.0, y) ∷ names) + j) ≡ Some m
          → IsThere ((x.0, y) ∷ names) o n j m
      at behind grows (Module q) is there = of_module behind grows q (q == n) refl is there
      at behind grows (Variable t reference) is there = skip behind (Variable t reference) is refl there
      at behind grows (Process k) is there = skip behind (Process k) is refl there
      at behind grows (Constant t v) is there = skip behind (Constant t v) is refl there
      at behind grows (Named t) is there = skip behind (Named t) is refl there
      at behind grows (Sub k) is there = skip behind (Sub k) is refl there
      at behind grows (Entry k) is there = skip behind (Entry k) is refl there
      at behind grows (Predeclared k) is there = skip behind (Predeclared k) is refl there
      at behind grows Faulty is there = skip behind Faulty is refl there
