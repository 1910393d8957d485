-- Whose a condition is, where the variable that holds it is named: it stands in a monitor's scope, and the condition is one of that monitor.
use Rattle.std.proofs.Common.{◌≡◌, ℕ, zero, suc, ◌+◌, ◌<◌, ◌==◌, ◌||◌, ◌⊎◌, inl, inr, pos, Bool, true, false, if◌then◌else◌, is_some, List, [], ◌∷◌}
use Rattle.std.proofs.Common.{length}
use Rattle.std.proofs.Common.{take, get_or, Option, Some, None, refl, sym, ap, ◌∙◌, subst, arith}
use Rattle.std.specs.List.{All, slice_get}
use Rattle.std.proofs.lemmas.Bool.Decides.{nat_tests}
use Rattle.std.proofs.lemmas.List.Elements.{All-head, All-tail}
use Rattle.std.proofs.lemmas.List.Quantifiers.{position-Some}
use Rattle.std.proofs.lemmas.Option.{get_or_from_slice_get}
use Rattle.pfc_tree.specs.Symbols.{Text}
use Rattle.pfc_tree.specs.trees.Parts.{ProgramTree}
use Rattle.pfc_tree.specs.forget.Parts.{forget_program}
use Rattle.pfc_tree.specs.lawful.Parts.{IsLawful}
use Rattle.pfc_types.specs.Types.{Forms, condition, held_of}
use Rattle.pfc_types.specs.Scopes.{Names, scope_at}
use Rattle.pfc_types.specs.Blocks.{Blocks, no_module, sub_at, module_at}
use Rattle.pfc_types.specs.declared.types.TypeId.{TypeId}
use Rattle.pfc_types.specs.declared.heads.SubHead.{SubHead}
use Rattle.pfc_types.specs.declared.heads.ModuleHead.{ModuleHead}
use Rattle.pfc_types.specs.declared.scope.Meaning.{Meaning}
use Rattle.pfc_types.specs.declared.scope.Meaning.TheVariants.{Variable}
use Rattle.pfc_types.specs.rules.Declarations.{in_program, module_owner, may_wait}
use Rattle.pfc_types.specs.rules.Whole.{finished, broken}
use Rattle.pfc_semantics.specs.Values.{Value, ordinal, part}
use Rattle.pfc_semantics.specs.Layouts.{Layout, is_laid, laid_names, main_layout, sub_with, behind_result, before_module, before_scope, variable_place}
use Rattle.pfc_semantics.specs.Objects.{no_objects, module_number}
use Rattle.pfc_semantics.specs.Programs.{Program, program_of}
use Rattle.pfc_translation.specs.Sites.{module_of, is_mains}
use Rattle.pfc_cells.specs.Shapes.{IsPath, here, into_element, into_field}
use Rattle.pfc_cells.specs.Homes.{laid_type}
use Rattle.pfc_standing_code.specs.Shapes.{is_object_type}
use Rattle.pfc_standing_code.specs.Typed.{IsOfScope, of_name, of_result}
use Rattle.pfc_type_laws.specs.Tables.{IsBuiltUp}
use Rattle.pfc_type_laws.proofs.WalkBlocks.{types_built}
use Rattle.pfc_object_laws.proofs.Mains.{layout_is}
use Rattle.pfc_main_names.specs.Owners.{IsOfOwner}
use Rattle.pfc_main_names.proofs.Walk.{names_fine}
use Rattle.pfc_main_names.proofs.Mains.{there as at_number, modules_inside, are_of_main}
use Rattle.pfc_main_names.proofs.Owned.{IsFine}
use Rattle.pfc_callee_laws.proofs.Blocks.{sub_block}
use Rattle.pfc_callee_laws.proofs.Modules.{mains_of}
use Rattle.pfc_callee_laws.proofs.Program.{unheld}
use Rattle.pfc_callee_laws.proofs.Requeues.{sub_number}
use Rattle.pfc_callee_laws.proofs.Values.{simple_part_plain}
use Rattle.pfc_monitor_laws.specs.Owners.{IsOfMonitor, IsOneOf, IsItsMonitors}
use Rattle.pfc_monitor_laws.proofs.Held.{no_condition_on_path}
use Rattle.pfc_monitor_laws.proofs.Names.{IsThere, module_value}

-- what is true of all stands at each place
at_place : {A : Type 0} (P : A → Type 0) (xs : List A) (n : ℕ) (x : A) → All P xs → slice_get xs n ≡ Some x → P x
at_place P [] n x h e = absurd (cc)
at_place P (y ∷ xs) zero x h e = subst P (one y x e) (All-head P y xs h)
  where
    one : {B : Type 0} (a b : B) → Some a ≡ Some b → a ≡ b
    one a b q = cc
at_place P (y ∷ xs) (suc n) x h e = at_place P xs n x (All-tail P y xs h) e

-- a variable that stands among the names of a scope is one of its variables
laid_within : (names : Names) (k : ℕ) (x : Text) (m : Meaning) → slice_get names k ≡ Some (x, m) → is_laid m ≡ true
    → length (laid_names (take k names)) < length (laid_names names)
laid_within [] k x m e laid = absurd (cc)
laid_within (y ∷ names) zero x m e laid =
    let is : y.1 ≡ m = cc in
    let there : is_laid y.1 ≡ true = ap is_laid is ∙ laid in
    subst (λ (r : Bool). 0 < length (if r then y.1 ∷ laid_names names else laid_names names)) (sym there) (omega arith)
laid_within (y ∷ names) (suc k) x m e laid = by (is_laid y.1) (laid_within names k x m e laid)
  where
    by : (r : Bool) → length (laid_names (take k names)) < length (laid_names names)
        → length (if r then y.1 ∷ laid_names (take k names) else laid_names (take k names)) < length (if r then y.1 ∷ laid_names names else laid_names names)
    by true h = omega (arith, h)
    by false h = h

-- what has no type has no parts with one
from_nothing : {forms : Forms} {t : Option TypeId} {path : List ℕ} {u : Option TypeId} {o : ℕ} → IsPath forms t path u o → t ≡ None → (v : TypeId)
    → u ≡ Some v → ⊥
from_nothing (here t) none v is = (let both : None ≡ Some v = sym none ∙ is in cc)
from_nothing (into_element t over element u low high i path o form below inner) none v is = cc
from_nothing (into_field t w u x fields i path o form there inner) none v is = cc

module _ (t : ProgramTree) (lawful : IsLawful (forget_program t)) (clean : broken t ≡ []) where
  abbrev g : Program
  g = program_of t

  abbrev bs : Blocks
  bs = (finished t).blocks

  abbrev forms : Forms
  forms = (finished t).forms

  built : IsBuiltUp forms
  built = types_built t

  -- ## Whose scope it is

  -- no sub has a scope of main's
  no_sub_there : (i : ℕ) → is_mains bs i ≡ true → sub_with bs.subs i ≡ None
  no_sub_there i main = by (sub_with bs.subs i) refl
    where
      by : (o : Option SubHead) → sub_with bs.subs i ≡ o → o ≡ None
      by None e = refl
      by (Some head) e =
          let (q, among, is, scope) = sub_number bs.subs i head e in
          let its = (sub_block t lawful clean q among).activated in
          let number : (sub_at bs q).scope ≡ i = ap (λ (h : SubHead). h.scope) is ∙ scope in
          (let both : true ≡ false = sym main ∙ (ap (λ (j : ℕ). is_mains bs j) (sym (its.own_scope ∙ number)) ∙ its.not_mains) in absurd (cc))

  abbrev Held : TypeId → Type 0
  Held u = (held_of forms u).conditions ≡ false

  -- a module whose names may hold conditions is a monitor
  of_module : (i k n : ℕ) (x : Text) (u : TypeId) (r : Bool) → slice_get (scope_at bs.scopes i) k ≡ Some (x, Variable u r)
      → module_of bs i ≡ Some n → IsOfMonitor t i n ⊎ Held u
  of_module i k n x u r there found =
      let (among, same, least) = position-Some (λ (m : ModuleHead). m.scope == i) bs.modules n no_module found in
      let scope : (module_at bs n).scope ≡ i = grind (arith, nat_tests, same) in
      let inside =
      at_number
      (λ (head : ModuleHead). (0 < head.scope) × (head.scope < length bs.scopes) × IsFine (module_owner head.resource) forms 0 (finished t) head.scope)
      bs.modules n no_module (modules_inside t lawful) among in
      let owned : IsOfOwner (module_owner (module_at bs n).resource) forms (Variable u r) =
      at_place (λ (y : Text × Meaning). IsOfOwner (module_owner (module_at bs n).resource) forms y.1) (scope_at bs.scopes (module_at bs n).scope) k
      (x, Variable u r) inside.2.owned (ap (λ (j : ℕ). slice_get (scope_at bs.scopes j) k) scope ∙ there) in
      by (module_at bs n).resource refl among scope inside.0 owned
    where
      by : (q : Bool) → (module_at bs n).resource ≡ q → n < length bs.modules → (module_at bs n).scope ≡ i → 0 < (module_at bs n).scope
          → IsOfOwner (module_owner (module_at bs n).resource) forms (Variable u r) → IsOfMonitor t i n ⊎ Held u
      by true e among scope low owned = inr (owned.2 (ap (λ (q : Bool). may_wait (module_owner q)) e))
      by false e among scope low owned = inl (record { among = among; scope = scope; inner = λ none. omega (arith, none, scope, low); monitor = e })

  abbrev Whose : ℕ → TypeId → Type 0
  Whose i u = ((n : ℕ) × IsOfMonitor t i n × (module_of bs i ≡ Some n)) ⊎ Held u

  whose : (i k : ℕ) (x : Text) (u : TypeId) (r : Bool) → slice_get (scope_at bs.scopes i) k ≡ Some (x, Variable u r) → Whose i u
  whose i k x u r there = by (i == 0) (module_of bs i) refl refl
    where
      at_zero : (i == 0) ≡ true → Held u
      at_zero zero_is =
          let none : i ≡ 0 = grind (arith, nat_tests, zero_is) in
          (at_place (λ (y : Text × Meaning). IsOfOwner in_program forms y.1) (scope_at bs.scopes 0) k (x, Variable u r) (names_fine t lawful).program.owned
          (ap (λ (j : ℕ). slice_get (scope_at bs.scopes j) k) (sym none) ∙ there)).2 refl

      in_module : (n : ℕ) → module_of bs i ≡ Some n → IsOfMonitor t i n ⊎ Held u → Whose i u
      in_module n e (inl is) = inl (n, is, e)
      in_module n e (inr none) = inr none

      by : (z : Bool) (o : Option ℕ) → (i == 0) ≡ z → module_of bs i ≡ o → Whose i u
      by true o zero_is e = inr (at_zero zero_is)
      by false (Some n) other e = in_module n e (of_module i k n x u r there e)
      by false None other e =
          inr (unheld t lawful i k x u r (ap (λ (z : Bool). z || is_some (module_of bs i)) other ∙ ap (λ (o : Option ℕ). is_some o) e) there)

  -- ## Where the variable lies

  -- its place among main's variables is that of a variable of the module
  module _ (i k n place : ℕ) (x : Text) (m : Meaning) (there : slice_get (scope_at bs.scopes i) k ≡ Some (x, m)) (laid : is_laid m ≡ true)
      (is : IsOfMonitor t i n) (found : module_of bs i ≡ Some n) (at : place ≡ variable_place bs i k)
      (stands : slice_get g.main.layout place ≡ Some m) where
    abbrev names : Names
    names = scope_at bs.scopes 0

    abbrev j : ℕ
    j = length (laid_names (take k (scope_at bs.scopes i)))

    not_zero : (i == 0) ≡ false
    not_zero = by (i == 0) refl
      where
        by : (z : Bool) → (i == 0) ≡ z → z ≡ false
        by true e = absurd (is.inner (grind (arith, nat_tests, e)))
        by false e = refl

    place_is : place ≡ before_module bs n names + j
    place_is =
        let behind = before_scope bs (module_of bs i) + (j + behind_result (sub_with bs.subs i) k) in
        at ∙ ap (λ (z : Bool). if z then length (main_layout bs (take k names)) else behind) not_zero
        ∙ ap (λ (o : Option ℕ). before_scope bs o + (j + behind_result (sub_with bs.subs i) k)) found
        ∙ ap (λ (o : Option SubHead). before_module bs n names + (j + behind_result o k)) (no_sub_there i (mains_of t lawful clean i n found))
        ∙ none (before_module bs n names) j
      where
        none : (a b : ℕ) → a + (b + 0) ≡ a + b
        none a b = omega arith

    within : j < length (laid_names (scope_at bs.scopes (module_at bs n).scope))
    within =
        subst (λ (h : ℕ). j < length (laid_names (scope_at bs.scopes h))) (sym is.scope) (laid_within (scope_at bs.scopes i) k x m there laid)

    abbrev its : IsThere (finished t) built names no_objects n j m
    its = module_value (finished t) built names (are_of_main t lawful) no_objects n j m
        (ap (λ (p : ℕ). slice_get (main_layout bs names) p) (sym place_is)
        ∙ (ap (λ (l : Layout). slice_get l place) (sym (layout_is t)) ∙ stands)) within

    one_of : (path : List ℕ) (o : ℕ) → IsPath forms (laid_type m) path (Some condition) o
        → IsOneOf g.objects.conditions (module_number bs n) (part path (get_or g.variables place (ordinal (pos 0))))
    one_of path o leads =
        subst (λ (v : Value). IsOneOf g.objects.conditions (module_number bs n) (part path v))
        (sym (get_or_from_slice_get g.variables place its.value (ordinal (pos 0)) (ap (λ (p : ℕ). slice_get g.variables p) place_is ∙ its.at)))
        (its.owned path o leads)

  -- ## A condition in a variable

  of_variable : (i k place : ℕ) (x : Text) (u : TypeId) (r : Bool) (path : List ℕ) (o : ℕ) → slice_get (scope_at bs.scopes i) k ≡ Some (x, Variable u r)
      → place ≡ variable_place bs i k → IsPath forms (Some u) path (Some condition) o → IsItsMonitors t i place (Variable u r) path
  of_variable i k place x u r path o there at leads = by (whose i k x u r there)
    where
      by : Whose i u → IsItsMonitors t i place (Variable u r) path
      by (inl (n, is, found)) = (n, is, λ stands. one_of i k n place x (Variable u r) there refl is found at stands path o leads)
      by (inr none) = absurd (no_condition_on_path forms built u path o none leads)

  pub its_monitors : (i place : ℕ) (m : Meaning) (path : List ℕ) (o : ℕ) → IsOfScope bs i place m → IsPath forms (laid_type m) path (Some condition) o
      → IsItsMonitors t i place m path
  its_monitors i place (Variable u r) path o (of_name x k there at) leads = of_variable i k place x u r path o there at leads
  its_monitors i place m path o (of_result u simple is) leads =
      absurd (plain (simple_part_plain forms built u (Some condition) path o simple
      (subst (λ (n : Meaning). IsPath forms (laid_type n) path (Some condition) o) is leads)))
    where
      plain : is_object_type forms (Some condition) ≡ false → ⊥
      plain h = cc
  its_monitors i place m path o (of_name x k there at) leads = absurd (from_nothing leads refl condition refl)
