-- The names of a lawful program are as what lies in main's block asks.
use Rattle.std.proofs.Common.{◌≡◌, ℕ, zero, suc, ◌<◌, Bool, true, false, List, [], ◌∷◌, length, get_or, refl, sym, ◌∙◌, subst, arith}
use Rattle.std.specs.List.{All}
use Rattle.std.proofs.lemmas.List.Elements.{All-nil, All-cons, All-head, All-tail}
use Rattle.pfc_tree.specs.trees.Parts.{ProgramTree}
use Rattle.pfc_tree.specs.forget.Parts.{forget_program}
use Rattle.pfc_tree.specs.lawful.Parts.{IsLawful}
use Rattle.pfc_types.specs.Types.{Forms}
use Rattle.pfc_types.specs.Scopes.{Names, scope_at}
use Rattle.pfc_types.specs.Blocks.{State, module_at, no_module}
use Rattle.pfc_types.specs.declared.heads.ModuleHead.{ModuleHead}
use Rattle.pfc_types.specs.declared.scope.Meaning.{Meaning}
use Rattle.pfc_types.specs.declared.scope.Meaning.TheVariants.{Constant, Named, Variable, Sub, Module, Process, Entry, Predeclared, Faulty}
use Rattle.pfc_types.specs.rules.Declarations.{in_program, module_owner, may_share}
use Rattle.pfc_types.specs.rules.Whole.{finished}
use Rattle.pfc_name_laws.specs.Reached.{IsNumbered}
use Rattle.pfc_name_laws.proofs.Numbers.{numbered}
use Rattle.pfc_name_laws.proofs.Parts.{finished_reached}
use Rattle.pfc_image_laws.proofs.Modules.{program_modules}
use Rattle.pfc_object_laws.specs.Mains.{IsOfModule, IsOfMain, AreOfMain}
use Rattle.pfc_main_names.specs.Owners.{IsOfOwner}
use Rattle.pfc_main_names.proofs.Owned.{IsFine}
use Rattle.pfc_main_names.proofs.Walk.{names_fine}

-- a module shares nothing
shares_none : (is_resource : Bool) → may_share (module_owner is_resource) ≡ false
shares_none true = refl
shares_none false = refl

of_module : (is_resource : Bool) (forms : Forms) (m : Meaning) → IsOfOwner (module_owner is_resource) forms m → IsOfModule forms m
of_module is_resource forms (Variable t r) h = (h.0, h.1 (shares_none is_resource))
of_module is_resource forms (Process n) h = let both : true ≡ false = sym h ∙ shares_none is_resource in cc
of_module is_resource forms (Constant t n) h = tt
of_module is_resource forms (Named t) h = tt
of_module is_resource forms (Sub n) h = tt
of_module is_resource forms (Module n) h = tt
of_module is_resource forms (Entry n) h = tt
of_module is_resource forms (Predeclared n) h = tt
of_module is_resource forms Faulty h = tt

all_of_module : (is_resource : Bool) (forms : Forms) (names : Names) → All (λ x. IsOfOwner (module_owner is_resource) forms x.1) names
    → All (λ x. IsOfModule forms x.1) names
all_of_module is_resource forms [] h = All-nil (λ x. IsOfModule forms x.1)
all_of_module is_resource forms (x ∷ names) h =
    All-cons (λ y. IsOfModule forms y.1) x names
    (of_module is_resource forms x.1 (All-head (λ y. IsOfOwner (module_owner is_resource) forms y.1) x names h))
    (all_of_module is_resource forms names (All-tail (λ y. IsOfOwner (module_owner is_resource) forms y.1) x names h))

pub there : {A : Type 0} (P : A → Type 0) (xs : List A) (n : ℕ) (d : A) → All P xs → n < length xs → P (get_or xs n d)
there P [] n d h below = absurd (omega (arith, below))
there P (x ∷ xs) zero d h below = All-head P x xs h
there P (x ∷ xs) (suc n) d h below = there P xs n d (All-tail P x xs h) (omega (arith, below))

module _ (t : ProgramTree) (lawful : IsLawful (forget_program t)) where
  abbrev s : State
  s = finished t

  pub modules_inside : All (λ (head : ModuleHead). (0 < head.scope) × (head.scope < length s.blocks.scopes) × IsFine (module_owner head.resource) s.forms 0 s
      head.scope) s.blocks.modules
  modules_inside =
      subst (λ (l : List ModuleHead). All (λ (head : ModuleHead). (0 < head.scope) × (head.scope < length s.blocks.scopes)
      × IsFine (module_owner head.resource) s.forms 0 s head.scope) l) (sym (program_modules t lawful)) (names_fine t lawful).inside

  of_main : (m : Meaning) → IsOfOwner in_program s.forms m → IsNumbered s.blocks 0 m → IsOfMain s m
  of_main (Variable u r) h n = h.0
  of_main (Module k) h n =
      let inside =
      there (λ (head : ModuleHead). (0 < head.scope) × (head.scope < length s.blocks.scopes) × IsFine (module_owner head.resource) s.forms 0 s head.scope)
      s.blocks.modules k no_module modules_inside n in
      all_of_module (module_at s.blocks k).resource s.forms (scope_at s.blocks.scopes (module_at s.blocks k).scope) inside.2.owned
  of_main (Process k) h n = tt
  of_main (Constant u v) h n = tt
  of_main (Named u) h n = tt
  of_main (Sub k) h n = tt
  of_main (Entry k) h n = tt
  of_main (Predeclared k) h n = tt
  of_main Faulty h n = tt

  all_of_main : (names : Names) → All (λ x. IsOfOwner in_program s.forms x.1) names → All (λ x. IsNumbered s.blocks 0 x.1) names
      → All (λ x. IsOfMain s x.1) names
  all_of_main [] h n = All-nil (λ x. IsOfMain s x.1)
  all_of_main (x ∷ names) h n =
      All-cons (λ y. IsOfMain s y.1) x names
      (of_main x.1 (All-head (λ y. IsOfOwner in_program s.forms y.1) x names h) (All-head (λ y. IsNumbered s.blocks 0 y.1) x names n))
      (all_of_main names (All-tail (λ y. IsOfOwner in_program s.forms y.1) x names h) (All-tail (λ y. IsNumbered s.blocks 0 y.1) x names n))

  -- the names of the program
  pub are_of_main : AreOfMain (finished t)
  are_of_main = all_of_main (scope_at s.blocks.scopes 0) (names_fine t lawful).program.owned ((numbered s (finished_reached t)).names 0)
