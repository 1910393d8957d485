-- What one process has anew behind its action, with the line of that, and what the others have.
use Rattle.std.proofs.Common.{◌≡◌, ◌≢◌, ℕ, zero, suc, ◌<◌, List, [], ◌∷◌, length, set, get_or, refl, sym, ap, ◌∙◌, subst}
use Rattle.std.proofs.lemmas.List.{get_or-set_same, get_or-set_other, length-set}
use Rattle.pfc_semantics.specs.Programs.{Program}
use Rattle.pfc_semantics.specs.Configurations.{Activity, nobody}
use Rattle.pfc_stacks.specs.Stacks.{Stack, Stacks, no_stack, stack_of}
use Rattle.pfc_machines.specs.declared.descriptors.Descriptor.{Descriptor}
use Rattle.pfc_machines.specs.Descriptors.{descriptor_by}
use Rattle.pfc_representation.specs.Keeping.{IsSameStack}

-- an element is another, and then another still
pub set_twice : {A : Type 0} (xs : List A) (i : ℕ) (x y : A) → set (set xs i x) i y ≡ set xs i y
set_twice [] i x y = refl
set_twice (z ∷ xs) zero x y = refl
set_twice (z ∷ xs) (suc i) x y = ap (λ rest. z ∷ rest) (set_twice xs i x y)

-- the stacks of others
pub stack_beside : (stacks : Stacks) (p : ℕ) (new : Stack) (q : ℕ) → q ≢ p → IsSameStack (stack_of stacks q) (stack_of (set stacks p new) q)
stack_beside stacks p new q apart =
    let same : stack_of (set stacks p new) q ≡ stack_of stacks q = get_or-set_other stacks p q new no_stack apart in
    record {
      at = ap (λ (x : Stack). x.at) same;
      base = ap (λ (x : Stack). x.base) same;
      operands = ap (λ (x : Stack). x.operands) same;
      room = ap (λ (x : Stack). x.room) same;
      spare = ap (λ (x : Stack). x.spare) same;
      looks_from = ap (λ (x : Stack). x.looks_from) same;
    }

-- ## With the line of the action

module _ (g : Program) (activities : List Activity) (p : ℕ) (less : p < length activities) (next : Activity) (line : ℕ) where
  abbrev pub lined : List Activity
  lined = set (set activities p next) p (record (get_or (set activities p next) p (nobody g)) { line = line })

  pub own_activity : get_or lined p (nobody g) ≡ record next { line = line }
  own_activity =
      get_or-set_same (set activities p next) p (record (get_or (set activities p next) p (nobody g)) { line = line }) (nobody g)
      (subst (λ n. p < n) (sym (length-set activities p next)) less)
      ∙ ap (λ (x : Activity). record x { line = line }) (get_or-set_same activities p next (nobody g) less)

  pub other_activity : (q : ℕ) → q ≢ p → get_or lined q (nobody g) ≡ get_or activities q (nobody g)
  other_activity q apart =
      get_or-set_other (set activities p next) p q (record (get_or (set activities p next) p (nobody g)) { line = line }) (nobody g) apart
      ∙ get_or-set_other activities p q next (nobody g) apart

  pub as_many_activities : length lined ≡ length activities
  as_many_activities =
      length-set (set activities p next) p (record (get_or (set activities p next) p (nobody g)) { line = line }) ∙ length-set activities p next

module _ (descriptors : List Descriptor) (p : ℕ) (less : p < length descriptors) (next : Descriptor) (line : ℕ) where
  abbrev pub lined_descriptors : List Descriptor
  lined_descriptors = set (set descriptors p next) p (record (get_or (set descriptors p next) p (descriptor_by 0)) { line = line })

  pub own_descriptor : get_or lined_descriptors p (descriptor_by 0) ≡ record next { line = line }
  own_descriptor =
      get_or-set_same (set descriptors p next) p (record (get_or (set descriptors p next) p (descriptor_by 0)) { line = line }) (descriptor_by 0)
      (subst (λ n. p < n) (sym (length-set descriptors p next)) less)
      ∙ ap (λ (x : Descriptor). record x { line = line }) (get_or-set_same descriptors p next (descriptor_by 0) less)

  pub other_descriptor : (q : ℕ) → q ≢ p → get_or lined_descriptors q (descriptor_by 0) ≡ get_or descriptors q (descriptor_by 0)
  other_descriptor q apart =
      get_or-set_other (set descriptors p next) p q (record (get_or (set descriptors p next) p (descriptor_by 0)) { line = line }) (descriptor_by 0) apart
      ∙ get_or-set_other descriptors p q next (descriptor_by 0) apart

  pub as_many_descriptors : length lined_descriptors ≡ length descriptors
  as_many_descriptors =
      length-set (set descriptors p next) p (record (get_or (set descriptors p next) p (descriptor_by 0)) { line = line }) ∙ length-set descriptors p next
