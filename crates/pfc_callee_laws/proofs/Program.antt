-- The blocks of a lawful program in which no static rule is broken.
use Rattle.std.proofs.Common.{◌≡◌, ℕ, zero, suc, ◌+◌, ◌<◌, ◌≤◌, ◌&&◌, Bool, true, false, nat_lt, List, [], ◌∷◌, length, take, drop, get_or, Option, Some, refl}
use Rattle.std.proofs.Common.{sym, ap, ◌∙◌, subst, arith}
use Rattle.std.specs.Prelude.{nat_le, bytes_eq}
use Rattle.std.specs.List.{All, slice_get}
use Rattle.std.specs.Option.{IfSome}
use Rattle.std.proofs.lemmas.Bool.Decides.{nat_tests}
use Rattle.std.proofs.lemmas.List.Elements.{All-head, All-tail}
use Rattle.std.proofs.lemmas.Map.Entries.{All-lookup}
use Rattle.pfc_tree.specs.Symbols.{Text}
use Rattle.pfc_tree.specs.trees.Parts.{ProgramTree}
use Rattle.pfc_tree.specs.forget.Parts.{forget_program}
use Rattle.pfc_tree.specs.lawful.Parts.{IsLawful}
use Rattle.pfc_types.specs.Types.{Forms, held_of}
use Rattle.pfc_types.specs.Scopes.{Names, scope_at, meaning_in}
use Rattle.pfc_types.specs.Blocks.{Blocks, sub_at, process_at}
use Rattle.pfc_types.specs.declared.types.TypeId.{TypeId}
use Rattle.pfc_types.specs.declared.scope.Meaning.{Meaning}
use Rattle.pfc_types.specs.declared.scope.Meaning.TheVariants.{Constant, Named, Variable, Sub, Module, Process, Entry, Predeclared, Faulty}
use Rattle.pfc_types.specs.rules.Bodies.{parts_scopes}
use Rattle.pfc_types.specs.rules.Whole.{finished}
use Rattle.pfc_name_laws.proofs.Parts.{finished_reached}
use Rattle.pfc_semantics.specs.Layouts.{is_laid}
use Rattle.pfc_semantics.specs.Programs.{Block, Program, block_at, program_of}
use Rattle.pfc_translation.specs.Sites.{is_mains, is_accept, is_reference}
use Rattle.pfc_image_laws.specs.Modules.{modules_from}
use Rattle.pfc_image_laws.proofs.Modules.{program_modules}
use Rattle.pfc_image_cells.proofs.Trees.{among, mods, mods_behind, program_mods}
use Rattle.pfc_cells.specs.Homes.{laid_type}
use Rattle.pfc_cells.specs.Shapes.{IsPath}
use Rattle.pfc_standing_code.specs.Shapes.{is_object_type}
use Rattle.pfc_type_laws.proofs.WalkTypes.{IsPlaced}
use Rattle.pfc_type_laws.proofs.WalkBlocks.{finished_holds, types_built}
use Rattle.pfc_nesting_laws.proofs.Numbered.{Every, every_at, Numbered, parts_numbered}
use Rattle.pfc_nesting_laws.proofs.Apart.{IsClear, parts_clear, not_mains}
use Rattle.pfc_nesting_laws.proofs.Programs.{by_scope}
use Rattle.pfc_callee_laws.proofs.Fine.{IsOwn, IsFine, IsFineSub, IsFineProcess, Fine}
use Rattle.pfc_callee_laws.proofs.Parts.{finished_fine}
use Rattle.pfc_callee_laws.proofs.Agreed.{IsFound, program_agrees}
use Rattle.pfc_callee_laws.proofs.Outers.{IsOutside, parts_outside}
use Rattle.pfc_callee_laws.proofs.Laid.{IsLaidBy, parts_laid, all_both}
use Rattle.pfc_callee_laws.proofs.Once.{names_once}
use Rattle.pfc_callee_laws.proofs.Values.{no_part_is_object}

every_from : (P : Block → Type 0) (bs : List Block) → ((k : ℕ) (b : Block) → slice_get bs k ≡ Some b → P b) → Every P bs
every_from P [] h = tt
every_from P (b ∷ bs) h = (h 0 b refl, every_from P bs (λ k c e. h (suc k) c e))

-- no part of a variable with this meaning is an object
abbrev pub HoldsNone : Forms → Meaning → Type 0
HoldsNone forms m =
    (path : List ℕ) (u : Option TypeId) (o : ℕ) → is_reference m ≡ false → IsPath forms (laid_type m) path u o → is_object_type forms u ≡ false

-- where it is laid out
abbrev pub IsPlainName : Forms → Meaning → Type 0
IsPlainName forms m = is_laid m ≡ true → HoldsNone forms m

-- what is true of all stands at each place
at_place : {A : Type 0} (P : A → Type 0) (xs : List A) (n : ℕ) (x : A) → All P xs → slice_get xs n ≡ Some x → P x
at_place P [] n x h e = absurd (cc)
at_place P (y ∷ xs) zero x h e = subst P (one y x e) (All-head P y xs h)
  where
    one : {B : Type 0} (a b : B) → Some a ≡ Some b → a ≡ b
    one a b q = cc
at_place P (y ∷ xs) (suc n) x h e = at_place P xs n x (All-tail P y xs h) e

pub own_plain : (m : Meaning) → IsOwn m → is_reference m ≡ false
own_plain (Variable t r) h = h
own_plain (Constant t n) h = refl
own_plain (Named t) h = refl
own_plain (Sub n) h = refl
own_plain (Module n) h = refl
own_plain (Process n) h = refl
own_plain (Entry n) h = refl
own_plain (Predeclared n) h = refl
own_plain Faulty h = refl

module _ (t : ProgramTree) (lawful : IsLawful (forget_program t)) where
  abbrev pub g : Program
  g = program_of t

  abbrev pub bs : Blocks
  bs = (finished t).blocks

  abbrev pub forms : Forms
  forms = (finished t).forms

  abbrev pub mains : ℕ → Bool
  mains i = is_mains bs i

  abbrev pub its : ℕ → Block
  its i = block_at (program_of t) i

  found : Every (IsFound (finished t) mains its) g.blocks
  found = every_from (IsFound (finished t) mains its) g.blocks (λ k b e. by_scope t lawful k b e)

  of_modules : (j : ℕ) → among j (mods 1 t.parts) ≡ true → is_mains bs j ≡ true
  of_modules j h = by (nat_lt 0 j) refl
    where
      by : (r : Bool) → nat_lt 0 j ≡ r → is_mains bs j ≡ true
      by true e = let some : 0 < j = grind (arith, nat_tests) in program_mods t lawful j (omega (arith, some)) ∙ h
      by false e =
          let none : j ≤ 0 = grind (arith, nat_tests) in
          (let both : true ≡ false = sym h ∙ mods_behind 1 t.parts j (omega (arith, none)) in absurd (cc))

  pub fine : Fine mains its (finished t)
  fine = finished_fine mains its t refl (program_agrees (finished t) mains its 0 1 t.parts lawful.0 refl of_modules found)

  -- ## Subs

  -- the block of a sub stands in the scope in which its name is declared
  pub declared_in : (n i : ℕ) (x : Text) → meaning_in (scope_at bs.scopes i) x ≡ Some (Sub n) → (block_at g (sub_at bs n).scope).outer ≡ i
  declared_in n i x e =
      (subst (λ (m : Option Meaning). IfSome m (IsFine mains its forms bs.subs i)) e
      (All-lookup (IsFine mains its forms bs.subs i) (bytes_eq x) (scope_at bs.scopes i) (fine.names i))).1

  -- outside main's scopes no variable holds a condition
  pub unheld : (i k : ℕ) (x : Text) (u : TypeId) (r : Bool) → mains i ≡ false → slice_get (scope_at bs.scopes i) k ≡ Some (x, Variable u r)
      → (held_of forms u).conditions ≡ false
  unheld i k x u r apart e =
      (at_place (λ (y : Text × Meaning). IsFine mains its forms bs.subs i y.1) (scope_at bs.scopes i) k (x, Variable u r) (fine.names i) e).2 apart

  pub of_sub : (n : ℕ) → n < length bs.subs → IsFineSub mains its bs.scopes (sub_at bs n)
  of_sub n below = fine.subs_fine n below

  pub of_process : (n : ℕ) → n < length bs.processes → IsFineProcess mains its bs.scopes (process_at bs n)
  of_process n below = fine.processes_fine n below

  -- no block stands in the scope of an accept
  pub outside_accepts : (j k : ℕ) (b callee : Block) → slice_get g.blocks j ≡ Some b → slice_get g.blocks k ≡ Some callee
      → is_accept b callee.outer ≡ true → ⊥
  outside_accepts j k b callee at at_callee =
      every_at (λ (c : Block). is_accept b c.outer ≡ true → ⊥) g.blocks k callee
      (every_at (IsOutside g.blocks) g.blocks j b (parts_outside (finished t) false 0 0 [] 1 t.parts (omega arith) tt) at) at_callee

  -- ## Objects

  name_plain : (i : ℕ) → mains i ≡ false → (x : Text × Meaning) → IsFine mains its forms bs.subs i x.1
      → meaning_in (scope_at bs.scopes i) x.0 ≡ Some x.1 → IsPlainName forms x.1
  name_plain i apart x h e = by x.1 h (subst (λ (m : Option Meaning). IsPlaced forms m) e ((finished_holds t).placed i x.0))
    where
      by : (m : Meaning) → IsFine mains its forms bs.subs i m → IsPlaced forms (Some m) → IsPlainName forms m
      by (Variable u false) h place laid = λ path v o value is. no_part_is_object forms (types_built t) u v path o place (h.1 apart refl) is
      by (Variable u true) h place laid = λ path v o value is. absurd (cc)
      by (Process n) h place laid = (let both : true ≡ false = sym h ∙ apart in absurd (cc))
      by (Constant u n) h place laid = absurd (cc)
      by (Named u) h place laid = absurd (cc)
      by (Sub n) h place laid = absurd (cc)
      by (Module n) h place laid = absurd (cc)
      by (Entry n) h place laid = absurd (cc)
      by (Predeclared n) h place laid = absurd (cc)
      by Faulty h place laid = absurd (cc)

  pub names_plain : (i : ℕ) → mains i ≡ false → All (λ (x : Text × Meaning). IsPlainName forms x.1) (scope_at bs.scopes i)
  names_plain i apart =
      all_both (λ x. IsFine mains its forms bs.subs i x.1) (λ x. meaning_in (scope_at bs.scopes i) x.0 ≡ Some x.1) (λ x. IsPlainName forms x.1)
      (λ x h e. name_plain i apart x h e) (scope_at bs.scopes i) (fine.names i) (names_once (finished t) (finished_reached t) i)

  -- ## A block

  module _ (k : ℕ) (b : Block) (at : slice_get g.blocks k ≡ Some b) where
    pub its_numbers : Numbered 1 (1 + parts_scopes t.parts) b
    its_numbers = every_at (Numbered 1 (1 + parts_scopes t.parts)) g.blocks k b (parts_numbered (finished t) false 0 0 [] 1 t.parts (omega arith) tt) at

    pub its_layout : IsLaidBy (finished t) b
    its_layout = every_at (IsLaidBy (finished t)) g.blocks k b (parts_laid (finished t) false 0 0 [] 1 t.parts) at

    -- the scopes of its accepts are not main's
    accept_apart : (i : ℕ) → is_accept b i ≡ true → mains i ≡ false
    accept_apart i h =
        let clear = every_at (IsClear (modules_from 1 t.parts)) g.blocks k b (parts_clear (finished t) false 0 0 [] 1 t.parts (omega arith) tt) at in
        let low = (its_numbers.accepts i h).0 in
        not_mains bs (modules_from 1 t.parts) i (program_modules t lawful) (clear.accepts i h) (omega (arith, low))

    -- the names of each accept
    pub accept_plain : (j : ℕ) → j < length (take b.accepts (drop b.next bs.scopes))
        → All (λ (x : Text × Meaning). IsPlainName forms x.1) (get_or (take b.accepts (drop b.next bs.scopes)) j [])
    accept_plain j below =
        let few = taken_few b.accepts (drop b.next bs.scopes) in
        let inside : j < b.accepts = omega (arith, below, few) in
        subst (λ (l : Names). All (λ (x : Text × Meaning). IsPlainName forms x.1) l)
        (sym (taken_at b.accepts (drop b.next bs.scopes) j inside ∙ dropped_at b.next bs.scopes j))
        (names_plain (b.next + j) (accept_apart (b.next + j) (between b.next b.accepts j inside)))
      where
        taken_few : (n : ℕ) (l : List Names) → length (take n l) ≤ n
        taken_few zero l = omega arith
        taken_few (suc n) [] = omega arith
        taken_few (suc n) (x ∷ l) = let rest = taken_few n l in omega (arith, rest)

        taken_at : (n : ℕ) (l : List Names) (i : ℕ) → i < n → get_or (take n l) i [] ≡ get_or l i []
        taken_at zero l i h = absurd (omega (arith, h))
        taken_at (suc n) [] i h = refl
        taken_at (suc n) (x ∷ l) zero h = refl
        taken_at (suc n) (x ∷ l) (suc i) h = taken_at n l i (omega (arith, h))

        dropped_at : (n : ℕ) (l : List Names) (i : ℕ) → get_or (drop n l) i [] ≡ get_or l (n + i) []
        dropped_at zero l i = let same : i ≡ 0 + i = omega arith in ap (λ (j : ℕ). get_or l j []) same
        dropped_at (suc n) [] i = refl
        dropped_at (suc n) (x ∷ l) i =
            let same : suc (n + i) ≡ suc n + i = omega arith in dropped_at n l i ∙ ap (λ (j : ℕ). get_or (x ∷ l) j []) same

        between : (n count i : ℕ) → i < count → (nat_le n (n + i) && nat_lt (n + i) (n + count)) ≡ true
        between n count i h = grind (arith, h)
