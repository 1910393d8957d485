-- What the guard of a procedure may name is known in its body.
use Rattle.std.proofs.Common.{◌≡◌, ℕ, Bool, true, false, ◌||◌, ◌==◌, List, [], ◌∷◌, slice_get, Some, refl, sym, ap, ◌∙◌}
use Rattle.std.specs.List.{list_any}
use Rattle.pfc_tree.specs.trees.Parts.{ProgramTree}
use Rattle.pfc_tree.specs.forget.Parts.{forget_program}
use Rattle.pfc_tree.specs.lawful.Parts.{IsLawful}
use Rattle.pfc_types.specs.Scopes.{Level}
use Rattle.pfc_semantics.specs.Programs.{Block, Guard, Program, program_of}
use Rattle.pfc_translation.specs.Sites.{is_mains, linked}
use Rattle.pfc_standing_code.specs.Words.{is_known, AreKnown}
use Rattle.pfc_call_laws.specs.Around.{scopes_around}
use Rattle.pfc_typed_programs.proofs.GuardViews.{guard_own}

or_first : (x y : Bool) → x ≡ true → (x || y) ≡ true
or_first true y h = refl
or_first false y h = absurd (cc)

or_second : (x y : Bool) → y ≡ true → (x || y) ≡ true
or_second true y h = refl
or_second false y h = h

module _ (t : ProgramTree) (lawful : IsLawful (forget_program t)) (k : ℕ) (b : Block) (guard : Guard)
    (there : slice_get (program_of t).blocks k ≡ Some b) (is : b.guard ≡ Some guard)
    (around : scopes_around (program_of t) b ≡ b.scope ∷ []) where
  abbrev p : Program
  p = program_of t

  own_known : (i : ℕ) → (b.scope == i) ≡ true → is_known p.state.blocks b [] i ≡ true
  own_known i same =
      or_second (is_mains p.state.blocks i) _
      (or_first (list_any (λ j. j == i) (linked p.state.blocks b.env.view)) _
      (ap (λ (xs : List ℕ). list_any (λ j. j == i) xs) around ∙ or_first (b.scope == i) false same))

  by_own : (x : Bool) (i : ℕ) → is_mains p.state.blocks i ≡ x → (x || (b.scope == i)) ≡ true → is_known p.state.blocks b [] i ≡ true
  by_own true i mains some = or_first (is_mains p.state.blocks i) _ mains
  by_own false i mains some = own_known i some

  pub guard_known : AreKnown p b [] guard.env
  guard_known i seen = by (is_mains p.state.blocks i) refl seen
    where
      by : (x : Bool) → is_mains p.state.blocks i ≡ x → (x || list_any (λ (level : Level). level.scope == i) guard.env.view) ≡ true
          → is_known p.state.blocks b [] i ≡ true
      by true mains some = or_first (is_mains p.state.blocks i) _ mains
      by false mains some =
          by_own false i mains (ap (λ (x : Bool). x || (b.scope == i)) (sym mains) ∙ guard_own t lawful k b guard there is i some)
