-- A sub's name is declared as the sub only where its heading is whole: each parameter has a type, and so has a function's result.
use Rattle.std.proofs.Common.{◌≡◌, ℕ, Bool, true, false, not, ◌&&◌, if◌then◌else◌, is_some, List, [], ◌∷◌, ◌++◌, length, Option, Some, refl, sym, ap, ap₂, ◌∙◌}
use Rattle.std.proofs.Common.{arith, length-append}
use Rattle.std.proofs.Math.Seq.{get_or-append_seam}
use Rattle.pfc_tree.specs.Symbols.{Text}
use Rattle.pfc_base.specs.declared.places.Place.{Place}
use Rattle.pfc_tree.specs.trees.Types.{GroupTree}
use Rattle.pfc_types.specs.Faults.{Faults, none, one, ◌⨾◌, unless}
use Rattle.pfc_types.specs.Blocks.{State, Blocks, note, declare, add_name, open_scope, with_sub, sub_at, no_sub}
use Rattle.pfc_types.specs.Scopes.{Level, here, meaning_in, scope_at}
use Rattle.pfc_types.specs.declared.types.TypeId.{TypeId}
use Rattle.pfc_types.specs.declared.scope.Meaning.{Meaning}
use Rattle.pfc_types.specs.declared.heads.Formal.{Formal}
use Rattle.pfc_types.specs.declared.heads.SubHead.{SubHead}
use Rattle.pfc_types.specs.rules.Kinds.{variable_meaning}
use Rattle.pfc_types.specs.rules.Declarations.{Heading, group_type, broken_group, formal_heading, formals_heading, group_heading, groups_heading, heading}
use Rattle.pfc_types.specs.rules.Declarations.{whole_sort, sub_meaning}
use Rattle.pfc_types.specs.rules.FaultyNames.{all_typed, is_whole_head}
use Rattle.pfc_types.proofs.Clean.{and-left, and-right}
use Rattle.pfc_types.proofs.Sound.{IsSound}

-- ## A heading adds no sub

note_subs : (s : State) (fs : Faults) → (note s fs).blocks.subs ≡ s.blocks.subs
note_subs s none = refl
note_subs s (one f) = refl
note_subs s (fs ⨾ gs) = note_subs (note s fs) gs ∙ note_subs s fs

declare_subs : (s : State) (i : ℕ) (x : Text × Place) (m : Meaning) → (declare s i x m).blocks.subs ≡ s.blocks.subs
declare_subs s i x m = by (is_some (meaning_in (scope_at s.blocks.scopes i) x.0))
  where
    by : (b : Bool) → (if b then note s (unless false x.1 302) else add_name s i x.0 m).blocks.subs ≡ s.blocks.subs
    by true = refl
    by false = refl

formals_subs : (i : ℕ) (reference : Bool) (t : Option TypeId) (h : Heading) (xs : List (Text × Place)) →
    (formals_heading i reference t h xs).state.blocks.subs ≡ h.state.blocks.subs
formals_subs i reference t h [] = refl
formals_subs i reference t h (x ∷ xs) = formals_subs i reference t (formal_heading i reference t h x) xs ∙
    declare_subs h.state i x (variable_meaning reference t)

groups_subs : (i : ℕ) (outer : List Level) (h : Heading) (gs : List GroupTree) → (groups_heading i outer h gs).state.blocks.subs ≡ h.state.blocks.subs
groups_subs i outer h [] = refl
groups_subs i outer h (g ∷ gs) =
    groups_subs i outer (group_heading i outer h g) gs
    ∙ formals_subs i g.reference (group_type h.state (here h.state.blocks.scopes i outer) g) _ g.names
    ∙ note_subs h.state (broken_group h.state (here h.state.blocks.scopes i outer) g)

pub heading_subs : (s : State) (own : ℕ) (around : List Level) (gs : List GroupTree) (fs : Faults) →
    (note (heading (open_scope s) own around gs).state fs).blocks.subs ≡ s.blocks.subs
heading_subs s own around gs fs = note_subs (heading (open_scope s) own around gs).state fs ∙
    groups_subs own around (record { state = open_scope s; formals = []; whole = true }) gs

-- ## A whole heading has types for all

typed_push : (fs : List Formal) (f : Formal) → all_typed (fs ++ f ∷ []) ≡ (all_typed fs && is_some f.t)
typed_push [] f = by (is_some f.t)
  where
    by : (b : Bool) → (b && true) ≡ (true && b)
    by true = refl
    by false = refl
typed_push (g ∷ fs) f = ap (λ x. is_some g.t && x) (typed_push fs f) ∙ by (is_some g.t) (all_typed fs) (is_some f.t)
  where
    by : (a b c : Bool) → (a && (b && c)) ≡ ((a && b) && c)
    by true b c = refl
    by false b c = refl

formals_typed :
    (i : ℕ) (reference : Bool) (t : Option TypeId) (h : Heading) (xs : List (Text × Place)) →
    (h.whole ≡ true → (all_typed h.formals ≡ true) × (is_some t ≡ true))
    → (formals_heading i reference t h xs).whole ≡ true → all_typed (formals_heading i reference t h xs).formals ≡ true
formals_typed i reference t h [] known w = (known w).0
formals_typed i reference t h (x ∷ xs) known w = formals_typed i reference t (formal_heading i reference t h x) xs next w
  where
    fresh : Bool
    fresh = not (is_some (meaning_in (scope_at h.state.blocks.scopes i) x.0))

    next : (h.whole && fresh) ≡ true → (all_typed (h.formals ++ record { t = t; reference = reference } ∷ []) ≡ true) × (is_some t ≡ true)
    next e = (
      typed_push h.formals (record { t = t; reference = reference }) ∙
          ap₂ (λ a b. a && b) (known (and-left h.whole fresh e)).0 (known (and-left h.whole fresh e)).1,
      (known (and-left h.whole fresh e)).1,
    )

groups_typed : (i : ℕ) (outer : List Level) (h : Heading) (gs : List GroupTree) → (h.whole ≡ true → all_typed h.formals ≡ true) →
    (groups_heading i outer h gs).whole ≡ true → all_typed (groups_heading i outer h gs).formals ≡ true
groups_typed i outer h [] known w = known w
groups_typed i outer h (g ∷ gs) known w = groups_typed i outer (group_heading i outer h g) gs (λ e. formals_typed i g.reference t _ g.names next e) w
  where
    t : Option TypeId
    t = group_type h.state (here h.state.blocks.scopes i outer) g

    next : (h.whole && is_some t) ≡ true → (all_typed h.formals ≡ true) × (is_some t ≡ true)
    next e = (known (and-left h.whole (is_some t) e), and-right h.whole (is_some t) e)

pub heading_typed : (s : State) (own : ℕ) (around : List Level) (gs : List GroupTree) → (heading s own around gs).whole ≡ true →
    all_typed (heading s own around gs).formals ≡ true
heading_typed s own around gs = groups_typed own around (record { state = s; formals = []; whole = true }) gs (λ e. refl)

-- ## The name of a sub

-- the sub with number n, which is added last
pub sub_sound : (b : Blocks) (head : SubHead) (whole : Bool) (n : ℕ) → length b.subs ≡ n → (whole ≡ true → all_typed head.formals ≡ true) →
    IsSound (with_sub b head) (Some (sub_meaning (whole && whole_sort head.sort) n))
sub_sound b head whole n count known = by (whole && whole_sort head.sort) refl
  where
    at : sub_at (with_sub b head) n ≡ head
    at = ap (sub_at (with_sub b head)) (sym count) ∙ get_or-append_seam b.subs head [] no_sub

    by : (w : Bool) → (whole && whole_sort head.sort) ≡ w → IsSound (with_sub b head) (Some (sub_meaning w n))
    by true e = (
      omega (arith, count, length-append b.subs (head ∷ [])),
      ap is_whole_head at ∙
          ap₂ (λ x y. x && y) (known (and-left whole (whole_sort head.sort) e)) (and-right whole (whole_sort head.sort) e),
    )
    by false e = tt
