-- Who calls an entry gives a variable for what the entry takes by reference.
use Rattle.std.proofs.Common.{◌≡◌, ℕ, zero, suc, ◌+◌, ℤ, pos, true, false, List, [], ◌∷◌, ◌++◌, length, length-append, option_map, Option, Some}
use Rattle.std.proofs.Common.{refl, sym, ap, ◌∙◌, subst, arith}
use Rattle.std.specs.List.{slice_get}
use Rattle.std.proofs.lemmas.Option.{slice_get-map, get_or_from_slice_get}
use Rattle.pfc_types.specs.Blocks.{entry_at}
use Rattle.pfc_types.specs.declared.heads.Formal.{Formal}
use Rattle.pfc_semantics.specs.Values.{ordinal, points}
use Rattle.pfc_semantics.specs.Displays.{Spot}
use Rattle.pfc_semantics.specs.Programs.{Program}
use Rattle.pfc_semantics.specs.Processes.{declaration_of}
use Rattle.pfc_semantics.specs.Remainders.{Context, Argument, Action, Remainder, by_value, by_reference, to_entry, calls}
use Rattle.pfc_semantics.specs.Configurations.{Config, location_for, number_for, passed, all_passed}
use Rattle.pfc_semantics.specs.Steps.{next_of}
use Rattle.pfc_translation.specs.Sites.{Site}
use Rattle.pfc_machines.specs.declared.machine.Machine.{Machine}
use Rattle.pfc_standing_code.specs.Settings.{View}
use Rattle.pfc_standing_code.specs.Words.{IsArgument, AreHeldAt, none_held, one_more}
use Rattle.pfc_object_laws.proofs.Lists.{Either, either, in_left, in_right, get_left, get_right_at}
use Rattle.pfc_representation.specs.Levels.{Facts, program_in, LivingLevel}
use Rattle.pfc_representation.specs.Acting.{IsActing, HasArrived}
use Rattle.pfc_kept_own_actions.proofs.Arrived.{has_setting}
use Rattle.pfc_kept_meetings.proofs.Owners.{IsOwner, is_owner}
use Rattle.pfc_kept_actions.proofs.Numbered.{has_singles}
use Rattle.pfc_arrivals.specs.Arrivals.{AreNumbered}
use Rattle.pfc_accept_laws.specs.Shown.{Passes, TakesVariables}

-- ## Arguments

as_many : {view : View} {s : Site} {formals : List Formal} {given : List Argument} {ops below : List ℤ} → AreHeldAt view s formals given ops below
    → length formals ≡ length given
as_many (none_held below) = refl
as_many (one_more formals given ops below f a words held is) =
    length-append formals (f ∷ []) ∙ (ap (λ (n : ℕ). n + 1) (as_many held) ∙ sym (length-append given (a ∷ [])))

-- what is taken by reference is a variable
lent : (view : View) (s : Site) (f : Formal) (a : Argument) (words : List ℤ) → IsArgument view s f a words → f.reference ≡ true
    → (v : Spot) × (a ≡ by_reference v)
lent view s f (by_value v) words is reference = (let both : true ≡ false = sym reference ∙ is.1 in absurd (cc))
lent view s f (by_reference v) words is reference = (v, refl)

given_there : {view : View} {s : Site} {formals : List Formal} {given : List Argument} {ops below : List ℤ} → AreHeldAt view s formals given ops below
    → (k : ℕ) (f : Formal) → slice_get formals k ≡ Some f → f.reference ≡ true → (v : Spot) × (slice_get given k ≡ Some (by_reference v))
given_there (none_held below) k f there reference = absurd (cc)
given_there {view} {s} (one_more formals given ops below f a words held is) k e there reference =
    by (either formals (f ∷ []) k e there) (given_there held k e)
  where
    last : (j : ℕ) → slice_get (f ∷ []) j ≡ Some e → (j ≡ 0) × (f ≡ e)
    last zero h = (refl, cc)
    last (suc j) h = absurd (cc)

    by : Either formals (f ∷ []) k e
        → (slice_get formals k ≡ Some e → e.reference ≡ true → (v : Spot) × (slice_get given k ≡ Some (by_reference v)))
        → (v : Spot) × (slice_get (given ++ a ∷ []) k ≡ Some (by_reference v))
    by (in_left h) before = let (v, at) = before h reference in (v, get_left given (a ∷ []) k (by_reference v) at)
    by (in_right j place h) before =
        let (first, same) = last j h in
        let (v, is_lent) = lent view s f a words is (ap (λ (y : Formal). y.reference) same ∙ reference) in
        let count = as_many held in
        (v, get_right_at given (a ∷ []) k 0 (omega (arith, place, first, count)) ∙ ap (λ (y : Argument). Some y) is_lent)

-- ## The entry

pub takes_variables : (facts : Facts) (m : Machine) (c : Config) (p : ℕ) (level : LivingLevel) (x : Context) (s : Spot) (entry : ℕ) (k : Remainder)
    (given : List Argument) → AreNumbered facts → IsActing facts m c p level → HasArrived facts m c p level (calls x (to_entry s entry k) given)
    → TakesVariables (program_in facts) (number_for (program_in facts) c p s) entry given
takes_variables facts m c p level x s entry k given numbered acting arrived =
    let (b, checked, by) = arrived.arrived in
    let (alone, (t, n, i, below, process, among, formals_are, over_is, object, there, rest)) = by.3 in
    let owner : IsOwner facts m c p level acting alone.0 b x s i checked n =
    is_owner facts m c p level acting alone.0 b x s i checked n t (has_singles facts m c p level numbered acting) process object in
    let g : Program = program_in facts in
    let same : entry_at g.state.blocks (declaration_of g (number_for g c p s)) entry ≡ by.0 =
    ap (λ (j : ℕ). entry_at g.state.blocks (declaration_of g j) entry) owner.spot
    ∙ ap (λ (j : ℕ). entry_at g.state.blocks j entry) owner.declared
    ∙ sym (formals_are ∙ ap (λ (y : Program). entry_at y.state.blocks n entry) (has_setting facts m c p level acting).image.program) in
    λ j f at reference. given_there by.2 j f (ap (λ (fs : List Formal). slice_get fs j) (sym same) ∙ at) reference

pub passes_locations : (facts : Facts) (m : Machine) (c : Config) (p : ℕ) (level : LivingLevel) → AreNumbered facts → IsActing facts m c p level
    → HasArrived facts m c p level (next_of (program_in facts) c p) → Passes (program_in facts) c p
passes_locations facts m c p level numbered acting arrived x s entry k given next j f at reference =
    let g : Program = program_in facts in
    let (v, there) = takes_variables facts m c p level x s entry k given numbered acting
    (subst (λ (n : Action). HasArrived facts m c p level n) next arrived) j f at reference in (
      location_for g c p v,
      get_or_from_slice_get (all_passed g c p given) j (points (location_for g c p v)) (ordinal (pos 0))
          (slice_get-map (passed g c p) given j ∙ ap (λ (o : Option Argument). option_map (passed g c p) o) there),
    )
