-- What a variable holds, in whichever table that begins so, and what declarations in a scope leave.
use Rattle.std.proofs.Common.{◌≡◌, ◌≢◌, ℕ, ◌+◌, ◌<◌, ◌≤◌, ◌||◌, ◌&&◌, Bool, true, false, not, nat_lt, if◌then◌else◌, is_some, List, [], ◌∷◌, ◌++◌, length}
use Rattle.std.proofs.Common.{get_or, length-set, get_or-set_same, Option, Some, None, refl, sym, ap, ◌∙◌, subst, arith}
use Rattle.std.specs.List.{All}
use Rattle.std.proofs.lemmas.Bool.Decides.{nat_tests}
use Rattle.std.proofs.lemmas.List.Sums.{fold-append}
use Rattle.std.proofs.lemmas.List.Elements.{All-nil, All-cons, All-append}
use Rattle.pfc_base.specs.declared.places.Place.{Place}
use Rattle.pfc_tree.specs.Symbols.{Text}
use Rattle.pfc_types.specs.Faults.{unless}
use Rattle.pfc_types.specs.Types.{Forms, held_of, all_held, held_next, one_cell, most_processes}
use Rattle.pfc_types.specs.Growing.{Begins}
use Rattle.pfc_types.specs.Scopes.{Names, scope_at, meaning_in}
use Rattle.pfc_types.specs.Blocks.{State, note, declare, add_name, set_population}
use Rattle.pfc_types.specs.declared.table.Held.{Held}
use Rattle.pfc_types.specs.declared.types.TypeId.{TypeId}
use Rattle.pfc_types.specs.declared.scope.Meaning.{Meaning}
use Rattle.pfc_types.specs.declared.scope.Meaning.TheVariants.{Faulty}
use Rattle.pfc_types.specs.rules.Kinds.{where_so, variable_meaning}
use Rattle.pfc_types.specs.rules.Declarations.{Owner, may_share, may_wait, holds_shared, holds_condition, shared_fits, condition_fits, owned_type, passes_most}
use Rattle.pfc_types.specs.rules.Declarations.{populated, brought, var_name_state, var_names_state}
use Rattle.pfc_types.proofs.Walking.{Kept, Opened, Walked, note_kept}
use Rattle.pfc_semantics.proofs.Tables.{built_kept, built_length}
use Rattle.pfc_type_laws.proofs.WalkTypes.{note_forms}
use Rattle.pfc_main_names.specs.Owners.{IsOfOwner}
use Rattle.pfc_main_names.proofs.Placed.{IsPlaced, IsPlain, plain_placed, HasPlace, ArePlaced, all_grown}
use Rattle.pfc_main_names.proofs.Rising.{Rises, rises_more, rises_push}

-- ## What a type holds

pub held_grown : (forms more : Forms) (t : TypeId) → t.place < length forms → held_of (forms ++ more) t ≡ held_of forms t
held_grown forms more t below =
    ap (λ (l : List Held). get_or l t.place one_cell) (fold-append (λ b f. b ++ held_next b f ∷ []) [] forms more)
    ∙ built_kept Held held_next (all_held forms) more t.place one_cell (omega (arith, below, built_length Held held_next [] forms))

pub held_begins : (forms all : Forms) (t : TypeId) → Begins forms all → t.place < length forms → held_of all t ≡ held_of forms t
held_begins forms all t b below = ap (λ (f : Forms). held_of f t) b.splits ∙ held_grown forms b.more t below

pub no_shared : (n : ℕ) (shared : Bool) → (shared || nat_lt 0 n) ≡ false → n ≡ 0
no_shared n true h = absurd (cc)
no_shared n false h = by (nat_lt 0 n) refl h
  where
    by : (r : Bool) → nat_lt 0 n ≡ r → r ≡ false → n ≡ 0
    by true e h = absurd (cc)
    by false e h = let low : n ≤ 0 = grind (arith, nat_tests) in omega (arith, low)

pub fits_none : (may holds : Bool) → (may || not holds) ≡ true → may ≡ false → holds ≡ false
fits_none true holds h e = absurd (cc)
fits_none false true h e = absurd (cc)
fits_none false false h e = refl

-- a variable is as its owner asks, also where more types follow
pub owned_fine : (owner : Owner) (forms all : Forms) (t : Option TypeId) → HasPlace forms t → Begins forms all
    → IsOfOwner owner all (variable_meaning false (owned_type owner forms t))
owned_fine owner forms all None place b = tt
owned_fine owner forms all (Some u) place b = by (shared_fits owner forms u) (condition_fits owner forms u) refl refl
  where
    by : (r q : Bool) → shared_fits owner forms u ≡ r → condition_fits owner forms u ≡ q → IsOfOwner owner all (variable_meaning false (where_so (r && q) u))
    by true true e f = (
      refl,
      λ may. ap (λ (h : Held). h.processes) (held_begins forms all u b place)
          ∙ no_shared (held_of forms u).processes (held_of forms u).shared (fits_none (may_share owner) (holds_shared forms u) e may),
      λ may. ap (λ (h : Held). h.conditions) (held_begins forms all u b place) ∙ fits_none (may_wait owner) (holds_condition forms u) f may,
    )
    by true false e f = tt
    by false q e f = tt

-- ## One scope

-- the names of a scope are as its owner asks, and names of types have their places
pub record IsFine (owner : Owner) (all : Forms) (bound : ℕ) (s : State) (i : ℕ) : Type 0 where
  pub owned : All (λ x. IsOfOwner owner all x.1) (scope_at s.blocks.scopes i)
  pub placed : ArePlaced s.forms (scope_at s.blocks.scopes i)
  pub rises : Rises 0 (scope_at s.blocks.scopes i) bound

placed_begins : (forms later : Forms) (names : Names) → Begins forms later → ArePlaced forms names → ArePlaced later names
placed_begins forms later names b h = subst (λ (f : Forms). ArePlaced f names) (sym b.splits) (all_grown forms b.more names h)

-- the scope is as it was, and types are added
pub fine_same : (owner : Owner) (all : Forms) (bound : ℕ) (s t : State) (i : ℕ) → scope_at t.blocks.scopes i ≡ scope_at s.blocks.scopes i
    → Begins s.forms t.forms
    → IsFine owner all bound s i → IsFine owner all bound t i
fine_same owner all bound s t i e b h =
    record {
      owned = subst (λ (names : Names). All (λ x. IsOfOwner owner all x.1) names) (sym e) h.owned;
      placed = placed_begins s.forms t.forms (scope_at t.blocks.scopes i) b (subst (λ (names : Names). ArePlaced s.forms names) (sym e) h.placed);
      rises = subst (λ (names : Names). Rises 0 names bound) (sym e) h.rises;
    }

pub fine_kept : (owner : Owner) (all : Forms) (bound : ℕ) (i : ℕ) {s t : State} → Kept s t → IsFine owner all bound s i → IsFine owner all bound t i
fine_kept owner all bound i {s} {t} k h = fine_same owner all bound s t i (ap (λ (l : List Names). scope_at l i) k.scopes) k.forms h

pub fine_opened : (owner : Owner) (all : Forms) (bound : ℕ) (i : ℕ) {s t : State} {k : ℕ} → i < length s.blocks.scopes → Opened s t k
    → IsFine owner all bound s i → IsFine owner all bound t i
fine_opened owner all bound i {s} {t} below o h = fine_same owner all bound s t i (o.others i below) o.forms h

-- names are declared in another scope
pub fine_elsewhere : (owner : Owner) (all : Forms) (bound : ℕ) (i j : ℕ) {s t : State} {k : ℕ} {P : Names → ℕ → ℕ} → i < length s.blocks.scopes → i ≢ j
    → Walked j s t k P
    → IsFine owner all bound s i → IsFine owner all bound t i
fine_elsewhere owner all bound i j {s} {t} below other w h = fine_same owner all bound s t i (w.others i below other) w.forms h

pub declare_forms : (s : State) (i : ℕ) (x : Text × Place) (m : Meaning) → (declare s i x m).forms ≡ s.forms
declare_forms s i x m = by (is_some (meaning_in (scope_at s.blocks.scopes i) x.0))
  where
    by : (r : Bool) → (if r then note s (unless false x.1 302) else add_name s i x.0 m).forms ≡ s.forms
    by true = note_forms s (unless false x.1 302)
    by false = refl

pub declare_count : (s : State) (i : ℕ) (x : Text × Place) (m : Meaning) → length (declare s i x m).blocks.scopes ≡ length s.blocks.scopes
declare_count s i x m = by (is_some (meaning_in (scope_at s.blocks.scopes i) x.0))
  where
    by : (r : Bool) → length (if r then note s (unless false x.1 302) else add_name s i x.0 m).blocks.scopes ≡ length s.blocks.scopes
    by true = ap length (note_kept s (unless false x.1 302)).scopes
    by false = length-set s.blocks.scopes i (scope_at s.blocks.scopes i ++ (x.0, m) ∷ [])

-- one name more, behind which modules are numbered below another number
pub add_fine : (owner : Owner) (all : Forms) (bound next : ℕ) (s : State) (i : ℕ) (x : Text × Place) (m : Meaning) → i < length s.blocks.scopes
    → IsOfOwner owner all m → IsPlaced s.forms m → bound ≤ next → Rises 0 (scope_at s.blocks.scopes i ++ (x.0, m) ∷ []) next → IsFine owner all bound s i
    → IsFine owner all next (declare s i x m) i
add_fine owner all bound next s i x m below own place le rising h = by (is_some (meaning_in (scope_at s.blocks.scopes i) x.0))
  where
    names : scope_at (add_name s i x.0 m).blocks.scopes i ≡ scope_at s.blocks.scopes i ++ (x.0, m) ∷ []
    names = get_or-set_same s.blocks.scopes i (scope_at s.blocks.scopes i ++ (x.0, m) ∷ []) [] below

    by : (r : Bool) → IsFine owner all next (if r then note s (unless false x.1 302) else add_name s i x.0 m) i
    by true =
        fine_kept owner all next i (note_kept s (unless false x.1 302))
        (record { owned = h.owned; placed = h.placed; rises = rises_more 0 (scope_at s.blocks.scopes i) bound next le h.rises })
    by false =
        record {
          owned = subst (λ (l : Names). All (λ y. IsOfOwner owner all y.1) l) (sym names)
              (All-append (λ y. IsOfOwner owner all y.1) (scope_at s.blocks.scopes i) ((x.0, m) ∷ []) h.owned
              (All-cons (λ y. IsOfOwner owner all y.1) (x.0, m) [] own (All-nil (λ y. IsOfOwner owner all y.1))));
          placed = subst (λ (l : Names). ArePlaced s.forms l) (sym names)
              (All-append (λ y. IsPlaced s.forms y.1) (scope_at s.blocks.scopes i) ((x.0, m) ∷ []) h.placed
              (All-cons (λ y. IsPlaced s.forms y.1) (x.0, m) [] place (All-nil (λ y. IsPlaced s.forms y.1))));
          rises = subst (λ (l : Names). Rises 0 l next) (sym names) rising;
        }

pub declare_fine : (owner : Owner) (all : Forms) (bound : ℕ) (s : State) (i : ℕ) (x : Text × Place) (m : Meaning) → i < length s.blocks.scopes
    → IsOfOwner owner all m → IsPlain s.forms m → IsFine owner all bound s i → IsFine owner all bound (declare s i x m) i
declare_fine owner all bound s i x m below own plain h =
    add_fine owner all bound bound s i x m below own (plain_placed s.forms m plain) (omega arith)
    (rises_push s.forms 0 (scope_at s.blocks.scopes i) x.0 m bound plain h.rises) h

-- ## Variables

faulty_fine : (owner : Owner) (all : Forms) (bound : ℕ) (s : State) (i : ℕ) (x : Text × Place) → i < length s.blocks.scopes → IsFine owner all bound s i
    → IsFine owner all bound (declare s i x Faulty) i
faulty_fine owner all bound s i x below h = declare_fine owner all bound s i x Faulty below tt tt h

counted_fine : (owner : Owner) (all : Forms) (bound : ℕ) (s : State) (n i : ℕ) → IsFine owner all bound s i → IsFine owner all bound (set_population s n) i
counted_fine owner all bound s n i h = record { owned = h.owned; placed = h.placed; rises = h.rises }

pub populated_fine : (owner : Owner) (all : Forms) (bound : ℕ) (s : State) (i more : ℕ) (x : Text × Place) (m : Meaning) → i < length s.blocks.scopes
    → IsOfOwner owner all m
    → IsPlain s.forms m → IsFine owner all bound s i → IsFine owner all bound (populated s i more x m) i
populated_fine owner all bound s i more x m below own place h = by (passes_most s.blocks.population more)
  where
    by : (r : Bool)
        → IsFine owner all bound (if r then declare (note (set_population s (most_processes (s.blocks.population + more))) (unless false x.1 424)) i x Faulty
        else declare (set_population s (most_processes (s.blocks.population + more))) i x m) i
    by true =
        let kept = note_kept (set_population s (most_processes (s.blocks.population + more))) (unless false x.1 424) in
        let size = ap (λ (l : List Names). length l) kept.scopes in
        faulty_fine owner all bound (note (set_population s (most_processes (s.blocks.population + more))) (unless false x.1 424)) i x
        (omega (arith, below, size))
        (fine_kept owner all bound i kept (counted_fine owner all bound s (most_processes (s.blocks.population + more)) i h))
    by false =
        declare_fine owner all bound (set_population s (most_processes (s.blocks.population + more))) i x m below own place
        (counted_fine owner all bound s (most_processes (s.blocks.population + more)) i h)

pub populated_forms : (s : State) (i more : ℕ) (x : Text × Place) (m : Meaning) → (populated s i more x m).forms ≡ s.forms
populated_forms s i more x m = by (passes_most s.blocks.population more)
  where
    by : (r : Bool)
        → (if r then declare (note (set_population s (most_processes (s.blocks.population + more))) (unless false x.1 424)) i x Faulty
        else declare (set_population s (most_processes (s.blocks.population + more))) i x m).forms ≡ s.forms
    by true =
        declare_forms (note (set_population s (most_processes (s.blocks.population + more))) (unless false x.1 424)) i x Faulty
        ∙ note_forms (set_population s (most_processes (s.blocks.population + more))) (unless false x.1 424)
    by false = declare_forms (set_population s (most_processes (s.blocks.population + more))) i x m

pub populated_count : (s : State) (i more : ℕ) (x : Text × Place) (m : Meaning) → length (populated s i more x m).blocks.scopes ≡ length s.blocks.scopes
populated_count s i more x m = by (passes_most s.blocks.population more)
  where
    by : (r : Bool)
        → length (if r then declare (note (set_population s (most_processes (s.blocks.population + more))) (unless false x.1 424)) i x Faulty
        else declare (set_population s (most_processes (s.blocks.population + more))) i x m).blocks.scopes ≡ length s.blocks.scopes
    by true =
        declare_count (note (set_population s (most_processes (s.blocks.population + more))) (unless false x.1 424)) i x Faulty
        ∙ ap length (note_kept (set_population s (most_processes (s.blocks.population + more))) (unless false x.1 424)).scopes
    by false = declare_count (set_population s (most_processes (s.blocks.population + more))) i x m

variable_placed : (forms : Forms) (t : Option TypeId) → IsPlain forms (variable_meaning false t)
variable_placed forms None = tt
variable_placed forms (Some t) = tt

-- one name of a variable: what it leaves
record IsNamed (owner : Owner) (all : Forms) (bound : ℕ) (s t : State) (i : ℕ) : Type 0 where
  fine : IsFine owner all bound t i
  forms : t.forms ≡ s.forms
  count : length t.blocks.scopes ≡ length s.blocks.scopes

var_name_fine : (owner : Owner) (all : Forms) (bound : ℕ) (s : State) (i : ℕ) (t : Option TypeId) (x : Text × Place) → i < length s.blocks.scopes
    → IsOfOwner owner all (variable_meaning false t) → IsFine owner all bound s i → IsNamed owner all bound s (var_name_state s i t x) i
var_name_fine owner all bound s i t x below own h = by (is_some (meaning_in (scope_at s.blocks.scopes i) x.0))
  where
    by : (r : Bool) → IsNamed owner all bound s (if r then declare s i x Faulty else populated s i (brought s.forms t) x (variable_meaning false t)) i
    by true = record { fine = faulty_fine owner all bound s i x below h; forms = declare_forms s i x Faulty; count = declare_count s i x Faulty }
    by false =
        record {
          fine = populated_fine owner all bound s i (brought s.forms t) x (variable_meaning false t) below own (variable_placed s.forms t) h;
          forms = populated_forms s i (brought s.forms t) x (variable_meaning false t);
          count = populated_count s i (brought s.forms t) x (variable_meaning false t);
        }

pub var_names_fine : (owner : Owner) (all : Forms) (bound : ℕ) (s : State) (i : ℕ) (t : Option TypeId) (xs : List (Text × Place)) → i < length s.blocks.scopes
    → IsOfOwner owner all (variable_meaning false t) → IsFine owner all bound s i → IsFine owner all bound (var_names_state s i t xs) i
var_names_fine owner all bound s i t [] below own h = h
var_names_fine owner all bound s i t (x ∷ xs) below own h =
    let one = var_name_fine owner all bound s i t x below own h in
    let size : length (var_name_state s i t x).blocks.scopes ≡ length s.blocks.scopes = one.count in
    var_names_fine owner all bound (var_name_state s i t x) i t xs (omega (arith, below, size)) own one.fine

name_forms : (s : State) (i : ℕ) (t : Option TypeId) (x : Text × Place) → (var_name_state s i t x).forms ≡ s.forms
name_forms s i t x = by (is_some (meaning_in (scope_at s.blocks.scopes i) x.0))
  where
    by : (r : Bool) → (if r then declare s i x Faulty else populated s i (brought s.forms t) x (variable_meaning false t)).forms ≡ s.forms
    by true = declare_forms s i x Faulty
    by false = populated_forms s i (brought s.forms t) x (variable_meaning false t)

pub names_forms : (s : State) (i : ℕ) (t : Option TypeId) (xs : List (Text × Place)) → (var_names_state s i t xs).forms ≡ s.forms
names_forms s i t [] = refl
names_forms s i t (x ∷ xs) = names_forms (var_name_state s i t x) i t xs ∙ name_forms s i t x
