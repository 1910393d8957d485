-- A type as it is written has its place in the table, where the names of types in view have theirs.
use Rattle.std.proofs.Common.{◌≡◌, ℕ, ◌<◌, ◌≤◌, ◌||◌, Bool, true, false, not, nat_lt, cond, bytes_eq, List, [], ◌∷◌, ◌++◌, length, length-append, Option, Some}
use Rattle.std.proofs.Common.{None, option_map, refl, sym, ap, subst, arith}
use Rattle.std.specs.List.{All}
use Rattle.std.specs.Option.{option_or}
use Rattle.std.proofs.lemmas.Bool.Decides.{nat_tests}
use Rattle.std.proofs.lemmas.List.Elements.{All-nil, All-cons, All-head, All-tail}
use Rattle.pfc_base.specs.declared.places.Place.{Place}
use Rattle.pfc_tree.specs.Symbols.{Text}
use Rattle.pfc_tree.specs.trees.Types.{TypeTree, named, channel, array, fields}
use Rattle.pfc_types.specs.Faults.{unless}
use Rattle.pfc_types.specs.Types.{Forms, is_same, synchronous, refusal_of}
use Rattle.pfc_types.specs.Scopes.{Names, Level, scope_at, meaning_in, position_in, predeclared_names, within, found_in, meaning_of, look}
use Rattle.pfc_types.specs.Blocks.{State, note}
use Rattle.pfc_types.specs.declared.types.TypeId.{TypeId}
use Rattle.pfc_types.specs.declared.types.TypeForm.{TypeForm}
use Rattle.pfc_types.specs.declared.table.TypeFault.{TypeFault}
use Rattle.pfc_types.specs.declared.table.TypeFault.TheVariants.{Bounds, Cells, Memory}
use Rattle.pfc_types.specs.declared.scope.Meaning.{Meaning}
use Rattle.pfc_types.specs.declared.scope.Meaning.TheVariants.{Constant, Named, Variable, Sub, Module, Process, Entry, Predeclared, Faulty}
use Rattle.pfc_types.specs.rules.Kinds.{where_so, type_name_rules, has_object, named_type, type_meaning}
use Rattle.pfc_types.specs.rules.Constants.{Extent, broken_ranges, range_extents, Made, added_unless, added, channel_form, array_of, made_arrays, record_form}
use Rattle.pfc_types.specs.rules.Constants.{fields_begun, made, made_items, type_place}
use Rattle.pfc_types.proofs.Walking.{note_kept}
use Rattle.pfc_type_laws.proofs.WalkTypes.{name_is, note_forms}

-- ## Names of types

-- a name of a type stands for one that has its place
abbrev pub IsPlaced : Forms → Meaning → Type 0
IsPlaced forms (Named t) = t.place < length forms
IsPlaced forms m = Unit {0}

-- so of a name that is no module's
abbrev pub IsPlain : Forms → Meaning → Type 0
IsPlain forms (Named t) = t.place < length forms
IsPlain forms (Module n) = ⊥
IsPlain forms m = Unit {0}

pub plain_placed : (forms : Forms) (m : Meaning) → IsPlain forms m → IsPlaced forms m
plain_placed forms (Named t) h = h
plain_placed forms (Constant t n) h = tt
plain_placed forms (Variable t r) h = tt
plain_placed forms (Sub n) h = tt
plain_placed forms (Module n) h = absurd h
plain_placed forms (Process n) h = tt
plain_placed forms (Entry n) h = tt
plain_placed forms (Predeclared n) h = tt
plain_placed forms Faulty h = tt

abbrev pub HasPlace : Forms → Option TypeId → Type 0
HasPlace forms None = Unit {0}
HasPlace forms (Some t) = t.place < length forms

abbrev IsFound : Forms → Option Meaning → Type 0
IsFound forms None = Unit {0}
IsFound forms (Some m) = IsPlaced forms m

abbrev pub ArePlaced : Forms → Names → Type 0
ArePlaced forms names = All (λ x. IsPlaced forms x.1) names

pub placed_grown : (forms more : Forms) (m : Meaning) → IsPlaced forms m → IsPlaced (forms ++ more) m
placed_grown forms more (Named t) h = omega (arith, h, length-append forms more)
placed_grown forms more (Constant t n) h = tt
placed_grown forms more (Variable t r) h = tt
placed_grown forms more (Sub n) h = tt
placed_grown forms more (Module n) h = tt
placed_grown forms more (Process n) h = tt
placed_grown forms more (Entry n) h = tt
placed_grown forms more (Predeclared n) h = tt
placed_grown forms more Faulty h = tt

pub all_grown : (forms more : Forms) (names : Names) → ArePlaced forms names → ArePlaced (forms ++ more) names
all_grown forms more [] h = All-nil (λ x. IsPlaced (forms ++ more) x.1)
all_grown forms more (x ∷ names) h =
    All-cons (λ y. IsPlaced (forms ++ more) y.1) x names (placed_grown forms more x.1 (All-head (λ y. IsPlaced forms y.1) x names h))
    (all_grown forms more names (All-tail (λ y. IsPlaced forms y.1) x names h))

-- ## What is in view

-- the names of each scope in view have their places
abbrev pub IsAround : State → List Level → Type 0
IsAround s [] = Unit {0}
IsAround s (l ∷ view) = ArePlaced s.forms (scope_at s.blocks.scopes l.scope) × IsAround s view

meaning_placed : (forms : Forms) (names : Names) (x : Text) → ArePlaced forms names → IsFound forms (meaning_in names x)
meaning_placed forms [] x h = tt
meaning_placed forms (e ∷ names) x h = by (bytes_eq x e.0) (meaning_placed forms names x (All-tail (λ y. IsPlaced forms y.1) e names h))
  where
    by : (b : Bool) → IsFound forms (meaning_in names x) → IsFound forms (cond b (Some e.1) (meaning_in names x))
    by true rest = All-head (λ y. IsPlaced forms y.1) e names h
    by false rest = rest

abbrev is_early : Meaning → Bool
is_early (Named t) = nat_lt t.place 6
is_early m = true

early_placed : (forms : Forms) → 6 ≤ length forms → (m : Meaning) → is_early m ≡ true → IsPlaced forms m
early_placed forms six (Named t) h = let below : t.place < 6 = grind (arith, nat_tests) in omega (arith, below, six)
early_placed forms six (Constant t n) h = tt
early_placed forms six (Variable t r) h = tt
early_placed forms six (Sub n) h = tt
early_placed forms six (Module n) h = tt
early_placed forms six (Process n) h = tt
early_placed forms six (Entry n) h = tt
early_placed forms six (Predeclared n) h = tt
early_placed forms six Faulty h = tt

look_placed : (s : State) → 6 ≤ length s.forms → (view : List Level) → IsAround s view → (x : Text) → IsFound s.forms (look s.blocks.scopes view x)
look_placed s six [] around x =
    by (meaning_in predeclared_names x)
    (name_is (IsFound s.forms) (λ e. is_early e.1) x predeclared_names tt refl (λ e early same. early_placed s.forms six e.1 early))
  where
    by : (m : Option Meaning) → IsFound s.forms m → IsFound s.forms (meaning_of (option_map (λ y. record { scope = None; place = 0; meaning = y }) m))
    by None g = g
    by (Some y) g = g
look_placed s six (l ∷ view) around x =
    by (position_in (scope_at s.blocks.scopes l.scope) x) (meaning_in (scope_at s.blocks.scopes l.scope) x)
    (meaning_placed s.forms (scope_at s.blocks.scopes l.scope) x around.0) (look_placed s six view around.1 x)
  where
    by : (p : Option ℕ) (m : Option Meaning) → IsFound s.forms m → IsFound s.forms (look s.blocks.scopes view x)
        → IsFound s.forms (meaning_of (option_or (within l p m) (found_in s.blocks.scopes view x)))
    by None m g outside = outside
    by (Some k) None g outside = outside
    by (Some k) (Some y) g outside = seen (nat_lt k l.count)
      where
        seen : (b : Bool)
            → IsFound s.forms (meaning_of (option_or (cond b (Some (record { scope = Some l.scope; place = k; meaning = y })) None)
            (found_in s.blocks.scopes view x)))
        seen true = g
        seen false = outside

-- ## Types as they are written

where_placed : (forms : Forms) (b : Bool) (t : TypeId) → t.place < length forms → HasPlace forms (where_so b t)
where_placed forms true t h = h
where_placed forms false t h = tt

named_placed : (forms : Forms) (carried : Bool) (m : Option Meaning) → IsFound forms m → HasPlace forms (named_type carried m)
named_placed forms carried None h = tt
named_placed forms carried (Some (Named t)) h = where_placed forms (carried || not (is_same t synchronous)) t h
named_placed forms carried (Some (Constant t n)) h = tt
named_placed forms carried (Some (Variable t r)) h = tt
named_placed forms carried (Some (Sub n)) h = tt
named_placed forms carried (Some (Module n)) h = tt
named_placed forms carried (Some (Process n)) h = tt
named_placed forms carried (Some (Entry n)) h = tt
named_placed forms carried (Some (Predeclared n)) h = tt
named_placed forms carried (Some Faulty) h = tt

added_placed : (s : State) (form : Option TypeForm) (p : Place) → HasPlace (added s form p).state.forms (added s form p).t
added_placed s None p = tt
added_placed s (Some form) p = by (refusal_of s.forms form)
  where
    by : (fault : Option TypeFault) → HasPlace (added_unless fault s form p).state.forms (added_unless fault s form p).t
    by None = omega (arith, length-append s.forms (Some form ∷ []))
    by (Some Bounds) = tt
    by (Some Cells) = tt
    by (Some Memory) = tt

arrays_placed : (m : Made) (rs : List (Option Extent)) (p : Place) → HasPlace m.state.forms m.t
    → HasPlace (made_arrays m rs p).state.forms (made_arrays m rs p).t
arrays_placed m [] p h = h
arrays_placed m (r ∷ rs) p h = added_placed (made_arrays m rs p).state (array_of r (made_arrays m rs p).t) p

around_note : (s : State) (fs : _) (view : List Level) → IsAround s view → IsAround (note s fs) view
around_note s fs [] h = tt
around_note s fs (l ∷ view) h = (
  subst (λ (forms : Forms). ArePlaced forms (scope_at (note s fs).blocks.scopes l.scope)) (sym (note_forms s fs))
      (subst (λ (scopes : List Names). ArePlaced s.forms (scope_at scopes l.scope)) (sym (note_kept s fs).scopes) h.0),
  around_note s fs view h.1,
)

pub made_placed : (carried : Bool) (s : State) (view : List Level) (t : TypeTree) → 6 ≤ length s.forms → IsAround s view
    → HasPlace (made carried s view t).state.forms (made carried s view t).t
made_placed carried s view (named x p) six around =
    subst (λ (forms : Forms). HasPlace forms (named_type carried (look s.blocks.scopes view x)))
    (sym (note_forms s (type_name_rules carried (look s.blocks.scopes view x) p)))
    (named_placed s.forms carried (look s.blocks.scopes view x) (look_placed s six view around x))
made_placed carried s view (channel t p) six around =
    let m = made true s view t in
    added_placed (note m.state (unless (not (has_object m.state.forms m.t)) (type_place t) 406)) (channel_form m.state.forms m.t) p
made_placed carried s view (array rs t p) six around =
    let before = note s (broken_ranges s.blocks.scopes view rs) in
    arrays_placed (made false before view t) (range_extents s.blocks.scopes view rs) p
    (made_placed false before view t (let e = ap (λ (l : Forms). length l) (note_forms s (broken_ranges s.blocks.scopes view rs)) in omega (arith, six, e))
    (around_note s (broken_ranges s.blocks.scopes view rs) view around))
made_placed carried s view (fields vs last p) six around =
    added_placed (made_items view (fields_begun s) vs).state (record_form (made_items view (fields_begun s) vs)) p

pub type_meaning_placed : (forms : Forms) (t : Option TypeId) → HasPlace forms t → IsPlain forms (type_meaning t)
type_meaning_placed forms None h = tt
type_meaning_placed forms (Some t) h = h
