-- A write, the beginning of an activation and the end of one are changes that keep what is seen.
use Rattle.std.proofs.Common.{◌≡◌, ◌≢◌, ℕ, pos, Bool, true, false, if◌then◌else◌, List, [], ◌∷◌, get_or, set, slice_get, Option, Some, None, refl, sym, ap, ◌∙◌}
use Rattle.std.proofs.Common.{subst, arith, ◌⊎◌, inl, inr}
use Rattle.std.specs.Prelude.{◌==◌}
use Rattle.std.proofs.lemmas.List.{get_or-set_other}
use Rattle.pfc_types.specs.declared.types.TypeId.{TypeId}
use Rattle.pfc_types.specs.declared.scope.Meaning.TheVariants.{Variable}
use Rattle.pfc_semantics.specs.Values.{Value, Location, ordinal, with_part, path_of}
use Rattle.pfc_semantics.specs.Store.{Room, Store, values_in, variable, with_values, stored, with_room, without}
use Rattle.pfc_semantics.specs.Programs.{Program}
use Rattle.pfc_translation.specs.Sites.{is_reference}
use Rattle.pfc_stacks.specs.declared.refs.Ref.{Ref}
use Rattle.pfc_cells.specs.Homes.{Home, Homes, Lies, layout_at}
use Rattle.pfc_cells.specs.Memory.{Entry, Entries}
use Rattle.pfc_cells.specs.Activations.{with_home, with_entries}
use Rattle.pfc_views.specs.Views.{IsLiving, latest, earlier}
use Rattle.pfc_views.specs.Keeping.{IsLike}

-- ## Numbers

either : (n m : ℕ) → (n ≡ m) ⊎ (n ≢ m)
either n m = grind arith

is_same : (n m : ℕ) → n ≡ m → (n == m) ≡ true
is_same n m h = grind arith

is_other : (n m : ℕ) → n ≢ m → (n == m) ≡ false
is_other n m h = grind arith

-- ## Stores

values_here : (room : Room) (store : Store) (a : ℕ) → room.activation ≡ a → values_in (room ∷ store) a ≡ room.values
values_here room store a h = ap (λ (c : Bool). if c then room.values else values_in store a) (is_same room.activation a h)

values_behind : (room : Room) (store : Store) (a : ℕ) → room.activation ≢ a → values_in (room ∷ store) a ≡ values_in store a
values_behind room store a h = ap (λ (c : Bool). if c then room.values else values_in store a) (is_other room.activation a h)

with_here : (room : Room) (store : Store) (a : ℕ) (new : List Value) → room.activation ≡ a →
    with_values (room ∷ store) a new ≡ record room { values = new } ∷ store
with_here room store a new h =
    ap (λ (c : Bool). if c then record room { values = new } ∷ store else room ∷ with_values store a new) (is_same room.activation a h)

with_behind : (room : Room) (store : Store) (a : ℕ) (new : List Value) → room.activation ≢ a → with_values (room ∷ store) a new ≡ room ∷ with_values store a new
with_behind room store a new h =
    ap (λ (c : Bool). if c then record room { values = new } ∷ store else room ∷ with_values store a new) (is_other room.activation a h)

-- another variable of the activation keeps its value
others_written : (store : Store) (a b k j : ℕ) (new : Value) (rest : List Value) → values_in store a ≡ rest → (b ≡ a → j ≢ k)
    → get_or (values_in (with_values store a (set rest k new)) b) j (ordinal (pos 0)) ≡ get_or (values_in store b) j (ordinal (pos 0))
others_written [] a b k j new rest is apart = refl
others_written (room ∷ store) a b k j new rest is apart =
    elim (either room.activation a) [ inl h ↦ here h | inr h ↦ behind h (λ held. others_written store a b k j new rest held apart) ]
  where
    here : room.activation ≡ a → get_or (values_in (with_values (room ∷ store) a (set rest k new)) b) j (ordinal (pos 0)) ≡ get_or
        (values_in (room ∷ store) b) j (ordinal (pos 0))
    here h = ap (λ (s : Store). get_or (values_in s b) j (ordinal (pos 0))) (with_here room store a (set rest k new) h) ∙
        elim (either room.activation b) [ inl e ↦ same e | inr e ↦ other e ]
      where
        same : room.activation ≡ b → get_or (values_in (record room { values = set rest k new } ∷ store) b) j (ordinal (pos 0)) ≡ get_or
            (values_in (room ∷ store) b) j (ordinal (pos 0))
        same e =
            let held : room.values ≡ rest = sym (values_here room store a h) ∙ is in
            ap (λ (vs : List Value). get_or vs j (ordinal (pos 0))) (values_here (record room { values = set rest k new }) store b e)
            ∙ get_or-set_other rest k j new (ordinal (pos 0)) (apart (sym e ∙ h))
            ∙ ap (λ (vs : List Value). get_or vs j (ordinal (pos 0))) (sym held ∙ sym (values_here room store b e))

        other : room.activation ≢ b → get_or (values_in (record room { values = set rest k new } ∷ store) b) j (ordinal (pos 0)) ≡ get_or
            (values_in (room ∷ store) b) j (ordinal (pos 0))
        other e = ap (λ (vs : List Value). get_or vs j (ordinal (pos 0))) (values_behind (record room { values = set rest k new }) store b e ∙
            sym (values_behind room store b e))

    behind : room.activation ≢ a → (values_in store a ≡ rest → get_or (values_in (with_values store a (set rest k new)) b) j (ordinal (pos 0)) ≡ get_or
        (values_in store b) j (ordinal (pos 0)))
        → get_or (values_in (with_values (room ∷ store) a (set rest k new)) b) j (ordinal (pos 0)) ≡ get_or (values_in (room ∷ store) b) j (ordinal (pos 0))
    behind h inner = ap (λ (s : Store). get_or (values_in s b) j (ordinal (pos 0))) (with_behind room store a (set rest k new) h) ∙
        elim (either room.activation b) [ inl e ↦ same e | inr e ↦ other e ]
      where
        same : room.activation ≡ b → get_or (values_in (room ∷ with_values store a (set rest k new)) b) j (ordinal (pos 0)) ≡ get_or
            (values_in (room ∷ store) b) j (ordinal (pos 0))
        same e = ap (λ (vs : List Value). get_or vs j (ordinal (pos 0))) (values_here room (with_values store a (set rest k new)) b e ∙
            sym (values_here room store b e))

        other : room.activation ≢ b → get_or (values_in (room ∷ with_values store a (set rest k new)) b) j (ordinal (pos 0)) ≡ get_or
            (values_in (room ∷ store) b) j (ordinal (pos 0))
        other e =
            ap (λ (vs : List Value). get_or vs j (ordinal (pos 0))) (values_behind room (with_values store a (set rest k new)) b e)
            ∙ inner (sym (values_behind room store a h) ∙ is)
            ∙ ap (λ (vs : List Value). get_or vs j (ordinal (pos 0))) (sym (values_behind room store b e))

-- the others keep theirs when an activation ends
others_left : (store : Store) (a b : ℕ) → b ≢ a → values_in (without store a) b ≡ values_in store b
others_left [] a b apart = refl
others_left (room ∷ store) a b apart = elim (either room.activation a) [ inl h ↦ here h | inr h ↦ behind h (others_left store a b apart) ]
  where
    here : room.activation ≡ a → values_in (without (room ∷ store) a) b ≡ values_in (room ∷ store) b
    here h =
        ap (λ (c : Bool). values_in (if c then store else room ∷ without store a) b) (is_same room.activation a h)
        ∙ sym (values_behind room store b (λ e. apart (sym e ∙ h)))

    behind : room.activation ≢ a → values_in (without store a) b ≡ values_in store b → values_in (without (room ∷ store) a) b ≡ values_in (room ∷ store) b
    behind h inner =
        ap (λ (c : Bool). values_in (if c then store else room ∷ without store a) b) (is_other room.activation a h) ∙
        elim (either room.activation b) [ inl e ↦ same e | inr e ↦ other e ]
      where
        same : room.activation ≡ b → values_in (room ∷ without store a) b ≡ values_in (room ∷ store) b
        same e = values_here room (without store a) b e ∙ sym (values_here room store b e)

        other : room.activation ≢ b → values_in (room ∷ without store a) b ≡ values_in (room ∷ store) b
        other e = values_behind room (without store a) b e ∙ inner ∙ sym (values_behind room store b e)

-- ## Changes

some_same : {A : Type 0} (x y : A) → Some x ≡ Some y → x ≡ y
some_same x y h = cc

module _ (g : Program) (keeps : ℕ → Bool) (homes : Homes) (entries : Entries) (store : Store) where
  -- a reference parameter is no location's own variable
  apart_from : (l : Location) (t : Option TypeId) (r : Ref) (a k : ℕ) (home : Home) (u : TypeId) → Lies g homes l t r → homes a ≡ Some home →
      slice_get (layout_at g home) k ≡ Some (Variable u true) → a ≡ l.activation → k ≢ l.variable
  apart_from l t r a k home u h at laid same equal =
      let one : h.home ≡ home = some_same h.home home (sym h.is.at ∙ ap homes (sym same) ∙ at) in
      let meaning : h.is.meaning ≡ Variable u true =
      some_same h.is.meaning (Variable u true) (sym h.is.laid ∙ ap (λ (x : Home). slice_get (layout_at g x) l.variable) one ∙
      ap (λ (n : ℕ). slice_get (layout_at g home) n) (sym equal) ∙ laid) in
      let own : is_reference (Variable u true) ≡ false = ap is_reference (sym meaning) ∙ h.is.own in
      cc

  pub written : (l : Location) (t : Option TypeId) (r : Ref) (v : Value) → Lies g homes l t r →
      IsLike g keeps homes homes entries entries store (stored store l v)
  written l t r v h =
      record {
        at_home = λ a home at. at;
        living = λ q e kept there. there;
        references = λ a k home u kept at laid.
            others_written store l.activation a l.variable k (with_part (path_of l.selectors) (variable store l) v) (values_in store l.activation) refl
            (λ same. apart_from l t r a k home u h at laid same);
      }

  has_home : (a b : ℕ) (home old : Home) → homes a ≡ None → homes b ≡ Some old → b ≢ a
  has_home a b home old free at same = (let both : Some old ≡ None = sym at ∙ ap homes same ∙ free in cc)

  pub begun : (p a : ℕ) (home : Home) (entry : Entry) (values : List Value) → homes a ≡ None →
      IsLike g keeps homes (with_home homes a home) entries (with_entries entries p (entry ∷ entries p)) store (with_room store a values)
  begun p a home entry values free =
      record {
        at_home = λ b old at. ap (λ (c : Bool). if c then Some home else homes b) (is_other b a (has_home a b home old free at)) ∙ at;
        living = λ q e kept there. elim (either q p) [ inl h ↦ above q e h there | inr h ↦ beside q e h there ];
        references = λ b k old u kept at laid.
            ap (λ (vs : List Value). get_or vs k (ordinal (pos 0))) (values_behind (record { activation = a; values = values }) store b
            (λ same. has_home a b home old free at (sym same)));
      }
    where
      above : (q : ℕ) (e : Entry) → q ≡ p → IsLiving e (entries q) → IsLiving e (with_entries entries p (entry ∷ entries p) q)
      above q e h there =
          subst (λ (c : Bool). IsLiving e (if c then entry ∷ entries p else entries q)) (sym (is_same q p h))
          (earlier entry (entries p) (subst (λ (n : ℕ). IsLiving e (entries n)) h there))

      beside : (q : ℕ) (e : Entry) → q ≢ p → IsLiving e (entries q) → IsLiving e (with_entries entries p (entry ∷ entries p) q)
      beside q e h there = subst (λ (c : Bool). IsLiving e (if c then entry ∷ entries p else entries q)) (sym (is_other q p h)) there

  one_below : (e top : Entry) (below : List Entry) → IsLiving e (top ∷ below) → e.activation ≢ top.activation → IsLiving e below
  one_below e _ _ (latest below) apart = absurd (apart refl)
  one_below e _ _ (earlier other below h) apart = h

  pub ended : (p : ℕ) (top : Entry) (below : List Entry) → entries p ≡ top ∷ below → keeps top.activation ≡ false →
      IsLike g keeps homes homes entries (with_entries entries p below) store (without store top.activation)
  ended p top below is gone =
      record {
        at_home = λ b home at. at;
        living = λ q e kept there. elim (either q p) [ inl h ↦ among q e kept h there | inr h ↦ beside q e h there ];
        references = λ b k home u kept at laid. ap (λ (vs : List Value). get_or vs k (ordinal (pos 0))) (others_left store top.activation b (others b kept));
      }
    where
      others : (b : ℕ) → keeps b ≡ true → b ≢ top.activation
      others b kept same = (let both : true ≡ false = sym kept ∙ ap keeps same ∙ gone in cc)

      among : (q : ℕ) (e : Entry) → keeps e.activation ≡ true → q ≡ p → IsLiving e (entries q) → IsLiving e (with_entries entries p below q)
      among q e kept h there =
          subst (λ (c : Bool). IsLiving e (if c then below else entries q)) (sym (is_same q p h))
          (one_below e top below (subst (λ (es : List Entry). IsLiving e es) is (subst (λ (n : ℕ). IsLiving e (entries n)) h there)) (others e.activation kept))

      beside : (q : ℕ) (e : Entry) → q ≢ p → IsLiving e (entries q) → IsLiving e (with_entries entries p below q)
      beside q e h there = subst (λ (c : Bool). IsLiving e (if c then below else entries q)) (sym (is_other q p h)) there
