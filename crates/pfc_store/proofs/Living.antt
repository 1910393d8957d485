-- The store of the definitions, where the code finds an activation's room among those that it keeps, the latest last.
use Rattle.std.proofs.Common.{◌≡◌, ℕ, ◌+◌, ◌<◌, true, false, List, [], ◌∷◌, ◌++◌, length, map, reverse, take, drop, set, get_or, Option, Some, None, ◌≢◌, Vec}
use Rattle.std.proofs.Common.{Global, add-one, refl, sym, ap, ap₂, ◌∙◌, subst, arith}
use Rattle.std.specs.Prelude.{◌==◌, if◌then◌else◌}
use Rattle.std.specs.List.{remove}
use Rattle.std.proofs.lemmas.List.{append_assoc, map-append, reverse-append, take-append-drop, drop_more, take-set, drop-set-lt, get_or-set_same, length-set}
use Rattle.std.proofs.lemmas.Bool.Decides.{nat_tests}
use Rattle.pfc_semantics.specs.Values.{Value}
use Rattle.pfc_semantics.specs.Store.{Store, values_in, with_values, without}
use Rattle.pfc_store.specs.declared.room.Room.{Room as HeldRoom}
use Rattle.pfc_store.specs.declared.values.Value.{Value as HeldValue}
use Rattle.pfc_store.specs.Views.{values_view, room_view, rooms_view, main_view}
use Rattle.pfc_store.specs.Latest.{NoneOf, IsLatest}

-- the store in which the variables of an activation are what a function makes of them
abbrev pub with_change : Store → ℕ → (List Value → List Value) → Store
with_change store a f = with_values store a (f (values_in store a))

-- ## The order

pub last_first : (rooms : List HeldRoom) (room : HeldRoom) → rooms_view (room ∷ rooms) ≡ rooms_view rooms ++ room_view room ∷ []
last_first rooms room = reverse-append (room_view room ∷ []) (map room_view rooms)

-- a room, those behind it and those before it
pub parted : (rooms : List HeldRoom) (i : ℕ) (d : HeldRoom) → i < length rooms →
    rooms_view rooms ≡ rooms_view (drop (i + 1) rooms) ++ room_view (get_or rooms i d) ∷ rooms_view (take i rooms)
parted rooms i d h =
    ap rooms_view (sym (take-append-drop i rooms) ∙ ap (λ l. take i rooms ++ l) (drop_more rooms i d h))
    ∙ ap reverse (map-append room_view (take i rooms) (get_or rooms i d ∷ drop (i + 1) rooms))
    ∙ reverse-append (map room_view (take i rooms)) (map room_view (get_or rooms i d ∷ drop (i + 1) rooms))
    ∙ ap (λ l. l ++ rooms_view (take i rooms)) (last_first (drop (i + 1) rooms) (get_or rooms i d))
    ∙ append_assoc (rooms_view (drop (i + 1) rooms)) (room_view (get_or rooms i d) ∷ []) (rooms_view (take i rooms))

-- ## Numbers

pub same_number : (n m : ℕ) → n ≡ m → (n == m) ≡ true
same_number n m e = grind (arith, nat_tests)

pub other_number : (n m : ℕ) → n < m → (m == n) ≡ false
other_number n m h = grind (arith, nat_tests)

pub unlike : (n m : ℕ) → n ≢ m → (n == m) ≡ false
unlike n m h = grind (arith, nat_tests)

-- ## Rooms of others are passed over

pub none_append : (a : ℕ) (xs ys : Store) → NoneOf a xs → NoneOf a ys → NoneOf a (xs ++ ys)
none_append a [] ys p q = q
none_append a (x ∷ xs) ys p q = (p.0, none_append a xs ys p.1 q)

pub values_past : (a : ℕ) (xs ys : Store) → NoneOf a xs → values_in (xs ++ ys) a ≡ values_in ys a
values_past a [] ys p = refl
values_past a (x ∷ xs) ys p = ap (λ b. if b then x.values else values_in (xs ++ ys) a) p.0 ∙ values_past a xs ys p.1

pub with_past : (a : ℕ) (new : List Value) (xs ys : Store) → NoneOf a xs → with_values (xs ++ ys) a new ≡ xs ++ with_values ys a new
with_past a new [] ys p = refl
with_past a new (x ∷ xs) ys p =
    ap (λ b. if b then record x { values = new } ∷ (xs ++ ys) else x ∷ with_values (xs ++ ys) a new) p.0 ∙ ap (λ l. x ∷ l) (with_past a new xs ys p.1)

pub without_past : (a : ℕ) (xs ys : Store) → NoneOf a xs → without (xs ++ ys) a ≡ xs ++ without ys a
without_past a [] ys p = refl
without_past a (x ∷ xs) ys p = ap (λ b. if b then xs ++ ys else x ∷ without (xs ++ ys) a) p.0 ∙ ap (λ l. x ∷ l) (without_past a xs ys p.1)

pub values_none : (a : ℕ) (xs : Store) → NoneOf a xs → values_in xs a ≡ []
values_none a [] p = refl
values_none a (x ∷ xs) p = ap (λ b. if b then x.values else values_in xs a) p.0 ∙ values_none a xs p.1

pub with_none : (a : ℕ) (new : List Value) (xs : Store) → NoneOf a xs → with_values xs a new ≡ xs
with_none a new [] p = refl
with_none a new (x ∷ xs) p = ap (λ b. if b then record x { values = new } ∷ xs else x ∷ with_values xs a new) p.0 ∙ ap (λ l. x ∷ l) (with_none a new xs p.1)

pub without_none : (a : ℕ) (xs : Store) → NoneOf a xs → without xs a ≡ xs
without_none a [] p = refl
without_none a (x ∷ xs) p = ap (λ b. if b then xs else x ∷ without xs a) p.0 ∙ ap (λ l. x ∷ l) (without_none a xs p.1)

-- one step of the search from the end
pub none_behind :
    (a : ℕ) (rooms : List HeldRoom) (i : ℕ) (d : HeldRoom) → i < length rooms → ((get_or rooms i d).activation == a) ≡ false →
    NoneOf a (rooms_view (drop (i + 1) rooms))
    → NoneOf a (rooms_view (drop i rooms))
none_behind a rooms i d h other p =
    subst (NoneOf a) (sym (ap rooms_view (drop_more rooms i d h) ∙ last_first (drop (i + 1) rooms) (get_or rooms i d)))
    (none_append a (rooms_view (drop (i + 1) rooms)) (room_view (get_or rooms i d) ∷ []) p (other, tt))

-- main's number is that of no other activation
pub none_is_main : (rooms : List HeldRoom) → NoneOf 0 (rooms_view rooms)
none_is_main [] = tt
none_is_main (room ∷ rooms) = subst (NoneOf 0) (sym (last_first rooms room)) (none_append 0 (rooms_view rooms) (room_view room ∷ []) (none_is_main rooms)
    (other_number 0 room.activation room.later, tt))

-- an activation that is neither main's nor among the others
pub nowhere : (a : ℕ) (rooms : List HeldRoom) (main : Option (Vec HeldValue Global)) → 0 < a → NoneOf a (rooms_view rooms) →
    NoneOf a (rooms_view rooms ++ main_view main)
nowhere a rooms None h p = none_append a (rooms_view rooms) [] p tt
nowhere a rooms (Some values) h p = none_append a (rooms_view rooms) (main_view (Some values)) p (unlike 0 a (λ e. absurd (omega (arith, e, h))), tt)

-- ## Main

pub main_values : (rooms : List HeldRoom) (values : Vec HeldValue Global) → values_in (rooms_view rooms ++ main_view (Some values)) 0 ≡ values_view values.items
main_values rooms values = values_past 0 (rooms_view rooms) (main_view (Some values)) (none_is_main rooms)

-- main has ended, or did not begin
pub no_main : (rooms : List HeldRoom) → NoneOf 0 (rooms_view rooms ++ [])
no_main rooms = none_append 0 (rooms_view rooms) [] (none_is_main rooms) tt

pub main_gone : (rooms : List HeldRoom) (main : Option (Vec HeldValue Global)) → without (rooms_view rooms ++ main_view main) 0 ≡ rooms_view rooms ++ []
main_gone rooms None = without_past 0 (rooms_view rooms) [] (none_is_main rooms)
main_gone rooms (Some values) = without_past 0 (rooms_view rooms) (main_view (Some values)) (none_is_main rooms)

-- ## What is found

module _ (rooms : List HeldRoom) (a i : ℕ) (d : HeldRoom) (at : IsLatest rooms a i) (main : Store) where
  abbrev found : HeldRoom
  found = get_or rooms i d

  abbrev behind : Store
  behind = rooms_view (drop (i + 1) rooms)

  abbrev before : Store
  before = rooms_view (take i rooms)

  pub in_order : rooms_view rooms ++ main ≡ behind ++ room_view found ∷ (before ++ main)
  in_order = ap (λ l. l ++ main) (parted rooms i d at.within) ∙ append_assoc behind (room_view found ∷ before) main

  pub is_there : (found.activation == a) ≡ true
  is_there = same_number found.activation a (at.is d)

  pub values_found : values_in (rooms_view rooms ++ main) a ≡ values_view found.values.items
  values_found =
      ap (λ s. values_in s a) in_order
      ∙ values_past a behind (room_view found ∷ (before ++ main)) at.behind
      ∙ ap (λ b. if b then values_view found.values.items else values_in (before ++ main) a) is_there

  pub without_found : without (rooms_view rooms ++ main) a ≡ behind ++ (before ++ main)
  without_found =
      ap (λ s. without s a) in_order
      ∙ without_past a behind (room_view found ∷ (before ++ main)) at.behind
      ∙ ap (λ b. behind ++ (if b then before ++ main else room_view found ∷ without (before ++ main) a)) is_there

  pub with_found : (new : List Value) → with_values (rooms_view rooms ++ main) a new ≡ behind ++ record {
    activation =
        found.activation;
    values = new;
  } ∷ (before ++ main)
  with_found new =
      ap (λ s. with_values s a new) in_order
      ∙ with_past a new behind (room_view found ∷ (before ++ main)) at.behind
      ∙ ap (λ b. behind ++ (if b then
      record (room_view found) { values = new } ∷ (before ++ main) else room_view found ∷ with_values (before ++ main) a new)) is_there

  -- the rooms without it, and with it changed
  pub removed : rooms_view (remove rooms i) ++ main ≡ behind ++ (before ++ main)
  removed =
      ap (λ l. l ++ main) (ap (λ k. rooms_view (take i rooms ++ drop k rooms)) (sym (add-one i)) ∙
      ap reverse (map-append room_view (take i rooms) (drop (i + 1) rooms)) ∙
      reverse-append (map room_view (take i rooms)) (map room_view (drop (i + 1) rooms)))
      ∙ append_assoc behind before main

  pub changed : (new : HeldRoom) → rooms_view (set rooms i new) ++ main ≡ behind ++ room_view new ∷ (before ++ main)
  changed new =
      ap (λ l. l ++ main) (parted (set rooms i new) i d (omega (arith, at.within, length-set rooms i new)))
      ∙ ap₂ (λ b f. (b ++ room_view (get_or (set rooms i new) i d) ∷ f) ++ main)
      (ap rooms_view (drop-set-lt (i + 1) rooms i new (omega arith))) (ap rooms_view (take-set rooms i new))
      ∙ ap (λ r. (behind ++ room_view r ∷ before) ++ main) (get_or-set_same rooms i new d at.within)
      ∙ append_assoc behind (room_view new ∷ before) main

  pub change_found :
      (f : List Value → List Value) (new : HeldRoom) → new.activation ≡ found.activation → values_view new.values.items ≡ f (values_view found.values.items)
      → rooms_view (set rooms i new) ++ main ≡ with_change (rooms_view rooms ++ main) a f
  change_found f new same e =
      changed new
      ∙ ap₂ (λ n vs. behind ++ record { activation = n; values = vs } ∷ (before ++ main)) same (e ∙ ap f (sym values_found))
      ∙ sym (with_found (f (values_in (rooms_view rooms ++ main) a)))

-- where the activation does not live nothing changes
pub change_nowhere : (a : ℕ) (f : List Value → List Value) (store : Store) → NoneOf a store → store ≡ with_change store a f
change_nowhere a f store p = sym (with_none a (f (values_in store a)) store p)

pub change_main :
    (rooms : List HeldRoom) (values new : Vec HeldValue Global) (f : List Value → List Value) → values_view new.items ≡ f (values_view values.items)
    → rooms_view rooms ++ main_view (Some new) ≡ with_change (rooms_view rooms ++ main_view (Some values)) 0 f
change_main rooms values new f e =
    ap (λ vs. rooms_view rooms ++ record { activation = 0; values = vs } ∷ []) (e ∙ ap f (sym (main_values rooms values)))
    ∙ sym (with_past 0 (f (values_in (rooms_view rooms ++ main_view (Some values)) 0)) (rooms_view rooms) (main_view (Some values)) (none_is_main rooms))
