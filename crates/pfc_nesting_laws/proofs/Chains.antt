-- The scopes around a block are those to which static links lead from it.
use Rattle.pfc_standing_code.specs.Words.{is_known}
use Rattle.std.proofs.Common.{◌≡◌, ℕ, zero, suc, ◌+◌, ◌-◌, ◌<◌, ◌≤◌, Bool, true, false, ◌||◌, cond, if◌then◌else◌, List, [], ◌∷◌, length, drop, slice_get, Some}
use Rattle.std.proofs.Common.{None, refl, sym, ap, ap₂, ◌∙◌, subst, arith, length-drop, ◌⊎◌, inl, inr}
use Rattle.std.specs.Prelude.{◌==◌, nat_lt, position, unwrap_or}
use Rattle.std.specs.List.{position_or_len}
use Rattle.std.proofs.lemmas.Option.{slice_get_within}
use Rattle.pfc_types.specs.Scopes.{Level}
use Rattle.pfc_types.specs.Blocks.{Blocks}
use Rattle.pfc_semantics.specs.Programs.{Block, Program, block_at}
use Rattle.pfc_translation.specs.Sites.{is_mains, linked, level_of, links_from, is_accept}
use Rattle.pfc_image_laws.specs.Levels.{held_with, linked_to, links_up, sees, IsReached}
use Rattle.pfc_call_laws.specs.Around.{scopes_around, IsNested}
use Rattle.pfc_call_laws.proofs.Lists.{slice_dropped, slice_at, none_left}
use Rattle.pfc_call_laws.proofs.Places.{or_left, or_right}
use Rattle.pfc_call_laws.proofs.Displays.{is_same, linked_not_mains, place_of_scope}
use Rattle.pfc_nesting_laws.specs.Nesting.{AreOnce}

some_same : {A : Type 0} (x y : A) → Some x ≡ Some y → x ≡ y
some_same x y h = cc

less_or_not : (n m : ℕ) → (n < m) ⊎ (m ≤ n)
less_or_not n m = grind arith

-- ## Lists

same_lists : (xs ys : List ℕ) → length xs ≡ length ys → ((k x y : ℕ) → slice_get xs k ≡ Some x → slice_get ys k ≡ Some y → x ≡ y) → xs ≡ ys
same_lists [] [] size each = refl
same_lists [] (y ∷ ys) size each = absurd (omega (arith, size))
same_lists (x ∷ xs) [] size each = absurd (omega (arith, size))
same_lists (x ∷ xs) (y ∷ ys) size each = ap₂ (λ a l. a ∷ l) (each 0 x y refl refl) (same_lists xs ys (omega (arith, size)) (λ k a c h i. each (suc k) a c h i))

at_most : (xs : List ℕ) (i : ℕ) → unwrap_or (position (λ j. j == i) xs) 0 ≤ length xs
at_most xs i = by (position_or_len (λ j. j == i) xs) (nat_lt (position_or_len (λ j. j == i) xs) (length xs)) refl
  where
    by : (n : ℕ) (c : Bool) → nat_lt n (length xs) ≡ c → unwrap_or (cond c (Some n) None) 0 ≤ length xs
    by n true h = grind (arith, h)
    by n false h = omega arith

-- ## What is in view

seen_linked : (blocks : Blocks) (view : List Level) (k i : ℕ) → slice_get (linked blocks view) k ≡ Some i → sees view i ≡ true
seen_linked blocks [] k i h = absurd (cc)
seen_linked blocks (level ∷ view) k i h = by (λ j there. seen_linked blocks view j i there) (is_mains blocks level.scope) refl
  where
    inside : ((j : ℕ) → slice_get (linked blocks view) j ≡ Some i → sees view i ≡ true) → (j : ℕ) → slice_get (level.scope ∷ linked blocks view) j ≡ Some i
        → sees (level ∷ view) i ≡ true
    inside further zero there = or_left (level.scope == i) (sees view i) (is_same level.scope i (some_same level.scope i there))
    inside further (suc j) there = or_right (level.scope == i) (sees view i) (further j there)

    by : ((j : ℕ) → slice_get (linked blocks view) j ≡ Some i → sees view i ≡ true) → (c : Bool) → is_mains blocks level.scope ≡ c
        → sees (level ∷ view) i ≡ true
    by further true is = absurd (let there : slice_get [] k ≡ Some i = ap (λ (d : Bool). slice_get (if d then [] else level.scope ∷ linked blocks view) k)
        (sym is) ∙ h in cc)
    by further false is = inside further k (ap (λ (d : Bool). slice_get (if d then [] else level.scope ∷ linked blocks view) k) (sym is) ∙ h)

-- ## Static links

module _ (g : Program) where
  abbrev mains : ℕ → Bool
  mains i = is_mains g.state.blocks i

  not_zero : (i : ℕ) → mains i ≡ false → i ≡ 0 → ⊥
  not_zero i h e = (let both : true ≡ false = sym (zero_is_mains) ∙ ap mains (sym e) ∙ h in cc)
    where
      zero_is_mains : mains 0 ≡ true
      zero_is_mains = refl

  held_own : (i : ℕ) → mains i ≡ false → held_with g.state.blocks i ≡ i
  held_own i h = ap (λ (c : Bool). if c then 0 else i) h

  held_main : (i : ℕ) → mains i ≡ true → held_with g.state.blocks i ≡ 0
  held_main i h = ap (λ (c : Bool). if c then 0 else i) h

  -- from the scope to which so many lead, the rest of them lead on
  links_on : (l m i x : ℕ) → links_up g l i ≡ x → mains x ≡ false → links_up g (l + m) i ≡ links_up g m x
  links_on zero m i x is own = by (mains i) refl
    where
      by : (c : Bool) → mains i ≡ c → links_up g (0 + m) i ≡ links_up g m x
      by true h = absurd (not_zero x own (sym is ∙ held_main i h))
      by false h = (let none : 0 + m ≡ m = omega arith in ap (λ n. links_up g n i) none ∙ ap (λ n. links_up g m n) (sym (held_own i h) ∙ is))
  links_on (suc l) m i x is own = (let more : suc l + m ≡ suc (l + m) = omega arith in ap (λ n. links_up g n i) more ∙ links_on l m (linked_to g i) x is own)

  module _ (b : Block) (reached : IsReached g b) (once : AreOnce (scopes_around g b)) where
    abbrev around : List ℕ
    around = scopes_around g b

    not_mains : (k i : ℕ) → slice_get around k ≡ Some i → mains i ≡ false
    not_mains k i h = linked_not_mains g.state.blocks b.env.view k i h

    -- the k-th scope is so many static links up
    pub at_link : (k i : ℕ) → slice_get around k ≡ Some i → links_up g k b.scope ≡ i
    at_link k i h =
        let own : mains i ≡ false = not_mains k i h in
        let count : links_from g.state.blocks b i ≡ k =
        ap (λ (c : Bool). if c then level_of g.state.blocks b else unwrap_or (position (λ j. j == i) around) 0) own
        ∙ place_of_scope around k i h (λ j there. (let same : j ≡ k = once i j k there h in omega (arith, same))) in
        ap (λ n. links_up g n b.scope) (sym count) ∙ reached i (or_right (mains i) (sees b.env.view i) (seen_linked g.state.blocks b.env.view k i h))
        ∙ held_own i own

    -- and behind the last is main's
    pub at_end : links_up g (length around) b.scope ≡ 0
    at_end = reached 0 refl

    -- what is in view and not main's is there
    pub there : (i : ℕ) → mains i ≡ false → sees b.env.view i ≡ true → slice_get around (links_from g.state.blocks b i) ≡ Some i
    there i own seen =
        let l : ℕ = links_from g.state.blocks b i in
        let up : links_up g l b.scope ≡ i = reached i (or_right (mains i) (sees b.env.view i) seen) ∙ held_own i own in
        let bound : l ≤ length around =
        subst (λ n. n ≤ length around) (sym (ap (λ (c : Bool). if c then level_of g.state.blocks b else unwrap_or (position (λ j. j == i) around) 0) own))
        (at_most around i) in
        elim (less_or_not l (length around)) [
          | inl h ↦ (let some = slice_at around l h in some.1 ∙ ap Some (sym (at_link l some.0 some.1) ∙ up))
          | inr h ↦ (let all : l ≡ length around = omega (arith, h, bound) in absurd (not_zero i own (sym up ∙ ap (λ n. links_up g n b.scope) all ∙ at_end)))
        ]

  module _ (b callee : Block) (reached : IsReached g b) (reached_callee : IsReached g callee) (by_scope : block_at g callee.scope ≡ callee)
      (own : mains callee.scope ≡ false) (once : AreOnce (scopes_around g b))
      (once_callee : AreOnce (scopes_around g callee)) (seen : (mains callee.outer || sees b.env.view callee.outer) ≡ true)
      (no_accept : (i : ℕ) → is_known g.state.blocks b [] i ≡ true → is_accept b i ≡ false) where
    abbrev outer : ℕ
    outer = callee.outer

    abbrev l : ℕ
    l = links_from g.state.blocks b outer

    -- the scopes around the callee begin with its own
    record Begins : Type 0 where
      rest : List ℕ
      is : scopes_around g callee ≡ callee.scope ∷ rest

    begins : Begins
    begins = by (scopes_around g callee) refl
      where
        by : (xs : List ℕ) → scopes_around g callee ≡ xs → Begins
        by [] h = absurd (not_zero callee.scope own (sym (held_own callee.scope own) ∙ ap (λ (xs : List ℕ). links_up g (length xs) callee.scope) (sym h)
            ∙ at_end callee reached_callee once_callee))
        by (x ∷ xs) h =
            let first : slice_get (scopes_around g callee) 0 ≡ Some x = ap (λ ys. slice_get ys 0) h in
            let same : x ≡ callee.scope = sym (at_link callee reached_callee once_callee 0 x first) ∙ held_own callee.scope own in
            record { rest = xs; is = h ∙ ap (λ y. y ∷ xs) same }

    -- one link up from it is the scope in which it is declared
    from_outer : (m : ℕ) → links_up g (suc m) callee.scope ≡ links_up g m (held_with g.state.blocks outer)
    from_outer m = ap (λ (x : Block). links_up g m (held_with g.state.blocks x.outer)) by_scope

    rest_at : (m i : ℕ) → slice_get begins.rest m ≡ Some i → links_up g m (held_with g.state.blocks outer) ≡ i
    rest_at m i h = sym (from_outer m) ∙ at_link callee reached_callee once_callee (suc m) i (ap (λ xs. slice_get xs (suc m)) begins.is ∙ h)

    rest_own : (m i : ℕ) → slice_get begins.rest m ≡ Some i → mains i ≡ false
    rest_own m i h = linked_not_mains g.state.blocks callee.env.view (suc m) i (ap (λ xs. slice_get xs (suc m)) begins.is ∙ h)

    rest_end : links_up g (length begins.rest) (held_with g.state.blocks outer) ≡ 0
    rest_end = sym (from_outer (length begins.rest)) ∙ ap (λ (xs : List ℕ). links_up g (length xs) callee.scope) (sym begins.is)
        ∙ at_end callee reached_callee once_callee

    -- ## Declared in a scope of main's

    module _ (is_main : mains outer ≡ true) where
      far : l ≡ length (scopes_around g b)
      far = ap (λ (c : Bool). if c then level_of g.state.blocks b else unwrap_or (position (λ j. j == outer) (scopes_around g b)) 0) is_main

      nothing : begins.rest ≡ []
      nothing = by begins.rest refl
        where
          by : (xs : List ℕ) → begins.rest ≡ xs → begins.rest ≡ []
          by [] h = h
          by (x ∷ xs) h =
              let first : slice_get begins.rest 0 ≡ Some x = ap (λ ys. slice_get ys 0) h in
              absurd (not_zero x (rest_own 0 x first) (sym (rest_at 0 x first) ∙ ap (λ n. links_up g 0 n) (held_main outer is_main)))

      nested_in_main : IsNested g b callee l
      nested_in_main =
          let full : length (scopes_around g b) ≤ l = omega (arith, far) in
          let within : l ≤ length (scopes_around g b) = omega (arith, far) in
          record {
            around = begins.is ∙ ap (λ xs. callee.scope ∷ xs) (nothing ∙ sym (none_left l (scopes_around g b) full));
            within = within;
            inner = λ i h. absurd (past l i h full);
            outermost = λ h. is_main;
            once = once;
            new = λ k h. (let few : k < length (scopes_around g b) = slice_get_within (scopes_around g b) k callee.scope h in omega (arith, few, far));
            no_accept = no_accept;
          }
        where
          past : (n i : ℕ) → slice_get (scopes_around g b) n ≡ Some i → length (scopes_around g b) ≤ n → ⊥
          past n i h full = (let few : n < length (scopes_around g b) = slice_get_within (scopes_around g b) n i h in omega (arith, few, full))

    -- ## Declared in another

    module _ (is_other : mains outer ≡ false) (in_view : sees b.env.view outer ≡ true) where
      at_outer : slice_get (scopes_around g b) l ≡ Some outer
      at_outer = there b reached once outer is_other in_view

      short : l < length (scopes_around g b)
      short = slice_get_within (scopes_around g b) l outer at_outer

      up_from : (m : ℕ) → links_up g (l + m) b.scope ≡ links_up g m (held_with g.state.blocks outer)
      up_from m = links_on l m b.scope outer (at_link b reached once l outer at_outer) is_other ∙ ap (λ n. links_up g m n) (sym (held_own outer is_other))

      abbrev left : List ℕ
      left = drop l (scopes_around g b)

      left_size : l + length left ≡ length (scopes_around g b)
      left_size = (let d : length left ≡ length (scopes_around g b) - l = length-drop l (scopes_around g b) in let w = short in omega (arith, d, w))

      left_there : (m i : ℕ) → slice_get left m ≡ Some i → slice_get (scopes_around g b) (l + m) ≡ Some i
      left_there m i h = sym (slice_dropped l (scopes_around g b) m) ∙ h

      left_at : (m i : ℕ) → slice_get left m ≡ Some i → links_up g m (held_with g.state.blocks outer) ≡ i
      left_at m i h = sym (up_from m) ∙ at_link b reached once (l + m) i (left_there m i h)

      left_own : (m i : ℕ) → slice_get left m ≡ Some i → mains i ≡ false
      left_own m i h = linked_not_mains g.state.blocks b.env.view (l + m) i (left_there m i h)

      left_end : links_up g (length left) (held_with g.state.blocks outer) ≡ 0
      left_end = sym (up_from (length left)) ∙ ap (λ n. links_up g n b.scope) left_size ∙ at_end b reached once

      same_size : length begins.rest ≡ length left
      same_size = elim (less_or_not (length begins.rest) (length left)) [
        | inl h ↦ absurd (one_short h)
        | inr h ↦ elim
            (less_or_not (length left) (length begins.rest)) [ inl k ↦ absurd (other_short k) | inr k ↦ omega (arith, h, k) ]
      ]
        where
          one_short : length begins.rest < length left → ⊥
          one_short h = (let some = slice_at left (length begins.rest) h in not_zero some.0 (left_own (length begins.rest) some.0 some.1)
              (sym (left_at (length begins.rest) some.0 some.1) ∙ rest_end))

          other_short : length left < length begins.rest → ⊥
          other_short h = (let some = slice_at begins.rest (length left) h in not_zero some.0 (rest_own (length left) some.0 some.1)
              (sym (rest_at (length left) some.0 some.1) ∙ left_end))

      same_rest : begins.rest ≡ left
      same_rest = same_lists begins.rest left same_size (λ k x y h i. sym (rest_at k x h) ∙ left_at k y i)

      nested_in_other : IsNested g b callee l
      nested_in_other =
          record {
            around = begins.is ∙ ap (λ xs. callee.scope ∷ xs) same_rest;
            within = (let w = short in omega (arith, w));
            inner = λ i h. some_same outer i (sym at_outer ∙ h);
            outermost = λ h. absurd (not_all h);
            once = once;
            new = λ k h. elim (less_or_not k l) [ inl few ↦ few | inr far ↦ absurd (again k h far) ];
            no_accept = no_accept;
          }
        where
          not_all : l ≡ length (scopes_around g b) → ⊥
          not_all h = (let w = short in omega (arith, h, w))

          again : (k : ℕ) → slice_get (scopes_around g b) k ≡ Some callee.scope → l ≤ k → ⊥
          again k h far =
              let place : l + (k - l) ≡ k = omega (arith, far) in
              let among : slice_get begins.rest (k - l) ≡ Some callee.scope =
              ap (λ xs. slice_get xs (k - l)) same_rest ∙ slice_dropped l (scopes_around g b) (k - l) ∙ ap (λ n. slice_get (scopes_around g b) n) place
              ∙ h in
              let same : suc (k - l) ≡ 0 =
              once_callee callee.scope (suc (k - l)) 0 (ap (λ xs. slice_get xs (suc (k - l))) begins.is ∙ among) (ap (λ xs. slice_get xs 0) begins.is) in
              omega (arith, same)

    pub nested : IsNested g b callee l
    nested = by (mains outer) refl seen
      where
        by : (c : Bool) → mains outer ≡ c → (c || sees b.env.view outer) ≡ true → IsNested g b callee l
        by true h all = nested_in_main h
        by false h all = nested_in_other h all
