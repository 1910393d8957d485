-- What is in view in the body of a block is known there: main's, or of an activation that static links lead to.
use Rattle.std.proofs.Common.{◌≡◌, ℕ, suc, ◌+◌, ◌<◌, ◌==◌, ◌||◌, inl, inr, Bool, true, false, not, cond, if◌then◌else◌, nat_lt, List, [], ◌∷◌, length, Some}
use Rattle.std.proofs.Common.{None, refl, sym, ap, ◌∙◌, subst, arith}
use Rattle.std.specs.Prelude.{position, unwrap_or}
use Rattle.std.specs.List.{list_any, position_or_len}
use Rattle.std.proofs.lemmas.Bool.Decides.{nat_tests}
use Rattle.pfc_types.specs.Scopes.{Level}
use Rattle.pfc_semantics.specs.Programs.{Block, Program}
use Rattle.pfc_translation.specs.Sites.{is_mains, linked, level_of, links_from}
use Rattle.pfc_image_laws.specs.Levels.{held_with, links_up, sees, IsReached}
use Rattle.pfc_image_cells.proofs.Trees.{same_number, equal_number}
use Rattle.pfc_standing_code.specs.Words.{is_known, AreKnown}
use Rattle.pfc_call_laws.proofs.Places.{or_cases, or_left, or_right}
use Rattle.pfc_nesting_laws.proofs.Numbered.{Below}

pub any_sees : (view : List Level) (i : ℕ) → list_any (λ (level : Level). level.scope == i) view ≡ true → sees view i ≡ true
any_sees [] i h = absurd (cc)
any_sees (l ∷ view) i h = by (l.scope == i) h (λ e. any_sees view i e)
  where
    by : (r : Bool) → (r || list_any (λ (level : Level). level.scope == i) view) ≡ true
        → (list_any (λ (level : Level). level.scope == i) view ≡ true → sees view i ≡ true) → (r || sees view i) ≡ true
    by true h rest = refl
    by false h rest = rest h

-- what is not there has no place
no_place : (i : ℕ) (xs : List ℕ) → list_any (λ j. j == i) xs ≡ false → position_or_len (λ j. j == i) xs ≡ length xs
no_place i [] h = refl
no_place i (x ∷ xs) h = by (x == i) h (λ e. no_place i xs e)
  where
    by : (r : Bool) → (r || list_any (λ j. j == i) xs) ≡ false → (list_any (λ j. j == i) xs ≡ false → position_or_len (λ j. j == i) xs ≡ length xs)
        → cond (not r) (1 + position_or_len (λ j. j == i) xs) 0 ≡ suc (length xs)
    by true h rest = absurd (cc)
    by false h rest = let e = rest h in omega (arith, e)

place_none : (i : ℕ) (xs : List ℕ) → list_any (λ j. j == i) xs ≡ false → unwrap_or (position (λ j. j == i) xs) 0 ≡ 0
place_none i xs h = by (position_or_len (λ j. j == i) xs) (no_place i xs h)
  where
    by : (n : ℕ) → n ≡ length xs → unwrap_or (cond (nat_lt n (length xs)) (Some n) None) 0 ≡ 0
    by n e = let test : nat_lt n (length xs) ≡ false = grind (arith, nat_tests) in ap (λ (r : Bool). unwrap_or (cond r (Some n) None) 0) test

-- where the scopes in view fall from a number on, which is one of them, it is the first
first_seen : (n : ℕ) (view : List Level) → Below (n + 1) view → sees view n ≡ true → (l : Level) × (rest : List Level) × (view ≡ l ∷ rest) × (l.scope ≡ n)
first_seen n [] below h = absurd (cc)
first_seen n (l ∷ view) below h = by (l.scope == n) refl h
  where
    none_lower : (m : ℕ) (rest : List Level) → Below m rest → m < n + 1 → sees rest n ≡ true → ⊥
    none_lower m [] b low h = cc
    none_lower m (k ∷ rest) b low h = elim (or_cases (k.scope == n) (sees rest n) h) [
      | inl e ↦ (let is = equal_number k.scope n e in let less = b.0 in omega (arith, is, less, low))
      | inr e ↦
          none_lower k.scope rest b.1 (let less = b.0 in omega (arith, less, low)) e
    ]

    by : (r : Bool) → (l.scope == n) ≡ r → (r || sees view n) ≡ true → (k : Level) × (rest : List Level) × (l ∷ view ≡ k ∷ rest) × (k.scope ≡ n)
    by true e h = (l, view, refl, equal_number l.scope n e)
    by false e h = absurd (none_lower l.scope view below.1 below.0 h)

-- static links lead from a block to itself
own_linked : (g : Program) (b : Block) → is_mains g.state.blocks b.scope ≡ false → Below (b.scope + 1) b.env.view → sees b.env.view b.scope ≡ true
    → list_any (λ j. j == b.scope) (linked g.state.blocks b.env.view) ≡ true
own_linked g b own falls sees_own =
    let first = first_seen b.scope b.env.view falls sees_own in
    subst (λ (v : List Level). list_any (λ j. j == b.scope) (linked g.state.blocks v) ≡ true) (sym first.2)
    (ap (λ (r : Bool). list_any (λ j. j == b.scope) (if r then [] else first.0.scope ∷ linked g.state.blocks first.1))
    (ap (is_mains g.state.blocks) first.3 ∙ own)
    ∙ (ap (λ (n : ℕ). (n == b.scope) || list_any (λ j. j == b.scope) (linked g.state.blocks first.1)) first.3
    ∙ ap (λ (r : Bool). r || list_any (λ j. j == b.scope) (linked g.state.blocks first.1)) (same_number b.scope)))

pub own_is_known : (g : Program) (b : Block) → is_mains g.state.blocks b.scope ≡ false → Below (b.scope + 1) b.env.view → sees b.env.view b.scope ≡ true
    → is_known g.state.blocks b [] b.scope ≡ true
own_is_known g b own falls sees_own =
    or_right (is_mains g.state.blocks b.scope) _
    (or_left (list_any (λ j. j == b.scope) (linked g.state.blocks b.env.view)) _ (own_linked g b own falls sees_own))

module _ (g : Program) (b : Block) (reached : IsReached g b) (own : is_mains g.state.blocks b.scope ≡ false) (falls : Below (b.scope + 1) b.env.view)
    (sees_own : sees b.env.view b.scope ≡ true) where
  abbrev around : List ℕ
  around = linked g.state.blocks b.env.view

  is_linked : (i : ℕ) → is_mains g.state.blocks i ≡ false → sees b.env.view i ≡ true → list_any (λ j. j == i) around ≡ true
  is_linked i apart seen = by (list_any (λ j. j == i) around) refl
    where
      by : (r : Bool) → list_any (λ j. j == i) around ≡ r → list_any (λ j. j == i) around ≡ true
      by true e = e
      by false e =
          let no_links : links_from g.state.blocks b i ≡ 0 =
          ap (λ (r : Bool). if r then level_of g.state.blocks b else unwrap_or (position (λ j. j == i) around) 0) apart ∙ place_none i around e in
          let leads = reached i (or_right (is_mains g.state.blocks i) (sees b.env.view i) seen) in
          let here : held_with g.state.blocks b.scope ≡ held_with g.state.blocks i = sym (ap (λ n. links_up g n b.scope) no_links) ∙ leads in
          let mine : held_with g.state.blocks b.scope ≡ b.scope = ap (λ (r : Bool). if r then 0 else b.scope) own in
          let its : held_with g.state.blocks i ≡ i = ap (λ (r : Bool). if r then 0 else i) apart in
          let same : b.scope ≡ i = sym mine ∙ here ∙ its in
          subst (λ (n : ℕ). list_any (λ j. j == n) around ≡ true) same (own_linked g b own falls sees_own)

  pub are_known : AreKnown g b [] b.env
  are_known i seen = elim (or_cases (is_mains g.state.blocks i) (list_any (λ (level : Level). level.scope == i) b.env.view) seen) [
    | inl m ↦ or_left (is_mains g.state.blocks i) _ m
    | inr e ↦ by (is_mains g.state.blocks i) refl e
  ]
    where
      by : (r : Bool) → is_mains g.state.blocks i ≡ r → list_any (λ (level : Level). level.scope == i) b.env.view ≡ true
          → is_known g.state.blocks b [] i ≡ true
      by true m e = or_left (is_mains g.state.blocks i) _ m
      by false m e =
          or_right (is_mains g.state.blocks i) (list_any (λ j. j == i) around || list_any (λ j. j == i) [])
          (or_left (list_any (λ j. j == i) around) (list_any (λ j. j == i) []) (is_linked i m (any_sees b.env.view i e)))
