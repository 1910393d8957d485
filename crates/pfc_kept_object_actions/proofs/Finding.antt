-- Who is found first by a key, or last, has a ticket by it.
use Rattle.std.proofs.Common.{◌≡◌, ℕ, suc, Bool, true, false, if◌then◌else◌, Option, Some, None, List, [], ◌∷◌, refl, subst}
use Rattle.std.specs.Prelude.{option_map, is_some}
use Rattle.pfc_state.specs.Stands.{Stand}
use Rattle.pfc_world.specs.Tables.{at}
use Rattle.pfc_world.specs.Firsts.{has_number, holder, holder_of, least, greatest, first, last}

has_some : (t : ℕ) (o : Option ℕ) → has_number t o ≡ true → is_some o ≡ true
has_some t (Some u) h = refl
has_some t None h = h

module _ (key : Stand → Option ℕ) where
  behind : (t : ℕ) (s : Stand) (rest : List Stand) (q : ℕ) (o : Option ℕ) → ((r : ℕ) → o ≡ Some r → is_some (key (at rest r)) ≡ true)
      → option_map suc o ≡ Some q
      → is_some (key (at (s ∷ rest) q)) ≡ true
  behind t s rest q None ih h = (let no : None ≡ Some q = h in cc)
  behind t s rest q (Some r) ih h =
      let same : suc r ≡ q = (let both : Some (suc r) ≡ Some q = h in cc) in
      subst (λ n. is_some (key (at (s ∷ rest) n)) ≡ true) same (ih r refl)

  by_first : (t : ℕ) (s : Stand) (rest : List Stand) (q : ℕ) (o : Option ℕ) (b : Bool) → has_number t (key s) ≡ b
      → ((r : ℕ) → o ≡ Some r → is_some (key (at rest r)) ≡ true)
      → (if b then Some 0 else option_map suc o) ≡ Some q → is_some (key (at (s ∷ rest) q)) ≡ true
  by_first t s rest q o true is ih h =
      let same : 0 ≡ q = (let both : Some 0 ≡ Some q = h in cc) in
      subst (λ n. is_some (key (at (s ∷ rest) n)) ≡ true) same (has_some t (key s) is)
  by_first t s rest q o false is ih h = behind t s rest q o ih h

  holder_has : (t : ℕ) (rows : List Stand) (q : ℕ) → holder key t rows ≡ Some q → is_some (key (at rows q)) ≡ true
  holder_has t [] q h = (let no : None ≡ Some q = h in cc)
  holder_has t (s ∷ rest) q h = by_first t s rest q (holder key t rest) (has_number t (key s)) refl (λ r is. holder_has t rest r is) h

  holder_of_has : (o : Option ℕ) (rows : List Stand) (q : ℕ) → holder_of key o rows ≡ Some q → is_some (key (at rows q)) ≡ true
  holder_of_has None rows q h = (let no : None ≡ Some q = h in cc)
  holder_of_has (Some t) rows q h = holder_has t rows q h

  pub first_has : (rows : List Stand) (q : ℕ) → first key rows ≡ Some q → is_some (key (at rows q)) ≡ true
  first_has rows q h = holder_of_has (least key rows) rows q h

  pub last_has : (rows : List Stand) (q : ℕ) → last key rows ≡ Some q → is_some (key (at rows q)) ≡ true
  last_has rows q h = holder_of_has (greatest key rows) rows q h
