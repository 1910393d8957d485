-- Loops over tokens agree with the loops over kinds but for places.
use Rattle.std.proofs.Common.{◌≡◌, ℕ, zero, suc, List, [], ◌∷◌, ◌++◌, length, map, Bool, Option, refl, ap, subst, ◌∙◌}
use Rattle.pfc_base.specs.declared.places.Place.{Place}
use Rattle.pfc_tree.specs.Symbols.{Symbol, symbols}
use Rattle.pfc_grammar.specs.Reading as kinds
use Rattle.pfc_grammar.specs.placed.Reading.{Reader, many_turns, many_onto, many, some_of, list_of, end_turns, end_onto, list_end, while_turns, while_onto}
use Rattle.pfc_grammar.specs.placed.Reading.{many_while}
use Rattle.pfc_grammar.proofs.placed_bare.Readers.{Bares, counted, bare_pure, bare_stop, bare_bind, bare_branch, bare_choose}

map-snoc : {A B : Type 0} (f : A → B) (xs : List A) (x : A) → map f (xs ++ x ∷ []) ≡ map f xs ++ f x ∷ []
map-snoc f [] x = refl
map-snoc f (y ∷ xs) x = ap (λ z. f y ∷ z) (map-snoc f xs x)

module _ {O A B : Type 0} {f : A → B} (c : Symbol → Option O) {g : O × Place → Reader A} (g' : O →
    kinds.Reader B) (h : (o : O × Place) → Bares f (g o) (g' o.0)) where
  turns : (k : ℕ) (xs : List A) → Bares (map f) (many_turns k xs c g) (kinds.many_turns k (map f xs) c g')
  unfolding many_turns kinds.many_turns
  turns zero xs = bare_pure xs refl
  turns (suc k) xs = bare_branch c (λ o. kinds.bind (g' o) (λ x. kinds.many_turns k (map f xs ++ x ∷ []) c g'))
      (λ o. bare_bind (λ x. kinds.many_turns k (map f xs ++ x ∷ []) c g') (h o)
      (λ x. subst (λ z. Bares (map f) (many_turns k (xs ++ x ∷ []) c g) (kinds.many_turns k z c g')) (map-snoc f xs x) (turns k (xs ++ x ∷ []))))
      (bare_pure xs refl)

  pub bare_onto : (xs : List A) → Bares (map f) (many_onto xs c g) (kinds.many_onto (map f xs) c g')
  unfolding many_onto kinds.many_onto
  bare_onto xs = record { gives = λ ts. (turns (length ts) xs).gives ts ∙ ap (λ n. kinds.many_turns n (map f xs) c g' (symbols ts)) (counted ts) }

  pub bare_many : Bares (map f) (many c g) (kinds.many c g')
  unfolding many kinds.many
  bare_many = bare_onto []

  pub bare_some : Bares (map f) (some_of c g) (kinds.some_of c g')
  unfolding some_of kinds.some_of
  bare_some = bare_branch c _ (λ o. bare_bind _ (h o) (λ x. bare_onto (x ∷ []))) bare_stop

pub bare_list : {O A B : Type 0} {f : A → B} (c : Symbol → Option O) {r : Reader A} {q : kinds.Reader B} → Bares f r q →
    Bares (map f) (list_of c r) (kinds.list_of c q)
unfolding list_of kinds.list_of
bare_list c {q = q} h = bare_bind _ h (λ x. bare_onto c (λ o. q) (λ o. h) (x ∷ []))

-- what list_end gives: items, and whether one more separator stands
abbrev pub on_items : {A B : Type 0} → (A → B) → List A × Bool → List B × Bool
on_items f p = (map f p.0, p.1)

module _ {O A B : Type 0} {f : A → B} (c : Symbol → Option O) (p : Symbol → Bool) {r : Reader A} {q : kinds.Reader B} (h : Bares f r q) where
  turns_end : (k : ℕ) (xs : List A) → Bares (on_items f) (end_turns k xs c p r) (kinds.end_turns k (map f xs) c p q)
  unfolding end_turns kinds.end_turns
  turns_end zero xs = bare_pure _ refl
  turns_end (suc k) xs = bare_branch c _
      (λ o. bare_choose p (bare_pure _ refl) (bare_bind (λ x. kinds.end_turns k (map f xs ++ x ∷ []) c p q) h
      (λ x. subst (λ z. Bares (on_items f) (end_turns k (xs ++ x ∷ []) c p r) (kinds.end_turns k z c p q)) (map-snoc f xs x) (turns_end k (xs ++ x ∷ [])))))
      (bare_pure _ refl)

  bare_end_onto : (xs : List A) → Bares (on_items f) (end_onto xs c p r) (kinds.end_onto (map f xs) c p q)
  unfolding end_onto kinds.end_onto
  bare_end_onto xs = record { gives = λ ts. (turns_end (length ts) xs).gives ts ∙ ap (λ n. kinds.end_turns n (map f xs) c p q (symbols ts)) (counted ts) }

  pub bare_list_end : Bares (on_items f) (list_end c p r) (kinds.list_end c p q)
  unfolding list_end kinds.list_end
  bare_list_end = bare_bind _ h (λ x. bare_end_onto (x ∷ []))

module _ {A B : Type 0} {f : A → B} (p : Symbol → Bool) {r : Reader A} {q : kinds.Reader B} (h : Bares f r q) where
  turns_while : (k : ℕ) (xs : List A) → Bares (map f) (while_turns k xs p r) (kinds.while_turns k (map f xs) p q)
  unfolding while_turns kinds.while_turns
  turns_while zero xs = bare_pure xs refl
  turns_while (suc k) xs = bare_choose p
      (bare_bind (λ x. kinds.while_turns k (map f xs ++ x ∷ []) p q) h
      (λ x. subst (λ z. Bares (map f) (while_turns k (xs ++ x ∷ []) p r) (kinds.while_turns k z p q)) (map-snoc f xs x) (turns_while k (xs ++ x ∷ []))))
      (bare_pure xs refl)

  pub bare_while : Bares (map f) (many_while p r) (kinds.many_while p q)
  unfolding many_while while_onto kinds.many_while kinds.while_onto
  bare_while = record { gives = λ ts. (turns_while (length ts) []).gives ts ∙ ap (λ n. kinds.while_turns n [] p q (symbols ts)) (counted ts) }
