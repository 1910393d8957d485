-- Parts of values: of a list of values, and along some steps.
use Rattle.std.proofs.Common.{◌≡◌, ℕ, zero, suc, ◌+◌, ◌<◌, ◌≤◌, ℤ, pos, List, [], ◌∷◌, ◌++◌, length, drop, set, get_or, Option, Some, None, refl, sym, ap, ◌∙◌}
use Rattle.std.proofs.Common.{arith}
use Rattle.std.specs.Borrow.{Bor}
use Rattle.std.specs.Option.{option_copied, option_map, unwrap_or}
use Rattle.std.proofs.lemmas.List.{set-set, set_comm, set_past, drop_more, length-map}
use Rattle.pfc_semantics.specs.Values.{Value, ordinal, compound, more_values, values_from, part_at, with_part_at, part_of, part, with_part, path_of}
use Rattle.pfc_semantics.specs.Rendezvous.{taken_from}
use Rattle.pfc_store.specs.declared.values.Selector.{Selector as HeldSelector}
use Rattle.pfc_store.specs.declared.values.Value.{Value as Held}
use Rattle.pfc_store.specs.Views.{selectors_view, value_view, values_view, part_view}
use Rattle.pfc_store.proofs.Seen.{nothing, ordinal_seen, one_seen, other_seen}

-- ## Of a list of values

pub part_of_list : (vs : List Value) (i : ℕ) → part_at (values_from vs) i ≡ get_or vs i (ordinal (pos 0))
part_of_list [] i = refl
part_of_list (v ∷ vs) zero = refl
part_of_list (v ∷ vs) (suc i) = part_of_list vs i

pub with_part_of_list : (vs : List Value) (i : ℕ) (new : Value) → with_part_at (values_from vs) i new ≡ values_from (set vs i new)
with_part_of_list [] i new = refl
with_part_of_list (v ∷ vs) zero new = refl
with_part_of_list (v ∷ vs) (suc i) new = ap (more_values v) (with_part_of_list vs i new)

pub part_seen : (vs : List Held) (i : ℕ) → part_at (values_from (values_view vs)) i ≡ value_view (get_or vs i nothing)
part_seen vs i = part_of_list (values_view vs) i ∙ one_seen vs i

-- what a look-up gives
pub looked_up : (vs : List Held) (i : ℕ) (o : Option (Bor Held)) → unwrap_or (option_map (λ (x : Bor Held). x.now) o) nothing ≡ get_or vs i nothing →
    part_view (option_copied o) ≡ part_at (values_from (values_view vs)) i
looked_up vs i None e = sym (ordinal_seen (pos 0)) ∙ ap value_view e ∙ sym (part_seen vs i)
looked_up vs i (Some x) e = ap value_view e ∙ sym (part_seen vs i)

-- ## Along some steps

-- a value without parts is itself, whatever part is asked for
pub part_of_ordinal : (path : List ℕ) (n : ℤ) → part path (ordinal n) ≡ ordinal n
part_of_ordinal [] n = refl
part_of_ordinal (i ∷ path) n = part_of_ordinal path n

abbrev pub places : List HeldSelector → List ℕ
places steps = path_of (selectors_view steps)

-- where a step leads to nothing, so do the steps behind it
pub nothing_there :
    (steps : List HeldSelector) (i : ℕ) (d : HeldSelector) (v : Value) → i < length steps → part_of v (get_or steps i d).place ≡ ordinal (pos 0)
    → part (places (drop i steps)) v ≡ ordinal (pos 0)
nothing_there steps i d v h e =
    ap (λ l. part (places l) v) (drop_more steps i d h) ∙ ap (λ u. part (places (drop (i + 1) steps)) u) e ∙
    part_of_ordinal (places (drop (i + 1) steps)) (pos 0)

abbrev pub no_step : HeldSelector
no_step = record { place = 0; index = pos 0 }

-- the first step and those behind it
pub first_step : (steps : List HeldSelector) → 1 ≤ length steps → places steps ≡ (get_or steps 0 no_step).place ∷ places (drop 1 steps)
first_step [] h = absurd (omega arith)
first_step (s ∷ steps) h = refl

-- what is made of the variables of an activation where another value is put into one of them
abbrev pub put_change : ℕ → Value → List HeldSelector → List Value → List Value
put_change k new steps vs = set vs k (with_part (places steps) (get_or vs k (ordinal (pos 0))) new)

-- a value that is not there is not put
pub not_put : (vs : List Held) (i : ℕ) (new : Value) → length vs ≤ i → values_view vs ≡ set (values_view vs) i new
not_put vs i new past = sym (set_past (values_view vs) i new (omega (arith, past, length-map vs value_view)))

-- one that is there
pub put_there :
    (vs : List Held) (i : ℕ) (path : List ℕ) (new : Value) (old between made : Held) → old ≡ get_or vs i nothing →
    value_view made ≡ with_part path (value_view old) new
    → values_view (set (set vs i between) i made) ≡ set (values_view vs) i (with_part path (get_or (values_view vs) i (ordinal (pos 0))) new)
put_there vs i path new old between made was is =
    ap values_view (set-set vs i between made)
    ∙ other_seen vs i made
    ∙ ap (λ v. set (values_view vs) i v) (is ∙ ap (λ v. with_part path v new) (ap value_view was ∙ sym (one_seen vs i)))

-- a part of what is made of parts
pub put_in :
    (vs ws : List Held) (i : ℕ) (path : List ℕ) (new : Value) →
    values_view ws ≡ set (values_view vs) i (with_part path (get_or (values_view vs) i (ordinal (pos 0))) new)
    → compound (values_from (values_view ws)) ≡ with_part (i ∷ path) (compound (values_from (values_view vs))) new
put_in vs ws i path new e =
    ap (λ us. compound (values_from us)) e
    ∙ ap compound (sym (with_part_of_list (values_view vs) i (with_part path (get_or (values_view vs) i (ordinal (pos 0))) new)))
    ∙ ap (λ v. compound (with_part_at (values_from (values_view vs)) i (with_part path v new))) (sym (part_of_list (values_view vs) i))

-- ## Some values take the places of others

pub taken_last :
    (first : ℕ) (xs : List Value) (y : Value) (vs : List Value) → taken_from first (xs ++ y ∷ []) vs ≡ taken_from first xs (set vs (first + length xs) y)
taken_last first [] y vs = ap (λ k. set vs k y) (omega arith)
taken_last first (x ∷ xs) y vs =
    taken_last (first + 1) xs y (set vs first x)
    ∙ ap (taken_from (first + 1) xs) (ap (λ k. set (set vs first x) k y) (omega arith) ∙
    set_comm vs first (first + suc (length xs)) x y (λ e. absurd (omega (arith, e))))
