-- A layout, name by name.
use Rattle.std.proofs.Common.{◌≡◌, ℕ, ◌+◌, ◌<◌, Bool, true, false, cond, List, [], ◌∷◌, ◌++◌, length, get_or, take, drop, zero, suc, refl, sym, ap, ◌∙◌, arith}
use Rattle.std.proofs.lemmas.List.{drop_more, drop_all, take_more, take_all, append_assoc, append-nil}
use Rattle.pfc_tree.specs.Symbols.{Text}
use Rattle.pfc_types.specs.Scopes.{Names, scope_at}
use Rattle.pfc_types.specs.Blocks.{Blocks}
use Rattle.pfc_types.specs.declared.scope.Meaning.{Meaning}
use Rattle.pfc_types.specs.declared.scope.Meaning.TheVariants.{Faulty}
use Rattle.pfc_semantics.specs.Layouts.{is_laid, laid_names, laid_as, main_layout, accepts_laid}
use Rattle.pfc_program.specs.Laid.{one_laid}

-- the first name, and the others
pub laid_front : (x : Text × Meaning) (names : Names) → laid_names (x ∷ names) ≡ one_laid x.1 ++ laid_names names
laid_front x names = by (is_laid x.1)
  where
    by : (b : Bool) → cond b (x.1 ∷ laid_names names) (laid_names names) ≡ cond b (x.1 ∷ []) [] ++ laid_names names
    by true = refl
    by false = refl

-- the name at a place, and those behind it
pub laid_more :
    (names : Names) (k : ℕ) (d : Text × Meaning) → k < length names →
    laid_names (drop k names) ≡ one_laid (get_or names k d).1 ++ laid_names (drop (k + 1) names)
laid_more names k d within = ap laid_names (drop_more names k d within) ∙ laid_front (get_or names k d) (drop (k + 1) names)

-- one name more, behind the others
pub laid_push : (names : Names) (x : Text × Meaning) → laid_names (names ++ x ∷ []) ≡ laid_names names ++ one_laid x.1
laid_push [] x = laid_front x [] ∙ append-nil (one_laid x.1)
laid_push (y ∷ names) x =
    laid_front y (names ++ x ∷ [])
    ∙ ap (λ l. one_laid y.1 ++ l) (laid_push names x)
    ∙ sym (append_assoc (one_laid y.1) (laid_names names) (one_laid x.1))
    ∙ ap (λ l. l ++ one_laid x.1) (sym (laid_front y names))

-- the name behind the first k
pub laid_taken :
    (names : Names) (k : ℕ) (d : Text × Meaning) → k < length names →
    laid_names (take (k + 1) names) ≡ laid_names (take k names) ++ one_laid (get_or names k d).1
laid_taken names k d within = ap laid_names (take_more names k d within) ∙ laid_push (take k names) (get_or names k d)

pub main_more :
    (b : Blocks) (names : Names) (k : ℕ) (d : Text × Meaning) → k < length names →
    main_layout b (drop k names) ≡ laid_as b (get_or names k d).1 ++ main_layout b (drop (k + 1) names)
main_more b names k d within = ap (main_layout b) (drop_more names k d within)

-- the same where the meaning of the name is given
pub laid_at :
    (names : Names) (k : ℕ) (m : Meaning) → ((d : Text × Meaning) → m ≡ (get_or names k d).1) → k < length names →
    laid_names (drop k names) ≡ one_laid m ++ laid_names (drop (k + 1) names)
laid_at names k m is within =
    let none : Text × Meaning = ([], Faulty) in
    laid_more names k none within ∙ ap (λ n. one_laid n ++ laid_names (drop (k + 1) names)) (sym (is none))

pub laid_taken_at :
    (names : Names) (k : ℕ) (m : Meaning) → ((d : Text × Meaning) → m ≡ (get_or names k d).1) → k < length names →
    laid_names (take (k + 1) names) ≡ laid_names (take k names) ++ one_laid m
laid_taken_at names k m is within =
    let none : Text × Meaning = ([], Faulty) in laid_taken names k none within ∙ ap (λ n. laid_names (take k names) ++ one_laid n) (sym (is none))

pub main_at :
    (b : Blocks) (names : Names) (k : ℕ) (m : Meaning) → ((d : Text × Meaning) → m ≡ (get_or names k d).1) → k < length names →
    main_layout b (drop k names) ≡ laid_as b m ++ main_layout b (drop (k + 1) names)
main_at b names k m is within =
    let none : Text × Meaning = ([], Faulty) in
    main_more b names k none within ∙ ap (λ n. laid_as b n ++ main_layout b (drop (k + 1) names)) (sym (is none))

-- the names of the next accept
pub accepts_next : (scopes : List Names) (i n : ℕ) →
    accepts_laid (take (suc n) (drop i scopes)) ≡ laid_names (scope_at scopes i) ++ accepts_laid (take n (drop (i + 1) scopes))
accepts_next [] i n =
    let none : List Names = [] in
    ap (λ l. accepts_laid (take (suc n) l)) (drop_all i none (omega arith))
    ∙ sym (ap accepts_laid (ap (take n) (drop_all (i + 1) none (omega arith)) ∙ take_all n none (omega arith)))
accepts_next (names ∷ scopes) zero n = refl
accepts_next (names ∷ scopes) (suc i) n =
    let e : suc (i + 1) ≡ suc i + 1 = omega arith in
    accepts_next scopes i n ∙ ap (λ j. laid_names (scope_at scopes i) ++ accepts_laid (take n (drop j (names ∷ scopes)))) e
