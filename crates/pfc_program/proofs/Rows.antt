-- The place of a name among those of its scope.
use borrow.Author.Count.{below_more}
use Rattle.std.proofs.Common.{◌≡◌, ℕ, ◌+◌, ◌<◌, ◌==◌, zero, suc, Bool, true, false, cond, None, Some, List, [], ◌∷◌, ◌++◌, length, get_or, take, drop, position}
use Rattle.std.proofs.Common.{Option, refl, sym, ap, subst, ◌∙◌, zero-add, arith}
use Rattle.std.specs.Prelude.{unwrap_or, if◌then◌else◌}
use Rattle.std.specs.List.{position_from}
use Rattle.std.specs.Option.{option_or}
use Rattle.std.proofs.lemmas.List.{length-append, drop_more, get_or_push, get_or_append_left}
use Rattle.pfc_tree.specs.Symbols.{Text}
use Rattle.pfc_types.specs.Scopes.{Names, scope_at}
use Rattle.pfc_types.specs.Blocks.{Blocks}
use Rattle.pfc_types.specs.declared.scope.Meaning.{Meaning}
use Rattle.pfc_types.specs.declared.scope.Meaning.TheVariants.{Faulty}
use Rattle.pfc_types.specs.declared.heads.SubHead.{SubHead}
use Rattle.pfc_semantics.specs.Layouts.{main_layout, laid_as, laid_names, behind_result, sub_with, before_scope, before_module, is_module, variable_place}
use Rattle.pfc_program.specs.Firsts.{noted_module}
use Rattle.pfc_program.specs.Laid.{one_laid}
use Rattle.pfc_program.specs.Places.{main_places, block_places}
use Rattle.pfc_program.proofs.Laid.{laid_front}

pub main_places-at :
    (b : Blocks) (n : ℕ) (names : Names) (k : ℕ) → k < length names → get_or (main_places b n names) k 0 ≡ n + length (main_layout b (take k names))
main_places-at b n [] k within = absurd (omega arith)
main_places-at b n (x ∷ names) zero within = omega arith
main_places-at b n (x ∷ names) (suc k) within =
    let rest = main_places-at b (n + length (laid_as b x.1)) names k (omega arith) in
    let both = length-append (laid_as b x.1) (main_layout b (take k names)) in omega arith

pub block_places-at :
    (sub : Option SubHead) (n j : ℕ) (names : Names) (k : ℕ) → k < length names →
    get_or (block_places sub n j names) k 0 ≡ n + (length (laid_names (take k names)) + behind_result sub (j + k))
block_places-at sub n j [] k within = absurd (omega arith)
block_places-at sub n j (x ∷ names) zero within =
    let same : behind_result sub (j + 0) ≡ behind_result sub j = ap (behind_result sub) (omega arith) in omega arith
block_places-at sub n j (x ∷ names) (suc k) within =
    let rest = block_places-at sub (n + length (one_laid x.1)) (j + 1) names k (omega arith) in
    let same : behind_result sub (j + 1 + k) ≡ behind_result sub (j + suc k) = ap (behind_result sub) (omega arith) in
    let laid : length (laid_names (x ∷ take k names)) ≡ length (one_laid x.1) + length (laid_names (take k names)) =
    ap length (laid_front x (take k names)) ∙ length-append (one_laid x.1) (laid_names (take k names)) in
    omega arith

-- the first that passes, where none before it does
pub position_here :
    {X : Type 0} (test : X → Bool) (n : ℕ) (xs : List X) (d : X) → n < length xs → test (get_or xs n d) ≡ true → position_from test n (drop n xs) ≡ Some n
position_here test n xs d within is =
    ap (position_from test n) (drop_more xs n d within) ∙ ap (λ b. cond b (Some n) (position_from test (n + 1) (drop (n + 1) xs))) is

-- ## The rows

pub main_places_next :
    (b : Blocks) (n : ℕ) (names : Names) (k : ℕ) (m : Meaning) → ((d : Text × Meaning) → m ≡ (get_or names k d).1) → k < length names →
    main_places b n (drop k names) ≡ n ∷ main_places b (n + length (laid_as b m)) (drop (k + 1) names)
main_places_next b n names k m is within =
    let none : Text × Meaning = ([], Faulty) in
    ap (main_places b n) (drop_more names k none within) ∙ ap (λ x. n ∷ main_places b (n + length (laid_as b x)) (drop (k + 1) names)) (sym (is none))

pub block_places_next :
    (sub : Option SubHead) (n j : ℕ) (names : Names) (k : ℕ) (m : Meaning) → ((d : Text × Meaning) → m ≡ (get_or names k d).1) → k < length names →
    block_places sub n j (drop k names) ≡ (n + behind_result sub j) ∷ block_places sub (n + length (one_laid m)) (j + 1) (drop (k + 1) names)
block_places_next sub n j names k m is within =
    let none : Text × Meaning = ([], Faulty) in
    ap (block_places sub n j) (drop_more names k none within)
    ∙ ap (λ x. (n + behind_result sub j) ∷ block_places sub (n + length (one_laid x)) (j + 1) (drop (k + 1) names)) (sym (is none))

-- the row of the program's scope
pub main_row_holds :
    (b : Blocks) (i : ℕ) (row : List ℕ) → i ≡ 0 → row ≡ main_places b 0 (scope_at b.scopes 0) → (k : ℕ) →
    k < length (scope_at b.scopes i) → get_or row k 0 ≡ variable_place b i k
main_row_holds b i row first made k within =
    let held : k < length (scope_at b.scopes 0) = subst (λ j. k < length (scope_at b.scopes j)) first within in
    ap (λ r. get_or r k 0) made
    ∙ main_places-at b 0 (scope_at b.scopes 0) k held
    ∙ zero-add (length (main_layout b (take k (scope_at b.scopes 0))))
    ∙ ap (λ j. variable_place b j k) (sym first)

-- that of another
pub block_row_holds :
    (b : Blocks) (i : ℕ) (row : List ℕ) → (i == 0) ≡ false → row ≡ block_places (sub_with b.subs i) (before_scope b (position (λ m. m.scope == i) b.modules)) 0
    (scope_at b.scopes i) → (k : ℕ) → k < length (scope_at b.scopes i) → get_or row k 0 ≡ variable_place b i k
block_row_holds b i row other made k within =
    let sub = sub_with b.subs i in
    let n = before_scope b (position (λ m. m.scope == i) b.modules) in
    let laid = length (laid_names (take k (scope_at b.scopes i))) in
    ap (λ r. get_or r k 0) made
    ∙ block_places-at sub n 0 (scope_at b.scopes i) k within
    ∙ ap (λ j. n + (laid + behind_result sub j)) (zero-add k)
    ∙ sym (ap (λ t. cond t (length (main_layout b (take k (scope_at b.scopes 0)))) (n + (laid + behind_result sub k))) other)

-- one row more
pub rows_more :
    (b : Blocks) (rows : List (List ℕ)) (row : List ℕ) (i : ℕ) → length rows ≡ i
    → ((j k : ℕ) → j < i → k < length (scope_at b.scopes j) → get_or (get_or rows j []) k 0 ≡ variable_place b j k)
    → ((k : ℕ) → k < length (scope_at b.scopes i) → get_or row k 0 ≡ variable_place b i k)
    → (j k : ℕ) → j < i + 1 → k < length (scope_at b.scopes j) → get_or (get_or (rows ++ row ∷ []) j []) k 0 ≡ variable_place b j k
rows_more b rows row i len before here j k below within =
    below_more (λ j. (k : ℕ) → k < length (scope_at b.scopes j) → get_or (get_or (rows ++ row ∷ []) j []) k 0 ≡ variable_place b j k) i
    (λ j h k w. ap (λ r. get_or r k 0) (get_or_append_left rows (row ∷ []) [] j (omega arith)) ∙ before j k h w)
    (λ k w. ap (λ r. get_or r k 0) (get_or_push rows row [] i len) ∙ here k w) j below k within

pub rows_pushed :
    (b : Blocks) (rows made : List (List ℕ)) (row : List ℕ) (i : ℕ) → made ≡ rows ++ row ∷ [] → length rows ≡ i
    → ((j k : ℕ) → j < i → k < length (scope_at b.scopes j) → get_or (get_or rows j []) k 0 ≡ variable_place b j k)
    → ((k : ℕ) → k < length (scope_at b.scopes i) → get_or row k 0 ≡ variable_place b i k)
    → (length made ≡ i + 1) × ((j k : ℕ) → j < i + 1 → k < length (scope_at b.scopes j) → get_or (get_or made j []) k 0 ≡ variable_place b j k)
rows_pushed b rows made row i is len before here =
    let e = ap length is in
    let both = length-append rows (row ∷ []) in
    let counted : length made ≡ i + 1 = omega arith in
    (counted, λ j k below within. ap (λ l. get_or (get_or l j []) k 0) is ∙ rows_more b rows row i len before here j k below within)

-- ## Before a module

pub before_here :
    (b : Blocks) (n : ℕ) (names : Names) (k : ℕ) (m : Meaning) → ((d : Text × Meaning) → m ≡ (get_or names k d).1) → k < length names →
    is_module n m ≡ true → before_module b n (drop k names) ≡ 0
before_here b n names k m is within found =
    let none : Text × Meaning = ([], Faulty) in
    ap (before_module b n) (drop_more names k none within)
    ∙ ap (λ x. cond (is_module n x) 0 (length (laid_as b x) + before_module b n (drop (k + 1) names))) (sym (is none))
    ∙ ap (λ t. cond t 0 (length (laid_as b m) + before_module b n (drop (k + 1) names))) found

pub before_more :
    (b : Blocks) (n : ℕ) (names : Names) (k : ℕ) (m : Meaning) → ((d : Text × Meaning) → m ≡ (get_or names k d).1) → k < length names → is_module n m ≡ false →
    before_module b n (drop k names) ≡ length (laid_as b m) + before_module b n (drop (k + 1) names)
before_more b n names k m is within other =
    let none : Text × Meaning = ([], Faulty) in
    ap (before_module b n) (drop_more names k none within)
    ∙ ap (λ x. cond (is_module n x) 0 (length (laid_as b x) + before_module b n (drop (k + 1) names))) (sym (is none))
    ∙ ap (λ t. cond t 0 (length (laid_as b m) + before_module b n (drop (k + 1) names))) other

-- what is noted first stays
kept : (old : Option ℕ) (count other : ℕ) → unwrap_or (option_or old (Some count)) other ≡ unwrap_or old count
kept None count other = refl
kept (Some c) count other = refl

-- the counts behind a name, before which `count` variables stand
pub count_noted :
    (b : Blocks) (n : ℕ) (names : Names) (k : ℕ) (m : Meaning) (count all whole : ℕ) (old : Option ℕ)
    → ((d : Text × Meaning) → m ≡ (get_or names k d).1) → k < length names → all ≡ count + length (laid_as b m)
    → unwrap_or old (count + before_module b n (drop k names)) ≡ whole
    → unwrap_or (noted_module m count n old) (all + before_module b n (drop (k + 1) names)) ≡ whole
count_noted b n names k m count all whole old is within sum before = by (is_module n m) refl
  where
    by : (t : Bool) → is_module n m ≡ t → unwrap_or (if t then option_or old (Some count) else old) (all + before_module b n (drop (k + 1) names)) ≡ whole
    by true here =
        let none = before_here b n names k m is within here in
        let same : count ≡ count + before_module b n (drop k names) = omega (arith, none) in
        kept old count (all + before_module b n (drop (k + 1) names)) ∙ ap (λ (c : ℕ). unwrap_or old c) same ∙ before
    by false other =
        let more = before_more b n names k m is within other in
        let same : all + before_module b n (drop (k + 1) names) ≡ count + before_module b n (drop k names) = omega (arith, more, sum) in
        ap (λ (c : ℕ). unwrap_or old c) same ∙ before
