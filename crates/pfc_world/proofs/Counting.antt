-- How many stand at what a test holds of.
use Rattle.std.proofs.Common.{◌≡◌, ◌≢◌, ℕ, zero, suc, ◌+◌, ◌-◌, ◌<◌, ◌≤◌, Bool, true, false, not, ◌==◌, ◌&&◌, ◌||◌, nat_lt, List, [], ◌∷◌, length, set, map}
use Rattle.std.proofs.Common.{replicate, arith, refl, sym, ap, ◌∙◌}
use Rattle.std.specs.List.{list_any, list_all}
use Rattle.std.proofs.lemmas.Bool.Decides.{nat_tests}
use Rattle.pfc_state.specs.Stands.{Stand, Is_idle, Is_created, Is_ready, Waits, Is_done, is_created, is_unfinished, is_at_coend, may_end, started}
use Rattle.pfc_world.specs.Indexes.{number, one_more, count_of}
use Rattle.pfc_world.specs.Settling.{children_may_end}
use Rattle.pfc_world.specs.Tables.{at, some_created}
use Rattle.pfc_world.specs.Transitions.{is_released}

more-is : (b : Bool) (n : ℕ) → one_more b n ≡ number b + n
more-is true n = omega arith
more-is false n = omega arith

-- one process stands at something else
pub count-set : (holds : Stand → Bool) (rows : List Stand) (p : ℕ) (s : Stand) → p < length rows
    → count_of holds (set rows p s) + number (holds (at rows p)) ≡ count_of holds rows + number (holds s)
count-set holds [] p s lt = absurd (omega (arith, lt))
count-set holds (r ∷ rest) zero s lt =
    let new : one_more (holds s) (count_of holds rest) ≡ number (holds s) + count_of holds rest = more-is (holds s) (count_of holds rest) in
    let old : one_more (holds r) (count_of holds rest) ≡ number (holds r) + count_of holds rest = more-is (holds r) (count_of holds rest) in
    omega (arith, new, old)
count-set holds (r ∷ rest) (suc p) s lt =
    let ih : count_of holds (set rest p s) + number (holds (at rest p)) ≡ count_of holds rest + number (holds s) =
    count-set holds rest p s (omega (arith, lt)) in
    let new : one_more (holds r) (count_of holds (set rest p s)) ≡ number (holds r) + count_of holds (set rest p s) =
    more-is (holds r) (count_of holds (set rest p s)) in
    let old : one_more (holds r) (count_of holds rest) ≡ number (holds r) + count_of holds rest = more-is (holds r) (count_of holds rest) in
    omega (arith, ih, new, old)

pub number-most : (b : Bool) → number b ≤ 1
number-most true = omega arith
number-most false = omega arith

pub count-most : (holds : Stand → Bool) (rows : List Stand) → count_of holds rows ≤ length rows
count-most holds [] = omega arith
count-most holds (s ∷ rest) =
    let le : count_of holds rest ≤ length rest = count-most holds rest in
    let one : number (holds s) ≤ 1 = number-most (holds s) in
    let sum : one_more (holds s) (count_of holds rest) ≡ number (holds s) + count_of holds rest = more-is (holds s) (count_of holds rest) in
    omega (arith, le, one, sum)

-- who is counted is one of them
pub count-one : (holds : Stand → Bool) (rows : List Stand) (p : ℕ) → p < length rows → number (holds (at rows p)) ≤ count_of holds rows
count-one holds [] p lt = absurd (omega (arith, lt))
count-one holds (s ∷ rest) zero lt =
    let sum : one_more (holds s) (count_of holds rest) ≡ number (holds s) + count_of holds rest = more-is (holds s) (count_of holds rest) in
    omega (arith, sum)
count-one holds (s ∷ rest) (suc p) lt =
    let le : number (holds (at rest p)) ≤ count_of holds rest = count-one holds rest p (omega (arith, lt)) in
    let sum : one_more (holds s) (count_of holds rest) ≡ number (holds s) + count_of holds rest = more-is (holds s) (count_of holds rest) in
    omega (arith, le, sum)

-- a change that keeps what is counted keeps the count
pub count-map : (holds : Stand → Bool) (change : Stand → Stand) → ((s : Stand) → holds (change s) ≡ holds s) → (rows : List Stand) →
    count_of holds (map change rows) ≡ count_of holds rows
count-map holds change same [] = refl
count-map holds change same (s ∷ rest) = ap (λ b. one_more b (count_of holds (map change rest))) (same s) ∙
    ap (λ n. one_more (holds s) n) (count-map holds change same rest)

pub count-idle : (holds : Stand → Bool) → holds Is_idle ≡ false → (n : ℕ) → count_of holds (replicate n Is_idle) ≡ 0
count-idle holds none zero = refl
count-idle holds none (suc n) = ap (λ b. one_more b (count_of holds (replicate n Is_idle))) none ∙ count-idle holds none n

-- nobody is counted exactly where the test holds of nobody
none-all : (holds : Stand → Bool) (rows : List Stand) → (count_of holds rows == 0) ≡ list_all (λ s. not (holds s)) rows
none-all holds [] = refl
none-all holds (s ∷ rest) = go (holds s) (none-all holds rest)
  where
    go : (b : Bool) → (count_of holds rest == 0) ≡ list_all (λ v. not (holds v)) rest →
        (one_more b (count_of holds rest) == 0) ≡ (not b && list_all (λ v. not (holds v)) rest)
    go true ih = let e : (suc (count_of holds rest) == 0) ≡ false = grind (arith, nat_tests) in e
    go false ih = ih

some-any : (holds : Stand → Bool) (rows : List Stand) → nat_lt 0 (count_of holds rows) ≡ list_any holds rows
some-any holds [] = refl
some-any holds (s ∷ rest) = go (holds s) (some-any holds rest)
  where
    go : (b : Bool) → nat_lt 0 (count_of holds rest) ≡ list_any holds rest → nat_lt 0 (one_more b (count_of holds rest)) ≡ (b || list_any holds rest)
    go true ih = let e : nat_lt 0 (suc (count_of holds rest)) ≡ true = grind (arith, nat_tests) in e
    go false ih = ih

-- some process is created exactly where one is counted
pub created-some : (rows : List Stand) (n : ℕ) → n ≡ count_of is_created rows → nat_lt 0 n ≡ some_created rows
created-some rows n is = ap (λ k. nat_lt 0 k) is ∙ some-any is_created rows

-- whoever was created is so no more
pub none-created : (rows : List Stand) → count_of is_created (map started rows) ≡ 0
none-created [] = refl
none-created (s ∷ rest) = go s (none-created rest)
  where
    go : (s : Stand) → count_of is_created (map started rest) ≡ 0 → count_of is_created (map started (s ∷ rest)) ≡ 0
    go Is_idle ih = ih
    go Is_created ih = ih
    go Is_ready ih = ih
    go (Waits why ticket arms) ih = ih
    go Is_done ih = ih

-- who may end is unfinished
ends-unfinished : (s : Stand) → may_end s ≡ true → is_unfinished s ≡ true
ends-unfinished Is_idle h = h
ends-unfinished Is_created h = refl
ends-unfinished Is_ready h = refl
ends-unfinished (Waits why ticket arms) h = refl
ends-unfinished Is_done h = h

fewer-end : (rows : List Stand) → count_of may_end rows ≤ count_of is_unfinished rows
fewer-end [] = omega arith
fewer-end (s ∷ rest) = go (may_end s) (is_unfinished s) (ends-unfinished s) (fewer-end rest)
  where
    go : (a b : Bool) → (a ≡ true → b ≡ true) → count_of may_end rest ≤ count_of is_unfinished rest →
        one_more a (count_of may_end rest) ≤ one_more b (count_of is_unfinished rest)
    go true true h ih = omega (arith, ih)
    go true false h ih = let no : false ≡ true = h refl in cc
    go false true h ih = omega (arith, ih)
    go false false h ih = ih

-- as many may end as are unfinished exactly where all who are unfinished may end
all-end : (rows : List Stand) → (count_of is_unfinished rows == count_of may_end rows) ≡ list_all (λ s. not (is_unfinished s) || may_end s) rows
all-end [] = refl
all-end (s ∷ rest) = go (may_end s) (is_unfinished s) (ends-unfinished s) (all-end rest)
  where
    fewer : count_of may_end rest ≤ count_of is_unfinished rest
    fewer = fewer-end rest

    go : (a b : Bool) → (a ≡ true → b ≡ true) → (count_of is_unfinished rest == count_of may_end rest) ≡ list_all (λ v. not (is_unfinished v) || may_end v) rest
        → (one_more b (count_of is_unfinished rest) == one_more a (count_of may_end rest)) ≡
        ((not b || a) && list_all (λ v. not (is_unfinished v) || may_end v) rest)
    go true true h ih = let e : (suc (count_of is_unfinished rest) == suc (count_of may_end rest)) ≡ (count_of is_unfinished rest == count_of may_end rest) =
        grind (arith, nat_tests) in e ∙ ih
    go true false h ih = let no : false ≡ true = h refl in cc
    go false true h ih = let e : (suc (count_of is_unfinished rest) == count_of may_end rest) ≡ false = grind (arith, nat_tests, fewer) in e
    go false false h ih = ih

-- main is released where it waits at `coend` and is the only one that is unfinished
pub released-by : (rows : List Stand) (n : ℕ) → 0 < length rows → n ≡ count_of is_unfinished rows → ((n == 1) && is_at_coend (at rows 0)) ≡ is_released rows
released-by [] n some is = absurd (omega (arith, some))
released-by (main ∷ children) n some is = go main is
  where
    both : (b : Bool) → (b && false) ≡ false
    both true = refl
    both false = refl

    turned : (a b : Bool) → (a && b) ≡ (b && a)
    turned true true = refl
    turned true false = refl
    turned false true = refl
    turned false false = refl

    counted : (k : ℕ) → k ≡ suc (count_of is_unfinished children) → (k == 1) ≡ (count_of is_unfinished children == 0)
    counted k e = grind (arith, nat_tests, e)

    go : (m : Stand) → n ≡ count_of is_unfinished (m ∷ children) → ((n == 1) && is_at_coend m) ≡ is_released (m ∷ children)
    go Is_idle e = both (n == 1)
    go Is_created e = both (n == 1)
    go Is_ready e = both (n == 1)
    go Is_done e = both (n == 1)
    go (Waits why ticket arms) e =
        turned (n == 1) (is_at_coend (Waits why ticket arms)) ∙
        ap (λ b. is_at_coend (Waits why ticket arms) && b) (counted n e ∙ none-all is_unfinished children)

-- the children may all end
pub may-end-by : (rows : List Stand) (a b n m : ℕ) → 0 < length rows → n ≡ count_of is_unfinished rows - a →
    a ≡ number (is_unfinished (at rows 0)) → m ≡ count_of may_end rows - b
    → b ≡ number (may_end (at rows 0)) → (nat_lt 0 n && (n == m)) ≡ children_may_end rows
may-end-by [] a b n m some e f g h = absurd (omega (arith, some))
may-end-by (main ∷ children) a b n m some e f g h =
    let all : one_more (is_unfinished main) (count_of is_unfinished children) ≡ number (is_unfinished main) + count_of is_unfinished children =
    more-is (is_unfinished main) (count_of is_unfinished children) in
    let ends : one_more (may_end main) (count_of may_end children) ≡ number (may_end main) + count_of may_end children =
    more-is (may_end main) (count_of may_end children) in
    let unfinished : n ≡ count_of is_unfinished children = omega (arith, e, f, all) in
    let ending : m ≡ count_of may_end children = omega (arith, g, h, ends) in
    ap (λ k. nat_lt 0 k && (k == m)) unfinished
    ∙ ap (λ k. nat_lt 0 (count_of is_unfinished children) && (count_of is_unfinished children == k)) ending
    ∙ ap (λ v. v && (count_of is_unfinished children == count_of may_end children)) (some-any is_unfinished children)
    ∙ ap (λ v. list_any is_unfinished children && v) (all-end children)

pub released-one : (rows : List Stand) (n : ℕ) → 0 < length rows → n ≡ count_of is_unfinished rows → n ≡ 1 → is_at_coend (at rows 0) ≡ is_released rows
released-one rows n some is one =
    let passed : (n == 1) ≡ true = grind (arith, nat_tests, one) in
    ap (λ b. b && is_at_coend (at rows 0)) (sym passed) ∙ released-by rows n some is

pub released-not : (rows : List Stand) (n : ℕ) → 0 < length rows → n ≡ count_of is_unfinished rows → n ≢ 1 → (n == 1) ≡ is_released rows
released-not rows n some is more =
    let failed : (n == 1) ≡ false = grind (arith, nat_tests, more) in
    failed ∙ ap (λ b. b && is_at_coend (at rows 0)) (sym failed) ∙ released-by rows n some is

pub may-end-some : (rows : List Stand) (n m : ℕ) → 0 < n → (nat_lt 0 n && (n == m)) ≡ children_may_end rows → (n == m) ≡ children_may_end rows
may-end-some rows n m some is = let passed : nat_lt 0 n ≡ true = grind (arith, nat_tests, some) in ap (λ b. b && (n == m)) (sym passed) ∙ is

pub may-end-none : (rows : List Stand) (n m : ℕ) → n ≤ 0 → (nat_lt 0 n && (n == m)) ≡ children_may_end rows → nat_lt 0 n ≡ children_may_end rows
may-end-none rows n m none is =
    let zero_is : n ≡ 0 = grind (arith, none) in
    let failed : nat_lt 0 n ≡ false = grind (arith, nat_tests, zero_is) in
    failed ∙ ap (λ b. b && (n == m)) (sym failed) ∙ is
