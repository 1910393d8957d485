-- The parameters of an accept: where they stand, and what a caller gives them.
use Rattle.std.proofs.Common.{◌≡◌, ◌≢◌, ℕ, zero, suc, ◌+◌, ◌-◌, ◌<◌, ◌≤◌, pos, Bool, true, ◌&&◌, if◌then◌else◌, List, [], ◌∷◌, ◌++◌, length, map, take, drop}
use Rattle.std.proofs.Common.{get_or, set, Option, Some, refl, sym, ap, ap₂, ◌∙◌, arith, length-append, ◌⊎◌, inl, inr}
use Rattle.std.specs.Prelude.{nat_le, nat_lt}
use Rattle.std.proofs.lemmas.List.{get_or-drop, get_or-set_other}
use Rattle.std.proofs.lemmas.List.Sums.{sum_by-cons}
use Rattle.pfc_tree.specs.Symbols.{Text}
use Rattle.pfc_types.specs.Types.{Forms}
use Rattle.pfc_types.specs.Scopes.{Names, scope_at}
use Rattle.pfc_types.specs.declared.types.TypeId.{TypeId}
use Rattle.pfc_types.specs.declared.heads.Formal.{Formal}
use Rattle.pfc_types.specs.declared.scope.Meaning.{Meaning}
use Rattle.pfc_types.specs.declared.scope.Meaning.TheVariants.{Variable}
use Rattle.pfc_types.specs.rules.Declarations.{name_cells, scope_cells}
use Rattle.pfc_types.specs.rules.Kinds.{variable_meaning}
use Rattle.pfc_semantics.specs.Values.{Value, ordinal}
use Rattle.pfc_semantics.specs.Layouts.{Layout, is_laid, laid_names, accepts_laid}
use Rattle.pfc_semantics.specs.Programs.{Block, Program, layout_cells}
use Rattle.pfc_semantics.specs.Rendezvous.{taken_from}
use Rattle.pfc_translation.specs.Sites.{is_accept, before_accept}
use Rattle.pfc_call_laws.specs.Blocks.{AreLaidAs}
use Rattle.pfc_views.specs.Views.{block_site}
use Rattle.pfc_representation.specs.Hands.{laid_parameter, laid_parameters}

-- ## Those of the entry

abbrev HasType : Formal → Meaning → Type 0
HasType f m = (t : TypeId) × (f.t ≡ Some t) × (m ≡ Variable t f.reference)

same_heads : (x y : Meaning) (xs ys : List Meaning) → x ∷ xs ≡ y ∷ ys → (x ≡ y) × (xs ≡ ys)
same_heads x y xs ys h = (cc, cc)

name_is : (y : Meaning) (f : Formal) → y ≡ variable_meaning f.reference f.t → HasType f (laid_parameter f.t f.reference) → y ≡ laid_parameter f.t f.reference
name_is y f is (t, typed, laid) = is ∙ ap (λ (o : Option TypeId). variable_meaning f.reference o) typed ∙ sym laid

is_laid_so : (f : Formal) → HasType f (laid_parameter f.t f.reference) → is_laid (laid_parameter f.t f.reference) ≡ true
is_laid_so f (t, typed, laid) = ap is_laid laid

-- the names of the accept's scope are the entry's parameters
pub names_laid : (names : Names) (formals : List Formal) → map (λ (y : Text × Meaning). y.1) names ≡ map (λ (f : Formal). variable_meaning f.reference f.t)
    formals
    → AreLaidAs formals (laid_parameters formals) → laid_names names ≡ laid_parameters formals
names_laid [] [] same laid = refl
names_laid [] (f ∷ formals) same laid =
    absurd (let no : [] ≡ variable_meaning f.reference f.t ∷ map (λ (f : Formal). variable_meaning f.reference f.t) formals = same in cc)
names_laid (y ∷ names) [] same laid = absurd (let no : y.1 ∷ map (λ (y : Text × Meaning). y.1) names ≡ [] = same in cc)
names_laid (y ∷ names) (f ∷ formals) same laid =
    let heads = same_heads y.1 (variable_meaning f.reference f.t) (map (λ (y : Text × Meaning). y.1) names)
    (map (λ (f : Formal). variable_meaning f.reference f.t) formals) same in
    let is : y.1 ≡ laid_parameter f.t f.reference = name_is y.1 f heads.0 laid.0 in
    ap (λ (t : Bool). if t then y.1 ∷ laid_names names else laid_names names) (ap is_laid is ∙ is_laid_so f laid.0)
    ∙ ap₂ (λ (m : Meaning) (l : Layout). m ∷ l) is (names_laid names formals heads.1 laid.1)

pub names_cells : (forms : Forms) (names : Names) (formals : List Formal)
    → map (λ (y : Text × Meaning). y.1) names ≡ map (λ (f : Formal). variable_meaning f.reference f.t) formals
    → AreLaidAs formals (laid_parameters formals) → scope_cells forms names ≡ layout_cells forms (laid_parameters formals)
names_cells forms [] [] same laid = refl
names_cells forms [] (f ∷ formals) same laid =
    absurd (let no : [] ≡ variable_meaning f.reference f.t ∷ map (λ (f : Formal). variable_meaning f.reference f.t) formals = same in cc)
names_cells forms (y ∷ names) [] same laid = absurd (let no : y.1 ∷ map (λ (y : Text × Meaning). y.1) names ≡ [] = same in cc)
names_cells forms (y ∷ names) (f ∷ formals) same laid =
    let heads = same_heads y.1 (variable_meaning f.reference f.t) (map (λ (y : Text × Meaning). y.1) names)
    (map (λ (f : Formal). variable_meaning f.reference f.t) formals) same in
    sum_by-cons (λ (x : Text × Meaning). name_cells forms x.1) y names
    ∙ ap₂ (λ n k. n + k) (ap (λ (m : Meaning). name_cells forms m) (name_is y.1 f heads.0 laid.0)) (names_cells forms names formals heads.1 laid.1)
    ∙ sym (sum_by-cons (λ (x : Meaning). name_cells forms x) (laid_parameter f.t f.reference) (laid_parameters formals))

-- ## Values

-- the others keep theirs
pub taken_other : (first : ℕ) (args values : List Value) (n : ℕ) → (first ≤ n → n < first + length args → ⊥)
    → get_or (taken_from first args values) n (ordinal (pos 0)) ≡ get_or values n (ordinal (pos 0))
taken_other first [] values n out = refl
taken_other first (v ∷ args) values n out =
    taken_other (first + 1) args (set values first v) n (λ low high. out (grind (arith, low)) (grind (arith, high)))
    ∙ get_or-set_other values first n v (ordinal (pos 0)) (λ same. out (grind (arith, same)) (grind (arith, same)))

-- ## Where they stand

both_tests : (next accepts j : ℕ) → (nat_le next j && nat_lt j (next + accepts)) ≡ true → (next ≤ j) × (j - next < accepts)
both_tests next accepts j h = (grind (arith, h), grind (arith, h))

-- of two scopes one stands before the other
laid_apart : (scopes : List Names) (k n : ℕ) → k < n
    → length (accepts_laid (take k scopes)) + length (laid_names (get_or scopes k [])) ≤ length (accepts_laid (take n scopes))
laid_apart scopes k zero less = absurd (none k less)
  where
    none : (j : ℕ) → j < 0 → ⊥
    none j h = grind (arith, h)
laid_apart [] zero (suc n) less = (let h : 0 + 0 ≤ 0 = grind arith in h)
laid_apart [] (suc k) (suc n) less = (let h : 0 + 0 ≤ 0 = grind arith in h)
laid_apart (x ∷ scopes) zero (suc n) less =
    more (length (laid_names x)) (length (accepts_laid (take n scopes))) (length (laid_names x ++ accepts_laid (take n scopes)))
    (length-append (laid_names x) (accepts_laid (take n scopes)))
  where
    more : (i j r : ℕ) → r ≡ i + j → 0 + i ≤ r
    more i j r is = grind (arith, is)
laid_apart (x ∷ scopes) (suc k) (suc n) less =
    both (length (laid_names x)) (length (accepts_laid (take k scopes))) (length (accepts_laid (take n scopes)))
    (length (laid_names (get_or scopes k []))) (length (laid_names x ++ accepts_laid (take k scopes))) (length (laid_names x ++ accepts_laid (take n scopes)))
    (length-append (laid_names x) (accepts_laid (take k scopes))) (length-append (laid_names x) (accepts_laid (take n scopes)))
    (laid_apart scopes k n (grind (arith, less)))
  where
    both : (i j r s a b : ℕ) → a ≡ i + j → b ≡ i + r → j + s ≤ r → a + s ≤ b
    both i j r s a b one two h = grind (arith, one, two, h)

module _ (g : Program) (b : Block) where
  abbrev scopes : List Names
  scopes = g.state.blocks.scopes

  abbrev its : ℕ → ℕ
  its i = before_accept (block_site g b) i

  abbrev size : ℕ → ℕ
  size i = length (laid_names (scope_at scopes i))

  its_is : (i : ℕ) → its i ≡ length (laid_names (scope_at scopes b.scope)) + length (accepts_laid (take (i - b.next) (drop b.next scopes)))
  its_is i = length-append (laid_names (scope_at scopes b.scope)) (accepts_laid (take (i - b.next) (drop b.next scopes)))

  -- behind the own names
  pub own_before : (i : ℕ) → length (laid_names (scope_at scopes b.scope)) ≤ its i
  own_before i = more (its i) (length (laid_names (scope_at scopes b.scope))) (length (accepts_laid (take (i - b.next) (drop b.next scopes)))) (its_is i)
    where
      more : (r j n : ℕ) → r ≡ j + n → j ≤ r
      more r j n is = grind (arith, is)

  in_order : (i j : ℕ) → is_accept b i ≡ true → is_accept b j ≡ true → i < j → its i + size i ≤ its j
  in_order i j one two less =
      let first = both_tests b.next b.accepts i one in
      let second = both_tests b.next b.accepts j two in
      let names : length (laid_names (get_or (drop b.next scopes) (i - b.next) [])) ≡ size i =
      ap (λ (y : Names). length (laid_names y))
      (get_or-drop b.next scopes (i - b.next) [] ∙ ap (λ n. get_or scopes n []) (back b.next i first.0)) in
      fit (length (laid_names (scope_at scopes b.scope))) (length (accepts_laid (take (i - b.next) (drop b.next scopes))))
      (length (accepts_laid (take (j - b.next) (drop b.next scopes)))) (its i) (its j) (size i)
      (length (laid_names (get_or (drop b.next scopes) (i - b.next) [])))
      (its_is i) (its_is j) names
      (laid_apart (drop b.next scopes) (i - b.next) (j - b.next) (nearer b.next i j first.0 less))
    where
      back : (n k : ℕ) → n ≤ k → n + (k - n) ≡ k
      back n k h = omega (arith, h)

      nearer : (n k l : ℕ) → n ≤ k → k < l → k - n < l - n
      nearer n k l h h' = omega (arith, h, h')

      fit : (o x y a c s t : ℕ) → a ≡ o + x → c ≡ o + y → t ≡ s → x + t ≤ y → a + s ≤ c
      fit o x y a c s t one two same h = grind (arith, one, two, same, h)

  -- two accepts have no place in common
  pub accepts_apart : (i j n : ℕ) → is_accept b i ≡ true → is_accept b j ≡ true → i ≢ j → n < size j → its i ≤ its j + n → its j + n < its i + size i → ⊥
  accepts_apart i j n one two other few low high = by (either i j)
    where
      either : (k l : ℕ) → (k < l) ⊎ (l ≤ k)
      either k l = grind arith

      differ : (k l : ℕ) → k ≢ l → l ≤ k → l < k
      differ k l apart h = grind (arith, apart, h)

      under : (a s c r : ℕ) → a + s ≤ c → c + r < a + s → ⊥
      under a s c r h k = grind (arith, h, k)

      over : (a c s r : ℕ) → c + s ≤ a → r < s → a ≤ c + r → ⊥
      over a c s r h less k = grind (arith, h, less, k)

      by : (i < j) ⊎ (j ≤ i) → ⊥
      by (inl less) = under (its i) (size i) (its j) n (in_order i j one two less) high
      by (inr less) = over (its i) (its j) (size j) n (in_order j i two one (differ i j other less)) few low
