-- What is kept where an activation takes the place of the last.
use Rattle.std.proofs.Common.{◌≡◌, ◌≢◌, ℕ, zero, suc, ◌+◌, ◌-◌, ◌==◌, if◌then◌else◌, ℤ, Bool, true, false, List, [], ◌∷◌, ◌++◌, length, drop, refl, sym, ap}
use Rattle.std.proofs.Common.{◌∙◌, subst}
use Rattle.std.proofs.Common.{arith, ◌⊎◌, inl, inr, length-append}
use Rattle.pfc_world.specs.Tables.{Table}
use Rattle.pfc_semantics.specs.Programs.{Program}
use Rattle.pfc_semantics.specs.Store.{Store}
use Rattle.pfc_cells.specs.Homes.{Homes}
use Rattle.pfc_cells.specs.Memory.{Entry, Entries, IsAmong}
use Rattle.pfc_views.specs.Keeping.{IsLike}
use Rattle.pfc_representation.specs.Levels.{MayKeep, of_main, of_own as of_own_stack, lent as lent_by}

-- ## Lists

-- entries that are the same of each process are the same
pub everywhere : (f h : Entries) → ((q : ℕ) → f q ≡ h q) → f ≡ h
everywhere f h each = λ i. λ q. each q i

pub ends_with : (xs ys : List ℤ) → drop (length (xs ++ ys) - length ys) (xs ++ ys) ≡ ys
ends_with xs ys = ap (λ n. drop n (xs ++ ys)) (size (length (xs ++ ys)) (length xs) (length ys) (length-append xs ys)) ∙ behind xs
  where
    size : (i j k : ℕ) → i ≡ j + k → i - k ≡ j
    size i j k h = omega (arith, h)

    behind : (zs : List ℤ) → drop (length zs) (zs ++ ys) ≡ ys
    behind [] = refl
    behind (z ∷ zs) = behind zs

pub rest_behind : (n : ℕ) (ops kept under : List ℤ) → drop n ops ≡ kept ++ under → (before : List ℤ) × (ops ≡ before ++ under)
rest_behind zero ops kept under h = (kept, h)
rest_behind (suc n) [] kept under h = (kept, h)
rest_behind (suc n) (x ∷ ops) kept under h = (let inner = rest_behind n ops kept under h in (x ∷ inner.0, ap (λ xs. x ∷ xs) inner.1))

-- ## What is kept but for one

abbrev pub keeps_but : (ℕ → Bool) → ℕ → ℕ → Bool
keeps_but keeps a y = if y == a then false else keeps y

pub not_same : (n k : ℕ) → n ≢ k → (n == k) ≡ false
not_same n k h = grind (arith, h)

pub but_this : (keeps : ℕ → Bool) (a : ℕ) → keeps_but keeps a a ≡ false
but_this keeps a = ap (λ (x : Bool). if x then false else keeps a) (let same : (a == a) ≡ true = grind arith in same)

pub still_kept : (keeps : ℕ → Bool) (a y : ℕ) → y ≢ a → keeps y ≡ true → keeps_but keeps a y ≡ true
still_kept keeps a y apart is = ap (λ (x : Bool). if x then false else keeps y) (let other : (y == a) ≡ false = grind (arith, apart) in other) ∙ is

pub was_kept : (keeps : ℕ → Bool) (a y : ℕ) → keeps_but keeps a y ≡ true → (keeps y ≡ true) × (y ≢ a)
was_kept keeps a y is = by (y == a) refl
  where
    by : (x : Bool) → (y == a) ≡ x → (keeps y ≡ true) × (y ≢ a)
    by true h = absurd (let both : false ≡ true = sym (ap (λ (x : Bool). if x then false else keeps y) h) ∙ is in cc)
    by false h = (
      sym (ap (λ (x : Bool). if x then false else keeps y) h) ∙ is,
      λ same. absurd (let both : true ≡ false = sym (let it : (y == a) ≡ true = grind (arith, same) in it) ∙ h in cc),
    )

-- what may be kept over one that ends
pub without_top : (table : Table) (entries : Entries) (p : ℕ) (lenders : List ℕ) (x new : Entry) (below : List Entry) (y : ℕ) → y ≢ x.activation
    → (mine : List Entry) → mine ≡ x ∷ below → MayKeep table entries p lenders mine y → MayKeep table entries p lenders (new ∷ below) y
without_top table entries _ _ x new below _ apart _ same (of_main p lenders mine) = of_main p lenders (new ∷ below)
without_top table entries _ _ x new below _ apart _ same (of_own_stack p lenders mine y among) =
    of_own_stack p lenders (new ∷ below) y (by (subst (λ es. IsAmong y es) same among))
  where
    by : (x.activation ≡ y) ⊎ IsAmong y below → (new.activation ≡ y) ⊎ IsAmong y below
    by (inl here) = absurd (apart (sym here))
    by (inr lower) = inr lower
without_top table entries _ _ x new below _ apart _ same (lent_by p lenders mine y k q others there met inner) =
    lent_by p lenders (new ∷ below) y k q others there met inner

pub like_twice : (g : Program) (keeps : ℕ → Bool) (h1 h2 h3 : Homes) (e1 e2 e3 : Entries) (s1 s2 s3 : Store) → IsLike g keeps h1 h2 e1 e2 s1 s2
    → IsLike g keeps h2 h3 e2 e3 s2 s3 → IsLike g keeps h1 h3 e1 e3 s1 s3
like_twice g keeps h1 h2 h3 e1 e2 e3 s1 s2 s3 one two = record {
  at_home = λ a home is. two.at_home a home (one.at_home a home is);
  living = λ q e kept lives. two.living q e kept (one.living q e kept lives);
  references = λ a k home t kept is laid. two.references a k home t kept (one.at_home a home is) laid ∙ one.references a k home t kept is laid;
}
