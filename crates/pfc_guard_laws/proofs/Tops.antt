-- Activations that stand ever later in the text have entered each monitor and each resource once.
use Rattle.std.proofs.Common.{◌≡◌, ◌≢◌, ℕ, ◌≤◌, ◌<◌, List, [], ◌∷◌, All, Some, slice_get, refl, sym, ap, ◌∙◌, subst, arith}
use Rattle.std.proofs.lemmas.List.Elements.{All-nil, All-cons}
use Rattle.pfc_semantics.specs.Programs.{Program}
use Rattle.pfc_semantics.specs.Configurations.{Mark, plain, of_monitor, of_resource, Activation, Config, activity_of}
use Rattle.pfc_run_rules.specs.Rules.{AreOutside}
use Rattle.pfc_guard_laws.specs.Runs.{ReturnsOnce}
use Rattle.pfc_guard_laws.specs.Keeping.{IsOutsideAtEnds}
use Rattle.pfc_guard_laws.specs.Tops.{Tops, StandsIn, ComesBefore, AreOrdered, IsRooted}

module _ (tops : Tops) where
  abbrev top : Activation → ℕ
  top a = tops.of_scope a.scope

  no_later : (mark : Mark) (i j : ℕ) → ComesBefore mark i j → i ≤ j
  no_later plain i j h = h
  no_later (of_monitor m) i j h = omega (arith, h)
  no_later (of_resource r) i j h = omega (arith, h)

  -- a mark that is told tells the place
  placed_so : (mark m : Mark) (i : ℕ) → StandsIn tops mark i → mark ≡ m → m ≢ plain → i ≡ tops.of_mark m
  placed_so plain m i is e marked = absurd (marked (sym e))
  placed_so (of_monitor n) m i is e marked = is ∙ ap tops.of_mark e
  placed_so (of_resource r) m i is e marked = is ∙ ap tops.of_mark e

  before_so : (mark m : Mark) (i j : ℕ) → ComesBefore mark i j → mark ≡ m → m ≢ plain → i < j
  before_so plain m i j h e marked = absurd (marked (sym e))
  before_so (of_monitor n) m i j h e marked = h
  before_so (of_resource r) m i j h e marked = h

  -- none of these has entered what stands before the innermost of them
  none_entered :
      (m : Mark) → m ≢ plain → (l : List Activation) → AreOrdered tops l → (low : ℕ) → ((b : Activation) (rest : List Activation) → l ≡ b ∷ rest → low ≤ top b)
      → tops.of_mark m < low → All (λ (b : Activation). b.mark ≢ m) l
  none_entered m marked [] ordered low from less = All-nil (λ (b : Activation). b.mark ≢ m)
  none_entered m marked (b ∷ []) ordered low from less =
      All-cons (λ (x : Activation). x.mark ≢ m) b []
      (λ e. (let at = placed_so b.mark m (top b) ordered e marked in let over = from b [] refl in omega (arith, at, over, less)))
      (All-nil (λ (x : Activation). x.mark ≢ m))
  none_entered m marked (b ∷ (d ∷ rest)) ordered low from less =
      All-cons (λ (x : Activation). x.mark ≢ m) b (d ∷ rest)
      (λ e. (let at = placed_so b.mark m (top b) ordered.0 e marked in let over = from b (d ∷ rest) refl in omega (arith, at, over, less)))
      (none_entered m marked (d ∷ rest) ordered.2 (top b) (λ x r e. first_later x r e) (let over = from b (d ∷ rest) refl in omega (arith, over, less)))
    where
      first_of : List Activation → Activation
      first_of [] = b
      first_of (x ∷ r) = x

      first_later : (x : Activation) (r : List Activation) → d ∷ rest ≡ x ∷ r → top b ≤ top x
      first_later x r e =
          let same : d ≡ x = ap first_of e in
          subst (λ (y : Activation). top b ≤ top y) same (no_later b.mark (top b) (top d) ordered.1)

  pub entered_once : (m : Mark) → m ≢ plain → (a : Activation) (below : List Activation) → AreOrdered tops (a ∷ below) → a.mark ≡ m
      → All (λ (b : Activation). b.mark ≢ m) below
  entered_once m marked a [] ordered e = All-nil (λ (b : Activation). b.mark ≢ m)
  entered_once m marked a (b ∷ rest) ordered e =
      let at = placed_so a.mark m (top a) ordered.0 e marked in
      let less = before_so a.mark m (top a) (top b) ordered.1 e marked in
      none_entered m marked (b ∷ rest) ordered.2 (top b) (λ x r f. same_first x r f) (omega (arith, at, less))
    where
      first_of : List Activation → Activation
      first_of [] = b
      first_of (x ∷ r) = x

      same_first : (x : Activation) (r : List Activation) → b ∷ rest ≡ x ∷ r → top b ≤ top x
      same_first x r f = let same : b ≡ x = ap first_of f in subst (λ (y : Activation). top b ≤ top y) same (omega arith)

  some_below : (a : Activation) (below : List Activation) → IsRooted (a ∷ below) → below ≡ [] → IsRooted (a ∷ [])
  some_below a below rooted e = subst (λ (l : List Activation). IsRooted (a ∷ l)) e rooted

  module _ (g : Program) (c : Config) (p : ℕ) (ordered : AreOrdered tops (activity_of g c p).activations) where
    resource_marked : (r : ℕ) → of_resource r ≢ plain
    resource_marked r = λ (e : of_resource r ≡ plain). cc

    monitor_marked : (n : ℕ) → of_monitor n ≢ plain
    monitor_marked n = λ (e : of_monitor n ≡ plain). cc

    pub returns_once : IsRooted (activity_of g c p).activations → ReturnsOnce g c p
    returns_once rooted line a below env k r next is caller marked = (
      λ none. some_below a below (subst (λ (l : List Activation). IsRooted l) is rooted) none env k caller,
      entered_once (of_resource r) (resource_marked r) a below (subst (λ (l : List Activation). AreOrdered tops l) is ordered) marked,
    )

    pub outside_at_ends : IsOutsideAtEnds g c p
    outside_at_ends line n a next innermost marked = by (activity_of g c p).activations ordered innermost
      where
        by : (l : List Activation) → AreOrdered tops l → slice_get l 0 ≡ Some a → AreOutside n l
        by [] so e = absurd (cc)
        by (b ∷ below) so e =
            let same : b ≡ a = cc in
            entered_once (of_monitor n) (monitor_marked n) b below so (ap (λ (x : Activation). x.mark) same ∙ marked)
