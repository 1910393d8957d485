-- What the names of a program stand for, and its headings, as far as declarations have come.
use Rattle.std.proofs.Common.{◌≡◌, ◌≢◌, ℕ, zero, suc, ◌<◌, ◌≤◌, ◌==◌, ◌||◌, ◌⊎◌, inl, inr, Bool, true, false, if◌then◌else◌, nat_lt, is_some, List, [], ◌∷◌}
use Rattle.std.proofs.Common.{◌++◌, length, length-append, length-set, drop, get_or, get_or-set_same, get_or-set_other, set, refl, sym, ap, ◌∙◌, subst, arith}
use Rattle.std.specs.List.{All}
use Rattle.std.proofs.Math.ListN.{get_or-append}
use Rattle.std.proofs.Math.Seq.{get_or-append_seam}
use Rattle.std.proofs.lemmas.Bool.Decides.{nat_tests}
use Rattle.std.proofs.lemmas.List.Elements.{All-nil, All-cons, All-append, All-weaker}
use Rattle.pfc_base.specs.declared.places.Place.{Place}
use Rattle.pfc_tree.specs.Symbols.{Text}
use Rattle.pfc_types.specs.Faults.{Faults, none, one, ◌⨾◌, unless}
use Rattle.pfc_types.specs.Types.{Forms, held_of, is_object}
use Rattle.pfc_types.specs.Growing.{Begins}
use Rattle.pfc_types.specs.Scopes.{Names, Level, scope_at, meaning_in}
use Rattle.pfc_types.specs.Blocks.{State, no_sub, no_process, sub_at, process_at, note, declare, add_name, export_sub, open_scope}
use Rattle.pfc_types.specs.declared.table.Held.{Held}
use Rattle.pfc_types.specs.declared.heads.SubHead.{SubHead}
use Rattle.pfc_types.specs.declared.heads.ProcessHead.{ProcessHead}
use Rattle.pfc_types.specs.declared.scope.Meaning.{Meaning}
use Rattle.pfc_types.specs.declared.scope.Meaning.TheVariants.{Constant, Named, Variable, Sub, Module, Process, Entry, Predeclared, Faulty}
use Rattle.pfc_types.proofs.Walking.{Kept}
use Rattle.pfc_semantics.specs.Programs.{Block}
use Rattle.pfc_type_laws.proofs.WalkTypes.{scope_pushed}
use Rattle.pfc_main_names.proofs.Placed.{IsPlaced as HasItsPlace, IsAround}
use Rattle.pfc_main_names.proofs.Owned.{held_begins}
use Rattle.pfc_main_names.proofs.Walk.{begins_length}
use Rattle.pfc_callee_laws.specs.Callees.{is_guarded_sort}
use Rattle.pfc_callee_laws.proofs.Heads.{Keeps}

-- a name that is declared in a block, and is none of its parameters
abbrev pub IsOwn : Meaning → Type 0
IsOwn (Variable t reference) = reference ≡ false
IsOwn m = Unit {0}

equal_of : (k n : ℕ) → (k == n) ≡ true → k ≡ n
equal_of k n h = grind (arith, nat_tests)

other_of : (k n : ℕ) → (k == n) ≡ false → k ≢ n
other_of k n h e = let same : (n == n) ≡ false = subst (λ (m : ℕ). (m == n) ≡ false) e h in absurd (grind (arith, nat_tests))

-- ## Lists

none_own : (n : ℕ) → All (λ (x : Text × Meaning). IsOwn x.1) (drop n [])
none_own zero = All-nil (λ (x : Text × Meaning). IsOwn x.1)
none_own (suc n) = All-nil (λ (x : Text × Meaning). IsOwn x.1)

one_own : (n : ℕ) (names : Names) (x : Text) (m : Meaning) → IsOwn m → All (λ y. IsOwn y.1) (drop n names)
    → All (λ y. IsOwn y.1) (drop n (names ++ (x, m) ∷ []))
one_own zero names x m own h =
    All-append (λ y. IsOwn y.1) names ((x, m) ∷ []) h (All-cons (λ (y : Text × Meaning). IsOwn y.1) (x, m) [] own (All-nil (λ (y : Text × Meaning). IsOwn y.1)))
one_own (suc n) [] x m own h = none_own n
one_own (suc n) (y ∷ names) x m own h = one_own n names x m own h

-- what is true of each scope, and of the one with a name more, is true of each then
set_true : (P : ℕ → Names → Type 0) (scopes : List Names) (i j : ℕ) (names : Names) → i < length scopes → P j (scope_at scopes j) → P i names
    → P j (scope_at (set scopes i names) j)
set_true P scopes i j names below h k = by (j == i) refl
  where
    by : (r : Bool) → (j == i) ≡ r → P j (scope_at (set scopes i names) j)
    by true e =
        let is = equal_of j i e in
        subst (λ (n : ℕ). P n (scope_at (set scopes i names) n)) (sym is)
        (subst (λ (l : Names). P i l) (sym (get_or-set_same scopes i names [] below)) k)
    by false e = subst (λ (l : Names). P j l) (sym (get_or-set_other scopes i j names [] (other_of j i e))) h

-- a heading that is the same but for whether it is exported
exported_true : (Q : SubHead → Type 0) (subs : List SubHead) (n k : ℕ) → k < length subs → Q (get_or subs k no_sub)
    → (Q (get_or subs n no_sub) → Q (record (get_or subs n no_sub) { exported = true }))
    → Q (get_or (set subs n (record (get_or subs n no_sub) { exported = true })) k no_sub)
exported_true Q subs n k below h f = by (k == n) refl
  where
    head : SubHead
    head = record (get_or subs n no_sub) { exported = true }

    by : (r : Bool) → (k == n) ≡ r → Q (get_or (set subs n head) k no_sub)
    by true e =
        let is = equal_of k n e in
        let inside : n < length subs = subst (λ (j : ℕ). j < length subs) is below in
        subst (λ (j : ℕ). Q (get_or (set subs n head) j no_sub)) (sym is)
        (subst Q (sym (get_or-set_same subs n head no_sub inside)) (f (subst (λ (j : ℕ). Q (get_or subs j no_sub)) is h)))
    by false e = subst Q (sym (get_or-set_other subs n k head no_sub (other_of k n e))) h

-- what is true of each heading and of one more
pushed_true : {X : Type 0} (Q : X → Type 0) (xs : List X) (x d : X) (n : ℕ) → n < length (xs ++ x ∷ []) → ((k : ℕ) → k < length xs → Q (get_or xs k d)) → Q x
    → Q (get_or (xs ++ x ∷ []) n d)
pushed_true Q xs x d n below h k = by (nat_lt n (length xs)) refl
  where
    by : (r : Bool) → nat_lt n (length xs) ≡ r → Q (get_or (xs ++ x ∷ []) n d)
    by true e =
        let inside : n < length xs = grind (arith, nat_tests) in
        subst Q (sym (get_or-append xs (x ∷ []) d n inside)) (h n inside)
    by false e =
        let past : length xs ≤ n = grind (arith, nat_tests) in
        let size = length-append xs (x ∷ []) in
        let last : length xs ≡ n = omega (arith, past, size, below) in
        subst (λ (j : ℕ). Q (get_or (xs ++ x ∷ []) j d)) last (subst Q (sym (get_or-append_seam xs x [] d)) k)

-- ## Names and headings

-- The scopes of main are told, and the block of each scope.
module _ (mains : ℕ → Bool) (block : ℕ → Block) where
  -- Outside main's scopes a variable holds no condition, and no object unless it is a reference, and there is no process. The block of a sub stands in the
  -- scope in which it is declared.
  abbrev pub IsFine : Forms → List SubHead → ℕ → Meaning → Type 0
  IsFine forms subs i (Variable t reference) =
      (t.place < length forms) × (mains i ≡ false → reference ≡ false → is_object forms t ≡ false)
      × (mains i ≡ false → (held_of forms t).conditions ≡ false)
  IsFine forms subs i (Named t) = t.place < length forms
  IsFine forms subs i (Process n) = mains i ≡ true
  IsFine forms subs i (Sub n) = (n < length subs) × ((block (get_or subs n no_sub).scope).outer ≡ i)
  IsFine forms subs i m = Unit {0}

  abbrev pub AreOwn : List Names → ℕ → ℕ → Type 0
  AreOwn scopes n i = All (λ x. IsOwn x.1) (drop n (scope_at scopes i))

  -- only the parameters are references, and a guarded procedure has a guard
  pub record IsFineSub (scopes : List Names) (head : SubHead) : Type 0 where
    pub below : head.scope < length scopes
    pub own : AreOwn scopes (length head.formals) head.scope
    pub guard : is_some (block head.scope).guard ≡ is_guarded_sort head.sort

  -- a process is declared in the program, and has no guard
  pub record IsFineProcess (scopes : List Names) (head : ProcessHead) : Type 0 where
    pub below : head.scope < length scopes
    pub own : AreOwn scopes (length head.formals) head.scope
    pub outer : (block head.scope).outer ≡ 0
    pub guard : is_some (block head.scope).guard ≡ false

  pub record AreFine (forms : Forms) (scopes : List Names) (subs : List SubHead) (processes : List ProcessHead) : Type 0 where
    pub six : 6 ≤ length forms
    pub names : (i : ℕ) → All (λ x. IsFine forms subs i x.1) (scope_at scopes i)
    pub subs_fine : (n : ℕ) → n < length subs → IsFineSub scopes (get_or subs n no_sub)
    pub processes_fine : (n : ℕ) → n < length processes → IsFineProcess scopes (get_or processes n no_process)

  abbrev pub Fine : State → Type 0
  Fine s = AreFine s.forms s.blocks.scopes s.blocks.subs s.blocks.processes

  -- the scopes of all headings are below this one
  pub record AreBelow (i : ℕ) (s : State) : Type 0 where
    pub subs : (n : ℕ) → n < length s.blocks.subs → (sub_at s.blocks n).scope < i
    pub processes : (n : ℕ) → n < length s.blocks.processes → (process_at s.blocks n).scope < i

  pub all_below : (s : State) → Fine s → AreBelow (length s.blocks.scopes) s
  all_below s h = record { subs = λ n b. (h.subs_fine n b).below; processes = λ n b. (h.processes_fine n b).below }

  -- ## Steps

  object_grown : (forms later : Forms) (subs : List SubHead) (i : ℕ) (m : Meaning) → Begins forms later → IsFine forms subs i m → IsFine later subs i m
  object_grown forms later subs i (Variable t r) b h = (
    let more = begins_length forms later b in let low = h.0 in omega (arith, low, more),
    λ apart value. ap (λ (x : Held). (x.shared || x.conditions) || nat_lt 0 x.processes) (held_begins forms later t b h.0) ∙ h.1 apart value,
    λ apart. ap (λ (x : Held). x.conditions) (held_begins forms later t b h.0) ∙ h.2 apart,
  )
  object_grown forms later subs i (Named t) b h = (let more = begins_length forms later b in omega (arith, h, more))
  object_grown forms later subs i (Constant t n) b h = tt
  object_grown forms later subs i (Sub n) b h = h
  object_grown forms later subs i (Module n) b h = tt
  object_grown forms later subs i (Process n) b h = h
  object_grown forms later subs i (Entry n) b h = tt
  object_grown forms later subs i (Predeclared n) b h = tt
  object_grown forms later subs i Faulty b h = tt

  pub forms_fine : (forms later : Forms) (scopes : List Names) (subs : List SubHead) (processes : List ProcessHead) → Begins forms later
      → AreFine forms scopes subs processes → AreFine later scopes subs processes
  forms_fine forms later scopes subs processes b h =
      record {
        six = (let more = begins_length forms later b in let low = h.six in omega (arith, low, more));
        names = λ i. All-weaker (λ x. IsFine forms subs i x.1) (λ x. IsFine later subs i x.1) (λ x e. object_grown forms later subs i x.1 b e)
            (scope_at scopes i) (h.names i);
        subs_fine = h.subs_fine;
        processes_fine = h.processes_fine;
      }

  -- types are added, and nothing else
  pub moved : {s t : State} → Kept s t → Keeps s t → Fine s → Fine t
  moved {s} {t} k q h =
      subst (λ (l : List ProcessHead). AreFine t.forms t.blocks.scopes t.blocks.subs l) (sym q.processes)
      (subst (λ (l : List SubHead). AreFine t.forms t.blocks.scopes l s.blocks.processes) (sym q.subs)
      (subst (λ (l : List Names). AreFine t.forms l s.blocks.subs s.blocks.processes) (sym k.scopes)
      (forms_fine s.forms t.forms s.blocks.scopes s.blocks.subs s.blocks.processes k.forms h)))

  pub note_fine : (s : State) (fs : Faults) → Fine s → Fine (note s fs)
  note_fine s none h = h
  note_fine s (one f) h = h
  note_fine s (fs ⨾ gs) h = note_fine (note s fs) gs (note_fine s fs h)

  open_sub : (scopes : List Names) (head : SubHead) → IsFineSub scopes head → IsFineSub (scopes ++ [] ∷ []) head
  open_sub scopes head h =
      record {
        below = (let more = length-append scopes ([] ∷ []) in let low = h.below in omega (arith, low, more));
        own = scope_pushed scopes head.scope (λ (names : Names). All (λ x. IsOwn x.1) (drop (length head.formals) names)) h.own
            (none_own (length head.formals));
        guard = h.guard;
      }

  open_process : (scopes : List Names) (head : ProcessHead) → IsFineProcess scopes head → IsFineProcess (scopes ++ [] ∷ []) head
  open_process scopes head h =
      record {
        below = (let more = length-append scopes ([] ∷ []) in let low = h.below in omega (arith, low, more));
        own = scope_pushed scopes head.scope (λ (names : Names). All (λ x. IsOwn x.1) (drop (length head.formals) names)) h.own
            (none_own (length head.formals));
        outer = h.outer;
        guard = h.guard;
      }

  pub open_fine : (s : State) → Fine s → Fine (open_scope s)
  open_fine s h =
      record {
        six = h.six;
        names = λ i. scope_pushed s.blocks.scopes i (λ (names : Names). All (λ x. IsFine s.forms s.blocks.subs i x.1) names) (h.names i)
            (All-nil (λ (x : Text × Meaning). IsFine s.forms s.blocks.subs i x.1));
        subs_fine = λ n b. open_sub s.blocks.scopes (sub_at s.blocks n) (h.subs_fine n b);
        processes_fine = λ n b. open_process s.blocks.scopes (process_at s.blocks n) (h.processes_fine n b);
      }

  -- ## A name more

  -- it is no parameter, or stands in a scope that is none of a heading so far
  abbrev MayStand : State → ℕ → Meaning → Type 0
  MayStand s i m = IsOwn m ⊎ AreBelow i s

  own_then : (scopes : List Names) (i n scope : ℕ) (x : Text) (m : Meaning) → i < length scopes → IsOwn m ⊎ (scope < i) → AreOwn scopes n scope
      → AreOwn (set scopes i (scope_at scopes i ++ (x, m) ∷ [])) n scope
  own_then scopes i n scope x m below (inr low) h =
      subst (λ (l : Names). All (λ y. IsOwn y.1) (drop n l))
      (sym (get_or-set_other scopes i scope (scope_at scopes i ++ (x, m) ∷ []) [] (λ e. omega (arith, e, low)))) h
  own_then scopes i n scope x m below (inl own) h = by (scope == i) refl
    where
      more : Names
      more = scope_at scopes i ++ (x, m) ∷ []

      by : (r : Bool) → (scope == i) ≡ r → AreOwn (set scopes i more) n scope
      by true e =
          let is = equal_of scope i e in
          subst (λ (j : ℕ). AreOwn (set scopes i more) n j) (sym is)
          (subst (λ (l : Names). All (λ y. IsOwn y.1) (drop n l)) (sym (get_or-set_same scopes i more [] below))
          (one_own n (scope_at scopes i) x m own (subst (λ (j : ℕ). AreOwn scopes n j) is h)))
      by false e = subst (λ (l : Names). All (λ y. IsOwn y.1) (drop n l)) (sym (get_or-set_other scopes i scope more [] (other_of scope i e))) h

  name_fine : (s : State) (i : ℕ) (x : Text) (m : Meaning) → i < length s.blocks.scopes → IsFine s.forms s.blocks.subs i m → MayStand s i m → Fine s
      → Fine (add_name s i x m)
  name_fine s i x m below is may h =
      record {
        six = h.six;
        names = λ j. set_true (λ k names. All (λ y. IsFine s.forms s.blocks.subs k y.1) names) s.blocks.scopes i j more below (h.names j)
            (All-append (λ y. IsFine s.forms s.blocks.subs i y.1) (scope_at s.blocks.scopes i) ((x, m) ∷ []) (h.names i)
            (All-cons (λ (y : Text × Meaning). IsFine s.forms s.blocks.subs i y.1) (x, m) [] is
            (All-nil (λ (y : Text × Meaning). IsFine s.forms s.blocks.subs i y.1))));
        subs_fine = λ n b. of_sub (sub_at s.blocks n) (under_sub may n b) (h.subs_fine n b);
        processes_fine = λ n b. of_process (process_at s.blocks n) (under_process may n b) (h.processes_fine n b);
      }
    where
      more : Names
      more = scope_at s.blocks.scopes i ++ (x, m) ∷ []

      size : length (set s.blocks.scopes i more) ≡ length s.blocks.scopes
      size = length-set s.blocks.scopes i more

      under_sub : MayStand s i m → (n : ℕ) → n < length s.blocks.subs → IsOwn m ⊎ ((sub_at s.blocks n).scope < i)
      under_sub (inl own) n b = inl own
      under_sub (inr low) n b = inr (low.subs n b)

      under_process : MayStand s i m → (n : ℕ) → n < length s.blocks.processes → IsOwn m ⊎ ((process_at s.blocks n).scope < i)
      under_process (inl own) n b = inl own
      under_process (inr low) n b = inr (low.processes n b)

      of_sub : (head : SubHead) → IsOwn m ⊎ (head.scope < i) → IsFineSub s.blocks.scopes head → IsFineSub (set s.blocks.scopes i more) head
      of_sub head u f =
          record {
            below = (let low = f.below in omega (arith, low, size));
            own = own_then s.blocks.scopes i (length head.formals) head.scope x m below u f.own;
            guard = f.guard;
          }

      of_process : (head : ProcessHead) → IsOwn m ⊎ (head.scope < i) → IsFineProcess s.blocks.scopes head
          → IsFineProcess (set s.blocks.scopes i more) head
      of_process head u f =
          record {
            below = (let low = f.below in omega (arith, low, size));
            own = own_then s.blocks.scopes i (length head.formals) head.scope x m below u f.own;
            outer = f.outer;
            guard = f.guard;
          }

  pub declare_fine : (s : State) (i : ℕ) (x : Text × Place) (m : Meaning) → i < length s.blocks.scopes → IsFine s.forms s.blocks.subs i m → MayStand s i m
      → Fine s → Fine (declare s i x m)
  declare_fine s i x m below is may h = by (is_some (meaning_in (scope_at s.blocks.scopes i) x.0))
    where
      by : (r : Bool) → Fine (if r then note s (unless false x.1 302) else add_name s i x.0 m)
      by true = h
      by false = name_fine s i x.0 m below is may h

  -- ## A heading more

  sub_more : (forms : Forms) (subs : List SubHead) (head : SubHead) (i : ℕ) (m : Meaning) → IsFine forms subs i m → IsFine forms (subs ++ head ∷ []) i m
  sub_more forms subs head i (Sub n) h = (
    let more = length-append subs (head ∷ []) in let low = h.0 in omega (arith, low, more),
    subst (λ (x : SubHead). (block x.scope).outer ≡ i) (sym (get_or-append subs (head ∷ []) no_sub n h.0)) h.1,
  )
  sub_more forms subs head i (Variable t r) h = h
  sub_more forms subs head i (Named t) h = h
  sub_more forms subs head i (Constant t n) h = tt
  sub_more forms subs head i (Module n) h = tt
  sub_more forms subs head i (Process n) h = h
  sub_more forms subs head i (Entry n) h = tt
  sub_more forms subs head i (Predeclared n) h = tt
  sub_more forms subs head i Faulty h = tt

  pub sub_fine : (forms : Forms) (scopes : List Names) (subs : List SubHead) (processes : List ProcessHead) (head : SubHead) → IsFineSub scopes head
      → AreFine forms scopes subs processes → AreFine forms scopes (subs ++ head ∷ []) processes
  sub_fine forms scopes subs processes head is h =
      record {
        six = h.six;
        names = λ i. All-weaker (λ x. IsFine forms subs i x.1) (λ x. IsFine forms (subs ++ head ∷ []) i x.1) (λ x e. sub_more forms subs head i x.1 e)
            (scope_at scopes i) (h.names i);
        subs_fine = λ n b. pushed_true (λ (x : SubHead). IsFineSub scopes x) subs head no_sub n b h.subs_fine is;
        processes_fine = h.processes_fine;
      }

  pub process_fine : (forms : Forms) (scopes : List Names) (subs : List SubHead) (processes : List ProcessHead) (head : ProcessHead) → IsFineProcess scopes head
      → AreFine forms scopes subs processes → AreFine forms scopes subs (processes ++ head ∷ [])
  process_fine forms scopes subs processes head is h =
      record {
        six = h.six;
        names = h.names;
        subs_fine = h.subs_fine;
        processes_fine = λ n b. pushed_true (λ (x : ProcessHead). IsFineProcess scopes x) processes head no_process n b h.processes_fine is;
      }

  export_more : (forms : Forms) (subs : List SubHead) (n i : ℕ) (m : Meaning) → IsFine forms subs i m
      → IsFine forms (set subs n (record (get_or subs n no_sub) { exported = true })) i m
  export_more forms subs n i (Sub k) h = (
    let size = length-set subs n (record (get_or subs n no_sub) { exported = true }) in let low = h.0 in omega (arith, low, size),
    exported_true (λ (x : SubHead). (block x.scope).outer ≡ i) subs n k h.0 h.1 (λ e. e),
  )
  export_more forms subs n i (Variable t r) h = h
  export_more forms subs n i (Named t) h = h
  export_more forms subs n i (Constant t v) h = tt
  export_more forms subs n i (Module v) h = tt
  export_more forms subs n i (Process v) h = h
  export_more forms subs n i (Entry v) h = tt
  export_more forms subs n i (Predeclared v) h = tt
  export_more forms subs n i Faulty h = tt

  pub export_fine : (s : State) (n : ℕ) → Fine s → Fine (export_sub s n)
  export_fine s n h =
      record {
        six = h.six;
        names = λ i. All-weaker (λ x. IsFine s.forms s.blocks.subs i x.1) (λ x. IsFine s.forms (set s.blocks.subs n head) i x.1)
            (λ x e. export_more s.forms s.blocks.subs n i x.1 e) (scope_at s.blocks.scopes i) (h.names i);
        subs_fine = λ k b. (let size = length-set s.blocks.subs n head in
            let inside : k < length s.blocks.subs = omega (arith, size, b) in
            exported_true (λ (x : SubHead). IsFineSub s.blocks.scopes x) s.blocks.subs n k inside (h.subs_fine k inside) (λ f. marked f));
        processes_fine = h.processes_fine;
      }
    where
      head : SubHead
      head = record (sub_at s.blocks n) { exported = true }

      marked : IsFineSub s.blocks.scopes (sub_at s.blocks n) → IsFineSub s.blocks.scopes head
      marked f = record { below = f.below; own = f.own; guard = f.guard }

  -- ## What is in view

  is_placed : (forms : Forms) (subs : List SubHead) (i : ℕ) (m : Meaning) → IsFine forms subs i m → HasItsPlace forms m
  is_placed forms subs i (Named t) h = h
  is_placed forms subs i (Variable t r) h = tt
  is_placed forms subs i (Constant t n) h = tt
  is_placed forms subs i (Sub n) h = tt
  is_placed forms subs i (Module n) h = tt
  is_placed forms subs i (Process n) h = tt
  is_placed forms subs i (Entry n) h = tt
  is_placed forms subs i (Predeclared n) h = tt
  is_placed forms subs i Faulty h = tt

  pub around : (s : State) → Fine s → (view : List Level) → IsAround s view
  around s h [] = tt
  around s h (l ∷ view) = (
    All-weaker (λ x. IsFine s.forms s.blocks.subs l.scope x.1) (λ x. HasItsPlace s.forms x.1)
        (λ x e. is_placed s.forms s.blocks.subs l.scope x.1 e) (scope_at s.blocks.scopes l.scope) (h.names l.scope),
    around s h view,
  )
