-- What a name in view stands for has its heading.
use Rattle.std.proofs.Common.{◌≡◌, ℕ, ◌<◌, ◌≤◌, zero, suc, Bool, true, false, nat_lt, ◌==◌, ◌||◌, List, [], ◌∷◌, length, get_or, bytes_eq, option_map, Option}
use Rattle.std.proofs.Common.{Some, None, cond, if◌then◌else◌, refl, ap, ◌∙◌, subst, arith}
use Rattle.std.specs.Option.{IfSome, option_or}
use Rattle.std.proofs.lemmas.Bool.Decides.{nat_tests}
use Rattle.std.proofs.lemmas.List.Elements.{All-get_or}
use Rattle.std.proofs.lemmas.Map.Entries.{All-lookup}
use Rattle.pfc_tree.specs.Symbols.{Text}
use Rattle.pfc_types.specs.declared.types.TypeId.{TypeId}
use Rattle.pfc_types.specs.declared.types.TypeForm.{TypeForm}
use Rattle.pfc_types.specs.declared.types.TypeForm.TheVariants.{Channel, Array, Record, Process as ProcessForm}
use Rattle.pfc_types.specs.declared.scope.Meaning.{Meaning}
use Rattle.pfc_types.specs.declared.scope.Meaning.TheVariants.{Constant, Named, Module, Process, Entry, Predeclared}
use Rattle.pfc_types.specs.declared.view.Found.{Found}
use Rattle.pfc_types.specs.Types.{form_of, process_form}
use Rattle.pfc_types.specs.Scopes.{Names, Level, scope_at, meaning_in, position_in, within, found_at, found_in, predeclared, predeclared_names}
use Rattle.pfc_types.specs.Blocks.{State, Blocks, process_at}
use Rattle.pfc_semantics.specs.Statements.{name_in_process}
use Rattle.pfc_image_laws.specs.Levels.{sees}
use Rattle.pfc_name_laws.specs.Reached.{IsNumbered, IsOfProcess, HasEntry}
use Rattle.pfc_name_laws.specs.Numbers.{AreNumbered}

-- a predeclared name stands for a type, a constant or a routine
abbrev IsPredeclared : Meaning → Type 0
IsPredeclared (Constant t v) = Unit {0}
IsPredeclared (Named t) = Unit {0}
IsPredeclared (Predeclared k) = Unit {0}
IsPredeclared m = ⊥

-- a name that was found: in the scope that holds it, or predeclared
abbrev pub Stands : Blocks → Option ℕ → Meaning → Type 0
Stands b None m = IsPredeclared m
Stands b (Some i) m = IsNumbered b i m

Each : Names → Type 0
Each [] = Unit {0}
Each (x ∷ names) = IsPredeclared x.1 × Each names

each_found : (names : Names) (x : Text) → Each names → IfSome (meaning_in names x) IsPredeclared
unfolding Each
each_found [] x h = tt
each_found (y ∷ names) x h = by (bytes_eq x y.0) (each_found names x h.1)
  where
    by : (r : Bool) → IfSome (meaning_in names x) IsPredeclared → IfSome (cond r (Some y.1) (meaning_in names x)) IsPredeclared
    by true k = h.0
    by false k = k

predeclared_stand : (b : Blocks) (x : Text) → IfSome (predeclared x) (λ f. Stands b f.scope f.meaning)
unfolding Each
predeclared_stand b x = by (meaning_in predeclared_names x) (each_found predeclared_names x (
  tt,
  (
    tt,
    (
      tt,
      (
        tt,
        (
          tt,
          (
            tt,
            (
              tt,
              (
                tt,
                (
                  tt,
                  (
                    tt,
                    (
                      tt,
                      (
                        tt,
                        (tt, (tt, (tt, (tt, (tt, (tt, (tt, (tt, (tt, (tt, (tt, (tt, (tt, (tt, (tt, (tt, (tt, (tt, (tt, (tt, tt)))))))))))))))))))),
                      ),
                    ),
                  ),
                ),
              ),
            ),
          ),
        ),
      ),
    ),
  ),
))
  where
    by : (m : Option Meaning) → IfSome m IsPredeclared
        → IfSome (option_map (λ m. record { scope = None; place = 0; meaning = m }) m) (λ (f : Found). Stands b f.scope f.meaning)
    by None h = tt
    by (Some m) h = h

within_stand :
    (b : Blocks) (l : Level) (k : Option ℕ) (m : Option Meaning) → IfSome m (IsNumbered b l.scope)
    → IfSome (within l k m) (λ f. Stands b f.scope f.meaning)
within_stand b l None None h = tt
within_stand b l None (Some m) h = tt
within_stand b l (Some k) None h = tt
within_stand b l (Some k) (Some m) h = by (nat_lt k l.count)
  where
    by : (r : Bool) → IfSome (if r then Some (record { scope = Some l.scope; place = k; meaning = m }) else None) (λ (f : Found). Stands b f.scope f.meaning)
    by true = h
    by false = tt

or_stand : (b : Blocks) (o q : Option Found) → IfSome o (λ f. Stands b f.scope f.meaning) → IfSome q (λ f. Stands b f.scope f.meaning)
    → IfSome (option_or o q) (λ f. Stands b f.scope f.meaning)
or_stand b None q h k = k
or_stand b (Some f) q h k = h

pub named_there : (s : State) → AreNumbered s → (i : ℕ) (x : Text) → IfSome (meaning_in (scope_at s.blocks.scopes i) x) (IsNumbered s.blocks i)
named_there s h i x = All-lookup (IsNumbered s.blocks i) (bytes_eq x) (scope_at s.blocks.scopes i) (h.names i)

found_stand : (s : State) → AreNumbered s → (v : List Level) (x : Text) → IfSome (found_in s.blocks.scopes v x) (λ f. Stands s.blocks f.scope f.meaning)
found_stand s h [] x = predeclared_stand s.blocks x
found_stand s h (l ∷ v) x =
    let names = scope_at s.blocks.scopes l.scope in
    or_stand s.blocks (found_at s.blocks.scopes l x) (found_in s.blocks.scopes v x)
    (within_stand s.blocks l (position_in names x) (meaning_in names x) (named_there s h l.scope x)) (found_stand s h v x)

pub stands : (s : State) → AreNumbered s → (v : List Level) (x : Text) (f : Found) → found_in s.blocks.scopes v x ≡ Some f → Stands s.blocks f.scope f.meaning
stands s h v x f e = subst (λ (o : Option Found). IfSome o (λ f. Stands s.blocks f.scope f.meaning)) e (found_stand s h v x)

pub a_module : (b : Blocks) (o : Option ℕ) (n : ℕ) → Stands b o (Module n) → n < length b.modules
a_module b None n h = absurd h
a_module b (Some i) n h = h

pub a_process : (b : Blocks) (o : Option ℕ) (n : ℕ) → Stands b o (Process n) → n < length b.processes
a_process b None n h = absurd h
a_process b (Some i) n h = h

form_is : (b : Blocks) (form : Option TypeForm) (n : ℕ) → IfSome form (IsOfProcess b) → process_form form ≡ Some n → n < length b.processes
form_is b None n h e = absurd (cc)
form_is b (Some (Channel t)) n h e = absurd (cc)
form_is b (Some (Array x low high t)) n h e = absurd (cc)
form_is b (Some (Record fields)) n h e = absurd (cc)
form_is b (Some (ProcessForm m)) n h e = subst (λ k. k < length b.processes) (some_is m n e) h
  where
    number_in : Option ℕ → ℕ → ℕ
    number_in None d = d
    number_in (Some k) d = k

    some_is : (m n : ℕ) → Some m ≡ Some n → m ≡ n
    some_is m n e = ap (λ (o : Option ℕ). number_in o m) e

pub a_process_type : (s : State) → AreNumbered s → (t : TypeId) (n : ℕ) → process_form (form_of s.forms t) ≡ Some n → n < length s.blocks.processes
a_process_type s h t n e = by (nat_lt t.place (length s.forms)) refl
  where
    beyond : {X : Type 0} (xs : List X) (k : ℕ) (d : X) → length xs ≤ k → get_or xs k d ≡ d
    beyond [] k d h = refl
    beyond (x ∷ xs) zero d h = absurd (omega (arith, h))
    beyond (x ∷ xs) (suc k) d h = beyond xs k d (omega (arith, h))

    by : (r : Bool) → nat_lt t.place (length s.forms) ≡ r → n < length s.blocks.processes
    by true q =
        form_is s.blocks (form_of s.forms t) n
        (All-get_or (λ form. IfSome form (IsOfProcess s.blocks)) s.forms t.place None (grind (arith, nat_tests)) h.types) e
    by false q =
        let none : form_of s.forms t ≡ None = beyond s.forms t.place None (grind (arith, nat_tests)) in
        form_is s.blocks None n tt (subst (λ (form : Option TypeForm). process_form form ≡ Some n) none e)

-- an entry that is named in a process
pub an_entry :
    (s : State) → AreNumbered s → (n e : ℕ) (x : Text) → name_in_process s.blocks n x ≡ Some (Entry e)
    → HasEntry s.blocks (process_at s.blocks n).scope e
an_entry s h n e x is =
    subst (λ (o : Option Meaning). IfSome o (IsNumbered s.blocks (process_at s.blocks n).scope)) is (named_there s h (process_at s.blocks n).scope x)

-- the scope of a name that was found is in view
pub found_sees : (scopes : List Names) (v : List Level) (x : Text) (f : Found) (i : ℕ) → found_in scopes v x ≡ Some f → f.scope ≡ Some i → sees v i ≡ true
found_sees scopes [] x f i e at = by (meaning_in predeclared_names x) e
  where
    scope_in : Option Found → Option ℕ
    scope_in None = None
    scope_in (Some g) = g.scope

    by : (m : Option Meaning) → option_map (λ m. record { scope = None; place = 0; meaning = m }) m ≡ Some f → false ≡ true
    by None q = cc
    by (Some m) q = let none : None ≡ f.scope = ap (λ (o : Option Found). scope_in o) q in let both = none ∙ at in cc
found_sees scopes (l ∷ v) x f i e at =
    by (position_in (scope_at scopes l.scope) x) (meaning_in (scope_at scopes l.scope) x) e (λ q. found_sees scopes v x f i q at)
  where
    scope_in : Option Found → Option ℕ
    scope_in None = None
    scope_in (Some g) = g.scope

    number_in : Option ℕ → ℕ
    number_in None = 0
    number_in (Some n) = n

    later : sees v i ≡ true → (l.scope == i || sees v i) ≡ true
    later h = or (l.scope == i) (sees v i) h
      where
        or : (a b : Bool) → b ≡ true → (a || b) ≡ true
        or true b h = refl
        or false b h = h

    first : (a b : Bool) → a ≡ true → (a || b) ≡ true
    first true b h = refl
    first false b h = absurd (cc)

    here_is : (k : ℕ) (m : Meaning) → Some (record { scope = Some l.scope; place = k; meaning = m }) ≡ Some f → (l.scope == i || sees v i) ≡ true
    here_is k m q =
        let same : Some l.scope ≡ f.scope = ap (λ (o : Option Found). scope_in o) q in
        let number : l.scope ≡ i = ap (λ (o : Option ℕ). number_in o) (same ∙ at) in
        first (l.scope == i) (sees v i) (grind (arith, nat_tests))

    by : (k : Option ℕ) (m : Option Meaning) → option_or (within l k m) (found_in scopes v x) ≡ Some f
        → (found_in scopes v x ≡ Some f → sees v i ≡ true) → (l.scope == i || sees v i) ≡ true
    by None None q rest = later (rest q)
    by None (Some m) q rest = later (rest q)
    by (Some k) None q rest = later (rest q)
    by (Some k) (Some m) q rest = both (nat_lt k l.count) q
      where
        both : (r : Bool) → option_or (if r then Some (record { scope = Some l.scope; place = k; meaning = m }) else None) (found_in scopes v x) ≡ Some f
            → (l.scope == i || sees v i) ≡ true
        both true q = here_is k m q
        both false q = later (rest q)
