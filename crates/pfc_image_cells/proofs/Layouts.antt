-- A variable has a place in the layout of its block.
use Rattle.std.proofs.Common.{◌≡◌, ℕ, ◌+◌, ◌-◌, ◌<◌, ◌≤◌, zero, suc, nat_lt, not, ◌||◌, Bool, true, false, List, [], ◌∷◌, ◌++◌, length, length-append, take}
use Rattle.std.proofs.Common.{drop, get_or, slice_get, option_map, bytes_eq, cond, if◌then◌else◌, Option, Some, None, refl, ap, sym, ◌∙◌, subst, arith}
use Rattle.std.specs.List.{position_or_len}
use Rattle.std.specs.Map.{keys_of}
use Rattle.std.specs.Option.{option_or}
use Rattle.std.proofs.lemmas.Bool.Decides.{nat_tests}
use Rattle.std.proofs.lemmas.List.{get_or-drop}
use Rattle.std.proofs.Math.Seq.{take-append_seam, take-append-add}
use Rattle.std.proofs.lemmas.List.{take-append-drop, append_assoc}
use Rattle.std.proofs.lemmas.List.Sums.{sum_by-cons}
use Rattle.pfc_tree.specs.Symbols.{Text}
use Rattle.pfc_types.specs.Types.{Forms, cells_in}
use Rattle.pfc_types.specs.Scopes.{Names, Level, scope_at, position_in, meaning_in, within, found_in, predeclared_names}
use Rattle.pfc_types.specs.Blocks.{Blocks, module_at}
use Rattle.pfc_types.specs.rules.Declarations.{name_cells}
use Rattle.pfc_types.specs.declared.heads.SubHead.{SubHead}
use Rattle.pfc_types.specs.declared.scope.Meaning.{Meaning}
use Rattle.pfc_types.specs.declared.scope.Meaning.TheVariants.{Constant, Named, Variable, Sub, Module, Process, Entry, Predeclared, Faulty}
use Rattle.pfc_types.specs.declared.view.Found.{Found}
use Rattle.pfc_semantics.specs.Layouts.{Layout, is_laid, laid_names, laid_as, main_layout, result_laid, sub_layout, accepts_laid, process_layout, is_module}
use Rattle.pfc_semantics.specs.Layouts.{behind_result, before_module, layout_by}
use Rattle.pfc_semantics.specs.Programs.{Block, layout_cells}
use Rattle.pfc_image_cells.specs.Cells.{IsVariable, names_module}
use Rattle.pfc_types.specs.declared.types.TypeId.{TypeId}
use Rattle.pfc_types.specs.declared.heads.SubSort.{SubSort}
use Rattle.pfc_types.specs.declared.heads.SubSort.TheVariants.{Procedure, Guarded, Function}

-- ## A name and its place

-- the k-th name of a scope stands for m
pub record IsAt (names : Names) (k : ℕ) (m : Meaning) : Type 0 where
  pub before : Names
  pub name : Text × Meaning
  pub after : Names
  pub is : name.1 ≡ m
  pub splits : names ≡ before ++ name ∷ after
  pub count : length before ≡ k

at_first : (names : Names) (x : Text) (m : Meaning) → meaning_in names x ≡ Some m → IsAt names (position_or_len (bytes_eq x) (keys_of names)) m
at_first [] x m e = absurd (cc)
at_first (y ∷ names) x m e = by (bytes_eq x y.0) e (λ q. at_first names x m q)
  where
    by : (r : Bool) → cond r (Some y.1) (meaning_in names x) ≡ Some m
        → (meaning_in names x ≡ Some m → IsAt names (position_or_len (bytes_eq x) (keys_of names)) m)
        → IsAt (y ∷ names) (cond (not r) (1 + position_or_len (bytes_eq x) (keys_of names)) 0) m
    by true q rest = record { before = []; name = y; after = names; is = cc; splits = refl; count = refl }
    by false q rest =
        let r = rest q in
        let count = r.count in
        record {
          before = y ∷ r.before;
          name = r.name;
          after = r.after;
          is = r.is;
          splits = ap (λ (l : Names). y ∷ l) r.splits;
          count = omega (arith, count);
        }

some_is : {X : Type 0} (r : Bool) (n k : X) → cond r (Some n) None ≡ Some k → n ≡ k
some_is true n k e = cc
some_is false n k e = absurd (cc)

pub named_at : (names : Names) (x : Text) (k : ℕ) (m : Meaning) → position_in names x ≡ Some k → meaning_in names x ≡ Some m → IsAt names k m
named_at names x k m at e =
    let n = position_or_len (bytes_eq x) (keys_of names) in
    subst (λ j. IsAt names j m) (some_is (nat_lt n (length (keys_of names))) n k at) (at_first names x m e)

-- a name that was found in a scope
pub found_place : (scopes : List Names) (v : List Level) (x : Text) (f : Found) (i : ℕ) → found_in scopes v x ≡ Some f → f.scope ≡ Some i
    → IsAt (scope_at scopes i) f.place f.meaning
found_place scopes [] x f i e at = by (meaning_in predeclared_names x) e
  where
    scope_in : Option Found → Option ℕ
    scope_in None = None
    scope_in (Some g) = g.scope

    by : (m : Option Meaning) → option_map (λ m. record { scope = None; place = 0; meaning = m }) m ≡ Some f → IsAt (scope_at scopes i) f.place f.meaning
    by None q = absurd (cc)
    by (Some m) q = let none : None ≡ f.scope = ap (λ (o : Option Found). scope_in o) q in let both = none ∙ at in absurd (cc)
found_place scopes (l ∷ v) x f i e at =
    by (position_in (scope_at scopes l.scope) x) (meaning_in (scope_at scopes l.scope) x) refl refl e (λ q. found_place scopes v x f i q at)
  where
    found_or : Option Found → Found
    found_or None = f
    found_or (Some g) = g

    number_in : Option ℕ → ℕ
    number_in None = 0
    number_in (Some n) = n

    here_is : (k : ℕ) (m : Meaning) → position_in (scope_at scopes l.scope) x ≡ Some k → meaning_in (scope_at scopes l.scope) x ≡ Some m
        → Some (record { scope = Some l.scope; place = k; meaning = m }) ≡ Some f → IsAt (scope_at scopes i) f.place f.meaning
    here_is k m p q e =
        let same : record { scope = Some l.scope; place = k; meaning = m } ≡ f = ap (λ (o : Option Found). found_or o) e in
        let number : l.scope ≡ i = ap (λ (o : Option ℕ). number_in o) (ap (λ (g : Found). g.scope) same ∙ at) in
        subst (λ (g : Found). IsAt (scope_at scopes i) g.place g.meaning) same
        (subst (λ j. IsAt (scope_at scopes j) k m) number (named_at (scope_at scopes l.scope) x k m p q))

    by : (k : Option ℕ) (m : Option Meaning) → position_in (scope_at scopes l.scope) x ≡ k → meaning_in (scope_at scopes l.scope) x ≡ m
        → option_or (within l k m) (found_in scopes v x) ≡ Some f → (found_in scopes v x ≡ Some f → IsAt (scope_at scopes i) f.place f.meaning)
        → IsAt (scope_at scopes i) f.place f.meaning
    by None None p q e rest = rest e
    by None (Some m) p q e rest = rest e
    by (Some k) None p q e rest = rest e
    by (Some k) (Some m) p q e rest = both (nat_lt k l.count) e
      where
        both : (r : Bool) → option_or (if r then Some (record { scope = Some l.scope; place = k; meaning = m }) else None) (found_in scopes v x) ≡ Some f
            → IsAt (scope_at scopes i) f.place f.meaning
        both true e = here_is k m p q e
        both false e = rest e

first_are : (names : Names) (k : ℕ) (m : Meaning) → (h : IsAt names k m) → take k names ≡ h.before
first_are names k m h =
    ap (λ n. take n names) (sym h.count) ∙ ap (λ (l : Names). take (length h.before) l) h.splits ∙ take-append_seam h.before (h.name ∷ h.after)

-- ## Elements of joined lists

pub get_behind : {X : Type 0} (a b : List X) (k : ℕ) → slice_get (a ++ b) (length a + k) ≡ slice_get b k
get_behind [] b k = let same : 0 + k ≡ k = omega arith in ap (λ n. slice_get b n) same
get_behind (x ∷ a) b k =
    let next : suc (length a) + k ≡ suc (length a + k) = omega arith in ap (λ n. slice_get (x ∷ (a ++ b)) n) next ∙ get_behind a b k

pub get_within : {X : Type 0} (a b : List X) (k : ℕ) (x : X) → slice_get a k ≡ Some x → slice_get (a ++ b) k ≡ Some x
get_within [] b k x e = absurd (cc)
get_within (y ∷ a) b zero x e = e
get_within (y ∷ a) b (suc k) x e = get_within a b k x e

get_first : {X : Type 0} (a b : List X) (k : ℕ) (x : X) → slice_get (a ++ b) k ≡ Some x → k < length a → slice_get a k ≡ Some x
get_first [] b k x e h = absurd (omega (arith, h))
get_first (y ∷ a) b zero x e h = e
get_first (y ∷ a) b (suc k) x e h = get_first a b k x e (omega (arith, h))

get_second : {X : Type 0} (a b : List X) (k : ℕ) (x : X) → slice_get (a ++ b) k ≡ Some x → length a ≤ k → slice_get b (k - length a) ≡ Some x
get_second a b k x e h =
    let same : length a + (k - length a) ≡ k = omega (arith, h) in
    sym (get_behind a b (k - length a)) ∙ ap (λ n. slice_get (a ++ b) n) same ∙ e

-- at another number that is the same
pub get_there : {X : Type 0} (l : List X) (j k : ℕ) (x : X) → slice_get l j ≡ Some x → k ≡ j → slice_get l k ≡ Some x
get_there l j k x e same = ap (λ n. slice_get l n) same ∙ e

-- ## Names that are laid out

laid_append : (a b : Names) → laid_names (a ++ b) ≡ laid_names a ++ laid_names b
laid_append [] b = refl
laid_append (x ∷ a) b = by (is_laid x.1) (laid_append a b)
  where
    by : (r : Bool) → laid_names (a ++ b) ≡ laid_names a ++ laid_names b
        → (if r then x.1 ∷ laid_names (a ++ b) else laid_names (a ++ b)) ≡ (if r then x.1 ∷ laid_names a else laid_names a) ++ laid_names b
    by true e = ap (λ (l : Layout). x.1 ∷ l) e
    by false e = e

pub laid_stands : (names : Names) (k : ℕ) (m : Meaning) → IsAt names k m → is_laid m ≡ true
    → slice_get (laid_names names) (length (laid_names (take k names))) ≡ Some m
laid_stands names k m h laid =
    let one : laid_names (h.name ∷ h.after) ≡ m ∷ laid_names h.after =
    ap (λ (r : Bool). if r then h.name.1 ∷ laid_names h.after else laid_names h.after) (ap (λ (n : Meaning). is_laid n) h.is ∙ laid)
    ∙ ap (λ (n : Meaning). n ∷ laid_names h.after) h.is in
    let all : laid_names names ≡ laid_names h.before ++ m ∷ laid_names h.after =
    ap laid_names h.splits ∙ laid_append h.before (h.name ∷ h.after) ∙ ap (λ (l : Layout). laid_names h.before ++ l) one in
    let place : length (laid_names (take k names)) ≡ length (laid_names h.before) + 0 =
    ap (λ (l : Names). length (laid_names l)) (first_are names k m h) ∙ omega arith in
    ap (λ (l : Layout). slice_get l (length (laid_names (take k names)))) all
    ∙ get_there (laid_names h.before ++ m ∷ laid_names h.after) (length (laid_names h.before) + 0) (length (laid_names (take k names))) m
    (get_behind (laid_names h.before) (m ∷ laid_names h.after) 0) place

-- ## A sub, a process and an accept

pub laid_parts : (n : ℕ) (names : Names) → laid_names names ≡ laid_names (take n names) ++ laid_names (drop n names)
laid_parts n names = ap laid_names (sym (take-append-drop n names)) ∙ laid_append (take n names) (drop n names)

-- fewer names, no more variables
laid_fewer : (names : Names) (n k : ℕ) → n ≤ k → length (laid_names (take n names)) ≤ length (laid_names (take k names))
laid_fewer names zero k h = omega arith
laid_fewer [] (suc n) zero h = absurd (omega (arith, h))
laid_fewer [] (suc n) (suc k) h = omega arith
laid_fewer (x ∷ names) (suc n) zero h = absurd (omega (arith, h))
laid_fewer (x ∷ names) (suc n) (suc k) h = by (is_laid x.1) (laid_fewer names n k (omega (arith, h)))
  where
    by : (r : Bool) → length (laid_names (take n names)) ≤ length (laid_names (take k names))
        → length (if r then x.1 ∷ laid_names (take n names) else laid_names (take n names))
        ≤ length (if r then x.1 ∷ laid_names (take k names) else laid_names (take k names))
    by true e = omega (arith, e)
    by false e = e

laid_until : (names : Names) (k : ℕ) (m : Meaning) (h : IsAt names k m) → is_laid m ≡ true
    → length (laid_names (take (k + 1) names)) ≡ length (laid_names (take k names)) + 1
laid_until names k m h laid =
    let both : take (k + 1) names ≡ h.before ++ h.name ∷ [] =
    ap (λ n. take (n + 1) names) (sym h.count) ∙ ap (λ (l : Names). take (length h.before + 1) l) h.splits ∙ take-append-add h.before (h.name ∷ h.after) 1 in
    let one : length (laid_names (h.name ∷ [])) ≡ 1 =
    ap (λ (r : Bool). length (if r then h.name.1 ∷ [] else [])) (ap (λ (n : Meaning). is_laid n) h.is ∙ laid) in
    let all = ap (λ (l : Layout). length l) (laid_append h.before (h.name ∷ [])) in
    let sum = length-append (laid_names h.before) (laid_names (h.name ∷ [])) in
    let first = ap (λ (l : Names). length (laid_names l)) (first_are names k m h) in
    let whole = ap (λ (l : Names). length (laid_names l)) both in
    omega (arith, one, all, sum, first, whole)

pub sub_place : (b : Blocks) (head : SubHead) (k : ℕ) (m : Meaning) → IsAt (scope_at b.scopes head.scope) k m → is_laid m ≡ true
    → slice_get (sub_layout b head) (length (laid_names (take k (scope_at b.scopes head.scope))) + behind_result (Some head) k) ≡ Some m
sub_place b head k m h laid = by (nat_lt k n) refl
  where
    names : Names
    names = scope_at b.scopes head.scope

    n : ℕ
    n = length head.formals

    first : Layout
    first = laid_names (take n names)

    result : Layout
    result = result_laid head.sort

    rest : Layout
    rest = laid_names (drop n names)

    p : ℕ
    p = length (laid_names (take k names))

    whole : slice_get (first ++ rest) p ≡ Some m
    whole = ap (λ (l : Layout). slice_get l p) (sym (laid_parts n names)) ∙ laid_stands names k m h laid

    by : (r : Bool) → nat_lt k n ≡ r → slice_get (first ++ (result ++ rest)) (p + (if r then 0 else length result)) ≡ Some m
    by true e =
        let few : k < n = grind (arith, nat_tests) in
        let more = laid_fewer names (k + 1) n (omega (arith, few)) in
        let until = laid_until names k m h laid in
        let same : p + 0 ≡ p = omega arith in
        get_there (first ++ (result ++ rest)) p (p + 0) m
        (get_within first (result ++ rest) p m (get_first first rest p m whole (omega (arith, more, until)))) same
    by false e =
        let many : n ≤ k = grind (arith, nat_tests) in
        let fewer = laid_fewer names n k many in
        let same : p + length result ≡ length first + (length result + (p - length first)) = omega (arith, fewer) in
        ap (λ j. slice_get (first ++ (result ++ rest)) j) same ∙ get_behind first (result ++ rest) (length result + (p - length first))
        ∙ get_behind result rest (p - length first) ∙ get_second first rest p m whole fewer

pub process_place : (own : Names) (accepts : List Names) (k : ℕ) (m : Meaning) → IsAt own k m → is_laid m ≡ true
    → slice_get (process_layout own accepts) (length (laid_names (take k own))) ≡ Some m
process_place own accepts k m h laid =
    get_within (laid_names own) (accepts_laid accepts) (length (laid_names (take k own))) m (laid_stands own k m h laid)

accepts_stand : (ss : List Names) (a n p : ℕ) (m : Meaning) → n < a → slice_get (laid_names (get_or ss n [])) p ≡ Some m
    → slice_get (accepts_laid (take a ss)) (length (accepts_laid (take n ss)) + p) ≡ Some m
accepts_stand [] a n p m h e = absurd (cc)
accepts_stand (x ∷ ss) zero n p m h e = absurd (omega (arith, h))
accepts_stand (x ∷ ss) (suc a) zero p m h e =
    let same : 0 + p ≡ p = omega arith in
    get_there (laid_names x ++ accepts_laid (take a ss)) p (0 + p) m (get_within (laid_names x) (accepts_laid (take a ss)) p m e) same
accepts_stand (x ∷ ss) (suc a) (suc n) p m h e =
    let sum = length-append (laid_names x) (accepts_laid (take n ss)) in
    let same : length (laid_names x ++ accepts_laid (take n ss)) + p ≡ length (laid_names x) + (length (accepts_laid (take n ss)) + p) = omega (arith, sum) in
    ap (λ j. slice_get (laid_names x ++ accepts_laid (take a ss)) j) same
    ∙ get_behind (laid_names x) (accepts_laid (take a ss)) (length (accepts_laid (take n ss)) + p) ∙ accepts_stand ss a n p m (omega (arith, h)) e

-- the parameters of the accept with the scope i
pub accept_place :
    (scopes : List Names) (own : Names) (next accepts i k : ℕ) (m : Meaning) → next ≤ i → i < next + accepts → IsAt (scope_at scopes i) k m → is_laid m ≡ true
    → slice_get (process_layout own (take accepts (drop next scopes)))
    (length (process_layout own (take (i - next) (drop next scopes))) + length (laid_names (take k (scope_at scopes i)))) ≡ Some m
accept_place scopes own next accepts i k m low high h laid =
    let n = i - next in
    let ss = drop next scopes in
    let p = length (laid_names (take k (scope_at scopes i))) in
    let same : next + n ≡ i = omega (arith, low) in
    let at : slice_get (laid_names (get_or ss n [])) p ≡ Some m =
    ap (λ (l : Names). slice_get (laid_names l) p) (get_or-drop next scopes n [] ∙ ap (λ (j : ℕ). get_or scopes j []) same)
    ∙ laid_stands (scope_at scopes i) k m h laid in
    let one = length-append (laid_names own) (accepts_laid (take n ss)) in
    let place : length (laid_names own ++ accepts_laid (take n ss)) + p ≡ length (laid_names own) + (length (accepts_laid (take n ss)) + p) =
    omega (arith, one) in
    ap (λ j. slice_get (laid_names own ++ accepts_laid (take accepts ss)) j) place
    ∙ get_behind (laid_names own) (accepts_laid (take accepts ss)) (length (accepts_laid (take n ss)) + p)
    ∙ accepts_stand ss accepts n p m (omega (arith, low, high)) at

-- ## Main's block

main_append : (b : Blocks) (x y : Names) → main_layout b (x ++ y) ≡ main_layout b x ++ main_layout b y
main_append b [] y = refl
main_append b (n ∷ x) y =
    ap (λ (l : Layout). laid_as b n.1 ++ l) (main_append b x y) ∙ sym (append_assoc (laid_as b n.1) (main_layout b x) (main_layout b y))

laid_alone : (b : Blocks) (m : Meaning) → is_laid m ≡ true → laid_as b m ≡ m ∷ []
laid_alone b (Constant t v) e = absurd (cc)
laid_alone b (Named t) e = absurd (cc)
laid_alone b (Variable t r) e = refl
laid_alone b (Sub n) e = absurd (cc)
laid_alone b (Module n) e = absurd (cc)
laid_alone b (Process n) e = refl
laid_alone b (Entry n) e = absurd (cc)
laid_alone b (Predeclared k) e = absurd (cc)
laid_alone b Faulty e = absurd (cc)

-- a variable of the program
pub main_place : (b : Blocks) (names : Names) (k : ℕ) (m : Meaning) → IsAt names k m → is_laid m ≡ true
    → slice_get (main_layout b names) (length (main_layout b (take k names))) ≡ Some m
main_place b names k m h laid =
    let first = main_layout b h.before in
    let more = main_layout b h.after in
    let one : laid_as b h.name.1 ≡ m ∷ [] = ap (λ (n : Meaning). laid_as b n) h.is ∙ laid_alone b m laid in
    let all : main_layout b names ≡ first ++ m ∷ more =
    ap (λ (l : Names). main_layout b l) h.splits ∙ main_append b h.before (h.name ∷ h.after) ∙ ap (λ (l : Layout). first ++ (l ++ more)) one in
    let place : length (main_layout b (take k names)) ≡ length first + 0 =
    ap (λ (l : Names). length (main_layout b l)) (first_are names k m h) ∙ omega arith in
    ap (λ (l : Layout). slice_get l (length (main_layout b (take k names)))) all
    ∙ get_there (first ++ m ∷ more) (length first + 0) (length (main_layout b (take k names))) m (get_behind first (m ∷ more) 0) place

module_laid : (b : Blocks) (n : ℕ) (m : Meaning) → is_module n m ≡ true → laid_as b m ≡ laid_as b (Module n)
module_laid b n (Constant t v) e = absurd (cc)
module_laid b n (Named t) e = absurd (cc)
module_laid b n (Variable t r) e = absurd (cc)
module_laid b n (Sub k) e = absurd (cc)
module_laid b n (Module k) e =
    let same : k ≡ n = grind (arith, nat_tests) in ap (λ (j : ℕ). laid_names (scope_at b.scopes (module_at b j).scope)) same
module_laid b n (Process k) e = absurd (cc)
module_laid b n (Entry k) e = absurd (cc)
module_laid b n (Predeclared k) e = absurd (cc)
module_laid b n Faulty e = absurd (cc)

-- the variables of a module lie together
module_stands : (b : Blocks) (n : ℕ) (names : Names) (p : ℕ) (m : Meaning) → names_module n names ≡ true → slice_get (laid_as b (Module n)) p ≡ Some m
    → slice_get (main_layout b names) (before_module b n names + p) ≡ Some m
module_stands b n [] p m e at = absurd (cc)
module_stands b n (x ∷ names) p m e at = by (is_module n x.1) refl e (λ q. module_stands b n names p m q at)
  where
    own : Layout
    own = laid_as b x.1

    others : Layout
    others = main_layout b names

    by : (r : Bool) → is_module n x.1 ≡ r → (r || names_module n names) ≡ true
        → (names_module n names ≡ true → slice_get others (before_module b n names + p) ≡ Some m)
        → slice_get (own ++ others) ((if r then 0 else length own + before_module b n names) + p) ≡ Some m
    by true same q rest =
        let none : 0 + p ≡ p = omega arith in
        get_there (own ++ others) p (0 + p) m
        (get_within own others p m (ap (λ (l : Layout). slice_get l p) (module_laid b n x.1 same) ∙ at)) none
    by false same q rest =
        let place : length own + before_module b n names + p ≡ length own + (before_module b n names + p) = omega arith in
        ap (λ j. slice_get (own ++ others) j) place ∙ get_behind own others (before_module b n names + p) ∙ rest q

pub module_place : (b : Blocks) (n k : ℕ) (m : Meaning) → names_module n (scope_at b.scopes 0) ≡ true → IsAt (scope_at b.scopes (module_at b n).scope) k m
    → is_laid m ≡ true
    → slice_get (main_layout b (scope_at b.scopes 0))
    (before_module b n (scope_at b.scopes 0) + length (laid_names (take k (scope_at b.scopes (module_at b n).scope)))) ≡ Some m
module_place b n k m named h laid =
    module_stands b n (scope_at b.scopes 0) (length (laid_names (take k (scope_at b.scopes (module_at b n).scope)))) m named
    (laid_stands (scope_at b.scopes (module_at b n).scope) k m h laid)

-- ## What is laid out

abbrev pub AreLaid : Layout → Type 0
AreLaid [] = Unit {0}
AreLaid (m ∷ l) = (is_laid m ≡ true) × AreLaid l

laid_both : (a b : Layout) → AreLaid a → AreLaid b → AreLaid (a ++ b)
laid_both [] b p q = q
laid_both (m ∷ a) b p q = (p.0, laid_both a b p.1 q)

names_are_laid : (names : Names) → AreLaid (laid_names names)
names_are_laid [] = tt
names_are_laid (x ∷ names) = by (is_laid x.1) refl (names_are_laid names)
  where
    by : (r : Bool) → is_laid x.1 ≡ r → AreLaid (laid_names names) → AreLaid (if r then x.1 ∷ laid_names names else laid_names names)
    by true e rest = (e, rest)
    by false e rest = rest

accepts_are_laid : (ss : List Names) → AreLaid (accepts_laid ss)
accepts_are_laid [] = tt
accepts_are_laid (names ∷ ss) = laid_both (laid_names names) (accepts_laid ss) (names_are_laid names) (accepts_are_laid ss)

pub process_is_laid : (own : Names) (accepts : List Names) → AreLaid (process_layout own accepts)
process_is_laid own accepts = laid_both (laid_names own) (accepts_laid accepts) (names_are_laid own) (accepts_are_laid accepts)

as_laid : (b : Blocks) (m : Meaning) → AreLaid (laid_as b m)
as_laid b (Constant t v) = tt
as_laid b (Named t) = tt
as_laid b (Variable t r) = (refl, tt)
as_laid b (Sub n) = tt
as_laid b (Module n) = names_are_laid (scope_at b.scopes (module_at b n).scope)
as_laid b (Process n) = (refl, tt)
as_laid b (Entry n) = tt
as_laid b (Predeclared k) = tt
as_laid b Faulty = tt

pub main_is_laid : (b : Blocks) (names : Names) → AreLaid (main_layout b names)
main_is_laid b [] = tt
main_is_laid b (x ∷ names) = laid_both (laid_as b x.1) (main_layout b names) (as_laid b x.1) (main_is_laid b names)

result_is_laid : (sort : SubSort) → AreLaid (result_laid sort)
result_is_laid Procedure = tt
result_is_laid Guarded = tt
result_is_laid (Function None) = tt
result_is_laid (Function (Some t)) = (refl, tt)

pub sub_is_laid : (b : Blocks) (o : Option SubHead) → AreLaid (layout_by b o)
sub_is_laid b None = tt
sub_is_laid b (Some head) =
    let names = scope_at b.scopes head.scope in
    let behind = laid_names (drop (length head.formals) names) in
    laid_both (laid_names (take (length head.formals) names)) (result_laid head.sort ++ behind) (names_are_laid (take (length head.formals) names))
    (laid_both (result_laid head.sort) behind (result_is_laid head.sort) (names_are_laid (drop (length head.formals) names)))

pub laid_place : (l : Layout) (p : ℕ) (d : Meaning) → p < length l → AreLaid l → is_laid (get_or l p d) ≡ true
laid_place [] p d h are = absurd (omega (arith, h))
laid_place (m ∷ l) zero d h are = are.0
laid_place (m ∷ l) (suc p) d h are = laid_place l p d (omega (arith, h)) are.1

-- ## Cells

-- what stands at a place takes its cells among those of the whole
pub cells_within : (forms : Forms) (l : Layout) (p : ℕ) (d : Meaning) → p < length l
    → layout_cells forms (take p l) + name_cells forms (get_or l p d) ≤ layout_cells forms l
cells_within forms [] p d h = absurd (omega (arith, h))
cells_within forms (m ∷ l) zero d h = let all = sum_by-cons (λ (x : Meaning). name_cells forms x) m l in omega (arith, all)
cells_within forms (m ∷ l) (suc p) d h =
    let rest = cells_within forms l p d (omega (arith, h)) in
    let all = sum_by-cons (λ (x : Meaning). name_cells forms x) m l in
    let some = sum_by-cons (λ (x : Meaning). name_cells forms x) m (take p l) in
    omega (arith, rest, all, some)

-- a variable has a cell where its type takes one
pub one_cell : (forms : Forms) (m : Meaning) → ((u : TypeId) → 0 < cells_in forms u) → is_laid m ≡ true → 0 < name_cells forms m
one_cell forms (Constant t v) some e = absurd (cc)
one_cell forms (Named t) some e = absurd (cc)
one_cell forms (Variable t true) some e = omega arith
one_cell forms (Variable t false) some e = some t
one_cell forms (Sub n) some e = absurd (cc)
one_cell forms (Module n) some e = absurd (cc)
one_cell forms (Process n) some e = omega arith
one_cell forms (Entry n) some e = absurd (cc)
one_cell forms (Predeclared k) some e = absurd (cc)
one_cell forms Faulty some e = absurd (cc)

pub cell_below : (forms : Forms) (b : Block) (reference : Bool) (d : ℕ) → ((u : TypeId) → 0 < cells_in forms u) → IsVariable forms b reference d → d < b.cells
cell_below forms b reference d some h =
    let one = one_cell forms (get_or b.layout h.place Faulty) some h.laid in let within = h.within in omega (arith, one, within)
