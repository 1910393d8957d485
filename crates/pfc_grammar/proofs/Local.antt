-- A reader looks no further than at the symbol on which it ends: it ends alike on each list with the same symbols up to
-- and with that one.
use Rattle.std.proofs.Common.{◌≡◌, ℕ, List, [], ◌∷◌, ◌++◌, length, Bool, true, false, Option, Some, None, Ok, Err, refl, sym, ap, subst, ◌∙◌, append_assoc}
use Rattle.pfc_tree.specs.Symbols.{Symbol}
use Rattle.pfc_grammar.specs.Reading.{Halt, bad, deep, Outcome, Reader, pure, then_read, bind, stop, stop_deep, branch_at, branch, choose_at, choose, take_as}
use Rattle.pfc_grammar.specs.Reading.{finish}

abbrev pub head_of : List Symbol → Option Symbol
head_of [] = None
head_of (s ∷ ss) = Some s

-- Q says what comes of a list. The value ends on the first symbol of rest.
pub record EndsOk {A : Type 0} (Q : List Symbol → Outcome A → Type 0) (ss : List Symbol) (x : A) (rest : List Symbol) : Type 0 where
  pub read : List Symbol
  pub splits : ss ≡ read ++ rest
  pub again : (l : List Symbol) → head_of rest ≡ head_of l → Q (read ++ l) (Ok (x, l))

-- a halt, which h says of the number of symbols that are left
pub record EndsHalted {A : Type 0} (Q : List Symbol → Outcome A → Type 0) (h : ℕ → Halt) (ss : List Symbol) (n : ℕ) : Type 0 where
  pub read : List Symbol
  pub left : List Symbol
  pub splits : ss ≡ read ++ left
  pub count : length left ≡ n
  pub again : (l : List Symbol) → head_of left ≡ head_of l → Q (read ++ l) (Err (h (length l)))

abbrev pub Ends : {A : Type 0} (Q : List Symbol → Outcome A → Type 0) (ss : List Symbol) → Outcome A → Type 0
Ends Q ss (Ok p) = EndsOk Q ss p.0 p.1
Ends Q ss (Err (bad n)) = EndsHalted Q bad ss n
Ends Q ss (Err (deep n)) = EndsHalted Q deep ss n

-- what a reader gives
abbrev pub Gives : {A : Type 0} → Reader A → List Symbol → Outcome A → Type 0
Gives r ss o = r ss ≡ o

pub record Local {A : Type 0} (r : Reader A) : Type 0 where
  pub ends : (ss : List Symbol) → Ends (Gives r) ss (r ss)

pub same_heads : (u l m : List Symbol) → head_of l ≡ head_of m → head_of (u ++ l) ≡ head_of (u ++ m)
same_heads [] l m e = e
same_heads (s ∷ u) l m e = refl

-- Reading on behind u: what P says of a list, Q says behind u.
halted_behind : {B : Type 0} (P Q : List Symbol → Outcome B → Type 0) (f : ℕ → Halt) (u ss rest : List Symbol) (n : ℕ) → ss ≡ u ++ rest →
    ((l : List Symbol) → head_of rest ≡ head_of l → (c : Outcome B) → P l c → Q (u ++ l) c) → EndsHalted P f rest n → EndsHalted Q f ss n
halted_behind P Q f u ss rest n e h w = record {
  read = u ++ w.read;
  left = w.left;
  splits = e ∙ ap (λ z. u ++ z) w.splits ∙ sym (append_assoc u w.read w.left);
  count = w.count;
  again = λ l k. subst (λ z. Q z (Err (f (length l)))) (sym (append_assoc u w.read l)) (h (w.read ++ l) (ap head_of w.splits ∙
      same_heads w.read w.left l k) (Err (f (length l))) (w.again l k));
}

pub joined_ends : {B : Type 0} (P Q : List Symbol → Outcome B → Type 0) (u ss rest : List Symbol) (o : Outcome B) → ss ≡ u ++ rest →
    ((l : List Symbol) → head_of rest ≡ head_of l → (c : Outcome B) → P l c → Q (u ++ l) c) → Ends P rest o → Ends Q ss o
joined_ends P Q u ss rest (Ok p) e h w = record {
  read = u ++ w.read;
  splits = e ∙ ap (λ z. u ++ z) w.splits ∙ sym (append_assoc u w.read p.1);
  again = λ l k. subst (λ z. Q z (Ok (p.0, l))) (sym (append_assoc u w.read l)) (h (w.read ++ l) (ap head_of w.splits ∙
      same_heads w.read p.1 l k) (Ok (p.0, l)) (w.again l k));
}
joined_ends P Q u ss rest (Err (bad n)) e h w = halted_behind P Q bad u ss rest n e h w
joined_ends P Q u ss rest (Err (deep n)) e h w = halted_behind P Q deep u ss rest n e h w

-- what gives the same by the first symbol ends alike
pub ends_same : {B : Type 0} (P Q : List Symbol → Outcome B → Type 0) (p : Option Symbol → Type 0) (ss : List Symbol) (o : Outcome B) → p (head_of ss) →
    ((l : List Symbol) → p (head_of l) → (c : Outcome B) → P l c → Q l c) → Ends P ss o → Ends Q ss o
ends_same P Q p ss o h t w = joined_ends P Q [] ss ss o refl (λ l e c q. t l (subst p e h) c q) w

-- a halt stays one where another reader goes on
pub ends_halted : {A B : Type 0} (P : List Symbol → Outcome A → Type 0) (Q : List Symbol → Outcome B →
    Type 0) (u ss rest : List Symbol) (q : Halt) → ss ≡ u ++ rest →
    ((l : List Symbol) → head_of rest ≡ head_of l → (c : Halt) → P l (Err c) → Q (u ++ l) (Err c)) → Ends P rest (Err q) → Ends Q ss (Err q)
ends_halted P Q u ss rest (bad n) e h w = record {
  read = u ++ w.read;
  left = w.left;
  splits = e ∙ ap (λ z. u ++ z) w.splits ∙ sym (append_assoc u w.read w.left);
  count = w.count;
  again = λ l k. subst (λ z. Q z (Err (bad (length l)))) (sym (append_assoc u w.read l)) (h (w.read ++ l) (ap head_of w.splits ∙
      same_heads w.read w.left l k) (bad (length l)) (w.again l k));
}
ends_halted P Q u ss rest (deep n) e h w = record {
  read = u ++ w.read;
  left = w.left;
  splits = e ∙ ap (λ z. u ++ z) w.splits ∙ sym (append_assoc u w.read w.left);
  count = w.count;
  again = λ l k. subst (λ z. Q z (Err (deep (length l)))) (sym (append_assoc u w.read l)) (h (w.read ++ l) (ap head_of w.splits ∙
      same_heads w.read w.left l k) (deep (length l)) (w.again l k));
}

pub local_pure : {A : Type 0} (v : A) → Local (pure v)
unfolding pure
local_pure v = record { ends = λ ss. record { read = []; splits = refl; again = λ l k. refl } }

pub local_stop : {A : Type 0} → Local {A = A} stop
unfolding stop
local_stop = record { ends = λ ss. record { read = []; left = ss; splits = refl; count = refl; again = λ l k. refl } }

pub local_stop_deep : {A : Type 0} → Local {A = A} stop_deep
unfolding stop_deep
local_stop_deep = record { ends = λ ss. record { read = []; left = ss; splits = refl; count = refl; again = λ l k. refl } }

pub local_bind : {A B : Type 0} {r : Reader A} {g : A → Reader B} → Local r → ((x : A) → Local (g x)) → Local (bind r g)
unfolding bind
local_bind {A = A} {B = B} {r = r} {g = g} h k = record { ends = λ ss. go ss (r ss) (h.ends ss) }
  where
    go : (ss : List Symbol) (o : Outcome A) → Ends (Gives r) ss o → Ends (Gives (bind r g)) ss (then_read o g)
    go ss (Ok p) w = joined_ends (Gives (g p.0)) (Gives (bind r g)) w.read ss p.1 (g p.0 p.1) w.splits
        (λ l e c q. ap (λ z. then_read z g) (w.again l e) ∙ q) ((k p.0).ends p.1)
    go ss (Err q) w = ends_halted (Gives r) (Gives (bind r g)) [] ss ss q refl (λ l e c t. ap (λ z. then_read z g) t) w

abbrev pub not_taken : {O : Type 0} → (Symbol → Option O) → Option Symbol → Type 0
not_taken f None = Unit {0}
not_taken f (Some s) = f s ≡ None

pub untaken : {O B : Type 0} (f : Symbol → Option O) (g : O → Reader B) (r : Reader B) (l : List Symbol) → not_taken f (head_of l) → branch f g r l ≡ r l
unfolding branch
untaken f g r [] e = refl
untaken f g r (s ∷ l) e = ap (λ z. branch_at z g r s l) e

pub local_branch : {O B : Type 0} (f : Symbol → Option O) {g : O → Reader B} {r : Reader B} → ((o : O) → Local (g o)) → Local r → Local (branch f g r)
unfolding branch
local_branch {O = O} {B = B} f {g = g} {r = r} h k = record { ends = go }
  where
    at : (s : Symbol) (ss : List Symbol) (o : Option O) → f s ≡ o → Ends (Gives (branch f g r)) (s ∷ ss) (branch_at o g r s ss)
    at s ss (Some o) e = joined_ends (Gives (g o)) (Gives (branch f g r)) (s ∷ []) (s ∷ ss) ss (g o ss) refl
        (λ l z c q. ap (λ y. branch_at y g r s l) e ∙ q) ((h o).ends ss)
    at s ss None e = ends_same (Gives r) (Gives (branch f g r)) (not_taken f) (s ∷ ss) (r (s ∷ ss)) e (λ l n c q. untaken f g r l n ∙ q) (k.ends (s ∷ ss))

    go : (ss : List Symbol) → Ends (Gives (branch f g r)) ss (branch f g r ss)
    go [] = ends_same (Gives r) (Gives (branch f g r)) (not_taken f) [] (r []) tt (λ l n c q. untaken f g r l n ∙ q) (k.ends [])
    go (s ∷ ss) = at s ss (f s) refl

abbrev pub has_test : (Symbol → Bool) → Bool → Option Symbol → Type 0
has_test p b None = b ≡ false
has_test p b (Some s) = p s ≡ b

pub tested : {B : Type 0} (p : Symbol → Bool) (b : Bool) (g r : Reader B) (l : List Symbol) → has_test p b (head_of l) → choose p g r l ≡ choose_at b g r l
unfolding choose
tested p b g r [] e = ap (λ z. choose_at z g r []) (sym e)
tested p b g r (s ∷ l) e = ap (λ z. choose_at z g r (s ∷ l)) e

pub local_choose : {B : Type 0} (p : Symbol → Bool) {g r : Reader B} → Local g → Local r → Local (choose p g r)
unfolding choose
local_choose {B = B} p {g = g} {r = r} h k = record { ends = go }
  where
    at : (s : Symbol) (ss : List Symbol) (b : Bool) → p s ≡ b → Ends (Gives (choose p g r)) (s ∷ ss) (choose_at b g r (s ∷ ss))
    at s ss true e = ends_same (Gives g) (Gives (choose p g r)) (has_test p true) (s ∷ ss) (g (s ∷ ss)) e
        (λ l n c q. tested p true g r l n ∙ q) (h.ends (s ∷ ss))
    at s ss false e = ends_same (Gives r) (Gives (choose p g r)) (has_test p false) (s ∷ ss) (r (s ∷ ss)) e
        (λ l n c q. tested p false g r l n ∙ q) (k.ends (s ∷ ss))

    go : (ss : List Symbol) → Ends (Gives (choose p g r)) ss (choose p g r ss)
    go [] = ends_same (Gives r) (Gives (choose p g r)) (has_test p false) [] (r []) refl (λ l n c q. tested p false g r l n ∙ q) (k.ends [])
    go (s ∷ ss) = at s ss (p s) refl

pub local_take : {O : Type 0} (f : Symbol → Option O) → Local (take_as f)
unfolding take_as
local_take f = local_branch f local_pure local_stop

pub local_finish : {A : Type 0} (x : A) → Local (finish x)
unfolding finish
local_finish x = record { ends = go }
  where
    none_left : (l : List Symbol) → None ≡ head_of l → finish x l ≡ Ok (x, l)
    none_left [] e = refl
    none_left (s ∷ l) e = absurd (let e' : None ≡ Some s = e in cc)

    some_left : (s : Symbol) (l : List Symbol) → Some s ≡ head_of l → finish x l ≡ Err (bad (length l))
    some_left s [] e = absurd (let e' : Some s ≡ None = e in cc)
    some_left s (t ∷ l) e = refl

    go : (ss : List Symbol) → Ends (Gives (finish x)) ss (finish x ss)
    go [] = record { read = []; splits = refl; again = none_left }
    go (s ∷ ss) = record { read = []; left = s ∷ ss; splits = refl; count = refl; again = some_left s }
