-- The places that a reader of tokens keeps are those of the tokens that it takes: the combinators.
use Rattle.std.proofs.Common.{◌≡◌, List, [], ◌∷◌, ◌++◌, Bool, true, false, Option, Some, None, Ok, Err, refl, sym, ap, subst, ◌∙◌, append_assoc, append-nil}
use Rattle.pfc_base.specs.declared.places.Place.{Place}
use Rattle.pfc_base.specs.declared.tokens.Token.{Token}
use Rattle.pfc_tree.specs.Symbols.{Symbol}
use Rattle.pfc_tree.specs.kept.Exprs.{Step, here, next, AreKept}
use Rattle.pfc_grammar.specs.placed.Reading.{Outcome, Reader, pure, then_read, bind, stop, stop_deep, branch_at, branch, choose_at, choose, take_as}

-- one trace behind the other
pub kept_both : (a b : List Step) (ts mid rest : List Token) → AreKept a ts mid → AreKept b mid rest → AreKept (a ++ b) ts rest
kept_both [] b ts mid rest h k = subst (λ z. AreKept b z rest) (sym h) k
kept_both (here p ∷ a) b ts mid rest h k = (h.0, kept_both a b ts mid rest h.1 k)
kept_both (next ∷ a) b [] mid rest h k = absurd h
kept_both (next ∷ a) b (t ∷ ts) mid rest h k = kept_both a b ts mid rest h k

-- equal traces
pub same_step : (s : Step) {a b : List Step} → a ≡ b → s ∷ a ≡ s ∷ b
same_step s e = ap (λ z. s ∷ z) e

pub same_front : (a : List Step) {b c : List Step} → b ≡ c → a ++ b ≡ a ++ c
same_front a e = ap (λ z. a ++ z) e

pub no_more : (a : List Step) → a ++ [] ≡ a
no_more a = append-nil a

pub regrouped : (a b c : List Step) {d : List Step} → a ++ (b ++ c) ≡ d → (a ++ b) ++ c ≡ d
regrouped a b c e = append_assoc a b c ∙ e

pub grouped : (a b c : List Step) {d : List Step} → d ≡ a ++ (b ++ c) → d ≡ (a ++ b) ++ c
grouped a b c e = e ∙ sym (append_assoc a b c)

pub ruleset same_traces = (same_step, same_front, no_more, regrouped, grouped)

-- what is said of the value and of the tokens that are left, where there is a value
abbrev pub Reaches : {A : Type 0} → (A → List Token → Type 0) → Outcome A → Type 0
Reaches P (Ok p) = P p.0 p.1
Reaches P (Err h) = Unit {0}

-- with the steps of the tokens that come, F gives the steps of the tokens from start on
abbrev pub Leads : (List Step → List Step) → List Token → List Token → Type 0
Leads F start ts = (steps : List Step) (rest : List Token) → AreKept steps ts rest → AreKept (F steps) start rest

-- what may be said at the end of a reader. The trace of its value goes from start to the tokens that are left:
pub record Traced {A : Type 0} (K : A → List Step) (x : A) (start rest : List Token) : Type 0 where
  pub kept : AreKept (K x) start rest

-- or it goes on with the steps of those.
pub record Leading {A : Type 0} (M : A → List Step → List Step) (x : A) (start rest : List Token) : Type 0 where
  pub leads : Leads (M x) start rest

-- where F gives the steps from start on, Q is said at the end
pub record Keeps {A : Type 0} (F : List Step → List Step) (Q : A → List Token → List Token → Type 0) (r : Reader A) : Type 0 where
  pub reaches : (start ts : List Token) → Leads F start ts → Reaches (λ x rest. Q x start rest) (r ts)

-- a reader by itself
abbrev pub Whole : {A : Type 0} → (A → List Step) → Reader A → Type 0
Whole K r = Keeps (λ steps. steps) (Traced K) r

pub led : (ts : List Token) → Leads (λ steps. steps) ts ts
led ts = λ steps rest k. k

pub keeps_pure : {A : Type 0} {F : List Step → List Step} {K : A → List Step} (x : A) → F [] ≡ K x → Keeps F (Traced K) (pure x)
unfolding pure
keeps_pure x e = record { reaches = λ start ts l. record { kept = subst (λ z. AreKept z start ts) e (l [] ts refl) } }

pub leads_pure : {A : Type 0} {F : List Step → List Step} {M : A → List Step → List Step} (x : A) →
    ((steps : List Step) → F steps ≡ M x steps) → Keeps F (Leading M) (pure x)
unfolding pure
leads_pure x e = record { reaches = λ start ts l. record { leads = λ steps rest k. subst (λ z. AreKept z start rest) (e steps) (l steps rest k) } }

pub keeps_stop : {A : Type 0} {F : List Step → List Step} {Q : A → List Token → List Token → Type 0} → Keeps F Q stop
unfolding stop
keeps_stop = record { reaches = λ start ts l. tt }

pub keeps_stop_deep : {A : Type 0} {F : List Step → List Step} {Q : A → List Token → List Token → Type 0} → Keeps F Q stop_deep
unfolding stop_deep
keeps_stop_deep = record { reaches = λ start ts l. tt }

pub keeps_bind : {A B : Type 0} {F : List Step → List Step} {M : A → List Step → List Step} {Q : B → List Token → List Token → Type 0} {r : Reader A} {k : A →
    Reader B} → Keeps F (Leading M) r → ((x : A) → Keeps (M x) Q (k x)) → Keeps F Q (bind r k)
unfolding bind
keeps_bind {A = A} {M = M} {Q = Q} {r = r} {k = k} h t = record { reaches = λ start ts l. go start (r ts) (h.reaches start ts l) }
  where
    go : (start : List Token) (o : Outcome A) → Reaches (λ x rest. Leading M x start rest) o → Reaches (λ y rest. Q y start rest) (then_read o k)
    go start (Ok p) w = (t p.0).reaches start p.1 w.leads
    go start (Err e) w = tt

-- a reader by itself, as a part
pub keeps_part : {A : Type 0} {F : List Step → List Step} {K : A → List Step} {r : Reader A} → Whole K r → Keeps F (Leading (λ x steps. F (K x ++ steps))) r
keeps_part {A = A} {F = F} {K = K} {r = r} h = record { reaches = λ start ts l. go start ts l (r ts) (h.reaches ts ts (led ts)) }
  where
    go : (start ts : List Token) → Leads F start ts → (o : Outcome A) → Reaches (λ x rest. Traced K x ts rest) o →
        Reaches (λ x rest. Leading (λ y steps. F (K y ++ steps)) x start rest) o
    go start ts l (Ok p) w = record { leads = λ steps rest k. l (K p.0 ++ steps) rest (kept_both (K p.0) steps ts p.1 rest w.kept k) }
    go start ts l (Err e) w = tt

pub keeps_then : {A B : Type 0} {F : List Step → List Step} {K : A → List Step} {Q : B → List Token → List Token → Type 0} {r : Reader A} {k : A → Reader B} →
    Whole K r → ((x : A) → Keeps (λ steps. F (K x ++ steps)) Q (k x)) → Keeps F Q (bind r k)
keeps_then h t = keeps_bind (keeps_part h) t

-- one token
pub keeps_branch_by : {O A : Type 0} {F : List Step → List Step} {Q : A → List Token → List Token → Type 0} (T : Place → List Step → List Step) →
    ((t : Token) (ts : List Token) → Leads (T t.place) (t ∷ ts) ts) →
    (c : Symbol → Option O) {g : O × Place → Reader A} {r : Reader A} →
    ((o : O × Place) → Keeps (λ steps. F (T o.1 steps)) Q (g o)) → Keeps F Q r → Keeps F Q (branch c g r)
unfolding branch
keeps_branch_by {O = O} {F = F} {Q = Q} T one c {g = g} {r = r} h k = record { reaches = go }
  where
    at : (start : List Token) (t : Token) (ts : List Token) → Leads F start (t ∷ ts) → (o : Option O) →
        Reaches (λ x rest. Q x start rest) (branch_at o g r t ts)
    at start t ts l (Some o) = (h (o, t.place)).reaches start ts (λ steps rest w. l (T t.place steps) rest (one t ts steps rest w))
    at start t ts l None = k.reaches start (t ∷ ts) l

    go : (start ts : List Token) → Leads F start ts → Reaches (λ x rest. Q x start rest) (branch c g r ts)
    go start [] l = k.reaches start [] l
    go start (t ∷ ts) l = at start t ts l (c t.kind)

-- its place is not kept
pub pass_branch : {O A : Type 0} {F : List Step → List Step} {Q : A → List Token → List Token → Type 0} (c : Symbol → Option O) {g : O × Place →
    Reader A} {r : Reader A} → ((o : O × Place) → Keeps (λ steps. F (next ∷ steps)) Q (g o)) → Keeps F Q r → Keeps F Q (branch c g r)
pass_branch c h k = keeps_branch_by (λ p steps. next ∷ steps) (λ t ts steps rest w. w) c h k

-- it is kept
pub keep_branch : {O A : Type 0} {F : List Step → List Step} {Q : A → List Token → List Token → Type 0} (c : Symbol → Option O) {g : O × Place →
    Reader A} {r : Reader A} → ((o : O × Place) → Keeps (λ steps. F (here o.1 ∷ next ∷ steps)) Q (g o)) → Keeps F Q r → Keeps F Q (branch c g r)
keep_branch c h k = keeps_branch_by (λ p steps. here p ∷ next ∷ steps) (λ t ts steps rest w. (refl, w)) c h k

-- it is kept twice
pub keep_branch_twice : {O A : Type 0} {F : List Step → List Step} {Q : A → List Token → List Token → Type 0} (c : Symbol → Option O) {g : O × Place →
    Reader A} {r : Reader A} → ((o : O × Place) → Keeps (λ steps. F (here o.1 ∷ here o.1 ∷ next ∷ steps)) Q (g o)) → Keeps F Q r → Keeps F Q (branch c g r)
keep_branch_twice c h k = keeps_branch_by (λ p steps. here p ∷ here p ∷ next ∷ steps) (λ t ts steps rest w. (refl, (refl, w))) c h k

pub pass_then : {O A : Type 0} {F : List Step → List Step} {Q : A → List Token → List Token → Type 0} (c : Symbol → Option O) {k : O × Place → Reader A} →
    ((o : O × Place) → Keeps (λ steps. F (next ∷ steps)) Q (k o)) → Keeps F Q (bind (take_as c) k)
unfolding take_as
pass_then {F = F} c t = keeps_bind {M = λ o steps. F (next ∷ steps)} (pass_branch c (λ o. leads_pure o (λ steps. refl)) keeps_stop) t

pub keep_then : {O A : Type 0} {F : List Step → List Step} {Q : A → List Token → List Token → Type 0} (c : Symbol → Option O) {k : O × Place → Reader A} →
    ((o : O × Place) → Keeps (λ steps. F (here o.1 ∷ next ∷ steps)) Q (k o)) → Keeps F Q (bind (take_as c) k)
unfolding take_as
keep_then {F = F} c t = keeps_bind {M = λ o steps. F (here o.1 ∷ next ∷ steps)} (keep_branch c (λ o. leads_pure o (λ steps. refl)) keeps_stop) t

pub keeps_choose : {A : Type 0} {F : List Step → List Step} {Q : A → List Token → List Token → Type 0} (c : Symbol → Bool) {g r : Reader A} →
    Keeps F Q g → Keeps F Q r → Keeps F Q (choose c g r)
unfolding choose
keeps_choose {F = F} {Q = Q} c {g = g} {r = r} h k = record { reaches = go }
  where
    at : (start : List Token) (t : Token) (ts : List Token) → Leads F start (t ∷ ts) → (b : Bool) →
        Reaches (λ x rest. Q x start rest) (choose_at b g r (t ∷ ts))
    at start t ts l true = h.reaches start (t ∷ ts) l
    at start t ts l false = k.reaches start (t ∷ ts) l

    go : (start ts : List Token) → Leads F start ts → Reaches (λ x rest. Q x start rest) (choose c g r ts)
    go start [] l = k.reaches start [] l
    go start (t ∷ ts) l = at start t ts l (c t.kind)

-- a token by itself
pub keeps_take : {O : Type 0} (c : Symbol → Option O) → Whole (λ o. here o.1 ∷ next ∷ []) (take_as c)
unfolding take_as
keeps_take c = keep_branch c (λ o. keeps_pure o refl) keeps_stop

-- no steps follow
pub keeps_end : {A : Type 0} {F : List Step → List Step} {M : A → List Step → List Step} {K : A → List Step} {r : Reader A} → ((x : A) → M x [] ≡ K x) →
    Keeps F (Leading M) r → Keeps F (Traced K) r
keeps_end {A = A} {F = F} {M = M} {K = K} {r = r} e h = record { reaches = λ start ts l. go start (r ts) (h.reaches start ts l) }
  where
    go : (start : List Token) (o : Outcome A) → Reaches (λ x rest. Leading M x start rest) o → Reaches (λ x rest. Traced K x start rest) o
    go start (Ok p) w = record { kept = subst (λ z. AreKept z start p.1) (e p.0) (w.leads [] p.1 refl) }
    go start (Err q) w = tt

-- what is made of a value that is read
pub keeps_made : {A B : Type 0} {F : List Step → List Step} {K : A → List Step} {K' : B → List Step} {r : Reader A} (f : A → B) →
    ((x : A) (start rest : List Token) → AreKept (K x) start rest → AreKept (K' (f x)) start rest) → Keeps F (Traced K) r →
    Keeps F (Traced K') (bind r (λ x. pure (f x)))
unfolding bind pure
keeps_made {A = A} {F = F} {K = K} {K' = K'} {r = r} f e h = record { reaches = λ start ts l. go start (r ts) (h.reaches start ts l) }
  where
    go : (start : List Token) (o : Outcome A) → Reaches (λ x rest. Traced K x start rest) o →
        Reaches (λ y rest. Traced K' y start rest) (then_read o (λ x. pure (f x)))
    go start (Ok p) w = record { kept = e p.0 start p.1 w.kept }
    go start (Err q) w = tt
