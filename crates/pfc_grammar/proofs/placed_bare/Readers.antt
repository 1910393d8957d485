-- A reader of tokens that agrees with a reader of kinds but for places: the combinators.
use Rattle.std.proofs.Common.{◌≡◌, suc, List, [], ◌∷◌, length, Bool, true, false, Option, Some, None, Ok, Err, refl, ap, ◌∙◌}
use Rattle.pfc_base.specs.declared.places.Place.{Place}
use Rattle.pfc_base.specs.declared.tokens.Token.{Token}
use Rattle.pfc_tree.specs.Symbols.{Symbol, symbols}
use Rattle.pfc_grammar.specs.Reading.{bad, deep}
use Rattle.pfc_grammar.specs.Reading as kinds
use Rattle.pfc_grammar.specs.placed.Reading.{Outcome, Reader, pure, then_read, bind, stop, stop_deep, first_place, peek, branch_at, branch, choose_at, choose}
use Rattle.pfc_grammar.specs.placed.Reading.{take_as, finish}

-- an outcome without places: the value by f, and the kinds that are left
abbrev pub bare_by : {A B : Type 0} → (A → B) → Outcome A → kinds.Outcome B
bare_by f (Ok p) = Ok (f p.0, symbols p.1)
bare_by f (Err h) = Err h

-- what r gives of tokens is, by f, what q gives of their kinds
pub record Bares {A B : Type 0} (f : A → B) (r : Reader A) (q : kinds.Reader B) : Type 0 where
  pub gives : (ts : List Token) → bare_by f (r ts) ≡ q (symbols ts)

pub counted : (ts : List Token) → length ts ≡ length (symbols ts)
counted [] = refl
counted (t ∷ ts) = ap (λ n. suc n) (counted ts)

pub bare_pure : {A B : Type 0} {f : A → B} (x : A) {y : B} → f x ≡ y → Bares f (pure x) (kinds.pure y)
unfolding pure kinds.pure
bare_pure x e = record { gives = λ ts. ap (λ z. Ok (z, symbols ts)) e }

pub bare_stop : {A B : Type 0} {f : A → B} → Bares f stop kinds.stop
unfolding stop kinds.stop
bare_stop = record { gives = λ ts. ap (λ n. Err (bad n)) (counted ts) }

pub bare_stop_deep : {A B : Type 0} {f : A → B} → Bares f stop_deep kinds.stop_deep
unfolding stop_deep kinds.stop_deep
bare_stop_deep = record { gives = λ ts. ap (λ n. Err (deep n)) (counted ts) }

pub bare_bind : {A A' B B' : Type 0} {f : A → A'} {g : B → B'} {r : Reader A} {q : kinds.Reader A'} {k : A → Reader B} (k' : A' → kinds.Reader B') →
    Bares f r q → ((x : A) → Bares g (k x) (k' (f x))) → Bares g (bind r k) (kinds.bind q k')
unfolding bind kinds.bind
bare_bind {A = A} {f = f} {g = g} {r = r} {k = k} k' h t = record { gives = λ ts. go (r ts) ∙ ap (λ z. kinds.then_read z k') (h.gives ts) }
  where
    go : (o : Outcome A) → bare_by g (then_read o k) ≡ kinds.then_read (bare_by f o) k'
    go (Ok p) = (t p.0).gives p.1
    go (Err e) = refl

pub bare_branch : {O A B : Type 0} {f : A → B} (c : Symbol → Option O) {g : O × Place → Reader A} (g' : O → kinds.Reader B) {r : Reader A}
    {q : kinds.Reader B} → ((o : O × Place) → Bares f (g o) (g' o.0)) → Bares f r q → Bares f (branch c g r) (kinds.branch c g' q)
unfolding branch kinds.branch
bare_branch {O = O} {f = f} c {g = g} g' {r = r} {q = q} h k = record { gives = go }
  where
    at : (t : Token) (ts : List Token) (o : Option O) → bare_by f (branch_at o g r t ts) ≡ kinds.branch_at o g' q t.kind (symbols ts)
    at t ts (Some o) = (h (o, t.place)).gives ts
    at t ts None = k.gives (t ∷ ts)

    go : (ts : List Token) → bare_by f (branch c g r ts) ≡ kinds.branch c g' q (symbols ts)
    go [] = k.gives []
    go (t ∷ ts) = at t ts (c t.kind)

pub bare_choose : {A B : Type 0} {f : A → B} (c : Symbol → Bool) {g r : Reader A} {g' q : kinds.Reader B} → Bares f g g' → Bares f r q →
    Bares f (choose c g r) (kinds.choose c g' q)
unfolding choose kinds.choose
bare_choose {f = f} c {g = g} {r = r} {g' = g'} {q = q} h k = record { gives = go }
  where
    at : (t : Token) (ts : List Token) (b : Bool) → bare_by f (choose_at b g r (t ∷ ts)) ≡ kinds.choose_at b g' q (symbols (t ∷ ts))
    at t ts true = h.gives (t ∷ ts)
    at t ts false = k.gives (t ∷ ts)

    go : (ts : List Token) → bare_by f (choose c g r ts) ≡ kinds.choose c g' q (symbols ts)
    go [] = k.gives []
    go (t ∷ ts) = at t ts (c t.kind)

pub bare_take : {O : Type 0} (c : Symbol → Option O) → Bares (λ o. o.0) (take_as c) (kinds.take_as c)
unfolding take_as kinds.take_as
bare_take c = bare_branch c kinds.pure (λ o. bare_pure o refl) bare_stop

pub bare_peek : {A B : Type 0} {f : A → B} {k : Place → Reader A} {q : kinds.Reader B} → ((p : Place) → Bares f (k p) q) → Bares f (bind peek k) q
unfolding bind peek
bare_peek h = record { gives = λ ts. (h (first_place ts)).gives ts }

pub bare_finish : {A B : Type 0} {f : A → B} (x : A) → Bares f (finish x) (kinds.finish (f x))
unfolding finish kinds.finish
bare_finish {f = f} x = record { gives = go }
  where
    go : (ts : List Token) → bare_by f (finish x ts) ≡ kinds.finish (f x) (symbols ts)
    go [] = refl
    go (t ∷ ts) = ap (λ n. Err (bad n)) (counted (t ∷ ts))
