-- The first by a key is the process that has the least number by it, and the last the one with the greatest.
use Rattle.std.proofs.Common.{◌≡◌, ℕ, zero, suc, ◌≤◌, Bool, true, false, ◌==◌, min, max, Option, None, Some, List, [], ◌∷◌, arith, refl, sym, ap, ◌∙◌, cond}
use Rattle.std.specs.Prelude.{option_map}
use Rattle.std.proofs.lemmas.Bool.{eq-eqb, eqb-true}
use Rattle.pfc_state.specs.Stands.{Stand, Is_idle}
use Rattle.pfc_world.specs.Tables.{at}
use Rattle.pfc_world.specs.Tickets.{AreApart}
use Rattle.pfc_world.specs.Firsts.{IsFirst, IsLast, IsNobody, GivesTickets, lesser, least, greater, greatest, has_number, holder, holder_of, first, last}

-- where a key gives only tickets, nobody idle has one, and no two have the same
pub idle-none : (key : Stand → Option ℕ) → GivesTickets key → key Is_idle ≡ None
idle-none key gives = go (key Is_idle) (λ t h. gives Is_idle t h)
  where
    go : (o : Option ℕ) → ((t : ℕ) → o ≡ Some t → None ≡ Some t) → o ≡ None
    go None h = refl
    go (Some t) h = sym (h t refl)

pub keys-apart : (key : Stand → Option ℕ) (rows : List Stand) → GivesTickets key → AreApart rows
    → (j k t : ℕ) → key (at rows j) ≡ Some t → key (at rows k) ≡ Some t → j ≡ k
keys-apart key rows gives apart j k t h g = apart j k t (gives (at rows j) t h) (gives (at rows k) t g)

-- a fact on all places of a list is one on those behind the first
behind : (key : Stand → Option ℕ) (s : Stand) (rest : List Stand) (P : ℕ → Type 0)
    → ((q u : ℕ) → key (at (s ∷ rest) q) ≡ Some u → P u) → (q u : ℕ) → key (at rest q) ≡ Some u → P u
behind key s rest P h q u e = h (suc q) u e

pub least-none : (key : Stand → Option ℕ) (rows : List Stand) → ((q : ℕ) → key (at rows q) ≡ None) → least key rows ≡ None
least-none key [] h = refl
least-none key (s ∷ rest) h = ap (λ o. lesser o (least key rest)) (h 0) ∙ least-none key rest (λ q. h (suc q))

-- what the least can be before a number that is no greater than any
lesser-least : (key : Stand → Option ℕ) (rest : List Stand) (t : ℕ)
    → ((q u : ℕ) → key (at rest q) ≡ Some u → t ≤ u) → lesser (Some t) (least key rest) ≡ Some t
lesser-least key [] t h = refl
lesser-least key (s ∷ rest) t h = go (key s) (least key rest) (h 0) (lesser-least key rest t (λ q. h (suc q)))
  where
    go : (o l : Option ℕ) → ((u : ℕ) → o ≡ Some u → t ≤ u) → lesser (Some t) l ≡ Some t → lesser (Some t) (lesser o l) ≡ Some t
    go None l below ih = ih
    go (Some u) None below ih = let le : t ≤ u = below u refl in ap (λ n. Some n) (grind arith)
    go (Some u) (Some v) below ih = let le : t ≤ u = below u refl in let e : min t v ≡ t = cc in ap (λ n. Some n) (grind arith)

pub least-is : (key : Stand → Option ℕ) (rows : List Stand) (p t : ℕ)
    → key Is_idle ≡ None → key (at rows p) ≡ Some t → ((q u : ℕ) → key (at rows q) ≡ Some u → t ≤ u) → least key rows ≡ Some t
least-is key [] p t idle own h = let e : None ≡ Some t = sym idle ∙ own in cc
least-is key (s ∷ rest) zero t idle own h = ap (λ o. lesser o (least key rest)) own ∙ lesser-least key rest t (λ q. h (suc q))
least-is key (s ∷ rest) (suc p) t idle own h =
    ap (λ l. lesser (key s) l) (least-is key rest p t idle own (λ q. h (suc q))) ∙ go (key s) (h 0)
  where
    go : (o : Option ℕ) → ((u : ℕ) → o ≡ Some u → t ≤ u) → lesser o (Some t) ≡ Some t
    go None below = refl
    go (Some u) below = let le : t ≤ u = below u refl in ap (λ n. Some n) (grind arith)

holder-is : (key : Stand → Option ℕ) (rows : List Stand) (p t : ℕ)
    → key Is_idle ≡ None → key (at rows p) ≡ Some t → ((q : ℕ) → key (at rows q) ≡ Some t → q ≡ p) → holder key t rows ≡ Some p
holder-is key [] p t idle own only = let e : None ≡ Some t = sym idle ∙ own in cc
holder-is key (s ∷ rest) zero t idle own only =
    ap (λ o. cond (has_number t o) (Some 0) (option_map suc (holder key t rest))) own ∙
    ap (λ b. cond b (Some 0) (option_map suc (holder key t rest))) (eq-eqb t t refl)
holder-is key (s ∷ rest) (suc p) t idle own only =
    go (key s) (only 0) ∙ ap (λ o. option_map suc o) (holder-is key rest p t idle own (λ q h. let e : suc q ≡ suc p = only (suc q) h in omega arith))
  where
    go : (o : Option ℕ) → (o ≡ Some t → 0 ≡ suc p) → cond (has_number t o) (Some 0) (option_map suc (holder key t rest)) ≡ option_map suc (holder key t rest)
    go None h = refl
    go (Some u) h = tested (u == t) (λ e. let z : 0 ≡ suc p = h (ap (λ n. Some n) (eqb-true u t e)) in absurd (omega arith))
      where
        tested : (b : Bool) → (b ≡ true → ⊥) → cond b (Some 0) (option_map suc (holder key t rest)) ≡ option_map suc (holder key t rest)
        tested true h = absurd (h refl)
        tested false h = refl

-- The process of least ticket is the first.
pub first-is : (key : Stand → Option ℕ) (rows : List Stand) (p : ℕ) → GivesTickets key → AreApart rows → IsFirst key rows p → first key rows ≡ Some p
first-is key rows p gives apart h =
    ap (λ o. holder_of key o rows) (least-is key rows p h.ticket (idle-none key gives) h.own h.least)
    ∙ holder-is key rows p h.ticket (idle-none key gives) h.own (λ q e. keys-apart key rows gives apart q p h.ticket e h.own)

pub first-none : (key : Stand → Option ℕ) (rows : List Stand) → IsNobody key rows → first key rows ≡ None
first-none key rows h = ap (λ o. holder_of key o rows) (least-none key rows h)

greatest-none : (key : Stand → Option ℕ) (rows : List Stand) → ((q : ℕ) → key (at rows q) ≡ None) → greatest key rows ≡ None
greatest-none key [] h = refl
greatest-none key (s ∷ rest) h = ap (λ o. greater o (greatest key rest)) (h 0) ∙ greatest-none key rest (λ q. h (suc q))

greater-greatest : (key : Stand → Option ℕ) (rest : List Stand) (t : ℕ)
    → ((q u : ℕ) → key (at rest q) ≡ Some u → u ≤ t) → greater (Some t) (greatest key rest) ≡ Some t
greater-greatest key [] t h = refl
greater-greatest key (s ∷ rest) t h = go (key s) (greatest key rest) (h 0) (greater-greatest key rest t (λ q. h (suc q)))
  where
    go : (o l : Option ℕ) → ((u : ℕ) → o ≡ Some u → u ≤ t) → greater (Some t) l ≡ Some t → greater (Some t) (greater o l) ≡ Some t
    go None l above ih = ih
    go (Some u) None above ih = let le : u ≤ t = above u refl in ap (λ n. Some n) (grind arith)
    go (Some u) (Some v) above ih = let le : u ≤ t = above u refl in let e : max t v ≡ t = cc in ap (λ n. Some n) (grind arith)

greatest-is : (key : Stand → Option ℕ) (rows : List Stand) (p t : ℕ)
    → key Is_idle ≡ None → key (at rows p) ≡ Some t → ((q u : ℕ) → key (at rows q) ≡ Some u → u ≤ t) → greatest key rows ≡ Some t
greatest-is key [] p t idle own h = let e : None ≡ Some t = sym idle ∙ own in cc
greatest-is key (s ∷ rest) zero t idle own h = ap (λ o. greater o (greatest key rest)) own ∙ greater-greatest key rest t (λ q. h (suc q))
greatest-is key (s ∷ rest) (suc p) t idle own h =
    ap (λ l. greater (key s) l) (greatest-is key rest p t idle own (λ q. h (suc q))) ∙ go (key s) (h 0)
  where
    go : (o : Option ℕ) → ((u : ℕ) → o ≡ Some u → u ≤ t) → greater o (Some t) ≡ Some t
    go None above = refl
    go (Some u) above = let le : u ≤ t = above u refl in ap (λ n. Some n) (grind arith)

-- The process of greatest ticket is the last.
pub last-is : (key : Stand → Option ℕ) (rows : List Stand) (p : ℕ) → GivesTickets key → AreApart rows → IsLast key rows p → last key rows ≡ Some p
last-is key rows p gives apart h =
    ap (λ o. holder_of key o rows) (greatest-is key rows p h.ticket (idle-none key gives) h.own h.greatest)
    ∙ holder-is key rows p h.ticket (idle-none key gives) h.own (λ q e. keys-apart key rows gives apart q p h.ticket e h.own)

pub last-none : (key : Stand → Option ℕ) (rows : List Stand) → IsNobody key rows → last key rows ≡ None
last-none key rows h = ap (λ o. holder_of key o rows) (greatest-none key rows h)
