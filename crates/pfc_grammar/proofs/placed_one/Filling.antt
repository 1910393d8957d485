-- A shape is filled with the places of tokens, along its trace. So a tree is determined by its shape and the tokens.
use Rattle.std.proofs.Common.{◌≡◌, List, [], ◌∷◌, ◌++◌, Bool, true, false, refl, sym, ap, subst, ◌∙◌, append_assoc}
use Rattle.pfc_base.specs.declared.places.Place.{Place}
use Rattle.pfc_base.specs.declared.tokens.Token.{Token}
use Rattle.pfc_tree.specs.kept.Exprs.{Step, here, next, ComesAt, AreKept}
use Rattle.pfc_tree.specs.kept.Types.{flag_trace}
use Rattle.pfc_grammar.specs.placed.Reading.{first_place}

-- takes tokens for the places of a value, and gives the value and the tokens that are left
abbrev pub Filler : Type 0 → Type 0
Filler A = List Token → A × List Token

-- takes no token
unfoldable pub fill_done : {A : Type 0} → A → Filler A
fill_done x ts = (x, ts)

-- the place of the token that comes
unfoldable pub fill_here : {A : Type 0} → (Place → Filler A) → Filler A
fill_here k ts = k (first_place ts) ts

-- passes a token
unfoldable pub fill_next : {A : Type 0} → Filler A → Filler A
fill_next c [] = c []
fill_next c (t ∷ ts) = c ts

-- a part, and what is behind it
unfoldable pub fill_part : {A B : Type 0} → Filler A → (A → Filler B) → Filler B
fill_part f k ts = k (f ts).0 (f ts).1

-- a last part
unfoldable pub fill_last : {A B : Type 0} → Filler A → (A → B) → Filler B
fill_last f h ts = (h (f ts).0, (f ts).1)

-- of tokens along which the trace goes, c makes x
pub record Fills {A : Type 0} (trace : List Step) (c : Filler A) (x : A) : Type 0 where
  pub fills : (ts rest : List Token) → AreKept trace ts rest → c ts ≡ (x, rest)

-- where one trace ends and the other begins
record Split (a b : List Step) (ts rest : List Token) : Type 0 where
  mid : List Token
  front : AreKept a ts mid
  back : AreKept b mid rest

split : (a b : List Step) (ts rest : List Token) → AreKept (a ++ b) ts rest → Split a b ts rest
split [] b ts rest h = record { mid = ts; front = refl; back = h }
split (here p ∷ a) b ts rest h = let s : Split a b ts rest = split a b ts rest h.1 in record { mid = s.mid; front = (h.0, s.front); back = s.back }
split (next ∷ a) b [] rest h = absurd h
split (next ∷ a) b (t ∷ ts) rest h = let s : Split a b ts rest = split a b ts rest h in record { mid = s.mid; front = s.front; back = s.back }

pub fills_done : {A : Type 0} (x : A) → Fills [] (fill_done x) x
unfolding fill_done
fills_done x = record { fills = λ ts rest h. ap (λ z. (x, z)) h }

comes : (p : Place) (ts : List Token) → ComesAt p ts → first_place ts ≡ p
comes p [] h = absurd h
comes p (t ∷ ts) h = h

pub fills_here : {A : Type 0} {p : Place} {trace : List Step} (k : Place → Filler A) {x : A} → Fills trace (k p) x → Fills (here p ∷ trace) (fill_here k) x
unfolding fill_here
fills_here {p = p} k w = record { fills = λ ts rest h. ap (λ q. k q ts) (comes p ts h.0) ∙ w.fills ts rest h.1 }

pub fills_next : {A : Type 0} {trace : List Step} {c : Filler A} {x : A} → Fills trace c x → Fills (next ∷ trace) (fill_next c) x
unfolding fill_next
fills_next {trace = trace} {c = c} {x = x} w = record { fills = go }
  where
    go : (ts rest : List Token) → AreKept (next ∷ trace) ts rest → fill_next c ts ≡ (x, rest)
    go [] rest h = absurd h
    go (t ∷ ts) rest h = w.fills ts rest h

pub fills_part : {A B : Type 0} {a b : List Step} {f : Filler A} (k : A → Filler B) {y : A} {x : B} → Fills a f y →
    Fills b (k y) x → Fills (a ++ b) (fill_part f k) x
unfolding fill_part
fills_part {a = a} {b = b} {f = f} k {x = x} v w = record { fills = λ ts rest h. at ts rest (split a b ts rest h) }
  where
    at : (ts rest : List Token) → Split a b ts rest → k (f ts).0 (f ts).1 ≡ (x, rest)
    at ts rest s = ap (λ z. k z.0 z.1) (v.fills ts s.mid s.front) ∙ w.fills s.mid rest s.back

pub fills_last : {A B : Type 0} {a : List Step} {f : Filler A} (h : A → B) {y : A} {x : B} → Fills a f y → h y ≡ x → Fills a (fill_last f h) x
unfolding fill_last
fills_last h v e = record { fills = λ ts rest w. ap (λ z. (h z.0, z.1)) (v.fills ts rest w) ∙ ap (λ z. (z, rest)) e }

-- parts, as a trace groups them
pub fills_three : {A : Type 0} (a b d : List Step) {c : Filler A} {x : A} → Fills (a ++ (b ++ d)) c x → Fills ((a ++ b) ++ d) c x
fills_three a b d {c = c} {x = x} w = subst (λ z. Fills z c x) (sym (append_assoc a b d)) w

pub fills_four : {A : Type 0} (a b d e : List Step) {c : Filler A} {x : A} → Fills (a ++ (b ++ (d ++ e))) c x → Fills (((a ++ b) ++ d) ++ e) c x
fills_four a b d e w = fills_three (a ++ b) d e (fills_three a b (d ++ e) w)

pub fills_five : {A : Type 0} (a b d e f : List Step) {c : Filler A} {x : A} → Fills (a ++ (b ++ (d ++ (e ++ f)))) c x → Fills ((((a ++ b) ++ d) ++ e) ++ f) c x
fills_five a b d e f w = fills_four (a ++ b) d e f (fills_three a b (d ++ (e ++ f)) w)

pub fills_six : {A : Type 0} (a b d e f g : List Step) {c : Filler A} {x : A} → Fills (a ++ (b ++ (d ++ (e ++ (f ++ g))))) c x →
    Fills (((((a ++ b) ++ d) ++ e) ++ f) ++ g) c x
fills_six a b d e f g w = fills_five (a ++ b) d e f g (fills_three a b (d ++ (e ++ (f ++ g))) w)

-- a token that may stand, whose place is not kept
abbrev pub fill_flag : Bool → Filler Bool
fill_flag false = fill_done false
fill_flag true = fill_next (fill_done true)

pub fills_flag : (b : Bool) → Fills (flag_trace b) (fill_flag b) b
fills_flag false = fills_done false
fills_flag true = fills_next (fills_done true)
