-- What a branch and a choice come to, by the first token.
use Rattle.std.proofs.Common.{◌≡◌, suc, List, [], ◌∷◌, ◌++◌, length, map, Bool, true, false, Option, Some, None, Ok, refl, ap, ◌∙◌}
use Rattle.std.proofs.lemmas.List.{map-append}
use Rattle.pfc_base.specs.declared.places.Place.{Place}
use Rattle.pfc_base.specs.declared.tokens.Token.{Token}
use Rattle.pfc_tree.specs.Symbols.{Symbol}
use Rattle.pfc_grammar.specs.Heads.{takes}
use Rattle.pfc_grammar.specs.placed.Reading.{Reader, Outcome, bind, then_read, branch, branch_at, choose, choose_at}
use Rattle.pfc_token_parser.specs.declared.tokens.Halt as fault
use Rattle.pfc_token_parser.specs.declared.tokens.Halt.TheVariants.{Unexpected, Deep, Memory}
use Rattle.pfc_token_parser.specs.Giving.{Halts, taken, taken_at, sees}

some_is : {A : Type 0} (x y : A) → Some x ≡ Some y → x ≡ y
some_is x y e = cc

-- what a branch comes to, by what is taken
pub branch_taken : {O A : Type 0} (f : Symbol → Option O) (g : O × Place → Reader A) (r : Reader A) (ts more : List Token) (o : O × Place) →
    taken f ts ≡ Some (o, more) → branch f g r ts ≡ g o more
unfolding branch
branch_taken f g r [] more o e = cc
branch_taken f g r (t ∷ ts) more o e = elim (f t.kind) as (λ b. taken_at b t.place ts ≡ Some (o, more) → branch_at b g r t ts ≡ g o more)
    [ Some x ↦ λ h. let p = some_is ((x, t.place), ts) (o, more) h in ap (λ q. g q.0 q.1) p | None ↦ λ h. cc ] e

pub branch_not_taken : {O A : Type 0} (f : Symbol → Option O) (g : O × Place → Reader A) (r : Reader A) (ts : List Token) →
    taken f ts ≡ None → branch f g r ts ≡ r ts
unfolding branch
branch_not_taken f g r [] e = refl
branch_not_taken f g r (t ∷ ts) e = elim (f t.kind) as (λ b. taken_at b t.place ts ≡ None → branch_at b g r t ts ≡ r (t ∷ ts))
    [ Some x ↦ λ h. cc | None ↦ λ h. refl ] e

pub taken_shorter : {O : Type 0} (f : Symbol → Option O) (ts more : List Token) (o : O × Place) → taken f ts ≡ Some (o, more) → length ts ≡ suc (length more)
taken_shorter f [] more o e = cc
taken_shorter f (t ∷ ts) more o e = elim (f t.kind) as (λ b. taken_at b t.place ts ≡ Some (o, more) → length (t ∷ ts) ≡ suc (length more))
    [ Some x ↦ λ h. let p = some_is ((x, t.place), ts) (o, more) h in ap (λ q. suc (length q.1)) p | None ↦ λ h. cc ] e

-- what a choice comes to, by what is seen
pub choose_seen : {A : Type 0} (p : Symbol → Bool) (g r : Reader A) (ts : List Token) → sees p ts ≡ true → choose p g r ts ≡ g ts
unfolding choose
choose_seen p g r [] e = cc
choose_seen p g r (t ∷ ts) e = ap (λ b. choose_at b g r (t ∷ ts)) e

pub choose_not_seen : {A : Type 0} (p : Symbol → Bool) (g r : Reader A) (ts : List Token) → sees p ts ≡ false → choose p g r ts ≡ r ts
unfolding choose
choose_not_seen p g r [] e = refl
choose_not_seen p g r (t ∷ ts) e = ap (λ b. choose_at b g r (t ∷ ts)) e

-- whether a token is seen, by whether it is taken
pub seen_taken : {O : Type 0} (f : Symbol → Option O) (ts more : List Token) (o : O × Place) → taken f ts ≡ Some (o, more) → sees (λ s. takes (f s)) ts ≡ true
seen_taken f [] more o e = cc
seen_taken f (t ∷ ts) more o e = elim (f t.kind) as (λ b. taken_at b t.place ts ≡ Some (o, more) → takes b ≡ true) [ Some x ↦ λ h. refl | None ↦ λ h. cc ] e

pub seen_not_taken : {O : Type 0} (f : Symbol → Option O) (ts : List Token) → taken f ts ≡ None → sees (λ s. takes (f s)) ts ≡ false
seen_not_taken f [] e = refl
seen_not_taken f (t ∷ ts) e = elim (f t.kind) as (λ b. taken_at b t.place ts ≡ None → takes b ≡ false) [ Some x ↦ λ h. cc | None ↦ λ h. refl ] e

-- what going on comes to, by what the first reader gives
pub bind_given : {A B : Type 0} (r : Reader A) (g : A → Reader B) (ts rest : List Token) (x : A) (out : Outcome B) →
    r ts ≡ Ok (x, rest) → g x rest ≡ out → bind r g ts ≡ out
unfolding bind
bind_given r g ts rest x out e k = ap (λ w. then_read w g) e ∙ k

pub bind_halts : {A B : Type 0} (r : Reader A) (g : A → Reader B) (ts : List Token) (h : fault.Halt) → Halts h (r ts) → Halts h (bind r g ts)
unfolding bind
bind_halts r g ts (Unexpected n) e = ap (λ w. then_read w g) e
bind_halts r g ts (Deep n) e = ap (λ w. then_read w g) e
bind_halts r g ts Memory e = tt

-- what an item adds to a list whose items are read
pub viewed : {A B : Type 0} (v : B → A) (xs ys : List B) (x : B) → ys ≡ xs ++ x ∷ [] → map v ys ≡ map v xs ++ v x ∷ []
viewed v xs ys x e = ap (map v) e ∙ map-append v xs (x ∷ [])
