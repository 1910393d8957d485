-- Readers of tokens: the combinators of the readers of kinds, over tokens with their places. What is taken from a token
-- comes with its place.
use Rattle.std.specs.Prelude.{ℕ, zero, suc, List, [], ◌∷◌, ◌++◌, length, Option, Some, None, Bool, true, false, Result, Ok, Err}
use Rattle.pfc_base.specs.declared.places.Place.{Place}
use Rattle.pfc_base.specs.declared.tokens.Token.{Token}
use Rattle.pfc_tree.specs.Symbols.{Symbol}
use Rattle.pfc_grammar.specs.Reading.{Halt, bad, deep}

-- what a reading comes to: a value and the tokens that are left, or a halt
abbrev pub Outcome : Type 0 → Type 0
Outcome A = Result (A × List Token) Halt

abbrev pub Reader : Type 0 → Type 0
Reader A = List Token → Outcome A

-- takes no token
unfoldable pub pure : {A : Type 0} → A → Reader A
pure x ts = Ok (x, ts)

-- what comes of going on after an outcome
abbrev pub then_read : {A B : Type 0} → Outcome A → (A → Reader B) → Outcome B
then_read (Ok p) g = g p.0 p.1
then_read (Err h) g = Err h

-- the second reader goes on where the first ended
unfoldable pub bind : {A B : Type 0} → Reader A → (A → Reader B) → Reader B
bind r g ts = then_read (r ts) g

abbrev pub ◌>>=◌ : {A B : Type 0} → Reader A → (A → Reader B) → Reader B
◌>>=◌ r g = bind r g

-- the token that stands here is not expected, or the end is not
unfoldable pub stop : {A : Type 0} → Reader A
stop ts = Err (bad (length ts))

-- the token that stands here is too deep
unfoldable pub stop_deep : {A : Type 0} → Reader A
stop_deep ts = Err (deep (length ts))

-- a place that is never kept: no token stands at line 0
abbrev pub no_place : Place
no_place = record { line = 0; column = 0 }

abbrev pub first_place : List Token → Place
first_place [] = no_place
first_place (t ∷ ts) = t.place

-- takes no token, and gives the place of the one that comes; where none comes, nothing that is read keeps it
unfoldable pub peek : Reader Place
peek ts = Ok (first_place ts, ts)

-- the reader for what the first token says, with its place, behind that token, or the other one from that token on
abbrev pub branch_at : {O A : Type 0} → Option O → (O × Place → Reader A) → Reader A → Token → List Token → Outcome A
branch_at (Some o) g r t ts = g (o, t.place) ts
branch_at None g r t ts = r (t ∷ ts)

-- takes the first token and goes on with what it says, or else reads as the last argument
unfoldable pub branch : {O A : Type 0} → (Symbol → Option O) → (O × Place → Reader A) → Reader A → Reader A
branch f g r [] = r []
branch f g r (t ∷ ts) = branch_at (f t.kind) g r t ts

abbrev pub choose_at : {A : Type 0} → Bool → Reader A → Reader A → Reader A
choose_at true g r ts = g ts
choose_at false g r ts = r ts

-- looks at the first token and goes on by it
unfoldable pub choose : {A : Type 0} → (Symbol → Bool) → Reader A → Reader A → Reader A
choose p g r [] = r []
choose p g r (t ∷ ts) = choose_at (p t.kind) g r (t ∷ ts)

-- takes one token
unfoldable pub take_as : {O : Type 0} → (Symbol → Option O) → Reader (O × Place)
take_as f = branch f pure stop

-- items, each behind a token that f takes, onto the items that are there; at most so many
unfoldable pub many_turns : {O A : Type 0} → ℕ → List A → (Symbol → Option O) → (O × Place → Reader A) → Reader (List A)
many_turns zero xs f g = pure xs
many_turns (suc k) xs f g = branch f (λ o. bind (g o) (λ x. many_turns k (xs ++ x ∷ []) f g)) (pure xs)

-- items, each behind a token that f takes, onto the items that are there: each takes a token, so there are no more than tokens
unfoldable pub many_onto : {O A : Type 0} → List A → (Symbol → Option O) → (O × Place → Reader A) → Reader (List A)
many_onto xs f g ts = many_turns (length ts) xs f g ts

-- none or more items, each behind a token that f takes
unfoldable pub many : {O A : Type 0} → (Symbol → Option O) → (O × Place → Reader A) → Reader (List A)
many f g = many_onto [] f g

-- one or more items, each behind a token that f takes
unfoldable pub some_of : {O A : Type 0} → (Symbol → Option O) → (O × Place → Reader A) → Reader (List A)
some_of f g = branch f (λ o. bind (g o) (λ x. many_onto (x ∷ []) f g)) stop

-- one or more items, with a token that f takes between them
unfoldable pub list_of : {O A : Type 0} → (Symbol → Option O) → Reader A → Reader (List A)
list_of f r = bind r (λ x. many_onto (x ∷ []) f (λ o. r))

-- items onto those that are there, each behind a token that f takes, and whether one more such token stands
-- before the token that ends the list; at most so many
unfoldable pub end_turns : {O A : Type 0} → ℕ → List A → (Symbol → Option O) → (Symbol → Bool) → Reader A → Reader (List A × Bool)
end_turns zero xs f p r = pure (xs, false)
end_turns (suc k) xs f p r = branch f (λ o. choose p (pure (xs, true)) (bind r (λ x. end_turns k (xs ++ x ∷ []) f p r))) (pure (xs, false))

unfoldable pub end_onto : {O A : Type 0} → List A → (Symbol → Option O) → (Symbol → Bool) → Reader A → Reader (List A × Bool)
end_onto xs f p r ts = end_turns (length ts) xs f p r ts

-- one or more items, with a token that f takes between them and perhaps one more before the token that ends the list
unfoldable pub list_end : {O A : Type 0} → (Symbol → Option O) → (Symbol → Bool) → Reader A → Reader (List A × Bool)
list_end f p r = bind r (λ x. end_onto (x ∷ []) f p r)

-- items as long as the first token is one that begins an item; at most so many
unfoldable pub while_turns : {A : Type 0} → ℕ → List A → (Symbol → Bool) → Reader A → Reader (List A)
while_turns zero xs p r = pure xs
while_turns (suc k) xs p r = choose p (bind r (λ x. while_turns k (xs ++ x ∷ []) p r)) (pure xs)

-- items onto those that are there, as long as the first token is one that begins an item
unfoldable pub while_onto : {A : Type 0} → List A → (Symbol → Bool) → Reader A → Reader (List A)
while_onto xs p r ts = while_turns (length ts) xs p r ts

-- none or more items, as long as the first token is one that begins an item
unfoldable pub many_while : {A : Type 0} → (Symbol → Bool) → Reader A → Reader (List A)
many_while p r = while_onto [] p r

-- nothing follows
unfoldable pub finish : {A : Type 0} → A → Reader A
finish x [] = Ok (x, [])
finish x (t ∷ ts) = Err (bad (length (t ∷ ts)))
