-- Readers: functions from a list of symbols to a value and the symbols that are left, and the combinators that make them.
use Rattle.std.specs.Prelude.{ℕ, zero, suc, List, [], ◌∷◌, ◌++◌, length, Option, Some, None, Bool, true, false, Result, Ok, Err}
use Rattle.pfc_tree.specs.Symbols.{Symbol}

-- why a reading halts, with the number of symbols that are left there
pub data Halt : Type 0 where
  bad : ℕ → Halt
  deep : ℕ → Halt

-- what a reading comes to: a value and the symbols that are left, or a halt
abbrev pub Outcome : Type 0 → Type 0
Outcome A = Result (A × List Symbol) Halt

abbrev pub Reader : Type 0 → Type 0
Reader A = List Symbol → Outcome A

-- takes no symbol
unfoldable pub pure : {A : Type 0} → A → Reader A
pure x ss = Ok (x, ss)

-- what comes of going on after an outcome
abbrev pub then_read : {A B : Type 0} → Outcome A → (A → Reader B) → Outcome B
then_read (Ok p) g = g p.0 p.1
then_read (Err h) g = Err h

-- the second reader goes on where the first ended
unfoldable pub bind : {A B : Type 0} → Reader A → (A → Reader B) → Reader B
bind r g ss = then_read (r ss) g

abbrev pub ◌>>=◌ : {A B : Type 0} → Reader A → (A → Reader B) → Reader B
◌>>=◌ r g = bind r g

-- the symbol that stands here is not expected, or the end is not
unfoldable pub stop : {A : Type 0} → Reader A
stop ss = Err (bad (length ss))

-- the symbol that stands here is too deep
unfoldable pub stop_deep : {A : Type 0} → Reader A
stop_deep ss = Err (deep (length ss))

-- the reader for what the first symbol says, behind that symbol, or the other one from that symbol on
abbrev pub branch_at : {O A : Type 0} → Option O → (O → Reader A) → Reader A → Symbol → List Symbol → Outcome A
branch_at (Some o) g r s ss = g o ss
branch_at None g r s ss = r (s ∷ ss)

-- takes the first symbol and goes on with what it says, or else reads as the last argument
unfoldable pub branch : {O A : Type 0} → (Symbol → Option O) → (O → Reader A) → Reader A → Reader A
branch f g r [] = r []
branch f g r (s ∷ ss) = branch_at (f s) g r s ss

abbrev pub choose_at : {A : Type 0} → Bool → Reader A → Reader A → Reader A
choose_at true g r ss = g ss
choose_at false g r ss = r ss

-- looks at the first symbol and goes on by it
unfoldable pub choose : {A : Type 0} → (Symbol → Bool) → Reader A → Reader A → Reader A
choose p g r [] = r []
choose p g r (s ∷ ss) = choose_at (p s) g r (s ∷ ss)

-- takes one symbol
unfoldable pub take_as : {O : Type 0} → (Symbol → Option O) → Reader O
take_as f = branch f pure stop

-- items, each behind a symbol that f takes, onto the items that are there; at most so many
unfoldable pub many_turns : {O A : Type 0} → ℕ → List A → (Symbol → Option O) → (O → Reader A) → Reader (List A)
many_turns zero xs f g = pure xs
many_turns (suc k) xs f g = branch f (λ o. bind (g o) (λ x. many_turns k (xs ++ x ∷ []) f g)) (pure xs)

-- items, each behind a symbol that f takes, onto the items that are there: each takes a symbol, so there are no more than symbols
unfoldable pub many_onto : {O A : Type 0} → List A → (Symbol → Option O) → (O → Reader A) → Reader (List A)
many_onto xs f g ss = many_turns (length ss) xs f g ss

-- none or more items, each behind a symbol that f takes
unfoldable pub many : {O A : Type 0} → (Symbol → Option O) → (O → Reader A) → Reader (List A)
many f g = many_onto [] f g

-- one or more items, each behind a symbol that f takes
unfoldable pub some_of : {O A : Type 0} → (Symbol → Option O) → (O → Reader A) → Reader (List A)
some_of f g = branch f (λ o. bind (g o) (λ x. many_onto (x ∷ []) f g)) stop

-- one or more items, with a symbol that f takes between them
unfoldable pub list_of : {O A : Type 0} → (Symbol → Option O) → Reader A → Reader (List A)
list_of f r = bind r (λ x. many_onto (x ∷ []) f (λ o. r))

-- items onto those that are there, each behind a symbol that f takes, and whether one more such symbol stands
-- before the symbol that ends the list; at most so many
unfoldable pub end_turns : {O A : Type 0} → ℕ → List A → (Symbol → Option O) → (Symbol → Bool) → Reader A → Reader (List A × Bool)
end_turns zero xs f p r = pure (xs, false)
end_turns (suc k) xs f p r = branch f (λ o. choose p (pure (xs, true)) (bind r (λ x. end_turns k (xs ++ x ∷ []) f p r))) (pure (xs, false))

unfoldable pub end_onto : {O A : Type 0} → List A → (Symbol → Option O) → (Symbol → Bool) → Reader A → Reader (List A × Bool)
end_onto xs f p r ss = end_turns (length ss) xs f p r ss

-- one or more items, with a symbol that f takes between them and perhaps one more before the symbol that ends the list
unfoldable pub list_end : {O A : Type 0} → (Symbol → Option O) → (Symbol → Bool) → Reader A → Reader (List A × Bool)
list_end f p r = bind r (λ x. end_onto (x ∷ []) f p r)

-- items as long as the first symbol is one that begins an item; at most so many
unfoldable pub while_turns : {A : Type 0} → ℕ → List A → (Symbol → Bool) → Reader A → Reader (List A)
while_turns zero xs p r = pure xs
while_turns (suc k) xs p r = choose p (bind r (λ x. while_turns k (xs ++ x ∷ []) p r)) (pure xs)

-- items onto those that are there, as long as the first symbol is one that begins an item
unfoldable pub while_onto : {A : Type 0} → List A → (Symbol → Bool) → Reader A → Reader (List A)
while_onto xs p r ss = while_turns (length ss) xs p r ss

-- none or more items, as long as the first symbol is one that begins an item
unfoldable pub many_while : {A : Type 0} → (Symbol → Bool) → Reader A → Reader (List A)
many_while p r = while_onto [] p r

-- nothing follows
unfoldable pub finish : {A : Type 0} → A → Reader A
finish x [] = Ok (x, [])
finish x (s ∷ ss) = Err (bad (length (s ∷ ss)))
