-- Parts that are pending, one put on the others or taken from them.
use Rattle.std.proofs.Common.{◌≡◌, ℕ, suc, ◌-◌, ◌<◌, Bool, true, false, List, [], ◌∷◌, ◌++◌, length, take, get_or, Option, Some, None, refl, sym, ap, ◌∙◌}
use Rattle.std.proofs.Common.{subst, arith}
use Rattle.std.specs.Prelude.{fold, if◌then◌else◌, slice_get}
use Rattle.std.specs.Borrow.{Bor}
use Rattle.std.specs.Option.{option_copied}
use Rattle.std.proofs.Math.Seq.{take-suc, take-length}
use Rattle.std.proofs.lemmas.Option.{slice_get-get_or}
use Rattle.pfc_types.specs.rules.Expressions.{Env}
use Rattle.pfc_tree.specs.trees.Stmts.{empty}
use Rattle.pfc_semantics.specs.Remainders.{Context, Action, choose, ends, finishes}
use Rattle.pfc_semantics.specs.Rewriting.{from_remainder, from_value}
use Rattle.pfc_semantics.specs.Values.{Value}
use Rattle.pfc_program.specs.declared.tables.Tables.{Tables}
use Rattle.pfc_pending.specs.Waiting.{Waiting, awaits_of, over, remainder_of, waiting}
use Rattle.pfc_store.specs.Views.{value_view}
use Rattle.pfc_store.specs.declared.values.Value.{Value as Held}
use Rattle.pfc_pending.specs.declared.pending.Pending.{Pending}
use Rattle.pfc_statement_steps.specs.Resumed.{resumed_ahead, under}
use Rattle.pfc_statement_steps.specs.declared.begins.Resumed.{Resumed}

over_more : (t : Tables) (w : Waiting) (ps : List Pending) (p : Pending) → fold (over t) w (ps ++ p ∷ []) ≡ over t (fold (over t) w ps) p
over_more t w [] p = refl
over_more t w (q ∷ ps) p = over_more t (over t w q) ps p

pub waiting_more : (t : Tables) (ps : List Pending) (p : Pending) → waiting t (ps ++ p ∷ []) ≡ over t (waiting t ps) p
waiting_more t ps p = over_more t _ ps p

pub ruleset parts = waiting_more

either : (b : Bool) (a : Action) → (if b then a else a) ≡ a
either true a = refl
either false a = refl

-- a value where none is waited for
pub no_value : (c : Context) (v : Value) → from_value c (choose 0 empty empty (ends 0)) v ≡ finishes 0
no_value c v = either _ (finishes 0)

pub ruleset unwanted = (no_value, waiting_more)

-- a value meets what waits for it, where both were given back
pub meets_again :
    (c : Context) (x y : Waiting) (u v : Held) (a : Action)
    → x ≡ y → u ≡ v → a ≡ from_value c (awaits_of x) (value_view u) → a ≡ from_value c (awaits_of y) (value_view v)
meets_again c x y u v a waits same meets =
    meets
    ∙ ap (λ (z : Waiting). from_value c (awaits_of z) (value_view u)) waits
    ∙ ap (λ (z : Held). from_value c (awaits_of y) (value_view z)) same

-- ## The part below

-- the last one, over those before it
below_waiting :
    (t : Tables) (ps : List Pending) (below : Option (Bor Pending))
    → option_copied below ≡ slice_get ps (length ps - 1) → under t (waiting t (take (length ps - 1) ps)) below ≡ waiting t ps
below_waiting t [] None is = refl
below_waiting t [] (Some b) is = cc
below_waiting t (p ∷ ps) None is =
    let n : ℕ = length (p ∷ ps) - 1 in
    let there = slice_get-get_or (p ∷ ps) n p (omega arith) in
    cc
below_waiting t (p ∷ ps) (Some b) is =
    let xs : List Pending = p ∷ ps in
    let n : ℕ = length xs - 1 in
    let less : n < length xs = omega arith in
    let there = slice_get-get_or xs n p less in
    let last : b.now ≡ get_or xs n p = cc in
    let all : suc n ≡ length xs = omega arith in
    let whole : take n xs ++ (get_or xs n p ∷ []) ≡ xs =
    sym (take-suc xs n p less) ∙ ap (λ (k : ℕ). take k xs) all ∙ take-length xs
    in
    ap (λ (q : Pending). over t (waiting t (take n xs)) q) last
    ∙ sym (waiting_more t (take n xs) (get_or xs n p))
    ∙ ap (λ (x : List Pending). waiting t x) whole

-- what is said over any that are pending below the last one holds over all that are
pub over_below :
    (t : Tables) (env : Env) (ps : List Pending) (below : Option (Bor Pending)) (p : Pending) (r : Resumed)
    → option_copied below ≡ slice_get ps (length ps - 1)
    → ((w : Waiting) → resumed_ahead t env (under t w below) r ≡ from_remainder env (remainder_of (over t (under t w below) p)))
    → resumed_ahead t env (waiting t ps) r ≡ from_remainder env (remainder_of (over t (waiting t ps) p))
over_below t env ps below p r is holds =
    subst (λ (w : Waiting). resumed_ahead t env w r ≡ from_remainder env (remainder_of (over t w p))) (below_waiting t ps below is)
    (holds (waiting t (take (length ps - 1) ps)))
