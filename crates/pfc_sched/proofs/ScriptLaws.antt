-- The laws on scripts: they are taken in order, and recorded picks can be replayed.
use Rattle.std.proofs.Common.{◌≡◌, ℕ, zero, suc, ◌+◌, ◌-◌, ◌<◌, ◌≤◌, Bool, true, false, cond, nat_lt, min, List, [], ◌∷◌, length, drop, Option, Some, None}
use Rattle.std.proofs.Common.{refl, ap, ◌∙◌, arith, slice_get}
use Rattle.std.proofs.lemmas.Bool.Decides.{nat_tests}
use Rattle.pfc_state.specs.Stands.{Stand, is_ready}
use Rattle.pfc_world.specs.Tables.{at}
use Rattle.pfc_sched.specs.declared.picking.Pick.{Pick}
use Rattle.pfc_sched.specs.declared.picking.Pick.TheVariants.{Process, Nobody, NotReady, NoProcess, ScriptEnd}
use Rattle.pfc_world.specs.Ready.{ready_numbers}
use Rattle.pfc_sched.specs.Picks.{Picking, by_words, by_turn, by_list, named, picked_among, picked, after_picked, after_pick}
use Rattle.pfc_sched.specs.Laws.{run_of_picks, script_pick, script_left, picks_in_order, IsPlain, ArePlain, recorded, TakesInOrder, Replays}
use Rattle.pfc_sched.proofs.PickLaws.{picks_ready}

-- the item at a place is the first of those behind the ones before it
item_behind : (numbers : List ℕ) (item : ℕ) → slice_get numbers item ≡ slice_get (drop item numbers) 0
item_behind [] zero = refl
item_behind [] (suc item) = refl
item_behind (n ∷ numbers) zero = refl
item_behind (n ∷ numbers) (suc item) = item_behind numbers item

drop_none : (n : ℕ) → drop n (let none : List ℕ = [] in none) ≡ []
drop_none zero = refl
drop_none (suc n) = refl

-- taking one item more, up to one past the end
left_behind : (numbers : List ℕ) (item : ℕ) → drop (min (item + 1) (length numbers + 1)) numbers ≡ drop 1 (drop item numbers)
left_behind [] zero = refl
left_behind [] (suc item) = drop_none (min (suc item + 1) (0 + 1))
left_behind (n ∷ numbers) zero = ap (λ k. drop k (n ∷ numbers)) (let e : min (0 + 1) (suc (length numbers) + 1) ≡ 1 = omega arith in e)
left_behind (n ∷ numbers) (suc item) =
    ap (λ k. drop k (n ∷ numbers)) (let e : min (suc item + 1) (suc (length numbers) + 1) ≡ suc (min (item + 1) (length numbers + 1)) =
    omega arith in e) ∙ left_behind numbers item

pick_behind : (numbers : List ℕ) (item : ℕ) (rows : List Stand) (ready : List ℕ) →
    picked_among (by_list numbers item) rows ready ≡ script_pick (drop item numbers) rows ready
pick_behind numbers item rows [] = refl
pick_behind numbers item rows (r ∷ ready) = ap (λ o. named o rows) (item_behind numbers item)

in_order_from : (numbers : List ℕ) (item : ℕ) (tables : List (List Stand)) →
    run_of_picks (by_list numbers item) tables ≡ picks_in_order (drop item numbers) tables
in_order_from numbers item [] = refl
in_order_from numbers item (rows ∷ more) =
    ap (λ pick. pick ∷ run_of_picks (after_pick (by_list numbers item) rows) more) (pick_behind numbers item rows (ready_numbers rows))
    ∙ ap (λ picks. script_pick (drop item numbers) rows (ready_numbers rows) ∷ picks) (rest (ready_numbers rows) (in_order_from numbers item more)
    (in_order_from numbers (min (item + 1) (length numbers + 1)) more))
  where
    rest : (ready : List ℕ) → run_of_picks (by_list numbers item) more ≡ picks_in_order (drop item numbers) more
        → run_of_picks (by_list numbers (min (item + 1) (length numbers + 1))) more ≡ picks_in_order (drop (min (item + 1) (length numbers + 1)) numbers) more
        → run_of_picks (after_picked (by_list numbers item) ready) more ≡ picks_in_order (script_left (drop item numbers) ready) more
    rest [] same next = same
    rest (r ∷ ready) same next = next ∙ ap (λ ns. picks_in_order ns more) (left_behind numbers item)

pub takes_in_order : TakesInOrder
takes_in_order numbers tables = in_order_from numbers 0 tables

-- a process that is ready is what its number gives
named_at : (rows : List Stand) (q : ℕ) → q < length rows → is_ready (at rows q) ≡ true → named (Some q) rows ≡ Process q
named_at rows q within ready = ap (λ t. cond t (cond (is_ready (at rows q)) (Process q) (NotReady q)) (NoProcess q)) (let e : nat_lt q (length rows) ≡ true =
    grind (arith, nat_tests) in e) ∙ ap (λ t. cond t (Process q) (NotReady q)) ready

-- with a ready process somebody or some fault is picked
named_somebody : (o : Option ℕ) (rows : List Stand) → named o rows ≡ Nobody → ⊥
named_somebody None rows e = cc
named_somebody (Some p) rows e = at_tests (nat_lt p (length rows)) (is_ready (at rows p)) e
  where
    at_tests : (s t : Bool) → cond s (cond t (Process p) (NotReady p)) (NoProcess p) ≡ Nobody → ⊥
    at_tests true true e = cc
    at_tests true false e = cc
    at_tests false t e = cc

somebody : (p : Picking) (rows : List Stand) (r : ℕ) (ready : List ℕ) → picked_among p rows (r ∷ ready) ≡ Nobody → ⊥
somebody (by_words g) rows r ready e = cc
somebody (by_turn last) rows r ready e = cc
somebody (by_list numbers item) rows r ready e = named_somebody (slice_get numbers item) rows e

-- one pick, replayed before the picks that follow it
one_replayed : (p : Picking) (rows : List Stand) (ready : List ℕ) (pick : Pick) (rest : List Pick) (more : List (List Stand)) →
    picked_among p rows ready ≡ pick → IsPlain pick
    → ((q : ℕ) → pick ≡ Process q → named (Some q) rows ≡ Process q) → picks_in_order (recorded rest) more ≡ rest
    → script_pick (recorded (pick ∷ rest)) rows ready ∷ picks_in_order (script_left (recorded (pick ∷ rest)) ready) more ≡ pick ∷ rest
one_replayed p rows [] (Process q) rest more e plain again follows = absurd (let no : Nobody ≡ Process q = e in cc)
one_replayed p rows [] Nobody rest more e plain again follows = ap (λ picks. Nobody ∷ picks) follows
one_replayed p rows [] (NotReady q) rest more e plain again follows = absurd plain
one_replayed p rows [] (NoProcess q) rest more e plain again follows = absurd plain
one_replayed p rows [] ScriptEnd rest more e plain again follows = absurd plain
one_replayed p rows (r ∷ ready) (Process q) rest more e plain again follows = ap (λ pick. pick ∷ picks_in_order (recorded rest) more) (again q refl) ∙
    ap (λ picks. Process q ∷ picks) follows
one_replayed p rows (r ∷ ready) Nobody rest more e plain again follows = absurd (somebody p rows r ready e)
one_replayed p rows (r ∷ ready) (NotReady q) rest more e plain again follows = absurd plain
one_replayed p rows (r ∷ ready) (NoProcess q) rest more e plain again follows = absurd plain
one_replayed p rows (r ∷ ready) ScriptEnd rest more e plain again follows = absurd plain

replayed_in_order : (p : Picking) (tables : List (List Stand)) → ArePlain (run_of_picks p tables) →
    picks_in_order (recorded (run_of_picks p tables)) tables ≡ run_of_picks p tables
replayed_in_order p [] plain = refl
replayed_in_order p (rows ∷ more) plain =
    one_replayed p rows (ready_numbers rows) (picked p rows) (run_of_picks (after_pick p rows) more) more refl plain.0
    (λ q e. let is = picks_ready p rows q e in named_at rows q is.0 is.1)
    (replayed_in_order (after_pick p rows) more plain.1)

pub replays : Replays
replays p tables plain = takes_in_order (recorded (run_of_picks p tables)) tables ∙ replayed_in_order p tables plain
