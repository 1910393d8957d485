-- The laws on picks.
use Rattle.std.proofs.Common.{◌≡◌, ℕ, zero, suc, ◌+◌, ◌-◌, ◌<◌, ◌≤◌, ◌%◌, Bool, true, false, cond, nat_lt, nat_le, List, [], ◌∷◌, length, get_or}
use Rattle.std.proofs.Common.{Option, Some, None, refl, ap, ◌∙◌, sym, subst, arith, slice_get, unwrap_or}
use Rattle.std.proofs.lemmas.Bool.Decides.{nat_tests}
use Rattle.pfc_state.specs.Stands.{Stand, is_ready}
use Rattle.pfc_world.specs.Tables.{at}
use Rattle.pfc_sched.specs.declared.picking.Pick.{Pick}
use Rattle.pfc_sched.specs.declared.picking.Pick.TheVariants.{Process, Nobody, NotReady, NoProcess}
use Rattle.pfc_sched.specs.Words.{word}
use Rattle.pfc_world.specs.Ready.{ready_from, ready_numbers, at_or_after}
use Rattle.pfc_sched.specs.Picks.{Picking, by_words, by_turn, by_list, named, picked_among, picked}
use Rattle.pfc_sched.specs.Laws.{run_of_picks, PicksReady, PicksAlike}

pub picks_alike : PicksAlike
picks_alike p q tables e = ap (λ x. run_of_picks x tables) e

-- the number is that of a ready row, of rows whose first has the number i
pub record IsReadyRow (i : ℕ) (rows : List Stand) (n : ℕ) : Type 0 where
  pub from : i ≤ n
  pub within : n - i < length rows
  pub ready : is_ready (at rows (n - i)) ≡ true

one_more : (i : ℕ) (stand : Stand) (rest : List Stand) (n : ℕ) → IsReadyRow (i + 1) rest n → IsReadyRow i (stand ∷ rest) n
one_more i stand rest n h =
    let e : n - i ≡ suc (n - (i + 1)) = omega (arith, h.from) in
    record {
      from = omega (arith, h.from);
      within = omega (arith, h.within, h.from);
      ready = ap (λ k. is_ready (at (stand ∷ rest) k)) e ∙ h.ready;
    }

abbrev AreReadyRows : ℕ → List Stand → List ℕ → Type 0
AreReadyRows i rows [] = Unit {0}
AreReadyRows i rows (n ∷ ns) = IsReadyRow i rows n × AreReadyRows i rows ns

all_more : (i : ℕ) (stand : Stand) (rest : List Stand) (ns : List ℕ) → AreReadyRows (i + 1) rest ns → AreReadyRows i (stand ∷ rest) ns
all_more i stand rest [] h = tt
all_more i stand rest (n ∷ ns) h = (one_more i stand rest n h.0, all_more i stand rest ns h.1)

at_test : (t : Bool) (i : ℕ) (stand : Stand) (rest : List Stand) → is_ready stand ≡ t → AreReadyRows (i + 1) rest (ready_from (i + 1) rest)
    → AreReadyRows i (stand ∷ rest) (cond t (i ∷ ready_from (i + 1) rest) (ready_from (i + 1) rest))
at_test true i stand rest e h =
    let first : i - i ≡ 0 = omega arith in (
      record {
        from = omega arith;
        within = omega arith;
        ready = ap (λ k. is_ready (at (stand ∷ rest) k)) first ∙
            e;
      },
      all_more i stand rest (ready_from (i + 1) rest) h,
    )
at_test false i stand rest e h = all_more i stand rest (ready_from (i + 1) rest) h

-- each number that is found is that of a ready process
all_ready : (i : ℕ) (rows : List Stand) → AreReadyRows i rows (ready_from i rows)
all_ready i [] = tt
all_ready i (stand ∷ rest) = at_test (is_ready stand) i stand rest refl (all_ready (i + 1) rest)

-- the process is ready in the table
abbrev IsReadyAt : List Stand → ℕ → Type 0
IsReadyAt rows q = (q < length rows) × (is_ready (at rows q) ≡ true)

from_row : (rows : List Stand) (n : ℕ) → IsReadyRow 0 rows n → IsReadyAt rows n
from_row rows n h = let e : n - 0 ≡ n = omega arith in (omega (arith, h.within), ap (λ k. is_ready (at rows k)) (sym e) ∙ h.ready)

-- by place, and by turn
by_place : (rows : List Stand) (ns : List ℕ) (k : ℕ) → k < length ns → AreReadyRows 0 rows ns → IsReadyAt rows (get_or ns k 0)
by_place rows [] k lt h = absurd (omega arith)
by_place rows (n ∷ ns) zero lt h = from_row rows n h.0
by_place rows (n ∷ ns) (suc k) lt h = by_place rows ns k (omega arith) h.1

or_first : (rows : List Stand) (ns : List ℕ) (last : ℕ) (other : ℕ) → AreReadyRows 0 rows ns → IsReadyAt rows other →
    IsReadyAt rows (unwrap_or (at_or_after last ns) other)
or_first rows [] last other h o = o
or_first rows (n ∷ ns) last other h o = at_turn (nat_le last n) (or_first rows ns last other h.1 o)
  where
    at_turn : (t : Bool) → IsReadyAt rows (unwrap_or (at_or_after last ns) other) → IsReadyAt rows (unwrap_or (cond t (Some n) (at_or_after last ns)) other)
    at_turn true later = from_row rows n h.0
    at_turn false later = later

same_process : (a b : ℕ) → Process a ≡ Process b → a ≡ b
same_process a b e = cc

to_named : (rows : List Stand) (q r : ℕ) → Process r ≡ Process q → IsReadyAt rows r → IsReadyAt rows q
to_named rows q r e h = subst (λ (x : ℕ). IsReadyAt rows x) (same_process r q e) h

named_ready : (rows : List Stand) (o : Option ℕ) (q : ℕ) → named o rows ≡ Process q → IsReadyAt rows q
named_ready rows None q e = absurd cc
named_ready rows (Some p) q e = in_table (nat_lt p (length rows)) (is_ready (at rows p)) refl refl e
  where
    in_table : (s t : Bool) → nat_lt p (length rows) ≡ s → is_ready (at rows p) ≡ t →
        cond s (cond t (Process p) (NotReady p)) (NoProcess p) ≡ Process q → IsReadyAt rows q
    in_table true true lt ready same = to_named rows q p same (grind (arith, nat_tests), ready)
    in_table true false lt ready same = absurd cc
    in_table false t lt ready same = absurd cc

among_ready : (p : Picking) (rows : List Stand) (ns : List ℕ) (q : ℕ) → AreReadyRows 0 rows ns → picked_among p rows ns ≡ Process q → IsReadyAt rows q
among_ready p rows [] q h e = absurd (let no : Nobody ≡ Process q = e in cc)
among_ready (by_words g) rows (r ∷ ns) q h e = to_named rows q _ e (by_place rows (r ∷ ns) (word g % length (r ∷ ns)) (omega arith) h)
among_ready (by_turn last) rows (r ∷ ns) q h e = to_named rows q _ e (or_first rows (r ∷ ns) last r h (from_row rows r h.0))
among_ready (by_list numbers item) rows (r ∷ ns) q h e = named_ready rows (slice_get numbers item) q e

pub picks_ready : PicksReady
picks_ready p rows q e = among_ready p rows (ready_numbers rows) q (all_ready 0 rows) e
