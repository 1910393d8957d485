-- Who is due is woken, one after the other.
use Rattle.std.proofs.Common.{◌≡◌, ℕ, ◌+◌, ◌<◌, ◌≤◌, Bool, true, false, is_some, Option, None, Some, List, length, set, map, nat_le, arith, refl, sym, ap, ◌∙◌}
use Rattle.std.proofs.Common.{subst, cond}
use Rattle.std.proofs.lemmas.List.{map-set, set-get_or}
use Rattle.std.proofs.lemmas.Bool.Decides.{nat_tests}
use Rattle.pfc_state.specs.Stands.{Stand, Is_idle, Is_created, Is_ready, Waits, Is_done, IsWaiting, due_of, is_due, woken}
use Rattle.pfc_world.specs.Indexes.{number, count_of}
use Rattle.pfc_world.specs.Settling.{earliest, woken_now, IsDue}
use Rattle.pfc_world.specs.Tables.{Table, at}
use Rattle.pfc_world.specs.Transitions.{placed}
use Rattle.pfc_world.proofs.Changes.{waits-within}
use Rattle.pfc_world.proofs.Counting.{count-set}
use Rattle.pfc_world.proofs.Earliest.{none-due}
use Rattle.pfc_world.proofs.Maps.{at-changed, woken-kind}

abbrev pub with_rows : Table → List Stand → Table
with_rows w rows = record w { rows = rows }

abbrev pub is_pending : Stand → Bool
is_pending stand = is_some (due_of stand)

-- some that are due were woken, and nothing else was changed
pub record IsWaking (old now : Table) : Type 0 where
  pub rest : now ≡ with_rows old now.rows
  pub same : map (woken old.moment) now.rows ≡ map (woken old.moment) old.rows

pub wakes-none : (w : Table) → IsWaking w w
wakes-none w = record { rest = refl; same = refl }

due-some : (moment : ℕ) (o : Option ℕ) → is_due moment o ≡ true → is_some o ≡ true
due-some moment (Some due) h = refl
due-some moment None h = cc

-- who is due waits
pub due-waits : (moment : ℕ) (s : Stand) → is_due moment (due_of s) ≡ true → IsWaiting s
due-waits moment (Waits why ticket arms) h = tt
due-waits moment Is_idle h = cc
due-waits moment Is_created h = cc
due-waits moment Is_ready h = cc
due-waits moment Is_done h = cc

woken-here : (moment : ℕ) (s : Stand) → is_due moment (due_of s) ≡ true → woken moment s ≡ Is_ready
woken-here moment s h = ap (λ b. cond b Is_ready s) h

one-woken : (moment : ℕ) (rows : List Stand) (p : ℕ) → is_due moment (due_of (at rows p)) ≡ true →
    map (woken moment) (set rows p Is_ready) ≡ map (woken moment) rows
one-woken moment rows p h =
    map-set (woken moment) rows p Is_ready
    ∙ ap (λ s. set (map (woken moment) rows) p s) (sym (at-changed (woken moment) rows p (woken-kind moment) ∙ woken-here moment (at rows p) h))
    ∙ set-get_or (map (woken moment) rows) p Is_idle

-- one more is woken
pub wakes-more : (old now new : Table) (p : ℕ) → IsWaking old now → IsDue now p → new ≡ placed now p Is_ready → IsWaking old new
wakes-more old now new p h due is =
    let moment : now.moment ≡ old.moment = ap (λ v. v.moment) h.rest in
    let due' : is_due old.moment (due_of (at now.rows p)) ≡ true = subst (λ n. is_due n (due_of (at now.rows p)) ≡ true) moment due in
    record {
      rest = is ∙ ap (λ v. placed v p Is_ready) h.rest ∙ ap (λ v. with_rows old v.rows) (sym is);
      same = ap (λ v. map (woken old.moment) v.rows) is ∙ one-woken old.moment now.rows p due' ∙ h.same;
    }

-- fewer are pending then
pub wakes-fewer : (now new : Table) (p : ℕ) → IsDue now p → new ≡ placed now p Is_ready → count_of is_pending new.rows < count_of is_pending now.rows
wakes-fewer now new p due is =
    let lt : p < length now.rows = waits-within now.rows p (due-waits now.moment (at now.rows p) due) in
    let sum : count_of is_pending (set now.rows p Is_ready) + number (is_pending (at now.rows p)) ≡ count_of is_pending now.rows + 0 =
    count-set is_pending now.rows p Is_ready lt in
    let one : number (is_pending (at now.rows p)) ≡ 1 = ap number (due-some now.moment (due_of (at now.rows p)) due) in
    let rows : count_of is_pending new.rows ≡ count_of is_pending (set now.rows p Is_ready) = ap (λ v. count_of is_pending v.rows) is in
    omega (arith, sum, one, rows)

-- all that are due were woken
pub wakes-all : (old now : Table) → IsWaking old now → is_due now.moment (earliest now.rows) ≡ false → now ≡ woken_now old
wakes-all old now h none =
    let moment : now.moment ≡ old.moment = ap (λ v. v.moment) h.rest in
    h.rest ∙ ap (λ v. with_rows old v) (sym (none-due old.moment now.rows (subst (λ n. is_due n (earliest now.rows) ≡ false) moment none)) ∙ h.same)

-- the first that is due, where its moment has come, or has not
pub due-by : (moment due : ℕ) (s : Stand) → due_of s ≡ Some due → due ≤ moment → is_due moment (due_of s) ≡ true
due-by moment due s is le = let passed : nat_le due moment ≡ true = grind (arith, nat_tests) in ap (λ o. is_due moment o) is ∙ passed

pub not-due : (moment due : ℕ) (o : Option ℕ) → o ≡ Some due → moment < due → is_due moment o ≡ false
not-due moment due o is lt = let failed : nat_le due moment ≡ false = grind (arith, nat_tests) in ap (λ v. is_due moment v) is ∙ failed
