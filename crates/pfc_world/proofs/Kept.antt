-- Who waits after a transition that begins no wait has the wait that it had before.
use Rattle.std.proofs.Common.{◌≡◌, ℕ, ◌+◌, Bool, true, false, ◌⊎◌, inl, inr, Option, None, Some, List, [], ◌∷◌, length, set, map, refl, sym, ap, ◌∙◌, subst}
use Rattle.std.proofs.Common.{cond}
use Rattle.std.proofs.lemmas.List.{get_or-set_same, get_or-set_other, set_past}
use Rattle.std.proofs.lemmas.Bool.{cases_eq, cases_lt}
use Rattle.pfc_state.specs.Stands.{Stand, Is_idle, Is_ready, Is_done, IsWaiting, ticket_of, is_due, due_of, woken}
use Rattle.pfc_world.specs.Settling.{earliest, woken_now, moved_to, settled, IsAtRest}
use Rattle.pfc_world.specs.Tables.{Table, at, some_ready}
use Rattle.pfc_world.specs.Tickets.{IsNew}
use Rattle.pfc_world.specs.Transitions.{KeepsWaits, placed, rested, released, is_released, finished, ended}
use Rattle.pfc_world.proofs.AfterSettling.{earliest-ready}
use Rattle.pfc_world.proofs.Finding.{ticket-waits}
use Rattle.pfc_world.proofs.Maps.{at-changed, woken-kind}

-- no wait is begun
pub record BeginsNoWait (old new : List Stand) : Type 0 where
  pub same : (q : ℕ) → IsWaiting (at new q) → at new q ≡ at old q

pub keeps : (old new : Table) → BeginsNoWait old.rows new.rows → KeepsWaits old new
keeps old new none q was is = none.same q is

pub new-kept : (old new : List Stand) (d : ℕ) → BeginsNoWait old new → IsNew old d → IsNew new d
new-kept old new d none fresh k h = fresh k (sym (ap ticket_of (none.same k (ticket-waits (at new k) (d + 1) h))) ∙ h)

none-refl : (rows : List Stand) → BeginsNoWait rows rows
none-refl rows = record { same = λ q h. refl }

none-trans : (a b c : List Stand) → BeginsNoWait a b → BeginsNoWait b c → BeginsNoWait a c
none-trans a b c f g = record { same = λ q h. let e : at c q ≡ at b q = g.same q h in e ∙ f.same q (subst IsWaiting e h) }

pub none-set : (rows : List Stand) (p : ℕ) (s : Stand) → (IsWaiting s → ⊥) → BeginsNoWait rows (set rows p s)
none-set rows p s plain = record {
  same = λ q h. elim (cases_eq q p) [
    | inl here ↦ elim (cases_lt p (length rows)) [
      | inl lt ↦ absurd (plain (subst IsWaiting (ap (λ n. at (set rows p s) n) here ∙ get_or-set_same rows p s Is_idle lt) h))
      | inr le ↦ ap (λ v. at v q) (set_past rows p s le)
    ]
    | inr other ↦ get_or-set_other rows p q s Is_idle other
  ];
}

none-released : (w : Table) → BeginsNoWait w.rows (released w).rows
none-released w = go (is_released w.rows)
  where
    go : (b : Bool) → BeginsNoWait w.rows (cond b (placed w 0 Is_ready) w).rows
    go true = none-set w.rows 0 Is_ready (λ h. h)
    go false = none-refl w.rows

pub none-finished : (w : Table) (p : ℕ) → BeginsNoWait w.rows (finished w p).rows
none-finished w p = none-trans w.rows (set w.rows p Is_done) (finished w p).rows (none-set w.rows p Is_done (λ h. h))
    (none-released (rested (placed w p Is_done)))

pub none-ended : (w : Table) (p : ℕ) → BeginsNoWait w.rows (ended w p).rows
none-ended w p = none-trans w.rows (set w.rows p Is_done) (ended w p).rows (none-set w.rows p Is_done (λ h. h)) (none-released (placed w p Is_done))

pub none-woken : (moment : ℕ) (rows : List Stand) → BeginsNoWait rows (map (woken moment) rows)
none-woken moment rows = record {
  same = λ q h. let e : at (map (woken moment) rows) q ≡ woken moment (at rows q) = at-changed (woken moment) rows q (woken-kind moment) in
      e ∙ go (at rows q) (is_due moment (due_of (at rows q))) (subst IsWaiting e h);
}
  where
    go : (s : Stand) (b : Bool) → IsWaiting (cond b Is_ready s) → cond b Is_ready s ≡ s
    go s true h = absurd h
    go s false h = refl

-- after the clock went to a moment, or stayed
none-moved : (o : Option ℕ) (w : Table) → BeginsNoWait w.rows (moved_to o w).rows
none-moved None w = none-refl w.rows
none-moved (Some moment) w = none-woken moment w.rows

pub none-settled : (w : Table) → BeginsNoWait w.rows (settled w).rows
none-settled w = none-trans w.rows (woken_now w).rows (settled w).rows (none-woken w.moment w.rows) (go (some_ready (woken_now w).rows))
  where
    go : (b : Bool) → BeginsNoWait (woken_now w).rows (cond b (woken_now w) (moved_to (earliest (woken_now w).rows) (woken_now w))).rows
    go true = none-refl (woken_now w).rows
    go false = none-moved (earliest (woken_now w).rows) (woken_now w)

-- Who is woken at a moment is not due at it.
woken-twice : (moment : ℕ) (s : Stand) → woken moment (woken moment s) ≡ woken moment s
woken-twice moment s = go (is_due moment (due_of s)) refl
  where
    go : (b : Bool) → is_due moment (due_of s) ≡ b → woken moment (cond b Is_ready s) ≡ cond b Is_ready s
    go true e = refl
    go false e = ap (λ v. cond v Is_ready s) e

all-woken-twice : (moment : ℕ) (rows : List Stand) → map (woken moment) (map (woken moment) rows) ≡ map (woken moment) rows
all-woken-twice moment [] = refl
all-woken-twice moment (s ∷ rest) = ap (λ v. v ∷ map (woken moment) (map (woken moment) rest)) (woken-twice moment s) ∙
    ap (λ v. woken moment s ∷ v) (all-woken-twice moment rest)

abbrev with_rows : Table → List Stand → Table
with_rows w rows = record w { rows = rows }

-- whoever is due is ready, and somebody is ready or nothing is pending
record IsSettled (w : Table) : Type 0 where
  woken : woken_now w ≡ w
  left : (some_ready w.rows ≡ true) ⊎ IsAtRest w.rows

moved-settled : (o : Option ℕ) (w : Table) → woken_now w ≡ w → some_ready w.rows ≡ false → earliest w.rows ≡ o → IsSettled (moved_to o w)
moved-settled None w stays nobody e = record { woken = stays; left = inr (record { nobody = nobody; pending = e }) }
moved-settled (Some moment) w stays nobody e = record {
  woken = ap (λ v. with_rows (moved_to (Some moment) w) v) (all-woken-twice moment w.rows);
  left = inl (earliest-ready w.rows moment e);
}

settled-is : (w : Table) → IsSettled (settled w)
settled-is w = go (some_ready (woken_now w).rows) refl
  where
    stays : woken_now (woken_now w) ≡ woken_now w
    stays = ap (λ v. with_rows w v) (all-woken-twice w.moment w.rows)

    go : (b : Bool) → some_ready (woken_now w).rows ≡ b → IsSettled (cond b (woken_now w) (moved_to (earliest (woken_now w).rows) (woken_now w)))
    go true e = record { woken = stays; left = inl e }
    go false e = moved-settled (earliest (woken_now w).rows) (woken_now w) stays e refl

-- settling changes nothing where all is settled
stays-settled : (w : Table) → IsSettled w → settled w ≡ w
stays-settled w h = ap (λ v. cond (some_ready v.rows) v (moved_to (earliest v.rows) v)) h.woken ∙ go h.left
  where
    go : (some_ready w.rows ≡ true) ⊎ IsAtRest w.rows → cond (some_ready w.rows) w (moved_to (earliest w.rows) w) ≡ w
    go (inl ready) = ap (λ b. cond b w (moved_to (earliest w.rows) w)) ready
    go (inr rest) = ap (λ b. cond b w (moved_to (earliest w.rows) w)) rest.nobody ∙ ap (λ o. moved_to o w) rest.pending

pub settled-left : (w : Table) → (some_ready (settled w).rows ≡ true) ⊎ IsAtRest (settled w).rows
settled-left w = (settled-is w).left

pub settled-twice : (w : Table) → settled (settled w) ≡ settled w
settled-twice w = stays-settled (settled w) (settled-is w)
