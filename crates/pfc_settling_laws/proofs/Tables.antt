-- The tables before and after the first two steps of settling.
use Rattle.std.proofs.Common.{◌≡◌, ℕ, suc, ◌+◌, ◌^◌, ◌≤◌, Bool, true, false, if◌then◌else◌, min, Option, Some, None, List, [], ◌∷◌, length, refl, sym, ap}
use Rattle.std.proofs.Common.{◌∙◌, subst, arith, ◌⊎◌, inl, inr}
use Rattle.std.proofs.lemmas.Bool.{cases_lt}
use Rattle.std.proofs.lemmas.List.{length-map}
use Rattle.pfc_state.specs.Stands.{Stand, due_of, ticket_of, woken}
use Rattle.pfc_world.specs.Firsts.{lesser, least}
use Rattle.pfc_world.specs.Settling.{earliest, woken_now, moved_to, settled}
use Rattle.pfc_world.specs.Tables.{Table, at, some_ready}
use Rattle.pfc_world.proofs.Maps.{at-changed, woken-kind}
use Rattle.pfc_representation.specs.Holding.{waits_at_coend}
use Rattle.pfc_representation.specs.Machines.{IsBetweenActions}
use Rattle.pfc_settling_laws.proofs.Standings.{IsSameOrLetOn, woken_is, let_on_twice, due_before, ticket_before, coend_stays}

-- Some processes were let on, by their moments, and the clock stands where it stood or at a moment for which somebody waited.
pub record LetsOn (w v : Table) : Type 0 where
  pub rows : (p : ℕ) → IsSameOrLetOn (at w.rows p) (at v.rows p)
  pub coend : waits_at_coend (at w.rows 0) ≡ true → waits_at_coend (at v.rows 0) ≡ true
  pub size : length v.rows ≡ length w.rows
  pub acting : v.acting ≡ w.acting
  pub done : v.done ≡ w.done
  pub moment : (v.moment ≡ w.moment) ⊎ ((p : ℕ) × (due_of (at w.rows p) ≡ Some v.moment))

-- ## One step

-- the clock goes on to this moment
abbrev at_moment : Table → ℕ → Table
at_moment w moment = woken_now (record w { moment = moment })

wakes : (w : Table) (moment : ℕ) → (moment ≡ w.moment) ⊎ ((p : ℕ) × (due_of (at w.rows p) ≡ Some moment)) → LetsOn w (at_moment w moment)
wakes w moment is =
    record {
      rows = λ p.
          subst (λ (s : Stand). IsSameOrLetOn (at w.rows p) s) (sym (at-changed (woken moment) w.rows p (woken-kind moment)))
          (woken_is moment (at w.rows p));
      coend = λ h. ap waits_at_coend (at-changed (woken moment) w.rows 0 (woken-kind moment)) ∙ coend_stays moment (at w.rows 0) h;
      size = length-map w.rows (woken moment);
      acting = refl;
      done = refl;
      moment = is;
    }

stays : (w : Table) → LetsOn w w
stays w = record { rows = λ p. inl refl; coend = λ h. h; size = refl; acting = refl; done = refl; moment = inl refl }

-- ## Two steps

moment_of : (w v u : Table) → LetsOn w v → (u.moment ≡ v.moment) ⊎ ((p : ℕ) × (due_of (at v.rows p) ≡ Some u.moment))
    → (u.moment ≡ w.moment) ⊎ ((p : ℕ) × (due_of (at w.rows p) ≡ Some u.moment))
moment_of w v u on (inr due) = inr (due.0, due_before (at w.rows due.0) (at v.rows due.0) u.moment (on.rows due.0) due.1)
moment_of w v u on (inl same) = first on.moment
  where
    first : (v.moment ≡ w.moment) ⊎ ((p : ℕ) × (due_of (at w.rows p) ≡ Some v.moment))
        → (u.moment ≡ w.moment) ⊎ ((p : ℕ) × (due_of (at w.rows p) ≡ Some u.moment))
    first (inl same') = inl (same ∙ same')
    first (inr due) = inr (due.0, due.1 ∙ ap (λ n. Some n) (sym same))

twice : (w v u : Table) → LetsOn w v → LetsOn v u → LetsOn w u
twice w v u one two =
    record {
      rows = λ p. let_on_twice (at w.rows p) (at v.rows p) (at u.rows p) (one.rows p) (two.rows p);
      coend = λ h. two.coend (one.coend h);
      size = two.size ∙ one.size;
      acting = two.acting ∙ one.acting;
      done = two.done ∙ one.done;
      moment = moment_of w v u one two.moment;
    }

-- ## Both

-- the earliest moment is one for which somebody waits
earliest_is : (rows : List Stand) (t : ℕ) → earliest rows ≡ Some t → (p : ℕ) × (due_of (at rows p) ≡ Some t)
earliest_is [] t is = absurd (let no : None ≡ Some t = is in cc)
earliest_is (s ∷ rest) t is = go (due_of s) (least due_of rest) refl (λ h. earliest_is rest t h) is
  where
    behind : (p : ℕ) × (due_of (at rest p) ≡ Some t) → (p : ℕ) × (due_of (at (s ∷ rest) p) ≡ Some t)
    behind h = (suc h.0, h.1)

    go : (o l : Option ℕ) → due_of s ≡ o → (l ≡ Some t → (p : ℕ) × (due_of (at rest p) ≡ Some t)) → lesser o l ≡ Some t
        → (p : ℕ) × (due_of (at (s ∷ rest) p) ≡ Some t)
    go None l due ih e = behind (ih e)
    go (Some u) None due ih e = (0, due ∙ e)
    go (Some u) (Some v) due ih e =
        let same : min u v ≡ t = cc in
        elim (cases_lt v u) [
          | inl less ↦ behind (ih (ap (λ n. Some n) (let is : v ≡ t = grind (arith, less, same) in is)))
          | inr most ↦ (0, due ∙ ap (λ n. Some n) (let is : u ≡ t = grind (arith, most, same) in is))
        ]

moves : (w : Table) (m : Option ℕ) → earliest w.rows ≡ m → LetsOn w (moved_to m w)
moves w None is = stays w
moves w (Some moment) is = wakes w moment (inr (earliest_is w.rows moment is))

either_way : (b : Bool) (w v u : Table) → LetsOn w v → LetsOn w u → LetsOn w (if b then v else u)
either_way true w v u one two = one
either_way false w v u one two = two

pub settled_lets_on : (w : Table) → LetsOn w (settled w)
settled_lets_on w =
    let v : Table = woken_now w in
    let one : LetsOn w v = wakes w w.moment (inl refl) in
    either_way (some_ready v.rows) w v (moved_to (earliest v.rows) v) one (twice w v (moved_to (earliest v.rows) v) one (moves v (earliest v.rows) refl))

-- ## Between two actions

-- Whoever waits waited, with the same ticket and for the same moment.
pub record WaitsBefore (w v : Table) : Type 0 where
  pub tickets : (p t : ℕ) → ticket_of (at v.rows p) ≡ Some t → ticket_of (at w.rows p) ≡ Some t
  pub due : (p t : ℕ) → due_of (at v.rows p) ≡ Some t → due_of (at w.rows p) ≡ Some t
  pub acting : v.acting ≡ w.acting
  pub done : v.done ≡ w.done

pub between_still : (w v : Table) → WaitsBefore w v → v.moment ≤ 10 ^ 15 + w.done → IsBetweenActions w → IsBetweenActions v
between_still w v before early old =
    record {
      acting = before.acting ∙ old.acting;
      tickets = λ p t h. subst (λ n. t ≤ n) (sym before.done) (old.tickets p t (before.tickets p t h));
      moment = subst (λ n. v.moment ≤ 10 ^ 15 + n) (sym before.done) early;
      due = λ p due h. old.due p due (before.due p due h);
      done = subst (λ n. n ≤ 10 ^ 18) (sym before.done) old.done;
    }

lets_on_before : (w v : Table) → LetsOn w v → WaitsBefore w v
lets_on_before w v on =
    record {
      tickets = λ p t h. ticket_before (at w.rows p) (at v.rows p) t (on.rows p) h;
      due = λ p t h. due_before (at w.rows p) (at v.rows p) t (on.rows p) h;
      acting = on.acting;
      done = on.done;
    }

moment_early : (w v : Table) → IsBetweenActions w → (v.moment ≡ w.moment) ⊎ ((p : ℕ) × (due_of (at w.rows p) ≡ Some v.moment)) → v.moment ≤ 10 ^ 15 + w.done
moment_early w v old (inl same) = subst (λ n. n ≤ 10 ^ 15 + w.done) (sym same) old.moment
moment_early w v old (inr due) = (let early : v.moment ≤ 10 ^ 15 = old.due due.0 v.moment due.1 in omega (arith, early))

pub between_let_on : (w v : Table) → LetsOn w v → IsBetweenActions w → IsBetweenActions v
between_let_on w v on old = between_still w v (lets_on_before w v on) (moment_early w v old on.moment) old
