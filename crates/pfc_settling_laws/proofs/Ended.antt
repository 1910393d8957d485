-- The table in which the children that serve have finished.
use Rattle.std.proofs.Common.{◌≡◌, ℕ, zero, suc, ◌+◌, ◌^◌, ◌≤◌, ◌<◌, Bool, true, false, ◌&&◌, ◌||◌, if◌then◌else◌, Some, None, List, [], ◌∷◌, length, set}
use Rattle.std.proofs.Common.{drop, refl, sym, ap, ◌∙◌, subst, arith, inl, inr}
use Rattle.std.proofs.lemmas.List.{length-map, length-set}
use Rattle.std.proofs.Math.ListN.{get_or-map}
use Rattle.std.specs.List.{list_any}
use Rattle.pfc_state.specs.Stands.{Stand, Is_idle, Is_created, Is_ready, Waits, Is_done, due_of, ticket_of, is_unfinished, is_at_coend, may_end}
use Rattle.pfc_state.specs.declared.waits.Why.TheVariants.{Coend}
use Rattle.pfc_world.specs.Settling.{children_may_end, may_all_end}
use Rattle.pfc_world.specs.Tables.{Table, at}
use Rattle.pfc_world.specs.Terminating.{terminated_child, over_children, terminated, AreServers}
use Rattle.pfc_world.specs.Transitions.{placed, released, is_released}
use Rattle.pfc_world.proofs.ChildrenEnd.{ending-starts}
use Rattle.pfc_representation.specs.Holding.{is_quiet, waits_at_coend}
use Rattle.pfc_representation.specs.Machines.{IsBetweenActions}
use Rattle.pfc_settling_laws.proofs.Standings.{is_let_on, IsSameOrLetOn, due_before, ticket_before}
use Rattle.pfc_settling_laws.proofs.Tables.{WaitsBefore, between_still}

-- ## Truth

and_first : (a b : Bool) → (a && b) ≡ true → a ≡ true
and_first true b h = refl
and_first false b h = h

and_second : (a b : Bool) → (a && b) ≡ true → b ≡ true
and_second true b h = h
and_second false b h = cc

-- ## Who serves

pub serves_unfinished : (s : Stand) → may_end s ≡ true → is_unfinished s ≡ true
serves_unfinished Is_idle h = cc
serves_unfinished Is_created h = refl
serves_unfinished Is_ready h = refl
serves_unfinished (Waits why ticket arms) h = refl
serves_unfinished Is_done h = cc

-- who is unfinished is a server
pub all_serve : (rows : List Stand) → may_all_end rows ≡ true → AreServers rows
all_serve rows h = (let start = ending-starts (record { rows = rows; acting = None; done = 0; moment = 0; room = 0 }) h in start.servers)

-- and there is one
some_unfinished : (rows : List Stand) → list_any is_unfinished rows ≡ true → (q : ℕ) × (is_unfinished (at rows q) ≡ true)
some_unfinished [] h = absurd (let no : false ≡ true = h in cc)
some_unfinished (s ∷ rest) h = go (is_unfinished s) refl (λ e. some_unfinished rest e) h
  where
    behind : (q : ℕ) × (is_unfinished (at rest q) ≡ true) → (q : ℕ) × (is_unfinished (at (s ∷ rest) q) ≡ true)
    behind inner = (suc inner.0, inner.1)

    go : (b : Bool) → is_unfinished s ≡ b → (list_any is_unfinished rest ≡ true → (q : ℕ) × (is_unfinished (at rest q) ≡ true))
        → (b || list_any is_unfinished rest) ≡ true → (q : ℕ) × (is_unfinished (at (s ∷ rest) q) ≡ true)
    go true is later e = (0, is)
    go false is later e = behind (later e)

pub some_serves : (rows : List Stand) → may_all_end rows ≡ true → (q : ℕ) × (0 < q) × (is_unfinished (at rows q) ≡ true)
some_serves rows h = child rows (and_first _ _ (and_second _ (children_may_end rows) h))
  where
    child : (xs : List Stand) → list_any is_unfinished (drop 1 xs) ≡ true → (q : ℕ) × (0 < q) × (is_unfinished (at xs q) ≡ true)
    child [] e = absurd (let no : false ≡ true = e in cc)
    child (main ∷ children) e = (let some = some_unfinished children e in (suc some.0, omega arith, some.1))

-- who is quiet does not serve
quiet_serves : (s : Stand) → is_quiet s ≡ true → may_end s ≡ true → ⊥
quiet_serves (Waits why ticket arms) quiet serves = cc
quiet_serves s quiet serves = cc

-- So main waits at `coend`.
pub main_waits : (rows : List Stand) → may_all_end rows ≡ true → (waits_at_coend (at rows 0) ≡ false → (p : ℕ) → 0 < p → is_quiet (at rows p) ≡ true)
    → waits_at_coend (at rows 0) ≡ true
main_waits rows h quiet = by_main (waits_at_coend (at rows 0)) refl
  where
    by_main : (b : Bool) → waits_at_coend (at rows 0) ≡ b → b ≡ true
    by_main true is = refl
    by_main false is =
        let some = some_serves rows h in
        absurd (quiet_serves (at rows some.0) (quiet is some.0 some.1) (all_serve rows h some.0 some.1 some.2))

at_coend_serves_not : (s : Stand) → waits_at_coend s ≡ true → may_end s ≡ false
at_coend_serves_not (Waits Coend ticket arms) h = refl
at_coend_serves_not s h = absurd (let no : false ≡ true = h in cc)

pub main_serves_not : (rows : List Stand) → waits_at_coend (at rows 0) ≡ true → may_end (at rows 0) ≡ false
main_serves_not rows h = at_coend_serves_not (at rows 0) h

at_coend_unfinished : (s : Stand) → waits_at_coend s ≡ true → is_unfinished s ≡ true
at_coend_unfinished (Waits why ticket arms) h = refl
at_coend_unfinished s h = absurd (let no : false ≡ true = h in cc)

pub main_unfinished : (rows : List Stand) → waits_at_coend (at rows 0) ≡ true → is_unfinished (at rows 0) ≡ true
main_unfinished rows h = at_coend_unfinished (at rows 0) h

-- ## Before main is let on

abbrev pub children_ended : Table → Table
children_ended w = record w { rows = over_children terminated_child w.rows }

main_stays : (rows : List Stand) → at (over_children terminated_child rows) 0 ≡ at rows 0
main_stays [] = refl
main_stays (main ∷ children) = refl

child_row : (rows : List Stand) (k : ℕ) → at (over_children terminated_child rows) (suc k) ≡ terminated_child (at rows (suc k))
child_row [] k = refl
child_row (main ∷ children) k = get_or-map terminated_child children k Is_idle

rows_stay : (rows : List Stand) → length (over_children terminated_child rows) ≡ length rows
rows_stay [] = refl
rows_stay (main ∷ children) = ap suc (length-map children terminated_child)

pub main_stays_there : (w : Table) → at (children_ended w).rows 0 ≡ at w.rows 0
main_stays_there w = main_stays w.rows

-- ## Main is let on

let_on_at_coend : (s : Stand) → is_at_coend s ≡ true → is_let_on s ≡ true
let_on_at_coend (Waits Coend ticket arms) h = refl
let_on_at_coend s h = absurd (let no : false ≡ true = h in cc)

set_first : (rows : List Stand) → is_let_on (at rows 0) ≡ true → at (set rows 0 Is_ready) 0 ≡ Is_ready
set_first [] h = absurd (let no : false ≡ true = h in cc)
set_first (main ∷ children) h = refl

set_behind : (rows : List Stand) (k : ℕ) → at (set rows 0 Is_ready) (suc k) ≡ at rows (suc k)
set_behind [] k = refl
set_behind (main ∷ children) k = refl

-- Main is ready where it is released, and nothing else is changed.
record Releases (v u : Table) : Type 0 where
  main : IsSameOrLetOn (at v.rows 0) (at u.rows 0)
  children : (k : ℕ) → at u.rows (suc k) ≡ at v.rows (suc k)
  size : length u.rows ≡ length v.rows
  acting : u.acting ≡ v.acting
  done : u.done ≡ v.done
  moment : u.moment ≡ v.moment

releases_by : (v : Table) (b : Bool) → is_released v.rows ≡ b → Releases v (if b then placed v 0 Is_ready else v)
releases_by v true is =
    let on : is_let_on (at v.rows 0) ≡ true = let_on_at_coend (at v.rows 0) (and_first _ _ is) in
    record {
      main = inr (on, set_first v.rows on);
      children = λ k. set_behind v.rows k;
      size = length-set v.rows 0 Is_ready;
      acting = refl;
      done = refl;
      moment = refl;
    }
releases_by v false is = record { main = inl refl; children = λ k. refl; size = refl; acting = refl; done = refl; moment = refl }

releases : (v : Table) → Releases v (released v)
releases v = releases_by v (is_released v.rows) refl

-- a child stands where it stood, and main may be let on
pub released_on : (w : Table) (p : ℕ) → IsSameOrLetOn (at (children_ended w).rows p) (at (terminated w).rows p)
released_on w zero = (let r = releases (children_ended w) in r.main)
released_on w (suc k) = (let r = releases (children_ended w) in inl (r.children k))

-- ## Both

pub record Ends (w v : Table) : Type 0 where
  pub main : IsSameOrLetOn (at w.rows 0) (at v.rows 0)
  pub children : (k : ℕ) → at v.rows (suc k) ≡ terminated_child (at w.rows (suc k))
  pub size : length v.rows ≡ length w.rows
  pub acting : v.acting ≡ w.acting
  pub done : v.done ≡ w.done
  pub moment : v.moment ≡ w.moment

pub terminated_ends : (w : Table) → Ends w (terminated w)
terminated_ends w =
    let two = releases (children_ended w) in
    record {
      main = subst (λ (s : Stand). IsSameOrLetOn s (at (terminated w).rows 0)) (main_stays w.rows) two.main;
      children = λ k. two.children k ∙ child_row w.rows k;
      size = two.size ∙ rows_stay w.rows;
      acting = two.acting;
      done = two.done;
      moment = two.moment;
    }

-- no child is unfinished
ended_over : (s : Stand) (b : Bool) → may_end s ≡ b → (is_unfinished s ≡ true → may_end s ≡ true) → is_unfinished (if b then Is_done else s) ≡ false
ended_over s true is serves = refl
ended_over s false is serves = not_so (is_unfinished s) refl
  where
    not_so : (u : Bool) → is_unfinished s ≡ u → u ≡ false
    not_so true unfinished = absurd (let both : true ≡ false = sym (serves unfinished) ∙ is in cc)
    not_so false unfinished = refl

pub children_over : (w v : Table) → Ends w v → AreServers w.rows → (k : ℕ) → is_unfinished (at v.rows (suc k)) ≡ false
children_over w v ends servers k =
    ap is_unfinished (ends.children k) ∙ ended_over (at w.rows (suc k)) (may_end (at w.rows (suc k))) refl (servers (suc k) (omega arith))

over_quiet : (s : Stand) → is_unfinished s ≡ false → is_quiet s ≡ true
over_quiet Is_idle h = refl
over_quiet Is_created h = cc
over_quiet Is_ready h = cc
over_quiet (Waits why ticket arms) h = absurd (let no : true ≡ false = h in cc)
over_quiet Is_done h = refl

pub children_quiet : (w v : Table) → Ends w v → AreServers w.rows → (p : ℕ) → 0 < p → is_quiet (at v.rows p) ≡ true
children_quiet w v ends servers zero child = absurd (omega (arith, child))
children_quiet w v ends servers (suc k) child = over_quiet (at v.rows (suc k)) (children_over w v ends servers k)

-- ## Between two actions

ticket_ended : (s : Stand) (b : Bool) (t : ℕ) → ticket_of (if b then Is_done else s) ≡ Some t → ticket_of s ≡ Some t
ticket_ended s true t h = absurd (let no : None ≡ Some t = h in cc)
ticket_ended s false t h = h

due_ended : (s : Stand) (b : Bool) (t : ℕ) → due_of (if b then Is_done else s) ≡ Some t → due_of s ≡ Some t
due_ended s true t h = absurd (let no : None ≡ Some t = h in cc)
due_ended s false t h = h

ends_before : (w v : Table) → Ends w v → WaitsBefore w v
ends_before w v ends = record { tickets = tickets; due = due; acting = ends.acting; done = ends.done }
  where
    tickets : (p t : ℕ) → ticket_of (at v.rows p) ≡ Some t → ticket_of (at w.rows p) ≡ Some t
    tickets zero t h = ticket_before (at w.rows 0) (at v.rows 0) t ends.main h
    tickets (suc k) t h = ticket_ended (at w.rows (suc k)) (may_end (at w.rows (suc k))) t (ap ticket_of (sym (ends.children k)) ∙ h)

    due : (p t : ℕ) → due_of (at v.rows p) ≡ Some t → due_of (at w.rows p) ≡ Some t
    due zero t h = due_before (at w.rows 0) (at v.rows 0) t ends.main h
    due (suc k) t h = due_ended (at w.rows (suc k)) (may_end (at w.rows (suc k))) t (ap due_of (sym (ends.children k)) ∙ h)

pub between_ended : (w v : Table) → Ends w v → IsBetweenActions w → IsBetweenActions v
between_ended w v ends old = between_still w v (ends_before w v ends) (subst (λ n. n ≤ 10 ^ 15 + w.done) (sym ends.moment) old.moment) old
