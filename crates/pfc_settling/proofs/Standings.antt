-- Standings, and the table behind the end of children that only serve.
use Rattle.std.proofs.Common.{◌≡◌, ◌≢◌, ℕ, zero, suc, ◌+◌, Bool, true, false, not, ◌&&◌, ◌||◌, List, [], ◌∷◌, length, map, set, Option, Some, None, is_none}
use Rattle.std.proofs.Common.{if◌then◌else◌, refl, ap, ◌∙◌, arith}
use Rattle.std.proofs.lemmas.List.{length-map, length-set}
use Rattle.pfc_state.specs.declared.standings.State.{State}
use Rattle.pfc_state.specs.declared.standings.State.TheVariants.{Waiting}
use Rattle.pfc_state.specs.declared.waits.Why.TheVariants.{Select}
use Rattle.pfc_state.specs.Stands.{Stand, Is_idle, Is_created, Is_ready, Waits, Is_done, state_of, ticket_of, due_of, is_ready, may_end, woken}
use Rattle.pfc_world.specs.Tables.{Table, at, some_ready}
use Rattle.pfc_world.specs.Firsts.{lesser, least}
use Rattle.pfc_world.specs.Ready.{ready_from}
use Rattle.pfc_world.specs.Tickets.{IsNew}
use Rattle.pfc_world.specs.Transitions.{placed, released, is_released}
use Rattle.pfc_world.specs.Settling.{earliest, woken_now, moved_to, settled, children_may_end, may_all_end}
use Rattle.pfc_world.specs.Terminating.{terminated_child, over_children, terminated}

-- ## A standing

-- as it is reported
abbrev pub serves : State → Bool
serves (Waiting (Select due terminate)) = terminate
serves state = false

pub may_end_by : (stand : Stand) → may_end stand ≡ serves (state_of stand)
may_end_by Is_idle = refl
may_end_by Is_created = refl
may_end_by Is_ready = refl
may_end_by (Waits (Select due terminate) ticket arms) = refl
may_end_by (Waits why ticket arms) = refl
may_end_by Is_done = refl

-- ## Who is ready

none_by : (b : Bool) (p : ℕ) (rest : List ℕ) (o : Bool) → (length rest ≡ 0 → o ≡ false) → length (if b then p ∷ rest else rest) ≡ 0 → (b || o) ≡ false
none_by true p rest o h e = absurd (omega (arith, e))
none_by false p rest o h e = h e

none_from : (p : ℕ) (rows : List Stand) → length (ready_from p rows) ≡ 0 → some_ready rows ≡ false
none_from p [] e = refl
none_from p (stand ∷ rows) e = none_by (is_ready stand) p (ready_from (p + 1) rows) (some_ready rows) (none_from (p + 1) rows) e

some_by : (b : Bool) (p : ℕ) (rest : List ℕ) (o : Bool) → (length rest ≢ 0 → o ≡ true) → length (if b then p ∷ rest else rest) ≢ 0 → (b || o) ≡ true
some_by true p rest o h e = refl
some_by false p rest o h e = h e

some_from : (p : ℕ) (rows : List Stand) → length (ready_from p rows) ≢ 0 → some_ready rows ≡ true
some_from p [] e = absurd (e refl)
some_from p (stand ∷ rows) e = some_by (is_ready stand) p (ready_from (p + 1) rows) (some_ready rows) (some_from (p + 1) rows) e

pub nobody_ready : (rows : List Stand) → length (ready_from 0 rows) ≡ 0 → some_ready rows ≡ false
nobody_ready rows e = none_from 0 rows e

pub somebody_ready : (rows : List Stand) → length (ready_from 0 rows) ≢ 0 → some_ready rows ≡ true
somebody_ready rows e = some_from 0 rows e

-- ## Settling

-- as many rows, and the same that acts
record Like (w v : Table) : Type 0 where
  rows : length v.rows ≡ length w.rows
  acting : v.acting ≡ w.acting

woken_like : (w : Table) → Like w (woken_now w)
woken_like w = record { rows = length-map w.rows (woken w.moment); acting = refl }

moved_like : (m : Option ℕ) (w : Table) → Like w (moved_to m w)
moved_like None w = record { rows = refl; acting = refl }
moved_like (Some moment) w = record { rows = length-map w.rows (woken moment); acting = refl }

like_twice : (w v u : Table) → Like w v → Like v u → Like w u
like_twice w v u first then_so = record { rows = then_so.rows ∙ first.rows; acting = then_so.acting ∙ first.acting }

either_like : (b : Bool) (w v u : Table) → Like w v → Like w u → Like w (if b then v else u)
either_like true w v u first second = first
either_like false w v u first second = second

settled_like : (w : Table) → Like w (settled w)
settled_like w =
    let v : Table = woken_now w in
    either_like (some_ready v.rows) w v (moved_to (earliest v.rows) v) (woken_like w)
    (like_twice w v (moved_to (earliest v.rows) v) (woken_like w) (moved_like (earliest v.rows) v))

pub settled_acting : (w : Table) → (settled w).acting ≡ w.acting
settled_acting w = (settled_like w).acting

pub settled_rows : (w : Table) → length (settled w).rows ≡ length w.rows
settled_rows w = (settled_like w).rows

-- ## The end of the children

abbrev children_ended : Table → Table
children_ended w = record w { rows = over_children terminated_child w.rows }

over_length : (rows : List Stand) → length (over_children terminated_child rows) ≡ length rows
over_length [] = refl
over_length (main ∷ children) = ap suc (length-map children terminated_child)

terminated_like : (w : Table) → Like w (terminated w)
terminated_like w =
    let v : Table = children_ended w in
    like_twice w v (terminated w) (record { rows = over_length w.rows; acting = refl })
    (either_like (is_released v.rows) v (placed v 0 Is_ready) v (record { rows = length-set v.rows 0 Is_ready; acting = refl })
    (record { rows = refl; acting = refl }))

pub terminated_acting : (w : Table) → (terminated w).acting ≡ w.acting
terminated_acting w = (terminated_like w).acting

pub terminated_rows : (w : Table) → length (terminated w).rows ≡ length w.rows
terminated_rows w = (terminated_like w).rows

-- ### Tickets

ended_ticket : (b : Bool) (stand : Stand) (t : ℕ) → ticket_of (if b then Is_done else stand) ≡ Some t → ticket_of stand ≡ Some t
ended_ticket true stand t e = absurd cc
ended_ticket false stand t e = e

ticket_there : (rows : List Stand) (k t : ℕ) → ticket_of (at (map terminated_child rows) k) ≡ Some t → ticket_of (at rows k) ≡ Some t
ticket_there [] k t e = e
ticket_there (stand ∷ rows) zero t e = ended_ticket (may_end stand) stand t e
ticket_there (stand ∷ rows) (suc k) t e = ticket_there rows k t e

new_children : (rows : List Stand) (d : ℕ) → IsNew rows d → IsNew (over_children terminated_child rows) d
new_children [] d fresh = fresh
new_children (main ∷ children) d fresh = at_all
  where
    at_all : (k : ℕ) → ticket_of (at (main ∷ map terminated_child children) k) ≢ Some (d + 1)
    at_all zero = fresh 0
    at_all (suc k) = λ e. fresh (suc k) (ticket_there children k (d + 1) e)

new_ready : (rows : List Stand) (d : ℕ) → IsNew rows d → IsNew (set rows 0 Is_ready) d
new_ready [] d fresh = fresh
new_ready (main ∷ children) d fresh = at_all
  where
    at_all : (k : ℕ) → ticket_of (at (Is_ready ∷ children) k) ≢ Some (d + 1)
    at_all zero = λ e. absurd cc
    at_all (suc k) = fresh (suc k)

either_new : (b : Bool) (w : Table) → IsNew w.rows w.done → (let u : Table = if b then placed w 0 Is_ready else w in IsNew u.rows u.done)
either_new true w fresh = new_ready w.rows w.done fresh
either_new false w fresh = fresh

pub terminated_new : (w : Table) → IsNew w.rows w.done → IsNew (terminated w).rows (terminated w).done
terminated_new w fresh = let v : Table = children_ended w in either_new (is_released v.rows) v (new_children w.rows w.done fresh)

-- ### Due moments

lesser_first : (a b : Option ℕ) → lesser a b ≡ None → a ≡ None
lesser_first None b e = refl
lesser_first (Some t) None e = absurd cc
lesser_first (Some t) (Some u) e = absurd cc

lesser_second : (a b : Option ℕ) → lesser a b ≡ None → b ≡ None
lesser_second None b e = e
lesser_second (Some t) None e = absurd cc
lesser_second (Some t) (Some u) e = absurd cc

lesser_none : (a b : Option ℕ) → a ≡ None → b ≡ None → lesser a b ≡ None
lesser_none None b e f = f
lesser_none (Some t) b e f = absurd cc

ended_due : (b : Bool) (stand : Stand) → due_of stand ≡ None → due_of (if b then Is_done else stand) ≡ None
ended_due true stand e = refl
ended_due false stand e = e

none_due : (rows : List Stand) → least due_of rows ≡ None → least due_of (map terminated_child rows) ≡ None
none_due [] e = e
none_due (stand ∷ rows) e =
    lesser_none (due_of (terminated_child stand)) (least due_of (map terminated_child rows))
    (ended_due (may_end stand) stand (lesser_first (due_of stand) (least due_of rows) e))
    (none_due rows (lesser_second (due_of stand) (least due_of rows) e))

children_due : (rows : List Stand) → earliest rows ≡ None → earliest (over_children terminated_child rows) ≡ None
children_due [] e = e
children_due (main ∷ children) e =
    lesser_none (due_of main) (least due_of (map terminated_child children)) (lesser_first (due_of main) (least due_of children) e)
    (none_due children (lesser_second (due_of main) (least due_of children) e))

ready_due : (rows : List Stand) → earliest rows ≡ None → earliest (set rows 0 Is_ready) ≡ None
ready_due [] e = e
ready_due (main ∷ children) e = lesser_second (due_of main) (least due_of children) e

either_due : (b : Bool) (w : Table) → earliest w.rows ≡ None → (let u : Table = if b then placed w 0 Is_ready else w in earliest u.rows ≡ None)
either_due true w e = ready_due w.rows e
either_due false w e = e

pub terminated_due : (w : Table) → earliest w.rows ≡ None → earliest (terminated w).rows ≡ None
terminated_due w e = let v : Table = children_ended w in either_due (is_released v.rows) v (children_due w.rows e)

due_by : (b : Bool) (o : Option ℕ) (c : Bool) → (not b && is_none o && c) ≡ true → o ≡ None
due_by b None c e = refl
due_by true (Some t) c e = absurd cc
due_by false (Some t) c e = absurd cc

pub ending_due : (rows : List Stand) → may_all_end rows ≡ true → earliest rows ≡ None
ending_due rows e = due_by (some_ready rows) (earliest rows) (children_may_end rows) e
