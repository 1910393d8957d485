-- Every standing changes by one rule, and the table with it.
use Rattle.std.proofs.Common.{◌≡◌, ℕ, ◌+◌, ◌<◌, ◌≤◌, Bool, true, false, Option, Some, List, [], ◌∷◌, ◌++◌, length, get_or, map, take, drop, refl, sym, ap, ◌∙◌}
use Rattle.std.proofs.Common.{subst, cond}
use Rattle.std.proofs.lemmas.List.{length-map, get_or-map, take_at}
use Rattle.std.proofs.Math.ListN.{get_or-map as at-map}
use Rattle.pfc_state.specs.Seats.{Seat}
use Rattle.pfc_state.specs.Stands.{Stand, Is_idle, Is_created, Is_ready, Waits, Is_done, ticket_of, due_of, is_due, started, woken}
use Rattle.pfc_world.specs.Rows.{AreTied, stands, nobody, seat_at, seat_by}
use Rattle.pfc_world.specs.Settling.{woken_now}
use Rattle.pfc_world.specs.Tables.{Table, at}
use Rattle.pfc_world.specs.Tickets.{AreTickets, IsNew}
use Rattle.pfc_world.proofs.Changes.{Now}

abbrev seen : List Stand → Option ℕ → ℕ → ℕ → ℕ → Table
seen rows acting done moment room = record { rows = rows; acting = acting; done = done; moment = moment; room = room }

abbrev changed : Table → (Stand → Stand) → Table
changed w change = record w { rows = map change w.rows }

-- a rule that keeps who is idle or ready, and makes no ticket
pub record IsKind (change : Stand → Stand) : Type 0 where
  pub idle : change Is_idle ≡ Is_idle
  pub ready : change Is_ready ≡ Is_ready
  pub ticket : (s : Stand) (t : ℕ) → ticket_of (change s) ≡ Some t → ticket_of s ≡ Some t

pub started-kind : IsKind started
started-kind = record { idle = refl; ready = refl; ticket = ticket }
  where
    ticket : (s : Stand) (t : ℕ) → ticket_of (started s) ≡ Some t → ticket_of s ≡ Some t
    ticket Is_idle t h = h
    ticket Is_created t h = h
    ticket Is_ready t h = h
    ticket (Waits why since arms) t h = h
    ticket Is_done t h = h

pub woken-kind : (moment : ℕ) → IsKind (woken moment)
woken-kind moment = record { idle = refl; ready = refl; ticket = λ s t h. ticket s (is_due moment (due_of s)) t h }
  where
    ticket : (s : Stand) (b : Bool) (t : ℕ) → ticket_of (cond b Is_ready s) ≡ Some t → ticket_of s ≡ Some t
    ticket s true t h = cc
    ticket s false t h = h

pub at-changed : (change : Stand → Stand) (rows : List Stand) (k : ℕ) → IsKind change → at (map change rows) k ≡ change (at rows k)
at-changed change rows k kind = ap (λ d. get_or (map change rows) k d) (sym kind.idle) ∙ at-map change rows k Is_idle

-- a process that waits since the present action waited since it before
pub fresh-map : (change : Stand → Stand) (rows : List Stand) (d : ℕ) → IsKind change → IsNew rows d → IsNew (map change rows) d
fresh-map change rows d kind new k h = new k (kind.ticket (at rows k) (d + 1) (sym (ap ticket_of (at-changed change rows k kind)) ∙ h))

tickets-map : (change : Stand → Stand) (rows : List Stand) (d : ℕ) → IsKind change → AreTickets rows d → AreTickets (map change rows) d
tickets-map change rows d kind tickets = record {
  upto = λ k t h. tickets.upto k t (old k t h);
  apart = λ j k t h g. tickets.apart j k t (old j t h) (old k t g);
}
  where
    old : (k t : ℕ) → ticket_of (at (map change rows) k) ≡ Some t → ticket_of (at rows k) ≡ Some t
    old k t h = kind.ticket (at rows k) t (sym (ap ticket_of (at-changed change rows k kind)) ∙ h)

stands-map : (change : Stand → Stand) (seats : List Seat) → stands (map (seat_by change) seats) ≡ map change (stands seats)
stands-map change [] = refl
stands-map change (s ∷ rest) = ap (λ v. change s.stand ∷ v) (stands-map change rest)

each-map : (change : Stand → Stand) (seats : List Seat) (a : Option ℕ) (room : ℕ)
    → ((k : ℕ) → k < length seats → get_or seats k nobody ≡ seat_at k a room (get_or seats k nobody).stand)
    → (k : ℕ) → k < length (map (seat_by change) seats)
    → get_or (map (seat_by change) seats) k nobody ≡ seat_at k a room (get_or (map (seat_by change) seats) k nobody).stand
each-map change seats a room each k lt =
    let lt' : k < length seats = subst (λ n. k < n) (length-map seats (seat_by change)) lt in
    let got : get_or (map (seat_by change) seats) k nobody ≡ seat_by change (get_or seats k nobody) = get_or-map (seat_by change) seats k nobody nobody lt' in
    got ∙ ap (seat_by change) (each k lt') ∙ ap (λ v. seat_at k a room v.stand) (sym got)

-- Every row changes by the rule, and what is seen changes so.
pub maps : (seats : List Seat) (a : Option ℕ) (d m room : ℕ) (change : Stand → Stand) (w : Table)
    → IsKind change → Now seats a d m room w → Now (map (seat_by change) seats) a d m room (record w { rows = map change w.rows })
maps seats a d m room change w kind now =
    let tied : AreTied seats a d room = now.tied in
    record {
      tied = record {
        some = subst (λ n. 0 < n) (sym (length-map seats (seat_by change))) tied.some;
        few = subst (λ n. n ≤ 1024) (sym (length-map seats (seat_by change))) tied.few;
        counted = tied.counted;
        within = λ p h. subst (λ n. p < n) (sym (length-map seats (seat_by change))) (tied.within p h);
        acts = λ p h. ap (λ v. at v p) (stands-map change seats) ∙ at-changed change (stands seats) p kind ∙ ap change (tied.acts p h) ∙ kind.ready;
        each = each-map change seats a room tied.each;
        tickets = subst (λ v. AreTickets v d) (sym (stands-map change seats)) (tickets-map change (stands seats) d kind tied.tickets);
      };
      is = ap (λ v. seen v a d m room) (stands-map change seats) ∙ ap (λ v. changed v change) now.is;
    }

-- a slice that was lent is the list that was written
pub written : (change : Stand → Stand) (xs ys : List Seat) (n : ℕ) → n ≡ length xs → ys ≡ map (seat_by change) xs
    → take n (ys ++ drop (length ys) xs) ≡ map (seat_by change) xs
written change xs ys n len made =
    take_at ys (drop (length ys) xs) n (ap length made ∙ length-map xs (seat_by change) ∙ sym len) ∙ made

-- `woken_now`
pub wakes : (seats : List Seat) (a : Option ℕ) (d m room : ℕ) (w : Table)
    → Now seats a d m room w → Now (map (seat_by (woken m)) seats) a d m room (woken_now w)
wakes seats a d m room w now =
    subst (λ n. Now (map (seat_by (woken m)) seats) a d m room (changed w (woken n))) (ap (λ v. v.moment) now.is)
    (maps seats a d m room (woken m) w (woken-kind m) now)
