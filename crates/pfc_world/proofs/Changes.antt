-- One row changes, and the table with it.
use Rattle.std.proofs.Common.{◌≡◌, ◌≢◌, ℕ, ◌+◌, ◌<◌, ◌≤◌, Bool, false, ◌==◌, inl, inr, Option, None, Some, List, length, get_or, set, arith, refl, sym, ap, ◌∙◌}
use Rattle.std.proofs.Common.{subst}
use Rattle.std.proofs.lemmas.List.{map-set, length-set, length-map, get_or-set_same, get_or-set_other, get_or_read, get_or_past, set-get_or}
use Rattle.std.proofs.lemmas.Bool.{cases_eq, cases_lt, eq-eqb}
use Rattle.std.proofs.lemmas.Bool.Decides.{nat_tests}
use Rattle.std.proofs.Math.ListN.{get_or-map}
use Rattle.pfc_state.specs.declared.waits.Arm.{Arm}
use Rattle.pfc_state.specs.declared.waits.Why.{Why}
use Rattle.pfc_state.specs.Seats.{Seat, seated, vacated}
use Rattle.pfc_state.specs.Stands.{Stand, Is_idle, Is_created, Is_ready, Waits, Is_done, ticket_of, is_unfinished, IsWaiting}
use Rattle.pfc_world.specs.Rows.{AreTied, stand_of, stands, table_of, is_acting, nobody, seat_at}
use Rattle.pfc_world.specs.Tables.{Table, at}
use Rattle.pfc_world.specs.Tickets.{AreTickets, IsNew}
use Rattle.pfc_world.specs.Transitions.{begun, rested, placed, blocked}

-- The fields of a table, and what is seen of them.
pub record Now (seats : List Seat) (acting : Option ℕ) (done moment room : ℕ) (w : Table) : Type 0 where
  pub tied : AreTied seats acting done room
  pub is : table_of seats acting done moment room ≡ w

abbrev seen : List Stand → Option ℕ → ℕ → ℕ → ℕ → Table
seen rows acting done moment room = record { rows = rows; acting = acting; done = done; moment = moment; room = room }

abbrev with_row : Table → Option ℕ → ℕ → Stand → Table
with_row w b p s = record w { acting = b; rows = set w.rows p s }

abbrev with_stand : Seat → Stand → Seat
with_stand seat s = record seat { stand = s }

abbrev seat_of : ℕ → Bool → Stand → ℕ → Seat
seat_of number away stand room = record { number = number; away = away; stand = stand; room = room }

pub stand-at : (seats : List Seat) (p : ℕ) → at (stands seats) p ≡ (get_or seats p nobody).stand
stand-at seats p = get_or-map stand_of seats p nobody

pub stands-set : (seats : List Seat) (p : ℕ) (y : Seat) (s : Stand) → y.stand ≡ s → stands (set seats p y) ≡ set (stands seats) p s
stands-set seats p y s e = map-set stand_of seats p y ∙ ap (λ v. set (stands seats) p v) e

-- a row that was read is that of its process
pub seat-is : (seats : List Seat) (a : Option ℕ) (d room p : ℕ) (x : Seat)
    → AreTied seats a d room → p < length seats → x ≡ get_or seats p x → x ≡ seat_at p a room (at (stands seats) p)
seat-is seats a d room p x tied lt read =
    get_or_read seats p x lt read nobody ∙ tied.each p lt ∙ ap (λ s. seat_at p a room s) (sym (stand-at seats p))

seats-set : (seats : List Seat) (a b : Option ℕ) (room p : ℕ) (y : Seat) (s : Stand)
    → ((k : ℕ) → k < length seats → get_or seats k nobody ≡ seat_at k a room (get_or seats k nobody).stand)
    → y ≡ seat_at p b room s → ((k : ℕ) → k ≢ p → is_acting a k ≡ is_acting b k)
    → (k : ℕ) → k < length (set seats p y) → get_or (set seats p y) k nobody ≡ seat_at k b room (get_or (set seats p y) k nobody).stand
seats-set seats a b room p y s each e others k lt =
    let lt' : k < length seats = rw length-set at lt in
    elim (cases_eq k p) [
      | inl here ↦
          let at_p : p < length seats = subst (λ n. n < length seats) here lt' in
          let got : get_or (set seats p y) k nobody ≡ y = ap (λ n. get_or (set seats p y) n nobody) here ∙ get_or-set_same seats p y nobody at_p in
          let stand : y.stand ≡ s = ap (λ v. v.stand) e in
          got ∙ e ∙ ap (λ v. seat_at p b room v) (sym stand ∙ ap (λ v. v.stand) (sym got)) ∙
          ap (λ n. seat_at n b room (get_or (set seats p y) k nobody).stand) (sym here)
      | inr away ↦
          let got : get_or (set seats p y) k nobody ≡ get_or seats k nobody = get_or-set_other seats p k y nobody away in
          got ∙ each k lt' ∙ ap (λ v. seat_of k v (get_or seats k nobody).stand room) (others k away) ∙ ap (λ v. seat_at k b room v.stand) (sym got)
    ]

ties : (seats : List Seat) (a b : Option ℕ) (d room p : ℕ) (s : Stand) (y : Seat)
    → AreTied seats a d room → y ≡ seat_at p b room s → ((k : ℕ) → k ≢ p → is_acting a k ≡ is_acting b k)
    → ((q : ℕ) → b ≡ Some q → q < length seats)
    → ((q : ℕ) → b ≡ Some q → at (set (stands seats) p s) q ≡ Is_ready)
    → AreTickets (set (stands seats) p s) d
    → AreTied (set seats p y) b d room
ties seats a b d room p s y tied e others within acts tickets =
    let stands_are : stands (set seats p y) ≡ set (stands seats) p s = stands-set seats p y s (ap (λ v. v.stand) e) in
    record {
      some = rw length-set tied.some;
      few = rw length-set tied.few;
      counted = tied.counted;
      within = λ q h. rw length-set (within q h);
      acts = λ q h. ap (λ v. at v q) stands_are ∙ acts q h;
      each = seats-set seats a b room p y s tied.each e others;
      tickets = subst (λ v. AreTickets v d) (sym stands_are) tickets;
    }

-- One row changes: what is seen changes there, and in who acts.
pub changes : (seats : List Seat) (a b : Option ℕ) (d m room p : ℕ) (s : Stand) (y : Seat) (w : Table)
    → Now seats a d m room w → y ≡ seat_at p b room s → ((k : ℕ) → k ≢ p → is_acting a k ≡ is_acting b k)
    → ((q : ℕ) → b ≡ Some q → q < length seats)
    → ((q : ℕ) → b ≡ Some q → at (set w.rows p s) q ≡ Is_ready)
    → AreTickets (set w.rows p s) d
    → Now (set seats p y) b d m room (record w { acting = b; rows = set w.rows p s })
changes seats a b d m room p s y w now e others within acts tickets =
    let rows : stands seats ≡ w.rows = ap (λ v. v.rows) now.is in
    record {
      tied = ties seats a b d room p s y now.tied e others within
          (λ q h. ap (λ v. at (set v p s) q) rows ∙ acts q h)
          (subst (λ v. AreTickets (set v p s) d) (sym rows) tickets);
      is = ap (λ v. seen v b d m room) (stands-set seats p y s (ap (λ v. v.stand) e))
          ∙ ap (λ v. with_row v b p s) now.is;
    }

-- where somebody stands, there is a process
below : (rows : List Stand) (p : ℕ) → at rows p ≢ Is_idle → p < length rows
below rows p h = elim (cases_lt p (length rows)) [ inl lt ↦ lt | inr le ↦ absurd (h (get_or_past rows p Is_idle le)) ]

rows-length : (seats : List Seat) (a : Option ℕ) (d m room : ℕ) (w : Table) → Now seats a d m room w → length w.rows ≡ length seats
rows-length seats a d m room w now = ap (λ v. length v.rows) (sym now.is) ∙ length-map seats stand_of

-- a row of the table is there where its process stands at something
pub within : (seats : List Seat) (a : Option ℕ) (d m room p : ℕ) (w : Table)
    → Now seats a d m room w → at w.rows p ≢ Is_idle → p < length seats
within seats a d m room p w now h = subst (λ n. p < n) (rows-length seats a d m room w now) (below w.rows p h)

pub ready-within : (seats : List Seat) (a : Option ℕ) (d m room p : ℕ) (w : Table)
    → Now seats a d m room w → at w.rows p ≡ Is_ready → p < length seats
ready-within seats a d m room p w now ready = within seats a d m room p w now (λ idle. let e : Is_ready ≡ Is_idle = sym ready ∙ idle in cc)

-- who acts is a process of the table
pub acting-within : (seats : List Seat) (a : Option ℕ) (d m room r : ℕ) (w : Table)
    → Now seats a d m room w → w.acting ≡ Some r → r < length w.rows
acting-within seats a d m room r w now acts =
    subst (λ n. r < n) (sym (rows-length seats a d m room w now)) (now.tied.within r (ap (λ v. v.acting) now.is ∙ acts))

-- who acts shows as ready
pub acting-ready : (seats : List Seat) (a : Option ℕ) (d m room r : ℕ) (w : Table)
    → Now seats a d m room w → w.acting ≡ Some r → at w.rows r ≡ Is_ready
acting-ready seats a d m room r w now acts =
    ap (λ v. at v.rows r) (sym now.is) ∙ now.tied.acts r (ap (λ v. v.acting) now.is ∙ acts)

waiting-known : (s : Stand) → IsWaiting s → s ≢ Is_idle
waiting-known (Waits why ticket arms) h e = cc
waiting-known Is_idle h e = absurd h
waiting-known Is_created h e = absurd h
waiting-known Is_ready h e = absurd h
waiting-known Is_done h e = absurd h

pub waits-within : (rows : List Stand) (p : ℕ) → IsWaiting (at rows p) → p < length rows
waits-within rows p h = below rows p (waiting-known (at rows p) h)

pub waiting-within : (seats : List Seat) (a : Option ℕ) (d m room p : ℕ) (w : Table)
    → Now seats a d m room w → IsWaiting (at w.rows p) → p < length seats
waiting-within seats a d m room p w now h = within seats a d m room p w now (waiting-known (at w.rows p) h)

-- a row that was read, by what is seen
read : (seats : List Seat) (a : Option ℕ) (d m room p : ℕ) (x : Seat) (w : Table)
    → Now seats a d m room w → p < length seats → x ≡ get_or seats p x → x ≡ seat_at p a room (at w.rows p)
read seats a d m room p x w now lt e = seat-is seats a d room p x now.tied lt e ∙ ap (λ v. seat_at p a room (at v.rows p)) now.is

tickets-now : (seats : List Seat) (a : Option ℕ) (d m room : ℕ) (w : Table) → Now seats a d m room w → AreTickets w.rows d
tickets-now seats a d m room w now = subst (λ v. AreTickets v.rows d) now.is now.tied.tickets

-- whose ticket it is after a process was placed
data Whose (rows : List Stand) (p : ℕ) (s : Stand) (k t : ℕ) : Type 0 where
  here : k ≡ p → ticket_of s ≡ Some t → Whose rows p s k t
  there : ticket_of (at rows k) ≡ Some t → Whose rows p s k t

whose : (rows : List Stand) (p : ℕ) (s : Stand) (k t : ℕ) → p < length rows → ticket_of (at (set rows p s) k) ≡ Some t → Whose rows p s k t
whose rows p s k t lt h =
    elim (cases_eq k p) [
      | inl at_p ↦ here at_p (sym (ap ticket_of (ap (λ n. at (set rows p s) n) at_p ∙ get_or-set_same rows p s Is_idle lt)) ∙ h)
      | inr away ↦ there (sym (ap ticket_of (get_or-set_other rows p k s Is_idle away)) ∙ h)
    ]

-- a process that does not wait takes no ticket
pub tickets-none : (rows : List Stand) (p d : ℕ) (s : Stand) → p < length rows → ticket_of s ≡ None → AreTickets rows d → AreTickets (set rows p s) d
tickets-none rows p d s lt none tickets = record {
  upto = λ k t h. upto k t (whose rows p s k t lt h);
  apart = λ j k t h g. apart j k t (whose rows p s j t lt h) (whose rows p s k t lt g);
}
  where
    old : (k t : ℕ) → Whose rows p s k t → ticket_of (at rows k) ≡ Some t
    old k t (here e own) = let e' : None ≡ Some t = sym none ∙ own in cc
    old k t (there own) = own

    upto : (k t : ℕ) → Whose rows p s k t → t ≤ d + 1
    upto k t h = tickets.upto k t (old k t h)

    apart : (j k t : ℕ) → Whose rows p s j t → Whose rows p s k t → j ≡ k
    apart j k t h g = tickets.apart j k t (old j t h) (old k t g)

-- a process takes the ticket of the present action
pub tickets-more : (rows : List Stand) (p d : ℕ) (s : Stand) → p < length rows → ticket_of s ≡ Some (d + 1) → IsNew rows d →
    AreTickets rows d → AreTickets (set rows p s) d
tickets-more rows p d s lt more new tickets = record {
  upto = λ k t h. upto k t (whose rows p s k t lt h);
  apart = λ j k t h g. apart j k t (whose rows p s j t lt h) (whose rows p s k t lt g);
}
  where
    is : (t : ℕ) → ticket_of s ≡ Some t → Some (d + 1) ≡ Some t
    is t own = sym more ∙ own

    upto : (k t : ℕ) → Whose rows p s k t → t ≤ d + 1
    upto k t (here e own) = let e' : Some (d + 1) ≡ Some t = is t own in let e'' : d + 1 ≡ t = cc in omega arith
    upto k t (there own) = tickets.upto k t own

    clash : (k t : ℕ) → ticket_of s ≡ Some t → ticket_of (at rows k) ≡ Some t → ⊥
    clash k t own other = new k (other ∙ sym (is t own))

    apart : (j k t : ℕ) → Whose rows p s j t → Whose rows p s k t → j ≡ k
    apart j k t (here e own) (here f other) = e ∙ sym f
    apart j k t (here e own) (there other) = absurd (clash k t own other)
    apart j k t (there own) (here f other) = absurd (clash j t other own)
    apart j k t (there own) (there other) = tickets.apart j k t own other

not-acting : (p k : ℕ) → k ≢ p → false ≡ (p == k)
not-acting p k h = grind (arith, nat_tests)

-- `begin`
pub begins : (seats : List Seat) (a : Option ℕ) (d m room p : ℕ) (x y : Seat) (w : Table)
    → Now seats a d m room w → w.acting ≡ None → at w.rows p ≡ Is_ready → x ≡ get_or seats p x → y ≡ vacated x
    → Now (set seats p y) (Some p) d m room (begun w p)
begins seats a d m room p x y w now alone ready got e =
    let lt : p < length seats = ready-within seats a d m room p w now ready in
    let nobody_acts : a ≡ None = ap (λ v. v.acting) now.is ∙ alone in
    let same : set w.rows p Is_ready ≡ w.rows = ap (λ s. set w.rows p s) (sym ready) ∙ set-get_or w.rows p Is_idle in
    let seat : y ≡ seat_at p (Some p) room Is_ready =
    e ∙ ap vacated (read seats a d m room p x w now lt got) ∙ ap (λ v. seat_of p v Is_ready room) (sym (eq-eqb p p refl)) in
    let made : Now (set seats p y) (Some p) d m room (record w { acting = Some p; rows = set w.rows p Is_ready }) =
    changes seats a (Some p) d m room p Is_ready y w now seat
    (λ k h. ap (λ v. is_acting v k) nobody_acts ∙ not-acting p k h)
    (λ q h. let e' : p ≡ q = cc in subst (λ n. n < length seats) e' lt)
    (λ q h. let e' : p ≡ q = cc in ap (λ v. at v q) same ∙ ap (λ n. at w.rows n) (sym e') ∙ ready)
    (subst (λ v. AreTickets v d) (sym same) (tickets-now seats a d m room w now)) in
    subst (λ v. Now (set seats p y) (Some p) d m room (record w { acting = Some p; rows = v })) same made

-- the process that acted stands at this
pub gives_up : (seats : List Seat) (a : Option ℕ) (d m room p r : ℕ) (s : Stand) (x y : Seat) (w : Table)
    → Now seats a d m room w → p ≡ r → w.acting ≡ Some r → x ≡ get_or seats p x → y ≡ seated x s
    → AreTickets (set w.rows p s) d
    → Now (set seats p y) None d m room (rested (placed w r s))
gives_up seats a d m room p r s x y w now same acts got e tickets =
    let acting : a ≡ Some p = ap (λ v. v.acting) now.is ∙ acts ∙ ap (λ n. Some n) (sym same) in
    let lt : p < length seats = now.tied.within p acting in
    let made : Now (set seats p y) None d m room (record w { acting = None; rows = set w.rows p s }) =
    changes seats a None d m room p s y w now (e ∙ ap (λ v. seated v s) (read seats a d m room p x w now lt got))
    (λ k h. ap (λ v. is_acting v k) acting ∙ sym (not-acting p k h))
    (λ q h. cc) (λ q h. cc) tickets in
    subst (λ n. Now (set seats p y) None d m room (rested (placed w n s))) same made

-- a process that does not act stands at this
pub places : (seats : List Seat) (a : Option ℕ) (d m room p : ℕ) (s : Stand) (x y : Seat) (w : Table)
    → Now seats a d m room w → p < length seats → x ≡ get_or seats p x → y ≡ record x { stand = s }
    → at w.rows p ≢ Is_ready → ticket_of s ≡ None
    → Now (set seats p y) a d m room (placed w p s)
places seats a d m room p s x y w now lt got e away none =
    let acting : a ≡ w.acting = ap (λ v. v.acting) now.is in
    let made : Now (set seats p y) a d m room (record w { acting = a; rows = set w.rows p s }) =
    changes seats a a d m room p s y w now (e ∙ ap (λ v. with_stand v s) (read seats a d m room p x w now lt got))
    (λ k h. refl) (λ q h. now.tied.within q h)
    (λ q h. let ready : at w.rows q ≡ Is_ready = ap (λ v. at v.rows q) (sym now.is) ∙ now.tied.acts q h in
    let other : q ≢ p = λ same. away (ap (λ n. at w.rows n) (sym same) ∙ ready) in
    get_or-set_other w.rows p q s Is_idle other ∙ ready)
    (tickets-none w.rows p d s (subst (λ n. p < n) (sym (rows-length seats a d m room w now)) lt) none (tickets-now seats a d m room w now)) in
    subst (λ v. Now (set seats p y) a d m room (record w { acting = v; rows = set w.rows p s })) acting made

waiting-away : (s : Stand) → IsWaiting s → s ≢ Is_ready
waiting-away (Waits why ticket arms) h e = cc
waiting-away Is_idle h e = absurd h
waiting-away Is_created h e = absurd h
waiting-away Is_ready h e = absurd h
waiting-away Is_done h e = absurd h

-- a process that waited stands at this
pub unblocks : (seats : List Seat) (a : Option ℕ) (d m room p : ℕ) (s : Stand) (x y : Seat) (w : Table)
    → Now seats a d m room w → IsWaiting (at w.rows p) → x ≡ get_or seats p x → y ≡ record x { stand = s } → ticket_of s ≡ None
    → Now (set seats p y) a d m room (placed w p s)
unblocks seats a d m room p s x y w now waits got e none =
    places seats a d m room p s x y w now (waiting-within seats a d m room p w now waits) got e (waiting-away (at w.rows p) waits) none

-- the process that acted waits
pub blocks : (seats : List Seat) (a : Option ℕ) (d m room p r : ℕ) (why : Why) (arms : List Arm) (x y : Seat) (w : Table)
    → Now seats a d m room w → p ≡ r → w.acting ≡ Some r → x ≡ get_or seats p x → y ≡ seated x (Waits why (d + 1) arms)
    → IsNew w.rows w.done
    → Now (set seats p y) None d m room (blocked w r why arms)
blocks seats a d m room p r why arms x y w now same acts got e new =
    let acting : a ≡ Some p = ap (λ v. v.acting) now.is ∙ acts ∙ ap (λ n. Some n) (sym same) in
    let lt : p < length seats = now.tied.within p acting in
    let done : d ≡ w.done = ap (λ v. v.done) now.is in
    let fresh : IsNew w.rows d = subst (λ n. IsNew w.rows n) (sym done) new in
    subst (λ n. Now (set seats p y) None d m room (rested (placed w r (Waits why (n + 1) arms)))) done
    (gives_up seats a d m room p r (Waits why (d + 1) arms) x y w now same acts got e
    (tickets-more w.rows p d (Waits why (d + 1) arms) (subst (λ n. p < n) (sym (rows-length seats a d m room w now)) lt) refl
    fresh (tickets-now seats a d m room w now)))

-- the process that acted does not wait
pub leaves : (seats : List Seat) (a : Option ℕ) (d m room p r : ℕ) (s : Stand) (x y : Seat) (w : Table)
    → Now seats a d m room w → p ≡ r → w.acting ≡ Some r → x ≡ get_or seats p x → y ≡ seated x s → ticket_of s ≡ None
    → Now (set seats p y) None d m room (rested (placed w r s))
leaves seats a d m room p r s x y w now same acts got e none =
    let acting : a ≡ Some p = ap (λ v. v.acting) now.is ∙ acts ∙ ap (λ n. Some n) (sym same) in
    let lt : p < length seats = now.tied.within p acting in
    gives_up seats a d m room p r s x y w now same acts got e
    (tickets-none w.rows p d s (subst (λ n. p < n) (sym (rows-length seats a d m room w now)) lt) none (tickets-now seats a d m room w now))

-- `rest`
pub rests : (seats : List Seat) (a : Option ℕ) (d m room p r : ℕ) (x y : Seat) (w : Table)
    → Now seats a d m room w → p ≡ r → w.acting ≡ Some r → x ≡ get_or seats p x → y ≡ seated x Is_ready
    → Now (set seats p y) None d m room (rested w)
rests seats a d m room p r x y w now same acts got e =
    let acting : a ≡ Some r = ap (λ v. v.acting) now.is ∙ acts in
    let ready : at w.rows r ≡ Is_ready = ap (λ v. at v.rows r) (sym now.is) ∙ now.tied.acts r acting in
    let unmoved : set w.rows r Is_ready ≡ w.rows = ap (λ s. set w.rows r s) (sym ready) ∙ set-get_or w.rows r Is_idle in
    subst (λ v. Now (set seats p y) None d m room (record w { acting = None; rows = v })) unmoved
    (leaves seats a d m room p r Is_ready x y w now same acts got e refl)

-- what a row shows is what its process stands at
pub shown-at : (seats : List Seat) (p : ℕ) (x : Seat) → p < length seats → x ≡ get_or seats p x → x.stand ≡ at (stands seats) p
shown-at seats p x lt e = ap (λ v. v.stand) (get_or_read seats p x lt e nobody) ∙ sym (stand-at seats p)

unfinished-away : (s : Stand) → is_unfinished s ≡ false → s ≢ Is_ready
unfinished-away s h e = let ready : is_unfinished Is_ready ≡ false = subst (λ v. is_unfinished v ≡ false) e h in cc

-- what a process that was read stands at
pub read-stand : (seats : List Seat) (a : Option ℕ) (d m room p : ℕ) (x : Seat) (w : Table)
    → Now seats a d m room w → p < length w.rows → x ≡ get_or seats p x → x.stand ≡ at w.rows p
read-stand seats a d m room p x w now lt got =
    ap (λ v. v.stand) (read seats a d m room p x w now (subst (λ n. p < n) (rows-length seats a d m room w now) lt) got)

-- `create`
pub creates : (seats : List Seat) (a : Option ℕ) (d m room p : ℕ) (x y : Seat) (w : Table)
    → Now seats a d m room w → p < length w.rows → x ≡ get_or seats p x → is_unfinished x.stand ≡ false → y ≡ record x { stand = Is_created }
    → Now (set seats p y) a d m room (placed w p Is_created)
creates seats a d m room p x y w now lt got over e =
    let over' : is_unfinished (at w.rows p) ≡ false = ap is_unfinished (sym (read-stand seats a d m room p x w now lt got)) ∙ over in
    places seats a d m room p Is_created x y w now (subst (λ n. p < n) (rows-length seats a d m room w now) lt) got e (unfinished-away (at w.rows p) over') refl
