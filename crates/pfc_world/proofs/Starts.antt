-- The table as it is made.
use Rattle.std.proofs.Common.{zero-le, ◌≡◌, ℕ, zero, suc, ◌+◌, ◌-◌, ◌<◌, ◌≤◌, inl, inr, Option, None, Some, List, [], ◌∷◌, ◌++◌, length, get_or, set, replicate}
use Rattle.std.proofs.Common.{arith, refl, sym, ap, ◌∙◌, subst}
use Rattle.std.proofs.lemmas.List.{length-map, length-replicate, get_or-replicate, get_or_append_left, get_or_push, length_push, get_or_past, ext_get_or}
use Rattle.std.proofs.lemmas.Bool.{cases_eq, cases_lt}
use Rattle.pfc_state.specs.Seats.{Seat}
use Rattle.pfc_state.specs.Stands.{Stand, Is_idle, Is_ready, ticket_of}
use Rattle.pfc_world.specs.Rows.{stand_of, stands, nobody, seat_at}
use Rattle.pfc_world.specs.Tables.{Table, at, start_table}
use Rattle.pfc_world.specs.Tickets.{IsNew}
use Rattle.pfc_world.proofs.Changes.{Now, places, stand-at}

-- rows of idle processes, with their numbers
pub record AreIdle (seats : List Seat) (n room : ℕ) : Type 0 where
  pub count : length seats ≡ n
  pub each : (k : ℕ) → k < n → get_or seats k nobody ≡ seat_at k None room Is_idle

pub idle-none : (room : ℕ) → AreIdle [] 0 room
idle-none room = record { count = refl; each = λ k h. absurd (omega arith) }

pub idle-more : (seats : List Seat) (n room : ℕ) (y : Seat) → AreIdle seats n room → y ≡ seat_at n None room Is_idle → AreIdle (seats ++ y ∷ []) (n + 1) room
idle-more seats n room y idle e = record {
  count = length_push seats y ∙ ap (λ v. v + 1) idle.count;
  each = λ k h. elim (cases_eq k n) [
    | inl here ↦ get_or_push seats y nobody k (idle.count ∙ sym here) ∙ e ∙ ap (λ v. seat_at v None room Is_idle) (sym here)
    | inr other ↦
        let lt : k < n = omega arith in
        let within : k < length seats = subst (λ v. k < v) (sym idle.count) lt in
        get_or_append_left seats (y ∷ []) nobody k within ∙ idle.each k lt
  ];
}

idle-at : (seats : List Seat) (n room k : ℕ) → AreIdle seats n room → at (stands seats) k ≡ Is_idle
idle-at seats n room k idle =
    elim (cases_lt k n) [
      | inl lt ↦ stand-at seats k ∙ ap (λ v. v.stand) (idle.each k lt)
      | inr le ↦ get_or_past (stands seats) k Is_idle (subst (λ v. v ≤ k) (sym (length-map seats stand_of ∙ idle.count)) le)
    ]

idle-stands : (seats : List Seat) (n room : ℕ) → AreIdle seats n room → stands seats ≡ replicate n Is_idle
idle-stands seats n room idle =
    ext_get_or Is_idle (stands seats) (replicate n Is_idle) (length-map seats stand_of ∙ idle.count ∙ sym (length-replicate n Is_idle))
    (λ k h. idle-at seats n room k idle
    ∙ sym (get_or-replicate n k Is_idle Is_idle (subst (λ v. k < v) (length-map seats stand_of ∙ idle.count) h)))

abbrev idle_table : ℕ → ℕ → Table
idle_table n room = record { rows = replicate n Is_idle; acting = None; done = 0; moment = 0; room = room }

abbrev seen : List Stand → ℕ → Table
seen rows room = record { rows = rows; acting = None; done = 0; moment = 0; room = room }

idles : (seats : List Seat) (n room : ℕ) → 0 < n → n ≤ 1024 → AreIdle seats n room → Now seats None 0 0 room (idle_table n room)
idles seats n room some few idle = record {
  tied = record {
    some = subst (λ v. 0 < v) (sym idle.count) some;
    few = subst (λ v. v ≤ 1024) (sym idle.count) few;
    counted = zero-le;
    within = λ p h. let no : None ≡ Some p = h in cc;
    acts = λ p h. let no : None ≡ Some p = h in cc;
    each = λ k h. let is : get_or seats k nobody ≡ seat_at k None room Is_idle = idle.each k (subst (λ v. k < v) idle.count h) in
        is ∙ ap (λ v. seat_at k None room v.stand) (sym is);
    tickets = record {
      upto = λ k t h. let no : None ≡ Some t = sym (ap ticket_of (idle-at seats n room k idle)) ∙ h in cc;
      apart = λ j k t h g. let no : None ≡ Some t = sym (ap ticket_of (idle-at seats n room j idle)) ∙ h in cc;
    };
  };
  is = ap (λ v. seen v room) (idle-stands seats n room idle);
}

first-set : (n : ℕ) → 0 < n → set (replicate n Is_idle) 0 Is_ready ≡ Is_ready ∷ replicate (n - 1) Is_idle
first-set zero h = absurd (omega arith)
first-set (suc n) h = let e : n ≡ suc n - 1 = omega arith in ap (λ v. Is_ready ∷ replicate v Is_idle) e

-- main is ready
pub starts : (seats : List Seat) (n room : ℕ) (x y : Seat) → 0 < n → n ≤ 1024 → AreIdle seats n room → x ≡ get_or seats 0 x → y ≡ record x { stand = Is_ready }
    → Now (set seats 0 y) None 0 0 room (start_table n room)
starts seats n room x y some few idle got e =
    let made : Now (set seats 0 y) None 0 0 room (seen (set (replicate n Is_idle) 0 Is_ready) room) =
    places seats None 0 0 room 0 Is_ready x y (idle_table n room) (idles seats n room some few idle) (subst (λ v. 0 < v) (sym idle.count) some) got e
    (λ h. let no : Is_idle ≡ Is_ready = sym (get_or-replicate n 0 Is_idle Is_idle some) ∙ h in cc) refl in
    subst (λ v. Now (set seats 0 y) None 0 0 room (seen v room)) (first-set n some) made

ticket-idle : (m k : ℕ) → ticket_of (at (replicate m Is_idle) k) ≡ None
ticket-idle m k =
    elim (cases_lt k m) [
      | inl lt ↦ ap ticket_of (get_or-replicate m k Is_idle Is_idle lt)
      | inr le ↦ ap ticket_of (get_or_past (replicate m Is_idle) k Is_idle (subst (λ v. v ≤ k) (sym (length-replicate m Is_idle)) le))
    ]

clash : (t : ℕ) (o : Option ℕ) → o ≡ None → o ≡ Some t → ⊥
clash t o e h = let no : None ≡ Some t = sym e ∙ h in cc

-- nobody waits as yet
pub starts-new : (n room : ℕ) → IsNew (start_table n room).rows 0
starts-new n room zero h = clash 1 None refl h
starts-new n room (suc k) h = clash 1 (ticket_of (at (replicate (n - 1) Is_idle) k)) (ticket-idle (n - 1) k) h
