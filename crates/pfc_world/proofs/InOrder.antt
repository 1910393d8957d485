-- A walk along a list of those who wait, in the order of tickets: forward to the first that is sought, and backward
-- to the last.
use Rattle.std.proofs.Common.{◌≡◌, ℕ, suc, ◌+◌, ◌-◌, ◌<◌, ◌≤◌, Bool, true, false, ◌==◌, ◌&&◌, inl, inr, is_some, unwrap_or, Option, None, Some, List, arith}
use Rattle.std.proofs.Common.{refl, sym, ap, ◌∙◌, cond}
use Rattle.std.specs.Prelude.{MatchOption}
use Rattle.std.proofs.lemmas.Bool.{cases_eq, eqb-true}
use Rattle.std.proofs.Math.ListN.{get_or-map}
use Rattle.pfc_links.specs.Members.{Lists, member_at, in_list, IsEmpty, IsNext, IsNobodyAbove, IsPrevious, IsNobodyBelow}
use Rattle.pfc_links.specs.Members.{IsFirst as IsFirstIn, IsLast as IsLastIn}
use Rattle.pfc_state.specs.declared.waits.Why.{Why}
use Rattle.pfc_state.specs.declared.waits.Why.TheVariants.{Coend, Semaphore, Send, Receive, Call, Meeting, Accept, Select, Enter, Condition, Resumer, Entrant}
use Rattle.pfc_state.specs.declared.waits.Why.TheVariants.{Barred, Sleep}
use Rattle.pfc_state.specs.Stands.{Stand, Is_idle, Is_created, Is_ready, Waits, Is_done, ticket_of, ticket_at}
use Rattle.pfc_state.specs.Waits.{same_why}
use Rattle.pfc_world.specs.Firsts.{IsFirst, IsLast, IsNobody, GivesTickets}
use Rattle.pfc_world.specs.Indexes.{AreListed}
use Rattle.pfc_world.specs.declared.lists.Spread.{Spread}
use Rattle.pfc_world.specs.Lists.{list_at, list_of, call_place, member_of}
use Rattle.pfc_world.specs.Tables.{at}
use Rattle.pfc_world.specs.Tickets.{AreApart, AreTickets}
use Rattle.pfc_world.specs.Walks.{IsIn, IsFrontier, IsForward}
use Rattle.pfc_world.proofs.Indexes.{member-ticket}

left-of : (a b : Bool) → (a && b) ≡ true → a ≡ true
left-of true b h = refl
left-of false b h = h

right-of : (a b : Bool) → (a && b) ≡ true → b ≡ true
right-of true b h = h
right-of false b h = cc

-- the same wait is in the same list
same-lists : (spread : Spread) (a b : Why) → same_why a b ≡ true → list_of spread a ≡ list_of spread b
same-lists spread Coend Coend h = refl
same-lists spread (Semaphore s) (Semaphore t) h = ap (λ n. list_at spread 1 n) (eqb-true s t h)
same-lists spread (Send s) (Send t) h = ap (λ n. list_at spread 2 n) (eqb-true s t h)
same-lists spread (Receive s) (Receive t) h = ap (λ n. list_at spread 3 n) (eqb-true s t h)
same-lists spread (Call p e) (Call q f) h =
    ap (λ n. list_at spread 4 (call_place spread n e)) (eqb-true p q (left-of (p == q) (e == f) h)) ∙
    ap (λ n. list_at spread 4 (call_place spread q n)) (eqb-true e f (right-of (p == q) (e == f) h))
same-lists spread (Meeting s) (Meeting t) h = ap (λ n. list_at spread 5 n) (eqb-true s t h)
same-lists spread (Accept s) (Accept t) h = ap (λ n. list_at spread 6 n) (eqb-true s t h)
same-lists spread (Select d e) (Select f g) h = refl
same-lists spread (Enter s) (Enter t) h = ap (λ n. list_at spread 8 n) (eqb-true s t h)
same-lists spread (Condition c r) (Condition d s) h = ap (λ n. list_at spread 9 n) (eqb-true c d (left-of (c == d) _ h))
same-lists spread (Resumer s) (Resumer t) h = ap (λ n. list_at spread 10 n) (eqb-true s t h)
same-lists spread (Entrant s) (Entrant t) h = ap (λ n. list_at spread 11 n) (eqb-true s t h)
same-lists spread (Barred g p) (Barred k q) h = ap (λ n. list_at spread 12 n) (eqb-true g k (left-of (g == k) (p == q) h))
same-lists spread (Sleep s) (Sleep t) h = refl
same-lists spread _ _ h = cc

no-ticket : (A : Type 0) (t : ℕ) → None ≡ Some t → A
no-ticket A t h = cc

passed : (b : Bool) (ticket t : ℕ) → cond b (Some ticket) None ≡ Some t → b ≡ true
passed true ticket t h = refl
passed false ticket t h = cc

given : (b : Bool) (ticket t : ℕ) → cond b (Some ticket) None ≡ Some t → ticket ≡ t
given true ticket t h = cc
given false ticket t h = cc

-- whose wait is this one is in its list
pub why-listed : (spread : Spread) (why : Why) (s : Stand) (t : ℕ) → ticket_at why s ≡ Some t → member_of spread s ≡ in_list (list_of spread why) t
why-listed spread why (Waits cause ticket arms) t h =
    ap (λ n. in_list n ticket) (same-lists spread cause why (passed (same_why cause why) ticket t h)) ∙
    ap (λ n. in_list (list_of spread why) n) (given (same_why cause why) ticket t h)
why-listed spread why Is_idle t h = no-ticket _ t h
why-listed spread why Is_created t h = no-ticket _ t h
why-listed spread why Is_ready t h = no-ticket _ t h
why-listed spread why Is_done t h = no-ticket _ t h

-- all that have a ticket by the key are in the list
abbrev pub AreIn : Spread → (Stand → Option ℕ) → ℕ → Type 0
AreIn spread key list = (s : Stand) (t : ℕ) → key s ≡ Some t → member_of spread s ≡ in_list list t

pub same-member : (spread : Spread) (rows : List Stand) (lists : Lists) (q : ℕ) → AreListed spread rows lists →
    member_at lists.members q ≡ member_of spread (at rows q)
same-member spread rows lists q h = ap (λ v. member_at v q) h.members ∙ get_or-map (member_of spread) rows q Is_idle

none-is : (o : Option ℕ) → ((t : ℕ) → o ≡ Some t → ⊥) → o ≡ None
none-is None f = refl
none-is (Some t) f = absurd (f t refl)

pub forward-starts : (spread : Spread) (key : Stand → Option ℕ) (rows : List Stand) (list : ℕ) (lists : Lists) (o : Option ℕ) →
    AreIn spread key list → AreListed spread rows lists
    → MatchOption o (IsEmpty lists.members list) (IsFirstIn lists.members list) → IsForward spread key rows list o
forward-starts spread key rows list lists None all listed h =
    λ q. none-is (key (at rows q)) (λ t e. h.none q t (same-member spread rows lists q listed ∙ all (at rows q) t e))
forward-starts spread key rows list lists (Some p) all listed h = record {
  ticket = h.ticket;
  own = sym (same-member spread rows lists p listed) ∙ h.own;
  rest = λ q t e. h.least q t (same-member spread rows lists q listed ∙ all (at rows q) t e);
}

not-key : (A : Type 0) (o : Option ℕ) (t : ℕ) → is_some o ≡ false → o ≡ Some t → A
not-key A None t h e = cc
not-key A (Some u) t h e = cc

-- the next of the list, where this one is not sought
pub forward-steps : (spread : Spread) (key : Stand → Option ℕ) (rows : List Stand) (list p : ℕ) (lists : Lists) (o : Option ℕ) → GivesTickets key →
    AreIn spread key list → AreApart rows → AreListed spread rows lists
    → (h : IsFrontier spread key rows list p) → is_some (key (at rows p)) ≡ false
    → MatchOption o (IsNobodyAbove lists.members list h.ticket) (IsNext lists.members list h.ticket) → IsForward spread key rows list o
forward-steps spread key rows list p lists o gives all apart listed h not = go o
  where
    above : (q t : ℕ) → key (at rows q) ≡ Some t → h.ticket < t
    above q t e =
        let le : h.ticket ≤ t = h.rest q t e in
        elim (cases_eq t h.ticket) [
          | inl same ↦
              let at_p : q ≡ p = apart q p t (gives (at rows q) t e) (member-ticket spread (at rows p) list h.ticket h.own ∙ ap (λ n. Some n) (sym same)) in
              not-key (h.ticket < t) (key (at rows p)) t not (sym (ap (λ n. key (at rows n)) at_p) ∙ e)
          | inr other ↦ omega (arith, le, other)
        ]

    go : (o : Option ℕ) → MatchOption o (IsNobodyAbove lists.members list h.ticket) (IsNext lists.members list h.ticket) → IsForward spread key rows list o
    go None n = λ q. none-is (key (at rows q)) (λ t e.
        let le : t ≤ h.ticket = n.most q t (same-member spread rows lists q listed ∙
        all (at rows q) t e) in let lt : h.ticket < t = above q t e in omega (arith, le, lt))
    go (Some q) n = record {
      ticket = n.ticket;
      own = sym (same-member spread rows lists q listed) ∙ n.own;
      rest = λ k t e. n.least k t (same-member spread rows lists k listed ∙ all (at rows k) t e) (above k t e);
    }

some-of : (o : Option ℕ) → is_some o ≡ true → (t : ℕ) × (o ≡ Some t)
some-of None h = cc
some-of (Some t) h = (t, refl)

-- this one is sought
pub forward-found : (spread : Spread) (key : Stand → Option ℕ) (rows : List Stand) (list p : ℕ) → GivesTickets key → IsFrontier spread key rows list p →
    is_some (key (at rows p)) ≡ true → IsFirst key rows p
forward-found spread key rows list p gives h found =
    let own : (t : ℕ) × (key (at rows p) ≡ Some t) = some-of (key (at rows p)) found in
    let same : Some own.0 ≡ Some h.ticket = sym (gives (at rows p) own.0 own.1) ∙ member-ticket spread (at rows p) list h.ticket h.own in
    record { ticket = h.ticket; own = own.1 ∙ same; least = h.rest }

-- how far the end of a walk forward is, by tickets
abbrev pub ahead : List Stand → ℕ → Option ℕ → ℕ
ahead rows done None = 0
ahead rows done (Some p) = suc (done + 1 - unwrap_or (ticket_of (at rows p)) 0)

pub ahead-of : (spread : Spread) (rows : List Stand) (list p t done : ℕ) (lists : Lists) (o : Option ℕ) → AreTickets rows done →
    AreListed spread rows lists → IsIn spread rows list p t
    → MatchOption o (IsNobodyAbove lists.members list t) (IsNext lists.members list t) → ahead rows done o < ahead rows done (Some p)
ahead-of spread rows list p t done lists None tickets listed own n = omega arith
ahead-of spread rows list p t done lists (Some q) tickets listed own n =
    let here : ticket_of (at rows p) ≡ Some t = member-ticket spread (at rows p) list t own in
    let there : ticket_of (at rows q) ≡ Some n.ticket = member-ticket spread (at rows q) list n.ticket (sym (same-member spread rows lists q listed) ∙ n.own) in
    let le : n.ticket ≤ done + 1 = tickets.upto q n.ticket there in
    let beyond : t < n.ticket = n.above in
    let e : unwrap_or (ticket_of (at rows p)) 0 ≡ t = ap (λ v. unwrap_or v 0) here in
    let f : unwrap_or (ticket_of (at rows q)) 0 ≡ n.ticket = ap (λ v. unwrap_or v 0) there in
    omega (arith, le, beyond, e, f)

pub forward-nearer : (spread : Spread) (key : Stand → Option ℕ) (rows : List Stand) (list p done : ℕ) (lists : Lists) (o : Option ℕ) → AreTickets rows done →
    AreListed spread rows lists → (h : IsFrontier spread key rows list p)
    → MatchOption o (IsNobodyAbove lists.members list h.ticket) (IsNext lists.members list h.ticket) → ahead rows done o < ahead rows done (Some p)
forward-nearer spread key rows list p done lists o tickets listed h n = ahead-of spread rows list p h.ticket done lists o tickets listed h.own n

-- Process p is in the list, and who is sought has no greater ticket than it.
pub record IsRearward (spread : Spread) (key : Stand → Option ℕ) (rows : List Stand) (list p : ℕ) : Type 0 where
  pub ticket : ℕ
  pub own : IsIn spread rows list p ticket
  pub rest : (q t : ℕ) → key (at rows q) ≡ Some t → t ≤ ticket

-- where a walk backward has come to: a process, or the end
abbrev pub IsBackward : Spread → (Stand → Option ℕ) → List Stand → ℕ → Option ℕ → Type 0
IsBackward spread key rows list next = MatchOption next (IsNobody key rows) (IsRearward spread key rows list)

pub backward-starts : (spread : Spread) (key : Stand → Option ℕ) (rows : List Stand) (list : ℕ) (lists : Lists) (o : Option ℕ) →
    AreIn spread key list → AreListed spread rows lists
    → MatchOption o (IsEmpty lists.members list) (IsLastIn lists.members list) → IsBackward spread key rows list o
backward-starts spread key rows list lists None all listed h =
    λ q. none-is (key (at rows q)) (λ t e. h.none q t (same-member spread rows lists q listed ∙ all (at rows q) t e))
backward-starts spread key rows list lists (Some p) all listed h = record {
  ticket = h.ticket;
  own = sym (same-member spread rows lists p listed) ∙ h.own;
  rest = λ q t e. h.greatest q t (same-member spread rows lists q listed ∙ all (at rows q) t e);
}

pub backward-steps : (spread : Spread) (key : Stand → Option ℕ) (rows : List Stand) (list p : ℕ) (lists : Lists) (o : Option ℕ) → GivesTickets key →
    AreIn spread key list → AreApart rows → AreListed spread rows lists
    → (h : IsRearward spread key rows list p) → is_some (key (at rows p)) ≡ false
    → MatchOption o (IsNobodyBelow lists.members list h.ticket) (IsPrevious lists.members list h.ticket) → IsBackward spread key rows list o
backward-steps spread key rows list p lists o gives all apart listed h not = go o
  where
    below : (q t : ℕ) → key (at rows q) ≡ Some t → t < h.ticket
    below q t e =
        let le : t ≤ h.ticket = h.rest q t e in
        elim (cases_eq t h.ticket) [
          | inl same ↦
              let at_p : q ≡ p = apart q p t (gives (at rows q) t e) (member-ticket spread (at rows p) list h.ticket h.own ∙ ap (λ n. Some n) (sym same)) in
              not-key (t < h.ticket) (key (at rows p)) t not (sym (ap (λ n. key (at rows n)) at_p) ∙ e)
          | inr other ↦ omega (arith, le, other)
        ]

    go : (o : Option ℕ) → MatchOption o (IsNobodyBelow lists.members list h.ticket) (IsPrevious lists.members list h.ticket) → IsBackward spread key rows list o
    go None n = λ q. none-is (key (at rows q)) (λ t e.
        let le : h.ticket ≤ t = n.fewest q t (same-member spread rows lists q listed ∙
        all (at rows q) t e) in let lt : t < h.ticket = below q t e in omega (arith, le, lt))
    go (Some q) n = record {
      ticket = n.ticket;
      own = sym (same-member spread rows lists q listed) ∙ n.own;
      rest = λ k t e. n.greatest k t (same-member spread rows lists k listed ∙ all (at rows k) t e) (below k t e);
    }

pub backward-found : (spread : Spread) (key : Stand → Option ℕ) (rows : List Stand) (list p : ℕ) → GivesTickets key → IsRearward spread key rows list p →
    is_some (key (at rows p)) ≡ true → IsLast key rows p
backward-found spread key rows list p gives h found =
    let own : (t : ℕ) × (key (at rows p) ≡ Some t) = some-of (key (at rows p)) found in
    let same : Some own.0 ≡ Some h.ticket = sym (gives (at rows p) own.0 own.1) ∙ member-ticket spread (at rows p) list h.ticket h.own in
    record { ticket = h.ticket; own = own.1 ∙ same; greatest = h.rest }

-- how far the end of a walk backward is, by tickets
abbrev pub aback : List Stand → Option ℕ → ℕ
aback rows None = 0
aback rows (Some p) = suc (unwrap_or (ticket_of (at rows p)) 0)

pub backward-nearer : (spread : Spread) (key : Stand → Option ℕ) (rows : List Stand) (list p : ℕ) (lists : Lists) (o : Option ℕ) → AreListed spread rows lists →
    (h : IsRearward spread key rows list p)
    → MatchOption o (IsNobodyBelow lists.members list h.ticket) (IsPrevious lists.members list h.ticket) → aback rows o < aback rows (Some p)
backward-nearer spread key rows list p lists None listed h n = omega arith
backward-nearer spread key rows list p lists (Some q) listed h n =
    let here : ticket_of (at rows p) ≡ Some h.ticket = member-ticket spread (at rows p) list h.ticket h.own in
    let there : ticket_of (at rows q) ≡ Some n.ticket = member-ticket spread (at rows q) list n.ticket (sym (same-member spread rows lists q listed) ∙ n.own) in
    let less : n.ticket < h.ticket = n.below in
    let e : unwrap_or (ticket_of (at rows p)) 0 ≡ h.ticket = ap (λ v. unwrap_or v 0) here in
    let f : unwrap_or (ticket_of (at rows q)) 0 ≡ n.ticket = ap (λ v. unwrap_or v 0) there in
    omega (arith, less, e, f)
