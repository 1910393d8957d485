-- A walk along the list of an alternative, in the order of tickets, to the first process that waits with it.
use Rattle.std.proofs.Common.{◌≡◌, ℕ, zero, suc, ◌+◌, ◌-◌, ◌*◌, ◌/◌, ◌%◌, ◌<◌, ◌≤◌, true, false, inl, inr, is_some, Option, None, Some, List, length, arith}
use Rattle.std.proofs.Common.{refl, sym, ap, ◌∙◌, subst}
use Rattle.std.specs.Prelude.{MatchOption}
use Rattle.std.proofs.Math.Nat.{div-add-mod', mod-lt, mul-zero}
use Rattle.std.proofs.lemmas.Bool.{cases_eq}
use Rattle.pfc_links.specs.declared.links.Member.{Member}
use Rattle.pfc_links.specs.Members.{member_at, in_list, IsEmpty, IsNext, IsNobodyAbove}
use Rattle.pfc_links.specs.Members.{IsFirst as IsFirstIn}
use Rattle.pfc_links.proofs.Members.{within}
use Rattle.pfc_alternatives.specs.Lists.{list_of}
use Rattle.pfc_alternatives.specs.Nodes.{Nodes, IsIn}
use Rattle.pfc_state.specs.declared.waits.Arm.{Arm}
use Rattle.pfc_state.specs.Stands.{Stand, ticket_of, ticket_offering}
use Rattle.pfc_world.specs.Firsts.{IsFirst, IsNobody}
use Rattle.pfc_world.specs.Offers.{AreOffered}
use Rattle.pfc_world.specs.Tables.{at}
use Rattle.pfc_world.specs.Tickets.{AreApart, AreTickets}
use Rattle.pfc_world.proofs.Changes.{waits-within}
use Rattle.pfc_world.proofs.Finding.{ticket-waits, offerings-give}

some-room : (n room x : ℕ) → x < n * room → 0 < room
some-room n zero x lt = let e : n * 0 ≡ 0 = mul-zero n in absurd (omega (arith, lt, e))
some-room n (suc room) x lt = omega arith

-- whose place in a list it is
pub record IsOf (rows : List Stand) (nodes : Nodes) (x t : ℕ) : Type 0 where
  pub within : x < length nodes.members
  pub room : 0 < nodes.room
  pub since : ticket_of (at rows (x / nodes.room)) ≡ Some t
  pub process : x / nodes.room < length rows

pub is-of : (rows : List Stand) (nodes : Nodes) (x list t : ℕ) → AreOffered rows nodes → member_at nodes.members x ≡ in_list list t → IsOf rows nodes x t
is-of rows nodes x list t h own = record {
  within = low;
  room = room;
  since = since;
  process =
      waits-within rows (x / nodes.room) (ticket-waits (at rows (x / nodes.room)) t since);
}
  where
    low : x < length nodes.members
    low = within nodes.members x list t own

    room : 0 < nodes.room
    room = some-room (length rows) nodes.room x (subst (λ n. x < n) h.long low)

    since : ticket_of (at rows (x / nodes.room)) ≡ Some t
    since = (h.each (x / nodes.room) (x % nodes.room) list t (mod-lt x room) (ap (λ n. member_at nodes.members n) (div-add-mod' x nodes.room) ∙ own)).1

-- The place is in the list of the alternative, and who waits with it has no lesser ticket.
pub record IsAhead (arm : Arm) (rows : List Stand) (nodes : Nodes) (x : ℕ) : Type 0 where
  pub ticket : ℕ
  pub own : member_at nodes.members x ≡ in_list (list_of nodes.places arm) ticket
  pub rest : (q t : ℕ) → ticket_offering arm (at rows q) ≡ Some t → ticket ≤ t

-- where the walk has come to: a place, or the end
abbrev pub IsWalk : Arm → List Stand → Nodes → Option ℕ → Type 0
IsWalk arm rows nodes next = MatchOption next (IsNobody (ticket_offering arm) rows) (IsAhead arm rows nodes)

none-is : (o : Option ℕ) → ((t : ℕ) → o ≡ Some t → ⊥) → o ≡ None
none-is None f = refl
none-is (Some t) f = absurd (f t refl)

pub walk-starts : (arm : Arm) (rows : List Stand) (nodes : Nodes) (o : Option ℕ) → AreOffered rows nodes
    → MatchOption o (IsEmpty nodes.members (list_of nodes.places arm)) (IsFirstIn nodes.members (list_of nodes.places arm)) → IsWalk arm rows nodes o
walk-starts arm rows nodes None h e =
    λ q. none-is (ticket_offering arm (at rows q)) (λ t own. let i : IsIn nodes q (list_of nodes.places arm) t =
    h.every arm q t own in e.none (q * nodes.room + i.place) t i.is)
walk-starts arm rows nodes (Some x) h f = record {
  ticket = f.ticket;
  own = f.own;
  rest = λ q t own. let i : IsIn nodes q (list_of nodes.places arm) t = h.every arm q t own in f.least (q * nodes.room + i.place) t i.is;
}

not-key : (A : Type 0) (o : Option ℕ) (t : ℕ) → is_some o ≡ false → o ≡ Some t → A
not-key A None t h e = cc
not-key A (Some u) t h e = cc

-- the next place of the list, where the process of this one does not wait with the alternative
pub walk-steps : (arm : Arm) (rows : List Stand) (nodes : Nodes) (x : ℕ) (o : Option ℕ) → AreApart rows → AreOffered rows nodes → (h : IsAhead arm rows nodes x)
    → is_some (ticket_offering arm (at rows (x / nodes.room))) ≡ false
    → MatchOption o (IsNobodyAbove nodes.members (list_of nodes.places arm) h.ticket) (IsNext nodes.members (list_of nodes.places arm) h.ticket) →
    IsWalk arm rows nodes o
walk-steps arm rows nodes x o apart offered h not = go o
  where
    above : (q t : ℕ) → ticket_offering arm (at rows q) ≡ Some t → h.ticket < t
    above q t e =
        let le : h.ticket ≤ t = h.rest q t e in
        elim (cases_eq t h.ticket) [
          | inl same ↦
              let at_it : q ≡ x / nodes.room =
              apart q (x / nodes.room) t (offerings-give arm (at rows q) t e) ((is-of rows nodes x (list_of nodes.places arm) h.ticket offered h.own).since ∙
              ap (λ n. Some n) (sym same)) in
              not-key (h.ticket < t) (ticket_offering arm (at rows (x / nodes.room))) t not (sym (ap (λ n. ticket_offering arm (at rows n)) at_it) ∙ e)
          | inr other ↦ omega (arith, le, other)
        ]

    go : (o : Option ℕ) → MatchOption o (IsNobodyAbove nodes.members (list_of nodes.places arm) h.ticket)
        (IsNext nodes.members (list_of nodes.places arm) h.ticket) → IsWalk arm rows nodes o
    go None n = λ q. none-is (ticket_offering arm (at rows q)) (λ t e.
        let i : IsIn nodes q (list_of nodes.places arm) t = offered.every arm q t e in
        let le : t ≤ h.ticket = n.most (q * nodes.room + i.place) t i.is in let lt : h.ticket < t = above q t e in omega (arith, le, lt))
    go (Some y) n = record {
      ticket = n.ticket;
      own = n.own;
      rest = λ q t e. let i : IsIn nodes q (list_of nodes.places arm) t = offered.every arm q t e in n.least (q * nodes.room + i.place) t i.is (above q t e);
    }

some-of : (o : Option ℕ) → is_some o ≡ true → (t : ℕ) × (o ≡ Some t)
some-of None h = cc
some-of (Some t) h = (t, refl)

-- the process waits with the alternative
pub walk-found : (arm : Arm) (rows : List Stand) (nodes : Nodes) (x p : ℕ) → AreOffered rows nodes → p ≡ x / nodes.room → IsAhead arm rows nodes x
    → is_some (ticket_offering arm (at rows p)) ≡ true → IsFirst (ticket_offering arm) rows p
walk-found arm rows nodes x p offered is h found =
    let own : (t : ℕ) × (ticket_offering arm (at rows p) ≡ Some t) = some-of (ticket_offering arm (at rows p)) found in
    let same : Some own.0 ≡ Some h.ticket =
    sym (offerings-give arm (at rows p) own.0 own.1) ∙ ap (λ n. ticket_of (at rows n)) is ∙
    (is-of rows nodes x (list_of nodes.places arm) h.ticket offered h.own).since in
    record { ticket = h.ticket; own = own.1 ∙ same; least = h.rest }

abbrev ticket_in : Option Member → ℕ
ticket_in (Some m) = m.ticket
ticket_in None = 0

-- how far the end of the walk is, by tickets
abbrev pub distance : Nodes → ℕ → Option ℕ → ℕ
distance nodes done None = 0
distance nodes done (Some x) = suc (done + 1 - ticket_in (member_at nodes.members x))

pub walk-nearer : (arm : Arm) (rows : List Stand) (nodes : Nodes) (x done : ℕ) (o : Option ℕ) → AreTickets rows done →
    AreOffered rows nodes → (h : IsAhead arm rows nodes x)
    → MatchOption o (IsNobodyAbove nodes.members (list_of nodes.places arm) h.ticket) (IsNext nodes.members (list_of nodes.places arm) h.ticket) →
    distance nodes done o < distance nodes done (Some x)
walk-nearer arm rows nodes x done None tickets offered h n = omega arith
walk-nearer arm rows nodes x done (Some y) tickets offered h n =
    let le : n.ticket ≤ done + 1 = tickets.upto (y / nodes.room) n.ticket (is-of rows nodes y (list_of nodes.places arm) n.ticket offered n.own).since in
    let beyond : h.ticket < n.ticket = n.above in
    let e : ticket_in (member_at nodes.members x) ≡ h.ticket = ap ticket_in h.own in
    let f : ticket_in (member_at nodes.members y) ≡ n.ticket = ap ticket_in n.own in
    omega (arith, le, beyond, e, f)
