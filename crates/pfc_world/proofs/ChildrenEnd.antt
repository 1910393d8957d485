-- The end of one child after the other.
use Rattle.std.proofs.Common.{◌≡◌, ◌≢◌, ℕ, zero, suc, ◌+◌, ◌<◌, ◌≤◌, Bool, true, false, not, ◌&&◌, ◌||◌, inl, inr, Option, None, Some, List, [], ◌∷◌, length}
use Rattle.std.proofs.Common.{set, map, arith, refl, sym, ap, ◌∙◌, subst, cond}
use Rattle.std.specs.Prelude.{MatchOption}
use Rattle.std.specs.List.{list_any, list_all}
use Rattle.std.proofs.lemmas.List.{map-set, set-get_or, get_or-set_same, get_or-set_other, set_past}
use Rattle.std.proofs.lemmas.Bool.{cases_eq, cases_lt}
use Rattle.std.proofs.Math.ListN.{get_or-map}
use Rattle.pfc_links.specs.Members.{Lists, in_list, IsEmpty, IsNext, IsNobodyAbove}
use Rattle.pfc_links.specs.Members.{IsFirst as IsFirstIn}
use Rattle.pfc_state.specs.declared.waits.Why.{Why}
use Rattle.pfc_state.specs.declared.waits.Why.TheVariants.{Select}
use Rattle.pfc_state.specs.declared.waits.Arm.{Arm}
use Rattle.pfc_state.specs.Stands.{Stand, Is_idle, Is_created, Is_ready, Waits, Is_done, IsWaiting, is_unfinished, may_end}
use Rattle.pfc_world.specs.Indexes.{number, count_of, AreListed}
use Rattle.pfc_world.specs.declared.lists.Spread.{Spread}
use Rattle.pfc_world.specs.Lists.{list_at, member_of}
use Rattle.pfc_world.specs.Settling.{children_may_end, may_all_end}
use Rattle.pfc_world.specs.Tables.{Table, at}
use Rattle.pfc_world.specs.Terminating.{terminated, terminated_child, over_children, AreServers, IsServer, IsNoServer}
use Rattle.pfc_world.specs.Tickets.{AreApart}
use Rattle.pfc_world.specs.Transitions.{placed, released}
use Rattle.pfc_world.proofs.Changes.{waits-within}
use Rattle.pfc_world.proofs.Counting.{count-set}
use Rattle.pfc_world.proofs.Indexes.{member-ticket}
use Rattle.pfc_world.proofs.InOrder.{same-member}

abbrev with_rows : Table → List Stand → Table
with_rows w rows = record w { rows = rows }

-- some children have finished, and nothing else was changed
pub record IsEnding (old now : Table) : Type 0 where
  pub rest : now ≡ with_rows old now.rows
  pub same : over_children terminated_child now.rows ≡ over_children terminated_child old.rows
  pub servers : AreServers now.rows

-- who may end waits
wait-ends : (spread : Spread) (why : Why) (ticket : ℕ) (arms : List Arm) → may_end (Waits why ticket arms) ≡ true →
    member_of spread (Waits why ticket arms) ≡ in_list (list_at spread 7 0) ticket
wait-ends spread (Select due terminate) ticket arms h = refl
wait-ends spread _ ticket arms h = cc

pub ends-wait : (s : Stand) → may_end s ≡ true → IsWaiting s
ends-wait (Waits why ticket arms) h = tt
ends-wait Is_idle h = cc
ends-wait Is_created h = cc
ends-wait Is_ready h = cc
ends-wait Is_done h = cc

-- who may end is in the list of selects
ends-listed : (spread : Spread) (s : Stand) → may_end s ≡ true → (t : ℕ) × (member_of spread s ≡ in_list (list_at spread 7 0) t)
ends-listed spread (Waits why ticket arms) h = (ticket, wait-ends spread why ticket arms h)
ends-listed spread Is_idle h = cc
ends-listed spread Is_created h = cc
ends-listed spread Is_ready h = cc
ends-listed spread Is_done h = cc

-- who is in a list is unfinished
listed-unfinished : (spread : Spread) (s : Stand) (list t : ℕ) → member_of spread s ≡ in_list list t → is_unfinished s ≡ true
listed-unfinished spread (Waits why ticket arms) list t h = refl
listed-unfinished spread Is_idle list t h = cc
listed-unfinished spread Is_created list t h = cc
listed-unfinished spread Is_ready list t h = cc
listed-unfinished spread Is_done list t h = cc

left-of : (a b : Bool) → (a && b) ≡ true → a ≡ true
left-of true b h = refl
left-of false b h = h

right-of : (a b : Bool) → (a && b) ≡ true → b ≡ true
right-of true b h = h
right-of false b h = cc

each-serves : (rows : List Stand) → list_all (λ s. not (is_unfinished s) || may_end s) rows ≡ true → (q : ℕ) →
    is_unfinished (at rows q) ≡ true → may_end (at rows q) ≡ true
each-serves [] h q is = cc
each-serves (s ∷ rest) h zero is = go (is_unfinished s) (may_end s) is (left-of (not (is_unfinished s) || may_end s) _ h)
  where
    go : (a b : Bool) → a ≡ true → (not a || b) ≡ true → b ≡ true
    go true b e g = g
    go false b e g = cc
each-serves (s ∷ rest) h (suc q) is = each-serves rest (right-of (not (is_unfinished s) || may_end s) _ h) q is

serve : (rows : List Stand) → children_may_end rows ≡ true → AreServers rows
serve [] h q some is = cc
serve (main ∷ children) h zero some is = absurd (omega (arith, some))
serve (main ∷ children) h (suc q) some is = each-serves children (right-of (list_any is_unfinished children) _ h) q is

-- the table at the beginning
pub ending-starts : (w : Table) → may_all_end w.rows ≡ true → IsEnding w w
ending-starts w h = record { rest = refl; same = refl; servers = serve w.rows (right-of _ (children_may_end w.rows) h) }

child-ended : (children : List Stand) (k : ℕ) → may_end (at children k) ≡ true → map terminated_child (set children k Is_done) ≡ map terminated_child children
child-ended children k h =
    map-set terminated_child children k Is_done
    ∙ ap (λ s. set (map terminated_child children) k s) (sym (get_or-map terminated_child children k Is_idle ∙ ap (λ b. cond b Is_done (at children k)) h))
    ∙ set-get_or (map terminated_child children) k Is_idle

one-ended : (rows : List Stand) (p : ℕ) → 0 < p → may_end (at rows p) ≡ true →
    over_children terminated_child (set rows p Is_done) ≡ over_children terminated_child rows
one-ended [] p some h = refl
one-ended (main ∷ children) zero some h = absurd (omega (arith, some))
one-ended (main ∷ children) (suc k) some h = ap (λ v. main ∷ v) (child-ended children k h)

still-serve : (rows : List Stand) (p : ℕ) → AreServers rows → AreServers (set rows p Is_done)
still-serve rows p serves q some is = elim (cases_eq q p) [
  | inl here ↦ elim (cases_lt p (length rows)) [
    | inl lt ↦ over (at (set rows p Is_done) q) (ap (λ n. at (set rows p Is_done) n) here ∙ get_or-set_same rows p Is_done Is_idle lt) is
    | inr past ↦ let same : at (set rows p Is_done) q ≡ at rows q = ap (λ v. at v q) (set_past rows p Is_done past) in ap may_end same ∙
        serves q some (ap is_unfinished (sym same) ∙ is)
  ]
  | inr away ↦ let same : at (set rows p Is_done) q ≡ at rows q = get_or-set_other rows p q Is_done Is_idle away in ap may_end same ∙
      serves q some (ap is_unfinished (sym same) ∙ is)
]
  where
    over : (s : Stand) → s ≡ Is_done → is_unfinished s ≡ true → may_end s ≡ true
    over s e h = let no : is_unfinished Is_done ≡ true = ap is_unfinished (sym e) ∙ h in cc

-- one more has finished
pub ending-goes-on : (old now new : Table) (p : ℕ) → IsEnding old now → IsServer now.rows p → new ≡ placed now p Is_done → IsEnding old new
ending-goes-on old now new p h server is = record {
  rest = is ∙ ap (λ v. placed v p Is_done) h.rest ∙ ap (λ v. with_rows old v.rows) (sym is);
  same = ap (λ v. over_children terminated_child v.rows) is ∙ one-ended now.rows p server.0 server.1 ∙ h.same;
  servers = subst (λ v. AreServers v.rows) (sym is) (still-serve now.rows p h.servers);
}

-- fewer wait with `terminate` then
pub ending-nearer : (now new : Table) (p : ℕ) → IsServer now.rows p → new ≡ placed now p Is_done → count_of may_end new.rows < count_of may_end now.rows
ending-nearer now new p server is =
    let lt : p < length now.rows = waits-within now.rows p (ends-wait (at now.rows p) server.1) in
    let sum : count_of may_end (set now.rows p Is_done) + number (may_end (at now.rows p)) ≡ count_of may_end now.rows + 0 =
    count-set may_end now.rows p Is_done lt in
    let one : number (may_end (at now.rows p)) ≡ 1 = ap number server.1 in
    let rows : count_of may_end new.rows ≡ count_of may_end (set now.rows p Is_done) = ap (λ v. count_of may_end v.rows) is in
    omega (arith, sum, one, rows)

none-ends : (children : List Stand) → ((q : ℕ) → may_end (at children q) ≡ false) → map terminated_child children ≡ children
none-ends [] h = refl
none-ends (s ∷ rest) h = ap (λ b. cond b Is_done s ∷ map terminated_child rest) (h 0) ∙ ap (λ v. s ∷ v) (none-ends rest (λ q. h (suc q)))

all-over : (rows : List Stand) → IsNoServer rows → over_children terminated_child rows ≡ rows
all-over [] h = refl
all-over (main ∷ children) h = ap (λ v. main ∷ v) (none-ends children (λ q. h (suc q) (omega arith)))

-- all have finished
pub ending-ends : (old now new : Table) → IsEnding old now → IsNoServer now.rows → new ≡ released now → new ≡ terminated old
ending-ends old now new h none is = is ∙ ap released (h.rest ∙ ap (λ v. with_rows old v) (sym (all-over now.rows none) ∙ h.same))

not-true : (b : Bool) → (b ≡ true → ⊥) → b ≡ false
not-true true f = absurd (f refl)
not-true false f = refl

-- nobody is in the list of selects
pub no-server : (spread : Spread) (rows : List Stand) (lists : Lists) → AreListed spread rows lists →
    IsEmpty lists.members (list_at spread 7 0) → IsNoServer rows
no-server spread rows lists listed h q some =
    not-true (may_end (at rows q)) (λ is. let own : (t : ℕ) × (member_of spread (at rows q) ≡ in_list (list_at spread 7 0) t) =
    ends-listed spread (at rows q) is in h.none q own.0 (same-member spread rows lists q listed ∙ own.1))

-- the first of the list, which is not main, is a server
pub first-server : (spread : Spread) (rows : List Stand) (lists : Lists) (p : ℕ) → AreListed spread rows lists → AreServers rows → 0 < p →
    IsFirstIn lists.members (list_at spread 7 0) p → IsServer rows p
first-server spread rows lists p listed serves some h =
    (some, serves p some (listed-unfinished spread (at rows p) (list_at spread 7 0) h.ticket (sym (same-member spread rows lists p listed) ∙ h.own)))

-- main is the first, and the next is a server, if there is one
pub second-server : (spread : Spread) (rows : List Stand) (lists : Lists) (o : Option ℕ) → AreApart rows → AreListed spread rows lists → AreServers rows →
    (h : IsFirstIn lists.members (list_at spread 7 0) 0)
    → MatchOption o (IsNobodyAbove lists.members (list_at spread 7 0) h.ticket) (IsNext lists.members (list_at spread 7 0) h.ticket) →
    MatchOption o (IsNoServer rows) (IsServer rows)
second-server spread rows lists o apart listed serves h = go o
  where
    main : member_of spread (at rows 0) ≡ in_list (list_at spread 7 0) h.ticket
    main = sym (same-member spread rows lists 0 listed) ∙ h.own

    ticket-same : (t : ℕ) → member_of spread (at rows 0) ≡ in_list (list_at spread 7 0) t → Some h.ticket ≡ Some t
    ticket-same t is = sym (member-ticket spread (at rows 0) (list_at spread 7 0) h.ticket main) ∙ member-ticket spread (at rows 0) (list_at spread 7 0) t is

    from : (a b : ℕ) → Some a ≡ Some b → a ≡ b
    from a b e = cc

    go : (o : Option ℕ) → MatchOption o (IsNobodyAbove lists.members (list_at spread 7 0) h.ticket) (IsNext lists.members (list_at spread 7 0) h.ticket) →
        MatchOption o (IsNoServer rows) (IsServer rows)
    go None n = λ q some. not-true (may_end (at rows q)) (λ is.
        let own : (t : ℕ) × (member_of spread (at rows q) ≡ in_list (list_at spread 7 0) t) = ends-listed spread (at rows q) is in
        let least : h.ticket ≤ own.0 = h.least q own.0 (same-member spread rows lists q listed ∙ own.1) in
        let most : own.0 ≤ h.ticket = n.most q own.0 (same-member spread rows lists q listed ∙ own.1) in
        let same : own.0 ≡ h.ticket = omega (arith, least, most) in
        let here : q ≡ 0 = apart q 0 h.ticket (member-ticket spread (at rows q) (list_at spread 7 0) own.0 own.1 ∙
        ap (λ v. Some v) same) (member-ticket spread (at rows 0) (list_at spread 7 0) h.ticket main) in
        omega (arith, some, here))
    go (Some q) n =
        let own : member_of spread (at rows q) ≡ in_list (list_at spread 7 0) n.ticket = sym (same-member spread rows lists q listed) ∙ n.own in
        let above : h.ticket < n.ticket = n.above in
        let away : q ≢ 0 = λ here. let same : h.ticket ≡ n.ticket =
        from h.ticket n.ticket (ticket-same n.ticket (ap (λ m. member_of spread (at rows m)) (sym here) ∙ own)) in omega (arith, above, same) in
        let some : 0 < q = omega (arith, away) in
        (some, serves q some (listed-unfinished spread (at rows q) (list_at spread 7 0) n.ticket own))
