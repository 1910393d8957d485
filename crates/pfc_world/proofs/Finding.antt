-- What is found first and last, by a key that gives tickets.
use Rattle.std.proofs.Common.{◌≡◌, ℕ, ◌<◌, Bool, true, false, ◌==◌, ◌&&◌, Option, None, Some, List, length, sym, cond}
use Rattle.std.specs.Prelude.{MatchOption, IfSome}
use Rattle.pfc_state.specs.declared.waits.Why.{Why}
use Rattle.pfc_state.specs.declared.waits.Why.TheVariants.{Select, Barred}
use Rattle.pfc_state.specs.declared.waits.Arm.{Arm}
use Rattle.pfc_state.specs.Waits.{same_why, has_arm}
use Rattle.pfc_state.specs.Stands.{is_above, IsWaiting, ticket_of, Stand, Is_idle, Is_created, Is_ready, Waits, Is_done, ticket_at, ticket_offering}
use Rattle.pfc_state.specs.Stands.{ticket_barred}
use Rattle.pfc_world.specs.Tables.{at}
use Rattle.pfc_world.specs.Tickets.{AreApart}
use Rattle.pfc_world.specs.Firsts.{IsFirst, IsLast, IsNobody, GivesTickets, first, last}
use Rattle.pfc_world.proofs.Changes.{waits-within}
use Rattle.pfc_world.proofs.FirstIs.{first-is, first-none, last-is, last-none}

pub ticket-waits : (s : Stand) (t : ℕ) → ticket_of s ≡ Some t → IsWaiting s
ticket-waits (Waits why ticket arms) t h = tt
ticket-waits Is_idle t h = cc
ticket-waits Is_created t h = cc
ticket-waits Is_ready t h = cc
ticket-waits Is_done t h = cc

-- who waits is a process of the table
pub all-within : (rows : List Stand) (o : Option ℕ) → IfSome o (λ p. IsWaiting (at rows p)) → IfSome o (λ p. p < length rows)
all-within rows None h = tt
all-within rows (Some p) h = waits-within rows p h

pub first-found : (key : Stand → Option ℕ) (rows : List Stand) (o : Option ℕ) → GivesTickets key → AreApart rows
    → MatchOption o (IsNobody key rows) (IsFirst key rows) → o ≡ first key rows
first-found key rows None gives apart h = sym (first-none key rows h)
first-found key rows (Some p) gives apart h = sym (first-is key rows p gives apart h)

pub holds-first : (key : Stand → Option ℕ) (rows : List Stand) (o : Option ℕ) → GivesTickets key
    → MatchOption o (IsNobody key rows) (IsFirst key rows) → IfSome o (λ p. IsWaiting (at rows p))
holds-first key rows None gives h = tt
holds-first key rows (Some p) gives h = ticket-waits (at rows p) h.ticket (gives (at rows p) h.ticket h.own)

pub last-found : (key : Stand → Option ℕ) (rows : List Stand) (o : Option ℕ) → GivesTickets key → AreApart rows
    → MatchOption o (IsNobody key rows) (IsLast key rows) → o ≡ last key rows
last-found key rows None gives apart h = sym (last-none key rows h)
last-found key rows (Some p) gives apart h = sym (last-is key rows p gives apart h)

pub holds-last : (key : Stand → Option ℕ) (rows : List Stand) (o : Option ℕ) → GivesTickets key
    → MatchOption o (IsNobody key rows) (IsLast key rows) → IfSome o (λ p. IsWaiting (at rows p))
holds-last key rows None gives h = tt
holds-last key rows (Some p) gives h = ticket-waits (at rows p) h.ticket (gives (at rows p) h.ticket h.own)

-- each of the three keys gives only tickets
passed : (b : Bool) (ticket t : ℕ) → cond b (Some ticket) None ≡ Some t → Some ticket ≡ Some t
passed true ticket t h = h
passed false ticket t h = cc

none-is : (o : Option ℕ) (t : ℕ) → None ≡ Some t → o ≡ Some t
none-is o t h = cc

offering-gives : (arm : Arm) (why : Why) (ticket : ℕ) (arms : List Arm) (t : ℕ) → ticket_offering arm (Waits why ticket arms) ≡ Some t → Some ticket ≡ Some t
offering-gives arm (Select due terminate) ticket arms t h = passed (has_arm arm arms) ticket t h
offering-gives arm _ ticket arms t h = none-is (Some ticket) t h

barred-gives : (resource : ℕ) (after : Option ℕ) (why : Why) (ticket : ℕ) (arms : List Arm) (t : ℕ)
    → ticket_barred resource after (Waits why ticket arms) ≡ Some t → Some ticket ≡ Some t
barred-gives resource after (Barred where_barred procedure) ticket arms t h = passed ((where_barred == resource) && is_above after ticket) ticket t h
barred-gives resource after _ ticket arms t h = none-is (Some ticket) t h

pub at-gives : (why : Why) → GivesTickets (ticket_at why)
at-gives why (Waits cause ticket arms) t h = passed (same_why cause why) ticket t h
at-gives why Is_idle t h = h
at-gives why Is_created t h = h
at-gives why Is_ready t h = h
at-gives why Is_done t h = h

pub offerings-give : (arm : Arm) → GivesTickets (ticket_offering arm)
offerings-give arm (Waits why ticket arms) t h = offering-gives arm why ticket arms t h
offerings-give arm Is_idle t h = h
offerings-give arm Is_created t h = h
offerings-give arm Is_ready t h = h
offerings-give arm Is_done t h = h

pub barred-give : (resource : ℕ) (after : Option ℕ) → GivesTickets (ticket_barred resource after)
barred-give resource after (Waits why ticket arms) t h = barred-gives resource after why ticket arms t h
barred-give resource after Is_idle t h = h
barred-give resource after Is_created t h = h
barred-give resource after Is_ready t h = h
barred-give resource after Is_done t h = h
