-- Who is open to a communication: the first of those who wait for it in a plain statement and of those who offer it in a select.
use Rattle.std.proofs.Common.{◌≡◌, ℕ, ◌≤◌, Bool, true, false, nat_lt, Option, None, Some, List, arith, refl, sym, ap, ◌∙◌, subst, cond}
use Rattle.std.specs.Prelude.{MatchOption}
use Rattle.std.proofs.lemmas.Bool.Decides.{nat_tests}
use Rattle.pfc_state.specs.declared.waits.Arm.{Arm}
use Rattle.pfc_state.specs.declared.waits.Arm.TheVariants.{Send as To, Receive as From, Accept as Entry}
use Rattle.pfc_state.specs.declared.waits.Why.{Why}
use Rattle.pfc_state.specs.declared.waits.Why.TheVariants.{Select}
use Rattle.pfc_state.specs.Stands.{Stand, Is_idle, Is_created, Is_ready, Waits, Is_done, arms_of, ticket_of, ticket_at, ticket_offering}
use Rattle.pfc_state.specs.Waits.{same_why, has_arm, place_of_arm}
use Rattle.pfc_world.specs.declared.answers.Offer.{Offer}
use Rattle.pfc_world.specs.declared.partners.Partner.{Partner}
use Rattle.pfc_world.specs.Firsts.{IsFirst, IsNobody, GivesTickets, first, offer_at, offer_of, first_offer}
use Rattle.pfc_world.specs.Partnering.{met_at, first_open_to, is_earlier, earlier_of, met_in_a_statement, met_in_a_select}
use Rattle.pfc_world.specs.Partners.{or_else, plain_wait, ticket_open_to, alternative_met}
use Rattle.pfc_world.specs.Tables.{at}
use Rattle.pfc_world.specs.Tickets.{AreApart}
use Rattle.pfc_world.proofs.FirstIs.{first-is, first-none}

no-ticket : (A : Type 0) (t : ℕ) → None ≡ Some t → A
no-ticket A t h = cc

same-ticket : (b : Bool) (ticket t : ℕ) → cond b (Some ticket) None ≡ Some t → Some ticket ≡ Some t
same-ticket true ticket t h = h
same-ticket false ticket t h = cc

-- each key gives no number but the ticket
pub at-gives : (why : Why) → GivesTickets (ticket_at why)
at-gives why (Waits cause ticket arms) t h = same-ticket (same_why cause why) ticket t h
at-gives why Is_idle t h = no-ticket _ t h
at-gives why Is_created t h = no-ticket _ t h
at-gives why Is_ready t h = no-ticket _ t h
at-gives why Is_done t h = no-ticket _ t h

offering-wait : (arm : Arm) (why : Why) (ticket : ℕ) (arms : List Arm) (t : ℕ) → ticket_offering arm (Waits why ticket arms) ≡ Some t → Some ticket ≡ Some t
offering-wait arm (Select due terminate) ticket arms t h = same-ticket (has_arm arm arms) ticket t h
offering-wait arm _ ticket arms t h = no-ticket _ t h

offering-gives : (arm : Arm) → GivesTickets (ticket_offering arm)
offering-gives arm (Waits why ticket arms) t h = offering-wait arm why ticket arms t h
offering-gives arm Is_idle t h = no-ticket _ t h
offering-gives arm Is_created t h = no-ticket _ t h
offering-gives arm Is_ready t h = no-ticket _ t h
offering-gives arm Is_done t h = no-ticket _ t h

either : (A : Type 0) (a b : Option ℕ) (t : ℕ) → (a ≡ Some t → A) → (b ≡ Some t → A) → or_else a b ≡ Some t → A
either A (Some u) b t f g h = f h
either A None b t f g h = g h

pub open-gives : (arm : Arm) → GivesTickets (ticket_open_to arm)
open-gives arm s t h =
    either (ticket_of s ≡ Some t) (ticket_at (plain_wait arm) s) (ticket_offering arm s) t
    (λ e. at-gives (plain_wait arm) s t e) (λ e. offering-gives arm s t e) h

-- who waits in a plain statement is met at no alternative
plain-wait : (arm : Arm) (why : Why) (ticket : ℕ) (arms : List Arm) (t : ℕ) → ticket_at (plain_wait arm) (Waits why ticket arms) ≡ Some t
    → alternative_met arm (Waits why ticket arms) ≡ None
plain-wait (To c) (Select due terminate) ticket arms t h = no-ticket _ t h
plain-wait (From c) (Select due terminate) ticket arms t h = no-ticket _ t h
plain-wait (Entry e) (Select due terminate) ticket arms t h = no-ticket _ t h
plain-wait arm _ ticket arms t h = refl

plain-met : (arm : Arm) (s : Stand) (t : ℕ) → ticket_at (plain_wait arm) s ≡ Some t → alternative_met arm s ≡ None
plain-met arm (Waits why ticket arms) t h = plain-wait arm why ticket arms t h
plain-met arm Is_idle t h = refl
plain-met arm Is_created t h = refl
plain-met arm Is_ready t h = refl
plain-met arm Is_done t h = refl

-- who offers it in a select is met at the first such alternative
offer-wait : (arm : Arm) (why : Why) (ticket : ℕ) (arms : List Arm) (t : ℕ) → ticket_offering arm (Waits why ticket arms) ≡ Some t
    → alternative_met arm (Waits why ticket arms) ≡ place_of_arm arm arms
offer-wait arm (Select due terminate) ticket arms t h = refl
offer-wait arm _ ticket arms t h = no-ticket _ t h

offer-met : (arm : Arm) (s : Stand) (t : ℕ) → ticket_offering arm s ≡ Some t → alternative_met arm s ≡ place_of_arm arm (arms_of s)
offer-met arm (Waits why ticket arms) t h = offer-wait arm why ticket arms t h
offer-met arm Is_idle t h = no-ticket _ t h
offer-met arm Is_created t h = no-ticket _ t h
offer-met arm Is_ready t h = no-ticket _ t h
offer-met arm Is_done t h = no-ticket _ t h

-- nobody who offers it has waited longer
abbrev NoneBefore : (Stand → Option ℕ) → List Stand → ℕ → Type 0
NoneBefore key rows ticket = (q t : ℕ) → key (at rows q) ≡ Some t → ticket ≤ t

first-plain : (arm : Arm) (rows : List Stand) (p : ℕ) (h : IsFirst (ticket_at (plain_wait arm)) rows p) → NoneBefore (ticket_offering arm) rows h.ticket
    → IsFirst (ticket_open_to arm) rows p
first-plain arm rows p h none = record {
  ticket = h.ticket;
  own = ap (λ o. or_else o (ticket_offering arm (at rows p))) h.own;
  least = λ q t e. either (h.ticket ≤ t) (ticket_at (plain_wait arm) (at rows q)) (ticket_offering arm (at rows q)) t (h.least q t) (none q t) e;
}

first-offering : (arm : Arm) (rows : List Stand) (p : ℕ) (h : IsFirst (ticket_offering arm) rows p) → NoneBefore (ticket_at (plain_wait arm)) rows h.ticket
    → IsFirst (ticket_open_to arm) rows p
first-offering arm rows p h none = record {
  ticket = h.ticket;
  own = go (ticket_at (plain_wait arm) (at rows p)) (λ t e. sym (at-gives (plain_wait arm) (at rows p) t e) ∙ offering-gives arm (at rows p) h.ticket h.own);
  least = λ q t e. either (h.ticket ≤ t) (ticket_at (plain_wait arm) (at rows q)) (ticket_offering arm (at rows q)) t (none q t) (h.least q t) e;
}
  where
    go : (o : Option ℕ) → ((t : ℕ) → o ≡ Some t → Some t ≡ Some h.ticket) → or_else o (ticket_offering arm (at rows p)) ≡ Some h.ticket
    go None f = h.own
    go (Some t) f = f t refl

abbrev met : ℕ → Option ℕ → Partner
met p o = record { process = p; alternative = o }

-- the answer where the first is in a plain statement, and where the first is in a select
answer-plain : (arm : Arm) (rows : List Stand) (p : ℕ) → AreApart rows → IsFirst (ticket_at (plain_wait arm)) rows p → IsFirst (ticket_open_to arm) rows p
    → first_open_to arm rows ≡ Some (met_in_a_statement p)
answer-plain arm rows p apart own h =
    ap (λ o. met_at rows arm o) (first-is (ticket_open_to arm) rows p (open-gives arm) apart h)
    ∙ ap (λ o. Some (met p o)) (plain-met arm (at rows p) own.ticket own.own)

place-of : (p : ℕ) (o : Option ℕ) (offer : Offer) → offer_at p o ≡ Some offer → o ≡ Some offer.arm
place-of p (Some place) offer h = ap (λ x. arm_in x) h
  where
    arm_in : Option Offer → Option ℕ
    arm_in (Some offer) = Some offer.arm
    arm_in None = None
place-of p None offer h = cc

answer-offer : (arm : Arm) (rows : List Stand) (offer : Offer) → AreApart rows → Some offer ≡ first_offer arm rows
    → IsFirst (ticket_offering arm) rows offer.process → IsFirst (ticket_open_to arm) rows offer.process
    → first_open_to arm rows ≡ Some (met_in_a_select offer)
answer-offer arm rows offer apart e own h =
    let found : first (ticket_offering arm) rows ≡ Some offer.process = first-is (ticket_offering arm) rows offer.process (offering-gives arm) apart own in
    let place : place_of_arm arm (arms_of (at rows offer.process)) ≡ Some offer.arm =
    place-of offer.process (place_of_arm arm (arms_of (at rows offer.process))) offer (sym (ap (λ o. offer_of rows arm o) found) ∙ sym e) in
    ap (λ o. met_at rows arm o) (first-is (ticket_open_to arm) rows offer.process (open-gives arm) apart h)
    ∙ ap (λ o. Some (met offer.process o)) (offer-met arm (at rows offer.process) own.ticket own.own ∙ place)

earlier : (a b : Option ℕ) (t u : ℕ) → a ≡ Some t → b ≡ Some u → is_earlier a b ≡ nat_lt t u
earlier a b t u e f = ap (λ o. is_earlier o b) e ∙ ap (λ o. is_earlier (Some t) o) f

some-le : (t u v : ℕ) → t ≤ u → u ≤ v → t ≤ v
some-le t u v h g = omega arith

plain-alone : (arm : Arm) (rows : List Stand) (p : ℕ) → AreApart rows → IsFirst (ticket_at (plain_wait arm)) rows p → IsNobody (ticket_offering arm) rows
    → first_open_to arm rows ≡ Some (met_in_a_statement p)
plain-alone arm rows p apart h none = answer-plain arm rows p apart h (first-plain arm rows p h (λ q t e. no-ticket (h.ticket ≤ t) t (sym (none q) ∙ e)))

offer-alone : (arm : Arm) (rows : List Stand) (offer : Offer) → AreApart rows → IsNobody (ticket_at (plain_wait arm)) rows → Some offer ≡ first_offer arm rows
    → IsFirst (ticket_offering arm) rows offer.process → first_open_to arm rows ≡ Some (met_in_a_select offer)
offer-alone arm rows offer apart none e h =
    answer-offer arm rows offer apart e h (first-offering arm rows offer.process h (λ q t g. no-ticket (h.ticket ≤ t) t (sym (none q) ∙ g)))

of-both : (arm : Arm) (rows : List Stand) (p : ℕ) (offer : Offer) → AreApart rows →
    IsFirst (ticket_at (plain_wait arm)) rows p → Some offer ≡ first_offer arm rows
    → IsFirst (ticket_offering arm) rows offer.process → first_open_to arm rows ≡ Some (earlier_of rows p offer)
of-both arm rows p offer apart h o g = go (nat_lt h.ticket g.ticket) refl ∙ ap (λ b. Some (cond b (met_in_a_statement p) (met_in_a_select offer))) (sym tested)
  where
    tested : is_earlier (ticket_of (at rows p)) (ticket_of (at rows offer.process)) ≡ nat_lt h.ticket g.ticket
    tested = earlier (ticket_of (at rows p)) (ticket_of (at rows offer.process)) h.ticket g.ticket (at-gives (plain_wait arm) (at rows p) h.ticket h.own)
        (offering-gives arm (at rows offer.process) g.ticket g.own)

    go : (b : Bool) → nat_lt h.ticket g.ticket ≡ b → first_open_to arm rows ≡ Some (cond b (met_in_a_statement p) (met_in_a_select offer))
    go true test =
        let le : h.ticket ≤ g.ticket = grind (arith, nat_tests) in
        answer-plain arm rows p apart h (first-plain arm rows p h (λ r t f. some-le h.ticket g.ticket t le (g.least r t f)))
    go false test =
        let le : g.ticket ≤ h.ticket = grind (arith, nat_tests) in
        answer-offer arm rows offer apart o g (first-offering arm rows offer.process g (λ r t f. some-le g.ticket h.ticket t le (h.least r t f)))

open-nobody : (arm : Arm) (rows : List Stand) → IsNobody (ticket_at (plain_wait arm)) rows → IsNobody (ticket_offering arm) rows → first_open_to arm rows ≡ None
open-nobody arm rows none nobody =
    ap (λ o. met_at rows arm o) (first-none (ticket_open_to arm) rows (λ q. ap (λ o. or_else o (ticket_offering arm (at rows q))) (none q) ∙ nobody q))

-- what the two looks come to
abbrev pub open_of : List Stand → Option ℕ → Option Offer → Option Partner
open_of rows (Some p) (Some offer) = Some (earlier_of rows p offer)
open_of rows (Some p) None = Some (met_in_a_statement p)
open_of rows None (Some offer) = Some (met_in_a_select offer)
open_of rows None None = None

looked_for : (arm : Arm) (rows : List Stand) (a : Option ℕ) (b : Option Offer) → AreApart rows
    → MatchOption a (IsNobody (ticket_at (plain_wait arm)) rows) (IsFirst (ticket_at (plain_wait arm)) rows)
    → b ≡ first_offer arm rows → MatchOption b (IsNobody (ticket_offering arm) rows) (λ offer. IsFirst (ticket_offering arm) rows offer.process)
    → open_of rows a b ≡ first_open_to arm rows
looked_for arm rows (Some p) (Some offer) apart h e g = sym (of-both arm rows p offer apart h e g)
looked_for arm rows (Some p) None apart h e g = sym (plain-alone arm rows p apart h g)
looked_for arm rows None (Some offer) apart h e g = sym (offer-alone arm rows offer apart h e g)
looked_for arm rows None None apart h e g = sym (open-nobody arm rows h g)

pub looked : (arm : Arm) (why : Why) (rows : List Stand) (a a' : Option ℕ) (b b' : Option Offer) → a ≡ a' → b ≡ b' → why ≡ plain_wait arm → AreApart rows
    → MatchOption a (IsNobody (ticket_at why) rows) (IsFirst (ticket_at why) rows)
    → b ≡ first_offer arm rows → MatchOption b (IsNobody (ticket_offering arm) rows) (λ offer. IsFirst (ticket_offering arm) rows offer.process)
    → open_of rows a' b' ≡ first_open_to arm rows
looked arm why rows a a' b b' ea eb is apart h e g =
    sym (ap (λ x. open_of rows x b) ea ∙ ap (λ x. open_of rows a' x) eb)
    ∙ looked_for arm rows a b apart (subst (λ w. MatchOption a (IsNobody (ticket_at w) rows) (IsFirst (ticket_at w) rows)) is h) e g
