-- Actions on a resource leave no resource free that an entrant waits for.
use Rattle.std.proofs.Common.{◌≡◌, ℕ, ◌<◌, inl, inr, Bool, true, false, ◌==◌, ◌&&◌, nat_lt, Option, None, Some, List, [], length, set, arith, refl, sym, ap}
use Rattle.std.proofs.Common.{◌∙◌, subst, cond}
use Rattle.std.proofs.lemmas.Bool.{cases_eq, ne_eqb}
use Rattle.std.proofs.lemmas.Bool.Decides.{nat_tests}
use Rattle.std.proofs.lemmas.List.{get_or-set_same, get_or-set_other}
use Rattle.pfc_state.specs.declared.waits.Why.{Why}
use Rattle.pfc_state.specs.declared.waits.Why.TheVariants.{Entrant, Barred}
use Rattle.pfc_state.specs.declared.waits.Arm.{Arm}
use Rattle.pfc_state.specs.Stands.{Stand, Is_idle, Is_created, Is_ready, Waits, Is_done, is_above, ticket_at, ticket_barred}
use Rattle.pfc_world.specs.Firsts.{IsNobody, GivesTickets}
use Rattle.pfc_world.specs.Holders.{Held, holder_in, standing, holding, given_to}
use Rattle.pfc_world.specs.Partners.{next_entrant}
use Rattle.pfc_world.specs.Resources.{resource_entered_where, resource_entered, given_up, barred, passed_to, requeued}
use Rattle.pfc_world.specs.Transitions.{placed, blocked}
use Rattle.pfc_world.proofs.Nobody.{nobody-first, nobody-set}
use Rattle.pfc_resource.specs.Orderly.{AreOrderly}

is-held : (A : Type 0) (q : ℕ) → Some q ≡ None → A
is-held A q h = cc

same-holder : (hs : List (Option ℕ)) (g : ℕ) (x : Option ℕ) → g < length hs → holder_in (set hs g x) g ≡ x
same-holder hs g x lt = get_or-set_same hs g x None lt

other-holder : (hs : List (Option ℕ)) (g n : ℕ) (x : Option ℕ) → (n ≡ g → ⊥) → holder_in (set hs g x) n ≡ holder_in hs n
other-holder hs g n x other = get_or-set_other hs g n x None other

abbrev IsUnwanted : List Stand → ℕ → Type 0
IsUnwanted rows g = IsNobody (ticket_at (Entrant g)) rows

unwanted-set : (rows : List Stand) (n p : ℕ) (s : Stand) → ticket_at (Entrant n) s ≡ None → IsUnwanted rows n → IsUnwanted (set rows p s) n
unwanted-set rows n p s enters u = nobody-set (ticket_at (Entrant n)) rows p s enters u

another : (g n ticket : ℕ) → (n ≡ g → ⊥) → cond (g == n) (Some ticket) None ≡ None
another g n ticket other = ap (λ b. cond b (Some ticket) None) (ne_eqb g n (λ e. other (sym e)))

-- the resource itself, and all others
both : (h k : Held) (g : ℕ) → AreOrderly h → (holder_in k.holders g ≡ None → IsUnwanted k.table.rows g)
    → ((n : ℕ) → (n ≡ g → ⊥) → holder_in k.holders n ≡ holder_in h.holders n)
    → ((n : ℕ) → (n ≡ g → ⊥) → IsUnwanted h.table.rows n → IsUnwanted k.table.rows n) → AreOrderly k
both h k g ok own holders rows n free = elim (cases_eq n g) [
  | inl here ↦ subst (λ i. IsUnwanted k.table.rows i) (sym here) (own (sym (ap (λ i. holder_in k.holders i) here) ∙ free))
  | inr other ↦ rows n other (ok n (sym (holders n other) ∙ free))
]

pub enter : (h : Held) (p g : ℕ) → g < length h.holders → AreOrderly h → AreOrderly (resource_entered h p g)
enter h p g lt ok = go (holder_in h.holders g) refl
  where
    go : (o : Option ℕ) → holder_in h.holders g ≡ o → AreOrderly (resource_entered_where o h p g)
    go None e =
        both h (holding h g (Some p)) g ok (λ free. is-held _ p (sym (same-holder h.holders g (Some p) lt) ∙ free))
        (λ n other. other-holder h.holders g n (Some p) other) (λ n other u. u)
    go (Some q) e =
        both h (standing h (blocked h.table p (Entrant g) [])) g ok (λ free. is-held _ q (sym e ∙ free)) (λ n other. refl)
        (λ n other u. unwanted-set h.table.rows n p (Waits (Entrant g) _ []) (another g n _ other) u)

pub pass : (h : Held) (g q : ℕ) → g < length h.holders → AreOrderly h → AreOrderly (passed_to h g q)
pass h g q lt ok =
    both h (given_to (Some q) h g) g ok (λ free. is-held _ q (sym (same-holder h.holders g (Some q) lt) ∙ free))
    (λ n other. other-holder h.holders g n (Some q) other)
    (λ n other u. unwanted-set h.table.rows n q Is_ready refl u)

pub give_up : (h : Held) (g : ℕ) → g < length h.holders → AreOrderly h → AreOrderly (given_up h g)
give_up h g lt ok = go (next_entrant h.table.rows g) refl
  where
    go : (o : Option ℕ) → next_entrant h.table.rows g ≡ o → AreOrderly (given_to o h g)
    go (Some q) e = pass h g q lt ok
    go None e = both h (holding h g None) g ok (λ free. nobody-first (ticket_at (Entrant g)) h.table.rows refl e)
        (λ n other. other-holder h.holders g n None other) (λ n other u. u)

pub bar : (h : Held) (p g procedure : ℕ) → g < length h.holders → AreOrderly h → AreOrderly (barred h p g procedure)
bar h p g procedure lt ok n free = unwanted-set (given_up h g).table.rows n p (Waits (Barred g procedure) _ []) refl (give_up h g lt ok n free)

pub requeue : (h : Held) (p g procedure q : ℕ) → g < length h.holders → AreOrderly h → AreOrderly (requeued h p g procedure q)
requeue h p g procedure q lt ok =
    both h (holding (standing h (blocked (placed h.table q Is_ready) p (Barred g procedure) [])) g (Some q)) g ok
    (λ free. is-held _ q (sym (same-holder h.holders g (Some q) lt) ∙ free)) (λ n other. other-holder h.holders g n (Some q) other)
    (λ n other u. unwanted-set (set h.table.rows q Is_ready) n p (Waits (Barred g procedure) _ []) refl (unwanted-set h.table.rows n q Is_ready refl u))

-- the ticket of a barred process that is tried is above the one before
no-ticket : (A : Type 0) (t : ℕ) → None ≡ Some t → A
no-ticket A t h = cc

above : (a b : Bool) (ticket u t : ℕ) → nat_lt t ticket ≡ b → cond (a && b) (Some ticket) None ≡ Some u → t < u
above true true ticket u t e h =
    let lt : t < ticket = grind (arith, nat_tests) in
    let same : ticket ≡ u = ap (λ o. from o) h in
    omega (arith, lt, same)
  where
    from : Option ℕ → ℕ
    from (Some n) = n
    from None = 0
above true false ticket u t e h = no-ticket _ u h
above false b ticket u t e h = no-ticket _ u h

barred-wait : (g t u : ℕ) (why : Why) (ticket : ℕ) (arms : List Arm) → ticket_barred g (Some t) (Waits why ticket arms) ≡ Some u → t < u
barred-wait g t u (Barred resource procedure) ticket arms h = above (resource == g) (nat_lt t ticket) ticket u t refl h
barred-wait g t u _ ticket arms h = no-ticket _ u h

pub rises : (g t u : ℕ) (stand : Stand) → ticket_barred g (Some t) stand ≡ Some u → t < u
rises g t u (Waits why ticket arms) h = barred-wait g t u why ticket arms h
rises g t u Is_idle h = no-ticket _ u h
rises g t u Is_created h = no-ticket _ u h
rises g t u Is_ready h = no-ticket _ u h
rises g t u Is_done h = no-ticket _ u h

-- the key of a barred process gives its ticket
same-ticket : (b : Bool) (ticket t : ℕ) → cond b (Some ticket) None ≡ Some t → Some ticket ≡ Some t
same-ticket true ticket t h = h
same-ticket false ticket t h = no-ticket _ t h

gives-wait : (g : ℕ) (after : Option ℕ) (why : Why) (ticket : ℕ) (arms : List Arm) (t : ℕ) →
    ticket_barred g after (Waits why ticket arms) ≡ Some t → Some ticket ≡ Some t
gives-wait g after (Barred resource procedure) ticket arms t h = same-ticket ((resource == g) && is_above after ticket) ticket t h
gives-wait g after _ ticket arms t h = no-ticket _ t h

pub barred-gives : (g : ℕ) (after : Option ℕ) → GivesTickets (ticket_barred g after)
barred-gives g after (Waits why ticket arms) t h = gives-wait g after why ticket arms t h
barred-gives g after Is_idle t h = no-ticket _ t h
barred-gives g after Is_created t h = no-ticket _ t h
barred-gives g after Is_ready t h = no-ticket _ t h
barred-gives g after Is_done t h = no-ticket _ t h
