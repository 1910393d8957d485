-- Actions on a monitor leave no monitor free that somebody waits for.
use Rattle.std.proofs.Common.{◌≡◌, ℕ, ℤ, ◌<◌, inl, inr, Option, None, Some, List, [], length, set, refl, sym, ap, ◌∙◌, subst, cond, ◌==◌}
use Rattle.std.proofs.lemmas.Bool.{cases_eq, ne_eqb}
use Rattle.std.proofs.lemmas.List.{get_or-set_same, get_or-set_other}
use Rattle.pfc_state.specs.declared.waits.Why.TheVariants.{Enter, Condition, Resumer}
use Rattle.pfc_state.specs.Stands.{Stand, Is_ready, Waits, ticket_at}
use Rattle.pfc_world.specs.Firsts.{first, last}
use Rattle.pfc_world.specs.Holders.{Held, holder_in, standing, holding, given_to}
use Rattle.pfc_world.specs.Monitors.{entered_where, entered, handed_over, delayed, resumed_with, resumed}
use Rattle.pfc_world.specs.Partners.{or_else, next_holder, condition_waiter}
use Rattle.pfc_world.specs.Transitions.{placed, blocked}
use Rattle.pfc_world.proofs.Nobody.{nobody-first, nobody-last, nobody-set}
use Rattle.pfc_monitor.specs.Orderly.{IsUnwanted, AreOrderly}

is-held : (A : Type 0) (q : ℕ) → Some q ≡ None → A
is-held A q h = cc

same-holder : (hs : List (Option ℕ)) (m : ℕ) (x : Option ℕ) → m < length hs → holder_in (set hs m x) m ≡ x
same-holder hs m x lt = get_or-set_same hs m x None lt

other-holder : (hs : List (Option ℕ)) (m n : ℕ) (x : Option ℕ) → (n ≡ m → ⊥) → holder_in (set hs m x) n ≡ holder_in hs n
other-holder hs m n x other = get_or-set_other hs m n x None other

-- a standing that is no wait for the monitor
unwanted-set : (rows : List Stand) (n p : ℕ) (s : Stand) → ticket_at (Resumer n) s ≡ None → ticket_at (Enter n) s ≡ None →
    IsUnwanted rows n → IsUnwanted (set rows p s) n
unwanted-set rows n p s resumes enters u = record {
  resumers = nobody-set (ticket_at (Resumer n)) rows p s resumes u.resumers;
  entrants = nobody-set (ticket_at (Enter n)) rows p s enters u.entrants;
}

another : (m n ticket : ℕ) → (n ≡ m → ⊥) → cond (m == n) (Some ticket) None ≡ None
another m n ticket other = ap (λ b. cond b (Some ticket) None) (ne_eqb m n (λ e. other (sym e)))

-- the monitor itself, and all others
both : (h g : Held) (m : ℕ) → AreOrderly h → (holder_in g.holders m ≡ None → IsUnwanted g.table.rows m)
    → ((n : ℕ) → (n ≡ m → ⊥) → holder_in g.holders n ≡ holder_in h.holders n)
    → ((n : ℕ) → (n ≡ m → ⊥) → IsUnwanted h.table.rows n → IsUnwanted g.table.rows n) → AreOrderly g
both h g m ok own holders rows n free = elim (cases_eq n m) [
  | inl here ↦ subst (λ k. IsUnwanted g.table.rows k) (sym here) (own (sym (ap (λ k. holder_in g.holders k) here) ∙ free))
  | inr other ↦ rows n other (ok n (sym (holders n other) ∙ free))
]

pub enter : (h : Held) (p m : ℕ) → m < length h.holders → AreOrderly h → AreOrderly (entered h p m)
enter h p m lt ok = go (holder_in h.holders m) refl
  where
    go : (o : Option ℕ) → holder_in h.holders m ≡ o → AreOrderly (entered_where o h p m)
    go None e =
        both h (holding h m (Some p)) m ok (λ free. is-held _ p (sym (same-holder h.holders m (Some p) lt) ∙ free))
        (λ n other. other-holder h.holders m n (Some p) other) (λ n other u. u)
    go (Some q) e =
        both h (standing h (blocked h.table p (Enter m) [])) m ok (λ free. is-held _ q (sym e ∙ free)) (λ n other. refl)
        (λ n other u. unwanted-set h.table.rows n p (Waits (Enter m) _ []) refl (another m n _ other) u)

or-none : (a b : Option ℕ) → or_else a b ≡ None → (a ≡ None) × (b ≡ None)
or-none (Some p) b h = is-held _ p h
or-none None b h = (refl, h)

pub hand_over : (h : Held) (m : ℕ) → m < length h.holders → AreOrderly h → AreOrderly (handed_over h m)
hand_over h m lt ok = go (next_holder h.table.rows m) refl
  where
    go : (o : Option ℕ) → next_holder h.table.rows m ≡ o → AreOrderly (given_to o h m)
    go (Some q) e =
        both h (given_to (Some q) h m) m ok (λ free. is-held _ q (sym (same-holder h.holders m (Some q) lt) ∙ free))
        (λ n other. other-holder h.holders m n (Some q) other)
        (λ n other u. unwanted-set h.table.rows n q Is_ready refl refl u)
    go None e =
        let none : (last (ticket_at (Resumer m)) h.table.rows ≡ None) × (first (ticket_at (Enter m)) h.table.rows ≡ None) =
        or-none (last (ticket_at (Resumer m)) h.table.rows) (first (ticket_at (Enter m)) h.table.rows) e in
        both h (holding h m None) m ok
        (λ free. record {
          resumers = nobody-last (ticket_at (Resumer m)) h.table.rows refl none.0;
          entrants =
              nobody-first (ticket_at (Enter m)) h.table.rows refl none.1;
        })
        (λ n other. other-holder h.holders m n None other) (λ n other u. u)

pub delay : (h : Held) (p m c : ℕ) (rank : ℤ) → m < length h.holders → AreOrderly h → AreOrderly (delayed h p m c rank)
delay h p m c rank lt ok n free = unwanted-set (handed_over h m).table.rows n p (Waits (Condition c rank) _ []) refl refl (hand_over h m lt ok n free)

pub resume : (h : Held) (p m c : ℕ) → m < length h.holders → AreOrderly h → AreOrderly (resumed h p m c)
resume h p m c lt ok = go (condition_waiter h.table.rows c)
  where
    go : (o : Option ℕ) → AreOrderly (resumed_with o h p m)
    go None = ok
    go (Some q) =
        both h (holding (standing h (blocked (placed h.table q Is_ready) p (Resumer m) [])) m (Some q)) m ok
        (λ free. is-held _ q (sym (same-holder h.holders m (Some q) lt) ∙ free)) (λ n other. other-holder h.holders m n (Some q) other)
        (λ n other u. unwanted-set (set h.table.rows q Is_ready) n p (Waits (Resumer m) _ []) (another m n _ other) refl
        (unwanted-set h.table.rows n q Is_ready refl refl u))
