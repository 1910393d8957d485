-- What the rules of rendezvous do.
use Rattle.std.proofs.Common.{◌≡◌, ℕ, Bool, true, false, is_some, Option, None, Some, refl, ap, ◌∙◌}
use Rattle.std.specs.Prelude.{if◌then◌else◌}
use Rattle.pfc_state.specs.declared.standings.State.{State as Standing}
use Rattle.pfc_state.specs.declared.standings.State.TheVariants.{Waiting}
use Rattle.pfc_state.specs.declared.waits.Arm.TheVariants.{Accept as Entry}
use Rattle.pfc_state.specs.declared.waits.Why.{Why}
use Rattle.pfc_state.specs.Stands.{Stand, arms_of, state_of}
use Rattle.pfc_state.specs.Waits.{is_select, place_of_arm}
use Rattle.pfc_world.specs.declared.answers.Offer.{Offer}
use Rattle.pfc_world.specs.declared.partners.Partner.{Partner}
use Rattle.pfc_world.specs.Firsts.{offer_at}
use Rattle.pfc_world.specs.Partners.{alternative_met, caller, ticket_open_to}
use Rattle.pfc_world.specs.Rendezvous.{accepted, accepted_with, taken}
use Rattle.pfc_world.specs.Tables.{Table}
use Rattle.pfc_world.specs.Transitions.{begun, rested}
use Rattle.pfc_meet.proofs.Acceptances.{met_by, in-select}
use Rattle.pfc_waiting.proofs.Turns.{rested_is}

-- ## `accept`

accepted_rests : (o : Option ℕ) (w : Table) (p entry : ℕ) → w.acting ≡ None → rested (accepted_with o (begun w p) p entry) ≡ accepted_with o w p entry
accepted_rests (Some q) w p entry alone = ap (λ (t : Table). taken t p q) (rested_is w p alone)
accepted_rests None w p entry alone = refl

-- it takes a caller, and rests
pub accepted_once :
    (w begins acts ends : Table) (p q entry : ℕ)
    → w.acting ≡ None → q ≡ p → begins ≡ begun w p → acts ≡ accepted begins q entry → ends ≡ rested acts → ends ≡ accepted w p entry
accepted_once w begins acts ends p q entry alone same begin rule rest =
    rest ∙ ap rested rule ∙ ap (λ (t : Table). rested (accepted t q entry)) begin ∙ ap (λ (k : ℕ). rested (accepted (begun w p) k entry)) same
    ∙ accepted_rests (caller w.rows p entry) w p entry alone

-- ## Whether the owner waits to accept

some_if : (b : Bool) (x : Partner) → is_some (if b then Some x else None) ≡ b
some_if true x = refl
some_if false x = refl

some_met : (owner : ℕ) (o : Option Offer) → is_some o ≡ is_some (met_by owner o)
some_met owner (Some x) = refl
some_met owner None = refl

-- in a select it does where it offers the entry
pub accepting_so :
    (owner entry : ℕ) (s : Stand) (state : Standing) (why : Why) (o : Option Offer)
    → state ≡ state_of s → state ≡ Waiting why → is_select why ≡ true → o ≡ offer_at owner (place_of_arm (Entry entry) (arms_of s))
    → is_some o ≡ is_some (ticket_open_to (Entry entry) s)
accepting_so owner entry s state why o is waits select offers =
    some_met owner o ∙ ap is_some (in-select owner entry s state why o o is waits select offers refl)
    ∙ some_if (is_some (ticket_open_to (Entry entry) s)) (record { process = owner; alternative = alternative_met (Entry entry) s })
