-- What a process does that is ready, acts and has entered a resource or waits for it.
use Rattle.std.proofs.Common.{◌≡◌, ℕ, List, [], Option, None, Some, refl, ap, ◌∙◌}
use Rattle.pfc_state.specs.declared.waits.Why.TheVariants.{Entrant}
use Rattle.pfc_world.specs.Holders.{Held, held_in, holder_in, holding}
use Rattle.pfc_world.specs.Resources.{resource_entered_where, resource_entered}
use Rattle.pfc_world.specs.Tables.{Table}
use Rattle.pfc_world.specs.Transitions.{begun, rested}
use Rattle.pfc_waiting.specs.Waiting.{HasActed}
use Rattle.pfc_waiting.proofs.Turns.{rested_is, nothing_acts, blocked_acts}

abbrev rests_held : Held → Held
rests_held h = held_in (rested h.table) h.holders

entered_rests :
    (o : Option ℕ) (w : Table) (holders : List (Option ℕ)) (p r : ℕ)
    → w.acting ≡ None → rests_held (resource_entered_where o (held_in (begun w p) holders) p r) ≡ resource_entered_where o (held_in w holders) p r
entered_rests (Some q) w holders p r alone = refl
entered_rests None w holders p r alone = ap (λ (t : Table). holding (held_in t holders) r (Some p)) (rested_is w p alone)

pub resource_entered_once :
    (w begins acts ends : Table) (before after : List (Option ℕ)) (p q r : ℕ)
    → w.acting ≡ None → q ≡ p → begins ≡ begun w p → held_in acts after ≡ resource_entered (held_in begins before) q r → ends ≡ rested acts
    → held_in ends after ≡ resource_entered (held_in w before) p r
resource_entered_once w begins acts ends before after p q r alone same begin rule rest =
    ap (λ (t : Table). held_in t after) rest
    ∙ ap rests_held
    (rule ∙ ap (λ (t : Table). resource_entered (held_in t before) q r) begin ∙ ap (λ (k : ℕ). resource_entered (held_in (begun w p) before) k r) same)
    ∙ entered_rests (holder_in before r) w before p r alone

entered_where_acts :
    (o : Option ℕ) (w : Table) (holders : List (Option ℕ)) (p r : ℕ)
    → w.acting ≡ None → HasActed w (resource_entered_where o (held_in w holders) p r).table
entered_where_acts (Some q) w holders p r alone = blocked_acts w p (Entrant r) []
entered_where_acts None w holders p r alone = nothing_acts w alone

pub resource_entered_acts :
    (w : Table) (holders : List (Option ℕ)) (p r : ℕ) → w.acting ≡ None → HasActed w (resource_entered (held_in w holders) p r).table
resource_entered_acts w holders p r alone = entered_where_acts (holder_in holders r) w holders p r alone
