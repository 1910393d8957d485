-- How a partner is answered: its number, and the alternative at which it is met.
use Rattle.std.specs.Prelude.{ℕ, Bool, false, nat_lt, if◌then◌else◌, Option, None, Some, List}
use Rattle.pfc_state.specs.declared.waits.Arm.{Arm}
use Rattle.pfc_state.specs.Stands.{Stand, ticket_of}
use Rattle.pfc_world.specs.declared.answers.Offer.{Offer}
use Rattle.pfc_world.specs.declared.partners.Partner.{Partner}
use Rattle.pfc_world.specs.Firsts.{first}
use Rattle.pfc_world.specs.Partners.{alternative_met, ticket_open_to}
use Rattle.pfc_world.specs.Tables.{at}

abbrev pub met_at : List Stand → Arm → Option ℕ → Option Partner
met_at rows arm (Some p) = Some (record { process = p; alternative = alternative_met arm (at rows p) })
met_at rows arm None = None

-- The process that has waited longest to do this, and the first of its alternatives that is open to it.
abbrev pub first_open_to : Arm → List Stand → Option Partner
first_open_to arm rows = met_at rows arm (first (ticket_open_to arm) rows)

-- the first of two tickets is the lesser
abbrev pub is_earlier : Option ℕ → Option ℕ → Bool
is_earlier (Some t) (Some u) = nat_lt t u
is_earlier _ _ = false

abbrev pub met_in_a_statement : ℕ → Partner
met_in_a_statement p = record { process = p; alternative = None }

abbrev pub met_in_a_select : Offer → Partner
met_in_a_select offer = record { process = offer.process; alternative = Some offer.arm }

-- of a process in a plain statement and one in a select, the one that has waited longer
abbrev pub earlier_of : List Stand → ℕ → Offer → Partner
earlier_of rows p offer = if is_earlier (ticket_of (at rows p)) (ticket_of (at rows offer.process)) then met_in_a_statement p else met_in_a_select offer
