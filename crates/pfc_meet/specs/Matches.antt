-- Who is met, and at which alternative.
use Rattle.std.specs.Prelude.{ℕ, is_some, if◌then◌else◌, Option, None, Some, List}
use Rattle.pfc_state.specs.declared.waits.Arm.{Arm}
use Rattle.pfc_state.specs.declared.waits.Arm.TheVariants.{Accept as Entry}
use Rattle.pfc_state.specs.Stands.{Stand}
use Rattle.pfc_world.specs.declared.partners.Partner.{Partner}
use Rattle.pfc_world.specs.Partnering.{met_at}
use Rattle.pfc_world.specs.Partners.{alternative_met, partner, ticket_open_to}
use Rattle.pfc_world.specs.Selects.{opposite}

-- The first process that an alternative of process p meets, and the first alternative at which that one is met.
abbrev pub partner_met : List Stand → ℕ → Arm → Option Partner
partner_met rows p arm = met_at rows (opposite arm) (partner rows p arm)

-- The owner of an entry, where it waits to accept it, and its first alternative for it.
abbrev pub acceptance_of : ℕ → ℕ → Stand → Option Partner
acceptance_of owner entry stand = if is_some (ticket_open_to (Entry entry) stand) then
    Some (record { process = owner; alternative = alternative_met (Entry entry) stand }) else None
