-- What the choice of a matched alternative answers.
use Rattle.std.specs.Prelude.{ℕ, ◌≡◌, Option, None, Some, List, slice_get}
use Rattle.pfc_state.specs.declared.waits.Arm.{Arm}
use Rattle.pfc_state.specs.Stands.{Stand}
use Rattle.pfc_world.specs.declared.partners.Partner.{Partner}
use Rattle.pfc_world.specs.Selects.{matched}
use Rattle.pfc_meet.specs.declared.selects.Committed.{Committed}
use Rattle.pfc_meet.specs.declared.selects.Match.{Match}
use Rattle.pfc_meet.specs.Matches.{partner_met}

-- The alternative at this place is the k-th matched one of process p, and it meets this partner, which is the first for
-- it, at the first alternative of that one.
pub record IsMatch (rows : List Stand) (p : ℕ) (arms : List Arm) (k : ℕ) (chosen : Match) : Type 0 where
  pub kth : slice_get (matched rows p arms) k ≡ Some chosen.place
  pub own : slice_get arms chosen.place ≡ Some chosen.alternative
  pub meets : partner_met rows p chosen.alternative ≡ Some chosen.partner

-- whom an alternative of process p meets, and at which alternative
abbrev pub met_by_own : List Stand → ℕ → Option Arm → Option Partner
met_by_own rows p (Some arm) = partner_met rows p arm
met_by_own rows p None = None

-- The k-th matched alternative is taken with its first partner, at the first alternative of that one; and the process
-- that acts goes on.
abbrev pub IsCommitted : List Stand → ℕ → List Arm → ℕ → Committed → Type 0
IsCommitted rows p arms k c =
    (c.r.number ≡ p) × (slice_get (matched rows p arms) k ≡ Some c.alternative) ×
    (met_by_own rows p (slice_get arms c.alternative) ≡ Some (record { process = c.partner; alternative = c.partner_alternative }))
