-- Selects: which alternatives are matched, and what the choice of one does.
use Rattle.std.specs.Prelude.{ℕ, ◌+◌, Bool, is_some, if◌then◌else◌, Option, None, Some, List, [], ◌∷◌, slice_get}
use Rattle.pfc_state.specs.declared.waits.Arm.{Arm}
use Rattle.pfc_state.specs.declared.waits.Arm.TheVariants.{Send as To, Receive as From, Accept as Entry}
use Rattle.pfc_state.specs.declared.waits.Why.TheVariants.{Select}
use Rattle.pfc_state.specs.Stands.{Stand, Is_ready}
use Rattle.pfc_world.specs.Partners.{partner}
use Rattle.pfc_world.specs.Rendezvous.{taken}
use Rattle.pfc_world.specs.Tables.{Table}
use Rattle.pfc_world.specs.Transitions.{placed, blocked}

-- the places of the matched ones among alternatives whose first has this place
abbrev pub matched_from : ℕ → List Stand → ℕ → List Arm → List ℕ
matched_from place rows p [] = []
matched_from place rows p (arm ∷ rest) = if is_some (partner rows p arm) then
    place ∷ matched_from (place + 1) rows p rest else matched_from (place + 1) rows p rest

-- The places, from 0, of the alternatives of process p that are matched, in the order of the text: those
-- for which a partner waits. Two of them may be open to one channel.
abbrev pub matched : List Stand → ℕ → List Arm → List ℕ
matched rows p arms = matched_from 0 rows p arms

-- the other side of an alternative, as a partner in a select has it
abbrev pub opposite : Arm → Arm
opposite (To c) = From c
opposite (From c) = To c
opposite (Entry e) = Entry e

-- A message passes: the partner is ready. An entry is accepted: its caller waits in the rendezvous.
abbrev pub communicated_with : Option ℕ → Table → ℕ → Arm → Table
communicated_with None w p arm = w
communicated_with (Some q) w p (Entry e) = taken w p q
communicated_with (Some q) w p _ = placed w q Is_ready

-- the communication of an alternative of the process that acts with its first partner
abbrev pub communicated : Table → ℕ → Arm → Table
communicated w p arm = communicated_with (partner w.rows p arm) w p arm

abbrev pub committed_to : Option Arm → Table → ℕ → Table
committed_to None w p = w
committed_to (Some arm) w p = communicated w p arm

abbrev pub committed_at : Option ℕ → Table → ℕ → List Arm → Table
committed_at None w p arms = w
committed_at (Some place) w p arms = committed_to (slice_get arms place) w p

-- The matched alternative at place k, from 0, is taken: its communication happens in this action.
abbrev pub committed : Table → ℕ → List Arm → ℕ → Table
committed w p arms k = committed_at (slice_get (matched w.rows p arms) k) w p arms

-- The process that acts waits with its open alternatives, until its due moment where there is one.
abbrev pub select_waited : Table → ℕ → List Arm → Option ℕ → Bool → Table
select_waited w p arms due terminate = blocked w p (Select due terminate) arms
