-- A process that was activated, by its state and by its standing.
use Rattle.std.proofs.Common.{◌≡◌, refl}
use Rattle.pfc_state.specs.Stands.{Stand, Is_idle, Is_created, Is_ready, Waits, Is_done, state_of, is_unfinished}
use Rattle.pfc_own_actions.specs.Creating.{is_under_way}

pub under_way_is : (stand : Stand) → is_under_way (state_of stand) ≡ is_unfinished stand
under_way_is Is_idle = refl
under_way_is Is_created = refl
under_way_is Is_ready = refl
under_way_is (Waits why ticket arms) = refl
under_way_is Is_done = refl
