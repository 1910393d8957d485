-- The frames so far, and behind them those that are left.
use Rattle.std.proofs.Common.{◌≡◌, ◌-◌, ◌++◌, ◌∷◌, length}
use Rattle.pfc_types.specs.Scopes.{scope_at}
use Rattle.pfc_semantics.specs.Layouts.{laid_names}
use Rattle.pfc_semantics.specs.Displays.{accept_frames}
use Rattle.pfc_store.specs.Frames.{frame_view, frames_view}
use Rattle.pfc_store.proofs.displays.Display.of_process.Given as goal

abbrev pub invariant-loop : goal.invariant-loop
invariant-loop l =
    frames_view l.frames.items ++ accept_frames l.scopes l.own.activation (l.accepts - l.counter) l.scope l.first
    ≡ frame_view l.own ∷ accept_frames l.scopes l.own.activation l.accepts l.next (length (laid_names (scope_at l.scopes.scopes l.own.scope)))
