-- Parts that are pending, one put on the others.
use Rattle.std.proofs.Common.{◌≡◌, List, [], ◌∷◌, ◌++◌, refl}
use Rattle.std.specs.Prelude.{fold}
use Rattle.pfc_program.specs.declared.tables.Tables.{Tables}
use Rattle.pfc_pending.specs.Waiting.{Waiting, over, waiting}
use Rattle.pfc_pending.specs.declared.pending.Pending.{Pending}

over_more : (t : Tables) (w : Waiting) (ps : List Pending) (p : Pending) → fold (over t) w (ps ++ p ∷ []) ≡ over t (fold (over t) w ps) p
over_more t w [] p = refl
over_more t w (q ∷ ps) p = over_more t (over t w q) ps p

pub waiting_more : (t : Tables) (ps : List Pending) (p : Pending) → waiting t (ps ++ p ∷ []) ≡ over t (waiting t ps) p
waiting_more t ps p = over_more t _ ps p

pub ruleset parts = waiting_more
