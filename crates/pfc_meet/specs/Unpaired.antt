-- Processes that could meet each other do not both wait.
use Rattle.std.specs.Prelude.{ℕ, ◌≡◌, ◌⊎◌, None, Some, List}
use Rattle.pfc_state.specs.declared.waits.Arm.{Arm}
use Rattle.pfc_state.specs.declared.waits.Arm.TheVariants.{Send as To, Receive as From, Accept as Entry}
use Rattle.pfc_state.specs.declared.waits.Why.TheVariants.{Call}
use Rattle.pfc_state.specs.Stands.{Stand, ticket_at}
use Rattle.pfc_world.specs.Partners.{ticket_open_to}
use Rattle.pfc_world.specs.Tables.{at}

-- No two processes wait on opposite sides of one channel, in plain statements or in selects, and nobody waits for an
-- entry that its owner waits to accept.
pub record AreUnpaired (rows : List Stand) : Type 0 where
  pub channels : (c j k t u : ℕ) → ticket_open_to (To c) (at rows j) ≡ Some t → ticket_open_to (From c) (at rows k) ≡ Some u → j ≡ k
  pub entries : (owner e k t u : ℕ) → ticket_at (Call owner e) (at rows k) ≡ Some t → ticket_open_to (Entry e) (at rows owner) ≡ Some u → ⊥

-- a standing that waits for no message and no meeting to begin
pub record IsElsewhere (stand : Stand) : Type 0 where
  pub closed : (arm : Arm) → ticket_open_to arm stand ≡ None
  pub silent : (owner e : ℕ) → ticket_at (Call owner e) stand ≡ None

-- each process stands where it stood, or waits for no message and no meeting to begin
abbrev pub AreElsewhere : List Stand → List Stand → Type 0
AreElsewhere rows next = (p : ℕ) → (at next p ≡ at rows p) ⊎ IsElsewhere (at next p)
