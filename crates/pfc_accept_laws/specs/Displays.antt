-- The displays of processes that are in their first activations.
use Rattle.std.specs.Prelude.{ℕ, ◌≡◌, ◌≢◌, ◌<◌, List, [], ◌∷◌, length}
use Rattle.pfc_types.specs.Scopes.{scope_at}
use Rattle.pfc_semantics.specs.Layouts.{laid_names}
use Rattle.pfc_semantics.specs.Displays.{Display, accept_frames}
use Rattle.pfc_semantics.specs.Programs.{Block, Program}
use Rattle.pfc_semantics.specs.Processes.{process_block}
use Rattle.pfc_semantics.specs.Remainders.{Context, Argument, to_requeue, calls}
use Rattle.pfc_semantics.specs.Configurations.{plain, Activation, Config, activity_of}
use Rattle.pfc_semantics.specs.Steps.{next_of}

-- the display with which a process of this block begins, in an activation with this number
abbrev pub first_display : Program → ℕ → Block → Display
first_display g a b =
    let own = length (laid_names (scope_at g.state.blocks.scopes b.scope)) in
    record { scope = b.scope; activation = a; first = 0 } ∷ accept_frames g.state.blocks a b.accepts b.next own

-- Process q has this display in the innermost of its activations. In its first it has the display with which it began, and has it again when all others have
-- ended; and that one is marked by nothing.
abbrev pub GoesBack : Program → ℕ → Display → List Activation → Type 0
GoesBack g q display [] = Unit {0}
GoesBack g q display (a ∷ []) = (a.mark ≡ plain) × (0 < q → display ≡ first_display g a.number (process_block g q))
GoesBack g q display (a ∷ (b ∷ below)) = GoesBack g q a.display (b ∷ below)

-- so it is of all processes
abbrev pub AllGoBack : Program → Config → Type 0
AllGoBack g c = (q : ℕ) → GoesBack g q (activity_of g c q).display (activity_of g c q).activations

-- Where the process is about to requeue, it has entered something in its innermost activation.
abbrev pub RequeuesInside : Program → Config → ℕ → Type 0
RequeuesInside g c p = (x : Context) (scope : ℕ) (given : List Argument) (a : Activation) (below : List Activation)
    → next_of g c p ≡ calls x (to_requeue scope) given → (activity_of g c p).activations ≡ a ∷ below → a.mark ≢ plain
