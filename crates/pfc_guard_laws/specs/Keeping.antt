-- What else is so where a process is about to act.
use Rattle.std.specs.Prelude.{ℕ, ◌≡◌, Some}
use Rattle.std.specs.List.{slice_get}
use Rattle.pfc_semantics.specs.Displays.{Spot}
use Rattle.pfc_semantics.specs.Programs.{Program}
use Rattle.pfc_semantics.specs.Remainders.{Context, Remainder, finishes, resumes}
use Rattle.pfc_semantics.specs.Configurations.{of_monitor, Activation, Config, activity_of}
use Rattle.pfc_semantics.specs.Steps.{next_of}
use Rattle.pfc_run_rules.specs.Rules.{AreOutside, HoldsToResume}

-- Where it is about to return from a monitor the activations below have not entered the monitor. So it is in every run, since who is in a monitor and calls one
-- of its procedures from outside waits for what it holds itself, and nobody else hands that over.
abbrev pub IsOutsideAtEnds : Program → Config → ℕ → Type 0
IsOutsideAtEnds g c p =
    (line n : ℕ) (a : Activation) → next_of g c p ≡ finishes line → slice_get (activity_of g c p).activations 0 ≡ Some a → a.mark ≡ of_monitor n
    → AreOutside n (activity_of g c p).activations

-- Where it is about to resume, and somebody waits there, it holds the monitor. So it is in every run of a checked program, since a condition is named in the
-- text of its monitor alone, and while main acts nobody waits.
abbrev pub HoldsAtResumes : Program → Config → ℕ → Type 0
HoldsAtResumes g c p = (x : Context) (v : Spot) (k : Remainder) → next_of g c p ≡ resumes x v k → HoldsToResume g c p v
