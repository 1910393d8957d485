-- Traces: who acted in a run, action by action.
use Rattle.std.specs.Prelude.{ℕ, List, [], ◌∷◌, ◌++◌, decimal}
use Rattle.pfc_semantics.specs.Events.{Event}
use Rattle.pfc_semantics.specs.Runs.{Run}

-- The process of each action that was done, that of a fault among them, in order. A pick that stops a script is no action.
abbrev pub actors : List Event → List ℕ
actors [] = []
actors (e ∷ events) = e.process ∷ actors events

abbrev pub trace_of : Run → List ℕ
trace_of run = actors run.events

-- the text of a trace: each number in decimal, and a line end
abbrev pub trace_text : List ℕ → List ℕ
trace_text [] = []
trace_text (p ∷ ps) = decimal p ++ 10 ∷ trace_text ps
