-- Laws on picks.
use Rattle.std.specs.Prelude.{◌≡◌, ℕ, ◌<◌, List, [], ◌∷◌, length, drop, slice_get, true}
use Rattle.pfc_state.specs.Stands.{Stand, is_ready}
use Rattle.pfc_world.specs.Tables.{at}
use Rattle.pfc_sched.specs.declared.picking.Pick.{Pick}
use Rattle.pfc_sched.specs.declared.picking.Pick.TheVariants.{Process, Nobody, NotReady, NoProcess, ScriptEnd}
use Rattle.pfc_world.specs.Ready.{ready_numbers}
use Rattle.pfc_sched.specs.Picks.{Picking, by_list, named, picked, after_pick}

-- the picks over some standings, one after the other
abbrev pub run_of_picks : Picking → List (List Stand) → List Pick
run_of_picks p [] = []
run_of_picks p (rows ∷ more) = picked p rows ∷ run_of_picks (after_pick p rows) more

-- what the numbers of a script give over some standings, where one is taken, in order, for each in which some process is ready
abbrev pub script_pick : List ℕ → List Stand → List ℕ → Pick
script_pick numbers rows [] = Nobody
script_pick numbers rows (r ∷ ready) = named (slice_get numbers 0) rows

abbrev pub script_left : List ℕ → List ℕ → List ℕ
script_left numbers [] = numbers
script_left numbers (r ∷ ready) = drop 1 numbers

abbrev pub picks_in_order : List ℕ → List (List Stand) → List Pick
picks_in_order numbers [] = []
picks_in_order numbers (rows ∷ more) = script_pick numbers rows (ready_numbers rows) ∷ picks_in_order (script_left numbers (ready_numbers rows)) more

-- a pick of a process, or of nobody
abbrev pub IsPlain : Pick → Type 0
IsPlain (Process p) = Unit {0}
IsPlain Nobody = Unit {0}
IsPlain (NotReady p) = ⊥
IsPlain (NoProcess p) = ⊥
IsPlain ScriptEnd = ⊥

abbrev pub ArePlain : List Pick → Type 0
ArePlain [] = Unit {0}
ArePlain (pick ∷ picks) = IsPlain pick × ArePlain picks

-- the processes of some picks, as a script
abbrev pub recorded : List Pick → List ℕ
recorded [] = []
recorded (Process p ∷ picks) = p ∷ recorded picks
recorded (Nobody ∷ picks) = recorded picks
recorded (NotReady p ∷ picks) = recorded picks
recorded (NoProcess p ∷ picks) = recorded picks
recorded (ScriptEnd ∷ picks) = recorded picks

-- a pick that is a process names a ready one
abbrev pub PicksReady : Type 0
PicksReady = (p : Picking) (rows : List Stand) (q : ℕ) → picked p rows ≡ Process q → (q < length rows) × (is_ready (at rows q) ≡ true)

-- from the same state and the same standings come the same picks
abbrev pub PicksAlike : Type 0
PicksAlike = (p q : Picking) (tables : List (List Stand)) → p ≡ q → run_of_picks p tables ≡ run_of_picks q tables

-- the numbers of a script are taken in order, one for each pick
abbrev pub TakesInOrder : Type 0
TakesInOrder = (numbers : List ℕ) (tables : List (List Stand)) → run_of_picks (by_list numbers 0) tables ≡ picks_in_order numbers tables

-- the picks of a run, recorded as a script, give the same picks over the same standings
abbrev pub Replays : Type 0
Replays = (p : Picking) (tables : List (List Stand)) → ArePlain (run_of_picks p tables) →
    run_of_picks (by_list (recorded (run_of_picks p tables)) 0) tables ≡ run_of_picks p tables
