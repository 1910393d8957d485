-- Actions one after the other.
use Rattle.std.specs.Prelude.{ℕ, Bool, true, false, ◌&&◌, List, [], ◌∷◌, Option, None, Some, Ok, Err}
use Rattle.pfc_code.specs.Images.{PlainImage}
use Rattle.pfc_sched.specs.Picks.{Picking}
use Rattle.pfc_state.specs.Stands.{is_ready}
use Rattle.pfc_world.specs.Tables.{at}
use Rattle.pfc_world.specs.Transitions.{begun}
use Rattle.pfc_machines.specs.declared.machine.Machine.{Machine}
use Rattle.pfc_machines.specs.Actions.{at_rest, PrintedEffect}
use Rattle.pfc_machine_acts.specs.Acting.{choice_among, after_choosing, acted, comes_to, line_of}
use Rattle.pfc_machine_acts.specs.Performing.{acts_by, choices_for}
use Rattle.pfc_machine_acts.specs.Quietly.{quietly}
use Rattle.pfc_machine_acts.specs.Settling.{machine_settled}
use Rattle.pfc_acts_tests.specs.Deciding.{before_action, action_of, may_act}

abbrev pub is_nobody : Option ℕ → Bool
is_nobody None = true
is_nobody (Some p) = false

-- a process acts in a machine that has settled
abbrev pub acting : ℕ → Machine → Machine
acting p m = let s = machine_settled m in record s { world = begun s.world p }

-- it may
abbrev pub may_turn : PlainImage → Picking → ℕ → Machine → Bool
may_turn image picking p m =
    is_nobody m.world.acting && (is_ready (at (machine_settled m).world.rows p) && may_act image picking p (acting p m))

-- what its action comes to
abbrev pub effect_on : PlainImage → Picking → ℕ → Machine → PrintedEffect
effect_on image picking p m =
    let before = before_action image p (acting p m) in
    let i = action_of image p (acting p m) in
    comes_to (quietly image i p before) (acts_by image i (choice_among picking (choices_for i p before)) p before)

abbrev pub machine_by : ℕ → ℕ → Machine → PrintedEffect → Machine
machine_by line p before (Ok x) = acted line p x.machine
machine_by line p before (Err f) = acted line p (at_rest before)

abbrev pub picking_by : Picking → ℕ → PrintedEffect → Picking
picking_by picking n (Ok x) = after_choosing picking n
picking_by picking n (Err f) = picking

-- what is behind it
abbrev pub next_machine : PlainImage → Picking → ℕ → Machine → Machine
next_machine image picking p m =
    let before = before_action image p (acting p m) in machine_by (line_of image p before) p before (effect_on image picking p m)

abbrev pub next_picking : PlainImage → Picking → ℕ → Machine → Picking
next_picking image picking p m =
    picking_by picking (choices_for (action_of image p (acting p m)) p (before_action image p (acting p m))) (effect_on image picking p m)

-- these processes may act one after the other
abbrev pub may_run : PlainImage → List ℕ → Picking → Machine → Bool
may_run image [] picking m = true
may_run image (p ∷ picks) picking m =
    may_turn image picking p m && may_run image picks (next_picking image picking p m) (next_machine image picking p m)
