-- Actions one after the other.
use Rattle.std.proofs.Common.{◌≡◌, ℕ, ◌+◌, ◌<◌, Bool, true, ◌&&◌, List, length, drop, get_or, Result, Ok, Err, OnOk, sym, ap, ap₂, subst, ◌∙◌}
use Rattle.std.proofs.lemmas.Bool.{and_parts}
use Rattle.std.proofs.lemmas.List.{drop_more}
use Rattle.pfc_base.specs.declared.memory_error.Memory.{Memory}
use Rattle.pfc_code.specs.declared.instructions.Instr.{Instr}
use Rattle.pfc_code.specs.Images.{PlainImage}
use Rattle.pfc_sched.specs.Picks.{Picking}
use Rattle.pfc_state.specs.Stands.{is_ready}
use Rattle.pfc_world.specs.Tables.{Table, at}
use Rattle.pfc_world.specs.Transitions.{begun}
use Rattle.pfc_machines.specs.declared.machine.Machine.{Machine}
use Rattle.pfc_machines.specs.Actions.{PrintedEffect}
use Rattle.pfc_select_actions.specs.Selects.{takes_up}
use Rattle.pfc_machine_acts.specs.declared.acts.ActionEnd.{ActionEnd}
use Rattle.pfc_machine_acts.specs.declared.acts.ActionEnd.TheVariants.{Done, Faulted}
use Rattle.pfc_machine_acts.specs.Acting.{MayAct, IsAnswer, IsActed, line_of}
use Rattle.pfc_machine_acts.specs.Performing.{choices_for}
use Rattle.pfc_machine_acts.specs.Running.{IsNext}
use Rattle.pfc_machine_acts.specs.Settling.{machine_settled}
use Rattle.pfc_acts_tests.specs.Deciding.{quiet_of, before_action, action_of, may_act}
use Rattle.pfc_acts_tests.specs.Runs.{is_nobody, acting, may_turn, effect_on, machine_by, picking_by, next_machine, next_picking, may_run}
use Rattle.pfc_acts_tests.proofs.Sound.{next_so, act_so}

may_act_in : (image : PlainImage) (picking : Picking) (p : ℕ) (m : Machine) → may_turn image picking p m ≡ true → may_act image picking p (acting p m) ≡ true
may_act_in image picking p m h =
    let ready : Bool = is_ready (at (machine_settled m).world.rows p) in
    let may : Bool = may_act image picking p (acting p m) in
    (and_parts ready may (and_parts (is_nobody m.world.acting) (ready && may) h).1).1

-- the machine in which a process acts
pub begins : (p : ℕ) (m settled : Machine) (world : Table) → settled ≡ machine_settled m → world ≡ begun settled.world p
    → record settled { world = world } ≡ acting p m
begins p m settled world is begun_is =
    let over : Table → Machine → Machine = λ w s. (let after : Machine = record s { world = w } in after) in
    ap₂ over (begun_is ∙ ap (λ (s : Machine). begun s.world p) is) is

pub may_act_so : (image : PlainImage) (picking : Picking) (p q : ℕ) (m start : Machine) → q ≡ p → start ≡ acting p m → may_turn image picking p m ≡ true
    → MayAct image picking q start
may_act_so image picking p q m start same_q same h =
    subst (λ (k : ℕ). MayAct image picking k start) (sym same_q)
    (subst (λ (x : Machine). MayAct image picking p x) (sym same) (act_so image picking p (acting p m) (may_act_in image picking p m h)))

-- ## What an answer leaves

answered : (e : PrintedEffect) (i : Instr) (line p n : ℕ) (before : Machine) (picking picking' : Picking) (out out' : List ℕ)
    (result : Result ActionEnd Memory) (new : Machine)
    → IsAnswer e i line p n before picking picking' out out' result new → OnOk result ((new ≡ machine_by line p before e) × (picking' ≡ picking_by picking n e))
answered e i line p n before picking picking' out out' (Ok Done) new h =
    (h.machine ∙ sym (ap (machine_by line p before) h.is), h.chosen ∙ sym (ap (picking_by picking n) h.is))
answered e i line p n before picking picking' out out' (Ok (Faulted at_line f)) new h =
    (h.2 ∙ sym (ap (machine_by line p before) h.0), h.4 ∙ sym (ap (picking_by picking n) h.0))
answered e i line p n before picking picking' out out' (Err memory) new h = tt

pub turned : (image : PlainImage) (picking picking' : Picking) (p q : ℕ) (m start new : Machine) (out out' : List ℕ) (result : Result ActionEnd Memory)
    → q ≡ p → start ≡ acting p m → may_turn image picking p m ≡ true
    → ((n : ℕ) (x : Machine) (i : Instr) → IsNext image q (takes_up q start) n x i → IsActed image q x i picking picking' out out' result new)
    → OnOk result ((new ≡ next_machine image picking p m) × (picking' ≡ next_picking image picking p m))
turned image picking picking' p q m start new out out' result same_q same h acts =
    let a : Machine = acting p m in
    let by_number = subst (λ (k : ℕ). (n : ℕ) (x : Machine) (i : Instr) → IsNext image k (takes_up k start) n x i →
    IsActed image k x i picking picking' out out' result new)
    same_q acts in
    let by_machine = subst (λ (y : Machine). (n : ℕ) (x : Machine) (i : Instr) → IsNext image p (takes_up p y) n x i →
    IsActed image p x i picking picking' out out' result new)
    same by_number in
    let before : Machine = before_action image p a in
    let i : Instr = action_of image p a in
    answered (effect_on image picking p m) i (line_of image p before) p (choices_for i p before) before picking picking' out out' result new
    (by_machine (quiet_of image p a) before i (next_so image picking p a (may_act_in image picking p m h)))

pub first_of : (A B : Type 0) (result : Result ActionEnd Memory) → OnOk result (A × B) → OnOk result A
first_of A B (Ok end) h = h.0
first_of A B (Err memory) h = tt

pub second_of : (A B : Type 0) (result : Result ActionEnd Memory) → OnOk result (A × B) → OnOk result B
second_of A B (Ok end) h = h.1
second_of A B (Err memory) h = tt

-- ## One of several

pub first_turn : (image : PlainImage) (picks : List ℕ) (k : ℕ) (picking : Picking) (m : Machine) → k < length picks
    → may_run image (drop k picks) picking m ≡ true → may_turn image picking (get_or picks k 0) m ≡ true
first_turn image picks k picking m within h =
    let p : ℕ = get_or picks k 0 in
    let first : Bool = may_turn image picking p m in
    let others : Bool = may_run image (drop (k + 1) picks) (next_picking image picking p m) (next_machine image picking p m) in
    (and_parts first others (subst (λ (ps : List ℕ). may_run image ps picking m ≡ true) (drop_more picks k 0 within) h)).0

pub other_turns : (image : PlainImage) (picks : List ℕ) (k : ℕ) (picking : Picking) (m : Machine) → k < length picks
    → may_run image (drop k picks) picking m ≡ true
    → may_run image (drop (k + 1) picks) (next_picking image picking (get_or picks k 0) m) (next_machine image picking (get_or picks k 0) m) ≡ true
other_turns image picks k picking m within h =
    let p : ℕ = get_or picks k 0 in
    let first : Bool = may_turn image picking p m in
    let others : Bool = may_run image (drop (k + 1) picks) (next_picking image picking p m) (next_machine image picking p m) in
    (and_parts first others (subst (λ (ps : List ℕ). may_run image ps picking m ≡ true) (drop_more picks k 0 within) h)).1
