-- One action of a process is its step.
use Rattle.std.proofs.Common.{◌≡◌, ℕ, zero, suc, true, ◌≤◌, length, List, Option, Some, None, Result, Ok, Err, IfOk, OnErr, refl, sym, ap, ◌∙◌, subst, arith}
use Rattle.std.proofs.Common.{append-nil}
use Rattle.pfc_base.specs.declared.memory_error.Memory.{Memory}
use Rattle.pfc_code.specs.declared.instructions.Instr.{Instr}
use Rattle.pfc_code.specs.Images.{PlainImage}
use Rattle.pfc_sched.specs.Picks.{Picking}
use Rattle.pfc_machines.specs.declared.machine.Machine.{Machine}
use Rattle.pfc_machines.specs.Actions.{at_rest, PrintedEffect}
use Rattle.pfc_machines.specs.Quiet.{QuietEffect, goes, ends_in, acts}
use Rattle.pfc_select_actions.specs.Selects.{takes_up}
use Rattle.pfc_world.specs.Tables.{Table}
use Rattle.pfc_world.specs.Transitions.{begun}
use Rattle.pfc_machine_acts.specs.Acting.{MayAct, choice_among, comes_to, line_of, IsAnswer, IsActed}
use Rattle.pfc_machine_acts.specs.Performing.{acts_by, choices_for}
use Rattle.pfc_machine_acts.specs.Quietly.{quietly, next_instr}
use Rattle.pfc_machine_acts.specs.Running.{IsNoMove, IsNext, effect_of_next}
use Rattle.pfc_machine_acts.specs.declared.acts.ActionEnd.{ActionEnd}
use Rattle.pfc_machine_acts.specs.declared.acts.ActionEnd.TheVariants.{Done, Faulted}
use Rattle.pfc_machine_acts.proofs.Runs.{step_on}
use Rattle.pfc_sessions.specs.Steps.{begins, quiet_on, quiet_up_to, before_action, may_want, counted, step_at, step, FaultAt, IsStep}

-- ## Where quiet instructions lead

quiet_still : (e : QuietEffect) (others : Machine → Machine) (m : Machine) → IsNoMove e → quiet_on e others m ≡ m
quiet_still (goes m') others m still = absurd still
quiet_still (ends_in f) others m still = refl
quiet_still acts others m still = refl

quiet_leads : (image : PlainImage) (p most : ℕ) (m : Machine) (n : ℕ) (b : Machine) (i : Instr) → n ≤ most → IsNext image p m n b i
    → quiet_up_to image p most m ≡ b
quiet_leads image p zero m zero b i few next = sym next.run
quiet_leads image p zero m (suc n) b i few next = absurd (omega (arith, few))
quiet_leads image p (suc most) m zero b i few next =
    let at_end : b ≡ m = next.run in
    let here : next_instr image p m ≡ Some i = subst (λ (x : Machine). next_instr image p x ≡ Some i) at_end next.is in
    ap (λ (o : Option Instr). quiet_on (effect_of_next o image p m) (quiet_up_to image p most) m) here
    ∙ quiet_still (quietly image i p m) (quiet_up_to image p most) m (subst (λ (x : Machine). IsNoMove (quietly image i p x)) at_end next.no_move)
    ∙ sym at_end
quiet_leads image p (suc most) m (suc n) b i few next =
    let (there, first, rest) = next.run in
    let (k, e, behind) = step_on image p m there first.instr (suc n) b i first.is first.goes_on next in
    let same : n ≡ k = omega (arith, e) in
    ap (λ (o : Option Instr). quiet_on (effect_of_next o image p m) (quiet_up_to image p most) m) first.is
    ∙ ap (λ (x : QuietEffect). quiet_on x (quiet_up_to image p most) m) first.goes_on
    ∙ quiet_leads image p most there k b i (omega (arith, few, same)) behind

before_is : (image : PlainImage) (p : ℕ) (m : Machine) (n : ℕ) (b : Machine) (i : Instr) → IsNext image p (takes_up p (begins p m)) n b i
    → before_action image p m ≡ b
before_is image p m n b i next = quiet_leads image p (length image.code) (takes_up p (begins p m)) n b i next.few next

step_is : (image : PlainImage) (p : ℕ) (picking : Picking) (m : Machine) (n : ℕ) (b : Machine) (i : Instr)
    → IsNext image p (takes_up p (begins p m)) n b i → step image p picking m ≡ step_at (Some i) image p picking b
step_is image p picking m n b i next =
    ap (λ (x : Machine). step_at (next_instr image p x) image p picking x) (before_is image p m n b i next)
    ∙ ap (λ (o : Option Instr). step_at o image p picking b) next.is

-- ## What was answered

answered :
    (e : PrintedEffect) (i : Instr) (line p n : ℕ) (before : Machine) (picking picking' : Picking) (out out' : List ℕ) (end : ActionEnd) (new : Machine)
    → IsAnswer e i line p n before picking picking' out out' (Ok end) new → IsStep (counted e line p n picking before) p new picking' out out' end
answered e i line p n before picking picking' out out' Done new h =
    subst (λ (x : PrintedEffect). IsStep (counted x line p n picking before) p new picking' out out' Done) (sym h.is)
    (record { machine = h.machine; tells = refl; picked = h.chosen; written = h.bytes })
answered e i line p n before picking picking' out out' (Faulted at f) new (is, at_line, machine, bytes, picked) =
    subst (λ (x : PrintedEffect). IsStep (counted x line p n picking before) p new picking' out out' (Faulted at f)) (sym is)
    (record {
      machine = machine;
      tells = ap (λ (l : ℕ). (let fault : FaultAt = record { process = p; line = l; fault = f } in Some fault)) (sym at_line);
      picked = picked;
      written = bytes ∙ sym (append-nil out);
    })

module _
    (image : PlainImage) (p : ℕ) (picking picking' : Picking) (m : Machine) (n : ℕ) (b : Machine) (i : Instr) (out out' : List ℕ) (new : Machine)
    (next : IsNext image p (takes_up p (begins p m)) n b i)
  where
    pub stepped : (result : Result ActionEnd Memory) → IsActed image p b i picking picking' out out' result new
        → IfOk result (λ end. IsStep (step image p picking m) p new picking' out out' end)
    stepped (Ok end) h =
        subst (λ t. IsStep t p new picking' out out' end) (sym (step_is image p picking m n b i next))
        (answered (comes_to (quietly image i p b) (acts_by image i (choice_among picking (choices_for i p b)) p b)) i
        (line_of image p b) p (choices_for i p b) b
        picking picking' out out' end new h)
    stepped (Err memory) h = tt

    pub untried : (result : Result ActionEnd Memory) → IsActed image p b i picking picking' out out' result new
        → OnErr result (new ≡ at_rest (before_action image p m))
    untried (Ok end) h = tt
    untried (Err memory) (wants, stays, kept, unchosen) = stays ∙ ap at_rest (sym (before_is image p m n b i next))

    pub wanting : (result : Result ActionEnd Memory) → IsActed image p b i picking picking' out out' result new
        → OnErr result (may_want (next_instr image p (before_action image p m)) ≡ true)
    wanting (Ok end) h = tt
    wanting (Err memory) (wants, stays, kept, unchosen) =
        ap (λ (x : Machine). may_want (next_instr image p x)) (before_is image p m n b i next) ∙ ap may_want next.is ∙ wants

    pub unprinted : (result : Result ActionEnd Memory) → IsActed image p b i picking picking' out out' result new → OnErr result (out' ≡ out)
    unprinted (Ok end) h = tt
    unprinted (Err memory) (wants, stays, kept, unchosen) = kept

    pub unpicked : (result : Result ActionEnd Memory) → IsActed image p b i picking picking' out out' result new → OnErr result (picking' ≡ picking)
    unpicked (Ok end) h = tt
    unpicked (Err memory) (wants, stays, kept, unchosen) = unchosen

-- of a process that has begun to act
module _ (image : PlainImage) (picking picking' : Picking) (out out' : List ℕ) (result : Result ActionEnd Memory) (new : Machine) where
  -- whatever number it has, and however the table is written
  abbrev Answers : ℕ → Machine → Type 0
  Answers p m = (n : ℕ) (b : Machine) (i : Instr) → IsNext image p (takes_up p m) n b i → IsActed image p b i picking picking' out out' result new

  pub answer_to :
      (p q : ℕ) (m : Machine) (world : Table) → q ≡ p → world ≡ begun m.world p → (may : MayAct image picking p (begins p m))
      → Answers q (record m { world = world }) → IsActed image p may.before may.instr picking picking' out out' result new
  answer_to p q m world number is may all =
      let of_p = subst (λ (k : ℕ). Answers k (record m { world = world })) number all in
      let of_world = subst (λ (w : Table). Answers p (record m { world = w })) is of_p in
      of_world may.count may.before may.instr may.next

-- ## Behind a fault

counted_rests :
    (e : PrintedEffect) (line p n : ℕ) (picking : Picking) (before : Machine) (f : FaultAt)
    → (counted e line p n picking before).fault ≡ Some f → (counted e line p n picking before).machine.world.acting ≡ None
counted_rests (Ok x) line p n picking before f is = absurd (let no : None ≡ Some f = is in cc)
counted_rests (Err fault) line p n picking before f is = refl

step_rests :
    (o : Option Instr) (image : PlainImage) (p : ℕ) (picking : Picking) (before : Machine) (f : FaultAt)
    → (step_at o image p picking before).fault ≡ Some f → (step_at o image p picking before).machine.world.acting ≡ None
step_rests None image p picking before f is = absurd (let no : None ≡ Some f = is in cc)
step_rests (Some i) image p picking before f is =
    counted_rests (comes_to (quietly image i p before) (acts_by image i (choice_among picking (choices_for i p before)) p before)) (line_of image p before) p
    (choices_for i p before) picking before f is

-- nobody acts
pub fault_rests : (image : PlainImage) (p : ℕ) (picking : Picking) (m : Machine) (f : FaultAt)
    → (step image p picking m).fault ≡ Some f → (step image p picking m).machine.world.acting ≡ None
fault_rests image p picking m f is = step_rests (next_instr image p (before_action image p m)) image p picking (before_action image p m) f is
