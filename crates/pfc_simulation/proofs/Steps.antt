-- The step of a process that comes to its next action.
use Rattle.std.proofs.Common.{◌≡◌, ℕ, zero, suc, ◌==◌, ◌≤◌, Bool, false, if◌then◌else◌, length, Option, Some, refl, sym, ap, ◌∙◌, subst, arith}
use Rattle.std.proofs.lemmas.Bool.Decides.{nat_tests}
use Rattle.pfc_code.specs.declared.instructions.Instr.{Instr}
use Rattle.pfc_code.specs.Images.{PlainImage}
use Rattle.pfc_sched.specs.Picks.{Picking, chosen, after_choice}
use Rattle.pfc_machines.specs.declared.machine.Machine.{Machine}
use Rattle.pfc_machines.specs.Quiet.{QuietEffect, goes, ends_in, acts}
use Rattle.pfc_select_actions.specs.Selects.{takes_up}
use Rattle.pfc_machine_acts.specs.Acting.{choice_among, after_choosing}
use Rattle.pfc_machine_acts.specs.Quietly.{quietly, next_instr}
use Rattle.pfc_machine_acts.specs.Running.{IsNoMove, IsNext, effect_of_next}
use Rattle.pfc_machine_acts.proofs.Runs.{step_on}
use Rattle.pfc_semantics.specs.Runs as source
use Rattle.pfc_sessions.specs.Steps.{begins, quiet_on, quiet_up_to, step_at, step}

-- ## Where quiet instructions lead

quiet_still : (e : QuietEffect) (others : Machine → Machine) (m : Machine) → IsNoMove e → quiet_on e others m ≡ m
quiet_still (goes m') others m still = absurd still
quiet_still (ends_in f) others m still = refl
quiet_still acts others m still = refl

-- as many as the code has lead there, if any do
pub quiet_leads : (image : PlainImage) (p most : ℕ) (m : Machine) (n : ℕ) (b : Machine) (i : Instr) → n ≤ most → IsNext image p m n b i
    → quiet_up_to image p most m ≡ b
quiet_leads image p zero m zero b i few next = sym next.run
quiet_leads image p zero m (suc n) b i few next = absurd (omega (arith, few))
quiet_leads image p (suc most) m zero b i few next =
    let at_end : b ≡ m = next.run in
    let here : next_instr image p m ≡ Some i = subst (λ (x : Machine). next_instr image p x ≡ Some i) at_end next.is in
    ap (λ (o : Option Instr). quiet_on (effect_of_next o image p m) (quiet_up_to image p most) m) here
    ∙ quiet_still (quietly image i p m) (quiet_up_to image p most) m (subst (λ (x : Machine). IsNoMove (quietly image i p x)) at_end next.no_move)
    ∙ sym at_end
quiet_leads image p (suc most) m (suc n) b i few next =
    let (there, first, rest) = next.run in
    let (k, e, behind) = step_on image p m there first.instr (suc n) b i first.is first.goes_on next in
    let same : n ≡ k = omega (arith, e) in
    ap (λ (o : Option Instr). quiet_on (effect_of_next o image p m) (quiet_up_to image p most) m) first.is
    ∙ ap (λ (x : QuietEffect). quiet_on x (quiet_up_to image p most) m) first.goes_on
    ∙ quiet_leads image p most there k b i (omega (arith, few, same)) behind

-- its action is that of the instruction to which it comes
pub step_is : (image : PlainImage) (p : ℕ) (picking : Picking) (m : Machine) (n : ℕ) (b : Machine) (i : Instr)
    → IsNext image p (takes_up p (begins p m)) n b i → step image p picking m ≡ step_at (Some i) image p picking b
step_is image p picking m n b i next =
    ap (λ (x : Machine). step_at (next_instr image p x) image p picking x)
    (quiet_leads image p (length image.code) (takes_up p (begins p m)) n b i next.few next)
    ∙ ap (λ (o : Option Instr). step_at o image p picking b) next.is

-- ## Choices

not_zero : (n : ℕ) → (suc n == 0) ≡ false
not_zero n = grind (arith, nat_tests)

pub same_choice : (picking : Picking) (n : ℕ) → choice_among picking n ≡ source.choice_among picking n
same_choice picking zero = refl
same_choice picking (suc n) = ap (λ (b : Bool). if b then 0 else chosen picking (suc n)) (sym (not_zero n))

pub same_choosing : (picking : Picking) (n : ℕ) → after_choosing picking n ≡ source.behind_choice picking n
same_choosing picking zero = refl
same_choosing picking (suc n) = ap (λ (b : Bool). if b then picking else after_choice picking) (sym (not_zero n))
