-- Quiet runs, instruction by instruction.
use Rattle.std.proofs.Common.{◌≡◌, ℕ, zero, suc, ◌≤◌, Option, Some, refl, sym, ap, ◌∙◌, subst, arith}
use Rattle.pfc_code.specs.declared.instructions.Instr.{Instr}
use Rattle.pfc_code.specs.Images.{PlainImage}
use Rattle.pfc_stacks.specs.Stacks.{stack_of}
use Rattle.pfc_state.specs.declared.states.Running.{Running}
use Rattle.pfc_machines.specs.declared.machine.Machine.{Machine}
use Rattle.pfc_machines.specs.Quiet.{QuietEffect, goes, ends_in, acts}
use Rattle.pfc_machine_acts.specs.declared.stepping.Stepped.{Stepped}
use Rattle.pfc_machine_acts.specs.declared.stepping.Stepped.TheVariants.{Passed, Acted, Faulted, Stands}
use Rattle.pfc_machine_acts.specs.Quietly.{quietly, next_instr, CanStep, IsStepped}
use Rattle.pfc_machine_acts.specs.Running.{QuietRun, IsNoMove, IsNext, IsStill, effect_of_next, counted_on, quiet_ahead}
use Rattle.pfc_machine_acts.proofs.Tried.{same_instr}

abbrev machine_in : Machine → QuietEffect → Machine
machine_in m (goes m') = m'
machine_in m (ends_in f) = m
machine_in m acts = m

same_machine : (m m' : Machine) → goes m ≡ goes m' → m ≡ m'
same_machine m m' e = ap (machine_in m) e

-- the instruction that comes next on the way
pub can_step : (image : PlainImage) (p : ℕ) (m : Machine) (n : ℕ) (m' : Machine) (i : Instr) → IsNext image p m n m' i
    → (j : Instr) × (next_instr image p m ≡ Some j) × CanStep image j p m
can_step image p m zero m' i next =
    let at_end : m' ≡ m = next.run in
    (i, subst (λ (x : Machine). next_instr image p x ≡ Some i) at_end next.is, subst (λ (x : Machine). CanStep image i p x) at_end next.can)
can_step image p m (suc n) m' i next =
    let (mid, step, rest) = next.run in (step.instr, step.is, step.can)

-- behind a quiet one
pub step_on : (image : PlainImage) (p : ℕ) (m mid : Machine) (j : Instr) (n : ℕ) (m' : Machine) (i : Instr)
    → next_instr image p m ≡ Some j → quietly image j p m ≡ goes mid → IsNext image p m n m' i
    → (k : ℕ) × (n ≡ suc k) × IsNext image p mid k m' i
step_on image p m mid j zero m' i is e next =
    let at_end : m' ≡ m = next.run in
    let same : i ≡ j = same_instr i j (sym (subst (λ (x : Machine). next_instr image p x ≡ Some i) at_end next.is) ∙ is) in
    absurd (subst (λ (x : QuietEffect). IsNoMove x) (ap (λ (x : Machine). quietly image i p x) at_end ∙
    ap (λ (x : Instr). quietly image x p m) same ∙ e) next.no_move)
step_on image p m mid j (suc n) m' i is e next =
    let (there, step, rest) = next.run in
    let same : j ≡ step.instr = same_instr j step.instr (sym is ∙ step.is) in
    let equal : there ≡ mid = same_machine there mid (sym step.goes_on ∙ ap (λ (x : Instr). quietly image x p m) (sym same) ∙ e) in (
      n,
      refl,
      record {
        run = subst (λ (x : Machine). QuietRun image p n x m') equal rest;
        few = (let few = next.few in omega (arith, few));
        is = next.is;
        can = next.can;
        no_move = next.no_move;
      },
    )

-- before the action itself
pub at_action : (image : PlainImage) (p : ℕ) (m : Machine) (j : Instr) (n : ℕ) (m' : Machine) (i : Instr)
    → next_instr image p m ≡ Some j → IsNoMove (quietly image j p m) → IsNext image p m n m' i → (m' ≡ m) × (i ≡ j)
at_action image p m j zero m' i is still next =
    let at_end : m' ≡ m = next.run in
    (at_end, same_instr i j (sym (subst (λ (x : Machine). next_instr image p x ≡ Some i) at_end next.is) ∙ is))
at_action image p m j (suc n) m' i is still next =
    let (there, step, rest) = next.run in
    let same : j ≡ step.instr = same_instr j step.instr (sym is ∙ step.is) in
    absurd (subst (λ (x : QuietEffect). IsNoMove x) (ap (λ (x : Instr). quietly image x p m) same ∙ step.goes_on) still)

-- ## How many there are

counted_still : (e : QuietEffect) (count : Machine → ℕ) → IsNoMove e → counted_on e count ≡ 0
counted_still (goes m) count still = absurd still
counted_still (ends_in f) count still = refl
counted_still acts count still = refl

pub ahead_is : (image : PlainImage) (p most : ℕ) (m : Machine) (n : ℕ) (m' : Machine) (i : Instr) → n ≤ most →
    IsNext image p m n m' i → quiet_ahead image p most m ≡ n
ahead_is image p zero m zero m' i few next = refl
ahead_is image p zero m (suc n) m' i few next = absurd (omega (arith, few))
ahead_is image p (suc most) m zero m' i few next =
    let at_end : m' ≡ m = next.run in
    let here : next_instr image p m ≡ Some i = subst (λ (x : Machine). next_instr image p x ≡ Some i) at_end next.is in
    ap (λ (o : Option Instr). counted_on (effect_of_next o image p m) (quiet_ahead image p most)) here
    ∙ counted_still (quietly image i p m) (quiet_ahead image p most) (subst (λ (x : Machine). IsNoMove (quietly image i p x)) at_end next.no_move)
ahead_is image p (suc most) m (suc n) m' i few next =
    let (there, step, rest) = next.run in
    let (k, e, behind) = step_on image p m there step.instr (suc n) m' i step.is step.goes_on next in
    let same : n ≡ k = omega (arith, e) in
    ap (λ (o : Option Instr). counted_on (effect_of_next o image p m) (quiet_ahead image p most)) step.is
    ∙ ap (λ (x : QuietEffect). counted_on x (quiet_ahead image p most)) step.goes_on
    ∙ ap suc (ahead_is image p most there k m' i (omega (arith, few, same)) behind ∙ sym same)

-- ## Where a run stops

pub still_so : (d : Stepped) → ((r : Running) → d ≡ Passed r → ⊥) → IsStill d
still_so (Passed r) not = absurd (not r refl)
still_so (Acted r) not = tt
still_so (Faulted r f) not = tt
still_so (Stands r) not = tt

no_move_by : (e f : QuietEffect) → e ≡ f → IsNoMove f → IsNoMove e
no_move_by e f same h = subst (λ (x : QuietEffect). IsNoMove x) (sym same) h

pub no_move_so : (image : PlainImage) (i : Instr) (p : ℕ) (m new : Machine) (d : Stepped) → IsStill d →
    IsStepped image i p m d new → IsNoMove (quietly image i p m)
no_move_so image i p m new (Passed r) still h = absurd still
no_move_so image i p m new (Acted r) still h = no_move_by (quietly image i p m) acts h.0 tt
no_move_so image i p m new (Faulted r f) still h = no_move_by (quietly image i p m) (ends_in f) h.0 tt
no_move_so image i p m new (Stands r) still h = no_move_by (quietly image i p m) acts h.0 tt

pub reached_so :
    (image : PlainImage) (p : ℕ) (m new : Machine) (d : Stepped) (place n : ℕ) (m' : Machine) (i : Instr)
    → IsStill d → place ≡ (stack_of m.stacks p).at → ((j : Instr) → next_instr image p m ≡ Some j → IsStepped image j p m d new)
    → IsNext image p m n m' i → (place ≡ (stack_of m'.stacks p).at) × IsStepped image i p m' d new
reached_so image p m new d place n m' i still at_place stepped next =
    let (j, is, can) = can_step image p m n m' i next in
    let did : IsStepped image j p m d new = stepped j is in
    let (same_m, same_i) = at_action image p m j n m' i is (no_move_so image j p m new d still did) next in
    subst (λ (x : Machine). (place ≡ (stack_of x.stacks p).at) × IsStepped image i p x d new) (sym same_m)
    (at_place, subst (λ (x : Instr). IsStepped image x p m d new) (sym same_i) did)
