use Rattle.std.proofs.Common.{◌≡◌, ℕ, ◌+◌, ◌<◌, ◌^◌, length, Some, sym, subst, ap, ◌∙◌, arith}
use Rattle.std.proofs.lemmas.Option.{slice_get_within}
use Rattle.std.specs.List.{slice_get}
use Rattle.pfc_code.specs.declared.instructions.Instr.{Instr}
use Rattle.pfc_code.specs.Images.{PlainImage, plain_image}
use Rattle.pfc_stacks.specs.Stacks.{stack_of}
use Rattle.pfc_machines.specs.declared.machine.Machine.{Machine}
use Rattle.pfc_machines.specs.Quiet.{goes}
use Rattle.pfc_machine_acts.specs.declared.stepping.Stepped.{Stepped}
use Rattle.pfc_machine_acts.specs.Quietly.{quietly, next_instr, CanStep, IsStepped}
use Rattle.pfc_machine_acts.specs.Running.{IsNext, quiet_ahead}
use Rattle.pfc_machine_acts.proofs.Lengths.{as_many}
use Rattle.pfc_machine_acts.proofs.Runs.{can_step, step_on, ahead_is, still_so, reached_so}
use Rattle.pfc_machine_acts.proofs.Tried.{same_instr, stepped_so}
use Rattle.pfc_machine_acts.proofs.advancing.advance.Goals.{In-Passed, After-instr_at}
use Rattle.pfc_machine_acts.proofs.advancing.advance.Goals as goal

pub instr_at-requires : goal.instr_at-requires
instr_at-requires c =
    let image : PlainImage = plain_image c.args.image.now in
    let (n, m, i, next) = c.loop-next.invariant.some in
    let (j, is, can) = can_step image c.number-p.result c.loop-next.machine n m i next in
    (j, ap (λ (a : ℕ). slice_get image.code a) c.address-at.ensures ∙ is)

-- addresses have 32 bits
pub step-requires-clause-next : goal.step-requires-clause-next
step-requires-clause-next c =
    let image : PlainImage = plain_image c.args.image.now in
    let p : ℕ = c.number-p.result in
    let (n, m, i, next) = c.loop-next.invariant.some in
    let (j, is, can) = can_step image p c.loop-next.machine n m i next in
    let inside = slice_get_within image.code (stack_of c.loop-next.machine.stacks p).at j is in
    let short = c.requires.short in
    subst (λ (k : ℕ). (stack_of c.loop-next.machine.stacks k).at + 1 < 2 ^ 32) (sym c.loop-next.invariant.process) (omega (arith, inside, short))

-- the instruction at the address of the process
standing : (c : After-instr_at) → (j : Instr) × (next_instr (plain_image c.args.image.now) c.number-p.result c.loop-next.machine ≡ Some j)
    × CanStep (plain_image c.args.image.now) j c.number-p.result c.loop-next.machine × (c.instr_at.result ≡ j)
standing c =
    let image : PlainImage = plain_image c.args.image.now in
    let (n, m, i, next) = c.loop-next.invariant.some in
    let (j, is, can) = can_step image c.number-p.result c.loop-next.machine n m i next in
    let at_address = ap (λ (a : ℕ). slice_get image.code a) c.address-at.ensures ∙ is in
    (j, is, can, same_instr c.instr_at.result j (sym c.instr_at.ensures ∙ at_address))

pub step-requires-clause-can : goal.step-requires-clause-can
step-requires-clause-can c =
    let image : PlainImage = plain_image c.args.image.now in
    let m : Machine = c.loop-next.machine in
    let (j, is, can, same) = standing c in
    subst (λ (k : ℕ). CanStep image c.instr_at.result k m) (sym c.loop-next.invariant.process)
    (subst (λ (i : Instr). CanStep image i c.number-p.result m) (sym same) can)

-- the instruction that was performed
passed : (c : In-Passed) → (j : Instr) × (next_instr (plain_image c.args.image.now) c.number-p.result c.loop-next.machine ≡ Some j)
    × (quietly (plain_image c.args.image.now) j c.number-p.result c.loop-next.machine ≡ goes c.step.new.machine)
passed c =
    let image : PlainImage = plain_image c.args.image.now in
    let m : Machine = c.loop-next.machine in
    let (n, m', i, next) = c.loop-next.invariant.some in
    let (j, is, can) = can_step image c.number-p.result m n m' i next in
    let same = same_instr c.instr_at.result j (sym c.instr_at.ensures ∙ ap (λ (a : ℕ). slice_get image.code a) c.address-at.ensures ∙ is) in
    let stepped = stepped_so image c.instr_at.result c.loop-next.r.number m c.step.new.machine c.step.result c.step.ensures.tried in
    let went = subst (λ (d : Stepped). IsStepped image c.instr_at.result c.loop-next.r.number m d c.step.new.machine) c.in-Passed.is stepped in (
      j,
      is,
      subst (λ (k : ℕ). quietly image j k m ≡ goes c.step.new.machine) c.loop-next.invariant.process
          (subst (λ (i : Instr). quietly image i c.loop-next.r.number m ≡ goes c.step.new.machine) same went),
    )

pub loop-next-smaller : goal.loop-next-smaller
loop-next-smaller c =
    let image : PlainImage = plain_image c.args.image.now in
    let p : ℕ = c.number-p.result in
    let m : Machine = c.loop-next.machine in
    let most : ℕ = length image.code in
    let (n, m', i, next) = c.loop-next.invariant.some in
    let (j, is, e) = passed c in
    let (k, more, behind) = step_on image p m c.step.new.machine j n m' i is e next in
    let here : quiet_ahead image p most m ≡ n = ahead_is image p most m n m' i next.few next in
    let there : quiet_ahead image p most c.step.new.machine ≡ k = ahead_is image p most c.step.new.machine k m' i behind.few behind in
    let small : quiet_ahead image p most c.step.new.machine < quiet_ahead image p most m = omega (arith, here, there, more) in
    small

pub loop-next-preserved : goal.loop-next-preserved
loop-next-preserved c =
    let image : PlainImage = plain_image c.args.image.now in
    let p : ℕ = c.number-p.result in
    let m : Machine = c.loop-next.machine in
    let (j, is, e) = passed c in
    record {
      process = c.in-Passed.ensures.process ∙ c.loop-next.invariant.process;
      stack =
          let same = as_many image p m c.step.new.machine j e in
          subst (λ (n : ℕ). p < n) (sym same) c.loop-next.invariant.stack;
      some =
          let (n, m', i, next) = c.loop-next.invariant.some in
          let (k, more, behind) = step_on image p m c.step.new.machine j n m' i is e next in
          (k, m', i, behind);
      all = λ n m' i from.
          let (k, here) = c.loop-next.invariant.all n m' i from in
          let (l, more, behind) = step_on image p m c.step.new.machine j k m' i is e here in
          (l, behind);
    }

pub returns-in_default : goal.returns-in_default
returns-in_default c =
    let image : PlainImage = plain_image c.args.image.now in
    let p : ℕ = c.number-p.result in
    let m : Machine = c.loop-next.machine in
    let still = still_so c.step.result c.in_default.not-Passed in
    let same : c.loop-next.r.number ≡ p = c.loop-next.invariant.process in
    let stepped = stepped_so image c.instr_at.result c.loop-next.r.number m c.step.new.machine c.step.result c.step.ensures.tried in
    record {
      process = c.step.ensures.process ∙ same ∙ c.number-p.ensures;
      still = still;
      reached = λ n m' i from.
          let (k, here) = c.loop-next.invariant.all n m' i (subst (λ (q : ℕ). IsNext image q c.args.machine.now n m' i) (sym c.number-p.ensures) from) in
          subst (λ (q : ℕ). (c.address-at.result ≡ (stack_of m'.stacks q).at) × IsStepped image i q m' c.step.result c.step.new.machine) c.number-p.ensures
          (reached_so image p m c.step.new.machine c.step.result c.address-at.result k m' i still c.address-at.ensures
          (λ j is.
          let here_is = same_instr c.instr_at.result j (sym c.instr_at.ensures ∙ ap (λ (a : ℕ). slice_get image.code a) c.address-at.ensures ∙ is) in
          subst (λ (q : ℕ). IsStepped image j q m c.step.result c.step.new.machine) same
          (subst (λ (x : Instr). IsStepped image x c.loop-next.r.number m c.step.result c.step.new.machine) here_is stepped)) here);
    }
