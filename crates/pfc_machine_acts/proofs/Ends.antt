-- How an action ends.
use Rattle.std.proofs.Common.{◌≡◌, ℕ, ◌<◌, ◌*◌, ◌^◌, List, [], Some, Ok, refl, sym, ap, ◌∙◌, subst}
use Rattle.std.specs.Prelude.{Result}
use Rattle.std.proofs.lemmas.List.{append-nil}
use Rattle.pfc_base.specs.declared.faults.RunFault.{RunFault}
use Rattle.pfc_base.specs.declared.memory_error.Memory.{Memory}
use Rattle.pfc_code.specs.declared.instructions.Instr.{Instr}
use Rattle.pfc_code.specs.declared.instructions.Instr.TheVariants.{SEL}
use Rattle.pfc_code.specs.Images.{PlainImage}
use Rattle.pfc_sched.specs.Picks.{Picking}
use Rattle.pfc_state.specs.declared.states.Running.{Running}
use Rattle.pfc_world.specs.Tables.{Table}
use Rattle.pfc_machines.specs.declared.machine.Machine.{Machine}
use Rattle.pfc_machines.specs.Actions.{at_rest, PrintedEffect}
use Rattle.pfc_machines.specs.Quiet.{QuietEffect}
use Rattle.pfc_machine_acts.specs.declared.acts.ActionEnd.{ActionEnd}
use Rattle.pfc_machine_acts.specs.declared.acts.ActionEnd.TheVariants.{Done, Faulted as Ended}
use Rattle.pfc_machine_acts.specs.declared.stepping.Stepped.{Stepped}
use Rattle.pfc_machine_acts.specs.declared.stepping.Stepped.TheVariants.{Acted, Faulted, Stands}
use Rattle.pfc_machine_acts.specs.Acting.{choice_among, after_choosing, acted, comes_to, IsAnswer, IsActed, line_of}
use Rattle.pfc_machine_acts.specs.Conditions.{CanSelect, CanPrint, CanDo}
use Rattle.pfc_machine_acts.specs.Performing.{acts_by, performs, choices_for}
use Rattle.pfc_machine_acts.specs.Quietly.{stepper, IsStepped}

-- what a select asks is what its choice asks
pub selects_so : (image : PlainImage) (i : Instr) (choice p : ℕ) (m : Machine) → CanPrint image i choice p m → CanSelect i choice p m
selects_so image (SEL mark x) choice p m h = h
selects_so image i choice p m h = tt

-- who ends an action may be counted
pub record MayEnd (r : ℕ) (m : Machine) : Type 0 where
  pub acts : m.world.acting ≡ Some r
  pub done : m.world.done < 10 ^ 18
  pub moment : m.world.moment < 2 * 10 ^ 18

module _ (image : PlainImage) (i : Instr) (p : ℕ) (m mid : Machine) (d : Stepped) (proc : (stepper d).number ≡ p) (did : IsStepped image i p m d mid) where
  number_of_acted : (r : Running) → d ≡ Acted r → r.number ≡ p
  number_of_acted r is = ap (λ (x : Stepped). (stepper x).number) (sym is) ∙ proc

  number_of_faulted : (r : Running) (f : RunFault) → d ≡ Faulted r f → r.number ≡ p
  number_of_faulted r f is = ap (λ (x : Stepped). (stepper x).number) (sym is) ∙ proc

  number_of_stands : (r : Running) → d ≡ Stands r → r.number ≡ p
  number_of_stands r is = ap (λ (x : Stepped). (stepper x).number) (sym is) ∙ proc

  may_end : (choice r : ℕ) → CanDo image i choice p m → r ≡ p → mid.world ≡ m.world → MayEnd r mid
  may_end choice r can number world = record {
    acts = ap (λ (w : Table). w.acting) world ∙ can.acting.acts.acting ∙ ap Some (sym number);
    done = subst (λ (w : Table). w.done < 10 ^ 18) (sym world) can.acting.done;
    moment = subst (λ (w : Table). w.moment < 2 * 10 ^ 18) (sym world) can.acting.moment;
  }

  pub acted_may_end : (choice : ℕ) (r : Running) → d ≡ Acted r → CanDo image i choice p m → MayEnd r.number mid
  acted_may_end choice r is can =
      let h = subst (λ (x : Stepped). IsStepped image i p m x mid) is did in may_end choice r.number can (number_of_acted r is) h.1

  pub faulted_may_end : (choice : ℕ) (r : Running) (f : RunFault) → d ≡ Faulted r f → CanDo image i choice p m → MayEnd r.number mid
  faulted_may_end choice r f is can =
      let h = subst (λ (x : Stepped). IsStepped image i p m x mid) is did in
      may_end choice r.number can (number_of_faulted r f is) (ap (λ (x : Machine). x.world) h.1)

  pub stands_can : (picking : Picking) (r : Running) (j : Instr) → d ≡ Stands r → j ≡ i
      → CanDo image i (choice_among picking (choices_for i p m)) p m
      → CanDo image j (choice_among picking (choices_for j r.number mid)) r.number mid
  stands_can picking r j is same can =
      let h = subst (λ (x : Stepped). IsStepped image i p m x mid) is did in
      subst (λ (q : ℕ). CanDo image j (choice_among picking (choices_for j q mid)) q mid) (sym (number_of_stands r is))
      (subst (λ (x : Machine). CanDo image j (choice_among picking (choices_for j p x)) p x) (sym h.1)
      (subst (λ (k : Instr). CanDo image k (choice_among picking (choices_for k p m)) p m) (sym same) can))

  pub acted_is : (picking : Picking) (out : List ℕ) (r : Running) (line : ℕ) (new : Machine) → d ≡ Acted r → line ≡ line_of image p m
      → new ≡ acted line r.number (at_rest mid) → IsActed image p m i picking picking out out (Ok Done) new
  acted_is picking out r line new is at_line counted =
      let h = subst (λ (x : Stepped). IsStepped image i p m x mid) is did in
      let choice : ℕ = choice_among picking (choices_for i p m) in
      record {
        printed = record { machine = at_rest mid; bytes = [] };
        is = ap (λ (e : QuietEffect). comes_to e (acts_by image i choice p m)) h.0 ∙ h.2 choice;
        machine = counted ∙ ap (λ (l : ℕ). acted l r.number (at_rest mid)) at_line ∙
            ap (λ (q : ℕ). acted (line_of image p m) q (at_rest mid)) (number_of_acted r is);
        bytes = sym (append-nil out);
        chosen = ap (after_choosing picking) (sym h.3);
      }

  pub faulted_is : (picking : Picking) (out : List ℕ) (r : Running) (f : RunFault) (line : ℕ) (new : Machine) → d ≡ Faulted r f → line ≡ line_of image p m
      → new ≡ acted line r.number (at_rest mid) → IsActed image p m i picking picking out out (Ok (Ended line f)) new
  faulted_is picking out r f line new is at_line counted =
      let h = subst (λ (x : Stepped). IsStepped image i p m x mid) is did in
      let choice : ℕ = choice_among picking (choices_for i p m) in (
        ap (λ (e : QuietEffect). comes_to e (acts_by image i choice p m)) h.0,
        at_line,
        counted ∙ ap (λ (l : ℕ). acted l r.number (at_rest mid)) at_line ∙ ap (λ (q : ℕ). acted (line_of image p m) q (at_rest mid)) (number_of_faulted r f is)
            ∙ ap (λ (x : Machine). acted (line_of image p m) p (at_rest x)) h.1,
        refl,
        refl,
      )

  pub stands_is : (picking picking' : Picking) (out out' : List ℕ) (r : Running) (j : Instr) (line : ℕ) (result : Result ActionEnd Memory) (new : Machine)
      → d ≡ Stands r → j ≡ i → line ≡ line_of image p m
      → IsAnswer (performs image j (choice_among picking (choices_for j r.number mid)) r.number mid) j line r.number
      (choices_for j r.number mid) mid picking picking' out out' result new
      → IsActed image p m i picking picking' out out' result new
  stands_is picking picking' out out' r j line result new is same at_line answer =
      let h = subst (λ (x : Stepped). IsStepped image i p m x mid) is did in
      let n : ℕ = choices_for i p m in
      let choice : ℕ = choice_among picking n in
      let by_number = subst (λ (q : ℕ). IsAnswer (performs image j (choice_among picking (choices_for j q mid)) q mid) j line q
      (choices_for j q mid) mid picking picking' out out' result new)
      (number_of_stands r is) answer in
      let by_machine = subst (λ (x : Machine). IsAnswer (performs image j (choice_among picking (choices_for j p x)) p x) j line p
      (choices_for j p x) x picking picking' out out' result new)
      h.1 by_number in
      let by_instr = subst (λ (k : Instr). IsAnswer (performs image k (choice_among picking (choices_for k p m)) p m) k line p
      (choices_for k p m) m picking picking' out out' result new)
      same by_machine in
      let by_line = subst (λ (l : ℕ). IsAnswer (performs image i choice p m) i l p n m picking picking' out out' result new) at_line by_instr in
      subst (λ (e : PrintedEffect). IsAnswer e i (line_of image p m) p n m picking picking' out out' result new)
      (sym (ap (λ (e : QuietEffect). comes_to e (acts_by image i choice p m)) h.0 ∙ h.2 choice)) by_line
