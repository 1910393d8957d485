-- Behind an action both sides agree.
use Rattle.std.proofs.Common.{◌≡◌, ℕ, List, [], ◌++◌, Result, Ok, Err, sym, ap, ◌∙◌, subst}
use Rattle.std.proofs.lemmas.List.{append-nil}
use Rattle.pfc_base.specs.declared.memory_error.Memory.{Memory}
use Rattle.pfc_base.specs.declared.faults.RunFault.{RunFault}
use Rattle.pfc_code.specs.declared.instructions.Instr.{Instr}
use Rattle.pfc_sched.specs.Picks.{Picking}
use Rattle.pfc_semantics.specs.Configurations.{Config, Effect, after}
use Rattle.pfc_semantics.specs.Steps.{effect, line_of, next_of}
use Rattle.pfc_translation.specs.Images.{image_of}
use Rattle.pfc_machines.specs.declared.machine.Machine.{Machine}
use Rattle.pfc_machines.specs.Actions.{Printed, PrintedEffect}
use Rattle.pfc_machine_acts.specs.declared.acts.ActionEnd.{ActionEnd}
use Rattle.pfc_machine_acts.specs.declared.acts.ActionEnd.TheVariants.{Done, Faulted}
use Rattle.pfc_machine_acts.specs.Acting.{acted, choice_among, comes_to, IsAnswer, IsActed}
use Rattle.pfc_machine_acts.specs.Performing.{acts_by, choices_for}
use Rattle.pfc_machine_acts.specs.Quietly.{quietly}
use Rattle.pfc_representation.specs.Levels.{Facts, program_in}
use Rattle.pfc_representation.specs.Machines.{Agrees, Represents}
use Rattle.pfc_representation.specs.Actions.{ComeToSame}
use Rattle.pfc_arrivals.specs.Arrivals.{ActsAsItsSource, EndsAs, HasAgreed}

module _ (facts : Facts) (before : Machine) (c : Config) (i : Instr) (p line n : ℕ) (picking picking' : Picking) (out out' : List ℕ) (new : Machine) where
  -- of what the action is in the source text
  abbrev AgreesBehind : ActionEnd → Effect → Type 0
  AgreesBehind end e =
      let behind = after (program_in facts) c p line e in
      Agrees facts new behind × ((bytes : List ℕ) × (out' ≡ out ++ bytes) × (behind.output ≡ c.output ++ bytes)) × EndsAs end line e

  same_fault : (f g : RunFault) → ◌≡◌ {A = PrintedEffect} (Err f) (Err g) → f ≡ g
  same_fault f g h = cc

  same_printed : (x y : Printed) → ◌≡◌ {A = PrintedEffect} (Ok x) (Ok y) → x ≡ y
  same_printed x y h = cc

  none_printed : (f : RunFault) (x : Printed) → ◌≡◌ {A = PrintedEffect} (Err f) (Ok x) → ⊥
  none_printed f x h = cc

  none_faulted : (f : RunFault) (x : Printed) → ◌≡◌ {A = PrintedEffect} (Ok x) (Err f) → ⊥
  none_faulted f x h = cc

  agree_behind : (end : ActionEnd) (e : PrintedEffect) (s : Effect) → ComeToSame facts before c p line e s
      → IsAnswer e i line p n before picking picking' out out' (Ok end) new → AgreesBehind end s
  agree_behind Done (Ok x) (Ok d) same is =
      let printed : x ≡ is.printed = same_printed x is.printed is.is in (
        subst (λ (m : Machine). Agrees facts m (after (program_in facts) c p line (Ok d)))
            (ap (λ (y : Printed). acted line p y.machine) printed ∙ sym is.machine) same.0,
        (x.bytes, is.bytes ∙ ap (λ (y : Printed). out ++ y.bytes) (sym printed), same.1),
        tt,
      )
  agree_behind Done (Err f) (Err g) same is = absurd (none_printed f is.printed is.is)
  agree_behind (Faulted at f) (Ok x) (Ok d) same is = absurd (none_faulted f x is.0)
  agree_behind (Faulted at f) (Err g) (Err h) same is = (
    subst (λ (m : Machine). Agrees facts m (after (program_in facts) c p line (Err h))) (sym is.2) same.1,
    ([], is.3 ∙ sym (append-nil out), sym (append-nil c.output)),
    (is.1, sym (same_fault g f is.0) ∙ same.0),
  )
  agree_behind end (Ok x) (Err g) same is = absurd same
  agree_behind end (Err f) (Ok d) same is = absurd same

module _ (facts : Facts) (m : Machine) (c : Config) (p : ℕ) (picking picking' : Picking) (acts : ActsAsItsSource facts m c p picking) (out out' : List ℕ) where
  abbrev choice : ℕ
  choice = choice_among picking (choices_for acts.may.instr p acts.may.before)

  pub has_agreed : (result : Result ActionEnd Memory) (new : Machine) → IsActed (image_of facts.tree) p acts.may.before acts.may.instr picking picking' out
      out' result new
      → HasAgreed facts c p choice result out out' new
  has_agreed (Err memory) new is = (subst (λ (x : Machine). Represents facts x c) (sym is.1) (acts.stays is.0), is.2)
  has_agreed (Ok end) new is =
      let e : PrintedEffect = comes_to (quietly (image_of facts.tree) acts.may.instr p acts.may.before)
      (acts_by (image_of facts.tree) acts.may.instr choice p acts.may.before) in
      let n : ℕ = choices_for acts.may.instr p acts.may.before in
      let answer : IsAnswer e acts.may.instr (line_of (next_of (program_in facts) c p)) p n acts.may.before picking picking' out out' (Ok end) new =
      subst (λ line. IsAnswer e acts.may.instr line p n acts.may.before picking picking' out out' (Ok end) new) acts.line is in
      agree_behind facts acts.may.before c acts.may.instr p (line_of (next_of (program_in facts) c p)) n picking picking' out out' new end e
      (effect (program_in facts) c p choice (next_of (program_in facts) c p)) acts.same answer
