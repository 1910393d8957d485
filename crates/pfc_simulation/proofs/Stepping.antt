-- An action of a process that is picked, on a machine that agrees with the configuration.
use Rattle.std.proofs.Common.{◌≡◌, ℕ, ◌<◌, List, ◌++◌, Option, Some, None, Ok, Err, refl, sym, ap, ◌∙◌, subst}
use Rattle.std.proofs.Common.{append-nil}
use Rattle.pfc_base.specs.declared.faults.RunFault.{RunFault}
use Rattle.pfc_code.specs.Images.{PlainImage}
use Rattle.pfc_sched.specs.Picks.{Picking, after_pick}
use Rattle.pfc_sched.proofs.PickLaws.{picks_ready}
use Rattle.pfc_state.specs.Stands.{Stand}
use Rattle.pfc_world.specs.Tables.{Table, at}
use Rattle.pfc_semantics.specs.Configurations.{Config, Effect, after}
use Rattle.pfc_semantics.specs.Configurations as source
use Rattle.pfc_semantics.specs.Events.{step as source_step}
use Rattle.pfc_semantics.specs.Programs.{Program}
use Rattle.pfc_semantics.specs.Remainders.{Action}
use Rattle.pfc_semantics.specs.Runs as runs
use Rattle.pfc_semantics.specs.Steps.{effect, line_of, next_of}
use Rattle.pfc_semantics.specs.Time.{settled_config}
use Rattle.pfc_translation.specs.Images.{image_of}
use Rattle.pfc_machines.specs.declared.machine.Machine.{Machine}
use Rattle.pfc_machines.specs.Actions.{PrintedEffect}
use Rattle.pfc_machine_acts.specs.Acting.{MayAct, choice_among, after_choosing, comes_to}
use Rattle.pfc_machine_acts.specs.Performing.{acts_by, choices_for}
use Rattle.pfc_machine_acts.specs.Quietly.{quietly}
use Rattle.pfc_machine_acts.specs.Settling.{machine_settled}
use Rattle.pfc_representation.specs.Levels.{Facts, program_in}
use Rattle.pfc_representation.specs.Machines.{Represents, Reports, Agrees}
use Rattle.pfc_representation.specs.Actions.{ComeToSame}
use Rattle.pfc_settling_laws.proofs.Reported.{agreeing_reports, still_represented}
use Rattle.pfc_settling_laws.proofs.Settled.{agrees_settled}
use Rattle.pfc_arrivals.specs.Arrivals.{IsAboutToAct, ActsAsItsSource, AreNumbered, IsNextKept, begins}
use Rattle.pfc_run_rules.specs.Rules.{KeepsToRules}
use Rattle.pfc_representation.specs.Acting.{TakesNumber}
use Rattle.pfc_arrivals.proofs.Picked.{acts_alike}
use Rattle.pfc_sessions.specs.Runs.{step_of}
use Rattle.pfc_sessions.specs.Steps.{FaultAt, Step, counted}
use Rattle.pfc_run_agreement.specs.Agreement.{fault_of, picking_behind, choices_of, behind_action, AreStepsAlike}
use Rattle.pfc_run_agreement.proofs.Agreeing.{settled_output}
use Rattle.pfc_simulation.specs.Reached.{GoesOn}
use Rattle.pfc_simulation.proofs.Communications.{Keeps}
use Rattle.pfc_simulation.proofs.Effects.{effect_keeps}
use Rattle.pfc_simulation.proofs.Resting.{Rests, effect_rests}
use Rattle.pfc_simulation.proofs.Looks.{look_alike, ready_is}
use Rattle.pfc_simulation.proofs.Steps.{step_is, same_choice, same_choosing}

-- ## What an action comes to

-- the step of the machine beside the configuration behind the action
pub record Comes (facts : Facts) (c behind : Config) (picking : Picking) (n : ℕ) (t : Step) : Type 0 where
  pub agrees : Agrees facts t.machine behind
  pub fault : t.fault ≡ fault_of behind.fault
  pub printed : behind.output ≡ c.output ++ t.printed
  pub picks : t.fault ≡ None → t.picking ≡ after_choosing picking n
  pub rests : behind.table.acting ≡ None

told_same : (p line : ℕ) (f g : RunFault) → f ≡ g
    → ◌≡◌ {A = Option FaultAt} (Some (record { process = p; line = line; fault = f })) (Some (record { process = p; line = line; fault = g }))
told_same p line f g same = ap (λ (x : RunFault). (let told : FaultAt = record { process = p; line = line; fault = x } in Some told)) same

none_told : (x : FaultAt) → ◌≡◌ {A = Option FaultAt} (Some x) None → ⊥
none_told x h = cc

comes : (facts : Facts) (before : Machine) (c : Config) (p line n : ℕ) (picking : Picking) (x : PrintedEffect) (y : Effect) → c.fault ≡ None
    → c.table.acting ≡ None → ComeToSame facts before c p line x y → Keeps c.fault y → Rests y
    → Comes facts c (after (program_in facts) c p line y) picking n (counted x line p n picking before)
comes facts before c p line n picking (Ok x) (Ok d) sound alone same keeps rests = record {
  agrees = same.0;
  fault = ap fault_of (sym (keeps ∙ sound));
  printed = same.1;
  picks = λ none. refl;
  rests = rests;
}
comes facts before c p line n picking (Err f) (Err g) sound alone same keeps rests = record {
  agrees = same.1;
  fault = told_same p line f g same.0;
  printed = sym (append-nil c.output);
  picks = λ none. absurd (none_told (record { process = p; line = line; fault = f }) none);
  rests = alone;
}
comes facts before c p line n picking (Ok x) (Err g) sound alone same keeps rests = absurd same
comes facts before c p line n picking (Err f) (Ok d) sound alone same keeps rests = absurd same

pub still_sound : (o : Option source.FaultAt) → fault_of o ≡ None → o ≡ None
still_sound None is = refl
still_sound (Some f) is = absurd (none_told (record { process = f.process; line = f.line; fault = f.fault }) is)

-- What the steps of both come to, also where the action is a fault.
pub record StepsAgree (facts : Facts) (picking : Picking) (m : Machine) (c : Config) (p : ℕ) : Type 0 where
  pub may : MayAct (image_of facts.tree) (after_pick picking (machine_settled m).world.rows) p (begins p (machine_settled m))
  pub alike : AreStepsAlike (program_in facts) picking c p (step_of (image_of facts.tree) picking m p)
  pub agrees : Agrees facts (step_of (image_of facts.tree) picking m p).machine (behind_action (program_in facts) picking c p)
  pub fault : (step_of (image_of facts.tree) picking m p).fault ≡ fault_of (behind_action (program_in facts) picking c p).fault
  pub rests : (behind_action (program_in facts) picking c p).table.acting ≡ None

-- ## An action

module _ (facts : Facts) (picking : Picking) (m : Machine) (c : Config) (p : ℕ) (agrees : Agrees facts m c) (on : GoesOn c picking p) where
  abbrev pub image : PlainImage
  image = image_of facts.tree

  abbrev pub g : Program
  g = program_in facts

  abbrev pub s : Machine
  s = machine_settled m

  abbrev pub d : Config
  d = settled_config c

  abbrev behind : Picking
  behind = after_pick picking s.world.rows

  abbrev pub next : Action
  next = next_of g d p

  pub reports : Reports facts s d
  reports = agreeing_reports facts s d (agrees_settled facts m c agrees)

  pub rows : s.world.rows ≡ d.table.rows
  rows = ap (λ (w : Table). w.rows) reports.world

  pub represents : Represents facts s d
  represents = still_represented facts s d (agrees_settled facts m c agrees) on.goes

  pub about : TakesNumber next → IsAboutToAct facts s d p
  about number =
      let (within, ready) = picks_ready picking d.table.rows p on.picks in
      record {
        process = subst (λ (n : ℕ). p < n) reports.words.rows within;
        ready = ready_is (at d.table.rows p) ready;
        few = on.few;
        number = number;
      }

  -- what is told of the action
  module _ (numbered : AreNumbered facts) (number : TakesNumber next) (rules : KeepsToRules g d p) (kept : IsNextKept facts d p) where
    acts : ActsAsItsSource facts s d p behind
    acts = acts_alike facts s d p behind kept numbered rules represents (about number)

    -- as the machine acts
    module _ (does : ActsAsItsSource facts s d p behind) where
      abbrev before : Machine
      before = does.may.before

      abbrev many : ℕ
      many = choices_for does.may.instr p before

      abbrev choice : ℕ
      choice = choice_among behind many

      abbrev done : PrintedEffect
      done = comes_to (quietly image does.may.instr p before) (acts_by image does.may.instr choice p before)

      abbrev t : Step
      t = step_of image picking m p

      step_same : t ≡ counted done (line_of next) p many behind before
      step_same =
          step_is image p behind s does.may.count before does.may.instr does.may.next
          ∙ ap (λ (line : ℕ). counted done line p many behind before) does.line

      choice_same : choice ≡ runs.choice_among (picking_behind picking c) (choices_of g c p)
      choice_same =
          same_choice behind many ∙ ap (λ (n : ℕ). runs.choice_among behind n) does.choices_same
          ∙ ap (λ (xs : List Stand). runs.choice_among (after_pick picking xs) (choices_of g c p)) rows

      comes_so : Comes facts d (behind_action g picking c p) behind many t
      comes_so =
          let alone : d.table.acting ≡ None = represents.alike.between.acting in
          let by_choice =
          comes facts before d p (line_of next) many behind done (effect g d p choice next) represents.alike.fault alone does.same
          (effect_keeps g d p choice next) (effect_rests g d p alone choice next) in
          subst (λ (x : Step). Comes facts d (behind_action g picking c p) behind many x) (sym step_same)
          (subst (λ (n : ℕ). Comes facts d (source_step g d p n).config behind many (counted done (line_of next) p many behind before)) choice_same
          by_choice)

      alike : Comes facts d (behind_action g picking c p) behind many t → AreStepsAlike g picking c p t
      alike is = record {
        fault = is.fault;
        printed = is.printed ∙ ap (λ (xs : List ℕ). xs ++ t.printed) (settled_output c);
        picks = λ none.
            is.picks none ∙ same_choosing behind many ∙ ap (λ (n : ℕ). runs.behind_choice behind n) does.choices_same
            ∙ ap (λ (xs : List Stand). runs.behind_choice (after_pick picking xs) (choices_of g c p)) rows;
        faulted = λ f told.
            look_alike facts (machine_settled t.machine) (settled_config (behind_action g picking c p))
            (agreeing_reports facts (machine_settled t.machine) (settled_config (behind_action g picking c p))
            (agrees_settled facts t.machine (behind_action g picking c p) is.agrees));
      }

      steps_by : Comes facts d (behind_action g picking c p) behind many t → StepsAgree facts picking m c p
      steps_by is = record { may = does.may; alike = alike is; agrees = is.agrees; fault = is.fault; rests = is.rests }

    -- the machine may act, and its step is that of the source text
    pub steps_agree : StepsAgree facts picking m c p
    steps_agree = steps_by acts (comes_so acts)
