-- An action of a process that is picked keeps the agreement.
use Rattle.std.proofs.Common.{◌≡◌, ℕ, ◌^◌, ◌<◌, nat_le, Bool, true, false, ◌||◌, List, Option, None, refl, sym, ap, ◌∙◌, subst}
use Rattle.std.proofs.Common.{arith}
use Rattle.pfc_sched.specs.Picks.{Picking, picked}
use Rattle.pfc_sched.specs.declared.picking.Pick.TheVariants.{Process}
use Rattle.pfc_state.specs.Stands.{Stand}
use Rattle.pfc_state.specs.declared.endings.Ending.{Ending}
use Rattle.pfc_world.specs.Tables.{Table}
use Rattle.pfc_semantics.specs.Configurations.{Config, after, start}
use Rattle.pfc_semantics.specs.Configurations as source
use Rattle.pfc_semantics.specs.Programs.{Program}
use Rattle.pfc_semantics.specs.Runs as runs
use Rattle.pfc_semantics.specs.Steps.{next_of}
use Rattle.pfc_semantics.specs.Time.{settled_config}
use Rattle.pfc_translation.specs.Images.{image_of}
use Rattle.pfc_machines.specs.declared.machine.Machine.{Machine}
use Rattle.pfc_machine_acts.specs.Settling.{machine_settled}
use Rattle.pfc_representation.specs.Levels.{Facts, program_in}
use Rattle.pfc_representation.specs.Machines.{Represents, Reports, Agrees, goes_on}
use Rattle.pfc_settling_laws.proofs.Reported.{agreeing_reports}
use Rattle.pfc_settling_laws.proofs.Settled.{agrees_settled}
use Rattle.pfc_arrivals.specs.Arrivals.{IsAboutToAct, AreNumbered, IsNextKept}
use Rattle.pfc_run_rules.specs.Rules.{KeepsToRules}
use Rattle.pfc_representation.specs.Acting.{TakesNumber}
use Rattle.pfc_sessions.specs.Courses.{IsCourse}
use Rattle.pfc_sessions.specs.Runs.{IsPicked, step_of, run_from}
use Rattle.pfc_sessions.specs.Stages.{first_stage}
use Rattle.pfc_run_agreement.specs.Agreement.{behind_action, AgreesHere, ActsAlike, Agree, AreRunsAlike}
use Rattle.pfc_run_agreement.specs.Courses.{IsSourceCourse}
use Rattle.pfc_run_agreement.proofs.Agreeing.{same_ending, settled_fault, same_runs}
use Rattle.pfc_run_agreement.proofs.Coursing.{same_course}
use Rattle.pfc_run_agreement.proofs.Keeping.{kept_agrees}
use Rattle.pfc_simulation.specs.Reached.{GoesOn, IsReached, at_first, one_further, RunKeepsToRules, IsRunKept}
use Rattle.pfc_simulation.proofs.Stepping.{StepsAgree, still_sound}
use Rattle.pfc_simulation.proofs.Stepping as step
use Rattle.pfc_simulation.proofs.Looks.{look_alike}

-- ## The relation

-- The machine agrees with a configuration that a run comes to, whose last action was no fault.
pub record Relates (facts : Facts) (first : Config) (m : Machine) (c : Config) : Type 0 where
  pub agrees : Agrees facts m c
  pub reached : IsReached (program_in facts) first c
  pub sound : c.fault ≡ None
  pub alone : c.table.acting ≡ None

module _ (facts : Facts) (first : Config) (m : Machine) (c : Config) (so : Relates facts first m c) where
  pub agrees_then : Agrees facts (machine_settled m) (settled_config c)
  agrees_then = agrees_settled facts m c so.agrees

  reports_then : Reports facts (machine_settled m) (settled_config c)
  reports_then = agreeing_reports facts (machine_settled m) (settled_config c) agrees_then

  pub agrees_here : AgreesHere m c
  agrees_here =
      let now : Reports facts m c = agreeing_reports facts m c so.agrees in
      record {
        alone = ap (λ (w : Table). w.acting) now.world ∙ so.alone;
        sound = so.sound;
        settled = look_alike facts (machine_settled m) (settled_config c) reports_then;
      }

first_of : (a b : Bool) → (a || b) ≡ false → a ≡ false
first_of false b h = refl
first_of true b h = h

few_of : (n : ℕ) → nat_le (10 ^ 18) n ≡ false → n < 10 ^ 18
few_of n h = grind (arith, h)

-- ## An action

module _
    (facts : Facts) (first : Config) (kept : IsRunKept facts first) (numbered : AreNumbered facts)
    (numbers : RunKeepsToRules (program_in facts) first) (picking : Picking) (m : Machine)
    (c : Config) (p : ℕ) (so : Relates facts first m c) (pick : IsPicked picking (machine_settled m) p)
  where
    abbrev g : Program
    g = program_in facts

    abbrev s : Machine
    s = machine_settled m

    abbrev d : Config
    d = settled_config c

    reports : Reports facts s d
    reports = reports_then facts first m c so

    rows : s.world.rows ≡ d.table.rows
    rows = ap (λ (w : Table). w.rows) reports.world

    pub goes : runs.ending_at d ≡ None
    goes = same_ending s d (settled_fault c ∙ so.sound) rows ∙ pick.goes

    pub picks : picked picking d.table.rows ≡ Process p
    picks = ap (λ (xs : List Stand). picked picking xs) (sym rows) ∙ pick.picks

    pub on : GoesOn c picking p
    on = record {
      goes = goes;
      picks = picks;
      few = subst (λ (n : ℕ). n < 10 ^ 18) (ap (λ (w : Table). w.done) reports.world)
          (few_of s.world.done (first_of (nat_le (10 ^ 18) s.world.done) (nat_le (10 ^ 18) s.world.moment) pick.counts));
    }

    pub represents : Represents facts s d
    represents = step.represents facts picking m c p so.agrees on

    told : TakesNumber (next_of g d p) × KeepsToRules g d p
    told = numbers c picking p so.reached on

    pub rules : KeepsToRules g d p
    rules = let so_told = told in so_told.1

    pub about : IsAboutToAct facts s d p
    about = step.about facts picking m c p so.agrees on (let so_told = told in so_told.0)

    pub next_kept : IsNextKept facts d p
    next_kept = kept c picking p so.reached on

    steps : StepsAgree facts picking m c p
    steps = step.steps_agree facts picking m c p so.agrees on numbered (let so_told = told in so_told.0) rules next_kept

    pub acts_alike_so : ActsAlike (image_of facts.tree) g picking m c p (Relates facts first)
    acts_alike_so = record {
      may = steps.may;
      alike = steps.alike;
      kept = λ none. record {
        agrees = steps.agrees;
        reached = one_further c picking p so.reached on;
        sound = still_sound (behind_action g picking c p).fault (sym steps.fault ∙ none);
        alone = steps.rests;
      };
    }

    -- also where the action is a fault
    pub agrees_behind : Agrees facts (step_of (image_of facts.tree) picking m p).machine (behind_action g picking c p)
    agrees_behind = steps.agrees

-- ## Any number of actions

pub goes_on_agreeing :
    (facts : Facts) (left : ℕ) (picking : Picking) (m : Machine) (c : Config) → IsRunKept facts c → AreNumbered facts
    → RunKeepsToRules (program_in facts) c
    → Represents facts m c → Agree (image_of facts.tree) (program_in facts) left picking m c
goes_on_agreeing facts left picking m c kept numbered numbers is =
    kept_agrees (image_of facts.tree) (program_in facts) (Relates facts c) (agrees_here facts c)
    (λ pick n d p so picks. acts_alike_so facts c kept numbered numbers pick n d p so picks) left picking m c
    (record { agrees = goes_on is; reached = at_first; sound = is.alike.fault; alone = is.alike.between.acting })

-- ## Whole runs

module _
    (facts : Facts) (input : List ℕ) (seed limit : ℕ) (picking : Picking) (m : Machine)
    (kept : IsRunKept facts (start (program_in facts) input seed)) (numbered : AreNumbered facts)
    (numbers : RunKeepsToRules (program_in facts) (start (program_in facts) input seed)) (is : Represents facts m (start (program_in facts) input seed))
  where
    abbrev first : Config
    first = start (program_in facts) input seed

    all_along : Agree (image_of facts.tree) (program_in facts) limit picking m first
    all_along = goes_on_agreeing facts limit picking m first kept numbered numbers is

    pub runs_alike : AreRunsAlike (run_from (image_of facts.tree) limit limit picking m) (runs.run facts.tree input seed picking limit) first
    runs_alike = same_runs (image_of facts.tree) (program_in facts) limit limit picking m first all_along

pub session_alike :
    (facts : Facts) (input : List ℕ) (seed limit : ℕ) (picking : Picking) (m new : Machine) (ending : Ending) (before after : Option (List ℕ))
    → IsRunKept facts (start (program_in facts) input seed) → AreNumbered facts → RunKeepsToRules (program_in facts) (start (program_in facts) input seed)
    → Represents facts m (start (program_in facts) input seed)
    → IsCourse (image_of facts.tree) limit (run_from (image_of facts.tree) limit limit picking m) (first_stage picking m) new ending before after
    → IsSourceCourse (runs.run facts.tree input seed picking limit) (start (program_in facts) input seed) new ending before after
session_alike facts input seed limit picking m new ending before after kept numbered numbers is course =
    same_course (image_of facts.tree) limit (run_from (image_of facts.tree) limit limit picking m) (first_stage picking m)
    (runs.run facts.tree input seed picking limit) (start (program_in facts) input seed) new before after
    (runs_alike facts input seed limit picking m kept numbered numbers is) ending course
