-- All along the runs of a checked program each action is kept, and keeps to the rules.
use Rattle.std.proofs.Common.{◌≡◌, ◌≢◌, ◌<◌, ◌^◌, ℕ, true, List, [], Some, refl, ap}
use Rattle.pfc_tree.specs.trees.Parts.{ProgramTree}
use Rattle.pfc_tree.specs.forget.Parts.{forget_program}
use Rattle.pfc_tree.specs.lawful.Parts.{IsLawful}
use Rattle.pfc_types.specs.rules.Whole.{broken}
use Rattle.pfc_sched.specs.Picks.{Picking}
use Rattle.pfc_state.specs.Stands.{is_ready, is_unfinished}
use Rattle.pfc_world.specs.Tables.{at}
use Rattle.pfc_semantics.specs.Configurations.{Config, activity_of, start}
use Rattle.pfc_semantics.specs.Events.{step as step_of_source}
use Rattle.pfc_semantics.specs.Programs.{Program, program_of}
use Rattle.pfc_semantics.specs.Runs.{choice_among}
use Rattle.pfc_semantics.specs.Steps.{next_of}
use Rattle.pfc_semantics.specs.Time.{settled_config}
use Rattle.pfc_translation.specs.Images.{image_of}
use Rattle.pfc_machines.specs.declared.machine.Machine.{Machine}
use Rattle.pfc_machine_acts.specs.Settling.{machine_settled}
use Rattle.pfc_run_agreement.specs.Agreement.{picking_behind, choices_of, behind_action}
use Rattle.pfc_run_rules.specs.Rules.{KeepsToRules}
use Rattle.pfc_run_invariants.specs.Inputs.{AreBytes}
use Rattle.pfc_number_laws.specs.Written.{FitsTree}
use Rattle.pfc_guard_laws.specs.Keeping.{HoldsAtResumes}
use Rattle.pfc_guard_laws.specs.Runs.{living_first, acts_living}
use Rattle.pfc_guard_laws.proofs.Keeping.{run_keeps}
use Rattle.pfc_guard_laws.proofs.Living.{outside_so, runs_once}
use Rattle.pfc_run_guards.proofs.Headings.{checked_program, checked_in_order}
use Rattle.pfc_checked_run_guards.proofs.Headings.{headings_stand}
use Rattle.pfc_checked_order.specs.Order.{tops_of}
use Rattle.pfc_ordered_programs.proofs.Programs.{program_in_order}
use Rattle.pfc_inside_laws.specs.Inside.{inside_of, IsScoped, HasText, AreInside, IsAlive}
use Rattle.pfc_inside_laws.proofs.Inside.{closed, stable, program_fits as inside_fits}
use Rattle.pfc_run_invariants.proofs.Runs.{settled_fits, start_fits, step_fits}
use Rattle.pfc_inside_programs.proofs.Scoped.{is_scoped}
use Rattle.pfc_inside_programs.proofs.Programs.{has_text}
use Rattle.pfc_callee_laws.proofs.Program.{declared_in}
use Rattle.pfc_checked_runs.proofs.arrived.Entering.{passes_locations}
use Rattle.pfc_checked_runs.proofs.arrived.Requeueing.{requeues_inside}
use Rattle.pfc_checked_runs.proofs.arrived.Resuming.{names_its_monitor}
use Rattle.pfc_holding_laws.proofs.Inside.{resumer_holds, ready_alive}
use Rattle.pfc_number_runs.proofs.Reached.{checked_take}
use Rattle.pfc_representation.specs.Acting.{TakesNumber}
use Rattle.pfc_representation.specs.Levels.{Facts}
use Rattle.pfc_representation.specs.Machines.{Represents, Agrees}
use Rattle.pfc_represented_start.specs.Starts.{start_facts}
use Rattle.pfc_arrivals.specs.Arrivals.{IsAboutToAct, ComesToAction, IsNextKept}
use Rattle.pfc_arrivals.proofs.Arriving.{comes_to_action}
use Rattle.pfc_simulation.specs.Reached.{GoesOn, IsReached}
use Rattle.pfc_simulation.proofs.Stepping as step
use Rattle.pfc_kept_actions.proofs.Every.{every_kept}
use Rattle.pfc_accept_laws.specs.Displays.{RequeuesInside}
use Rattle.pfc_accept_laws.specs.Shown.{Passes}
use Rattle.pfc_accept_programs.specs.Told.{TellsOfAccepts}
use Rattle.pfc_checked_runs.proofs.Asked.{is_asked}
use Rattle.pfc_checked_runs.specs.Along.{IsSoAlong}
use Rattle.pfc_checked_runs.proofs.Carried.{GoesOnHolding}

-- What tells of accepts is so at the start of a program, while it settles, and behind each step.
pub record TellsAlong (g : Program) (first : Config) : Type 0 where
  pub start : TellsOfAccepts g first
  pub settles : (c : Config) → TellsOfAccepts g c → TellsOfAccepts g (settled_config c)
  pub steps : (c : Config) (p choice : ℕ) → TellsOfAccepts g c → is_unfinished (at c.table.rows p) ≡ true → (activity_of g c p).activations ≢ []
      → RequeuesInside g c p → Passes g c p → TellsOfAccepts g (step_of_source g c p choice).config

module _
    (t : ProgramTree) (input : List ℕ) (seed : ℕ) (lawful : IsLawful (forget_program t)) (whole : broken t ≡ []) (small : FitsTree t) (bytes : AreBytes input)
    (few : (image_of t).monitors < 2 ^ 32) (tells : TellsAlong (program_of t) (start (program_of t) input seed))
  where
    abbrev g : Program
    g = program_of t

    abbrev facts : Facts
    facts = start_facts t

    abbrev first : Config
    first = start g input seed

    scoped : IsScoped g
    scoped = is_scoped t lawful whole small (λ j k x is. declared_in t lawful k j x is)

    text : HasText g
    text = has_text t lawful whole small

    pub so_at_first : IsSoAlong g first first
    so_at_first = record {
      living = living_first;
      inside = start_fits (inside_of g) (closed g scoped) (inside_fits g scoped text) input seed bytes;
      accepts = tells.start;
    }

    module _ (m : Machine) (c : Config) (picking : Picking) (p : ℕ) (agrees : Agrees facts m c) (reached : IsReached g first c) (on : GoesOn c picking p)
        (so : IsSoAlong g first c) where
      abbrev s : Machine
      s = machine_settled m

      abbrev d : Config
      d = settled_config c

      represents : Represents facts s d
      represents = step.represents facts picking m c p agrees on

      number : TakesNumber (next_of g d p)
      number = checked_take t input seed lawful whole small bytes c p reached

      about : IsAboutToAct facts s d p
      about = step.about facts picking m c p agrees on number

      alive : IsAlive g d p
      alive = ready_alive facts s d p represents about.process about.ready

      inside : AreInside g d
      inside = settled_fits (inside_of g) (stable g scoped) c so.inside

      accepts : TellsOfAccepts g d
      accepts = tells.settles c so.accepts

      module _ (come : ComesToAction facts s d p) where
        holds : HoldsAtResumes g d p
        holds x v k is =
            resumer_holds facts come.before d p come.level x v k come.acting scoped text inside is
            (names_its_monitor facts come.before d p come.level x v k refl come.acting come.arrived is)

        rules_so : KeepsToRules g d p
        rules_so =
            let headings = headings_stand t lawful whole in
            let ordered = checked_in_order t lawful whole headings (Some (tops_of t)) (program_in_order t lawful) in
            run_keeps g input seed c p (checked_program t lawful whole headings) (runs_once (tops_of t) g ordered input seed c so.living)
            (outside_so (tops_of t) g ordered input seed c p so.living) holds

        abbrev choice : ℕ
        choice = choice_among (picking_behind picking c) (choices_of g c p)

        behind_so : IsSoAlong g first (behind_action g picking c p)
        behind_so = record {
          living = acts_living c p choice so.living (ap is_ready about.ready) alive;
          inside = step_fits (inside_of g) (closed g scoped) (inside_fits g scoped text) (stable g scoped) d p choice inside (about.ready, alive);
          accepts = tells.steps d p choice accepts (ap is_unfinished about.ready) alive
              (requeues_inside facts come.before d p come.level come.acting come.arrived)
              (passes_locations facts come.before d p come.level refl come.acting come.arrived);
        }

        kept_so : IsNextKept facts d p
        kept_so n choice level numbered rules acting arrived picks =
            every_kept facts n d p choice level numbered rules acting (next_of g d p) (is_asked facts n d p choice level few accepts acting) arrived picks

        goes_so : GoesOnHolding facts (IsSoAlong g first) c picking p
        goes_so = record { number = number; rules = rules_so; kept = kept_so; behind = behind_so }

      pub goes_on_so : GoesOnHolding facts (IsSoAlong g first) c picking p
      goes_on_so = goes_so (comes_to_action facts s d p represents about)
