-- A process that memory was refused to stands before its next action.
use Rattle.std.proofs.Common.{◌≡◌, ℕ, zero, suc, ◌<◌, max, length, true, Option, Some, None, refl, sym, ap, ◌∙◌, subst, arith}
use Rattle.pfc_code.specs.declared.instructions.Instr.{Instr}
use Rattle.pfc_code.specs.Images.{PlainImage}
use Rattle.pfc_semantics.specs.Configurations.{Config}
use Rattle.pfc_semantics.specs.Remainders.{Action}
use Rattle.pfc_semantics.specs.Selects.{choices}
use Rattle.pfc_semantics.specs.Steps.{next_of}
use Rattle.pfc_semantics.specs.Time.{settled_config}
use Rattle.pfc_translation.specs.Images.{image_of}
use Rattle.pfc_select_actions.specs.Selects.{takes_up}
use Rattle.pfc_machines.specs.declared.machine.Machine.{Machine}
use Rattle.pfc_machines.specs.Actions.{at_rest}
use Rattle.pfc_machine_acts.specs.Performing.{may_want_memory}
use Rattle.pfc_machine_acts.specs.Quietly.{next_instr}
use Rattle.pfc_machine_acts.specs.Settling.{machine_settled}
use Rattle.pfc_representation.specs.Levels.{Facts, program_in}
use Rattle.pfc_representation.specs.Machines.{Represents}
use Rattle.pfc_representation.specs.Actions.{IsKept}
use Rattle.pfc_run_rules.specs.Rules.{KeepsToRules}
use Rattle.pfc_arrivals.specs.Arrivals.{IsAboutToAct, ComesToAction, ComesAndStays, ActsAsItsSource}
use Rattle.pfc_arrivals.specs.Wants.{MayWantMemory}
use Rattle.pfc_arrivals.proofs.Refused.{comes_and_stays}
use Rattle.pfc_arrivals.proofs.Picked.{acts_alike}
use Rattle.pfc_arrivals.proofs.Wanting.{may_want_there}
use Rattle.pfc_arrivals.proofs.Again.{acts_again}
use Rattle.pfc_sessions.specs.Stages as stages
use Rattle.pfc_sessions.specs.Stages.{Stage}
use Rattle.pfc_sessions.specs.Steps.{begins, before_action, may_want}
use Rattle.pfc_sessions.specs.Runs.{IsPicked}
use Rattle.pfc_sched.specs.Picks.{Picking, picked}
use Rattle.pfc_sched.specs.declared.picking.Pick.TheVariants.{Process}
use Rattle.pfc_world.specs.Tables.{Table}
use Rattle.pfc_simulation.specs.Reached.{RunKeepsToRules, IsRunKept}
use Rattle.pfc_simulation.proofs.Simulating.{represents, about, goes, next_kept, rules}
use Rattle.pfc_simulation.proofs.Steps.{quiet_leads}
use Rattle.pfc_source_runs.specs.Points.{Point}
use Rattle.pfc_source_runs.specs.Standing.{IsUntried}
use Rattle.pfc_source_runs.proofs.Coming.{IsAt, picks_so}
use Rattle.pfc_arrivals.specs.Arrivals.{AreNumbered, IsNextKept}
use Rattle.pfc_arrivals.proofs.Picked.{numbered_at}
use Rattle.pfc_arrivals.proofs.Standing.{has_setting}

first_choice : (n : ℕ) → 0 < max 1 n
first_choice zero = grind arith
first_choice (suc n) = grind arith

-- ## Where quiet instructions lead

module _ (facts : Facts) (numbered : AreNumbered facts) (m : Machine) (c : Config) (p : ℕ) (kept : IsNextKept facts c p)
    (rules : KeepsToRules (program_in facts) c p) (come : ComesToAction facts m c p) where
  abbrev image : PlainImage
  image = image_of facts.tree

  abbrev next : Action
  next = next_of (program_in facts) c p

  stands_by : IsKept facts come.before c p 0 next → before_action image p m ≡ come.before
  stands_by k =
      quiet_leads image p (length image.code) (takes_up p (begins p m)) come.count come.before k.instr come.few
      (record { run = come.run; few = come.few; is = k.is; can = k.can_step; no_move = k.no_move })

  stands_before : before_action image p m ≡ come.before
  stands_before = stands_by (kept come.before 0 come.level (numbered_at facts come.level numbered (has_setting facts come.before c p come.level come.acting))
      rules come.acting come.arrived (first_choice (choices (program_in facts) c p next)))

  -- ## Why memory may be wanting

  wanting : (o : Option Instr) → may_want o ≡ true → (i : Instr) × (o ≡ Some i) × (may_want_memory i ≡ true)
  wanting None e = absurd cc
  wanting (Some i) e = (i, refl, e)

  stays_there : ((i : Instr) → next_instr image p come.before ≡ Some i → may_want_memory i ≡ true → Represents facts (at_rest come.before) c)
      → may_want (next_instr image p (before_action image p m)) ≡ true → Represents facts (at_rest come.before) c
  stays_there stays wants =
      let (i, is, so) = wanting (next_instr image p come.before) (subst (λ (x : Machine). may_want (next_instr image p x) ≡ true) stands_before wants) in
      stays i is so

  wants_there : may_want (next_instr image p (before_action image p m)) ≡ true → MayWantMemory next
  wants_there wants =
      let (i, is, so) = wanting (next_instr image p come.before) (subst (λ (x : Machine). may_want (next_instr image p x) ≡ true) stands_before wants) in
      may_want_there facts come.before c p come.level i come.acting come.arrived is so

-- ## At a stage

module _ (facts : Facts) (c : Config) (kept : IsRunKept facts c) (numbered : AreNumbered facts)
    (numbers : RunKeepsToRules (program_in facts) c) (s : Stage) (t : Point)
    (so : IsAt facts c s t) (new : Machine) (is : stages.IsUntried (image_of facts.tree) s new) where
  abbrev m : Machine
  m = machine_settled s.machine

  abbrev d : Config
  d = settled_config t.config

  represented : Represents facts m d
  represented = represents facts c kept numbered numbers s.picking s.machine t.config is.process so.relates is.picked

  ready : IsAboutToAct facts m d is.process
  ready = about facts c kept numbered numbers s.picking s.machine t.config is.process so.relates is.picked

  all_kept : IsNextKept facts d is.process
  all_kept = next_kept facts c kept numbered numbers s.picking s.machine t.config is.process so.relates is.picked

  to_rules : KeepsToRules (program_in facts) d is.process
  to_rules = rules facts c kept numbered numbers s.picking s.machine t.config is.process so.relates is.picked

  -- ### Whoever is picked

  module _ (represents_new : Represents facts new d) (q : ℕ) (picking : Picking) (picks : picked picking d.table.rows ≡ Process q) where
    picked_there : IsPicked picking m q
    picked_there = record {
      goes = let old = is.picked in old.goes;
      counts = let old = is.picked in old.counts;
      picks = ap (λ (w : Table). picked picking w.rows) represented.world ∙ picks;
    }

    about_new : IsAboutToAct facts new d q
    about_new =
        let old = about facts c kept numbered numbers picking s.machine t.config q so.relates picked_there in
        record { process = old.process; ready = old.ready; few = old.few; number = old.number }

    acts_there : ActsAsItsSource facts new d q picking
    acts_there =
        acts_alike facts new d q picking (next_kept facts c kept numbered numbers picking s.machine t.config q so.relates picked_there) numbered
        (rules facts c kept numbered numbers picking s.machine t.config q so.relates picked_there) represents_new about_new

  represents_by : (come : ComesAndStays facts m d is.process) → Represents facts new d
  represents_by both =
      subst (λ (x : Machine). Represents facts x d) (sym (is.machine ∙ ap at_rest (stands_before facts numbered m d is.process all_kept to_rules both.come)))
      (stays_there facts numbered m d is.process all_kept to_rules both.come both.stays is.wants)

  untried_by : ComesAndStays facts m d is.process → IsUntried facts new t
  untried_by both =
      let come = both.come in
      let stands : new ≡ at_rest come.before = is.machine ∙ ap at_rest (stands_before facts numbered m d is.process all_kept to_rules come) in
      record {
        process = is.process;
        goes = goes facts c kept numbered numbers s.picking s.machine t.config is.process so.relates is.picked;
        picks = picks_so facts c kept numbered numbers s t so is.process is.picked;
        level = come.level;
        before = come.before;
        acting = come.acting;
        arrived = come.arrived;
        machine = stands;
        wants = wants_there facts numbered m d is.process all_kept to_rules come is.wants;
        represents = represents_by both;
        may_act_again = λ picking.
            subst (λ (x : Machine). (acts : ActsAsItsSource facts x d is.process picking) × (acts.may.before ≡ come.before)) (sym stands)
            (acts_again facts come.before d is.process come.level come.acting come.arrived
            (stays_there facts numbered m d is.process all_kept to_rules come both.stays is.wants) picking all_kept numbered to_rules);
        whoever_is_picked = λ q picking picks. acts_there (represents_by both) q picking picks;
      }

  pub is_untried : IsUntried facts new t
  is_untried = untried_by (comes_and_stays facts m d is.process represented ready)
