-- Stages of the machine's run beside points of the source text's.
use Rattle.std.proofs.Common.{◌≡◌, ℕ, zero, suc, ◌<◌, List, ◌++◌, None, refl, sym, ap, ◌∙◌, subst, arith, append_assoc, append-nil}
use Rattle.pfc_code.specs.Images.{PlainImage}
use Rattle.pfc_sched.specs.Picks.{Picking, picked}
use Rattle.pfc_sched.specs.declared.picking.Pick.{Pick}
use Rattle.pfc_sched.specs.declared.picking.Pick.TheVariants.{Process}
use Rattle.pfc_semantics.specs.Configurations.{Config}
use Rattle.pfc_semantics.specs.Programs.{Program}
use Rattle.pfc_semantics.specs.Time.{settled_config}
use Rattle.pfc_translation.specs.Images.{image_of}
use Rattle.pfc_machines.specs.declared.machine.Machine.{Machine}
use Rattle.pfc_machine_acts.specs.Settling.{machine_settled}
use Rattle.pfc_representation.specs.Levels.{Facts, program_in}
use Rattle.pfc_representation.specs.Machines.{Represents, goes_on}
use Rattle.pfc_sessions.specs.Runs.{IsPicked, step_of}
use Rattle.pfc_sessions.specs.Stages as stages
use Rattle.pfc_sessions.specs.Stages.{Stage, first_stage, behind_action, next_stage, stage_after}
use Rattle.pfc_sessions.specs.Steps.{Step}
use Rattle.pfc_run_agreement.specs.Agreement.{ActsAlike}
use Rattle.pfc_simulation.specs.Reached.{RunKeepsToRules, IsRunKept, at_first}
use Rattle.pfc_simulation.proofs.Simulating.{Relates, acts_alike_so, goes, picks}
use Rattle.pfc_source_runs.specs.Points.{Point, first_point, point_behind, by_process, next_point, point_after, Passes}
use Rattle.pfc_arrivals.specs.Arrivals.{AreNumbered}

-- The machine's stage is at the point: it agrees with the configuration, the same picks, and what was printed is the same.
pub record IsAt (facts : Facts) (c : Config) (s : Stage) (t : Point) : Type 0 where
  pub relates : Relates facts c s.machine t.config
  pub picks : s.picking ≡ t.picking
  pub printed : t.config.output ≡ c.output ++ s.printed

module _ (facts : Facts) (c : Config) (kept : IsRunKept facts c) (numbered : AreNumbered facts) (numbers : RunKeepsToRules (program_in facts) c) where
  abbrev image : PlainImage
  image = image_of facts.tree

  abbrev g : Program
  g = program_in facts

  -- ## Behind an action

  -- where the point has the stage's own way of picking
  module _ (s : Stage) (d : Config) (so : IsAt facts c s (first_point s.picking d)) (p : ℕ) (pick : IsPicked s.picking (machine_settled s.machine) p)
      (sound : (step_of image s.picking s.machine p).fault ≡ None) where
    abbrev t : Step
    t = step_of image s.picking s.machine p

    acts : ActsAlike image g s.picking s.machine d p (Relates facts c)
    acts = acts_alike_so facts c kept numbered numbers s.picking s.machine d p so.relates pick

    comes_on : IsAt facts c (behind_action image s p) (point_behind g (first_point s.picking d) p)
    comes_on = record {
      relates = acts.kept sound;
      picks = acts.alike.picks sound;
      printed = acts.alike.printed ∙ ap (λ (xs : List ℕ). xs ++ t.printed) so.printed ∙ append_assoc c.output s.printed t.printed;
    }

    passes_on : Passes g (first_point s.picking d)
    passes_on =
        let behind = acts.kept sound in
        record {
          process = p;
          goes = goes facts c kept numbered numbers s.picking s.machine d p so.relates pick;
          picks = picks facts c kept numbered numbers s.picking s.machine d p so.relates pick;
          sound = behind.sound;
        }

  module _ (s : Stage) (t : Point) (so : IsAt facts c s t) where
    abbrev here : Point
    here = first_point s.picking t.config

    same : here ≡ t
    same = ap (λ (x : Picking). first_point x t.config) so.picks

    so_here : IsAt facts c s here
    so_here = subst (λ (x : Point). IsAt facts c s x) (sym same) so

    module _ (p : ℕ) (pick : IsPicked s.picking (machine_settled s.machine) p) where
      -- the source text picks the same process
      pub picks_so : picked t.picking (settled_config t.config).table.rows ≡ Process p
      picks_so =
          subst (λ (x : Point). picked x.picking (settled_config x.config).table.rows ≡ Process p) same
          (picks facts c kept numbered numbers s.picking s.machine t.config p so.relates pick)

      module _ (sound : (step_of image s.picking s.machine p).fault ≡ None) where
        pub passes_so : Passes g t
        passes_so = subst (λ (x : Point). Passes g x) same (passes_on s t.config so_here p pick sound)

        pub comes_so : IsAt facts c (behind_action image s p) (next_point g t)
        comes_so =
            let there : next_point g t ≡ point_behind g t p = ap (λ (x : Pick). by_process t (point_behind g t) x) picks_so in
            subst (λ (x : Point). IsAt facts c (behind_action image s p) x) (sym there)
            (subst (λ (x : Point). IsAt facts c (behind_action image s p) (point_behind g x p)) same (comes_on s t.config so_here p pick sound))

    comes_next : stages.Passes image s → IsAt facts c (next_stage image s) (next_point g t)
    comes_next pass =
        let there : next_stage image s ≡ behind_action image s pass.process
        = ap (λ (x : Pick). stages.by_process s (behind_action image s) x) pass.picked.picks in
        subst (λ (x : Stage). IsAt facts c x (next_point g t)) (sym there) (comes_so pass.process pass.picked pass.sound)

  -- ## Any number of actions

  module _ (picking : Picking) (m : Machine) (is : Represents facts m c) where
    pub starts_at : IsAt facts c (first_stage picking m) (first_point picking c)
    starts_at = record {
      relates = record { agrees = goes_on is; reached = at_first; sound = is.alike.fault; alone = is.alike.between.acting };
      picks = refl;
      printed = sym (append-nil c.output);
    }

    abbrev stage : ℕ → Stage
    stage n = stage_after image n (first_stage picking m)

    abbrev point : ℕ → Point
    point n = point_after g n (first_point picking c)

    pub comes_to : (n : ℕ) → ((k : ℕ) → k < n → stages.Passes image (stage k)) → IsAt facts c (stage n) (point n)
    comes_to zero passed = starts_at
    comes_to (suc n) passed = comes_next (stage n) (point n) (comes_to n (λ k low. passed k (omega (arith, low)))) (passed n (omega arith))

    pub passes_to : (n : ℕ) → ((k : ℕ) → k < n → stages.Passes image (stage k)) → (k : ℕ) → k < n → Passes g (point k)
    passes_to n passed k low =
        let pass = passed k low in
        passes_so (stage k) (point k) (comes_to k (λ j lower. passed j (omega (arith, lower, low)))) pass.process pass.picked pass.sound
