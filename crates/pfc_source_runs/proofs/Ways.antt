-- The run of the source text goes on from each point that it passes.
use Rattle.std.proofs.Common.{◌≡◌, ℕ, zero, suc, ◌+◌, ◌<◌, sym, ap, ◌∙◌, arith}
use Rattle.pfc_sched.specs.declared.picking.Pick.{Pick}
use Rattle.pfc_semantics.specs.Configurations.{Config}
use Rattle.pfc_semantics.specs.Events.{step}
use Rattle.pfc_semantics.specs.Programs.{Program}
use Rattle.pfc_semantics.specs.Runs.{Run, behind_choice, behind_event, by_pick, choice_among, run_from, unless_ended}
use Rattle.pfc_semantics.specs.Time.{settled_config}
use Rattle.pfc_run_agreement.specs.Agreement.{picking_behind, choices_of}
use Rattle.pfc_source_runs.specs.Points.{Point, point_behind, by_process, next_point, point_after, Passes, IsOnTheWay}

module _ (g : Program) (limit : ℕ) where
  -- ## One action

  module _ (left : ℕ) (s : Point) (pass : Passes g s) where
    abbrev d : Config
    d = settled_config s.config

    abbrev by : ℕ → Run
    by p =
        let n = choices_of g s.config p in
        let t = step g d p (choice_among (picking_behind s.picking s.config) n) in
        behind_event t.event (run_from g limit left (behind_choice (picking_behind s.picking s.config) n) t.config)

    point_on : next_point g s ≡ point_behind g s pass.process
    point_on = ap (λ (pick : Pick). by_process s (point_behind g s) pick) pass.picks

    run_on : run_from g limit (suc left) s.picking s.config ≡ by pass.process
    run_on = ap (unless_ended d _) pass.goes ∙ ap (by_pick d (picking_behind s.picking s.config) by) pass.picks

    ending_on : (run_from g limit (suc left) s.picking s.config).ending ≡ (run_from g limit left (next_point g s).picking (next_point g s).config).ending
    ending_on = ap (λ (x : Run). x.ending) run_on ∙ ap (λ (x : Point). (let r = run_from g limit left x.picking x.config in r.ending)) (sym point_on)

    config_on : (run_from g limit (suc left) s.picking s.config).config ≡ (run_from g limit left (next_point g s).picking (next_point g s).config).config
    config_on = ap (λ (x : Run). x.config) run_on ∙ ap (λ (x : Point). (let r = run_from g limit left x.picking x.config in r.config)) (sym point_on)

  -- ## Any number of actions

  pub way_to :
      (first : Point) (count left : ℕ) → left + count ≡ limit → ((k : ℕ) → k < count → Passes g (point_after g k first))
      → IsOnTheWay g limit count left (run_from g limit limit first.picking first.config) first
  way_to first zero left sum passed =
      let all : left ≡ limit = omega (arith, sum) in
      record {
        sum = sum;
        passed = passed;
        ending = ap (λ (n : ℕ). (let r = run_from g limit n first.picking first.config in r.ending)) all;
        config = ap (λ (n : ℕ). (let r = run_from g limit n first.picking first.config in r.config)) all;
      }
  way_to first (suc n) left sum passed =
      let earlier = way_to first n (suc left) (omega (arith, sum)) (λ k low. passed k (omega (arith, low))) in
      let pass : Passes g (point_after g n first) = passed n (omega arith) in
      record {
        sum = sum;
        passed = passed;
        ending = sym (ending_on left (point_after g n first) pass) ∙ earlier.ending;
        config = sym (config_on left (point_after g n first) pass) ∙ earlier.config;
      }
