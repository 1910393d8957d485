-- Runs, turn by turn, to their ends.
use Rattle.std.proofs.Common.{◌≡◌, ℕ, zero, suc, ◌+◌, ◌<◌, ◌==◌, Bool, true, false, List, ◌++◌, Option, Some, None, refl, sym, ap, ◌∙◌, subst, arith}
use Rattle.std.proofs.Common.{◌≤◌, ◌^◌, ◌||◌, ◌⊎◌, inl, inr, nat_le, append_assoc, append-nil}
use Rattle.std.proofs.lemmas.Bool.Decides.{nat_tests}
use Rattle.pfc_code.specs.Images.{PlainImage}
use Rattle.pfc_sched.specs.Picks.{Picking, picked, after_pick, item_of}
use Rattle.pfc_sched.specs.declared.picking.Pick.{Pick}
use Rattle.pfc_sched.specs.declared.picking.Pick.TheVariants.{Process, Nobody, NotReady, NoProcess, ScriptEnd}
use Rattle.pfc_state.specs.Stands.{Stand}
use Rattle.pfc_state.specs.declared.endings.Ending.{Ending}
use Rattle.pfc_state.specs.declared.endings.Ending.TheVariants.{Fault, Limit, Memory}
use Rattle.pfc_state.specs.declared.endings.ScriptWhy.TheVariants.{NotReady as Not_ready, NoProcess as No_process, Ended}
use Rattle.pfc_world.specs.Tables.{Table}
use Rattle.pfc_semantics.specs.Configurations.{Config}
use Rattle.pfc_semantics.specs.Events.{Event, step as source_step}
use Rattle.pfc_semantics.specs.Programs.{Program}
use Rattle.pfc_semantics.specs.Runs as sr
use Rattle.pfc_semantics.specs.Time.{settled_config}
use Rattle.pfc_translation.specs.Images.{image_of}
use Rattle.pfc_machines.specs.declared.machine.Machine.{Machine}
use Rattle.pfc_machine_acts.specs.Settling.{machine_settled}
use Rattle.pfc_representation.specs.Levels.{Facts, program_in}
use Rattle.pfc_representation.specs.Rooms.{process_count}
use Rattle.pfc_representation.specs.Machines.{Agrees, Represents, Reports}
use Rattle.pfc_settling_laws.proofs.Reported.{agreeing_reports}
use Rattle.pfc_settling_laws.proofs.Settled.{agrees_settled}
use Rattle.pfc_arrivals.specs.Arrivals.{IsAboutToAct}
use Rattle.pfc_sessions.specs.Runs.{Run, ending_at, is_worn_out, ended_with, behind_bytes, by_pick, unless_ended, unless_worn_out, unless_fault, behind_step}
use Rattle.pfc_sessions.specs.Runs.{run_from, IsPicked, step_of}
use Rattle.pfc_sessions.specs.Stages.{Stage, behind_action}
use Rattle.pfc_sessions.specs.Steps.{FaultAt, Step}
use Rattle.pfc_run_agreement.specs.Agreement.{fault_of, picking_behind, choices_of, ActsAlike}
use Rattle.pfc_run_agreement.specs.Agreement as agreement
use Rattle.pfc_run_agreement.proofs.Agreeing.{same_ending, settled_fault}
use Rattle.pfc_simulation.specs.Reached.{RunKeepsToRules, IsRunKept}
use Rattle.pfc_simulation.proofs.Simulating.{Relates, agrees_then, agrees_here, acts_alike_so, agrees_behind, represents, about}
use Rattle.pfc_source_runs.specs.Points.{Point, by_process, point_behind, next_point, point_after, Passes}
use Rattle.pfc_source_runs.specs.Standing.{CountsNoMore}
use Rattle.pfc_source_runs.proofs.Coming.{IsAt, picks_so, passes_so, comes_so}
use Rattle.pfc_source_runs.proofs.Ending.{Ends, agreeing, uncounted, along, plain_ending, plain_deadlock, plain_limit, plain_script, plain_fault, fault_process}
use Rattle.pfc_source_runs.proofs.Ending.{faulty_run}
use Rattle.pfc_arrivals.specs.Arrivals.{AreNumbered}

either : (a b : Bool) → (a || b) ≡ true → (a ≡ true) ⊎ (b ≡ true)
either true b h = inl refl
either false b h = inr h

reaches : (n : ℕ) → nat_le (10 ^ 18) n ≡ true → 10 ^ 18 ≤ n
reaches n h = grind (arith, h)

module _ (facts : Facts) (numbered : AreNumbered facts) (limit : ℕ) (first : Point) (kept : IsRunKept facts first.config)
    (numbers : RunKeepsToRules (program_in facts) first.config) where
  abbrev image : PlainImage
  image = image_of facts.tree

  abbrev g : Program
  g = program_in facts

  abbrev point : ℕ → Point
  point n = point_after g n first

  abbrev EndsIn : Run → sr.Run → List ℕ → Type 0
  EndsIn f h printed = Ends facts limit first f h printed

  -- behind what an action prints
  behind_so : (bytes : List ℕ) (event : Event) (f : Run) (h : sr.Run) (printed : List ℕ) → EndsIn f h (printed ++ bytes)
      → EndsIn (behind_bytes bytes f) (sr.behind_event event h) printed
  behind_so bytes event f h printed (agreeing plain agrees) = agreeing plain agrees
  behind_so bytes event f h printed (uncounted is count left sum passed agrees output) =
      uncounted is count left sum passed agrees (output ∙ ap (λ (xs : List ℕ). first.config.output ++ xs) (append_assoc printed bytes f.printed))

  module _ (n : ℕ) (s : Stage) (so : IsAt facts first.config s (point n)) where
    abbrev t : Point
    t = point n

    abbrev m : Machine
    m = machine_settled s.machine

    abbrev d : Config
    d = settled_config t.config

    abbrev From : ℕ → Type 0
    From left = EndsIn (run_from image limit left s.picking s.machine) (sr.run_from g limit left t.picking t.config) s.printed

    agrees : Agrees facts m d
    agrees = agrees_then facts first.config s.machine t.config so.relates

    rows : m.world.rows ≡ d.table.rows
    rows = let here = agrees_here facts first.config s.machine t.config so.relates in here.settled.rows

    same_end : sr.ending_at d ≡ ending_at m
    same_end = same_ending m d (settled_fault t.config ∙ so.relates.sound) rows

    -- what the machine counts is what the source text counts
    counts_no_more : is_worn_out m ≡ true → CountsNoMore d
    counts_no_more is = by (either (nat_le (10 ^ 18) m.world.done) (nat_le (10 ^ 18) m.world.moment) is)
      where
        reports : Reports facts m d
        reports = agreeing_reports facts m d agrees

        by : (nat_le (10 ^ 18) m.world.done ≡ true) ⊎ (nat_le (10 ^ 18) m.world.moment ≡ true) → CountsNoMore d
        by (inl h) = inl (subst (λ (n : ℕ). 10 ^ 18 ≤ n) (ap (λ (w : Table). w.done) reports.world) (reaches m.world.done h))
        by (inr h) = inr (subst (λ (n : ℕ). 10 ^ 18 ≤ n) (ap (λ (w : Table). w.moment) reports.world) (reaches m.world.moment h))

    -- ## Without an action

    ends_here : (left : ℕ) (ending : Ending) → ending_at m ≡ Some ending → From left
    ends_here zero ending is =
        along facts limit first (run_from image limit 0 s.picking s.machine) (ended_with m ending) (sr.run_from g limit 0 t.picking t.config)
        (sr.ended_with d ending) s.printed (ap (unless_ended m (ended_with m (Limit limit))) is)
        (ap (sr.unless_ended d (sr.ended_with d (Limit limit))) (same_end ∙ is)) (agreeing (plain_ending (process_count facts) m ending is) agrees)
    ends_here (suc left) ending is =
        along facts limit first (run_from image limit (suc left) s.picking s.machine) (ended_with m ending) (sr.run_from g limit (suc left) t.picking t.config)
        (sr.ended_with d ending) s.printed (ap (unless_ended m _) is) (ap (sr.unless_ended d _) (same_end ∙ is))
        (agreeing (plain_ending (process_count facts) m ending is) agrees)

    -- no action is left
    none_left : (o : Option Ending) → ending_at m ≡ o → From 0
    none_left (Some ending) is = ends_here 0 ending is
    none_left None is =
        along facts limit first (run_from image limit 0 s.picking s.machine) (ended_with m (Limit limit)) (sr.run_from g limit 0 t.picking t.config)
        (sr.ended_with d (Limit limit)) s.printed (ap (unless_ended m (ended_with m (Limit limit))) is)
        (ap (sr.unless_ended d (sr.ended_with d (Limit limit))) (same_end ∙ is)) (agreeing (plain_limit (process_count facts) limit) agrees)

    -- ## With an action

    module _ (left : ℕ) (later : (s' : Stage) → Passes g t → IsAt facts first.config s' (next_point g t)
        → EndsIn (run_from image limit left s'.picking s'.machine) (sr.run_from g limit left (next_point g t).picking (next_point g t).config) s'.printed) where
      abbrev go_on : ℕ → Run
      go_on p = let x = step_of image s.picking s.machine p in behind_step x (run_from image limit left x.picking x.machine)

      abbrev source_on : ℕ → sr.Run
      source_on p =
          let many = choices_of g t.config p in
          let u = source_step g d p (sr.choice_among (picking_behind t.picking t.config) many) in
          sr.behind_event u.event (sr.run_from g limit left (sr.behind_choice (picking_behind t.picking t.config) many) u.config)

      abbrev goes_by : Pick → Run
      goes_by pick = by_pick m (after_pick s.picking m.world.rows) go_on pick

      abbrev source_by : Pick → sr.Run
      source_by pick = sr.by_pick d (picking_behind t.picking t.config) source_on pick

      module _ (p : ℕ) (pick : IsPicked s.picking m p) where
        abbrev x : Step
        x = step_of image s.picking s.machine p

        abbrev e : Config
        e = agreement.behind_action g t.picking t.config p

        alike_fault : x.fault ≡ fault_of e.fault
        alike_fault =
            let acts : ActsAlike image g s.picking s.machine t.config p (Relates facts first.config)
            = acts_alike_so facts first.config kept numbered numbers s.picking s.machine t.config p so.relates pick in
            subst (λ (y : Picking). x.fault ≡ fault_of (agreement.behind_action g y t.config p).fault) so.picks acts.alike.fault

        agrees_so : Agrees facts x.machine e
        agrees_so =
            subst (λ (y : Picking). Agrees facts x.machine (agreement.behind_action g y t.config p)) so.picks
            (agrees_behind facts first.config kept numbered numbers s.picking s.machine t.config p so.relates pick)

        is_process : p < process_count facts
        is_process =
            let there : Represents facts m d = represents facts first.config kept numbered numbers s.picking s.machine t.config p so.relates pick in
            let ready : IsAboutToAct facts m d p = about facts first.config kept numbered numbers s.picking s.machine t.config p so.relates pick in
            subst (λ (size : ℕ). p < size) there.alike.words.processes ready.process

        point_on : next_point g t ≡ point_behind g t p
        point_on = ap (λ (y : Pick). by_process t (point_behind g t) y) (picks_so facts first.config kept numbered numbers s t so p pick)

        sound_on : x.fault ≡ None → EndsIn (behind_bytes x.printed (run_from image limit left x.picking x.machine)) (source_on p) s.printed
        sound_on is =
            let s' : Stage = behind_action image s p in
            let ends = later s' (passes_so facts first.config kept numbered numbers s t so p pick is)
            (comes_so facts first.config kept numbered numbers s t so p pick is) in
            behind_so x.printed (source_step g d p (sr.choice_among (picking_behind t.picking t.config) (choices_of g t.config p))).event
            (run_from image limit left x.picking x.machine)
            (sr.run_from g limit left (sr.behind_choice (picking_behind t.picking t.config) (choices_of g t.config p)) e) s.printed
            (subst
            (λ (y : Point). EndsIn (run_from image limit left x.picking x.machine) (sr.run_from g limit left y.picking y.config) (s.printed ++ x.printed))
            point_on ends)

        faulted : (f : FaultAt) → x.fault ≡ Some f
            → EndsIn (behind_bytes x.printed (ended_with (machine_settled x.machine) (Fault f.process f.line f.fault))) (source_on p) s.printed
        faulted f is =
            let its : p ≡ f.process = sym (fault_process image s.picking s.machine p f is) in
            let there : (source_on p).config ≡ settled_config e
            = faulty_run g limit left (sr.behind_choice (picking_behind t.picking t.config) (choices_of g t.config p)) e e.fault f refl
            (sym alike_fault ∙ is) in
            agreeing (plain_fault (process_count facts) f (subst (λ (q : ℕ). q < process_count facts) its is_process))
            (subst (λ (y : Config). Agrees facts (machine_settled x.machine) y) (sym there) (agrees_settled facts x.machine e agrees_so))

        acts_on : (o : Option FaultAt) → x.fault ≡ o
            → EndsIn (behind_bytes x.printed (unless_fault x.machine (run_from image limit left x.picking x.machine) o)) (source_on p) s.printed
        acts_on None is = sound_on is
        acts_on (Some f) is = faulted f is

        picked_so : EndsIn (go_on p) (source_on p) s.printed
        picked_so = acts_on x.fault refl

      by_a_pick : (pick : Pick) → pick ≡ picked s.picking m.world.rows → ending_at m ≡ None → is_worn_out m ≡ false
          → EndsIn (goes_by pick) (source_by pick) s.printed
      by_a_pick (Process p) is goes counts = picked_so p (record { goes = goes; counts = counts; picks = sym is })
      by_a_pick Nobody is goes counts = agreeing (plain_deadlock (process_count facts)) agrees
      by_a_pick (NotReady p) is goes counts =
          agreeing (plain_script (process_count facts) (item_of (after_pick s.picking m.world.rows)) (Not_ready p)) agrees
      by_a_pick (NoProcess p) is goes counts =
          agreeing (plain_script (process_count facts) (item_of (after_pick s.picking m.world.rows)) (No_process p)) agrees
      by_a_pick ScriptEnd is goes counts =
          agreeing (plain_script (process_count facts) (item_of (after_pick s.picking m.world.rows)) Ended) agrees

      same_pick : picked t.picking d.table.rows ≡ picked s.picking m.world.rows
      same_pick = ap (λ (y : Picking). picked y d.table.rows) (sym so.picks) ∙ ap (λ (xs : List Stand). picked s.picking xs) (sym rows)

      turns : suc left + n ≡ limit → ((k : ℕ) → k < n → Passes g (point k)) → (o : Option Ending) (b : Bool) → ending_at m ≡ o → is_worn_out m ≡ b
          → From (suc left)
      turns sum passed (Some ending) b is counts = ends_here (suc left) ending is
      turns sum passed None true is counts =
          along facts limit first (run_from image limit (suc left) s.picking s.machine) (ended_with m Memory)
          (sr.run_from g limit (suc left) t.picking t.config)
          (sr.run_from g limit (suc left) t.picking t.config) s.printed
          (ap (unless_ended m _) is ∙ ap (unless_worn_out m (goes_by (picked s.picking m.world.rows))) counts) refl
          (uncounted refl n (suc left) sum passed (agrees, counts_no_more counts)
          (so.printed ∙ ap (λ (xs : List ℕ). first.config.output ++ xs) (sym (append-nil s.printed))))
      turns sum passed None false is counts =
          along facts limit first (run_from image limit (suc left) s.picking s.machine) (goes_by (picked s.picking m.world.rows))
          (sr.run_from g limit (suc left) t.picking t.config) (source_by (picked s.picking m.world.rows)) s.printed
          (ap (unless_ended m _) is ∙ ap (unless_worn_out m (goes_by (picked s.picking m.world.rows))) counts)
          (ap (sr.unless_ended d _) (same_end ∙ is) ∙ ap source_by same_pick)
          (by_a_pick (picked s.picking m.world.rows) refl is counts)

  -- ## All turns

  passed_more : (n : ℕ) → ((k : ℕ) → k < n → Passes g (point k)) → Passes g (point n) → (k : ℕ) → k < suc n → (b : Bool) → (k == n) ≡ b
      → Passes g (point k)
  passed_more n passed pass k low true here = let same : n ≡ k = grind (arith, nat_tests) in subst (λ (j : ℕ). Passes g (point j)) same pass
  passed_more n passed pass k low false other = let earlier : k < n = grind (arith, nat_tests) in passed k earlier

  pub ends_so : (left n : ℕ) (s : Stage) → left + n ≡ limit → ((k : ℕ) → k < n → Passes g (point k)) → IsAt facts first.config s (point n)
      → Ends facts limit first (run_from image limit left s.picking s.machine)
      (sr.run_from g limit left (point_after g n first).picking (point_after g n first).config) s.printed
  ends_so zero n s sum passed so = none_left n s so (ending_at (machine_settled s.machine)) refl
  ends_so (suc left) n s sum passed so =
      turns n s so left
      (λ s' pass so'. ends_so left (suc n) s' (omega (arith, sum)) (λ k low. passed_more n passed pass k low (k == n) refl) so')
      sum passed (ending_at (machine_settled s.machine)) (is_worn_out (machine_settled s.machine)) refl refl
