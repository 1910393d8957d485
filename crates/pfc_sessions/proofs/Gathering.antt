-- Turn after turn: what is held, and what the sink was handed.
use Rattle.std.proofs.Common.{◌≡◌, ◌+◌, ◌-◌, ◌<◌, ℕ, suc, List, [], ◌++◌, Option, Some, refl, sym, ap, ◌∙◌, subst, arith, append_assoc, Bool, true, false, ◌==◌}
use Rattle.std.proofs.lemmas.Bool.Decides.{nat_tests}
use Rattle.std.specs.Io.KnownBytes.{Appends}
use Rattle.std.proofs.KnownBytes.{Appends-nil, Appends-trans}
use Rattle.pfc_code.specs.Images.{PlainImage}
use Rattle.pfc_io.specs.Writes.{AppendsFront}
use Rattle.pfc_io.proofs.Written.{AppendsFront-whole, AppendsFront-after}
use Rattle.pfc_sched.specs.Picks.{Picking}
use Rattle.pfc_sched.specs.declared.picking.Pick.{Pick}
use Rattle.pfc_state.specs.declared.endings.Ending.{Ending}
use Rattle.pfc_state.specs.declared.endings.Ending.TheVariants.{Finished, Fault, Deadlock, Limit, Script, SinkFailed, Memory}
use Rattle.pfc_machines.specs.declared.machine.Machine.{Machine}
use Rattle.pfc_machines.specs.Actions.{at_rest}
use Rattle.pfc_machine_acts.specs.Quietly.{next_instr}
use Rattle.pfc_machine_acts.specs.Settling.{machine_settled}
use Rattle.pfc_sessions.specs.Courses.{Completes, IsCut, on_the_way, at_the_end, IsWanting, refused, worn_out, IsCourse, Continues, Ends, IsHalted, untried}
use Rattle.pfc_sessions.specs.Courses.{uncounted, IsTurn, Gathers, IsSent, IsHandedOver, whole, dropped, failed}
use Rattle.pfc_sessions.specs.Runs.{Run, run_from, step_of, IsPicked, MayRun}
use Rattle.pfc_sessions.specs.Stages.{Stage, behind_action, by_process, next_stage, stage_after, GoesOn, IsOnTheWay, Passes}
use Rattle.pfc_sessions.specs.Steps.{may_want, Step, before_action}
use Rattle.pfc_sessions.proofs.Turning.{run_goes_on}

-- ## One turn more

module _ (image : PlainImage) (limit left : ℕ) (f : Run) (s : Stage) (picking' : Picking) (new : Machine) (out out' : List ℕ)
    (q : Continues image s.picking picking' s.machine new out out')
  where
    abbrev act : Step
    act = step_of image s.picking s.machine q.process

    stage_on : next_stage image s ≡ behind_action image s q.process
    stage_on = ap (λ (pick : Pick). by_process s (behind_action image s) pick) q.picked.picks

    next_machine : (next_stage image s).machine ≡ new
    next_machine = ap (λ (x : Stage). x.machine) stage_on ∙ sym q.machine

    next_picking : (next_stage image s).picking ≡ picking'
    next_picking = ap (λ (x : Stage). x.picking) stage_on ∙ sym q.picks

    next_printed : (next_stage image s).printed ≡ s.printed ++ act.printed
    next_printed = ap (λ (x : Stage). x.printed) stage_on

    goes_behind : 0 < left → GoesOn s.printed (run_from image limit left s.picking s.machine) f
        → GoesOn (next_stage image s).printed (run_from image limit (left - 1) (next_stage image s).picking (next_stage image s).machine) f
    goes_behind some goes =
        let run = run_goes_on image limit s.picking s.machine left q.process some q.picked q.sound in
        let later : Run = run_from image limit (left - 1) act.picking act.machine in
        let behind : GoesOn (s.printed ++ act.printed) later f = record {
          ending = sym (ap (λ (x : Run). x.ending) run) ∙ goes.ending;
          machine = sym (ap (λ (x : Run). x.machine) run) ∙ goes.machine;
          printed = goes.printed ∙ ap (λ (x : Run). s.printed ++ x.printed) run ∙ sym (append_assoc s.printed act.printed later.printed);
        } in
        subst (λ (x : Stage). GoesOn x.printed (run_from image limit (left - 1) x.picking x.machine) f) (sym stage_on) behind

    -- who is picked later may act, too
    pub may_go_on : 0 < left → MayRun image left s.picking s.machine → MayRun image (left - 1) picking' new
    may_go_on some may =
        let one : left ≡ suc (left - 1) = omega (arith, some) in
        let turn = subst (λ (n : ℕ). MayRun image n s.picking s.machine) one may in
        subst (λ (x : Picking). MayRun image (left - 1) x new) (sym q.picks)
        (subst (λ (x : Machine). MayRun image (left - 1) act.picking x) (sym q.machine) (turn.onward q.process q.picked q.sound))

-- ## All turns so far

module _ (image : PlainImage) (limit : ℕ) (f : Run) (first : Stage) where
  pub nothing_held :
      (held : List ℕ) (start : Option (List ℕ)) → first.printed ≡ [] → held ≡ [] → f ≡ run_from image limit limit first.picking first.machine
      → Gathers image limit limit f first first.picking first.machine held start start
  nothing_held held start none empty is = record {
    count = 0;
    way = record {
      sum = omega arith;
      passed = λ k low. absurd (omega (arith, low));
      goes = record {
        ending = ap (λ (x : Run). x.ending) (sym is);
        machine = ap (λ (x : Run). x.machine) (sym is);
        printed = ap (λ (x : Run). x.printed) is ∙ ap (λ (x : List ℕ). x ++ (run_from image limit limit first.picking first.machine).printed) (sym none);
      };
    };
    machine = refl;
    picks = refl;
    sent = [];
    printed = none ∙ sym empty;
    written = Appends-nil start;
  }

  module _
      (left : ℕ) (picking : Picking) (m : Machine) (held : List ℕ) (start now : Option (List ℕ))
      (p : Gathers image limit left f first picking m held start now)
    where
      abbrev s : Stage
      s = stage_after image p.count first

      module _ (picking' : Picking) (new : Machine) (more : List ℕ) (turn : Continues image picking picking' m new held more) where
        abbrev q : Continues image s.picking picking' s.machine new held more
        q =
            subst (λ (x : Picking). Continues image x picking' s.machine new held more) (sym p.picks)
            (subst (λ (x : Machine). Continues image picking picking' x new held more) (sym p.machine) turn)

        printed_more : (next_stage image s).printed ≡ p.sent ++ more
        printed_more =
            next_printed image limit left f s picking' new held more q
            ∙ ap (λ (x : List ℕ). x ++ (step_of image s.picking s.machine q.process).printed) p.printed
            ∙ append_assoc p.sent held (step_of image s.picking s.machine q.process).printed
            ∙ ap (λ (x : List ℕ). p.sent ++ x) (sym q.written)

        passed_more : (k : ℕ) → k < suc p.count → (b : Bool) → (k == p.count) ≡ b → Passes image (stage_after image k first)
        passed_more k low true here =
            let same : p.count ≡ k = grind (arith, nat_tests) in
            subst (λ (n : ℕ). Passes image (stage_after image n first)) same (record { process = q.process; picked = q.picked; sound = q.sound })
        passed_more k low false other = let earlier : k < p.count = grind (arith, nat_tests) in p.way.passed k earlier

        way_on : 0 < left → IsOnTheWay image limit (suc p.count) (left - 1) f first
        way_on some = record {
          sum = (let sum : left + p.count ≡ limit = p.way.sum in omega (arith, some, sum));
          passed = λ k low. passed_more k low (k == p.count) refl;
          goes = goes_behind image limit left f s picking' new held more q some p.way.goes;
        }

        -- an action, and perhaps a piece to the sink
        pub gathers_more : (rest : List ℕ) (after : Option (List ℕ)) → 0 < left → IsSent more rest now after
            → Gathers image limit (left - 1) f first picking' new rest start after
        gathers_more rest after some piece = record {
          count = suc p.count;
          way = way_on some;
          machine = next_machine image limit left f s picking' new held more q;
          picks = next_picking image limit left f s picking' new held more q;
          sent = p.sent ++ piece.sent;
          printed = printed_more ∙ ap (λ (x : List ℕ). p.sent ++ x) piece.both ∙ sym (append_assoc p.sent piece.sent rest);
          written = Appends-trans start now after p.sent piece.sent p.written piece.written;
        }

        -- a sink that took no more of a piece
        pub breaks_off : (after : Option (List ℕ)) → 0 < left → AppendsFront now after more → IsCut image limit f first new start after
        breaks_off after some front = on_the_way (record {
          count = suc p.count;
          left = left - 1;
          way = way_on some;
          stands = sym (next_machine image limit left f s picking' new held more q);
          front =
              subst (λ (x : List ℕ). AppendsFront start after x) (sym printed_more) (AppendsFront-after start now after p.sent more p.written front);
        })

        pub may_later : 0 < left → MayRun image left picking m → MayRun image (left - 1) picking' new
        may_later some may =
            may_go_on image limit left f s picking' new held more q some
            (subst (λ (x : Picking). MayRun image left x s.machine) (sym p.picks) (subst (λ (x : Machine). MayRun image left picking x) (sym p.machine) may))

      -- ## At the end

      module _ (new : Machine) (more : List ℕ) (after : Option (List ℕ)) where
        here : (ending : Ending) → Ends (run_from image limit left picking m) new ending held more
            → Ends (run_from image limit left s.picking s.machine) new ending held more
        here ending e =
            subst (λ (x : Picking). Ends (run_from image limit left x s.machine) new ending held more) (sym p.picks)
            (subst (λ (x : Machine). Ends (run_from image limit left picking x) new ending held more) (sym p.machine) e)

        all_printed : (ending : Ending) → Ends (run_from image limit left s.picking s.machine) new ending held more → f.printed ≡ p.sent ++ more
        all_printed ending e =
            let later : Run = run_from image limit left s.picking s.machine in
            p.way.goes.printed ∙ ap (λ (x : List ℕ). x ++ later.printed) p.printed ∙ append_assoc p.sent held later.printed
            ∙ ap (λ (x : List ℕ). p.sent ++ x) (sym e.written)

        completes : (ending : Ending) → Ends (run_from image limit left picking m) new ending held more → Appends now after more
            → Completes f new ending start after
        completes ending e written =
            let g = here ending e in
            record {
              ends = g.ends ∙ p.way.goes.ending;
              machine = g.machine ∙ p.way.goes.machine;
              written =
                  subst (λ (x : List ℕ). Appends start after x) (sym (all_printed ending g)) (Appends-trans start now after p.sent more p.written written);
            }

        cut : (ending : Ending) → Ends (run_from image limit left picking m) new ending held more → AppendsFront now after more
            → IsCut image limit f first new start after
        cut ending e front =
            let g = here ending e in
            at_the_end (g.machine ∙ p.way.goes.machine)
            (subst (λ (x : List ℕ). AppendsFront start after x) (sym (all_printed ending g)) (AppendsFront-after start now after p.sent more p.written front))

        wanting : IsHalted image (run_from image limit left picking m) picking m new held more → AppendsFront now after more
            → IsWanting image limit f first new start after
        wanting (untried h kept) front = refused (record {
          count = p.count;
          left = left;
          way = p.way;
          stands = record {
            process = h.process;
            picked =
                subst (λ (x : Picking). IsPicked x (machine_settled s.machine) h.process) (sym p.picks)
                (subst (λ (x : Machine). IsPicked picking (machine_settled x) h.process) (sym p.machine) h.picked);
            machine = h.machine ∙ ap (λ (x : Machine). at_rest (before_action image h.process (machine_settled x))) (sym p.machine);
            wants =
                subst
                (λ (x : Machine). may_want (next_instr image h.process (before_action image h.process (machine_settled x))) ≡ true) (sym p.machine) h.wants;
          };
          front =
              subst (λ (x : List ℕ). AppendsFront start after x) (ap (λ (x : List ℕ). p.sent ++ x) kept ∙ sym p.printed)
              (AppendsFront-after start now after p.sent more p.written front);
        })
        wanting (uncounted e) front =
            let g = here Memory e in
            worn_out (sym (g.ends ∙ p.way.goes.ending)) (g.machine ∙ p.way.goes.machine)
            (subst (λ (x : List ℕ). AppendsFront start after x) (sym (all_printed Memory g)) (AppendsFront-after start now after p.sent more p.written front))

        -- all was handed over, unless memory was refused, or the sink took no more
        pub ends_with : (picking' : Picking) (ending result : Ending) → IsTurn image limit left picking picking' m new (Some ending) held more
            → IsHandedOver more now after ending result → IsCourse image limit f first new result start after
        ends_with picking' Finished _ turn (whole written) = completes Finished turn written
        ends_with picking' (Fault q line fault) _ turn (whole written) = completes (Fault q line fault) turn written
        ends_with picking' Deadlock _ turn (whole written) = completes Deadlock turn written
        ends_with picking' (Limit n) _ turn (whole written) = completes (Limit n) turn written
        ends_with picking' (Script item why) _ turn (whole written) = completes (Script item why) turn written
        ends_with picking' SinkFailed _ turn (whole written) = absurd turn
        ends_with picking' Memory _ turn (whole written) = wanting turn (AppendsFront-whole now after more written)
        ends_with picking' Memory _ turn (dropped is front) = wanting turn front
        ends_with picking' Finished _ turn (dropped is front) = absurd (let no : Finished ≡ Memory = is in cc)
        ends_with picking' (Fault q line fault) _ turn (dropped is front) = absurd (let no : Fault q line fault ≡ Memory = is in cc)
        ends_with picking' Deadlock _ turn (dropped is front) = absurd (let no : Deadlock ≡ Memory = is in cc)
        ends_with picking' (Limit n) _ turn (dropped is front) = absurd (let no : Limit n ≡ Memory = is in cc)
        ends_with picking' (Script item why) _ turn (dropped is front) = absurd (let no : Script item why ≡ Memory = is in cc)
        ends_with picking' SinkFailed _ turn (dropped is front) = absurd turn
        ends_with picking' Finished _ turn (failed other front) = cut Finished turn front
        ends_with picking' (Fault q line fault) _ turn (failed other front) = cut (Fault q line fault) turn front
        ends_with picking' Deadlock _ turn (failed other front) = cut Deadlock turn front
        ends_with picking' (Limit n) _ turn (failed other front) = cut (Limit n) turn front
        ends_with picking' (Script item why) _ turn (failed other front) = cut (Script item why) turn front
        ends_with picking' SinkFailed _ turn (failed other front) = absurd turn
        ends_with picking' Memory _ turn (failed other front) = absurd (other refl)
