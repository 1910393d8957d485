-- The end of the body of a process.
use Rattle.std.proofs.Common.{◌≡◌, ◌≢◌, ℕ, ◌<◌, List, [], length, Ok, refl, sym, ap, ◌∙◌, subst, arith, append-nil, ◌⊎◌, inl, inr}
use Rattle.std.proofs.lemmas.List.{length-set}
use Rattle.pfc_code.specs.declared.instructions.Instr.TheVariants.{END}
use Rattle.pfc_state.specs.Stands.{Is_done}
use Rattle.pfc_world.specs.Tables.{Table, at}
use Rattle.pfc_world.specs.Transitions.{placed, rested, finished, ticked}
use Rattle.pfc_semantics.specs.Programs.{Program}
use Rattle.pfc_semantics.specs.Remainders.{finishes}
use Rattle.pfc_semantics.specs.Configurations.{Caller, Activation, Activity, Config, Effect, activity_of}
use Rattle.pfc_semantics.specs.Processes.{ended_process}
use Rattle.pfc_semantics.specs.Steps.{ends_for, ends_body}
use Rattle.pfc_stacks.specs.Stacks.{stack_of}
use Rattle.pfc_machines.specs.declared.machine.Machine.{Machine}
use Rattle.pfc_machines.specs.declared.descriptors.Descriptor.{Descriptor}
use Rattle.pfc_machines.specs.Descriptors.{descriptor_of}
use Rattle.pfc_machine_acts.specs.Performing.{silent}
use Rattle.pfc_own_actions.specs.Doing.{finishes as machine_finishes}
use Rattle.pfc_standing_code.specs.Settings.{of_own, IsAt}
use Rattle.pfc_representation.specs.Levels.{Facts, program_in, LivingLevel}
use Rattle.pfc_representation.specs.Machines.{Reports, Agrees, goes_on, has_ended}
use Rattle.pfc_representation.specs.Acting.{IsActing}
use Rattle.pfc_representation.specs.Actions.{ComeToSame, AreKept}
use Rattle.pfc_kept_own_actions.proofs.Alone.{can_go}
use Rattle.pfc_kept_own_actions.proofs.Arrived.{stack_there, code_there, code_line, acts_now}
use Rattle.pfc_kept_object_actions.proofs.Change.{row_here}
use Rattle.pfc_kept_object_actions.proofs.Tests.{either}
use Rattle.pfc_kept_lives.specs.Groups.{EndsProcess}
use Rattle.pfc_kept_lives.proofs.Finished.{main_finished}
use Rattle.pfc_kept_lives.proofs.Only.{only}
use Rattle.pfc_kept_lives.proofs.Ended.{m', c', activity_here, activity_there, activity_count, descriptor_here, descriptor_there, words_then, world_then}
use Rattle.pfc_kept_lives.proofs.Ended.{represents_ended}

module _ (facts : Facts) (m : Machine) (c : Config) (p : ℕ) (level : LivingLevel) (acting : IsActing facts m c p level) (line : ℕ) where
  abbrev g : Program
  g = program_in facts

  abbrev left : Machine
  left = m' facts m c p level acting line

  abbrev rest : Config
  rest = c' facts m c p level acting line

  -- ## Main has ended

  module _ (main : p ≡ 0) where
    main_there : 0 < length c.table.rows
    main_there = subst (λ n. n < length c.table.rows) main (subst (λ n. p < n) (sym acting.alike.words.rows) acting.actor.process)

    table_is : finished c.table p ≡ rested (placed c.table 0 Is_done)
    table_is = ap (λ n. finished c.table n) main ∙ main_finished c.table main_there

    main_done : at rest.table.rows 0 ≡ Is_done
    main_done = ap (λ (w : Table). at w.rows 0) table_is ∙ row_here c.table.rows 0 Is_done main_there

    line_of : (q : ℕ) → (q ≡ p) ⊎ (q ≢ p) → q < length c.activities → (descriptor_of left.descriptors q).line ≡ (activity_of g rest q).line
    line_of q (inl same) within =
        subst (λ n. (descriptor_of left.descriptors n).line ≡ (activity_of g rest n).line) (sym same)
        (ap (λ (e : Descriptor). e.line) (descriptor_here facts m c p level acting line)
        ∙ sym (ap (λ (x : Activity). x.line) (activity_here facts m c p level acting line)))
    line_of q (inr apart) within =
        ap (λ (e : Descriptor). e.line) (descriptor_there facts m c p level acting line q apart)
        ∙ (acting.others q within apart).line
        ∙ sym (ap (λ (x : Activity). x.line) (activity_there facts m c p level acting line q apart))

    reports : Reports facts left rest
    reports = record {
      words = words_then facts m c p level acting line (ap (λ (w : Table). length w.rows) table_is ∙ length-set c.table.rows 0 Is_done);
      world = ap ticked (world_then facts m c p level acting line);
      lines = λ q within. line_of q (either q p) (subst (λ n. q < n) (activity_count facts m c p level acting line) within);
    }

  -- ## Any process ends

  module _ (ends : level.setting.last ≡ END) (own : level.setting.trial ≡ of_own) where
    agrees : (p ≡ 0) ⊎ (p ≢ 0) → Agrees facts left rest
    agrees (inl main) = has_ended (inr (main_done main)) (reports main)
    agrees (inr child) = goes_on (represents_ended facts m c p level acting line ends own child)

    effect_is : ends_body g c p (activity_of g c p).activations ≡ Ok (ended_process g c p)
    effect_is =
        let one = only facts m c p level acting ends in
        ap (λ (xs : List Activation). ends_body g c p xs) one.activations
        ∙ ap (λ (x : Caller). Ok (ends_for g c p one.top [] x)) one.first.waits

    same : ComeToSame facts m c p line (silent (machine_finishes p m)) (ends_body g c p (activity_of g c p).activations)
    same =
        subst (λ (e : Effect). ComeToSame facts m c p line (silent (machine_finishes p m)) e) (sym effect_is)
        (agrees (either p 0), sym (append-nil c.output))

pub ends_kept : AreKept EndsProcess
ends_kept facts m c p choice level (finishes line) ends acting arrived chosen =
    let (b, checked, clear) = arrived.arrived in
    let here : ℕ = (stack_of m.stacks p).at in
    let there : IsAt level.setting here END line =
    subst (λ i. IsAt level.setting here i line) ends clear.1.1 in
    record {
      instr = END;
      is = code_there facts m c p level acting here END line there;
      can_step = record {
        stack = stack_there facts m c p level acting;
        performed = record { held = grind arith; room = grind arith; reach = tt };
        goes = λ outward. can_go facts m c p level acting END line there refl (grind arith) arrived.within;
      };
      no_move = tt;
      can_do = record { acting = acts_now facts m c p level acting END line there; can = tt };
      line = code_line facts m c p level acting here END line there;
      choices = refl;
      same = same facts m c p level acting line ends clear.0.0;
    }
ends_kept facts m c p choice level n ends acting arrived chosen = absurd ends
