-- Reads of variables outside the guards of others.
use Rattle.std.proofs.Common.{◌≡◌, ℕ, ◌+◌, ℤ, List, ◌∷◌, ◌++◌, drop, reverse, refl, sym, ◌∙◌, subst}
use Rattle.std.proofs.lemmas.List.{length-set}
use Rattle.pfc_code.specs.declared.instructions.Instr.{Instr}
use Rattle.pfc_code.specs.declared.instructions.Instr.TheVariants.{LOAD}
use Rattle.pfc_types.specs.declared.types.TypeId.{TypeId}
use Rattle.pfc_semantics.specs.Values.{Value}
use Rattle.pfc_semantics.specs.Displays.{Spot, Display, located}
use Rattle.pfc_semantics.specs.Programs.{Block, Program}
use Rattle.pfc_semantics.specs.Store.{value_at}
use Rattle.pfc_semantics.specs.Remainders.{Context, AwaitsValue, reads}
use Rattle.pfc_semantics.specs.Rewriting.{holding}
use Rattle.pfc_semantics.specs.Configurations.{Config, activity_of}
use Rattle.pfc_translation.specs.Images.{image_of}
use Rattle.pfc_stacks.specs.Refs.{word_of}
use Rattle.pfc_stacks.specs.Stacks.{stack_of, operands_of, last_activation}
use Rattle.pfc_stacks.specs.Effects as stacked
use Rattle.pfc_stacks.specs.Effects.{moved}
use Rattle.pfc_cells.specs.Shapes.{words_of}
use Rattle.pfc_cells.specs.Memory.{MemoryIs}
use Rattle.pfc_machines.specs.declared.machine.Machine.{Machine}
use Rattle.pfc_machines.specs.Quiet.{quiet_effect}
use Rattle.pfc_machine_acts.specs.Performing.{performs}
use Rattle.pfc_standing_code.specs.Shapes.{shape_of, shape_cells}
use Rattle.pfc_standing_code.specs.Settings.{of_own, IsAt}
use Rattle.pfc_standing_code.specs.Words.{IsChecked}
use Rattle.pfc_standing_code.specs.Following.{ArrivedBy}
use Rattle.pfc_stack_laws.specs.Instructions.{Reads}
use Rattle.pfc_stack_laws.proofs.Moves.{hold_moved}
use Rattle.pfc_stack_laws.proofs.Variables.{read}
use Rattle.pfc_following_source.specs.Behind.{GoesOnAt}
use Rattle.pfc_following_source.proofs.Behind.{leads_on}
use Rattle.pfc_representation.specs.Levels.{Facts, program_in, LivingLevel}
use Rattle.pfc_representation.specs.Acting.{IsActing, HasArrived}
use Rattle.pfc_representation.specs.Actions.{IsKept}
use Rattle.pfc_kept_own_actions.proofs.Steps.{IsOwnStep}
use Rattle.pfc_kept_own_actions.proofs.Arrived.{has_setting, stack_there, code_there, code_line, acts_now, hold_store, untried, stands_at, at_hand, displayed}
use Rattle.pfc_kept_own_actions.proofs.Arrived.{next_within}
use Rattle.pfc_kept_own_actions.proofs.Alone.{does_on, alone_comes}

module _ (facts : Facts) (m : Machine) (c : Config) (p choice : ℕ) (level : LivingLevel) (x : Context) (v : Spot) (u : AwaitsValue)
    (own : level.setting.trial ≡ of_own)
    (acting : IsActing facts m c p level) (arrived : HasArrived facts m c p level (reads x v u)) where
  abbrev here : ℕ
  here = (stack_of m.stacks p).at

  abbrev ops : List ℤ
  ops = operands_of m.stacks p

  -- in a block that is at hand, of a variable of this type, whose address is on top
  module _ (b : Block) (checked : IsChecked level.setting b x.env) (by : ArrivedBy level.setting b here ops level.arms (reads x v u)) where
    abbrev t : TypeId
    t = by.0

    abbrev below : List ℤ
    below = by.2

    abbrev instr : Instr
    instr = LOAD (shape_cells level.setting.program.state.forms (shape_of t))

    there : IsAt level.setting here instr x.line
    there = by.5

    abbrev value : Value
    value = value_at c.store (located c.store (activity_of (program_in facts) c p).display v)

    abbrev left : List ℤ
    left = reverse (words_of value) ++ below

    given : Reads level.setting (image_of facts.tree).blocks instr p m.stacks here below t value
    given =
        subst (λ (d : Display). Reads level.setting (image_of facts.tree).blocks instr p m.stacks here below t (value_at c.store (located c.store d v)))
        (displayed facts m c p level acting own b checked.beside)
        (read level.setting acting.homes acting.entries c.store b (image_of facts.tree).blocks m.stacks p here (word_of (last_activation m.stacks p))
        (at_hand facts m c p level acting own b checked.beside) (hold_store facts m c p level acting) x v t by.1 below
        (stands_at facts m c p level acting own (by.1 ∷ below) by.3) checked by.4 by.8 by.6)

    goes : GoesOnAt level.setting b (here + 1) left level.arms (holding x value u)
    goes =
        subst (λ (xs : List ℤ). GoesOnAt level.setting b (here + 1) (reverse (words_of value) ++ drop 1 xs) level.arms (holding x value u)) by.3
        (leads_on level.setting b here (reads x v u) ops level.arms arrived.room checked by t by.1 value by.4 given.typed instr x.line there)

    step : IsOwnStep facts m c p level acting (here + 1) left (moved m.stacks p (here + 1) left) c.store (holding x value u)
    step =
        let held = hold_moved level.setting acting.homes acting.entries c.store m.stacks p (here + 1) left (stack_there facts m c p level acting)
        (hold_store facts m c p level acting) in
        let has = has_setting facts m c p level acting in
        record {
          size = length-set m.stacks p (record (stack_of m.stacks p) { at = here + 1; operands = left });
          same = λ q. record { at = refl; base = refl; operands = refl; room = refl; spare = refl; looks_from = refl };
          like = λ keeps. record { at_home = λ a home at. at; living = λ q e kept lives. lives; references = λ a k home t kept at laid. refl };
          memory = subst (λ (g : Program). MemoryIs g acting.homes acting.entries c.store (moved m.stacks p (here + 1) left)) has.image.program held.memory;
          few = held.few;
          objects = acting.alike.holds.objects;
          does = does_on level b (here + 1) left (holding x value u) checked.beside arrived.arms goes;
          within =
              next_within facts m c p level acting own instr x.line there refl arrived.within;
          untried = untried facts m c p level acting own;
        }

    outward_no : stacked.effect (image_of facts.tree).blocks instr p m.stacks ≡ stacked.outward → ⊥
    outward_no is = (let both : stacked.acts (moved m.stacks p (here + 1) left) ≡ stacked.outward = sym given.effect ∙ is in cc)

    pub read_kept : IsKept facts m c p choice (reads x v u)
    read_kept = record {
      instr = instr;
      is = code_there facts m c p level acting here instr x.line there;
      can_step = record { stack = stack_there facts m c p level acting; performed = given.can; goes = λ is. absurd (outward_no is) };
      no_move = tt;
      can_do = record { acting = acts_now facts m c p level acting instr x.line there; can = tt };
      line = code_line facts m c p level acting here instr x.line there;
      choices = refl;
      same = alone_comes facts m c p level acting (stacked.effect (image_of facts.tree).blocks instr p m.stacks)
          (quiet_effect (image_of facts.tree).scans instr p m)
          (performs (image_of facts.tree) instr choice p m) (here + 1) left (moved m.stacks p (here + 1) left) c.store
          (holding x value u) x.line given.effect step;
    }
