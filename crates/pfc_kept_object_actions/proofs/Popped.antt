-- An instruction at which the process pops operands and goes on, while standings, counts and holders change.
use Rattle.std.proofs.Common.{◌≡◌, ℕ, ◌+◌, ◌≤◌, ℤ, false, List, [], length, Option, Some, Ok, refl}
use Rattle.std.proofs.Common.{sym, ap, subst, inl}
use Rattle.std.proofs.lemmas.List.{append-nil}
use Rattle.pfc_code.specs.declared.instructions.Instr.{Instr}
use Rattle.pfc_image_laws.specs.Operands.{is_end}
use Rattle.pfc_monitor.specs.declared.monitors.Monitors.{Monitors}
use Rattle.pfc_state.specs.Stands.{Is_ready}
use Rattle.pfc_world.specs.Tables.{Table}
use Rattle.pfc_world.specs.Transitions.{rested}
use Rattle.pfc_semantics.specs.Programs.{Block}
use Rattle.pfc_semantics.specs.Rewriting.{Doing}
use Rattle.pfc_semantics.specs.Configurations.{Config, doing_next}
use Rattle.pfc_stacks.specs.Stacks.{stack_of}
use Rattle.pfc_stacks.specs.Effects.{moved}
use Rattle.pfc_machines.specs.declared.machine.Machine.{Machine}
use Rattle.pfc_machines.specs.Descriptors.{descriptor_of}
use Rattle.pfc_machine_acts.specs.Performing.{silent}
use Rattle.pfc_standing_code.specs.Settings.{of_own, IsBeside, IsAt}
use Rattle.pfc_standing_code.specs.Effects.{Arm}
use Rattle.pfc_following_source.specs.Behind.{GoesOnAt}
use Rattle.pfc_representation.specs.Levels.{Facts, program_in, LivingLevel}
use Rattle.pfc_representation.specs.Rooms.{own_address}
use Rattle.pfc_representation.specs.Callers.{IsWithin}
use Rattle.pfc_representation.specs.Holding.{holders_in}
use Rattle.pfc_representation.specs.Machines.{machine_table, goes_on}
use Rattle.pfc_representation.specs.Acting.{IsActing}
use Rattle.pfc_representation.specs.Actions.{ComeToSame}
use Rattle.pfc_kept_own_actions.proofs.Alone.{does_on}
use Rattle.pfc_kept_own_actions.proofs.Arrived.{untried, next_within}
use Rattle.pfc_kept_object_actions.proofs.Step.{Objects, IsChange, IsStep, represents_then}
use Rattle.pfc_kept_object_actions.proofs.Change.{stays_ready, change_of, holds_as_was}

module _ (facts : Facts) (m : Machine) (c : Config) (p : ℕ) (level : LivingLevel) (acting : IsActing facts m c p level) where
  abbrev here : ℕ
  here = (stack_of m.stacks p).at

  -- ## What becomes of it

  pub step_of : level.setting.trial ≡ of_own → (b : Block) (i : Instr) (line : ℕ) (left : List ℤ) (doing : Doing) (w : Objects)
      → IsBeside level.setting level.setting.block b
      → IsAt level.setting here i line → is_end i ≡ false → level.arms ≡ [] → GoesOnAt level.setting b (here + 1) left [] doing
      → IsWithin facts level (own_address level.setting.trial here) (descriptor_of m.descriptors p).communications → length level.arms ≤ level.setting.arms
      → IsChange facts c p w → IsStep facts m c p level acting (here + 1) left doing w
  step_of own b i line left doing w beside there no_end none goes within few change =
      record {
        does =
            does_on level b (here + 1) left doing beside few
            (subst (λ (arms : List Arm). GoesOnAt level.setting b (here + 1) left arms doing) (sym none) goes);
        within = next_within facts m c p level acting own i line there no_end within;
        untried = untried facts m c p level acting own;
        change = change;
      }

  -- both sides come to the same
  pub comes_then : (to : ℕ) (left : List ℤ) (doing : Doing) (w : Objects) (line : ℕ) → IsStep facts m c p level acting to left doing w
      → (world : Table) (semaphores : List ℕ) (monitors : Monitors) (resources : List (Option ℕ)) → world ≡ machine_table facts w.table → semaphores ≡ w.counts
      → monitors.holders ≡ w.monitors → monitors.owners ≡ m.monitors.owners → resources ≡ w.resources
      → ComeToSame facts m c p line
      (silent (Ok (record m { stacks = moved m.stacks p to left; world = world; semaphores = semaphores; monitors = monitors; resources = resources })))
      (Ok (record (doing_next (program_in facts) c p doing) { table = w.table; counts = w.counts; monitors = w.monitors; resources = w.resources }))
  comes_then to left doing w line step world semaphores monitors resources same_world same_counts same_monitors same_owners same_resources = (
    goes_on (represents_then facts m c p level acting to left doing w line step world semaphores monitors resources same_world same_counts same_monitors
        same_owners same_resources),
    sym (append-nil c.output),
  )

  -- ## Tables

  -- the machine's table while the process acts, and behind that
  abbrev pub world : Table
  world = record (machine_table facts c.table) { acting = Some p }

  pub rests : rested world ≡ machine_table facts c.table
  rests = ap (λ (who : Option ℕ). record (machine_table facts c.table) { acting = who }) (sym acting.alike.between.acting)

  -- nobody stands elsewhere: only counts change
  abbrev pub counted_so : List ℕ → Objects
  counted_so counts = record { table = c.table; counts = counts; monitors = c.monitors; resources = c.resources }

  pub counts_change : (counts : List ℕ) → length counts ≡ length c.counts → IsChange facts c p (counted_so counts)
  counts_change counts size =
      change_of facts m c p level acting (counted_so counts) Is_ready
      (record {
        mine = acting.actor.ready;
        may = stays_ready c;
        rest = λ q apart. inl refl;
        size = refl;
        rests = acting.alike.between.acting;
        done = refl;
        moment = refl;
      })
      (λ trial xs is. is) (λ q apart. holds_as_was (holders_in facts c) q) size refl refl
