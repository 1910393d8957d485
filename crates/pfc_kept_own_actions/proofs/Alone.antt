-- An action of the stacks alone.
use Rattle.std.proofs.Common.{◌≡◌, ◌≢◌, ℕ, suc, ◌+◌, ◌-◌, ◌<◌, ◌≤◌, ℤ, List, ◌∷◌, length, set, Option, Ok, Err, refl, sym, ap, ◌∙◌, subst, arith, ◌⊎◌, inl, inr}
use Rattle.std.proofs.lemmas.List.{append-nil, get_or-set_same, get_or-set_other, length-set}
use Rattle.pfc_base.specs.declared.faults.RunFault.{RunFault}
use Rattle.pfc_code.specs.Operands.{told, operands_of as operands_in}
use Rattle.pfc_world.specs.Tables.{Table}
use Rattle.pfc_world.specs.Transitions.{rested, ticked}
use Rattle.pfc_cells.specs.Memory.{MemoryIs}
use Rattle.pfc_own_actions.specs.Doing.{left_with}
use Rattle.pfc_machines.specs.declared.rooms.Room.{Room}
use Rattle.pfc_machines.specs.declared.descriptors.Descriptor.{Descriptor}
use Rattle.pfc_machines.specs.Communications.{Communicating}
use Rattle.pfc_machines.specs.Descriptors.{descriptor_by, descriptor_of}
use Rattle.pfc_machines.specs.Rooms.{no_room, room_for}
use Rattle.rand_pcg.specs.Lcg.{Lcg}
use Rattle.pfc_values.specs.Inputs.{Left as InputLeft}
use Rattle.pfc_code.specs.declared.instructions.Instr.{Instr}
use Rattle.pfc_semantics.specs.Store.{Store}
use Rattle.pfc_semantics.specs.Values.{ordinal}
use Rattle.pfc_semantics.specs.Programs.{Block, Program}
use Rattle.pfc_semantics.specs.Remainders.{Context, AwaitsValue}
use Rattle.pfc_semantics.specs.Rewriting.{Doing, holding}
use Rattle.pfc_semantics.specs.Configurations.{Activity, Config, Effect, nobody, activity_of, doing_next, holds, done_at, after}
use Rattle.pfc_stacks.specs.Stacks.{Stacks, stack_of, operands_of}
use Rattle.pfc_stacks.specs.Effects as stacked
use Rattle.pfc_stacks.specs.Effects.{moved}
use Rattle.pfc_machines.specs.declared.machine.Machine.{Machine}
use Rattle.pfc_machines.specs.Actions.{at_rest, PrintedEffect}
use Rattle.pfc_machines.specs.Quiet.{QuietEffect, CanGo}
use Rattle.pfc_machine_acts.specs.Acting.{acted, comes_to}
use Rattle.pfc_machine_acts.specs.Performing.{silent, does_alone}
use Rattle.pfc_machine_acts.specs.Quietly.{on_stacks}
use Rattle.pfc_standing_code.specs.Settings.{of_own, IsBeside, IsAt}
use Rattle.pfc_stack_laws.proofs.Moves.{either, hold_moved}
use Rattle.pfc_following_source.specs.Behind.{GoesOnAt}
use Rattle.pfc_representation.specs.Levels.{Facts, program_in, LivingLevel, DoesOn}
use Rattle.pfc_representation.specs.Machines.{machine_table, Represents, Reports, goes_on, has_ended}
use Rattle.pfc_representation.specs.Rooms.{room_behind, HasRoomFor, own_address}
use Rattle.pfc_representation.specs.Callers.{IsWithin}
use Rattle.pfc_representation.specs.Acting.{IsActing}
use Rattle.pfc_representation.specs.Actions.{ComeToSame}
use Rattle.pfc_kept_own_actions.proofs.Steps.{IsOwnStep, represents_then}
use Rattle.pfc_kept_own_actions.proofs.Arrived.{has_setting, stack_there, acts_now, hold_store, untried}

-- what follows in its block, the process does at its level
pub does_on : (level : LivingLevel) (b : Block) (at : ℕ) (ops : List ℤ) (doing : Doing) → IsBeside level.setting level.setting.block b
    → length level.arms ≤ level.setting.arms
    → GoesOnAt level.setting b at ops level.arms doing → DoesOn level at ops doing
does_on level b at ops doing beside few goes = (goes.0, few, inl (b, beside, goes.1))

module _ (facts : Facts) (m : Machine) (c : Config) (p : ℕ) (level : LivingLevel) (acting : IsActing facts m c p level) where
  -- where nothing is read, drawn or printed
  pub represents_alone : (to : ℕ) (left : List ℤ) (stacks : Stacks) (store : Store) (doing : Doing) (line : ℕ)
      → IsOwnStep facts m c p level acting to left stacks store doing
      → Represents facts (acted line p (at_rest (record m { stacks = stacks })))
      (done_at (program_in facts) (doing_next (program_in facts) (record c { store = store }) p doing) p line)
  represents_alone to left stacks store doing line step =
      let words = acting.alike.words in
      let after : Config = done_at (program_in facts) (doing_next (program_in facts) (record c { store = store }) p doing) p line in
      let both = represents_then facts m c p level acting to left stacks store doing step c.input c.words c.output m.in_line line words.in_line in
      subst (λ (i : InputLeft). Represents facts (acted line p (at_rest (record m { stacks = stacks; input = i }))) after) (sym words.input)
      (subst (λ (w : Lcg). Represents facts (acted line p (at_rest (record m { stacks = stacks; input = c.input; draws = w }))) after) (sym words.draws) both)

  -- so both sides come to the same
  pub alone_comes : (e : stacked.Effect) (q : QuietEffect) (other : PrintedEffect) (to : ℕ) (left : List ℤ) (stacks : Stacks) (store : Store) (doing : Doing)
      (line : ℕ)
      → e ≡ stacked.acts stacks → IsOwnStep facts m c p level acting to left stacks store doing
      → ComeToSame facts m c p line (comes_to (on_stacks e q m) (does_alone e other m))
      (Ok (doing_next (program_in facts) (record c { store = store }) p doing))
  alone_comes e q other to left stacks store doing line is step =
      let end : Effect = Ok (doing_next (program_in facts) (record c { store = store }) p doing) in
      let same : ComeToSame facts m c p line (silent (Ok (at_rest (record m { stacks = stacks })))) end =
      (goes_on (represents_alone to left stacks store doing line step), sym (append-nil c.output)) in
      subst (λ (x : stacked.Effect). ComeToSame facts m c p line (comes_to (on_stacks x q m) (does_alone x other m)) end) (sym is) same

  -- ## A fault

  refused : (line : ℕ) (f : RunFault) → Reports facts (acted line p (at_rest m)) (after (program_in facts) c p line (Err f))
  refused line f =
      let old = acting.alike.words in
      let a : Activity = record (activity_of (program_in facts) c p) { line = line } in
      let d : Descriptor = record (descriptor_of m.descriptors p) { line = line } in
      let count : length (set c.activities p a) ≡ length c.activities = length-set c.activities p a in
      record {
        words = record {
          processes = count ∙ old.processes;
          stacks = old.stacks ∙ sym count;
          descriptors = length-set m.descriptors p d ∙ old.descriptors ∙ sym count;
          rows = old.rows ∙ sym count;
          semaphores = old.semaphores;
          monitors = old.monitors;
          owners = old.owners;
          resources = old.resources;
          input = old.input;
          draws = old.draws;
          in_line = old.in_line;
        };
        world =
            ap (λ (w : Table). ticked (rested w)) acting.world
            ∙ ap (λ (who : Option ℕ). record (machine_table facts (ticked c.table)) { acting = who }) (sym acting.alike.between.acting);
        lines = λ q below. line_of q (either q p) (subst (λ n. q < n) count below);
      }
    where
      line_of : (q : ℕ) → (q ≡ p) ⊎ (q ≢ p) → q < length c.activities
          → (descriptor_of (acted line p (at_rest m)).descriptors q).line ≡ (activity_of (program_in facts) (after (program_in facts) c p line (Err f)) q).line
      line_of q (inl same) below =
          ap (λ n. (descriptor_of (acted line p (at_rest m)).descriptors n).line) same
          ∙ ap (λ (e : Descriptor). e.line)
          (get_or-set_same m.descriptors p (record (descriptor_of m.descriptors p) { line = line }) (descriptor_by 0)
          (subst (λ n. p < n) (sym acting.alike.words.descriptors) acting.actor.process))
          ∙ sym (ap (λ (e : Activity). e.line)
          (get_or-set_same c.activities p (record (activity_of (program_in facts) c p) { line = line }) (nobody (program_in facts)) acting.actor.process))
          ∙ sym (ap (λ n. (activity_of (program_in facts) (after (program_in facts) c p line (Err f)) n).line) same)
      line_of q (inr apart) below =
          ap (λ (e : Descriptor). e.line) (get_or-set_other m.descriptors p q (record (descriptor_of m.descriptors p) { line = line }) (descriptor_by 0) apart)
          ∙ (acting.others q below apart).line
          ∙ sym (ap (λ (e : Activity). e.line)
          (get_or-set_other c.activities p q (record (activity_of (program_in facts) c p) { line = line }) (nobody (program_in facts)) apart))

  -- both sides end in the same fault
  pub refuse : (line : ℕ) (f : RunFault) → ComeToSame facts m c p line (Err f) (Err f)
  refuse line f = (refl, has_ended (inl refl) (refused line f))

  -- ## Moves without a change of cells

  pub moved_step : (own : level.setting.trial ≡ of_own) (b : Block) (to : ℕ) (left : List ℤ) (doing : Doing) → IsBeside level.setting level.setting.block b
      → length level.arms ≤ level.setting.arms
      → GoesOnAt level.setting b to left level.arms doing
      → IsWithin facts level (own_address level.setting.trial to) (descriptor_of m.descriptors p).communications
      → IsOwnStep facts m c p level acting to left (moved m.stacks p to left) c.store doing
  moved_step own b to left doing beside few goes within =
      let held = hold_moved level.setting acting.homes acting.entries c.store m.stacks p to left (stack_there facts m c p level acting)
      (hold_store facts m c p level acting) in
      let has = has_setting facts m c p level acting in
      record {
        size = length-set m.stacks p (record (stack_of m.stacks p) { at = to; operands = left });
        same = λ q. record { at = refl; base = refl; operands = refl; room = refl; spare = refl; looks_from = refl };
        like = λ keeps. record { at_home = λ a home at. at; living = λ q e kept lives. lives; references = λ a k home t kept at laid. refl };
        memory = subst (λ (g : Program). MemoryIs g acting.homes acting.entries c.store (moved m.stacks p to left)) has.image.program held.memory;
        few = held.few;
        objects = acting.alike.holds.objects;
        does = does_on level b to left doing beside few goes;
        within = within;
        untried = untried facts m c p level acting own;
      }

  -- a value was pushed
  pub pushed : (v : ℤ) (x : Context) (u : AwaitsValue) (line : ℕ)
      → IsOwnStep facts m c p level acting ((stack_of m.stacks p).at + 1) (v ∷ operands_of m.stacks p)
      (moved m.stacks p ((stack_of m.stacks p).at + 1) (v ∷ operands_of m.stacks p)) c.store (holding x (ordinal v) u)
      → ComeToSame facts m c p line (silent (Ok (at_rest (left_with m p 0 v)))) (Ok (holds (program_in facts) c p x (ordinal v) u))
  pushed v x u line step = (
    goes_on (represents_alone _ _ (moved m.stacks p ((stack_of m.stacks p).at + 1) (v ∷ operands_of m.stacks p)) c.store
        (holding x (ordinal v) u) line step),
    sym (append-nil c.output),
  )

  -- ## What outward instructions ask

  no_more_room : (e : Communicating) (room : Room) → HasRoomFor e room → (length e.alternatives + 0 ≤ e.room.alternatives) × (length e.words + 0 ≤ e.room.words)
  no_more_room e room has = (grind (arith, has.0), grind (arith, has.1))

  -- one that makes nothing
  pub can_go : (i : Instr) (line : ℕ) → IsAt level.setting (stack_of m.stacks p).at i line → room_for (length m.descriptors) i ≡ no_room
      → told (operands_in i).reads ≤ length (operands_of m.stacks p)
      → IsWithin facts level (own_address level.setting.trial (stack_of m.stacks p).at) (descriptor_of m.descriptors p).communications → CanGo i p m
  can_go i line there none held (k, code, is, goes) =
      let acts = acts_now facts m c p level acting i line there in
      let more = no_more_room (descriptor_of m.descriptors p).communications
      (room_behind facts k (own_address level.setting.trial (stack_of m.stacks p).at)) goes.rest in
      record {
        stack = acts.acts.stack;
        descriptor = acts.acts.descriptor;
        held = held;
        places = subst (λ (r : Room). length (descriptor_of m.descriptors p).communications.alternatives + r.alternatives ≤
            (descriptor_of m.descriptors p).communications.room.alternatives) (sym none) more.0;
        words = subst (λ (r : Room). length (descriptor_of m.descriptors p).communications.words + r.words ≤
            (descriptor_of m.descriptors p).communications.room.words) (sym none) more.1;
        next = acts.acts.next;
      }

  -- there is room for one value more
  pub one_more : suc (length (operands_of m.stacks p)) ≤ level.setting.room → (length (operands_of m.stacks p) < (stack_of m.stacks p).room)
      × (1 ≤ (stack_of m.stacks p).room - length (operands_of m.stacks p))
  one_more fits = rooms (length (operands_of m.stacks p)) level.setting.room (stack_of m.stacks p).room fits acting.actor.stands.room
    where
      rooms : (n a b : ℕ) → suc n ≤ a → a ≤ b → (n < b) × (1 ≤ b - n)
      rooms n a b h k = (grind (arith, h, k), grind (arith, h, k))
