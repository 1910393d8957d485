-- A meeting with a caller that waits may begin: there is room for it, the caller has the arguments, and there are the cells of the parameters.
use Rattle.std.proofs.Common.{◌≡◌, ℕ, ◌+◌, ◌^◌, ◌<◌, ◌≤◌, true, [], length, slice_get, Some, sym, ap, ◌∙◌, subst, arith}
use Rattle.pfc_state.specs.Stands.{Is_idle}
use Rattle.pfc_world.specs.Partners.{caller}
use Rattle.pfc_world.specs.Tables.{at}
use Rattle.pfc_semantics.specs.Programs.{Block}
use Rattle.pfc_semantics.specs.Remainders.{Context, Accepting}
use Rattle.pfc_semantics.specs.Configurations.{Config}
use Rattle.pfc_translation.specs.Sites.{is_accept}
use Rattle.pfc_translation.specs.Selects.{accept_cell, accept_cells}
use Rattle.pfc_stacks.specs.Stacks.{cells_of, operands_of}
use Rattle.pfc_stacks.specs.Conditions.{AreLive}
use Rattle.pfc_machines.specs.declared.machine.Machine.{Machine}
use Rattle.pfc_machines.specs.declared.descriptors.Descriptor.{Descriptor}
use Rattle.pfc_machines.specs.Descriptors.{descriptor_of}
use Rattle.pfc_meeting_actions.specs.Meetings.{parameter_cell, CanMeet}
use Rattle.pfc_standing_code.specs.Settings.{of_own, site_of}
use Rattle.pfc_standing_code.specs.TypedStatements.{AcceptsEntry}
use Rattle.pfc_standing_code.specs.Words.{IsChecked}
use Rattle.pfc_representation.specs.Levels.{Facts, LivingLevel, is_met_by}
use Rattle.pfc_representation.specs.Rooms.{process_count}
use Rattle.pfc_representation.specs.Acting.{IsActing}
use Rattle.pfc_kept_object_actions.proofs.Change.{within_rows}
use Rattle.pfc_kept_meetings.specs.Owners.{HasTypedEntries}
use Rattle.pfc_kept_meetings.specs.Accepts.{HasProcesses, KeepsAccepts}
use Rattle.pfc_kept_meetings.proofs.Apart.{AreApart}
use Rattle.pfc_kept_meetings.proofs.Few.{found_at, are_fewer}
use Rattle.pfc_kept_meetings.proofs.Giving as giving
use Rattle.pfc_kept_meetings.proofs.Lenders.{ready_unmet}
use Rattle.pfc_kept_meetings.proofs.Live as live_cells
use Rattle.pfc_kept_meetings.proofs.Meets as meets

module _ (facts : Facts) (m : Machine) (c : Config) (p : ℕ) (level : LivingLevel) (acting : IsActing facts m c p level) (own : level.setting.trial ≡ of_own)
    (b : Block) (x : Context) (checked : IsChecked level.setting b x.env) (acc : Accepting)
    (accepts : AcceptsEntry level.setting.program.state.blocks b.scope acc.entry acc.scope) (processes : HasProcesses facts.tree)
    (typed : HasTypedEntries facts.tree) (runs : KeepsAccepts facts c) (of_block : is_accept b acc.scope ≡ true)
    (apart : AreApart b acc.scope level.setting.accepts) (q : ℕ) (is_first : caller c.table.rows p acc.entry ≡ Some q) where
  abbrev d : Descriptor
  d = descriptor_of m.descriptors p

  abbrev cell : ℕ
  cell = accept_cell (site_of level.setting b x) acc.scope

  abbrev size : ℕ
  size = accept_cells (site_of level.setting b x) acc.scope

  live : AreLive m.stacks (parameter_cell p cell) size
  live =
      subst (λ z. AreLive m.stacks (parameter_cell p cell) z)
      (sym (giving.cells_are facts m c acting.homes acting.entries acting.alike p level acting.actor.stands own acting.actor.process processes b x checked
      acc accepts typed runs of_block)) (live_cells.live facts m c acting.homes acting.entries acting.alike p level acting.actor.stands own
      acting.actor.process processes b x checked acc accepts typed runs of_block)

  -- those with whom it is in meetings are other processes
  callers_inside : (j r : ℕ) → slice_get d.communications.callers j ≡ Some r → r < process_count facts
  callers_inside j r found =
      subst (λ n. r < n) (acting.alike.words.rows ∙ acting.alike.words.processes)
      (within_rows c.table.rows r
      (λ idle. idle_unmet (subst (λ s. is_met_by s p) (ap (λ n. at c.table.rows n) (found_at d.communications.callers j r 0 found).1 ∙ idle)
      (acting.actor.stands.met.waiting j 0 (found_at d.communications.callers j r 0 found).0))))
    where
      idle_unmet : is_met_by Is_idle p → ⊥
      idle_unmet none_there = none_there

  owner_apart : (j : ℕ) → slice_get d.communications.callers j ≡ Some p → ⊥
  owner_apart j found =
      ready_unmet (at c.table.rows p) p acting.actor.ready
      (subst (λ n. is_met_by (at c.table.rows n) p) (found_at d.communications.callers j p 0 found).1
      (acting.actor.stands.met.waiting j 0 (found_at d.communications.callers j p 0 found).0))

  pub can_meet : process_count facts ≤ d.communications.room.meetings → CanMeet m p cell size q
  can_meet room =
      record {
        descriptor = subst (λ n. p < n) (sym acting.alike.words.descriptors) acting.actor.process;
        room =
            less (length d.communications.callers) (process_count facts) d.communications.room.meetings
            (are_fewer (process_count facts) p d.communications.callers acting.actor.stands.met.once callers_inside
            (subst (λ n. p < n) acting.alike.words.processes acting.actor.process) owner_apart) room;
        stack = meets.q_there facts m c p level acting own b x checked acc accepts processes typed runs of_block apart q is_first 0 [];
        held =
            enough (length (operands_of m.stacks q)) size (length (meets.below facts m c p level acting own b x checked acc accepts processes typed runs
            of_block apart q is_first 0 [])) (meets.over facts m c p level acting own b x checked acc accepts processes typed runs of_block apart q is_first 0
            []).count;
        live = live;
        cell = small cell size (length (cells_of m.stacks p)) live (acting.alike.holds.few.cells p);
      }
    where
      less : (n k j : ℕ) → n < k → k ≤ j → n < j
      less n k j one two = grind (arith, one, two)

      enough : (n z l : ℕ) → n ≡ z + 1 + l → z ≤ n
      enough n z l is = grind (arith, is)

      small : (i z n : ℕ) → 8 + i + z ≤ n → n < 2 ^ 32 → 8 + i < 2 ^ 32
      small i z n one two = omega (arith, one, two)
