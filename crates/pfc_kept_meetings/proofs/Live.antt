-- The cells of an accept's parameters are there.
use Rattle.std.proofs.Common.{◌≡◌, ℕ, ◌+◌, ◌<◌, ◌≤◌, ℤ, true, List, [], ◌∷◌, ◌++◌, length, Some, sym, ap, ◌∙◌, subst, arith, length-append}
use Rattle.pfc_semantics.specs.Layouts.{Layout}
use Rattle.pfc_semantics.specs.Programs.{Block, Program, layout_cells}
use Rattle.pfc_semantics.specs.Remainders.{Context, Accepting}
use Rattle.pfc_semantics.specs.Store.{values_in}
use Rattle.pfc_semantics.specs.Configurations.{Config, activity_of}
use Rattle.pfc_translation.specs.Sites.{is_accept}
use Rattle.pfc_stacks.specs.Conditions.{AreLive}
use Rattle.pfc_stacks.specs.Stacks.{cells_of}
use Rattle.pfc_cells.specs.Homes.{Home, Homes, layout_at}
use Rattle.pfc_cells.specs.Memory.{Entry, Entries, ProcessIs}
use Rattle.pfc_machines.specs.declared.machine.Machine.{Machine}
use Rattle.pfc_machines.specs.Descriptors.{descriptor_of}
use Rattle.pfc_meeting_actions.specs.Meetings.{parameter_cell}
use Rattle.pfc_standing_code.specs.Settings.{of_own}
use Rattle.pfc_standing_code.specs.TypedStatements.{AcceptsEntry}
use Rattle.pfc_standing_code.specs.Words.{IsChecked}
use Rattle.pfc_representation.specs.Levels.{Facts, program_in, LivingLevel}
use Rattle.pfc_representation.specs.Hands.{laid_parameters, entry_formals}
use Rattle.pfc_representation.specs.Holding.{holders_in}
use Rattle.pfc_representation.specs.Machines.{AreAlike}
use Rattle.pfc_representation.specs.Processes.{IsAtLevel}
use Rattle.pfc_kept_meetings.specs.Owners.{HasTypedEntries}
use Rattle.pfc_kept_meetings.specs.Accepts.{HasProcesses, KeepsAccepts}
use Rattle.pfc_kept_meetings.proofs.Owner.{only, first}
use Rattle.pfc_stacks.specs.Conditions.{AreLive}
use Rattle.pfc_cells.proofs.Blocks.{block_length}
use Rattle.pfc_call_laws.proofs.Layouts.{layout_joined}
use Rattle.pfc_meeting_actions.specs.Meetings.{parameter_cell}
use Rattle.pfc_kept_meetings.proofs.Giving as giving

some_same : {A : Type 0} (x y : A) → Some x ≡ Some y → x ≡ y
some_same x y h = cc

module _ (facts : Facts) (m : Machine) (c : Config) (homes : Homes) (entries : Entries) (alike : AreAlike facts homes entries m c) (q : ℕ) (level : LivingLevel)
    (stands : IsAtLevel facts homes entries c.store m.stacks c.table (holders_in facts c) q (activity_of (program_in facts) c q)
    (descriptor_of m.descriptors q) level)
    (own : level.setting.trial ≡ of_own) (there : q < length c.activities) (processes : HasProcesses facts.tree) (b : Block) (x : Context)
    (checked : IsChecked level.setting b x.env) (acc : Accepting)
    (accepts : AcceptsEntry level.setting.program.state.blocks b.scope acc.entry acc.scope)
    (typed : HasTypedEntries facts.tree) (runs : KeepsAccepts facts c) (of_block : is_accept b acc.scope ≡ true) where
  abbrev g : Program
  g = program_in facts

  abbrev home : Home
  home = giving.home facts m c homes entries alike q level stands own there processes b x checked acc accepts typed runs of_block

  abbrev z : ℕ
  z = layout_cells g.state.forms (laid_parameters (entry_formals g q acc.entry))

  pub live : AreLive m.stacks (parameter_cell q (giving.d facts m c homes entries alike q level stands own there processes b x checked acc accepts typed runs
      of_block)) z
  live = by_entries (entries q) (only facts m c homes entries alike q level stands own there processes b x checked acc.entry acc.scope accepts).entries_are
      (alike.holds.memory q)
    where
      fits : (n l j k r f d w u y v : ℕ) → n ≡ l + r → r ≡ j + k → j ≡ 8 → k ≡ f → f ≡ w + u → u ≡ y + v → d ≡ w → 8 + d + y ≤ n
      fits n l j k r f d w u y v one two three four five six seven = omega (arith, one, two, three, four, five, six, seven)

      by_entries : (es : List Entry) → es ≡ giving.e facts m c homes entries alike q level stands own there processes b x checked acc accepts typed runs
          of_block ∷ [] → ProcessIs g homes c.store q es (cells_of m.stacks q) → 8 + giving.d facts m c homes entries alike q level stands own there processes
          b x checked acc accepts typed runs of_block + z ≤ length (cells_of m.stacks q)
      by_entries es same_entries is =
          let (lower, none, over) = subst (λ (xs : List Entry). ProcessIs g homes c.store q xs (cells_of m.stacks q)) same_entries is in
          let stand = giving.stand_home facts m c homes entries alike q level stands own there processes b x checked acc accepts typed runs of_block in
          let its_home : over.home ≡ home = some_same over.home home (sym over.at ∙ ap homes (first facts m c homes entries alike q level stands own there
          processes b x checked acc.entry acc.scope accepts).stands.number ∙ giving.at_home facts m c homes entries alike q level stands own there
          processes b x checked acc accepts typed runs of_block) in
          fits (length (cells_of m.stacks q)) (length lower) (length (giving.e facts m c homes entries alike q level stands own there processes b x checked acc
          accepts typed runs of_block).own) (length over.block) (length ((giving.e facts m c homes entries alike q level stands own there processes b x
          checked acc accepts typed runs of_block).own ++ over.block))
          (layout_cells g.state.forms (layout_at g home)) (giving.d facts m c homes entries alike q level stands own there processes b x checked acc accepts
          typed runs of_block) (layout_cells g.state.forms stand.before)
          (layout_cells g.state.forms (giving.parameters facts m c homes entries alike q level stands own there processes b x checked acc accepts typed runs
          of_block ++ stand.behind)) z (layout_cells g.state.forms stand.behind)
          (ap (λ (ws : List ℤ). length ws) over.is ∙ length-append lower ((giving.e facts m c homes entries alike q level stands own there processes b x
          checked acc accepts typed runs of_block).own ++ over.block))
          (length-append (giving.e facts m c homes entries alike q level stands own there processes b x checked acc accepts typed runs of_block).own
          over.block) over.size
          (block_length g alike.program.types.counted homes (layout_at g over.home) (values_in c.store (giving.e facts m c homes entries alike q level stands
          own there processes b x checked acc accepts typed runs of_block).activation) over.block over.holds
          ∙ ap (λ (y : Home). layout_cells g.state.forms (layout_at g y)) its_home)
          (ap (λ (l : Layout). layout_cells g.state.forms l) stand.is ∙ layout_joined g stand.before (giving.parameters facts m c homes entries alike q level
          stands own there processes b x checked acc accepts typed runs of_block ++ stand.behind))
          (layout_joined g (giving.parameters facts m c homes entries alike q level stands own there processes b x checked acc accepts typed runs of_block)
          stand.behind
          ∙ ap (λ (l : Layout). layout_cells g.state.forms l + layout_cells g.state.forms stand.behind) (giving.parameters_are facts m c homes entries alike q
          level stands own there processes b x checked acc accepts typed runs of_block))
          (giving.d_is facts m c homes entries alike q level stands own there processes b x checked acc accepts typed runs of_block)
