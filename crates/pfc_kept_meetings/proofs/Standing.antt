-- An accept is one of its block, and none of those that are open at the level: the parameters of these are in view.
use Rattle.std.proofs.Common.{◌≡◌, ◌≢◌, ℕ, ◌<◌, ◌==◌, true, length, Option, Some, None, sym, ap, ◌∙◌, subst, arith}
use Rattle.std.specs.List.{list_any}
use Rattle.pfc_tree.specs.trees.Stmts.{StmtTrees}
use Rattle.pfc_semantics.specs.Processes.{process_block}
use Rattle.pfc_semantics.specs.Programs.{Block, Program}
use Rattle.pfc_semantics.specs.Remainders.{Context, Accepting, Replica}
use Rattle.pfc_semantics.specs.Configurations.{Config, activity_of}
use Rattle.pfc_translation.specs.Sites.{Site, is_accept}
use Rattle.pfc_cells.specs.Homes.{Homes}
use Rattle.pfc_cells.specs.Memory.{Entries}
use Rattle.pfc_machines.specs.declared.machine.Machine.{Machine}
use Rattle.pfc_machines.specs.Descriptors.{descriptor_of}
use Rattle.pfc_standing_code.specs.Performs.{BranchAt, own_accepts}
use Rattle.pfc_standing_code.specs.Settings.{Trial, Setting, of_own, site_of, SeesAccepts}
use Rattle.pfc_standing_code.specs.TypedStatements.{AcceptsEntry}
use Rattle.pfc_standing_code.specs.Words.{IsChecked}
use Rattle.pfc_accept_laws.specs.Places.{IsBefore}
use Rattle.pfc_representation.specs.Levels.{Facts, program_in, LivingLevel}
use Rattle.pfc_representation.specs.Holding.{holders_in}
use Rattle.pfc_representation.specs.Machines.{AreAlike}
use Rattle.pfc_representation.specs.Processes.{IsAtLevel}
use Rattle.pfc_kept_meetings.specs.Accepts.{HasProcesses}
use Rattle.pfc_kept_meetings.specs.Waiting.{IsInFirst, StandsWithin}
use Rattle.pfc_kept_meetings.proofs.Apart.{AreApart}
use Rattle.pfc_kept_meetings.proofs.Owner as owner

-- where a branch accepts, all that are open are in view
pub branch_sees : (g : Setting) (s : Site) (at held : ℕ) (r : Option Replica) (a : Accepting) (n : ℕ) (ts : StmtTrees) (P : ℕ → Type 0)
    → BranchAt g s at held r (Some a) n ts P → SeesAccepts g s
branch_sees g s at held None a n ts P met = met.2
branch_sees g s at held (Some r) a n ts P (line, is, j, stands, (to, leads, met)) = met.2

before_no_other : (n k : ℕ) → n < k → n ≢ k
before_no_other n k less same = omega (arith, less, same)

module _ (facts : Facts) (m : Machine) (c : Config) (homes : Homes) (entries : Entries) (alike : AreAlike facts homes entries m c) (q : ℕ) (level : LivingLevel)
    (stands : IsAtLevel facts homes entries c.store m.stacks c.table (holders_in facts c) q (activity_of (program_in facts) c q)
    (descriptor_of m.descriptors q) level)
    (own : level.setting.trial ≡ of_own) (there : q < length c.activities) (processes : HasProcesses facts.tree) (b : Block) (x : Context)
    (checked : IsChecked level.setting b x.env) (a : Accepting)
    (accepts : AcceptsEntry level.setting.program.state.blocks b.scope a.entry a.scope) (sees : SeesAccepts level.setting (site_of level.setting b x))
    (stands_so : StandsWithin facts c q x a) where
  abbrev g : Program
  g = program_in facts

  block_is : b ≡ process_block g q
  block_is = owner.process_is facts m c homes entries alike q level stands own there processes b x checked a.entry a.scope accepts

  first : IsInFirst facts c q
  first =
      let only = owner.only facts m c homes entries alike q level stands own there processes b x checked a.entry a.scope accepts in
      (owner.child facts m c homes entries alike q level stands own there processes b x checked a.entry a.scope accepts, (only.activation, only.activations))

  told : (is_accept (process_block g q) a.scope ≡ true) × IsBefore a.scope x.env
  told = stands_so first

  pub of_block : is_accept b a.scope ≡ true
  of_block = subst (λ (y : Block). is_accept y a.scope ≡ true) (sym block_is) told.0

  open_of_block : (j : ℕ) → list_any (λ n. n == j) level.setting.accepts ≡ true → is_accept b j ≡ true
  open_of_block j among =
      subst (λ (y : Block). is_accept y j ≡ true)
      (owner.block_is facts m c homes entries alike q level stands own there processes b x checked a.entry a.scope accepts)
      ((owner.first facts m c homes entries alike q level stands own there processes b x checked a.entry a.scope accepts).stands.accepts j
      (ap (λ (t : Trial). list_any (λ n. n == j) (own_accepts t level.setting.accepts)) own ∙ among))

  pub apart : AreApart b a.scope level.setting.accepts
  apart j among = (open_of_block j among, before_no_other j a.scope (told.1 j (sees j among)))
