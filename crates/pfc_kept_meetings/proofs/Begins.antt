-- What the owner does in a meeting: its code stands for the statement of the accept, with the parameters in view.
use Rattle.std.proofs.Common.{◌≡◌, ℕ, ◌<◌, ◌==◌, ℤ, pos, Bool, true, ◌||◌, List, [], ◌∷◌, length, get_or, slice_get, Option, Some, sym, subst, ◌⊎◌, inl, inr}
use Rattle.std.specs.List.{list_any}
use Rattle.pfc_types.specs.Blocks.{Blocks}
use Rattle.pfc_types.specs.Scopes.{Level}
use Rattle.pfc_types.specs.rules.Expressions.{Env}
use Rattle.pfc_types.specs.rules.Statements.{within_accept}
use Rattle.pfc_types.specs.declared.types.TypeId.{TypeId}
use Rattle.pfc_types.specs.declared.scope.Meaning.TheVariants.{Variable}
use Rattle.pfc_world.specs.Tables.{Table, at}
use Rattle.pfc_semantics.specs.Values.{Value, Location, ordinal, points}
use Rattle.pfc_semantics.specs.Programs.{Block, Program}
use Rattle.pfc_semantics.specs.Remainders.{Context, Accepting, Open, Remainder}
use Rattle.pfc_semantics.specs.Rendezvous.{meeting_of}
use Rattle.pfc_semantics.specs.Rewriting.{going}
use Rattle.pfc_semantics.specs.Configurations.{Config, activity_of}
use Rattle.pfc_translation.specs.Sites.{is_mains, linked, is_accept}
use Rattle.pfc_translation.specs.Selects.{accept_cell}
use Rattle.pfc_stacks.specs.Stacks.{Stacks, cells_of, written}
use Rattle.pfc_cells.specs.Homes.{Homes}
use Rattle.pfc_cells.specs.Memory.{AreCells, Entries, Lives, MemoryIs}
use Rattle.pfc_machines.specs.declared.machine.Machine.{Machine}
use Rattle.pfc_machines.specs.Descriptors.{descriptor_of}
use Rattle.pfc_meeting_actions.specs.Meetings.{parameter_cell}
use Rattle.pfc_standing_code.specs.Settings.{View, Trial, Setting, of_own, site_of, IsInTrial, with_accept}
use Rattle.pfc_standing_code.specs.TypedStatements.{AcceptsEntry}
use Rattle.pfc_standing_code.specs.Words.{IsChecked, AreKnown, is_known, names_at}
use Rattle.pfc_standing_code.specs.Performs.{Performs}
use Rattle.pfc_kept_code.specs.Kept.{AgreeAt, Agree, with_view}
use Rattle.pfc_following_source.specs.Behind.{GoesOnAt, BehindAccept}
use Rattle.pfc_following_source.proofs.Meetings.{meetings_led}
use Rattle.pfc_views.specs.Views.{AreObjects, Sees}
use Rattle.pfc_views.proofs.Checked.{names_checked}
use Rattle.pfc_stack_laws.specs.Standing.{AreTypes, HoldStore}
use Rattle.pfc_call_laws.proofs.Places.{or_cases, or_left, or_right}
use Rattle.pfc_representation.specs.Levels.{Facts, program_in, LivingLevel, is_met_by, SeesThrough}
use Rattle.pfc_representation.specs.Hands.{laid_parameters, entry_formals, AreKept}
use Rattle.pfc_representation.specs.Holding.{holders_in}
use Rattle.pfc_representation.specs.Machines.{AreAlike}
use Rattle.pfc_representation.specs.Processes.{IsAtLevel}
use Rattle.pfc_kept_messages.proofs.Sight.{same_program}
use Rattle.pfc_kept_meetings.specs.Owners.{HasTypedEntries}
use Rattle.pfc_kept_meetings.specs.Accepts.{HasProcesses, KeepsAccepts}
use Rattle.pfc_kept_meetings.proofs.Apart.{AreApart}
use Rattle.pfc_kept_meetings.proofs.Arguments.{seen_plainly}
use Rattle.pfc_kept_meetings.proofs.Giving as giving
use Rattle.pfc_kept_meetings.proofs.Known as known_ones
use Rattle.pfc_kept_meetings.proofs.Known.{are_known, IsWithin, holds_there, known_behind}
use Rattle.pfc_kept_meetings.proofs.Owner as owner
use Rattle.pfc_kept_meetings.proofs.Shown as shown
use Rattle.pfc_kept_meetings.proofs.Shown.{view_then, seen_then}
use Rattle.pfc_kept_meetings.proofs.Settled.{beside_then}

module _ (facts : Facts) (m : Machine) (c : Config) (homes : Homes) (entries : Entries) (alike : AreAlike facts homes entries m c) (q : ℕ) (level : LivingLevel)
    (stands : IsAtLevel facts homes entries c.store m.stacks c.table (holders_in facts c) q (activity_of (program_in facts) c q)
    (descriptor_of m.descriptors q) level)
    (own : level.setting.trial ≡ of_own) (there : q < length c.activities) (processes : HasProcesses facts.tree) (b : Block) (x : Context)
    (checked : IsChecked level.setting b x.env) (acc : Accepting)
    (accepts : AcceptsEntry level.setting.program.state.blocks b.scope acc.entry acc.scope)
    (typed : HasTypedEntries facts.tree) (runs : KeepsAccepts facts c) (of_block : is_accept b acc.scope ≡ true)
    (apart : AreApart b acc.scope level.setting.accepts) (args : List Value) (words : List ℤ)
    (hold : AreCells (program_in facts) homes (laid_parameters (entry_formals (program_in facts) q acc.entry)) args words)
    (given : (k : ℕ) (t : TypeId) → slice_get (laid_parameters (entry_formals (program_in facts) q acc.entry)) k ≡ Some (Variable t true)
    → (l : Location) × (get_or args k (ordinal (pos 0)) ≡ points l))
    (stacks' : Stacks)
    (same : (p : ℕ) → cells_of stacks' p
    ≡ cells_of (written m.stacks (parameter_cell q (accept_cell (site_of level.setting b x) acc.scope)) words) p)
    (size : length stacks' ≡ length m.stacks) (r : ℕ) (lenders_r : List ℕ) (kept : AreKept c.table entries r lenders_r args) (table' : Table)
    (stay : (p s : ℕ) → is_met_by (at c.table.rows p) s → at table'.rows p ≡ at c.table.rows p) (met : is_met_by (at table'.rows r) q)
    (main : Lives entries 0) where
  abbrev g : Program
  g = program_in facts

  abbrev i : ℕ
  i = acc.scope

  program_is : level.setting.program ≡ g
  program_is = same_program facts m c homes entries alike q (descriptor_of m.descriptors q) level stands own

  -- what is seen before and then
  abbrev pub seen_plain : SeesThrough facts homes entries c.store c.table q (entries q) (shown.w facts m c homes entries alike q level stands own there
      processes b x checked acc accepts typed runs of_block apart args words hold given stacks' same size r lenders_r kept table' stay met main) (shown.display
      facts m c homes entries alike q level stands own there processes b x checked acc accepts typed runs of_block apart args words hold given stacks' same
      size r lenders_r kept table' stay met main) level.setting level.setting.block
      level.setting.view stands.seen.others level.setting.accepts level.setting.meetings
  seen_plain =
      seen_plainly facts homes entries c.store c.table q (entries q) (shown.w facts m c homes entries alike q level stands own there processes b x checked acc
      accepts typed runs of_block apart args words hold given stacks' same size r lenders_r kept table' stay met main) (shown.display facts m c homes
      entries alike q level stands own there processes b x checked acc accepts typed runs of_block apart args words hold given stacks' same size r
      lenders_r kept table' stay met main) level.setting stands.seen.others level.setting.trial own
      stands.seen.sees

  abbrev pub view : View
  view = view_then facts m c homes entries alike q level stands own there processes b x checked acc accepts typed runs of_block apart args words hold given
      stacks' same size r lenders_r kept table' stay met main

  abbrev pub then_seen : SeesThrough facts homes entries (shown.new_store facts m c homes entries alike q level stands own there processes b x checked acc
      accepts typed runs of_block apart args words hold given stacks' same size r lenders_r kept table' stay met main) table' q (entries q) (shown.w facts m c
      homes entries alike q level stands own there processes b x checked acc accepts typed runs of_block apart args words hold given stacks' same size r
      lenders_r kept table' stay met main) (shown.display facts m c homes entries alike q level stands own there processes b x checked acc accepts typed runs
      of_block apart args words hold given stacks' same size r lenders_r kept table' stay met main) level.setting
      level.setting.block view stands.seen.others (i ∷ level.setting.accepts) (r ∷ level.setting.meetings)
  then_seen = seen_then facts m c homes entries alike q level stands own there processes b x checked acc accepts typed runs of_block apart args words hold
      given stacks' same size r lenders_r kept table' stay met main stands.seen.others seen_plain

  -- ## Names

  abbrev names : Env → Bool
  names env = are_known level.setting.program b level.setting.accepts env

  within : IsWithin b level.setting.accepts level.setting
  within =
      record {
        own = own;
        no_main = λ mains. owner.no_main facts m c homes entries alike q level stands own there processes b x checked acc.entry i accepts mains;
        within = λ j known. known;
      }

  agree : Agree level.setting view b names
  agree y env beside among =
      subst (λ (z : Block). AgreeAt (names_at level.setting z env) level.setting.view view) (sym (owner.beside_b facts m c homes entries alike q level stands
      own there processes b x checked acc.entry i accepts y beside))
      (subst (λ (p : Program). AgreeAt (record { program = p; block = b; env = env; line = 0 }) level.setting.view view) (sym program_is) agree_b)
    where
      all_known : are_known g b level.setting.accepts env ≡ true
      all_known = subst (λ (p : Program). are_known p b level.setting.accepts env ≡ true) program_is among

      agree_b : AgreeAt (record { program = g; block = b; env = env; line = 0 }) level.setting.view view
      agree_b v t declared =
          let known : is_known g.state.blocks b level.setting.accepts v.scope ≡ true = by v.scope (or_cases (is_mains g.state.blocks v.scope)
          (list_any (λ (y : Level). y.scope == v.scope) env.view) declared.seen) in
          shown.alike_so facts m c homes entries alike q level stands own there processes b x checked acc accepts typed runs of_block apart args words hold
          given stacks' same size r lenders_r kept table' stay met main stands.seen.others seen_plain v declared.meaning known declared.own declared.laid
          declared.variable
        where
          by : (j : ℕ) → (is_mains g.state.blocks j ≡ true) ⊎ (list_any (λ (y : Level). y.scope == j) env.view ≡ true)
              → is_known g.state.blocks b level.setting.accepts j ≡ true
          by j (inl mains) = or_left (is_mains g.state.blocks j) _ mains
          by j (inr seen) = holds_there (λ n. is_known g.state.blocks b level.setting.accepts n) env.view j all_known seen

  -- ## Then

  abbrev setting_then : Setting
  setting_then = with_accept (with_view level.setting view) i r

  number_is : level.setting.number ≡ facts.number
  number_is = (owner.first facts m c homes entries alike q level stands own there processes b x checked acc.entry i accepts).stands.setting.number

  holds : HoldStore (record level.setting { program = g; number = facts.number }) homes entries (shown.new_store facts m c homes entries alike q level stands
      own there processes b x checked acc accepts typed runs of_block apart args words hold given stacks' same size r lenders_r kept table' stay met main)
      stacks'
  holds = giving.holds_then facts m c homes entries alike q level stands own there processes b x checked acc accepts typed runs of_block args words hold
      stacks' same size

  known_then : AreKnown level.setting.program b (i ∷ level.setting.accepts) (within_accept x.env i)
  known_then j seen = by (or_cases (is_mains blocks j) ((i == j) || list_any (λ (y : Level). y.scope == j) x.env.view) seen)
    where
      blocks : Blocks
      blocks = level.setting.program.state.blocks

      around : Bool
      around = list_any (λ n. n == j) (linked blocks b.env.view)

      among : Bool
      among = list_any (λ n. n == j) level.setting.accepts

      more : (is_mains blocks j ≡ true) ⊎ ((around || among) ≡ true) → (is_mains blocks j || (around || ((i == j) || among))) ≡ true
      more (inl mains) = or_left (is_mains blocks j) _ mains
      more (inr rest) = or_right (is_mains blocks j) _ (inner (or_cases around among rest))
        where
          inner : (around ≡ true) ⊎ (among ≡ true) → (around || ((i == j) || among)) ≡ true
          inner (inl is) = or_left around _ is
          inner (inr is) = or_right around _ (or_right (i == j) among is)

      by_level : ((i == j) ≡ true) ⊎ (list_any (λ (y : Level). y.scope == j) x.env.view ≡ true)
          → (is_mains blocks j || (around || ((i == j) || among))) ≡ true
      by_level (inl is) = or_right (is_mains blocks j) _ (or_right around _ (or_left (i == j) among is))
      by_level (inr is) = more (or_cases (is_mains blocks j) (around || among) (checked.known j (or_right (is_mains blocks j) _ is)))

      by : (is_mains blocks j ≡ true) ⊎ (((i == j) || list_any (λ (y : Level). y.scope == j) x.env.view) ≡ true)
          → (is_mains blocks j || (around || ((i == j) || among))) ≡ true
      by (inl mains) = or_left (is_mains blocks j) _ mains
      by (inr is) = by_level (or_cases (i == j) (list_any (λ (y : Level). y.scope == j) x.env.view) is)

  pub checked_then : IsChecked setting_then b (within_accept x.env i)
  checked_then =
      let top = then_seen.0 in
      names_checked setting_then homes entries (shown.new_store facts m c homes entries alike q level stands own there processes b x checked acc accepts typed
      runs of_block apart args words hold given stacks' same size r lenders_r kept table' stay met main) top.keeps (shown.display facts m c homes entries
      alike q level stands own there processes b x checked acc accepts typed runs of_block apart args words hold given stacks' same size r lenders_r kept
      table' stay met main) b (shown.w facts m c homes entries alike q level stands own there processes b x checked acc accepts typed runs of_block apart
      args words hold given stacks' same size r lenders_r kept table' stay met main) top.chain stacks'
      (subst (λ (p : Program). AreTypes p.state.forms) (sym program_is) alike.program.types).counted
      (subst (λ (p : Program). AreTypes p.state.forms) (sym program_is) alike.program.types).sound
      (subst (λ (p : Program). MemoryIs p homes entries (shown.new_store facts m c homes entries alike q level stands own there processes b x checked acc
      accepts typed runs of_block apart args words hold given stacks' same size r lenders_r kept table' stay met main) stacks') (sym program_is)
      holds.memory) holds.few
      (subst (λ (p : Program). AreObjects p homes entries (shown.new_store facts m c homes entries alike q level stands own there processes b x checked acc
      accepts typed runs of_block apart args words hold given stacks' same size r lenders_r kept table' stay met main) level.setting.number) (sym
      program_is)
      (subst (λ (f : ℤ → Option ℤ). AreObjects g homes entries (shown.new_store facts m c homes entries alike q level stands own there processes b x checked
      acc accepts typed runs of_block apart args words hold given stacks' same size r lenders_r kept table' stay met main) f) (sym number_is)
      holds.objects))
      (subst (λ (p : Program). Sees p homes entries (shown.new_store facts m c homes entries alike q level stands own there processes b x checked acc accepts
      typed runs of_block apart args words hold given stacks' same size r lenders_r kept table' stay met main) top.keeps (shown.display facts m c homes
      entries alike q level stands own there processes b x checked acc accepts typed runs of_block apart args words hold given stacks' same size r
      lenders_r kept table' stay met main) b (i ∷ level.setting.accepts) (shown.w facts m c homes entries alike q level stands own there processes b x
      checked acc accepts typed runs of_block apart args words hold given stacks' same size r lenders_r kept table' stay met main) top.chain view)
      (sym program_is) (top.sees b checked.beside))
      (within_accept x.env i) known_then checked.state (beside_then level view (i ∷ level.setting.accepts) (r ∷ level.setting.meetings) level.setting.block b
      checked.beside)
      (subst (λ (t : Trial). IsInTrial t (within_accept x.env i)) (sym own) tt)

  module _ (k : Remainder) (o : Open) (to : ℕ) (ops : List ℤ) (end : ℕ) (rest : Performs level.setting b x.env end ops [] k)
      (behind : BehindAccept level.setting b to ops x acc o k) where
    pub goes_then : GoesOnAt setting_then b to ops [] (going x.env (meeting_of x acc o r k))
    goes_then =
        meetings_led level.setting view b names to ops x acc o r k own agree
        (known_ones.among b level.setting.accepts level.setting x.env within checked)
        (known_behind b level.setting.accepts k level.setting x.env end ops [] within rest) checked checked_then behind
