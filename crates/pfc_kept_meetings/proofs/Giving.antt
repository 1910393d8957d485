-- A meeting begins: the accept's parameters take what the caller gives, in the store and in the owner's cells.
use Rattle.std.proofs.Common.{◌≡◌, ◌≢◌, ℕ, ◌+◌, ◌^◌, ◌<◌, ℤ, Bool, true, false, if◌then◌else◌, List, [], ◌∷◌, ◌++◌, length, take, set, Option, Some, refl, sym}
use Rattle.std.proofs.Common.{ap, ap₂, ◌∙◌, subst, arith, length-append, take_at}
use Rattle.std.proofs.lemmas.List.{length-set}
use Rattle.pfc_types.specs.Scopes.{scope_at}
use Rattle.pfc_semantics.specs.Values.{Value}
use Rattle.pfc_semantics.specs.Displays.{Frame, Display, frame_of, accept_frames}
use Rattle.pfc_semantics.specs.Layouts.{Layout, laid_names, sub_with}
use Rattle.pfc_types.specs.Blocks.{entry_at}
use Rattle.pfc_types.specs.declared.heads.Formal.{Formal}
use Rattle.pfc_types.specs.declared.heads.SubHead.{SubHead}
use Rattle.pfc_types.specs.rules.Declarations.{scope_cells}
use Rattle.pfc_call_laws.specs.Blocks.{AreLaidAs}
use Rattle.pfc_call_laws.specs.Calls.{HasNoObjects}
use Rattle.pfc_semantics.specs.Programs.{Block, Program, block_at, layout_cells}
use Rattle.pfc_semantics.specs.Remainders.{Context, Accepting}
use Rattle.pfc_semantics.specs.Rendezvous.{taken_from}
use Rattle.pfc_semantics.specs.Store.{Store, values_in, with_values}
use Rattle.pfc_semantics.specs.Configurations.{Activation, Config, activity_of}
use Rattle.pfc_translation.specs.Sites.{Site, is_mains, is_accept, before_accept, laid_before, layout_with, links_to}
use Rattle.pfc_translation.specs.Selects.{accept_cell, accept_cells}
use Rattle.pfc_stacks.specs.declared.refs.Ref.{Ref}
use Rattle.pfc_stacks.specs.Stacks.{Stack, Stacks, stack_of, cells_of, own_cells, written}
use Rattle.pfc_cells.specs.Homes.{Home, Homes, layout_at}
use Rattle.pfc_cells.specs.Memory.{AreCells, Entry, Entries, Lives, ProcessIs}
use Rattle.pfc_machines.specs.declared.machine.Machine.{Machine}
use Rattle.pfc_machines.specs.Descriptors.{descriptor_of}
use Rattle.pfc_meeting_actions.specs.Meetings.{parameter_cell}
use Rattle.pfc_standing_code.specs.Settings.{Setting, of_own, site_of}
use Rattle.pfc_standing_code.specs.Typed.{variables_by, variables_of}
use Rattle.pfc_standing_code.specs.TypedStatements.{AcceptsEntry}
use Rattle.pfc_standing_code.specs.Words.{IsChecked, is_known}
use Rattle.pfc_views.specs.Views.{block_site}
use Rattle.pfc_views.proofs.Living.{lives}
use Rattle.pfc_stack_laws.specs.Standing.{HoldStore}
use Rattle.pfc_stack_laws.proofs.Moves.{same_cells}
use Rattle.pfc_call_laws.proofs.Displays.{is_other}
use Rattle.pfc_call_laws.proofs.Places.{or_left}
use Rattle.pfc_nesting_laws.proofs.Programs.{is_laid as block_laid}
use Rattle.pfc_meeting_laws.specs.Meetings.{display_of, StandIn}
use Rattle.pfc_meeting_laws.proofs.Frames.{frame_of_accept}
use Rattle.pfc_meeting_laws.proofs.Laid.{accept_stands}
use Rattle.pfc_meeting_laws.proofs.Meetings.{held}
use Rattle.pfc_meeting_laws.proofs.Taking.{taken_length, values_now, values_count}
use Rattle.pfc_representation.specs.Levels.{Facts, program_in, LivingLevel}
use Rattle.pfc_representation.specs.Hands.{laid_parameters, entry_formals}
use Rattle.pfc_representation.specs.Holding.{holders_in}
use Rattle.pfc_representation.specs.Machines.{AreAlike}
use Rattle.pfc_representation.specs.Processes.{IsAtLevel}
use Rattle.pfc_kept_messages.proofs.Sight.{same_program}
use Rattle.pfc_kept_messages.proofs.Stacks.{changed_cells}
use Rattle.pfc_kept_meetings.specs.Owners.{HasTypedEntries}
use Rattle.pfc_kept_meetings.specs.Accepts.{HasProcesses, KeepsAccepts}
use Rattle.pfc_kept_meetings.proofs.Owner as owner
use Rattle.pfc_kept_meetings.proofs.Owner.{known, only, first, child, of_process, process_is, formals_are, scopes, own_known, in_blocks}
use Rattle.pfc_kept_meetings.proofs.Owner.{links_own, its_layout, living, block_is}
use Rattle.pfc_kept_meetings.proofs.Parameters.{names_laid, names_cells}

bit_false : (c : Bool) → (c ≡ true → ⊥) → c ≡ false
bit_false true h = absurd (h refl)
bit_false false h = refl

some_same : {A : Type 0} (x y : A) → Some x ≡ Some y → x ≡ y
some_same x y h = cc

module _ (facts : Facts) (m : Machine) (c : Config) (homes : Homes) (entries : Entries) (alike : AreAlike facts homes entries m c) (q : ℕ) (level : LivingLevel)
    (stands : IsAtLevel facts homes entries c.store m.stacks c.table (holders_in facts c) q (activity_of (program_in facts) c q)
    (descriptor_of m.descriptors q) level)
    (own : level.setting.trial ≡ of_own) (there : q < length c.activities) (processes : HasProcesses facts.tree) (b : Block) (x : Context)
    (checked : IsChecked level.setting b x.env) (acc : Accepting)
    (accepts : AcceptsEntry level.setting.program.state.blocks b.scope acc.entry acc.scope)
    (typed : HasTypedEntries facts.tree) (runs : KeepsAccepts facts c) (of_block : is_accept b acc.scope ≡ true) where
  abbrev pub g : Program
  g = program_in facts

  abbrev pub i : ℕ
  i = acc.scope

  abbrev pub here : Site
  here = block_site g b

  abbrev pub act : Activation
  act = owner.a facts m c homes entries alike q level stands own there processes b x checked acc.entry i accepts

  abbrev pub e : Entry
  e = owner.e facts m c homes entries alike q level stands own there processes b x checked acc.entry i accepts

  abbrev pub home : Home
  home = owner.home facts m c homes entries alike q level stands own there processes b x checked acc.entry i accepts

  abbrev pub parameters : Layout
  parameters = laid_names (scope_at g.state.blocks.scopes i)

  abbrev pub from : ℕ
  from = before_accept here i

  abbrev pub to : ℕ
  to = from + length parameters

  abbrev pub display : Display
  display = (activity_of g c q).display

  -- ## Its scope

  unknown : is_known g.state.blocks b [] i ≡ true → ⊥
  unknown is =
      (let both : true ≡ false =
      sym of_block ∙ (scopes facts m c homes entries alike q level stands own there processes b x checked acc.entry i accepts).no_accept i is in cc)

  not_mains : is_mains g.state.blocks i ≡ false
  not_mains = bit_false (is_mains g.state.blocks i) (λ is. unknown (or_left (is_mains g.state.blocks i) _ is))

  pub own_apart : b.scope ≢ i
  own_apart same =
      unknown
      (ap (λ j. is_known g.state.blocks b [] j) (sym same)
      ∙ own_known facts m c homes entries alike q level stands own there processes b x checked acc.entry i accepts)

  displayed : display ≡ display_of g act.number b
  displayed =
      runs.displays q act (child facts m c homes entries alike q level stands own there processes b x checked acc.entry i accepts)
      (only facts m c homes entries alike q level stands own there processes b x checked acc.entry i accepts).activations
      ∙ ap (λ (y : Block). display_of g act.number y)
      (sym (process_is facts m c homes entries alike q level stands own there processes b x checked acc.entry i accepts))

  abbrev own_frame : Frame
  own_frame = record { scope = b.scope; activation = act.number; first = 0 }

  abbrev own_names : ℕ
  own_names = length (laid_names (scope_at g.state.blocks.scopes b.scope))

  pub frame_is : frame_of display i ≡ record { scope = i; activation = act.number; first = from }
  frame_is =
      ap (λ (d : Display). frame_of d i) displayed
      ∙ ap (λ (t : Bool). if t then own_frame else frame_of (accept_frames g.state.blocks act.number b.accepts b.next own_names) i)
      (is_other b.scope i own_apart)
      ∙ frame_of_accept g act.number b i of_block

  pub before_is : laid_before here i ≡ from
  before_is = ap (λ (t : Bool). if t then before_accept here i else 0) of_block

  pub links_new : links_to here i ≡ 0
  links_new = links_own facts m c homes entries alike q level stands own there processes b x checked acc.entry i accepts i not_mains

  pub laid_new : layout_with here i ≡ b.layout
  laid_new =
      ap (λ (t : Bool). if t then b.layout else (if is_mains g.state.blocks i then g.main.layout else (block_at g i).layout)) of_block

  pub variables_new : variables_of here i ≡ length parameters
  variables_new =
      ap (λ (t : Bool). if t then length (layout_with here i) else variables_by here i (sub_with g.state.blocks.subs i)) not_mains
      ∙ ap (λ (o : Option SubHead). variables_by here i o)
      ((of_process facts m c homes entries alike q level stands own there processes b x checked acc.entry i accepts).accepts i of_block)

  -- ## Its parameters

  abbrev of_names : AcceptsEntry g.state.blocks b.scope acc.entry i
  of_names = known facts m c homes entries alike q level stands own there processes b x checked acc.entry i accepts

  typed_so : AreLaidAs (entry_at g.state.blocks of_names.process acc.entry) (laid_parameters (entry_at g.state.blocks of_names.process acc.entry))
  typed_so = typed.typed of_names.process acc.entry of_names.among

  pub parameters_are : parameters ≡ laid_parameters (entry_formals g q acc.entry)
  parameters_are =
      names_laid (scope_at g.state.blocks.scopes i) (entry_at g.state.blocks of_names.process acc.entry) of_names.parameters typed_so
      ∙ ap (λ (fs : List Formal). laid_parameters fs) (formals_are facts m c homes entries alike q level stands own there processes b x checked acc.entry i
      accepts)

  program_is : level.setting.program ≡ g
  program_is = same_program facts m c homes entries alike q (descriptor_of m.descriptors q) level stands own

  abbrev pub d : ℕ
  d = accept_cell (site_of level.setting b x) i

  pub cells_are : accept_cells (site_of level.setting b x) i ≡ layout_cells g.state.forms (laid_parameters (entry_formals g q acc.entry))
  cells_are =
      ap (λ (y : Program). scope_cells y.state.forms (scope_at y.state.blocks.scopes i)) program_is
      ∙ names_cells g.state.forms (scope_at g.state.blocks.scopes i) (entry_at g.state.blocks of_names.process acc.entry) of_names.parameters typed_so
      ∙ ap (λ (fs : List Formal). layout_cells g.state.forms (laid_parameters fs)) (formals_are facts m c homes entries alike q level stands own there
      processes b x checked acc.entry i accepts)

  pub stand : StandIn b.layout parameters from
  stand =
      accept_stands g b i
      (block_laid facts.tree alike.program.lawful (first facts m c homes entries alike q level stands own there processes b x checked acc.entry i
      accepts).own.block b (in_blocks facts m c homes entries alike q level stands own there processes b x checked acc.entry i accepts) i of_block) of_block

  pub stand_home : StandIn (layout_at g home) parameters from
  stand_home = subst (λ (l : Layout). StandIn l parameters from) (sym (its_layout facts m c homes entries alike q level stands own there processes b x checked
      acc.entry i accepts)) stand

  abbrev s0 : Setting
  s0 = record level.setting { program = g; number = facts.number }

  hold_before : HoldStore s0 homes entries c.store m.stacks
  hold_before = record { types = alike.program.types; memory = alike.holds.memory; few = alike.holds.few; objects = alike.holds.objects }

  home_scope : home.scope ≡ b.scope
  home_scope = (first facts m c homes entries alike q level stands own there processes b x checked acc.entry i accepts).stands.scope ∙ sym (first facts m c
      homes entries alike q level stands own there processes b x checked acc.entry i accepts).stands.block ∙ ap (λ (y : Block). y.scope) (block_is facts m c
      homes entries alike q level stands own there processes b x checked acc.entry i accepts)

  block_home : block_at g home.scope ≡ b
  block_home = ap (λ j. block_at g j) home_scope ∙ (scopes facts m c homes entries alike q level stands own there processes b x checked acc.entry i
      accepts).by_scope

  pub at_home : homes act.number ≡ Some home
  at_home = (first facts m c homes entries alike q level stands own there processes b x checked acc.entry i accepts).stands.at

  pub lives_own : Lives entries act.number
  lives_own = subst (λ n. Lives entries n) (first facts m c homes entries alike q level stands own there processes b x checked acc.entry i
      accepts).stands.number (lives entries q e (living facts m c homes entries alike q level stands own there processes b x checked acc.entry i accepts))

  -- its first cell is the first of all
  pub at_bottom : home.cell ≡ 0
  at_bottom = by_entries (entries q) (only facts m c homes entries alike q level stands own there processes b x checked acc.entry i accepts).entries_are
      (alike.holds.memory q)
    where
      by_entries : (es : List Entry) → es ≡ e ∷ [] → ProcessIs g homes c.store q es (cells_of m.stacks q) → home.cell ≡ 0
      by_entries es same is =
          let (lower, none, over) = subst (λ (xs : List Entry). ProcessIs g homes c.store q xs (cells_of m.stacks q)) same is in
          let its_home : over.home ≡ home = some_same over.home home (sym over.at ∙ ap homes (first facts m c homes entries alike q level stands own there
          processes b x checked acc.entry i accepts).stands.number ∙ at_home) in
          ap (λ (y : Home). y.cell) (sym its_home) ∙ over.place ∙ ap (λ (ws : List ℤ). length ws) none

  before_taken : take from b.layout ≡ stand_home.before
  before_taken =
      ap (λ (l : Layout). take from l) (sym (its_layout facts m c homes entries alike q level stands own there processes b x checked acc.entry i accepts) ∙
      stand_home.is)
      ∙ take_at stand_home.before (parameters ++ stand_home.behind) from stand_home.place

  abbrev r : Ref
  r = record { process = home.process; cell = home.cell + own_cells + layout_cells g.state.forms stand_home.before }

  pub d_is : d ≡ layout_cells g.state.forms stand_home.before
  d_is =
      ap
      (λ (y : Program).
      layout_cells y.state.forms (take (before_accept (record { program = y; block = b; env = x.env; line = x.line }) i) b.layout)) program_is
      ∙ ap (λ (l : Layout). layout_cells g.state.forms l) before_taken

  place_is : r ≡ parameter_cell q d
  place_is =
      ap₂ (λ p n. record { process = p; cell = n }) (first facts m c homes entries alike q level stands own there processes b x checked acc.entry i
      accepts).stands.process
      (start home.cell (layout_cells g.state.forms stand_home.before) d at_bottom d_is)
    where
      start : (h l k : ℕ) → h ≡ 0 → k ≡ l → h + 8 + l ≡ 8 + k
      start h l k one two = grind (arith, one, two)

  -- ## What is given

  module _ (args : List Value) (words : List ℤ) (hold : AreCells g homes (laid_parameters (entry_formals g q acc.entry)) args words) where
    abbrev values : List Value
    values = values_in c.store act.number

    abbrev pub new_store : Store
    new_store = with_values c.store act.number (taken_from from args values)

    hold_so : AreCells g homes parameters args words
    hold_so = subst (λ (l : Layout). AreCells g homes l args words) (sym parameters_are) hold

    pub count : length args ≡ length parameters
    count = values_count g homes parameters args words hold_so

    pub new_values : values_in new_store act.number ≡ taken_from from args values
    new_values = values_now c.store act.number (taken_from from args values) (taken_length from args values)

    abbrev wrote : Stacks
    wrote = written m.stacks r words

    abbrev with_same : Stacks
    with_same = set wrote q (record (stack_of wrote q) { operands = (stack_of wrote q).operands })

    by_law : HoldStore s0 homes entries new_store with_same
    by_law =
        held s0 homes entries c.store m.stacks act.number from home parameters args words stand_home hold_before lives_own at_home
        (subst (λ (y : Block). HasNoObjects g y) (sym block_home) (of_process facts m c homes entries alike q level stands own there processes b x checked
        acc.entry i accepts).objects) hold_so q (stack_of wrote q).operands

    wrote_size : length wrote ≡ length m.stacks
    wrote_size = length-set m.stacks r.process _

    q_there : q < length m.stacks
    q_there = subst (λ n. q < n) (sym alike.words.stacks) there

    module _ (stacks' : Stacks) (same : (p : ℕ) → cells_of stacks' p ≡ cells_of (written m.stacks (parameter_cell q d) words) p)
        (size : length stacks' ≡ length m.stacks) where
      pub holds_then : HoldStore s0 homes entries new_store stacks'
      holds_then =
          same_cells s0 homes entries new_store with_same stacks'
          (λ p. same p ∙ ap (λ (y : Ref). cells_of (written m.stacks y words) p) (sym place_is)
          ∙ sym (changed_cells wrote q (λ (s : Stack). record s { operands = (stack_of wrote q).operands }) (λ s. refl)
          (subst (λ n. q < n) (sym wrote_size) q_there) p))
          (size ∙ sym (length-set wrote q _ ∙ wrote_size)) by_law

      -- its cells then
      pub record GivenCells : Type 0 where
        pub cells : List ℤ
        pub holds : AreCells g homes b.layout (values_in new_store act.number) cells
        pub few : 8 + length cells < 2 ^ 32

      pub given_cells : GivenCells
      given_cells = by_entries (entries q) (only facts m c homes entries alike q level stands own there processes b x checked acc.entry i accepts).entries_are
          (holds_then.memory q)
        where
          fits : (n l j k r : ℕ) → n ≡ l + r → r ≡ j + k → j ≡ 8 → n < 2 ^ 32 → 8 + k < 2 ^ 32
          fits n l j k r one two three less = omega (arith, one, two, three, less)

          by_entries : (es : List Entry) → es ≡ e ∷ [] → ProcessIs g homes new_store q es (cells_of stacks' q) → GivenCells
          by_entries es same_entries is =
              let (lower, none, over) = subst (λ (xs : List Entry). ProcessIs g homes new_store q xs (cells_of stacks' q)) same_entries is in
              let number : e.activation ≡ act.number = (first facts m c homes entries alike q level stands own there processes b x checked acc.entry i
              accepts).stands.number in
              let its_home : over.home ≡ home = some_same over.home home (sym over.at ∙ ap homes number ∙ at_home) in
              record {
                cells = over.block;
                holds =
                    subst (λ (l : Layout). AreCells g homes l (values_in new_store act.number) over.block)
                    (ap (λ (y : Home). layout_at g y) its_home ∙ its_layout facts m c homes entries alike q level stands own there processes b x checked
                    acc.entry i accepts)
                    (subst (λ n. AreCells g homes (layout_at g over.home) (values_in new_store n) over.block) number over.holds);
                few =
                    fits (length (cells_of stacks' q)) (length lower) (length e.own) (length over.block) (length (e.own ++ over.block))
                    (ap (λ (ws : List ℤ). length ws) over.is ∙ length-append lower (e.own ++ over.block)) (length-append e.own over.block) over.size
                    (holds_then.few.cells q);
              }
