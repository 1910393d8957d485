-- What the owner sees in a meeting: what it saw, and the accept's parameters.
use Rattle.std.proofs.Common.{◌≡◌, ℕ, suc, ◌+◌, ◌-◌, ◌^◌, ◌<◌, ◌≤◌, ◌==◌, ℤ, pos, Bool, true, ◌||◌, List, [], ◌∷◌, ◌++◌, length, drop, get_or, slice_get, Some}
use Rattle.std.proofs.Common.{refl, sym, ap, ◌∙◌, subst, arith, length-append, ◌⊎◌, inl, inr}
use Rattle.std.specs.List.{list_any}
use Rattle.pfc_types.specs.declared.types.TypeId.{TypeId}
use Rattle.pfc_types.specs.declared.scope.Meaning.{Meaning}
use Rattle.pfc_types.specs.declared.scope.Meaning.TheVariants.{Variable}
use Rattle.pfc_world.specs.Tables.{Table, at}
use Rattle.pfc_semantics.specs.Values.{Value, Location, ordinal, points}
use Rattle.pfc_semantics.specs.Displays.{Spot, Display}
use Rattle.pfc_semantics.specs.Layouts.{Layout, is_laid}
use Rattle.pfc_semantics.specs.Programs.{Block, Program}
use Rattle.pfc_semantics.specs.Remainders.{Context, Accepting}
use Rattle.pfc_semantics.specs.Rendezvous.{taken_from}
use Rattle.pfc_semantics.specs.Store.{Store, values_in}
use Rattle.pfc_semantics.specs.Configurations.{Activation, Config, activity_of}
use Rattle.pfc_translation.specs.Sites.{Site, is_mains, linked, is_accept, laid_before, layout_with, links_to, place_of, cell_of}
use Rattle.pfc_stacks.specs.Refs.{word_of}
use Rattle.pfc_stacks.specs.Stacks.{Stacks, cells_of, last_activation, written}
use Rattle.pfc_cells.specs.Homes.{Home, Homes}
use Rattle.pfc_cells.specs.Memory.{AreCells, Entry, Entries, Lives, IsAmong}
use Rattle.pfc_cells.proofs.Stores.{values_kept}
use Rattle.pfc_machines.specs.declared.machine.Machine.{Machine}
use Rattle.pfc_machines.specs.Descriptors.{descriptor_of}
use Rattle.pfc_meeting_actions.specs.Meetings.{parameter_cell}
use Rattle.pfc_translation.specs.Selects.{accept_cell}
use Rattle.pfc_views.proofs.Living.{is_among}
use Rattle.pfc_standing_code.specs.Settings.{View, of_own, site_of, IsBeside}
use Rattle.pfc_standing_code.specs.Typed.{variables_of}
use Rattle.pfc_standing_code.specs.TypedStatements.{AcceptsEntry}
use Rattle.pfc_standing_code.specs.Words.{IsChecked, is_known}
use Rattle.pfc_views.specs.Views.{first_number, block_site, Sees}
use Rattle.pfc_call_laws.proofs.Calling.{is_addressed}
use Rattle.pfc_call_laws.proofs.Displays.{is_same, same_of}
use Rattle.pfc_call_laws.proofs.Lists.{slice_front, slice_back}
use Rattle.pfc_call_laws.proofs.Places.{or_cases, or_left, or_right}
use Rattle.pfc_meeting_laws.proofs.Taking.{taken_length, taken_there, values_count}
use Rattle.pfc_representation.specs.Levels.{Facts, program_in, LivingLevel, is_met_by, MayKeep, of_main, of_own as of_own_stack, lent, SeesWith, SeesThrough}
use Rattle.pfc_representation.specs.Hands.{laid_parameters, entry_formals, AreKept}
use Rattle.pfc_representation.specs.Holding.{holders_in}
use Rattle.pfc_representation.specs.Machines.{AreAlike}
use Rattle.pfc_representation.specs.Processes.{IsAtLevel}
use Rattle.pfc_representation.proofs.Kept.{may_keep}
use Rattle.pfc_kept_messages.proofs.Others.{lender_waits}
use Rattle.pfc_kept_meetings.specs.Owners.{HasTypedEntries}
use Rattle.pfc_kept_meetings.specs.Accepts.{HasProcesses, KeepsAccepts}
use Rattle.pfc_kept_meetings.proofs.Apart.{AreApart}
use Rattle.pfc_kept_code.specs.Kept.{SeesAlike}
use Rattle.pfc_kept_meetings.proofs.Alike.{seen_alike}
use Rattle.pfc_kept_meetings.proofs.Anew as anew
use Rattle.pfc_kept_meetings.proofs.Anew.{AreOther, IsNewScope, sees_anew}
use Rattle.pfc_kept_meetings.proofs.Arguments.{first_with}
use Rattle.pfc_kept_meetings.proofs.Given.{is_passed, passed_there, may_lend, kept_lives, out_of}
use Rattle.pfc_kept_meetings.proofs.Owner as owner
use Rattle.pfc_kept_meetings.proofs.Giving as giving
use Rattle.pfc_kept_meetings.proofs.Parameters.{taken_other}

some_same : {A : Type 0} (x y : A) → Some x ≡ Some y → x ≡ y
some_same x y h = cc

more_lenders : (table : Table) (entries : Entries) (p r : ℕ) (lenders : List ℕ) (mine : List Entry) (n : ℕ) → MayKeep table entries p lenders mine n
    → MayKeep table entries p (r ∷ lenders) mine n
more_lenders table entries _ r _ _ _ (of_main p lenders mine) = of_main p (r ∷ lenders) mine
more_lenders table entries _ r _ _ _ (of_own_stack p lenders mine n among) = of_own_stack p (r ∷ lenders) mine n among
more_lenders table entries _ r _ _ _ (lent p lenders mine n k q others there met inner) = lent p (r ∷ lenders) mine n (suc k) q others there met inner

module _ (facts : Facts) (m : Machine) (c : Config) (homes : Homes) (entries : Entries) (alike : AreAlike facts homes entries m c) (q : ℕ) (level : LivingLevel)
    (stands : IsAtLevel facts homes entries c.store m.stacks c.table (holders_in facts c) q (activity_of (program_in facts) c q)
    (descriptor_of m.descriptors q) level)
    (own : level.setting.trial ≡ of_own) (there : q < length c.activities) (processes : HasProcesses facts.tree) (b : Block) (x : Context)
    (checked : IsChecked level.setting b x.env) (acc : Accepting)
    (accepts : AcceptsEntry level.setting.program.state.blocks b.scope acc.entry acc.scope)
    (typed : HasTypedEntries facts.tree) (runs : KeepsAccepts facts c) (of_block : is_accept b acc.scope ≡ true)
    (apart : AreApart b acc.scope level.setting.accepts) (args : List Value) (words : List ℤ)
    (hold : AreCells (program_in facts) homes (laid_parameters (entry_formals (program_in facts) q acc.entry)) args words)
    (given : (k : ℕ) (t : TypeId) → slice_get (laid_parameters (entry_formals (program_in facts) q acc.entry)) k ≡ Some (Variable t true)
    → (l : Location) × (get_or args k (ordinal (pos 0)) ≡ points l))
    (stacks' : Stacks)
    (same : (p : ℕ) → cells_of stacks' p
    ≡ cells_of (written m.stacks (parameter_cell q (accept_cell (site_of level.setting b x) acc.scope)) words) p)
    (size : length stacks' ≡ length m.stacks) (r : ℕ) (lenders_r : List ℕ) (kept : AreKept c.table entries r lenders_r args) (table' : Table)
    (stay : (p s : ℕ) → is_met_by (at c.table.rows p) s → at table'.rows p ≡ at c.table.rows p) (met : is_met_by (at table'.rows r) q)
    (main : Lives entries 0) where
  abbrev pub g : Program
  g = program_in facts

  abbrev pub i : ℕ
  i = acc.scope

  abbrev here : Site
  here = block_site g b

  abbrev pub act : Activation
  act = giving.act facts m c homes entries alike q level stands own there processes b x checked acc accepts typed runs of_block

  abbrev pub home : Home
  home = giving.home facts m c homes entries alike q level stands own there processes b x checked acc accepts typed runs of_block

  abbrev parameters : Layout
  parameters = giving.parameters facts m c homes entries alike q level stands own there processes b x checked acc accepts typed runs of_block

  abbrev pub from : ℕ
  from = giving.from facts m c homes entries alike q level stands own there processes b x checked acc accepts typed runs of_block

  abbrev pub to : ℕ
  to = giving.to facts m c homes entries alike q level stands own there processes b x checked acc accepts typed runs of_block

  abbrev pub w : ℤ
  w = word_of (last_activation m.stacks q)

  abbrev pub display : Display
  display = (activity_of g c q).display

  abbrev pub new_store : Store
  new_store = giving.new_store facts m c homes entries alike q level stands own there processes b x checked acc accepts typed runs of_block args words hold

  abbrev pub cells : List ℤ
  cells = (giving.given_cells facts m c homes entries alike q level stands own there processes b x checked acc accepts typed runs of_block args words hold
      stacks' same size).cells

  abbrev values : List Value
  values = values_in c.store act.number

  abbrev new_values : List Value
  new_values = values_in new_store act.number

  abbrev mine : List Entry
  mine = entries q

  -- ## Its values

  new_is : new_values ≡ taken_from from args values
  new_is = giving.new_values facts m c homes entries alike q level stands own there processes b x checked acc accepts typed runs of_block args words hold

  count : length args ≡ length parameters
  count = giving.count facts m c homes entries alike q level stands own there processes b x checked acc accepts typed runs of_block args words hold

  whole : from + length args ≤ length values
  whole =
      let stand = giving.stand facts m c homes entries alike q level stands own there processes b x checked acc accepts typed runs of_block in
      let in_layout : length b.layout ≡ length stand.before + length (parameters ++ stand.behind) =
      ap (λ (l : Layout). length l) stand.is ∙ length-append stand.before (parameters ++ stand.behind) in
      fits (length b.layout) (length stand.before) (length (parameters ++ stand.behind)) (length parameters) (length stand.behind) from (length args)
      (length values) (length new_values)
      in_layout (length-append parameters stand.behind) stand.place count
      (values_count g homes b.layout new_values cells (giving.given_cells facts m c homes entries alike q level stands own there processes b x checked acc
      accepts typed runs of_block args words hold stacks' same size).holds)
      (ap (λ (vs : List Value). length vs) new_is ∙ taken_length from args values)
    where
      fits : (l f r p z o n v u : ℕ) → l ≡ f + r → r ≡ p + z → f ≡ o → n ≡ p → u ≡ l → u ≡ v → o + n ≤ v
      fits l f r p z o n v u one two three four five six = grind (arith, one, two, three, four, five, six)

  pub places : (k : ℕ) → (from ≤ k → k < to → ⊥) → get_or new_values k (ordinal (pos 0)) ≡ get_or values k (ordinal (pos 0))
  places k out =
      ap (λ (vs : List Value). get_or vs k (ordinal (pos 0))) new_is
      ∙ taken_other from args values k (λ low high. out low (subst (λ n. k < from + n) count high))

  in_parameters : (k : ℕ) (t : TypeId) → from ≤ k → k < to → slice_get b.layout k ≡ Some (Variable t true)
      → slice_get parameters (k - from) ≡ Some (Variable t true)
  in_parameters k t low high laid =
      let stand = giving.stand facts m c homes entries alike q level stands own there processes b x checked acc accepts typed runs of_block in
      let behind : slice_get (stand.before ++ (parameters ++ stand.behind)) k ≡ slice_get (parameters ++ stand.behind) (k - length stand.before) =
      slice_back stand.before (parameters ++ stand.behind) k (subst (λ n. n ≤ k) (sym stand.place) low) in
      sym (slice_front parameters stand.behind (k - from) (near k from (length parameters) low high))
      ∙ ap (λ n. slice_get (parameters ++ stand.behind) (k - n)) (sym stand.place) ∙ sym behind
      ∙ ap (λ (l : Layout). slice_get l k) (sym stand.is) ∙ laid
    where
      near : (k f p : ℕ) → f ≤ k → k < f + p → k - f < p
      near k f p low high = omega (arith, low, high)

  pub given_at : (k : ℕ) (t : TypeId) → from ≤ k → k < to → slice_get b.layout k ≡ Some (Variable t true)
      → (l : Location) × (get_or new_values k (ordinal (pos 0)) ≡ points l) × (is_passed args l.activation ≡ true)
  given_at k t low high laid =
      let one = given (k - from) t
      (ap (λ (l : Layout). slice_get l (k - from)) (sym (giving.parameters_are facts m c homes entries alike q level stands own there processes b x checked acc
      accepts typed runs of_block)) ∙ in_parameters k t low high laid) in (
        one.0,
        ap (λ (vs : List Value). get_or vs k (ordinal (pos 0))) new_is
            ∙ ap (λ n. get_or (taken_from from args values) n (ordinal (pos 0))) (back k from low)
            ∙ taken_there from (k - from) args values (few k from (length parameters) (length args) low high count) whole ∙ one.1,
        passed_there args (k - from) one.0 one.1,
      )
    where
      back : (k f : ℕ) → f ≤ k → k ≡ f + (k - f)
      back k f low = omega (arith, low)

      few : (k f p n : ℕ) → f ≤ k → k < f + p → n ≡ p → k - f < n
      few k f p n low high same = omega (arith, low, high, same)

  -- ## What is other

  small : first_number home + length cells < 2 ^ 42
  small =
      is_addressed home.process home.cell (length cells) 1024
      (subst (λ n. n < 1024) (sym (owner.first facts m c homes entries alike q level stands own there processes b x checked acc.entry i accepts).stands.process)
      (under q (length m.stacks) (subst (λ n. q < n) (sym alike.words.stacks) there) alike.holds.few.processes))
      (grind arith)
      (subst (λ n. n + (8 + length cells) < 2 ^ 32) (sym (giving.at_bottom facts m c homes entries alike q level stands own there processes b x checked acc
      accepts typed runs of_block)) (least (length cells) (giving.given_cells facts m c homes entries alike q level stands own there processes b x checked
      acc accepts typed runs of_block args words hold stacks' same size).few))
    where
      under : (k n : ℕ) → k < n → n ≤ 1024 → k < 1024
      under k n h h' = grind (arith, h, h')

      least : (n : ℕ) → 8 + n < 2 ^ 32 → 0 + (8 + n) < 2 ^ 32
      least n h = grind (arith, h)

  module _ (keeps keeps' : ℕ → Bool) (open_ones shown chain : List ℕ)
      (sees : Sees g homes entries c.store keeps display b open_ones w chain level.setting.view) (more : (n : ℕ) → keeps n ≡ true → keeps' n ≡ true)
      (own_kept : keeps' act.number ≡ true) (live : (n : ℕ) → keeps' n ≡ true → Lives entries n)
      (lends : (v : Spot) (t : TypeId) → is_known g.state.blocks b shown v.scope ≡ true → links_to here v.scope ≡ 0 → v.variable < variables_of here v.scope
      → from ≤ place_of here v → place_of here v < to → slice_get b.layout (place_of here v) ≡ Some (Variable t true)
      → (l : Location) × (get_or new_values (place_of here v) (ordinal (pos 0)) ≡ points l) × (keeps' l.activation ≡ true)) where
    pub are_other : AreOther g alike.program.types.counted homes entries c.store new_store keeps keeps' display b open_ones w chain level.setting.view
        act.number
        home cells from to shown
    are_other =
        record {
          at = giving.at_home facts m c homes entries alike q level stands own there processes b x checked acc accepts typed runs of_block;
          is_layout = owner.its_layout facts m c homes entries alike q level stands own there processes b x checked acc.entry i accepts;
          process = q;
          entry = giving.e facts m c homes entries alike q level stands own there processes b x checked acc accepts typed runs of_block;
          living = owner.living facts m c homes entries alike q level stands own there processes b x checked acc.entry i accepts;
          number = (owner.first facts m c homes entries alike q level stands own there processes b x checked acc.entry i accepts).stands.number;
          word = (owner.first facts m c homes entries alike q level stands own there processes b x checked acc.entry i accepts).stands.word;
          head = owner.head_is facts m c homes entries alike q level stands own there processes b x checked acc.entry i accepts keeps chain sees.links;
          next = owner.main_apart facts m c homes entries alike q level stands own there processes b x checked acc.entry i accepts keeps chain sees.links;
          kept = more;
          kept_own = own_kept;
          live = live;
          holds = (giving.given_cells facts m c homes entries alike q level stands own there processes b x checked acc accepts typed runs of_block args words
              hold stacks' same size).holds;
          small = small;
          others = λ n other. values_kept c.store act.number (taken_from from args values) n other;
          places = places;
          sized = (owner.of_process facts m c homes entries alike q level stands own there processes b x checked acc.entry i accepts).sized;
          lent = lends;
          near = λ j known. owner.near facts m c homes entries alike q level stands own there processes b x checked acc.entry i accepts j;
        }

  abbrev pub view_then : View
  view_then = anew.view' g alike.program.types.counted homes entries c.store new_store (λ n. true) (λ n. true) display b [] w [] level.setting.view act.number
      home cells from to []

  -- ## With the accepts that were open

  abbrev SeenBefore : List ℕ → List ℕ → Type 0
  SeenBefore lenders open_ones =
      SeesWith facts homes entries c.store c.table q lenders mine w display level.setting level.setting.block open_ones level.setting.view

  abbrev SeenThen : List ℕ → List ℕ → Type 0
  SeenThen lenders open_ones =
      SeesWith facts homes entries new_store table' q lenders mine w display level.setting level.setting.block open_ones view_then

  same_block_is : (y : Block) → IsBeside level.setting level.setting.block y → y ≡ b
  same_block_is y beside = owner.beside_same facts m c homes entries alike q level stands own there processes b x checked acc.entry i accepts y beside

  kept_still : (p : ℕ) (lenders : List ℕ) (n : ℕ) → MayKeep c.table entries p lenders (entries p) n → MayKeep table' entries p lenders (entries p) n
  kept_still p lenders n may =
      may_keep c.table table' entries entries p lenders (entries p) n may
      (λ s lender. let waits = lender_waits c.table p s lender in (stay s waits.0 waits.1, refl))

  own_among : IsAmong act.number mine
  own_among = subst (λ n. IsAmong n mine) (owner.first facts m c homes entries alike q level stands own there processes b x checked acc.entry i
      accepts).stands.number (is_among (giving.e facts m c homes entries alike q level stands own there processes b x checked acc accepts typed runs of_block)
      mine (owner.living facts m c homes entries alike q level stands own there processes b x checked acc.entry i accepts))

  module _ (lenders open_ones : List ℕ) (open_apart : AreApart b i open_ones) (is : SeenBefore lenders open_ones) where
    abbrev outer_keeps : ℕ → Bool
    outer_keeps n = n == act.number || is.keeps n

    abbrev outer_sees : Sees g homes entries c.store is.keeps display b open_ones w is.chain level.setting.view
    outer_sees = is.sees b checked.beside

    outer_may : (n : ℕ) → ((n == act.number) ≡ true) ⊎ (is.keeps n ≡ true) → MayKeep table' entries q lenders mine n
    outer_may n (inl same_number) =
        subst (λ j. MayKeep table' entries q lenders mine j) (sym (same_of n act.number same_number)) (of_own_stack q lenders mine act.number own_among)
    outer_may n (inr may) = kept_still q lenders n (is.keeps_these n may)

    outer_lives : (n : ℕ) → outer_keeps n ≡ true → Lives entries n
    outer_lives n may = kept_lives table' entries q lenders mine n main refl (outer_may n (or_cases (n == act.number) (is.keeps n) may))

    outer_are : AreOther g alike.program.types.counted homes entries c.store new_store is.keeps outer_keeps display b open_ones w is.chain level.setting.view
        act.number home cells from to open_ones
    outer_are =
        are_other is.keeps outer_keeps open_ones open_ones is.chain outer_sees (λ n may. or_right (n == act.number) (is.keeps n) may)
        (or_left (act.number == act.number) (is.keeps act.number) (is_same act.number act.number refl)) outer_lives
        (λ v t known links own_variable low high laid. absurd (out_of facts m c homes entries alike q level stands own there processes b x checked acc accepts
        typed runs of_block open_ones open_apart v known links own_variable low high))

    with_outer : SeenThen lenders open_ones
    with_outer =
        record {
          keeps = outer_keeps;
          chain = act.number ∷ drop 1 is.chain;
          sees = λ y beside.
              subst (λ (z : Block). Sees g homes entries new_store outer_keeps display z open_ones w (act.number ∷ drop 1 is.chain) view_then)
              (sym (same_block_is y beside))
              (sees_anew g alike.program.types.counted homes entries c.store new_store is.keeps outer_keeps display b open_ones w is.chain level.setting.view
              act.number home cells from to open_ones outer_sees outer_are (λ j known. inl known));
          keeps_these = λ n may. outer_may n (or_cases (n == act.number) (is.keeps n) may);
        }

    -- a name that is known is seen as it was
    outer_alike : (v : Spot) (meaning : Meaning) → is_known g.state.blocks b open_ones v.scope ≡ true → v.variable < variables_of here v.scope
        → slice_get (layout_with here v.scope) (place_of here v) ≡ Some meaning → is_laid meaning ≡ true
        → SeesAlike level.setting.view view_then (links_to here v.scope) (cell_of here v)
    outer_alike v meaning known own_variable laid_there variable_laid =
        seen_alike g alike.program.types.counted homes entries c.store new_store is.keeps outer_keeps display b open_ones w is.chain level.setting.view
        act.number
        home cells from to open_ones outer_sees outer_are v meaning known own_variable laid_there variable_laid known
        (λ links low high. out_of facts m c homes entries alike q level stands own there processes b x checked acc accepts typed runs of_block open_ones
        open_apart v known links own_variable low high)

  -- ## With the accept that begins

  abbrev open_before : List ℕ
  open_before = level.setting.accepts

  new_or_known : (j : ℕ) → is_known g.state.blocks b (i ∷ open_before) j ≡ true → (is_known g.state.blocks b open_before j ≡ true) ⊎ (i ≡ j)
  new_or_known j known =
      by (or_cases (is_mains g.state.blocks j) (around || ((i == j) || among)) known)
    where
      around : Bool
      around = list_any (λ n. n == j) (linked g.state.blocks b.env.view)

      among : Bool
      among = list_any (λ n. n == j) open_before

      by_open : ((i == j) ≡ true) ⊎ (among ≡ true) → (is_known g.state.blocks b open_before j ≡ true) ⊎ (i ≡ j)
      by_open (inl same_scope) = inr (same_of i j same_scope)
      by_open (inr is) = inl (or_right (is_mains g.state.blocks j) (around || among) (or_right around among is))

      by_around : (around ≡ true) ⊎ (((i == j) || among) ≡ true) → (is_known g.state.blocks b open_before j ≡ true) ⊎ (i ≡ j)
      by_around (inl is) = inl (or_right (is_mains g.state.blocks j) (around || among) (or_left around among is))
      by_around (inr is) = by_open (or_cases (i == j) among is)

      by : (is_mains g.state.blocks j ≡ true) ⊎ ((around || ((i == j) || among)) ≡ true) → (is_known g.state.blocks b open_before j ≡ true) ⊎ (i ≡ j)
      by (inl mains) = inl (or_left (is_mains g.state.blocks j) (around || among) mains)
      by (inr other) = by_around (or_cases around ((i == j) || among) other)

  with_new : (lenders : List ℕ) → SeenBefore lenders open_before → SeenThen (r ∷ lenders) (i ∷ open_before)
  with_new lenders is =
      record {
        keeps = keeps';
        chain = act.number ∷ drop 1 is.chain;
        sees = λ y beside.
            subst (λ (z : Block). Sees g homes entries new_store keeps' display z (i ∷ open_before) w (act.number ∷ drop 1 is.chain) view_then)
            (sym (same_block_is y beside))
            (sees_anew g alike.program.types.counted homes entries c.store new_store is.keeps keeps' display b open_before w is.chain level.setting.view
            act.number home cells from to (i ∷ open_before) sees_b
            (are_other is.keeps keeps' open_before (i ∷ open_before) is.chain sees_b
            (λ n may. or_right (n == act.number) (is.keeps n || is_passed args n) (or_left (is.keeps n) (is_passed args n) may))
            (or_left (act.number == act.number) (is.keeps act.number || is_passed args act.number) (is_same act.number act.number refl)) lives_so
            (λ v t known links own_variable low high laid. let one = given_at (place_of here v) t low high laid in (
              one.0,
              one.1,
              or_right (one.0.activation == act.number) (is.keeps one.0.activation || is_passed args one.0.activation)
                  (or_right (is.keeps one.0.activation) (is_passed args one.0.activation) one.2),
            )))
            more);
        keeps_these = λ n may. by n (or_cases (n == act.number) (is.keeps n || is_passed args n) may);
      }
    where
      keeps' : ℕ → Bool
      keeps' n = n == act.number || (is.keeps n || is_passed args n)

      sees_b : Sees g homes entries c.store is.keeps display b open_before w is.chain level.setting.view
      sees_b = is.sees b checked.beside

      more : (j : ℕ) → is_known g.state.blocks b (i ∷ open_before) j ≡ true
          → (is_known g.state.blocks b open_before j ≡ true)
          ⊎ IsNewScope g alike.program.types.counted homes entries c.store new_store is.keeps keeps' display b open_before w is.chain level.setting.view
          act.number home cells from to (i ∷ open_before) j
      more j known = by_scope (new_or_known j known)
        where
          at_i : IsNewScope g alike.program.types.counted homes entries c.store new_store is.keeps keeps' display b open_before w is.chain level.setting.view
              act.number home cells from to (i ∷ open_before) i
          at_i =
              record {
                frame = giving.frame_is facts m c homes entries alike q level stands own there processes b x checked acc accepts typed runs of_block ∙ ap (λ n.
                    record { scope = i; activation = act.number; first = n }) (sym (giving.before_is facts m c homes entries alike q level stands own there
                    processes b x checked acc accepts typed runs of_block));
                links = giving.links_new facts m c homes entries alike q level stands own there processes b x checked acc accepts typed runs of_block;
                laid = giving.laid_new facts m c homes entries alike q level stands own there processes b x checked acc accepts typed runs of_block;
                low = λ v same_scope few.
                    low from v.variable (laid_before here v.scope) (ap (λ n. laid_before here n) same_scope ∙ giving.before_is facts m c homes entries alike q
                    level stands own there processes b x checked acc accepts typed runs of_block);
                high = λ v same_scope few.
                    high from v.variable (laid_before here v.scope) (length parameters) (ap (λ n. laid_before here n) same_scope ∙ giving.before_is facts m c
                    homes entries alike q level stands own there processes b x checked acc accepts typed runs of_block)
                    (subst (λ n. v.variable < n) (giving.variables_new facts m c homes entries alike q level stands own there processes b x checked acc accepts
                    typed runs of_block) few);
              }
            where
              low : (f k l : ℕ) → l ≡ f → f ≤ l + k
              low f k l is = grind (arith, is)

              high : (f k l p : ℕ) → l ≡ f → k < p → l + k < f + p
              high f k l p is less = grind (arith, is, less)

          by_scope : (is_known g.state.blocks b open_before j ≡ true) ⊎ (i ≡ j)
              → (is_known g.state.blocks b open_before j ≡ true)
              ⊎ IsNewScope g alike.program.types.counted homes entries c.store new_store is.keeps keeps' display b open_before w is.chain level.setting.view
              act.number home cells from to (i ∷ open_before) j
          by_scope (inl before) = inl before
          by_scope (inr same_scope) =
              inr
              (subst
              (λ n. IsNewScope g alike.program.types.counted homes entries c.store new_store is.keeps keeps' display b open_before w is.chain level.setting.view
              act.number home cells from to (i ∷ open_before) n) same_scope at_i)

      by_kept : (n : ℕ) → (is.keeps n ≡ true) ⊎ (is_passed args n ≡ true) → MayKeep table' entries q (r ∷ lenders) mine n
      by_kept n (inl may) = more_lenders table' entries q r lenders mine n (kept_still q lenders n (is.keeps_these n may))
      by_kept n (inr passed) =
          lent q (r ∷ lenders) mine n 0 r lenders_r refl met (kept_still r lenders_r n (may_lend c.table entries r lenders_r args n kept passed))

      by : (n : ℕ) → ((n == act.number) ≡ true) ⊎ ((is.keeps n || is_passed args n) ≡ true) → MayKeep table' entries q (r ∷ lenders) mine n
      by n (inl same_number) =
          subst (λ j. MayKeep table' entries q (r ∷ lenders) mine j) (sym (same_of n act.number same_number))
          (of_own_stack q (r ∷ lenders) mine act.number own_among)
      by n (inr may) = by_kept n (or_cases (is.keeps n) (is_passed args n) may)

      lives_so : (n : ℕ) → keeps' n ≡ true → Lives entries n
      lives_so n may =
          kept_lives table' entries q (r ∷ lenders) mine n main refl (by n (or_cases (n == act.number) (is.keeps n || is_passed args n) may))

  -- ## With all of them

  apart_later : (j : ℕ) (open_ones : List ℕ) → AreApart b i (j ∷ open_ones) → AreApart b i open_ones
  apart_later j open_ones open_apart n among = open_apart n (or_right (j == n) (list_any (λ y. y == n) open_ones) among)

  through_outer : (others open_ones meetings : List ℕ) → AreApart b i open_ones
      → SeesThrough facts homes entries c.store c.table q mine w display level.setting level.setting.block level.setting.view others open_ones meetings
      → SeesThrough facts homes entries new_store table' q mine w display level.setting level.setting.block view_then others open_ones meetings
  through_outer others [] [] open_apart is = with_outer others [] open_apart is
  through_outer others (j ∷ open_ones) (p ∷ meetings) open_apart is = (
    with_outer (p ∷ meetings ++ others) (j ∷ open_ones) open_apart is.0,
    through_outer others open_ones meetings (apart_later j open_ones open_apart) is.1,
  )
  through_outer others [] (p ∷ meetings) open_apart is = absurd is
  through_outer others (j ∷ open_ones) [] open_apart is = absurd is

  pub alike_so : (others : List ℕ)
      → SeesThrough facts homes entries c.store c.table q mine w display level.setting level.setting.block level.setting.view others open_before
      level.setting.meetings
      → (v : Spot) (meaning : Meaning) → is_known g.state.blocks b open_before v.scope ≡ true → v.variable < variables_of here v.scope
      → slice_get (layout_with here v.scope) (place_of here v) ≡ Some meaning → is_laid meaning ≡ true
      → SeesAlike level.setting.view view_then (links_to here v.scope) (cell_of here v)
  alike_so others is v meaning known own_variable laid_there variable_laid =
      outer_alike (level.setting.meetings ++ others) open_before apart
      (first_with facts homes entries c.store c.table q mine w display level.setting level.setting.block level.setting.view others open_before
      level.setting.meetings is)
      v meaning known own_variable laid_there variable_laid

  pub seen_then : (others : List ℕ)
      → SeesThrough facts homes entries c.store c.table q mine w display level.setting level.setting.block level.setting.view others open_before
      level.setting.meetings
      → SeesThrough facts homes entries new_store table' q mine w display level.setting level.setting.block view_then others (i ∷ open_before)
      (r ∷ level.setting.meetings)
  seen_then others is = (
    with_new (level.setting.meetings ++ others)
        (first_with facts homes entries c.store c.table q mine w display level.setting level.setting.block level.setting.view others open_before
        level.setting.meetings is),
    through_outer others open_before level.setting.meetings apart is,
  )
