-- The beginning of an activation, on both sides.
use Rattle.std.proofs.Common.{◌≡◌, ℕ, ◌+◌, ◌<◌, List, [], ◌∷◌, ◌++◌, length, map, drop, set, get_or, Result, Ok, Err, OnErr, refl, sym, ap, ◌∙◌, subst}
use Rattle.std.proofs.lemmas.List.{map-set, set-set, get_or-set_same, length-set}
use Rattle.pfc_program.specs.declared.tables.Tables.{Tables}
use Rattle.pfc_program.specs.declared.blocks.Block.{Block as HeldBlock}
use Rattle.pfc_program.specs.Views.{block_view, blocks_view}
use Rattle.pfc_world.specs.Tables.{Table}
use Rattle.pfc_store.specs.Views.{store_view, values_view}
use Rattle.pfc_store.specs.declared.values.Value.{Value as HeldValue}
use Rattle.pfc_semantics.specs.Values.{Value, points}
use Rattle.pfc_semantics.specs.Objects.{all_first, first_laid}
use Rattle.pfc_semantics.specs.Store.{Store, with_room}
use Rattle.pfc_semantics.specs.Displays.{Display, located, outward}
use Rattle.pfc_semantics.specs.Programs.{Block, Program, found_block, block_at}
use Rattle.pfc_semantics.specs.Remainders as remainders
use Rattle.pfc_semantics.specs.Remainders.{Action, Remainder, by_value, by_reference}
use Rattle.pfc_semantics.specs.Rewriting.{from_remainder, going}
use Rattle.pfc_semantics.specs.Configurations as configurations
use Rattle.pfc_semantics.specs.Configurations.{Config, Mark, Activation, empty_hand, activity_of, all_passed}
use Rattle.pfc_semantics.specs.Calls.{new_number, new_values, new_display, new_activation, cells_above}
use Rattle.pfc_pending.specs.declared.pending.Argument.{Argument}
use Rattle.pfc_pending.specs.Waiting.{given_view}
use Rattle.pfc_activities.specs.declared.activities.Activity.{Activity}
use Rattle.pfc_activities.specs.declared.activities.Activation.{Activation as HeldActivation}
use Rattle.pfc_activities.specs.declared.activities.Doing.{Doing}
use Rattle.pfc_activities.specs.declared.source.Source.{Source}
use Rattle.pfc_activities.specs.declared.state.State.{State}
use Rattle.pfc_activities.specs.Programs.{IsProgram}
use Rattle.pfc_activities.specs.Relation.{IsBefore, IsAt, StaysAt, shown_before}
use Rattle.pfc_activities.specs.Shown.{Shown, shown, activity_shown, activities_shown}
use Rattle.pfc_activities.specs.Views.{doing_ahead, activations_view, mark_view}
use Rattle.pfc_activities.proofs.Acting.{acting_is, display_is, activations_are, change_one}
use Rattle.pfc_activating.specs.declared.entering.Entry.{Entry}
use Rattle.pfc_activating.specs.Cells.{HasCells}
use Rattle.pfc_activating.specs.Entering.{caller_of, values_in, entered, IsAlike, Activates}
use Rattle.pfc_activating.specs.Passing.{passed_in}

-- what stands after a refusal
pub on_err : {T E P : Type 0} (r : Result T E) → P → OnErr r P
on_err (Ok v) holds = tt
on_err (Err e) holds = holds

-- ## Arguments

pub passed_are :
    (g : Program) (c : Config) (p : ℕ) (args : List remainders.Argument)
    → map (passed_in c.store (activity_of g c p).display) args ≡ all_passed g c p args
passed_are g c p [] = refl
passed_are g c p (by_value v ∷ args) = ap (λ (l : List Value). v ∷ l) (passed_are g c p args)
passed_are g c p (by_reference s ∷ args) =
    ap (λ (l : List Value). points (located c.store (activity_of g c p).display s) ∷ l) (passed_are g c p args)

-- ## Blocks

-- a block that was found is that of the definitions
pub block_is :
    (source : Source) (g : Program) (scope : ℕ) (held : HeldBlock)
    → IsProgram source g
    → block_view source.program.tables held
    ≡ found_block (blocks_view source.program.tables source.program.blocks.items) scope (block_view source.program.tables source.program.main)
    → block_view source.program.tables held ≡ block_at g scope
block_is source g scope held program is = is ∙ ap (λ (x : Program). block_at x scope) (sym program.is)

-- what the code passes is what the definitions do
pub values_are :
    (t : Tables) (g : Program) (s : State) (c : Config) (p : ℕ) (display : Display) (held : HeldBlock) (args : List remainders.Argument)
    → store_view s.store ≡ c.store → (activity_of g c p).display ≡ display → g.firsts ≡ all_first t.types.now
    → values_in t.types.now held.layout.items (map (passed_in (store_view s.store) display) args)
    ≡ new_values g (block_view t held) (all_passed g c p args)
values_are t g s c p display held args store seen firsts =
    let by : List Value → List Value = values_in t.types.now held.layout.items in
    let all : List Value = all_passed g c p args in
    ap (λ (x : Store). by (map (passed_in x display) args)) store ∙ ap (λ (x : Display). by (map (passed_in c.store x) args)) (sym seen)
    ∙ ap by (passed_are g c p args)
    ∙ ap (λ (f : List Value). all ++ drop (length all) (map (first_laid f) held.layout.items)) (sym firsts)

-- ## Room for one more

-- the process may stand where it stood
pub stays_with_room :
    (s new : State) (p : ℕ) (found b : Activity)
    → found ≡ get_or s.activities.items p found → IsAlike found b
    → new ≡ record s { activities = new.activities; store = new.store } → new.activities.items ≡ set s.activities.items p b
    → store_view new.store ≡ store_view s.store → StaysAt s new p
stays_with_room s new p found b is alike new_is items store source c a n is_at =
    let t : Tables = source.program.tables in
    let before : IsBefore source s c p a n = is_at.before in
    let same : found ≡ a = is ∙ before.there.is found in
    let seen : activity_shown t b ≡ activity_shown t a = alike.seen t ∙ ap (activity_shown t) same in
    let many : length new.activities.items ≡ length s.activities.items = ap length items ∙ length-set s.activities.items p b in
    let doing : b.doing ≡ a.doing = alike.doing ∙ ap (λ (z : Activity). z.doing) same in
    let at : IsAt source new c p b n
    = record {
      before = record {
        hand = before.hand;
        there = record {
          within = subst (λ k. p < k) (sym many) before.there.within;
          is = λ d. ap (λ (l : List Activity). get_or l p d) items ∙ get_or-set_same s.activities.items p b d before.there.within;
        };
        activities =
            before.activities
            ∙ sym (ap (λ (l : List Activity). set (activities_shown t l) p (shown_before source b n before.hand)) items
            ∙ ap (λ (l : List Shown). set l p (shown_before source b n before.hand)) (map-set (activity_shown t) s.activities.items p b)
            ∙ set-set (activities_shown t s.activities.items) p (activity_shown t b) (shown_before source b n before.hand)
            ∙ ap (λ (x : Shown). (let y : Shown = record x { next = n; hand = before.hand } in set (activities_shown t s.activities.items) p y)) seen);
        agrees = record {
          table = ap (λ (x : State). x.world) new_is ∙ before.agrees.table;
          counts = ap (λ (x : State). x.semaphores) new_is ∙ before.agrees.counts;
          monitors = ap (λ (x : State). x.monitors.holders) new_is ∙ before.agrees.monitors;
          resources = ap (λ (x : State). x.resources) new_is ∙ before.agrees.resources;
          store = store ∙ before.agrees.store;
          input = ap (λ (x : State). x.input) new_is ∙ before.agrees.input;
          words = ap (λ (x : State). x.draws) new_is ∙ before.agrees.words;
          count = many ∙ before.agrees.count;
          conditions = ap (λ (x : State). x.monitors.owners) new_is ∙ before.agrees.conditions;
        };
      };
      quiet = is_at.quiet;
    } in (
      b,
      at,
      record {
        names = ap (λ (x : Doing). x.names) doing;
        line = ap (λ (x : Doing). x.line) doing;
        pending = ap (λ (x : Doing). x.pending.items) doing;
      },
    )

-- nothing was done
pub stays : (s : State) (p : ℕ) → StaysAt s s p
stays s p source c a n is_at = (a, is_at, record { names = refl; line = refl; pending = refl })

-- ## The activation

-- what a process shows in a new activation of a block
abbrev in_block : Block → Remainder → Mark → configurations.Caller → ℕ → Display → List Activation → ℕ → Shown
in_block blk k mark caller number display activations line =
    record {
      next = from_remainder blk.env k;
      display = record { scope = blk.scope; activation = number; first = 0 } ∷ outward display blk.outer;
      activations =
          record { number = number; scope = blk.scope; mark = mark; caller = caller; display = display; cells = cells_above activations blk } ∷ activations;
      hand = empty_hand;
      line = line;
    }

-- of what the process was that enters it, the room makes no difference
entered_alike :
    (t : Tables) (a b : Activity) (number scope : ℕ) (entry : Entry) (doing : Doing) (display : Display)
    → IsAlike a b → entered t b number scope entry doing display ≡ entered t a number scope entry doing display
entered_alike t a b number scope entry doing display alike =
    let of : Doing → Display → List HeldActivation → ℕ → Shown
    = λ at back below line. record {
      next = doing_ahead t doing;
      display = display;
      activations =
          record { number = number; scope = scope; mark = mark_view entry.mark; caller = caller_of t at entry.waits; display = back; cells = entry.cells }
          ∷ activations_view t below;
      hand = empty_hand;
      line = line;
    } in
    ap (λ (x : Doing). of x b.display b.activations.items b.line) alike.doing
    ∙ ap (λ (x : Display). of a.doing x b.activations.items b.line) alike.display
    ∙ ap (λ (x : List HeldActivation). of a.doing a.display x b.line) alike.activations
    ∙ ap (λ (x : ℕ). of a.doing a.display a.activations.items x) alike.line

-- the code shows that
entered_is :
    (t : Tables) (a : Activity) (number : ℕ) (entry : Entry) (doing : Doing) (display : Display) (held : HeldBlock) (k : Remainder)
    → doing_ahead t doing ≡ from_remainder (block_view t held).env k
    → display ≡ record { scope = held.scope; activation = number; first = 0 } ∷ outward a.display held.outer
    → cells_above (activations_view t a.activations.items) (block_view t held) ≡ entry.cells
    → entered t a number held.scope entry doing display
    ≡ in_block (block_view t held) k (mark_view entry.mark) (caller_of t a.doing entry.waits) number a.display (activations_view t a.activations.items) a.line
entered_is t a number entry doing display held k ahead in_view cells =
    let of : Action → Display → ℕ → Shown
    = λ next inner cells. record {
      next = next;
      display = inner;
      activations =
          record {
            number = number;
            scope = held.scope;
            mark = mark_view entry.mark;
            caller = caller_of t a.doing entry.waits;
            display = a.display;
            cells = cells;
          }
          ∷ activations_view t a.activations.items;
      hand = empty_hand;
      line = a.line;
    } in
    ap (λ (m : Action). of m display entry.cells) ahead
    ∙ ap (λ (inner : Display). of (from_remainder (block_view t held).env k) inner entry.cells) in_view
    ∙ ap (of (from_remainder (block_view t held).env k) (record {
      scope = held.scope;
      activation = number;
      first =
          0;
    } ∷ outward a.display held.outer)) (sym cells)

pub activated_so :
    (source : Source) (s new : State) (p : ℕ) (held : HeldBlock) (entry : Entry) (doing : Doing) (args : List Argument) (number : ℕ) (display : Display)
    (values : List HeldValue) (found moved b opened y : Activity)
    → found ≡ get_or s.activities.items p found → moved ≡ get_or s.activities.items p moved → IsAlike moved b
    → opened ≡ get_or (set s.activities.items p b) p opened → HasCells s p held entry.cells → number ≡ s.world.done + 1
    → display ≡ record { scope = held.scope; activation = number; first = 0 } ∷ outward found.display held.outer
    → values_view values ≡ values_in source.program.tables.types.now held.layout.items (map (passed_in (store_view s.store) found.display) (given_view args))
    → activity_shown source.program.tables y ≡ entered source.program.tables opened number held.scope entry doing display
    → new ≡ record s { activities = new.activities; store = new.store } → new.activities.items ≡ set (set s.activities.items p b) p y
    → store_view new.store ≡ with_room (store_view s.store) number (values_view values)
    → Activates source s new p held entry doing args
activated_so source s new p held entry doing args number display values found moved b opened y is moved_is alike opened_is cells numbered in_view given shows
    new_is twice store g c a n k program is_at ahead =
    let t : Tables = source.program.tables in
    let before : IsBefore source s c p a n = is_at.before in
    let block : Block = block_view t held in
    let caller : configurations.Caller = caller_of t a.doing entry.waits in
    let mark : Mark = mark_view entry.mark in
    let old : configurations.Activity = activity_of g c p in
    let vs : List Value = new_values g block (all_passed g c p (given_view args)) in
    let same : found ≡ a = is ∙ before.there.is found in
    let counted : number ≡ new_number c = numbered ∙ ap (λ (w : Table). w.done + 1) before.agrees.table in
    let seen : old.display ≡ a.display = display_is source g s c p a n before in
    let living : old.activations ≡ activations_view t a.activations.items = activations_are source g s c p a n before in
    let firsts : g.firsts ≡ all_first t.types.now = ap (λ (x : Program). x.firsts) program.is in
    let w : configurations.Activity
    = record (configurations.at_work old (going block.env k)) {
      display = new_display c block old.display;
      activations = new_activation c old old.activations block mark caller old.display ∷ old.activations;
    } in
    let there : opened ≡ b = opened_is ∙ get_or-set_same s.activities.items p b opened before.there.within in
    let items : new.activities.items ≡ set s.activities.items p y = twice ∙ set-set s.activities.items p b y in
    let shows_block : activity_shown t y ≡ in_block block k mark caller number a.display (activations_view t a.activations.items) a.line
    = shows ∙ ap (λ (x : Activity). entered t x number held.scope entry doing display) there
    ∙ entered_alike t moved b number held.scope entry doing display alike
    ∙ ap (λ (x : Activity). entered t x number held.scope entry doing display) (moved_is ∙ before.there.is moved)
    ∙ entered_is t a number entry doing display held k ahead
    (in_view ∙ ap (λ (x : Activity). record { scope = held.scope; activation = number; first = 0 } ∷ outward x.display held.outer) same)
    (cells a before.there t) in
    let agreed : shown w ≡ activity_shown t y
    = ap (λ (x : Display). in_block block k mark caller (new_number c) x old.activations old.line) seen
    ∙ ap (λ (x : List Activation). in_block block k mark caller (new_number c) a.display x old.line) living
    ∙ ap (λ (x : Shown). in_block block k mark caller (new_number c) a.display (activations_view t a.activations.items) x.line)
    (acting_is source g s c p a n before)
    ∙ ap (λ (x : ℕ). in_block block k mark caller x a.display (activations_view t a.activations.items) a.line) (sym counted)
    ∙ sym shows_block in
    let stored : store_view new.store ≡ with_room c.store (new_number c) vs
    = store ∙ ap (λ (x : Store). with_room x number (values_view values)) before.agrees.store
    ∙ ap (λ (x : ℕ). with_room c.store x (values_view values)) counted
    ∙ ap (with_room c.store (new_number c))
    (given ∙ ap (λ (x : Activity). values_in t.types.now held.layout.items (map (passed_in (store_view s.store) x.display) (given_view args))) same
    ∙ values_are t g s c p a.display held (given_view args) before.agrees.store seen firsts) in
    let many : length new.activities.items ≡ length s.activities.items = ap length items ∙ length-set s.activities.items p y in (
      y,
      record {
        within = subst (λ x. p < x) (sym many) before.there.within;
        is = λ d. ap (λ (l : List Activity). get_or l p d) items ∙ get_or-set_same s.activities.items p y d before.there.within;
      },
      record {
        activities =
            change_one t c.activities s.activities.items p w y (shown_before source a n before.hand) before.activities agreed
            ∙ ap (activities_shown t) (sym items);
        agrees = record {
          table = ap (λ (x : State). x.world) new_is ∙ before.agrees.table;
          counts = ap (λ (x : State). x.semaphores) new_is ∙ before.agrees.counts;
          monitors = ap (λ (x : State). x.monitors.holders) new_is ∙ before.agrees.monitors;
          resources = ap (λ (x : State). x.resources) new_is ∙ before.agrees.resources;
          store = stored;
          input = ap (λ (x : State). x.input) new_is ∙ before.agrees.input;
          words = ap (λ (x : State). x.draws) new_is ∙ before.agrees.words;
          count = many ∙ before.agrees.count;
          conditions = ap (λ (x : State). x.monitors.owners) new_is ∙ before.agrees.conditions;
        };
      },
    )
