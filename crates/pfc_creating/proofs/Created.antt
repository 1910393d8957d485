-- The activation of a process, on both sides.
use Rattle.std.proofs.Common.{◌≡◌, ◌≢◌, ℕ, zero, suc, ◌+◌, ◌<◌, Bool, true, false, List, [], ◌∷◌, ◌++◌, length, map, set, get_or, Ok, Err, refl, sym, ap, ◌∙◌}
use Rattle.std.proofs.Common.{subst}
use Rattle.std.specs.Prelude.{nat_le, if◌then◌else◌}
use Rattle.std.proofs.lemmas.Bool.{false≢true}
use Rattle.std.proofs.lemmas.List.{append-nil, map-set, set-get_or, get_or-map, get_or-set_other, length-set}
use Rattle.pfc_base.specs.declared.faults.RunFault.TheVariants.{Active, Stack}
use Rattle.pfc_types.specs.Blocks.{Blocks}
use Rattle.pfc_types.specs.Scopes.{scope_at}
use Rattle.pfc_state.specs.Stands.{Stand, Is_idle, Is_created, Is_ready, Waits, Is_done, state_of, is_unfinished}
use Rattle.pfc_world.specs.Tables.{Table}
use Rattle.pfc_world.specs.Tables as tables
use Rattle.pfc_world.specs.Transitions.{placed}
use Rattle.pfc_program.specs.declared.tables.Tables.{Tables}
use Rattle.pfc_program.specs.declared.blocks.Block.{Block as HeldBlock}
use Rattle.pfc_program.specs.Views.{block_view}
use Rattle.pfc_store.specs.Views.{spot_view, store_view, values_view}
use Rattle.pfc_store.specs.declared.spots.Spot.{Spot}
use Rattle.pfc_store.specs.declared.values.Value.{Value as HeldValue}
use Rattle.pfc_semantics.specs.Values.{Value}
use Rattle.pfc_semantics.specs.Objects.{all_first}
use Rattle.pfc_semantics.specs.Store.{Store, with_room}
use Rattle.pfc_semantics.specs.Displays.{Display, accept_frames}
use Rattle.pfc_semantics.specs.Layouts.{laid_names}
use Rattle.pfc_semantics.specs.Processes.{process_block, process_display, created, creates}
use Rattle.pfc_semantics.specs.Programs.{Block, Program}
use Rattle.pfc_semantics.specs.Remainders.{Context, Action, Remainder}
use Rattle.pfc_semantics.specs.Rewriting.{from_remainder, going}
use Rattle.pfc_semantics.specs.Configurations as configurations
use Rattle.pfc_semantics.specs.Configurations.{Config, Effect, plain, of_nobody, empty_hand, nobody, activity_of, all_passed, goes_on, number_for, body_of}
use Rattle.pfc_semantics.specs.Calls.{new_number, new_values, new_activation, cells_above, most_cells, unless_full}
use Rattle.pfc_pending.specs.declared.at_hand.At.TheVariants as at
use Rattle.pfc_pending.specs.declared.pending.Argument.{Argument}
use Rattle.pfc_pending.specs.Waiting.{remainder_of, given_view}
use Rattle.pfc_activities.specs.declared.activities.Activation.{Activation as HeldActivation}
use Rattle.pfc_activities.specs.declared.activities.Activity.{Activity}
use Rattle.pfc_activities.specs.declared.activities.Doing.{Doing}
use Rattle.pfc_activities.specs.declared.changes.Done.{Done}
use Rattle.pfc_activities.specs.declared.source.Source.{Source}
use Rattle.pfc_activities.specs.declared.state.State.{State}
use Rattle.pfc_activities.specs.Programs.{IsProgram}
use Rattle.pfc_activities.specs.Relation.{IsBefore, IsFault, StaysAt, shown_before}
use Rattle.pfc_activities.specs.Shown.{Shown, shown, activity_shown, activities_shown}
use Rattle.pfc_activities.specs.Views.{context_of, pending_of, doing_ahead, activations_view}
use Rattle.pfc_activities.proofs.Acting.{as_many, display_is}
use Rattle.pfc_waiting.specs.Waiting.{IsNumber, GoesOnWhenReady}
use Rattle.pfc_waiting.proofs.Waiting.{number_is}
use Rattle.pfc_activating.specs.Entering.{values_in}
use Rattle.pfc_activating.specs.Passing.{passed_in}
use Rattle.pfc_activating.proofs.Activated.{values_are, stays_with_room}
use Rattle.pfc_creating.specs.Creating.{is_under_way, block_in, Begins, Creates}

-- ## Two processes

-- changes in two places
set_apart : {A : Type 0} (xs : List A) (i j : ℕ) (x y : A) → i ≢ j → set (set xs i x) j y ≡ set (set xs j y) i x
set_apart [] i j x y apart = refl
set_apart (z ∷ xs) zero zero x y apart = absurd (apart refl)
set_apart (z ∷ xs) zero (suc j) x y apart = refl
set_apart (z ∷ xs) (suc i) zero x y apart = refl
set_apart (z ∷ xs) (suc i) (suc j) x y apart = ap (λ l. z ∷ l) (set_apart xs i j x y (λ e. apart (ap suc e)))

-- who is created does not act
pub are_apart : (rows : List Stand) (p n : ℕ) → tables.at rows p ≡ Is_ready → is_unfinished (tables.at rows n) ≡ false → n ≢ p
are_apart rows p n ready free same = absurd (false≢true (sym free ∙ ap (λ (i : ℕ). is_unfinished (tables.at rows i)) same ∙ ap is_unfinished ready))

-- what another process shows in the definitions
other_is :
    (source : Source) (g : Program) (s : State) (c : Config) (p n : ℕ) (a b : Activity) (m : Action)
    → IsBefore source s c p a m → n ≢ p → n < length s.activities.items → b ≡ get_or s.activities.items n b
    → shown (activity_of g c n) ≡ activity_shown source.program.tables b
other_is source g s c p n a b m before apart within is =
    let t : Tables = source.program.tables in
    let here : n < length c.activities
    = subst (λ k. n < k) (sym (as_many t c.activities s.activities.items p (shown_before source a m before.hand) before.activities)) within in
    sym (get_or-map shown c.activities n (nobody g) (activity_shown t b) here)
    ∙ ap (λ (l : List Shown). get_or l n (activity_shown t b)) before.activities
    ∙ get_or-set_other (activities_shown t s.activities.items) p n (shown_before source a m before.hand) (activity_shown t b) apart
    ∙ get_or-map (activity_shown t) s.activities.items n b (activity_shown t b) within
    ∙ ap (activity_shown t) (sym is)

-- whether it is unfinished, by its state
pub under_way_is : (stand : Stand) → is_under_way (state_of stand) ≡ is_unfinished stand
under_way_is Is_idle = refl
under_way_is Is_created = refl
under_way_is Is_ready = refl
under_way_is (Waits why ticket arms) = refl
under_way_is Is_done = refl

-- ## Room

-- the store has more room
pub stays_with_store :
    (s new : State) (p : ℕ) → new ≡ record s { store = new.store } → store_view new.store ≡ store_view s.store → StaysAt s new p
stays_with_store s new p is store source c a n is_at =
    stays_with_room s new p a a (sym (is_at.before.there.is a))
    (record { doing = refl; display = refl; seen = λ t. refl; activations = refl; line = refl })
    (is ∙ ap (λ v. (let x : State = record s { activities = v; store = new.store } in x)) (sym (ap (λ (x : State). x.activities) is)))
    (ap (λ (x : State). x.activities.items) is ∙ sym (set-get_or s.activities.items p a)
    ∙ ap (λ (z : Activity). set s.activities.items p z) (is_at.before.there.is a))
    store source c a n is_at

-- ## The process that is created

-- what a process shows in its first activation
abbrev in_first : Program → Block → ℕ → ℕ → ℕ → Shown
in_first g blk number cells line =
    record {
      next = from_remainder blk.env (body_of blk);
      display =
          record { scope = blk.scope; activation = number; first = 0 }
          ∷ accept_frames g.state.blocks number blk.accepts blk.next (length (laid_names (scope_at g.state.blocks.scopes blk.scope)));
      activations = record { number = number; scope = blk.scope; mark = plain; caller = of_nobody; display = []; cells = cells } ∷ [];
      hand = empty_hand;
      line = line;
    }

-- the code shows that
in_first_is :
    (source : Source) (g : Program) (number cells line : ℕ) (held : HeldBlock) (doing : Doing) (display : Display) (first : List HeldActivation)
    → IsProgram source g
    → doing_ahead source.program.tables doing ≡ from_remainder (block_view source.program.tables held).env (body_of (block_view source.program.tables held))
    → display
    ≡ record { scope = held.scope; activation = number; first = 0 }
    ∷ accept_frames source.program.tables.scopes.now number held.accepts held.next
    (length (laid_names (scope_at source.program.tables.scopes.now.scopes held.scope)))
    → activations_view source.program.tables first
    ≡ record { number = number; scope = held.scope; mark = plain; caller = of_nobody; display = []; cells = cells } ∷ []
    → record {
      next = doing_ahead source.program.tables doing;
      display = display;
      activations = activations_view source.program.tables first;
      hand = empty_hand;
      line = line;
    }
    ≡ in_first g (block_view source.program.tables held) number cells line
in_first_is source g number cells line held doing display first program ahead in_view living =
    let blk : Block = block_view source.program.tables held in
    let of : Action → Display → List configurations.Activation → Shown
    = λ next inner living. record { next = next; display = inner; activations = living; hand = empty_hand; line = line } in
    let own : List configurations.Activation
    = record { number = number; scope = held.scope; mark = plain; caller = of_nobody; display = []; cells = cells } ∷ [] in
    let frames : Blocks → Display
    = λ b. record { scope = held.scope; activation = number; first = 0 }
    ∷ accept_frames b number held.accepts held.next (length (laid_names (scope_at b.scopes held.scope))) in
    ap (λ (x : Action). of x display (activations_view source.program.tables first)) ahead
    ∙ ap (λ (x : Display). of (from_remainder blk.env (body_of blk)) x (activations_view source.program.tables first)) in_view
    ∙ ap (λ (x : Program). of (from_remainder blk.env (body_of blk)) (frames x.state.blocks) (activations_view source.program.tables first)) (sym program.is)
    ∙ ap (of (from_remainder blk.env (body_of blk)) (frames g.state.blocks)) living

pub begins_so :
    (source : Source) (s new : State) (p n : ℕ) (held : HeldBlock) (args : List Argument) (number cells : ℕ) (doing : Doing) (display : Display)
    (first : List HeldActivation) (values : List HeldValue) (found other y : Activity)
    → found ≡ get_or s.activities.items p found → other ≡ get_or s.activities.items n other → n ≢ p → n < length s.activities.items
    → ((t : Tables) → cells_above [] (block_view t held) ≡ cells) → number ≡ s.world.done + 1
    → doing_ahead source.program.tables doing ≡ from_remainder (block_view source.program.tables held).env (body_of (block_view source.program.tables held))
    → display
    ≡ record { scope = held.scope; activation = number; first = 0 }
    ∷ accept_frames source.program.tables.scopes.now number held.accepts held.next
    (length (laid_names (scope_at source.program.tables.scopes.now.scopes held.scope)))
    → activations_view source.program.tables first
    ≡ record { number = number; scope = held.scope; mark = plain; caller = of_nobody; display = []; cells = cells } ∷ []
    → values_view values ≡ values_in source.program.tables.types.now held.layout.items (map (passed_in (store_view s.store) found.display) (given_view args))
    → activity_shown source.program.tables y
    ≡ record {
      next = doing_ahead source.program.tables doing;
      display = display;
      activations = activations_view source.program.tables first;
      hand = empty_hand;
      line = other.line;
    }
    → new ≡ record s { activities = new.activities; store = new.store; world = new.world } → new.activities.items ≡ set s.activities.items n y
    → store_view new.store ≡ with_room (store_view s.store) number (values_view values) → new.world ≡ placed s.world n Is_created
    → Begins source s new p n held args
begins_so source s new p n held args number cells doing display first values found other y is other_found apart within has numbered ahead in_view living given
    shows new_is items store world g c a m program is_at =
    let t : Tables = source.program.tables in
    let before : IsBefore source s c p a m = is_at.before in
    let block : Block = block_view t held in
    let sb : Shown = shown_before source a m before.hand in
    let old : configurations.Activity = activity_of g c n in
    let vs : List Value = new_values g block (all_passed g c p (given_view args)) in
    let same : found ≡ a = is ∙ before.there.is found in
    let counted : number ≡ new_number c = numbered ∙ ap (λ (w : Table). w.done + 1) before.agrees.table in
    let seen : (activity_of g c p).display ≡ a.display = display_is source g s c p a m before in
    let firsts : g.firsts ≡ all_first t.types.now = ap (λ (x : Program). x.firsts) program.is in
    let w : configurations.Activity
    = record (configurations.at_work old (going block.env (body_of block))) {
      display = process_display g c block;
      activations = new_activation c old [] block plain of_nobody [] ∷ [];
    } in
    let agreed : shown w ≡ activity_shown t y
    = ap (λ (x : ℕ). in_first g block (new_number c) x old.line) (has t)
    ∙ ap (λ (x : ℕ). in_first g block x cells old.line) (sym counted)
    ∙ ap (λ (x : Shown). in_first g block number cells x.line) (other_is source g s c p n a other m before apart within other_found)
    ∙ sym (in_first_is source g number cells other.line held doing display first program ahead in_view living) ∙ sym shows in
    let stored : store_view new.store ≡ with_room c.store (new_number c) vs
    = store ∙ ap (λ (x : Store). with_room x number (values_view values)) before.agrees.store
    ∙ ap (λ (x : ℕ). with_room c.store x (values_view values)) counted
    ∙ ap (with_room c.store (new_number c))
    (given ∙ ap (λ (x : Activity). values_in t.types.now held.layout.items (map (passed_in (store_view s.store) x.display) (given_view args))) same
    ∙ values_are t g s c p a.display held (given_view args) before.agrees.store seen firsts) in
    let many : length new.activities.items ≡ length s.activities.items = ap length items ∙ length-set s.activities.items n y in
    record {
      hand = before.hand;
      there = record {
        within = subst (λ x. p < x) (sym many) before.there.within;
        is = λ d. ap (λ (l : List Activity). get_or l p d) items ∙ get_or-set_other s.activities.items n p y d (λ e. apart (sym e)) ∙ before.there.is d;
      };
      activities =
          map-set shown c.activities n w ∙ ap (λ (l : List Shown). set l n (shown w)) before.activities
          ∙ set_apart (activities_shown t s.activities.items) p n sb (shown w) (λ e. apart (sym e))
          ∙ ap (λ (z : Shown). set (set (activities_shown t s.activities.items) n z) p sb) agreed
          ∙ ap (λ (l : List Shown). set l p sb) (sym (map-set (activity_shown t) s.activities.items n y) ∙ ap (activities_shown t) (sym items));
      agrees = record {
        table = world ∙ ap (λ (x : Table). placed x n Is_created) before.agrees.table;
        counts = ap (λ (x : State). x.semaphores) new_is ∙ before.agrees.counts;
        monitors = ap (λ (x : State). x.monitors.holders) new_is ∙ before.agrees.monitors;
        resources = ap (λ (x : State). x.resources) new_is ∙ before.agrees.resources;
        store = stored;
        input = ap (λ (x : State). x.input) new_is ∙ before.agrees.input;
        words = ap (λ (x : State). x.draws) new_is ∙ before.agrees.words;
        count = many ∙ before.agrees.count ∙ sym (length-set c.table.rows n Is_created);
        conditions = ap (λ (x : State). x.monitors.owners) new_is ∙ before.agrees.conditions;
      };
    }

-- ## The action

-- a block that was found is that of the definitions
process_block_is : (source : Source) (g : Program) (n : ℕ) → IsProgram source g → block_in source n ≡ process_block g n
process_block_is source g n program = ap (λ (x : Program). process_block x n) (sym program.is)

-- what becomes of it
abbrev creates_where : Program → Config → ℕ → Context → Remainder → Bool → ℕ → Block → ℕ → List Value → Effect
creates_where g c p x k unfinished n b cells values =
    if unfinished then Err Active else unless_full n cells (goes_on g (created g c n b values) p x k)

pub creates_so :
    (source : Source) (s mid new : State) (p n cells : ℕ) (spot : Spot) (args : List Argument) (held : HeldBlock) (d : Done)
    → IsNumber s p spot n → is_unfinished (tables.at s.world.rows n) ≡ false → block_view source.program.tables held ≡ block_in source n
    → ((t : Tables) → cells_above [] (block_view t held) ≡ cells) → nat_le cells (most_cells n) ≡ true
    → Begins source s mid p n held args → GoesOnWhenReady mid new p at.Rest d → Creates source s new p spot args d
creates_so source s mid new p n cells spot args held d numbered free found has few begins goes g c choice a m program is_at e on_line =
    let t : Tables = source.program.tables in
    let x : Context = context_of t a.doing in
    let k : Remainder = remainder_of (pending_of t a.doing) in
    let values : List Value = all_passed g c p (given_view args) in
    let here : n ≡ number_for g c p (spot_view spot) = number_is source g s c p a m spot n is_at.before numbered in
    let block : Block = process_block g n in
    let same : block_view t held ≡ block = found ∙ process_block_is source g n program in
    let after : Config = created g c n block values in
    let idle : is_unfinished (tables.at c.table.rows n) ≡ false
    = ap (λ (w : Table). is_unfinished (tables.at w.rows n)) (sym is_at.before.agrees.table) ∙ free in
    let counted : cells_above [] block ≡ cells = ap (cells_above []) (sym same) ∙ has t in
    let fits : unless_full n cells (goes_on g after p x k) ≡ Ok (goes_on g after p x k)
    = ap (λ (z : Bool). (let r : Effect = if z then Ok (goes_on g after p x k) else Err Stack in r)) few in
    goes source g c after choice a m (going x.env k) []
    (subst (λ (b : Block). IsBefore source mid (created g c n b values) p a m) same (begins g c a m program is_at))
    is_at.quiet.acting is_at.quiet.sound
    (e
    ∙ ap (λ (i : ℕ). creates_where g c p x k (is_unfinished (tables.at c.table.rows i)) i (process_block g i)
    (cells_above [] (process_block g i)) values) (sym here)
    ∙ ap (λ (z : Bool). creates_where g c p x k z n block (cells_above [] block) values) idle
    ∙ ap (λ (i : ℕ). creates_where g c p x k false n block i values) counted ∙ fits)
    refl on_line (sym (append-nil c.output))

-- fault 9
pub creates_unfinished :
    (source : Source) (s new : State) (p n : ℕ) (spot : Spot) (args : List Argument) (d : Done)
    → IsNumber s p spot n → is_unfinished (tables.at s.world.rows n) ≡ true → IsFault s new p Active d → Creates source s new p spot args d
creates_unfinished source s new p n spot args d numbered busy fault g c choice a m program is_at e on_line =
    let t : Tables = source.program.tables in
    let x : Context = context_of t a.doing in
    let k : Remainder = remainder_of (pending_of t a.doing) in
    let values : List Value = all_passed g c p (given_view args) in
    let block : Block = process_block g n in
    fault source g c choice a m is_at
    (e
    ∙ ap (λ (i : ℕ). creates_where g c p x k (is_unfinished (tables.at c.table.rows i)) i (process_block g i) (cells_above [] (process_block g i)) values)
    (sym (number_is source g s c p a m spot n is_at.before numbered))
    ∙ ap (λ (z : Bool). creates_where g c p x k z n block (cells_above [] block) values)
    (ap (λ (w : Table). is_unfinished (tables.at w.rows n)) (sym is_at.before.agrees.table) ∙ busy))
    on_line

-- fault 6
pub creates_too_many :
    (source : Source) (s new : State) (p n : ℕ) (spot : Spot) (args : List Argument) (held : HeldBlock) (d : Done)
    → IsNumber s p spot n → is_unfinished (tables.at s.world.rows n) ≡ false → block_view source.program.tables held ≡ block_in source n
    → ((t : Tables) → nat_le (cells_above [] (block_view t held)) (most_cells n) ≡ false) → IsFault s new p Stack d → Creates source s new p spot args d
creates_too_many source s new p n spot args held d numbered free found many fault g c choice a m program is_at e on_line =
    let t : Tables = source.program.tables in
    let x : Context = context_of t a.doing in
    let k : Remainder = remainder_of (pending_of t a.doing) in
    let values : List Value = all_passed g c p (given_view args) in
    let block : Block = process_block g n in
    let after : Config = created g c n block values in
    let same : block_view t held ≡ block = found ∙ process_block_is source g n program in
    fault source g c choice a m is_at
    (e
    ∙ ap (λ (i : ℕ). creates_where g c p x k (is_unfinished (tables.at c.table.rows i)) i (process_block g i) (cells_above [] (process_block g i)) values)
    (sym (number_is source g s c p a m spot n is_at.before numbered))
    ∙ ap (λ (z : Bool). creates_where g c p x k z n block (cells_above [] block) values)
    (ap (λ (w : Table). is_unfinished (tables.at w.rows n)) (sym is_at.before.agrees.table) ∙ free)
    ∙ ap (λ (b : Block). unless_full n (cells_above [] b) (goes_on g after p x k)) (sym same)
    ∙ ap (λ (z : Bool). (let r : Effect = if z then Ok (goes_on g after p x k) else Err Stack in r)) (many t))
    on_line
