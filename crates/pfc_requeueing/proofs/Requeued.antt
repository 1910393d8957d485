-- Requeues, on both sides.
use Rattle.std.proofs.Common.{◌≡◌, ℕ, ◌+◌, ◌<◌, Bool, true, false, List, [], ◌∷◌, ◌++◌, length, map, reverse, drop, set, get_or, Option, Some, None, IfSome, Ok}
use Rattle.std.proofs.Common.{Err, arith, length-append, refl, sym, ap, ◌∙◌, subst}
use Rattle.std.specs.Prelude.{nat_le, ◌-◌, ◌==◌, if◌then◌else◌, position, unwrap_or}
use Rattle.std.proofs.lemmas.List.{append-nil, map-append, reverse-append, set-get_or, get_or-set_same, length-set}
use Rattle.std.proofs.Math.Seq.{get_or-append_seam, set-append_seam}
use Rattle.pfc_base.specs.declared.faults.RunFault.TheVariants.{Stack}
use Rattle.pfc_program.specs.declared.tables.Tables.{Tables}
use Rattle.pfc_program.specs.declared.blocks.Block.{Block as HeldBlock}
use Rattle.pfc_program.specs.Views.{block_view, blocks_view}
use Rattle.pfc_world.specs.Tables.{Table}
use Rattle.pfc_store.specs.Views.{store_view, values_view}
use Rattle.pfc_store.specs.declared.values.Value.{Value as HeldValue}
use Rattle.pfc_semantics.specs.Values.{Value}
use Rattle.pfc_semantics.specs.Objects.{all_first}
use Rattle.pfc_semantics.specs.Store.{Store, with_room, without}
use Rattle.pfc_semantics.specs.Displays.{Display, outward}
use Rattle.pfc_semantics.specs.Programs.{Block, Program, found_block, block_at, block_number}
use Rattle.pfc_semantics.specs.Remainders.{Action, Remainder, Way, Scan, in_names, scan_on}
use Rattle.pfc_semantics.specs.Resources.{requeues, requeued_in, resource_marked, way_to}
use Rattle.pfc_semantics.specs.Rewriting.{from_remainder, going}
use Rattle.pfc_semantics.specs.Configurations as configurations
use Rattle.pfc_semantics.specs.Configurations.{Config, Effect, Mark, Activation, empty_hand, activity_of, all_passed, body_of}
use Rattle.pfc_semantics.specs.Calls.{new_number, new_values, new_display, cells_above, most_cells, unless_full}
use Rattle.pfc_semantics.specs.Steps.{effect}
use Rattle.pfc_pending.specs.declared.pending.Argument.{Argument}
use Rattle.pfc_pending.specs.Waiting.{given_view}
use Rattle.pfc_activities.specs.declared.activities.Activity.{Activity}
use Rattle.pfc_activities.specs.declared.activities.Activation.{Activation as HeldActivation}
use Rattle.pfc_activities.specs.declared.activities.Doing.{Doing}
use Rattle.pfc_activities.specs.declared.changes.Done.{Done}
use Rattle.pfc_activities.specs.declared.source.Source.{Source}
use Rattle.pfc_activities.specs.declared.state.State.{State}
use Rattle.pfc_activities.specs.Relation.{IsIn, IsBefore, IsAt, IsFault, Mirrors, StaysAt, shown_before}
use Rattle.pfc_activities.specs.Shown.{Shown, shown, activity_shown, activities_shown}
use Rattle.pfc_activities.specs.Views.{doing_ahead, activation_view, activations_view, mark_view}
use Rattle.pfc_activities.proofs.Acting.{acting_is, display_is, activations_are, change_one}
use Rattle.pfc_activating.specs.Ending.{EndsAt}
use Rattle.pfc_activating.specs.Entering.{values_in}
use Rattle.pfc_activating.specs.Passing.{passed_in}
use Rattle.pfc_activating.proofs.Activated.{block_is, values_are, stays_with_room}
use Rattle.pfc_entering.specs.Guards.{way_in}
use Rattle.pfc_requeueing.specs.Requeueing.{IsInnermost, IsInnermostOf, instead, HasCellsInstead, IsFullInstead, GivesWay, Requeues}
use Rattle.pfc_entering.proofs.Guarded.{way_is}

-- ## The innermost activation

-- the last one is the first of the definitions
pub view_last :
    (t : Tables) (below : List HeldActivation) (last : HeldActivation)
    → activations_view t (below ++ last ∷ []) ≡ activation_view t last ∷ activations_view t below
view_last t below last =
    ap reverse (map-append (activation_view t) below (last ∷ [])) ∙ reverse-append (map (activation_view t) below) (activation_view t last ∷ [])

-- a list that is not empty, by its last item
record IsSplit {A : Type 0} (xs : List A) : Type 0 where
  below : List A
  last : A
  is : xs ≡ below ++ last ∷ []

split : {A : Type 0} (x : A) (xs : List A) → IsSplit (x ∷ xs)
split x [] = record { below = []; last = x; is = refl }
split x (y ∷ ys) = let s = split y ys in record { below = x ∷ s.below; last = s.last; is = ap (λ l. x ∷ l) s.is }

pub last_in :
    {A : Type 0} (xs : List A) (x : A) (n : ℕ)
    → n + 1 ≡ length xs → x ≡ get_or xs n x → (below : List A) × (xs ≡ below ++ x ∷ []) × (length below ≡ n)
last_in [] x n many is = absurd (omega (arith, many))
last_in (z ∷ zs) x n many is =
    let s = split z zs in
    let as_long : length s.below ≡ n = omega (arith, many, ap length s.is, length-append s.below (s.last ∷ [])) in
    let same : x ≡ s.last
    = is ∙ ap (λ l. get_or l n x) s.is ∙ ap (λ (i : ℕ). get_or (s.below ++ s.last ∷ []) i x) (sym as_long) ∙ get_or-append_seam s.below s.last [] x in
    (s.below, s.is ∙ ap (λ y. s.below ++ y ∷ []) (sym same), as_long)

headed : {A : Type 0} (l below : List A) (a : A) → l ≡ a ∷ below → l ≡ a ∷ drop 1 l
headed l below a e = e ∙ ap (λ m. a ∷ m) (sym (ap (drop 1) e))

pub innermost_last :
    (t : Tables) (xs : List HeldActivation) (x : HeldActivation) (n : ℕ)
    → n + 1 ≡ length xs → x ≡ get_or xs n x → IsInnermost x.number (mark_view x.mark) (activations_view t xs)
innermost_last t xs x n many is =
    let l = last_in xs x n many is in
    record {
      first = activation_view t x;
      is = headed (activations_view t xs) (activations_view t l.0) (activation_view t x) (ap (activations_view t) l.1 ∙ view_last t l.0 x);
      number_is = refl;
      mark_is = refl;
    }

-- the last one is replaced
pub replaced_last :
    (t : Tables) (xs : List HeldActivation) (x : HeldActivation) (n number scope cells : ℕ)
    → n + 1 ≡ length xs → x ≡ get_or xs n x
    → activations_view t (set xs n (record x { number = number; scope = scope; cells = cells })) ≡ instead number scope cells (activations_view t xs)
replaced_last t xs x n number scope cells many is =
    let l = last_in xs x n many is in
    let y : HeldActivation = record x { number = number; scope = scope; cells = cells } in
    ap (λ (m : List HeldActivation). activations_view t (set m n y)) l.1
    ∙ ap (λ (i : ℕ). activations_view t (set (l.0 ++ x ∷ []) i y)) (sym l.2)
    ∙ ap (activations_view t) (set-append_seam l.0 x [] y) ∙ view_last t l.0 y
    ∙ sym (ap (instead number scope cells) (ap (activations_view t) l.1 ∙ view_last t l.0 x))

pub none_below : (t : Tables) (xs : List HeldActivation) → length xs < 1 → drop 1 (activations_view t xs) ≡ []
none_below t [] few = refl
none_below t (x ∷ xs) few = absurd (omega (arith, few))

pub some_with : (r : Option ℕ) (P Q : ℕ → Type 0) → ((n : ℕ) → P n → Q n) → IfSome r P → IfSome r Q
some_with (Some n) P Q so holds = so n holds
some_with None P Q so holds = tt

-- ## Room

-- the store has more room
pub stays_with_store :
    (s new : State) (p : ℕ) → new ≡ record s { store = new.store } → store_view new.store ≡ store_view s.store → StaysAt s new p
stays_with_store s new p is store source c a n is_at =
    stays_with_room s new p a a (sym (is_at.before.there.is a))
    (record { doing = refl; display = refl; seen = λ t. refl; activations = refl; line = refl })
    (is ∙ ap (λ v. (let x : State = record s { activities = v; store = new.store } in x)) (sym (ap (λ (x : State). x.activities) is)))
    (ap (λ (x : State). x.activities.items) is ∙ sym (set-get_or s.activities.items p a)
    ∙ ap (λ (z : Activity). set s.activities.items p z) (is_at.before.there.is a))
    store source c a n is_at

-- a room that is added and another that is removed
without_other :
    (store : Store) (number before : ℕ) (values : List Value)
    → (number == before) ≡ false → without (with_room store number values) before ≡ with_room (without store before) number values
without_other store number before values apart =
    ap (λ (z : Bool). (let x : Store = if z then store else record { activation = number; values = values } ∷ without store before in x)) apart

-- ## The other activation

-- what a process shows in another activation of a block
abbrev in_other : Block → Remainder → Activation → ℕ → ℕ → Display → List Activation → ℕ → Shown
in_other blk k first number cells display below line =
    record {
      next = from_remainder blk.env k;
      display = record { scope = blk.scope; activation = number; first = 0 } ∷ outward display blk.outer;
      activations = record first { number = number; scope = blk.scope; cells = cells } ∷ below;
      hand = empty_hand;
      line = line;
    }

-- the code shows that
in_other_is :
    (t : Tables) (a : Activity) (number cells : ℕ) (doing : Doing) (display : Display) (held : HeldBlock) (k : Remainder) (first : Activation)
    → doing_ahead t doing ≡ from_remainder (block_view t held).env k
    → display ≡ record { scope = held.scope; activation = number; first = 0 } ∷ outward a.display held.outer
    → activations_view t a.activations.items ≡ first ∷ drop 1 (activations_view t a.activations.items)
    → record {
      next = doing_ahead t doing;
      display = display;
      activations = instead number held.scope cells (activations_view t a.activations.items);
      hand = empty_hand;
      line = a.line;
    }
    ≡ in_other (block_view t held) k first number cells a.display (drop 1 (activations_view t a.activations.items)) a.line
in_other_is t a number cells doing display held k first ahead in_view innermost =
    let of : Action → Display → List Activation → Shown
    = λ next inner living. record { next = next; display = inner; activations = living; hand = empty_hand; line = a.line } in
    let living : List Activation = instead number held.scope cells (activations_view t a.activations.items) in
    let own : Display = record { scope = held.scope; activation = number; first = 0 } ∷ outward a.display held.outer in
    ap (λ (m : Action). of m display living) ahead ∙ ap (λ (x : Display). of (from_remainder (block_view t held).env k) x living) in_view
    ∙ ap (λ (x : List Activation). of (from_remainder (block_view t held).env k) own (instead number held.scope cells x)) innermost

pub gives_way_so :
    (source : Source) (s new : State) (p : ℕ) (held : HeldBlock) (before cells number : ℕ) (mark : Mark) (doing : Doing) (args : List Argument)
    (display : Display) (values : List HeldValue) (found moved y : Activity)
    → found ≡ get_or s.activities.items p found → moved ≡ get_or s.activities.items p moved → HasCellsInstead s p held cells
    → number ≡ s.world.done + 1 → (number == before) ≡ false
    → display ≡ record { scope = held.scope; activation = number; first = 0 } ∷ outward found.display held.outer
    → values_view values ≡ values_in source.program.tables.types.now held.layout.items (map (passed_in (store_view s.store) found.display) (given_view args))
    → activity_shown source.program.tables y
    ≡ record {
      next = doing_ahead source.program.tables doing;
      display = display;
      activations = instead number held.scope cells (activations_view source.program.tables moved.activations.items);
      hand = empty_hand;
      line = moved.line;
    }
    → new ≡ record s { activities = new.activities; store = new.store } → new.activities.items ≡ set s.activities.items p y
    → store_view new.store ≡ without (with_room (store_view s.store) number (values_view values)) before
    → GivesWay source s new p held before mark doing args
gives_way_so source s new p held before cells number mark doing args display values found moved y is moved_is has numbered apart in_view given shows new_is
    items store g c a n k innermost program is_at ahead =
    let t : Tables = source.program.tables in
    let before_it : IsBefore source s c p a n = is_at.before in
    let block : Block = block_view t held in
    let first : Activation = innermost.first in
    let below : List Activation = drop 1 (activations_view t a.activations.items) in
    let old : configurations.Activity = activity_of g c p in
    let vs : List Value = new_values g block (all_passed g c p (given_view args)) in
    let same : found ≡ a = is ∙ before_it.there.is found in
    let counted : number ≡ new_number c = numbered ∙ ap (λ (w : Table). w.done + 1) before_it.agrees.table in
    let seen : old.display ≡ a.display = display_is source g s c p a n before_it in
    let firsts : g.firsts ≡ all_first t.types.now = ap (λ (x : Program). x.firsts) program.is in
    let w : configurations.Activity
    = record (configurations.at_work old (going block.env k)) {
      display = new_display c block old.display;
      activations = record first { number = new_number c; scope = block.scope; cells = cells_above below block } ∷ below;
    } in
    let of : Activity → Shown
    = λ x. record {
      next = doing_ahead t doing;
      display = display;
      activations = instead number held.scope cells (activations_view t x.activations.items);
      hand = empty_hand;
      line = x.line;
    } in
    let shows_block : activity_shown t y ≡ in_other block k first number cells a.display below a.line
    = shows ∙ ap of (moved_is ∙ before_it.there.is moved)
    ∙ in_other_is t a number cells doing display held k first ahead
    (in_view ∙ ap (λ (x : Activity). record { scope = held.scope; activation = number; first = 0 } ∷ outward x.display held.outer) same)
    innermost.is in
    let agreed : shown w ≡ activity_shown t y
    = ap (λ (x : Display). in_other block k first (new_number c) (cells_above below block) x below old.line) seen
    ∙ ap (λ (x : Shown). in_other block k first (new_number c) (cells_above below block) a.display below x.line) (acting_is source g s c p a n before_it)
    ∙ ap (λ (x : ℕ). in_other block k first (new_number c) x a.display below a.line) (has a before_it.there t)
    ∙ ap (λ (x : ℕ). in_other block k first x cells a.display below a.line) (sym counted)
    ∙ sym shows_block in
    let stored : store_view new.store ≡ with_room (without c.store first.number) (new_number c) vs
    = store ∙ without_other (store_view s.store) number before (values_view values) apart
    ∙ ap (λ (x : Store). with_room (without x before) number (values_view values)) before_it.agrees.store
    ∙ ap (λ (x : ℕ). with_room (without c.store x) number (values_view values)) (sym innermost.number_is)
    ∙ ap (λ (x : ℕ). with_room (without c.store first.number) x (values_view values)) counted
    ∙ ap (with_room (without c.store first.number) (new_number c))
    (given ∙ ap (λ (x : Activity). values_in t.types.now held.layout.items (map (passed_in (store_view s.store) x.display) (given_view args))) same
    ∙ values_are t g s c p a.display held (given_view args) before_it.agrees.store seen firsts) in
    let many : length new.activities.items ≡ length s.activities.items = ap length items ∙ length-set s.activities.items p y in (
      y,
      record {
        within = subst (λ x. p < x) (sym many) before_it.there.within;
        is = λ d. ap (λ (l : List Activity). get_or l p d) items ∙ get_or-set_same s.activities.items p y d before_it.there.within;
      },
      record {
        activities =
            change_one t c.activities s.activities.items p w y (shown_before source a n before_it.hand) before_it.activities agreed
            ∙ ap (activities_shown t) (sym items);
        agrees = record {
          table = ap (λ (x : State). x.world) new_is ∙ before_it.agrees.table;
          counts = ap (λ (x : State). x.semaphores) new_is ∙ before_it.agrees.counts;
          monitors = ap (λ (x : State). x.monitors.holders) new_is ∙ before_it.agrees.monitors;
          resources = ap (λ (x : State). x.resources) new_is ∙ before_it.agrees.resources;
          store = stored;
          input = ap (λ (x : State). x.input) new_is ∙ before_it.agrees.input;
          words = ap (λ (x : State). x.draws) new_is ∙ before_it.agrees.words;
          count = many ∙ before_it.agrees.count;
          conditions = ap (λ (x : State). x.monitors.owners) new_is ∙ before_it.agrees.conditions;
        };
      },
    )

-- ## The requeue

-- the activations of the process, and the cells with another in place of the innermost
innermost_is :
    (source : Source) (g : Program) (s : State) (c : Config) (p number : ℕ) (mark : Mark) (a : Activity) (n : Action)
    (innermost : IsInnermost number mark (activations_view source.program.tables a.activations.items)) → IsAt source s c p a n
    → (activity_of g c p).activations ≡ innermost.first ∷ drop 1 (activations_view source.program.tables a.activations.items)
innermost_is source g s c p number mark a n innermost is_at = activations_are source g s c p a n is_at.before ∙ innermost.is

-- a remainder behind a scan
abbrev scan_in : ℕ → ℕ → Way → Scan
scan_in r line way = record { resource = r; line = line; after = None; way = way }

abbrev behind_scan : Block → Scan → Remainder
behind_scan b scan = scan_on scan (in_names b.env (body_of b))

pub requeued_so :
    (source : Source) (s mid new : State) (p scope line cells procedure r before : ℕ) (mark : Mark) (args : List Argument) (held : HeldBlock) (doing : Doing)
    (d : Done)
    → block_view source.program.tables held
    ≡ found_block (blocks_view source.program.tables source.program.blocks.items) scope (block_view source.program.tables source.program.main)
    → IsInnermostOf s p before mark → HasCellsInstead s p held cells → nat_le cells (most_cells p) ≡ true
    → ((a : Activity) → IsIn s.activities.items p a → line ≡ a.doing.line) → r ≡ resource_marked mark
    → procedure ≡ unwrap_or (position (λ (b : Block). b.scope == held.scope) (blocks_view source.program.tables source.program.blocks.items)) 0
    → ((t : Tables)
    → doing_ahead t doing
    ≡ from_remainder (block_view t held).env
    (behind_scan (block_view t held) (scan_in r (get_or source.program.resource_ends.items r 0) (way_in r procedure (block_view t held).guard))))
    → GivesWay source s mid p held before mark doing args → EndsAt mid new p line d → Requeues source s new p scope args d
requeued_so source s mid new p scope line cells procedure r before mark args held doing d found innermost has few lines marked numbered ahead gives ends
    g c choice a n program is_at e on_line =
    let t : Tables = source.program.tables in
    let block : Block = block_at g scope in
    let same : block_view t held ≡ block = block_is source g scope held program found in
    let here : IsInnermost before mark (activations_view t a.activations.items) = innermost a is_at.before.there t in
    let first : Activation = here.first in
    let below : List Activation = drop 1 (activations_view t a.activations.items) in
    let number : procedure ≡ block_number g held.scope = numbered ∙ ap (λ (x : Program). block_number x held.scope) (sym program.is) in
    let of : ℕ → Remainder
    = λ x. behind_scan (block_view t held) (scan_in x (get_or g.resource_ends x 0) (way_to g x (block_view t held) (block_view t held).guard)) in
    let behind : doing_ahead t doing ≡ from_remainder (block_view t held).env (of (resource_marked first.mark))
    = ahead t
    ∙ ap (λ (x : Program).
    from_remainder (block_view t held).env
    (behind_scan (block_view t held) (scan_in r (get_or x.resource_ends r 0) (way_in r procedure (block_view t held).guard)))) (sym program.is)
    ∙ ap (λ (x : Way). from_remainder (block_view t held).env (behind_scan (block_view t held) (scan_in r (get_or g.resource_ends r 0) x)))
    (way_is g r procedure (block_view t held) number)
    ∙ ap (λ (x : ℕ). from_remainder (block_view t held).env (of x)) (marked ∙ ap resource_marked (sym here.mark_is)) in
    let begun = gives g c a n (of (resource_marked first.mark)) here program is_at behind in
    let k : Config = requeued_in g c p block (given_view args) first below in
    let mirrors : Mirrors source mid k
    = subst (λ (b : Block). Mirrors source mid (requeued_in g c p b (given_view args) first below)) same begun.2 in
    let counted : cells_above below block ≡ cells = ap (cells_above below) (sym same) ∙ has a is_at.before.there t in
    let done : effect g c p choice n ≡ Ok k
    = e ∙ ap (requeues g c p block (given_view args)) (innermost_is source g s c p before mark a n here is_at)
    ∙ ap (λ (x : ℕ). unless_full p x k) counted ∙ ap (λ (x : Bool). (let z : Effect = if x then Ok k else Err Stack in z)) few in
    ends source g c k choice begun.0 n [] mirrors is_at.quiet.acting is_at.quiet.sound begun.1 done (on_line ∙ sym (lines a is_at.before.there))
    (sym (append-nil c.output))

-- fault 6
pub requeued_too_many :
    (source : Source) (s new : State) (p scope before : ℕ) (mark : Mark) (args : List Argument) (held : HeldBlock) (d : Done)
    → block_view source.program.tables held
    ≡ found_block (blocks_view source.program.tables source.program.blocks.items) scope (block_view source.program.tables source.program.main)
    → IsInnermostOf s p before mark → IsFullInstead s p held → IsFault s new p Stack d → Requeues source s new p scope args d
requeued_too_many source s new p scope before mark args held d found innermost full fault g c choice a n program is_at e on_line =
    let t : Tables = source.program.tables in
    let block : Block = block_at g scope in
    let same : block_view t held ≡ block = block_is source g scope held program found in
    let here : IsInnermost before mark (activations_view t a.activations.items) = innermost a is_at.before.there t in
    let below : List Activation = drop 1 (activations_view t a.activations.items) in
    let k : Config = requeued_in g c p block (given_view args) here.first below in
    fault source g c choice a n is_at
    (e ∙ ap (requeues g c p block (given_view args)) (innermost_is source g s c p before mark a n here is_at)
    ∙ ap (λ (x : Block). unless_full p (cells_above below x) k) (sym same)
    ∙ ap (λ (x : Bool). (let z : Effect = if x then Ok k else Err Stack in z)) (full a is_at.before.there t))
    on_line
