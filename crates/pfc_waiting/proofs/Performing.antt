-- What each action comes to.
use Rattle.std.proofs.Common.{◌≡◌, ℕ, ◌+◌, ◌*◌, Bool, true, false, not, ◌||◌, is_some, ℤ, pos, negsuc, zero, suc, List, [], ◌∷◌, map, reverse, get_or, Option}
use Rattle.std.proofs.Common.{None, Some, Result, Ok, Err, arith, refl, sym, ap, ◌∙◌, subst}
use Rattle.std.specs.Prelude.{◌==◌, nat_le, if◌then◌else◌}
use Rattle.std.specs.List.{list_any}
use Rattle.std.proofs.lemmas.Bool.{false≢true}
use Rattle.std.proofs.lemmas.Bool.Decides.{nat_tests}
use Rattle.std.proofs.lemmas.List.{append-nil}
use Rattle.std.proofs.lemmas.List.Sorted.{list_any-IsPermutation, IsPermutation-reverse}
use Rattle.pfc_base.specs.declared.faults.RunFault.{RunFault}
use Rattle.pfc_base.specs.declared.faults.RunFault.TheVariants.{Negative, Count as TooLarge, Late}
use Rattle.pfc_state.specs.declared.waits.Why.TheVariants.{Coend, Sleep, Condition}
use Rattle.pfc_values.specs.Numbers.{truth}
use Rattle.pfc_monitor.specs.Guards.{Guards}
use Rattle.pfc_world.specs.Holders.{Held, held_in, standing}
use Rattle.pfc_world.specs.Monitors.{delayed, resumed, resumed_with}
use Rattle.pfc_world.specs.Partners.{condition_waiter, is_empty_condition}
use Rattle.pfc_world.specs.Semaphores.{Counted, counted, waited, is_below_zero, initialised, is_overfull, signalled}
use Rattle.pfc_world.specs.Tables.{Table, some_created}
use Rattle.pfc_world.specs.Transitions.{blocked, all_started}
use Rattle.pfc_program.specs.declared.tables.Tables.{Tables}
use Rattle.pfc_store.specs.declared.spots.Spot.{Spot}
use Rattle.pfc_store.specs.declared.values.Value.{Value as HeldValue}
use Rattle.pfc_store.specs.Views.{spot_view, value_view}
use Rattle.pfc_semantics.specs.Values.{Value, ordinal}
use Rattle.pfc_semantics.specs.Selects.{latest}
use Rattle.pfc_semantics.specs.Monitors.{monitor_of, is_in, is_inside}
use Rattle.pfc_semantics.specs.Time.{slept, sleeps_for}
use Rattle.pfc_semantics.specs.Programs.{Program}
use Rattle.pfc_semantics.specs.Remainders.{Context, Remainder, AwaitsValue, Action}
use Rattle.pfc_semantics.specs.Rewriting.{holding, from_value}
use Rattle.pfc_semantics.specs.Configurations as configurations
use Rattle.pfc_semantics.specs.Configurations.{Config, Effect, goes_on, with_table, with_counted, with_monitors, number_for}
use Rattle.pfc_semantics.specs.Steps.{effect}
use Rattle.pfc_pending.specs.Waiting.{remainder_of, awaits_of}
use Rattle.pfc_pending.specs.declared.actions.Deed.TheVariants as deed
use Rattle.pfc_pending.specs.declared.at_hand.At.TheVariants as at
use Rattle.pfc_activities.specs.declared.activities.Activation.{Activation}
use Rattle.pfc_activities.specs.declared.activities.Activity.{Activity}
use Rattle.pfc_activities.specs.declared.changes.Done.{Done}
use Rattle.pfc_activities.specs.declared.source.Source.{Source}
use Rattle.pfc_activities.specs.declared.state.State.{State}
use Rattle.pfc_activities.specs.Programs.{IsProgram}
use Rattle.pfc_activities.specs.Views.{mark_view, activation_view, context_of, pending_of, deed_of}
use Rattle.pfc_activities.specs.Relation.{IsAt, GoesOn, IsFault, IsPerformed}
use Rattle.pfc_activities.proofs.Acting.{activations_are}
use Rattle.pfc_waiting.specs.Inside.{is_held_in, IsInside}
use Rattle.pfc_waiting.specs.Moments.{due_after, due_behind, at_coend}
use Rattle.pfc_waiting.specs.Waiting.{IsNumber, HasActed, GoesOnWhenReady}
use Rattle.pfc_waiting.proofs.Waiting.{IsMid, number_is, behind_it}

-- what is left to do behind the action
abbrev left : Tables → Activity → Remainder
left t a = remainder_of (pending_of t a.doing)

-- a refusal changed nothing
pub fault_so :
    (s mid new : State) (p : ℕ) (f : RunFault) (d : Done)
    → IsMid s mid → mid.world ≡ s.world → mid.semaphores ≡ s.semaphores → mid.monitors ≡ s.monitors → IsFault mid new p f d → IsFault s new p f d
fault_so s mid new p f d is world counts monitors fault =
    subst (λ (x : State). IsFault x new p f d)
    (is ∙ ap (λ (w : Table). (let x : State = record s { world = w; semaphores = mid.semaphores; monitors = mid.monitors } in x)) world
    ∙ ap (λ (l : List ℕ). (let x : State = record s { semaphores = l; monitors = mid.monitors } in x)) counts
    ∙ ap (λ (m : Guards). (let x : State = record s { monitors = m } in x)) monitors)
    fault

-- ## Semaphores

pub waits_so :
    (s mid new : State) (p number : ℕ) (spot : Spot) (d : Done)
    → IsMid s mid → HasActed s.world mid.world → mid.monitors ≡ s.monitors → IsNumber s p spot number
    → counted mid.world mid.semaphores ≡ waited (counted s.world s.semaphores) p number
    → GoesOnWhenReady mid new p at.Rest d → IsPerformed s new p (deed.Waits spot) [] d
waits_so s mid new p number spot d is acted monitors numbered rule goes source g c choice a program is_at =
    let n : Action = deed_of source.program.tables a.doing (deed.Waits spot) in
    let w : Counted = waited (counted c.table c.counts) p (number_for g c p (spot_view spot)) in
    let agreed : counted mid.world mid.semaphores ≡ w
    = rule ∙ ap (λ (x : Table). waited (counted x s.semaphores) p number) is_at.before.agrees.table
    ∙ ap (λ (x : List ℕ). waited (counted c.table x) p number) is_at.before.agrees.counts
    ∙ ap (waited (counted c.table c.counts) p) (number_is source g s c p a n spot number is_at.before numbered) in
    behind_it source g s mid new c p choice a n d w.table w.counts c.monitors is_at is acted
    (ap (λ (x : Counted). x.table) agreed) (ap (λ (x : Counted). x.counts) agreed)
    (ap (λ (m : Guards). m.holders) monitors ∙ is_at.before.agrees.monitors) (ap (λ (m : Guards). m.owners) monitors) goes refl refl

pub initials_so :
    (s mid new : State) (p number : ℕ) (spot : Spot) (n m : ℤ) (d : Done)
    → IsMid s mid → HasActed s.world mid.world → mid.world ≡ s.world → mid.monitors ≡ s.monitors → IsNumber s p spot number → m ≡ n
    → is_below_zero m ≡ false → mid.semaphores ≡ initialised s.semaphores number m
    → GoesOnWhenReady mid new p at.Rest d → IsPerformed s new p (deed.Initials spot n) [] d
initials_so s mid new p number spot (pos k) m d is acted world monitors numbered same above rule goes source g c choice a program is_at =
    let n : Action = deed_of source.program.tables a.doing (deed.Initials spot (pos k)) in
    let j : ℕ = number_for g c p (spot_view spot) in
    let counts : mid.semaphores ≡ initialised c.counts j (pos k)
    = rule ∙ ap (initialised s.semaphores number) same ∙ ap (λ (x : List ℕ). initialised x number (pos k)) is_at.before.agrees.counts
    ∙ ap (λ (i : ℕ). initialised c.counts i (pos k)) (number_is source g s c p a n spot number is_at.before numbered) in
    behind_it source g s mid new c p choice a n d c.table (initialised c.counts j (pos k)) c.monitors is_at is acted
    (world ∙ is_at.before.agrees.table) counts
    (ap (λ (x : Guards). x.holders) monitors ∙ is_at.before.agrees.monitors) (ap (λ (x : Guards). x.owners) monitors) goes refl refl
initials_so s mid new p number spot (negsuc k) m d is acted world monitors numbered same above rule goes source g c choice a program is_at =
    absurd (false≢true (sym above ∙ ap is_below_zero same))

pub initials_stop :
    (s new : State) (p : ℕ) (spot : Spot) (n m : ℤ) (f : RunFault) (d : Done)
    → m ≡ n → is_below_zero m ≡ true → f ≡ Negative → IsFault s new p f d → IsPerformed s new p (deed.Initials spot n) [] d
initials_stop s new p spot (pos k) m f d same below given ends source g c choice a program is_at =
    absurd (false≢true (sym (ap is_below_zero same) ∙ below))
initials_stop s new p spot (negsuc k) m f d same below given ends source g c choice a program is_at =
    ends source g c choice a (deed_of source.program.tables a.doing (deed.Initials spot (negsuc k))) is_at
    (ap (λ (x : RunFault). (let r : Effect = Err x in r)) (sym given)) refl

pub signals_so :
    (s mid new : State) (p number : ℕ) (spot : Spot) (d : Done)
    → IsMid s mid → HasActed s.world mid.world → mid.monitors ≡ s.monitors → IsNumber s p spot number
    → is_overfull (counted s.world s.semaphores) number ≡ false
    → counted mid.world mid.semaphores ≡ signalled (counted s.world s.semaphores) number
    → GoesOnWhenReady mid new p at.Rest d → IsPerformed s new p (deed.Signals spot) [] d
signals_so s mid new p number spot d is acted monitors numbered room rule goes source g c choice a program is_at =
    let t : Tables = source.program.tables in
    let n : Action = deed_of t a.doing (deed.Signals spot) in
    let j : ℕ = number_for g c p (spot_view spot) in
    let w : Counted = signalled (counted c.table c.counts) j in
    let here : number ≡ j = number_is source g s c p a n spot number is_at.before numbered in
    let agreed : counted mid.world mid.semaphores ≡ w
    = rule ∙ ap (λ (x : Table). signalled (counted x s.semaphores) number) is_at.before.agrees.table
    ∙ ap (λ (x : List ℕ). signalled (counted c.table x) number) is_at.before.agrees.counts
    ∙ ap (signalled (counted c.table c.counts)) here in
    let full : is_overfull (counted c.table c.counts) j ≡ false
    = ap (is_overfull (counted c.table c.counts)) (sym here)
    ∙ ap (λ (x : List ℕ). is_overfull (counted c.table x) number) (sym is_at.before.agrees.counts)
    ∙ ap (λ (x : Table). is_overfull (counted x s.semaphores) number) (sym is_at.before.agrees.table) ∙ room in
    behind_it source g s mid new c p choice a n d w.table w.counts c.monitors is_at is acted
    (ap (λ (x : Counted). x.table) agreed) (ap (λ (x : Counted). x.counts) agreed)
    (ap (λ (m : Guards). m.holders) monitors ∙ is_at.before.agrees.monitors) (ap (λ (m : Guards). m.owners) monitors) goes
    (ap (λ (z : Bool). (let r : Effect = if z then Err TooLarge else Ok (with_counted (goes_on g c p (context_of t a.doing) (left t a)) w) in r)) full) refl

pub signals_stop :
    (s new : State) (p number : ℕ) (spot : Spot) (f : RunFault) (d : Done)
    → IsNumber s p spot number → is_overfull (counted s.world s.semaphores) number ≡ true → f ≡ TooLarge
    → IsFault s new p f d → IsPerformed s new p (deed.Signals spot) [] d
signals_stop s new p number spot f d numbered no_room given ends source g c choice a program is_at =
    let t : Tables = source.program.tables in
    let n : Action = deed_of t a.doing (deed.Signals spot) in
    let j : ℕ = number_for g c p (spot_view spot) in
    let here : number ≡ j = number_is source g s c p a n spot number is_at.before numbered in
    let full : is_overfull (counted c.table c.counts) j ≡ true
    = ap (is_overfull (counted c.table c.counts)) (sym here)
    ∙ ap (λ (x : List ℕ). is_overfull (counted c.table x) number) (sym is_at.before.agrees.counts)
    ∙ ap (λ (x : Table). is_overfull (counted x s.semaphores) number) (sym is_at.before.agrees.table) ∙ no_room in
    let over : Effect = Ok (with_counted (goes_on g c p (context_of t a.doing) (left t a)) (signalled (counted c.table c.counts) j)) in
    ends source g c choice a n is_at
    (ap (λ (z : Bool). (let r : Effect = if z then Err TooLarge else over in r)) full ∙ ap (λ (x : RunFault). (let r : Effect = Err x in r)) (sym given)) refl

-- ## Time

-- what a sleep comes to, by the moment at which it ends
abbrev slept_until : Program → Config → ℕ → Context → Remainder → Result (Option ℕ) RunFault → Effect
slept_until g c p x k (Ok None) = Ok (goes_on g c p x k)
slept_until g c p x k (Ok (Some due)) = Ok (with_table (goes_on g c p x k) (blocked c.table p (Sleep due) []))
slept_until g c p x k (Err f) = Err f

slept_where :
    (z : Bool) (g : Program) (c : Config) (p : ℕ) (x : Context) (k : Remainder) (due : ℕ)
    → slept_until g c p x k (if z then Ok (Some due) else Err Late)
    ≡ (if z then Ok (with_table (goes_on g c p x k) (blocked c.table p (Sleep due) [])) else Err Late)
slept_where true g c p x k due = refl
slept_where false g c p x k due = refl

suc_zero : (n : ℕ) → (suc n == 0) ≡ false
suc_zero n = grind (arith, nat_tests)

slept_is : (g : Program) (c : Config) (p : ℕ) (x : Context) (k : Remainder) (n : ℕ) → slept g c p x n k ≡ slept_until g c p x k (due_after c.table.moment n)
slept_is g c p x k zero = refl
slept_is g c p x k (suc n) =
    let due : ℕ = c.table.moment + 1000 * suc n in
    let late : Result (Option ℕ) RunFault = if nat_le due latest then Ok (Some due) else Err Late in
    sym (ap (λ (z : Bool). slept_until g c p x k (if z then Ok None else late)) (suc_zero n) ∙ slept_where (nat_le due latest) g c p x k due)

sleeps_is :
    (g : Program) (c : Config) (p : ℕ) (x : Context) (k : Remainder) (n : ℤ)
    → sleeps_for g c p x n k ≡ slept_until g c p x k (due_behind c.table.moment n)
sleeps_is g c p x k (pos n) = slept_is g c p x k n
sleeps_is g c p x k (negsuc n) = refl

-- by what was found for the state
sleeps_by :
    (source : Source) (g : Program) (s : State) (c : Config) (p choice : ℕ) (a : Activity) (n : ℤ) (r : Result (Option ℕ) RunFault)
    → IsAt source s c p a (deed_of source.program.tables a.doing (deed.Sleeps n)) → r ≡ due_behind s.world.moment n
    → effect g c p choice (deed_of source.program.tables a.doing (deed.Sleeps n))
    ≡ slept_until g c p (context_of source.program.tables a.doing) (left source.program.tables a) r
sleeps_by source g s c p choice a n r is_at found =
    let t : Tables = source.program.tables in
    sleeps_is g c p (context_of t a.doing) (left t a) n
    ∙ ap (λ (w : Table). slept_until g c p (context_of t a.doing) (left t a) (due_behind w.moment n)) (sym is_at.before.agrees.table)
    ∙ ap (slept_until g c p (context_of t a.doing) (left t a)) (sym found)

pub sleeps_so :
    (s mid new : State) (p due : ℕ) (n : ℤ) (d : Done)
    → IsMid s mid → HasActed s.world mid.world → mid.semaphores ≡ s.semaphores → mid.monitors ≡ s.monitors
    → Ok (Some due) ≡ due_behind s.world.moment n → mid.world ≡ blocked s.world p (Sleep due) []
    → GoesOnWhenReady mid new p at.Rest d → IsPerformed s new p (deed.Sleeps n) [] d
sleeps_so s mid new p due n d is acted counts monitors found rule goes source g c choice a program is_at =
    behind_it source g s mid new c p choice a (deed_of source.program.tables a.doing (deed.Sleeps n)) d
    (blocked c.table p (Sleep due) []) c.counts c.monitors is_at is acted
    (rule ∙ ap (λ (w : Table). blocked w p (Sleep due) []) is_at.before.agrees.table) (counts ∙ is_at.before.agrees.counts)
    (ap (λ (m : Guards). m.holders) monitors ∙ is_at.before.agrees.monitors) (ap (λ (m : Guards). m.owners) monitors) goes
    (sleeps_by source g s c p choice a n (Ok (Some due)) is_at found) refl

pub sleeps_on :
    (s new : State) (p : ℕ) (n : ℤ) (d : Done)
    → HasActed s.world s.world → Ok None ≡ due_behind s.world.moment n → GoesOnWhenReady s new p at.Rest d → IsPerformed s new p (deed.Sleeps n) [] d
sleeps_on s new p n d acted found goes source g c choice a program is_at =
    behind_it source g s s new c p choice a (deed_of source.program.tables a.doing (deed.Sleeps n)) d c.table c.counts c.monitors is_at refl acted
    is_at.before.agrees.table is_at.before.agrees.counts is_at.before.agrees.monitors refl goes
    (sleeps_by source g s c p choice a n (Ok None) is_at found) refl

pub sleeps_stop :
    (s new : State) (p : ℕ) (n : ℤ) (f : RunFault) (d : Done)
    → Err f ≡ due_behind s.world.moment n → IsFault s new p f d → IsPerformed s new p (deed.Sleeps n) [] d
sleeps_stop s new p n f d found ends source g c choice a program is_at =
    ends source g c choice a (deed_of source.program.tables a.doing (deed.Sleeps n)) is_at (sleeps_by source g s c p choice a n (Err f) is_at found) refl

-- ## The wait at `coend`

joined_where :
    (z : Bool) (g : Program) (c : Config) (p : ℕ) (x : Context) (k : Remainder)
    → (let r : Effect = if z then Ok (with_table (goes_on g c p x k) (blocked (all_started c.table) p Coend [])) else Ok (goes_on g c p x k) in r)
    ≡ Ok (with_table (goes_on g c p x k) (if z then blocked (all_started c.table) p Coend [] else c.table))
joined_where true g c p x k = refl
joined_where false g c p x k = refl

pub joins_so :
    (s mid new : State) (p : ℕ) (d : Done)
    → IsMid s mid → HasActed s.world mid.world → mid.semaphores ≡ s.semaphores → mid.monitors ≡ s.monitors → mid.world ≡ at_coend s.world p
    → GoesOnWhenReady mid new p at.Rest d → IsPerformed s new p deed.Joins [] d
joins_so s mid new p d is acted counts monitors rule goes source g c choice a program is_at =
    let t : Tables = source.program.tables in
    behind_it source g s mid new c p choice a (deed_of t a.doing deed.Joins) d (at_coend c.table p) c.counts c.monitors is_at is acted
    (rule ∙ ap (λ (w : Table). at_coend w p) is_at.before.agrees.table) (counts ∙ is_at.before.agrees.counts)
    (ap (λ (m : Guards). m.holders) monitors ∙ is_at.before.agrees.monitors) (ap (λ (m : Guards). m.owners) monitors) goes
    (joined_where (some_created c.table.rows) g c p (context_of t a.doing) (left t a)) refl

-- ## Conditions

pub asks_empty_so :
    (s new : State) (p number : ℕ) (spot : Spot) (v : HeldValue) (d : Done)
    → IsNumber s p spot number → value_view v ≡ ordinal (truth (is_empty_condition s.world.rows number))
    → GoesOn s new p (at.Value v) d → IsPerformed s new p (deed.AsksEmpty spot) [] d
asks_empty_so s new p number spot v d numbered held goes source g c choice a program is_at =
    let t : Tables = source.program.tables in
    let x : Context = context_of t a.doing in
    let u : AwaitsValue = awaits_of (pending_of t a.doing) in
    let n : Action = deed_of t a.doing (deed.AsksEmpty spot) in
    let answer : Value = ordinal (truth (is_empty_condition c.table.rows (number_for g c p (spot_view spot)))) in
    let value : value_view v ≡ answer
    = held ∙ ap (λ (w : Table). ordinal (truth (is_empty_condition w.rows number))) is_at.before.agrees.table
    ∙ ap (λ (j : ℕ). ordinal (truth (is_empty_condition c.table.rows j))) (number_is source g s c p a n spot number is_at.before numbered) in
    goes source g c c choice a n (holding x answer u) [] is_at refl (ap (λ (w : Value). from_value x u w) (sym value)) refl (sym (append-nil c.output))

-- the monitor of a condition
monitor_is :
    (source : Source) (g : Program) (s : State) (c : Config) (p : ℕ) (a : Activity) (n : Action) (number : ℕ)
    → IsProgram source g → IsAt source s c p a n → get_or s.monitors.owners number 0 ≡ monitor_of g number
monitor_is source g s c p a n number program is_at =
    ap (λ (l : List ℕ). get_or l number 0) is_at.before.agrees.conditions ∙ ap (λ (h : Program). get_or h.objects.conditions number 0) (sym program.is)

marked_is :
    (t : Tables) (m : ℕ) (xs : List Activation)
    → list_any (λ (b : configurations.Activation). is_in m b.mark) (map (activation_view t) xs) ≡ is_held_in m xs
marked_is t m [] = refl
marked_is t m (x ∷ xs) = ap (λ (z : Bool). is_in m (mark_view x.mark) || z) (marked_is t m xs)

-- whether the process is inside
inside_is :
    (source : Source) (g : Program) (s : State) (c : Config) (p : ℕ) (a : Activity) (n : Action) (m : ℕ) (z : Bool)
    → IsAt source s c p a n → IsInside s p m z → is_inside g c p m ≡ z
inside_is source g s c p a n m z is_at inside =
    let t : Tables = source.program.tables in
    let test : configurations.Activation → Bool = λ b. is_in m b.mark in
    let in_order : List configurations.Activation = map (activation_view t) a.activations.items in
    ap (list_any test) (activations_are source g s c p a n is_at.before)
    ∙ sym (list_any-IsPermutation test in_order (reverse in_order) (IsPermutation-reverse in_order))
    ∙ marked_is t m a.activations.items ∙ sym (inside a is_at.before.there)

abbrev delayed_where : Bool → Held → ℕ → ℕ → ℕ → ℤ → Held
delayed_where z h p m number rank = if z then delayed h p m number rank else standing h (blocked h.table p (Condition number rank) [])

pub delays_so :
    (s mid new : State) (p number m : ℕ) (spot : Spot) (rank given : ℤ) (z : Bool) (d : Done)
    → IsMid s mid → HasActed s.world mid.world → mid.semaphores ≡ s.semaphores → mid.monitors.owners ≡ s.monitors.owners → IsNumber s p spot number
    → m ≡ get_or s.monitors.owners number 0 → IsInside s p m z → given ≡ rank
    → held_in mid.world mid.monitors.holders ≡ delayed_where z (held_in s.world s.monitors.holders) p (get_or s.monitors.owners number 0) number given
    → GoesOnWhenReady mid new p at.Rest d → IsPerformed s new p (deed.Delays spot rank) [] d
delays_so s mid new p number m spot rank given z d is acted counts owners numbered of_it inside same rule goes source g c choice a program is_at =
    let t : Tables = source.program.tables in
    let n : Action = deed_of t a.doing (deed.Delays spot rank) in
    let j : ℕ = number_for g c p (spot_view spot) in
    let h : Held = held_in c.table c.monitors in
    let here : number ≡ j = number_is source g s c p a n spot number is_at.before numbered in
    let owner : get_or s.monitors.owners number 0 ≡ monitor_of g j = monitor_is source g s c p a n number program is_at ∙ ap (monitor_of g) here in
    let within : is_inside g c p (monitor_of g j) ≡ z
    = ap (is_inside g c p) (sym owner) ∙ ap (is_inside g c p) (sym of_it) ∙ inside_is source g s c p a n m z is_at inside in
    let w : Held = delayed_where z h p (monitor_of g j) j rank in
    let behind : Config = goes_on g c p (context_of t a.doing) (left t a) in
    let agreed : held_in mid.world mid.monitors.holders ≡ w
    = rule ∙ ap (λ (x : Table). delayed_where z (held_in x s.monitors.holders) p (get_or s.monitors.owners number 0) number given) is_at.before.agrees.table
    ∙ ap (λ (x : List (Option ℕ)). delayed_where z (held_in c.table x) p (get_or s.monitors.owners number 0) number given) is_at.before.agrees.monitors
    ∙ ap (λ (x : ℕ). delayed_where z h p x number given) owner ∙ ap (λ (x : ℕ). delayed_where z h p (monitor_of g j) x given) here
    ∙ ap (delayed_where z h p (monitor_of g j) j) same in
    behind_it source g s mid new c p choice a n d w.table c.counts w.holders is_at is acted
    (ap (λ (x : Held). x.table) agreed) (counts ∙ is_at.before.agrees.counts) (ap (λ (x : Held). x.holders) agreed) owners goes
    (ap (λ (y : Bool). (let r : Effect = Ok (with_monitors behind (delayed_where y h p (monitor_of g j) j rank)) in r)) within) refl

pub resumes_so :
    (s mid new : State) (p number : ℕ) (spot : Spot) (d : Done)
    → IsMid s mid → HasActed s.world mid.world → mid.semaphores ≡ s.semaphores → mid.monitors.owners ≡ s.monitors.owners → IsNumber s p spot number
    → held_in mid.world mid.monitors.holders ≡ resumed (held_in s.world s.monitors.holders) p (get_or s.monitors.owners number 0) number
    → GoesOnWhenReady mid new p at.Rest d → IsPerformed s new p (deed.Resumes spot) [] d
resumes_so s mid new p number spot d is acted counts owners numbered rule goes source g c choice a program is_at =
    let t : Tables = source.program.tables in
    let n : Action = deed_of t a.doing (deed.Resumes spot) in
    let j : ℕ = number_for g c p (spot_view spot) in
    let here : number ≡ j = number_is source g s c p a n spot number is_at.before numbered in
    let owner : get_or s.monitors.owners number 0 ≡ monitor_of g j = monitor_is source g s c p a n number program is_at ∙ ap (monitor_of g) here in
    let w : Held = resumed (held_in c.table c.monitors) p (monitor_of g j) j in
    let agreed : held_in mid.world mid.monitors.holders ≡ w
    = rule ∙ ap (λ (x : Table). resumed (held_in x s.monitors.holders) p (get_or s.monitors.owners number 0) number) is_at.before.agrees.table
    ∙ ap (λ (x : List (Option ℕ)). resumed (held_in c.table x) p (get_or s.monitors.owners number 0) number) is_at.before.agrees.monitors
    ∙ ap (λ (x : ℕ). resumed (held_in c.table c.monitors) p x number) owner
    ∙ ap (resumed (held_in c.table c.monitors) p (monitor_of g j)) here in
    behind_it source g s mid new c p choice a n d w.table c.counts w.holders is_at is acted
    (ap (λ (x : Held). x.table) agreed) (counts ∙ is_at.before.agrees.counts) (ap (λ (x : Held). x.holders) agreed) owners goes refl refl

resumed_none :
    (o : Option ℕ) (w : Table) (holders : List (Option ℕ)) (p m : ℕ) → not (is_some o) ≡ true → held_in w holders ≡ resumed_with o (held_in w holders) p m
resumed_none (Some q) w holders p m nobody = absurd (false≢true nobody)
resumed_none None w holders p m nobody = refl

-- where nobody waits on the condition nothing is changed
pub nobody_resumed :
    (w : Table) (holders : List (Option ℕ)) (p m number : ℕ)
    → is_empty_condition w.rows number ≡ true → held_in w holders ≡ resumed (held_in w holders) p m number
nobody_resumed w holders p m number nobody = resumed_none (condition_waiter w.rows number) w holders p m nobody
