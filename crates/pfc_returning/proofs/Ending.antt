-- The end of a process, on both sides.
use Rattle.std.proofs.Common.{◌≡◌, ℕ, ◌+◌, ◌<◌, true, false, List, [], ◌∷◌, ◌++◌, length, map, drop, set, get_or, None, Ok, refl, sym, ap, ◌∙◌, subst}
use Rattle.std.specs.Prelude.{if◌then◌else◌}
use Rattle.std.proofs.lemmas.List.{append-nil, reverse-append, drop_more, length-set}
use Rattle.pfc_state.specs.Stands.{Is_ready, Is_done}
use Rattle.pfc_program.specs.declared.tables.Tables.{Tables}
use Rattle.pfc_world.specs.Tables.{Table}
use Rattle.pfc_world.specs.Tickets.{IsNew}
use Rattle.pfc_world.specs.Transitions.{begun, placed, rested, released, is_released, finished, ticked}
use Rattle.pfc_store.specs.Views.{store_view}
use Rattle.pfc_semantics.specs.Store.{Store, without}
use Rattle.pfc_semantics.specs.Programs.{Program}
use Rattle.pfc_semantics.specs.Remainders.{Action, finishes}
use Rattle.pfc_semantics.specs.Configurations as configurations
use Rattle.pfc_semantics.specs.Configurations.{Config, empty_hand, activity_of, with_activity}
use Rattle.pfc_semantics.specs.Processes.{without_all, ended_activity, ended_process}
use Rattle.pfc_semantics.specs.Steps.{effect}
use Rattle.pfc_activities.specs.declared.activities.Activation.{Activation}
use Rattle.pfc_activities.specs.declared.activities.Activity.{Activity}
use Rattle.pfc_activities.specs.declared.changes.Done.TheVariants.{Stepped}
use Rattle.pfc_activities.specs.declared.source.Source.{Source}
use Rattle.pfc_activities.specs.declared.state.State.{State}
use Rattle.pfc_activities.specs.Relation.{IsIn, shown_before, IsBefore, IsAt, IsKept, Ends}
use Rattle.pfc_activities.specs.Shown.{Shown, shown, activity_shown, activities_shown}
use Rattle.pfc_activities.specs.Views.{activation_view, activations_view}
use Rattle.pfc_activities.proofs.Acting.{acting_is, activations_are, stands_so, ends_so}
use Rattle.pfc_returning.specs.Ending.{HasEnded}

-- ## The table

-- main may be released, and nothing else changes
released_acting : (w : Table) → (released w).acting ≡ w.acting
released_acting w = elim (is_released w.rows) as (λ b. (let u : Table = if b then
    placed w 0 Is_ready else w in u.acting ≡ w.acting)) [ true ↦ refl | false ↦ refl ]

released_rows : (w : Table) → length (released w).rows ≡ length w.rows
released_rows w =
    elim (is_released w.rows) as (λ b. (let u : Table = if b then placed w 0 Is_ready else w in length u.rows ≡ length w.rows))
    [ true ↦ length-set w.rows 0 Is_ready | false ↦ refl ]

finished_rows : (w : Table) (p : ℕ) → length (finished w p).rows ≡ length w.rows
finished_rows w p = released_rows (rested (placed w p Is_done)) ∙ length-set w.rows p Is_done

-- the process acts, and then has finished
pub finished_once : (w begins ends : Table) (p q : ℕ) → q ≡ p → begins ≡ begun w p → ends ≡ finished begins q → ends ≡ finished w p
finished_once w begins ends p q same begin rule = rule ∙ ap (λ (x : Table). finished x q) begin ∙ ap (finished (begun w p)) same

-- it may end in the number of actions and in its moment, whatever table that is
pub finished_done : (w : Table) (p : ℕ) → (finished w p).done ≡ w.done
finished_done w p =
    let v : Table = rested (placed w p Is_done) in
    elim (is_released v.rows) as (λ b. (let u : Table = if b then placed v 0 Is_ready else v in u.done ≡ w.done)) [ true ↦ refl | false ↦ refl ]

pub finished_moment : (w : Table) (p : ℕ) → (finished w p).moment ≡ w.moment
finished_moment w p =
    let v : Table = rested (placed w p Is_done) in
    elim (is_released v.rows) as (λ b. (let u : Table = if b then placed v 0 Is_ready else v in u.moment ≡ w.moment)) [ true ↦ refl | false ↦ refl ]

-- ## The variables

pub without_more : (store : Store) (xs : List configurations.Activation) (a : configurations.Activation) →
    without_all store (xs ++ a ∷ []) ≡ without (without_all store xs) a.number
without_more store [] a = refl
without_more store (x ∷ xs) a = without_more (without store x.number) xs a

-- the activations from one place on, the innermost first
pub from_place :
    (t : Tables) (xs : List Activation) (i : ℕ) (x : Activation)
    → i < length xs → x ≡ get_or xs i x → activations_view t (drop i xs) ≡ activations_view t (drop (i + 1) xs) ++ activation_view t x ∷ []
from_place t xs i x within is =
    ap (activations_view t) (drop_more xs i x within ∙ ap (λ (y : Activation). y ∷ drop (i + 1) xs) (sym is))
    ∙ reverse-append (activation_view t x ∷ []) (map (activation_view t) (drop (i + 1) xs))

-- ## The end

-- mid is the state behind the changes of its variables and of its standing, and y the process behind its end
pub ends_process_so :
    (source : Source) (g : Program) (s mid new : State) (c : Config) (p choice line : ℕ) (a y : Activity)
    → IsAt source s c p a (finishes line) → effect g c p choice (finishes line) ≡ Ok (ended_process g c p)
    → mid ≡ record s { store = mid.store; world = mid.world }
    → store_view mid.store ≡ without_all (store_view s.store) (activations_view source.program.tables a.activations.items)
    → mid.world ≡ finished s.world p → HasEnded source.program.tables y line
    → new.activities.items ≡ set mid.activities.items p y → IsKept mid new → new.world ≡ ticked mid.world → IsNew new.world.rows new.world.done
    → Ends source g new c p choice (finishes line) [] Stepped
ends_process_so source g s mid new c p choice line a y is_at e mid_is store world shows items kept ticks fresh =
    let t : Tables = source.program.tables in
    let n : Action = finishes line in
    let before : IsBefore source s c p a n = is_at.before in
    let w : configurations.Activity = ended_activity (activity_of g c p) in
    let table : Table = finished c.table p in
    let c2 : Config = record c { store = without_all c.store (activity_of g c p).activations; table = table } in
    let same : mid.activities.items ≡ s.activities.items = ap (λ (x : State). x.activities.items) mid_is in
    let now : mid.world ≡ table = world ∙ ap (λ (x : Table). finished x p) before.agrees.table in
    let at_mid : IsBefore source mid c2 p a n
    = record {
      hand = before.hand;
      there = subst (λ (ys : List Activity). IsIn ys p a) (sym same) before.there;
      activities = before.activities ∙ ap (λ (ys : List Activity). set (activities_shown t ys) p (shown_before source a n before.hand)) (sym same);
      agrees = record {
        table = now;
        counts = ap (λ (x : State). x.semaphores) mid_is ∙ before.agrees.counts;
        monitors = ap (λ (x : State). x.monitors.holders) mid_is ∙ before.agrees.monitors;
        resources = ap (λ (x : State). x.resources) mid_is ∙ before.agrees.resources;
        store = store ∙ ap (λ (x : Store). without_all x (activations_view t a.activations.items)) before.agrees.store
            ∙ ap (without_all c.store) (sym (activations_are source g s c p a n before));
        input = ap (λ (x : State). x.input) mid_is ∙ before.agrees.input;
        words = ap (λ (x : State). x.draws) mid_is ∙ before.agrees.words;
        count = ap length same ∙ before.agrees.count ∙ sym (finished_rows c.table p);
        conditions = ap (λ (x : State). x.monitors.owners) mid_is ∙ before.agrees.conditions;
      };
    } in
    let seen : shown (record w { line = line }) ≡ activity_shown t y
    = ap (λ (x : Shown). (let z : Shown = record { next = x.next; display = []; activations = []; hand = empty_hand; line = line } in z))
    (acting_is source g s c p a n before)
    ∙ sym shows in
    let alone : table.acting ≡ None = released_acting (rested (placed c.table p Is_done)) in
    ends_so source g new c (with_activity c2 p w) p choice n [] e
    (stands_so source g mid new c2 p a y n w line at_mid alone is_at.quiet.sound seen items kept ticks fresh)
    (sym (append-nil c.output))
