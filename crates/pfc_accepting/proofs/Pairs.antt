-- A change of two processes, one of them the one that acts, on both sides.
use Rattle.std.proofs.Common.{◌≡◌, ◌≢◌, ℕ, ◌<◌, List, [], length, map, set, get_or, None, Ok, refl, sym, ap, ◌∙◌, subst}
use Rattle.std.proofs.lemmas.List.{append-nil, get_or_read_under, set_comm, length-set}
use Rattle.pfc_program.specs.declared.tables.Tables.{Tables}
use Rattle.pfc_world.specs.Tickets.{IsNew}
use Rattle.pfc_world.specs.Transitions.{ticked}
use Rattle.pfc_store.specs.Views.{store_view}
use Rattle.pfc_semantics.specs.Store.{Store}
use Rattle.pfc_semantics.specs.Programs.{Program}
use Rattle.pfc_semantics.specs.Remainders.{Action}
use Rattle.pfc_semantics.specs.Configurations as configurations
use Rattle.pfc_semantics.specs.Configurations.{Config, done_at}
use Rattle.pfc_semantics.specs.Steps.{effect, line_of}
use Rattle.pfc_activities.specs.declared.activities.Activity.{Activity}
use Rattle.pfc_activities.specs.declared.changes.Done.TheVariants.{Stepped}
use Rattle.pfc_activities.specs.declared.source.Source.{Source}
use Rattle.pfc_activities.specs.declared.state.State.{State}
use Rattle.pfc_activities.specs.Relation.{Agrees, IsIn, IsBefore, IsKept, Stands, Ends, shown_before}
use Rattle.pfc_activities.specs.Shown.{shown, activity_shown, activities_shown}
use Rattle.pfc_activities.specs.Views.{at_line}
use Rattle.pfc_activities.proofs.Acting.{change_one, ends_so}
use Rattle.pfc_meeting.proofs.Both.{change_any, now_in, kept_in, stands_then}

-- the process that was found
pub there_is : (ys : List Activity) (q : ℕ) (found : Activity) → q < length ys → found ≡ get_or ys q found → IsIn ys q found
there_is ys q found within is = record { within = within; is = λ d. sym (get_or_read_under ys q (length ys) found d is within refl) }

-- both are replaced by others that show the same
pub two_shown :
    (source : Source) (s : State) (k : Config) (p q : ℕ) (a y z : Activity) (n : Action) (w v : configurations.Activity)
    → IsBefore source s k p a n → q ≢ p → shown w ≡ activity_shown source.program.tables y → shown v ≡ activity_shown source.program.tables z
    → map shown (set (set k.activities p w) q v) ≡ activities_shown source.program.tables (set (set s.activities.items q z) p y)
two_shown source s k p q a y z n w v before other acts meets =
    let t : Tables = source.program.tables in
    let ys : List Activity = s.activities.items in
    change_any t (set k.activities p w) (set ys p y) q v z
    (change_one t k.activities ys p w y (shown_before source a n before.hand) before.activities acts) meets
    ∙ ap (activities_shown t) (set_comm ys p q y z (λ h. other (sym h)))

-- processes and variables are others on both sides
agrees_then :
    (source : Source) (s mid : State) (k : Config) (store : Store)
    → Agrees source s k → mid ≡ record s { activities = mid.activities; store = mid.store } → length mid.activities.items ≡ length s.activities.items
    → store_view mid.store ≡ store → Agrees source mid (record k { store = store })
agrees_then source s mid k store agrees is many store_is =
    record {
      table = ap (λ (x : State). x.world) is ∙ agrees.table;
      counts = ap (λ (x : State). x.semaphores) is ∙ agrees.counts;
      monitors = ap (λ (x : State). x.monitors.holders) is ∙ agrees.monitors;
      resources = ap (λ (x : State). x.resources) is ∙ agrees.resources;
      store = store_is;
      input = ap (λ (x : State). x.input) is ∙ agrees.input;
      words = ap (λ (x : State). x.draws) is ∙ agrees.words;
      count = many ∙ agrees.count;
      conditions = ap (λ (x : State). x.monitors.owners) is ∙ agrees.conditions;
    }

-- Both are others, and the action is done. Variables were changed with them in the state `mid`, and `all` are the processes before the line.
pub both_end :
    (source : Source) (g : Program) (s mid new : State) (c k : Config) (store : Store) (p q choice : ℕ) (a y z : Activity) (all : List Activity) (n : Action)
    (w v : configurations.Activity) (line : ℕ)
    → IsBefore source s k p a n → k.table.acting ≡ None → k.fault ≡ None → q ≢ p
    → shown w ≡ activity_shown source.program.tables y → shown v ≡ activity_shown source.program.tables z
    → mid ≡ record s { activities = mid.activities; store = mid.store } → length mid.activities.items ≡ length s.activities.items → store_view mid.store ≡ store
    → all ≡ set (set s.activities.items q z) p y
    → ((b : Activity) → IsIn all p b → new.activities.items ≡ set all p (at_line b line))
    → IsKept mid new → new.world ≡ ticked mid.world → IsNew new.world.rows new.world.done
    → effect g c p choice n ≡ Ok (record k { store = store; activities = set (set k.activities p w) q v })
    → line ≡ a.doing.line → line_of n ≡ a.doing.line → k.output ≡ c.output → Ends source g new c p choice n [] Stepped
both_end source g s mid new c k store p q choice a y z all n w v line before acting sound other acts meets mid_is many store_is all_is last
    kept ticks fresh e of_line lines output =
    let t : Tables = source.program.tables in
    let ys : List Activity = s.activities.items in
    let cs : List configurations.Activity = set (set k.activities p w) q v in
    let k2 : Config = record k { store = store } in
    let d : Config = record k2 { activities = cs } in
    let back : p ≢ q = λ h. other (sym h) in
    let same : map shown cs ≡ activities_shown t all
    = two_shown source s k p q a y z n w v before other acts meets ∙ ap (activities_shown t) (sym all_is) in
    let there : IsIn all p y
    = subst (λ (l : List Activity). IsIn l p y) (sym all_is) (now_in (set ys q z) p a y (kept_in ys p q a z back before.there)) in
    let as_many : length all ≡ length mid.activities.items
    = ap length all_is ∙ length-set (set ys q z) p y ∙ length-set ys q z ∙ sym many in
    ends_so source g new c d p choice n [] e
    (subst (λ (l : ℕ). Stands source new (done_at g d p l)) (of_line ∙ sym lines)
    (stands_then source g mid new k2 cs all p y line same (agrees_then source s mid k store before.agrees mid_is many store_is) as_many acting sound there
    (last y there) kept ticks fresh))
    (output ∙ sym (append-nil c.output))
