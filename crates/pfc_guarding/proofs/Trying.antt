-- Whose guard a scan tries next, on both sides.
use Rattle.std.proofs.Common.{◌≡◌, ℕ, ◌<◌, ◌≢◌, List, Option, None, Some, length, map, set, get_or, sym, ap, ◌∙◌, subst}
use Rattle.std.specs.Prelude.{option_map}
use Rattle.std.proofs.lemmas.List.{get_or-map, get_or_default, get_or-set_other, length-map}
use Rattle.pfc_state.specs.Stands.{Stand, Is_ready, IsWaiting, ticket_of}
use Rattle.pfc_world.specs.Partners.{next_barred}
use Rattle.pfc_world.specs.Tables.{Table, at}
use Rattle.pfc_program.specs.declared.tables.Tables.{Tables}
use Rattle.pfc_semantics.specs.Programs.{Program}
use Rattle.pfc_semantics.specs.Remainders.{Action}
use Rattle.pfc_semantics.specs.Configurations as configurations
use Rattle.pfc_semantics.specs.Configurations.{Config, activity_of, nobody}
use Rattle.pfc_semantics.specs.Resources.{tried, tried_at}
use Rattle.pfc_pending.specs.declared.pending.Tried.{Tried}
use Rattle.pfc_pending.specs.Waiting.{tried_view}
use Rattle.pfc_activities.specs.declared.activities.Activity.{Activity}
use Rattle.pfc_activities.specs.declared.source.Source.{Source}
use Rattle.pfc_activities.specs.declared.state.State.{State}
use Rattle.pfc_activities.specs.Relation.{IsIn, shown_before, IsBefore}
use Rattle.pfc_activities.specs.Shown.{Shown, shown, activity_shown, activities_shown}
use Rattle.pfc_activities.proofs.Acting.{as_many}
use Rattle.pfc_guarding.specs.Trying.{IsTried, IsNext}

-- a process other than the one that acts shows the same on both sides
pub other_is :
    (t : Tables) (xs : List configurations.Activity) (ys : List Activity) (p q : ℕ) (old : Shown) (d : configurations.Activity) (b : Activity)
    → q ≢ p → IsIn ys q b → map shown xs ≡ set (activities_shown t ys) p old → shown (get_or xs q d) ≡ activity_shown t b
other_is t xs ys p q old d b other there h =
    let here : q < length xs = subst (λ n. q < n) (sym (as_many t xs ys p old h)) there.within in
    let e : Shown = shown d in
    let apart : get_or (set (activities_shown t ys) p old) q e ≡ get_or (activities_shown t ys) q e =
    get_or-set_other (activities_shown t ys) p q old e other in
    sym (get_or-map shown xs q d e here) ∙ ap (λ (l : List Shown). get_or l q e) h ∙ apart
    ∙ get_or_default (activities_shown t ys) q e (activity_shown t b) (subst (λ n. q < n) (sym (length-map ys (activity_shown t))) there.within)
    ∙ get_or-map (activity_shown t) ys q b (activity_shown t b) there.within ∙ ap (activity_shown t) (there.is b)

-- a process that waits is not the one that is ready
pub waits_apart : (rows : List Stand) (p q : ℕ) → at rows p ≡ Is_ready → IsWaiting (at rows q) → q ≢ p
waits_apart rows p q ready waits same = subst IsWaiting (ap (at rows) same ∙ ready) waits

pub tried_is :
    (source : Source) (g : Program) (s : State) (c : Config) (p : ℕ) (a : Activity) (n : Action) (o : Option ℕ) (found : Option Tried)
    → IsBefore source s c p a n → at s.world.rows p ≡ Is_ready → IsTried s o found
    → option_map (tried_view source.program.tables) found ≡ tried_at g c o
tried_is source g s c p a n None found before ready h = ap (option_map (tried_view source.program.tables)) h
tried_is source g s c p a n (Some q) found before ready h =
    let t : Tables = source.program.tables in
    let rows : s.world ≡ c.table = before.agrees.table in
    let within : q < length s.activities.items
    = subst (λ k. q < k) (ap (λ (w : Table). length w.rows) rows ∙ sym before.agrees.count) h.0 in
    let b : Activity = get_or s.activities.items q a in
    let there : IsIn s.activities.items q b = record { within = within; is = λ d. get_or_default s.activities.items q d a within } in
    let seen : shown (activity_of g c q) ≡ activity_shown t b
    = other_is t c.activities s.activities.items p q (shown_before source a n before.hand) (nobody g) b
    (waits_apart s.world.rows p q ready h.1) there before.activities in
    h.2 t b there
    ∙ ap (λ (x : Shown). tried q x.hand (ticket_of (at s.world.rows q))) (sym seen)
    ∙ ap (λ (w : Table). tried q (activity_of g c q).hand (ticket_of (at w.rows q))) rows

pub next_is :
    (source : Source) (g : Program) (s : State) (c : Config) (p r : ℕ) (after : Option ℕ) (a : Activity) (n : Action) (found : Option Tried)
    → IsBefore source s c p a n → at s.world.rows p ≡ Is_ready → IsNext s r after found
    → option_map (tried_view source.program.tables) found ≡ tried_at g c (next_barred c.table.rows r after)
next_is source g s c p r after a n found before ready h =
    tried_is source g s c p a n (next_barred s.world.rows r after) found before ready h
    ∙ ap (λ (w : Table). tried_at g c (next_barred w.rows r after)) before.agrees.table
