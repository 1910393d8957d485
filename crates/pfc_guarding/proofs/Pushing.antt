-- One process of many, with one more that is pending.
use Rattle.std.proofs.Common.{◌≡◌, ℕ, List, [], ◌∷◌, ◌++◌, length, set, get_or, Result, Ok, Err, IfOk, OnErr, Vec, Global, refl, sym, ap, ◌∙◌}
use Rattle.std.proofs.lemmas.List.{append-nil, map-set, set-set, length-set}
use Rattle.std.proofs.lemmas.List.Sums.{fold_push}
use Rattle.pfc_program.specs.declared.tables.Tables.{Tables}
use Rattle.pfc_program.specs.InView.{InView}
use Rattle.pfc_program.specs.Views.{names_view}
use Rattle.pfc_store.specs.Views.{store_view}
use Rattle.pfc_semantics.specs.Remainders.{Action, Remainder, ends}
use Rattle.pfc_semantics.specs.Rewriting.{from_remainder, going}
use Rattle.pfc_semantics.specs.Configurations.{Config}
use Rattle.pfc_pending.specs.declared.pending.Pending.{Pending}
use Rattle.pfc_pending.specs.declared.at_hand.At.TheVariants as at
use Rattle.pfc_pending.specs.Waiting.{Waiting, behind, remainder_of, over, waiting}
use Rattle.pfc_activities.specs.declared.activities.Activation.{Activation as HeldActivation}
use Rattle.pfc_activities.specs.declared.activities.Activity.{Activity}
use Rattle.pfc_activities.specs.declared.changes.Done.{Done}
use Rattle.pfc_activities.specs.declared.source.Source.{Source}
use Rattle.pfc_activities.specs.declared.state.State.{State}
use Rattle.pfc_activities.specs.Relation.{Agrees, shown_before, IsBefore, IsAt, StaysAt, GoesOn}
use Rattle.pfc_activities.specs.Shown.{Shown, activity_shown, activities_shown}
use Rattle.pfc_activities.specs.Views.{activations_view, context_of, pending_of}
use Rattle.pfc_activities.proofs.Acting.{put_in}
use Rattle.pfc_guarding.specs.Under.{IsLike, GoesUnder}

-- a refusal, whatever it was
pub on_err : {A E : Type 0} (r : Result A E) (P : Type 0) → P → OnErr r P
on_err (Ok x) P h = tt
on_err (Err e) P h = h

-- what holds of an answer in place of something else
pub if_ok : {E : Type 0} (r : Result Done E) (P Q : Done → Type 0) → ((d : Done) → P d → Q d) → IfOk r P → IfOk r Q
if_ok (Ok d) P Q f h = f d h
if_ok (Err e) P Q f h = tt

-- nothing was done
pub nothing_so : (s : State) (p : ℕ) → StaysAt s s p
nothing_so s p source c a n is_at = (a, is_at, record { names = refl; line = refl; pending = refl })

-- only this process was changed
pub record IsPut (s new : State) (p : ℕ) (b : Activity) : Type 0 where
  pub is : new ≡ record s { activities = new.activities }
  pub items : new.activities.items ≡ set s.activities.items p b

still_agrees : (source : Source) (s new : State) (c : Config) (p : ℕ) (b : Activity) → Agrees source s c → IsPut s new p b → Agrees source new c
still_agrees source s new c p b agrees put =
    record {
      table = ap (λ (x : State). x.world) put.is ∙ agrees.table;
      counts = ap (λ (x : State). x.semaphores) put.is ∙ agrees.counts;
      monitors = ap (λ (x : State). x.monitors.holders) put.is ∙ agrees.monitors;
      resources = ap (λ (x : State). x.resources) put.is ∙ agrees.resources;
      store = ap (λ (x : State). store_view x.store) put.is ∙ agrees.store;
      input = ap (λ (x : State). x.input) put.is ∙ agrees.input;
      words = ap (λ (x : State). x.draws) put.is ∙ agrees.words;
      count = ap length put.items ∙ length-set s.activities.items p b ∙ agrees.count;
      conditions = ap (λ (x : State). x.monitors.owners) put.is ∙ agrees.conditions;
    }

-- the process stands where it stood, whatever is pending for it
pub like_at :
    (source : Source) (s new : State) (c : Config) (p : ℕ) (a found b : Activity) (n : Action) (items : List Pending)
    → IsAt source s c p a n → found ≡ get_or s.activities.items p found → IsPut s new p b → IsLike found b items → IsAt source new c p b n
like_at source s new c p a found b n items is_at is put like =
    let t : Tables = source.program.tables in
    let ys : List Activity = s.activities.items in
    let before : IsBefore source s c p a n = is_at.before in
    let same : found ≡ a = is ∙ before.there.is found in
    let alike : shown_before source b n before.hand ≡ shown_before source a n before.hand
    = ap (λ d. (let y : Shown
    = record { next = n; display = d; activations = activations_view t b.activations.items; hand = before.hand; line = b.line } in y))
    (like.display ∙ ap (λ (x : Activity). x.display) same)
    ∙ ap (λ (v : Vec HeldActivation Global). (let y : Shown
    = record { next = n; display = a.display; activations = activations_view t v.items; hand = before.hand; line = b.line } in y))
    (like.activations ∙ ap (λ (x : Activity). x.activations) same)
    ∙ ap (λ (l : ℕ). (let y : Shown
    = record { next = n; display = a.display; activations = activations_view t a.activations.items; hand = before.hand; line = l } in y))
    (like.line ∙ ap (λ (x : Activity). x.line) same) in
    record {
      before = record {
        hand = before.hand;
        there = put_in ys new.activities.items p a b before.there put.items;
        activities =
            before.activities ∙ ap (λ (x : Shown). set (activities_shown t ys) p x) (sym alike)
            ∙ sym (ap (λ (l : List Activity). set (activities_shown t l) p (shown_before source b n before.hand)) put.items
            ∙ ap (λ (l : List Shown). set l p (shown_before source b n before.hand)) (map-set (activity_shown t) ys p b)
            ∙ set-set (activities_shown t ys) p (activity_shown t b) (shown_before source b n before.hand));
        agrees = still_agrees source s new c p b before.agrees put;
      };
      quiet = is_at.quiet;
    }

-- where there is no difference to be seen
pub stays_so :
    (s new : State) (p : ℕ) (found b : Activity)
    → found ≡ get_or s.activities.items p found → IsPut s new p b → IsLike found b found.doing.pending.items → StaysAt s new p
stays_so s new p found b is put like source c a n is_at =
    let same : found ≡ a = is ∙ is_at.before.there.is found in (
      b,
      like_at source s new c p a found b n found.doing.pending.items is_at is put like,
      record {
        names = like.names ∙ ap (λ (x : Activity). x.doing.names) same;
        line = like.at_line ∙ ap (λ (x : Activity). x.doing.line) same;
        pending = like.pending ∙ ap (λ (x : Activity). x.doing.pending.items) same;
      },
    )

-- the process goes on with what was put there
pub goes_under :
    (s mid new : State) (p : ℕ) (part : Pending) (found b : Activity) (d : Done)
    → found ≡ get_or s.activities.items p found → IsPut s mid p b → IsLike found b (found.doing.pending.items ++ part ∷ [])
    → GoesOn mid new p at.Rest d → GoesUnder s new p part d
goes_under s mid new p part found b d is put like goes source g c choice a n is_at e lines =
    let t : Tables = source.program.tables in
    let same : found ≡ a = is ∙ is_at.before.there.is found in
    let k : Remainder = remainder_of (over t (pending_of t a.doing) part) in
    let names : b.doing.names ≡ a.doing.names = like.names ∙ ap (λ (x : Activity). x.doing.names) same in
    let pending : waiting t b.doing.pending.items ≡ over t (pending_of t a.doing) part
    = ap (waiting t) (like.pending ∙ ap (λ (x : Activity). x.doing.pending.items ++ part ∷ []) same)
    ∙ fold_push (over t) (behind (ends 0)) a.doing.pending.items part in
    goes source g c c choice b n (going (context_of t a.doing).env k) []
    (like_at source s mid c p a found b n (found.doing.pending.items ++ part ∷ []) is_at is put like) e
    (ap (λ (x : InView). from_remainder (names_view t x) k) (sym names)
    ∙ ap (λ (w : Waiting). from_remainder (names_view t b.doing.names) (remainder_of w)) (sym pending))
    (lines ∙ sym (like.at_line ∙ ap (λ (x : Activity). x.doing.line) same)) (sym (append-nil c.output))
