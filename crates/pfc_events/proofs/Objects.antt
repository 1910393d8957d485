-- The objects of an action, on both sides.
use Rattle.std.proofs.Common.{◌≡◌, ℕ, ◌+◌, ◌<◌, ◌≤◌, List, [], ◌∷◌, ◌++◌, length, drop, drop-cons, drop_of_length-le, add-one, get_or, Result, Ok, Err, refl}
use Rattle.std.proofs.Common.{sym, ap, ap₂, ◌∙◌}
use Rattle.std.specs.Prelude.{unsigned_abs}
use Rattle.std.proofs.lemmas.List.{map-append}
use Rattle.pfc_base.specs.declared.faults.RunFault.{RunFault}
use Rattle.pfc_values.specs.Pieces.{piece}
use Rattle.pfc_store.specs.Views.{spot_view, store_view}
use Rattle.pfc_semantics.specs.Values.{Value, ordinal_of}
use Rattle.pfc_semantics.specs.Store.{Store}
use Rattle.pfc_semantics.specs.Displays.{Display, Spot}
use Rattle.pfc_semantics.specs.Programs.{Program}
use Rattle.pfc_semantics.specs.Remainders as remainders
use Rattle.pfc_semantics.specs.Remainders.{Action, Context, Remainder, Offer, to_send, to_receive, to_accept, to_wait, to_end}
use Rattle.pfc_semantics.specs.Statements.{from_piece}
use Rattle.pfc_semantics.specs.Configurations.{Config, activity_of, number_for}
use Rattle.pfc_semantics.specs.Monitors.{monitor_of}
use Rattle.pfc_semantics.specs.Events.{Thing, a_semaphore, a_channel, a_monitor, an_owner, open_thing, open_things, innermost_things, module_thing, things_of}
use Rattle.pfc_races.specs.Seen.{things_seen}
use Rattle.pfc_pending.specs.Pieces.{piece_bytes}
use Rattle.pfc_pending.specs.Selects.{offer_view, opens_view}
use Rattle.pfc_pending.specs.declared.actions.Deed.{Deed}
use Rattle.pfc_pending.specs.declared.actions.Deed.TheVariants as deed
use Rattle.pfc_pending.specs.declared.pending.Callee.TheVariants as callee
use Rattle.pfc_pending.specs.declared.select.Open.{Open}
use Rattle.pfc_activities.specs.declared.activities.Activity.{Activity}
use Rattle.pfc_activities.specs.declared.source.Source.{Source}
use Rattle.pfc_activities.specs.declared.state.State.{State}
use Rattle.pfc_activities.specs.Programs.{IsProgram}
use Rattle.pfc_activities.specs.Relation.{IsBefore}
use Rattle.pfc_activities.specs.Views.{context_of, deed_of}
use Rattle.pfc_activities.proofs.Acting.{activations_are, value_is}
use Rattle.pfc_meeting.specs.Opens.{number_in}
use Rattle.pfc_events.specs.Things.{innermost_in, open_thing_in, open_things_in, things_held}

-- ## The walk over the open alternatives

opens_step : (os : List Open) (i : ℕ) (d : Open) → i < length os → drop i os ≡ get_or os i d ∷ drop (i + 1) os
opens_step os i d h = drop-cons os i d h ∙ ap (λ n. get_or os i d ∷ drop n os) (sym (add-one i))

pub things_step :
    (store : Store) (display : Display) (p : ℕ) (os : List Open) (i : ℕ) (d : Open) → i < length os
    → things_seen (open_things_in store display p (opens_view (drop i os)))
    ≡ things_seen (open_thing_in store display p (offer_view (get_or os i d).offer)) ++ things_seen
    (open_things_in store display p (opens_view (drop (i + 1) os)))
things_step store display p os i d h =
    ap (λ (l : List Open). things_seen (open_things_in store display p (opens_view l))) (opens_step os i d h)
    ∙ map-append _ (open_thing_in store display p (offer_view (get_or os i d).offer)) (open_things_in store display p (opens_view (drop (i + 1) os)))

pub things_end :
    (store : Store) (display : Display) (p : ℕ) (os : List Open) (i : ℕ) → length os ≤ i
    → things_seen (open_things_in store display p (opens_view (drop i os))) ≡ []
things_end store display p os i h =
    ap (λ (l : List Open). things_seen (open_things_in store display p (opens_view l))) (drop_of_length-le os {i = i} h)

-- ## An output piece has none

of_piece : (g : Program) (c : Config) (p : ℕ) (x : Context) (k : Remainder) (r : Result (List ℕ) RunFault) → [] ≡ things_of g c p (from_piece x k r)
of_piece g c p x k (Ok bytes) = refl
of_piece g c p x k (Err f) = refl

-- ## On both sides

module _ (source : Source) (g : Program) (s : State) (c : Config) (p : ℕ) (a : Activity) (n : Action) (program : IsProgram source g)
    (before : IsBefore source s c p a n) where
  abbrev store : Store
  store = store_view s.store

  number : (spot : Spot) → number_in store a.display spot ≡ number_for g c p spot
  number spot = ap (λ (v : Value). unsigned_abs (ordinal_of v)) (value_is source g s c p a n before spot)

  monitor : (spot : Spot) → get_or s.monitors.owners (number_in store a.display spot) 0 ≡ monitor_of g (number_for g c p spot)
  monitor spot =
      ap (λ (i : ℕ). get_or s.monitors.owners i 0) (number spot)
      ∙ ap (λ (owners : List ℕ). get_or owners (number_for g c p spot) 0) before.agrees.conditions
      ∙ ap (λ (x : Program). monitor_of x (number_for g c p spot)) (sym program.is)

  open_is : (o : Offer) → open_thing_in store a.display p o ≡ open_thing g c p o
  open_is (to_send channel v) = ap (λ (i : ℕ). a_channel i ∷ []) (number channel)
  open_is (to_receive channel target) = ap (λ (i : ℕ). a_channel i ∷ []) (number channel)
  open_is (to_accept x) = refl
  open_is (to_wait i) = refl
  open_is to_end = refl

  opens_are : (os : List remainders.Open) → open_things_in store a.display p os ≡ open_things g c p os
  opens_are [] = refl
  opens_are (o ∷ os) = ap₂ (λ (x y : List Thing). x ++ y) (open_is o.offer) (opens_are os)

  innermost : innermost_in source a.activations.items ≡ innermost_things (activity_of g c p).activations
  innermost = ap innermost_things (sym (activations_are source g s c p a n before))

  pub things_are : (d : Deed) → things_held source s a p d ≡ things_of g c p (deed_of source.program.tables a.doing d)
  things_are (deed.Reads at) = refl
  things_are (deed.Writes at v) = refl
  things_are deed.Turns = refl
  things_are (deed.Calls (callee.Procedure i) args) = refl
  things_are (deed.Calls (callee.Function i) args) = refl
  things_are (deed.Calls (callee.Module m i) args) = ap (λ (x : Program). module_thing x m ∷ []) (sym program.is)
  things_are (deed.Calls (callee.Requeue i) args) = innermost
  things_are (deed.Calls (callee.Process at) args) = refl
  things_are (deed.Calls (callee.Entry at entry) args) = ap (λ (i : ℕ). an_owner i ∷ []) (number (spot_view at))
  things_are (deed.Finishes line) = innermost
  things_are (deed.Prints bytes width) =
      of_piece g c p (context_of source.program.tables a.doing) _ (piece width (piece_bytes bytes))
  things_are (deed.Inputs t at) = refl
  things_are deed.Skips = refl
  things_are deed.AsksEof = refl
  things_are deed.AsksEoln = refl
  things_are deed.AsksClock = refl
  things_are (deed.AsksEmpty at) = ap (λ (i : ℕ). a_monitor i ∷ []) (monitor (spot_view at))
  things_are (deed.Draws i) = refl
  things_are deed.Joins = refl
  things_are (deed.Initials at i) = ap (λ (k : ℕ). a_semaphore k ∷ []) (number (spot_view at))
  things_are (deed.Waits at) = ap (λ (k : ℕ). a_semaphore k ∷ []) (number (spot_view at))
  things_are (deed.Signals at) = ap (λ (k : ℕ). a_semaphore k ∷ []) (number (spot_view at))
  things_are (deed.Delays at rank) = ap (λ (i : ℕ). a_monitor i ∷ []) (monitor (spot_view at))
  things_are (deed.Resumes at) = ap (λ (i : ℕ). a_monitor i ∷ []) (monitor (spot_view at))
  things_are (deed.Sleeps i) = refl
  things_are (deed.Meets offer) = open_is (offer_view offer)
  things_are (deed.Decides select) = opens_are (opens_view select.offered.items)
  things_are (deed.Parts caller) = refl
  things_are (deed.Scans scan) = refl
  things_are (deed.Bars b) = refl
  things_are (deed.Passes tried scan) = refl
  things_are (deed.Faults fault) = refl
