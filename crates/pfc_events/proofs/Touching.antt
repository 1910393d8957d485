-- What an action reads or writes, on both sides.
use Rattle.std.proofs.Common.{◌≡◌, ℕ, List, [], ◌∷◌, get_or, Option, Some, None, true, false, refl, sym, ap, ◌∙◌, subst}
use Rattle.std.specs.Borrow.{Bor}
use Rattle.std.specs.declared.alloc.Global.{Global}
use Rattle.std.specs.declared.vec.Vec.{Vec}
use Rattle.std.specs.Prelude.{Bool}
use Rattle.pfc_hb.specs.declared.accesses.Access.{Access as AccessSeen}
use Rattle.pfc_sched.specs.Picks.{Picking}
use Rattle.pfc_store.specs.declared.spots.Spot.{Spot as HeldSpot}
use Rattle.pfc_store.specs.declared.values.Value.{Value as HeldValue}
use Rattle.pfc_store.specs.Views.{spot_view, store_view}
use Rattle.pfc_types.specs.declared.types.TypeId.{TypeId}
use Rattle.pfc_semantics.specs.Values.{Location}
use Rattle.pfc_semantics.specs.Displays.{located}
use Rattle.pfc_semantics.specs.Remainders as remainders
use Rattle.pfc_semantics.specs.Statements.{plain_open}
use Rattle.pfc_semantics.specs.Events.{call_writes, open_writes}
use Rattle.pfc_races.specs.Seen.{accesses_seen}
use Rattle.pfc_pending.specs.Selects.{offer_view, open_view}
use Rattle.pfc_pending.specs.Waiting.{callee_view, given_view, remainder_of}
use Rattle.pfc_pending.specs.declared.actions.Deed.{Deed}
use Rattle.pfc_pending.specs.declared.actions.Deed.TheVariants as deed
use Rattle.pfc_pending.specs.declared.pending.Argument.{Argument}
use Rattle.pfc_pending.specs.declared.pending.Callee.{Callee}
use Rattle.pfc_pending.specs.declared.pending.Callee.TheVariants as callee
use Rattle.pfc_pending.specs.declared.select.Offer.{Offer as HeldOffer}
use Rattle.pfc_pending.specs.declared.select.Open.{Open}
use Rattle.pfc_pending.specs.declared.select.Selecting.{Selecting}
use Rattle.pfc_activities.specs.declared.activities.Activity.{Activity}
use Rattle.pfc_activities.specs.declared.state.State.{State}
use Rattle.pfc_activities.specs.Views.{context_of, deed_of, pending_of}
use Rattle.pfc_activities.proofs.Acting.{located_is}
use Rattle.pfc_events.specs.Held.{access_to}
use Rattle.pfc_events.specs.Sides.{AreCalled, AreWritten}
use Rattle.pfc_events.specs.Choosing.{IsTaken}
use Rattle.pfc_events.specs.Accesses.{AreAccesses, AreCalledBy, AreDecided, IsTouched}

-- ## One variable

pub touched_so :
    (s : State) (p : ℕ) (own : Activity) (spot : HeldSpot) (write : Bool) (accesses : List AccessSeen)
    → own ≡ get_or s.activities.items p own → accesses ≡ access_to write (located (store_view s.store) own.display (spot_view spot)) ∷ []
    → IsTouched s p spot write accesses
touched_so s p own spot write accesses is held source g c a n before =
    held ∙ ap (λ (x : Activity). access_to write (located (store_view s.store) x.display (spot_view spot)) ∷ []) (is ∙ before.there.is own)
    ∙ ap (λ (l : Location). access_to write l ∷ []) (located_is source g s c p a n before (spot_view spot))

-- ## A select

pub decided_by :
    (s : State) (p : ℕ) (select : Selecting) (picking : Picking) (met : Bor Open) (accesses : List AccessSeen)
    → IsTaken s p select picking (Some met) → AreWritten s p met.now.offer accesses → AreDecided s p select picking accesses
decided_by s p select picking met accesses taken written source g c a n x k before =
    written source g c a n (open_view met.now) before refl
    ∙ ap (λ (o : Option remainders.Open). accesses_seen (open_writes g c p o)) (taken source g c a n before)

pub decided_none : (s : State) (p : ℕ) (select : Selecting) (picking : Picking) (accesses : List AccessSeen)
    → IsTaken s p select picking None → accesses ≡ [] → AreDecided s p select picking accesses
decided_none s p select picking accesses taken none source g c a n x k before =
    none ∙ ap (λ (o : Option remainders.Open). accesses_seen (open_writes g c p o)) (taken source g c a n before)

-- ## A call

pub entry_called :
    (s : State) (p : ℕ) (called : Callee) (spot : HeldSpot) (entry : ℕ) (args : List Argument) (accesses : List AccessSeen)
    → called ≡ callee.Entry spot entry → AreCalled s p spot entry args accesses → AreCalledBy s p called args accesses
entry_called s p called spot entry args accesses is written source g c a n w before =
    written source g c a n (remainder_of w) before
    ∙ ap (λ (x : Callee). accesses_seen (call_writes g c p (callee_view w x) (given_view args))) (sym is)

-- ## Any action

abbrev Told : State → ℕ → Picking → List AccessSeen → Deed → Type 0
Told s p picking accesses d = AreAccesses s p d picking accesses

pub reads_so :
    (s : State) (p : ℕ) (d : Deed) (picking : Picking) (spot : HeldSpot) (accesses : List AccessSeen)
    → d ≡ deed.Reads spot → IsTouched s p spot false accesses → AreAccesses s p d picking accesses
reads_so s p d picking spot accesses is touched =
    subst (Told s p picking accesses) (sym is)
    (λ source g c a before. touched source g c a (deed_of source.program.tables a.doing (deed.Reads spot)) before)

pub writes_so :
    (s : State) (p : ℕ) (d : Deed) (picking : Picking) (spot : HeldSpot) (v : HeldValue) (accesses : List AccessSeen)
    → d ≡ deed.Writes spot v → IsTouched s p spot true accesses → AreAccesses s p d picking accesses
writes_so s p d picking spot v accesses is touched =
    subst (Told s p picking accesses) (sym is)
    (λ source g c a before. touched source g c a (deed_of source.program.tables a.doing (deed.Writes spot v)) before)

pub inputs_so :
    (s : State) (p : ℕ) (d : Deed) (picking : Picking) (t : Option TypeId) (spot : HeldSpot) (accesses : List AccessSeen)
    → d ≡ deed.Inputs t spot → IsTouched s p spot true accesses → AreAccesses s p d picking accesses
inputs_so s p d picking t spot accesses is touched =
    subst (Told s p picking accesses) (sym is)
    (λ source g c a before. touched source g c a (deed_of source.program.tables a.doing (deed.Inputs t spot)) before)

pub calls_so :
    (s : State) (p : ℕ) (d : Deed) (picking : Picking) (called : Callee) (args : Vec Argument Global) (given : List Argument) (accesses : List AccessSeen)
    → d ≡ deed.Calls called args → given ≡ args.items → AreCalledBy s p called given accesses → AreAccesses s p d picking accesses
calls_so s p d picking called args given accesses is same written =
    subst (Told s p picking accesses) (sym is)
    (λ source g c a before.
    written source g c a (deed_of source.program.tables a.doing (deed.Calls called args)) (pending_of source.program.tables a.doing) before
    ∙ ap (λ (l : List Argument). accesses_seen (call_writes g c p (callee_view (pending_of source.program.tables a.doing) called) (given_view l))) same)

pub meets_so :
    (s : State) (p : ℕ) (d : Deed) (picking : Picking) (offer : HeldOffer) (accesses : List AccessSeen)
    → d ≡ deed.Meets offer → AreWritten s p offer accesses → AreAccesses s p d picking accesses
meets_so s p d picking offer accesses is written =
    subst (Told s p picking accesses) (sym is)
    (λ source g c a before.
    written source g c a (deed_of source.program.tables a.doing (deed.Meets offer)) (plain_open (offer_view offer)) before refl)

pub decides_so :
    (s : State) (p : ℕ) (d : Deed) (picking : Picking) (select : Selecting) (accesses : List AccessSeen)
    → d ≡ deed.Decides select → AreDecided s p select picking accesses → AreAccesses s p d picking accesses
decides_so s p d picking select accesses is decided =
    subst (Told s p picking accesses) (sym is)
    (λ source g c a before.
    decided source g c a (deed_of source.program.tables a.doing (deed.Decides select)) (context_of source.program.tables a.doing)
    (remainder_of (pending_of source.program.tables a.doing)) before)
