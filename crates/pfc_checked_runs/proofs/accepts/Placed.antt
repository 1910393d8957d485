-- Where all processes are placed, each accept of a process in its first activation stands within its block.
use Rattle.std.proofs.Common.{◌≡◌, ◌≤◌, ◌<◌, ℕ, zero, suc, ◌+◌, true, ◌&&◌, List, [], ◌∷◌, slice_get, Option, Some, refl, ap, ◌∙◌, subst, arith}
use Rattle.std.specs.Prelude.{nat_lt, nat_le}
use Rattle.std.specs.List.{AllByRecursion}
use Rattle.std.proofs.lemmas.Bool.Decides.{nat_tests}
use Rattle.pfc_semantics.specs.Programs.{Block, Program}
use Rattle.pfc_semantics.specs.Processes.{process_block}
use Rattle.pfc_semantics.specs.Remainders.{Context, Accepting, Open, Remainder, Selecting, Action, to_accept, decides, meets}
use Rattle.pfc_semantics.specs.Configurations.{Activation, Config, Hand, offering, activity_of}
use Rattle.pfc_semantics.specs.Steps.{next_of}
use Rattle.pfc_translation.specs.Sites.{is_accept}
use Rattle.pfc_accept_laws.specs.Places.{IsBefore, PlacesOpen, PlacesSelecting, PlacesRemainder, PlacesAction}
use Rattle.pfc_accept_laws.specs.Placed.{of_process, block_in, DoesIn, HandIn, AllPlaced}
use Rattle.pfc_accept_laws.proofs.Meetings.{accept_stands}
use Rattle.pfc_accept_laws.proofs.NextPlaces.{next_places}
use Rattle.pfc_representation.specs.Levels.{Facts, program_in}
use Rattle.pfc_kept_meetings.specs.Waiting.{IsInFirst, StandsWithin, KeepsOffers}
use Rattle.pfc_kept_meetings.specs.entries.Selects.{StandWithin}

all_at : {X : Type 0} (P : X → Type 0) (xs : List X) (k : ℕ) (x : X) → AllByRecursion P xs → slice_get xs k ≡ Some x → P x
all_at P [] k x all at = absurd (cc)
all_at P (y ∷ xs) zero x all at = (let same : y ≡ x = cc in subst P same all.0)
all_at P (y ∷ xs) (suc k) x all at = all_at P xs k x all.1 at

between : (n k i : ℕ) → n ≤ i → i < n + k → (nat_le n i && nat_lt i (n + k)) ≡ true
between n k i low high = grind (arith, nat_tests, low, high)

its_block : (g : Program) (q : ℕ) → 0 < q → of_process g q ≡ Some (process_block g q)
its_block g zero child = absurd (grind (arith, child))
its_block g (suc q) child = refl

-- an accept that is placed in the block
stands_in : (b : Block) (x : Context) (o : Open) (a : Accepting) (k : Remainder) → o.offer ≡ to_accept a → PlacesOpen b x.env k o
    → (is_accept b a.scope ≡ true) × IsBefore a.scope x.env
stands_in b x o a k offer placed =
    let so = accept_stands b x o a k offer placed in
    (between b.next b.accepts a.scope so.0.0 so.0.1, so.1)

module _ (facts : Facts) (c : Config) (all : AllPlaced (program_in facts) c) where
  abbrev g : Program
  g = program_in facts

  block_is : (q : ℕ) → IsInFirst facts c q → block_in g q (activity_of g c q).activations ≡ Some (process_block g q)
  block_is q first = ap (λ (l : List Activation). block_in g q l) first.1.1 ∙ its_block g q first.0

  -- ## What is offered

  offered :
      (q : ℕ) (x : Context) (os : List Open) (k : Remainder) → IsInFirst facts c q → (activity_of g c q).hand ≡ offering x os k
      → AllByRecursion (PlacesOpen (process_block g q) x.env k) os
  offered q x os k first shows =
      let hand : HandIn (Some (process_block g q)) (activity_of g c q).hand =
      subst (λ (w : Option Block). HandIn w (activity_of g c q).hand) (block_is q first) (all q).hand in
      (subst (λ (h : Hand). HandIn (Some (process_block g q)) h) shows hand).0

  pub keeps_offers : KeepsOffers facts c
  keeps_offers =
      record {
        within = λ q x os k n o a shows at offer first.
            stands_in (process_block g q) x o a k offer
            (all_at (PlacesOpen (process_block g q) x.env k) os n o (offered q x os k first shows) at);
      }

  -- ## What comes next

  next_placed : (p : ℕ) (n : Action) → IsInFirst facts c p → next_of g c p ≡ n → PlacesAction (process_block g p) n
  next_placed p n first is =
      subst (λ (i : Action). PlacesAction (process_block g p) i) is
      (next_places (process_block g p) (activity_of g c p).doing
      (subst (λ (w : Option Block). DoesIn w (activity_of g c p).doing) (block_is p first) (all p).doing))

  pub next_stands :
      (p : ℕ) (x : Context) (o : Open) (k : Remainder) (a : Accepting) → next_of g c p ≡ meets x o k → o.offer ≡ to_accept a → StandsWithin facts c p x a
  next_stands p x o k a is offer first = stands_in (process_block g p) x o a k offer (next_placed p (meets x o k) first is).0

  pub next_stand : (p : ℕ) (x : Context) (sel : Selecting) (k : Remainder) → next_of g c p ≡ decides x sel k → StandWithin facts c p x sel.offered
  next_stand p x sel k is n o a at offer first =
      let placed : PlacesSelecting (process_block g p) x.env k sel × PlacesRemainder (process_block g p) x.env k = next_placed p (decides x sel k) first is in
      stands_in (process_block g p) x o a k offer (all_at (PlacesOpen (process_block g p) x.env k) sel.offered n o placed.0.0 at)
