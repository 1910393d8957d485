-- Where all processes stand placed, in their first activations.
use Rattle.std.specs.Prelude.{ℕ, ◌≡◌, ◌<◌, zero, suc, List, [], ◌∷◌, Option, Some, None}
use Rattle.std.specs.List.{AllByRecursion}
use Rattle.pfc_types.specs.rules.Statements.{stmts_scopes}
use Rattle.pfc_semantics.specs.Values.{Value}
use Rattle.pfc_semantics.specs.Programs.{Block, Program}
use Rattle.pfc_semantics.specs.Rewriting.{Doing, going, holding}
use Rattle.pfc_semantics.specs.Processes.{process_block}
use Rattle.pfc_semantics.specs.Configurations.{plain, Caller, of_nobody, of_remainder, of_value, Activation, Activity, Hand, offering, Config, activity_of}
use Rattle.pfc_accept_laws.specs.Places.{IsBefore, PlacesOpen, PlacesRemainder, PlacesDoing}

-- ## By block

-- the block of a process in its first activation
abbrev pub of_process : Program → ℕ → Option Block
of_process g zero = None
of_process g (suc q) = Some (process_block g (suc q))

abbrev pub block_in : Program → ℕ → List Activation → Option Block
block_in g q [] = None
block_in g q (a ∷ []) = of_process g q
block_in g q (a ∷ (b ∷ below)) = None

abbrev pub DoesIn : Option Block → Doing → Type 0
DoesIn None doing = Unit {0}
DoesIn (Some b) doing = PlacesDoing b doing

abbrev pub CallerIn : Option Block → Caller → Type 0
CallerIn w of_nobody = Unit {0}
CallerIn w (of_remainder env k) = DoesIn w (going env k)
CallerIn w (of_value x u) = (v : Value) → DoesIn w (holding x v u)

abbrev pub OffersIn : Block → Hand → Type 0
OffersIn b (offering x os k) = AllByRecursion (PlacesOpen b x.env k) os × PlacesRemainder b x.env k
OffersIn b hand = Unit {0}

abbrev pub HandIn : Option Block → Hand → Type 0
HandIn None hand = Unit {0}
HandIn (Some b) hand = OffersIn b hand

-- the first was entered by nothing
abbrev pub FirstIsPlain : List Activation → Type 0
FirstIsPlain [] = Unit {0}
FirstIsPlain (a ∷ []) = a.mark ≡ plain
FirstIsPlain (a ∷ (b ∷ below)) = FirstIsPlain (b ∷ below)

abbrev pub WaitingIn : Program → ℕ → List Activation → Type 0
WaitingIn g q [] = Unit {0}
WaitingIn g q (a ∷ below) = CallerIn (block_in g q below) a.caller × WaitingIn g q below

-- what a process is at, what waits for the ends of its calls, and what it shows
pub record IsPlacedIn (g : Program) (q : ℕ) (a : Activity) : Type 0 where
  pub doing : DoesIn (block_in g q a.activations) a.doing
  pub waiting : WaitingIn g q a.activations
  pub hand : HandIn (block_in g q a.activations) a.hand
  pub first : FirstIsPlain a.activations

-- so it is of all
abbrev pub AllPlaced : Program → Config → Type 0
AllPlaced g c = (q : ℕ) → IsPlacedIn g q (activity_of g c q)

-- each process has its statements where their numbers say, and so many accepts as its body has scopes
abbrev pub HasPlaces : Program → Type 0
HasPlaces g = (q : ℕ) → 0 < q → IsBefore (process_block g q).next (process_block g q).env
    × (stmts_scopes (process_block g q).stmts ≡ (process_block g q).accepts)
