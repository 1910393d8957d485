-- An alternative of a select that accepts an entry, as one of those that are open.
use Rattle.std.proofs.Common.{◌≡◌, ℕ, zero, suc, ◌<◌, ◌≤◌, Bool, true, false, if◌then◌else◌, List, [], ◌∷◌, length, slice_get, Option, Some, None}
use Rattle.std.proofs.Common.{refl, ap, ◌∙◌, subst, arith}
use Rattle.pfc_tree.specs.trees.Stmts.{StmtTrees}
use Rattle.pfc_code.specs.declared.instructions.Instr.{Instr}
use Rattle.pfc_semantics.specs.Channels.{is_communication, communications}
use Rattle.pfc_semantics.specs.Remainders.{Accepting, Offer, Open, Replica, to_send, to_receive, to_accept, to_wait, to_end}
use Rattle.pfc_semantics.specs.Selects.{open_at}
use Rattle.pfc_translation.specs.Sites.{Site}
use Rattle.pfc_standing_code.specs.Effects.{Arm}
use Rattle.pfc_standing_code.specs.Settings.{Setting}
use Rattle.pfc_standing_code.specs.Performs.{MetAt, BranchAt, IsOpen, AreOpen}
use Rattle.pfc_standing_code.specs.TypedStatements.{AcceptsEntry}
use Rattle.pfc_representation.specs.Rooms.{MayMeet, MayMeetBy}
use Rattle.pfc_kept_meetings.specs.selects.Groups.{IsEntryOffer, IsEntry}

-- what accepts
pub accept_in : (offer : Offer) → IsEntryOffer offer → (a : Accepting) × (offer ≡ to_accept a)
accept_in (to_send channel v) is = absurd is
accept_in (to_receive channel target) is = absurd is
accept_in (to_accept a) is = (a, refl)
accept_in (to_wait n) is = absurd is
accept_in to_end is = absurd is

-- ## Which it is

within_list : (xs : List ℕ) (i y : ℕ) → slice_get xs i ≡ Some y → i < length xs
within_list [] i y is = absurd (let no : None ≡ Some y = is in cc)
within_list (x ∷ xs) zero y is = some (length xs)
  where
    some : (n : ℕ) → 0 < suc n
    some n = grind arith
within_list (x ∷ xs) (suc i) y is = more i (length xs) (within_list xs i y is)
  where
    more : (n k : ℕ) → n < k → suc n < suc k
    more n k h = grind (arith, h)

-- some alternative is taken, where one with an entry is
pub some_taken : (os : List Open) (places : List ℕ) (i : ℕ) (at : Option ℕ) → slice_get places i ≡ at → IsEntry (open_at os at) → i < length places
some_taken os places i None is entry = absurd entry
some_taken os places i (Some place) is entry = within_list places i place is

-- one that communicates is among all that are offered
pub among_all : (os : List Open) (j : ℕ) (o : Open) → slice_get (communications os) j ≡ Some o → (n : ℕ) × (slice_get os n ≡ Some o)
among_all [] j o is = absurd (let no : None ≡ Some o = is in cc)
among_all (y ∷ os) j o is = by_kind (λ i there. among_all os i o there) (is_communication y.offer) j is
  where
    later : (one : (n : ℕ) × (slice_get os n ≡ Some o)) → (n : ℕ) × (slice_get (y ∷ os) n ≡ Some o)
    later one = (suc one.0, one.1)

    by_kind : ((i : ℕ) → slice_get (communications os) i ≡ Some o → (n : ℕ) × (slice_get os n ≡ Some o)) → (b : Bool) (i : ℕ)
        → slice_get (if b then y ∷ communications os else communications os) i ≡ Some o → (n : ℕ) × (slice_get (y ∷ os) n ≡ Some o)
    by_kind others true zero there = (zero, there)
    by_kind others true (suc i) there = later (others i there)
    by_kind others false i there = later (others i there)

-- ## What is told of it

met_ends : (g : Setting) (s : Site) (to held : ℕ) (a : Accepting) (n : ℕ) (ts : StmtTrees) (P : ℕ → Type 0) → MetAt g s to held (Some a) n ts P
    → AcceptsEntry s.program.state.blocks s.block.scope a.entry a.scope × ((end : ℕ) × P end)
met_ends g s to held a n ts P (entry, (j, stmt, (ends, (i, stmts, rest))), sees) = (entry, (_, rest))

-- it is an accept of the entry, and behind it the code goes on
pub branch_goes_on : (g : Setting) (s : Site) (to held : ℕ) (r : Option Replica) (a : Accepting) (n : ℕ) (ts : StmtTrees) (P : ℕ → Type 0)
    → BranchAt g s to held r (Some a) n ts P → AcceptsEntry s.program.state.blocks s.block.scope a.entry a.scope × ((end : ℕ) × P end)
branch_goes_on g s to held None a n ts P met = met_ends g s to held a n ts P met
branch_goes_on g s to held (Some r) a n ts P (line, is, j, stands, (after, leads, met)) = met_ends g s after held a n ts P met

-- there is room for as many meetings as there are processes
pub meets_all : (count most : ℕ) (g : Setting) (s : Site) (held : ℕ) (os : List Open) (arms : List Arm) (P : ℕ → Type 0) (n : ℕ) (o : Open) (a : Accepting)
    → AreOpen g s held os arms P → slice_get os n ≡ Some o → o.offer ≡ to_accept a → MayMeet count most arms → count ≤ most
meets_all count most g s held [] arms P n o a are there offer may = absurd (let no : None ≡ Some o = there in cc)
meets_all count most g s held (y ∷ os) [] P n o a are there offer may = absurd are
meets_all count most g s held (y ∷ os) (arm ∷ arms) P zero o a are there offer may =
    let same : y ≡ o = (let both : Some y ≡ Some o = there in cc) in
    let open_one : IsOpen g s held y (to_accept a) arm P = subst (λ (z : Offer). IsOpen g s held y z arm P) (ap (λ (z : Open). z.offer) same ∙ offer) are.0 in
    subst (λ (z : Instr). MayMeetBy count most z) open_one.1 may.0
meets_all count most g s held (y ∷ os) (arm ∷ arms) P (suc n) o a are there offer may = meets_all count most g s held os arms P n o a are.1 there offer may.1
