-- What is told of each process is so behind communication, and behind the deciding action of a select.
use Rattle.std.specs.List.{AllByRecursion}
use Rattle.std.proofs.Common.{◌≡◌, ℕ, zero, suc, ◌+◌, Bool, true, false, nat_le, if◌then◌else◌, List, [], ◌∷◌, Option, Some, None, Ok, Err, refl, sym, subst}
use Rattle.std.specs.Prelude.{◌==◌, ◌*◌, slice_get}
use Rattle.pfc_base.specs.declared.faults.RunFault.TheVariants.{Late}
use Rattle.pfc_state.specs.declared.waits.Arm.{Arm}
use Rattle.pfc_state.specs.declared.waits.Arm.TheVariants.{Send as To, Receive as From}
use Rattle.pfc_semantics.specs.Values.{Value}
use Rattle.pfc_semantics.specs.Displays.{Spot}
use Rattle.pfc_semantics.specs.Programs.{Program}
use Rattle.pfc_semantics.specs.Remainders.{Context, Accepting, Offer, Open, Otherwise, Selecting, Remainder, to_send, to_receive, to_accept, to_wait, to_end}
use Rattle.pfc_semantics.specs.Statements.{behind}
use Rattle.pfc_semantics.specs.Rewriting.{going}
use Rattle.pfc_semantics.specs.Configurations.{Activation, Activity, Hand, empty_hand, offering, asking, barred_at, Config, activity_of, goes_on}
use Rattle.pfc_semantics.specs.Channels.{Side, is_communication, communications, is_arm, first_open, side_in, arm_of, behind_open, side_of, goes_behind}
use Rattle.pfc_semantics.specs.Channels.{delivered, sent_into, sent_to, received_out, received_from}
use Rattle.pfc_semantics.specs.Rendezvous.{parameters_taken, meeting_of, met_by, called_into, called_at, asked, accepts_from}
use Rattle.pfc_semantics.specs.Selects.{communicates_by, communicates, partner_at, meets_or_waits, meets_at, matched_places, place_taken, open_at, takes}
use Rattle.pfc_semantics.specs.Selects.{Timeout, timeout_at, or_timeout, open_timeout, latest, waits_until, waits_or_closed, times_out, goes_otherwise}
use Rattle.pfc_semantics.specs.Selects.{decides_by}
use Rattle.pfc_accept_laws.proofs.Each.{Told, OpenSo, IsTold, Each, acts_of, acts_stay, EachIn, MayShow, effect_either, it_goes, it_shows}

abbrev pub OthersSo : Told → ℕ → List Activation → Context → Remainder → Option Otherwise → Type 0
OthersSo t q l x k None = Unit {0}
OthersSo t q l x k (Some other) = t.does q l (going x.env (behind other.next other.stmts k))

-- what may come of a select
pub record SelectSo (t : Told) (q : ℕ) (l : List Activation) (x : Context) (s : Selecting) (k : Remainder) : Type 0 where
  pub offered : AllByRecursion (OpenSo t q l x k) s.offered
  pub otherwise : OthersSo t q l x k s.otherwise
  pub left : t.does q l (going x.env k)

module _ (t : Told) (told : IsTold t) where
  abbrev g : Program
  g = t.program

  -- ## Alternatives

  module _ (q : ℕ) (l : List Activation) (x : Context) (k : Remainder) where
    abbrev One : Open → Type 0
    One o = OpenSo t q l x k o

    abbrev pub ChosenSo : Option Open → Type 0
    ChosenSo None = Unit {0}
    ChosenSo (Some o) = One o

    communications_so : (os : List Open) → AllByRecursion One os → AllByRecursion One (communications os)
    communications_so [] all = tt
    communications_so (o ∷ os) all = by (is_communication o.offer) (communications_so os all.1)
      where
        by : (b : Bool) → AllByRecursion One (communications os) → AllByRecursion One (if b then o ∷ communications os else communications os)
        by true rest = (all.0, rest)
        by false rest = rest

    chosen_so : (os : List Open) (place : ℕ) → AllByRecursion One os → ChosenSo (slice_get os place)
    chosen_so [] place all = tt
    chosen_so (o ∷ os) zero all = all.0
    chosen_so (o ∷ os) (suc place) all = chosen_so os place all.1

    pub open_at_so : (os : List Open) (place : Option ℕ) → AllByRecursion One os → ChosenSo (open_at os place)
    open_at_so os None all = tt
    open_at_so os (Some place) all = chosen_so (communications os) place (communications_so os all)

    abbrev pub TimeoutSo : Option Timeout → Type 0
    TimeoutSo None = Unit {0}
    TimeoutSo (Some timeout) = One timeout.at

    timeout_so : (o : Open) (offer : Offer) → One o → TimeoutSo (timeout_at o offer)
    timeout_so o (to_wait n) at = at
    timeout_so o offer at = tt

    or_so : (one other : Option Timeout) → TimeoutSo one → TimeoutSo other → TimeoutSo (or_timeout one other)
    or_so (Some one) other first second = first
    or_so None other first second = second

    pub open_timeout_so : (os : List Open) → AllByRecursion One os → TimeoutSo (open_timeout os)
    open_timeout_so [] all = tt
    open_timeout_so (o ∷ os) all = or_so (timeout_at o o.offer) (open_timeout os) (timeout_so o o.offer all.0) (open_timeout_so os all.1)

  -- ## Partners

  abbrev pub SideSo : ℕ → List Activation → Option Side → Type 0
  SideSo q l None = Unit {0}
  SideSo q l (Some s) = OpenSo t q l s.context s.left s.at

  first_so :
      (c : Config) (q : ℕ) (l : List Activation) (arm : Arm) (x : Context) (os : List Open) (k : Remainder) → AllByRecursion (OpenSo t q l x k) os
      → SideSo q l (first_open g c q arm x os k)
  first_so c q l arm x [] k all = tt
  first_so c q l arm x (o ∷ os) k all = by (is_arm arm (arm_of g c q o.offer)) (first_so c q l arm x os k all.1)
    where
      by : (b : Bool) → SideSo q l (first_open g c q arm x os k)
          → SideSo q l (if b then Some (record { context = x; at = o; left = k }) else first_open g c q arm x os k)
      by true later = all.0
      by false later = later

  side_in_so :
      (c : Config) (q : ℕ) (arm : Arm) (a : Activity) (hand : Hand) → a.hand ≡ hand → t.so q a → SideSo q a.activations (side_in g c q arm hand)
  side_in_so c q arm a (offering x os k) is so = first_so c q a.activations arm x os k (told.offered q a x os k is so)
  side_in_so c q arm a empty_hand is so = tt
  side_in_so c q arm a (asking values) is so = tt
  side_in_so c q arm a (barred_at b) is so = tt

  pub side_so : (c : Config) (q : ℕ) (arm : Arm) → Each t c → SideSo q (acts_of t c q) (side_of g c q arm)
  side_so c q arm all = side_in_so c q arm (activity_of g c q) (activity_of g c q).hand refl (all q)

  -- also when another goes on
  pub side_on :
      (c : Config) (p : ℕ) (x : Context) (k : Remainder) (q : ℕ) (s : Option Side) → SideSo q (acts_of t c q) s → SideSo q (acts_of t (goes_on g c p x k) q) s
  side_on c p x k q s so = subst (λ (l : List Activation). SideSo q l s) (sym (acts_stay t c p (going x.env k) q)) so

  behind_side : (c : Config) (q : ℕ) (s : Side) → Each t c → SideSo q (acts_of t c q) (Some s) → Each t (goes_behind g c q s)
  behind_side c q s all side = it_goes t told c q s.context (behind_open s.at s.left) all side.0

  delivered_so : (c : Config) (q : ℕ) (target : Option Spot) (v : Value) → Each t c → Each t (delivered g c q target v)
  delivered_so c q None v all = all
  delivered_so c q (Some target) v all = all

  delivered_acts : (c : Config) (p : ℕ) (target : Option Spot) (v : Value) (q : ℕ) → acts_of t (delivered g c p target v) q ≡ acts_of t c q
  delivered_acts c p None v q = refl
  delivered_acts c p (Some target) v q = refl

  deliver_side :
      (c : Config) (p : ℕ) (target : Option Spot) (v : Value) (q : ℕ) (s : Option Side) → SideSo q (acts_of t c q) s
      → SideSo q (acts_of t (delivered g c p target v) q) s
  deliver_side c p target v q s so = subst (λ (l : List Activation). SideSo q l s) (sym (delivered_acts c p target v q)) so

  -- ## Messages

  sent_so : (c : Config) (q : ℕ) (v : Value) (s : Side) (offer : Offer) → Each t c → SideSo q (acts_of t c q) (Some s) → Each t (sent_into g c q v s offer)
  sent_so c q v s (to_receive channel target) all side =
      behind_side (delivered g c q target v) q s (delivered_so c q target v all) (deliver_side c q target v q (Some s) side)
  sent_so c q v s (to_send channel w) all side = all
  sent_so c q v s (to_accept a) all side = all
  sent_so c q v s (to_wait n) all side = all
  sent_so c q v s to_end all side = all

  sent_to_so : (c : Config) (q : ℕ) (v : Value) (s : Option Side) → Each t c → SideSo q (acts_of t c q) s → Each t (sent_to g c q v s)
  sent_to_so c q v None all side = all
  sent_to_so c q v (Some s) all side = sent_so c q v s s.at.offer all side

  received_so :
      (c : Config) (p : ℕ) (target : Option Spot) (q : ℕ) (s : Side) (offer : Offer) → Each t c → SideSo q (acts_of t c q) (Some s)
      → Each t (received_out g c p target q s offer)
  received_so c p target q s (to_send channel v) all side =
      behind_side (delivered g c p target v) q s (delivered_so c p target v all) (deliver_side c p target v q (Some s) side)
  received_so c p target q s (to_receive channel other) all side = all
  received_so c p target q s (to_accept a) all side = all
  received_so c p target q s (to_wait n) all side = all
  received_so c p target q s to_end all side = all

  received_from_so :
      (c : Config) (p : ℕ) (target : Option Spot) (q : ℕ) (s : Option Side) → Each t c → SideSo q (acts_of t c q) s
      → Each t (received_from g c p target q s)
  received_from_so c p target q None all side = all
  received_from_so c p target q (Some s) all side = received_so c p target q s s.at.offer all side

  -- ## Meetings

  met_so :
      (c : Config) (q : ℕ) (x : Context) (a : Accepting) (o : Open) (caller : ℕ) (args : List Value) (k : Remainder) → Each t c
      → t.does q (acts_of t c q) (going x.env (meeting_of x a o caller k)) → Each t (met_by g c q x a o caller args k)
  met_so c q x a o caller args k all may = it_goes t told (parameters_taken g c q a args) q x (meeting_of x a o caller k) all may

  called_so :
      (c : Config) (p q : ℕ) (args : List Value) (s : Side) (offer : Offer) → s.at.offer ≡ offer → Each t c → SideSo q (acts_of t c q) (Some s)
      → Each t (called_into g c p q args s offer)
  called_so c p q args s (to_accept a) is all side = met_so c q s.context a s.at p args s.left all (side.1 a is p)
  called_so c p q args s (to_send channel v) is all side = all
  called_so c p q args s (to_receive channel target) is all side = all
  called_so c p q args s (to_wait n) is all side = all
  called_so c p q args s to_end is all side = all

  pub called_at_so :
      (c : Config) (p q : ℕ) (args : List Value) (s : Option Side) → Each t c → SideSo q (acts_of t c q) s → Each t (called_at g c p q args s)
  called_at_so c p q args None all side = all
  called_at_so c p q args (Some s) all side = called_so c p q args s s.at.offer refl all side

  module _ (c : Config) (all : Each t c) (p : ℕ) (x : Context) where
    accepts_so :
        (a : Accepting) (o : Open) (caller : ℕ) (k : Remainder) → t.does p (acts_of t c p) (going x.env (meeting_of x a o caller k))
        → Each t (accepts_from g c p x a o caller k)
    accepts_so a o caller k may =
        let args = asked (activity_of g c caller).hand in
        let d = met_by g c p x a o caller args k in
        it_shows t told d caller empty_hand (acts_of t d caller) refl (met_so c p x a o caller args k all may) (λ b is so. told.emptied caller b so)

    -- ## With a partner

    goes_behind_own : (o : Open) (k : Remainder) → OpenSo t p (acts_of t c p) x k o → Each t (goes_on g c p x (behind_open o k))
    goes_behind_own o k one = it_goes t told c p x (behind_open o k) all one.0

    by_so :
        (o : Open) (k : Remainder) (q : ℕ) (offer : Offer) (arm : Option Arm) → o.offer ≡ offer → OpenSo t p (acts_of t c p) x k o
        → Each t (communicates_by g c p x o k q offer arm)
    by_so o k q (to_send channel v) (Some (To n)) is one =
        sent_to_so (goes_on g c p x (behind_open o k)) q v (side_of g c q (From n)) (goes_behind_own o k one)
        (side_on c p x (behind_open o k) q (side_of g c q (From n)) (side_so c q (From n) all))
    by_so o k q (to_receive channel target) (Some (From n)) is one =
        received_from_so (goes_on g c p x (behind_open o k)) p target q (side_of g c q (To n)) (goes_behind_own o k one)
        (side_on c p x (behind_open o k) q (side_of g c q (To n)) (side_so c q (To n) all))
    by_so o k q (to_accept a) arm is one = accepts_so a o q k (one.1 a is q)
    by_so o k q offer arm is one = all

    communicates_so : (o : Open) (k : Remainder) (q : Option ℕ) → OpenSo t p (acts_of t c p) x k o → Each t (communicates g c p x o k q)
    communicates_so o k None one = all
    communicates_so o k (Some q) one = by_so o k q o.offer (arm_of g c p o.offer) refl one

    meets_or_waits_so :
        (o : Open) (k : Remainder) (q : Option ℕ) → OpenSo t p (acts_of t c p) x k o → t.does p (acts_of t c p) (going x.env k)
        → MayShow t p (acts_of t c p) (offering x (o ∷ []) k) → Each t (meets_or_waits g c p x o k q)
    meets_or_waits_so o k (Some q) one left may = by_so o k q o.offer (arm_of g c p o.offer) refl one
    meets_or_waits_so o k None one left may = it_shows t told (goes_on g c p x k) p (offering x (o ∷ []) k) (acts_of t c p)
        (acts_stay t c p (going x.env k) p) (it_goes t told c p x k all left) may

    pub meets_so :
        (o : Open) (k : Remainder) → OpenSo t p (acts_of t c p) x k o → t.does p (acts_of t c p) (going x.env k) →
        MayShow t p (acts_of t c p) (offering x (o ∷ []) k)
        → EachIn t (meets_at g c p x o k)
    meets_so o k one left may = meets_or_waits_so o k (partner_at c p (arm_of g c p o.offer)) one left may

    -- ## Selects

    takes_so : (k : Remainder) (o : Option Open) → ChosenSo p (acts_of t c p) x k o → Each t (takes g c p x k o)
    takes_so k None one = all
    takes_so k (Some o) one = communicates_so o k (partner_at c p (arm_of g c p o.offer)) one

    module _ (s : Selecting) (k : Remainder) (select : SelectSo t p (acts_of t c p) x s k) (may : MayShow t p (acts_of t c p) (offering x s.offered k)) where
      waits_so : (due : Option ℕ) (end : Remainder) → t.does p (acts_of t c p) (going x.env end) → Each t (waits_until g c p x s k due end)
      waits_so due end ending = it_shows t told (goes_on g c p x end) p (offering x s.offered k) (acts_of t c p) (acts_stay t c p (going x.env end) p)
          (it_goes t told c p x end all ending) may

      closed_so : (timeout : Option Timeout) (os : List Open) → TimeoutSo p (acts_of t c p) x k timeout → EachIn t (waits_or_closed g c p x s k timeout os)
      closed_so None [] at = tt
      closed_so None (o ∷ os) at = waits_so None k select.left
      closed_so (Some timeout) os at =
          let due : ℕ = c.table.moment + 1000 * timeout.seconds in
          effect_either t (nat_le due latest) (Ok (waits_until g c p x s k (Some due) (behind_open timeout.at k))) (Err Late)
          (waits_so (Some due) (behind_open timeout.at k) at.0) tt

      out_so : (timeout : Option Timeout) → TimeoutSo p (acts_of t c p) x k timeout → EachIn t (times_out g c p x s k timeout)
      out_so None at = closed_so None s.offered tt
      out_so (Some timeout) at =
          effect_either t (timeout.seconds == 0) (Ok (goes_on g c p x (behind_open timeout.at k)))
          (waits_or_closed g c p x s k (Some timeout) s.offered) (goes_behind_own timeout.at k at) (closed_so (Some timeout) s.offered at)

      otherwise_so : (other : Option Otherwise) → OthersSo t p (acts_of t c p) x k other → EachIn t (goes_otherwise g c p x s k other)
      otherwise_so (Some other) on = it_goes t told c p x (behind other.next other.stmts k) all on
      otherwise_so None on = out_so (open_timeout s.offered) (open_timeout_so p (acts_of t c p) x k s.offered select.offered)

      pub decides_so : (choice : ℕ) (places : List ℕ) → EachIn t (decides_by g c p x s k choice places)
      decides_so choice [] = otherwise_so s.otherwise select.otherwise
      decides_so choice (place ∷ places) =
          let o = slice_get (matched_places g c p s) (place_taken s.pri choice) in
          takes_so k (open_at s.offered o) (open_at_so p (acts_of t c p) x k s.offered o select.offered)
