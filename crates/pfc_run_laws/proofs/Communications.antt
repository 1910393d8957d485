-- Communication, and the deciding action of a select, print nothing.
use Rattle.std.proofs.Common.{◌≡◌, ℕ, Bool, true, false, nat_le, List, [], ◌∷◌, Option, Some, None, Ok, Err, refl}
use Rattle.std.specs.Prelude.{◌==◌, ◌+◌, ◌*◌, if◌then◌else◌, slice_get}
use Rattle.pfc_base.specs.declared.faults.RunFault.TheVariants.{Late}
use Rattle.pfc_state.specs.declared.waits.Arm.{Arm}
use Rattle.pfc_state.specs.declared.waits.Arm.TheVariants.{Send as To, Receive as From, Accept as Entry}
use Rattle.pfc_semantics.specs.Values.{Value}
use Rattle.pfc_semantics.specs.Displays.{Spot}
use Rattle.pfc_semantics.specs.Programs.{Program}
use Rattle.pfc_semantics.specs.Remainders.{Context, Offer, Open, Otherwise, Selecting, Remainder, to_send, to_receive, to_accept, to_wait, to_end}
use Rattle.pfc_semantics.specs.Configurations.{Config, Effect, goes_on}
use Rattle.pfc_semantics.specs.Channels.{Side, arm_of, behind_open, side_of, sent_into, sent_to, received_out, received_from}
use Rattle.pfc_semantics.specs.Rendezvous.{called_into, called_at}
use Rattle.pfc_semantics.specs.Selects.{communicates_by, communicates_with, communicates, partner_at, meets_or_waits, meets_at, matched_places, place_taken}
use Rattle.pfc_semantics.specs.Selects.{open_at, takes, Timeout, open_timeout, latest, waits_until, waits_or_closed, times_out, goes_otherwise}
use Rattle.pfc_semantics.specs.Selects.{decides_by, decides_at}

-- ## What an action comes to

-- the output behind it is this
abbrev pub Keeps : List ℕ → Effect → Type 0
Keeps out (Ok d) = d.output ≡ out
Keeps out (Err f) = Unit {0}

pub either_keeps : (out : List ℕ) (b : Bool) (d e : Effect) → Keeps out d → Keeps out e → Keeps out (if b then d else e)
either_keeps out true d e first second = first
either_keeps out false d e first second = second

-- ## With a partner

sent_into_keeps : (g : Program) (c : Config) (q : ℕ) (v : Value) (s : Side) (offer : Offer) → (sent_into g c q v s offer).output ≡ c.output
sent_into_keeps g c q v s (to_send channel w) = refl
sent_into_keeps g c q v s (to_receive channel None) = refl
sent_into_keeps g c q v s (to_receive channel (Some target)) = refl
sent_into_keeps g c q v s (to_accept a) = refl
sent_into_keeps g c q v s (to_wait n) = refl
sent_into_keeps g c q v s to_end = refl

sent_to_keeps : (g : Program) (c : Config) (q : ℕ) (v : Value) (s : Option Side) → (sent_to g c q v s).output ≡ c.output
sent_to_keeps g c q v None = refl
sent_to_keeps g c q v (Some s) = sent_into_keeps g c q v s s.at.offer

received_out_keeps :
    (g : Program) (c : Config) (p : ℕ) (target : Option Spot) (q : ℕ) (s : Side) (offer : Offer) → (received_out g c p target q s offer).output ≡ c.output
received_out_keeps g c p None q s (to_send channel v) = refl
received_out_keeps g c p (Some target) q s (to_send channel v) = refl
received_out_keeps g c p target q s (to_receive channel other) = refl
received_out_keeps g c p target q s (to_accept a) = refl
received_out_keeps g c p target q s (to_wait n) = refl
received_out_keeps g c p target q s to_end = refl

received_from_keeps :
    (g : Program) (c : Config) (p : ℕ) (target : Option Spot) (q : ℕ) (s : Option Side) → (received_from g c p target q s).output ≡ c.output
received_from_keeps g c p target q None = refl
received_from_keeps g c p target q (Some s) = received_out_keeps g c p target q s s.at.offer

called_into_keeps : (g : Program) (c : Config) (p q : ℕ) (args : List Value) (s : Side) (offer : Offer) → (called_into g c p q args s offer).output ≡ c.output
called_into_keeps g c p q args s (to_send channel v) = refl
called_into_keeps g c p q args s (to_receive channel target) = refl
called_into_keeps g c p q args s (to_accept a) = refl
called_into_keeps g c p q args s (to_wait n) = refl
called_into_keeps g c p q args s to_end = refl

pub called_at_keeps : (g : Program) (c : Config) (p q : ℕ) (args : List Value) (s : Option Side) → (called_at g c p q args s).output ≡ c.output
called_at_keeps g c p q args None = refl
called_at_keeps g c p q args (Some s) = called_into_keeps g c p q args s s.at.offer

communicates_by_keeps :
    (g : Program) (c : Config) (p : ℕ) (x : Context) (o : Open) (k : Remainder) (q : ℕ) (offer : Offer) (arm : Option Arm)
    → (communicates_by g c p x o k q offer arm).output ≡ c.output
communicates_by_keeps g c p x o k q (to_send channel v) None = refl
communicates_by_keeps g c p x o k q (to_send channel v) (Some (To n)) = sent_to_keeps g (goes_on g c p x (behind_open o k)) q v (side_of g c q (From n))
communicates_by_keeps g c p x o k q (to_send channel v) (Some (From n)) = refl
communicates_by_keeps g c p x o k q (to_send channel v) (Some (Entry n)) = refl
communicates_by_keeps g c p x o k q (to_receive channel target) None = refl
communicates_by_keeps g c p x o k q (to_receive channel target) (Some (To n)) = refl
communicates_by_keeps g c p x o k q (to_receive channel target) (Some (From n)) =
    received_from_keeps g (goes_on g c p x (behind_open o k)) p target q (side_of g c q (To n))
communicates_by_keeps g c p x o k q (to_receive channel target) (Some (Entry n)) = refl
communicates_by_keeps g c p x o k q (to_accept a) arm = refl
communicates_by_keeps g c p x o k q (to_wait n) arm = refl
communicates_by_keeps g c p x o k q to_end arm = refl

communicates_with_keeps :
    (g : Program) (c : Config) (p : ℕ) (x : Context) (o : Open) (k : Remainder) (q : ℕ) → (communicates_with g c p x o k q).output ≡ c.output
communicates_with_keeps g c p x o k q = communicates_by_keeps g c p x o k q o.offer (arm_of g c p o.offer)

communicates_keeps :
    (g : Program) (c : Config) (p : ℕ) (x : Context) (o : Open) (k : Remainder) (q : Option ℕ) → (communicates g c p x o k q).output ≡ c.output
communicates_keeps g c p x o k None = refl
communicates_keeps g c p x o k (Some q) = communicates_with_keeps g c p x o k q

meets_or_waits_keeps :
    (g : Program) (c : Config) (p : ℕ) (x : Context) (o : Open) (k : Remainder) (q : Option ℕ) → (meets_or_waits g c p x o k q).output ≡ c.output
meets_or_waits_keeps g c p x o k None = refl
meets_or_waits_keeps g c p x o k (Some q) = communicates_with_keeps g c p x o k q

pub meets_keeps : (g : Program) (c : Config) (p : ℕ) (x : Context) (o : Open) (k : Remainder) → Keeps c.output (meets_at g c p x o k)
meets_keeps g c p x o k = meets_or_waits_keeps g c p x o k (partner_at c p (arm_of g c p o.offer))

-- ## Selects

takes_keeps : (g : Program) (c : Config) (p : ℕ) (x : Context) (k : Remainder) (o : Option Open) → (takes g c p x k o).output ≡ c.output
takes_keeps g c p x k None = refl
takes_keeps g c p x k (Some o) = communicates_keeps g c p x o k (partner_at c p (arm_of g c p o.offer))

waits_or_closed_keeps :
    (g : Program) (c : Config) (p : ℕ) (x : Context) (s : Selecting) (k : Remainder) (t : Option Timeout) (os : List Open)
    → Keeps c.output (waits_or_closed g c p x s k t os)
waits_or_closed_keeps g c p x s k None [] = tt
waits_or_closed_keeps g c p x s k None (o ∷ os) = refl
waits_or_closed_keeps g c p x s k (Some t) os =
    let due : ℕ = c.table.moment + 1000 * t.seconds in
    either_keeps c.output (nat_le due latest) (Ok (waits_until g c p x s k (Some due) (behind_open t.at k))) (Err Late) refl tt

times_out_keeps :
    (g : Program) (c : Config) (p : ℕ) (x : Context) (s : Selecting) (k : Remainder) (t : Option Timeout) → Keeps c.output (times_out g c p x s k t)
times_out_keeps g c p x s k None = waits_or_closed_keeps g c p x s k None s.offered
times_out_keeps g c p x s k (Some t) =
    either_keeps c.output (t.seconds == 0) (Ok (goes_on g c p x (behind_open t.at k))) (waits_or_closed g c p x s k (Some t) s.offered) refl
    (waits_or_closed_keeps g c p x s k (Some t) s.offered)

goes_otherwise_keeps :
    (g : Program) (c : Config) (p : ℕ) (x : Context) (s : Selecting) (k : Remainder) (other : Option Otherwise)
    → Keeps c.output (goes_otherwise g c p x s k other)
goes_otherwise_keeps g c p x s k (Some other) = refl
goes_otherwise_keeps g c p x s k None = times_out_keeps g c p x s k (open_timeout s.offered)

decides_by_keeps :
    (g : Program) (c : Config) (p : ℕ) (x : Context) (s : Selecting) (k : Remainder) (choice : ℕ) (places : List ℕ)
    → Keeps c.output (decides_by g c p x s k choice places)
decides_by_keeps g c p x s k choice [] = goes_otherwise_keeps g c p x s k s.otherwise
decides_by_keeps g c p x s k choice (place ∷ places) =
    takes_keeps g c p x k (open_at s.offered (slice_get (matched_places g c p s) (place_taken s.pri choice)))

pub decides_keeps :
    (g : Program) (c : Config) (p : ℕ) (x : Context) (s : Selecting) (k : Remainder) (choice : ℕ) → Keeps c.output (decides_at g c p x s k choice)
decides_keeps g c p x s k choice = decides_by_keeps g c p x s k choice (matched_places g c p s)
