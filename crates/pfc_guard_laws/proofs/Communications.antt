-- Behind communication, and behind the deciding action of a select, what is left calls what the rules ask.
use Rattle.std.proofs.Common.{ℕ, zero, suc, ◌+◌, Bool, true, false, nat_le, if◌then◌else◌, List, [], ◌∷◌, Option, Some, None, Ok, Err}
use Rattle.std.specs.Prelude.{◌==◌, ◌*◌, slice_get}
use Rattle.pfc_base.specs.declared.faults.RunFault.TheVariants.{Late}
use Rattle.pfc_state.specs.declared.waits.Arm.{Arm}
use Rattle.pfc_state.specs.declared.waits.Arm.TheVariants.{Send as To, Receive as From}
use Rattle.pfc_tree.specs.trees.Stmts.{no_stmts, more_stmts}
use Rattle.pfc_types.specs.rules.Expressions.{Env}
use Rattle.pfc_types.specs.rules.Statements.{within_accept}
use Rattle.pfc_semantics.specs.Values.{Value}
use Rattle.pfc_semantics.specs.Displays.{Spot}
use Rattle.pfc_semantics.specs.Programs.{Program}
use Rattle.pfc_semantics.specs.Remainders.{Context, Replica, Accepting, Offer, Open, Otherwise, Selecting, Scan, Remainder, to_send, to_receive, to_accept}
use Rattle.pfc_semantics.specs.Remainders.{to_wait, to_end, perform, in_names, part_from}
use Rattle.pfc_semantics.specs.Statements.{behind}
use Rattle.pfc_semantics.specs.Configurations.{Hand, empty_hand, offering, asking, barred_at, Activation, Config, activity_of, goes_on}
use Rattle.pfc_semantics.specs.Channels.{arm_of, is_communication, communications, behind_replica, behind_open, Side, is_arm, first_open, side_in, side_of}
use Rattle.pfc_semantics.specs.Channels.{goes_behind, delivered, sent_into, sent_to, received_out, received_from}
use Rattle.pfc_semantics.specs.Rendezvous.{parameters_taken, meeting_of, met_by, called_into, called_at, asked, accepts_from}
use Rattle.pfc_semantics.specs.Selects.{communicates_by, communicates, partner_at, meets_or_waits, meets_at, matched_places, place_taken, open_at, takes}
use Rattle.pfc_semantics.specs.Selects.{Timeout, timeout_at, or_timeout, open_timeout, latest, waits_until, waits_or_closed, times_out, goes_otherwise}
use Rattle.pfc_semantics.specs.Selects.{decides_by}
use Rattle.pfc_guard_laws.specs.Tops.{Tops, Standing}
use Rattle.pfc_guard_laws.specs.Remainders.{SuitsOffer, SuitsOpen, SuitOpens, SuitsOtherwise, SuitsSelecting, SuitsRemainder}
use Rattle.pfc_guard_laws.specs.Configurations.{standing_in, SuitsHand, SuitsConfig}
use Rattle.pfc_guard_laws.proofs.Statements.{behind_suits}
use Rattle.pfc_guard_laws.proofs.Steps.{SuitsEffect, effect_either, on_it_goes, it_shows}

-- ## What is open

module _ (g : Program) (standing : Standing) (env : Env) where
  abbrev pub SuitsChosen : Option Open → Type 0
  SuitsChosen None = Unit {0}
  SuitsChosen (Some o) = SuitsOpen g standing env o

  communications_suit : (os : List Open) → SuitOpens g standing env os → SuitOpens g standing env (communications os)
  communications_suit [] all = tt
  communications_suit (o ∷ os) all = by (is_communication o.offer) (communications_suit os all.1)
    where
      by : (b : Bool) → SuitOpens g standing env (communications os) → SuitOpens g standing env (if b then o ∷ communications os else communications os)
      by true later = (all.0, later)
      by false later = later

  chosen_suits : (os : List Open) (place : ℕ) → SuitOpens g standing env os → SuitsChosen (slice_get os place)
  chosen_suits [] place all = tt
  chosen_suits (o ∷ os) zero all = all.0
  chosen_suits (o ∷ os) (suc place) all = chosen_suits os place all.1

  pub open_at_suits : (os : List Open) (place : Option ℕ) → SuitOpens g standing env os → SuitsChosen (open_at os place)
  open_at_suits os None all = tt
  open_at_suits os (Some place) all = chosen_suits (communications os) place (communications_suit os all)

  abbrev pub SuitsTimeout : Option Timeout → Type 0
  SuitsTimeout None = Unit {0}
  SuitsTimeout (Some t) = SuitsOpen g standing env t.at

  timeout_suits : (o : Open) (offer : Offer) → SuitsOpen g standing env o → SuitsTimeout (timeout_at o offer)
  timeout_suits o (to_wait n) at = at
  timeout_suits o offer at = tt

  or_suits : (t other : Option Timeout) → SuitsTimeout t → SuitsTimeout other → SuitsTimeout (or_timeout t other)
  or_suits (Some t) other first second = first
  or_suits None other first second = second

  pub open_timeout_suits : (os : List Open) → SuitOpens g standing env os → SuitsTimeout (open_timeout os)
  open_timeout_suits [] all = tt
  open_timeout_suits (o ∷ os) all = or_suits (timeout_at o o.offer) (open_timeout os) (timeout_suits o o.offer all.0) (open_timeout_suits os all.1)

  module _ (scanned : Scan → Type 0) where
    replica_behind : (r : Option Replica) (k : Remainder) → SuitsRemainder g standing scanned env k → SuitsRemainder g standing scanned env (behind_replica r k)
    replica_behind None k left = left
    replica_behind (Some r) k left = left

    pub open_behind :
        (o : Open) (k : Remainder) → SuitsOpen g standing env o → SuitsRemainder g standing scanned env k →
        SuitsRemainder g standing scanned env (behind_open o k)
    open_behind o k suits left = replica_behind o.replica (behind o.next o.stmts k) (behind_suits g standing scanned env o.next o.stmts k suits.1 left)

    -- ## Partners

    pub meeting_suits :
        (x : Context) (a : Accepting) (o : Open) (caller : ℕ) (k : Remainder) → SuitsOffer g standing x.env (to_accept a) → SuitsOpen g standing x.env o
        → SuitsRemainder g standing scanned x.env k → SuitsRemainder g standing scanned x.env (meeting_of x a o caller k)
    meeting_suits x a o caller k body at left =
        either_replica o.replica ((body, tt), behind_suits g standing scanned x.env o.next o.stmts k at.1 left)
      where
        inside : Remainder
        inside =
            in_names (within_accept x.env a.scope)
            (perform (a.scope + 1) (more_stmts a.stmt no_stmts) (part_from caller a.line (in_names x.env (behind o.next o.stmts k))))

        either_replica : (r : Option Replica) → SuitsRemainder g standing scanned x.env inside →
            SuitsRemainder g standing scanned x.env (behind_replica r inside)
        either_replica None is = is
        either_replica (Some r) is = is

-- ## Partners

module _ (g : Program) (tops : Option Tops) (scanned : List Activation → Scan → Type 0) where
  -- what a partner offers, which has entered something
  pub record SuitsSide (own : List Activation) (s : Side) : Type 0 where
    pub at : SuitsOpen g (standing_in tops own) s.context.env s.at
    pub left : SuitsRemainder g (standing_in tops own) (scanned own) s.context.env s.left

  abbrev pub SuitsPartner : List Activation → Option Side → Type 0
  SuitsPartner own None = Unit {0}
  SuitsPartner own (Some s) = SuitsSide own s

  first_suits :
      (own : List Activation) (c : Config) (q : ℕ) (arm : Arm) (x : Context) (os : List Open) (k : Remainder) → SuitOpens g (standing_in tops own) x.env os
      → SuitsRemainder g (standing_in tops own) (scanned own) x.env k → SuitsPartner own (first_open g c q arm x os k)
  first_suits own c q arm x [] k all left = tt
  first_suits own c q arm x (o ∷ os) k all left = by (is_arm arm (arm_of g c q o.offer)) (first_suits own c q arm x os k all.1 left)
    where
      by : (b : Bool) → SuitsPartner own (first_open g c q arm x os k)
          → SuitsPartner own (if b then Some (record { context = x; at = o; left = k }) else first_open g c q arm x os k)
      by true later = record { at = all.0; left = left }
      by false later = later

  side_suits :
      (own : List Activation) (c : Config) (q : ℕ) (arm : Arm) (hand : Hand) → SuitsHand g tops scanned own hand → SuitsPartner own (side_in g c q arm hand)
  side_suits own c q arm (offering x os k) suits = first_suits own c q arm x os k suits.0 suits.1
  side_suits own c q arm empty_hand suits = tt
  side_suits own c q arm (asking values) suits = tt
  side_suits own c q arm (barred_at b) suits = tt

  module _ (owns : ℕ → List Activation) where
    pub partner_suits : (c : Config) (q : ℕ) (arm : Arm) → SuitsConfig g tops scanned owns c → SuitsPartner (owns q) (side_of g c q arm)
    partner_suits c q arm suits = side_suits (owns q) c q arm (activity_of g c q).hand (suits q).hand

    delivered_suits :
        (c : Config) (q : ℕ) (target : Option Spot) (v : Value) → SuitsConfig g tops scanned owns c → SuitsConfig g tops scanned owns (delivered g c q target v)
    delivered_suits c q None v suits = suits
    delivered_suits c q (Some target) v suits = suits

    behind_side :
        (c : Config) (q : ℕ) (s : Side) → SuitsConfig g tops scanned owns c → SuitsSide (owns q) s → SuitsConfig g tops scanned owns (goes_behind g c q s)
    behind_side c q s suits side =
        on_it_goes g tops scanned owns c q s.context (behind_open s.at s.left) suits
        (open_behind g (standing_in tops (owns q)) s.context.env (scanned (owns q)) s.at s.left side.at side.left)

    -- ## Messages

    sent_suits :
        (c : Config) (q : ℕ) (v : Value) (s : Side) (offer : Offer) → SuitsConfig g tops scanned owns c → SuitsSide (owns q) s
        → SuitsConfig g tops scanned owns (sent_into g c q v s offer)
    sent_suits c q v s (to_receive channel target) suits side = behind_side (delivered g c q target v) q s (delivered_suits c q target v suits) side
    sent_suits c q v s (to_send channel w) suits side = suits
    sent_suits c q v s (to_accept a) suits side = suits
    sent_suits c q v s (to_wait n) suits side = suits
    sent_suits c q v s to_end suits side = suits

    sent_to_suits :
        (c : Config) (q : ℕ) (v : Value) (s : Option Side) → SuitsConfig g tops scanned owns c → SuitsPartner (owns q) s
        → SuitsConfig g tops scanned owns (sent_to g c q v s)
    sent_to_suits c q v None suits side = suits
    sent_to_suits c q v (Some s) suits side = sent_suits c q v s s.at.offer suits side

    received_suits :
        (c : Config) (p : ℕ) (target : Option Spot) (q : ℕ) (s : Side) (offer : Offer) → SuitsConfig g tops scanned owns c → SuitsSide (owns q) s
        → SuitsConfig g tops scanned owns (received_out g c p target q s offer)
    received_suits c p target q s (to_send channel v) suits side = behind_side (delivered g c p target v) q s (delivered_suits c p target v suits) side
    received_suits c p target q s (to_receive channel other) suits side = suits
    received_suits c p target q s (to_accept a) suits side = suits
    received_suits c p target q s (to_wait n) suits side = suits
    received_suits c p target q s to_end suits side = suits

    received_from_suits :
        (c : Config) (p : ℕ) (target : Option Spot) (q : ℕ) (s : Option Side) → SuitsConfig g tops scanned owns c → SuitsPartner (owns q) s
        → SuitsConfig g tops scanned owns (received_from g c p target q s)
    received_from_suits c p target q None suits side = suits
    received_from_suits c p target q (Some s) suits side = received_suits c p target q s s.at.offer suits side

    -- ## Meetings

    met_suits :
        (c : Config) (q : ℕ) (x : Context) (a : Accepting) (o : Open) (caller : ℕ) (args : List Value) (k : Remainder) → SuitsConfig g tops scanned owns c
        → SuitsOffer g (standing_in tops (owns q)) x.env (to_accept a) → SuitsOpen g (standing_in tops (owns q)) x.env o
        → SuitsRemainder g (standing_in tops (owns q)) (scanned (owns q)) x.env k → SuitsConfig g tops scanned owns (met_by g c q x a o caller args k)
    met_suits c q x a o caller args k suits body at left =
        on_it_goes g tops scanned owns (parameters_taken g c q a args) q x (meeting_of x a o caller k) suits
        (meeting_suits g (standing_in tops (owns q)) x.env (scanned (owns q)) x a o caller k body at left)

    called_suits :
        (c : Config) (p q : ℕ) (args : List Value) (s : Side) (offer : Offer) → SuitsConfig g tops scanned owns c → SuitsSide (owns q) s
        → SuitsOffer g (standing_in tops (owns q)) s.context.env offer → SuitsConfig g tops scanned owns (called_into g c p q args s offer)
    called_suits c p q args s (to_accept a) suits side body = met_suits c q s.context a s.at p args s.left suits body side.at side.left
    called_suits c p q args s (to_send channel v) suits side body = suits
    called_suits c p q args s (to_receive channel target) suits side body = suits
    called_suits c p q args s (to_wait n) suits side body = suits
    called_suits c p q args s to_end suits side body = suits

    pub called_at_suits :
        (c : Config) (p q : ℕ) (args : List Value) (s : Option Side) → SuitsConfig g tops scanned owns c → SuitsPartner (owns q) s
        → SuitsConfig g tops scanned owns (called_at g c p q args s)
    called_at_suits c p q args None suits side = suits
    called_at_suits c p q args (Some s) suits side = called_suits c p q args s s.at.offer suits side side.at.0

    module _ (c : Config) (suits : SuitsConfig g tops scanned owns c) (p : ℕ) (x : Context) where
      accepts_suit :
          (a : Accepting) (o : Open) (caller : ℕ) (k : Remainder) → SuitsOffer g (standing_in tops (owns p)) x.env (to_accept a)
          → SuitsOpen g (standing_in tops (owns p)) x.env o → SuitsRemainder g (standing_in tops (owns p)) (scanned (owns p)) x.env k
          → SuitsConfig g tops scanned owns (accepts_from g c p x a o caller k)
      accepts_suit a o caller k body at left =
          let args = asked (activity_of g c caller).hand in
          it_shows g tops scanned owns (met_by g c p x a o caller args k) caller empty_hand (met_suits c p x a o caller args k suits body at left) tt

      -- ## With a partner

      goes_behind_own :
          (o : Open) (k : Remainder) → SuitsOpen g (standing_in tops (owns p)) x.env o → SuitsRemainder g (standing_in tops (owns p)) (scanned (owns p)) x.env k
          → SuitsConfig g tops scanned owns (goes_on g c p x (behind_open o k))
      goes_behind_own o k at left =
          on_it_goes g tops scanned owns c p x (behind_open o k) suits (open_behind g (standing_in tops (owns p)) x.env (scanned (owns p)) o k at left)

      by_suits :
          (o : Open) (k : Remainder) (q : ℕ) (offer : Offer) (arm : Option Arm) → SuitsOpen g (standing_in tops (owns p)) x.env o
          → SuitsRemainder g (standing_in tops (owns p)) (scanned (owns p)) x.env k → SuitsOffer g (standing_in tops (owns p)) x.env offer
          → SuitsConfig g tops scanned owns (communicates_by g c p x o k q offer arm)
      by_suits o k q (to_send channel v) (Some (To n)) at left given =
          sent_to_suits (goes_on g c p x (behind_open o k)) q v (side_of g c q (From n)) (goes_behind_own o k at left) (partner_suits c q (From n) suits)
      by_suits o k q (to_receive channel target) (Some (From n)) at left given =
          received_from_suits (goes_on g c p x (behind_open o k)) p target q (side_of g c q (To n)) (goes_behind_own o k at left)
          (partner_suits c q (To n) suits)
      by_suits o k q (to_accept a) arm at left given = accepts_suit a o q k given at left
      by_suits o k q offer arm at left given = suits

      communicates_suit :
          (o : Open) (k : Remainder) (q : Option ℕ) → SuitsOpen g (standing_in tops (owns p)) x.env o
          → SuitsRemainder g (standing_in tops (owns p)) (scanned (owns p)) x.env k → SuitsConfig g tops scanned owns (communicates g c p x o k q)
      communicates_suit o k None at left = suits
      communicates_suit o k (Some q) at left = by_suits o k q o.offer (arm_of g c p o.offer) at left at.0

      meets_or_waits_suits :
          (o : Open) (k : Remainder) (q : Option ℕ) → SuitsOpen g (standing_in tops (owns p)) x.env o
          → SuitsRemainder g (standing_in tops (owns p)) (scanned (owns p)) x.env k → SuitsConfig g tops scanned owns (meets_or_waits g c p x o k q)
      meets_or_waits_suits o k (Some q) at left = by_suits o k q o.offer (arm_of g c p o.offer) at left at.0
      meets_or_waits_suits o k None at left =
          it_shows g tops scanned owns (goes_on g c p x k) p (offering x (o ∷ []) k) (on_it_goes g tops scanned owns c p x k suits left) ((at, tt), left)

      pub meets_suit :
          (o : Open) (k : Remainder) → SuitsOpen g (standing_in tops (owns p)) x.env o → SuitsRemainder g (standing_in tops (owns p)) (scanned (owns p)) x.env k
          → SuitsEffect g tops scanned (meets_at g c p x o k)
      meets_suit o k at left = (owns, meets_or_waits_suits o k (partner_at c p (arm_of g c p o.offer)) at left)

      -- ## Selects

      takes_suit :
          (k : Remainder) (o : Option Open) → SuitsChosen g (standing_in tops (owns p)) x.env o →
          SuitsRemainder g (standing_in tops (owns p)) (scanned (owns p)) x.env k
          → SuitsConfig g tops scanned owns (takes g c p x k o)
      takes_suit k None at left = suits
      takes_suit k (Some o) at left = communicates_suit o k (partner_at c p (arm_of g c p o.offer)) at left

      module _ (s : Selecting) (all : SuitsSelecting g (standing_in tops (owns p)) x.env s) (k : Remainder)
          (left : SuitsRemainder g (standing_in tops (owns p)) (scanned (owns p)) x.env k) where
        waits_suit :
            (due : Option ℕ) (end : Remainder) → SuitsRemainder g (standing_in tops (owns p)) (scanned (owns p)) x.env end
            → SuitsConfig g tops scanned owns (waits_until g c p x s k due end)
        waits_suit due end ending =
            it_shows g tops scanned owns (goes_on g c p x end) p (offering x s.offered k) (on_it_goes g tops scanned owns c p x end suits ending) (all.0, left)

        closed_suits : (t : Option Timeout) (os : List Open) → SuitsTimeout g (standing_in tops (owns p)) x.env t
            → SuitsEffect g tops scanned (waits_or_closed g c p x s k t os)
        closed_suits None [] at = tt
        closed_suits None (o ∷ os) at = (owns, waits_suit None k left)
        closed_suits (Some t) os at =
            let due : ℕ = c.table.moment + 1000 * t.seconds in
            effect_either g tops scanned (nat_le due latest) (Ok (waits_until g c p x s k (Some due) (behind_open t.at k))) (Err Late)
            (owns, waits_suit (Some due) (behind_open t.at k) (open_behind g (standing_in tops (owns p)) x.env (scanned (owns p)) t.at k at left)) tt

        out_suits : (t : Option Timeout) → SuitsTimeout g (standing_in tops (owns p)) x.env t → SuitsEffect g tops scanned (times_out g c p x s k t)
        out_suits None at = closed_suits None s.offered tt
        out_suits (Some t) at =
            effect_either g tops scanned (t.seconds == 0) (Ok (goes_on g c p x (behind_open t.at k))) (waits_or_closed g c p x s k (Some t) s.offered)
            (owns, goes_behind_own t.at k at left) (closed_suits (Some t) s.offered at)

        otherwise_suits :
            (other : Option Otherwise) → SuitsOtherwise g (standing_in tops (owns p)) x.env other →
            SuitsEffect g tops scanned (goes_otherwise g c p x s k other)
        otherwise_suits (Some other) stmts = (
          owns,
          on_it_goes g tops scanned owns c p x (behind other.next other.stmts k) suits
              (behind_suits g (standing_in tops (owns p)) (scanned (owns p)) x.env other.next other.stmts k stmts left),
        )
        otherwise_suits None stmts = out_suits (open_timeout s.offered) (open_timeout_suits g (standing_in tops (owns p)) x.env s.offered all.0)

        pub decides_suit : (choice : ℕ) (places : List ℕ) → SuitsEffect g tops scanned (decides_by g c p x s k choice places)
        decides_suit choice [] = otherwise_suits s.otherwise all.1
        decides_suit choice (place ∷ places) =
            let taken = place_taken s.pri choice in
            let o = open_at s.offered (slice_get (matched_places g c p s) taken) in
            (owns, takes_suit k o (open_at_suits g (standing_in tops (owns p)) x.env s.offered (slice_get (matched_places g c p s) taken) all.0) left)
