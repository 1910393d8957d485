-- Behind communication, and behind the deciding action of a select, all numbers have 32 bits.
use Rattle.std.proofs.Common.{subst, sym, refl, ◌≡◌, ℕ, zero, suc, ◌+◌, Bool, true, false, nat_le, if◌then◌else◌, List, [], ◌∷◌, Option, Some, None, Ok, Err}
use Rattle.std.specs.Prelude.{◌==◌, ◌*◌, slice_get}
use Rattle.pfc_base.specs.declared.faults.RunFault.TheVariants.{Late}
use Rattle.pfc_state.specs.declared.waits.Arm.{Arm}
use Rattle.pfc_state.specs.declared.waits.Arm.TheVariants.{Send as To, Receive as From}
use Rattle.pfc_world.specs.Selects.{committed, select_waited}
use Rattle.pfc_tree.specs.trees.Stmts.{no_stmts, more_stmts}
use Rattle.pfc_types.specs.rules.Statements.{within_accept}
use Rattle.pfc_semantics.specs.Values.{Value}
use Rattle.pfc_semantics.specs.Store.{values_in}
use Rattle.pfc_semantics.specs.Displays.{Spot, frame_of}
use Rattle.pfc_semantics.specs.Programs.{Program}
use Rattle.pfc_semantics.specs.Remainders.{Context, Replica, Accepting, Offer, Open, Otherwise, Selecting, Remainder, to_send, to_receive, to_accept, to_wait}
use Rattle.pfc_semantics.specs.Remainders.{perform, in_names, part_from}
use Rattle.pfc_semantics.specs.Statements.{behind}
use Rattle.pfc_semantics.specs.Configurations.{Hand, empty_hand, offering, asking, Config, activity_of, goes_on, showing}
use Rattle.pfc_semantics.specs.Channels.{arm_of, arms_of_all, is_communication, communications, behind_replica, behind_open, Side, is_arm, first_open, side_in}
use Rattle.pfc_semantics.specs.Channels.{side_of, goes_behind, delivered, sent_into, sent_to, received_out, received_from}
use Rattle.pfc_semantics.specs.Rendezvous.{taken_from, parameters_taken, meeting_of, met_by, called_into, called_at, asked, accepts_from}
use Rattle.pfc_semantics.specs.Selects.{communicates_by, communicates, partner_at, plainly, meets_or_waits, meets_at, matched_places, place_taken, open_at}
use Rattle.pfc_semantics.specs.Selects.{takes, Timeout, timeout_at, or_timeout, open_timeout, may_terminate_at, latest, waits_until, waits_or_closed, times_out}
use Rattle.pfc_semantics.specs.Selects.{goes_otherwise, decides_by}
use Rattle.pfc_run_invariants.specs.Fitting.{FitsValue, FitList}
use Rattle.pfc_run_invariants.specs.Remainders.{FitsEnv, FitsReplica, FitsOffer, FitsOpen, FitOpens, FitsOtherwise, FitsSelecting, FitsRemainder}
use Rattle.pfc_run_invariants.specs.Configurations.{FitsProgram, FitsHand, FitsConfig}
use Rattle.pfc_run_invariants.proofs.Statements.{behind_fits}
use Rattle.pfc_run_invariants.proofs.Stores.{values_in_fit, with_values_fit, taken_fit}
use Rattle.pfc_run_invariants.proofs.Steps.{FitsEffect, effect_either, tabled, activity_fits, on_it_goes, it_shows, it_writes, marks_at, same_marks}
use Rattle.pfc_semantics.specs.Configurations.{Mark}
use Rattle.pfc_semantics.specs.Rewriting.{going}
use Rattle.pfc_run_invariants.specs.Asked.{Asked, IsClosed}

-- ## What is open

module _ (law : Asked) (who : ℕ) (ms : List Mark) where
  abbrev pub FitsChosen : Option Open → Type 0
  FitsChosen None = Unit {0}
  FitsChosen (Some o) = FitsOpen law who ms o

  communications_fit : (os : List Open) → FitOpens law who ms os → FitOpens law who ms (communications os)
  communications_fit [] all = tt
  communications_fit (o ∷ os) all = by (is_communication o.offer) (communications_fit os all.1)
    where
      by : (b : Bool) → FitOpens law who ms (communications os) → FitOpens law who ms (if b then o ∷ communications os else communications os)
      by true later = (all.0, later)
      by false later = later

  chosen_fits : (os : List Open) (place : ℕ) → FitOpens law who ms os → FitsChosen (slice_get os place)
  chosen_fits [] place all = tt
  chosen_fits (o ∷ os) zero all = all.0
  chosen_fits (o ∷ os) (suc place) all = chosen_fits os place all.1

  pub open_at_fits : (os : List Open) (place : Option ℕ) → FitOpens law who ms os → FitsChosen (open_at os place)
  open_at_fits os None all = tt
  open_at_fits os (Some place) all = chosen_fits (communications os) place (communications_fit os all)

  pub replica_behind : (r : Option Replica) (k : Remainder) → FitsReplica law who ms r → FitsRemainder law who ms k →
      FitsRemainder law who ms (behind_replica r k)
  replica_behind None k fits left = left
  replica_behind (Some r) k fits left = (fits, left)

  pub open_behind : IsClosed law → (o : Open) (k : Remainder) → FitsOpen law who ms o → FitsRemainder law who ms k → FitsRemainder law who ms (behind_open o k)
  open_behind closed o k fits left =
      replica_behind o.replica (behind o.next o.stmts k) fits.1 (behind_fits law who ms closed o.next o.stmts k fits.2 left)

  -- the open `timeout`
  abbrev pub FitsTimeout : Option Timeout → Type 0
  FitsTimeout None = Unit {0}
  FitsTimeout (Some t) = FitsOpen law who ms t.at

  timeout_fits : (o : Open) (offer : Offer) → FitsOpen law who ms o → FitsTimeout (timeout_at o offer)
  timeout_fits o (to_wait n) at = at
  timeout_fits o offer at = tt

  or_fits : (t other : Option Timeout) → FitsTimeout t → FitsTimeout other → FitsTimeout (or_timeout t other)
  or_fits (Some t) other first second = first
  or_fits None other first second = second

  pub open_timeout_fits : (os : List Open) → FitOpens law who ms os → FitsTimeout (open_timeout os)
  open_timeout_fits [] all = tt
  open_timeout_fits (o ∷ os) all = or_fits (timeout_at o o.offer) (open_timeout os) (timeout_fits o o.offer all.0) (open_timeout_fits os all.1)

  -- ## Partners

  pub record FitsSide (s : Side) : Type 0 where
    pub env : FitsEnv law who ms s.context.env
    pub at : FitsOpen law who ms s.at
    pub left : FitsRemainder law who ms s.left

  abbrev pub FitsPartner : Option Side → Type 0
  FitsPartner None = Unit {0}
  FitsPartner (Some s) = FitsSide s

  first_fits :
      (g : Program) (c : Config) (arm : Arm) (x : Context) (os : List Open) (k : Remainder) → FitsEnv law who ms x.env → FitOpens law who ms os
      → FitsRemainder law who ms k → FitsPartner (first_open g c who arm x os k)
  first_fits g c arm x [] k known all left = tt
  first_fits g c arm x (o ∷ os) k known all left = by (is_arm arm (arm_of g c who o.offer)) (first_fits g c arm x os k known all.1 left)
    where
      by : (b : Bool) → FitsPartner (first_open g c who arm x os k)
          → FitsPartner (if b then Some (record { context = x; at = o; left = k }) else first_open g c who arm x os k)
      by true later = record { env = known; at = all.0; left = left }
      by false later = later

  pub side_fits : (g : Program) (c : Config) (arm : Arm) (hand : Hand) → FitsHand law who ms hand → FitsPartner (side_in g c who arm hand)
  side_fits g c arm (offering x os k) fits = first_fits g c arm x os k fits.0 fits.1 fits.2
  side_fits g c arm hand fits = tt

  pub asked_fits : (hand : Hand) → FitsHand law who ms hand → FitList (asked hand)
  asked_fits (asking values) fits = fits
  asked_fits hand fits = tt

module _ (law : Asked) (closed : IsClosed law) (program : FitsProgram law) where
  abbrev g : Program
  g = law.program

  abbrev marks : Config → ℕ → List Mark
  marks c p = marks_at law closed program c p

  pub partner_fits : (c : Config) (q : ℕ) (arm : Arm) → FitsConfig law c → FitsPartner law q (marks c q) (side_of g c q arm)
  partner_fits c q arm fits = side_fits law q (marks c q) g c arm (activity_of g c q).hand (activity_fits law closed program c q fits).hand

  delivered_fits : (c : Config) (q : ℕ) (target : Option Spot) (v : Value) → FitsConfig law c → FitsValue v → FitsConfig law (delivered g c q target v)
  delivered_fits c q None v fits given = fits
  delivered_fits c q (Some target) v fits given = it_writes law closed program c q target v fits given

  -- a message changes the marks of nobody
  delivered_marks : (c : Config) (p q : ℕ) (target : Option Spot) (v : Value) → marks (delivered g c p target v) q ≡ marks c q
  delivered_marks c p q None v = refl
  delivered_marks c p q (Some target) v = refl

  goes_fits : (c : Config) (q : ℕ) (s : Side) → FitsConfig law c → FitsSide law q (marks c q) s → FitsConfig law (goes_behind g c q s)
  goes_fits c q s fits side =
      on_it_goes law closed program c q s.context (behind_open s.at s.left) fits side.env (open_behind law q (marks c q) closed s.at s.left side.at side.left)

  behind_message :
      (c : Config) (p q : ℕ) (target : Option Spot) (v : Value) (s : Side) → FitsConfig law c → FitsValue v → FitsSide law q (marks c q) s
      → FitsConfig law (goes_behind g (delivered g c p target v) q s)
  behind_message c p q target v s fits given side =
      goes_fits (delivered g c p target v) q s (delivered_fits c p target v fits given)
      (subst (λ (m : List Mark). FitsSide law q m s) (sym (delivered_marks c p q target v)) side)

  -- ## Messages

  sent_fits :
      (c : Config) (q : ℕ) (v : Value) (s : Side) (offer : Offer) → FitsConfig law c → FitsValue v → FitsSide law q (marks c q) s
      → FitsConfig law (sent_into g c q v s offer)
  sent_fits c q v s (to_receive channel target) fits given side = behind_message c q q target v s fits given side
  sent_fits c q v s offer fits given side = fits

  sent_to_fits :
      (c : Config) (q : ℕ) (v : Value) (s : Option Side) → FitsConfig law c → FitsValue v → FitsPartner law q (marks c q) s
      → FitsConfig law (sent_to g c q v s)
  sent_to_fits c q v None fits given side = fits
  sent_to_fits c q v (Some s) fits given side = sent_fits c q v s s.at.offer fits given side

  received_fits :
      (c : Config) (p : ℕ) (target : Option Spot) (q : ℕ) (s : Side) (offer : Offer) → FitsConfig law c → FitsOffer law q (marks c q) offer
      → FitsSide law q (marks c q) s → FitsConfig law (received_out g c p target q s offer)
  received_fits c p target q s (to_send channel v) fits given side = behind_message c p q target v s fits given side
  received_fits c p target q s offer fits given side = fits

  received_from_fits :
      (c : Config) (p : ℕ) (target : Option Spot) (q : ℕ) (s : Option Side) → FitsConfig law c → FitsPartner law q (marks c q) s
      → FitsConfig law (received_from g c p target q s)
  received_from_fits c p target q None fits side = fits
  received_from_fits c p target q (Some s) fits side = received_fits c p target q s s.at.offer fits side.at.0 side

  -- ## Meetings

  parameters_fit : (c : Config) (q : ℕ) (a : Accepting) (args : List Value) → FitsConfig law c → FitList args → FitsConfig law (parameters_taken g c q a args)
  parameters_fit c q a args fits given =
      let f = frame_of (activity_of g c q).display a.scope in
      let values = values_in c.store f.activation in
      record {
        activities = fits.activities;
        store =
            with_values_fit c.store f.activation (taken_from f.first args values) fits.store
            (taken_fit f.first args values given (values_in_fit c.store f.activation fits.store));
        input = fits.input;
      }

  meeting_fits :
      (q : ℕ) (ms : List Mark) (x : Context) (a : Accepting) (o : Open) (caller : ℕ) (k : Remainder) → FitsEnv law q ms x.env
      → FitsOffer law q ms (to_accept a) → FitsOpen law q ms o → FitsRemainder law q ms k → FitsRemainder law q ms (meeting_of x a o caller k)
  meeting_fits q ms x a o caller k known body at left =
      replica_behind law q ms o.replica
      (in_names (within_accept x.env a.scope)
      (perform (a.scope + 1) (more_stmts a.stmt no_stmts) (part_from caller a.line (in_names x.env (behind o.next o.stmts k)))))
      at.1
      (closed.accepts q ms x.env a.scope known body.0, ((body.1, tt), (known, behind_fits law q ms closed o.next o.stmts k at.2 left)))

  met_fits :
      (c : Config) (q : ℕ) (x : Context) (a : Accepting) (o : Open) (caller : ℕ) (args : List Value) (k : Remainder) → FitsConfig law c
      → FitsEnv law q (marks c q) x.env → FitsOffer law q (marks c q) (to_accept a) → FitsOpen law q (marks c q) o → FitList args
      → FitsRemainder law q (marks c q) k → FitsConfig law (met_by g c q x a o caller args k)
  met_fits c q x a o caller args k fits known body at given left =
      on_it_goes law closed program (parameters_taken g c q a args) q x (meeting_of x a o caller k) (parameters_fit c q a args fits given) known
      (meeting_fits q (marks c q) x a o caller k known body at left)

  called_fits :
      (c : Config) (p q : ℕ) (args : List Value) (s : Side) (offer : Offer) → FitsConfig law c → FitList args → FitsSide law q (marks c q) s
      → FitsOffer law q (marks c q) offer → FitsConfig law (called_into g c p q args s offer)
  called_fits c p q args s (to_accept a) fits given side body = met_fits c q s.context a s.at p args s.left fits side.env body side.at given side.left
  called_fits c p q args s offer fits given side body = fits

  pub called_at_fits :
      (c : Config) (p q : ℕ) (args : List Value) (s : Option Side) → FitsConfig law c → FitList args → FitsPartner law q (marks c q) s
      → FitsConfig law (called_at g c p q args s)
  called_at_fits c p q args None fits given side = fits
  called_at_fits c p q args (Some s) fits given side = called_fits c p q args s s.at.offer fits given side side.at.0

  accepts_fit :
      (c : Config) (p : ℕ) (x : Context) (a : Accepting) (o : Open) (caller : ℕ) (k : Remainder) → FitsConfig law c → FitsEnv law p (marks c p) x.env
      → FitsOffer law p (marks c p) (to_accept a) → FitsOpen law p (marks c p) o → FitsRemainder law p (marks c p) k
      → FitsConfig law (accepts_from g c p x a o caller k)
  accepts_fit c p x a o caller k fits known body at left =
      let args = asked (activity_of g c caller).hand in
      it_shows law closed program (met_by g c p x a o caller args k) caller empty_hand
      (met_fits c p x a o caller args k fits known body at
      (asked_fits law caller (marks c caller) (activity_of g c caller).hand (activity_fits law closed program c caller fits).hand) left)
      tt

  -- ## With a partner

  module _ (c : Config) (fits : FitsConfig law c) (p : ℕ) (x : Context) (known : FitsEnv law p (marks c p) x.env) (k : Remainder)
      (left : FitsRemainder law p (marks c p) k) where
    module _ (o : Open) (at : FitsOpen law p (marks c p) o) where
      on : FitsConfig law (goes_on g c p x (behind_open o k))
      on = on_it_goes law closed program c p x (behind_open o k) fits known (open_behind law p (marks c p) closed o k at left)

      still : (q : ℕ) (arm : Arm) → FitsPartner law q (marks (goes_on g c p x (behind_open o k)) q) (side_of g c q arm)
      still q arm =
          subst (λ (m : List Mark). FitsPartner law q m (side_of g c q arm))
          (sym (same_marks law closed program c p q (going x.env (behind_open o k)))) (partner_fits c q arm fits)

      by_fits : (q : ℕ) (offer : Offer) (arm : Option Arm) → FitsOffer law p (marks c p) offer → FitsConfig law (communicates_by g c p x o k q offer arm)
      by_fits q (to_send channel v) (Some (To n)) given =
          sent_to_fits (goes_on g c p x (behind_open o k)) q v (side_of g c q (From n)) on given (still q (From n))
      by_fits q (to_receive channel target) (Some (From n)) given =
          received_from_fits (goes_on g c p x (behind_open o k)) p target q (side_of g c q (To n)) on (still q (To n))
      by_fits q (to_accept a) arm given = accepts_fit c p x a o q k fits known given at left
      by_fits q offer arm given = fits

      communicates_fits : (q : Option ℕ) → FitsConfig law (communicates g c p x o k q)
      communicates_fits None = fits
      communicates_fits (Some q) = by_fits q o.offer (arm_of g c p o.offer) at.0

      meets_or_waits_fits : (q : Option ℕ) → FitsConfig law (meets_or_waits g c p x o k q)
      meets_or_waits_fits (Some q) = by_fits q o.offer (arm_of g c p o.offer) at.0
      meets_or_waits_fits None =
          it_shows law closed program (goes_on g c p x k) p (offering x (o ∷ []) k) (on_it_goes law closed program c p x k fits known left)
          (subst (λ (m : List Mark). FitsHand law p m (offering x (o ∷ []) k)) (sym (same_marks law closed program c p p (going x.env k)))
          (known, (at, tt), left))

      pub meets_fits : FitsEffect law (meets_at g c p x o k)
      meets_fits =
          let arm = arm_of g c p o.offer in
          tabled law (meets_or_waits g c p x o k (partner_at c p arm)) (plainly c.table p arm) (meets_or_waits_fits (partner_at c p arm))

    -- ## Selects

    takes_fits : (o : Option Open) → FitsChosen law p (marks c p) o → FitsConfig law (takes g c p x k o)
    takes_fits None at = fits
    takes_fits (Some o) at = communicates_fits o at (partner_at c p (arm_of g c p o.offer))

    module _ (s : Selecting) (all : FitsSelecting law p (marks c p) s) where
      waits_fits : (due : Option ℕ) (end : Remainder) → FitsRemainder law p (marks c p) end → FitsConfig law (waits_until g c p x s k due end)
      waits_fits due end ending =
          tabled law (showing g (goes_on g c p x end) p (offering x s.offered k))
          (select_waited c.table p (arms_of_all g c p s.offered) due (may_terminate_at s.offered))
          (it_shows law closed program (goes_on g c p x end) p (offering x s.offered k) (on_it_goes law closed program c p x end fits known ending)
          (subst (λ (m : List Mark). FitsHand law p m (offering x s.offered k)) (sym (same_marks law closed program c p p (going x.env end)))
          (known, all.0, left)))

      closed_fits : (t : Option Timeout) (os : List Open) → FitsTimeout law p (marks c p) t → FitsEffect law (waits_or_closed g c p x s k t os)
      closed_fits None [] at = tt
      closed_fits None (o ∷ os) at = waits_fits None k left
      closed_fits (Some t) os at =
          let due : ℕ = c.table.moment + 1000 * t.seconds in
          effect_either law (nat_le due latest) (Ok (waits_until g c p x s k (Some due) (behind_open t.at k))) (Err Late)
          (waits_fits (Some due) (behind_open t.at k) (open_behind law p (marks c p) closed t.at k at left)) tt

      out_fits : (t : Option Timeout) → FitsTimeout law p (marks c p) t → FitsEffect law (times_out g c p x s k t)
      out_fits None at = closed_fits None s.offered tt
      out_fits (Some t) at =
          effect_either law (t.seconds == 0) (Ok (goes_on g c p x (behind_open t.at k))) (waits_or_closed g c p x s k (Some t) s.offered)
          (on_it_goes law closed program c p x (behind_open t.at k) fits known (open_behind law p (marks c p) closed t.at k at left))
          (closed_fits (Some t) s.offered at)

      otherwise_fits : (other : Option Otherwise) → FitsOtherwise law p (marks c p) other → FitsEffect law (goes_otherwise g c p x s k other)
      otherwise_fits (Some other) stmts =
          on_it_goes law closed program c p x (behind other.next other.stmts k) fits known
          (behind_fits law p (marks c p) closed other.next other.stmts k stmts left)
      otherwise_fits None stmts = out_fits (open_timeout s.offered) (open_timeout_fits law p (marks c p) s.offered all.0)

      pub decides_fits : (choice : ℕ) (places : List ℕ) → FitsEffect law (decides_by g c p x s k choice places)
      decides_fits choice [] = otherwise_fits s.otherwise all.1
      decides_fits choice (place ∷ places) =
          let taken = place_taken s.pri choice in
          let o = open_at s.offered (slice_get (matched_places g c p s) taken) in
          tabled law (takes g c p x k o) (committed c.table p (arms_of_all g c p s.offered) taken)
          (takes_fits o (open_at_fits law p (marks c p) s.offered (slice_get (matched_places g c p s) taken) all.0))
