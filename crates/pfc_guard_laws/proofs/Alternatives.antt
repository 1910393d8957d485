-- What comes next in the alternatives of a select calls what the rules ask.
use Rattle.std.proofs.Common.{ℕ, ◌+◌, pos, Bool, true, false, if◌then◌else◌, List, [], ◌∷◌, Option, Some, None}
use Rattle.std.specs.Prelude.{int_lt}
use Rattle.pfc_base.specs.declared.faults.RunFault.TheVariants.{Below}
use Rattle.pfc_tree.specs.declared.tree.Spread.{Spread}
use Rattle.pfc_tree.specs.trees.Exprs.{ExprTree, DesigTree}
use Rattle.pfc_tree.specs.trees.Stmts.{StmtTrees, AcceptTree, AltTrees, CommTree, accept, accept_do, alt, no_alts, more_alts, comm_accept, comm_send}
use Rattle.pfc_tree.specs.trees.Stmts.{comm_receive, timeout, terminate}
use Rattle.pfc_types.specs.rules.Expressions.{as_desig}
use Rattle.pfc_types.specs.rules.Statements.{names_any, comm_scopes, alt_scopes}
use Rattle.pfc_values.specs.Numbers.{is_true}
use Rattle.pfc_semantics.specs.Values.{Value, ordinal_of}
use Rattle.pfc_semantics.specs.Displays.{Spot}
use Rattle.pfc_semantics.specs.Programs.{Program}
use Rattle.pfc_guard_laws.specs.Tops.{Standing}
use Rattle.pfc_semantics.specs.Remainders.{Context, Replica, Offer, Alternative, Selecting, Scan, Remainder, Action, to_send, to_receive, to_accept, to_wait}
use Rattle.pfc_semantics.specs.Remainders.{to_end, open_if, offer_value, offer_wait, offer_to, offer_from, offer_into, faults}
use Rattle.pfc_semantics.specs.Alternatives.{replicas, alternative, spread_out, alternatives, accepting_of, message_of, receiver_of, a_signal, with_open}
use Rattle.pfc_semantics.specs.Alternatives.{from_seconds, from_message, from_receiver, from_comm, from_opened, from_guard, from_replica, from_alternatives}
use Rattle.pfc_semantics.specs.Alternatives.{select_begun}
use Rattle.pfc_guard_laws.specs.Written.{SuitsExpr, SuitsDesig, SuitsPerhaps, SuitsTarget, SuitStmts, SuitsAccept, SuitsComm, SuitAlts}
use Rattle.pfc_guard_laws.specs.Remainders.{SuitsOffer, SuitsOpen, SuitsAlternative, SuitAlternatives, SuitsSelecting, SuitsRemainder, SuitsAction}
use Rattle.pfc_guard_laws.proofs.Lists.{all_append, all_push, all_map}
use Rattle.pfc_guard_laws.proofs.Expressions.{either, expr_suits, desig_suits}

-- ## Pieces

module _ (g : Program) (standing : Standing) (c : Context) where
  pub perhaps_unless : (b : Bool) (e : ExprTree) → SuitsExpr g standing c.env e → SuitsPerhaps g standing c.env (if b then None else Some e)
  perhaps_unless true e suits = tt
  perhaps_unless false e suits = suits

  pub target_unless : (b : Bool) (d : DesigTree) → SuitsDesig g standing c.env d → SuitsTarget g standing c.env (if b then None else Some d)
  target_unless true d suits = tt
  target_unless false d suits = suits

  pub open_suits :
      (a : Alternative) (s : Selecting) (offer : Offer) → SuitsAlternative g standing c.env a →
      SuitsSelecting g standing c.env s → SuitsOffer g standing c.env offer
      → SuitsSelecting g standing c.env (with_open a s offer)
  open_suits a s offer one all suits = (all_push (SuitsOpen g standing c.env) s.offered _ all.0 (suits, one.2), all.1)

  pub begun_suits : (pri : Bool) → SuitsSelecting g standing c.env (select_begun pri)
  begun_suits pri = (tt, tt)

  -- ## All alternatives of a select

  pub accepted_suits : (n : ℕ) (a : AcceptTree) (line : ℕ) → SuitsAccept g standing c.env n a →
      SuitsOffer g standing c.env (to_accept (accepting_of c n a line))
  accepted_suits n (accept x gs p) line suits = tt
  accepted_suits n (accept_do x gs s p) line suits = suits

  spread_suits :
      (n : ℕ) (spread : Option Spread) (guard : Option ExprTree) (comm : CommTree) (ss : StmtTrees) → SuitsPerhaps g standing c.env guard
      → SuitsComm g standing c.env n comm → SuitStmts g standing c.env (n + comm_scopes comm) ss →
      SuitAlternatives g standing c.env (spread_out c n spread guard comm ss)
  spread_suits n None guard comm ss test met behind = ((test, met, behind), tt)
  spread_suits n (Some s) guard comm ss test met behind =
      all_map (SuitsAlternative g standing c.env) (λ (r : Replica). alternative n guard comm ss (Some r)) (λ r. (test, met, behind)) (replicas c s)

  pub all_suit : (n : ℕ) (alts : AltTrees) → SuitAlts g standing c.env n alts → SuitAlternatives g standing c.env (alternatives c n alts)
  all_suit n no_alts suits = tt
  all_suit n (more_alts (alt spread guard comm ss) alts) suits =
      all_append (SuitsAlternative g standing c.env) (spread_out c n spread guard comm ss) (alternatives c (n + alt_scopes (alt spread guard comm ss)) alts)
      (spread_suits n spread guard comm ss suits.0.0 suits.0.1 suits.0.2) (all_suit (n + alt_scopes (alt spread guard comm ss)) alts suits.1)

-- ## Going through

module _ (g : Program) (standing : Standing) (scanned : Scan → Type 0) (c : Context) where
  abbrev pub GoesOn : (Selecting → Action) → Type 0
  GoesOn go = (s : Selecting) → SuitsSelecting g standing c.env s → SuitsAction g standing scanned (go s)

  pub seconds_suit :
      (a : Alternative) (s : Selecting) (go : Selecting → Action) (v : Value) → SuitsAlternative g standing c.env a →
      SuitsSelecting g standing c.env s → GoesOn go
      → SuitsAction g standing scanned (from_seconds c a s go v)
  seconds_suit a s go v one all on =
      let open_one = with_open a s (to_wait (ordinal_of v)) in
      either g standing scanned (int_lt (ordinal_of v) (pos 0)) (faults c Below) (go open_one) tt
      (on open_one (open_suits g standing c a s (to_wait (ordinal_of v)) one all tt))

  module _ (a : Alternative) (one : SuitsAlternative g standing c.env a) (rest : List Alternative)
      (others : SuitAlternatives g standing c.env rest) (s : Selecting)
      (all : SuitsSelecting g standing c.env s) (k : Remainder) (left : SuitsRemainder g standing scanned c.env k)
      (go : Selecting → Action) (on : GoesOn go) where
    offered : (offer : Offer) → SuitsOffer g standing c.env offer → SuitsAction g standing scanned (go (with_open a s offer))
    offered offer suits = on (with_open a s offer) (open_suits g standing c a s offer one all suits)

    pub message_suits :
        (channel : Spot) (e : Option ExprTree) → SuitsPerhaps g standing c.env e → SuitsAction g standing scanned (from_message c channel e a rest s k go)
    message_suits channel None suits = offered (to_send channel a_signal) tt
    message_suits channel (Some e) suits =
        expr_suits g standing scanned c e suits (offer_value channel a rest s k) (λ v. go (with_open a s (to_send channel v))) (one, others, all, left)
        (λ v. offered (to_send channel v) tt)

    pub receiver_suits :
        (channel : Spot) (d : Option DesigTree) → SuitsTarget g standing c.env d → SuitsAction g standing scanned (from_receiver c channel d a rest s k go)
    receiver_suits channel None suits = offered (to_receive channel None) tt
    receiver_suits channel (Some d) suits =
        desig_suits g standing scanned c d suits (offer_into channel a rest s k) (λ v. go (with_open a s (to_receive channel (Some v.spot))))
        (one, others, all, left) (λ v. offered (to_receive channel (Some v.spot)) tt)

    comm_suits : (comm : CommTree) → SuitsComm g standing c.env a.next comm → SuitsAction g standing scanned (from_comm c comm a rest s k go)
    comm_suits (comm_accept x p) suits = offered (to_accept (accepting_of c a.next x p.line)) (accepted_suits g standing c a.next x p.line suits)
    comm_suits (comm_send d e p) suits =
        let message = perhaps_unless g standing c (names_any c.env (as_desig e)) e suits.1 in
        desig_suits g standing scanned c d suits.0 (offer_to (message_of c e) a rest s k)
        (λ channel. from_message c channel.spot (message_of c e) a rest s k go)
        (message, one, others, all, left) (λ channel. message_suits channel.spot (message_of c e) message)
    comm_suits (comm_receive d v p) suits =
        let target = target_unless g standing c (names_any c.env (Some v)) v suits.1 in
        desig_suits g standing scanned c d suits.0 (offer_from (receiver_of c v) a rest s k)
        (λ channel. from_receiver c channel.spot (receiver_of c v) a rest s k go)
        (target, one, others, all, left) (λ channel. receiver_suits channel.spot (receiver_of c v) target)
    comm_suits (timeout e p) suits =
        expr_suits g standing scanned c e suits (offer_wait a rest s k) (from_seconds c a s go) (one, others, all, left)
        (λ v. seconds_suit a s go v one all on)
    comm_suits (terminate p) suits = offered to_end tt

    pub opened_suits : (v : Value) → SuitsAction g standing scanned (from_opened c a rest s k go v)
    opened_suits v =
        either g standing scanned (is_true (ordinal_of v)) (from_comm c a.comm a rest s k go) (go s) (comm_suits a.comm one.1) (on s all)

    pub guard_suits : (guard : Option ExprTree) → SuitsPerhaps g standing c.env guard → SuitsAction g standing scanned (from_guard c guard a rest s k go)
    guard_suits None suits = comm_suits a.comm one.1
    guard_suits (Some e) suits =
        expr_suits g standing scanned c e suits (open_if a rest s k) (from_opened c a rest s k go) (one, others, all, left) (λ v. opened_suits v)

    replica_suits : (r : Option Replica) → SuitsAction g standing scanned (from_replica c r a rest s k go)
    replica_suits None = guard_suits a.guard one.0
    replica_suits (Some r) = (one, others, all, left)

  pub alternatives_suit :
      (rest : List Alternative) → SuitAlternatives g standing c.env rest → (s : Selecting) → SuitsSelecting g standing c.env s → (k : Remainder)
      → SuitsRemainder g standing scanned c.env k → SuitsAction g standing scanned (from_alternatives c rest s k)
  alternatives_suit [] others s all k left = (all, left)
  alternatives_suit (a ∷ rest) others s all k left =
      replica_suits a others.0 rest others.1 s all k left (λ t. from_alternatives c rest t k)
      (λ t found. alternatives_suit rest others.1 t found k left) a.replica
