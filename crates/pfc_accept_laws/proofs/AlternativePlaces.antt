-- What comes next in the alternatives of a select is placed.
use Rattle.std.proofs.Common.{ℕ, ◌+◌, pos, Bool, List, [], ◌∷◌, Option, Some, None}
use Rattle.std.specs.Prelude.{int_lt}
use Rattle.pfc_base.specs.declared.faults.RunFault.TheVariants.{Below}
use Rattle.pfc_tree.specs.declared.tree.Spread.{Spread}
use Rattle.pfc_tree.specs.trees.Exprs.{ExprTree, DesigTree}
use Rattle.pfc_tree.specs.trees.Stmts.{StmtTrees, AcceptTree, AltTrees, CommTree, accept, accept_do, AltTree, alt, no_alts, more_alts, comm_accept, comm_send}
use Rattle.pfc_tree.specs.trees.Stmts.{comm_receive, timeout, terminate}
use Rattle.pfc_types.specs.rules.Statements.{comm_scopes, alt_scopes}
use Rattle.pfc_values.specs.Numbers.{is_true}
use Rattle.pfc_semantics.specs.Values.{Value, ordinal_of}
use Rattle.pfc_semantics.specs.Displays.{Spot}
use Rattle.pfc_semantics.specs.Programs.{Block}
use Rattle.pfc_semantics.specs.Remainders.{Context, Replica, Offer, Alternative, Selecting, Remainder, Action, to_send, to_receive, to_accept, to_wait, to_end}
use Rattle.pfc_semantics.specs.Remainders.{open_if, offer_value, offer_wait, offer_to, offer_from, offer_into, faults}
use Rattle.pfc_semantics.specs.Alternatives.{replicas, alternative, spread_out, alternatives, accepting_of, message_of, receiver_of, a_signal, with_open}
use Rattle.pfc_semantics.specs.Alternatives.{from_seconds, from_message, from_receiver, from_comm, from_opened, from_guard, from_replica, from_alternatives}
use Rattle.pfc_semantics.specs.Alternatives.{select_begun}
use Rattle.std.specs.List.{AllByRecursion}
use Rattle.pfc_types.specs.rules.Statements.{accept_scopes, alts_scopes, stmts_scopes}
use Rattle.pfc_accept_laws.specs.Places.{IsPlaced, PlacesOffer, PlacesOpen, PlacesAlternative, PlacesSelecting, PlacesSelect, PlacesRemainder, PlacesAction}
use Rattle.pfc_accept_laws.proofs.Lists.{all_append, all_push, all_map}
use Rattle.pfc_accept_laws.proofs.Numbers.{front, back, placed_stmts}
use Rattle.pfc_accept_laws.proofs.ExpressionPlaces.{either, expr_places, desig_places}

module _ (b : Block) (c : Context) where
  -- ## Pieces

  abbrev All : Remainder → List Alternative → Type 0
  All k alts = AllByRecursion (PlacesAlternative b c.env k) alts

  pub open_places :
      (a : Alternative) (s : Selecting) (offer : Offer) (k : Remainder) → PlacesAlternative b c.env k a → PlacesSelecting b c.env k s
      → PlacesOffer b c.env k offer → PlacesSelecting b c.env k (with_open a s offer)
  open_places a s offer k one all placed =
      let behind = back b c.env a.next k (comm_scopes a.comm) (stmts_scopes a.stmts) one in
      (all_push (PlacesOpen b c.env k) s.offered _ all.0 (placed, placed_stmts b c.env (a.next + comm_scopes a.comm) k a.stmts behind), all.1)

  pub begun_places : (pri : Bool) (k : Remainder) → PlacesSelecting b c.env k (select_begun pri)
  begun_places pri k = (tt, tt)

  -- ## All alternatives of a select

  pub accepted_places :
      (n : ℕ) (a : AcceptTree) (line : ℕ) (k : Remainder) → IsPlaced b c.env n (accept_scopes a) k → PlacesOffer b c.env k (to_accept (accepting_of c n a line))
  accepted_places n (accept x gs p) line k placed = placed
  accepted_places n (accept_do x gs s p) line k placed = placed

  spread_places :
      (n : ℕ) (spread : Option Spread) (guard : Option ExprTree) (comm : CommTree) (ss : StmtTrees) (k : Remainder)
      → IsPlaced b c.env n (comm_scopes comm + stmts_scopes ss) k → All k (spread_out c n spread guard comm ss)
  spread_places n None guard comm ss k placed = (placed, tt)
  spread_places n (Some s) guard comm ss k placed =
      all_map (PlacesAlternative b c.env k) (λ (r : Replica). alternative n guard comm ss (Some r)) (λ r. placed) (replicas c s)

  pub all_places : (n : ℕ) (alts : AltTrees) (k : Remainder) → IsPlaced b c.env n (alts_scopes alts) k → All k (alternatives c n alts)
  all_places n no_alts k placed = tt
  all_places n (more_alts (alt spread guard comm ss) alts) k placed =
      let one : AltTree = alt spread guard comm ss in
      all_append (PlacesAlternative b c.env k) (spread_out c n spread guard comm ss) (alternatives c (n + alt_scopes one) alts)
      (spread_places n spread guard comm ss k (front b c.env n k (alt_scopes one) (alts_scopes alts) placed))
      (all_places (n + alt_scopes one) alts k (back b c.env n k (alt_scopes one) (alts_scopes alts) placed))

  -- ## Going through

  abbrev pub GoesOn : Remainder → (Selecting → Action) → Type 0
  GoesOn k go = (s : Selecting) → PlacesSelecting b c.env k s → PlacesAction b (go s)

  pub seconds_place :
      (a : Alternative) (s : Selecting) (go : Selecting → Action) (v : Value) (k : Remainder) → PlacesAlternative b c.env k a → PlacesSelecting b c.env k s
      → GoesOn k go → PlacesAction b (from_seconds c a s go v)
  seconds_place a s go v k one all on =
      let open_one = with_open a s (to_wait (ordinal_of v)) in
      either b (int_lt (ordinal_of v) (pos 0)) (faults c Below) (go open_one) tt (on open_one (open_places a s (to_wait (ordinal_of v)) k one all tt))

  module _ (a : Alternative) (rest : List Alternative) (s : Selecting) (k : Remainder) (select : PlacesSelect b c.env a rest s k)
      (left : PlacesRemainder b c.env k) (go : Selecting → Action) (on : GoesOn k go) where
    offered : (offer : Offer) → PlacesOffer b c.env k offer → PlacesAction b (go (with_open a s offer))
    offered offer placed = on (with_open a s offer) (open_places a s offer k select.one select.all placed)

    pub message_places : (channel : Spot) (e : Option ExprTree) → PlacesAction b (from_message c channel e a rest s k go)
    message_places channel None = offered (to_send channel a_signal) tt
    message_places channel (Some e) =
        expr_places b c e (offer_value channel a rest s k) (λ v. go (with_open a s (to_send channel v))) (select, left) (λ v. offered (to_send channel v) tt)

    pub receiver_places : (channel : Spot) (d : Option DesigTree) → PlacesAction b (from_receiver c channel d a rest s k go)
    receiver_places channel None = offered (to_receive channel None) tt
    receiver_places channel (Some d) =
        desig_places b c d (offer_into channel a rest s k) (λ v. go (with_open a s (to_receive channel (Some v.spot)))) (select, left)
        (λ v. offered (to_receive channel (Some v.spot)) tt)

    comm_places : (comm : CommTree) → IsPlaced b c.env a.next (comm_scopes comm) k → PlacesAction b (from_comm c comm a rest s k go)
    comm_places (comm_accept x p) placed = offered (to_accept (accepting_of c a.next x p.line)) (accepted_places a.next x p.line k placed)
    comm_places (comm_send d e p) placed =
        desig_places b c d (offer_to (message_of c e) a rest s k) (λ channel. from_message c channel.spot (message_of c e) a rest s k go) (select, left)
        (λ channel. message_places channel.spot (message_of c e))
    comm_places (comm_receive d v p) placed =
        desig_places b c d (offer_from (receiver_of c v) a rest s k) (λ channel. from_receiver c channel.spot (receiver_of c v) a rest s k go) (select, left)
        (λ channel. receiver_places channel.spot (receiver_of c v))
    comm_places (timeout e p) placed =
        expr_places b c e (offer_wait a rest s k) (from_seconds c a s go) (select, left) (λ v. seconds_place a s go v k select.one select.all on)
    comm_places (terminate p) placed = offered to_end tt

    own_comm : PlacesAction b (from_comm c a.comm a rest s k go)
    own_comm = comm_places a.comm (front b c.env a.next k (comm_scopes a.comm) (stmts_scopes a.stmts) select.one)

    pub opened_places : (v : Value) → PlacesAction b (from_opened c a rest s k go v)
    opened_places v = either b (is_true (ordinal_of v)) (from_comm c a.comm a rest s k go) (go s) own_comm (on s select.all)

    pub guard_places : (guard : Option ExprTree) → PlacesAction b (from_guard c guard a rest s k go)
    guard_places None = own_comm
    guard_places (Some e) = expr_places b c e (open_if a rest s k) (from_opened c a rest s k go) (select, left) (λ v. opened_places v)

    replica_places : (r : Option Replica) → PlacesAction b (from_replica c r a rest s k go)
    replica_places None = guard_places a.guard
    replica_places (Some r) = (select, left)

  pub alternatives_place :
      (rest : List Alternative) (s : Selecting) (k : Remainder) → All k rest → PlacesSelecting b c.env k s → PlacesRemainder b c.env k
      → PlacesAction b (from_alternatives c rest s k)
  alternatives_place [] s k others all left = (all, left)
  alternatives_place (a ∷ rest) s k others all left =
      replica_places a rest s k (record { one = others.0; others = others.1; all = all }) left (λ t. from_alternatives c rest t k)
      (λ t found. alternatives_place rest t k others.1 found left) a.replica
