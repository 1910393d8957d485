-- What a process goes on with behind what it has offered is placed; and so is the body of a process.
use Rattle.std.proofs.Common.{◌≡◌, ◌≤◌, ◌<◌, ℕ, ◌+◌, Option, Some, None, subst, arith}
use Rattle.pfc_tree.specs.trees.Stmts.{no_stmts, more_stmts}
use Rattle.pfc_types.specs.rules.Statements.{within_accept, scopes_in, stmts_scopes}
use Rattle.pfc_types.specs.rules.Expressions.{Env}
use Rattle.pfc_semantics.specs.Programs.{Block}
use Rattle.pfc_semantics.specs.Remainders.{Context, Replica, Accepting, Offer, Open, Remainder, to_accept, ends, perform, in_names, part_from}
use Rattle.pfc_semantics.specs.Statements.{behind}
use Rattle.pfc_semantics.specs.Channels.{behind_replica, behind_open}
use Rattle.pfc_semantics.specs.Rendezvous.{meeting_of}
use Rattle.pfc_semantics.specs.Configurations.{body_of}
use Rattle.pfc_accept_laws.specs.Places.{IsBefore, IsLow, IsOfBlock, AreOfBlock, IsPlaced, PlacesOffer, PlacesOpen, PlacesRemainder}
use Rattle.pfc_accept_laws.proofs.Numbers.{before_more, before_within, low_more, low_behind, back, placed_stmts}
use Rattle.pfc_accept_laws.proofs.StatementPlaces.{behind_places}

-- ## Numbers

itself : (n : ℕ) → n ≤ n
itself n = omega arith

later : (n : ℕ) → n ≤ n + 1
later n = omega arith

first_within : (n s : ℕ) → n < n + (1 + s)
first_within n s = omega arith

and_none : (x : ℕ) → x ≡ x + 0
and_none x = omega arith

module _ (b : Block) where
  -- ## Behind what was offered

  replica_behind : (env : Env) (r : Option Replica) (k : Remainder) → PlacesRemainder b env k → PlacesRemainder b env (behind_replica r k)
  replica_behind env None k left = left
  replica_behind env (Some r) k left = left

  pub open_behind : (env : Env) (o : Open) (k : Remainder) → PlacesOpen b env k o → PlacesRemainder b env k → PlacesRemainder b env (behind_open o k)
  open_behind env o k placed left =
      replica_behind env o.replica (behind o.next o.stmts k) (behind_places b env o.next o.stmts k placed.1 left)

  module _ (x : Context) (a : Accepting) (o : Open) (caller : ℕ) (k : Remainder) where
    abbrev after : Remainder
    after = behind o.next o.stmts k

    abbrev behind_it : Remainder
    behind_it = part_from caller a.line (in_names x.env after)

    in_statement : PlacesOffer b x.env k (to_accept a) →
        IsPlaced b (within_accept x.env a.scope) (a.scope + 1) (stmts_scopes (more_stmts a.stmt no_stmts)) behind_it
    in_statement placed =
        let own : AreOfBlock b (a.scope + 1) (scopes_in a.stmt) = (back b x.env a.scope k 1 (scopes_in a.stmt) placed).2 in (
          before_within a.scope x.env placed.0,
          (
            before_more a.scope (a.scope + 1) x.env (later a.scope) placed.0,
            low_more a.scope (a.scope + 1) after (later a.scope) (low_behind a.scope o.next o.stmts k placed.1),
          ),
          subst (λ (n : ℕ). AreOfBlock b (a.scope + 1) n) (and_none (scopes_in a.stmt)) own,
        )

    pub meeting_places : o.offer ≡ to_accept a → PlacesOpen b x.env k o → PlacesRemainder b x.env k → PlacesRemainder b x.env (meeting_of x a o caller k)
    meeting_places is placed left =
        let offer : PlacesOffer b x.env k (to_accept a) = subst (λ (f : Offer). PlacesOffer b x.env k f) is placed.0 in
        replica_behind x.env o.replica
        (in_names (within_accept x.env a.scope) (perform (a.scope + 1) (more_stmts a.stmt no_stmts) behind_it))
        (in_statement offer, behind_places b x.env o.next o.stmts k placed.1 left)

  -- ## Where an accept stands

  pub accept_stands :
      (x : Context) (o : Open) (a : Accepting) (k : Remainder) → o.offer ≡ to_accept a → PlacesOpen b x.env k o
      → IsOfBlock b a.scope × IsBefore a.scope x.env × IsLow a.scope k
  accept_stands x o a k is placed =
      let offer : PlacesOffer b x.env k (to_accept a) = subst (λ (f : Offer). PlacesOffer b x.env k f) is placed.0 in
      (offer.2 a.scope (itself a.scope) (first_within a.scope (scopes_in a.stmt)), offer.0, offer.1)

  -- ## The body

  pub body_places : IsBefore b.next b.env → stmts_scopes b.stmts ≡ b.accepts → PlacesRemainder b b.env (body_of b)
  body_places before all =
      behind_places b b.env b.next b.stmts (ends b.last_line)
      (placed_stmts b b.env b.next (ends b.last_line) b.stmts
      (before, tt, λ i up less. (up, subst (λ (n : ℕ). i < b.next + n) all less))) tt
