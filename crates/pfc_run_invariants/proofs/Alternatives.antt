-- What comes next in the alternatives of a select has only numbers of 32 bits.
use Rattle.std.proofs.Common.{◌≡◌, ℕ, zero, suc, ◌+◌, ◌-◌, ◌%◌, ◌<◌, ℤ, pos, negsuc, ◌+ℤ◌, Bool, true, false, if◌then◌else◌, List, [], ◌∷◌, Option, Some, None}
use Rattle.std.proofs.Common.{refl, arith}
use Rattle.std.proofs.lemmas.Bool.Decides.{nat_tests}
use Rattle.std.proofs.Math.Nat.{mod-lt}
use Rattle.std.specs.Prelude.{int_le, int_lt}
use Rattle.std.specs.Int.{int_wrapping_neg, cast_signed, cast_unsigned}
use Rattle.std.specs.Int.Width.{w32}
use Rattle.std.specs.List.{AllByRecursion}
use Rattle.pfc_base.specs.declared.places.Place.{Place}
use Rattle.pfc_base.specs.declared.faults.RunFault.TheVariants.{Below}
use Rattle.pfc_tree.specs.Symbols.{Text}
use Rattle.pfc_tree.specs.declared.tree.Sign.{Sign}
use Rattle.pfc_tree.specs.declared.tree.Sign.TheVariants.{Plus, Minus}
use Rattle.pfc_tree.specs.declared.tree.Constant.{Constant}
use Rattle.pfc_tree.specs.declared.tree.Constant.TheVariants.{Number, Named, Literal}
use Rattle.pfc_tree.specs.declared.tree.Spread.{Spread}
use Rattle.pfc_tree.specs.trees.Exprs.{ExprTree, DesigTree}
use Rattle.pfc_tree.specs.trees.Stmts.{StmtTrees, AcceptTree, AltTrees, CommTree, accept, accept_do, alt, no_alts, more_alts, comm_accept, comm_send}
use Rattle.pfc_tree.specs.trees.Stmts.{comm_receive, timeout, terminate}
use Rattle.pfc_types.specs.Types.{extent}
use Rattle.pfc_types.specs.Scopes.{Names, Level, look}
use Rattle.pfc_types.specs.declared.scope.Meaning.{Meaning}
use Rattle.pfc_types.specs.declared.scope.Meaning.TheVariants.{Constant as AConstant}
use Rattle.pfc_types.specs.rules.Constants.{Ordinal, signed, sign_fits, named_constant, char_value, constant_value}
use Rattle.pfc_types.specs.rules.Expressions.{find, as_desig}
use Rattle.pfc_types.specs.rules.Statements.{names_any, comm_scopes, alt_scopes}
use Rattle.pfc_values.specs.Numbers.{is_true}
use Rattle.pfc_semantics.specs.Values.{Value, ordinal_of}
use Rattle.pfc_semantics.specs.Displays.{Spot}
use Rattle.pfc_semantics.specs.Remainders.{Context, Replica, Offer, Alternative, Selecting, Remainder, Action, to_send, to_receive, to_accept, to_wait, to_end}
use Rattle.pfc_semantics.specs.Remainders.{open_if, offer_value, offer_wait, offer_to, offer_from, offer_into, faults}
use Rattle.pfc_semantics.specs.Expressions.{spot_of, char_in}
use Rattle.pfc_semantics.specs.Alternatives.{replicas_from, replicas_between, replicas_by, replicas, alternative, spread_out, alternatives, accepting_of}
use Rattle.pfc_semantics.specs.Alternatives.{message_of, receiver_of, a_signal, with_open, from_seconds, from_message, from_receiver, from_comm, from_opened}
use Rattle.pfc_semantics.specs.Alternatives.{from_guard, from_replica, from_alternatives, select_begun}
use Rattle.pfc_run_invariants.specs.Fitting.{Fits, FitsMeaning, FitNames}
use Rattle.pfc_run_invariants.specs.Written.{FitsExpr, FitsDesig, FitsPerhaps, FitsTarget, FitsConstant, FitsSpread, FitStmts, FitsAccept, FitsComm, FitAlts}
use Rattle.pfc_run_invariants.specs.Remainders.{FitsEnv, FitsReplica, FitsOffer, FitsOpen, FitsAlternative, FitAlternatives, FitsSelecting, FitsRemainder}
use Rattle.pfc_run_invariants.specs.Remainders.{FitsAction}
use Rattle.pfc_run_invariants.proofs.Lists.{all_append, all_push, all_mapped}
use Rattle.pfc_run_invariants.proofs.Expressions.{either, expr_fits, desig_fits}
use Rattle.pfc_semantics.specs.Configurations.{Mark}
use Rattle.pfc_run_invariants.specs.Asked.{Asked, IsClosed}

-- ## Constants

abbrev pub FitsOrdinal : Option Ordinal → Type 0
FitsOrdinal None = Unit {0}
FitsOrdinal (Some o) = Fits o.value

-- what is turned round is wrapped to 32 bits, as it is where it has them
cast_fits : (m : ℕ) → m < 4294967296 → Fits (cast_signed w32 m)
cast_fits m below = grind (arith, nat_tests)

wrapped_fits : (n : ℤ) → Fits (int_wrapping_neg w32 n)
wrapped_fits n = cast_fits ((4294967296 - cast_unsigned w32 n) % 4294967296) (mod-lt (4294967296 - cast_unsigned w32 n) (omega arith))

signed_fits : (sign : Option (Sign × Place)) (n : ℤ) → Fits n → Fits (signed sign n)
signed_fits None n fits = fits
signed_fits (Some (Plus, p)) n fits = fits
signed_fits (Some (Minus, p)) n fits = wrapped_fits n

named_fits : (sign : Option (Sign × Place)) (m : Option Meaning) → FitsMeaning m → FitsOrdinal (named_constant sign m)
named_fits sign (Some (AConstant t n)) fits = by (sign_fits sign t)
  where
    by : (b : Bool) → FitsOrdinal (if b then Some (record { t = t; value = signed sign n }) else None)
    by true = signed_fits sign n fits
    by false = tt
named_fits sign m fits = tt

literal_fits : (x : Text) → Fits (char_in x) → FitsOrdinal (char_value x)
literal_fits [] fits = tt
literal_fits (b ∷ []) fits = fits
literal_fits (b ∷ (d ∷ rest)) fits = tt

pub constant_fits : (scopes : List Names) → FitNames scopes → (view : List Level) (k : Constant) → FitsConstant k → FitsOrdinal (constant_value scopes view k)
constant_fits scopes known view (Number sign n p) fits = signed_fits sign n fits
constant_fits scopes known view (Named sign x p) fits = named_fits sign (look scopes view x) (known view x)
constant_fits scopes known view (Literal x p) fits = literal_fits x fits

-- ## Spreads

counted_fit : (s : Spot) (line : ℕ) (n : ℕ) (low : ℤ) → int_le (negsuc 2147483647) low ≡ true → int_le (low +ℤ pos n) (pos 2147483648) ≡ true
    → AllByRecursion (λ (r : Replica). Fits r.value) (replicas_from s line low n)
counted_fit s line zero low above below = tt
counted_fit s line (suc n) low above below =
    (first, counted_fit s line n (low +ℤ pos 1) (grind (arith, nat_tests)) (grind (arith, nat_tests)))
  where
    first : Fits low
    first = grind (arith, nat_tests)

between_fit : (s : Spot) (line : ℕ) (low high : ℤ) → Fits low → Fits high
    → AllByRecursion (λ (r : Replica). Fits r.value) (replicas_between s line low high)
between_fit s line low high first last = by (int_le low high) refl
  where
    by : (b : Bool) → int_le low high ≡ b
        → AllByRecursion (λ (r : Replica). Fits r.value) (if b then replicas_from s line low (extent low high) else [])
    by true e = counted_fit s line (extent low high) low (grind (arith, nat_tests)) (grind (arith, nat_tests))
    by false e = tt

by_fit : (s : Spot) (line : ℕ) (low high : Option Ordinal) → FitsOrdinal low → FitsOrdinal high
    → AllByRecursion (λ (r : Replica). Fits r.value) (replicas_by s line low high)
by_fit s line (Some low) (Some high) first last = between_fit s line low.value high.value first last
by_fit s line None high first last = tt
by_fit s line (Some low) None first last = tt

-- ## Pieces

pub perhaps_unless : (b : Bool) (e : ExprTree) → FitsExpr e → FitsPerhaps (if b then None else Some e)
perhaps_unless true e fits = tt
perhaps_unless false e fits = fits

pub target_unless : (b : Bool) (d : DesigTree) → FitsDesig d → FitsTarget (if b then None else Some d)
target_unless true d fits = tt
target_unless false d fits = fits

abbrev pub GoesOn : Asked → ℕ → List Mark → (Selecting → Action) → Type 0
GoesOn law who ms go = (s : Selecting) → FitsSelecting law who ms s → FitsAction law who ms (go s)

module _ (law : Asked) (who : ℕ) (ms : List Mark) (closed : IsClosed law) where
  pub open_fits : (a : Alternative) (s : Selecting) (offer : Offer) → FitsAlternative law who ms a → FitsSelecting law who ms s → FitsOffer law who ms offer →
      FitsSelecting law who ms (with_open a s offer)
  open_fits a s offer one all fits = (all_push (FitsOpen law who ms) s.offered _ all.0 (fits, one.0, one.3), all.1)

  pub begun_fits : (pri : Bool) → FitsSelecting law who ms (select_begun pri)
  begun_fits pri = (tt, tt)

  module _ (c : Context) (known : FitsEnv law who ms c.env) where
    -- ## All alternatives of a select

    pub accepted_fits : (n : ℕ) (a : AcceptTree) (line : ℕ) → FitsAccept law.accept n a → FitsOffer law who ms (to_accept (accepting_of c n a line))
    accepted_fits n (accept x gs p) line fits = (fits, tt)
    accepted_fits n (accept_do x gs s p) line fits = fits

    spread_fits :
        (n : ℕ) (spread : Option Spread) (guard : Option ExprTree) (comm : CommTree) (ss : StmtTrees) → FitsSpread spread → FitsPerhaps guard
        → FitsComm law.accept n comm → FitStmts law.accept (n + comm_scopes comm) ss → FitAlternatives law who ms (spread_out c n spread guard comm ss)
    spread_fits n None guard comm ss spread test met behind = ((tt, test, met, behind), tt)
    spread_fits n (Some s) guard comm ss spread test met behind =
        let scopes = c.env.state.blocks.scopes in
        let low = constant_fits scopes (closed.names who ms c.env known) c.env.view s.low spread.0 in
        let high = constant_fits scopes (closed.names who ms c.env known) c.env.view s.high spread.1 in
        all_mapped (FitsAlternative law who ms) (λ (r : Replica). Fits r.value) (λ r. alternative n guard comm ss (Some r)) (λ r one. (one, test, met, behind))
        (replicas c s)
        (by_fit (spot_of c.env (find c.env s.name)).spot c.line (constant_value scopes c.env.view s.low) (constant_value scopes c.env.view s.high) low high)

    pub all_fit : (n : ℕ) (alts : AltTrees) → FitAlts law.accept n alts → FitAlternatives law who ms (alternatives c n alts)
    all_fit n no_alts fits = tt
    all_fit n (more_alts (alt spread guard comm ss) alts) fits =
        all_append (FitsAlternative law who ms) (spread_out c n spread guard comm ss) (alternatives c (n + alt_scopes (alt spread guard comm ss)) alts)
        (spread_fits n spread guard comm ss fits.0.0 fits.0.1 fits.0.2 fits.0.3)
        (all_fit (n + alt_scopes (alt spread guard comm ss)) alts fits.1)

    -- ## Going through

    pub seconds_fit :
        (a : Alternative) (s : Selecting) (go : Selecting → Action) (v : Value) → FitsAlternative law who ms a →
        FitsSelecting law who ms s → GoesOn law who ms go
        → FitsAction law who ms (from_seconds c a s go v)
    seconds_fit a s go v one all on =
        let open_one = with_open a s (to_wait (ordinal_of v)) in
        either law who ms closed (int_lt (ordinal_of v) (pos 0)) (faults c Below) (go open_one) tt
        (on open_one (open_fits a s (to_wait (ordinal_of v)) one all tt))

    module _ (a : Alternative) (one : FitsAlternative law who ms a) (rest : List Alternative) (others : FitAlternatives law who ms rest)
        (s : Selecting) (all : FitsSelecting law who ms s)
        (k : Remainder) (left : FitsRemainder law who ms k) (go : Selecting → Action) (on : GoesOn law who ms go) where
      offered : (offer : Offer) → FitsOffer law who ms offer → FitsAction law who ms (go (with_open a s offer))
      offered offer fits = on (with_open a s offer) (open_fits a s offer one all fits)

      pub message_fits : (channel : Spot) (e : Option ExprTree) → FitsPerhaps e → FitsAction law who ms (from_message c channel e a rest s k go)
      message_fits channel None fits = offered (to_send channel a_signal) refl
      message_fits channel (Some e) fits =
          expr_fits law who ms closed c known e fits (offer_value channel a rest s k) (λ v. go (with_open a s (to_send channel v))) (one, others, all, left)
          (λ v given. offered (to_send channel v) given)

      pub receiver_fits : (channel : Spot) (d : Option DesigTree) → FitsTarget d → FitsAction law who ms (from_receiver c channel d a rest s k go)
      receiver_fits channel None fits = offered (to_receive channel None) tt
      receiver_fits channel (Some d) fits =
          desig_fits law who ms closed c known d fits (offer_into channel a rest s k)
          (λ v. go (with_open a s (to_receive channel (Some v.spot)))) (one, others, all, left)
          (λ v there. offered (to_receive channel (Some v.spot)) tt)

      comm_fits : (comm : CommTree) → FitsComm law.accept a.next comm → FitsAction law who ms (from_comm c comm a rest s k go)
      comm_fits (comm_accept x p) fits = offered (to_accept (accepting_of c a.next x p.line)) (accepted_fits a.next x p.line fits)
      comm_fits (comm_send d e p) fits =
          let message = perhaps_unless (names_any c.env (as_desig e)) e fits.1 in
          desig_fits law who ms closed c known d fits.0 (offer_to (message_of c e) a rest s k)
          (λ channel. from_message c channel.spot (message_of c e) a rest s k go)
          (message, one, others, all, left) (λ channel there. message_fits channel.spot (message_of c e) message)
      comm_fits (comm_receive d v p) fits =
          let target = target_unless (names_any c.env (Some v)) v fits.1 in
          desig_fits law who ms closed c known d fits.0 (offer_from (receiver_of c v) a rest s k)
          (λ channel. from_receiver c channel.spot (receiver_of c v) a rest s k go)
          (target, one, others, all, left) (λ channel there. receiver_fits channel.spot (receiver_of c v) target)
      comm_fits (timeout e p) fits =
          expr_fits law who ms closed c known e fits (offer_wait a rest s k) (from_seconds c a s go) (one, others, all, left)
          (λ v given. seconds_fit a s go v one all on)
      comm_fits (terminate p) fits = offered to_end tt

      pub opened_fits : (v : Value) → FitsAction law who ms (from_opened c a rest s k go v)
      opened_fits v = either law who ms closed (is_true (ordinal_of v)) (from_comm c a.comm a rest s k go) (go s) (comm_fits a.comm one.2) (on s all)

      pub guard_fits : (guard : Option ExprTree) → FitsPerhaps guard → FitsAction law who ms (from_guard c guard a rest s k go)
      guard_fits None fits = comm_fits a.comm one.2
      guard_fits (Some e) fits = expr_fits law who ms closed c known e fits (open_if a rest s k) (from_opened c a rest s k go)
          (one, others, all, left) (λ v given. opened_fits v)

      replica_fits : (r : Option Replica) → FitsReplica law who ms r → FitsAction law who ms (from_replica c r a rest s k go)
      replica_fits None fits = guard_fits a.guard one.1
      replica_fits (Some r) fits = (known, fits, (one, others, all, left))

    pub alternatives_fit :
        (rest : List Alternative) → FitAlternatives law who ms rest → (s : Selecting) → FitsSelecting law who ms s →
        (k : Remainder) → FitsRemainder law who ms k
        → FitsAction law who ms (from_alternatives c rest s k)
    alternatives_fit [] others s all k left = (known, all, left)
    alternatives_fit (a ∷ rest) others s all k left =
        replica_fits a others.0 rest others.1 s all k left (λ t. from_alternatives c rest t k) (λ t found. alternatives_fit rest others.1 t found k left)
        a.replica others.0.0
