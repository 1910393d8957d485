-- The names in view in statements: an accept's own scope is the next in both walks, and is closed behind it.
use Rattle.std.proofs.Common.{ℕ, ◌+◌, List, [], ◌∷◌, length, Option, Some, None, sym, ap, subst, arith}
use Rattle.pfc_tree.specs.trees.Stmts.{StmtTree, StmtTrees, BodyTree, ArmTree, ArmTrees, AcceptTree, AltTree, AltTrees, CommTree, empty, null, block, if_then}
use Rattle.pfc_tree.specs.trees.Stmts.{if_then_else, case_of, while_do, repeat_until, repeat_forever, for_do, cobegin, accepting, requeue, select, select_else}
use Rattle.pfc_tree.specs.trees.Stmts.{assign, send, receive, call, no_stmts, more_stmts, body, arm, no_arms, more_arms, accept, accept_do, alt, no_alts}
use Rattle.pfc_tree.specs.trees.Stmts.{more_alts, comm_accept, comm_send, comm_receive, timeout, terminate}
use Rattle.pfc_types.specs.Scopes.{Names, Level, here}
use Rattle.pfc_types.specs.Blocks.{State}
use Rattle.pfc_types.specs.Visits.{AreCounted, stmt_visits, stmts_visits, inner_visits, arms_visits, arm_visits, accept_visits, alts_visits, alt_visits}
use Rattle.pfc_types.specs.Visits.{comm_visits, body_visits, init_visits}
use Rattle.pfc_types.specs.Stops.{stmt_views, stmts_views, inner_views, arms_views, arm_views, accept_views, alts_views, alt_views, comm_views, body_views}
use Rattle.pfc_types.proofs.PartViews.{init_views}
use Rattle.pfc_types.specs.rules.Declarations.{Labels, accepted, labels_noted, stmt_state, stmts_state, body_state, arms_state, arm_state, accept_state}
use Rattle.pfc_types.specs.rules.Declarations.{alts_state, alt_state, comm_state, init_state}
use Rattle.pfc_types.proofs.Walking.{held, Opened}
use Rattle.pfc_types.proofs.WalkStatements.{labels_kept, accepted_opened, stmt_opened, stmts_opened, body_opened, arm_opened, arms_opened, alts_opened}
use Rattle.pfc_types.proofs.WalkStatements.{alt_opened, comm_opened}
use Rattle.pfc_types.proofs.Views.{AllWithin, within_grown, within_here, opened_grown, Finished, finished_later, finished_opened, counted_none, counted_both}
use Rattle.pfc_types.proofs.Views.{counted_one, counted_as}

-- the rest of a list of statements, behind one
rest_finished : {s t u : State} {k l : ℕ} {fin : List Names} → Opened s t k → Opened t u l → Finished (length (held s)) (held u) fin →
    Finished (length (held t)) (held u) fin
rest_finished h g f = finished_later f (omega (arith, h.count))

mutual
  stmt_counted : (s : State) (view : List Level) (t : StmtTree) (fin : List Names) → AllWithin (held s) view →
      Finished (length (held s)) (held (stmt_state s view t)) fin → AreCounted fin (stmt_visits s view t) (stmt_views fin view (length (held s)) t)
  stmt_counted s view empty fin w f = counted_none fin
  stmt_counted s view (null p) fin w f = counted_none fin
  stmt_counted s view (block b p) fin w f = inner_counted s view b fin w f
  stmt_counted s view (if_then e t p) fin w f = stmt_counted s view t fin w f
  stmt_counted s view (if_then_else e t u p) fin w f =
      let one = stmt_opened s view t in
      let two = stmt_opened (stmt_state s view t) view u in
      counted_both (stmt_counted s view t fin w (finished_opened two f))
      (counted_as (stmt_counted (stmt_state s view t) view u fin (within_grown (held s) (held (stmt_state s view t)) view (opened_grown one) w)
      (rest_finished one two f)) (ap (λ n. stmt_views fin view n u) one.count))
  stmt_counted s view (case_of e arms last p) fin w f = arms_counted view (record { state = s; seen = [] }) arms fin w f
  stmt_counted s view (while_do e t p) fin w f = stmt_counted s view t fin w f
  stmt_counted s view (repeat_until ts e p) fin w f = stmts_counted s view ts fin w f
  stmt_counted s view (repeat_forever ts p) fin w f = stmts_counted s view ts fin w f
  stmt_counted s view (for_do x from down to t p q) fin w f = stmt_counted s view t fin w f
  stmt_counted s view (cobegin ts last p) fin w f = stmts_counted s view ts fin w f
  stmt_counted s view (accepting a p) fin w f = accept_counted s view a fin w f
  stmt_counted s view (requeue x args p) fin w f = counted_none fin
  stmt_counted s view (select pri alts p q) fin w f = alts_counted s view alts fin w f
  stmt_counted s view (select_else pri alts ts p q r) fin w f =
      let one = alts_opened s view alts in
      let two = stmts_opened (alts_state s view alts) view ts in
      counted_both (alts_counted s view alts fin w (finished_opened two f))
      (counted_as (stmts_counted (alts_state s view alts) view ts fin (within_grown (held s) (held (alts_state s view alts)) view (opened_grown one) w)
      (rest_finished one two f)) (ap (λ n. stmts_views fin view n ts) one.count))
  stmt_counted s view (assign d e p q) fin w f = counted_none fin
  stmt_counted s view (send d e p q) fin w f = counted_none fin
  stmt_counted s view (receive d v p q) fin w f = counted_none fin
  stmt_counted s view (call d args p) fin w f = counted_none fin

  stmts_counted : (s : State) (view : List Level) (ts : StmtTrees) (fin : List Names) → AllWithin (held s) view →
      Finished (length (held s)) (held (stmts_state s view ts)) fin → AreCounted fin (stmts_visits s view ts) (stmts_views fin view (length (held s)) ts)
  stmts_counted s view no_stmts fin w f = counted_none fin
  stmts_counted s view (more_stmts t ts) fin w f =
      let one = stmt_opened s view t in
      let two = stmts_opened (stmt_state s view t) view ts in
      counted_both (stmt_counted s view t fin w (finished_opened two f))
      (counted_as (stmts_counted (stmt_state s view t) view ts fin (within_grown (held s) (held (stmt_state s view t)) view (opened_grown one) w)
      (rest_finished one two f)) (ap (λ n. stmts_views fin view n ts) one.count))

  pub inner_counted : (s : State) (view : List Level) (b : BodyTree) (fin : List Names) → AllWithin (held s) view →
      Finished (length (held s)) (held (body_state s view b)) fin → AreCounted fin (inner_visits s view b) (inner_views fin view (length (held s)) b)
  inner_counted s view (body ts first last) fin w f = stmts_counted s view ts fin w f

  arms_counted : (view : List Level) (r : Labels) (arms : ArmTrees) (fin : List Names) → AllWithin (held r.state) view →
      Finished (length (held r.state)) (held (arms_state view r arms).state) fin →
      AreCounted fin (arms_visits view r arms) (arms_views fin view (length (held r.state)) arms)
  arms_counted view r no_arms fin w f = counted_none fin
  arms_counted view r (more_arms a arms) fin w f =
      let one = arm_opened view r a in
      let two = arms_opened view (arm_state view r a) arms in
      counted_both (arm_counted view r a fin w (finished_opened two f))
      (counted_as (arms_counted view (arm_state view r a) arms fin (within_grown (held r.state) (held (arm_state view r a).state) view (opened_grown one) w)
      (rest_finished one two f)) (ap (λ n. arms_views fin view n arms) one.count))

  arm_counted : (view : List Level) (r : Labels) (a : ArmTree) (fin : List Names) → AllWithin (held r.state) view →
      Finished (length (held r.state)) (held (arm_state view r a).state) fin →
      AreCounted fin (arm_visits view r a) (arm_views fin view (length (held r.state)) a)
  arm_counted view r (arm cs t) fin w f =
      let labelled = labels_kept view r cs in
      counted_as (stmt_counted (labels_noted view r cs).state view t fin (subst (λ x. AllWithin x view) (sym labelled.scopes) w)
      (subst (λ n. Finished n (held (stmt_state (labels_noted view r cs).state view t)) fin) (sym (ap length labelled.scopes)) f))
      (ap (λ n. stmt_views fin view n t) (ap length labelled.scopes))

  accept_counted : (s : State) (view : List Level) (a : AcceptTree) (fin : List Names) → AllWithin (held s) view →
      Finished (length (held s)) (held (accept_state s view a)) fin → AreCounted fin (accept_visits s view a) (accept_views fin view (length (held s)) a)
  accept_counted s view (accept x gs p) fin w f = counted_none fin
  accept_counted s view (accept_do x gs t p) fin w f =
      let opened = accepted s view x gs p in
      let one = accepted_opened s view x gs p in
      let inner = here opened.blocks.scopes (length s.blocks.scopes) view in
      let two = stmt_opened opened inner t in
      let behind = finished_opened two f in
      let within = within_here (held opened) (length (held s)) view (within_grown (held s) (held opened) view (opened_grown one) w) in
      let closed = behind.closed (length (held s)) (omega arith) (omega (arith, one.count)) in
      counted_as (counted_one behind.grown within (counted_as (stmt_counted opened inner t fin within (finished_later f (omega (arith, one.count))))
      (ap (λ n. stmt_views fin inner n t) one.count)))
      (ap (λ c. (record { scope = length (held s); count = length c } ∷ view) ∷ stmt_views fin (record {
        scope = length (held s);
        count =
            length c;
      } ∷ view) (length (held s) + 1) t) (sym closed))

  alts_counted : (s : State) (view : List Level) (alts : AltTrees) (fin : List Names) → AllWithin (held s) view →
      Finished (length (held s)) (held (alts_state s view alts)) fin → AreCounted fin (alts_visits s view alts) (alts_views fin view (length (held s)) alts)
  alts_counted s view no_alts fin w f = counted_none fin
  alts_counted s view (more_alts a alts) fin w f =
      let one = alt_opened s view a in
      let two = alts_opened (alt_state s view a) view alts in
      counted_both (alt_counted s view a fin w (finished_opened two f))
      (counted_as (alts_counted (alt_state s view a) view alts fin (within_grown (held s) (held (alt_state s view a)) view (opened_grown one) w)
      (rest_finished one two f)) (ap (λ n. alts_views fin view n alts) one.count))

  alt_counted : (s : State) (view : List Level) (a : AltTree) (fin : List Names) → AllWithin (held s) view →
      Finished (length (held s)) (held (alt_state s view a)) fin → AreCounted fin (alt_visits s view a) (alt_views fin view (length (held s)) a)
  alt_counted s view (alt spread guard c ts) fin w f =
      let one = comm_opened s view c in
      let two = stmts_opened (comm_state s view c) view ts in
      counted_both (comm_counted s view c fin w (finished_opened two f))
      (counted_as (stmts_counted (comm_state s view c) view ts fin (within_grown (held s) (held (comm_state s view c)) view (opened_grown one) w)
      (rest_finished one two f)) (ap (λ n. stmts_views fin view n ts) one.count))

  comm_counted : (s : State) (view : List Level) (c : CommTree) (fin : List Names) → AllWithin (held s) view →
      Finished (length (held s)) (held (comm_state s view c)) fin → AreCounted fin (comm_visits s view c) (comm_views fin view (length (held s)) c)
  comm_counted s view (comm_accept a p) fin w f = accept_counted s view a fin w f
  comm_counted s view (comm_send d e p) fin w f = counted_none fin
  comm_counted s view (comm_receive d v p) fin w f = counted_none fin
  comm_counted s view (timeout e p) fin w f = counted_none fin
  comm_counted s view (terminate p) fin w f = counted_none fin

-- a body, whose own view is counted too
pub body_counted : (s : State) (view : List Level) (b : BodyTree) (fin : List Names) → AllWithin (held s) view →
    Finished (length (held s)) (held (body_state s view b)) fin → AreCounted fin (body_visits s view b) (body_views fin view (length (held s)) b)
body_counted s view b fin w f = counted_one (finished_opened (body_opened s view b) f).grown w (inner_counted s view b fin w f)

pub init_counted : (s : State) (view : List Level) (b : Option BodyTree) (fin : List Names) → AllWithin (held s) view →
    Finished (length (held s)) (held (init_state s view b)) fin → AreCounted fin (init_visits s view b) (init_views fin view (length (held s)) b)
init_counted s view None fin w f = counted_none fin
init_counted s view (Some b) fin w f = body_counted s view b fin w f
