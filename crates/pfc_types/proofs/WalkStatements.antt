-- What statements do to the scopes: each accept opens one behind the others, and nothing else happens.
use Rattle.std.proofs.Common.{Bool, true, false, if◌then◌else◌, List, [], ◌∷◌, ◌++◌, length, Option, Some, None, arith}
use Rattle.std.specs.List.{list_any}
use Rattle.pfc_base.specs.declared.places.Place.{Place}
use Rattle.pfc_tree.specs.Symbols.{Text}
use Rattle.pfc_tree.specs.declared.tree.Constant.{Constant}
use Rattle.pfc_tree.specs.trees.Types.{GroupTree}
use Rattle.pfc_tree.specs.trees.Stmts.{StmtTree, StmtTrees, BodyTree, ArmTree, ArmTrees, AcceptTree, AltTree, AltTrees, CommTree, empty, null, block, if_then}
use Rattle.pfc_tree.specs.trees.Stmts.{if_then_else, case_of, while_do, repeat_until, repeat_forever, for_do, cobegin, accepting, requeue, select, select_else}
use Rattle.pfc_tree.specs.trees.Stmts.{assign, send, receive, call, no_stmts, more_stmts, body, arm, no_arms, more_arms, accept, accept_do, alt, no_alts}
use Rattle.pfc_tree.specs.trees.Stmts.{more_alts, comm_accept, comm_send, comm_receive, timeout, terminate}
use Rattle.pfc_types.specs.Faults.{unless}
use Rattle.pfc_types.specs.Scopes.{Level, here, look}
use Rattle.pfc_types.specs.Blocks.{State, note, open_scope}
use Rattle.pfc_types.specs.rules.Constants.{Ordinal, same_ordinal, constant_value, constant_place}
use Rattle.pfc_types.specs.rules.Declarations.{heading, accept_heading, accept_rule, accepted, Labels, label_noted, labels_noted, stmt_state, stmts_state}
use Rattle.pfc_types.specs.rules.Declarations.{body_state, arms_state, arm_state, accept_state, alts_state, alt_state, comm_state, init_state}
use Rattle.pfc_types.specs.rules.Statements.{scopes_in, stmts_scopes, body_scopes, arms_scopes, arm_scopes, accept_scopes, alts_scopes, alt_scopes, comm_scopes}
use Rattle.pfc_types.specs.rules.Bodies.{init_scopes}
use Rattle.pfc_types.proofs.Walking.{Kept, Opened, kept_same, kept_trans, opened_same, opened_trans, opened_kept, kept_then_opened, opened_inner, note_kept}
use Rattle.pfc_types.proofs.Walking.{open_opened}
use Rattle.pfc_types.proofs.WalkDeclarations.{groups_walked, accept_groups_walked}

-- ## Labels and headings

label_kept : (c : Option Ordinal) (p : Place) (r : Labels) → Kept r.state (label_noted c p r).state
label_kept None p r = kept_same r.state
label_kept (Some c) p r = by (list_any (same_ordinal c) r.seen)
  where
    by : (b : Bool) → Kept r.state (if b then record r { state = note r.state (unless false p 320) } else record r { seen = r.seen ++ c ∷ [] }).state
    by true = note_kept r.state (unless false p 320)
    by false = kept_same r.state

pub labels_kept : (view : List Level) (r : Labels) (cs : List Constant) → Kept r.state (labels_noted view r cs).state
labels_kept view r [] = kept_same r.state
labels_kept view r (c ∷ cs) =
    kept_trans (label_kept (constant_value r.state.blocks.scopes view c) (constant_place c) r)
    (labels_kept view (label_noted (constant_value r.state.blocks.scopes view c) (constant_place c) r) cs)

-- a scope of its own with the parameters of a heading
pub heading_opened : (s : State) (view : List Level) (gs : List GroupTree) → Opened s (heading (open_scope s) (length s.blocks.scopes) view gs).state 1
heading_opened s view gs =
    opened_inner (open_opened s) (groups_walked (length s.blocks.scopes) view (record { state = open_scope s; formals = []; whole = true }) gs
    (omega (arith, (open_opened s).count)))

-- a scope of its own with the parameters of an accept
pub accept_heading_opened : (s : State) (view : List Level) (gs : List GroupTree) →
    Opened s (accept_heading (open_scope s) (length s.blocks.scopes) view gs).state 1
accept_heading_opened s view gs =
    opened_inner (open_opened s) (accept_groups_walked (length s.blocks.scopes) view (record { state = open_scope s; formals = []; whole = true }) gs
    (omega (arith, (open_opened s).count)))

pub accepted_opened : (s : State) (view : List Level) (x : Text) (gs : List GroupTree) (p : Place) → Opened s (accepted s view x gs p) 1
accepted_opened s view x gs p =
    opened_kept (accept_heading_opened s view gs)
    (note_kept (accept_heading (open_scope s) (length s.blocks.scopes) view gs).state
    (accept_rule (accept_heading (open_scope s) (length s.blocks.scopes) view gs).state.blocks (look s.blocks.scopes view x)
    (accept_heading (open_scope s) (length s.blocks.scopes) view gs).formals p))

-- ## Statements

mutual
  pub stmt_opened : (s : State) (view : List Level) (t : StmtTree) → Opened s (stmt_state s view t) (scopes_in t)
  stmt_opened s view empty = opened_same s
  stmt_opened s view (null p) = opened_same s
  stmt_opened s view (block b p) = body_opened s view b
  stmt_opened s view (if_then e t p) = stmt_opened s view t
  stmt_opened s view (if_then_else e t u p) = opened_trans (stmt_opened s view t) (stmt_opened (stmt_state s view t) view u)
  stmt_opened s view (case_of e arms last p) = arms_opened view (record { state = s; seen = [] }) arms
  stmt_opened s view (while_do e t p) = stmt_opened s view t
  stmt_opened s view (repeat_until ts e p) = stmts_opened s view ts
  stmt_opened s view (repeat_forever ts p) = stmts_opened s view ts
  stmt_opened s view (for_do x from down to t p q) = stmt_opened s view t
  stmt_opened s view (cobegin ts last p) = stmts_opened s view ts
  stmt_opened s view (accepting a p) = accept_opened s view a
  stmt_opened s view (requeue x args p) = opened_same s
  stmt_opened s view (select pri alts p q) = alts_opened s view alts
  stmt_opened s view (select_else pri alts ts p q r) = opened_trans (alts_opened s view alts) (stmts_opened (alts_state s view alts) view ts)
  stmt_opened s view (assign d e p q) = opened_same s
  stmt_opened s view (send d e p q) = opened_same s
  stmt_opened s view (receive d v p q) = opened_same s
  stmt_opened s view (call d args p) = opened_same s

  pub stmts_opened : (s : State) (view : List Level) (ts : StmtTrees) → Opened s (stmts_state s view ts) (stmts_scopes ts)
  stmts_opened s view no_stmts = opened_same s
  stmts_opened s view (more_stmts t ts) = opened_trans (stmt_opened s view t) (stmts_opened (stmt_state s view t) view ts)

  pub body_opened : (s : State) (view : List Level) (b : BodyTree) → Opened s (body_state s view b) (body_scopes b)
  body_opened s view (body ts first last) = stmts_opened s view ts

  pub arms_opened : (view : List Level) (r : Labels) (arms : ArmTrees) → Opened r.state (arms_state view r arms).state (arms_scopes arms)
  arms_opened view r no_arms = opened_same r.state
  arms_opened view r (more_arms a arms) = opened_trans (arm_opened view r a) (arms_opened view (arm_state view r a) arms)

  pub arm_opened : (view : List Level) (r : Labels) (a : ArmTree) → Opened r.state (arm_state view r a).state (arm_scopes a)
  arm_opened view r (arm cs t) = kept_then_opened (labels_kept view r cs) (stmt_opened (labels_noted view r cs).state view t)

  accept_opened : (s : State) (view : List Level) (a : AcceptTree) → Opened s (accept_state s view a) (accept_scopes a)
  accept_opened s view (accept x gs p) = accepted_opened s view x gs p
  accept_opened s view (accept_do x gs t p) =
      opened_trans (accepted_opened s view x gs p)
      (stmt_opened (accepted s view x gs p) (here (accepted s view x gs p).blocks.scopes (length s.blocks.scopes) view) t)

  pub alts_opened : (s : State) (view : List Level) (alts : AltTrees) → Opened s (alts_state s view alts) (alts_scopes alts)
  alts_opened s view no_alts = opened_same s
  alts_opened s view (more_alts a alts) = opened_trans (alt_opened s view a) (alts_opened (alt_state s view a) view alts)

  pub alt_opened : (s : State) (view : List Level) (a : AltTree) → Opened s (alt_state s view a) (alt_scopes a)
  alt_opened s view (alt spread guard c ts) = opened_trans (comm_opened s view c) (stmts_opened (comm_state s view c) view ts)

  pub comm_opened : (s : State) (view : List Level) (c : CommTree) → Opened s (comm_state s view c) (comm_scopes c)
  comm_opened s view (comm_accept a p) = accept_opened s view a
  comm_opened s view (comm_send d e p) = opened_same s
  comm_opened s view (comm_receive d v p) = opened_same s
  comm_opened s view (timeout e p) = opened_same s
  comm_opened s view (terminate p) = opened_same s

pub init_opened : (s : State) (view : List Level) (b : Option BodyTree) → Opened s (init_state s view b) (init_scopes b)
init_opened s view None = opened_same s
init_opened s view (Some b) = body_opened s view b
