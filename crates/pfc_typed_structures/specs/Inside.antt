-- The places inside a body, and what is known there.
use Rattle.std.specs.Prelude.{ℕ, ◌+◌, ◌≤◌, ◌≡◌, true, false, List, [], ◌∷◌}
use Rattle.pfc_tree.specs.declared.tree.Constant.{Constant}
use Rattle.pfc_tree.specs.trees.Stmts.{StmtTree, StmtTrees, ArmTrees, AcceptTree, AltTree, AltTrees, CommTree, empty, null, block, if_then, if_then_else}
use Rattle.pfc_tree.specs.trees.Stmts.{case_of, while_do, repeat_until, repeat_forever, for_do, cobegin, accepting, requeue, select, select_else, assign, send}
use Rattle.pfc_tree.specs.trees.Stmts.{receive, call, no_stmts, more_stmts, body, arm, no_arms, more_arms, accept, accept_do, alt, no_alts, more_alts}
use Rattle.pfc_tree.specs.trees.Stmts.{comm_accept, comm_send, comm_receive, timeout, terminate}
use Rattle.pfc_types.specs.rules.Statements.{within_cobegin, stmts_scopes}
use Rattle.pfc_translation.specs.Sites.{Site, at_line, in_accept, is_accept}
use Rattle.pfc_typed_phrases.specs.Names.{AreKnown}
use Rattle.pfc_typed_statements.specs.Reached.{AreReached, AreCallable}

abbrev pub in_cobegin : Site → Site
in_cobegin s = record s { env = within_cobegin s.env }

-- at another line, in the statement of an accept of the block, or in a `cobegin`
pub data IsInside (s : Site) : Site → Type 0 where
  itself : IsInside s s
  lined : (u : Site) (n : ℕ) → IsInside s u → IsInside s (at_line u n)
  accepted : (u : Site) (n : ℕ) → is_accept s.block n ≡ true → IsInside s u → IsInside s (in_accept u n)
  begun : (u : Site) → IsInside s u → IsInside s (in_cobegin u)

-- what is in view at each place inside is known
pub record AreMet (s : Site) : Type 0 where
  pub known : (u : Site) → IsInside s u → AreKnown u
  pub reached : (u : Site) → IsInside s u → AreReached u
  pub callable : (u : Site) → IsInside s u → AreCallable u

-- in the body of a process the scopes of these statements, from number n on, are those of accepts of the block
abbrev pub HaveScopes : Site → ℕ → StmtTrees → Type 0
HaveScopes s n ts =
    s.env.around.process ≡ true → s.env.around.sub ≡ false → (s.block.next ≤ n) × (n + stmts_scopes ts ≤ s.block.next + s.block.accepts)

-- ## Labels

-- the first arm of a `case` has a label
abbrev pub HasLabel : List Constant → Type 0
HasLabel [] = ⊥
HasLabel (l ∷ ls) = Unit {0}

abbrev pub HasLabels : ArmTrees → Type 0
HasLabels no_arms = ⊥
HasLabels (more_arms (arm ls t) arms) = HasLabel ls

-- each `case` has one, as the grammar wants it
abbrev mutual
  pub IsLabelled : StmtTree → Type 0
  IsLabelled empty = Unit {0}
  IsLabelled (null p) = Unit {0}
  IsLabelled (block (body ss first last) p) = AreLabelled ss
  IsLabelled (if_then e t p) = IsLabelled t
  IsLabelled (if_then_else e t u p) = IsLabelled t × IsLabelled u
  IsLabelled (case_of e arms last p) = HasLabels arms × AreArmsLabelled arms
  IsLabelled (while_do e t p) = IsLabelled t
  IsLabelled (repeat_until ss e p) = AreLabelled ss
  IsLabelled (repeat_forever ss p) = AreLabelled ss
  IsLabelled (for_do x a down b t p q) = IsLabelled t
  IsLabelled (cobegin ss last p) = AreLabelled ss
  IsLabelled (accepting a p) = IsAcceptLabelled a
  IsLabelled (requeue x args p) = Unit {0}
  IsLabelled (select pri alts p q) = AreAltsLabelled alts
  IsLabelled (select_else pri alts ss at p q) = AreAltsLabelled alts × AreLabelled ss
  IsLabelled (assign d e p q) = Unit {0}
  IsLabelled (send d e p q) = Unit {0}
  IsLabelled (receive d v p q) = Unit {0}
  IsLabelled (call d args p) = Unit {0}

  pub AreLabelled : StmtTrees → Type 0
  AreLabelled no_stmts = Unit {0}
  AreLabelled (more_stmts t ts) = IsLabelled t × AreLabelled ts

  pub AreArmsLabelled : ArmTrees → Type 0
  AreArmsLabelled no_arms = Unit {0}
  AreArmsLabelled (more_arms (arm ls t) arms) = IsLabelled t × AreArmsLabelled arms

  pub IsAcceptLabelled : AcceptTree → Type 0
  IsAcceptLabelled (accept x gs p) = Unit {0}
  IsAcceptLabelled (accept_do x gs t p) = IsLabelled t

  pub IsCommLabelled : CommTree → Type 0
  IsCommLabelled (comm_accept a p) = IsAcceptLabelled a
  IsCommLabelled (comm_send d e p) = Unit {0}
  IsCommLabelled (comm_receive d v p) = Unit {0}
  IsCommLabelled (timeout e p) = Unit {0}
  IsCommLabelled (terminate p) = Unit {0}

  pub IsAltLabelled : AltTree → Type 0
  IsAltLabelled (alt spread guard comm ss) = IsCommLabelled comm × AreLabelled ss

  pub AreAltsLabelled : AltTrees → Type 0
  AreAltsLabelled no_alts = Unit {0}
  AreAltsLabelled (more_alts a alts) = IsAltLabelled a × AreAltsLabelled alts
