-- Every statement follows its next action.
use Rattle.std.proofs.Common.{◌≡◌, ◌≤◌, List}
use Rattle.pfc_tree.specs.trees.Stmts.{StmtTree, StmtTrees, ArmTrees, empty, null, block, if_then, if_then_else, case_of, while_do, repeat_until}
use Rattle.pfc_tree.specs.trees.Stmts.{repeat_forever, for_do, cobegin, accepting, requeue, select, select_else, assign, send, receive, call, no_stmts}
use Rattle.pfc_tree.specs.trees.Stmts.{more_stmts, body, arm, no_arms, more_arms}
use Rattle.pfc_types.specs.Scopes.{Level}
use Rattle.pfc_types.specs.rules.Expressions.{Env}
use Rattle.pfc_types.specs.declared.view.Around.{Around}
use Rattle.pfc_semantics.specs.Programs.{Block}
use Rattle.pfc_standing_code.specs.Settings.{Setting, of_own}
use Rattle.pfc_standing_code.specs.Words.{IsChecked}
use Rattle.pfc_following_expressions.proofs.Expressions.{env_in}
use Rattle.pfc_following_source.specs.structures.Structured.{StatementFollows, StatementsFollow, ArmsFollow}
use Rattle.pfc_following_source.proofs.structures.Compound.{empty_follows, null_follows, block_follows, none_follow, more_follow, if_follows, if_else_follows}
use Rattle.pfc_following_source.proofs.structures.Compound.{while_follows, repeat_follows, forever_follows, cobegin_follows, accept_follows}
use Rattle.pfc_following_source.proofs.structures.Cases.{case_follows, no_arms_follow, more_arms_follow}
use Rattle.pfc_following_source.proofs.structures.Counting.{for_follows}
use Rattle.pfc_following_source.proofs.structures.Selecting.{selected_follows, selected_else_follows}
use Rattle.pfc_following_source.proofs.structures.Single.{assigned_follows, sent_follows, received_follows, called_follows, requeued_follows}

module _ (g : Setting) (b : Block) (names : List Level) (around : Around) (checked : IsChecked g b (env_in g names around)) (few : 0 ≤ g.arms)
    (own : g.trial ≡ of_own) where
  abbrev env : Env
  env = env_in g names around

  mutual
    pub every_follows : (t : StmtTree) → StatementFollows g b env t
    every_follows empty = empty_follows g b names around checked few own
    every_follows (null p) = null_follows g b names around checked few own p
    every_follows (block (body ts first last) p) = block_follows g b names around checked few own ts first last p (all_follow ts)
    every_follows (if_then e t p) = if_follows g b names around checked few own e t p (every_follows t)
    every_follows (if_then_else e t u p) = if_else_follows g b names around checked few own e t u p (every_follows t) (every_follows u)
    every_follows (case_of e arms last p) = case_follows g b names around checked few own e arms last p (arms_follow arms)
    every_follows (while_do e t p) = while_follows g b names around checked few own e t p (every_follows t)
    every_follows (repeat_until ts e p) = repeat_follows g b names around checked few own ts e p (all_follow ts)
    every_follows (repeat_forever ts p) = forever_follows g b names around checked few own ts p (all_follow ts)
    every_follows (for_do x from down last t p q) = for_follows g b names around checked few own x from down last t p q
    every_follows (cobegin ts last p) = cobegin_follows g b names around checked few own ts last p (all_follow ts)
    every_follows (accepting a p) = accept_follows g b names around checked few own a p
    every_follows (requeue x args p) = requeued_follows g b names around checked few own x args p
    every_follows (select pri alts p q) = selected_follows g b names around checked own pri alts p q
    every_follows (select_else pri alts ts at p q) = selected_else_follows g b names around checked own pri alts ts at p q
    every_follows (assign d e p q) = assigned_follows g b names around checked few own d e p q
    every_follows (send d e p q) = sent_follows g b names around checked few own d e p q
    every_follows (receive d v p q) = received_follows g b names around checked few own d v p q
    every_follows (call d args p) = called_follows g b names around checked few own d args p

    pub all_follow : (ts : StmtTrees) → StatementsFollow g b env ts
    all_follow no_stmts = none_follow g b names around checked few own
    all_follow (more_stmts t ts) = more_follow g b names around checked few own t ts (every_follows t) (all_follow ts)

    pub arms_follow : (arms : ArmTrees) → ArmsFollow g b env arms
    arms_follow no_arms = no_arms_follow g b names around checked few own
    arms_follow (more_arms (arm ls t) arms) = more_arms_follow g b names around checked few own ls t arms (every_follows t) (arms_follow arms)
