-- Statements that hold none follow their next action.
use Rattle.std.proofs.Common.{◌≡◌, ℕ, ◌≤◌, ℤ, List, [], length, Option, Some, None}
use Rattle.pfc_base.specs.declared.places.Place.{Place}
use Rattle.pfc_tree.specs.Symbols.{Text}
use Rattle.pfc_tree.specs.trees.Exprs.{ExprTree, DesigTree, ActualTrees}
use Rattle.pfc_tree.specs.trees.Stmts.{assign, send, receive, call, requeue}
use Rattle.pfc_types.specs.Scopes.{Level, meaning_of}
use Rattle.pfc_types.specs.rules.Expressions.{Env, find}
use Rattle.pfc_types.specs.declared.scope.Meaning.{Meaning}
use Rattle.pfc_types.specs.declared.scope.Meaning.TheVariants.{Constant, Named, Variable, Sub, Module, Process, Entry, Predeclared, Faulty}
use Rattle.pfc_types.specs.declared.view.Around.{Around}
use Rattle.pfc_semantics.specs.Programs.{Block}
use Rattle.pfc_semantics.specs.Remainders.{Context, Action}
use Rattle.pfc_semantics.specs.Alternatives.{message_of, receiver_of}
use Rattle.pfc_semantics.specs.Statements.{from_requeue}
use Rattle.pfc_translation.specs.Sites.{Site}
use Rattle.pfc_translation.specs.Calls.{requeue_code}
use Rattle.pfc_standing_code.specs.Settings.{Setting, of_own, AreOver, site_of, Stands}
use Rattle.pfc_standing_code.specs.TypedStatements.{IsRequeue}
use Rattle.pfc_standing_code.specs.Words.{IsChecked}
use Rattle.pfc_standing_code.specs.Following.{Follows}
use Rattle.pfc_standing_code.proofs.Over.{performs_over}
use Rattle.pfc_following_expressions.proofs.Expressions.{env_in}
use Rattle.pfc_following_statements.proofs.Simple.{assign_follows, send_follows, receive_follows}
use Rattle.pfc_following_statements.proofs.Items.{requeue_follows}
use Rattle.pfc_following_statements.proofs.Activations.{call_runs}
use Rattle.pfc_following_source.specs.structures.Structured.{StatementFollows}

module _ (g : Setting) (b : Block) (names : List Level) (around : Around) (checked : IsChecked g b (env_in g names around)) (few : 0 ≤ g.arms)
    (own : g.trial ≡ of_own) where
  abbrev env : Env
  env = env_in g names around

  abbrev at_line : ℕ → Context
  at_line line = record { env = env_in g names around; line = line }

  abbrev site : ℕ → Site
  site line = site_of g b (record { env = env_in g names around; line = line })

  pub assigned_follows : (d : DesigTree) (e : ExprTree) (p q : Place) → StatementFollows g b env (assign d e p q)
  assigned_follows d e p q line m k go at n to ops is whole_end rest on =
      assign_follows g b names around checked few own p.line d e k at n to ops is.typed is.code whole_end rest

  pub sent_follows : (d : DesigTree) (e : ExprTree) (p q : Place) → StatementFollows g b env (send d e p q)
  sent_follows d e p q line m k go at n to ops is whole_end rest on =
      send_follows g b names around checked few own p.line d (message_of (at_line p.line) e) k at n to ops is.typed is.code whole_end rest

  pub received_follows : (d v : DesigTree) (p q : Place) → StatementFollows g b env (receive d v p q)
  received_follows d v p q line m k go at n to ops is whole_end rest on =
      receive_follows g b names around checked few own p.line d (receiver_of (at_line p.line) v) k at n to ops is.typed is.code whole_end rest

  pub called_follows : (d : DesigTree) (args : ActualTrees) (p : Place) → StatementFollows g b env (call d args p)
  called_follows d args p line m k go at n to ops is whole_end rest on =
      call_runs g b names around checked few own p.line d args k go is.typed at n to ops is.code whole_end rest on

  requeue_by :
      (line : ℕ) (meaning : Option Meaning) (args : ActualTrees) (go : Action) (at n : ℕ) (ops : List ℤ)
      → IsRequeue (site line) meaning args → AreOver g ops → Stands g at n (length ops) (requeue_code (site line) meaning args)
      → Follows g (from_requeue (at_line line) meaning args go) at ops []
  requeue_by line (Some (Sub q)) args go at n ops is over st = requeue_follows g b names around checked few own line q args at n ops is over st
  requeue_by line None args go at n ops is over st = absurd is
  requeue_by line (Some (Constant t j)) args go at n ops is over st = absurd is
  requeue_by line (Some (Named t)) args go at n ops is over st = absurd is
  requeue_by line (Some (Variable t r)) args go at n ops is over st = absurd is
  requeue_by line (Some (Module j)) args go at n ops is over st = absurd is
  requeue_by line (Some (Process j)) args go at n ops is over st = absurd is
  requeue_by line (Some (Entry j)) args go at n ops is over st = absurd is
  requeue_by line (Some (Predeclared j)) args go at n ops is over st = absurd is
  requeue_by line (Some Faulty) args go at n ops is over st = absurd is

  pub requeued_follows : (x : Text × Place) (args : ActualTrees) (p : Place) → StatementFollows g b env (requeue x args p)
  requeued_follows x args p line m k go at n to ops is whole_end rest on =
      requeue_by p.line (meaning_of (find (env_in g names around) x.0)) args go at n ops is.typed
      (performs_over k g b (env_in g names around) to ops [] rest) is.code
