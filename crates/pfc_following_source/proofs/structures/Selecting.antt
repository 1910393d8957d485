-- Selects follow their next action.
use Rattle.std.proofs.Common.{◌≡◌, Bool, List, sym}
use Rattle.pfc_base.specs.declared.places.Place.{Place}
use Rattle.pfc_tree.specs.trees.Stmts.{StmtTrees, AltTrees, select, select_else}
use Rattle.pfc_types.specs.Scopes.{Level}
use Rattle.pfc_types.specs.rules.Expressions.{Env}
use Rattle.pfc_types.specs.declared.view.Around.{Around}
use Rattle.pfc_semantics.specs.Programs.{Block}
use Rattle.pfc_semantics.specs.Alternatives.{context}
use Rattle.pfc_standing_code.specs.Settings.{Setting, of_own}
use Rattle.pfc_standing_code.specs.Words.{IsChecked}
use Rattle.pfc_following_expressions.proofs.Expressions.{env_in}
use Rattle.pfc_following_source.proofs.selects.Anywhere.{select_follows_anywhere, select_else_follows_anywhere}
use Rattle.pfc_following_source.proofs.selects.Jumps.{performs_at}
use Rattle.pfc_following_source.specs.structures.Structured.{StatementFollows}

module _ (g : Setting) (b : Block) (names : List Level) (around : Around) (checked : IsChecked g b (env_in g names around)) (own : g.trial ≡ of_own) where
  abbrev env : Env
  env = env_in g names around

  pub selected_follows : (pri : Bool) (alts : AltTrees) (p q : Place) → StatementFollows g b env (select pri alts p q)
  selected_follows pri alts p q line m k go at n to ops is whole_end rest on =
      select_follows_anywhere g b (context (env_in g names around) p.line) checked own pri m alts k is.typed is.accepts at n ops is.code
      (performs_at g b (env_in g names around) k to _ ops (sym whole_end) rest)

  pub selected_else_follows : (pri : Bool) (alts : AltTrees) (ts : StmtTrees) (at p q : Place) → StatementFollows g b env (select_else pri alts ts at p q)
  selected_else_follows pri alts ts place p q line m k go at n to ops is whole_end rest on =
      select_else_follows_anywhere g b (context (env_in g names around) p.line) checked own pri m alts ts k is.typed.0 is.typed.1 is.accepts
      at n ops is.code (performs_at g b (env_in g names around) k to _ ops (sym whole_end) rest)
