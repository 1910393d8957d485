-- What it is for code to follow the next action of what is left behind a statement.
use Rattle.std.specs.Prelude.{ℕ, ◌+◌, ◌≤◌, ◌≡◌, ℤ, List, [], length, Some}
use Rattle.pfc_base.specs.declared.places.Place.{Place}
use Rattle.pfc_tree.specs.trees.Exprs.{ExprTree}
use Rattle.pfc_tree.specs.trees.Stmts.{StmtTrees, repeat_until}
use Rattle.pfc_types.specs.rules.Expressions.{Env}
use Rattle.pfc_semantics.specs.Values.{ordinal}
use Rattle.pfc_semantics.specs.Programs.{Block}
use Rattle.pfc_semantics.specs.Remainders.{Count, Replica, Remainder, Action, writes, until_true}
use Rattle.pfc_semantics.specs.Alternatives.{context}
use Rattle.pfc_semantics.specs.Expressions.{from_expr}
use Rattle.pfc_semantics.specs.Statements.{from_until, from_pass, begin_pass}
use Rattle.pfc_semantics.specs.Rewriting.{from_remainder}
use Rattle.pfc_translation.specs.Statements.{stmt_code, stmts_code}
use Rattle.pfc_translation.specs.Selects.{replica_code}
use Rattle.pfc_standing_code.specs.Settings.{Setting, of_own, site_of, Stands}
use Rattle.pfc_standing_code.specs.Effects.{Arm}
use Rattle.pfc_standing_code.specs.TypedStatements.{IsReplica}
use Rattle.pfc_standing_code.specs.Words.{IsChecked}
use Rattle.pfc_standing_code.specs.Performs.{StmtAt, HoldsCount, HasPass, IsCheckedFor, Performs}
use Rattle.pfc_standing_code.specs.Following.{Follows}

-- the test of a `repeat`, behind its statements
abbrev pub UntilFollows : Setting → Block → Env → Type 0
UntilFollows g b env =
    IsChecked g b env → g.trial ≡ of_own → (ts : StmtTrees) (e : ExprTree) (p : Place) (line m : ℕ) (k : Remainder) (go : Action) (at n : ℕ) (ops : List ℤ)
    → StmtAt g (site_of g b (context env line)) at n (length ops) m (repeat_until ts e p)
    → Performs g b env (at + (stmt_code (site_of g b (context env line)) m (repeat_until ts e p)).size) ops [] k
    → Follows g go (at + (stmt_code (site_of g b (context env line)) m (repeat_until ts e p)).size) ops []
    → Follows g (from_expr (context env p.line) e (until_true m ts e p k) (from_until (context env p.line) m (repeat_until ts e p) k go))
    (at + (stmts_code (site_of g b (context env p.line)) m ts).size) ops []

-- the next pass of a `for`, whose operands are held
abbrev pub PassFollows : Setting → Block → Env → Type 0
PassFollows g b env =
    IsChecked g b env → g.trial ≡ of_own → (f : Count) (k : Remainder) (at n : ℕ) (ops below : List ℤ)
    → HoldsCount g (site_of g b (context env f.line)) f ops below → HasPass g (site_of g b (context env f.line)) f at n (length ops)
    → Performs g b env (at + 1 + (stmt_code (site_of g b (context env f.line)) f.next f.pass).size + 1) below [] k
    → Follows g (begin_pass (context env f.line) f k) at ops []

-- the end of a pass: the way back, or on behind the loop
abbrev pub PassEndFollows : Setting → Block → Env → Type 0
PassEndFollows g b env =
    IsChecked g b env → g.trial ≡ of_own → (f : Count) (k : Remainder) (go : Action) (at n : ℕ) (ops below : List ℤ)
    → HoldsCount g (site_of g b (context env f.line)) f ops below → HasPass g (site_of g b (context env f.line)) f at n (length ops)
    → Performs g b env (at + 1 + (stmt_code (site_of g b (context env f.line)) f.next f.pass).size + 1) below [] k
    → Follows g go (at + 1 + (stmt_code (site_of g b (context env f.line)) f.next f.pass).size + 1) below []
    → Follows g (from_pass (context env f.line) f k go) (at + 1 + (stmt_code (site_of g b (context env f.line)) f.next f.pass).size) ops []

-- the write of a replicated alternative
abbrev pub ReplicaFollows : Setting → Block → Env → Type 0
ReplicaFollows g b env =
    IsChecked g b env → g.trial ≡ of_own → (r : Replica) (k : Remainder) (at n : ℕ) (ops : List ℤ)
    → IsReplica (site_of g b (context env r.line)) (Some r) → Stands g at n (length ops) (replica_code (site_of g b (context env r.line)) (Some r))
    → Performs g b env (at + (replica_code (site_of g b (context env r.line)) (Some r)).size) ops [] k
    → Follows g (writes (context env r.line) r.at (ordinal r.value) k) at ops []

-- What is left follows, as far as the operands fit.
abbrev pub RemainderFollows : Setting → Type 0
RemainderFollows g =
    (k : Remainder) (b : Block) (env : Env) (at : ℕ) (ops : List ℤ) (arms : List Arm) → IsCheckedFor g b env k → length ops ≤ g.room
    → Performs g b env at ops arms k
    → Follows g (from_remainder env k) at ops arms
