-- What it is for the code of a statement to follow its next action, where it may be at its end quietly; and so of statements that hold
-- statements, where their inner ones do.
use Rattle.std.specs.Prelude.{ℕ, ◌+◌, ◌≡◌, ℤ, Bool, List, [], ◌∷◌, length}
use Rattle.pfc_base.specs.declared.places.Place.{Place}
use Rattle.pfc_tree.specs.Symbols.{Text}
use Rattle.pfc_tree.specs.declared.tree.Constant.{Constant}
use Rattle.pfc_tree.specs.trees.Exprs.{ExprTree, DesigTree, ActualTrees}
use Rattle.pfc_tree.specs.trees.Stmts.{StmtTree, StmtTrees, ArmTrees, AcceptTree, AltTrees, empty, null, block, if_then, if_then_else, case_of, while_do}
use Rattle.pfc_tree.specs.trees.Stmts.{repeat_until, repeat_forever, for_do, cobegin, accepting, requeue, select, select_else, assign, send, receive, call}
use Rattle.pfc_tree.specs.trees.Stmts.{no_stmts, more_stmts, body, arm, no_arms, more_arms}
use Rattle.pfc_types.specs.rules.Expressions.{Env}
use Rattle.pfc_semantics.specs.Programs.{Block}
use Rattle.pfc_semantics.specs.Remainders.{Remainder, Action}
use Rattle.pfc_semantics.specs.Alternatives.{context}
use Rattle.pfc_semantics.specs.Statements.{from_stmt, from_stmts, from_arms}
use Rattle.pfc_translation.specs.Statements.{label_count, stmt_code, stmts_code, arms_code}
use Rattle.pfc_standing_code.specs.Settings.{Setting, of_own, site_of}
use Rattle.pfc_standing_code.specs.Words.{IsChecked}
use Rattle.pfc_standing_code.specs.Performs.{StmtAt, StmtsAt, ArmsAt, Performs}
use Rattle.pfc_standing_code.specs.Following.{Follows}

-- ## Statements

-- where a statement stands, and behind it code that performs a remainder, its code leads to the next action, or on to its end
abbrev pub StatementFollows : Setting → Block → Env → StmtTree → Type 0
StatementFollows g b env t =
    (line m : ℕ) (k : Remainder) (go : Action) (at n to : ℕ) (ops : List ℤ)
    → StmtAt g (site_of g b (context env line)) at n (length ops) m t → at + (stmt_code (site_of g b (context env line)) m t).size ≡ to
    → Performs g b env to ops [] k → Follows g go to ops [] → Follows g (from_stmt env m t k go) at ops []

abbrev pub StatementsFollow : Setting → Block → Env → StmtTrees → Type 0
StatementsFollow g b env ts =
    (line m : ℕ) (k : Remainder) (go : Action) (at n to : ℕ) (ops : List ℤ)
    → StmtsAt g (site_of g b (context env line)) at n (length ops) m ts → at + (stmts_code (site_of g b (context env line)) m ts).size ≡ to
    → Performs g b env to ops [] k → Follows g go to ops [] → Follows g (from_stmts env m ts k go) at ops []

-- the tests of these labels lead to the arm that has the value among them, and it leads on
abbrev pub ArmsFollow : Setting → Block → Env → ArmTrees → Type 0
ArmsFollow g b env arms =
    (line m : ℕ) (v : ℤ) (k : Remainder) (go : Action) (tests i first n from to : ℕ) (ops : List ℤ)
    → ArmsAt g (site_of g b (context env line)) tests i first n m from (length ops) arms → first ≡ tests + label_count arms + 1 + from
    → first + (arms_code (site_of g b (context env line)) m arms).size ≡ to
    → Performs g b env to ops [] k → Follows g go to ops [] → Follows g (from_arms (context env line) m v arms k go) tests (v ∷ ops) []

-- ## Statements that hold statements

abbrev pub NothingFollows : Setting → Block → Env → Type 0
NothingFollows g b env = IsChecked g b env → g.trial ≡ of_own → StatementFollows g b env empty × ((p : Place) → StatementFollows g b env (null p))

abbrev pub BlockFollows : Setting → Block → Env → Type 0
BlockFollows g b env =
    IsChecked g b env → g.trial ≡ of_own → (ts : StmtTrees) (first last p : Place) → StatementsFollow g b env ts
    → StatementFollows g b env (block (body ts first last) p)

abbrev pub ListFollows : Setting → Block → Env → Type 0
ListFollows g b env =
    IsChecked g b env → g.trial ≡ of_own → StatementsFollow g b env no_stmts
    × ((t : StmtTree) (ts : StmtTrees) → StatementFollows g b env t → StatementsFollow g b env ts → StatementsFollow g b env (more_stmts t ts))

abbrev pub IfFollows : Setting → Block → Env → Type 0
IfFollows g b env =
    IsChecked g b env → g.trial ≡ of_own → (e : ExprTree) (t : StmtTree) (p : Place) → StatementFollows g b env t → StatementFollows g b env (if_then e t p)

abbrev pub IfElseFollows : Setting → Block → Env → Type 0
IfElseFollows g b env =
    IsChecked g b env → g.trial ≡ of_own → (e : ExprTree) (t u : StmtTree) (p : Place) → StatementFollows g b env t → StatementFollows g b env u
    → StatementFollows g b env (if_then_else e t u p)

abbrev pub CaseFollows : Setting → Block → Env → Type 0
CaseFollows g b env =
    IsChecked g b env → g.trial ≡ of_own → (e : ExprTree) (arms : ArmTrees) (last : Bool) (p : Place) → ArmsFollow g b env arms
    → StatementFollows g b env (case_of e arms last p)

abbrev pub ArmListFollows : Setting → Block → Env → Type 0
ArmListFollows g b env =
    IsChecked g b env → g.trial ≡ of_own → ArmsFollow g b env no_arms
    × ((ls : List Constant) (t : StmtTree) (arms : ArmTrees) → StatementFollows g b env t → ArmsFollow g b env arms →
    ArmsFollow g b env (more_arms (arm ls t) arms))

abbrev pub WhileFollows : Setting → Block → Env → Type 0
WhileFollows g b env =
    IsChecked g b env → g.trial ≡ of_own → (e : ExprTree) (t : StmtTree) (p : Place) → StatementFollows g b env t → StatementFollows g b env (while_do e t p)

abbrev pub RepeatFollows : Setting → Block → Env → Type 0
RepeatFollows g b env =
    IsChecked g b env → g.trial ≡ of_own → (ts : StmtTrees) (e : ExprTree) (p : Place) → StatementsFollow g b env ts
    → StatementFollows g b env (repeat_until ts e p)

abbrev pub ForeverFollows : Setting → Block → Env → Type 0
ForeverFollows g b env =
    IsChecked g b env → g.trial ≡ of_own → (ts : StmtTrees) (p : Place) → StatementsFollow g b env ts → StatementFollows g b env (repeat_forever ts p)

-- the first pass of a `for` is an action, so nothing is asked of its statement
abbrev pub ForFollows : Setting → Block → Env → Type 0
ForFollows g b env =
    IsChecked g b env → g.trial ≡ of_own → (x : Text) (from : ExprTree) (down : Bool) (last : ExprTree) (t : StmtTree) (p q : Place)
    → StatementFollows g b env (for_do x from down last t p q)

abbrev pub CobeginFollows : Setting → Block → Env → Type 0
CobeginFollows g b env =
    IsChecked g b env → g.trial ≡ of_own → (ts : StmtTrees) (last p : Place) → StatementsFollow g b env ts → StatementFollows g b env (cobegin ts last p)

-- a meeting is an action, so nothing is asked of the statement of an accept
abbrev pub AcceptFollows : Setting → Block → Env → Type 0
AcceptFollows g b env = IsChecked g b env → g.trial ≡ of_own → (a : AcceptTree) (p : Place) → StatementFollows g b env (accepting a p)

-- ## Statements that hold none

abbrev pub AssignFollows : Setting → Block → Env → Type 0
AssignFollows g b env = IsChecked g b env → g.trial ≡ of_own → (d : DesigTree) (e : ExprTree) (p q : Place) → StatementFollows g b env (assign d e p q)

abbrev pub SendsFollow : Setting → Block → Env → Type 0
SendsFollow g b env = IsChecked g b env → g.trial ≡ of_own → (d : DesigTree) (e : ExprTree) (p q : Place) → StatementFollows g b env (send d e p q)

abbrev pub ReceivesFollow : Setting → Block → Env → Type 0
ReceivesFollow g b env = IsChecked g b env → g.trial ≡ of_own → (d v : DesigTree) (p q : Place) → StatementFollows g b env (receive d v p q)

abbrev pub CallsFollow : Setting → Block → Env → Type 0
CallsFollow g b env = IsChecked g b env → g.trial ≡ of_own → (d : DesigTree) (args : ActualTrees) (p : Place) → StatementFollows g b env (call d args p)

abbrev pub RequeuesFollow : Setting → Block → Env → Type 0
RequeuesFollow g b env =
    IsChecked g b env → g.trial ≡ of_own → (x : Text × Place) (args : ActualTrees) (p : Place) → StatementFollows g b env (requeue x args p)

-- ## Every statement

-- the decision of a select is an action, so nothing is asked of the statements behind its alternatives
abbrev pub SelectStatementsFollow : Setting → Block → Env → Type 0
SelectStatementsFollow g b env =
    IsChecked g b env → g.trial ≡ of_own → ((pri : Bool) (alts : AltTrees) (p q : Place) → StatementFollows g b env (select pri alts p q))
    × ((pri : Bool) (alts : AltTrees) (ts : StmtTrees) (at p q : Place) → StatementFollows g b env (select_else pri alts ts at p q))

abbrev pub EveryStatementFollows : Setting → Block → Env → Type 0
EveryStatementFollows g b env = IsChecked g b env → g.trial ≡ of_own → (t : StmtTree) → StatementFollows g b env t

abbrev pub EveryListFollows : Setting → Block → Env → Type 0
EveryListFollows g b env = IsChecked g b env → g.trial ≡ of_own → (ts : StmtTrees) → StatementsFollow g b env ts
