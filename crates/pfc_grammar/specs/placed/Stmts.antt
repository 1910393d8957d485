-- The readers of statements from tokens, with their places; `e` reads an expression and `s` a statement one level deeper.
-- What is read behind a word or a sign is given the place of that token where the statement keeps it.
use Rattle.std.specs.Prelude.{ℕ, zero, suc, List, Bool, true, false, Option, Some, None, is_some}
use Rattle.pfc_base.specs.declared.places.Place.{Place}
use Rattle.pfc_base.specs.declared.word.TheConstants.{ACCEPT, BEGIN, CASE, COBEGIN, COEND, DO, ELSE, END, FOR, FOREVER, IF, NULL, OF, OR, PRI, REPEAT}
use Rattle.pfc_base.specs.declared.word.TheConstants.{REPLICATE, REQUEUE, SELECT, TERMINATE, THEN, TIMEOUT, TO, UNTIL, WHEN, WHILE}
use Rattle.pfc_base.specs.declared.sign.TheConstants.{BECOMES, COMMA, SEMICOLON, COLON, SEND, RECEIVE, ARROW}
use Rattle.pfc_tree.specs.declared.tree.Constant.{Constant}
use Rattle.pfc_tree.specs.declared.tree.Spread.{Spread}
use Rattle.pfc_tree.specs.Symbols.{Text}
use Rattle.pfc_tree.specs.trees.Exprs.{ExprTree}
use Rattle.pfc_tree.specs.trees.Types.{GroupTree}
use Rattle.pfc_tree.specs.trees.Stmts.{StmtTree, BodyTree, ArmTree, AcceptTree, AltTree, CommTree, empty, null, block, if_then, if_then_else, case_of, while_do}
use Rattle.pfc_tree.specs.trees.Stmts.{repeat_until, repeat_forever, for_do, cobegin, accepting, requeue, select, select_else, assign, send, receive, call}
use Rattle.pfc_tree.specs.trees.Stmts.{body, arm, accept, accept_do, alt, comm_accept, comm_send, comm_receive, timeout, terminate}
use Rattle.pfc_tree.specs.views.Stmts.{stmts_of, arms_of, alts_of}
use Rattle.pfc_grammar.specs.Heads.{as_word, as_sign, as_name, as_direction, is_word, begins_stmt}
use Rattle.pfc_grammar.specs.placed.Reading.{Reader, pure, ◌>>=◌, stop, stop_deep, branch, choose, take_as, many, list_of, list_end}
use Rattle.pfc_grammar.specs.placed.Exprs.{desig_behind, desig_with, actuals_with, expr_at}
use Rattle.pfc_grammar.specs.placed.Types.{constant_reader, formals}

-- What stands before the first statement of a form, behind its first word.
-- expr w
unfoldable pub test_before : Reader ExprTree → ℕ → Reader ExprTree
test_before e w = do
  x ← e
  t ← take_as (as_word w)
  pure x

-- name ":=" expr ("to" | "downto") expr "do"
unfoldable pub for_head : Reader ExprTree → Reader ((Text × Place) × ExprTree × Bool × ExprTree)
for_head e = do
  x ← take_as as_name
  t ← take_as (as_sign BECOMES)
  from ← e
  down ← take_as as_direction
  to ← e
  u ← take_as (as_word DO)
  pure (x, from, down.0, to)

-- name [formals]
unfoldable pub accept_head : Reader ((Text × Place) × List GroupTree)
accept_head = do
  x ← take_as as_name
  gs ← formals
  pure (x, gs)

-- constant {"," constant} ":"
unfoldable pub labels : Reader (List Constant)
labels = do
  cs ← list_of (as_sign COMMA) constant_reader
  t ← take_as (as_sign COLON)
  pure cs

-- behind `for`: name ":=" constant "to" constant "replicate"
unfoldable pub spread_behind : Reader Spread
spread_behind = do
  x ← take_as as_name
  t ← take_as (as_sign BECOMES)
  low ← constant_reader
  u ← take_as (as_word TO)
  high ← constant_reader
  v ← take_as (as_word REPLICATE)
  pure (record { name = x.0; low = low; high = high; place = x.1 })

-- [spread], where spread = "for" name ":=" constant "to" constant "replicate"
unfoldable pub replication : Reader (Option Spread)
replication = branch (as_word FOR) (λ t. do
  r ← spread_behind
  pure (Some r)) (pure None)

-- ["when" expr "=>"]
unfoldable pub guard : Reader ExprTree → Reader (Option ExprTree)
guard e = branch (as_word WHEN) (λ t. do
  x ← e
  u ← take_as (as_sign ARROW)
  pure (Some x)) (pure None)

-- [spread] ["when" expr "=>"]
unfoldable pub alt_head : Reader ExprTree → Reader (Option Spread × Option ExprTree)
alt_head e = do
  r ← replication
  g ← guard e
  pure (r, g)

-- Statements that hold none.
-- behind `requeue`, which stands at p: name [actuals]
unfoldable pub requeue_behind : Reader ExprTree → Place → Reader StmtTree
requeue_behind e p = do
  x ← take_as as_name
  args ← actuals_with e
  pure (requeue x args p)

-- behind its name x: desig (":=" expr | "!" expr | "?" desig | [actuals])
unfoldable pub action_behind : Reader ExprTree → Text × Place → Reader StmtTree
action_behind e x = do
  d ← desig_behind e x
  branch (as_sign BECOMES) (λ t. do
    value ← e
    pure (assign d value x.1 t.1)) (branch (as_sign SEND) (λ t. do
      value ← e
      pure (send d value x.1 t.1)) (branch (as_sign RECEIVE) (λ t. do
        v ← desig_with e
        pure (receive d v x.1 t.1)) (do
          args ← actuals_with e
          pure (call d args x.1))))

-- behind its name x: desig "!" expr | desig "?" desig
unfoldable pub comm_behind : Reader ExprTree → Text × Place → Reader CommTree
comm_behind e x = do
  d ← desig_behind e x
  branch (as_sign SEND) (λ t. do
    value ← e
    pure (comm_send d value t.1)) (do
      t ← take_as (as_sign RECEIVE)
      v ← desig_with e
      pure (comm_receive d v t.1))

-- desig "!" expr | desig "?" desig
unfoldable pub message : Reader ExprTree → Reader CommTree
message e = branch as_name (comm_behind e) stop

-- "timeout" expr | "terminate" | desig "!" expr | desig "?" desig
unfoldable pub message_or_wait : Reader ExprTree → Reader CommTree
message_or_wait e = branch (as_word TIMEOUT) (λ t. do
  x ← e
  pure (timeout x t.1)) (branch (as_word TERMINATE) (λ t. pure (terminate t.1)) (message e))

-- the same, of which behind a spread the first two may not stand
unfoldable pub comm_plain : Reader ExprTree → Bool → Reader CommTree
comm_plain e true = message e
comm_plain e false = message_or_wait e

-- Statements that hold some.
-- stmts = stmt {";" stmt}
unfoldable pub stmts_with : Reader StmtTree → Reader (List StmtTree)
stmts_with s = list_of (as_sign SEMICOLON) s

-- behind `begin`, which stands at p: stmts "end"
unfoldable pub body_behind : Reader StmtTree → Place → Reader BodyTree
body_behind s p = do
  ss ← stmts_with s
  t ← take_as (as_word END)
  pure (body (stmts_of ss) p t.1)

-- body = "begin" stmts "end"
unfoldable pub body_with : Reader StmtTree → Reader BodyTree
body_with s = do
  t ← take_as (as_word BEGIN)
  body_behind s t.1

-- behind `begin`, which stands at p, as a statement
unfoldable pub block_behind : Reader StmtTree → Place → Reader StmtTree
block_behind s p = do
  b ← body_behind s p
  pure (block b p)

-- behind `if`, which stands at p: expr "then" stmt ["else" stmt]
unfoldable pub if_behind : Reader ExprTree → Reader StmtTree → Place → Reader StmtTree
if_behind e s p = do
  test ← test_before e THEN
  first ← s
  branch (as_word ELSE) (λ t. do
    second ← s
    pure (if_then_else test first second p)) (pure (if_then test first p))

-- arm = constant {"," constant} ":" stmt
unfoldable pub arm_with : Reader StmtTree → Reader ArmTree
arm_with s = do
  cs ← labels
  x ← s
  pure (arm cs x)

-- behind `case`, which stands at p: expr "of" arm {";" arm} [";"] "end"
unfoldable pub case_behind : Reader ExprTree → Reader StmtTree → Place → Reader StmtTree
case_behind e s p = do
  value ← test_before e OF
  arms ← list_end (as_sign SEMICOLON) (is_word END) (arm_with s)
  t ← take_as (as_word END)
  pure (case_of value (arms_of arms.0) arms.1 p)

-- behind `while`, which stands at p: expr "do" stmt
unfoldable pub while_behind : Reader ExprTree → Reader StmtTree → Place → Reader StmtTree
while_behind e s p = do
  test ← test_before e DO
  x ← s
  pure (while_do test x p)

-- behind `repeat`, which stands at p: stmts ("until" expr | "forever")
unfoldable pub repeat_behind : Reader ExprTree → Reader StmtTree → Place → Reader StmtTree
repeat_behind e s p = do
  ss ← stmts_with s
  branch (as_word UNTIL) (λ t. do
    test ← e
    pure (repeat_until (stmts_of ss) test p)) (do
      t ← take_as (as_word FOREVER)
      pure (repeat_forever (stmts_of ss) p))

-- behind `for`, which stands at p: name ":=" expr ("to" | "downto") expr "do" stmt
unfoldable pub for_behind : Reader ExprTree → Reader StmtTree → Place → Reader StmtTree
for_behind e s p = do
  h ← for_head e
  x ← s
  pure (for_do h.0.0 h.1 h.2 h.3 x p h.0.1)

-- behind `cobegin`, which stands at p: stmts "coend"
unfoldable pub cobegin_behind : Reader StmtTree → Place → Reader StmtTree
cobegin_behind s p = do
  ss ← stmts_with s
  t ← take_as (as_word COEND)
  pure (cobegin (stmts_of ss) t.1 p)

-- behind `accept`: name [formals] ["do" stmt]
unfoldable pub accept_behind : Reader StmtTree → Reader AcceptTree
accept_behind s = do
  h ← accept_head
  branch (as_word DO) (λ t. do
    x ← s
    pure (accept_do h.0.0 h.1 x h.0.1)) (pure (accept h.0.0 h.1 h.0.1))

-- behind `accept`, which stands at p, as a statement
unfoldable pub accepting_behind : Reader StmtTree → Place → Reader StmtTree
accepting_behind s p = do
  a ← accept_behind s
  pure (accepting a p)

-- accept | desig "!" expr | desig "?" desig, and where it is not replicated also "timeout" expr | "terminate"
unfoldable pub comm_with : Reader ExprTree → Reader StmtTree → Bool → Reader CommTree
comm_with e s replicated = branch (as_word ACCEPT) (λ t. do
  a ← accept_behind s
  pure (comm_accept a t.1)) (comm_plain e replicated)

-- alt = [spread] ["when" expr "=>"] (accept | desig "!" expr | desig "?" desig) {";" stmt}
--     | ["when" expr "=>"] ("timeout" expr | "terminate") {";" stmt}
unfoldable pub alt_with : Reader ExprTree → Reader StmtTree → Reader AltTree
alt_with e s = do
  h ← alt_head e
  c ← comm_with e s (is_some h.0)
  ss ← many (as_sign SEMICOLON) (λ t. s)
  pure (alt h.0 h.1 c (stmts_of ss))

-- behind `select`, which stands at p, in a statement whose first token stands at `first`: alt {"or" alt} ["else" stmts] "end"
unfoldable pub select_behind : Reader ExprTree → Reader StmtTree → Bool → Place → Place → Reader StmtTree
select_behind e s pri first p = do
  alts ← list_of (as_word OR) (alt_with e s)
  branch (as_word ELSE) (λ t. do
    ss ← stmts_with s
    u ← take_as (as_word END)
    pure (select_else pri (alts_of alts) (stmts_of ss) t.1 first p)) (do
      t ← take_as (as_word END)
      pure (select pri (alts_of alts) first p))

-- behind `pri`, which stands at p: "select" ..
unfoldable pub pri_behind : Reader ExprTree → Reader StmtTree → Place → Reader StmtTree
pri_behind e s p = do
  u ← take_as (as_word SELECT)
  select_behind e s true p u.1

-- the statements of the last forms: body | accept | ["pri"] "select" .. | desig .., or no token
unfoldable pub stmt_second : Reader ExprTree → Reader StmtTree → Reader StmtTree
stmt_second e s = branch (as_word COBEGIN) (λ t. cobegin_behind s t.1) (branch (as_word ACCEPT) (λ t. accepting_behind s t.1)
    (branch (as_word REQUEUE) (λ t. requeue_behind e t.1) (branch (as_word PRI) (λ t. pri_behind e s t.1)
    (branch (as_word SELECT) (λ t. select_behind e s false t.1 t.1) (branch as_name (action_behind e) (pure empty))))))

-- stmt = [ "null" | body | "if" expr "then" stmt ["else" stmt]
--        | "case" expr "of" arm {";" arm} [";"] "end"
--        | "while" expr "do" stmt | "repeat" stmts ("until" expr | "forever")
--        | "for" name ":=" expr ("to" | "downto") expr "do" stmt
--        | "cobegin" stmts "coend" | accept | "requeue" name [actuals]
--        | ["pri"] "select" alt {"or" alt} ["else" stmts] "end"
--        | desig (":=" expr | "!" expr | "?" desig | [actuals]) ]
unfoldable pub stmt_with : Reader ExprTree → Reader StmtTree → Reader StmtTree
stmt_with e s = branch (as_word NULL) (λ t. pure (null t.1)) (branch (as_word BEGIN) (λ t. block_behind s t.1) (branch (as_word IF) (λ t. if_behind e s t.1)
    (branch (as_word CASE) (λ t. case_behind e s t.1) (branch (as_word WHILE) (λ t. while_behind e s t.1) (branch (as_word REPEAT) (λ t. repeat_behind e s t.1)
    (branch (as_word FOR) (λ t. for_behind e s t.1) (stmt_second e s)))))))

-- a statement where n levels are left, of which it takes one; one that is empty has no token
unfoldable pub stmt_at : ℕ → Reader StmtTree
stmt_at zero = choose begins_stmt stop_deep (pure empty)
stmt_at (suc n) = stmt_with (expr_at n) (stmt_at n)
