-- The readers of statements. Each is a line of the grammar, which stands above it; `e` reads an expression and `s` a
-- statement one level deeper.
use Rattle.std.specs.Prelude.{ℕ, zero, suc, List, [], ◌∷◌, Bool, true, false, Option, Some, None, is_some}
use Rattle.pfc_base.specs.declared.word.TheConstants.{ACCEPT, BEGIN, CASE, COBEGIN, COEND, DO, ELSE, END, FOR, FOREVER, IF, NULL, OF, OR, PRI, REPEAT}
use Rattle.pfc_base.specs.declared.word.TheConstants.{REPLICATE, REQUEUE, SELECT, TERMINATE, THEN, TIMEOUT, TO, UNTIL, WHEN, WHILE}
use Rattle.pfc_base.specs.declared.sign.TheConstants.{BECOMES, COMMA, SEMICOLON, COLON, SEND, RECEIVE, ARROW}
use Rattle.pfc_tree.specs.Symbols.{Text}
use Rattle.pfc_tree.specs.shapes.Exprs.{ExprShape}
use Rattle.pfc_tree.specs.shapes.Types.{ConstantShape, GroupShape}
use Rattle.pfc_tree.specs.shapes.Stmts.{SpreadShape, StmtShape, StmtShapes, BodyShape, ArmShape, ArmShapes, AcceptShape, AltShape, AltShapes, CommShape, empty}
use Rattle.pfc_tree.specs.shapes.Stmts.{null, block, if_then, if_then_else, case_of, while_do, repeat_until, repeat_forever, for_do, cobegin, accepting}
use Rattle.pfc_tree.specs.shapes.Stmts.{requeue, select, select_else, assign, send, receive, call, no_stmts, more_stmts, body, arm, no_arms, more_arms, accept}
use Rattle.pfc_tree.specs.shapes.Stmts.{accept_do, alt, no_alts, more_alts, comm_accept, comm_send, comm_receive, timeout, terminate}
use Rattle.pfc_grammar.specs.Reading.{Reader, pure, ◌>>=◌, stop, stop_deep, branch, choose, take_as, many, list_of, list_end}
use Rattle.pfc_grammar.specs.Heads.{as_word, as_sign, as_name, as_direction, is_word, begins_stmt}
use Rattle.pfc_grammar.specs.grammar.Exprs.{desig_behind, desig_with, actuals_with, expr_at}
use Rattle.pfc_grammar.specs.grammar.Types.{constant_reader, formals}

abbrev pub stmts_of : List StmtShape → StmtShapes
stmts_of [] = no_stmts
stmts_of (s ∷ ss) = more_stmts s (stmts_of ss)

abbrev pub arms_of : List ArmShape → ArmShapes
arms_of [] = no_arms
arms_of (a ∷ arms) = more_arms a (arms_of arms)

abbrev pub alts_of : List AltShape → AltShapes
alts_of [] = no_alts
alts_of (a ∷ alts) = more_alts a (alts_of alts)

-- What stands before the first statement of a form, behind its first word.
-- expr w
unfoldable pub test_before : Reader ExprShape → ℕ → Reader ExprShape
test_before e w = do
  x ← e
  t ← take_as (as_word w)
  pure x

-- name ":=" expr ("to" | "downto") expr "do"
unfoldable pub for_head : Reader ExprShape → Reader (Text × ExprShape × Bool × ExprShape)
for_head e = do
  x ← take_as as_name
  t ← take_as (as_sign BECOMES)
  from ← e
  down ← take_as as_direction
  to ← e
  u ← take_as (as_word DO)
  pure (x, from, down, to)

-- name [formals]
unfoldable pub accept_head : Reader (Text × List GroupShape)
accept_head = do
  x ← take_as as_name
  gs ← formals
  pure (x, gs)

-- constant {"," constant} ":"
unfoldable pub labels : Reader (List ConstantShape)
labels = do
  cs ← list_of (as_sign COMMA) constant_reader
  t ← take_as (as_sign COLON)
  pure cs

-- behind `for`: name ":=" constant "to" constant "replicate"
unfoldable pub spread_behind : Reader SpreadShape
spread_behind = do
  x ← take_as as_name
  t ← take_as (as_sign BECOMES)
  low ← constant_reader
  u ← take_as (as_word TO)
  high ← constant_reader
  v ← take_as (as_word REPLICATE)
  pure (record { name = x; low = low; high = high })

-- [spread], where spread = "for" name ":=" constant "to" constant "replicate"
unfoldable pub replication : Reader (Option SpreadShape)
replication = branch (as_word FOR) (λ t. do
  r ← spread_behind
  pure (Some r)) (pure None)

-- ["when" expr "=>"]
unfoldable pub guard : Reader ExprShape → Reader (Option ExprShape)
guard e = branch (as_word WHEN) (λ t. do
  x ← e
  u ← take_as (as_sign ARROW)
  pure (Some x)) (pure None)

-- [spread] ["when" expr "=>"]
unfoldable pub alt_head : Reader ExprShape → Reader (Option SpreadShape × Option ExprShape)
alt_head e = do
  r ← replication
  g ← guard e
  pure (r, g)

-- Statements that hold none.
-- behind `requeue`: name [actuals]
unfoldable pub requeue_behind : Reader ExprShape → Reader StmtShape
requeue_behind e = do
  x ← take_as as_name
  args ← actuals_with e
  pure (requeue x args)

-- behind its name x: desig (":=" expr | "!" expr | "?" desig | [actuals])
unfoldable pub action_behind : Reader ExprShape → Text → Reader StmtShape
action_behind e x = do
  d ← desig_behind e x
  branch (as_sign BECOMES) (λ t. do
    value ← e
    pure (assign d value)) (branch (as_sign SEND) (λ t. do
      value ← e
      pure (send d value)) (branch (as_sign RECEIVE) (λ t. do
        v ← desig_with e
        pure (receive d v)) (do
          args ← actuals_with e
          pure (call d args))))

-- behind its name x: desig "!" expr | desig "?" desig
unfoldable pub comm_behind : Reader ExprShape → Text → Reader CommShape
comm_behind e x = do
  d ← desig_behind e x
  branch (as_sign SEND) (λ t. do
    value ← e
    pure (comm_send d value)) (do
      t ← take_as (as_sign RECEIVE)
      v ← desig_with e
      pure (comm_receive d v))

-- desig "!" expr | desig "?" desig
unfoldable pub message : Reader ExprShape → Reader CommShape
message e = branch as_name (comm_behind e) stop

-- "timeout" expr | "terminate" | desig "!" expr | desig "?" desig
unfoldable pub message_or_wait : Reader ExprShape → Reader CommShape
message_or_wait e = branch (as_word TIMEOUT) (λ t. do
  x ← e
  pure (timeout x)) (branch (as_word TERMINATE) (λ t. pure terminate) (message e))

-- the same, of which behind a spread the first two may not stand
unfoldable pub comm_plain : Reader ExprShape → Bool → Reader CommShape
comm_plain e true = message e
comm_plain e false = message_or_wait e

-- Statements that hold some.
-- stmts = stmt {";" stmt}
unfoldable pub stmts_with : Reader StmtShape → Reader (List StmtShape)
stmts_with s = list_of (as_sign SEMICOLON) s

-- behind `begin`: stmts "end"
unfoldable pub body_behind : Reader StmtShape → Reader BodyShape
body_behind s = do
  ss ← stmts_with s
  t ← take_as (as_word END)
  pure (body (stmts_of ss))

-- body = "begin" stmts "end"
unfoldable pub body_with : Reader StmtShape → Reader BodyShape
body_with s = do
  t ← take_as (as_word BEGIN)
  body_behind s

-- behind `if`: expr "then" stmt ["else" stmt]
unfoldable pub if_behind : Reader ExprShape → Reader StmtShape → Reader StmtShape
if_behind e s = do
  test ← test_before e THEN
  first ← s
  branch (as_word ELSE) (λ t. do
    second ← s
    pure (if_then_else test first second)) (pure (if_then test first))

-- arm = constant {"," constant} ":" stmt
unfoldable pub arm_with : Reader StmtShape → Reader ArmShape
arm_with s = do
  cs ← labels
  x ← s
  pure (arm cs x)

-- behind `case`: expr "of" arm {";" arm} [";"] "end"
unfoldable pub case_behind : Reader ExprShape → Reader StmtShape → Reader StmtShape
case_behind e s = do
  value ← test_before e OF
  arms ← list_end (as_sign SEMICOLON) (is_word END) (arm_with s)
  t ← take_as (as_word END)
  pure (case_of value (arms_of arms.0) arms.1)

-- behind `while`: expr "do" stmt
unfoldable pub while_behind : Reader ExprShape → Reader StmtShape → Reader StmtShape
while_behind e s = do
  test ← test_before e DO
  x ← s
  pure (while_do test x)

-- behind `repeat`: stmts ("until" expr | "forever")
unfoldable pub repeat_behind : Reader ExprShape → Reader StmtShape → Reader StmtShape
repeat_behind e s = do
  ss ← stmts_with s
  branch (as_word UNTIL) (λ t. do
    test ← e
    pure (repeat_until (stmts_of ss) test)) (do
      t ← take_as (as_word FOREVER)
      pure (repeat_forever (stmts_of ss)))

-- behind `for`: name ":=" expr ("to" | "downto") expr "do" stmt
unfoldable pub for_behind : Reader ExprShape → Reader StmtShape → Reader StmtShape
for_behind e s = do
  h ← for_head e
  x ← s
  pure (for_do h.0 h.1 h.2 h.3 x)

-- behind `cobegin`: stmts "coend"
unfoldable pub cobegin_behind : Reader StmtShape → Reader StmtShape
cobegin_behind s = do
  ss ← stmts_with s
  t ← take_as (as_word COEND)
  pure (cobegin (stmts_of ss))

-- behind `accept`: name [formals] ["do" stmt]
unfoldable pub accept_behind : Reader StmtShape → Reader AcceptShape
accept_behind s = do
  h ← accept_head
  branch (as_word DO) (λ t. do
    x ← s
    pure (accept_do h.0 h.1 x)) (pure (accept h.0 h.1))

-- accept | desig "!" expr | desig "?" desig, and where it is not replicated also "timeout" expr | "terminate"
unfoldable pub comm_with : Reader ExprShape → Reader StmtShape → Bool → Reader CommShape
comm_with e s replicated = branch (as_word ACCEPT) (λ t. do
  a ← accept_behind s
  pure (comm_accept a)) (comm_plain e replicated)

-- alt = [spread] ["when" expr "=>"] (accept | desig "!" expr | desig "?" desig) {";" stmt}
--     | ["when" expr "=>"] ("timeout" expr | "terminate") {";" stmt}
unfoldable pub alt_with : Reader ExprShape → Reader StmtShape → Reader AltShape
alt_with e s = do
  h ← alt_head e
  c ← comm_with e s (is_some h.0)
  ss ← many (as_sign SEMICOLON) (λ t. s)
  pure (alt h.0 h.1 c (stmts_of ss))

-- behind `select`: alt {"or" alt} ["else" stmts] "end"
unfoldable pub select_behind : Reader ExprShape → Reader StmtShape → Bool → Reader StmtShape
select_behind e s pri = do
  alts ← list_of (as_word OR) (alt_with e s)
  branch (as_word ELSE) (λ t. do
    ss ← stmts_with s
    u ← take_as (as_word END)
    pure (select_else pri (alts_of alts) (stmts_of ss))) (do
      t ← take_as (as_word END)
      pure (select pri (alts_of alts)))

-- the statements of the last forms: body | accept | ["pri"] "select" .. | desig .., or no symbol
unfoldable pub stmt_second : Reader ExprShape → Reader StmtShape → Reader StmtShape
stmt_second e s = branch (as_word COBEGIN) (λ t. cobegin_behind s) (branch (as_word ACCEPT) (λ t. do
  a ← accept_behind s
  pure (accepting a)) (branch (as_word REQUEUE) (λ t. requeue_behind e) (branch (as_word PRI) (λ t. do
    u ← take_as (as_word SELECT)
    select_behind e s true) (branch (as_word SELECT) (λ t. select_behind e s false) (branch as_name (action_behind e) (pure empty))))))

-- stmt = [ "null" | body | "if" expr "then" stmt ["else" stmt]
--        | "case" expr "of" arm {";" arm} [";"] "end"
--        | "while" expr "do" stmt | "repeat" stmts ("until" expr | "forever")
--        | "for" name ":=" expr ("to" | "downto") expr "do" stmt
--        | "cobegin" stmts "coend" | accept | "requeue" name [actuals]
--        | ["pri"] "select" alt {"or" alt} ["else" stmts] "end"
--        | desig (":=" expr | "!" expr | "?" desig | [actuals]) ]
unfoldable pub stmt_with : Reader ExprShape → Reader StmtShape → Reader StmtShape
stmt_with e s = branch (as_word NULL) (λ t. pure null) (branch (as_word BEGIN) (λ t. do
  b ← body_behind s
  pure (block b)) (branch (as_word IF) (λ t. if_behind e s) (branch (as_word CASE) (λ t. case_behind e s) (branch (as_word WHILE) (λ t. while_behind e s)
    (branch (as_word REPEAT) (λ t. repeat_behind e s) (branch (as_word FOR) (λ t. for_behind e s) (stmt_second e s)))))))

-- a statement where n levels are left, of which it takes one; one that is empty has no symbol
unfoldable pub stmt_at : ℕ → Reader StmtShape
stmt_at zero = choose begins_stmt stop_deep (pure empty)
stmt_at (suc n) = stmt_with (expr_at n) (stmt_at n)
