-- What statements write. Each clause is one line of the grammar, which stands above it.
use Rattle.std.specs.Prelude.{Bool, true, false, Option, Some, None, List, [], ◌∷◌, ◌++◌}
use Rattle.pfc_base.specs.declared.tokens.Kind.TheVariants.{Word, Sign, Name}
use Rattle.pfc_base.specs.declared.word.TheConstants.{ACCEPT, BEGIN, CASE, COBEGIN, COEND, DO, DOWNTO, ELSE, END, FOR, FOREVER, IF, NULL, OF, OR, PRI, REPEAT}
use Rattle.pfc_base.specs.declared.word.TheConstants.{REPLICATE, REQUEUE, SELECT, TERMINATE, THEN, TIMEOUT, TO, UNTIL, WHEN, WHILE}
use Rattle.pfc_base.specs.declared.sign.TheConstants.{BECOMES, SEMICOLON, COLON, SEND, RECEIVE, ARROW}
use Rattle.pfc_tree.specs.Symbols.{Symbol}
use Rattle.pfc_tree.specs.shapes.Exprs.{ExprShape}
use Rattle.pfc_tree.specs.shapes.Stmts.{SpreadShape, StmtShape, StmtShapes, BodyShape, ArmShape, ArmShapes, AcceptShape, AltShape, AltShapes, CommShape, empty}
use Rattle.pfc_tree.specs.shapes.Stmts.{null, block, if_then, if_then_else, case_of, while_do, repeat_until, repeat_forever, for_do, cobegin, accepting}
use Rattle.pfc_tree.specs.shapes.Stmts.{requeue, select, select_else, assign, send, receive, call, no_stmts, more_stmts, body, arm, no_arms, more_arms, accept}
use Rattle.pfc_tree.specs.shapes.Stmts.{accept_do, alt, no_alts, more_alts, comm_accept, comm_send, comm_receive, timeout, terminate}
use Rattle.pfc_tree.specs.tokens.Exprs.{expr_tokens, desig_tokens, actuals_tokens}
use Rattle.pfc_tree.specs.tokens.Types.{constant_tokens, constants_tokens, last_tokens, formals_tokens}

-- "to" | "downto"
abbrev pub direction_symbol : Bool → Symbol
direction_symbol false = Word TO
direction_symbol true = Word DOWNTO

-- ["pri"]
abbrev pub pri_tokens : Bool → List Symbol
pri_tokens false = []
pri_tokens true = Word PRI ∷ []

-- spread = "for" name ":=" constant "to" constant "replicate"
abbrev pub spread_tokens : SpreadShape → List Symbol
spread_tokens r = Word FOR ∷ Name r.name ∷ Sign BECOMES ∷ constant_tokens r.low ++ Word TO ∷ constant_tokens r.high ++ Word REPLICATE ∷ []

-- [spread]
abbrev pub replication_tokens : Option SpreadShape → List Symbol
replication_tokens None = []
replication_tokens (Some r) = spread_tokens r

-- ["when" expr "=>"]
abbrev pub guard_tokens : Option ExprShape → List Symbol
guard_tokens None = []
guard_tokens (Some e) = Word WHEN ∷ expr_tokens e ++ Sign ARROW ∷ []

abbrev mutual
  -- stmt = [ "null" | body | "if" expr "then" stmt ["else" stmt]
  --        | "case" expr "of" arm {";" arm} [";"] "end"
  --        | "while" expr "do" stmt | "repeat" stmts ("until" expr | "forever")
  --        | "for" name ":=" expr ("to" | "downto") expr "do" stmt
  --        | "cobegin" stmts "coend" | accept | "requeue" name [actuals]
  --        | ["pri"] "select" alt {"or" alt} ["else" stmts] "end"
  --        | desig (":=" expr | "!" expr | "?" desig | [actuals]) ]
  pub stmt_tokens : StmtShape → List Symbol
  stmt_tokens empty = []
  stmt_tokens null = Word NULL ∷ []
  stmt_tokens (block b) = body_tokens b
  stmt_tokens (if_then e s) = Word IF ∷ expr_tokens e ++ Word THEN ∷ stmt_tokens s
  stmt_tokens (if_then_else e s t) = Word IF ∷ expr_tokens e ++ Word THEN ∷ stmt_tokens s ++ Word ELSE ∷ stmt_tokens t
  stmt_tokens (case_of e arms last) = Word CASE ∷ expr_tokens e ++ Word OF ∷ arms_tokens arms ++ last_tokens last ++ Word END ∷ []
  stmt_tokens (while_do e s) = Word WHILE ∷ expr_tokens e ++ Word DO ∷ stmt_tokens s
  stmt_tokens (repeat_until ss e) = Word REPEAT ∷ stmts_tokens ss ++ Word UNTIL ∷ expr_tokens e
  stmt_tokens (repeat_forever ss) = Word REPEAT ∷ stmts_tokens ss ++ Word FOREVER ∷ []
  stmt_tokens (for_do x from down to s) =
      Word FOR ∷ Name x ∷ Sign BECOMES ∷ expr_tokens from ++ direction_symbol down ∷ expr_tokens to ++ Word DO ∷ stmt_tokens s
  stmt_tokens (cobegin ss) = Word COBEGIN ∷ stmts_tokens ss ++ Word COEND ∷ []
  stmt_tokens (accepting a) = Word ACCEPT ∷ accept_tokens a
  stmt_tokens (requeue x args) = Word REQUEUE ∷ Name x ∷ actuals_tokens args
  stmt_tokens (select pri alts) = pri_tokens pri ++ Word SELECT ∷ alts_tokens alts ++ Word END ∷ []
  stmt_tokens (select_else pri alts ss) = pri_tokens pri ++ Word SELECT ∷ alts_tokens alts ++ Word ELSE ∷ stmts_tokens ss ++ Word END ∷ []
  stmt_tokens (assign d e) = desig_tokens d ++ Sign BECOMES ∷ expr_tokens e
  stmt_tokens (send d e) = desig_tokens d ++ Sign SEND ∷ expr_tokens e
  stmt_tokens (receive d v) = desig_tokens d ++ Sign RECEIVE ∷ desig_tokens v
  stmt_tokens (call d args) = desig_tokens d ++ actuals_tokens args

  -- stmts = stmt {";" stmt}
  pub stmts_tokens : StmtShapes → List Symbol
  stmts_tokens no_stmts = []
  stmts_tokens (more_stmts s ss) = stmt_tokens s ++ semicolon_stmts_tokens ss

  pub semicolon_stmts_tokens : StmtShapes → List Symbol
  semicolon_stmts_tokens no_stmts = []
  semicolon_stmts_tokens (more_stmts s ss) = Sign SEMICOLON ∷ stmt_tokens s ++ semicolon_stmts_tokens ss

  -- body = "begin" stmts "end"
  pub body_tokens : BodyShape → List Symbol
  body_tokens (body ss) = Word BEGIN ∷ stmts_tokens ss ++ Word END ∷ []

  -- arm = constant {"," constant} ":" stmt
  pub arm_tokens : ArmShape → List Symbol
  arm_tokens (arm labels s) = constants_tokens labels ++ Sign COLON ∷ stmt_tokens s

  -- arm {";" arm}
  pub arms_tokens : ArmShapes → List Symbol
  arms_tokens no_arms = []
  arms_tokens (more_arms a arms) = arm_tokens a ++ semicolon_arms_tokens arms

  pub semicolon_arms_tokens : ArmShapes → List Symbol
  semicolon_arms_tokens no_arms = []
  semicolon_arms_tokens (more_arms a arms) = Sign SEMICOLON ∷ arm_tokens a ++ semicolon_arms_tokens arms

  -- accept = "accept" name [formals] ["do" stmt], of which these are the tokens behind `accept`
  pub accept_tokens : AcceptShape → List Symbol
  accept_tokens (accept x gs) = Name x ∷ formals_tokens gs
  accept_tokens (accept_do x gs s) = Name x ∷ formals_tokens gs ++ Word DO ∷ stmt_tokens s

  -- alt = [spread] ["when" expr "=>"] (accept | desig "!" expr | desig "?" desig) {";" stmt}
  --     | ["when" expr "=>"] ("timeout" expr | "terminate") {";" stmt}
  pub alt_tokens : AltShape → List Symbol
  alt_tokens (alt spread guard c ss) = replication_tokens spread ++ guard_tokens guard ++ comm_tokens c ++ semicolon_stmts_tokens ss

  pub comm_tokens : CommShape → List Symbol
  comm_tokens (comm_accept a) = Word ACCEPT ∷ accept_tokens a
  comm_tokens (comm_send d e) = desig_tokens d ++ Sign SEND ∷ expr_tokens e
  comm_tokens (comm_receive d v) = desig_tokens d ++ Sign RECEIVE ∷ desig_tokens v
  comm_tokens (timeout e) = Word TIMEOUT ∷ expr_tokens e
  comm_tokens terminate = Word TERMINATE ∷ []

  -- alt {"or" alt}
  pub alts_tokens : AltShapes → List Symbol
  alts_tokens no_alts = []
  alts_tokens (more_alts a alts) = alt_tokens a ++ or_alts_tokens alts

  pub or_alts_tokens : AltShapes → List Symbol
  or_alts_tokens no_alts = []
  or_alts_tokens (more_alts a alts) = Word OR ∷ alt_tokens a ++ or_alts_tokens alts
