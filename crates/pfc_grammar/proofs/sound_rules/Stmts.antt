-- The readers of statements read lawful ones.
use Rattle.std.proofs.Common.{◌≡◌, ℕ, zero, suc, List, [], ◌∷◌, ◌++◌, Bool, true, false, ◌||◌, ◌&&◌, Option, Some, None, is_some, refl, sym, ap, subst, ◌∙◌}
use Rattle.std.proofs.Common.{append_assoc, append-nil}
use Rattle.pfc_base.specs.declared.tokens.Kind.TheVariants.{Word, Sign, Name, Literal}
use Rattle.pfc_base.specs.declared.word.TheConstants.{ACCEPT, BEGIN, CASE, COBEGIN, COEND, DO, ELSE, END, FOR, FOREVER, IF, NULL, OF, OR, PRI, REPEAT}
use Rattle.pfc_base.specs.declared.word.TheConstants.{REPLICATE, REQUEUE, SELECT, TERMINATE, THEN, TIMEOUT, TO, UNTIL, WHEN, WHILE}
use Rattle.pfc_base.specs.declared.sign.TheConstants.{BECOMES, COMMA, SEMICOLON, COLON, SEND, RECEIVE, ARROW}
use Rattle.pfc_tree.specs.Symbols.{Symbol, Text}
use Rattle.pfc_tree.specs.shapes.Exprs.{ExprShape, literal, desig, no_selectors, no_actuals}
use Rattle.pfc_tree.specs.shapes.Types as type_shape
use Rattle.pfc_tree.specs.shapes.Types.{ConstantShape, GroupShape}
use Rattle.pfc_tree.specs.shapes.Stmts.{SpreadShape, StmtShape, StmtShapes, ArmShape, AcceptShape, AltShape, AltShapes, CommShape, empty, null, block, if_then}
use Rattle.pfc_tree.specs.shapes.Stmts.{if_then_else, case_of, while_do, repeat_until, repeat_forever, for_do, cobegin, accepting, requeue, select, select_else}
use Rattle.pfc_tree.specs.shapes.Stmts.{assign, send, receive, call, no_stmts, more_stmts, body, arm, no_arms, more_arms, accept, accept_do, alt, no_alts}
use Rattle.pfc_tree.specs.shapes.Stmts.{more_alts, comm_accept, comm_send, comm_receive, timeout, terminate}
use Rattle.pfc_tree.specs.tokens.Exprs.{expr_tokens}
use Rattle.pfc_tree.specs.tokens.Types.{constant_tokens, constants_tokens, last_tokens, formals_tokens}
use Rattle.pfc_tree.specs.tokens.Stmts.{direction_symbol, pri_tokens, spread_tokens, replication_tokens, guard_tokens, stmt_tokens, stmts_tokens}
use Rattle.pfc_tree.specs.tokens.Stmts.{semicolon_stmts_tokens, body_tokens, arm_tokens, arms_tokens, semicolon_arms_tokens, accept_tokens, alt_tokens}
use Rattle.pfc_tree.specs.tokens.Stmts.{comm_tokens, alts_tokens, or_alts_tokens}
use Rattle.pfc_tree.specs.lawful.Exprs.{IsLawfulExpr}
use Rattle.pfc_tree.specs.lawful.Types.{IsFilled, IsLawfulConstant, AreLawfulConstants, AreLawfulFormals}
use Rattle.pfc_tree.specs.lawful.Stmts.{ends_in_if, accept_ends_in_if, ends_in_expr, accept_ends_in_expr, comm_ends_in_if, comm_ends_in_expr, last_ends_in_if}
use Rattle.pfc_tree.specs.lawful.Stmts.{last_ends_in_expr, alt_ends_in_if, alt_ends_in_expr, alts_end_in_if, IsLawfulSpread, IsReplicable, MayStandBehind}
use Rattle.pfc_tree.specs.lawful.Stmts.{IsLawfulGuard, IsLawfulStmt, HasLawfulStmts, AreLawfulStmts, IsLawfulBody, IsLawfulArm, HasLawfulArms, AreLawfulArms}
use Rattle.pfc_tree.specs.lawful.Stmts.{IsLawfulAccept, IsLawfulAlt, IsLawfulComm, HasLawfulAlts, AreLawfulAlts}
use Rattle.pfc_grammar.specs.Reading.{Reader, many}
use Rattle.pfc_grammar.specs.Heads.{as_word, as_sign, as_name, takes, is_word, begins_stmt}
use Rattle.pfc_grammar.specs.grammar.Exprs.{expr_at}
use Rattle.pfc_grammar.specs.grammar.Stmts.{stmts_of, arms_of, alts_of, test_before, for_head, accept_head, labels, spread_behind, replication, guard, alt_head}
use Rattle.pfc_grammar.specs.grammar.Stmts.{requeue_behind, action_behind, comm_behind, message, message_or_wait, comm_plain, stmts_with, body_behind}
use Rattle.pfc_grammar.specs.grammar.Stmts.{body_with, if_behind, arm_with, case_behind, while_behind, repeat_behind, for_behind, cobegin_behind, accept_behind}
use Rattle.pfc_grammar.specs.grammar.Stmts.{comm_with, alt_with, select_behind, stmt_second, stmt_with, stmt_at}
use Rattle.pfc_grammar.proofs.Lists.{none, or-left, or-right, or-both, or_else, flat, flat-snoc, separated, Each, each-snoc, Chain, behind_last, shift}
use Rattle.pfc_grammar.proofs.Sound.{Sound, Goes, here, sound_pure, sound_stop, sound_any, sound_less, sound_bind, sound_bind_at, sound_last, sound_level}
use Rattle.pfc_grammar.proofs.SoundLoops.{sound_behind, sound_bind_behind, sound_many_onto, sound_separated, sound_ended, last_of, Filled}
use Rattle.pfc_grammar.proofs.Heads.{word_is, sign_is, name_is, direction_is, taken, word_was, sound_on, sound_next, sound_word, sound_sign, sound_name}
use Rattle.pfc_grammar.proofs.Heads.{sound_on_word, sound_on_sign}
use Rattle.pfc_grammar.proofs.sound_rules.Exprs.{chain_filled, free, is_or, expr_of, sound_desig_behind, sound_desig, sound_actuals, sound_expr_at}
use Rattle.pfc_grammar.proofs.sound_rules.Types.{filled, constants_written, constants_lawful, sound_constant, sound_formals}

-- no `else` behind what ends in an `if`, and no `or` behind what ends in an expression
abbrev pub behind : Bool → Bool → Symbol → Bool
behind i e s = (i && is_word ELSE s) || (e && is_word OR s)

abbrev pub stmt_behind : StmtShape → Symbol → Bool
stmt_behind x = behind (ends_in_if x) (ends_in_expr x)

abbrev pub accept_tail : AcceptShape → Symbol → Bool
accept_tail a = behind (accept_ends_in_if a) (accept_ends_in_expr a)

abbrev pub comm_tail : CommShape → Symbol → Bool
comm_tail c = behind (comm_ends_in_if c) (comm_ends_in_expr c)

abbrev pub alt_tail : AltShape → Symbol → Bool
alt_tail a = behind (alt_ends_in_if a) (alt_ends_in_expr a)

some_takes : {O : Type 0} (c : Option O) → is_some c ≡ takes c
some_takes (Some o) = refl
some_takes None = refl

-- at an `else`
at_else : (i e : Bool) → ((i && true) || (e && false)) ≡ false → i ≡ false
at_else true true q = q
at_else true false q = q
at_else false e q = refl

at_or : (i e : Bool) → ((i && false) || (e && true)) ≡ false → e ≡ false
at_or true true q = q
at_or true false q = refl
at_or false true q = q
at_or false false q = refl

-- behind an `if` without `else`
if_behind_set : (i e : Bool) (s : Symbol) → (behind i e s || is_some (as_word ELSE s)) ≡ false → behind true e s ≡ false
if_behind_set i e s q = or-both (is_word ELSE s) (e && is_word OR s) (sym (some_takes (as_word ELSE s)) ∙ or-right (behind i e s) (is_some (as_word ELSE s)) q)
    (or-right (i && is_word ELSE s) (e && is_word OR s) (or-left (behind i e s) (is_some (as_word ELSE s)) q))

-- What lists of shapes write, and when they are lawful.
semicolon_stmts_written : (ss : List StmtShape) → semicolon_stmts_tokens (stmts_of ss) ≡ flat (λ s. Sign SEMICOLON ∷ stmt_tokens s) ss
semicolon_stmts_written [] = refl
semicolon_stmts_written (s ∷ ss) = ap (λ z. (Sign SEMICOLON ∷ stmt_tokens s) ++ z) (semicolon_stmts_written ss)

stmts_written : (ss : List StmtShape) → stmts_tokens (stmts_of ss) ≡ separated (Sign SEMICOLON) stmt_tokens ss
stmts_written [] = refl
stmts_written (s ∷ ss) = ap (λ z. stmt_tokens s ++ z) (semicolon_stmts_written ss)

each_stmt : (ss : List StmtShape) → Each IsLawfulStmt ss → AreLawfulStmts (stmts_of ss)
each_stmt [] l = tt
each_stmt (s ∷ ss) l = (l.0, each_stmt ss l.1)

filled_stmts : (ss : List StmtShape) → Filled IsLawfulStmt ss → HasLawfulStmts (stmts_of ss)
filled_stmts [] l = absurd l
filled_stmts (s ∷ ss) l = (l.0, each_stmt ss l.1)

abbrev pub StmtChain : List StmtShape → Type 0
StmtChain = Chain (Sign SEMICOLON) stmt_behind IsLawfulStmt

pub stmts_lawful : (ss : List StmtShape) → StmtChain ss → HasLawfulStmts (stmts_of ss)
stmts_lawful ss l = filled_stmts ss (chain_filled (Sign SEMICOLON) stmt_behind IsLawfulStmt ss l)

semicolon_arms_written : (arms : List ArmShape) → semicolon_arms_tokens (arms_of arms) ≡ flat (λ a. Sign SEMICOLON ∷ arm_tokens a) arms
semicolon_arms_written [] = refl
semicolon_arms_written (a ∷ arms) = ap (λ z. (Sign SEMICOLON ∷ arm_tokens a) ++ z) (semicolon_arms_written arms)

arms_written : (arms : List ArmShape) → arms_tokens (arms_of arms) ≡ separated (Sign SEMICOLON) arm_tokens arms
arms_written [] = refl
arms_written (a ∷ arms) = ap (λ z. arm_tokens a ++ z) (semicolon_arms_written arms)

each_arm : (arms : List ArmShape) → Each IsLawfulArm arms → AreLawfulArms (arms_of arms)
each_arm [] l = tt
each_arm (a ∷ arms) l = (l.0, each_arm arms l.1)

filled_arms : (arms : List ArmShape) → Filled IsLawfulArm arms → HasLawfulArms (arms_of arms)
filled_arms [] l = absurd l
filled_arms (a ∷ arms) l = (l.0, each_arm arms l.1)

or_alts_written : (alts : List AltShape) → or_alts_tokens (alts_of alts) ≡ flat (λ a. Word OR ∷ alt_tokens a) alts
or_alts_written [] = refl
or_alts_written (a ∷ alts) = ap (λ z. (Word OR ∷ alt_tokens a) ++ z) (or_alts_written alts)

alts_written : (alts : List AltShape) → alts_tokens (alts_of alts) ≡ separated (Word OR) alt_tokens alts
alts_written [] = refl
alts_written (a ∷ alts) = ap (λ z. alt_tokens a ++ z) (or_alts_written alts)

abbrev AltChain : List AltShape → Type 0
AltChain = Chain (Word OR) alt_tail IsLawfulAlt

-- the alternatives behind the first
rest_lawful : (alts : List AltShape) → AltChain alts → AreLawfulAlts (alts_of alts)
rest_lawful [] l = absurd l
rest_lawful (a ∷ []) l = (l, tt, tt)
rest_lawful (a ∷ (b ∷ bs)) l = (l.0, at_or (alt_ends_in_if a) (alt_ends_in_expr a) l.1, rest_lawful (b ∷ bs) l.2)

alts_lawful : (alts : List AltShape) → AltChain alts → HasLawfulAlts (alts_of alts)
alts_lawful [] l = absurd l
alts_lawful (a ∷ []) l = (l, tt, tt)
alts_lawful (a ∷ (b ∷ bs)) l = (l.0, at_or (alt_ends_in_if a) (alt_ends_in_expr a) l.1, rest_lawful (b ∷ bs) l.2)

-- where `else` stands behind alternatives, the last does not end in an `if`
else_behind : (alts : List AltShape) → behind_last alt_tail alts (Word ELSE) ≡ false → alts_end_in_if (alts_of alts) ≡ false
else_behind [] q = refl
else_behind (a ∷ []) q = at_else (alt_ends_in_if a) (alt_ends_in_expr a) q
else_behind (a ∷ (b ∷ bs)) q = else_behind (b ∷ bs) q

-- one more statement behind
last_if-snoc : (b : Bool) (ss : List StmtShape) (s : StmtShape) → last_ends_in_if b (stmts_of (ss ++ s ∷ [])) ≡ ends_in_if s
last_if-snoc b [] s = refl
last_if-snoc b (x ∷ ss) s = last_if-snoc (ends_in_if x) ss s

last_expr-snoc : (b : Bool) (ss : List StmtShape) (s : StmtShape) → last_ends_in_expr b (stmts_of (ss ++ s ∷ [])) ≡ ends_in_expr s
last_expr-snoc b [] s = refl
last_expr-snoc b (x ∷ ss) s = last_expr-snoc (ends_in_expr x) ss s

abbrev ForHead : Type 0
ForHead = Text × ExprShape × Bool × ExprShape

abbrev for_head_tokens : ForHead → List Symbol
for_head_tokens h = Name h.0 ∷ Sign BECOMES ∷ ((expr_tokens h.1 ++ (direction_symbol h.2 ∷ expr_tokens h.3)) ++ (Word DO ∷ []))

abbrev accept_head_tokens : Text × List GroupShape → List Symbol
accept_head_tokens h = Name h.0 ∷ formals_tokens h.1

abbrev label_tokens : List ConstantShape → List Symbol
label_tokens cs = constants_tokens cs ++ (Sign COLON ∷ [])

sound_accept_head : Sound accept_head_tokens (λ h. AreLawfulFormals h.1) free none here accept_head
unfolding accept_head
sound_accept_head = sound_name (λ x. sound_last (λ gs. (x, gs)) sound_formals (λ gs m. refl) (λ gs m. m) (λ gs m s q. refl))

sound_labels : Sound label_tokens (λ cs. IsFilled cs × AreLawfulConstants cs) free none here labels
unfolding labels
sound_labels = sound_bind (sound_separated (Sign COMMA) (as_sign COMMA) sound_constant (sign_is COMMA))
    (λ cs l. sound_sign COLON (λ u. sound_pure cs (ap (λ z. z ++ (Sign COLON ∷ [])) (constants_written cs)) (
      filled IsLawfulConstant cs (chain_filled (Sign COMMA) free IsLawfulConstant cs l),
      constants_lawful cs
          (chain_filled (Sign COMMA) free IsLawfulConstant cs l),
    ) (λ s q. refl)))

sound_spread : Sound spread_tokens (λ r. IsLawfulConstant r.low × IsLawfulConstant r.high) free none (λ k. Word FOR ∷ k) spread_behind
unfolding spread_behind
sound_spread = sound_name
    (λ x. sound_sign BECOMES
    (λ u. sound_bind sound_constant
    (λ low l. sound_word TO (λ v. sound_bind sound_constant (λ high m. sound_word REPLICATE (λ w. sound_pure (record { name = x; low = low; high = high })
    (ap (λ z. Word FOR ∷ Name x ∷ Sign BECOMES ∷ z) (append_assoc (constant_tokens low) (Word TO ∷ constant_tokens high) (Word REPLICATE ∷ []))) (l, m)
    (λ s q. refl)))))))

sound_replication : {t : Symbol → Bool} → Sound replication_tokens IsLawfulSpread free t here replication
unfolding replication
sound_replication = sound_on_word FOR (λ u n. sound_bind_behind (Word FOR) here sound_spread (λ r l. sound_pure (Some r) (sym (append-nil (spread_tokens r))) l
    (λ s q. refl))) (sound_pure None refl tt (λ s q. refl))

abbrev alt_head_tokens : Option SpreadShape × Option ExprShape → List Symbol
alt_head_tokens h = replication_tokens h.0 ++ guard_tokens h.1

-- what is waited for behind a spread, or without one
abbrev IsLawfulBehind : Option SpreadShape → CommShape → Type 0
IsLawfulBehind r c = MayStandBehind r c × IsLawfulComm c

accept_behind_any : (r : Option SpreadShape) (a : AcceptShape) → MayStandBehind r (comm_accept a)
accept_behind_any None a = tt
accept_behind_any (Some r) a = tt

-- With a reader of expressions.
module _ (e : Reader ExprShape) (he : Sound expr_tokens IsLawfulExpr is_or none here e) where
  sound_test : {t : Symbol → Bool} (w : ℕ) → Sound (λ x. expr_tokens x ++ (Word w ∷ [])) IsLawfulExpr free t here (test_before e w)
  unfolding test_before
  sound_test w = sound_bind he (λ x l. sound_word w (λ u. sound_pure x refl l (λ s q. refl)))

  sound_for_head : Sound for_head_tokens (λ h. IsLawfulExpr h.1 × IsLawfulExpr h.3) free none here (for_head e)
  unfolding for_head
  sound_for_head = sound_name
      (λ x. sound_sign BECOMES
      (λ u. sound_bind he (λ a l. sound_next direction_symbol direction_is true (λ d. sound_bind he (λ b m. sound_word DO (λ v. sound_pure (x, a, d, b)
      (ap (λ z. Name x ∷ Sign BECOMES ∷ z) (append_assoc (expr_tokens a) (direction_symbol d ∷ expr_tokens b) (Word DO ∷ []))) (l, m) (λ s q. refl)))))))

  sound_guard : {t : Symbol → Bool} → Sound guard_tokens IsLawfulGuard free t here (guard e)
  unfolding guard
  sound_guard = sound_on_word WHEN (λ u n. sound_bind he (λ x l. sound_sign ARROW (λ v. sound_pure (Some x) refl l (λ s q. refl))))
      (sound_pure None refl tt (λ s q. refl))

  sound_alt_head : {t : Symbol → Bool} → Sound alt_head_tokens (λ h. IsLawfulSpread h.0 × IsLawfulGuard h.1) free t here (alt_head e)
  unfolding alt_head
  sound_alt_head = sound_bind sound_replication (λ r l. sound_last (λ g. (r, g)) sound_guard (λ g m. refl) (λ g m. (l, m)) (λ g m s q. refl))

  sound_requeue : Sound stmt_tokens IsLawfulStmt stmt_behind none (λ k. Word REQUEUE ∷ k) (requeue_behind e)
  unfolding requeue_behind
  sound_requeue = sound_name (λ x. sound_last (λ args. requeue x args) (sound_actuals e he) (λ args m. refl) (λ args m. m) (λ args m s q. refl))

  sound_action : (x : Text) → Sound stmt_tokens IsLawfulStmt stmt_behind none (λ k. Name x ∷ k) (action_behind e x)
  unfolding action_behind
  sound_action x = sound_bind_behind (Name x) here (sound_desig_behind e he x)
      (λ d l. sound_on_sign BECOMES (λ u n. sound_last (λ v. assign d v) he (λ v m. refl) (λ v m. (l, m)) (λ v m s q. q))
      (sound_on_sign SEND (λ u n. sound_last (λ v. send d v) he (λ v m. refl) (λ v m. (l, m)) (λ v m s q. q))
      (sound_on_sign RECEIVE (λ u n. sound_last (λ v. receive d v) (sound_desig e he) (λ v m. refl) (λ v m. (l, m)) (λ v m s q. refl))
      (sound_last (λ args. call d args) (sound_actuals e he) (λ args m. refl) (λ args m. (l, m)) (λ args m s q. refl)))))

  sound_comm_behind : (x : Text) → Sound comm_tokens (λ c. IsReplicable c × IsLawfulComm c) comm_tail none (λ k. Name x ∷ k) (comm_behind e x)
  unfolding comm_behind
  sound_comm_behind x =
      sound_bind_behind (Name x) here (sound_desig_behind e he x)
      (λ d l. sound_on_sign SEND (λ u n. sound_last (λ v. comm_send d v) he (λ v m. refl) (λ v m. (tt, (l, m))) (λ v m s q. q))
      (sound_sign RECEIVE (λ u. sound_last (λ v. comm_receive d v) (sound_desig e he) (λ v m. refl) (λ v m. (tt, (l, m))) (λ v m s q. refl))))

  sound_message : {t : Symbol → Bool} → Sound comm_tokens (λ c. IsReplicable c × IsLawfulComm c) comm_tail t here (message e)
  unfolding message
  sound_message = sound_on Name name_is (λ x n. sound_comm_behind x) (sound_stop (record {
    whole = comm_accept (accept [] []);
    more =
        Word ACCEPT ∷ Name [] ∷ [];
    lawful = (tt, tt);
    writes = refl;
  }))

  sound_message_or_wait : {t : Symbol → Bool} → Sound comm_tokens IsLawfulComm comm_tail t here (message_or_wait e)
  unfolding message_or_wait
  sound_message_or_wait = sound_on_word TIMEOUT (λ u n. sound_last (λ x. timeout x) he (λ x m. refl) (λ x m. m) (λ x m v q. q))
      (sound_on_word TERMINATE (λ u n. sound_pure terminate refl tt (λ v q. refl)) (sound_less (λ c l. l.1) (λ c v q. q) sound_message))

  sound_comm_plain : {t : Symbol → Bool} (r : Option SpreadShape) → Sound comm_tokens (IsLawfulBehind r) comm_tail t here (comm_plain e (is_some r))
  unfolding comm_plain
  sound_comm_plain None = sound_less (λ c l. (tt, l)) (λ c v q. q) sound_message_or_wait
  sound_comm_plain (Some r) = sound_message

  -- With a reader of statements too.
  module _ (s : Reader StmtShape) (hs : Sound stmt_tokens IsLawfulStmt stmt_behind none here s) where
    sound_stmts : {t : Symbol → Bool} → Sound (separated (Sign SEMICOLON) stmt_tokens) StmtChain free t here (stmts_with s)
    unfolding stmts_with
    sound_stmts {t = t} = sound_any t (sound_less (λ ss l. l) (λ ss u q. refl) (sound_separated (Sign SEMICOLON) (as_sign SEMICOLON) hs (sign_is SEMICOLON)))

    sound_body_behind : Sound body_tokens IsLawfulBody free none (λ k. Word BEGIN ∷ k) (body_behind s)
    unfolding body_behind
    sound_body_behind = sound_bind sound_stmts
        (λ ss l. sound_word END (λ u. sound_pure (body (stmts_of ss)) (ap (λ z. Word BEGIN ∷ (z ++ (Word END ∷ [])))
        (stmts_written ss)) (stmts_lawful ss l) (λ v q. refl)))

    pub sound_body : {t : Symbol → Bool} → Sound body_tokens IsLawfulBody free t here (body_with s)
    unfolding body_with
    sound_body = sound_word BEGIN (λ u. sound_body_behind)

    sound_if : Sound stmt_tokens IsLawfulStmt stmt_behind none (λ k. Word IF ∷ k) (if_behind e s)
    unfolding if_behind
    sound_if = sound_bind (sound_test THEN) (λ c l. sound_bind hs (λ x m. sound_on_word ELSE
        (λ u n. sound_last (λ y. if_then_else c x y) hs (λ y p. ap (λ z. Word IF ∷ z) (shift (expr_tokens c) (Word THEN) (stmt_tokens x)
        (Word ELSE ∷ stmt_tokens y))) (λ y p. (l, m, at_else (ends_in_if x) (ends_in_expr x) n, p)) (λ y p v q. q))
        (sound_pure (if_then c x) (ap (λ z. Word IF ∷ z) (sym (append-nil (expr_tokens c ++ (Word THEN ∷ stmt_tokens x))) ∙
        shift (expr_tokens c) (Word THEN) (stmt_tokens x) [])) (l, m) (λ v q. if_behind_set (ends_in_if x) (ends_in_expr x) v q))))

    sound_arm : Sound arm_tokens IsLawfulArm free none here (arm_with s)
    unfolding arm_with
    sound_arm = sound_bind sound_labels
        (λ cs l. sound_last (λ x. arm cs x) hs (λ x m. sym (append_assoc (constants_tokens cs) (Sign COLON ∷ []) (stmt_tokens x)))
        (λ x m. (l.0, l.1, m)) (λ x m v q. refl))

    sound_case : Sound stmt_tokens IsLawfulStmt stmt_behind none (λ k. Word CASE ∷ k) (case_behind e s)
    unfolding case_behind
    sound_case = sound_bind (sound_test OF) (λ c l. sound_bind (sound_ended (Sign SEMICOLON) (as_sign SEMICOLON) (is_word END) sound_arm (sign_is SEMICOLON))
        (λ p m. sound_word END (λ u. sound_pure (case_of c (arms_of p.0) p.1)
        (case_written c p.0 p.1) (l, filled_arms p.0 m) (λ v q. refl))))
      where
        last_is : (b : Bool) → last_tokens b ≡ last_of (Sign SEMICOLON) b
        last_is true = refl
        last_is false = refl

        case_written : (c : ExprShape) (arms : List ArmShape) (b : Bool) →
            stmt_tokens (case_of c (arms_of arms) b) ≡ Word CASE ∷
            ((expr_tokens c ++ (Word OF ∷ [])) ++ ((separated (Sign SEMICOLON) arm_tokens arms ++ last_of (Sign SEMICOLON) b) ++ (Word END ∷ [])))
        case_written c arms b = ap (λ z. Word CASE ∷ (((expr_tokens c ++ (Word OF ∷ z)) ++ last_tokens b) ++ (Word END ∷ []))) (arms_written arms)
            ∙ ap (λ z. Word CASE ∷ (((expr_tokens c ++ (Word OF ∷ separated (Sign SEMICOLON) arm_tokens arms)) ++ z) ++ (Word END ∷ []))) (last_is b)
            ∙ ap (λ z. Word CASE ∷ (z ++ (Word END ∷ [])))
            (shift (expr_tokens c) (Word OF) (separated (Sign SEMICOLON) arm_tokens arms) (last_of (Sign SEMICOLON) b))
            ∙ ap (λ z. Word CASE ∷ z) (append_assoc (expr_tokens c ++ (Word OF ∷ []))
            (separated (Sign SEMICOLON) arm_tokens arms ++ last_of (Sign SEMICOLON) b) (Word END ∷ []))

    sound_while_do : Sound stmt_tokens IsLawfulStmt stmt_behind none (λ k. Word WHILE ∷ k) (while_behind e s)
    unfolding while_behind
    sound_while_do = sound_bind (sound_test DO) (λ c l. sound_last (λ x. while_do c x) hs
        (λ x m. ap (λ z. Word WHILE ∷ z) (sym (append_assoc (expr_tokens c) (Word DO ∷ []) (stmt_tokens x)))) (λ x m. (l, m)) (λ x m v q. q))

    sound_repeat : Sound stmt_tokens IsLawfulStmt stmt_behind none (λ k. Word REPEAT ∷ k) (repeat_behind e s)
    unfolding repeat_behind
    sound_repeat = sound_bind sound_stmts (λ ss l. sound_on_word UNTIL
        (λ u n. sound_last (λ c. repeat_until (stmts_of ss) c) he (λ c m. ap (λ z. Word REPEAT ∷ (z ++ (Word UNTIL ∷ expr_tokens c))) (stmts_written ss))
        (λ c m. (stmts_lawful ss l, m)) (λ c m v q. q))
        (sound_word FOREVER (λ u. sound_pure (repeat_forever (stmts_of ss)) (ap (λ z. Word REPEAT ∷ (z ++ (Word FOREVER ∷ [])))
        (stmts_written ss)) (stmts_lawful ss l) (λ v q. refl))))

    sound_for : Sound stmt_tokens IsLawfulStmt stmt_behind none (λ k. Word FOR ∷ k) (for_behind e s)
    unfolding for_behind
    sound_for = sound_bind sound_for_head (λ h l. sound_last (λ x. for_do h.0 h.1 h.2 h.3 x) hs
        (λ x m. ap (λ z. Word FOR ∷ Name h.0 ∷ Sign BECOMES ∷ z) (sym (append_assoc (expr_tokens h.1 ++ (direction_symbol h.2 ∷ expr_tokens h.3)) (Word DO ∷ [])
        (stmt_tokens x)))) (λ x m. (l.0, l.1, m)) (λ x m v q. q))

    sound_cobegin : Sound stmt_tokens IsLawfulStmt stmt_behind none (λ k. Word COBEGIN ∷ k) (cobegin_behind s)
    unfolding cobegin_behind
    sound_cobegin = sound_bind sound_stmts
        (λ ss l. sound_word COEND (λ u. sound_pure (cobegin (stmts_of ss)) (ap (λ z. Word COBEGIN ∷ (z ++ (Word COEND ∷ [])))
        (stmts_written ss)) (stmts_lawful ss l) (λ v q. refl)))

    sound_accept : Sound accept_tokens IsLawfulAccept accept_tail none here (accept_behind s)
    unfolding accept_behind
    sound_accept = sound_bind sound_accept_head
        (λ h l. sound_on_word DO (λ u n. sound_last (λ x. accept_do h.0 h.1 x) hs (λ x m. refl) (λ x m. (l, m)) (λ x m v q. q))
        (sound_pure (accept h.0 h.1) (ap (λ z. Name h.0 ∷ z) (sym (append-nil (formals_tokens h.1)))) l (λ v q. refl)))

    sound_comm : {t : Symbol → Bool} (r : Option SpreadShape) → Sound comm_tokens (IsLawfulBehind r) comm_tail t here (comm_with e s (is_some r))
    unfolding comm_with
    sound_comm r = sound_on_word ACCEPT (λ u n. sound_last (λ a. comm_accept a) sound_accept (λ a m. refl) (λ a m. (accept_behind_any r a, m)) (λ a m v q. q))
        (sound_comm_plain r)

    -- the statements behind what an alternative waits for
    abbrev alt_rest : CommShape → List StmtShape → Symbol → Bool
    alt_rest c ss = behind (last_ends_in_if (comm_ends_in_if c) (stmts_of ss)) (last_ends_in_expr (comm_ends_in_expr c) (stmts_of ss))

    sound_alt_rest : (c : CommShape) → Sound (flat (λ x. Sign SEMICOLON ∷ stmt_tokens x)) (Each IsLawfulStmt) (alt_rest c)
        (comm_tail c) here (many (as_sign SEMICOLON) (λ t. s))
    unfolding many
    sound_alt_rest c = sound_less (λ ss l. l) (λ ss v q. or-left _ _ q)
        (sound_many_onto (flat (λ x. Sign SEMICOLON ∷ stmt_tokens x)) (Each IsLawfulStmt) (alt_rest c)
        (λ x. Sign SEMICOLON ∷ stmt_tokens x) IsLawfulStmt stmt_behind (as_sign SEMICOLON) (λ t. s)
        (λ v o q. subst (λ z. Sound (λ x. Sign SEMICOLON ∷ stmt_tokens x) IsLawfulStmt stmt_behind none (λ k. z ∷ k) s)
        (sym (sign_is SEMICOLON v o q)) (sound_behind (Sign SEMICOLON) hs))
        (λ xs i x. flat-snoc (λ x. Sign SEMICOLON ∷ stmt_tokens x) xs x) (λ xs i v o b q x l. each-snoc IsLawfulStmt xs x i l)
        (λ xs x v q. ap (λ z. behind z (last_ends_in_expr (comm_ends_in_expr c) (stmts_of (xs ++ x ∷ []))) v) (last_if-snoc (comm_ends_in_if c) xs x) ∙
        ap (λ z. behind (ends_in_if x) z v) (last_expr-snoc (comm_ends_in_expr c) xs x) ∙ q) [] tt)

    sound_alt : Sound alt_tokens IsLawfulAlt alt_tail none here (alt_with e s)
    unfolding alt_with
    sound_alt = sound_bind sound_alt_head
        (λ h l. sound_bind (sound_comm h.0) (λ c m. sound_bind_at (sound_alt_rest c) (λ ss n. sound_pure (alt h.0 h.1 c (stmts_of ss))
        (append_assoc (alt_head_tokens h) (comm_tokens c) (semicolon_stmts_tokens (stmts_of ss)) ∙
        ap (λ z. alt_head_tokens h ++ (comm_tokens c ++ z)) (semicolon_stmts_written ss ∙ sym (append-nil (flat (λ x. Sign SEMICOLON ∷ stmt_tokens x) ss))))
        (l.0, l.1, m.0, m.1, each_stmt ss n) (λ v q. q))))

    sound_select : (pri : Bool) → Sound stmt_tokens IsLawfulStmt stmt_behind none (λ k. pri_tokens pri ++ (Word SELECT ∷ k)) (select_behind e s pri)
    unfolding select_behind
    sound_select pri = sound_bind (sound_separated (Word OR) (as_word OR) sound_alt (word_is OR)) (λ alts l. sound_on_word ELSE
        (λ u n. sound_bind sound_stmts (λ ss m. sound_word END (λ v. sound_pure (select_else pri (alts_of alts) (stmts_of ss)) (else_written alts ss)
        (alts_lawful alts l, else_behind alts (or-left (behind_last alt_tail alts (Word ELSE)) false n), stmts_lawful ss m) (λ v q. refl))))
        (sound_word END (λ u. sound_pure (select pri (alts_of alts)) (append_assoc (pri_tokens pri) (Word SELECT ∷ alts_tokens (alts_of alts)) (Word END ∷ []) ∙
        ap (λ z. pri_tokens pri ++ (Word SELECT ∷ (z ++ (Word END ∷ [])))) (alts_written alts)) (alts_lawful alts l) (λ v q. refl))))
      where
        else_written : (alts : List AltShape) (ss : List StmtShape) → stmt_tokens (select_else pri (alts_of alts) (stmts_of ss)) ≡ pri_tokens pri ++
            (Word SELECT ∷ (separated (Word OR) alt_tokens alts ++ (Word ELSE ∷ (separated (Sign SEMICOLON) stmt_tokens ss ++ (Word END ∷ [])))))
        else_written alts ss = append_assoc (pri_tokens pri ++ (Word SELECT ∷ alts_tokens (alts_of alts)))
            (Word ELSE ∷ stmts_tokens (stmts_of ss)) (Word END ∷ [])
            ∙ append_assoc (pri_tokens pri) (Word SELECT ∷ alts_tokens (alts_of alts)) (Word ELSE ∷ (stmts_tokens (stmts_of ss) ++ (Word END ∷ [])))
            ∙ ap (λ z. pri_tokens pri ++ (Word SELECT ∷ (z ++ (Word ELSE ∷ (stmts_tokens (stmts_of ss) ++ (Word END ∷ [])))))) (alts_written alts)
            ∙ ap (λ z. pri_tokens pri ++ (Word SELECT ∷ (separated (Word OR) alt_tokens alts ++ (Word ELSE ∷ (z ++ (Word END ∷ [])))))) (stmts_written ss)

    sound_second : {t : Symbol → Bool} → Sound stmt_tokens IsLawfulStmt stmt_behind t here (stmt_second e s)
    unfolding stmt_second
    sound_second = sound_on_word COBEGIN (λ u n. sound_cobegin) (sound_on_word ACCEPT (λ u n. sound_last (λ a. accepting a) sound_accept (λ a m. refl)
        (λ a m. m) (λ a m v q. q)) (sound_on_word REQUEUE (λ u n. sound_requeue)
        (sound_on_word PRI (λ u n. sound_word SELECT (λ v. sound_select true)) (sound_on_word SELECT (λ u n. sound_select false)
        (sound_on Name name_is (λ x n. sound_action x) (sound_pure empty refl tt (λ v q. refl)))))))

    pub sound_stmt_with : {t : Symbol → Bool} → Sound stmt_tokens IsLawfulStmt stmt_behind t here (stmt_with e s)
    unfolding stmt_with
    sound_stmt_with = sound_on_word NULL (λ u n. sound_pure null refl tt (λ v q. refl))
        (sound_on_word BEGIN (λ u n. sound_bind_behind (Word BEGIN) here sound_body_behind
        (λ b l. sound_pure (block b) (sym (append-nil (body_tokens b))) l (λ v q. refl)))
        (sound_on_word IF (λ u n. sound_if) (sound_on_word CASE (λ u n. sound_case) (sound_on_word WHILE (λ u n. sound_while_do)
        (sound_on_word REPEAT (λ u n. sound_repeat) (sound_on_word FOR (λ u n. sound_for) sound_second))))))

-- Each symbol that begins a statement does begin a lawful one.
abbrev Begun : Symbol → Type 0
Begun s = Goes stmt_tokens IsLawfulStmt (λ k. s ∷ k)

-- a statement that begins with the word w
begun_by : (w : ℕ) (s : Symbol) (x : StmtShape) (more : List Symbol) → IsLawfulStmt x → stmt_tokens x ≡ Word w ∷ more → is_word w s ≡ true → Begun s
begun_by w s x more l q e = record { whole = x; more = more; lawful = l; writes = q ∙ ap (λ z. z ∷ more) (sym (word_was w s e)) }

abbrev one : ExprShape
one = expr_of (literal [])

abbrev lawful_one : IsLawfulExpr one
lawful_one = ((tt, tt), tt)

abbrev nothing : StmtShapes
nothing = more_stmts empty no_stmts

abbrev ending : AltShapes
ending = more_alts (alt None None terminate no_stmts) no_alts

begun_stmt : (s : Symbol) → begins_stmt s ≡ true → Begun s
begun_stmt s = or_else _ _
    (or_else _ _ (or_else _ _ (or_else _ _ (or_else _ _ (or_else _ _ (or_else _ _ (or_else _ _ (or_else _ _ (or_else _ _ (or_else _ _ (or_else _ _
    (λ h. record {
      whole = call (desig (taken (as_name s) h).0 no_selectors) no_actuals;
      more = [];
      lawful = (tt, tt);
      writes =
          ap (λ z. z ∷ []) (sym (name_is s (taken (as_name s) h).0 (taken (as_name s) h).1));
    })
    (begun_by NULL s null [] tt refl))
    (begun_by BEGIN s (block (body nothing)) (Word END ∷ []) (tt, tt) refl))
    (begun_by IF s (if_then one empty) (Literal [] ∷ Word THEN ∷ []) (lawful_one, tt) refl))
    (begun_by CASE s (case_of one (more_arms (arm (type_shape.literal [] ∷ []) empty) no_arms) false)
    (Literal [] ∷ Word OF ∷ Literal [] ∷ Sign COLON ∷ Word END ∷ []) (lawful_one, ((tt, (tt, tt), tt), tt)) refl))
    (begun_by WHILE s (while_do one empty) (Literal [] ∷ Word DO ∷ []) (lawful_one, tt) refl))
    (begun_by REPEAT s (repeat_forever nothing) (Word FOREVER ∷ []) (tt, tt) refl))
    (begun_by FOR s (for_do [] one false one empty) (Name [] ∷ Sign BECOMES ∷ Literal [] ∷ Word TO ∷ Literal [] ∷ Word DO ∷
    []) (lawful_one, lawful_one, tt) refl))
    (begun_by COBEGIN s (cobegin nothing) (Word COEND ∷ []) (tt, tt) refl))
    (begun_by ACCEPT s (accepting (accept [] [])) (Name [] ∷ []) tt refl))
    (begun_by REQUEUE s (requeue [] no_actuals) (Name [] ∷ []) tt refl))
    (begun_by PRI s (select true ending) (Word SELECT ∷ Word TERMINATE ∷ Word END ∷ []) ((tt, tt, tt, tt, tt), tt, tt) refl))
    (begun_by SELECT s (select false ending) (Word TERMINATE ∷ Word END ∷ []) ((tt, tt, tt, tt, tt), tt, tt) refl)

pub sound_stmt_at : (n : ℕ) → Sound stmt_tokens IsLawfulStmt stmt_behind none here (stmt_at n)
unfolding stmt_at
sound_stmt_at zero = sound_level begun_stmt (sound_pure empty refl tt (λ v q. refl))
sound_stmt_at (suc n) = sound_stmt_with (expr_at n) (sound_expr_at n) (stmt_at n) (sound_stmt_at n)
