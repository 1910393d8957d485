-- What lawful statements write is read back.
use Rattle.std.proofs.Common.{◌≡◌, ℕ, zero, suc, List, [], ◌∷◌, ◌++◌, length, Bool, true, false, ◌||◌, ◌&&◌, Option, Some, None, is_some, refl, sym, ap, subst}
use Rattle.std.proofs.Common.{◌∙◌, append_assoc, append-nil}
use Rattle.pfc_base.specs.declared.tokens.Kind.TheVariants.{Word, Sign, Name}
use Rattle.pfc_base.specs.declared.word.TheConstants.{COEND, DO, ELSE, END, FOR, FOREVER, OF, OR, REPLICATE, THEN, TO, UNTIL, WHEN}
use Rattle.pfc_tree.specs.declared.tree.Sign.TheVariants.{Plus, Minus}
use Rattle.pfc_base.specs.declared.sign.TheConstants.{OPEN_PAREN, BECOMES, SEMICOLON, COLON, SEND, RECEIVE}
use Rattle.pfc_tree.specs.Symbols.{Symbol, Text}
use Rattle.pfc_tree.specs.shapes.Exprs.{ExprShape, DesigShape, SelectorShapes, ActualShapes, desig, no_actuals, more_actuals}
use Rattle.pfc_tree.specs.shapes.Types as type_shape
use Rattle.pfc_tree.specs.shapes.Types.{ConstantShape, GroupShape}
use Rattle.pfc_tree.specs.shapes.Stmts.{SpreadShape, StmtShape, StmtShapes, BodyShape, ArmShape, ArmShapes, AcceptShape, AltShape, AltShapes, CommShape, empty}
use Rattle.pfc_tree.specs.shapes.Stmts.{null, block, if_then, if_then_else, case_of, while_do, repeat_until, repeat_forever, for_do, cobegin, accepting}
use Rattle.pfc_tree.specs.shapes.Stmts.{requeue, select, select_else, assign, send, receive, call, no_stmts, more_stmts, body, arm, no_arms, more_arms, accept}
use Rattle.pfc_tree.specs.shapes.Stmts.{accept_do, alt, no_alts, more_alts, comm_accept, comm_send, comm_receive, timeout, terminate}
use Rattle.pfc_tree.specs.tokens.Exprs.{expr_tokens, desig_tokens, selectors_tokens, actuals_tokens}
use Rattle.pfc_tree.specs.tokens.Types.{constant_tokens, comma_constants_tokens, constants_tokens, last_tokens, formals_tokens}
use Rattle.pfc_tree.specs.tokens.Stmts.{direction_symbol, pri_tokens, spread_tokens, replication_tokens, guard_tokens, stmt_tokens, stmts_tokens}
use Rattle.pfc_tree.specs.tokens.Stmts.{semicolon_stmts_tokens, body_tokens, arm_tokens, arms_tokens, semicolon_arms_tokens, accept_tokens, alt_tokens}
use Rattle.pfc_tree.specs.tokens.Stmts.{comm_tokens, alts_tokens, or_alts_tokens}
use Rattle.pfc_tree.specs.lawful.Exprs.{IsLawfulExpr, IsLawfulDesig, AreLawfulSelectors, AreLawfulActuals}
use Rattle.pfc_tree.specs.lawful.Types.{IsFilled, IsLawfulConstant, AreLawfulConstants, AreLawfulFormals}
use Rattle.pfc_tree.specs.lawful.Stmts.{ends_in_if, accept_ends_in_if, ends_in_expr, accept_ends_in_expr, comm_ends_in_if, comm_ends_in_expr, last_ends_in_if}
use Rattle.pfc_tree.specs.lawful.Stmts.{last_ends_in_expr, alt_ends_in_if, alt_ends_in_expr, alts_end_in_if, OrMayFollow, IsLawfulSpread, MayStandBehind}
use Rattle.pfc_tree.specs.lawful.Stmts.{IsLawfulGuard, IsLawfulStmt, HasLawfulStmts, AreLawfulStmts, IsLawfulBody, IsLawfulArm, HasLawfulArms, AreLawfulArms}
use Rattle.pfc_tree.specs.lawful.Stmts.{IsLawfulAccept, IsLawfulAlt, IsLawfulComm, HasLawfulAlts, AreLawfulAlts}
use Rattle.pfc_grammar.specs.Reading.{Reader, pure, stop_deep, branch, choose}
use Rattle.pfc_grammar.specs.Heads.{as_word, as_sign, as_direction, takes, is_word, begins_stmt}
use Rattle.pfc_grammar.specs.grammar.Exprs.{expr_at}
use Rattle.pfc_grammar.specs.grammar.Stmts.{stmts_of, arms_of, alts_of, test_before, for_head, accept_head, labels, spread_behind, replication, guard, alt_head}
use Rattle.pfc_grammar.specs.grammar.Stmts.{requeue_behind, action_behind, comm_behind, message, message_or_wait, comm_plain, stmts_with, body_behind}
use Rattle.pfc_grammar.specs.grammar.Stmts.{body_with, if_behind, arm_with, case_behind, while_behind, repeat_behind, for_behind, cobegin_behind, accept_behind}
use Rattle.pfc_grammar.specs.grammar.Stmts.{comm_with, alt_with, select_behind, stmt_second, stmt_with, stmt_at}
use Rattle.pfc_tree.specs.depths.Exprs.{deeper, level, expr_depths, desig_depths, selectors_depths, actuals_depths}
use Rattle.pfc_tree.specs.depths.Stmts.{guard_depths, stmt_depths, stmts_depths, semicolon_stmts_depths, body_depths, arm_depths, arms_depths}
use Rattle.pfc_tree.specs.depths.Stmts.{semicolon_arms_depths, accept_depths, alt_depths, comm_depths, alts_depths, or_alts_depths}
use Rattle.pfc_tree.proofs.depths.Stmts.{stmt_even}
use Rattle.pfc_grammar.proofs.Lists.{or-left, or-right, or-both, shift}
use Rattle.pfc_grammar.proofs.Complete.{Complete, Skips, Lacks, Any, complete_pure, complete_less, complete_bind, complete_last, complete_take, complete_skip}
use Rattle.pfc_grammar.proofs.Complete.{complete_pass, complete_next, complete_up, complete_same, complete_value, lacks_less, skips}
use Rattle.pfc_grammar.proofs.CompleteLoops.{Run, run_end, run_item, EndRun, end_none, end_last, end_item, complete_many, complete_list, complete_list_end}
use Rattle.pfc_grammar.proofs.sound_rules.Stmts.{behind, stmt_behind, alt_tail}
use Rattle.pfc_grammar.proofs.complete_rules.Levels.{flat_bind, AtWord, at_word}
use Rattle.pfc_grammar.proofs.complete_rules.Exprs.{after_desig, after_expr, ReadsExprs, complete_desig_behind, complete_desig, complete_actuals}
use Rattle.pfc_grammar.proofs.complete_rules.Exprs.{complete_expr_at, Starts, starts, complete_none}
use Rattle.pfc_grammar.proofs.complete_rules.Types.{complete_constant, complete_constants, complete_formals, at_end, heads_end}

abbrev stmts_list : StmtShapes → List StmtShape
stmts_list no_stmts = []
stmts_list (more_stmts s ss) = s ∷ stmts_list ss

stmts_same : (ss : StmtShapes) → stmts_of (stmts_list ss) ≡ ss
stmts_same no_stmts = refl
stmts_same (more_stmts s ss) = ap (λ z. more_stmts s z) (stmts_same ss)

abbrev arms_list : ArmShapes → List ArmShape
arms_list no_arms = []
arms_list (more_arms a arms) = a ∷ arms_list arms

arms_same : (arms : ArmShapes) → arms_of (arms_list arms) ≡ arms
arms_same no_arms = refl
arms_same (more_arms a arms) = ap (λ z. more_arms a z) (arms_same arms)

abbrev alts_list : AltShapes → List AltShape
alts_list no_alts = []
alts_list (more_alts a alts) = a ∷ alts_list alts

alts_same : (alts : AltShapes) → alts_of (alts_list alts) ≡ alts
alts_same no_alts = refl
alts_same (more_alts a alts) = ap (λ z. more_alts a z) (alts_same alts)

-- What may follow a statement.
pub data Closer : List Symbol → Type 0 where
  at_semicolon : {l : List Symbol} → Closer (Sign SEMICOLON ∷ l)
  at_end_word : {l : List Symbol} → Closer (Word END ∷ l)
  at_else_word : {l : List Symbol} → Closer (Word ELSE ∷ l)
  at_or_word : {l : List Symbol} → Closer (Word OR ∷ l)
  at_until : {l : List Symbol} → Closer (Word UNTIL ∷ l)
  at_forever : {l : List Symbol} → Closer (Word FOREVER ∷ l)
  at_coend : {l : List Symbol} → Closer (Word COEND ∷ l)

-- what may follow what ends so
abbrev pub Ends : Bool → Bool → List Symbol → Type 0
Ends i e rest = Closer rest × Lacks (behind i e) rest

abbrev pub StmtEnds : StmtShape → List Symbol → Type 0
StmtEnds x rest = Ends (ends_in_if x) (ends_in_expr x) rest

-- where neither `else` nor `or` stands, anything may have ended
neither : (i e : Bool) → ((i && false) || (e && false)) ≡ false
neither true true = refl
neither true false = refl
neither false true = refl
neither false false = refl

else_only : (i e : Bool) → i ≡ false → ((i && true) || (e && false)) ≡ false
else_only true true q = q
else_only true false q = q
else_only false true q = refl
else_only false false q = refl

or_only : (i e : Bool) → e ≡ false → ((i && false) || (e && true)) ≡ false
or_only true true q = q
or_only true false q = refl
or_only false true q = q
or_only false false q = refl

semicolon_ends : (i e : Bool) {l : List Symbol} → Ends i e (Sign SEMICOLON ∷ l)
semicolon_ends i e = (at_semicolon, neither i e)

end_ends : (i e : Bool) {l : List Symbol} → Ends i e (Word END ∷ l)
end_ends i e = (at_end_word, neither i e)

-- behind an expression
not_or : (b : Bool) → (b || true) ≡ false → ⊥
not_or true q = let q' : true ≡ false = q in cc
not_or false q = let q' : true ≡ false = q in cc

expr_ends : (i : Bool) (rest : List Symbol) → Closer rest → Lacks (behind i true) rest → Lacks after_expr rest
expr_ends i rest at_semicolon l = refl
expr_ends i rest at_end_word l = refl
expr_ends i rest at_else_word l = refl
expr_ends i rest at_or_word l = absurd (not_or (i && false) l)
expr_ends i rest at_until l = refl
expr_ends i rest at_forever l = refl
expr_ends i rest at_coend l = refl

desig_ends : (rest : List Symbol) → Closer rest → Lacks after_desig rest
desig_ends rest at_semicolon = refl
desig_ends rest at_end_word = refl
desig_ends rest at_else_word = refl
desig_ends rest at_or_word = refl
desig_ends rest at_until = refl
desig_ends rest at_forever = refl
desig_ends rest at_coend = refl

abbrev no_paren : List Symbol → Type 0
no_paren rest = Lacks (λ s. takes (as_sign OPEN_PAREN s)) rest

paren_ends : (rest : List Symbol) → Closer rest → no_paren rest
paren_ends rest at_semicolon = refl
paren_ends rest at_end_word = refl
paren_ends rest at_else_word = refl
paren_ends rest at_or_word = refl
paren_ends rest at_until = refl
paren_ends rest at_forever = refl
paren_ends rest at_coend = refl

-- no sign of an action stands
no_action : (w : ℕ) (h : as_sign w (Sign SEMICOLON) ≡ None) (rest : List Symbol) → Closer rest → Skips (as_sign w) rest
no_action w h rest at_semicolon = h
no_action w h rest at_end_word = refl
no_action w h rest at_else_word = refl
no_action w h rest at_or_word = refl
no_action w h rest at_until = refl
no_action w h rest at_forever = refl
no_action w h rest at_coend = refl

no_do : (rest : List Symbol) → Closer rest → Skips (as_word DO) rest
no_do rest at_semicolon = refl
no_do rest at_end_word = refl
no_do rest at_else_word = refl
no_do rest at_or_word = refl
no_do rest at_until = refl
no_do rest at_forever = refl
no_do rest at_coend = refl

-- behind an `if` without `else`
takes_none : {O : Type 0} (c : Option O) → takes c ≡ false → c ≡ None
takes_none (Some o) q = let q' : true ≡ false = q in cc
takes_none None q = refl

no_else : (e : Bool) (rest : List Symbol) → Lacks (behind true e) rest → Skips (as_word ELSE) rest
no_else e [] l = tt
no_else e (s ∷ rest) l = takes_none (as_word ELSE s) (or-left (is_word ELSE s) (e && is_word OR s) l)

-- what ends in an `if` without `else` may be followed by less
if_ends : (e i : Bool) (rest : List Symbol) → Lacks (behind true e) rest → Lacks (behind i e) rest
if_ends e i [] l = tt
if_ends e true (s ∷ rest) l = l
if_ends e false (s ∷ rest) l = or-right (is_word ELSE s) (e && is_word OR s) l

-- What may follow statements between two words.
abbrev pub BodyEnds : List Symbol → Type 0
BodyEnds rest = Closer rest × Lacks (λ s. is_word ELSE s || is_word OR s || takes (as_sign SEMICOLON s)) rest

and_false : (a b : Bool) → b ≡ false → (a && b) ≡ false
and_false true b q = q
and_false false b q = refl

body_ends_stmt : (i e : Bool) (rest : List Symbol) → Lacks (λ s. is_word ELSE s || is_word OR s || takes (as_sign SEMICOLON s)) rest → Lacks (behind i e) rest
body_ends_stmt i e rest l =
    lacks_less _ (behind i e) (λ s q. or-both (i && is_word ELSE s) (e && is_word OR s)
    (and_false i (is_word ELSE s) (or-left (is_word ELSE s) (is_word OR s) (or-left (is_word ELSE s || is_word OR s) _ q)))
    (and_false e (is_word OR s) (or-right (is_word ELSE s) (is_word OR s) (or-left (is_word ELSE s || is_word OR s) _ q)))) rest l

body_no_semicolon : (rest : List Symbol) → BodyEnds rest → Skips (as_sign SEMICOLON) rest
body_no_semicolon rest c = skips (as_sign SEMICOLON) _ (λ s q. or-right (is_word ELSE s || is_word OR s) _ q) rest c.1

abbrev pub ReadsStmts : ℕ → Reader StmtShape → Type 0
ReadsStmts n s = (x : StmtShape) → IsLawfulStmt x → Complete n s (stmt_tokens x) (stmt_depths x) x (StmtEnds x)

-- With a reader of expressions.
module _ (n : ℕ) (e : Reader ExprShape) (he : ReadsExprs n e) where
  complete_test : (w : ℕ) → ((l : List Symbol) → Lacks after_expr (Word w ∷ l)) → as_word w (Word w) ≡ Some tt → (x : ExprShape) → IsLawfulExpr x →
      Complete n (test_before e w) (expr_tokens x ++ (Word w ∷ [])) (expr_depths x ++ (0 ∷ [])) x Any
  unfolding test_before
  complete_test w f q x l = complete_bind _ (he x l) (λ rest c. f rest) (complete_next _ _ tt q complete_pure)

  taken_direction : (d : Bool) → as_direction (direction_symbol d) ≡ Some d
  taken_direction true = refl
  taken_direction false = refl

  direction_follows : (d : Bool) → after_expr (direction_symbol d) ≡ false
  direction_follows true = refl
  direction_follows false = refl

  complete_for_head : (x : Text) (a b : ExprShape) (d : Bool) → IsLawfulExpr a → IsLawfulExpr b →
      Complete n (for_head e) (Name x ∷ Sign BECOMES ∷ (expr_tokens a ++ (direction_symbol d ∷ (expr_tokens b ++ (Word DO ∷ [])))))
      (0 ∷ 0 ∷ (expr_depths a ++ (0 ∷ (expr_depths b ++ (0 ∷ []))))) (x, a, d, b) Any
  unfolding for_head
  complete_for_head x a b d l m =
      complete_next _ _ x refl (complete_next _ _ tt refl (complete_bind _ (he a l) (λ rest c. direction_follows d) (complete_next _ _ d (taken_direction d)
      (complete_bind _ (he b m) (λ rest c. refl) (complete_next _ _ tt refl complete_pure)))))

  complete_accept_head : (x : Text) (gs : List GroupShape) → AreLawfulFormals gs →
      Complete n accept_head (Name x ∷ formals_tokens gs) (0 ∷ level (formals_tokens gs)) (x, gs) no_paren
  unfolding accept_head
  complete_accept_head x gs l = complete_next _ _ x refl (complete_last (λ z. (x, z)) (complete_formals n gs l) (λ rest c. c))

  complete_labels : (cs : List ConstantShape) → IsFilled cs → AreLawfulConstants cs →
      Complete n labels (constants_tokens cs ++ (Sign COLON ∷ [])) (level (constants_tokens cs) ++ (0 ∷ [])) cs Any
  unfolding labels
  complete_labels cs h l = complete_bind _ (complete_constants n cs h l) (λ rest c. refl) (complete_next _ _ tt refl complete_pure)

  complete_guard : (g : Option ExprShape) → IsLawfulGuard g → Complete n (guard e) (guard_tokens g) (guard_depths g) g (λ rest. Skips (as_word WHEN) rest)
  unfolding guard
  complete_guard None l = complete_skip _ _ (λ rest c. c) complete_pure
  complete_guard (Some x) l = complete_take _ _ _ tt refl (complete_bind _ (he x l) (λ rest c. refl) (complete_next _ _ tt refl complete_pure))

  abbrev spread_rest : SpreadShape → List Symbol
  spread_rest r = Name r.name ∷ Sign BECOMES ∷ (constant_tokens r.low ++ (Word TO ∷ (constant_tokens r.high ++ (Word REPLICATE ∷ []))))

  spread_written : (r : SpreadShape) → Word FOR ∷ spread_rest r ≡ spread_tokens r
  spread_written r = ap (λ z. Word FOR ∷ Name r.name ∷ Sign BECOMES ∷ z)
      (sym (append_assoc (constant_tokens r.low) (Word TO ∷ constant_tokens r.high) (Word REPLICATE ∷ [])))

  complete_spread : (r : SpreadShape) → IsLawfulConstant r.low → IsLawfulConstant r.high →
      Complete n spread_behind (spread_rest r) (level (spread_rest r)) r Any
  unfolding spread_behind
  complete_spread r l m =
      complete_next _ _ r.name refl (complete_next _ _ tt refl (flat_bind _ (complete_constant n r.low l) (λ rest c. tt)
      (complete_next _ _ tt refl (flat_bind _ (complete_constant n r.high m) (λ rest c. tt) (complete_next _ _ tt refl complete_pure)))))

  complete_replication : (r : Option SpreadShape) → IsLawfulSpread r →
      Complete n replication (replication_tokens r) (level (replication_tokens r)) r (λ rest. Skips (as_word FOR) rest)
  unfolding replication
  complete_replication None l = complete_skip _ _ (λ rest c. c) complete_pure
  complete_replication (Some r) l =
      complete_same (spread_written r) (ap level (spread_written r)) refl
      (complete_take _ _ _ tt refl (complete_last (λ z. Some z) (complete_spread r l.0 l.1) (λ rest c. tt)))

  guard_skips_for : (g : Option ExprShape) (rest : List Symbol) → Skips (as_word FOR) rest → Skips (as_word FOR) (guard_tokens g ++ rest)
  guard_skips_for None rest c = c
  guard_skips_for (Some x) rest c = refl

  complete_alt_head : (r : Option SpreadShape) (g : Option ExprShape) → IsLawfulSpread r → IsLawfulGuard g →
      Complete n (alt_head e) (replication_tokens r ++ guard_tokens g) (level (replication_tokens r) ++ guard_depths g) (r, g)
      (λ rest. Skips (as_word FOR) rest × Skips (as_word WHEN) rest)
  unfolding alt_head
  complete_alt_head r g l m = complete_bind _ (complete_replication r l) (λ rest c. guard_skips_for g rest c.0)
      (complete_last (λ z. (r, z)) (complete_guard g m) (λ rest c. c.1))

  complete_requeue : (x : Text) (args : ActualShapes) → AreLawfulActuals args →
      Complete n (requeue_behind e) (Name x ∷ actuals_tokens args) (0 ∷ actuals_depths args) (requeue x args) Closer
  unfolding requeue_behind
  complete_requeue x args l = complete_next _ _ x refl (complete_last (λ z. requeue x z) (complete_actuals n e he args l) paren_ends)

  complete_assign : (x : Text) (ss : SelectorShapes) (v : ExprShape) → AreLawfulSelectors ss → IsLawfulExpr v →
      Complete n (action_behind e x) (selectors_tokens ss ++ (Sign BECOMES ∷ expr_tokens v)) (selectors_depths ss ++ (0 ∷ expr_depths v))
      (assign (desig x ss) v) (Ends false true)
  unfolding action_behind
  complete_assign x ss v l m = complete_bind _ (complete_desig_behind n e he x ss l) (λ rest c. refl)
      (complete_take _ _ _ tt refl (complete_last (λ z. assign (desig x ss) z) (he v m) (λ rest c. expr_ends false rest c.0 c.1)))

  complete_send : (x : Text) (ss : SelectorShapes) (v : ExprShape) → AreLawfulSelectors ss → IsLawfulExpr v →
      Complete n (action_behind e x) (selectors_tokens ss ++ (Sign SEND ∷ expr_tokens v)) (selectors_depths ss ++ (0 ∷ expr_depths v))
      (send (desig x ss) v) (Ends false true)
  unfolding action_behind
  complete_send x ss v l m = complete_bind _ (complete_desig_behind n e he x ss l) (λ rest c. refl)
      (complete_skip _ _ (λ rest c. refl)
      (complete_take _ _ _ tt refl (complete_last (λ z. send (desig x ss) z) (he v m) (λ rest c. expr_ends false rest c.0 c.1))))

  complete_receive : (x : Text) (ss : SelectorShapes) (v : DesigShape) → AreLawfulSelectors ss → IsLawfulDesig v →
      Complete n (action_behind e x) (selectors_tokens ss ++ (Sign RECEIVE ∷ desig_tokens v))
      (selectors_depths ss ++ (0 ∷ desig_depths v)) (receive (desig x ss) v) Closer
  unfolding action_behind
  complete_receive x ss v l m = complete_bind _ (complete_desig_behind n e he x ss l) (λ rest c. refl)
      (complete_skip _ _ (λ rest c. refl)
      (complete_skip _ _ (λ rest c. refl) (complete_take _ _ _ tt refl (complete_last (λ z. receive (desig x ss) z) (complete_desig n e he v m) desig_ends))))

  call_follows : (args : ActualShapes) (rest : List Symbol) → Closer rest → Lacks after_desig (actuals_tokens args ++ rest)
  call_follows no_actuals rest c = desig_ends rest c
  call_follows (more_actuals a args) rest c = refl

  call_skips : (w : ℕ) → as_sign w (Sign SEMICOLON) ≡ None → as_sign w (Sign OPEN_PAREN) ≡ None → (args : ActualShapes) (rest : List Symbol) → Closer rest →
      Skips (as_sign w) (actuals_tokens args ++ rest)
  call_skips w h k no_actuals rest c = no_action w h rest c
  call_skips w h k (more_actuals a args) rest c = k

  complete_call : (x : Text) (ss : SelectorShapes) (args : ActualShapes) → AreLawfulSelectors ss → AreLawfulActuals args →
      Complete n (action_behind e x) (selectors_tokens ss ++ actuals_tokens args) (selectors_depths ss ++ actuals_depths args) (call (desig x ss) args) Closer
  unfolding action_behind
  complete_call x ss args l m = complete_bind _ (complete_desig_behind n e he x ss l) (call_follows args) (complete_skip _ _ (call_skips BECOMES refl refl args)
      (complete_skip _ _ (call_skips SEND refl refl args) (complete_skip _ _ (call_skips RECEIVE refl refl args) (complete_last (λ z. call (desig x ss) z)
      (complete_actuals n e he args m) paren_ends))))

  complete_comm_send : (x : Text) (ss : SelectorShapes) (v : ExprShape) → AreLawfulSelectors ss → IsLawfulExpr v →
      Complete n (comm_behind e x) (selectors_tokens ss ++ (Sign SEND ∷ expr_tokens v)) (selectors_depths ss ++ (0 ∷ expr_depths v))
      (comm_send (desig x ss) v) (Ends false true)
  unfolding comm_behind
  complete_comm_send x ss v l m = complete_bind _ (complete_desig_behind n e he x ss l) (λ rest c. refl)
      (complete_take _ _ _ tt refl (complete_last (λ z. comm_send (desig x ss) z) (he v m) (λ rest c. expr_ends false rest c.0 c.1)))

  complete_comm_receive : (x : Text) (ss : SelectorShapes) (v : DesigShape) → AreLawfulSelectors ss → IsLawfulDesig v →
      Complete n (comm_behind e x) (selectors_tokens ss ++ (Sign RECEIVE ∷ desig_tokens v))
      (selectors_depths ss ++ (0 ∷ desig_depths v)) (comm_receive (desig x ss) v) Closer
  unfolding comm_behind
  complete_comm_receive x ss v l m = complete_bind _ (complete_desig_behind n e he x ss l) (λ rest c. refl)
      (complete_skip _ _ (λ rest c. refl) (complete_next _ _ tt refl (complete_last (λ z. comm_receive (desig x ss) z) (complete_desig n e he v m) desig_ends)))

  -- With a reader of statements too.
  module _ (s : Reader StmtShape) (hs : ReadsStmts n s) where
    -- Statements between two words.
    follow_stmts : (x : StmtShape) (ss : StmtShapes) (rest : List Symbol) → BodyEnds rest → StmtEnds x (semicolon_stmts_tokens ss ++ rest)
    follow_stmts x no_stmts rest c = (c.0, body_ends_stmt (ends_in_if x) (ends_in_expr x) rest c.1)
    follow_stmts x (more_stmts y ss) rest c = semicolon_ends (ends_in_if x) (ends_in_expr x)

    run_stmts : (ss : StmtShapes) → AreLawfulStmts ss → Run n (as_sign SEMICOLON) (λ o. s) BodyEnds (semicolon_stmts_tokens ss)
        (semicolon_stmts_depths ss) (stmts_list ss)
    run_stmts no_stmts l = run_end body_no_semicolon
    run_stmts (more_stmts x ss) l = run_item tt refl (hs x l.0) (follow_stmts x ss) (run_stmts ss l.1)

    complete_stmts : (ss : StmtShapes) → HasLawfulStmts ss → Complete n (stmts_with s) (stmts_tokens ss) (stmts_depths ss) (stmts_list ss) BodyEnds
    unfolding stmts_with
    complete_stmts no_stmts l = absurd l
    complete_stmts (more_stmts x ss) l = complete_list (as_sign SEMICOLON) (hs x l.0) (follow_stmts x ss) (run_stmts ss l.1)

    complete_body_behind : (ss : StmtShapes) → HasLawfulStmts ss →
        Complete n (body_behind s) (stmts_tokens ss ++ (Word END ∷ [])) (stmts_depths ss ++ (0 ∷ [])) (body ss) Any
    unfolding body_behind
    complete_body_behind ss l = complete_value (ap body (stmts_same ss)) (complete_bind _ (complete_stmts ss l) (λ rest c. (at_end_word, refl))
        (complete_next _ _ tt refl complete_pure))

    pub complete_body : (b : BodyShape) → IsLawfulBody b → Complete n (body_with s) (body_tokens b) (body_depths b) b Any
    unfolding body_with
    complete_body (body ss) l = complete_next _ _ tt refl (complete_body_behind ss l)

    complete_if : (c : ExprShape) (x : StmtShape) → IsLawfulExpr c → IsLawfulStmt x → Complete n (if_behind e s) (expr_tokens c ++ (Word THEN ∷ stmt_tokens x))
        (expr_depths c ++ (0 ∷ stmt_depths x)) (if_then c x) (Ends true (ends_in_expr x))
    unfolding if_behind
    complete_if c x l m = complete_same (ap (λ z. (expr_tokens c ++ (Word THEN ∷ [])) ++ z) (append-nil (stmt_tokens x)) ∙
        append_assoc (expr_tokens c) (Word THEN ∷ []) (stmt_tokens x)) (ap (λ z. (expr_depths c ++ (0 ∷ [])) ++ z) (append-nil (stmt_depths x)) ∙
        append_assoc (expr_depths c) (0 ∷ []) (stmt_depths x)) refl
        (complete_bind _ (complete_test THEN (λ r. refl) refl c l) (λ rest k. tt)
        (complete_bind _ (hs x m) (λ rest k. (k.0, if_ends (ends_in_expr x) (ends_in_if x) rest k.1))
        (complete_skip _ _ (λ rest k. no_else (ends_in_expr x) rest k.1) complete_pure)))

    complete_if_else : (c : ExprShape) (x y : StmtShape) → IsLawfulExpr c → IsLawfulStmt x → ends_in_if x ≡ false → IsLawfulStmt y →
        Complete n (if_behind e s) ((expr_tokens c ++ (Word THEN ∷ stmt_tokens x)) ++ (Word ELSE ∷ stmt_tokens y)) ((expr_depths c ++ (0 ∷ stmt_depths x)) ++
        (0 ∷ stmt_depths y)) (if_then_else c x y) (StmtEnds y)
    unfolding if_behind
    complete_if_else c x y l m q r = complete_same (sym (shift (expr_tokens c) (Word THEN) (stmt_tokens x) (Word ELSE ∷ stmt_tokens y)))
        (sym (shift (expr_depths c) 0 (stmt_depths x) (0 ∷ stmt_depths y))) refl
        (complete_bind _ (complete_test THEN (λ r. refl) refl c l) (λ rest k. tt)
        (complete_bind _ (hs x m) (λ rest k. (at_else_word, else_only (ends_in_if x) (ends_in_expr x) q))
        (complete_take _ _ _ tt refl (complete_last (λ z. if_then_else c x z) (hs y r) (λ rest k. k)))))

    complete_while_do : (c : ExprShape) (x : StmtShape) → IsLawfulExpr c → IsLawfulStmt x →
        Complete n (while_behind e s) (expr_tokens c ++ (Word DO ∷ stmt_tokens x)) (expr_depths c ++ (0 ∷ stmt_depths x)) (while_do c x) (StmtEnds x)
    unfolding while_behind
    complete_while_do c x l m = complete_same (append_assoc (expr_tokens c) (Word DO ∷ []) (stmt_tokens x))
        (append_assoc (expr_depths c) (0 ∷ []) (stmt_depths x)) refl
        (complete_bind _ (complete_test DO (λ r. refl) refl c l) (λ rest k. tt) (complete_last (λ z. while_do c z) (hs x m) (λ rest k. k)))

    complete_repeat_until : (ss : StmtShapes) (c : ExprShape) → HasLawfulStmts ss → IsLawfulExpr c →
        Complete n (repeat_behind e s) (stmts_tokens ss ++ (Word UNTIL ∷ expr_tokens c))
        (stmts_depths ss ++ (0 ∷ expr_depths c)) (repeat_until ss c) (Ends false true)
    unfolding repeat_behind
    complete_repeat_until ss c l m =
        complete_value (ap (λ z. repeat_until z c) (stmts_same ss)) (complete_bind _ (complete_stmts ss l) (λ rest k. (at_until, refl))
        (complete_take _ _ _ tt refl (complete_last (λ z. repeat_until (stmts_of (stmts_list ss)) z) (he c m) (λ rest k. expr_ends false rest k.0 k.1))))

    complete_repeat_forever : (ss : StmtShapes) → HasLawfulStmts ss → Complete n (repeat_behind e s) (stmts_tokens ss ++ (Word FOREVER ∷ []))
        (stmts_depths ss ++ (0 ∷ [])) (repeat_forever ss) Any
    unfolding repeat_behind
    complete_repeat_forever ss l = complete_value (ap repeat_forever (stmts_same ss)) (complete_bind _ (complete_stmts ss l) (λ rest k. (at_forever, refl))
        (complete_skip _ _ (λ rest c. refl) (complete_next _ _ tt refl complete_pure)))

    complete_cobegin : (ss : StmtShapes) → HasLawfulStmts ss →
        Complete n (cobegin_behind s) (stmts_tokens ss ++ (Word COEND ∷ [])) (stmts_depths ss ++ (0 ∷ [])) (cobegin ss) Any
    unfolding cobegin_behind
    complete_cobegin ss l = complete_value (ap cobegin (stmts_same ss)) (complete_bind _ (complete_stmts ss l) (λ rest k. (at_coend, refl))
        (complete_next _ _ tt refl complete_pure))

    complete_for : (x : Text) (a b : ExprShape) (d : Bool) (y : StmtShape) → IsLawfulExpr a → IsLawfulExpr b → IsLawfulStmt y →
        Complete n (for_behind e s) (Name x ∷ Sign BECOMES ∷ ((expr_tokens a ++ (direction_symbol d ∷ expr_tokens b)) ++ (Word DO ∷ stmt_tokens y)))
        (0 ∷ 0 ∷ ((expr_depths a ++ (0 ∷ expr_depths b)) ++ (0 ∷ stmt_depths y))) (for_do x a d b y) (StmtEnds y)
    unfolding for_behind
    complete_for x a b d y l m r =
        complete_same (ap (λ z. Name x ∷ Sign BECOMES ∷ z) (moved (expr_tokens a) (direction_symbol d) (expr_tokens b) (Word DO) (stmt_tokens y)))
        (ap (λ z. 0 ∷ 0 ∷ z) (moved (expr_depths a) 0 (expr_depths b) 0 (stmt_depths y))) refl
        (complete_bind _ (complete_for_head x a b d l m) (λ rest k. tt) (complete_last (λ z. for_do x a d b z) (hs y r) (λ rest k. k)))
      where
        moved : {A : Type 0} (u : List A) (p : A) (v : List A) (q : A) (w : List A) → (u ++ (p ∷ (v ++ (q ∷ [])))) ++ w ≡ (u ++ (p ∷ v)) ++ (q ∷ w)
        moved u p v q w = append_assoc u (p ∷ (v ++ (q ∷ []))) w ∙ ap (λ z. u ++ (p ∷ z)) (append_assoc v (q ∷ []) w) ∙ sym (append_assoc u (p ∷ v) (q ∷ w))

    -- Arms.
    complete_arm : (a : ArmShape) → IsLawfulArm a → Complete n (arm_with s) (arm_tokens a) (arm_depths a) a (λ rest. Closer rest ×
        Lacks (λ v. is_word ELSE v || is_word OR v) rest)
    unfolding arm_with
    complete_arm (arm cs x) l = complete_same (append_assoc (constants_tokens cs) (Sign COLON ∷ []) (stmt_tokens x))
        (append_assoc (level (constants_tokens cs)) (0 ∷ []) (stmt_depths x)) refl
        (complete_bind _ (complete_labels cs l.0 l.1) (λ rest k. tt) (complete_last (λ z. arm cs z) (hs x l.2)
        (λ rest k. (
          k.0,
          lacks_less _ (stmt_behind x) (λ v q. or-both (ends_in_if x && is_word ELSE v) (ends_in_expr x && is_word OR v)
              (and_false (ends_in_if x) (is_word ELSE v) (or-left (is_word ELSE v) (is_word OR v) q)) (and_false (ends_in_expr x) (is_word OR v)
              (or-right (is_word ELSE v) (is_word OR v) q))) rest k.1,
        ))))

    abbrev arm_ends : ArmShapes → Bool → List Symbol
    arm_ends no_arms b = last_tokens b
    arm_ends (more_arms a arms) b = Sign SEMICOLON ∷ (arm_tokens a ++ arm_ends arms b)

    abbrev arm_end_depths : ArmShapes → Bool → List ℕ
    arm_end_depths no_arms b = level (last_tokens b)
    arm_end_depths (more_arms a arms) b = 0 ∷ (arm_depths a ++ arm_end_depths arms b)

    arm_ends_same : (arms : ArmShapes) (b : Bool) → semicolon_arms_tokens arms ++ last_tokens b ≡ arm_ends arms b
    arm_ends_same no_arms b = refl
    arm_ends_same (more_arms a arms) b = ap (λ z. Sign SEMICOLON ∷ z) (append_assoc (arm_tokens a) (semicolon_arms_tokens arms) (last_tokens b) ∙
        ap (λ z. arm_tokens a ++ z) (arm_ends_same arms b))

    arm_end_depths_same : (arms : ArmShapes) (b : Bool) → semicolon_arms_depths arms ++ level (last_tokens b) ≡ arm_end_depths arms b
    arm_end_depths_same no_arms b = refl
    arm_end_depths_same (more_arms a arms) b = ap (λ z. 0 ∷ z) (append_assoc (arm_depths a) (semicolon_arms_depths arms) (level (last_tokens b)) ∙
        ap (λ z. arm_depths a ++ z) (arm_end_depths_same arms b))

    -- an arm does not begin with `end`
    constant_lacks : (c : ConstantShape) (l : List Symbol) → Lacks (is_word END) (constant_tokens c ++ l)
    constant_lacks (type_shape.number None z) l = refl
    constant_lacks (type_shape.number (Some Plus) z) l = refl
    constant_lacks (type_shape.number (Some Minus) z) l = refl
    constant_lacks (type_shape.constant None x) l = refl
    constant_lacks (type_shape.constant (Some Plus) x) l = refl
    constant_lacks (type_shape.constant (Some Minus) x) l = refl
    constant_lacks (type_shape.literal x) l = refl

    arm_lacks : (a : ArmShape) → IsLawfulArm a → (l : List Symbol) → Lacks (is_word END) (arm_tokens a ++ l)
    arm_lacks (arm [] x) h l = absurd h.0
    arm_lacks (arm (c ∷ cs) x) h l =
        subst (Lacks (is_word END)) (sym (append_assoc (constant_tokens c ++ comma_constants_tokens cs) (Sign COLON ∷ stmt_tokens x) l ∙
        append_assoc (constant_tokens c) (comma_constants_tokens cs) (Sign COLON ∷ (stmt_tokens x ++ l))))
        (constant_lacks c (comma_constants_tokens cs ++ (Sign COLON ∷ (stmt_tokens x ++ l))))

    end_closes : (rest : List Symbol) → AtWord END rest → Closer rest × Lacks (λ v. is_word ELSE v || is_word OR v) rest
    end_closes rest at_word = (at_end_word, refl)

    follow_arms : (arms : ArmShapes) (b : Bool) (rest : List Symbol) → AtWord END rest → Closer (arm_ends arms b ++ rest) ×
        Lacks (λ v. is_word ELSE v || is_word OR v) (arm_ends arms b ++ rest)
    follow_arms no_arms true rest c = (at_semicolon, refl)
    follow_arms no_arms false rest c = end_closes rest c
    follow_arms (more_arms a arms) b rest c = (at_semicolon, refl)

    run_arms : (arms : ArmShapes) (b : Bool) → AreLawfulArms arms → EndRun n (as_sign SEMICOLON) (is_word END) (arm_with s) (AtWord END) (arm_ends arms b)
        (arm_end_depths arms b) (arms_list arms) b
    run_arms no_arms false l = end_none at_end
    run_arms no_arms true l = end_last tt refl heads_end
    run_arms (more_arms a arms) b l = end_item tt refl (λ rest c. arm_lacks a l.0 (arm_ends arms b ++ rest)) (complete_arm a l.0)
        (follow_arms arms b) (run_arms arms b l.1)

    complete_case : (c : ExprShape) (arms : ArmShapes) (b : Bool) → IsLawfulExpr c → HasLawfulArms arms →
        Complete n (case_behind e s) (((expr_tokens c ++ (Word OF ∷ arms_tokens arms)) ++ last_tokens b) ++ (Word END ∷ []))
        (((expr_depths c ++ (0 ∷ arms_depths arms)) ++ level (last_tokens b)) ++ (0 ∷ [])) (case_of c arms b) Any
    unfolding case_behind
    complete_case c no_arms b l m = absurd m
    complete_case c (more_arms a arms) b l m = complete_same
        (grouped (expr_tokens c) (Word OF) (arm_tokens a) (semicolon_arms_tokens arms) (last_tokens b) (Word END ∷ []) (arm_ends arms b) (arm_ends_same arms b))
        (grouped (expr_depths c) 0 (arm_depths a) (semicolon_arms_depths arms) (level (last_tokens b)) (0 ∷ [])
        (arm_end_depths arms b) (arm_end_depths_same arms b))
        (ap (λ z. case_of c (more_arms a z) b) (arms_same arms))
        (complete_bind _ (complete_test OF (λ r. refl) refl c l) (λ rest k. tt)
        (complete_bind _ (complete_list_end (complete_arm a m.0) (follow_arms arms b) (run_arms arms b m.1)) (λ rest k. at_word)
        (complete_next _ _ tt refl complete_pure)))
      where
        grouped : {A : Type 0} (u : List A) (p : A) (v w x y z : List A) → w ++ x ≡ z → (u ++ (p ∷ [])) ++ ((v ++ z) ++ y) ≡ ((u ++ (p ∷ (v ++ w))) ++ x) ++ y
        grouped u p v w x y z q = ap (λ k. (u ++ (p ∷ [])) ++ ((v ++ k) ++ y)) (sym q) ∙ ap (λ k. (u ++ (p ∷ [])) ++ (k ++ y)) (sym (append_assoc v w x))
            ∙ append_assoc u (p ∷ []) (((v ++ w) ++ x) ++ y) ∙ sym (append_assoc u (p ∷ ((v ++ w) ++ x)) y) ∙
            ap (λ k. k ++ y) (sym (append_assoc u (p ∷ (v ++ w)) x))

    -- Accepts and alternatives.
    complete_accept : (a : AcceptShape) → IsLawfulAccept a →
        Complete n (accept_behind s) (accept_tokens a) (accept_depths a) a (Ends (accept_ends_in_if a) (accept_ends_in_expr a))
    unfolding accept_behind
    complete_accept (accept x gs) l =
        complete_same (ap (λ z. Name x ∷ z) (append-nil (formals_tokens gs))) (ap (λ z. 0 ∷ z) (append-nil (level (formals_tokens gs)))) refl
        (complete_bind _ (complete_accept_head x gs l) (λ rest k. paren_ends rest k.0) (complete_skip _ _ (λ rest k. no_do rest k.0) complete_pure))
    complete_accept (accept_do x gs y) l =
        complete_bind _ (complete_accept_head x gs l.0) (λ rest k. refl)
        (complete_take _ _ _ tt refl (complete_last (λ z. accept_do x gs z) (hs y l.1) (λ rest k. k)))

    complete_comm : (r : Option SpreadShape) (c : CommShape) → MayStandBehind r c → IsLawfulComm c →
        Complete n (comm_with e s (is_some r)) (comm_tokens c) (comm_depths c) c (Ends (comm_ends_in_if c) (comm_ends_in_expr c))
    unfolding comm_with comm_plain message_or_wait message
    complete_comm r (comm_accept a) h l = complete_take _ _ _ tt refl (complete_last (λ z. comm_accept z) (complete_accept a l) (λ rest k. k))
    complete_comm None (comm_send (desig x ss) v) h l =
        complete_skip _ _ (λ rest c. refl)
        (complete_skip _ _ (λ rest c. refl) (complete_skip _ _ (λ rest c. refl) (complete_take _ _ _ x refl (complete_comm_send x ss v l.0 l.1))))
    complete_comm (Some r) (comm_send (desig x ss) v) h l = complete_skip _ _ (λ rest c. refl) (complete_take _ _ _ x refl (complete_comm_send x ss v l.0 l.1))
    complete_comm None (comm_receive (desig x ss) v) h l =
        complete_skip _ _ (λ rest c. refl)
        (complete_skip _ _ (λ rest c. refl)
        (complete_skip _ _ (λ rest c. refl) (complete_take _ _ _ x refl (complete_less (λ rest k. k.0) (complete_comm_receive x ss v l.0 l.1)))))
    complete_comm (Some r) (comm_receive (desig x ss) v) h l =
        complete_skip _ _ (λ rest c. refl) (complete_take _ _ _ x refl (complete_less (λ rest k. k.0) (complete_comm_receive x ss v l.0 l.1)))
    complete_comm None (timeout v) h l =
        complete_skip _ _ (λ rest c. refl) (complete_take _ _ _ tt refl (complete_last (λ z. timeout z) (he v l) (λ rest k. expr_ends false rest k.0 k.1)))
    complete_comm (Some r) (timeout v) h l = absurd h
    complete_comm None terminate h l = complete_skip _ _ (λ rest c. refl) (complete_skip _ _ (λ rest c. refl) (complete_take _ _ _ tt refl complete_pure))
    complete_comm (Some r) terminate h l = absurd h

    -- what may follow the statements behind what an alternative waits for
    abbrev RestEnds : Bool → Bool → StmtShapes → List Symbol → Type 0
    RestEnds i e' ss rest = Closer rest × Lacks (behind (last_ends_in_if i ss) (last_ends_in_expr e' ss)) rest × Skips (as_sign SEMICOLON) rest

    follow_rest : (i e' : Bool) (ss : StmtShapes) (rest : List Symbol) → RestEnds i e' ss rest → Ends i e' (semicolon_stmts_tokens ss ++ rest)
    follow_rest i e' no_stmts rest c = (c.0, c.1)
    follow_rest i e' (more_stmts x ss) rest c = semicolon_ends i e'

    run_rest : (i e' : Bool) (ss : StmtShapes) → AreLawfulStmts ss → Run n (as_sign SEMICOLON) (λ o. s) (RestEnds i e' ss) (semicolon_stmts_tokens ss)
        (semicolon_stmts_depths ss) (stmts_list ss)
    run_rest i e' no_stmts l = run_end (λ rest c. c.2)
    run_rest i e' (more_stmts x ss) l = run_item tt refl (hs x l.0) (follow_rest (ends_in_if x) (ends_in_expr x) ss)
        (run_rest (ends_in_if x) (ends_in_expr x) ss l.1)

    -- what may follow an alternative
    abbrev AltEnds : AltShape → List Symbol → Type 0
    AltEnds a rest = Closer rest × Lacks (alt_tail a) rest × Skips (as_sign SEMICOLON) rest

    -- neither a spread nor a guard begins there
    abbrev NoHead : List Symbol → Type 0
    NoHead rest = Skips (as_word FOR) rest × Skips (as_word WHEN) rest

    no_head : (c : CommShape) (l : List Symbol) → NoHead (comm_tokens c ++ l)
    no_head (comm_accept a) l = (refl, refl)
    no_head (comm_send (desig x ss) v) l = (refl, refl)
    no_head (comm_receive (desig x ss) v) l = (refl, refl)
    no_head (timeout v) l = (refl, refl)
    no_head terminate l = (refl, refl)

    complete_alt : (a : AltShape) → IsLawfulAlt a → Complete n (alt_with e s) (alt_tokens a) (alt_depths a) a (AltEnds a)
    unfolding alt_with
    complete_alt (alt r g c ss) l = complete_same (sym (append_assoc (replication_tokens r ++ guard_tokens g) (comm_tokens c) (semicolon_stmts_tokens ss)))
        (sym (append_assoc (level (replication_tokens r) ++ guard_depths g) (comm_depths c) (semicolon_stmts_depths ss)))
        (ap (λ z. alt r g c z) (stmts_same ss))
        (complete_bind _ (complete_alt_head r g l.0 l.1) (λ rest k. subst NoHead (sym (append_assoc (comm_tokens c) (semicolon_stmts_tokens ss) rest))
        (no_head c (semicolon_stmts_tokens ss ++ rest)))
        (complete_bind _ (complete_comm r c l.2 l.3) (follow_rest (comm_ends_in_if c) (comm_ends_in_expr c) ss) (complete_last (λ z. alt r g c (stmts_of z))
        (complete_many (run_rest (comm_ends_in_if c) (comm_ends_in_expr c) ss l.4)) (λ rest k. k))))

    -- the set behind the last alternative
    abbrev last_tail : AltShape → AltShapes → Symbol → Bool
    last_tail a no_alts = alt_tail a
    last_tail a (more_alts b bs) = last_tail b bs

    abbrev AltsEnd : AltShape → AltShapes → List Symbol → Type 0
    AltsEnd a alts rest = Closer rest × Lacks (last_tail a alts) rest × Skips (as_sign SEMICOLON) rest × Skips (as_word OR) rest

    follow_alts : (a : AltShape) (alts : AltShapes) → OrMayFollow a alts → (rest : List Symbol) → AltsEnd a alts rest → AltEnds a (or_alts_tokens alts ++ rest)
    follow_alts a no_alts h rest c = (c.0, c.1, c.2)
    follow_alts a (more_alts b bs) h rest c = (at_or_word, or_only (alt_ends_in_if a) (alt_ends_in_expr a) h, refl)

    run_alts : (a : AltShape) (alts : AltShapes) → AreLawfulAlts alts →
        Run n (as_word OR) (λ o. alt_with e s) (AltsEnd a alts) (or_alts_tokens alts) (or_alts_depths alts) (alts_list alts)
    run_alts a no_alts l = run_end (λ rest c. c.3)
    run_alts a (more_alts b bs) l = run_item tt refl (complete_alt b l.0) (follow_alts b bs l.1) (run_alts b bs l.2)

    tail_end : (a : AltShape) (alts : AltShapes) → last_tail a alts (Word END) ≡ false
    tail_end a no_alts = neither (alt_ends_in_if a) (alt_ends_in_expr a)
    tail_end a (more_alts b bs) = tail_end b bs

    tail_else : (a : AltShape) (alts : AltShapes) → alts_end_in_if (more_alts a alts) ≡ false → last_tail a alts (Word ELSE) ≡ false
    tail_else a no_alts h = else_only (alt_ends_in_if a) (alt_ends_in_expr a) h
    tail_else a (more_alts b bs) h = tail_else b bs h

    complete_select : (pri : Bool) (alts : AltShapes) → HasLawfulAlts alts → Complete n (select_behind e s pri) (alts_tokens alts ++ (Word END ∷ []))
        (alts_depths alts ++ (0 ∷ [])) (select pri alts) Any
    unfolding select_behind
    complete_select pri no_alts l = absurd l
    complete_select pri (more_alts a alts) l = complete_value (ap (λ z. select pri (more_alts a z)) (alts_same alts))
        (complete_bind _ (complete_list (as_word OR) (complete_alt a l.0) (follow_alts a alts l.1) (run_alts a alts l.2))
        (λ rest k. (at_end_word, tail_end a alts, refl, refl))
        (complete_skip _ _ (λ rest c. refl) (complete_next _ _ tt refl complete_pure)))

    complete_select_else : (pri : Bool) (alts : AltShapes) (ss : StmtShapes) → HasLawfulAlts alts → alts_end_in_if alts ≡ false → HasLawfulStmts ss →
        Complete n (select_behind e s pri) (alts_tokens alts ++ (Word ELSE ∷ (stmts_tokens ss ++ (Word END ∷ []))))
        (alts_depths alts ++ (0 ∷ (stmts_depths ss ++ (0 ∷ [])))) (select_else pri alts ss) Any
    unfolding select_behind
    complete_select_else pri no_alts ss l q m = absurd l
    complete_select_else pri (more_alts a alts) ss l q m =
        complete_value (ap (λ z. select_else pri (more_alts a z) (stmts_of (stmts_list ss))) (alts_same alts) ∙
        ap (λ z. select_else pri (more_alts a alts) z) (stmts_same ss))
        (complete_bind _ (complete_list (as_word OR) (complete_alt a l.0) (follow_alts a alts l.1) (run_alts a alts l.2))
        (λ rest k. (at_else_word, tail_else a alts q, refl, refl))
        (complete_take _ _ _ tt refl (complete_bind _ (complete_stmts ss m) (λ rest k. (at_end_word, refl)) (complete_next _ _ tt refl complete_pure))))

    -- an empty statement
    nothing_read : (rest : List Symbol) → Closer rest → stmt_with e s rest ≡ pure empty rest
    unfolding stmt_with stmt_second branch
    nothing_read rest at_semicolon = refl
    nothing_read rest at_end_word = refl
    nothing_read rest at_else_word = refl
    nothing_read rest at_or_word = refl
    nothing_read rest at_until = refl
    nothing_read rest at_forever = refl
    nothing_read rest at_coend = refl

    complete_empty : Complete n (stmt_with e s) [] [] empty Closer
    complete_empty = record { same = refl; reads = λ rest c. nothing_read rest c ∙ (complete_pure {n = n} {v = empty} {C = Closer}).reads rest c }

    -- one level deeper
    pub complete_stmt_with : (x : StmtShape) → IsLawfulStmt x → Complete (suc n) (stmt_with e s) (stmt_tokens x) (stmt_depths x) x (StmtEnds x)
    unfolding stmt_with stmt_second
    complete_stmt_with empty l = complete_less (λ rest c. c.0) (complete_up complete_empty)
    complete_stmt_with null l = complete_up (complete_take _ _ _ tt refl complete_pure)
    complete_stmt_with (block (body ss)) l =
        complete_up (complete_skip _ _ (λ rest c. refl) (complete_take _ _ _ tt refl (complete_last (λ z. block z) (complete_body_behind ss l) (λ rest c. tt))))
    complete_stmt_with (if_then c x) l =
        complete_up (complete_skip _ _ (λ rest c. refl) (complete_skip _ _ (λ rest c. refl) (complete_take _ _ _ tt refl (complete_if c x l.0 l.1))))
    complete_stmt_with (if_then_else c x y) l =
        complete_up (complete_skip _ _ (λ rest c. refl)
        (complete_skip _ _ (λ rest c. refl) (complete_take _ _ _ tt refl (complete_if_else c x y l.0 l.1 l.2 l.3))))
    complete_stmt_with (case_of c arms b) l =
        complete_up (complete_skip _ _ (λ rest c. refl)
        (complete_skip _ _ (λ rest c. refl)
        (complete_skip _ _ (λ rest c. refl) (complete_take _ _ _ tt refl (complete_less (λ rest c. tt) (complete_case c arms b l.0 l.1))))))
    complete_stmt_with (while_do c x) l =
        complete_up (complete_skip _ _ (λ rest c. refl)
        (complete_skip _ _ (λ rest c. refl)
        (complete_skip _ _ (λ rest c. refl) (complete_skip _ _ (λ rest c. refl) (complete_take _ _ _ tt refl (complete_while_do c x l.0 l.1))))))
    complete_stmt_with (repeat_until ss c) l =
        complete_up (complete_skip _ _ (λ rest c. refl)
        (complete_skip _ _ (λ rest c. refl)
        (complete_skip _ _ (λ rest c. refl)
        (complete_skip _ _ (λ rest c. refl) (complete_skip _ _ (λ rest c. refl) (complete_take _ _ _ tt refl (complete_repeat_until ss c l.0 l.1)))))))
    complete_stmt_with (repeat_forever ss) l =
        complete_up (complete_skip _ _ (λ rest c. refl)
        (complete_skip _ _ (λ rest c. refl)
        (complete_skip _ _ (λ rest c. refl)
        (complete_skip _ _ (λ rest c. refl)
        (complete_skip _ _ (λ rest c. refl) (complete_take _ _ _ tt refl (complete_less (λ rest c. tt) (complete_repeat_forever ss l))))))))
    complete_stmt_with (for_do x a d b y) l =
        complete_up (complete_skip _ _ (λ rest c. refl)
        (complete_skip _ _ (λ rest c. refl)
        (complete_skip _ _ (λ rest c. refl)
        (complete_skip _ _ (λ rest c. refl)
        (complete_skip _ _ (λ rest c. refl) (complete_skip _ _ (λ rest c. refl) (complete_take _ _ _ tt refl (complete_for x a b d y l.0 l.1 l.2))))))))
    complete_stmt_with (cobegin ss) l =
        complete_up (complete_skip _ _ (λ rest c. refl)
        (complete_skip _ _ (λ rest c. refl)
        (complete_skip _ _ (λ rest c. refl)
        (complete_skip _ _ (λ rest c. refl)
        (complete_skip _ _ (λ rest c. refl)
        (complete_skip _ _ (λ rest c. refl)
        (complete_skip _ _ (λ rest c. refl) (complete_take _ _ _ tt refl (complete_less (λ rest c. tt) (complete_cobegin ss l))))))))))
    complete_stmt_with (accepting a) l =
        complete_up (complete_skip _ _ (λ rest c. refl)
        (complete_skip _ _ (λ rest c. refl)
        (complete_skip _ _ (λ rest c. refl)
        (complete_skip _ _ (λ rest c. refl)
        (complete_skip _ _ (λ rest c. refl)
        (complete_skip _ _ (λ rest c. refl)
        (complete_skip _ _ (λ rest c. refl)
        (complete_skip _ _ (λ rest c. refl) (complete_take _ _ _ tt refl (complete_last (λ z. accepting z) (complete_accept a l) (λ rest c. c)))))))))))
    complete_stmt_with (requeue x args) l =
        complete_up (complete_skip _ _ (λ rest c. refl)
        (complete_skip _ _ (λ rest c. refl)
        (complete_skip _ _ (λ rest c. refl)
        (complete_skip _ _ (λ rest c. refl)
        (complete_skip _ _ (λ rest c. refl)
        (complete_skip _ _ (λ rest c. refl)
        (complete_skip _ _ (λ rest c. refl)
        (complete_skip _ _ (λ rest c. refl)
        (complete_skip _ _ (λ rest c. refl) (complete_take _ _ _ tt refl (complete_less (λ rest c. c.0) (complete_requeue x args l))))))))))))
    complete_stmt_with (select true alts) l =
        complete_up (complete_skip _ _ (λ rest c. refl)
        (complete_skip _ _ (λ rest c. refl)
        (complete_skip _ _ (λ rest c. refl)
        (complete_skip _ _ (λ rest c. refl)
        (complete_skip _ _ (λ rest c. refl)
        (complete_skip _ _ (λ rest c. refl)
        (complete_skip _ _ (λ rest c. refl)
        (complete_skip _ _ (λ rest c. refl)
        (complete_skip _ _ (λ rest c. refl)
        (complete_skip _ _ (λ rest c. refl)
        (complete_take _ _ _ tt refl (complete_next _ _ tt refl (complete_less (λ rest c. tt) (complete_select true alts l))))))))))))))
    complete_stmt_with (select false alts) l =
        complete_up (complete_skip _ _ (λ rest c. refl)
        (complete_skip _ _ (λ rest c. refl)
        (complete_skip _ _ (λ rest c. refl)
        (complete_skip _ _ (λ rest c. refl)
        (complete_skip _ _ (λ rest c. refl)
        (complete_skip _ _ (λ rest c. refl)
        (complete_skip _ _ (λ rest c. refl)
        (complete_skip _ _ (λ rest c. refl)
        (complete_skip _ _ (λ rest c. refl)
        (complete_skip _ _ (λ rest c. refl)
        (complete_skip _ _ (λ rest c. refl) (complete_take _ _ _ tt refl (complete_less (λ rest c. tt) (complete_select false alts l))))))))))))))
    complete_stmt_with (select_else true alts ss) l =
        complete_up (complete_skip _ _ (λ rest c. refl)
        (complete_skip _ _ (λ rest c. refl)
        (complete_skip _ _ (λ rest c. refl)
        (complete_skip _ _ (λ rest c. refl)
        (complete_skip _ _ (λ rest c. refl)
        (complete_skip _ _ (λ rest c. refl)
        (complete_skip _ _ (λ rest c. refl)
        (complete_skip _ _ (λ rest c. refl)
        (complete_skip _ _ (λ rest c. refl)
        (complete_skip _ _ (λ rest c. refl)
        (complete_take _ _ _ tt refl
        (complete_next _ _ tt refl (complete_same (sym (append_assoc (alts_tokens alts) (Word ELSE ∷ stmts_tokens ss) (Word END ∷ [])))
        (sym (append_assoc (alts_depths alts) (0 ∷ stmts_depths ss) (0 ∷ []))) refl
        (complete_less (λ rest c. tt) (complete_select_else true alts ss l.0 l.1 l.2)))))))))))))))
    complete_stmt_with (select_else false alts ss) l =
        complete_up (complete_skip _ _ (λ rest c. refl)
        (complete_skip _ _ (λ rest c. refl)
        (complete_skip _ _ (λ rest c. refl)
        (complete_skip _ _ (λ rest c. refl)
        (complete_skip _ _ (λ rest c. refl)
        (complete_skip _ _ (λ rest c. refl)
        (complete_skip _ _ (λ rest c. refl)
        (complete_skip _ _ (λ rest c. refl)
        (complete_skip _ _ (λ rest c. refl)
        (complete_skip _ _ (λ rest c. refl)
        (complete_skip _ _ (λ rest c. refl)
        (complete_take _ _ _ tt refl (complete_same (sym (append_assoc (alts_tokens alts) (Word ELSE ∷ stmts_tokens ss) (Word END ∷ [])))
        (sym (append_assoc (alts_depths alts) (0 ∷ stmts_depths ss) (0 ∷ []))) refl
        (complete_less (λ rest c. tt) (complete_select_else false alts ss l.0 l.1 l.2)))))))))))))))
    complete_stmt_with (assign (desig x ss) v) l =
        complete_up (complete_skip _ _ (λ rest c. refl)
        (complete_skip _ _ (λ rest c. refl)
        (complete_skip _ _ (λ rest c. refl)
        (complete_skip _ _ (λ rest c. refl)
        (complete_skip _ _ (λ rest c. refl)
        (complete_skip _ _ (λ rest c. refl)
        (complete_skip _ _ (λ rest c. refl)
        (complete_skip _ _ (λ rest c. refl)
        (complete_skip _ _ (λ rest c. refl)
        (complete_skip _ _ (λ rest c. refl)
        (complete_skip _ _ (λ rest c. refl) (complete_skip _ _ (λ rest c. refl) (complete_take _ _ _ x refl (complete_assign x ss v l.0 l.1))))))))))))))
    complete_stmt_with (send (desig x ss) v) l =
        complete_up (complete_skip _ _ (λ rest c. refl)
        (complete_skip _ _ (λ rest c. refl)
        (complete_skip _ _ (λ rest c. refl)
        (complete_skip _ _ (λ rest c. refl)
        (complete_skip _ _ (λ rest c. refl)
        (complete_skip _ _ (λ rest c. refl)
        (complete_skip _ _ (λ rest c. refl)
        (complete_skip _ _ (λ rest c. refl)
        (complete_skip _ _ (λ rest c. refl)
        (complete_skip _ _ (λ rest c. refl)
        (complete_skip _ _ (λ rest c. refl) (complete_skip _ _ (λ rest c. refl) (complete_take _ _ _ x refl (complete_send x ss v l.0 l.1))))))))))))))
    complete_stmt_with (receive (desig x ss) v) l =
        complete_up (complete_skip _ _ (λ rest c. refl)
        (complete_skip _ _ (λ rest c. refl)
        (complete_skip _ _ (λ rest c. refl)
        (complete_skip _ _ (λ rest c. refl)
        (complete_skip _ _ (λ rest c. refl)
        (complete_skip _ _ (λ rest c. refl)
        (complete_skip _ _ (λ rest c. refl)
        (complete_skip _ _ (λ rest c. refl)
        (complete_skip _ _ (λ rest c. refl)
        (complete_skip _ _ (λ rest c. refl)
        (complete_skip _ _ (λ rest c. refl)
        (complete_skip _ _ (λ rest c. refl) (complete_take _ _ _ x refl (complete_less (λ rest c. c.0) (complete_receive x ss v l.0 l.1)))))))))))))))
    complete_stmt_with (call (desig x ss) args) l =
        complete_up (complete_skip _ _ (λ rest c. refl)
        (complete_skip _ _ (λ rest c. refl)
        (complete_skip _ _ (λ rest c. refl)
        (complete_skip _ _ (λ rest c. refl)
        (complete_skip _ _ (λ rest c. refl)
        (complete_skip _ _ (λ rest c. refl)
        (complete_skip _ _ (λ rest c. refl)
        (complete_skip _ _ (λ rest c. refl)
        (complete_skip _ _ (λ rest c. refl)
        (complete_skip _ _ (λ rest c. refl)
        (complete_skip _ _ (λ rest c. refl)
        (complete_skip _ _ (λ rest c. refl) (complete_take _ _ _ x refl (complete_less (λ rest c. c.0) (complete_call x ss args l.0 l.1)))))))))))))))

-- Whatever the number of levels.
no_begin : (rest : List Symbol) → Closer rest → Lacks begins_stmt rest
no_begin rest at_semicolon = refl
no_begin rest at_end_word = refl
no_begin rest at_else_word = refl
no_begin rest at_or_word = refl
no_begin rest at_until = refl
no_begin rest at_forever = refl
no_begin rest at_coend = refl

abbrev Deep : StmtShape → List ℕ → Type 0
Deep x m = Complete 0 (choose begins_stmt stop_deep (pure empty)) (stmt_tokens x) (deeper m) x (StmtEnds x)

-- a statement that has a symbol halts where no level is left
deep_stmt : (x : StmtShape) (m : List ℕ) → Starts begins_stmt (stmt_tokens x) → length (deeper m) ≡ length (stmt_tokens x) → Deep x m
deep_stmt x m h k = complete_none begins_stmt (pure empty) (stmt_tokens x) m h k

pub complete_stmt_at : (n : ℕ) → ReadsStmts n (stmt_at n)
unfolding stmt_at
complete_stmt_at zero empty l = complete_less (λ rest c. c.0) (complete_pass begins_stmt stop_deep no_begin complete_pure)
complete_stmt_at zero null l = deep_stmt null (0 ∷ []) (starts refl) (stmt_even null)
complete_stmt_at zero (block (body ss)) l = deep_stmt (block (body ss)) (0 ∷ stmts_depths ss ++ 0 ∷ []) (starts refl) (stmt_even (block (body ss)))
complete_stmt_at zero (if_then e s) l = deep_stmt (if_then e s) (0 ∷ expr_depths e ++ 0 ∷ stmt_depths s) (starts refl) (stmt_even (if_then e s))
complete_stmt_at zero (if_then_else e s t) l = deep_stmt (if_then_else e s t) (0 ∷ expr_depths e ++ 0 ∷ stmt_depths s ++ 0 ∷ stmt_depths t)
    (starts refl) (stmt_even (if_then_else e s t))
complete_stmt_at zero (case_of e arms last) l =
    deep_stmt (case_of e arms last) (0 ∷ expr_depths e ++ 0 ∷ arms_depths arms ++ level (last_tokens last) ++ 0 ∷ [])
    (starts refl) (stmt_even (case_of e arms last))
complete_stmt_at zero (while_do e s) l = deep_stmt (while_do e s) (0 ∷ expr_depths e ++ 0 ∷ stmt_depths s) (starts refl) (stmt_even (while_do e s))
complete_stmt_at zero (repeat_until ss e) l = deep_stmt (repeat_until ss e) (0 ∷ stmts_depths ss ++ 0 ∷ expr_depths e)
    (starts refl) (stmt_even (repeat_until ss e))
complete_stmt_at zero (repeat_forever ss) l = deep_stmt (repeat_forever ss) (0 ∷ stmts_depths ss ++ 0 ∷ []) (starts refl) (stmt_even (repeat_forever ss))
complete_stmt_at zero (for_do x from down to s) l =
    deep_stmt (for_do x from down to s) (0 ∷ 0 ∷ 0 ∷ expr_depths from ++ 0 ∷ expr_depths to ++ 0 ∷ stmt_depths s)
    (starts refl) (stmt_even (for_do x from down to s))
complete_stmt_at zero (cobegin ss) l = deep_stmt (cobegin ss) (0 ∷ stmts_depths ss ++ 0 ∷ []) (starts refl) (stmt_even (cobegin ss))
complete_stmt_at zero (accepting a) l = deep_stmt (accepting a) (0 ∷ accept_depths a) (starts refl) (stmt_even (accepting a))
complete_stmt_at zero (requeue x args) l = deep_stmt (requeue x args) (0 ∷ 0 ∷ actuals_depths args) (starts refl) (stmt_even (requeue x args))
complete_stmt_at zero (select true alts) l = deep_stmt (select true alts) (level (pri_tokens true) ++ 0 ∷ alts_depths alts ++ 0 ∷ [])
    (starts refl) (stmt_even (select true alts))
complete_stmt_at zero (select false alts) l = deep_stmt (select false alts) (level (pri_tokens false) ++ 0 ∷ alts_depths alts ++ 0 ∷ [])
    (starts refl) (stmt_even (select false alts))
complete_stmt_at zero (select_else true alts ss) l =
    deep_stmt (select_else true alts ss) (level (pri_tokens true) ++ 0 ∷ alts_depths alts ++ 0 ∷ stmts_depths ss ++ 0 ∷ [])
    (starts refl) (stmt_even (select_else true alts ss))
complete_stmt_at zero (select_else false alts ss) l =
    deep_stmt (select_else false alts ss) (level (pri_tokens false) ++ 0 ∷ alts_depths alts ++ 0 ∷ stmts_depths ss ++ 0 ∷ []) (starts refl)
    (stmt_even (select_else false alts ss))
complete_stmt_at zero (assign (desig x ss) e) l = deep_stmt (assign (desig x ss) e) (desig_depths (desig x ss) ++ 0 ∷ expr_depths e)
    (starts refl) (stmt_even (assign (desig x ss) e))
complete_stmt_at zero (send (desig x ss) e) l = deep_stmt (send (desig x ss) e) (desig_depths (desig x ss) ++ 0 ∷ expr_depths e)
    (starts refl) (stmt_even (send (desig x ss) e))
complete_stmt_at zero (receive (desig x ss) v) l = deep_stmt (receive (desig x ss) v) (desig_depths (desig x ss) ++ 0 ∷ desig_depths v)
    (starts refl) (stmt_even (receive (desig x ss) v))
complete_stmt_at zero (call (desig x ss) args) l = deep_stmt (call (desig x ss) args) (desig_depths (desig x ss) ++ actuals_depths args)
    (starts refl) (stmt_even (call (desig x ss) args))
complete_stmt_at (suc n) x l = complete_stmt_with n (expr_at n) (complete_expr_at n) (stmt_at n) (complete_stmt_at n) x l
