-- The forms of statements, each made part by part.
use Rattle.std.proofs.Common.{◌≡◌, ◌+◌, ◌-◌, ◌++◌, ℕ, true, [], ◌∷◌, length, Result, OnOk, IfOk, IfErr, refl, ap, arith}
use Rattle.std.proofs.lemmas.Result.{on_ok_weaker, IfOk-weaker, IfErr-weaker}
use Rattle.pfc_code.specs.declared.instructions.Instr.{Instr}
use Rattle.pfc_code.specs.declared.instructions.Instr.TheVariants.{NOT, JMP, JF, TURN, FORB, FORW, FORT}
use Rattle.pfc_tree.specs.trees.Exprs.{ExprTree}
use Rattle.pfc_tree.specs.trees.Stmts.{StmtTree}
use Rattle.pfc_types.specs.rules.Statements.{scopes_in}
use Rattle.pfc_translation.specs.Sites.{Site}
use Rattle.pfc_translation.specs.Codes.{Code, nothing, ◌⨾◌, one, over, back}
use Rattle.pfc_translation.specs.Expressions.{expr_code}
use Rattle.pfc_translation.specs.Statements.{stmt_code}
use Rattle.pfc_emit.specs.Addresses.{has_address, retargeted}
use Rattle.pfc_emit.specs.Patches.{has_address_at}
use Rattle.pfc_emit.specs.declared.emitter.EmitFault.{EmitFault}
use Rattle.pfc_emit.specs.declared.emitter.EmitFault.TheVariants.{Full}
use Rattle.pfc_emit.proofs.Patches.{length-patched}
use Rattle.pfc_expression_code.specs.Putting.{Made, IsMade, IsTooLarge}
use Rattle.pfc_expression_code.proofs.Joining.{made_both}
use Rattle.pfc_statement_code.specs.Forms as forms
use Rattle.pfc_statement_code.proofs.Making.{made_as, made_left3, made_alone, made_behind_nothing, made_back}
use Rattle.pfc_statement_code.proofs.Leading.{led, made_later, jump_led, passed, passed_then, last_has}

-- a jump with no code before it
pub alone_led :
    (s : Site) (i : Instr) (j : ℕ → Instr) (at t count : ℕ) (x y : Made) → IsMade (one s i) x y → at ≡ length x.code
    → ((n : ℕ) → retargeted i n ≡ j n) → t ≡ at + 1 + count → IsMade (over s j count) x (led y at t)
alone_led s i j at t count x y made here is leads =
    made_behind_nothing (over s j count) x (led y at t)
    (jump_led s i j nothing at t count x y (made_alone (one s i) x y made) (omega (arith, made.size, here)) is leads)

-- `if e then s`
pub if_then_made :
    (s : Site) (e c : Code) (at : ℕ) (x y z : Made) → IsMade (e ⨾ one s (JF 0)) x y → length y.code ≡ at + 1 → IsMade c y z
    → IsMade (e ⨾ over s JF c.size ⨾ c) x (led z at (length z.code))
if_then_made s e c at x y z test last inner =
    passed s (JF 0) JF e c at (length z.code) c.size x y z test last (λ n. refl) (omega (arith, last, inner.size)) inner

-- `if e then s else t`, up to the second jump
pub first_choice_made :
    (s : Site) (e c : Code) (at : ℕ) (x y z : Made) → IsMade (e ⨾ one s (JF 0)) x y → length y.code ≡ at + 1 → IsMade c y z
    → IsMade (e ⨾ over s JF (c.size + 1) ⨾ c) x (led z at (length z.code + 1))
first_choice_made s e c at x y z test last inner =
    passed s (JF 0) JF e c at (length z.code + 1) (c.size + 1) x y z test last (λ n. refl) (omega (arith, last, inner.size)) inner

-- the whole
module _ (q : Site) (e : ExprTree) (one two : StmtTree) (n : ℕ) where
  abbrev first : Code
  first = stmt_code q n one

  abbrev second : Code
  second = stmt_code q (n + scopes_in one) two

  pub choice_refused : (x : Made) → IsTooLarge (forms.first_choice q e first) x → IsTooLarge (forms.if_then_else q e first second) x
  choice_refused x large = omega (arith, large)

  pub choice_whole :
      (x y z : Made) → IsMade (forms.first_choice q e first) x y → IsMade (over q JMP second.size ⨾ second) y z
      → IsMade (forms.if_then_else q e first second) x z
  choice_whole x y z begun other =
      made_left3 (expr_code q e) (over q JF (first.size + 1)) first (over q JMP second.size ⨾ second) x z
      (made_both (forms.first_choice q e first) (over q JMP second.size ⨾ second) x y z begun other)

pub otherwise_made :
    (s : Site) (c : Code) (at : ℕ) (x y z : Made) → IsMade (one s (JMP 0)) x y → at ≡ length x.code → IsMade c y z
    → IsMade (over s JMP c.size ⨾ c) x (led z at (length z.code))
otherwise_made s c at x y z leap here inner =
    let t = length z.code in
    let next : length y.code ≡ at + 1 = omega (arith, leap.size, here) in
    made_both (over s JMP c.size) c x (led y at t) (led z at t)
    (alone_led s (JMP 0) JMP at t c.size x y leap here (λ n. refl) (omega (arith, next, inner.size)))
    (made_later c y z at t (omega (arith, next)) inner)

-- `while e do s`
pub while_made :
    (s : Site) (e c : Code) (at start : ℕ) (x y z w : Made) → start ≡ length x.code → IsMade (e ⨾ one s (JF 0)) x y → length y.code ≡ at + 1
    → IsMade c y z → IsMade (one s (TURN start)) (led z at (length z.code + 1)) w
    → IsMade (e ⨾ over s JF (c.size + 1) ⨾ c ⨾ back s TURN (e.size + 1 + c.size)) x w
while_made s e c at start x y z w begins test last inner turn =
    let t = length z.code + 1 in
    passed_then s (JF 0) JF e c (back s TURN (e.size + 1 + c.size)) at t (c.size + 1) x y z w test last (λ n. refl)
    (omega (arith, last, inner.size)) inner
    (made_back s TURN start (e.size + 1 + c.size) (led z at t) w turn
    (omega (arith, begins, test.size, inner.size, length-patched z.code at t)))

-- `repeat ss forever`
pub forever_made :
    (s : Site) (c : Code) (start : ℕ) (x y z : Made) → start ≡ length x.code → IsMade c x y → IsMade (one s (TURN start)) y z
    → IsMade (c ⨾ back s TURN c.size) x z
forever_made s c start x y z begins inner turn =
    made_both c (back s TURN c.size) x y z inner (made_back s TURN start c.size y z turn (omega (arith, begins, inner.size)))

-- `for x := a to b do s`, of which the variable's address is b0, and the bounds b1 and b2
pub for_made :
    (s : Site) (d : ℕ) (b0 b1 b2 c : Code) (at : ℕ) (x y v z w : Made) → IsMade ((b0 ⨾ b1 ⨾ b2) ⨾ one s (FORB d 0)) x y → length y.code ≡ at + 1
    → IsMade (one s FORW) y v → IsMade c v z → IsMade (one s (FORT d (at + 1))) (led z at (length z.code + 1)) w
    → IsMade (b0 ⨾ b1 ⨾ b2 ⨾ over s (λ n. FORB d n) (c.size + 2) ⨾ one s FORW ⨾ c ⨾ back s (λ n. FORT d n) (c.size + 1)) x w
for_made s d b0 b1 b2 c at x y v z w begin last pass inner turn =
    let t = length z.code + 1 in
    let rest = back s (λ n. FORT d n) (c.size + 1) in
    made_left3 b0 b1 b2 (over s (λ n. FORB d n) (c.size + 2) ⨾ one s FORW ⨾ c ⨾ rest) x w
    (passed_then s (FORB d 0) (λ n. FORB d n) (b0 ⨾ b1 ⨾ b2) (one s FORW) (c ⨾ rest) at t (c.size + 2) x y v w begin last (λ n. refl)
    (omega (arith, last, pass.size, inner.size)) pass
    (made_both c rest (led v at t) (led z at t) w (made_later c v z at t (omega (arith, last, pass.size)) inner)
    (made_back s (λ n. FORT d n) (at + 1) (c.size + 1) (led z at t) w turn
    (omega (arith, last, pass.size, inner.size, length-patched z.code at t)))))

-- `repeat ss until e`
pub repeat_made :
    (s : Site) (c e : Code) (start : ℕ) (x y z : Made) → start ≡ length x.code → IsMade c x y
    → IsMade (e ⨾ one s NOT ⨾ over s JF 1 ⨾ one s (TURN start)) y z
    → IsMade (c ⨾ e ⨾ one s NOT ⨾ over s JF 1 ⨾ back s TURN (c.size + e.size + 2)) x z
repeat_made s c e start x y z begins inner turn =
    let count = c.size + e.size + 2 in
    let at = length y.code in
    let n = length y.texts in
    let far : start ≡ at + e.size + 1 + 1 - count = omega (arith, begins, inner.size) in
    made_both c (e ⨾ one s NOT ⨾ over s JF 1 ⨾ back s TURN count) x y z inner
    (made_as (e ⨾ one s NOT ⨾ over s JF 1 ⨾ one s (TURN start)) (e ⨾ one s NOT ⨾ over s JF 1 ⨾ back s TURN count) y z turn
    (ap (λ k. e.put at n ++ ((NOT, s.line) ∷ (JF (at + e.size + 1 + 1 + 1), s.line) ∷ (TURN k, s.line) ∷ [])) far) refl refl refl)

-- a jump that is put has an address
pub alone_has :
    (s : Site) (i : Instr) (x y : Made) (at : ℕ) → IsMade (one s i) x y → at ≡ length x.code → has_address i ≡ true → has_address_at y.code at ≡ true
alone_has s i x y at made here has = last_has s nothing i x y at (made_alone (one s i) x y made) (omega (arith, made.size, here)) has

-- ## As it is told of a call

pub choice_made :
    {T : Type 0} (r : Result T EmitFault) (q : Site) (e : ExprTree) (one two : StmtTree) (n : ℕ) (x y z : Made)
    → IsMade (forms.first_choice q e (stmt_code q n one)) x y
    → OnOk r (IsMade (over q JMP (stmt_code q (n + scopes_in one) two).size ⨾ stmt_code q (n + scopes_in one) two) y z)
    → OnOk r (IsMade (forms.if_then_else q e (stmt_code q n one) (stmt_code q (n + scopes_in one) two)) x z)
choice_made r q e one two n x y z begun other =
    let behind = stmt_code q (n + scopes_in one) two in
    on_ok_weaker r (λ (made : IsMade (over q JMP behind.size ⨾ behind) y z). choice_whole q e one two n x y z begun made) other

pub choice_large :
    {T : Type 0} (r : Result T EmitFault) (q : Site) (e : ExprTree) (one two : StmtTree) (n : ℕ) (x y : Made)
    → IsMade (forms.first_choice q e (stmt_code q n one)) x y
    → IfErr r (λ fault. fault ≡ Full → IsTooLarge (over q JMP (stmt_code q (n + scopes_in one) two).size ⨾ stmt_code q (n + scopes_in one) two) y)
    → IfErr r (λ fault. fault ≡ Full → IsTooLarge (forms.if_then_else q e (stmt_code q n one) (stmt_code q (n + scopes_in one) two)) x)
choice_large r q e one two n x y begun other =
    let behind = stmt_code q (n + scopes_in one) two in
    IfErr-weaker r (λ fault. fault ≡ Full → IsTooLarge (over q JMP behind.size ⨾ behind) y)
    (λ fault. fault ≡ Full → IsTooLarge (forms.if_then_else q e (stmt_code q n one) behind) x)
    (λ fault large full. omega (arith, large full, begun.size)) other

pub choice_next :
    (r : Result ℕ EmitFault) (n a b next : ℕ) → next ≡ n + a → IfOk r (λ m. m ≡ next + b) → IfOk r (λ m. m ≡ n + (a + b))
choice_next r n a b next is told = IfOk-weaker r (λ m. m ≡ next + b) (λ m. m ≡ n + (a + b)) (λ m e. omega (arith, is, e)) told
