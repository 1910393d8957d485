-- The passes of a `for`: its bounds, its first pass, and the way to the next one.
use Rattle.std.proofs.Common.{◌≡◌, ℕ, suc, ◌+◌, ◌-◌, ◌≤◌, ℤ, pos, Bool, true, false, not, if◌then◌else◌, List, [], ◌∷◌, length, Some, refl, sym, ap, ◌∙◌, subst}
use Rattle.std.proofs.Common.{arith}
use Rattle.std.specs.Ordering.{int_eq}
use Rattle.pfc_base.specs.declared.places.Place.{Place}
use Rattle.pfc_code.specs.declared.instructions.Instr.TheVariants.{FORB, FORW, FORT}
use Rattle.pfc_tree.specs.Symbols.{Text}
use Rattle.pfc_tree.specs.trees.Exprs.{ExprTree}
use Rattle.pfc_tree.specs.trees.Stmts.{StmtTree, for_do}
use Rattle.pfc_types.specs.Scopes.{Level}
use Rattle.pfc_types.specs.rules.Expressions.{Env, find}
use Rattle.pfc_types.specs.declared.view.Around.{Around}
use Rattle.pfc_stacks.specs.Effects.{quiet, action, is_before, value_behind}
use Rattle.pfc_semantics.specs.Values.{ordinal, ordinal_of}
use Rattle.pfc_semantics.specs.Displays.{Spot, TypedSpot}
use Rattle.pfc_semantics.specs.Programs.{Block}
use Rattle.pfc_semantics.specs.Remainders.{Context, Count, Remainder, Action, behind_pass, next_pass, count_from, count_to, turns}
use Rattle.pfc_semantics.specs.Alternatives.{context}
use Rattle.pfc_semantics.specs.Expressions.{spot_of, from_expr}
use Rattle.pfc_semantics.specs.Statements.{is_past, counting, next_count, begin_pass, from_bounds, from_pass}
use Rattle.pfc_translation.specs.Sites.{Site}
use Rattle.pfc_translation.specs.Codes.{◌⨾◌, one, back as to_back}
use Rattle.pfc_translation.specs.Addresses.{base_code}
use Rattle.pfc_translation.specs.Expressions.{expr_code}
use Rattle.pfc_translation.specs.Statements.{stmt_code}
use Rattle.pfc_standing_code.specs.Shapes.{a_number}
use Rattle.pfc_standing_code.specs.Settings.{Setting, of_own, site_of, SeesAccepts, IsAt, Stands, arrived}
use Rattle.pfc_standing_code.specs.Effects.{of_own_effect, effect_of}
use Rattle.pfc_standing_code.specs.Typed.{HasShape}
use Rattle.pfc_standing_code.specs.TypedStatements.{IsTyped}
use Rattle.pfc_standing_code.specs.Words.{first_word, IsSimpleWord, IsChecked}
use Rattle.pfc_standing_code.specs.Performs.{StmtAt, HoldsCount, direction, HasPass, Performs}
use Rattle.pfc_standing_code.specs.Awaits.{pass_code}
use Rattle.pfc_standing_code.specs.Following.{of_kept, of_count, Follows, arrives}
use Rattle.pfc_standing_code.proofs.Sizes.{sized_base, sized_expr, sized_stmt}
use Rattle.pfc_following_expressions.proofs.Glue.{room_for, front, back, head, lone, tail}
use Rattle.pfc_following_expressions.proofs.Held.{held_grown, base_changes, expr_changes}
use Rattle.pfc_following_expressions.proofs.Moves.{fits, move, next_move, follows_moved}
use Rattle.pfc_following_expressions.proofs.Expressions.{env_in, whole_part, base_follows}
use Rattle.pfc_following_expressions.proofs.Anywhere.{expression_follows}
use Rattle.pfc_following_statements.proofs.HeldStatements.{stmt_changes}
use Rattle.pfc_following_source.specs.structures.Structured.{StatementFollows}
use Rattle.pfc_following_source.proofs.structures.Ranges.{past_alike, next_alike, before_or_last, next_is_within}
use Rattle.pfc_following_source.proofs.structures.Compound.{again_left}

module _ (g : Setting) (b : Block) (names : List Level) (around : Around) (checked : IsChecked g b (env_in g names around)) (few : 0 ≤ g.arms)
    (own : g.trial ≡ of_own) where
  abbrev env : Env
  env = env_in g names around

  abbrev site : ℕ → Site
  site line = site_of g b (record { env = env_in g names around; line = line })

  abbrev left : ℕ → List ℤ → Remainder → Type 0
  left at ops k = Performs g b (env_in g names around) at ops [] k

  moved : (at to : ℕ) (ops : List ℤ) (k : Remainder) → at ≡ to → left at ops k → left to ops k
  moved at to ops k e h = subst (λ (y : ℕ). Performs g b (env_in g names around) y ops [] k) e h

  -- how many instructions the statement of a pass has
  abbrev inside : Count → ℕ
  inside f = (stmt_code (site f.line) f.next f.pass).size

  -- ## Passes

  pub first_pass :
      (f : Count) (k : Remainder) (at n : ℕ) (ops below : List ℤ)
      → HoldsCount g (site f.line) f ops below → HasPass g (site f.line) f at n (length ops) → left (at + 1 + inside f + 1) below k →
      Follows g (begin_pass (context env f.line) f k) at ops []
  first_pass f k at n ops below holds pass rest =
      let q = at + 1 + inside f in
      let behind : left q ops (behind_pass f k) = ((own, refl), (q, arrived q, (at, n, below, holds, pass, refl, rest))) in
      arrives at ops [] (
        b,
        checked,
        (
          own,
          of_kept f.last f.kept holds.w below refl holds.held refl holds.lies pass.write
              (again_left g b names around checked few own f.line f.next f.pass (behind_pass f k) (at + 1) n ops pass.inner behind),
        ),
      )

  -- behind the statement of a pass
  pub behind_follows :
      (f : Count) (k : Remainder) (go : Action) (a n : ℕ) (ops below : List ℤ)
      → HoldsCount g (site f.line) f ops below → HasPass g (site f.line) f a n (length ops) → left (a + 1 + inside f + 1) below k
      → Follows g go (a + 1 + inside f + 1) below [] → Follows g (from_pass (context env f.line) f k go) (a + 1 + inside f) ops []
  behind_follows f k go a n ops below holds pass rest on = by (int_eq f.kept f.last) refl
    where
      by : (r : Bool) → int_eq f.kept f.last ≡ r →
          Follows g (if r then go else turns (context env f.line) (next_pass (next_count f) k)) (a + 1 + inside f) ops []
      by true e =
          let d = direction f.down in
          let at = a + 1 + inside f in
          let held = ap (λ (y : List ℤ). length y) holds.held in
          let before : is_before d f.kept f.last ≡ false = before_or_last f.down f.kept f.last holds.within ∙ ap not e in
          let room : length below ≤ g.room = (let all = room_for g pass.inner.code in omega arith) in
          next_move g [] few at ops (FORT d a) f.line below pass.back (fits g [] (FORT d a) ops (omega arith) tt tt)
          (ap (λ (y : List ℤ). effect_of g (FORT d a) at y []) holds.held ∙
          ap (λ (r : Bool). of_own_effect (if r then
          action a (f.last ∷ value_behind d f.kept ∷ holds.w ∷ below) else quiet (at + 1) below) []) before) room on
      by false e =
          let d = direction f.down in
          let at = a + 1 + inside f in
          let before : is_before d f.kept f.last ≡ true = before_or_last f.down f.kept f.last holds.within ∙ ap not e in
          let left_over = f.last ∷ value_behind d f.kept ∷ holds.w ∷ below in
          let counts : HoldsCount g (site f.line) (next_count f) left_over below = record {
            w = holds.w;
            held = ap (λ (y : ℤ). f.last ∷ y ∷ holds.w ∷ below) (next_alike f.down f.kept);
            lies = holds.lies;
            within = next_is_within f.down f.kept f.last before;
          } in
          let same : length ops ≡ length left_over = ap (λ (y : List ℤ). length y) holds.held in
          let inner : StmtAt g (site f.line) (a + 1) n (length left_over) f.next f.pass =
          subst (λ (y : ℕ). StmtAt g (site f.line) (a + 1) n y f.next f.pass) same pass.inner in
          let again_pass : HasPass g (site f.line) (next_count f) a n (length left_over) = record { write = pass.write; inner = inner; back = pass.back } in
          arrives at ops [] (
            b,
            checked,
            (
              (own, refl),
              of_count d a f.last f.kept holds.w below holds.held before pass.back
                  ((own, refl), (a, arrived a, (n, below, counts, again_pass, rest))),
            ),
          )

  -- ## Bounds

  -- the test of both bounds, and a pass
  pass_parts :
      (f : Count) (at n held : ℕ) → 3 ≤ held → IsTyped (site f.line) f.next f.pass → SeesAccepts g (site f.line)
      → Stands g at n held (pass_code (site f.line) f.down f.next f.pass)
      → IsAt g at (FORB (direction f.down) (at + 1 + (inside f + 2))) f.line × ((i : ℕ) × HasPass g (site f.line) f (at + 1) i held)
  pass_parts f at n held many typed accepts st =
      let s = site f.line in
      let d = direction f.down in
      let inner = stmt_code s f.next f.pass in
      let turn = to_back s (λ to. FORT d to) (inner.size + 1) in
      let second = tail g s (λ at k. FORB d (at + 1 + (inner.size + 2))) (one s FORW ⨾ inner ⨾ turn) held (omega arith) st in
      let third = tail g s (λ at k. FORW) (inner ⨾ turn) held (omega arith) second in
      let fourth = back g inner turn held (sized_stmt s f.next f.pass) (held_grown g.program inner 0 (stmt_changes f.pass s f.next checked.sound typed)
      (at + 1 + 1) (n + 0 + 0) held ∙ omega arith) third in
      let back_to : at + 1 + 1 + inner.size - (inner.size + 1) ≡ at + 1 = omega arith in (
        head g s (λ at k. FORB d (at + 1 + (inner.size + 2))) (one s FORW ⨾ inner ⨾ turn) st,
        (
          n + 0 + 0,
          record {
            write = head g s (λ at k. FORW) (inner ⨾ turn) second;
            inner = record { typed = typed; code = front g inner turn third; accepts = accepts };
            back = subst (λ (z : ℕ). IsAt g (at + 1 + 1 + inner.size) (FORT d z) f.line) back_to (lone g s (λ at k. FORT d (at - (inner.size + 1))) fourth);
          },
        ),
      )

  -- both bounds are held
  pub bounds_follow :
      (f : Count) (k : Remainder) (go : Action) (w : ℤ) (at n to : ℕ) (ops : List ℤ)
      → IsSimpleWord g.view (site f.line) f.at w → IsTyped (site f.line) f.next f.pass → SeesAccepts g (site f.line)
      → Stands g at n (suc (suc (suc (length ops)))) (pass_code (site f.line) f.down f.next f.pass)
      → at + (pass_code (site f.line) f.down f.next f.pass).size ≡ to → left to ops k → Follows g go to ops []
      → Follows g (from_bounds (context env f.line) f k go) at (f.last ∷ f.kept ∷ w ∷ ops) []
  bounds_follow f k go w at n to ops lies typed accepts st whole_end rest on = by (is_past f.down f.kept f.last) refl
    where
      by : (r : Bool) → is_past f.down f.kept f.last ≡ r → Follows g (if r then go else begin_pass (context env f.line) f k) at (f.last ∷ f.kept ∷ w ∷ ops) []
      by true past =
          let d = direction f.down in
          let end = at + 1 + (inside f + 2) in
          let all = f.last ∷ f.kept ∷ w ∷ ops in
          let parts = pass_parts f at n (suc (suc (suc (length ops)))) (omega arith) typed accepts st in
          let room : length ops ≤ g.room = (let most = room_for g st in omega arith) in
          let ended : to ≡ end = omega arith in
          move g [] few at all (FORB d end) f.line end ops parts.0 (fits g [] (FORB d end) all (omega arith) tt tt)
          (ap (λ (r : Bool). of_own_effect (if r then quiet end ops else quiet (at + 1) all) []) (past_alike f.down f.kept f.last ∙ past)) (omega arith) room
          (follows_moved g [] few to end ended on)
      by false past =
          let d = direction f.down in
          let end = at + 1 + (inside f + 2) in
          let all = f.last ∷ f.kept ∷ w ∷ ops in
          let parts = pass_parts f at n (suc (suc (suc (length ops)))) (omega arith) typed accepts st in
          let holds : HoldsCount g (site f.line) f all ops = record { w = w; held = refl; lies = lies; within = past } in
          let ended : to ≡ at + 1 + 1 + inside f + 1 = omega arith in
          next_move g [] few at all (FORB d end) f.line all parts.0 (fits g [] (FORB d end) all (omega arith) tt tt)
          (ap (λ (r : Bool). of_own_effect (if r then quiet end ops else quiet (at + 1) all) []) (past_alike f.down f.kept f.last ∙ past)) (room_for g st)
          (first_pass f k (at + 1) parts.1.0 all ops holds parts.1.1 (moved to (at + 1 + 1 + inside f + 1) ops k ended rest))

  -- the first bound is held
  pub second_follows :
      (line m : ℕ) (v : Spot) (kept w : ℤ) (down : Bool) (e : ExprTree) (t : StmtTree) (k : Remainder) (go : Action) (at n to : ℕ) (ops : List ℤ)
      → IsSimpleWord g.view (site line) v w → HasShape (site line) e a_number → IsTyped (site line) m t → SeesAccepts g (site line)
      → Stands g at n (suc (suc (length ops))) (expr_code (site line) e ⨾ pass_code (site line) down m t) →
      at + (expr_code (site line) e ⨾ pass_code (site line) down m t).size ≡ to
      → left to ops k → Follows g go to ops []
      → Follows g (from_expr (context env line) e (count_to m v kept down t k)
      (λ last. from_bounds (context env line) (counting (context env line) m v (ordinal kept) last down t) k go)) at (kept ∷ w ∷ ops) []
  second_follows line m v kept w down e t k go at n to ops lies num typed accepts st whole_end rest on =
      let s = site line in
      let x : Context = record { env = env_in g names around; line = line } in
      let code = expr_code s e in
      let pass = pass_code s down m t in
      let mid = at + code.size in
      let i = n + length code.texts in
      let behind = back g code pass (suc (suc (suc (length ops)))) (sized_expr s e)
      (held_grown g.program code 1 (expr_changes s checked.sound e a_number num) at n (suc (suc (length ops))) ∙ omega arith) st in
      let end : mid + pass.size ≡ to = omega arith in
      expression_follows g b x checked [] few e a_number num (count_to m v kept down t k)
      (λ last. from_bounds x (counting x m v (ordinal kept) last down t) k go) at n (kept ∷ w ∷ ops) (front g code pass st)
      ((own, refl), (refl, w, ops, refl, lies, typed, i, behind, moved to (mid + pass.size) ops k (sym end) rest, accepts))
      (λ last simple. bounds_follow (counting x m v (ordinal kept) (ordinal last) down t) k go w mid i to ops lies typed accepts behind end rest on)

  pub for_follows : (y : Text) (from : ExprTree) (down : Bool) (last : ExprTree) (t : StmtTree) (p q : Place) →
      StatementFollows g b env (for_do y from down last t p q)
  for_follows y from down last t p q line m k go at n to ops is whole_end rest on =
      let s = site p.line in
      let x : Context = record { env = env_in g names around; line = p.line } in
      let v : TypedSpot = record { spot = (spot_of (env_in g names around) (find (env_in g names around) y)).spot; t = Some is.typed.0.0 } in
      let base = base_code s v.spot in
      let w = pos (first_word g.view s v.spot) in
      let lower = expr_code s from in
      let others = expr_code s last ⨾ pass_code s down m t in
      let mid = at + 1 + lower.size in
      let i = n + length base.texts in
      let j = i + length lower.texts in
      let lies : IsSimpleWord g.view s v.spot w = (is.typed.0.0, is.typed.0.1, whole_part g b names around checked p.line [] few v is.typed.0.2) in
      let behind = back g base (lower ⨾ others) (suc (length ops)) (sized_base s v.spot)
      (held_grown g.program base 1 (base_changes g.program s v.spot) at n (length ops) ∙ omega arith) is.code in
      let third = back g lower others (suc (suc (length ops))) (sized_expr s from)
      (held_grown g.program lower 1 (expr_changes s checked.sound from a_number is.typed.1) (at + 1) i (suc (length ops)) ∙ omega arith) behind in
      let end : mid + others.size ≡ to = omega arith in
      base_follows g b names around checked p.line [] few v at n ops is.typed.0.2 (front g base (lower ⨾ others) is.code)
      (expression_follows g b x checked [] few from a_number is.typed.1 (count_from m v.spot down last t k)
      (λ kept. from_expr x last (count_to m v.spot (ordinal_of kept) down t k) (λ most. from_bounds x (counting x m v.spot kept most down t) k go)) (at + 1) i
      (w ∷ ops) (front g lower others behind)
      ((own, refl), (refl, w, ops, refl, lies, is.typed.2, is.typed.3, j, third, moved to (mid + others.size) ops k (sym end) rest, is.accepts))
      (λ kept simple. second_follows p.line m v.spot kept w down last t k go mid j to ops lies is.typed.2 is.typed.3 is.accepts third end rest on))
