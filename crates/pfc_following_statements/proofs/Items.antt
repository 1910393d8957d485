-- The code of `write` and of `read` follows the next action of its source text, and so do calls of subs and requeues.
use Rattle.std.proofs.Common.{◌≡◌, ℕ, suc, ◌+◌, ◌≤◌, ℤ, Bool, true, false, List, [], ◌∷◌, length, Option, Some, None, Result, Ok, Err, refl, sym, ap, ◌∙◌}
use Rattle.std.proofs.Common.{subst, arith}
use Rattle.std.proofs.lemmas.List.Elements.{All-nil}
use Rattle.pfc_base.specs.declared.faults.RunFault.{RunFault}
use Rattle.pfc_code.specs.declared.instructions.Instr.TheVariants.{REQ, WRNL, RDNL}
use Rattle.pfc_tree.specs.Symbols.{Text}
use Rattle.pfc_tree.specs.trees.Exprs.{ExprTree, DesigTree, ActualTree, ActualTrees, actual, actual_width, no_actuals, more_actuals}
use Rattle.pfc_types.specs.Scopes.{Level}
use Rattle.pfc_types.specs.Blocks.{sub_at, module_at}
use Rattle.pfc_types.specs.rules.Expressions.{as_desig, expr_type, desig_type}
use Rattle.pfc_types.specs.declared.types.TypeId.{TypeId}
use Rattle.pfc_types.specs.declared.view.Around.{Around}
use Rattle.pfc_values.specs.Pieces.{padded}
use Rattle.pfc_semantics.specs.Values.{ordinal}
use Rattle.pfc_semantics.specs.Objects.{module_number}
use Rattle.pfc_semantics.specs.Operators.{simple_of}
use Rattle.pfc_semantics.specs.Programs.{Block, block_number}
use Rattle.pfc_semantics.specs.Remainders.{Context, Remainder, Action, write_on, read_on, show, show_wide, pad, input_to, to_procedure, to_module, to_requeue}
use Rattle.pfc_semantics.specs.Remainders.{prints, inputs}
use Rattle.pfc_semantics.specs.Expressions.{from_expr, from_args}
use Rattle.pfc_semantics.specs.Statements.{as_string, item_of, from_piece, from_width, shown_as, from_string, from_wide_string, from_item, from_writes}
use Rattle.pfc_semantics.specs.Statements.{from_input, from_reads}
use Rattle.pfc_translation.specs.Sites.{Site}
use Rattle.pfc_translation.specs.Codes.{◌⨾◌, one, string}
use Rattle.pfc_translation.specs.Expressions.{expr_code, desig_code, args_code, call_instr}
use Rattle.pfc_translation.specs.Calls.{write_instr, read_instr, plain_item, wide_item, item_code, writes_code, input_code, reads_code, formals_cells}
use Rattle.pfc_translation.specs.Calls.{enter_instr, resource_of, sub_code}
use Rattle.pfc_standing_code.specs.Shapes.{a_number}
use Rattle.pfc_standing_code.specs.Settings.{Setting, of_own, AreOver, site_of, IsAt, Stands, arrived}
use Rattle.pfc_standing_code.specs.Typed.{ByName, FromOutside, HasShape}
use Rattle.pfc_standing_code.specs.TypedStatements.{IsItem, IsWritten, AreWritten, IsRead, AreRead, IsSubCall, IsSubRequeue}
use Rattle.pfc_standing_code.specs.Words.{IsChecked, none_held, IsLasting}
use Rattle.pfc_standing_code.specs.Performs.{Performs}
use Rattle.pfc_standing_code.specs.Awaits.{PadAt, of_number, of_string}
use Rattle.pfc_standing_code.specs.Following.{number, wide_number, string as piece_string, wide_string, newline, of_number_width, of_string_width, Follows}
use Rattle.pfc_standing_code.specs.Following.{arrives}
use Rattle.pfc_standing_code.proofs.Sizes.{sized_expr, sized_desig, sized_args, sized_item, sized_input}
use Rattle.pfc_following_expressions.proofs.Glue.{front, back, lone}
use Rattle.pfc_following_expressions.proofs.Held.{held_grown, expr_changes, desig_changes, args_change}
use Rattle.pfc_following_expressions.proofs.Moves.{follows_moved}
use Rattle.pfc_following_expressions.proofs.Expressions.{env_in}
use Rattle.pfc_following_expressions.proofs.Anywhere.{expression_follows, variable_follows, arguments_follow}
use Rattle.pfc_following_statements.proofs.HeldCalls.{item_changes, input_changes}

module _ (g : Setting) (b : Block) (names : List Level) (around : Around) (checked : IsChecked g b (env_in g names around)) (few : 0 ≤ g.arms)
    (own : g.trial ≡ of_own) (line : ℕ) where
  abbrev x : Context
  x = record { env = env_in g names around; line = line }

  abbrev s : Site
  s = site_of g b x

  moved : (at to : ℕ) (ops : List ℤ) (k : Remainder) → at ≡ to → Performs g b (env_in g names around) at ops [] k →
      Performs g b (env_in g names around) to ops [] k
  moved at to ops k e h = subst (λ (y : ℕ). Performs g b (env_in g names around) y ops [] k) e h

  -- ## Output

  pub shows : (t : Option TypeId) (k : Remainder) (v : ℤ) (at : ℕ) (ops : List ℤ) → IsAt g at (write_instr (simple_of t) 0) line →
      Performs g b x.env (at + 1) ops [] k → Follows g (prints x (shown_as t (ordinal v)) k) at (v ∷ ops) []
  shows t k v at ops is rest = arrives at (v ∷ ops) [] (b, checked, ((own, refl), (ops, number (simple_of t) v refl refl is, rest)))

  pub pad_follows : (bytes : List ℕ) (k : Remainder) (w : ℤ) (at : ℕ) (ops : List ℤ) →
      PadAt g line at ops bytes (λ below. Performs g b x.env (at + 1) below [] k) → Follows g (from_width x bytes k (ordinal w)) at (w ∷ ops) []
  pad_follows bytes k w at ops (of_number t n below e shape is rest) = by (padded w bytes) refl
    where
      by : (r : Result (List ℕ) RunFault) → padded w bytes ≡ r → Follows g (from_piece x k r) at (w ∷ ops) []
      by (Ok all) h =
          arrives at (w ∷ ops) [] (
            b,
            checked,
            (
              (own, refl),
              (below, wide_number t n w (ap (λ (y : List ℤ). w ∷ y) e) (ap (λ (y : List ℕ). padded w y) (sym shape) ∙ h) is, rest),
            ),
          )
      by (Err f) h = arrives at (w ∷ ops) [] (
        b,
        tt,
        of_number_width t n w below (ap (λ (y : List ℤ). w ∷ y) e)
            (ap (λ (y : List ℕ). padded w y) (sym shape) ∙ h) is,
      )
  pad_follows bytes k w at ops (of_string i text is rest) = by (padded w bytes) refl
    where
      by : (r : Result (List ℕ) RunFault) → padded w bytes ≡ r → Follows g (from_piece x k r) at (w ∷ ops) []
      by (Ok all) h = arrives at (w ∷ ops) [] (b, checked, ((own, refl), (ops, wide_string i w bytes refl text h is, rest)))
      by (Err f) h = arrives at (w ∷ ops) [] (b, tt, of_string_width i w bytes ops refl text h is)

  plain_follows :
      (y : Option Text) (e : ExprTree) (k : Remainder) (at n : ℕ) (ops : List ℤ)
      → IsItem s y e → Stands g at n (length ops) (plain_item s y e) → Performs g b x.env (at + (plain_item s y e).size) ops [] k →
      Follows g (from_string x y e k) at ops []
  plain_follows None e k at n ops is st rest =
      let t = expr_type s.env e in
      let code = expr_code s e in
      let i = write_instr (simple_of t) 0 in
      let mid = at + code.size in
      let last = back g code (one s i) (suc (length ops)) (sized_expr s e)
      (held_grown g.program code 1 (expr_changes s checked.sound e a_number is) at n (length ops) ∙ omega arith) st in
      let is_it = lone g s (λ at n. i) last in
      let after = moved (at + (code ⨾ one s i).size) (mid + 1) ops k (omega arith) rest in
      expression_follows g b x checked [] few e a_number is (show t k) (λ v. prints x (shown_as t v) k) at n ops (front g code (one s i) st)
      ((own, refl), (refl, is_it, after))
      (λ v simple. shows t k v mid ops is_it after)
  plain_follows (Some y) e k at n ops is st rest = arrives at ops [] (b, checked, ((own, refl), (ops, piece_string n refl st.texts.0 st.has.0, rest)))

  -- the width of a number that is known
  pub width_follows :
      (t : Option TypeId) (v : ℤ) (w : ExprTree) (k : Remainder) (at n : ℕ) (ops : List ℤ) → HasShape s w a_number
      → Stands g at n (suc (length ops)) (expr_code s w ⨾ one s (write_instr (simple_of t) 1)) →
      Performs g b x.env (at + (expr_code s w ⨾ one s (write_instr (simple_of t) 1)).size) ops [] k
      → Follows g (from_expr x w (pad (shown_as t (ordinal v)) k) (from_width x (shown_as t (ordinal v)) k)) at (v ∷ ops) []
  width_follows t v w k at n ops num st rest =
      let width = expr_code s w in
      let i = write_instr (simple_of t) 1 in
      let right = at + width.size in
      let last = back g width (one s i) (suc (suc (length ops))) (sized_expr s w)
      (held_grown g.program width 1 (expr_changes s checked.sound w a_number num) at n (suc (length ops)) ∙ omega arith) st in
      let after = moved (at + (width.size + 1)) (right + 1) ops k (omega arith) rest in
      let awaited : PadAt g line right (v ∷ ops) (shown_as t (ordinal v)) (λ below. Performs g b x.env (right + 1) below [] k) =
      of_number (simple_of t) v ops refl refl (lone g s (λ at n. i) last) after in
      expression_follows g b x checked [] few w a_number num (pad (shown_as t (ordinal v)) k)
      (from_width x (shown_as t (ordinal v)) k) at n (v ∷ ops) (front g width (one s i) st)
      ((own, refl), (refl, awaited))
      (λ c simple. pad_follows (shown_as t (ordinal v)) k c right (v ∷ ops) awaited)

  wide_follows :
      (y : Option Text) (e w : ExprTree) (k : Remainder) (at n : ℕ) (ops : List ℤ)
      → IsItem s y e → HasShape s w a_number → Stands g at n (length ops) (wide_item s y e w) → Performs g b x.env (at + (wide_item s y e w).size) ops [] k →
      Follows g (from_wide_string x y e w k) at ops []
  wide_follows None e w k at n ops is num st rest =
      let t = expr_type s.env e in
      let code = expr_code s e in
      let last = expr_code s w ⨾ one s (write_instr (simple_of t) 1) in
      let mid = at + code.size in
      let m = n + length code.texts in
      let behind = back g code last (suc (length ops)) (sized_expr s e)
      (held_grown g.program code 1 (expr_changes s checked.sound e a_number is) at n (length ops) ∙ omega arith) st in
      let after = moved (at + (code ⨾ last).size) (mid + last.size) ops k (omega arith) rest in
      expression_follows g b x checked [] few e a_number is (show_wide t w k) (λ v. from_expr x w (pad (shown_as t v) k)
      (from_width x (shown_as t v) k)) at n ops (front g code last st)
      ((own, refl), (refl, num, m, behind, after))
      (λ v simple. width_follows t v w k mid m ops num behind after)
  wide_follows (Some y) e w k at n ops is num st rest =
      let width = expr_code s w in
      let mid = at + width.size in
      let m = n + length width.texts in
      let last = back g width (string s y 1) (suc (length ops)) (sized_expr s w)
      (held_grown g.program width 1 (expr_changes s checked.sound w a_number num) at n (length ops) ∙ omega arith) st in
      let after = moved (at + (width ⨾ string s y 1).size) (mid + 1) ops k (omega arith) rest in
      let awaited : PadAt g line mid ops y (λ below. Performs g b x.env (mid + 1) below [] k) = of_string m last.texts.0 last.has.0 after in
      expression_follows g b x checked [] few w a_number num (pad y k) (from_width x y k) at n ops (front g width (string s y 1) st)
      ((own, refl), (refl, awaited))
      (λ c simple. pad_follows y k c mid ops awaited)

  item_follows :
      (a : ActualTree) (k : Remainder) (at n : ℕ) (ops : List ℤ) → IsWritten s a → Stands g at n (length ops) (item_code s a) →
      Performs g b x.env (at + (item_code s a).size) ops [] k → Follows g (from_item x a k) at ops []
  item_follows (actual e) k at n ops is st rest = plain_follows (as_string e) e k at n ops is st rest
  item_follows (actual_width e w) k at n ops is st rest = wide_follows (as_string e) e w k at n ops is.0 is.1 st rest

  pub writes_follow :
      (args : ActualTrees) (ends_line : Bool) (k : Remainder) (go : Action) (at n to : ℕ) (ops : List ℤ)
      → AreWritten s args → Stands g at n (length ops) (writes_code s args ends_line) →
      at + (writes_code s args ends_line).size ≡ to → Performs g b x.env to ops [] k
      → Follows g go to ops [] → Follows g (from_writes x args ends_line k go) at ops []
  writes_follow no_actuals true k go at n to ops is st ends rest on =
      arrives at ops [] (b, checked, ((own, refl), (ops, newline refl refl (lone g s (λ at n. WRNL) st), moved to (at + 1) ops k (sym ends) rest)))
  writes_follow no_actuals false k go at n to ops is st ends rest on = follows_moved g [] few to at (sym ends ∙ omega arith) on
  writes_follow (more_actuals a args) ends_line k go at n to ops is st ends rest on =
      let first = item_code s a in
      let others = writes_code s args ends_line in
      let mid = at + first.size in
      let behind = back g first others (length ops) (sized_item s a) (held_grown g.program first 0 (item_changes s checked.sound a is.0) at n (length ops) ∙
      omega arith) st in
      item_follows a (write_on line args ends_line k) at n ops is.0 (front g first others st)
      ((own, refl), (mid, arrived mid, (is.1, n + length first.texts, behind, moved to (mid + others.size) ops k (omega arith) rest)))

  -- ## Input

  input_follows :
      (d : Option DesigTree) (k : Remainder) (go : Action) (at n : ℕ) (ops : List ℤ) → IsRead s d → Stands g at n (length ops) (input_code s d) →
      Performs g b x.env (at + (input_code s d).size) ops [] k → Follows g (from_input x d k go) at ops []
  input_follows None k go at n ops is st rest = absurd is
  input_follows (Some d) k go at n ops is st rest =
      let t = desig_type s.env d in
      let code = desig_code s d in
      let i = read_instr (simple_of t) in
      let mid = at + code.size in
      let last = back g code (one s i) (suc (length ops)) (sized_desig s d)
      (held_grown g.program code 1 (desig_changes s checked.sound d (Some is.0) is.2) at n (length ops) ∙ omega arith) st in
      let is_it = lone g s (λ at n. i) last in
      let after = moved (at + (code ⨾ one s i).size) (mid + 1) ops k (omega arith) rest in
      variable_follows g b x checked own [] few d (Some is.0) is.2 (input_to t k) (λ v. tt) (λ l. inputs x t l.spot k) at n ops (front g code (one s i) st)
      ((own, refl), (is.0, refl, is.1, is_it, after))
      (λ l w lies. arrives mid (w ∷ ops) [] (b, checked, ((own, refl), (w, ops, refl, (is.0, is.1, lies), is_it, after))))

  pub reads_follow :
      (args : ActualTrees) (skip : Bool) (k : Remainder) (go : Action) (at n to : ℕ) (ops : List ℤ)
      → AreRead s args → Stands g at n (length ops) (reads_code s args skip) → at + (reads_code s args skip).size ≡ to → Performs g b x.env to ops [] k
      → Follows g go to ops [] → Follows g (from_reads x args skip k go) at ops []
  reads_follow no_actuals true k go at n to ops is st ends rest on =
      arrives at ops [] (b, checked, ((own, refl), (lone g s (λ at n. RDNL) st, moved to (at + 1) ops k (sym ends) rest)))
  reads_follow no_actuals false k go at n to ops is st ends rest on = follows_moved g [] few to at (sym ends ∙ omega arith) on
  reads_follow (more_actuals a args) skip k go at n to ops is st ends rest on =
      let d = as_desig (item_of a) in
      let first = input_code s d in
      let others = reads_code s args skip in
      let mid = at + first.size in
      let behind = back g first others (length ops) (sized_input s d) (held_grown g.program first 0 (input_changes s checked.sound d is.0) at n (length ops) ∙
      omega arith) st in
      input_follows d (read_on line args skip k) (from_reads x args skip k go) at n ops is.0 (front g first others st)
      ((own, refl), (mid, arrived mid, (is.1, n + length first.texts, behind, moved to (mid + others.size) ops k (omega arith) rest)))

  -- ## Calls

  -- of a procedure of the program, or of the own module
  pub sub_follows :
      (q : ℕ) (args : ActualTrees) (k : Remainder) (at n to : ℕ) (ops : List ℤ)
      → IsSubCall s ByName q args → Stands g at n (length ops) (sub_code s q args) → at + (sub_code s q args).size ≡ to → Performs g b x.env to ops [] k
      → Follows g (from_args x (sub_at g.program.state.blocks q).formals args [] (to_procedure (sub_at g.program.state.blocks q).scope k)) at ops []
  sub_follows q args k at n to ops is st ends rest =
      let sub = sub_at g.program.state.blocks q in
      let code = args_code s sub.formals args in
      let i = call_instr s sub in
      let w = formals_cells g.program.state.forms sub.formals in
      let last = back g code (one s i) (w + length ops) (sized_args s sub.formals args)
      (held_grown g.program code w (args_change s checked.sound sub.formals args is.1) at n (length ops)) st in
      arguments_follow g b x checked [] few args sub.formals is.1 [] [] (to_procedure sub.scope k) at n ops ops (none_held ops) (front g code (one s i) st)
      ((own, refl), (is.0.headed, is.0.taken, is.0.leaves, lone g s (λ at n. i) last, moved to (at + code.size + 1) ops k (omega arith) rest)) tt

  -- of an exported procedure, from outside its module
  pub exported_follows :
      (m q : ℕ) (args : ActualTrees) (k : Remainder) (at n to : ℕ) (ops : List ℤ)
      → (let sub = sub_at g.program.state.blocks q in
      let code = args_code s sub.formals args ⨾ one s (enter_instr (module_at g.program.state.blocks m).resource
      (module_number g.program.state.blocks m) (block_number g.program sub.scope)) in
      IsSubCall s (FromOutside g.program.state.blocks m) q args → Stands g at n (length ops) code → at + code.size ≡ to → Performs g b x.env to ops [] k
      → Follows g (from_args x sub.formals args [] (to_module m sub.scope k)) at ops [])
  exported_follows m q args k at n to ops is st ends rest =
      let sub = sub_at g.program.state.blocks q in
      let code = args_code s sub.formals args in
      let i = enter_instr (module_at g.program.state.blocks m).resource (module_number g.program.state.blocks m) (block_number g.program sub.scope) in
      let w = formals_cells g.program.state.forms sub.formals in
      let last = back g code (one s i) (w + length ops) (sized_args s sub.formals args)
      (held_grown g.program code w (args_change s checked.sound sub.formals args is.1) at n (length ops)) st in
      arguments_follow g b x checked [] few args sub.formals is.1 [] [] (to_module m sub.scope k) at n ops ops (none_held ops) (front g code (one s i) st)
      ((own, refl), (is.0.headed, is.0.taken, lone g s (λ at n. i) last, moved to (at + code.size + 1) ops k (omega arith) rest)) tt

  pub requeue_follows :
      (q : ℕ) (args : ActualTrees) (at n : ℕ) (ops : List ℤ)
      → (let sub = sub_at g.program.state.blocks q in
      let code = args_code s sub.formals args ⨾ one s (REQ (resource_of s) (block_number g.program sub.scope)) in
      IsSubRequeue s q args → AreOver g ops → Stands g at n (length ops) code →
      Follows g (from_args x sub.formals args [] (to_requeue sub.scope)) at ops [])
  requeue_follows q args at n ops is over st =
      let sub = sub_at g.program.state.blocks q in
      let code = args_code s sub.formals args in
      let i = REQ (resource_of s) (block_number g.program sub.scope) in
      let w = formals_cells g.program.state.forms sub.formals in
      let last = back g code (one s i) (w + length ops) (sized_args s sub.formals args)
      (held_grown g.program code w (args_change s checked.sound sub.formals args is.1) at n (length ops)) st in
      arguments_follow g b x checked [] few args sub.formals is.1 [] [] (to_requeue sub.scope) at n ops ops (none_held ops) (front g code (one s i) st)
      ((own, refl), (over, is.0.headed, is.0.taken, lone g s (λ at n. i) last)) (All-nil (IsLasting s), is.2)
